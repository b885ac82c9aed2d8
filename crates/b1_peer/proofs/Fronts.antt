-- What stands at the front of a queue, and what is so once it left.
use Rattle.std.proofs.Common.{◌≡◌, refl, sym, ap, ◌∙◌, subst, ℕ, Bool, true, false, List, [], ◌∷◌, drop, Some, None}
use Rattle.std.specs.Prelude.{slice_get}
use Rattle.b1_model.specs.declared.naming.Key.{Key}
use Rattle.b1_model.specs.declared.naming.NodeRef.{NodeRef}
use Rattle.b1_model.specs.declared.entries.Entry.{Entry}
use Rattle.b1_model.specs.declared.entries.Entry.TheVariants.{Message, OwnNotice, ForeignNotice, ReleaseNotice}
use Rattle.b1_model.specs.MachineParts.{is_data, is_odd, is_staged}
use Rattle.b1_inv_peer.specs.Changes.{Removes}
use Rattle.b1_inv_peer.proofs.QueueEvents.{removes_front}
use Rattle.b1_peer.specs.declared.front.Kind.TheVariants as kind
use Rattle.b1_peer.specs.Fronts.{kind_by, kind_of}

abbrev Queue : Type 0
Queue = List (Key × Entry)

-- ---- the front of a queue

pub front_is : (queue : Queue) (f : Key × Entry) → Some f ≡ slice_get queue 0 → queue ≡ f ∷ drop 1 queue
front_is [] f is = absurd (cc is)
front_is (g ∷ rest) f is = let same : f ≡ g = cc is in ap (λ x. x ∷ rest) (sym same)

pub front_none : (queue : Queue) → None ≡ slice_get queue 0 → queue ≡ []
front_none [] is = refl
front_none (g ∷ rest) is = absurd (cc is)

pub front_removed : (queue : Queue) (f : Key × Entry) → Some f ≡ slice_get queue 0 → Removes queue (drop 1 queue) f
front_removed queue f is = subst (λ q. Removes q (drop 1 q) f) (sym (front_is queue f is)) (removes_front f (drop 1 queue))

-- ---- kinds tell what stands there

kind_staged : (k : Key) (e : Entry) → kind_by true k e ≡ kind.Staged k.origin k.stamp
kind_staged k e = refl

-- a message at the front
pub message_front : (queue : Queue) (serial : ℕ) (f : Key × Entry) → kind_of queue ≡ kind.Message serial → Some f ≡ slice_get queue 0 → (is_data f.1 ≡ true) × (is_staged f ≡ false)
message_front queue serial f is front = at (is_odd f.0.stamp) refl f.1 (sym (ap kind_of (front_is queue f front)) ∙ is)
  where
    at : (b : Bool) → is_odd f.0.stamp ≡ b → (e : Entry) → kind_by (is_odd f.0.stamp) f.0 e ≡ kind.Message serial → (is_data e ≡ true) × (is_staged f ≡ false)
    at true odd e here = let impossible : kind.Staged f.0.origin f.0.stamp ≡ kind.Message serial = sym (ap (λ b. kind_by b f.0 e) odd) ∙ here in absurd (cc impossible)
    at false even (Message origin user index dest offset len nodes slots handles payload) here = (refl, even)
    at false even (OwnNotice mine index) here = let impossible : kind.Own mine ≡ kind.Message serial = sym (ap (λ b. kind_by b f.0 (OwnNotice mine index)) even) ∙ here in absurd (cc impossible)
    at false even (ForeignNotice node index) here = let impossible : kind.Foreign node ≡ kind.Message serial = sym (ap (λ b. kind_by b f.0 (ForeignNotice node index)) even) ∙ here in absurd (cc impossible)
    at false even (ReleaseNotice mine) here = let impossible : kind.Release mine ≡ kind.Message serial = sym (ap (λ b. kind_by b f.0 (ReleaseNotice mine)) even) ∙ here in absurd (cc impossible)

-- the destroy notice of another peer's node
pub foreign_front : (queue : Queue) (node : NodeRef) (f : Key × Entry) → kind_of queue ≡ kind.Foreign node → Some f ≡ slice_get queue 0 → (index : ℕ) × (f ≡ (f.0, ForeignNotice node index)) × (is_staged f ≡ false)
foreign_front queue node f is front = at (is_odd f.0.stamp) refl f.1 refl (sym (ap kind_of (front_is queue f front)) ∙ is)
  where
    at : (b : Bool) → is_odd f.0.stamp ≡ b → (e : Entry) → f.1 ≡ e → kind_by (is_odd f.0.stamp) f.0 e ≡ kind.Foreign node → (index : ℕ) × (f ≡ (f.0, ForeignNotice node index)) × (is_staged f ≡ false)
    at true odd e same here = let impossible : kind.Staged f.0.origin f.0.stamp ≡ kind.Foreign node = sym (ap (λ b. kind_by b f.0 e) odd) ∙ here in absurd (cc impossible)
    at false even (Message origin user index dest offset len nodes slots handles payload) same here = let impossible : kind.Message dest ≡ kind.Foreign node = sym (ap (λ b. kind_by b f.0 (Message origin user index dest offset len nodes slots handles payload)) even) ∙ here in absurd (cc impossible)
    at false even (OwnNotice mine index) same here = let impossible : kind.Own mine ≡ kind.Foreign node = sym (ap (λ b. kind_by b f.0 (OwnNotice mine index)) even) ∙ here in absurd (cc impossible)
    at false even (ForeignNotice other index) same here =
        let told : kind.Foreign other ≡ kind.Foreign node = sym (ap (λ b. kind_by b f.0 (ForeignNotice other index)) even) ∙ here in
        let is_node : other ≡ node = cc told in
        (index, ap {A = Entry} {B = Key × Entry} (λ e. (f.0, e)) (same ∙ ap (λ n. ForeignNotice n index) is_node), even)
    at false even (ReleaseNotice mine) same here = let impossible : kind.Release mine ≡ kind.Foreign node = sym (ap (λ b. kind_by b f.0 (ReleaseNotice mine)) even) ∙ here in absurd (cc impossible)

pub own_front : (queue : Queue) (serial : ℕ) (f : Key × Entry) → kind_of queue ≡ kind.Own serial → Some f ≡ slice_get queue 0 → (index : ℕ) × (f ≡ (f.0, OwnNotice serial index)) × (is_staged f ≡ false)
own_front queue serial f is front = at (is_odd f.0.stamp) refl f.1 refl (sym (ap kind_of (front_is queue f front)) ∙ is)
  where
    at : (b : Bool) → is_odd f.0.stamp ≡ b → (e : Entry) → f.1 ≡ e → kind_by (is_odd f.0.stamp) f.0 e ≡ kind.Own serial → (index : ℕ) × (f ≡ (f.0, OwnNotice serial index)) × (is_staged f ≡ false)
    at true odd e same here = let impossible : kind.Staged f.0.origin f.0.stamp ≡ kind.Own serial = sym (ap (λ b. kind_by b f.0 e) odd) ∙ here in absurd (cc impossible)
    at false even (Message origin user index dest offset len nodes slots handles payload) same here = let impossible : kind.Message dest ≡ kind.Own serial = sym (ap (λ b. kind_by b f.0 (Message origin user index dest offset len nodes slots handles payload)) even) ∙ here in absurd (cc impossible)
    at false even (OwnNotice mine index) same here =
        let told : kind.Own mine ≡ kind.Own serial = sym (ap (λ b. kind_by b f.0 (OwnNotice mine index)) even) ∙ here in
        let is_serial : mine ≡ serial = cc told in
        (index, ap {A = Entry} {B = Key × Entry} (λ e. (f.0, e)) (same ∙ ap (λ n. OwnNotice n index) is_serial), even)
    at false even (ForeignNotice node index) same here = let impossible : kind.Foreign node ≡ kind.Own serial = sym (ap (λ b. kind_by b f.0 (ForeignNotice node index)) even) ∙ here in absurd (cc impossible)
    at false even (ReleaseNotice mine) same here = let impossible : kind.Release mine ≡ kind.Own serial = sym (ap (λ b. kind_by b f.0 (ReleaseNotice mine)) even) ∙ here in absurd (cc impossible)

pub release_front : (queue : Queue) (serial : ℕ) (f : Key × Entry) → kind_of queue ≡ kind.Release serial → Some f ≡ slice_get queue 0 → (f ≡ (f.0, ReleaseNotice serial)) × (is_staged f ≡ false)
release_front queue serial f is front = at (is_odd f.0.stamp) refl f.1 refl (sym (ap kind_of (front_is queue f front)) ∙ is)
  where
    at : (b : Bool) → is_odd f.0.stamp ≡ b → (e : Entry) → f.1 ≡ e → kind_by (is_odd f.0.stamp) f.0 e ≡ kind.Release serial → (f ≡ (f.0, ReleaseNotice serial)) × (is_staged f ≡ false)
    at true odd e same here = let impossible : kind.Staged f.0.origin f.0.stamp ≡ kind.Release serial = sym (ap (λ b. kind_by b f.0 e) odd) ∙ here in absurd (cc impossible)
    at false even (Message origin user index dest offset len nodes slots handles payload) same here = let impossible : kind.Message dest ≡ kind.Release serial = sym (ap (λ b. kind_by b f.0 (Message origin user index dest offset len nodes slots handles payload)) even) ∙ here in absurd (cc impossible)
    at false even (OwnNotice mine index) same here = let impossible : kind.Own mine ≡ kind.Release serial = sym (ap (λ b. kind_by b f.0 (OwnNotice mine index)) even) ∙ here in absurd (cc impossible)
    at false even (ForeignNotice node index) same here = let impossible : kind.Foreign node ≡ kind.Release serial = sym (ap (λ b. kind_by b f.0 (ForeignNotice node index)) even) ∙ here in absurd (cc impossible)
    at false even (ReleaseNotice mine) same here =
        let told : kind.Release mine ≡ kind.Release serial = sym (ap (λ b. kind_by b f.0 (ReleaseNotice mine)) even) ∙ here in
        let is_serial : mine ≡ serial = cc told in
        (ap {A = Entry} {B = Key × Entry} (λ e. (f.0, e)) (same ∙ ap (λ n. ReleaseNotice n) is_serial), even)
