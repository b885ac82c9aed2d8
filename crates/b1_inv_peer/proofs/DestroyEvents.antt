-- What the notices of a destruction need of a queue, one doomed node after another.
use Rattle.std.proofs.Common.{◌≡◌, ◌≢◌, refl, sym, ap, ◌∙◌, subst, ℕ, Bool, true, false, cond, not, List, [], ◌∷◌, Option, Some, None, ◌==◌}
use Rattle.std.proofs.lemmas.Bool.{eqb-true}
use Rattle.b1_model.specs.declared.naming.Key.{Key}
use Rattle.b1_model.specs.declared.entries.Entry.{Entry}
use Rattle.b1_model.specs.declared.entries.Entry.TheVariants.{Message, OwnNotice, ForeignNotice, ReleaseNotice}
use Rattle.b1_model.specs.declared.naming.NodeRef.{NodeRef}
use Rattle.b1_model.specs.MachineParts.{NodePart, HandleRecord, is_live, same_ref, record_of, key_before, is_release_notice}
use Rattle.b1_model.specs.MachineTables.{is_needed, put, without, changed, noticed}
use Rattle.b1_step.specs.Rights.{Has}
use Rattle.b1_step.specs.Ordered.{NewKey}
use Rattle.b1_step.proofs.Queues.{without_has}
use Rattle.b1_inv_peer.specs.PeerOk.{count, is_notice_of, NoticeOk}
use Rattle.b1_inv_peer.proofs.Counts.{none_count}
use Rattle.b1_inv_peer.proofs.RecordLists.{notice_needs}
use Rattle.b1_inv_peer.proofs.NodeEvents.{node_in, stays_unpassed}

abbrev Queue : Type 0
Queue = List (Key × Entry)

-- ---- keys

-- a key stays new where an entry with another key comes in
pub new_put : (k other : Key) (e : Entry) (queue : Queue) → NewKey k queue → other ≢ k → NewKey k (put other e queue)
new_put k other e [] new apart = (apart, new)
new_put k other e (f ∷ rest) new apart = elim (key_before other f.0) as (λ c. NewKey k (cond c ((other, e) ∷ f ∷ rest) (f ∷ put other e rest))) [ true ↦ (apart, new) | false ↦ (new.0, new_put k other e rest new.1 apart) ]

-- ---- a live node's notices

-- a notice of a live node is its release notice
live_release : (s : ℕ) (nodes : List NodePart) (f : Key × Entry) → is_live (node_in nodes s).state ≡ true → NoticeOk nodes f → is_release_notice s f ≡ false → is_notice_of s f ≡ false
live_release s nodes (k, Message origin user index serial offset len carries slots hs payload) live right other = refl
live_release s nodes (k, OwnNotice serial index) live right other = at (serial == s) refl
  where
    at : (b : Bool) → (serial == s) ≡ b → (serial == s) ≡ false
    at false e = e
    at true e = let dead : is_live (node_in nodes s).state ≡ false = subst (λ r. is_live (node_in nodes r).state ≡ false) (eqb-true serial s e) right.1 in absurd (cc (sym live ∙ dead))
live_release s nodes (k, ForeignNotice node index) live right other = refl
live_release s nodes (k, ReleaseNotice serial) live right other = other

-- none is left where the release notice leaves
pub none_unreleased : (s : ℕ) (nodes : List NodePart) (queue : Queue) → is_live (node_in nodes s).state ≡ true → ((f : Key × Entry) → Has queue f → NoticeOk nodes f) → count (is_notice_of s) (without (is_release_notice s) queue) ≡ 0
none_unreleased s nodes queue live right =
    none_count (is_notice_of s) (without (is_release_notice s) queue)
    (λ f h. live_release s nodes f live (right f (without_has (is_release_notice s) queue f h)) (stays_unpassed (is_release_notice s) queue f h))

-- ---- records that need a notice

-- whether a record has no notice queued
abbrev unnoticed_in : Option HandleRecord → Bool
unnoticed_in found = elim found [ None ↦ false | Some h ↦ not h.notice ]

-- once a node has its notice, no other node needs one that didn't before
pub still_needs : (node other : NodeRef) (hs : List HandleRecord) → unnoticed_in (record_of node (changed other noticed hs)) ≡ true → unnoticed_in (record_of node hs) ≡ true
still_needs node other [] is = is
still_needs node other (h ∷ rest) is = at (still_needs node other rest) (same_ref h.node other) (is_needed (noticed h)) (notice_needs h) (same_ref h.node node) refl is
  where
    at : (unnoticed_in (record_of node (changed other noticed rest)) ≡ true → unnoticed_in (record_of node rest) ≡ true) → (b c : Bool) → c ≡ true → (d : Bool) → same_ref h.node node ≡ d → unnoticed_in (record_of node (cond b (cond c (noticed h ∷ rest) rest) (h ∷ changed other noticed rest))) ≡ true → unnoticed_in (cond d (Some h) (record_of node rest)) ≡ true
    at further true true needs true same here = absurd (cc (sym (ap (λ e. unnoticed_in (cond e (Some (noticed h)) (record_of node rest))) same) ∙ here))
    at further true true needs false apart here = sym (ap (λ e. unnoticed_in (cond e (Some (noticed h)) (record_of node rest))) apart) ∙ here
    at further true false needs d same here = absurd (cc needs)
    at further false c needs true same here = sym (ap (λ e. unnoticed_in (cond e (Some h) (record_of node (changed other noticed rest)))) same) ∙ here
    at further false c needs false apart here = further (sym (ap (λ e. unnoticed_in (cond e (Some h) (record_of node (changed other noticed rest)))) apart) ∙ here)
