-- A drop that is owed is allowed at the owner of its node.
use Rattle.std.proofs.Common.{◌≡◌, refl, sym, ap, ◌∙◌, inl, inr, subst, ℕ, zero, suc, ◌<◌, ◌≤◌, ◌==◌, Bool, true, false, cond, ◌&&◌, List, [], ◌∷◌, length, find, get_or, sum_by, Option, Some, None, slice_get}
use Rattle.std.specs.List.{list_all}
use Rattle.std.proofs.lemmas.Bool.{eqb-true, eq-eqb}
use Rattle.std.proofs.lemmas.List.Sums.{sum_by-cons}
use native.Mathlib.Omega.{arith}
use Rattle.b1_model.specs.declared.naming.Key.{Key}
use Rattle.b1_model.specs.declared.naming.NodeRef.{NodeRef}
use Rattle.b1_model.specs.declared.naming.Opening.{Opening}
use Rattle.b1_model.specs.declared.entries.Entry.{Entry}
use Rattle.b1_model.specs.declared.entries.Entry.TheVariants.{Message, OwnNotice, ForeignNotice, ReleaseNotice}
use Rattle.b1_model.specs.declared.events.OwedDrop.{OwedDrop}
use Rattle.b1_model.specs.MachineParts.{PeerPart, DriverPart, HandleRecord, State, no_origin, same_ref, node_at, no_record, record_or_none}
use Rattle.b1_model.specs.MachineTables.{count_of}
use Rattle.b1_model.specs.MachineCounts.{driver_amount, fresh, owed_amount}
use Rattle.b1_step.specs.Rights.{Has}
use Rattle.b1_inv.specs.Words.{IsPeer, IsDriver}
use Rattle.b1_inv_peer.specs.PeerOk.{PeerOk, count, is_notice_for}
use Rattle.b1_event.specs.Events.{DropAllowed}
use Rattle.b1_inv.specs.Sound.{IsSound}
use Rattle.b1_event.proofs.Bounds.{clock_is}
use Rattle.b1_event.proofs.Facts.{new_key, made_here, peer_within, few_peers}

-- ---- lists

pub has_sum : {X : Type 0} (f : X → ℕ) (xs : List X) (x : X) → Has xs x → f x ≤ sum_by f xs
has_sum f [] x h = absurd h
has_sum f (y ∷ ys) x (inl same) = let k = ap f same in let more = sum_by-cons f y ys in omega (arith, k, more)
has_sum f (y ∷ ys) x (inr there) = let k = has_sum f ys x there in let more = sum_by-cons f y ys in omega (arith, k, more)

at_sum : {X : Type 0} (f : X → ℕ) (xs : List X) (i : ℕ) (x : X) → slice_get xs i ≡ Some x → f x ≤ sum_by f xs
at_sum f [] i x is = absurd (cc is)
at_sum f (y ∷ ys) zero x is = let same : y ≡ x = cc is in let k = ap f same in let more = sum_by-cons f y ys in omega (arith, k, more)
at_sum f (y ∷ ys) (suc i) x is = let k = at_sum f ys i x is in let more = sum_by-cons f y ys in omega (arith, k, more)

all_zero : (counts : List ℕ) (i : ℕ) → list_all (λ k. k == 0) counts ≡ true → get_or counts i 0 ≡ 0
all_zero [] i is = refl
all_zero (k ∷ rest) zero is = eqb-true k 0 (both (k == 0) (list_all (λ n. n == 0) rest) is).0
  where
    both : (a b : Bool) → (a && b) ≡ true → (a ≡ true) × (b ≡ true)
    both true b is = (refl, is)
    both false b is = absurd (cc is)
all_zero (k ∷ rest) (suc i) is = all_zero rest i (both (k == 0) (list_all (λ n. n == 0) rest) is).1
  where
    both : (a b : Bool) → (a && b) ≡ true → (a ≡ true) × (b ≡ true)
    both true b is = (refl, is)
    both false b is = absurd (cc is)

-- ---- records

ref_itself : (node : NodeRef) → same_ref node node ≡ true
ref_itself node = ap (λ b. b && (node.serial == node.serial)) (eq-eqb node.owner node.owner refl) ∙ eq-eqb node.serial node.serial refl

and_first : (a b : Bool) → (a && b) ≡ true → a ≡ true
and_first true b is = refl
and_first false b is = absurd (cc is)

pub ref_owner : (a b : NodeRef) → same_ref a b ≡ true → a.owner ≡ b.owner
ref_owner a b is = eqb-true a.owner b.owner (and_first (a.owner == b.owner) (a.serial == b.serial) is)

-- a record that tells of a notice is one of the list
found_record : (test : HandleRecord → Bool) (hs : List HandleRecord) (none : HandleRecord) → none.notice ≡ false → (elim (find test hs) as (λ z. HandleRecord) [ None ↦ none | Some h ↦ h ]).notice ≡ true → (h : HandleRecord) × Has hs h × (test h ≡ true)
found_record test [] none no_notice is = let both : false ≡ true = sym no_notice ∙ is in absurd (cc both)
found_record test (h ∷ rest) none no_notice is = at (found_record test rest none no_notice) (test h) refl is
  where
    at : ((elim (find test rest) as (λ z. HandleRecord) [ None ↦ none | Some g ↦ g ]).notice ≡ true → (g : HandleRecord) × Has rest g × (test g ≡ true)) → (b : Bool) → test h ≡ b → (elim (cond b (Some h) (find test rest)) as (λ z. HandleRecord) [ None ↦ none | Some g ↦ g ]).notice ≡ true → (g : HandleRecord) × Has (h ∷ rest) g × (test g ≡ true)
    at further true passes is = (h, inl refl, passes)
    at further false passes is = let (g, there, so) = further is in (g, inr there, so)

notice_one : (b : Bool) → 1 ≤ cond b 1 0 → b ≡ true
notice_one true is = refl
notice_one false is = absurd (omega (arith, is))

module _ (o : Opening) (s : State) (sound : IsSound o s) where
  -- the notice of a foreign node is of one that was made
  pub foreign_made : (q : ℕ) (x : PeerPart) (ok : PeerOk x) (k : Key) (node : NodeRef) (index : ℕ) → IsPeer s q x → Has x.queue (k, ForeignNotice node index) → node.owner < length s.peers
  foreign_made q x ok k node index is h =
      let one : 1 ≤ count (is_notice_for node) x.queue = counted (has_sum (λ f. cond (is_notice_for node f) 1 0) x.queue (k, ForeignNotice node index) h) in
      let told = ok.noticed node in
      let noticed : (record_or_none node x.handles).notice ≡ true = notice_one (record_or_none node x.handles).notice (omega (arith, one, told)) in
      let (g, there, same) = found_record (λ g. same_ref g.node node) x.handles (no_record node) refl noticed in
      let (y, is_owner, made) = sound.flights.made q x g is there in
      subst (λ n. n < length s.peers) (ref_owner g.node node same) (peer_within o s sound g.node.owner y is_owner)
    where
      counted : cond (same_ref node node) 1 0 ≤ count (is_notice_for node) x.queue → 1 ≤ count (is_notice_for node) x.queue
      counted is = subst (λ b. cond b 1 0 ≤ count (is_notice_for node) x.queue) (ref_itself node) is

  -- no entry has the key of a release notice of a node that is held
  no_release : (q serial stamp holder : ℕ) (x : PeerPart) → PeerOk x → IsPeer s q x → 1 ≤ count_of (node_at x serial) holder → (k : Key) (e : Entry) → Has x.queue (k, e) → k.origin ≡ no_origin → k.index ≡ serial → ⊥
  no_release q serial stamp holder x ok is held k (Message origin user index dest offset len nodes slots handles payload) h from at =
      let shape = sound.notices.queued q x (k, Message origin user index dest offset len nodes slots handles payload) is h in
      shape.2 (sym shape.0 ∙ from)
  no_release q serial stamp holder x ok is held k (OwnNotice mine index) h from at =
      let shape = sound.notices.queued q x (k, OwnNotice mine index) is h in
      let within = peer_within o s sound q x is in
      let few = few_peers o s sound in
      omega (arith, within, few, shape.0, from)
  no_release q serial stamp holder x ok is held k (ForeignNotice node index) h from at =
      let shape = sound.notices.queued q x (k, ForeignNotice node index) is h in
      let within = foreign_made q x ok k node index is h in
      let few = few_peers o s sound in
      omega (arith, within, few, shape.0, from)
  no_release q serial stamp holder x ok is held k (ReleaseNotice mine) h from at =
      let shape = sound.notices.queued q x (k, ReleaseNotice mine) is h in
      let unheld = (ok.notices (k, ReleaseNotice mine) h).2 in
      let none = all_zero (node_at x mine).counts holder unheld in
      let same : mine ≡ serial = sym shape.1 ∙ at in
      let held_by : 1 ≤ count_of (node_at x mine) holder = subst (λ n. 1 ≤ count_of (node_at x n) holder) (sym same) held in
      omega (arith, none, held_by)

  module _ (p : ℕ) (d : DriverPart) (is_driver : IsDriver s p d) (one : OwedDrop) (owed : Has d.owed one) (x : PeerPart) (is_peer : IsPeer s one.node.owner x) (ok : PeerOk x) where
    enough : one.amount ≤ count_of (node_at x one.node.serial) one.holder
    enough =
        let counted : count_of (node_at x one.node.serial) one.holder ≡ fresh s one.node one.holder =
        sym (ap (λ (z : Option PeerPart). elim z as (λ y. ℕ) [ None ↦ 0 | Some y ↦ count_of (node_at y one.node.serial) one.holder ]) is_peer) ∙ sound.references.counts one.node one.holder in
        let mine : one.amount ≤ owed_amount one.node one.holder d.owed = amount (has_sum (λ two. cond (same_ref two.node one.node && (two.holder == one.holder)) two.amount 0) d.owed one owed) in
        let driver = at_sum (driver_amount one.node one.holder) s.drivers p d is_driver in
        omega (arith, counted, mine, driver)
      where
        amount : cond (same_ref one.node one.node && (one.holder == one.holder)) one.amount 0 ≤ owed_amount one.node one.holder d.owed → one.amount ≤ owed_amount one.node one.holder d.owed
        amount is = subst (λ b. cond b one.amount 0 ≤ owed_amount one.node one.holder d.owed) (ap (λ b. b && (one.holder == one.holder)) (ref_itself one.node) ∙ eq-eqb one.holder one.holder refl) is

    pub drop_allowed : DropAllowed x one.node.serial one.holder one.amount one.clock
    drop_allowed =
        let drop = sound.references.owed p d one is_driver owed in
        let some = drop.some in
        let few = few_peers o s sound in
        record {
          clock_is = clock_is s x.clock few (sound.clocks.clock one.node.owner x is_peer);
          drop = clock_is s one.clock few (sound.clocks.owed p d one is_driver owed);
          made = made_here o s sound one.node x drop.made is_peer;
          some = some;
          enough = enough;
          new_key = λ due. new_key _ x.queue (λ f h same. no_release one.node.owner one.node.serial 0 one.holder x ok is_peer (omega (arith, some, enough)) f.0 f.1 h (ap (λ k. k.origin) same) (ap (λ k. k.index) same));
        }
