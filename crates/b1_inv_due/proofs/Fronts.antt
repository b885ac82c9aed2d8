-- A RECV answers a node's number as released exactly where the node's release notice is the front that it takes.
use Rattle.std.proofs.Common.{◌≡◌, refl, sym, ap, subst, ◌∙◌, inl, inr, ℕ, zero, suc, ◌<◌, ◌==◌, Bool, true, false, List, [], ◌∷◌, map, length, get_or, Ok, Err}
use Rattle.std.proofs.lemmas.Bool.{eq-eqb, eqb-true}
use native.Mathlib.Omega.{arith}
use Rattle.b1_model.specs.declared.naming.Key.{Key}
use Rattle.b1_model.specs.declared.answers.Receipt.{Receipt}
use Rattle.b1_model.specs.declared.answers.Receipt.TheVariants as receipt
use Rattle.b1_model.specs.declared.entries.Entry.{Entry}
use Rattle.b1_model.specs.declared.entries.Entry.TheVariants.{Message, OwnNotice, ForeignNotice, ReleaseNotice}
use Rattle.b1_model.specs.MachineParts.{PeerPart, NodePart, is_staged, is_live, no_node, node_at, key_before}
use Rattle.b1_model.specs.MachineReceive.{cleared, front_by, front_taken, received, received_part, taken_entry}
use Rattle.b1_model.specs.MachineCounts.{has_release_notice}
use Rattle.b1_step.specs.Rights.{Has}
use Rattle.b1_step.specs.Ordered.{Ascending, Rising}
use Rattle.b1_step.proofs.Orders.{key_not_itself}
use Rattle.b1_inv.specs.Notices.{Apart}
use Rattle.b1_inv_tools.proofs.Comes.{has_drop}
use Rattle.b1_inv_tools.proofs.Received.{recv_rests}
use Rattle.b1_inv_entries.proofs.Keeping.{IsTakenFront}
use Rattle.b1_inv_entries.proofs.Removed.{taken_before}
use Rattle.b1_inv_parts.proofs.Serials.{live_made}
use Rattle.b1_inv_parts.proofs.Releases.{ReleasesOk}
use Rattle.b1_inv_taken.proofs.Clears.{Queue, Took, receives, cleared_same}
use Rattle.b1_inv_due.proofs.Notified.{notice_there}

-- ---- numbers of nodes

has_number : (nodes : List NodePart) (serial : ℕ) → serial < length nodes → Has (map (λ n. n.number) nodes) (get_or nodes serial no_node).number
has_number [] serial within = absurd (omega (arith, within))
has_number (n ∷ rest) zero within = inl refl
has_number (n ∷ rest) (suc serial) within = inr (has_number rest serial (omega (arith, within)))

-- no two nodes have one number
number_once : (nodes : List NodePart) (i j : ℕ) → Apart (map (λ n. n.number) nodes) → i < length nodes → j < length nodes → (get_or nodes i no_node).number ≡ (get_or nodes j no_node).number → i ≡ j
number_once [] i j apart first second same = absurd (omega (arith, first))
number_once (n ∷ rest) zero zero apart first second same = refl
number_once (n ∷ rest) zero (suc j) apart first second same = absurd (apart.0 (subst (Has (map (λ m. m.number) rest)) (sym same) (has_number rest j (omega (arith, second)))))
number_once (n ∷ rest) (suc i) zero apart first second same = absurd (apart.0 (subst (Has (map (λ m. m.number) rest)) same (has_number rest i (omega (arith, first)))))
number_once (n ∷ rest) (suc i) (suc j) apart first second same = ap suc (number_once rest i j apart.1 (omega (arith, first)) (omega (arith, second)) same)

-- ---- what is answered

-- a number is answered as released
abbrev pub answers_released : ℕ → Receipt → Bool
answers_released mine (receipt.Released stamp number) = number == mine
answers_released mine got = false

-- a RECV answers with its front, where that is committed
front_answer : (x : PeerPart) (f : Key × Entry) (rest : Queue) → (cleared x).queue ≡ f ∷ rest → is_staged f ≡ false → (received x).front ≡ Ok (taken_entry (record (cleared x) { queue = rest }) f.0 f.1).0
front_answer x f rest is even = ap (λ q. (front_taken (cleared x) q).0) is ∙ ap (λ b. (front_by b (cleared x) f rest).0) even

-- an entry whose number is answered as released is a release notice
release_answered : (mine : ℕ) (x : PeerPart) (k : Key) (e : Entry) → answers_released mine (taken_entry x k e).0 ≡ true → (serial : ℕ) × (e ≡ ReleaseNotice serial) × ((node_at x serial).number ≡ mine)
release_answered mine x k (Message origin user index serial offset len nodes slots handles payload) is = absurd (cc is)
release_answered mine x k (OwnNotice serial index) is = absurd (cc is)
release_answered mine x k (ForeignNotice node index) is = absurd (cc is)
release_answered mine x k (ReleaseNotice serial) is = (serial, refl, eqb-true (node_at x serial).number mine is)

module _ (x : PeerPart) (up : Rising x.handles) (serial : ℕ) where
  -- the removals at the front leave the numbers of nodes
  same_number : (rest : Queue) (one : ℕ) → (node_at (record (cleared x) { queue = rest }) one).number ≡ (node_at x one).number
  same_number rest one = ap (λ nodes. (get_or nodes one no_node).number) (cleared_same x up).1

  -- the notice at the front answers its node's number
  pub front_released : (key : Key) → IsTakenFront x (key, ReleaseNotice serial) → (got : Receipt) × ((received x).front ≡ Ok got) × (answers_released (node_at x serial).number got ≡ true)
  front_released key (rest, is, even) =
      (receipt.Released key.stamp (node_at (record (cleared x) { queue = rest }) serial).number, front_answer x (key, ReleaseNotice serial) rest is even, eq-eqb (node_at (record (cleared x) { queue = rest }) serial).number (node_at x serial).number (same_number rest serial))

  -- the front was queued
  pub front_there : (key : Key) → IsTakenFront x (key, ReleaseNotice serial) → Has x.queue (key, ReleaseNotice serial)
  front_there key (rest, is, even) = (cleared_same x up).0 (key, ReleaseNotice serial) (subst (λ q. Has q (key, ReleaseNotice serial)) (sym is) (inl refl))

  module _ (ok : ReleasesOk x) (apart : Apart (map (λ n. n.number) x.nodes)) (live : is_live (node_at x serial).state ≡ true) where
    -- whose number is answered as released, its notice was the front
    pub released_front : (got : Receipt) → (received x).front ≡ Ok got → answers_released (node_at x serial).number got ≡ true → (key : Key) × IsTakenFront x (key, ReleaseNotice serial)
    released_front got is answers = elim (receives x) [
      | inl stays ↦ let both : Err stays.0.0 ≡ Ok got = sym stays.0.1 ∙ is in absurd (cc both)
      | inr taken ↦ by taken.0 taken.1 taken.2
    ]
      where
        by : (f : Key × Entry) (rest : Queue) → Took x f rest → (key : Key) × IsTakenFront x (key, ReleaseNotice serial)
        by (key, e) rest took =
            let same : got ≡ (taken_entry (record (cleared x) { queue = rest }) key e).0 = (let both : Ok got ≡ Ok (taken_entry (record (cleared x) { queue = rest }) key e).0 = sym is ∙ took.answer in cc both) in
            let found = release_answered (node_at x serial).number (record (cleared x) { queue = rest }) key e (ap (answers_released (node_at x serial).number) (sym same) ∙ answers) in
            let there : Has x.queue (key, ReleaseNotice found.0) = (cleared_same x up).0 (key, ReleaseNotice found.0) (subst (λ q. Has q (key, ReleaseNotice found.0)) (sym took.queue) (inl (ap (λ g. (key, g)) (sym found.1)))) in
            let mine : found.0 ≡ serial = number_once x.nodes found.0 serial apart (live_made x found.0 (ok.live found.0 key there)) (live_made x serial live) (sym (same_number rest found.0) ∙ found.2) in
            (key, subst (λ g. IsTakenFront x (key, g)) (found.1 ∙ ap (λ n. ReleaseNotice n) mine) (rest, took.queue, took.even))

  module _ (ok : ReleasesOk x) (ascends : Ascending x.queue) where
    -- once it is taken, none of the node is left
    pub none_behind : (key : Key) → IsTakenFront x (key, ReleaseNotice serial) → has_release_notice serial (received_part x) ≡ false
    none_behind key front = by (has_release_notice serial (received_part x)) refl
      where
        by : (b : Bool) → has_release_notice serial (received_part x) ≡ b → b ≡ false
        by false is = refl
        by true is =
            let found = notice_there serial (received_part x) is in
            let rests = recv_rests x in
            let there : Has x.queue (found.0, ReleaseNotice serial) = has_drop rests.0 x.queue (found.0, ReleaseNotice serial) (subst (λ q. Has q (found.0, ReleaseNotice serial)) rests.1 found.1) in
            let same : key ≡ found.0 = ok.once serial key found.0 (front_there key front) there in
            let behind : key_before key found.0 ≡ true = taken_before x (key, ReleaseNotice serial) (found.0, ReleaseNotice serial) ascends front found.1 in
            absurd (cc (sym (key_not_itself key) ∙ ap (key_before key) same ∙ behind))
