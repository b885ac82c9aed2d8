-- Amounts of references to one node: in lists of references, dead lists, owed drops and queues.
use Rattle.std.proofs.Common.{◌≡◌, refl, sym, ap, ◌∙◌, ℕ, ◌+◌, ◌==◌, Bool, true, false, cond, ◌&&◌, List, [], ◌∷◌, ◌++◌, map, filter, zip, filter_map, sum_by}
use Rattle.std.proofs.lemmas.List.Sums.{sum_by-cons, sum_by-append, sum_by_push}
use native.Mathlib.Omega.{arith}
use Rattle.b1_model.specs.declared.naming.Key.{Key}
use Rattle.b1_model.specs.declared.naming.NodeRef.{NodeRef}
use Rattle.b1_model.specs.declared.parts.Slot.{Slot}
use Rattle.b1_model.specs.declared.parts.Slot.TheVariants as slot
use Rattle.b1_model.specs.declared.entries.Entry.{Entry}
use Rattle.b1_model.specs.declared.entries.Entry.TheVariants.{Message, OwnNotice, ForeignNotice, ReleaseNotice}
use Rattle.b1_model.specs.declared.events.OwedDrop.{OwedDrop}
use Rattle.b1_model.specs.MachineParts.{same_ref, is_staged, is_data}
use Rattle.b1_model.specs.MachineTables.{put, without}
use Rattle.b1_model.specs.MachineReceive.{references, reference_of, with_item}
use Rattle.b1_model.specs.MachineTook.{drops_of}
use Rattle.b1_model.specs.MachineCounts.{amount_in, queue_amount, dead_amount, owed_amount}
use Rattle.b1_step.proofs.Queues.{sum_put, sum_without}

abbrev pub Refs : Type 0
Refs = List (NodeRef × ℕ)

abbrev pub Items : Type 0
Items = List (Key × Entry)

-- ---- sums of nothing

-- elements that count nothing sum up to nothing
pub sum_none : {X : Type 0} (f : X → ℕ) (test : X → Bool) (xs : List X) → ((x : X) → test x ≡ true → f x ≡ 0) → sum_by f (filter test xs) ≡ 0
sum_none f test [] nothing = refl
sum_none {X} f test (x ∷ xs) nothing = at (sum_none f test xs nothing) (test x) refl
  where
    at : sum_by f (filter test xs) ≡ 0 → (b : Bool) → test x ≡ b → sum_by f (cond b (x ∷ filter test xs) (filter test xs)) ≡ 0
    at further true is = let one = sum_by-cons f x (filter test xs) in let two = nothing x is in omega (arith, one, two, further)
    at further false is = further

-- a queue's sum stays where only entries leave that count nothing
pub sum_left : (f : Key × Entry → ℕ) (test : Key × Entry → Bool) (queue : Items) → ((x : Key × Entry) → test x ≡ true → f x ≡ 0) → sum_by f (without test queue) ≡ sum_by f queue
sum_left f test queue nothing = let one = sum_without f test queue in let two = sum_none f test queue nothing in omega (arith, one, two)

module _ (node : NodeRef) where
  -- ---- references

  pub refs_append : (a b : Refs) → amount_in node (a ++ b) ≡ amount_in node a + amount_in node b
  refs_append a b = sum_by-append _ a b

  pub refs_cons : (r : NodeRef × ℕ) (b : Refs) → amount_in node (r ∷ b) ≡ cond (same_ref r.0 node) r.1 0 + amount_in node b
  refs_cons r b = sum_by-cons _ r b

  -- what one slot counts
  abbrev pub slot_amount : NodeRef → Slot → ℕ
  slot_amount with t = cond (same_ref with node) (elim t [ slot.Attached ↦ 1 | other ↦ 0 ]) 0

  -- what slots count
  abbrev pub slots_amount : List NodeRef → List Slot → ℕ
  slots_amount nodes slots = amount_in node (filter_map reference_of (zip nodes slots))

  pub nothing_of : (b : Bool) → cond {A = ℕ} b 0 0 ≡ 0
  nothing_of true = refl
  nothing_of false = refl

  pub slots_cons : (with : NodeRef) (t : Slot) (nodes : List NodeRef) (slots : List Slot) → slots_amount (with ∷ nodes) (t ∷ slots) ≡ slot_amount with t + slots_amount nodes slots
  slots_cons with slot.Unattached nodes slots = let k = nothing_of (same_ref with node) in omega (arith, k)
  slots_cons with slot.Attached nodes slots = refs_cons (with, 1) (filter_map reference_of (zip nodes slots))
  slots_cons with slot.Own nodes slots = let k = nothing_of (same_ref with node) in omega (arith, k)
  slots_cons with slot.Void nodes slots = let k = nothing_of (same_ref with node) in omega (arith, k)

  pub slots_unattached : (nodes : List NodeRef) → slots_amount nodes (map (λ n. slot.Unattached) nodes) ≡ 0
  slots_unattached [] = refl
  slots_unattached (n ∷ rest) = slots_unattached rest

  pub slots_none : (nodes : List NodeRef) → slots_amount nodes [] ≡ 0
  slots_none [] = refl
  slots_none (n ∷ rest) = refl

  -- ---- dead lists

  pub dead_append : (a b : List Refs) → dead_amount node (a ++ b) ≡ dead_amount node a + dead_amount node b
  dead_append a b = sum_by-append _ a b

  pub dead_cons : (item : Refs) (rest : List Refs) → dead_amount node (item ∷ rest) ≡ amount_in node item + dead_amount node rest
  dead_cons item rest = sum_by-cons _ item rest

  pub dead_with_item : (refs : Refs) (dead : List Refs) → dead_amount node (with_item refs dead) ≡ dead_amount node dead + amount_in node refs
  dead_with_item [] dead = omega arith
  dead_with_item (r ∷ rest) dead = sum_by_push (amount_in node) dead (r ∷ rest)

  -- ---- owed drops

  pub owed_append : (holder : ℕ) (a b : List OwedDrop) → owed_amount node holder (a ++ b) ≡ owed_amount node holder a + owed_amount node holder b
  owed_append holder a b = sum_by-append _ a b

  pub owed_cons : (holder : ℕ) (one : OwedDrop) (rest : List OwedDrop) → owed_amount node holder (one ∷ rest) ≡ cond (same_ref one.node node && (one.holder == holder)) one.amount 0 + owed_amount node holder rest
  owed_cons holder one rest = sum_by-cons _ one rest

  both_tests : (a b : Bool) (n more : ℕ) → cond (a && b) n 0 + cond b more 0 ≡ cond b (cond a n 0 + more) 0
  both_tests true true n more = refl
  both_tests true false n more = refl
  both_tests false true n more = refl
  both_tests false false n more = refl

  pub owed_drops : (holder h clock : ℕ) (refs : Refs) → owed_amount node holder (drops_of h clock refs) ≡ cond (h == holder) (amount_in node refs) 0
  owed_drops holder h clock [] = sym (nothing_of (h == holder))
  owed_drops holder h clock (r ∷ rest) =
      owed_cons holder (record { node = r.0; holder = h; amount = r.1; clock = clock }) (drops_of h clock rest)
      ∙ ap (λ n. cond (same_ref r.0 node && (h == holder)) r.1 0 + n) (owed_drops holder h clock rest)
      ∙ both_tests (same_ref r.0 node) (h == holder) r.1 (amount_in node rest)
      ∙ ap (λ n. cond (h == holder) n 0) (sym (refs_cons r rest))

  -- ---- queues

  -- what one entry counts
  abbrev pub entry_amount : Key × Entry → ℕ
  entry_amount f = cond (is_staged f) 0 (amount_in node (references f.1))

  pub staged_none : (f : Key × Entry) → is_staged f ≡ true → entry_amount f ≡ 0
  staged_none f is = rw is refl

  pub notice_none : (k : Key) (e : Entry) → is_data e ≡ false → entry_amount (k, e) ≡ 0
  notice_none k (Message origin user index serial offset len nodes slots handles payload) is = absurd (cc is)
  notice_none k (OwnNotice serial index) is = nothing_of (is_staged (k, OwnNotice serial index))
  notice_none k (ForeignNotice other index) is = nothing_of (is_staged (k, ForeignNotice other index))
  notice_none k (ReleaseNotice serial) is = nothing_of (is_staged (k, ReleaseNotice serial))

  pub queue_put : (k : Key) (e : Entry) (queue : Items) → queue_amount node (put k e queue) ≡ entry_amount (k, e) + queue_amount node queue
  queue_put k e queue = sum_put entry_amount k e queue

  pub queue_cons : (f : Key × Entry) (rest : Items) → queue_amount node (f ∷ rest) ≡ entry_amount f + queue_amount node rest
  queue_cons f rest = sum_by-cons entry_amount f rest

  -- a notice comes in
  pub queue_put_notice : (k : Key) (e : Entry) (queue : Items) → is_data e ≡ false → queue_amount node (put k e queue) ≡ queue_amount node queue
  queue_put_notice k e queue is = let one = queue_put k e queue in let two = notice_none k e is in omega (arith, one, two)

  -- entries leave that count nothing
  pub queue_left : (test : Key × Entry → Bool) (queue : Items) → ((f : Key × Entry) → test f ≡ true → entry_amount f ≡ 0) → queue_amount node (without test queue) ≡ queue_amount node queue
  queue_left test queue nothing = sum_left entry_amount test queue nothing
