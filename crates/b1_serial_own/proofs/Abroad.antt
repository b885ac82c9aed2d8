-- Who refers to a node on the serial bus, and the counts of its owner.
use Rattle.std.proofs.Common.{◌≡◌, refl, sym, ap, ◌∙◌, ℕ, zero, suc, ◌+◌, ◌<◌, ◌==◌, Bool, true, false, cond, ◌||◌, ◌&&◌, not, nat_lt, List, [], ◌∷◌, length, get_or, Option, Some, None, is_some, arith}
use Rattle.std.specs.Prelude.{slice_get}
use Rattle.std.specs.List.{list_any, list_all}
use Rattle.std.proofs.lemmas.Bool.{ltb-true, ltb-false, lt-ltb, eqb-true, eq-eqb, and_parts, false_from_ne_true}
use Rattle.std.proofs.lemmas.List.Sums.{sum_by-cons}
use Rattle.b1_model.specs.declared.naming.Key.{Key}
use Rattle.b1_model.specs.declared.naming.NodeRef.{NodeRef}
use Rattle.b1_model.specs.declared.naming.Opening.{Opening}
use Rattle.b1_model.specs.declared.entries.Entry.{Entry}
use Rattle.b1_model.specs.MachineParts.{PeerPart, DriverPart, HandleRecord, State, same_ref, record_of, node_at, no_node}
use Rattle.b1_model.specs.MachineTables.{count_of, is_unheld}
use Rattle.b1_step.specs.Rights.{Has}
use Rattle.b1_step.specs.Ordered.{Rising}
use Rattle.b1_step.proofs.Lists.{has_within}
use Rattle.b1_step.proofs.Orders.{same_ref_is, same_ref_itself}
use Rattle.b1_inv.specs.Words.{IsPeer}
use Rattle.b1_inv.specs.Numbers.{AreNumbered}
use Rattle.b1_inv.specs.References.{count_in, times_in}
use Rattle.b1_inv.specs.Sound.{IsSound}
use Rattle.b1_inv_refs.proofs.Views.{Handles, or_none, times_cons}
use Rattle.b1_inv_refs.proofs.GivenUp.{found_has}
use Rattle.b1_serial_bus.specs.Parts.{Part}
use Rattle.b1_serial_bus.specs.Named.{line_of}
use Rattle.b1_serial_bus.specs.References.{boxed_references, has_slot, refers, is_abroad}
use Rattle.b1_serial_rest.specs.Standing.{part_of, bus_of, lines_of}
use Rattle.b1_serial_rest.specs.Rest.{held_times, boxed_times, IsQuiet}
use Rattle.b1_serial_rest.proofs.Records.{lines_have, lines_held}
use Rattle.b1_serial_rest.proofs.Own.{parts_at}
use Rattle.b1_serial_whole.proofs.Quiet.{element_there}
use Rattle.b1_serial_whole.proofs.Counted.{is_counted}
use Rattle.b1_serial_own.proofs.Shows.{part_there}

-- ---- lists that some element passes

module _ {X : Type 0} (test : X → Bool) where
  pub any_at : (xs : List X) (i : ℕ) (x : X) → slice_get xs i ≡ Some x → test x ≡ true → list_any test xs ≡ true
  any_at [] i x is passes = absurd (cc is)
  any_at (y ∷ ys) zero x is passes = let same : y ≡ x = cc is in ap (λ b. b || list_any test ys) (ap test same ∙ passes)
  any_at (y ∷ ys) (suc i) x is passes = elim (test y) as (λ b. b || list_any test ys ≡ true) [ true ↦ refl | false ↦ any_at ys i x is passes ]

  pub any_found : (xs : List X) → list_any test xs ≡ true → (i : ℕ) × (x : X) × (slice_get xs i ≡ Some x) × (test x ≡ true)
  any_found [] none = absurd (cc none)
  any_found (y ∷ ys) some = by (any_found ys) (test y) refl some
    where
      by : (list_any test ys ≡ true → (i : ℕ) × (x : X) × (slice_get ys i ≡ Some x) × (test x ≡ true)) → (b : Bool) → test y ≡ b → b || list_any test ys ≡ true → (i : ℕ) × (x : X) × (slice_get (y ∷ ys) i ≡ Some x) × (test x ≡ true)
      by further true passes some = (zero, y, refl, passes)
      by further false fails some = let later = further some in (suc later.0, later.1, later.2, later.3)

  pub any_fails : (xs : List X) (i : ℕ) (x : X) → list_any test xs ≡ false → slice_get xs i ≡ Some x → test x ≡ false
  any_fails xs i x none is = by (test x) refl
    where
      by : (b : Bool) → test x ≡ b → b ≡ false
      by true passes = absurd (cc (sym none ∙ any_at xs i x is passes))
      by false fails = refl

-- ---- one peer

same_ref_back : (a b : NodeRef) → same_ref a b ≡ same_ref b a
same_ref_back a b = by (same_ref a b) refl (same_ref b a) refl
  where
    by : (c : Bool) → same_ref a b ≡ c → (d : Bool) → same_ref b a ≡ d → c ≡ d
    by true one true two = refl
    by false one false two = refl
    by true one false two = absurd (cc (sym two ∙ ap (λ z. same_ref b z) (same_ref_is a b one) ∙ same_ref_itself b))
    by false one true two = absurd (cc (sym one ∙ ap (λ z. same_ref a z) (same_ref_is b a two) ∙ same_ref_itself a))

-- a sum of two is above zero where one of them is
pub above_sum : (a b : ℕ) → nat_lt 0 (a + b) ≡ nat_lt 0 a || nat_lt 0 b
above_sum a b = by (nat_lt 0 a) refl
  where
    by : (c : Bool) → nat_lt 0 a ≡ c → nat_lt 0 (a + b) ≡ c || nat_lt 0 b
    by true is = let less = ltb-true 0 a is in lt-ltb 0 (a + b) (omega (arith, less))
    by false is = let most = ltb-false 0 a is in ap (nat_lt 0) (omega (arith, most))

module _ (x : NodeRef) where
  any_times : (nodes : List NodeRef) → list_any (same_ref x) nodes ≡ nat_lt 0 (times_in x nodes)
  any_times [] = refl
  any_times (n ∷ rest) =
      ap (λ b. b || list_any (same_ref x) rest) (same_ref_back x n)
      ∙ ap (λ b. same_ref n x || b) (any_times rest)
      ∙ by (same_ref n x)
      ∙ sym (ap (nat_lt 0) (times_cons x n rest))
    where
      by : (b : Bool) → b || nat_lt 0 (times_in x rest) ≡ nat_lt 0 (cond b 1 0 + times_in x rest)
      by true = sym (lt-ltb 0 (1 + times_in x rest) (omega arith))
      by false = ap (nat_lt 0) (omega arith)

  any_boxed : (box : List (Key × Entry)) → list_any (has_slot x) box ≡ nat_lt 0 (boxed_times x box)
  any_boxed [] = refl
  any_boxed (f ∷ rest) =
      ap (λ b. b || list_any (has_slot x) rest) (any_times (boxed_references f))
      ∙ ap (λ b. nat_lt 0 (times_in x (boxed_references f)) || b) (any_boxed rest)
      ∙ sym (above_sum (times_in x (boxed_references f)) (boxed_times x rest))
      ∙ sym (ap (nat_lt 0) (sum_by-cons (λ g. times_in x (boxed_references g)) f rest))

  -- a node has a line where it is held
  pub has_line : (given : ℕ) (hs : Handles) → Rising hs → AreNumbered given hs → is_some (line_of x (lines_of hs)) ≡ nat_lt 0 (held_times x (lines_of hs))
  has_line given hs up numbered = lines_have x hs up ∙ by (record_of x hs) refl ∙ sym (ap (nat_lt 0) (lines_held x hs up numbered.unheld))
    where
      by_number : (h : HandleRecord) → Has hs h → (r : Option ℕ) → h.number ≡ r → is_some r ≡ nat_lt 0 h.held
      by_number h there None is = sym (ap (nat_lt 0) (numbered.unheld h there is))
      by_number h there (Some k) is = sym (lt-ltb 0 h.held (let some = (numbered.held h k there is).0 in omega (arith, some)))

      by : (r : Option HandleRecord) → record_of x hs ≡ r → is_some (or_none x r).number ≡ nat_lt 0 (or_none x r).held
      by None found = refl
      by (Some h) found = by_number h (found_has (λ g. same_ref g.node x) hs h found).0 h.number refl

  -- a peer refers to a node where its lines or its box have it
  pub refers_counts : (v : PeerPart) (d : DriverPart) → Rising v.handles → AreNumbered v.given v.handles → refers x (part_of v d) ≡ nat_lt 0 (held_times x (part_of v d).lines + boxed_times x (part_of v d).box)
  refers_counts v d up numbered =
      ap (λ b. b || list_any (has_slot x) v.queue) (has_line v.given v.handles up numbered)
      ∙ ap (λ b. nat_lt 0 (held_times x (lines_of v.handles)) || b) (any_boxed v.queue)
      ∙ sym (above_sum (held_times x (lines_of v.handles)) (boxed_times x v.queue))

-- ---- all peers

all_zero : (counts : List ℕ) → ((i : ℕ) → i < length counts → get_or counts i 0 ≡ 0) → list_all (λ k. k == 0) counts ≡ true
all_zero [] none = refl
all_zero (k ∷ rest) none = ap (λ b. b && list_all (λ k. k == 0) rest) (eq-eqb k 0 (none zero (omega arith))) ∙ all_zero rest (λ i less. none (suc i) (omega (arith, less)))

pub zero_at : (counts : List ℕ) (i : ℕ) → list_all (λ k. k == 0) counts ≡ true → get_or counts i 0 ≡ 0
zero_at [] i all = refl
zero_at (k ∷ rest) zero all = eqb-true k 0 (and_parts (k == 0) (list_all (λ k. k == 0) rest) all).0
zero_at (k ∷ rest) (suc i) all = zero_at rest i (and_parts (k == 0) (list_all (λ k. k == 0) rest) all).1

module _ {o : Opening} {s : State} (sound : IsSound o s) (quiet : IsQuiet s) where
  -- at a peer, by the owner's count
  pub refers_counted : (x : NodeRef) (q : ℕ) (y : Part) → slice_get (bus_of s) q ≡ Some y → refers x y ≡ nat_lt 0 (count_in s x q)
  refers_counted x q y is =
      let here = parts_at s.peers s.drivers q y is in
      ap (refers x) here.4
      ∙ refers_counts x here.0 here.1 (sound.rising q here.0 here.2) (sound.numbers.numbered q here.0 here.2)
      ∙ ap (λ z. nat_lt 0 (held_times x z.lines + boxed_times x z.box)) (sym here.4)
      ∙ sym (ap (nat_lt 0) (is_counted sound quiet x q y is))

  -- nobody refers to a node exactly where all its counts are zero
  pub unheld_abroad : (x : NodeRef) (w : PeerPart) → IsPeer s x.owner w → x.serial < length w.nodes → is_unheld (node_at w x.serial) ≡ not (is_abroad x (bus_of s))
  unheld_abroad x w is made = by (is_abroad x (bus_of s)) refl
    where
      count_is : (q : ℕ) → count_in s x q ≡ get_or (node_at w x.serial).counts q 0
      count_is q = ap (λ r. elim r [ None ↦ 0 | Some v ↦ count_of (node_at v x.serial) q ]) is

      wide : length (node_at w x.serial).counts ≡ length s.peers
      wide = sound.references.widths x.owner w (node_at w x.serial) is (has_within w.nodes x.serial no_node made)

      held : is_abroad x (bus_of s) ≡ true → is_unheld (node_at w x.serial) ≡ true → ⊥
      held some all =
          let found = any_found (refers x) (bus_of s) some in
          let none : count_in s x found.0 ≡ 0 = count_is found.0 ∙ zero_at (node_at w x.serial).counts found.0 all in
          absurd (cc (sym found.3 ∙ refers_counted x found.0 found.1 found.2 ∙ ap (nat_lt 0) none))

      unheld : is_abroad x (bus_of s) ≡ false → (i : ℕ) → i < length (node_at w x.serial).counts → get_or (node_at w x.serial).counts i 0 ≡ 0
      unheld none i less =
          let peers = sound.numbered.as_many_peers in
          let drivers = sound.numbered.as_many_drivers in
          let v = element_there s.peers i (omega (arith, less, wide)) in
          let d = element_there s.drivers i (omega (arith, less, wide, peers, drivers)) in
          let there = part_there s.peers s.drivers i v.0 d.0 v.1 d.1 in
          let fails = any_fails (refers x) (bus_of s) i (part_of v.0 d.0) none there in
          let most = ltb-false 0 (count_in s x i) (sym (refers_counted x i (part_of v.0 d.0) there) ∙ fails) in
          let same = count_is i in
          omega (arith, most, same)

      by : (b : Bool) → is_abroad x (bus_of s) ≡ b → is_unheld (node_at w x.serial) ≡ not b
      by true some = false_from_ne_true (is_unheld (node_at w x.serial)) (held some)
      by false none = all_zero (node_at w x.serial).counts (unheld none)
