-- How many items a flush makes.
use Rattle.std.proofs.Common.{◌≡◌, ◌≢◌, ◌==◌, ℕ, zero, suc, ◌+◌, ◌/◌, ◌≤◌, false, List, [], ◌∷◌, length, refl, sym, arith, inl, inr, Option, Some, None}
use Rattle.std.specs.Prelude.{filter_map}
use Rattle.std.specs.List.{range_with_len}
use Rattle.std.proofs.lemmas.Bool.{cases_eq, ne_eqb}
use Rattle.b1_model.specs.MachineParts.{HandleRecord}
use Rattle.b1_model.specs.MachineTables.{next_number}
use Rattle.b1_model.specs.MachineDestroy.{held_item, held_items}
use Rattle.b1_handles.proofs.ListLemmas.{filter_map_none}

-- what a range of numbers gives, where at most one number gives another thing
module _ {Y : Type 0} (F G : ℕ → Option Y) where
  same_range : (a n : ℕ) → ((g : ℕ) → a ≤ g → F g ≡ G g) → filter_map F (range_with_len a n) ≡ filter_map G (range_with_len a n)
  same_range a zero same = refl
  same_range a (suc n) same = rw (same a (omega arith), same_range (a + 1) n (λ g le. same g (omega arith))) refl

  first_more : (a n : ℕ) (f g : Option Y) → F a ≡ f → G a ≡ g → filter_map F (range_with_len (a + 1) n) ≡ filter_map G (range_with_len (a + 1) n) → length (filter_map F (range_with_len a (suc n))) ≤ length (filter_map G (range_with_len a (suc n))) + 1
  first_more a n None None now then_is rest = rw (now, then_is, rest) (omega arith)
  first_more a n None (Some y) now then_is rest = rw (now, then_is, rest) (omega arith)
  first_more a n (Some x) None now then_is rest = rw (now, then_is, rest) (omega arith)
  first_more a n (Some x) (Some y) now then_is rest = rw (now, then_is, rest) (omega arith)

  next_more : (a n : ℕ) (g : Option Y) → F a ≡ G a → G a ≡ g → length (filter_map F (range_with_len (a + 1) n)) ≤ length (filter_map G (range_with_len (a + 1) n)) + 1 → length (filter_map F (range_with_len a (suc n))) ≤ length (filter_map G (range_with_len a (suc n))) + 1
  next_more a n None same is more = rw (same, is) more
  next_more a n (Some y) same is more = rw (same, is) (omega (arith, more))

  one_more : (at a n : ℕ) → ((g : ℕ) → g ≢ at → F g ≡ G g) → length (filter_map F (range_with_len a n)) ≤ length (filter_map G (range_with_len a n)) + 1
  one_more at a zero same = omega arith
  one_more at a (suc n) same =
      elim (cases_eq a at) [
        | inl here ↦ first_more a n (F a) (G a) refl refl (same_range (a + 1) n (λ g le. same g (omega arith)))
        | inr other ↦ next_more a n (G a) (same a other) refl (one_more at (a + 1) n same)
      ]

-- a record has at most one number, and so gives at most one item
other_number : (o : Option ℕ) (g : ℕ) → (elim o [ None ↦ 0 | Some m ↦ m / 4 ]) ≢ g → elim o [ None ↦ false | Some m ↦ m == next_number g ] ≡ false
other_number None g other = refl
other_number (Some m) g other = ne_eqb m (next_number g) (λ same. other (omega (arith, same)))

pub held_items_few : (given : ℕ) (records : List HandleRecord) → length (held_items given records) ≤ length records
held_items_few given [] = rw (filter_map_none (λ g. held_item [] (next_number g)) 0 given (λ g. refl)) (omega arith)
held_items_few given (h ∷ rest) =
    let place : ℕ = elim h.number [ None ↦ 0 | Some m ↦ m / 4 ] in
    let more : length (held_items given (h ∷ rest)) ≤ length (held_items given rest) + 1 =
    one_more (λ g. held_item (h ∷ rest) (next_number g)) (λ g. held_item rest (next_number g)) place 0 given
    (λ g other. rw (other_number h.number g (λ e. other (sym e))) refl) in
    omega (arith, more, held_items_few given rest)

pub nothing_held : (given : ℕ) → held_items given [] ≡ []
nothing_held given = filter_map_none (λ g. held_item [] (next_number g)) 0 given (λ g. refl)
