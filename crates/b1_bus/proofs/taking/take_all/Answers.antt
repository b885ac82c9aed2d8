use Rattle.std.proofs.Common.{◌≡◌, ℕ, zero, suc, ◌+◌, ◌<◌, false, List, [], ◌∷◌, ◌++◌, take, sym, ap, ◌∙◌, inl, inr, arith, slice_set, get_or-set_same, get_or-set_other}
use Rattle.std.proofs.lemmas.Bool.{cases_eq}
use Rattle.std.specs.List.{slice_index_or}
use Rattle.std.specs.Slots.{slots_items, slots_filled, slots_len}
use mathlib.Core.Option.{some, some-injective, some-ne-none}
use lib.ListN.{get_elem?}
use Rattle.b1_bus.proofs.taking.take_all.Goals as goal

-- one element more
next : {X : Type 0} (xs : List X) (i : ℕ) (x : X) → get_elem? xs i ≡ some x → take (suc i) xs ≡ take i xs ++ x ∷ []
next [] i x is = absurd (some-ne-none x (sym is))
next (y ∷ xs) zero x is = ap (λ z. z ∷ []) (some-injective y x is)
next (y ∷ xs) (suc i) x is = ap (λ l. y ∷ l) (next xs i x is)

pub loop-slot-preserved : goal.loop-slot-preserved
loop-slot-preserved g c =
    let inv = c.loop-slot.invariant in
    let others = c.take.ensures.others in
    let old = c.loop-slot.closed.slots in
    let new = c.take.new.self.slots in
    let at = c.loop-slot.slot in
    let within : at < slots_len old = omega (arith, c.loop-slot-test.true, c.slot_count-slot-end.ensures, inv.count) in
    record {
      items = others.0 ∙ inv.items;
      count = others.2 ∙ inv.count;
      full = λ k low high.
          ap (λ l. slice_index_or l k false) others.1 ∙ get_or-set_other (slots_filled old) at k false false (λ same. omega (arith, same, low))
          ∙ inv.full k (omega (arith, low)) (omega (arith, high, others.2));
      empty = λ k low. elim (cases_eq k at) [
        | inl same ↦ ap (λ l. slice_index_or l k false) others.1 ∙ ap (λ j. slice_index_or (slice_set (slots_filled old) at false) j false) same
            ∙ get_or-set_same (slots_filled old) at false false (omega (arith, within, old.ok.1))
        | inr apart ↦ ap (λ l. slice_index_or l k false) others.1 ∙ get_or-set_other (slots_filled old) at k false false apart ∙ inv.empty k (omega (arith, low, apart))
      ];
      taken =
          let more : c.loop-slot.slot + 1 ≡ suc c.loop-slot.slot = omega arith in
          c.push_reserved.ensures.items ∙ ap (λ l. l ++ c.take.result ∷ []) inv.taken
          ∙ sym (next (slots_items old) at c.take.result c.take.ensures.value) ∙ ap (λ n. take n (slots_items old)) (sym more) ∙ ap (take (at + 1)) (sym others.0);
      fits = omega (arith, c.push_reserved.ensures.len, c.push_reserved.ensures.capacity, others.2, inv.fits);
      so_many = omega (arith, c.push_reserved.ensures.len, inv.so_many);
    }
