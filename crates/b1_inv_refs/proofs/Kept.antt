-- What an open SEND keeps for entries that it hasn't committed, and how that moves from phase to phase.
use Rattle.std.proofs.Common.{◌≡◌, ◌≢◌, refl, sym, ap, ◌∙◌, subst, ℕ, zero, suc, ◌+◌, ◌<◌, ◌≤◌, ◌==◌, Bool, true, false, cond, ◌&&◌, nat_lt, nat_le, List, [], ◌∷◌, map, set, get_or, length, Option, Some, None, le-leb}
use Rattle.std.specs.Prelude.{slice_get}
use native.Mathlib.Omega.{arith}
use Rattle.std.proofs.lemmas.Bool.{lt-leb, leb-true}
use Rattle.b1_model.specs.declared.naming.NodeRef.{NodeRef}
use Rattle.b1_model.specs.declared.parts.Slot.{Slot}
use Rattle.b1_model.specs.declared.parts.Slot.TheVariants as slot
use Rattle.b1_model.specs.declared.parts.Begun.{Begun}
use Rattle.b1_model.specs.declared.answers.Reason.{Reason}
use Rattle.b1_model.specs.declared.events.Phase.TheVariants.{Attaching, Stamping, Syncing, Committing}
use Rattle.b1_model.specs.declared.events.Sending.{Sending}
use Rattle.b1_model.specs.MachineDriver.{node_of_place, next_accepted, accepted_from, is_place, attaching, syncing, all_staged}
use Rattle.b1_model.specs.MachineTook.{place_references}
use Rattle.b1_model.specs.MachineCounts.{amount_in, kept_from, kept_amount}
use Rattle.b1_inv.specs.Words.{is_accepted_place}
use Rattle.b1_inv_refs.proofs.Amounts.{slots_amount, slots_cons, slot_amount, slots_unattached, slots_none}

abbrev Places : Type 0
Places = List (Option Reason)

-- an accepted place stands there without a reason
pub accepted_is : (places : Places) (k : ℕ) → is_accepted_place places k ≡ true → slice_get places k ≡ Some None
accepted_is [] k is = absurd (cc is)
accepted_is (None ∷ rest) zero is = refl
accepted_is (Some r ∷ rest) zero is = absurd (cc is)
accepted_is (r ∷ rest) (suc k) is = accepted_is rest k is

pub accepted_within : (places : Places) (k : ℕ) → is_accepted_place places k ≡ true → k < length places
accepted_within [] k is = absurd (cc is)
accepted_within (r ∷ rest) zero is = omega arith
accepted_within (r ∷ rest) (suc k) is = let ih = accepted_within rest k is in omega (arith, ih)

pub next_from : (places : Places) (here from : ℕ) → here ≤ next_accepted here from places
next_from [] here from = omega arith
next_from (None ∷ rest) here from = elim (nat_le from here) as (λ b. here ≤ cond b here (next_accepted (here + 1) from rest)) [ true ↦ omega arith | false ↦ let ih = next_from rest (here + 1) from in omega (arith, ih) ]
next_from (Some r ∷ rest) here from = let ih = next_from rest (here + 1) from in omega (arith, ih)

module _ (node : NodeRef) (holder : ℕ) (sending : Sending) where
  -- what is kept for one place
  abbrev pub at_place : ℕ → ℕ
  at_place at = cond ((node_of_place sending.begun.to at).owner == holder) (amount_in node (place_references sending at)) 0

  -- from a place before the list on, all of it is kept
  pub kept_low : (places : Places) (from here : ℕ) → from ≤ here → kept_from node holder sending from here places ≡ kept_from node holder sending 0 here places
  kept_low [] from here low = refl
  kept_low (Some r ∷ rest) from here low = kept_low rest from (here + 1) (omega (arith, low))
  kept_low (None ∷ rest) from here low =
      let further = kept_low rest from (here + 1) (omega (arith, low)) in
      let one : nat_le from here ≡ true = le-leb from here low in
      let two : nat_le 0 here ≡ true = le-leb 0 here (omega arith) in
      rw (one, two, further) refl

  -- behind the list nothing is
  pub kept_past : (places : Places) (from here : ℕ) → here + length places ≤ from → kept_from node holder sending from here places ≡ 0
  kept_past [] from here past = refl
  kept_past (Some r ∷ rest) from here past = kept_past rest from (here + 1) (omega (arith, past))
  kept_past (None ∷ rest) from here past =
      let further = kept_past rest from (here + 1) (omega (arith, past)) in
      let later : nat_le from here ≡ false = lt-leb from here (omega (arith, past)) in
      rw later (ap (λ n. 0 + n) further)

  -- what lies before the first accepted place counts nothing
  pub kept_skip : (places : Places) (from here : ℕ) → kept_from node holder sending (next_accepted here from places) here places ≡ kept_from node holder sending from here places
  kept_skip [] from here = refl
  kept_skip (Some r ∷ rest) from here = kept_skip rest from (here + 1)
  kept_skip (None ∷ rest) from here = at (kept_skip rest from (here + 1)) (nat_le from here) refl
    where
      at : kept_from node holder sending (next_accepted (here + 1) from rest) (here + 1) rest ≡ kept_from node holder sending from (here + 1) rest → (b : Bool) → nat_le from here ≡ b → kept_from node holder sending (cond b here (next_accepted (here + 1) from rest)) here (None ∷ rest) ≡ cond (b && ((node_of_place sending.begun.to here).owner == holder)) (amount_in node (place_references sending here)) 0 + kept_from node holder sending from (here + 1) rest
      at further true is =
          let low = leb-true from here is in
          let here_in : nat_le here here ≡ true = le-leb here here (omega arith) in
          let same : kept_from node holder sending here (here + 1) rest ≡ kept_from node holder sending from (here + 1) rest = kept_low rest here (here + 1) (omega arith) ∙ sym (kept_low rest from (here + 1) (omega (arith, low))) in
          rw (here_in, same) refl
      at further false is =
          let later : nat_le (next_accepted (here + 1) from rest) here ≡ false = lt-leb _ here (omega (arith, next_from rest (here + 1) from)) in
          rw later (ap (λ n. 0 + n) further)

  kept_here : (rest : Places) (here : ℕ) → kept_from node holder sending here here (None ∷ rest) ≡ at_place here + kept_from node holder sending (here + 1) here (None ∷ rest)
  kept_here rest here =
      let in_it : nat_le here here ≡ true = le-leb here here (omega arith) in
      let out_it : nat_le (here + 1) here ≡ false = lt-leb (here + 1) here (omega arith) in
      let same : kept_from node holder sending here (here + 1) rest ≡ 0 + kept_from node holder sending (here + 1) (here + 1) rest = kept_low rest here (here + 1) (omega arith) ∙ sym (kept_low rest (here + 1) (here + 1) (omega arith)) ∙ omega arith in
      rw (in_it, out_it) (ap (λ n. at_place here + n) same)

  -- an accepted place, and those behind it
  pub kept_next : (places : Places) (k here place : ℕ) → place ≡ here + k → slice_get places k ≡ Some None → kept_from node holder sending place here places ≡ at_place place + kept_from node holder sending (place + 1) here places
  kept_next [] k here place same is = absurd (cc is)
  kept_next (Some r ∷ rest) zero here place same is = absurd (cc is)
  kept_next (Some r ∷ rest) (suc k) here place same is = kept_next rest k (here + 1) place (omega (arith, same)) is
  kept_next (None ∷ rest) zero here place same is =
      let there : here ≡ place = omega (arith, same) in
      subst (λ z. kept_from node holder sending z here (None ∷ rest) ≡ at_place z + kept_from node holder sending (z + 1) here (None ∷ rest)) there (kept_here rest here)
  kept_next (None ∷ rest) (suc k) here place same is =
      let out_it : nat_le place here ≡ false = lt-leb place here (omega (arith, same)) in
      let out_next : nat_le (place + 1) here ≡ false = lt-leb (place + 1) here (omega (arith, same)) in
      let further = kept_next rest k (here + 1) place (omega (arith, same)) is in
      rw (out_it, out_next) (omega (arith, further))

  -- in the phases before the commits, and at the first commit, all is kept
  pub kept_attaching : (place j : ℕ) → kept_amount node holder (attaching sending place j) ≡ kept_from node holder sending 0 0 sending.places
  kept_attaching place j =
      elim (nat_lt j (length sending.begun.with)) as (λ b. kept_amount node holder (cond b (Attaching sending place j) (cond (nat_lt 0 (length sending.begun.with) && is_place (accepted_from (place + 1) sending.places) sending.places) (Attaching sending (accepted_from (place + 1) sending.places) 0) (Stamping sending))) ≡ kept_from node holder sending 0 0 sending.places) [
        | true ↦ refl
        | false ↦ elim (nat_lt 0 (length sending.begun.with) && is_place (accepted_from (place + 1) sending.places) sending.places) as (λ b. kept_amount node holder (cond b (Attaching sending (accepted_from (place + 1) sending.places) 0) (Stamping sending)) ≡ kept_from node holder sending 0 0 sending.places) [ true ↦ refl | false ↦ refl ]
      ]

  pub kept_syncing : (stamp place : ℕ) → kept_amount node holder (syncing sending stamp place) ≡ kept_from node holder sending 0 0 sending.places
  kept_syncing stamp place =
      elim (is_place place sending.places) as (λ b. kept_amount node holder (cond b (Syncing sending stamp place) (Committing sending stamp (accepted_from 0 sending.places))) ≡ kept_from node holder sending 0 0 sending.places) [ true ↦ refl | false ↦ kept_skip sending.places 0 0 ]

  -- where no place has attached slots, nothing is kept
  pub kept_none : (places : Places) (from here : ℕ) → ((at : ℕ) → amount_in node (place_references sending at) ≡ 0) → kept_from node holder sending from here places ≡ 0
  kept_none [] from here none = refl
  kept_none (Some r ∷ rest) from here none = kept_none rest from (here + 1) none
  kept_none (None ∷ rest) from here none = at (nat_le from here && ((node_of_place sending.begun.to here).owner == holder)) (none here) (kept_none rest from (here + 1) none)
    where
      at : (b : Bool) {n more : ℕ} → n ≡ 0 → more ≡ 0 → cond b n 0 + more ≡ 0
      at true is further = omega (arith, is, further)
      at false is further = omega (arith, further)

-- nothing is attached where all was just staged
pub staged_places : (node : NodeRef) (begun : Begun) (places : Places) (collected at : ℕ) → amount_in node (place_references (all_staged begun places collected) at) ≡ 0
staged_places node begun places collected at = row begun.to at
  where
    row : (to : List NodeRef) (at : ℕ) → slots_amount node begun.with (get_or (map (λ t. map (λ n. slot.Unattached) begun.with) to) at []) ≡ 0
    row [] at = slots_none node begun.with
    row (t ∷ rest) zero = slots_unattached node begun.with
    row (t ∷ rest) (suc at) = row rest at

-- ---- a slot is filled

pub slots_set : (node : NodeRef) (nodes : List NodeRef) (slots : List Slot) (j : ℕ) (t : Slot) → j < length nodes → j < length slots → get_or slots j slot.Unattached ≡ slot.Unattached → slots_amount node nodes (set slots j t) ≡ slots_amount node nodes slots + slot_amount node (node_of_place nodes j) t
slots_set node [] slots j t in_nodes in_slots old = absurd (omega (arith, in_nodes))
slots_set node (n ∷ nodes) [] j t in_nodes in_slots old = absurd (omega (arith, in_slots))
slots_set node (n ∷ nodes) (u ∷ slots) zero t in_nodes in_slots old =
    let one = slots_cons node n t nodes slots in
    let two : slots_amount node (n ∷ nodes) (u ∷ slots) ≡ slots_amount node nodes slots = ap (λ z. slots_amount node (n ∷ nodes) (z ∷ slots)) old in
    omega (arith, one, two)
slots_set node (n ∷ nodes) (u ∷ slots) (suc j) t in_nodes in_slots old =
    let one = slots_cons node n u nodes (set slots j t) in
    let two = slots_cons node n u nodes slots in
    let further = slots_set node nodes slots j t (omega (arith, in_nodes)) (omega (arith, in_slots)) old in
    omega (arith, one, two, further)

module _ (node : NodeRef) (holder : ℕ) (a b : Sending) (to : a.begun.to ≡ b.begun.to) (place extra : ℕ)
    (others : (at : ℕ) → at ≢ place → amount_in node (place_references b at) ≡ amount_in node (place_references a at))
    (here_more : amount_in node (place_references b place) ≡ amount_in node (place_references a place) + extra) where
  other_place : (at : ℕ) → at ≢ place → at_place node holder b at ≡ at_place node holder a at
  other_place at apart = ap (λ ns. cond ((node_of_place ns at).owner == holder) (amount_in node (place_references b at)) 0) (sym to) ∙ ap (λ n. cond ((node_of_place a.begun.to at).owner == holder) n 0) (others at apart)

  more_in : (c : Bool) (n : ℕ) → cond c (n + extra) 0 ≡ cond c n 0 + cond c extra 0
  more_in true n = refl
  more_in false n = refl

  own_place : at_place node holder b place ≡ at_place node holder a place + cond ((node_of_place a.begun.to place).owner == holder) extra 0
  own_place = ap (λ ns. cond ((node_of_place ns place).owner == holder) (amount_in node (place_references b place)) 0) (sym to) ∙ ap (λ n. cond ((node_of_place a.begun.to place).owner == holder) n 0) here_more ∙ more_in ((node_of_place a.begun.to place).owner == holder) (amount_in node (place_references a place))

  -- behind the place nothing changes
  filled_before : (places : Places) (here : ℕ) → place < here → kept_from node holder b 0 here places ≡ kept_from node holder a 0 here places
  filled_before [] here before = refl
  filled_before (Some r ∷ rest) here before = filled_before rest (here + 1) (omega (arith, before))
  filled_before (None ∷ rest) here before =
      let in_it : nat_le 0 here ≡ true = le-leb 0 here (omega arith) in
      let one = other_place here (λ e. absurd (omega (arith, e, before))) in
      let further = filled_before rest (here + 1) (omega (arith, before)) in
      rw in_it (omega (arith, one, further))

  -- an accepted place keeps so much more
  pub kept_filled : (places : Places) (k here : ℕ) → place ≡ here + k → slice_get places k ≡ Some None → kept_from node holder b 0 here places ≡ kept_from node holder a 0 here places + cond ((node_of_place a.begun.to place).owner == holder) extra 0
  kept_filled [] k here same is = absurd (cc is)
  kept_filled (Some r ∷ rest) zero here same is = absurd (cc is)
  kept_filled (Some r ∷ rest) (suc k) here same is = kept_filled rest k (here + 1) (omega (arith, same)) is
  kept_filled (None ∷ rest) zero here same is =
      let in_it : nat_le 0 here ≡ true = le-leb 0 here (omega arith) in
      let there : place ≡ here = omega (arith, same) in
      let one : at_place node holder b here ≡ at_place node holder a here + cond ((node_of_place a.begun.to place).owner == holder) extra 0 = subst (λ z. at_place node holder b z ≡ at_place node holder a z + cond ((node_of_place a.begun.to place).owner == holder) extra 0) there own_place in
      let further = filled_before rest (here + 1) (omega (arith, same)) in
      rw in_it (omega (arith, one, further))
  kept_filled (None ∷ rest) (suc k) here same is =
      let in_it : nat_le 0 here ≡ true = le-leb 0 here (omega arith) in
      let one = other_place here (λ e. absurd (omega (arith, e, same))) in
      let further = kept_filled rest k (here + 1) (omega (arith, same)) is in
      rw in_it (omega (arith, one, further))
