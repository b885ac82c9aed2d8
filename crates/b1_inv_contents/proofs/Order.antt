-- What stands before the front that is taken: entries for nobody alone, all removed.
use Rattle.std.proofs.Common.{◌≡◌, ◌⊎◌, refl, sym, ap, subst, ◌∙◌, inl, inr, ℕ, ◌<◌, ◌==◌, true, false, not, ◌&&◌, nat_lt, List, [], ◌∷◌, ◌++◌, Some}
use Rattle.std.proofs.lemmas.Bool.{and_parts, not-true, eqb-true, ltb-true, lt-ltb}
use native.Mathlib.Omega.{arith}
use Rattle.b1_model.specs.declared.naming.Key.{Key}
use Rattle.b1_model.specs.declared.naming.Wire.{Wire}
use Rattle.b1_model.specs.declared.entries.Entry.{Entry}
use Rattle.b1_model.specs.declared.records.Record.{Record}
use Rattle.b1_model.specs.Names.{Node}
use Rattle.b1_model.specs.Ledger.{is_before, is_below, Message, message, doomed_at}
use Rattle.b1_model.specs.MachineParts.{PeerPart, State, is_staged, key_before}
use Rattle.b1_model.specs.MachineReceive.{is_for_nobody, discards}
use Rattle.b1_step.specs.Rights.{Has}
use Rattle.b1_step.specs.Ordered.{Ascending}
use Rattle.b1_step.proofs.Lists.{has_append}
use Rattle.b1_step.proofs.Orders.{first_least}
use Rattle.b1_ledger.specs.Growth.{RisesAt}
use Rattle.b1_ledger.proofs.Sequences.{or_true, or_left}
use Rattle.b1_ledger.proofs.NextAfter.{below_is_less}
use Rattle.b1_inv_refs.proofs.Arrivals.{queue_parts, passes}
use Rattle.b1_inv_next.proofs.Facts.{one_kind}
use Rattle.b1_inv_legal.specs.Fronts.{CanTake}

-- ---- keys

-- keys are ordered as their stamps and origins are
pub before_is_below : (a b : Key) → is_before a.stamp a.origin b.stamp b.origin ≡ true → key_before a b ≡ true
before_is_below a b is = sym (below_is_less a b) ∙ or_left (is_before a.stamp a.origin b.stamp b.origin) (((a.stamp == b.stamp) && (a.origin == b.origin)) && nat_lt a.index b.index) is

-- a lower stamp is before a higher one
pub lower_stamp : (a b : Key) → a.stamp < b.stamp → is_before a.stamp a.origin b.stamp b.origin ≡ true
lower_stamp a b low = or_left (nat_lt a.stamp b.stamp) ((a.stamp == b.stamp) && nat_lt a.origin b.origin) (lt-ltb a.stamp b.stamp low)

-- a notice's key that is below a message's is that of an earlier call
pub notice_before : (ws : List Wire) (r : Record) → RisesAt r → (a b : Key) (m : Message) (x : Node) → doomed_at ws r a ≡ Some x → message ws r b.stamp b.origin ≡ Some m → key_before a b ≡ true → is_before a.stamp a.origin b.stamp b.origin ≡ true
notice_before ws r rises a b m x notice sent is = elim (or_true (is_before a.stamp a.origin b.stamp b.origin) (((a.stamp == b.stamp) && (a.origin == b.origin)) && nat_lt a.index b.index) (below_is_less a b ∙ is)) [
  | inl before ↦ before
  | inr same ↦
      let both = and_parts (a.stamp == b.stamp) (a.origin == b.origin) (and_parts ((a.stamp == b.stamp) && (a.origin == b.origin)) (nat_lt a.index b.index) same).0 in
      let stamp = eqb-true a.stamp b.stamp both.0 in
      let origin = eqb-true a.origin b.origin both.1 in
      absurd (one_kind ws r rises a m x (ap (λ n. message ws r n a.origin) stamp ∙ ap (message ws r b.stamp) origin ∙ sent) notice)
]

-- no two keys are before each other, and none before itself
pub not_both : (a b : Key) → key_before a b ≡ true → key_before b a ≡ true → ⊥
not_both a b first second = apart (below_is_less a b ∙ first) (below_is_less b a ∙ second)
  where
    lower : (a b : Key) → is_below a b ≡ true → (a.stamp < b.stamp) ⊎ ((a.stamp ≡ b.stamp) × ((a.origin < b.origin) ⊎ ((a.origin ≡ b.origin) × (a.index < b.index))))
    lower a b is = elim (or_true (is_before a.stamp a.origin b.stamp b.origin) (((a.stamp == b.stamp) && (a.origin == b.origin)) && nat_lt a.index b.index) is) [
      | inl before ↦ elim (or_true (nat_lt a.stamp b.stamp) ((a.stamp == b.stamp) && nat_lt a.origin b.origin) before) [
        | inl low ↦ inl (ltb-true a.stamp b.stamp low)
        | inr same ↦ let k = and_parts (a.stamp == b.stamp) (nat_lt a.origin b.origin) same in inr (eqb-true a.stamp b.stamp k.0, inl (ltb-true a.origin b.origin k.1))
      ]
      | inr same ↦
          let k = and_parts ((a.stamp == b.stamp) && (a.origin == b.origin)) (nat_lt a.index b.index) same in
          let l = and_parts (a.stamp == b.stamp) (a.origin == b.origin) k.0 in
          inr (eqb-true a.stamp b.stamp l.0, inr (eqb-true a.origin b.origin l.1, ltb-true a.index b.index k.1))
    ]

    apart : is_below a b ≡ true → is_below b a ≡ true → ⊥
    apart is also = let one = lower a b is in let two = lower b a also in omega (arith, one, two)

-- ---- the queue around the front

split_least : (es : List (Key × Entry)) (f : Key × Entry) (rest : List (Key × Entry)) → Ascending (es ++ f ∷ rest) → (g : Key × Entry) → Has es g → key_before g.0 f.0 ≡ true
split_least [] f rest up g there = absurd there
split_least (e ∷ es) f rest up g (inl here) = ap (λ z. key_before z.0 f.0) here ∙ first_least e (es ++ f ∷ rest) f up (at_middle es)
  where
    at_middle : (es : List (Key × Entry)) → Has (es ++ f ∷ rest) f
    at_middle [] = inl refl
    at_middle (e ∷ es) = inr (at_middle es)
split_least (e ∷ es) f rest up g (inr further) = split_least es f rest up.1 g further

split_rest : (es : List (Key × Entry)) (f : Key × Entry) (rest : List (Key × Entry)) → Ascending (es ++ f ∷ rest) → (g : Key × Entry) → Has rest g → key_before f.0 g.0 ≡ true
split_rest [] f rest up g there = first_least f rest g up there
split_rest (e ∷ es) f rest up g there = split_rest es f rest up.1 g there

module _ {s : State} {p : ℕ} {x : PeerPart} {f : Key × Entry} {rest : List (Key × Entry)} (can : CanTake s p x f rest) (up : Ascending x.queue) where
  in_two : x.queue ≡ discards x ++ f ∷ rest
  in_two = queue_parts x ∙ ap (λ l. discards x ++ l) can.front

  -- what is removed stands before the front, is committed and for nobody
  pub removed_before : (g : Key × Entry) → Has (discards x) g → key_before g.0 f.0 ≡ true
  removed_before g there = split_least (discards x) f rest (subst Ascending in_two up) g there

  -- what is removed is committed and for nobody
  pub removed_is : (g : Key × Entry) → Has (discards x) g → (is_staged g ≡ false) × (is_for_nobody x g.1 ≡ true)
  removed_is g there =
      let k = and_parts (not (is_staged g)) (is_for_nobody x g.1) (passes (λ z. not (is_staged z) && is_for_nobody x z.1) x.queue g there) in
      (not-true (is_staged g) k.0, k.1)

  -- what stands before the front is removed
  pub before_removed : (g : Key × Entry) → Has x.queue g → key_before g.0 f.0 ≡ true → Has (discards x) g
  before_removed g there is = elim (has_append (discards x) (f ∷ rest) g (subst (λ l. Has l g) in_two there)) [
    | inl gone ↦ gone
    | inr (inl same) ↦ let itself : key_before f.0 f.0 ≡ true = ap (λ z. key_before z.0 f.0) (sym same) ∙ is in absurd (not_both f.0 f.0 itself itself)
    | inr (inr further) ↦ absurd (not_both g.0 f.0 is (split_rest (discards x) f rest (subst Ascending in_two up) g further))
  ]
