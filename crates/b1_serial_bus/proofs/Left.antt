-- How many commands the peers have left: no command raises it, and one that its peer had left lowers it.
use Rattle.std.specs.Prelude.{◌≡◌, refl, ℕ, zero, suc, ◌+◌, ◌<◌, ◌≤◌, List, [], ◌∷◌, length, drop, slice_get, Some}
use Rattle.std.proofs.Common.{arith, sym, ap, ◌∙◌}
use Rattle.std.proofs.lemmas.List.{length-drop}
use Rattle.std.proofs.lemmas.Option.{same_Some}
use Rattle.b1_model.specs.declared.commands.Command.{Command}
use Rattle.b1_model.specs.Script.{commands_of}
use Rattle.b1_serial_bus.proofs.Shapes.{more, one_more}

-- how many commands these peers have left, each with its number and the count of its calls
abbrev pub left : List (List Command) → List (ℕ × ℕ) → ℕ
left lists [] = 0
left lists (s ∷ ss) = length (drop s.1 (commands_of lists s.0)) + left lists ss

-- each peer's number is its place
abbrev pub AreNumbered : List (ℕ × ℕ) → Type 0
AreNumbered ss = (p : ℕ) (s : ℕ × ℕ) → slice_get ss p ≡ Some s → s.0 ≡ p

-- a peer with one call more comes from one before
came_from : (p q : ℕ) (ss : List (ℕ × ℕ)) (s : ℕ × ℕ) → slice_get (one_more p ss) q ≡ Some s → (t : ℕ × ℕ) × (slice_get ss q ≡ Some t) × (s.0 ≡ t.0)
came_from p q [] s e = cc
came_from zero zero (t ∷ ts) s e = (t, refl, sym (ap (λ u. u.0) (same_Some (more t) s e)))
came_from zero (suc q) (t ∷ ts) s e = (s, e, refl)
came_from (suc p) zero (t ∷ ts) s e = (s, e, refl)
came_from (suc p) (suc q) (t ∷ ts) s e = came_from p q ts s e

pub numbered_more : (p : ℕ) (ss : List (ℕ × ℕ)) → AreNumbered ss → AreNumbered (one_more p ss)
numbered_more p ss numbered q s e = let t = came_from p q ss s e in t.2 ∙ numbered q t.0 t.1

pub as_many_more : (p : ℕ) (ss : List (ℕ × ℕ)) → length (one_more p ss) ≡ length ss
as_many_more p [] = refl
as_many_more zero (s ∷ ss) = refl
as_many_more (suc p) (s ∷ ss) = ap suc (as_many_more p ss)

-- no more is left behind one call more
drop_less : {A : Type 0} (k : ℕ) (xs : List A) → length (drop (suc k) xs) ≤ length (drop k xs)
drop_less k xs = let after = length-drop (suc k) xs in let before = length-drop k xs in omega (arith, after, before)

module _ (lists : List (List Command)) where
  pub no_more_left : (p : ℕ) (ss : List (ℕ × ℕ)) → left lists (one_more p ss) ≤ left lists ss
  no_more_left p [] = omega arith
  no_more_left zero (s ∷ ss) = let less = drop_less s.1 (commands_of lists s.0) in omega (arith, less)
  no_more_left (suc p) (s ∷ ss) = let rest = no_more_left p ss in omega (arith, rest)

  -- one less is left where the peer had a command left
  pub less_left : (p : ℕ) (ss : List (ℕ × ℕ)) (s : ℕ × ℕ) (c : Command) (rest : List Command) → slice_get ss p ≡ Some s → drop s.1 (commands_of lists s.0) ≡ c ∷ rest → left lists (one_more p ss) < left lists ss
  less_left p [] s c rest at is = cc
  less_left zero (t ∷ ts) s c rest at is =
      let same : t ≡ s = same_Some t s at in
      let before = length-drop t.1 (commands_of lists t.0) in
      let after = length-drop (suc t.1) (commands_of lists t.0) in
      let count : length (drop t.1 (commands_of lists t.0)) ≡ suc (length rest) = ap (λ u. length (drop u.1 (commands_of lists u.0))) same ∙ ap length is in
      omega (arith, before, after, count)
  less_left (suc p) (t ∷ ts) s c rest at is = let fewer = less_left p ts s c rest at is in omega (arith, fewer)
