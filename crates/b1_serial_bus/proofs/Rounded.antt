-- A round leaves fewer commands, or all peers settled.
use Rattle.std.specs.Prelude.{◌≡◌, refl, ℕ, zero, suc, ◌+◌, ◌≢◌, ◌<◌, ◌≤◌, ◌⊎◌, Bool, true, false, if◌then◌else◌, List, [], ◌∷◌, length, fold, slice_get, Option, Some, None, option_map}
use Rattle.std.specs.List.{range_with_len}
use Rattle.std.proofs.Common.{arith, inl, inr, sym, ap, ◌∙◌}
use Rattle.std.proofs.lemmas.Bool.{cases_eq}
use Rattle.std.proofs.lemmas.Option.{same_Some, slice_get-map}
use Rattle.b1_model.specs.declared.commands.Command.{Command}
use Rattle.b1_schedule.specs.Shortage.{Shortage}
use Rattle.b1_serial_bus.specs.Parts.{Part, Bus, at_peer}
use Rattle.b1_serial_bus.specs.Receive.{cleared}
use Rattle.b1_serial_bus.specs.Commands.{after_command_of}
use Rattle.b1_serial_bus.specs.Rounds.{Going, is_waiting, attempted, run, commands_left, round_at}
use Rattle.b1_serial_bus.proofs.Shapes.{shape, shapes, quiet_at}
use Rattle.b1_serial_bus.proofs.Counts.{counts}
use Rattle.b1_serial_bus.proofs.Left.{left, AreNumbered, numbered_more, as_many_more, no_more_left, less_left}
use Rattle.b1_serial_bus.proofs.Settled.{at_same, at_other, waiting_waits, waits_empty, waiting_again, Settled}

-- the peers and their numbers stay, and no more is left
pub record Lowers (lists : List (List Command)) (a b : Bus) : Type 0 where
  pub numbered : AreNumbered (shapes b)
  pub as_many : length (shapes b) ≡ length (shapes a)
  pub fewer : left lists (shapes b) ≤ left lists (shapes a)

-- only peer p changed, and it is settled
pub record Settles (lists : List (List Command)) (p : ℕ) (a b : Bus) : Type 0 where
  pub others : (q : ℕ) → q ≢ p → slice_get b q ≡ slice_get a q
  pub here : (y : Part) → slice_get b p ≡ Some y → Settled lists y

module _ (lists : List (List Command)) (m : Shortage) where
  lowers_refl : (a : Bus) → AreNumbered (shapes a) → Lowers lists a a
  lowers_refl a numbered = record { numbered = numbered; as_many = refl; fewer = omega arith }

  lowers_more : (a b c : Bus) → Lowers lists a b → Lowers lists b c → Lowers lists a c
  lowers_more a b c first second = record { numbered = second.numbered; as_many = second.as_many ∙ first.as_many; fewer = let x = first.fewer in let y = second.fewer in omega (arith, x, y) }

  -- the same shapes
  lowers_same : (a b : Bus) → AreNumbered (shapes a) → shapes b ≡ shapes a → Lowers lists a b
  lowers_same a b numbered same = record { numbered = rw same numbered; as_many = ap length same; fewer = let e = ap (left lists) same in omega (arith, e) }

  -- the number of a peer that is there
  pub me_is : (bus : Bus) (p : ℕ) (x : Part) → AreNumbered (shapes bus) → slice_get bus p ≡ Some x → x.me ≡ p
  me_is bus p x numbered there = numbered p (shape x) (slice_get-map shape bus p ∙ ap (option_map shape) there)

  command_lowers : (p : ℕ) (c : Command) (x : Part) (bus : Bus) → AreNumbered (shapes bus) → slice_get bus p ≡ Some x → Lowers lists bus (after_command_of m p c bus)
  command_lowers p c x bus numbered there =
      let more = counts m p c x bus there (me_is bus p x numbered there) in
      record { numbered = rw more (numbered_more p (shapes bus) numbered); as_many = rw more (as_many_more p (shapes bus)); fewer = rw more (no_more_left lists p (shapes bus)) }

  -- ---- a peer's run

  -- what a run goes on with
  abbrev go_on : ℕ → Command → List Command → Going → Option Part → Going
  go_on p c rest g found = elim found [ None ↦ g | Some x ↦ if is_waiting c x then attempted x g else run m p rest (record { bus = after_command_of m p c g.bus; gained = true }) ]

  run_lowers : (p : ℕ) (cs : List Command) (g : Going) → AreNumbered (shapes g.bus) → Lowers lists g.bus (run m p cs g).bus
  run_lowers p [] g numbered = lowers_refl g.bus numbered
  run_lowers p (c ∷ rest) g numbered = by (λ h. run_lowers p rest h) (slice_get g.bus p) refl
    where
      by : ((h : Going) → AreNumbered (shapes h.bus) → Lowers lists h.bus (run m p rest h).bus) → (found : Option Part) → slice_get g.bus p ≡ found → Lowers lists g.bus (go_on p c rest g found).bus
      by further None e = lowers_refl g.bus numbered
      by further (Some x) e = turn (is_waiting c x)
        where
          next : Going
          next = record { bus = after_command_of m p c g.bus; gained = true }

          turn : (b : Bool) → Lowers lists g.bus (if b then attempted x g else run m p rest next).bus
          turn true = lowers_same g.bus (at_peer x.me cleared g.bus) numbered (quiet_at x.me cleared g.bus (λ y. refl))
          turn false = let first = command_lowers p c x g.bus numbered e in lowers_more g.bus next.bus (run m p rest next).bus first (further next first.numbered)

  -- a run of the commands left leaves fewer, or settles its peer
  run_settles : (p : ℕ) (cs : List Command) (x : Part) (g : Going) → AreNumbered (shapes g.bus) → slice_get g.bus p ≡ Some x → commands_left lists x ≡ cs
      → (left lists (shapes (run m p cs g).bus) < left lists (shapes g.bus)) ⊎ Settles lists p g.bus (run m p cs g).bus
  run_settles p [] x g numbered there is = inr (record { others = λ q apart. refl; here = λ y e. here y e })
    where
      here : (y : Part) → slice_get g.bus p ≡ Some y → Settled lists y
      here y e = let same : y ≡ x = same_Some y x (sym e ∙ there) in rw (same, is) tt
  run_settles p (c ∷ rest) x g numbered there is = by (slice_get g.bus p) there
    where
      me : x.me ≡ p
      me = me_is g.bus p x numbered there

      next : Going
      next = record { bus = after_command_of m p c g.bus; gained = true }

      fewer : left lists (shapes next.bus) < left lists (shapes g.bus)
      fewer = rw (counts m p c x g.bus there me) (less_left lists p (shapes g.bus) (shape x) c rest (slice_get-map shape g.bus p ∙ ap (option_map shape) there) is)

      waits : is_waiting c x ≡ true → Settles lists p g.bus (at_peer x.me cleared g.bus)
      waits w = record {
        others = λ q apart. at_other x.me q cleared g.bus (λ e. apart (e ∙ me));
        here = λ y e.
            let same : y ≡ cleared x = same_Some y (cleared x) (sym e ∙ ap (λ r. slice_get (at_peer r cleared g.bus) p) me ∙ at_same p cleared g.bus x there) in
            rw (same, is) (waiting_again c x w, waits_empty x (waiting_waits c x w));
      }

      turn : (b : Bool) → is_waiting c x ≡ b → (left lists (shapes (if b then attempted x g else run m p rest next).bus) < left lists (shapes g.bus)) ⊎ Settles lists p g.bus (if b then attempted x g else run m p rest next).bus
      turn true w = inr (waits w)
      turn false w = let more = (run_lowers p rest next (command_lowers p c x g.bus numbered there).numbered).fewer in inl (omega (arith, fewer, more))

      by : (found : Option Part) → found ≡ Some x → (left lists (shapes (go_on p c rest g found).bus) < left lists (shapes g.bus)) ⊎ Settles lists p g.bus (go_on p c rest g found).bus
      by None e = cc
      by (Some y) e = rw (same_Some y x e) (turn (is_waiting c x) refl)

  -- ---- a round

  -- what a round does at a peer
  abbrev done_at : ℕ → Going → Option Part → Going
  done_at p g found = elim found [ None ↦ g | Some x ↦ run m p (commands_left lists x) g ]

  round_lowers : (p : ℕ) (g : Going) → AreNumbered (shapes g.bus) → Lowers lists g.bus (round_at lists m g p).bus
  round_lowers p g numbered = by (slice_get g.bus p)
    where
      by : (found : Option Part) → Lowers lists g.bus (done_at p g found).bus
      by None = lowers_refl g.bus numbered
      by (Some x) = run_lowers p (commands_left lists x) g numbered

  round_settles : (p : ℕ) (g : Going) → AreNumbered (shapes g.bus)
      → (left lists (shapes (round_at lists m g p).bus) < left lists (shapes g.bus)) ⊎ Settles lists p g.bus (round_at lists m g p).bus
  round_settles p g numbered = by (slice_get g.bus p) refl
    where
      by : (found : Option Part) → slice_get g.bus p ≡ found → (left lists (shapes (done_at p g found).bus) < left lists (shapes g.bus)) ⊎ Settles lists p g.bus (done_at p g found).bus
      by None e = inr (record { others = λ q apart. refl; here = λ y h. cc })
      by (Some x) e = run_settles p (commands_left lists x) x g numbered e refl

  pub rounds_lower : (ps : List ℕ) (g : Going) → AreNumbered (shapes g.bus) → Lowers lists g.bus (fold (round_at lists m) g ps).bus
  rounds_lower [] g numbered = lowers_refl g.bus numbered
  rounds_lower (p ∷ ps) g numbered =
      let first = round_lowers p g numbered in
      lowers_more g.bus (round_at lists m g p).bus (fold (round_at lists m) (round_at lists m g p) ps).bus first (rounds_lower ps (round_at lists m g p) first.numbered)

  -- the peers below a number are settled
  abbrev pub SettledBelow : ℕ → Bus → Type 0
  SettledBelow i bus = (q : ℕ) (y : Part) → q < i → slice_get bus q ≡ Some y → Settled lists y

  -- a round at peers from one on, those below settled
  pub rounds_settle : (i k : ℕ) (g : Going) → AreNumbered (shapes g.bus) → SettledBelow i g.bus
      → (left lists (shapes (fold (round_at lists m) g (range_with_len i k)).bus) < left lists (shapes g.bus)) ⊎ SettledBelow (i + k) (fold (round_at lists m) g (range_with_len i k)).bus
  rounds_settle i zero g numbered settled = inr (λ q y below e. settled q y (omega (arith, below)) e)
  rounds_settle i (suc k) g numbered settled = by (λ h first below. rounds_settle (i + 1) k h first below) (round_settles i g numbered)
    where
      h : Going
      h = round_at lists m g i

      first : Lowers lists g.bus h.bus
      first = round_lowers i g numbered

      end : Going
      end = fold (round_at lists m) h (range_with_len (i + 1) k)

      last : Lowers lists h.bus end.bus
      last = rounds_lower (range_with_len (i + 1) k) h first.numbered

      below : Settles lists i g.bus h.bus → SettledBelow (i + 1) h.bus
      below s q y under e = elim (cases_eq q i) [
        | inl same ↦ s.here y (ap (slice_get h.bus) (sym same) ∙ e)
        | inr apart ↦ settled q y (omega (arith, under, apart)) (sym (s.others q apart) ∙ e)
      ]

      wider : SettledBelow ((i + 1) + k) end.bus → SettledBelow (i + suc k) end.bus
      wider s q y under e = s q y (omega (arith, under)) e

      by : ((h : Going) → AreNumbered (shapes h.bus) → SettledBelow (i + 1) h.bus → (left lists (shapes (fold (round_at lists m) h (range_with_len (i + 1) k)).bus) < left lists (shapes h.bus)) ⊎ SettledBelow ((i + 1) + k) (fold (round_at lists m) h (range_with_len (i + 1) k)).bus) → (left lists (shapes h.bus) < left lists (shapes g.bus)) ⊎ Settles lists i g.bus h.bus → (left lists (shapes end.bus) < left lists (shapes g.bus)) ⊎ SettledBelow (i + suc k) end.bus
      by further (inl fewer) = let more = last.fewer in inl (omega (arith, fewer, more))
      by further (inr s) = elim (further h first.numbered (below s)) [
        | inl fewer ↦ let more = first.fewer in inl (omega (arith, fewer, more))
        | inr all ↦ inr (wider all)
      ]
