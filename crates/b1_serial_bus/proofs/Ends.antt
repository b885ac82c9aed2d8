-- Every script ends or stalls within so many rounds and passes, and comes to one end.
use Rattle.std.specs.Prelude.{◌≡◌, refl, ℕ, zero, suc, ◌+◌, ◌-◌, ◌<◌, ◌≤◌, ◌⊎◌, Bool, true, false, if◌then◌else◌, List, [], ◌∷◌, length, slice_get, Option, Some}
use Rattle.std.specs.List.{range_with_len}
use Rattle.std.proofs.Common.{arith, inl, inr, sym, ap, ◌∙◌}
use Rattle.std.proofs.lemmas.Bool.{cases_lt}
use Rattle.std.proofs.lemmas.List.{length-map}
use Rattle.std.proofs.lemmas.Option.{slice_get_within}
use Rattle.b1_model.specs.declared.commands.Command.{Command}
use Rattle.b1_model.specs.declared.naming.Opening.{Opening}
use Rattle.b1_schedule.specs.Shortage.{Shortage}
use Rattle.b1_serial_bus.specs.Parts.{Part, Bus}
use Rattle.b1_serial_bus.specs.Opening.{opened}
use Rattle.b1_serial_bus.specs.Rounds.{Going, round}
use Rattle.b1_serial_bus.specs.Drain.{pass}
use Rattle.b1_serial_bus.specs.Serial.{Stage, Rounds, Passes, Finished, Stalled, Play, waiting_peers, is_over, after_round, after_pass, moved, moves}
use Rattle.b1_serial_bus.specs.Report.{command_count, started, serial}
use Rattle.b1_serial_bus.proofs.Shapes.{shape, shapes}
use Rattle.b1_serial_bus.proofs.Left.{left, AreNumbered}
use Rattle.b1_serial_bus.proofs.Settled.{Settled, rounds_settled}
use Rattle.b1_serial_bus.proofs.Rounded.{Lowers, rounds_lower, rounds_settle, me_is}
use Rattle.b1_serial_bus.proofs.Emptied.{second_pass}
use Rattle.b1_serial_bus.proofs.Opened.{opened_numbered, opened_left}

-- the bus at a stage
abbrev pub at_stage : Bus → Stage → Play
at_stage bus stage = record { bus = bus; stage = stage }

module _ (lists : List (List Command)) (m : Shortage) where
  -- ---- what is over stays

  pub stays : (n : ℕ) (bus : Bus) (stage : Stage) → is_over stage ≡ true → moves lists m n (at_stage bus stage) ≡ at_stage bus stage
  stays zero bus stage over = refl
  stays (suc n) bus Finished over = stays n bus Finished over
  stays (suc n) bus Stalled over = stays n bus Stalled over
  stays (suc n) bus Rounds over = cc
  stays (suc n) bus Passes over = cc

  stays_over : (n : ℕ) (bus : Bus) (stage : Stage) → is_over stage ≡ true → is_over (moves lists m n (at_stage bus stage)).stage ≡ true
  stays_over n bus stage over = rw (stays n bus stage over) over

  moves_on : (a b : ℕ) (at : Play) → moves lists m (a + b) at ≡ moves lists m b (moves lists m a at)
  moves_on zero b at = let none : zero + b ≡ b = omega arith in ap (λ n. moves lists m n at) none
  moves_on (suc a) b at = let more : suc a + b ≡ suc (a + b) = omega arith in ap (λ n. moves lists m n at) more ∙ moves_on a b (moved lists m at)

  -- ---- the drain

  -- the drain after a pass
  drained : (n : ℕ) (g : Going) → g.gained ≡ false → is_over (moves lists m n (after_pass g)).stage ≡ true
  drained n g none = rw none (stays_over n g.bus Finished refl)

  pub passes_end : (n : ℕ) (bus : Bus) → is_over (moves lists m (suc (suc n)) (at_stage bus Passes)).stage ≡ true
  passes_end n bus = by (pass bus).gained
    where
      by : (b : Bool) → is_over (moves lists m (suc n) (at_stage (pass bus).bus (if b then Passes else Finished))).stage ≡ true
      by true = drained n (pass (pass bus).bus) (second_pass bus)
      by false = stays_over (suc n) (pass bus).bus Finished refl

  passes_over : (n : ℕ) (bus : Bus) → 2 ≤ n → is_over (moves lists m n (at_stage bus Passes)).stage ≡ true
  passes_over zero bus enough = absurd (omega (arith, enough))
  passes_over (suc zero) bus enough = absurd (omega (arith, enough))
  passes_over (suc (suc n)) bus enough = passes_end n bus

  -- ---- the rounds

  -- the beginning of a round
  abbrev begin : Bus → Going
  begin bus = record { bus = bus; gained = false }

  -- every peer is settled
  abbrev AllSettled : Bus → Type 0
  AllSettled bus = (q : ℕ) (y : Part) → slice_get bus q ≡ Some y → Settled lists y

  quiet_round : (bus : Bus) → AreNumbered (shapes bus) → AllSettled bus → round lists m bus ≡ begin bus
  quiet_round bus numbered settled = rounds_settled lists m (range_with_len 0 (length bus)) (begin bus) (λ p x e. (me_is lists m bus p x numbered e, settled p x e))

  -- where some peer waits and all are settled, the next round stalls
  settled_end : (n : ℕ) (bus : Bus) (p : ℕ) (rest : List ℕ) → AreNumbered (shapes bus) → AllSettled bus → waiting_peers lists bus ≡ p ∷ rest → 1 ≤ n → is_over (moves lists m n (at_stage bus Rounds)).stage ≡ true
  settled_end zero bus p rest numbered settled waiting enough = absurd (omega (arith, enough))
  settled_end (suc n) bus p rest numbered settled waiting enough =
      let stalls : after_round lists (round lists m bus) ≡ at_stage bus Stalled = ap (after_round lists) (quiet_round bus numbered settled) ∙ rw waiting refl in
      ap (λ (at : Play). is_over (moves lists m n at).stage) stalls ∙ stays_over n bus Stalled refl

  -- what a round does: fewer are left, or all are settled
  round_does : (bus : Bus) → AreNumbered (shapes bus) → (left lists (shapes (round lists m bus).bus) < left lists (shapes bus)) ⊎ AllSettled (round lists m bus).bus
  round_does bus numbered = elim (rounds_settle lists m 0 (length bus) (begin bus) numbered (λ q y below e. absurd (omega (arith, below)))) [
    | inl fewer ↦ inl fewer
    | inr settled ↦ inr (all settled)
  ]
    where
      all : ((q : ℕ) (y : Part) → q < 0 + length bus → slice_get (round lists m bus).bus q ≡ Some y → Settled lists y) → AllSettled (round lists m bus).bus
      all settled q y e =
          let within = slice_get_within (round lists m bus).bus q y e in
          let many = (rounds_lower lists m (range_with_len 0 (length bus)) (begin bus) numbered).as_many in
          let after = length-map (round lists m bus).bus shape in
          let before = length-map bus shape in
          settled q y (omega (arith, within, many, after, before)) e

  -- from a round on, three moves more than commands are left lead to an end
  rounds_end : (n : ℕ) (bus : Bus) → AreNumbered (shapes bus) → left lists (shapes bus) + 3 ≤ n → is_over (moves lists m n (at_stage bus Rounds)).stage ≡ true
  rounds_end zero bus numbered enough = absurd (omega (arith, enough))
  rounds_end (suc n) bus numbered enough = by (λ next fine few. rounds_end n next fine few) (waiting_peers lists g.bus) refl g.gained
    where
      g : Going
      g = round lists m bus

      lower : Lowers lists bus g.bus
      lower = rounds_lower lists m (range_with_len 0 (length bus)) (begin bus) numbered

      after : List ℕ → Bool → Play
      after waiting gained = elim waiting [ [] ↦ at_stage g.bus Passes | p ∷ rest ↦ at_stage g.bus (if gained then Rounds else Stalled) ]

      by : ((next : Bus) → AreNumbered (shapes next) → left lists (shapes next) + 3 ≤ n → is_over (moves lists m n (at_stage next Rounds)).stage ≡ true) → (waiting : List ℕ) → waiting_peers lists g.bus ≡ waiting → (gained : Bool) → is_over (moves lists m n (after waiting gained)).stage ≡ true
      by further [] waiting gained = passes_over n g.bus (omega (arith, enough))
      by further (p ∷ rest) waiting false = stays_over n g.bus Stalled refl
      by further (p ∷ rest) waiting true = elim (round_does bus numbered) [
        | inl fewer ↦ further g.bus lower.numbered (omega (arith, fewer, enough))
        | inr settled ↦ settled_end n g.bus p rest lower.numbered settled waiting (omega (arith, enough))
      ]

  -- every script ends or stalls
  pub serial_over : (o : Opening) → is_over (serial o lists m).stage ≡ true
  serial_over o = let few = opened_left o lists in rounds_end (command_count lists + 3) (opened o) (opened_numbered o) (omega (arith, few))

  -- and however many moves lead to an end, it is this one
  pub one_end : (o : Opening) (n : ℕ) → is_over (moves lists m n (started o)).stage ≡ true → moves lists m n (started o) ≡ serial o lists m
  one_end o n over = elim (cases_lt n (command_count lists + 3)) [
    | inl few ↦ sym (later n (command_count lists + 3) (omega (arith, few)) over)
    | inr many ↦ later (command_count lists + 3) n many (serial_over o)
  ]
    where
      later : (a b : ℕ) → a ≤ b → is_over (moves lists m a (started o)).stage ≡ true → moves lists m b (started o) ≡ moves lists m a (started o)
      later a b within over =
          let whole : b ≡ a + (b - a) = omega (arith, within) in
          let at = moves lists m a (started o) in
          ap (λ k. moves lists m k (started o)) whole ∙ moves_on a (b - a) (started o) ∙ stays (b - a) at.bus at.stage over

-- the end depends on nothing but the script and the places where memory is wanting
pub same_end : (o : Opening) (lists : List (List Command)) (m w : Shortage) → ((p k : ℕ) (place : Option ℕ) → m p k place ≡ w p k place) → serial o lists m ≡ serial o lists w
same_end o lists m w same = ap (λ (x : Shortage). serial o lists x) (λ i p k place. same p k place i)
