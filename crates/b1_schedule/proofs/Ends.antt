-- The moves of a schedule depend on nothing but the places where memory is wanting, and stay at an end.
use Rattle.std.proofs.Common.{◌≡◌, refl, sym, ap, ◌∙◌, arith, ℕ, zero, suc, ◌+◌, Bool, false, if◌then◌else◌, List, [], ◌∷◌, slice_get, Option, Some, None}
use Rattle.b1_model.specs.declared.commands.Command.{Command}
use Rattle.b1_model.specs.declared.commands.Command.TheVariants as cmd
use Rattle.b1_model.specs.declared.naming.Opening.{Opening}
use Rattle.b1_model.specs.declared.events.Doing.{Doing}
use Rattle.b1_model.specs.MachineParts.{DriverPart, State}
use Rattle.b1_model.specs.MachineStep.{begun, stepped}
use Rattle.b1_model.specs.MachineOrder.{next_command}
use Rattle.b1_schedule.specs.Shortage.{Shortage, is_short, is_short_now}
use Rattle.b1_schedule.specs.Schedule.{Stage, Turning, Round, Draining, Finished, Stalled, Playing, Comes, beginning, with_step, turned_by, has_step, ending, driver_after, round_after, round_at, drain_after, drain_at, moved, moves, start_of}

-- a state at a stage
abbrev pub at_stage : State → Stage → Playing
at_stage s stage = record { state = s; stage = stage }

-- the ends of a schedule
pub data IsEnd : Stage → Type 0 where
  finished : IsEnd Finished
  stalled : IsEnd Stalled

module _ (o : Opening) (lists : List (List Command)) where
  -- a schedule goes on from where it came to
  moves_on : (m : Shortage) (a b : ℕ) (at : Playing) → moves o lists m (a + b) at ≡ moves o lists m b (moves o lists m a at)
  moves_on m zero b at = let none : zero + b ≡ b = omega arith in ap (λ n. moves o lists m n at) none
  moves_on m (suc a) b at = let more : suc a + b ≡ suc (a + b) = omega arith in ap (λ n. moves o lists m n at) more ∙ moves_on m a b (moved o lists m at)

  stays : (m : Shortage) (n : ℕ) (s : State) (stage : Stage) → IsEnd stage → moves o lists m n (at_stage s stage) ≡ at_stage s stage
  stays m zero s stage end = refl
  stays m (suc n) s Finished finished = stays m n s Finished finished
  stays m (suc n) s Stalled stalled = stays m n s Stalled stalled
  stays m (suc n) s (Turning _) end = elim end [ ]
  stays m (suc n) s (Round _ _) end = elim end [ ]
  stays m (suc n) s (Draining _ _) end = elim end [ ]

  module _ (m w : Shortage) (same : (p k : ℕ) (place : Option ℕ) → m p k place ≡ w p k place) where
    same_short : (d : DriverPart) (command : Option Command) → is_short m d command ≡ is_short w d command
    same_short d command = by (begun d command)
      where
        now : (e : DriverPart) (doing : Option Doing) → is_short_now m e doing ≡ is_short_now w e doing
        now e None = refl
        now e (Some doing) = same _ _ _

        told : Shortage → Option DriverPart → Bool
        told x found = elim found [ None ↦ false | Some e ↦ is_short_now x e e.doing ]

        by : (found : Option DriverPart) → told m found ≡ told w found
        by None = refl
        by (Some e) = now e e.doing

    same_step : (p : ℕ) (command : Option Command) (d : DriverPart) (s : State) → with_step o m p command d s ≡ with_step o w p command d s
    same_step p command d s = ap (λ (short : Bool). elim (stepped o short p command s) [ None ↦ s | Some t ↦ t ]) (same_short d command)

    same_turn : (p : ℕ) (s : State) (d : Option DriverPart) → turned_by o lists m p s d ≡ turned_by o lists w p s d
    same_turn p s None = refl
    same_turn p s (Some d) = same_step p (beginning (next_command lists p d) d) d s

    same_round : (p : ℕ) (gained : Bool) (s : State) (d : Option DriverPart) → round_at o lists m p gained s d ≡ round_at o lists w p gained s d
    same_round p gained s None = refl
    same_round p gained s (Some d) =
        ap (λ (t : State). if has_step lists p d then record { state = t; stage = round_after p gained (ending d (driver_after t p d)) } else record { state = s; stage = Round (p + 1) gained })
        (same_step p (beginning (next_command lists p d) d) d s)

    same_drain : (p : ℕ) (gained : Bool) (s : State) (d : Option DriverPart) → drain_at o m p gained s d ≡ drain_at o w p gained s d
    same_drain p gained s None = refl
    same_drain p gained s (Some d) =
        ap (λ (t : State). if d.shut then record { state = s; stage = Draining (p + 1) gained } else record { state = t; stage = drain_after p gained (ending d (driver_after t p d)) })
        (same_step p (beginning (Some cmd.Await) d) d s)

    same_move : (s : State) (stage : Stage) → moved o lists m (at_stage s stage) ≡ moved o lists w (at_stage s stage)
    same_move s (Turning []) = refl
    same_move s (Turning (p ∷ rest)) = ap (λ (t : State). record { state = t; stage = Turning rest }) (same_turn p s (slice_get s.drivers p))
    same_move s (Round p gained) = same_round p gained s (slice_get s.drivers p)
    same_move s (Draining p gained) = same_drain p gained s (slice_get s.drivers p)
    same_move s Finished = refl
    same_move s Stalled = refl

    same_moves : (n : ℕ) (at : Playing) → moves o lists m n at ≡ moves o lists w n at
    same_moves zero at = refl
    same_moves (suc n) at = ap (λ (next : Playing). moves o lists m n next) (same_move at.state at.stage) ∙ same_moves n (moved o lists w at)

    -- two ends of one schedule are the same
    pub one_end : (turns : List ℕ) (s t : State) (x y : Stage) → IsEnd x → IsEnd y → Comes o lists turns m (at_stage s x) → Comes o lists turns w (at_stage t y) → at_stage s x ≡ at_stage t y
    one_end turns s t x y ends_x ends_y a b =
        let start = start_of o turns in
        let either : a.count + b.count ≡ b.count + a.count = omega arith in
        sym (stays m b.count s x ends_x)
        ∙ sym (ap (λ (at : Playing). moves o lists m b.count at) a.is_at)
        ∙ sym (moves_on m a.count b.count start)
        ∙ ap (λ n. moves o lists m n start) either
        ∙ moves_on m b.count a.count start
        ∙ ap (λ (at : Playing). moves o lists m a.count at) (same_moves b.count start ∙ b.is_at)
        ∙ stays m a.count t y ends_y

pub apart : Finished ≡ Stalled → ⊥
apart e = cc
