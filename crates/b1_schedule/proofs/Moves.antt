-- The schedule goes on with each step, whatever want of memory the state afterwards shows.
use Rattle.std.proofs.Common.{◌≡◌, refl, sym, ap, ◌∙◌, ℕ, zero, suc, ◌+◌, Bool, true, false, List, [], ◌∷◌, slice_get, Option, Some, None, is_none, not, subst, option_map, if◌then◌else◌}
use Rattle.b1_model.specs.declared.naming.Opening.{Opening}
use Rattle.b1_model.specs.declared.commands.Command.{Command}
use Rattle.b1_model.specs.declared.commands.Command.TheVariants as cmd
use Rattle.b1_model.specs.declared.events.Doing.{Doing}
use Rattle.b1_model.specs.MachineParts.{DriverPart, State}
use Rattle.b1_model.specs.MachineOrder.{next_command, no_command_open}
use Rattle.b1_model.specs.declared.events.Action.{Action}
use Rattle.b1_model.specs.Script.{resolved}
use Rattle.b1_model.specs.MachineStep.{Step, stepped_by, stepped_to, target, aimed, begun_by, opening_state, record_of_state}
use Rattle.b1_step.specs.Fixed.{IsNumbered}
use Rattle.b1_step.proofs.Locality.{own_driver}
use Rattle.b1_inv.specs.Sends.{SendsRight}
use Rattle.b1_schedule.specs.Shortage.{Shortage, no_shortage, is_short, shortage_of}
use Rattle.b1_schedule.specs.Schedule.{beginning, with_step, ending, Stage, Turning, Round, Draining, Finished, Stalled, Playing, round_after, drain_after, driver_after, waiting_peers, turned_by, has_step, round_end, round_at, drain_at, moved, moves, start_of, Comes, IsPlay, IsStall}
use Rattle.b1_schedule.specs.Played.{PlayedTo}
use Rattle.b1_schedule.proofs.States.{agreed_before, step_shown, record_shown, nothing_shown}

module _ (o : Opening) (lists : List (List Command)) (turns : List ℕ) where
  -- one more move
  moves_more : (m : Shortage) (n : ℕ) (at : Playing) → moves o lists m (suc n) at ≡ moved o lists m (moves o lists m n at)
  moves_more m zero at = refl
  moves_more m (suc n) at = moves_more m n (moved o lists m at)

  comes_on : (m : Shortage) (at next : Playing) → moved o lists m at ≡ next → Comes o lists turns m at → Comes o lists turns m next
  comes_on m at next is c = record { count = suc c.count; is_at = moves_more m c.count (start_of o turns) ∙ ap (moved o lists m) c.is_at ∙ is }

  pub starts : PlayedTo o lists turns (opening_state o) (Turning turns)
  starts m agreed = record { count = 0; is_at = refl }

  -- a move that changes no state
  pub goes_to : (s : State) (from to : Stage) → ((m : Shortage) → moved o lists m (record { state = s; stage = from }) ≡ record { state = s; stage = to }) → PlayedTo o lists turns s from → PlayedTo o lists turns s to
  goes_to s from to is played m agreed = comes_on m (record { state = s; stage = from }) (record { state = s; stage = to }) (is m) (played m agreed)

  -- a move with a step
  module _ {s : State} {p : ℕ} {c : Option Command} {t : State} (sends : SendsRight s) (step : Step o s p c t) where
    pub steps_to : (from to : Stage) → ((m : Shortage) → with_step o m p c step.driver s ≡ t → moved o lists m (record { state = s; stage = from }) ≡ record { state = t; stage = to }) → PlayedTo o lists turns s from → PlayedTo o lists turns t to
    steps_to from to is played m agreed = comes_on m (record { state = s; stage = from }) (record { state = t; stage = to }) (is m stepped_is) (played m (agreed_before m step sends agreed))
      where
        stepped_is : with_step o m p c step.driver s ≡ t
        stepped_is = ap (λ u. elim u [ None ↦ s | Some v ↦ v ]) (step_shown m step sends agreed)

-- ---- what begins

-- a step with the next command is one that there was
pub has_one : (next : Option Command) (d : DriverPart) (doing : Option Doing) (to : Action × ℕ) → option_map aimed (begun_by d doing (elim doing [ Some one ↦ None | None ↦ elim next [ None ↦ None | Some c ↦ Some (resolved c d.calls) ] ])) ≡ Some to → elim doing [ Some one ↦ true | None ↦ not (is_none next) ] ≡ true
has_one next d (Some one) to is = refl
has_one None d None to is = absurd (cc is)
has_one (Some c) d None to is = refl

-- a driver without a step to do does none
no_step : (o : Opening) (m : Shortage) (lists : List (List Command)) (p : ℕ) (d : DriverPart) (s : State) → slice_get s.drivers p ≡ Some d → has_step lists p d ≡ false → with_step o m p (beginning (next_command lists p d) d) d s ≡ s
no_step o m lists p d s is_driver none = by_doing d.doing (next_command lists p d) refl none
  where
    by_doing : (doing : Option Doing) (next : Option Command) → d.doing ≡ doing → elim doing [ Some one ↦ true | None ↦ not (is_none next) ] ≡ false → with_step o m p (elim d.doing [ Some one ↦ None | None ↦ elim next [ None ↦ None | Some c ↦ Some (resolved c d.calls) ] ]) d s ≡ s
    by_doing (Some one) next is none = absurd (cc none)
    by_doing None (Some c) is none = absurd (cc none)
    by_doing None None is none =
        ap (λ doing. with_step o m p (elim doing [ Some one ↦ None | None ↦ None ]) d s) is
        ∙ ap (λ found. elim (stepped_by o (is_short m d None) p None s found) [ None ↦ s | Some t ↦ t ]) is_driver
        ∙ ap (λ doing. elim (stepped_to o (is_short m d None) p None s d (option_map aimed (begun_by d doing None))) [ None ↦ s | Some t ↦ t ]) is

-- ---- each move

-- a state at a stage
abbrev at_stage : Stage → State → Playing
at_stage stage s = record { state = s; stage = stage }

module _ (o : Opening) (lists : List (List Command)) (turns : List ℕ) (s : State) where
  module _ (p : ℕ) (rest : List ℕ) where
    pub turn_idle : (d : DriverPart) → slice_get s.drivers p ≡ Some d → has_step lists p d ≡ false → PlayedTo o lists turns s (Turning (p ∷ rest)) → PlayedTo o lists turns s (Turning rest)
    turn_idle d is_driver none = goes_to o lists turns s (Turning (p ∷ rest)) (Turning rest)
        (λ m. ap (λ found. at_stage (Turning rest) (turned_by o lists m p s found)) is_driver ∙ ap (at_stage (Turning rest)) (no_step o m lists p d s is_driver none))

    pub turn_step : (c : Option Command) (t : State) → SendsRight s → (step : Step o s p c t) → c ≡ beginning (next_command lists p step.driver) step.driver → PlayedTo o lists turns s (Turning (p ∷ rest)) → PlayedTo o lists turns t (Turning rest)
    turn_step c t sends step begins = steps_to o lists turns sends step (Turning (p ∷ rest)) (Turning rest)
        (λ m is. ap (λ found. at_stage (Turning rest) (turned_by o lists m p s found)) step.is_driver
        ∙ ap (λ b. at_stage (Turning rest) (with_step o m p b step.driver s)) (sym begins)
        ∙ ap (at_stage (Turning rest)) is)

  pub turns_over : PlayedTo o lists turns s (Turning []) → PlayedTo o lists turns s (Round 0 false)
  turns_over = goes_to o lists turns s (Turning []) (Round 0 false) (λ m. refl)

  module _ (p : ℕ) (gained : Bool) where
    -- a round at a driver's part, by whether it has a step to do
    abbrev round_by : DriverPart → Bool → State → Playing
    round_by d has t = if has then record { state = t; stage = round_after p gained (ending d (driver_after t p d)) } else record { state = s; stage = Round (p + 1) gained }

    pub round_step : (c : Option Command) (t : State) → SendsRight s → (step : Step o s p c t) → c ≡ beginning (next_command lists p step.driver) step.driver → PlayedTo o lists turns s (Round p gained) → PlayedTo o lists turns t (round_after p gained (ending step.driver step.new_driver))
    round_step c t sends step begins = steps_to o lists turns sends step (Round p gained) (round_after p gained (ending step.driver step.new_driver))
        (λ m is. ap (round_at o lists m p gained s) step.is_driver
        ∙ ap (λ b. round_by step.driver (has_step lists p step.driver) (with_step o m p b step.driver s)) (sym begins)
        ∙ ap (round_by step.driver (has_step lists p step.driver)) is
        ∙ ap (λ has. round_by step.driver has t) has
        ∙ ap (λ found. at_stage (round_after p gained (ending step.driver (elim found [ None ↦ step.driver | Some e ↦ e ]))) t) (own_driver step))
      where
        has : has_step lists p step.driver ≡ true
        has = has_one (next_command lists p step.driver) step.driver step.driver.doing (step.action, step.at) (subst (λ b. target step.driver b ≡ Some (step.action, step.at)) begins step.is_target)

    pub round_passed : (d : DriverPart) → slice_get s.drivers p ≡ Some d → has_step lists p d ≡ false → PlayedTo o lists turns s (Round p gained) → PlayedTo o lists turns s (Round (p + 1) gained)
    round_passed d is_driver none = goes_to o lists turns s (Round p gained) (Round (p + 1) gained)
        (λ m. ap (round_at o lists m p gained s) is_driver ∙ ap (λ has. round_by d has (with_step o m p (beginning (next_command lists p d) d) d s)) none)

    pub round_over : slice_get s.drivers p ≡ None → PlayedTo o lists turns s (Round p gained) → PlayedTo o lists turns s (round_end lists s gained)
    round_over past = goes_to o lists turns s (Round p gained) (round_end lists s gained) (λ m. ap (round_at o lists m p gained s) past)

    -- a pass of the drain, by whether its driver has disconnected
    abbrev drain_by : DriverPart → Bool → State → Playing
    drain_by d shut t = if shut then record { state = s; stage = Draining (p + 1) gained } else record { state = t; stage = drain_after p gained (ending d (driver_after t p d)) }

    pub drain_step : (c : Option Command) (t : State) → SendsRight s → (step : Step o s p c t) → step.driver.shut ≡ false → c ≡ beginning (Some cmd.Await) step.driver → PlayedTo o lists turns s (Draining p gained) → PlayedTo o lists turns t (drain_after p gained (ending step.driver step.new_driver))
    drain_step c t sends step there begins = steps_to o lists turns sends step (Draining p gained) (drain_after p gained (ending step.driver step.new_driver))
        (λ m is. ap (drain_at o m p gained s) step.is_driver
        ∙ ap (λ b. drain_by step.driver step.driver.shut (with_step o m p b step.driver s)) (sym begins)
        ∙ ap (drain_by step.driver step.driver.shut) is
        ∙ ap (λ shut. drain_by step.driver shut t) there
        ∙ ap (λ found. at_stage (drain_after p gained (ending step.driver (elim found [ None ↦ step.driver | Some e ↦ e ]))) t) (own_driver step))

    pub drain_passed : (d : DriverPart) → slice_get s.drivers p ≡ Some d → d.shut ≡ true → PlayedTo o lists turns s (Draining p gained) → PlayedTo o lists turns s (Draining (p + 1) gained)
    drain_passed d is_driver shut = goes_to o lists turns s (Draining p gained) (Draining (p + 1) gained)
        (λ m. ap (drain_at o m p gained s) is_driver ∙ ap (λ b. drain_by d b (with_step o m p (beginning (Some cmd.Await) d) d s)) shut)

  pub drain_again : (p : ℕ) → slice_get s.drivers p ≡ None → PlayedTo o lists turns s (Draining p true) → PlayedTo o lists turns s (Draining 0 false)
  drain_again p past = goes_to o lists turns s (Draining p true) (Draining 0 false) (λ m. ap (drain_at o m p true s) past)

  pub drain_over : (p : ℕ) → slice_get s.drivers p ≡ None → PlayedTo o lists turns s (Draining p false) → PlayedTo o lists turns s Finished
  drain_over p past = goes_to o lists turns s (Draining p false) Finished (λ m. ap (drain_at o m p false s) past)

  -- ---- the ends

  pub finished : IsNumbered o s → no_command_open s ≡ true → PlayedTo o lists turns s Finished → IsPlay o lists turns (record_of_state s)
  finished numbered none played = record { state = s; comes = played (shortage_of (record_of_state s)) (record_shown o s numbered none); record_is = refl }

  pub stalled : IsNumbered o s → no_command_open s ≡ true → ((p k : ℕ) (place : Option ℕ) → shortage_of (record_of_state s) p k place ≡ false) → PlayedTo o lists turns s Stalled → IsStall o lists turns (waiting_peers lists s) (record_of_state s)
  stalled numbered none nowhere played = record { state = s; comes = played no_shortage (nothing_shown o s numbered none nowhere); waiting_is = refl; record_is = refl }
