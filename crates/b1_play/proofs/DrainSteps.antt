-- A turn of a peer in the drain: where its attempt stands afterwards.
use Rattle.std.proofs.Common.{◌≡◌, ◌≢◌, refl, sym, ap, ◌∙◌, subst, arith, ℕ, ◌+◌, ◌≤◌, ◌<◌, Bool, true, false, length, Option, Some, None}
use Rattle.std.specs.Prelude.{if◌then◌else◌}
use Rattle.b1_model.specs.declared.commands.Command.{Command}
use Rattle.b1_model.specs.declared.commands.Command.TheVariants as cmd
use Rattle.b1_model.specs.declared.events.Doing.{Doing}
use Rattle.b1_model.specs.MachineParts.{DriverPart}
use Rattle.b1_model.specs.MachineTook.{is_await}
use Rattle.b1_model.specs.MachineStep.{Step, idle_driver}
use Rattle.b1_schedule.specs.Schedule.{beginning, Draining, Ending, Open, Called, Waits, ending, drain_after}
use Rattle.b1_schedule.specs.Played.{PlayedTo}
use Rattle.b1_schedule.proofs.Moves.{drain_step}
use Rattle.b1_progress.specs.Level.{level, some_removed, gain_so_far, gain_after, busy}
use Rattle.b1_core.specs.Turns.{Bus, driver_at, drained, Stands, Drains}
use Rattle.b1_core.specs.declared.turn.Turn.{Turn}
use Rattle.b1_core.specs.declared.turn.Turn.TheVariants as turn
use Rattle.b1_play.specs.Runs.{IsGood, IsClosed, Plays, RunsOn, is_attempt, InDrain, DrainTurns, work_after}
use Rattle.b1_play.proofs.Sums.{read_is}
use Rattle.b1_play.proofs.Parts.{command_now, ends_open, ends_called, ends_waiting}
use Rattle.b1_play.proofs.Running.{SoundLaw, runs_from, sound_here, here, there, old_calls, lower_more, shut_more, still_open, still_attempt, now_closed}
use Rattle.b1_play.proofs.RoundSteps.{EndLaw, open_is, work_falls, none_begins}

-- what begins is the same by both spellings
drained_is : (d : DriverPart) → drained d ≡ beginning (Some cmd.Await) d
drained_is d = by_doing d.doing
  where
    by_doing : (doing : Option Doing) → ◌≡◌ {A = Option Command} (elim doing [ None ↦ Some cmd.Await | Some one ↦ None ]) (elim doing [ Some one ↦ None | None ↦ Some cmd.Await ])
    by_doing None = refl
    by_doing (Some one) = refl

-- what begins in the drain, and which command steps, by what is open
abbrev drained_by : Option Doing → Option Command
drained_by doing = elim doing [ None ↦ Some cmd.Await | Some one ↦ None ]

abbrev now_by : Option Doing → Option Command → Command
now_by doing command = elim doing [ Some one ↦ one.command | None ↦ elim command [ None ↦ cmd.Recv | Some one ↦ one ] ]

-- what steps in the drain is an attempt
steps_attempt : (f : DriverPart) → is_attempt f ≡ true → is_await (command_now f (drained f)) ≡ true
steps_attempt f is = by_doing f.doing is
  where
    by_doing : (doing : Option Doing) → elim doing [ None ↦ true | Some one ↦ is_await one.command ] ≡ true → is_await (now_by doing (drained_by doing)) ≡ true
    by_doing None is = refl
    by_doing (Some one) is = is

module _ (sound : SoundLaw) (b c d : Bus) (p : ℕ) (command : Option Command) (runs : RunsOn b p c) (step : Step c.opening c.state p command d.state) (same_opening : d.opening ≡ c.opening) (same_commands : d.commands ≡ c.commands) where
  module _ (begins : command ≡ drained step.driver) (was : is_attempt (driver_at c.state p) ≡ true) (closed : IsClosed b p) (unshut : (driver_at b.state p).shut ≡ false) (played : (gained : Bool) → Plays b (Draining p gained) c (Draining p gained)) where
    attempt : is_await (command_now step.driver command) ≡ true
    attempt = ap (λ one. is_await (command_now step.driver one)) begins ∙ steps_attempt step.driver (sym (ap is_attempt (here sound b c d p command runs step same_opening same_commands)) ∙ was)

    unshut_now : step.driver.shut ≡ false
    unshut_now = sym (ap (λ e. e.shut) (here sound b c d p command runs step same_opening same_commands)) ∙ runs.shut was ∙ unshut

    plays_to : (how : Ending) → ending step.driver step.new_driver ≡ how → (gained : Bool) → Plays b (Draining p gained) d (drain_after p gained how)
    plays_to how is gained turns h =
        subst (λ one. PlayedTo d.opening d.commands turns d.state (drain_after p gained one)) is
        (subst (λ o. PlayedTo o d.commands turns d.state (drain_after p gained (ending step.driver step.new_driver))) (sym same_opening)
        (subst (λ lists. PlayedTo c.opening lists turns d.state (drain_after p gained (ending step.driver step.new_driver))) (sym same_commands)
        (drain_step c.opening c.commands turns c.state p gained command d.state (sound_here sound b c d p command runs step same_opening same_commands).sends step unshut_now (begins ∙ drained_is step.driver) (played gained turns h))))

    lower : (how : Ending) (gain : ℕ) → ending step.driver step.new_driver ≡ how → elim how [ Open ↦ gain_so_far step.new_driver | Called ↦ 1 | Waits removed ↦ some_removed removed ] ≡ gain → level d.state + gain ≤ level b.state
    lower how gain is shows =
        let low = lower_more sound b c d p command runs step same_opening same_commands attempt in
        let same : gain_after step.driver step.new_driver ≡ gain =
        ap (λ one. elim one [ Open ↦ gain_so_far step.new_driver | Called ↦ if step.driver.shut then 0 else 1 | Waits removed ↦ some_removed removed ]) is
        ∙ ap (λ shut. elim how [ Open ↦ gain_so_far step.new_driver | Called ↦ if shut then 0 else 1 | Waits removed ↦ some_removed removed ]) unshut_now
        ∙ shows in
        let idle : busy (driver_at b.state p) ≡ 0 = ap (λ found. elim found [ None ↦ 0 | Some one ↦ 1 ]) closed in
        omega (arith, low, same, idle)

    old_length : length step.driver.calls ≡ length (driver_at b.state p).calls
    old_length = ap length (old_calls sound b c d p command runs step same_opening same_commands)

    new_length : length (driver_at d.state p).calls ≡ length step.new_driver.calls
    new_length = ap (λ e. length e.calls) (there sound b c d p command runs step same_opening same_commands)

    pub drain_more : (how : Turn) → Stands step.driver how step.new_driver → DrainTurns b p how d
    drain_more turn.Idle stands = absurd stands
    drain_more turn.Moved stands =
        let one = open_is step.new_driver.doing stands in
        record {
          runs = still_open sound b c d p command runs step same_opening same_commands one.0 one.1;
          attempt = still_attempt sound b c d p command runs step same_opening same_commands one.0 one.1 ∙ attempt;
          played = plays_to Open (ends_open step.driver step.new_driver stands);
          is_open = λ none. stands (sym (ap (λ e. e.doing) (there sound b c d p command runs step same_opening same_commands)) ∙ none);
        }
    drain_more turn.Ended stands =
        let is = ends_called step.driver step.new_driver stands.0 stands.1 in
        record {
          ran = now_closed sound b c d p command runs step same_opening same_commands stands.0;
          shut = ap (λ e. e.shut) (there sound b c d p command runs step same_opening same_commands) ∙ shut_more sound b c d p command runs step same_opening same_commands attempt;
          longer = omega (arith, new_length, old_length, stands.1);
          played = plays_to Called is;
          lower = lower Called 1 is refl;
        }
    drain_more (turn.Waiting front removed) stands =
        let is = ends_waiting step.driver step.new_driver front removed stands.0 stands.1 stands.2 in
        record {
          ran = now_closed sound b c d p command runs step same_opening same_commands stands.0;
          shut = ap (λ e. e.shut) (there sound b c d p command runs step same_opening same_commands) ∙ shut_more sound b c d p command runs step same_opening same_commands attempt;
          longer = omega (arith, new_length, old_length, ap length stands.1);
          played = plays_to (Waits removed) is;
          lower = lower (Waits removed) (some_removed removed) is refl;
        }

-- ---- the first turn of an attempt, and each further one

module _ (sound : SoundLaw) (b : Bus) (p : ℕ) (closed : IsClosed b p) (unshut : (driver_at b.state p).shut ≡ false) where
  pub first_try : IsGood b → (how : Turn) (c : Bus) → Drains b p how c → DrainTurns b p how c
  first_try good how c is =
      drain_more sound b b c p is.command (runs_from b p good) is.step is.same_opening is.same_commands is.is_command (ap (λ found. elim found [ None ↦ true | Some one ↦ is_await one.command ]) closed) closed unshut (λ gained turns h. h) how is.stands

  pub further_try : (c : Bus) (within : InDrain b p c) (how : Turn) (d : Bus) → Drains c p how d → DrainTurns b p how d
  further_try c within how d is =
      drain_more sound b c d p is.command within.runs is.step is.same_opening is.same_commands is.is_command within.attempt closed unshut within.played how is.stands

module _ (sound : SoundLaw) (ends : EndLaw) (c d : Bus) (p : ℕ) (good : IsGood c) (within : p < length c.opening.peers) where
  pub try_falls : (how : Turn) → Drains c p how d → (driver_at c.state p).doing ≢ None → work_after how d p < work_after turn.Moved c p
  try_falls turn.Idle is is_open = absurd is.stands
  try_falls turn.Ended is is_open = omega arith
  try_falls (turn.Waiting front removed) is is_open = omega arith
  try_falls turn.Moved is is_open = work_falls sound ends c d p good within is.command is.step none is.stands
    where
      was_open : is.step.driver.doing ≢ None
      was_open closed = is_open (ap (λ e. e.doing) (read_is c.state.drivers p is.step.driver (idle_driver p) is.step.is_driver) ∙ closed)

      none : is.command ≡ None
      none = is.is_command ∙ none_begins is.step.driver.doing (Some cmd.Await) was_open
