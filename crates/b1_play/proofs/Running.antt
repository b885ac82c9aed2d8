-- One more turn of a driver whose command runs, on the whole bus.
use Rattle.std.proofs.Common.{◌≡◌, refl, sym, ap, ◌∙◌, subst, arith, ℕ, ◌+◌, ◌≤◌, true, length, set, Option, Some, None}
use Rattle.std.specs.Prelude.{slice_get}
use Rattle.b1_model.specs.declared.naming.Opening.{Opening}
use Rattle.b1_model.specs.declared.commands.Command.{Command}
use Rattle.b1_model.specs.declared.commands.Command.TheVariants as cmd
use Rattle.b1_model.specs.declared.events.Doing.{Doing}
use Rattle.b1_model.specs.Opening.{IsOpening}
use Rattle.b1_model.specs.MachineParts.{DriverPart, State}
use Rattle.b1_model.specs.MachineTook.{is_await}
use Rattle.b1_model.specs.MachineStep.{Step, Reached, idle_driver}
use Rattle.b1_step.proofs.Steps.{reached_more}
use Rattle.b1_step.proofs.Locality.{own_driver}
use Rattle.b1_inv.specs.Sound.{IsSound}
use Rattle.b1_progress.specs.Level.{level, gain_so_far, gain_after, busy, IsAttempt}
use Rattle.b1_progress.proofs.Attempts.{begins_lower, goes_on_lower, stays_answered}
use Rattle.b1_core.specs.Turns.{Bus, driver_at}
use Rattle.std.specs.Prelude.{if◌then◌else◌}
use Rattle.std.proofs.lemmas.List.{length-set}
use Rattle.b1_step.proofs.Lists.{read_other}
use Rattle.b1_progress.specs.Level.{some_removed}
use Rattle.b1_schedule.specs.Schedule.{Open, Called, Waits}
use Rattle.b1_play.specs.Runs.{IsGood, Follows, is_attempt, RunsOn, RanTo}
use Rattle.b1_play.proofs.Sums.{read_is, set_read, set_set, gain_few}
use Rattle.b1_play.proofs.Parts.{command_now, step_keeps_calls, begins_closed, goes_open, await_is, attempt_keeps_shut, ends_open}

-- a law that the play rests on: every reached state is sound
abbrev pub SoundLaw : Type 0
SoundLaw = (o : Opening) (s : State) → IsOpening o → Reached o s → IsSound o s

-- a bus where a command is to run
pub runs_from : (b : Bus) (p : ℕ) → IsGood b → RunsOn b p b
runs_from b p good = record {
  follows = record { good = good; opening = refl; commands = refl };
  drivers = sym (set_read b.state.drivers p (idle_driver p));
  calls = refl;
  shut = λ is. refl;
  level = λ is. omega (arith, gain_few (driver_at b.state p));
}

module _ (sound : SoundLaw) where
  -- a step of an attempt lowers the level by what it gains
  attempt_lowers : (o : Opening) (s : State) (p : ℕ) (t : State) (command : Option Command) → IsOpening o → Reached o s → ((doing : Doing) → (d : DriverPart) → slice_get s.drivers p ≡ Some d → d.doing ≡ Some doing → doing.command ≡ cmd.Await → IsAttempt d)
      → (step : Step o s p command t) → is_await (command_now step.driver command) ≡ true → level t + gain_after step.driver step.new_driver ≤ level s + gain_so_far step.driver
  attempt_lowers o s p t None opening reached answered step is =
      let found = goes_open step in
      let await : found.0.command ≡ cmd.Await = await_is found.0.command (sym (ap (λ doing. is_await (elim doing [ Some one ↦ one.command | None ↦ cmd.Recv ])) found.1) ∙ is) in
      goes_on_lower o s p t (sound o s opening reached) step (answered found.0 step.driver step.is_driver found.1 await)
  attempt_lowers o s p t (Some one) opening reached answered step is =
      let await : one ≡ cmd.Await = await_is one (sym (ap (λ doing. is_await (elim doing [ Some other ↦ other.command | None ↦ one ])) (begins_closed step)) ∙ is) in
      by_await one await step
    where
      by_await : (one : Command) → one ≡ cmd.Await → (step : Step o s p (Some one) t) → level t + gain_after step.driver step.new_driver ≤ level s + gain_so_far step.driver
      by_await cmd.Await same step = omega (arith, begins_lower o s p t (sound o s opening reached) step)
      by_await other same step = absurd (cc same)

  module _ (b c d : Bus) (p : ℕ) (command : Option Command) (runs : RunsOn b p c) (step : Step c.opening c.state p command d.state) (same_opening : d.opening ≡ c.opening) (same_commands : d.commands ≡ c.commands) where
    pub sound_here : IsSound c.opening c.state
    sound_here = sound c.opening c.state runs.follows.good.opening runs.follows.good.reached

    pub follows_more : Follows b d
    follows_more = record {
      good = record {
        opening = subst IsOpening (sym same_opening) runs.follows.good.opening;
        reached = subst (λ o. Reached o d.state) (sym same_opening) (reached_more c.opening c.state d.state p command runs.follows.good.reached step);
        answered = stays_answered c.opening c.state p command d.state sound_here step runs.follows.good.answered;
      };
      opening = same_opening ∙ runs.follows.opening;
      commands = same_commands ∙ runs.follows.commands;
    }

    pub here : driver_at c.state p ≡ step.driver
    here = read_is c.state.drivers p step.driver (idle_driver p) step.is_driver

    pub there : driver_at d.state p ≡ step.new_driver
    there = read_is d.state.drivers p step.new_driver (idle_driver p) (own_driver step)

    pub drivers_more : d.state.drivers ≡ set b.state.drivers p step.new_driver
    drivers_more = step.drivers ∙ ap (λ ds. set ds p step.new_driver) runs.drivers ∙ set_set b.state.drivers p (driver_at c.state p) step.new_driver

    pub old_calls : step.driver.calls ≡ (driver_at b.state p).calls
    old_calls = sym (ap (λ e. e.calls) here) ∙ runs.calls

    -- the command that steps is an attempt, and so was the open one
    was_attempt : is_await (command_now step.driver command) ≡ true → is_attempt (driver_at c.state p) ≡ true
    was_attempt is = subst (λ e. is_attempt e ≡ true) (sym here) (by_doing step.driver.doing refl)
      where
        by_doing : (doing : Option Doing) → step.driver.doing ≡ doing → is_attempt step.driver ≡ true
        by_doing None same = ap (λ found. elim found [ None ↦ true | Some one ↦ is_await one.command ]) same
        by_doing (Some one) same =
            ap (λ found. elim found [ None ↦ true | Some other ↦ is_await other.command ]) same
            ∙ sym (ap (λ found. is_await (elim found [ Some other ↦ other.command | None ↦ elim command [ None ↦ cmd.Recv | Some other ↦ other ] ])) same) ∙ is

    pub lower_more : is_await (command_now step.driver command) ≡ true → level d.state + gain_after step.driver step.new_driver ≤ level b.state + busy (driver_at b.state p)
    lower_more is =
        let last = attempt_lowers c.opening c.state p d.state command runs.follows.good.opening runs.follows.good.reached (λ doing e at open_is await. runs.follows.good.answered p e doing at open_is await) step is in
        let before = runs.level (was_attempt is) in
        let same : gain_so_far (driver_at c.state p) ≡ gain_so_far step.driver = ap gain_so_far here in
        omega (arith, last, before, same)

    pub shut_more : is_await (command_now step.driver command) ≡ true → step.new_driver.shut ≡ (driver_at b.state p).shut
    shut_more is = attempt_keeps_shut step is ∙ sym (ap (λ e. e.shut) here) ∙ runs.shut (was_attempt is)

    -- an open command is an attempt where the one that stepped was
    pub still_attempt : (doing : Doing) → step.new_driver.doing ≡ Some doing → is_attempt (driver_at d.state p) ≡ is_await (command_now step.driver command)
    still_attempt doing is =
        ap is_attempt there ∙ ap (λ found. elim found [ None ↦ true | Some one ↦ is_await one.command ]) is ∙ ap is_await ((step_keeps_calls step).open_same doing is).1

    pub still_open : (doing : Doing) → step.new_driver.doing ≡ Some doing → RunsOn b p d
    still_open doing is = record {
      follows = follows_more;
      drivers = drivers_more ∙ ap (set b.state.drivers p) (sym there);
      calls = ap (λ e. e.calls) there ∙ ((step_keeps_calls step).open_same doing is).0 ∙ old_calls;
      shut = λ attempt. ap (λ e. e.shut) there ∙ shut_more (sym (still_attempt doing is) ∙ attempt);
      level = λ attempt.
          let lower = lower_more (sym (still_attempt doing is) ∙ attempt) in
          let gain : gain_after step.driver step.new_driver ≡ gain_so_far step.new_driver = ap (λ how. elim how [ Open ↦ gain_so_far step.new_driver | Called ↦ if step.driver.shut then 0 else 1 | Waits removed ↦ some_removed removed ]) (ends_open step.driver step.new_driver (λ none. absurd (cc (none, is)))) in
          let same : gain_so_far (driver_at d.state p) ≡ gain_so_far step.new_driver = ap gain_so_far there in
          omega (arith, lower, gain, same);
    }

    pub now_closed : step.new_driver.doing ≡ None → RanTo b p d
    now_closed is = record {
      follows = follows_more;
      closed = ap (λ e. e.doing) there ∙ is;
      others = λ r apart. ap (λ ds. slice_get ds r) drivers_more ∙ read_other b.state.drivers p r step.new_driver (λ same. apart (sym same));
      as_many = ap length drivers_more ∙ length-set b.state.drivers p step.new_driver;
    }
