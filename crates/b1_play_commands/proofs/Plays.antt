-- Every move of a schedule keeps each driver on its list of commands.
use Rattle.std.proofs.Common.{◌≡◌, refl, sym, ap, ◌∙◌, inl, inr, subst, ℕ, zero, suc, ◌+◌, ◌<◌, Bool, true, false, cond, not, List, [], ◌∷◌, filter, slice_get, length, Option, Some, None, is_none, is_some}
use Rattle.std.specs.List.{range_with_len}
use Rattle.std.proofs.lemmas.Bool.{cond_both}
use Rattle.std.proofs.lemmas.Option.{slice_get_within, same_Some}
use native.Mathlib.Omega.{arith}
use Rattle.b1_model.specs.declared.naming.Opening.{Opening}
use Rattle.b1_model.specs.declared.commands.Command.{Command}
use Rattle.b1_model.specs.declared.commands.Command.TheVariants as cmd
use Rattle.b1_model.specs.declared.events.Doing.{Doing}
use Rattle.b1_model.specs.Script.{resolved, commands_of}
use Rattle.b1_model.specs.MachineParts.{DriverPart, State}
use Rattle.b1_model.specs.MachineStep.{Step, Reached, stepped}
use Rattle.b1_model.specs.MachineOrder.{next_command}
use Rattle.b1_step.specs.Rights.{Has}
use Rattle.b1_step.proofs.Lists.{has_filter}
use Rattle.b1_step.proofs.Steps.{step_of, reached_more}
use Rattle.b1_inv.specs.Words.{IsDriver}
use Rattle.b1_inv.specs.Sound.{IsSound}
use Rattle.b1_inv_tools.proofs.Openings.{opening_idle}
use Rattle.b1_schedule.specs.Shortage.{Shortage, is_short}
use Rattle.b1_schedule.specs.Schedule.{beginning, with_step, Ending, Open, Called, Waits, ending, Stage, Turning, Round, Draining, Finished, Stalled, Playing, round_after, drain_after, driver_after, is_left, waiting_peers, turned_by, has_step, round_at, drain_at, moved, moves, start_of}
use Rattle.b1_play_commands.specs.Following.{asked, Follows, AllFollow, AllEnd, EndsAt}
use Rattle.b1_play_commands.proofs.Steps.{MayBegin, all_follow, all_end}

-- ---- which command begins

begins_by : (commands : List Command) (d : DriverPart) (doing : Option Doing) (next : Option Command) → next ≡ slice_get commands (length d.calls) → (c : Command)
    → ◌≡◌ {A = Option Command} (elim doing [ Some one ↦ None | None ↦ elim next [ None ↦ None | Some one ↦ Some (resolved one d.calls) ] ]) (Some c) → MayBegin commands d c
begins_by commands d (Some one) next is c begun = absurd (cc begun)
begins_by commands d None None is c begun = absurd (cc begun)
begins_by commands d None (Some one) is c begun = record {
  command = sym (same_Some (resolved one d.calls) c begun) ∙ ap (λ n. asked n d.calls) is;
  shut = λ shut. ap is_some (sym is);
}

drains_by : (commands : List Command) (d : DriverPart) (doing : Option Doing) → slice_get commands (length d.calls) ≡ None → d.shut ≡ false → (c : Command)
    → ◌≡◌ {A = Option Command} (elim doing [ Some one ↦ None | None ↦ Some cmd.Await ]) (Some c) → MayBegin commands d c
drains_by commands d (Some one) none not_shut c begun = absurd (cc begun)
drains_by commands d None none not_shut c begun = record {
  command = sym (same_Some cmd.Await c begun) ∙ ap (λ n. asked n d.calls) (sym none);
  shut = λ shut. absurd (cc (shut, not_shut));
}

-- ---- who is left

in_range : (from count i : ℕ) → i < count → Has (range_with_len from count) (from + i)
in_range from zero i less = absurd (omega (arith, less))
in_range from (suc count) zero less = inl (omega arith)
in_range from (suc count) (suc i) less = inr (subst (Has (range_with_len (from + 1) count)) (omega arith) (in_range (from + 1) count i (omega (arith, less))))

none_passes : (test : ℕ → Bool) (xs : List ℕ) (x : ℕ) → filter test xs ≡ [] → Has xs x → (b : Bool) → test x ≡ b → b ≡ false
none_passes test xs x none h false is = refl
none_passes test xs x none h true is = absurd (subst (λ ys. Has ys x) none (has_filter test xs x h is))

nothing_next : (next : Option Command) → not (is_none next) ≡ false → next ≡ None
nothing_next None is = refl
nothing_next (Some c) is = absurd (cc is)

none_waits : (lists : List (List Command)) (s : State) → waiting_peers lists s ≡ [] → AllEnd lists s
none_waits lists s none p d is =
    let within = slice_get_within s.drivers p d is in
    let left = none_passes (is_left lists s) (range_with_len 0 (length s.drivers)) p none (subst (Has (range_with_len 0 (length s.drivers))) (omega arith) (in_range 0 (length s.drivers) p within)) (is_left lists s p) refl in
    nothing_next (next_command lists p d) (rw (is, is_left) at left)

-- ---- a state on the way

-- a reached state whose drivers follow their lists
pub record Follow (o : Opening) (lists : List (List Command)) (s : State) : Type 0 where
  pub reached : Reached o s
  pub all : AllFollow lists s

-- the same, at a stage
pub record Plays (o : Opening) (lists : List (List Command)) (at : Playing) : Type 0 where
  pub follow : Follow o lists at.state
  pub ends : EndsAt lists at.state at.stage

module _ (o : Opening) (lists : List (List Command)) (m : Shortage) (sound : (s : State) → Reached o s → IsSound o s) where
  -- a step of a driver leaves what every step keeps
  stepped_keeps : (P : State → Type 0) (p : ℕ) (command : Option Command) (d : DriverPart) (s : State) → P s → ((t : State) → Step o s p command t → P t) → P (with_step o m p command d s)
  stepped_keeps P p command d s rests steps = at (stepped o (is_short m d command) p command s) refl
    where
      at : (to : Option State) → stepped o (is_short m d command) p command s ≡ to → P (elim to [ None ↦ s | Some t ↦ t ])
      at None is = rests
      at (Some t) is = steps t (step_of o (is_short m d command) p command s t is)

  follow_step : (p : ℕ) (command : Option Command) (d : DriverPart) (s : State) → IsDriver s p d → ((c : Command) → command ≡ Some c → MayBegin (commands_of lists p) d c) → Follow o lists s → Follow o lists (with_step o m p command d s)
  follow_step p command d s is begins f =
      stepped_keeps (Follow o lists) p command d s f
      (λ t step. record {
        reached = reached_more o s t p command f.reached step;
        all = all_follow step lists (sound s f.reached).sends f.all (λ c begun. subst (λ e. MayBegin (commands_of lists p) e c) (same_Some d step.driver (sym is ∙ step.is_driver)) (begins c begun));
      })

  end_step : (p : ℕ) (command : Option Command) (d : DriverPart) (s : State) → AllEnd lists s → AllEnd lists (with_step o m p command d s)
  end_step p command d s ended = stepped_keeps (AllEnd lists) p command d s ended (λ t step. all_end step lists ended)

  -- ---- by the stage

  next_begins : (p : ℕ) (d : DriverPart) (c : Command) → beginning (next_command lists p d) d ≡ Some c → MayBegin (commands_of lists p) d c
  next_begins p d c begun = begins_by (commands_of lists p) d d.doing (next_command lists p d) refl c begun

  turn_follow : (p : ℕ) (s : State) (d : Option DriverPart) → slice_get s.drivers p ≡ d → Follow o lists s → Follow o lists (turned_by o lists m p s d)
  turn_follow p s None is f = f
  turn_follow p s (Some d) is f = follow_step p (beginning (next_command lists p d) d) d s is (next_begins p d) f

  round_after_ends : (p : ℕ) (gained : Bool) (s : State) (how : Ending) → EndsAt lists s (round_after p gained how)
  round_after_ends p gained s Open = tt
  round_after_ends p gained s Called = tt
  round_after_ends p gained s (Waits removed) = tt

  drain_after_ends : (p : ℕ) (gained : Bool) (s : State) (how : Ending) → AllEnd lists s → EndsAt lists s (drain_after p gained how)
  drain_after_ends p gained s Open ended = ended
  drain_after_ends p gained s Called ended = ended
  drain_after_ends p gained s (Waits removed) ended = ended

  end_by : (s : State) (gained : Bool) (waiting : List ℕ) → waiting_peers lists s ≡ waiting → EndsAt lists s (elim waiting [ [] ↦ Draining 0 false | peer ∷ rest ↦ cond gained (Round 0 false) Stalled ])
  end_by s gained [] is = none_waits lists s is
  end_by s true (peer ∷ rest) is = tt
  end_by s false (peer ∷ rest) is = tt

  round_plays : (p : ℕ) (gained : Bool) (s : State) (d : Option DriverPart) → slice_get s.drivers p ≡ d → Follow o lists s → Plays o lists (round_at o lists m p gained s d)
  round_plays p gained s None is f = record { follow = f; ends = end_by s gained (waiting_peers lists s) refl }
  round_plays p gained s (Some d) is f =
      let t = with_step o m p (beginning (next_command lists p d) d) d s in
      cond_both (has_step lists p d) (record { state = t; stage = round_after p gained (ending d (driver_after t p d)) }) (record { state = s; stage = Round (p + 1) gained }) (Plays o lists)
      (λ e. record { follow = follow_step p (beginning (next_command lists p d) d) d s is (next_begins p d) f; ends = round_after_ends p gained t (ending d (driver_after t p d)) })
      (λ e. record { follow = f; ends = tt })

  drain_plays : (p : ℕ) (gained : Bool) (s : State) (d : Option DriverPart) → slice_get s.drivers p ≡ d → Follow o lists s → AllEnd lists s → Plays o lists (drain_at o m p gained s d)
  drain_plays p true s None is f ended = record { follow = f; ends = ended }
  drain_plays p false s None is f ended = record { follow = f; ends = ended }
  drain_plays p gained s (Some d) is f ended =
      let t = with_step o m p (beginning (Some cmd.Await) d) d s in
      cond_both d.shut (record { state = s; stage = Draining (p + 1) gained }) (record { state = t; stage = drain_after p gained (ending d (driver_after t p d)) }) (Plays o lists)
      (λ e. record { follow = f; ends = ended })
      (λ not_shut. record {
        follow = follow_step p (beginning (Some cmd.Await) d) d s is (drains_by (commands_of lists p) d d.doing (ended p d is) not_shut) f;
        ends = drain_after_ends p gained t (ending d (driver_after t p d)) (end_step p (beginning (Some cmd.Await) d) d s ended);
      })

  move_plays : (s : State) (stage : Stage) → Follow o lists s → EndsAt lists s stage → Plays o lists (moved o lists m (record { state = s; stage = stage }))
  move_plays s (Turning []) f ends = record { follow = f; ends = tt }
  move_plays s (Turning (p ∷ rest)) f ends = record { follow = turn_follow p s (slice_get s.drivers p) refl f; ends = tt }
  move_plays s (Round p gained) f ends = round_plays p gained s (slice_get s.drivers p) refl f
  move_plays s (Draining p gained) f ends = drain_plays p gained s (slice_get s.drivers p) refl f ends
  move_plays s Finished f ends = record { follow = f; ends = ends }
  move_plays s Stalled f ends = record { follow = f; ends = tt }

  moves_play : (count : ℕ) (at : Playing) → Plays o lists at → Plays o lists (moves o lists m count at)
  moves_play zero at k = k
  moves_play (suc count) at k = moves_play count (moved o lists m at) (move_plays at.state at.stage k.follow k.ends)

  -- no driver has calls or an open command
  start_plays : (turns : List ℕ) → Plays o lists (start_of o turns)
  start_plays turns = record {
    follow = record {
      reached = record { steps = []; run = refl };
      all = λ p d is. subst (Follows (commands_of lists p)) (sym (opening_idle o p d is)) (record { calls = λ k call at. absurd (cc at); doing = λ doing at. absurd (cc at) });
    };
    ends = tt;
  }

  pub plays : (turns : List ℕ) (count : ℕ) → Plays o lists (moves o lists m count (start_of o turns))
  plays turns count = moves_play count (start_of o turns) (start_plays turns)
