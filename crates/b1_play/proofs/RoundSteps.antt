-- A turn of a peer in a round: where its command stands afterwards.
use Rattle.std.proofs.Common.{◌≡◌, ◌≢◌, refl, sym, ap, ◌∙◌, subst, arith, ℕ, ◌+◌, ◌≤◌, ◌<◌, Bool, true, false, not, is_none, List, length, set, get_or, sum_by, Option, Some, None}
use Rattle.std.specs.Prelude.{slice_get, if◌then◌else◌}
use Rattle.std.proofs.lemmas.List.{length-set}
use Rattle.b1_model.specs.declared.naming.Opening.{Opening}
use Rattle.b1_model.specs.declared.commands.Command.{Command}
use Rattle.b1_model.specs.declared.events.Doing.{Doing}
use Rattle.b1_model.specs.MachineParts.{PeerPart, DriverPart, State}
use Rattle.b1_model.specs.MachineOrder.{next_command}
use Rattle.b1_model.specs.MachineStep.{Step, idle_driver, target, no_peer}
use Rattle.b1_step.proofs.Lists.{sum_set}
use Rattle.std.specs.Prelude.{option_map}
use Rattle.b1_model.specs.Script.{resolved}
use Rattle.b1_step.proofs.Locality.{own_driver, as_many_peers}
use Rattle.b1_inv.specs.Words.{IsPeer, IsDriver}
use Rattle.b1_inv.specs.Sound.{IsSound}
use Rattle.b1_schedule.specs.Schedule.{has_step, Round, Ending, Open, Called, Waits, ending, round_after}
use Rattle.b1_schedule.specs.Played.{PlayedTo}
use Rattle.b1_schedule.proofs.Moves.{round_step, has_one}
use Rattle.b1_progress.specs.Work.{work}
use Rattle.b1_progress.specs.Level.{some_removed, gain_so_far, gain_after, busy, left_at, left_from, commands_left, attempts_left}
use Rattle.b1_core.specs.Turns.{Bus, driver_at, scripted, has_open, has_ended, Stands, IsTurn, Turns}
use Rattle.b1_core.specs.declared.turn.Turn.{Turn}
use Rattle.b1_core.specs.declared.turn.Turn.TheVariants as turn
use Rattle.b1_play.specs.Runs.{IsGood, Follows, Plays, RunsOn, InRound, RoundTurns, work_after}
use Rattle.b1_play.proofs.Sums.{read_is, get_is, get_within, left_set, some_left, called_fewer, waits_no_more}
use Rattle.b1_play.proofs.Parts.{step_keeps_calls, ends_open, ends_called, ends_waiting, scripted_is}
use Rattle.b1_play.proofs.Running.{SoundLaw, runs_from, sound_here, follows_more, here, there, drivers_more, old_calls, lower_more, still_open, now_closed}

-- a law that the play rests on: an open command's work falls with each step of its driver
abbrev pub EndLaw : Type 0
EndLaw = (o : Opening) (s : State) (p : ℕ) (t : State) (d e : DriverPart) (x y : PeerPart) → IsSound o s → Step o s p None t → IsDriver s p d → IsDriver t p e → IsPeer s p x → IsPeer t p y → e.doing ≢ None → work e y < work d x

-- an open command
pub open_is : (doing : Option Doing) → doing ≢ None → (one : Doing) × (doing ≡ Some one)
open_is None is = absurd (is refl)
open_is (Some one) is = (one, refl)

-- a step with the next command is one that there was
pub step_has : (lists : List (List Command)) {o : Opening} {s : State} {p : ℕ} {c : Option Command} {t : State} (step : Step o s p c t) → c ≡ scripted lists p step.driver → has_step lists p step.driver ≡ true
step_has lists {o} {s} {p} {c} step begins =
    has_one (next_command lists p step.driver) step.driver step.driver.doing (step.action, step.at) (subst (λ b. target step.driver b ≡ Some (step.action, step.at)) (begins ∙ scripted_is lists p step.driver) step.is_target)

-- what is left of all commands after a driver's part changes
left_total : (lists : List (List Command)) (ds : List DriverPart) (p : ℕ) (d e : DriverPart) → slice_get ds p ≡ Some d → left_from lists 0 (set ds p e) + left_at lists p d ≡ left_from lists 0 ds + left_at lists p e
left_total lists ds p d e is = subst (λ q. left_from lists 0 (set ds p e) + left_at lists q d ≡ left_from lists 0 ds + left_at lists q e) at (left_set lists 0 ds p d e is)
  where
    at : 0 + p ≡ p
    at = omega arith

module _ (sound : SoundLaw) (b c d : Bus) (p : ℕ) (command : Option Command) (runs : RunsOn b p c) (step : Step c.opening c.state p command d.state) (same_opening : d.opening ≡ c.opening) (same_commands : d.commands ≡ c.commands) where
  -- the driver's part at the beginning
  abbrev pub old : DriverPart
  old = driver_at b.state p

  pub old_is : slice_get b.state.drivers p ≡ Some old
  old_is =
      let within = get_within c.state.drivers p step.driver step.is_driver in
      get_is b.state.drivers p (idle_driver p) (omega (arith, within, ap length runs.drivers, length-set b.state.drivers p (driver_at c.state p)))

  module _ (begins : command ≡ scripted c.commands p step.driver) (has : has_step b.commands p old ≡ true) (played : (gained : Bool) → Plays b (Round p gained) c (Round p gained)) where
    plays_more : (gained : Bool) → Plays b (Round p gained) d (round_after p gained (ending step.driver step.new_driver))
    plays_more gained turns h =
        subst (λ o. PlayedTo o d.commands turns d.state (round_after p gained (ending step.driver step.new_driver))) (sym same_opening)
        (subst (λ lists. PlayedTo c.opening lists turns d.state (round_after p gained (ending step.driver step.new_driver))) (sym same_commands)
        (round_step c.opening c.commands turns c.state p gained command d.state (sound_here sound b c d p command runs step same_opening same_commands).sends step (begins ∙ scripted_is c.commands p step.driver) (played gained turns h)))

    plays_to : (how : Ending) → ending step.driver step.new_driver ≡ how → (gained : Bool) → Plays b (Round p gained) d (round_after p gained how)
    plays_to how is gained turns h = subst (λ one. PlayedTo d.opening d.commands turns d.state (round_after p gained one)) is (plays_more gained turns h)

    -- the lists of commands are those of the beginning
    lists_are : d.commands ≡ b.commands
    lists_are = (follows_more sound b c d p command runs step same_opening same_commands).commands

    left_is : commands_left d.commands d.state + left_at b.commands p old ≡ commands_left b.commands b.state + left_at b.commands p step.new_driver
    left_is =
        ap (λ lists. commands_left lists d.state + left_at b.commands p old) lists_are
        ∙ ap (λ ds. left_from b.commands 0 ds + left_at b.commands p old) (drivers_more sound b c d p command runs step same_opening same_commands)
        ∙ left_total b.commands b.state.drivers p old step.new_driver old_is

    -- what is left of attempts where one waits
    waits_lower : (removed : ℕ) → step.new_driver.doing ≡ None → step.new_driver.calls ≡ step.driver.calls → ending step.driver step.new_driver ≡ Waits removed → attempts_left d.state + some_removed removed ≤ attempts_left b.state
    waits_lower removed closed same is =
        let attempt = (step_keeps_calls step).waits closed same in
        let lower = lower_more sound b c d p command runs step same_opening same_commands attempt in
        let gain : gain_after step.driver step.new_driver ≡ some_removed removed = ap (λ how. elim how [ Open ↦ gain_so_far step.new_driver | Called ↦ if step.driver.shut then 0 else 1 | Waits one ↦ some_removed one ]) is in
        let idle : busy step.new_driver ≡ 0 = ap (λ found. elim found [ None ↦ 0 | Some one ↦ 1 ]) closed in
        let sums : sum_by busy d.state.drivers + busy old ≡ sum_by busy b.state.drivers + busy step.new_driver =
        ap (λ ds. sum_by busy ds + busy old) (drivers_more sound b c d p command runs step same_opening same_commands) ∙ sum_set busy b.state.drivers p old step.new_driver old_is in
        omega (arith, lower, gain, idle, sums)

    pub round_more : (turn : Turn) → Stands step.driver turn step.new_driver → RoundTurns b p turn d
    round_more turn.Idle stands = absurd stands
    round_more turn.Moved stands =
        let one = open_is step.new_driver.doing stands in
        record {
          runs = still_open sound b c d p command runs step same_opening same_commands one.0 one.1;
          has = has;
          played = plays_to Open (ends_open step.driver step.new_driver stands);
          is_open = λ none. stands (sym (ap (λ e. e.doing) (there sound b c d p command runs step same_opening same_commands)) ∙ none);
        }
    round_more turn.Ended stands =
        let old_length = ap length (old_calls sound b c d p command runs step same_opening same_commands) in
        record {
          ran = now_closed sound b c d p command runs step same_opening same_commands stands.0;
          played = plays_to Called (ends_called step.driver step.new_driver stands.0 stands.1);
          commands = omega (arith, left_is, called_fewer b.commands p old step.new_driver (some_left b.commands p old has) stands.0 (stands.1 ∙ ap (λ n. n + 1) old_length));
          attempts = tt;
        }
    round_more (turn.Waiting front removed) stands =
        let same = stands.1 ∙ old_calls sound b c d p command runs step same_opening same_commands in
        record {
          ran = now_closed sound b c d p command runs step same_opening same_commands stands.0;
          played = plays_to (Waits removed) (ends_waiting step.driver step.new_driver front removed stands.0 stands.1 stands.2);
          commands = omega (arith, left_is, waits_no_more b.commands p old step.new_driver stands.0 same);
          attempts = waits_lower removed stands.0 stands.1 (ends_waiting step.driver step.new_driver front removed stands.0 stands.1 stands.2);
        }

-- ---- the first turn of a command, and each further one

module _ (sound : SoundLaw) (b : Bus) (p : ℕ) where
  pub no_step : has_open b p ≡ false → has_ended b p ≡ true → has_step b.commands p (driver_at b.state p) ≡ false
  no_step closed ended = by_doing (driver_at b.state p).doing (next_command b.commands p (driver_at b.state p)) closed ended
    where
      by_doing : (doing : Option Doing) (next : Option Command) → not (is_none doing) ≡ false → is_none next ≡ true → elim doing [ Some one ↦ true | None ↦ not (is_none next) ] ≡ false
      by_doing (Some one) next closed ended = absurd (cc closed)
      by_doing None (Some one) closed ended = absurd (cc ended)
      by_doing None None closed ended = refl

  first_turn : IsGood b → (turn : Turn) (c : Bus) → IsTurn b p (scripted b.commands p) turn c → RoundTurns b p turn c
  first_turn good turn c is =
      let runs = runs_from b p good in
      round_more sound b b c p is.command runs is.step is.same_opening is.same_commands is.is_command (subst (λ e. has_step b.commands p e ≡ true) (sym (here sound b b c p is.command runs is.step is.same_opening is.same_commands)) (step_has b.commands is.step is.is_command)) (λ gained turns h. h) turn is.stands

  pub first : IsGood b → (turn : Turn) (c : Bus) → Turns b p turn c → RoundTurns b p turn c
  first good turn.Idle c is = (is.0, no_step is.1 is.2)
  first good turn.Moved c is = first_turn good turn.Moved c is
  first good turn.Ended c is = first_turn good turn.Ended c is
  first good (turn.Waiting front removed) c is = first_turn good (turn.Waiting front removed) c is

  module _ (c : Bus) (within : InRound b p c) where
    next_turn : (turn : Turn) (d : Bus) → IsTurn c p (scripted c.commands p) turn d → RoundTurns b p turn d
    next_turn turn d is = round_more sound b c d p is.command within.runs is.step is.same_opening is.same_commands is.is_command within.has within.played turn is.stands

    still_there : has_open c p ≡ false → ⊥
    still_there closed = by_doing (driver_at c.state p).doing within.is_open closed
      where
        by_doing : (doing : Option Doing) → doing ≢ None → not (is_none doing) ≡ false → ⊥
        by_doing None is closed = is refl
        by_doing (Some one) is closed = cc closed

    pub further : (turn : Turn) (d : Bus) → Turns c p turn d → RoundTurns b p turn d
    further turn.Idle d is = absurd (still_there is.1)
    further turn.Moved d is = next_turn turn.Moved d is
    further turn.Ended d is = next_turn turn.Ended d is
    further (turn.Waiting front removed) d is = next_turn (turn.Waiting front removed) d is

-- where a command is open, none begins
pub none_begins : (doing : Option Doing) (next : Option Command) → doing ≢ None → ◌≡◌ {A = Option Command} (elim doing [ None ↦ next | Some one ↦ None ]) None
none_begins None next is = absurd (is refl)
none_begins (Some one) next is = refl

-- ---- the work of an open command falls

module _ (sound : SoundLaw) (ends : EndLaw) (c d : Bus) (p : ℕ) (good : IsGood c) (within : p < length c.opening.peers) where
  pub work_falls : (command : Option Command) (step : Step c.opening c.state p command d.state) → command ≡ None → step.new_driver.doing ≢ None → work_after turn.Moved d p < work_after turn.Moved c p
  work_falls (Some one) step none is_open = absurd (cc none)
  work_falls None step none is_open = omega (arith, less)
    where
      here_sound : IsSound c.opening c.state
      here_sound = sound c.opening c.state good.opening good.reached

      own_now : slice_get d.state.drivers p ≡ Some (driver_at d.state p)
      own_now = own_driver step ∙ ap Some (sym (read_is d.state.drivers p step.new_driver (idle_driver p) (own_driver step)))

      own_before : slice_get c.state.drivers p ≡ Some (driver_at c.state p)
      own_before = step.is_driver ∙ ap Some (sym (read_is c.state.drivers p step.driver (idle_driver p) step.is_driver))

      still : (driver_at d.state p).doing ≢ None
      still closed = is_open (sym (ap (λ e. e.doing) (read_is d.state.drivers p step.new_driver (idle_driver p) (own_driver step))) ∙ closed)

      less : work (driver_at d.state p) (get_or d.state.peers p no_peer) < work (driver_at c.state p) (get_or c.state.peers p no_peer)
      less = ends c.opening c.state p d.state (driver_at c.state p) (driver_at d.state p) (get_or c.state.peers p no_peer) (get_or d.state.peers p no_peer) here_sound step own_before own_now
          (get_is c.state.peers p no_peer (omega (arith, within, here_sound.numbered.as_many_peers)))
          (get_is d.state.peers p no_peer (omega (arith, within, here_sound.numbered.as_many_peers, as_many_peers step)))
          still

  pub turn_falls : (how : Turn) → Turns c p how d → (driver_at c.state p).doing ≢ None → work_after how d p < work_after turn.Moved c p
  turn_falls turn.Idle is is_open = omega arith
  turn_falls turn.Ended is is_open = omega arith
  turn_falls (turn.Waiting front removed) is is_open = omega arith
  turn_falls turn.Moved is is_open = work_falls is.command is.step none is.stands
    where
      was_open : is.step.driver.doing ≢ None
      was_open closed = is_open (ap (λ e. e.doing) (read_is c.state.drivers p is.step.driver (idle_driver p) is.step.is_driver) ∙ closed)

      none : is.command ≡ None
      none = is.is_command ∙ none_begins is.step.driver.doing (option_map (λ one. resolved one is.step.driver.calls) (next_command c.commands p is.step.driver)) was_open

-- a bus that goes on has the same peers
pub within_peers : (b c : Bus) (p : ℕ) → Follows b c → p < length b.opening.peers → p < length c.opening.peers
within_peers b c p follows within = subst (λ o. p < length o.peers) (sym follows.opening) within
