-- The play of a whole script: its turns, and its two ends.
use Rattle.std.proofs.Common.{◌≡◌, ◌≢◌, refl, sym, ap, ◌∙◌, subst, ℕ, zero, suc, Bool, true, false, ◌&&◌, is_none, List, [], ◌∷◌, get_or, Option, Some, None, Result, Ok, Err}
use Rattle.std.specs.Prelude.{IfOk}
use Rattle.std.specs.declared.alloc.AllocError.{AllocError}
use Rattle.b1_model.specs.declared.records.Record.{Record}
use Rattle.b1_play.specs.declared.playing.Played.{Played}
use Rattle.std.specs.Prelude.{slice_get}
use Rattle.std.specs.List.{list_all}
use Rattle.b1_model.specs.declared.naming.Opening.{Opening}
use Rattle.b1_model.specs.declared.commands.Command.{Command}
use Rattle.b1_model.specs.declared.events.Doing.{Doing}
use Rattle.b1_model.specs.Opening.{IsOpening}
use Rattle.b1_model.specs.MachineParts.{DriverPart, State}
use Rattle.b1_model.specs.MachineOrder.{no_command_open, is_idle}
use Rattle.b1_model.specs.MachineStep.{idle_driver, opening_state, record_of_state}
use Rattle.b1_script.specs.declared.script.Script.{Script}
use Rattle.b1_schedule.specs.Shortage.{shortage_of}
use Rattle.b1_schedule.specs.Schedule.{has_step, Turning, Round, Stalled, Playing, turned_by, IsPlay, IsStall}
use Rattle.b1_schedule.specs.Played.{PlayedTo}
use Rattle.b1_schedule.proofs.Moves.{starts, goes_to, turn_step, turn_idle, turns_over, finished, stalled}
use Rattle.b1_progress.proofs.Attempts.{starts_answered}
use Rattle.b1_core.specs.Turns.{Bus, driver_at, scripted, IsTurn, Turns}
use Rattle.b1_core.specs.declared.turn.Turn.{Turn}
use Rattle.b1_core.specs.declared.turn.Turn.TheVariants as turn
use Rattle.b1_play.specs.Runs.{IsGood}
use Rattle.b1_play.specs.Rounds.{Settles, behind_rounds}
use Rattle.b1_play.specs.Draining.{AllClosed, Drained}
use Rattle.b1_play.specs.Plays.{TurnsTo, Begun, PlaysScript, StallShown}
use Rattle.b1_play.proofs.Sums.{read_is}
use Rattle.b1_play.proofs.Parts.{scripted_is}
use Rattle.b1_play.proofs.Running.{SoundLaw, runs_from, sound_here, follows_more}
use Rattle.b1_play.proofs.RoundSteps.{no_step}
use Rattle.b1_play.proofs.Passing.{follows_refl, follows_trans, none_open}

-- ---- turns

pub turns_from : (b : Bus) (turns : List ℕ) → IsGood b → TurnsTo b turns b turns
turns_from b turns good = record { follows = follows_refl b good; played = λ script h. h }

-- a state with so many turns left
abbrev at_turns : List ℕ → State → Playing
at_turns rest s = record { state = s; stage = Turning rest }

module _ (sound : SoundLaw) (b c : Bus) (from : List ℕ) (p : ℕ) (rest : List ℕ) (before : TurnsTo b from c (p ∷ rest)) where
  turn_on : (how : Turn) (d : Bus) → IsTurn c p (scripted c.commands p) how d → TurnsTo b from d rest
  turn_on how d is =
      let runs = runs_from c p before.follows.good in
      record {
        follows = follows_trans b c d before.follows (follows_more sound c c d p is.command runs is.step is.same_opening is.same_commands);
        played = λ turns h.
            subst (λ o. PlayedTo o d.commands turns d.state (Turning rest)) (sym is.same_opening)
            (subst (λ lists. PlayedTo c.opening lists turns d.state (Turning rest)) (sym is.same_commands)
            (turn_step c.opening c.commands turns c.state p rest is.command d.state (sound_here sound c c d p is.command runs is.step is.same_opening is.same_commands).sends is.step (is.is_command ∙ scripted_is c.commands p is.step.driver) (before.played turns h)));
      }

  idle_on : has_step c.commands p (driver_at c.state p) ≡ false → TurnsTo b from c rest
  idle_on none = record { follows = before.follows; played = λ turns h. by_found turns (before.played turns h) (slice_get c.state.drivers p) refl }
    where
      by_found : (turns : List ℕ) → PlayedTo c.opening c.commands turns c.state (Turning (p ∷ rest)) → (found : Option DriverPart) → slice_get c.state.drivers p ≡ found → PlayedTo c.opening c.commands turns c.state (Turning rest)
      by_found turns h None is = goes_to c.opening c.commands turns c.state (Turning (p ∷ rest)) (Turning rest) (λ m. ap (λ found. at_turns rest (turned_by c.opening c.commands m p c.state found)) is) h
      by_found turns h (Some d) is = turn_idle c.opening c.commands turns c.state p rest d is (sym (ap (has_step c.commands p) (read_is c.state.drivers p d (idle_driver p) is)) ∙ none) h

  pub turn_more : (how : Turn) (d : Bus) → Turns c p how d → TurnsTo b from d rest
  turn_more turn.Idle d is = subst (λ e. TurnsTo b from e rest) (sym is.0) (idle_on (no_step sound c p is.1 is.2))
  turn_more turn.Moved d is = turn_on turn.Moved d is
  turn_more turn.Ended d is = turn_on turn.Ended d is
  turn_more (turn.Waiting front removed) d is = turn_on (turn.Waiting front removed) d is

-- ---- the start

-- the bus before the first turn
abbrev pub start_bus : Opening → List (List Command) → Bus
start_bus o lists = record { opening = o; commands = lists; state = opening_state o }

pub start_good : (o : Opening) (lists : List (List Command)) → IsOpening o → IsGood (start_bus o lists)
start_good o lists opening = record { opening = opening; reached = record { steps = []; run = refl }; answered = starts_answered o }

pub begun : (s : Script) (c : Bus) → TurnsTo (start_bus s.opening s.commands) s.turns c [] → Begun s c
begun s c turns = record {
  good = turns.follows.good;
  opening = turns.follows.opening;
  commands = turns.follows.commands;
  played =
      subst (λ o. PlayedTo o s.commands s.turns c.state (Round 0 false)) turns.follows.opening
      (subst (λ lists. PlayedTo c.opening lists s.turns c.state (Round 0 false)) turns.follows.commands
      (turns_over c.opening c.commands s.turns c.state (turns.played s.turns (starts s.opening s.commands s.turns))));
}

-- ---- the two ends

first_of : (a b : Bool) → (a && b) ≡ true → a ≡ true
first_of true b is = refl
first_of false b is = absurd (cc is)

second_of : (a b : Bool) → (a && b) ≡ true → b ≡ true
second_of true b is = is
second_of false b is = absurd (cc is)

none_is : (doing : Option Doing) → is_none doing ≡ true → doing ≡ None
none_is None is = refl
none_is (Some one) is = absurd (cc is)

idle_at : (ds : List DriverPart) (i r : ℕ) → list_all is_idle ds ≡ true → (get_or ds i (idle_driver r)).doing ≡ None
idle_at [] i r all = refl
idle_at (d ∷ rest) zero r all = none_is d.doing (first_of (is_idle d) (list_all is_idle rest) all)
idle_at (d ∷ rest) (suc i) r all = idle_at rest i r (second_of (is_idle d) (list_all is_idle rest) all)

pub all_closed : (b : Bus) → no_command_open b.state ≡ true → AllClosed b
all_closed b none r = idle_at b.state.drivers r r none

module _ (sound : SoundLaw) (s : Script) (b c : Bus) (begin : Begun s b) where
  played_here : PlayedTo b.opening b.commands s.turns b.state (Round 0 false)
  played_here =
      subst (λ o. PlayedTo o b.commands s.turns b.state (Round 0 false)) (sym begin.opening)
      (subst (λ lists. PlayedTo s.opening lists s.turns b.state (Round 0 false)) (sym begin.commands) begin.played)

  pub done : (d : Bus) → Settles b c [] → Drained c d → IsPlay s.opening s.commands s.turns (record_of_state d.state)
  done d settled drained =
      subst (λ o. IsPlay o s.commands s.turns (record_of_state d.state)) (drained.follows.opening ∙ settled.follows.opening ∙ begin.opening)
      (subst (λ lists. IsPlay d.opening lists s.turns (record_of_state d.state)) (drained.follows.commands ∙ settled.follows.commands ∙ begin.commands)
      (finished d.opening d.commands s.turns d.state (sound d.opening d.state drained.follows.good.opening drained.follows.good.reached).numbered (none_open d (λ r within. drained.closed r)) (drained.played s.turns (settled.played s.turns played_here))))

  behind_some : (waiting : List ℕ) → waiting ≢ [] → behind_rounds waiting ≡ Stalled
  behind_some [] some = absurd (some refl)
  behind_some (p ∷ rest) some = refl

  pub stalled_so : (waiting : List ℕ) → waiting ≢ [] → Settles b c waiting → ((p k : ℕ) (place : Option ℕ) → shortage_of (record_of_state c.state) p k place ≡ false) → IsStall s.opening s.commands s.turns waiting (record_of_state c.state)
  stalled_so waiting some settled nowhere =
      subst (λ o. IsStall o s.commands s.turns waiting (record_of_state c.state)) (settled.follows.opening ∙ begin.opening)
      (subst (λ lists. IsStall c.opening lists s.turns waiting (record_of_state c.state)) (settled.follows.commands ∙ begin.commands)
      (subst (λ list. IsStall c.opening c.commands s.turns list (record_of_state c.state)) (sym settled.waiting_is)
      (stalled c.opening c.commands s.turns c.state (sound c.opening c.state settled.follows.good.opening settled.follows.good.reached).numbered settled.none_open nowhere
      (subst (λ stage. PlayedTo c.opening c.commands s.turns c.state stage) (behind_some waiting some) (settled.played s.turns played_here)))))

  -- a stall with its record is what the script comes to
  pub stall_plays : (waiting : List ℕ) → waiting ≢ [] → Settles b c waiting → (r : Record) → r ≡ record_of_state c.state → (result : Result Played AllocError) → IfOk result (λ played. StallShown r waiting played) → IfOk result (λ played. PlaysScript s played)
  stall_plays waiting some settled r is (Err e) h = tt
  stall_plays waiting some settled r is (Ok played) h =
      subst (PlaysScript s) (sym h.0)
      (subst (λ one. IsStall s.opening s.commands s.turns waiting one) (sym is) (stalled_so waiting some settled (λ p k place. subst (λ one. shortage_of one p k place ≡ false) is (h.1 p k place))))
