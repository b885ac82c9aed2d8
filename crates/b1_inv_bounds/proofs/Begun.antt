-- How many calls a driver has begun: a step never takes one back, and one more stands where a command's first event was accepted.
use Rattle.std.proofs.Common.{◌≡◌, ◌⊎◌, refl, ap, ◌∙◌, inl, inr, subst, ℕ, ◌+◌, ◌≤◌, Bool, true, false, cond, List, [], ◌∷◌, ◌++◌, length, Option, Some, None}
use Rattle.std.proofs.lemmas.Bool.{and_left}
use Rattle.std.proofs.lemmas.List.{length-append}
use Rattle.std.proofs.lemmas.Option.{slice_get_within}
use native.Mathlib.Omega.{arith}
use Rattle.b1_model.specs.declared.naming.Opening.{Opening}
use Rattle.b1_model.specs.declared.commands.Command.{Command}
use Rattle.b1_model.specs.declared.commands.Command.TheVariants as cmd
use Rattle.b1_model.specs.declared.answers.Answer.{Answer}
use Rattle.b1_model.specs.declared.records.Call.{Call}
use Rattle.b1_model.specs.declared.events.Outcome.{Outcome}
use Rattle.b1_model.specs.declared.events.Phase.{Phase}
use Rattle.b1_model.specs.declared.events.Phase.TheVariants.{Starting, Staging, Attaching, Stamping, Visiting, Dooming}
use Rattle.b1_model.specs.declared.events.Doing.{Doing}
use Rattle.b1_model.specs.MachineParts.{PeerPart, DriverPart, State}
use Rattle.b1_model.specs.MachineDriver.{Turn, Goes, Ends, turn}
use Rattle.b1_model.specs.MachineTook.{is_await, is_waiting, as_call, call_of, goes_by, is_done, answer_of, turned, with_facts, fixed_call, open_by, driver_calls}
use Rattle.b1_model.specs.MachineEvents.{happens}
use Rattle.b1_model.specs.MachineStep.{Step}
use Rattle.b1_step.proofs.Locality.{step_adds}
use Rattle.b1_inv.specs.Words.{IsPeer}
use Rattle.b1_inv.specs.Sends.{SendShape, IsSend}
use Rattle.b1_inv.specs.Notices.{DestructionShape}
use Rattle.b1_inv.specs.Bounds.{calls_begun}
use Rattle.b1_inv.specs.Sound.{IsSound}
use Rattle.b1_inv_tools.proofs.Leaves.{Did, step_did}
use Rattle.b1_inv_refs.proofs.Places.{part_there}
use Rattle.b1_inv_tools.proofs.Facts.{destroy_waits, more_calls}

-- ---- where a command then stands

-- calls by an answer: one while there is none
abbrev pub by_answer : Command → Option Answer → ℕ
by_answer command got = elim got [ None ↦ 1 | Some a ↦ length (call_of command a) ]

-- calls of the command then
abbrev pub turn_calls : Command → Turn → ℕ
turn_calls command (Goes phase) = by_answer command (answer_of command phase)
turn_calls command (Ends got) = length (call_of command got)

-- of an open command
abbrev open_calls : Command → Option Answer → ℕ
open_calls command got = length (fixed_call command got) + cond (elim got [ None ↦ true | Some a ↦ false ]) 1 0

open_is : (command : Command) (got : Option Answer) → open_calls command got ≡ by_answer command got
open_is command None = refl
open_is command (Some a) = omega arith

goes_begun : (b : Bool) (f : DriverPart) (command : Command) (phase : Phase) (got : Option Answer) → answer_of command phase ≡ got → calls_begun (goes_by b got f command phase) ≡ length f.calls + by_answer command got
goes_begun false f command phase got is =
    let one = length-append f.calls (fixed_call command (answer_of command phase)) in
    let two = open_is command (answer_of command phase) in
    let three = ap (by_answer command) is in
    omega (arith, one, two, three)
goes_begun true f command phase None is =
    let one = length-append f.calls (fixed_call command (answer_of command phase)) in
    let two = open_is command (answer_of command phase) in
    let three = ap (by_answer command) is in
    omega (arith, one, two, three)
goes_begun true f command phase (Some a) is =
    let one = length-append (f.calls ++ call_of command a) [] in
    let two = length-append f.calls (call_of command a) in
    omega (arith, one, two)

pub turned_begun : (f : DriverPart) (command : Command) (to : Turn) → calls_begun (turned f command to) ≡ length f.calls + turn_calls command to
turned_begun f command (Goes phase) = goes_begun (is_done f.owed f.told phase) f command phase (answer_of command phase) refl
turned_begun f command (Ends got) =
    let one = length-append (f.calls ++ call_of command got) [] in
    let two = length-append f.calls (call_of command got) in
    omega (arith, one, two)

-- calls begun, by the open command
abbrev begun_with : List Call → Option Doing → ℕ
begun_with calls doing = length (calls ++ open_by doing) + cond (elim doing [ None ↦ false | Some d ↦ elim (answer_of d.command d.phase) [ None ↦ true | Some got ↦ false ] ]) 1 0

pub open_begun : (d : DriverPart) (doing : Doing) → d.doing ≡ Some doing → calls_begun d ≡ length d.calls + by_answer doing.command (answer_of doing.command doing.phase)
open_begun d doing is =
    let zero_part : calls_begun d ≡ length (d.calls ++ fixed_call doing.command (answer_of doing.command doing.phase)) + cond (elim (answer_of doing.command doing.phase) [ None ↦ true | Some got ↦ false ]) 1 0 = ap (begun_with d.calls) is in
    let one = length-append d.calls (fixed_call doing.command (answer_of doing.command doing.phase)) in
    let two = open_is doing.command (answer_of doing.command doing.phase) in
    omega (arith, zero_part, one, two)

pub none_begun : (d : DriverPart) → d.doing ≡ None → calls_begun d ≡ length d.calls
none_begun d is =
    let zero_part : calls_begun d ≡ length (d.calls ++ []) + 0 = ap (begun_with d.calls) is in
    let one = length-append d.calls [] in
    omega (arith, zero_part, one)

-- ---- commands that aren't tried again

one_call : (command : Command) (got : Answer) → is_waiting command got ≡ false → length (call_of command got) ≡ 1
one_call command got is = ap (λ b. length {A = Call} (cond b [] (record { command = as_call command; answer = got } ∷ []))) is

pub not_awaiting : (command : Command) (got : Answer) → is_await command ≡ false → length (call_of command got) ≡ 1
not_awaiting command got is = one_call command got (and_left (is_await command) _ is)

pub turn_one : (command : Command) (to : Turn) → is_await command ≡ false → turn_calls command to ≡ 1
turn_one command (Ends got) is = not_awaiting command got is
turn_one command (Goes phase) is = at (answer_of command phase)
  where
    at : (got : Option Answer) → by_answer command got ≡ 1
    at None = refl
    at (Some a) = not_awaiting command a is

send_waits : (command : Command) → IsSend command → is_await command ≡ false
send_waits command is = ap is_await is.is_send

-- a phase without an answer is of such a command
phase_waits : (s : State) (peers : ℕ) (x : PeerPart) (command : Command) (phase : Phase) → SendShape s command phase → DestructionShape peers x command phase → answer_of command phase ≡ None → is_await command ≡ false
phase_waits s peers x command Starting send doom is = absurd send
phase_waits s peers x command (Staging begun places collected) send doom is = send_waits command send.0.send
phase_waits s peers x command (Attaching sending place j) send doom is = send_waits command send.0.begun.send
phase_waits s peers x command (Stamping sending) send doom is = send_waits command send.begun.send
phase_waits s peers x command (Visiting destruction left) send doom is = destroy_waits command doom.0
phase_waits s peers x command (Dooming destruction) send doom is = destroy_waits command doom.0
phase_waits s peers x command phase send doom is = absurd (cc is)

-- ---- a step

module _ {o : Opening} {s : State} {p : ℕ} {command : Option Command} {t : State} (sound : IsSound o s) (step : Step o s p command t) where
  abbrev k : Did o step.local.memory step.driver command step.peer step.action step.at step.new_driver step.new_peer
  k = step_did step

  abbrev pub outcome_now : Outcome
  outcome_now = (happens o step.local.memory (step_did step).e (step_did step).doing step.action step.peer).0

  abbrev pub turn_now : Turn
  turn_now = turn (step_did step).e.me (step_did step).doing.command (step_did step).doing.phase (happens o step.local.memory (step_did step).e (step_did step).doing step.action step.peer).0

  pub new_begun : calls_begun step.new_driver ≡ length step.driver.calls + turn_calls k.doing.command turn_now
  new_begun = ap calls_begun k.driver ∙ turned_begun (with_facts k.e k.doing outcome_now) k.doing.command turn_now ∙ ap (λ l. length l + turn_calls k.doing.command turn_now) k.opened.calls

  -- where a command begins
  pub starts_begun : step.driver.doing ≡ None → calls_begun step.driver ≡ length step.driver.calls
  starts_begun none = rw none (let one = length-append step.driver.calls [] in omega (arith, one))

  -- the own peer of the driver
  own_peer : (x : PeerPart) × IsPeer s p x
  own_peer = (_, part_there s.peers p (let a = slice_get_within s.drivers p step.driver step.is_driver in let b = sound.numbered.as_many_peers in let c = sound.numbered.as_many_drivers in omega (arith, a, b, c)))

  by_answered : (got : Option Answer) → step.driver.doing ≡ Some k.doing → answer_of k.doing.command k.doing.phase ≡ got → calls_begun step.driver ≤ calls_begun step.new_driver
  by_answered None open_it unanswered =
      let waits = phase_waits s own_peer.0.peers own_peer.0 k.doing.command k.doing.phase (sound.sends.shape p step.driver k.doing step.is_driver open_it) (sound.notices.shape p step.driver own_peer.0 k.doing step.is_driver own_peer.1 open_it) unanswered in
      let one = turn_one k.doing.command turn_now waits in
      let two = open_begun step.driver k.doing open_it in
      let three = ap (by_answer k.doing.command) unanswered in
      omega (arith, one, two, three, new_begun)
  by_answered (Some got) open_it answered =
      let one : calls_begun step.driver ≡ length (driver_calls step.driver) + 0 = ap (λ b. length (driver_calls step.driver) + cond b 1 0) (ap (λ d. elim d [ None ↦ false | Some doing ↦ elim (answer_of doing.command doing.phase) [ None ↦ true | Some a ↦ false ] ]) open_it ∙ ap (λ r. elim r [ None ↦ true | Some a ↦ false ]) answered) in
      let two = more_calls (driver_calls step.driver) (driver_calls step.new_driver) (step_adds step) in
      omega (arith, one, two)

  -- none is taken back
  pub begun_stays : calls_begun step.driver ≤ calls_begun step.new_driver
  begun_stays = at k.opened.from
    where
      at : ((step.driver.doing ≡ Some k.doing) ⊎ ((step.driver.doing ≡ None) × (command ≡ Some k.doing.command) × (k.doing.phase ≡ Starting))) → calls_begun step.driver ≤ calls_begun step.new_driver
      at (inl open_it) = by_answered (answer_of k.doing.command k.doing.phase) open_it refl
      at (inr starts) = let one = starts_begun starts.0 in omega (arith, one, new_begun)

  -- a phase that starts is that of a command that begins
  pub started : k.doing.phase ≡ Starting → step.driver.doing ≡ None
  started is = at k.opened.from
    where
      at : ((step.driver.doing ≡ Some k.doing) ⊎ ((step.driver.doing ≡ None) × (command ≡ Some k.doing.command) × (k.doing.phase ≡ Starting))) → step.driver.doing ≡ None
      at (inl open_it) = absurd (subst (SendShape s k.doing.command) is (sound.sends.shape p step.driver k.doing step.is_driver open_it))
      at (inr starts) = starts.0

  -- one more, where the first event leads to a call
  pub begun_more : k.doing.phase ≡ Starting → turn_calls k.doing.command turn_now ≡ 1 → calls_begun step.driver + 1 ≤ calls_begun step.new_driver
  begun_more is one = let a = starts_begun (started is) in omega (arith, a, one, new_begun)
