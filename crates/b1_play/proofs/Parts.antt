-- One more turn of a driver whose command runs: what it leaves of the driver's part, of the level, and of the bus.
use Rattle.std.proofs.Common.{◌≡◌, ◌≢◌, ◌⊎◌, refl, sym, ap, ◌∙◌, inl, inr, subst, arith, ℕ, ◌+◌, Bool, true, false, ◌&&◌, nat_lt, if◌then◌else◌, List, [], ◌∷◌, ◌++◌, length, Option, Some, None, option_map}
use Rattle.std.proofs.lemmas.List.{length-append}
use Rattle.b1_model.specs.declared.answers.Answer.{Answer}
use Rattle.b1_model.specs.declared.answers.Front.{Front}
use Rattle.b1_model.specs.declared.naming.Opening.{Opening}
use Rattle.b1_model.specs.declared.commands.Command.{Command}
use Rattle.b1_model.specs.declared.commands.Command.TheVariants as cmd
use Rattle.b1_model.specs.declared.records.Call.{Call}
use Rattle.b1_model.specs.declared.events.Doing.{Doing}
use Rattle.b1_model.specs.declared.events.Phase.{Phase}
use Rattle.b1_model.specs.MachineParts.{DriverPart, State}
use Rattle.b1_model.specs.declared.events.Outcome.{Outcome}
use Rattle.b1_model.specs.declared.events.Phase.TheVariants.{Starting}
use Rattle.b1_model.specs.MachineEvents.{happens}
use Rattle.b1_model.specs.MachineDriver.{Turn, Goes, Ends, turn}
use Rattle.b1_model.specs.MachineTook.{is_await, is_waiting, as_call, ended, goes_by, is_done, answer_of, turned, with_facts, shut_after}
use Rattle.b1_model.specs.MachineOrder.{next_command}
use Rattle.b1_model.specs.declared.events.Outcome.TheVariants as out
use Rattle.b1_model.specs.MachineStep.{Step, aimed, begun_by}
use Rattle.b1_model.specs.Script.{resolved}
use Rattle.b1_inv_tools.proofs.Leaves.{Did, step_did}
use Rattle.b1_schedule.specs.Schedule.{beginning, Open, Called, Waits, ending, removed_by}
use Rattle.b1_core.specs.Turns.{scripted}

-- ---- what a command leaves of its driver's part

-- after a turn: an open command has the same calls behind it; without one more call an attempt ended
pub record CallsKept (calls : List Call) (command : Command) (e : DriverPart) : Type 0 where
  pub open_same : (doing : Doing) → e.doing ≡ Some doing → (e.calls ≡ calls) × (doing.command ≡ command)
  pub waits : e.doing ≡ None → e.calls ≡ calls → is_await command ≡ true

no_longer : (calls : List Call) (c : Call) → calls ++ c ∷ [] ≢ calls
no_longer calls c same = let k : length (calls ++ c ∷ []) ≡ length calls + 1 = length-append calls (c ∷ []) in absurd (omega (arith, k, ap length same))

first_of : (a b : Bool) → (a && b) ≡ true → a ≡ true
first_of true b is = refl
first_of false b is = absurd (cc is)

kept_end : (d : DriverPart) (command : Command) (got : Answer) → CallsKept d.calls command (ended d command got)
kept_end d command got = record { open_same = λ doing is. absurd (cc is); waits = λ closed same. by_waits (is_waiting command got) refl same }
  where
    by_waits : (b : Bool) → is_waiting command got ≡ b → d.calls ++ (if b then [] else record { command = as_call command; answer = got } ∷ []) ≡ d.calls → is_await command ≡ true
    by_waits true is same = first_of (is_await command) _ is
    by_waits false is same = absurd (no_longer d.calls (record { command = as_call command; answer = got }) same)

kept_open : (d : DriverPart) (command : Command) (phase : Phase) → CallsKept d.calls command (record d { doing = Some (record { command = command; phase = phase }) })
kept_open d command phase = record { open_same = λ doing is. (refl, sym (ap (λ one. elim one [ None ↦ command | Some other ↦ other.command ]) is)); waits = λ closed same. absurd (cc closed) }

kept_by : (b : Bool) (got : Option Answer) (d : DriverPart) (command : Command) (phase : Phase) → CallsKept d.calls command (goes_by b got d command phase)
kept_by false got d command phase = kept_open d command phase
kept_by true None d command phase = kept_open d command phase
kept_by true (Some got) d command phase = kept_end d command got

kept_turned : (d : DriverPart) (command : Command) (to : Turn) → CallsKept d.calls command (turned d command to)
kept_turned d command (Goes phase) = kept_by (is_done d.owed d.told phase) (answer_of command phase) d command phase
kept_turned d command (Ends got) = kept_end d command got

-- the command that a step is of: the open one, or the one that begins
abbrev pub command_now : DriverPart → Option Command → Command
command_now d c = elim d.doing [ Some doing ↦ doing.command | None ↦ elim c [ None ↦ cmd.Recv | Some one ↦ one ] ]

module _ {o : Opening} {s : State} {p : ℕ} {c : Option Command} {t : State} (step : Step o s p c t) where
  command_is : (doing : Doing) → (step.driver.doing ≡ Some doing) ⊎ ((step.driver.doing ≡ None) × (c ≡ Some doing.command) × (doing.phase ≡ Starting)) → doing.command ≡ command_now step.driver c
  command_is doing (inl is) = sym (ap (λ found. elim found [ Some one ↦ one.command | None ↦ elim c [ None ↦ cmd.Recv | Some one ↦ one ] ]) is)
  command_is doing (inr begins) = sym (ap (λ found. elim found [ Some one ↦ one.command | None ↦ elim c [ None ↦ cmd.Recv | Some one ↦ one ] ]) begins.0 ∙ ap (λ found. elim found [ None ↦ cmd.Recv | Some one ↦ one ]) begins.1)

  pub step_keeps_calls : CallsKept step.driver.calls (command_now step.driver c) step.new_driver
  step_keeps_calls =
      let did = step_did step in
      subst (λ f. CallsKept step.driver.calls (command_now step.driver c) f) (sym did.driver)
      (subst (λ command. CallsKept step.driver.calls command (turned (with_facts did.e did.doing (outcome did)) did.doing.command (to did))) (command_is did.doing did.opened.from)
      (subst (λ calls. CallsKept calls did.doing.command (turned (with_facts did.e did.doing (outcome did)) did.doing.command (to did))) did.opened.calls (kept_turned (with_facts did.e did.doing (outcome did)) did.doing.command (to did))))
    where
      outcome : Did o step.local.memory step.driver c step.peer step.action step.at step.new_driver step.new_peer → Outcome
      outcome did = (happens o step.local.memory did.e did.doing step.action step.peer).0

      to : Did o step.local.memory step.driver c step.peer step.action step.at step.new_driver step.new_peer → Turn
      to did = turn did.e.me did.doing.command did.doing.phase (outcome did)

-- ---- which command steps

pub begins_closed : {o : Opening} {s : State} {p : ℕ} {one : Command} {t : State} (step : Step o s p (Some one) t) → step.driver.doing ≡ None
begins_closed {o} {s} {p} {one} step = by_doing step.driver.doing refl
  where
    by_doing : (doing : Option Doing) → step.driver.doing ≡ doing → doing ≡ None
    by_doing None is = refl
    by_doing (Some other) is = absurd (cc (sym (ap (λ found. option_map aimed (begun_by step.driver found (Some one))) is) ∙ step.is_target))

pub goes_open : {o : Opening} {s : State} {p : ℕ} {t : State} (step : Step o s p None t) → (doing : Doing) × (step.driver.doing ≡ Some doing)
goes_open step = by_doing step.driver.doing refl
  where
    by_doing : (doing : Option Doing) → step.driver.doing ≡ doing → (one : Doing) × (step.driver.doing ≡ Some one)
    by_doing (Some one) is = (one, is)
    by_doing None is = absurd (cc (sym (ap (λ found. option_map aimed (begun_by step.driver found None)) is) ∙ step.is_target))

pub await_is : (command : Command) → is_await command ≡ true → command ≡ cmd.Await
await_is cmd.Await is = refl
await_is command is = absurd (cc is)

-- an attempt doesn't disconnect its driver
shut_stays : (shut : Bool) (outcome : Outcome) → shut_after cmd.Await shut outcome ≡ shut
shut_stays true (out.Flush dead) = refl
shut_stays false (out.Flush dead) = refl
shut_stays shut outcome = refl

turned_shut : (d : DriverPart) (command : Command) (to : Turn) → (turned d command to).shut ≡ d.shut
turned_shut d command (Goes phase) = by_done (is_done d.owed d.told phase) (answer_of command phase)
  where
    by_done : (b : Bool) (got : Option Answer) → (goes_by b got d command phase).shut ≡ d.shut
    by_done false got = refl
    by_done true None = refl
    by_done true (Some got) = refl
turned_shut d command (Ends got) = refl

module _ {o : Opening} {s : State} {p : ℕ} {c : Option Command} {t : State} (step : Step o s p c t) where
  pub attempt_keeps_shut : is_await (command_now step.driver c) ≡ true → step.new_driver.shut ≡ step.driver.shut
  attempt_keeps_shut is =
      let did = step_did step in
      let outcome = (happens o step.local.memory did.e did.doing step.action step.peer).0 in
      let attempt : did.doing.command ≡ cmd.Await = command_is step did.doing did.opened.from ∙ await_is (command_now step.driver c) is in
      ap (λ f. f.shut) did.driver ∙ turned_shut (with_facts did.e did.doing outcome) did.doing.command (turn did.e.me did.doing.command did.doing.phase outcome)
      ∙ ap (λ command. shut_after command did.e.shut outcome) attempt ∙ shut_stays did.e.shut outcome ∙ did.opened.shut

-- ---- how a step ended

module _ (d e : DriverPart) where
  pub ends_open : e.doing ≢ None → ending d e ≡ Open
  ends_open is_open = by_doing e.doing refl
    where
      by_doing : (doing : Option Doing) → e.doing ≡ doing → ending d e ≡ Open
      by_doing None is = absurd (is_open is)
      by_doing (Some one) is = ap (λ found. elim found [ Some doing ↦ Open | None ↦ if nat_lt (length d.calls) (length e.calls) then Called else Waits (removed_by e) ]) is

  closed_by : e.doing ≡ None → ending d e ≡ (if nat_lt (length d.calls) (length e.calls) then Called else Waits (removed_by e))
  closed_by is = ap (λ found. elim found [ Some doing ↦ Open | None ↦ if nat_lt (length d.calls) (length e.calls) then Called else Waits (removed_by e) ]) is

  pub ends_called : e.doing ≡ None → length e.calls ≡ length d.calls + 1 → ending d e ≡ Called
  ends_called closed more = closed_by closed ∙ ap (λ longer. if longer then Called else Waits (removed_by e)) longer
    where
      longer : nat_lt (length d.calls) (length e.calls) ≡ true
      longer = grind (arith, more)

  pub ends_waiting : (front : Front) (removed : ℕ) → e.doing ≡ None → e.calls ≡ d.calls → e.attempted ≡ Some (front, removed) → ending d e ≡ Waits removed
  ends_waiting front removed closed same found = closed_by closed ∙ ap (λ longer. if longer then Called else Waits (removed_by e)) no_more ∙ ap (λ one. Waits (elim one [ None ↦ 0 | Some pair ↦ pair.1 ])) found
    where
      no_more : nat_lt (length d.calls) (length e.calls) ≡ false
      no_more = let k : length e.calls ≡ length d.calls = ap length same in grind (arith, k)

-- what begins is the same by both spellings
pub scripted_is : (lists : List (List Command)) (p : ℕ) (d : DriverPart) → scripted lists p d ≡ beginning (next_command lists p d) d
scripted_is lists p d = by_doing d.doing (next_command lists p d)
  where
    by_doing : (doing : Option Doing) (next : Option Command) → ◌≡◌ {A = Option Command} (elim doing [ None ↦ option_map (λ c. resolved c d.calls) next | Some one ↦ None ]) (elim doing [ Some one ↦ None | None ↦ elim next [ None ↦ None | Some c ↦ Some (resolved c d.calls) ] ])
    by_doing (Some one) next = refl
    by_doing None None = refl
    by_doing None (Some c) = refl
