-- What an event's answer leaves of a driver's part.
use Rattle.std.proofs.Common.{◌≡◌, refl, ap, ◌∙◌, inl, inr, Bool, true, false, cond, ◌||◌, List, [], ◌∷◌, ◌++◌, Option, Some, None, append-nil}
use Rattle.b1_model.specs.declared.commands.Command.{Command}
use Rattle.b1_model.specs.declared.answers.Answer.{Answer}
use Rattle.b1_model.specs.declared.records.Call.{Call}
use Rattle.b1_model.specs.declared.events.Outcome.{Outcome}
use Rattle.b1_model.specs.declared.events.Outcome.TheVariants as out
use Rattle.b1_model.specs.declared.events.Phase.{Phase}
use Rattle.b1_model.specs.declared.events.Doing.{Doing}
use Rattle.b1_model.specs.MachineParts.{DriverPart}
use Rattle.b1_model.specs.MachineDriver.{Turn, Goes, Ends, turn}
use Rattle.b1_model.specs.MachineTook.{is_waiting, as_call, ended, goes_by, is_done, answer_of, turned, with_facts, took_by, took, shut_after, is_disconnect}
use Rattle.b1_step.specs.Fixed.{AtMostOneMore, Grows}

one_call : (calls : List Call) (c : Call) (b : Bool) → AtMostOneMore calls (calls ++ cond b [] (c ∷ []))
one_call calls c true = inl (append-nil calls)
one_call calls c false = inr (c, refl)

-- the ends and the phases of a command keep the driver's number and whether it is shut
pub record Keeps (d e : DriverPart) : Type 0 where
  pub me : e.me ≡ d.me
  pub shut : e.shut ≡ d.shut
  pub calls : AtMostOneMore d.calls e.calls

ended_keeps : (d : DriverPart) (command : Command) (got : Answer) → Keeps d (ended d command got)
ended_keeps d command got = record { me = refl; shut = refl; calls = one_call d.calls (record { command = as_call command; answer = got }) (is_waiting command got) }

goes_keeps : (b : Bool) (got : Option Answer) (d : DriverPart) (command : Command) (phase : Phase) → Keeps d (goes_by b got d command phase)
goes_keeps false got d command phase = record { me = refl; shut = refl; calls = inl refl }
goes_keeps true None d command phase = record { me = refl; shut = refl; calls = inl refl }
goes_keeps true (Some got) d command phase = ended_keeps d command got

turned_keeps : (d : DriverPart) (command : Command) (t : Turn) → Keeps d (turned d command t)
turned_keeps d command (Goes phase) = goes_keeps (is_done d.owed d.told phase) (answer_of command phase) d command phase
turned_keeps d command (Ends got) = ended_keeps d command got

stays_shut : (command : Command) (outcome : Outcome) (shut : Bool) → shut ≡ true → shut_after command shut outcome ≡ true
stays_shut command (out.Flush dead) shut is = ap (λ b. b || is_disconnect command) is
stays_shut command outcome shut is = is

took_grows : (d : DriverPart) (doing : Option Doing) (outcome : Outcome) → Grows d (took_by d doing outcome)
took_grows d None outcome = record { me = refl; calls = inl refl; shut = λ is. is }
took_grows d (Some doing) outcome =
    let k = turned_keeps (with_facts d doing outcome) doing.command (turn d.me doing.command doing.phase outcome) in
    record { me = k.me; calls = k.calls; shut = λ is. k.shut ∙ stays_shut doing.command outcome d.shut is }

pub grows : (d : DriverPart) (outcome : Outcome) → Grows d (took d outcome)
grows d outcome = took_grows d d.doing outcome
