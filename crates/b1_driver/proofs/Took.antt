-- What an event makes of a driver's part, in one equation.
use Rattle.std.proofs.Common.{◌≡◌, ℕ, Bool, true, false, if◌then◌else◌, List, ◌++◌, Option, Some, None, refl, ap, sym, ◌∙◌}
use Rattle.b1_model.specs.declared.commands.Command.{Command}
use Rattle.b1_model.specs.declared.answers.Answer.{Answer}
use Rattle.b1_model.specs.declared.records.Call.{Call}
use Rattle.b1_model.specs.declared.events.Outcome.{Outcome}
use Rattle.b1_model.specs.declared.events.OwedDrop.{OwedDrop}
use Rattle.b1_model.specs.declared.events.Phase.{Phase}
use Rattle.b1_model.specs.MachineParts.{DriverPart}
use Rattle.b1_model.specs.MachineDriver.{Turn, Goes, Ends, turn}
use Rattle.b1_model.specs.MachineTook.{owed_after, told_after, shut_after, attempt_of, with_facts, goes_by, turned, took, is_done, answer_of}
use Rattle.b1_driver.specs.declared.facts.Facts.{Facts}
use Rattle.std.proofs.lemmas.List.{append-nil}
use Rattle.b1_driver.specs.declared.stage.After.{After}
use Rattle.b1_driver.specs.declared.stage.After.TheVariants as after
use Rattle.b1_driver.specs.Stages.{phase_of, turn_of, doing_of, open_after, calls_after}
use Rattle.b1_driver.specs.Parts.{settled_turn, at_turn, part_of, attempted_after, attempts_after}

goes_settled : (b : Bool) (a : Option Answer) (d : DriverPart) (command : Command) (p : Phase) → goes_by b a d command p ≡ at_turn d command (if b then elim a [ None ↦ Goes p | Some got ↦ Ends got ] else Goes p)
goes_settled false a d command p = refl
goes_settled true None d command p = refl
goes_settled true (Some got) d command p = refl

turned_settled : (d : DriverPart) (command : Command) (t : Turn) → turned d command t ≡ at_turn d command (settled_turn d.owed d.told command t)
turned_settled d command (Goes p) = goes_settled (is_done d.owed d.told p) (answer_of command p) d command p
turned_settled d command (Ends got) = refl

same_part : (me : ℕ) (calls : List Call) (old new : Facts) (command : Command) (p : Phase) (owed left : List OwedDrop) (outcome : Outcome) → new.shut ≡ shut_after command old.shut outcome → new.told ≡ told_after old.told outcome → new.attempted ≡ attempted_after (attempt_of command outcome) old.attempted → new.attempts ≡ attempts_after (attempt_of command outcome) old.attempts → left ≡ owed_after me p owed outcome → part_of me calls new (Some (record { command = command; phase = p })) left ≡ with_facts (part_of me calls old (Some (record { command = command; phase = p })) owed) (record { command = command; phase = p }) outcome
same_part me calls old new command p owed left outcome shut told attempted attempts owes = rw (shut, told, attempted, attempts, owes) refl

pub took_step : (me : ℕ) (calls : List Call) (old new : Facts) (command : Command) (p : Phase) (owed left : List OwedDrop) (outcome : Outcome) (t : Turn) → new.shut ≡ shut_after command old.shut outcome → new.told ≡ told_after old.told outcome → new.attempted ≡ attempted_after (attempt_of command outcome) old.attempted → new.attempts ≡ attempts_after (attempt_of command outcome) old.attempts → left ≡ owed_after me p owed outcome → t ≡ settled_turn left new.told command (turn me command p outcome) → at_turn (part_of me calls new (Some (record { command = command; phase = p })) left) command t ≡ took (part_of me calls old (Some (record { command = command; phase = p })) owed) outcome
took_step me calls old new command p owed left outcome t shut told attempted attempts owes goes =
    ap (at_turn (part_of me calls new (Some (record { command = command; phase = p })) left) command) goes
    ∙ sym (turned_settled (part_of me calls new (Some (record { command = command; phase = p })) left) command (turn me command p outcome))
    ∙ ap (λ d. turned d command (turn me command p outcome)) (same_part me calls old new command p owed left outcome shut told attempted attempts owes)

pub gone_on : (me : ℕ) (calls : List Call) (facts : Facts) (command : Command) (p : Phase) (owed : List OwedDrop) (doomed : List ℕ) (a : After) → part_of me (calls ++ calls_after command a) facts (doing_of doomed (open_after command a)) owed ≡ at_turn (part_of me calls facts (Some (record { command = command; phase = p })) owed) command (turn_of doomed a)
gone_on me calls facts command p owed doomed (after.Goes one) = ap (λ l. part_of me l facts (Some (record { command = command; phase = phase_of doomed one })) owed) (append-nil calls)
gone_on me calls facts command p owed doomed (after.Ends answer) = refl
