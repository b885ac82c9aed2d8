-- Only a reset or a disconnect flushes.
use Rattle.std.proofs.Common.{◌≡◌, refl, sym, ap, subst, ◌∙◌, inl, inr, ℕ, ◌≤◌, Bool, true, false, cond, List, [], ◌∷◌, length, Option, Some, None}
use Rattle.std.specs.Prelude.{⊤}
use native.Mathlib.Omega.{arith}
use Rattle.b1_model.specs.declared.commands.Command.{Command}
use Rattle.b1_model.specs.declared.commands.Command.TheVariants as cmd
use Rattle.b1_model.specs.declared.naming.Opening.{Opening}
use Rattle.b1_model.specs.declared.answers.Reason.{Reason}
use Rattle.b1_model.specs.declared.events.Action.TheVariants as act
use Rattle.b1_model.specs.declared.events.Doing.{Doing}
use Rattle.b1_model.specs.declared.events.OwedDrop.{OwedDrop}
use Rattle.b1_model.specs.declared.events.Outcome.{Outcome}
use Rattle.b1_model.specs.declared.events.Phase.{Phase}
use Rattle.b1_model.specs.declared.events.Phase.TheVariants.{Starting, Flushing}
use Rattle.b1_model.specs.MachineParts.{PeerPart, DriverPart, State}
use Rattle.b1_model.specs.MachineDriver.{destroying, is_flushing, started, turn, Turn, Goes, Ends, first_action}
use Rattle.b1_model.specs.MachineDestroy.{visit_set}
use Rattle.b1_model.specs.MachineEvents.{happens, destroy_by, begin_refusal, begin_serials}
use Rattle.b1_model.specs.MachineStep.{Step, opening_state}
use Rattle.b1_inv_record.specs.Dooming.{FlushCommands}
use Rattle.b1_inv_tools.proofs.Leaves.{driver_cases}
use Rattle.b1_inv_tools.proofs.Openings.{opening_idle}
use Rattle.b1_inv_notices.proofs.Turns.{doing_in, opened, answered, OnTurn, took_leaves, parts, going_doing, going_answer}
use Rattle.b1_inv_doomed.proofs.Named.{accepted_some}
use Rattle.b1_inv_doomed.proofs.Turned.{is_flush_phase, TurnFrom, turn_from, NoBegin, other_started, no_begin}

-- a flush is of a command that flushes
abbrev pub Flushes : Option Doing → Type 0
Flushes None = ⊤
Flushes (Some doing) = is_flush_phase doing.phase ≡ true → is_flushing doing.command ≡ true

by_turn : (before : Phase) (command : Command) (to : Turn) → TurnFrom before command to → (is_flush_phase before ≡ true → is_flushing command ≡ true) → OnTurn command Flushes to
by_turn before command (Goes phase) from was = λ is. elim (from.flushing is) [ inl old ↦ was old | inr new ↦ new ]
by_turn before command (Ends got) from was = tt

begun_flushes : (command : Command) (doomed visit : List ℕ) → (is_flushing command ≡ true) → OnTurn command Flushes (Goes (destroying doomed visit))
begun_flushes command doomed visit is = λ flush. is

none_flushes : (command : Command) (doomed visit : List ℕ) → 1 ≤ length doomed → OnTurn command Flushes (Goes (destroying doomed visit))
none_flushes command [] visit some = absurd (omega (arith, some))
none_flushes command (serial ∷ rest) [] some = λ no. absurd (cc no)
none_flushes command (serial ∷ rest) (peer ∷ more) some = λ no. absurd (cc no)

begin_flushes : (command : Command) (r : Option Reason) (x : PeerPart) → is_flushing command ≡ true → OnTurn command Flushes (started command (destroy_by r (begin_serials command x) x).0)
begin_flushes command (Some r) x is = tt
begin_flushes command None x is = begun_flushes command (begin_serials command x) (visit_set x (begin_serials command x)) is

named_flushes : (numbers : List ℕ) (r : Option Reason) (x : PeerPart) → begin_refusal (cmd.Destroy numbers) x ≡ r → OnTurn (cmd.Destroy numbers) Flushes (started (cmd.Destroy numbers) (destroy_by r (begin_serials (cmd.Destroy numbers) x) x).0)
named_flushes numbers (Some r) x is = tt
named_flushes numbers None x is = none_flushes (cmd.Destroy numbers) (begin_serials (cmd.Destroy numbers) x) (visit_set x (begin_serials (cmd.Destroy numbers) x)) (accepted_some x numbers is)

other_flushes : (command : Command) (outcome : Outcome) → NoBegin outcome → OnTurn command Flushes (started command outcome)
other_flushes command outcome none = by_turn Starting command (started command outcome) (other_started command outcome none) (λ no. absurd (cc no))

module _ (o : Opening) (memory : Bool) (d : DriverPart) (x : PeerPart) where
  first_flushes : (command : Command) (shut : Bool) → OnTurn command Flushes (started command (happens o memory (opened d command Starting []) (doing_in command Starting) (cond shut act.Local (first_action command)) x).0)
  first_flushes command true = tt
  first_flushes cmd.Disconnect false = begin_flushes cmd.Disconnect (begin_refusal cmd.Disconnect x) x refl
  first_flushes (cmd.Reset limits) false = begin_flushes (cmd.Reset limits) (begin_refusal (cmd.Reset limits) x) x refl
  first_flushes (cmd.Destroy numbers) false = named_flushes numbers (begin_refusal (cmd.Destroy numbers) x) x refl
  first_flushes command false =
      other_flushes command (happens o memory (opened d command Starting []) (doing_in command Starting) (first_action command) x).0
      (no_begin o memory (opened d command Starting []) (doing_in command Starting) (first_action command) x refl)

  turn_flushes : (command : Command) (phase : Phase) (owed : List OwedDrop) → (is_flush_phase phase ≡ true → is_flushing command ≡ true) → OnTurn command Flushes (turn d.me command phase (answered o memory d command phase owed x).0)
  turn_flushes command Starting (one ∷ rest) was = λ no. absurd (cc no)
  turn_flushes command Starting [] was = first_flushes command d.shut
  turn_flushes command phase owed was = by_turn phase command (turn d.me command phase (answered o memory d command phase owed x).0) (turn_from d.me command phase (answered o memory d command phase owed x).0 refl) was

flush_is : (phase : Phase) → is_flush_phase phase ≡ true → (stamp : Option ℕ) × (phase ≡ Flushing stamp)
flush_is (Flushing stamp) is = (stamp, refl)
flush_is phase is = absurd (cc is)

module _ {o : Opening} {s : State} {p : ℕ} {c : Option Command} {t : State} (before : FlushCommands s) (step : Step o s p c t) where
  was_flushing : is_flush_phase (parts step).phase ≡ true → is_flushing (parts step).command ≡ true
  was_flushing is = elim (parts step).was [
    | inl open_is ↦ let k = flush_is (parts step).phase is in before.flushes p k.0 step.driver (going_doing step) step.is_driver open_is k.1
    | inr new ↦ let both : true ≡ false = sym is ∙ ap is_flush_phase new.1 in absurd (cc both)
  ]

  now_flushing : Flushes step.new_driver.doing
  now_flushing =
      subst (λ e. Flushes e.doing) (parts step).is_driver
      (took_leaves Flushes (parts step).command (λ phase may k. tt) step.driver (parts step).phase step.driver.owed (going_answer step)
      (turn_flushes o step.local.memory step.driver step.peer (parts step).command (parts step).phase step.driver.owed was_flushing))

  pub flushes_kept : FlushCommands t
  flushes_kept = record {
    flushes = λ r stamp d doing is_driver is_open is. elim (driver_cases step r d is_driver) [
      | inl own ↦ subst Flushes (sym (ap (λ e. e.doing) own.1) ∙ is_open) now_flushing (ap is_flush_phase is)
      | inr other ↦ before.flushes r stamp d doing other.1 is_open is
    ];
  }

pub flushes_begin : (o : Opening) → FlushCommands (opening_state o)
flushes_begin o = record {
  flushes = λ r stamp d doing is_driver is_open is. let both : None ≡ Some doing = sym (ap (λ e. e.doing) (opening_idle o r d is_driver)) ∙ is_open in absurd (cc both);
}
