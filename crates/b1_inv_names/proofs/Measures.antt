-- What a driver's calls and its open command have done, as one value, carried through a step.
use Rattle.std.proofs.Common.{◌≡◌, refl, sym, ap, ◌∙◌, inl, inr, ℕ, Bool, true, false, List, [], ◌∷◌, ◌++◌, Option, Some, None}
use Rattle.std.proofs.lemmas.Option.{same_Some}
use Rattle.b1_model.specs.declared.commands.Command.{Command}
use Rattle.b1_model.specs.declared.naming.Opening.{Opening}
use Rattle.b1_model.specs.declared.answers.Answer.{Answer}
use Rattle.b1_model.specs.declared.events.Doing.{Doing}
use Rattle.b1_model.specs.declared.events.Outcome.{Outcome}
use Rattle.b1_model.specs.declared.events.OwedDrop.{OwedDrop}
use Rattle.b1_model.specs.declared.events.Phase.{Phase}
use Rattle.b1_model.specs.declared.events.Phase.TheVariants.{Committing, Dropping, Reaping}
use Rattle.b1_model.specs.declared.records.Call.{Call}
use Rattle.b1_model.specs.MachineParts.{PeerPart, DriverPart, State}
use Rattle.b1_model.specs.MachineDriver.{Turn, Goes, Ends, turn}
use Rattle.b1_model.specs.MachineTook.{answer_of, call_of, goes_by, is_done, turned, with_facts, took}
use Rattle.b1_model.specs.MachineStep.{Step}
use Rattle.b1_inv_notices.proofs.Turns.{doing_in, opened, answered, Parts, parts}
use Rattle.b1_inv_names.proofs.Effects.{Kind, Quiet, answer_kind, phase_kind, TurnKind, kind_after, Fits, turn_kind, fits}

-- where nothing is left of a command, its answer does what its phase has done
done_kind : (command : Command) (owed : List OwedDrop) (told : Bool) (phase : Phase) (got : Answer) → is_done owed told phase ≡ true → answer_of command phase ≡ Some got → answer_kind got ≡ phase_kind phase
done_kind command (one ∷ rest) told phase got is fixed = absurd (cc is)
done_kind command [] told (Committing sending stamp place) got is fixed = ap answer_kind (sym (same_Some _ got fixed))
done_kind command [] told Dropping got is fixed = ap answer_kind (sym (same_Some _ got fixed))
done_kind command [] told (Reaping answer) got is fixed = ap answer_kind (sym (same_Some answer got fixed))
done_kind command [] told phase got is fixed = absurd (cc is)

module _ (A : Type 0) (of_calls : List Call → A) (by : A → Command → Kind → A) (quiet : (a : A) (command : Command) → by a command Quiet ≡ a)
    (of_one : (calls : List Call) (command : Command) (got : Answer) → of_calls (calls ++ call_of command got) ≡ by (of_calls calls) command (answer_kind got)) where
  abbrev pub of_doing : List Call → Option Doing → A
  of_doing calls None = of_calls calls
  of_doing calls (Some doing) = by (of_calls calls) doing.command (phase_kind doing.phase)

  -- what a driver's part has done
  abbrev pub of_driver : DriverPart → A
  of_driver d = of_doing d.calls d.doing

  goes_value : (now : A) (b : Bool) (got : Option Answer) (d : DriverPart) (command : Command) (phase : Phase) → ((a : Answer) → b ≡ true → got ≡ Some a → answer_kind a ≡ phase_kind phase)
      → now ≡ by (of_calls d.calls) command (phase_kind phase) → now ≡ of_driver (goes_by b got d command phase)
  goes_value now false got d command phase same is = is
  goes_value now true None d command phase same is = is
  goes_value now true (Some got) d command phase same is = is ∙ ap (by (of_calls d.calls) command) (sym (same got refl refl)) ∙ sym (of_one d.calls command got)

  turned_value : (now : A) (k : Kind) (d : DriverPart) (command : Command) (t : Turn) → TurnKind k t → now ≡ by (of_calls d.calls) command k → now ≡ of_driver (turned d command t)
  turned_value now k d command (Goes phase) kind is =
      goes_value now (is_done d.owed d.told phase) (answer_of command phase) d command phase (λ got done fixed. done_kind command d.owed d.told phase got done fixed) (is ∙ ap (by (of_calls d.calls) command) (sym kind))
  turned_value now k d command (Ends got) kind is = is ∙ ap (by (of_calls d.calls) command) (sym kind) ∙ sym (of_one d.calls command got)

  took_value : (now : A) (d : DriverPart) (command : Command) (phase : Phase) (owed : List OwedDrop) (outcome : Outcome) → Fits phase outcome
      → now ≡ by (of_calls d.calls) command (kind_after (phase_kind phase) outcome) → now ≡ of_driver (took (opened d command phase owed) outcome)
  took_value now d command phase owed outcome fit is =
      turned_value now (kind_after (phase_kind phase) outcome) (with_facts (opened d command phase owed) (doing_in command phase) outcome) command (turn d.me command phase outcome) (turn_kind d.me command phase outcome fit) is

  module _ {o : Opening} {s : State} {p : ℕ} {c : Option Command} {t : State} (step : Step o s p c t) where
    abbrev pub k : Parts step
    k = parts step

    abbrev pub happened : Outcome × PeerPart
    happened = answered o step.local.memory step.driver k.command k.phase step.driver.owed step.peer

    value_before : (value : A) → value ≡ of_driver step.driver → value ≡ by (of_calls step.driver.calls) k.command (phase_kind k.phase)
    value_before value is = elim k.was [
      | inl open_is ↦ is ∙ ap (of_doing step.driver.calls) open_is
      | inr new ↦ is ∙ ap (of_doing step.driver.calls) new.0 ∙ sym (quiet (of_calls step.driver.calls) k.command) ∙ ap (λ ph. by (of_calls step.driver.calls) k.command (phase_kind ph)) (sym new.1)
    ]

    -- the value after a step, where what the event makes of it is known
    pub value_after : (value now : A) → value ≡ of_driver step.driver
        → (Fits k.phase happened.0 → value ≡ by (of_calls step.driver.calls) k.command (phase_kind k.phase) → now ≡ by (of_calls step.driver.calls) k.command (kind_after (phase_kind k.phase) happened.0))
        → now ≡ of_driver step.new_driver
    value_after value now is event =
        let fit = fits o step.local.memory step.driver k.command k.phase step.driver.owed step.peer in
        took_value now step.driver k.command k.phase step.driver.owed happened.0 fit (event fit (value_before value is)) ∙ ap of_driver k.is_driver
