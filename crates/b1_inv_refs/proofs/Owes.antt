-- What a driver's part has for a holder, after an event's answer.
use Rattle.std.proofs.Common.{◌≡◌, ◌⊎◌, refl, inl, inr, ℕ, ◌+◌, Bool, true, false, List, [], ◌∷◌, Option, Some, None}
use Rattle.std.proofs.lemmas.Bool.{ltb-false, not-true}
use native.Mathlib.Omega.{arith}
use Rattle.b1_model.specs.declared.naming.NodeRef.{NodeRef}
use Rattle.b1_model.specs.declared.commands.Command.{Command}
use Rattle.b1_model.specs.declared.answers.Answer.{Answer}
use Rattle.b1_model.specs.declared.events.Outcome.{Outcome}
use Rattle.b1_model.specs.declared.events.Phase.{Phase}
use Rattle.b1_model.specs.declared.events.Phase.TheVariants.{Starting, Attaching, Stamping, Syncing, Committing}
use Rattle.b1_model.specs.declared.events.Doing.{Doing}
use Rattle.b1_model.specs.declared.events.OwedDrop.{OwedDrop}
use Rattle.b1_model.specs.MachineParts.{DriverPart}
use Rattle.b1_model.specs.MachineDriver.{is_place, Turn, Goes, Ends, turn}
use Rattle.b1_model.specs.MachineTook.{is_done, goes_by, answer_of, turned, with_facts, owed_after}
use Rattle.b1_model.specs.MachineCounts.{owed_amount, kept_amount, driver_amount}
use Rattle.b1_inv_tools.proofs.Leaves.{Opened}
use Rattle.b1_inv_refs.proofs.Kept.{kept_past}

module _ (node : NodeRef) (holder : ℕ) where
  -- what is kept where a command then stands
  abbrev pub kept_turn : Turn → ℕ
  kept_turn (Goes phase) = kept_amount node holder phase
  kept_turn (Ends got) = 0

  -- nothing is kept where a command is done
  done_none : (owed : List OwedDrop) (told : Bool) (phase : Phase) → is_done owed told phase ≡ true → kept_amount node holder phase ≡ 0
  done_none (one ∷ rest) told phase is = absurd (cc is)
  done_none [] told (Committing sending stamp place) is = kept_past node holder sending sending.places place 0 (let past = ltb-false _ _ (not-true (is_place place sending.places) is) in omega (arith, past))
  done_none [] told (Attaching sending place j) is = absurd (cc is)
  done_none [] told (Stamping sending) is = absurd (cc is)
  done_none [] told (Syncing sending stamp place) is = absurd (cc is)
  done_none [] told phase is = refl

  goes_amount : (b : Bool) (got : Option Answer) (f : DriverPart) (command : Command) (phase : Phase) → (b ≡ true → kept_amount node holder phase ≡ 0) → driver_amount node holder (goes_by b got f command phase) ≡ owed_amount node holder f.owed + kept_amount node holder phase
  goes_amount false got f command phase none = refl
  goes_amount true None f command phase none = refl
  goes_amount true (Some got) f command phase none = let k = none refl in omega (arith, k)

  turned_amount : (f : DriverPart) (command : Command) (to : Turn) → driver_amount node holder (turned f command to) ≡ owed_amount node holder f.owed + kept_turn to
  turned_amount f command (Goes phase) = goes_amount (is_done f.owed f.told phase) (answer_of command phase) f command phase (done_none f.owed f.told phase)
  turned_amount f command (Ends got) = refl

  -- after an answer: what is owed then, and what is kept then
  pub after_amount : (e : DriverPart) (doing : Doing) (outcome : Outcome) → driver_amount node holder (turned (with_facts e doing outcome) doing.command (turn e.me doing.command doing.phase outcome)) ≡ owed_amount node holder (owed_after e.me doing.phase e.owed outcome) + kept_turn (turn e.me doing.command doing.phase outcome)
  after_amount e doing outcome = turned_amount (with_facts e doing outcome) doing.command (turn e.me doing.command doing.phase outcome)

  -- before it
  pub opened_amount : (d : DriverPart) (command : Option Command) (e : DriverPart) (doing : Doing) → Opened d command e doing → driver_amount node holder d ≡ owed_amount node holder e.owed + kept_amount node holder doing.phase
  opened_amount d command e doing k = at k.from
    where
      at : ((d.doing ≡ Some doing) ⊎ ((d.doing ≡ None) × (command ≡ Some doing.command) × (doing.phase ≡ Starting))) → driver_amount node holder d ≡ owed_amount node holder e.owed + kept_amount node holder doing.phase
      at (inl is) = rw (is, k.owed) refl
      at (inr is) = rw (is.0, is.2, k.owed) refl
