-- The table behind a driver's calls, with that of its open command where its answer is fixed, carried through a turn.
use Rattle.std.proofs.Common.{◌≡◌, refl, sym, ap, ◌∙◌, inl, inr, ℕ, Bool, true, false, cond, ◌&&◌, List, [], ◌∷◌, Option, Some, None}
use Rattle.b1_model.specs.declared.naming.Key.{Key}
use Rattle.b1_model.specs.declared.naming.Opening.{Opening}
use Rattle.b1_model.specs.declared.commands.Command.{Command}
use Rattle.b1_model.specs.declared.answers.Answer.{Answer}
use Rattle.b1_model.specs.declared.answers.Answer.TheVariants as answer
use Rattle.b1_model.specs.declared.events.Doing.{Doing}
use Rattle.b1_model.specs.declared.events.Outcome.{Outcome}
use Rattle.b1_model.specs.declared.events.OwedDrop.{OwedDrop}
use Rattle.b1_model.specs.declared.events.Phase.{Phase}
use Rattle.b1_model.specs.declared.events.Phase.TheVariants.{Committing, Dropping, Reaping}
use Rattle.b1_model.specs.Names.{Node}
use Rattle.b1_model.specs.Ledger.{Table, changed, table_in}
use Rattle.b1_model.specs.MachineParts.{DriverPart, State}
use Rattle.b1_model.specs.MachineDriver.{Turn, Goes, Ends, turn}
use Rattle.b1_model.specs.MachineTook.{answer_of, is_await, is_again, as_call, call_of, fixed_call, open_by, driver_calls, goes_by, is_done, turned, with_facts, took}
use Rattle.b1_model.specs.MachineStep.{Step}
use Rattle.b1_ledger.proofs.Walks.{table_in-append}
use Rattle.b1_ledger.proofs.Steps.{quiet_table}
use Rattle.b1_inv_record.specs.Epochs.{awaits_flush, in_gap}
use Rattle.b1_inv_notices.proofs.Turns.{doing_in, opened, parts, going_answer}

module _ (look : Key → List (Option Node)) where
  -- a command with its answer, if that is fixed
  abbrev pub fixed_table : Command → Option Answer → Table → Table
  fixed_table command None t = t
  fixed_table command (Some got) t = changed look (as_call command) got t

  -- a command in a phase
  abbrev pub phase_table : Command → Phase → Table → Table
  phase_table command phase t = fixed_table command (answer_of command phase) t

  -- the open command, if there is one
  abbrev pub doing_table : Option Doing → Table → Table
  doing_table None t = t
  doing_table (Some doing) t = phase_table doing.command doing.phase t

  -- what a turn makes of the table
  abbrev pub turn_table : Command → Turn → Table → Table
  turn_table command (Goes phase) t = phase_table command phase t
  turn_table command (Ends got) t = changed look (as_call command) got t

  -- the table behind the call of an ended command
  call_table : (command : Command) (got : Answer) (t : Table) → table_in look t (call_of command got) ≡ changed look (as_call command) got t
  call_table command (answer.Refused refused) t = by (is_await command && is_again refused.reason)
    where
      none : changed look (as_call command) (answer.Refused refused) t ≡ t
      none = quiet_table look (as_call command) (answer.Refused refused) t refl

      by : (b : Bool) → table_in look t (cond b [] (record { command = as_call command; answer = answer.Refused refused } ∷ [])) ≡ changed look (as_call command) (answer.Refused refused) t
      by true = sym none
      by false = refl
  call_table command got t = by (is_await command)
    where
      by : (b : Bool) → table_in look t (cond (b && false) [] (record { command = as_call command; answer = got } ∷ [])) ≡ changed look (as_call command) got t
      by true = refl
      by false = refl

  -- the table behind the call of an open one
  open_table : (doing : Option Doing) (t : Table) → table_in look t (open_by doing) ≡ doing_table doing t
  open_table None t = refl
  open_table (Some doing) t = by (answer_of doing.command doing.phase)
    where
      by : (got : Option Answer) → table_in look t (fixed_call doing.command got) ≡ fixed_table doing.command got t
      by None = refl
      by (Some got) = call_table doing.command got t

  module _ (start : Table) where
    -- the table behind the calls of a driver's list
    abbrev pub listed : DriverPart → Table
    listed d = table_in look start d.calls

    -- behind all calls of a driver
    abbrev pub value : DriverPart → Table
    value d = doing_table d.doing (listed d)

    -- it is the table behind these calls
    pub value_is : (d : DriverPart) → table_in look start (driver_calls d) ≡ value d
    value_is d = table_in-append look start d.calls (open_by d.doing) ∙ open_table d.doing (listed d)

    -- where a command goes on, or ends
    goes_value : (b : Bool) (got : Option Answer) (d : DriverPart) (command : Command) (phase : Phase) → got ≡ answer_of command phase → value (goes_by b got d command phase) ≡ phase_table command phase (listed d)
    goes_value false got d command phase is = refl
    goes_value true None d command phase is = refl
    goes_value true (Some got) d command phase is = table_in-append look start d.calls (call_of command got) ∙ call_table command got (listed d) ∙ ap (λ z. fixed_table command z (listed d)) is

    -- after a turn
    turned_value : (d : DriverPart) (command : Command) (to : Turn) → value (turned d command to) ≡ turn_table command to (listed d)
    turned_value d command (Goes phase) = goes_value (is_done d.owed d.told phase) (answer_of command phase) d command phase refl
    turned_value d command (Ends got) = table_in-append look start d.calls (call_of command got) ∙ call_table command got (listed d)

    -- after an event's answer
    pub took_value : (d : DriverPart) (command : Command) (phase : Phase) (owed : List OwedDrop) (outcome : Outcome) → value (took (opened d command phase owed) outcome) ≡ turn_table command (turn d.me command phase outcome) (listed d)
    took_value d command phase owed outcome = turned_value (with_facts (opened d command phase owed) (doing_in command phase) outcome) command (turn d.me command phase outcome)

    module _ {o : Opening} {s : State} {p : ℕ} {c : Option Command} {t : State} (step : Step o s p c t) where
      -- the table before a step
      pub value_before : value step.driver ≡ phase_table (parts step).command (parts step).phase (listed step.driver)
      value_before = elim (parts step).was [
        | inl is ↦ ap (λ z. doing_table z (listed step.driver)) is
        | inr new ↦ ap (λ z. doing_table z (listed step.driver)) new.0 ∙ ap (λ z. phase_table (parts step).command z (listed step.driver)) (sym new.1)
      ]

      -- the table behind it
      pub value_behind : value step.new_driver ≡ turn_table (parts step).command (turn step.driver.me (parts step).command (parts step).phase (going_answer step)) (listed step.driver)
      value_behind = ap value (sym (parts step).is_driver) ∙ took_value step.driver (parts step).command (parts step).phase step.driver.owed (going_answer step)

-- ---- the gap of a reset, by the turn

-- whether a turn leads into a gap, or stays in it
abbrev pub turn_gap : Command → Turn → Bool
turn_gap command (Goes phase) = awaits_flush command phase
turn_gap command (Ends got) = false

-- whether what is open is in a gap
abbrev pub doing_gap : Option Doing → Bool
doing_gap doing = elim doing [ None ↦ false | Some one ↦ awaits_flush one.command one.phase ]

-- where a command goes on, or ends, out of a gap
ended_gap : (b : Bool) (got : Option Answer) (d : DriverPart) (command : Command) (phase : Phase) → awaits_flush command phase ≡ false → in_gap (goes_by b got d command phase) ≡ awaits_flush command phase
ended_gap false got d command phase none = refl
ended_gap true None d command phase none = refl
ended_gap true (Some got) d command phase none = sym none

-- where a command goes on, or ends
goes_gap : (owed : List OwedDrop) (told : Bool) (d : DriverPart) (command : Command) (phase : Phase) → in_gap (goes_by (is_done owed told phase) (answer_of command phase) d command phase) ≡ awaits_flush command phase
goes_gap (one ∷ rest) told d command phase = refl
goes_gap [] told d command (Committing sending stamp place) = ended_gap (is_done [] told (Committing sending stamp place)) _ d command (Committing sending stamp place) refl
goes_gap [] told d command Dropping = refl
goes_gap [] told d command (Reaping got) = ended_gap (is_done [] told (Reaping got)) _ d command (Reaping got) refl
goes_gap [] told d command phase = refl

-- after a turn
turned_gap : (d : DriverPart) (command : Command) (to : Turn) → in_gap (turned d command to) ≡ turn_gap command to
turned_gap d command (Goes phase) = goes_gap d.owed d.told d command phase
turned_gap d command (Ends got) = refl

module _ {o : Opening} {s : State} {p : ℕ} {c : Option Command} {t : State} (step : Step o s p c t) where
  -- whether a driver was in a gap
  pub gap_before : in_gap step.driver ≡ awaits_flush (parts step).command (parts step).phase
  gap_before = elim (parts step).was [
    | inl is ↦ ap doing_gap is
    | inr new ↦ ap doing_gap new.0 ∙ ap (awaits_flush (parts step).command) (sym new.1)
  ]

  -- whether it is in one
  pub gap_behind : in_gap step.new_driver ≡ turn_gap (parts step).command (turn step.driver.me (parts step).command (parts step).phase (going_answer step))
  gap_behind =
      ap in_gap (sym (parts step).is_driver)
      ∙ turned_gap (with_facts (opened step.driver (parts step).command (parts step).phase step.driver.owed) (doing_in (parts step).command (parts step).phase) (going_answer step)) (parts step).command (turn step.driver.me (parts step).command (parts step).phase (going_answer step))
