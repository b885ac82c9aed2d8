-- A fact of what is open at a driver, carried through an answer; and the two parts that a step is found on.
use Rattle.std.proofs.Common.{◌≡◌, ◌⊎◌, refl, sym, ap, ◌∙◌, inl, inr, ℕ, zero, suc, ◌<◌, Bool, true, false, cond, List, [], ◌∷◌, length, Option, Some, None, option_map}
use Rattle.std.specs.Prelude.{slice_get, ⊤}
use Rattle.std.proofs.lemmas.Option.{same_Some}
use native.Mathlib.Omega.{arith}
use Rattle.b1_model.specs.declared.commands.Command.{Command}
use Rattle.b1_model.specs.declared.commands.Command.TheVariants as cmd
use Rattle.b1_model.specs.declared.naming.Opening.{Opening}
use Rattle.b1_model.specs.declared.answers.Answer.{Answer}
use Rattle.b1_model.specs.declared.events.Action.{Action}
use Rattle.b1_model.specs.declared.events.Action.TheVariants as act
use Rattle.b1_model.specs.declared.events.Outcome.{Outcome}
use Rattle.b1_model.specs.declared.events.Phase.{Phase}
use Rattle.b1_model.specs.declared.events.Phase.TheVariants.{Starting, Syncing, Committing, Dropping, Reaping, SyncingNotices, CommittingOwn, CommittingNotices}
use Rattle.b1_model.specs.declared.events.Doing.{Doing}
use Rattle.b1_model.specs.declared.events.OwedDrop.{OwedDrop}
use Rattle.b1_model.specs.MachineParts.{PeerPart, DriverPart, State}
use Rattle.b1_model.specs.MachineDriver.{first_action, next_action, peer_of, Turn, Goes, Ends, turn}
use Rattle.b1_model.specs.MachineTook.{goes_by, is_done, answer_of, turned, with_facts, took}
use Rattle.b1_model.specs.MachineEvents.{happens}
use Rattle.b1_model.specs.MachineStep.{Step, begun_by, aimed, effect_by}
use Rattle.b1_step.specs.Rights.{Has}
use Rattle.b1_inv.specs.Words.{stamp_of_phase}

-- a command in a phase
abbrev pub doing_in : Command → Phase → Doing
doing_in command phase = record { command = command; phase = phase }

-- a driver's part with a command in a phase, and what it owes
abbrev pub opened : DriverPart → Command → Phase → List OwedDrop → DriverPart
opened d command phase owed = record d { doing = Some (doing_in command phase); owed = owed }

-- what an event of such a part answers, and the peer's part after it
abbrev pub answered : Opening → Bool → DriverPart → Command → Phase → List OwedDrop → PeerPart → Outcome × PeerPart
answered o memory d command phase owed x = happens o memory (opened d command phase owed) (doing_in command phase) (next_action (opened d command phase owed)) x

-- ---- what an answer leaves open

-- a fact of what is open after a turn
abbrev pub OnTurn : Command → (Option Doing → Type 0) → Turn → Type 0
OnTurn command P (Goes phase) = P (Some (doing_in command phase))
OnTurn command P (Ends got) = P None

-- phases in which nothing may be left of a command
abbrev pub may_end : Phase → Bool
may_end (Committing sending stamp place) = true
may_end Dropping = true
may_end (Reaping got) = true
may_end phase = false

done_may_end : (owed : List OwedDrop) (told : Bool) (phase : Phase) → is_done owed told phase ≡ true → may_end phase ≡ true
done_may_end (one ∷ rest) told phase is = absurd (cc is)
done_may_end [] told (Committing sending stamp place) is = refl
done_may_end [] told Dropping is = refl
done_may_end [] told (Reaping got) is = refl
done_may_end [] told phase is = absurd (cc is)

module _ (P : Option Doing → Type 0) (command : Command) (ends : (phase : Phase) → may_end phase ≡ true → P (Some (doing_in command phase)) → P None) where
  goes : (b : Bool) (got : Option Answer) (d : DriverPart) (phase : Phase) → (b ≡ true → may_end phase ≡ true) → P (Some (doing_in command phase)) → P (goes_by b got d command phase).doing
  goes false got d phase may h = h
  goes true None d phase may h = h
  goes true (Some got) d phase may h = ends phase (may refl) h

  turned_leaves : (d : DriverPart) (t : Turn) → OnTurn command P t → P (turned d command t).doing
  turned_leaves d (Goes phase) h = goes (is_done d.owed d.told phase) (answer_of command phase) d phase (done_may_end d.owed d.told phase) h
  turned_leaves d (Ends got) h = h

  -- what holds of the turn holds of what is open afterwards
  pub took_leaves : (d : DriverPart) (phase : Phase) (owed : List OwedDrop) (outcome : Outcome) → OnTurn command P (turn d.me command phase outcome) → P (took (opened d command phase owed) outcome).doing
  took_leaves d phase owed outcome h = turned_leaves (with_facts (opened d command phase owed) (doing_in command phase) outcome) (turn d.me command phase outcome) h

-- ---- the two parts of a step

-- the command of a step's driver with its phase, and what the event makes of the two parts
pub record Parts {o : Opening} {s : State} {p : ℕ} {c : Option Command} {t : State} (step : Step o s p c t) : Type 0 where
  pub command : Command
  pub phase : Phase
  pub was : (step.driver.doing ≡ Some (doing_in command phase)) ⊎ ((step.driver.doing ≡ None) × (phase ≡ Starting))
  pub is_action : next_action (opened step.driver command phase step.driver.owed) ≡ step.action
  pub is_at : peer_of step.driver.me (next_action (opened step.driver command phase step.driver.owed)) ≡ step.at
  pub is_driver : took (opened step.driver command phase step.driver.owed) (answered o step.local.memory step.driver command phase step.driver.owed step.peer).0 ≡ step.new_driver
  pub is_peer : (answered o step.local.memory step.driver command phase step.driver.owed step.peer).1 ≡ step.new_peer

module _ {o : Opening} {s : State} {p : ℕ} {c : Option Command} {t : State} (step : Step o s p c t) where
  parts_of : (command : Command) (phase : Phase) → (step.driver.doing ≡ Some (doing_in command phase)) ⊎ ((step.driver.doing ≡ None) × (phase ≡ Starting))
      → aimed (opened step.driver command phase step.driver.owed) ≡ (step.action, step.at)
      → effect_by o step.local.memory step.driver (Some (opened step.driver command phase step.driver.owed)) step.peer ≡ (step.new_driver, step.new_peer) → Parts step
  parts_of command phase was aim after = record {
    command = command;
    phase = phase;
    was = was;
    is_action = ap (λ z. z.0) aim;
    is_at = ap (λ z. z.1) aim;
    is_driver = ap (λ z. z.0) after;
    is_peer = ap (λ z. z.1) after;
  }

  -- a part with an open command is the part with it in place
  same_opened : (doing : Doing) → step.driver.doing ≡ Some doing → step.driver ≡ opened step.driver doing.command doing.phase step.driver.owed
  same_opened doing is = λ i. record step.driver { doing = is i }

  parts_by : (open_now : Option Doing) (begins : Option Command) → step.driver.doing ≡ open_now
      → option_map aimed (begun_by step.driver open_now begins) ≡ Some (step.action, step.at)
      → effect_by o step.local.memory step.driver (begun_by step.driver open_now begins) step.peer ≡ (step.new_driver, step.new_peer) → Parts step
  parts_by None None is aim after = absurd (cc aim)
  parts_by None (Some command) is aim after = parts_of command Starting (inr (is, refl)) (same_Some _ _ aim) after
  parts_by (Some doing) None is aim after =
      let same = same_opened doing is in
      parts_of doing.command doing.phase (inl is) (ap aimed (sym same) ∙ same_Some _ _ aim) (ap (λ e. effect_by o step.local.memory step.driver (Some e) step.peer) (sym same) ∙ after)
  parts_by (Some doing) (Some command) is aim after = absurd (cc aim)

  pub parts : Parts step
  parts = parts_by step.driver.doing c refl step.is_target step.local.after

-- ---- words on a step

module _ {o : Opening} {s : State} {p : ℕ} {c : Option Command} {t : State} (step : Step o s p c t) where
  -- the command that is open or begins, the driver's part with it, its next event, and that event's answer
  abbrev pub going_doing : Doing
  going_doing = doing_in (parts step).command (parts step).phase

  abbrev pub going : DriverPart
  going = opened step.driver (parts step).command (parts step).phase step.driver.owed

  abbrev pub going_action : Action
  going_action = next_action going

  abbrev pub going_answer : Outcome
  going_answer = (answered o step.local.memory step.driver (parts step).command (parts step).phase step.driver.owed step.peer).0

-- ---- the stamps and clocks that an event brings

-- a stamp is the phase's, a drop's clock that of an owed one
abbrev pub ActionStamp : Phase → List OwedDrop → Action → Type 0
ActionStamp phase owed (act.Sync peer stamp) = stamp_of_phase phase ≡ Some stamp
ActionStamp phase owed (act.Commit peer place stamp) = stamp_of_phase phase ≡ Some stamp
ActionStamp phase owed (act.CommitNotices peer stamp) = stamp_of_phase phase ≡ Some stamp
ActionStamp phase owed (act.DropRefs peer serial holder k clock) = (one : OwedDrop) × Has owed one × (one.clock ≡ clock)
ActionStamp phase owed action = ⊤

first_stamp : (b : Bool) (command : Command) (owed : List OwedDrop) → ActionStamp Starting owed (cond b act.Local (first_action command))
first_stamp true command owed = tt
first_stamp false cmd.Disconnect owed = tt
first_stamp false command owed = tt

pub action_stamp : (d : DriverPart) (command : Command) (phase : Phase) (owed : List OwedDrop) → ActionStamp phase owed (next_action (opened d command phase owed))
action_stamp d command phase (one ∷ rest) = (one, inl refl, refl)
action_stamp d command Starting [] = first_stamp d.shut command []
action_stamp d command (Syncing sending stamp place) [] = refl
action_stamp d command (Committing sending stamp place) [] = refl
action_stamp d command (SyncingNotices destruction stamp at) [] = refl
action_stamp d command (CommittingOwn destruction stamp) [] = refl
action_stamp d command (CommittingNotices destruction stamp at) [] = refl
action_stamp d command phase [] = tt

-- an element at each index within
pub get_there : {X : Type 0} (xs : List X) (i : ℕ) → i < length xs → (x : X) × (slice_get xs i ≡ Some x)
get_there [] i within = absurd (omega (arith, within))
get_there (x ∷ xs) zero within = (x, refl)
get_there (x ∷ xs) (suc i) within = get_there xs i (omega (arith, within))
