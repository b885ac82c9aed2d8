-- What a step makes of the two parts, by the command and the phase that it goes on from.
use Rattle.std.proofs.Common.{◌≡◌, sym, ap, ◌∙◌, subst, inl, inr, ℕ, Bool, Option, Some, None}
use Rattle.std.proofs.lemmas.Option.{same_Some}
use Rattle.b1_model.specs.declared.naming.Opening.{Opening}
use Rattle.b1_model.specs.declared.commands.Command.{Command}
use Rattle.b1_model.specs.declared.events.Action.{Action}
use Rattle.b1_model.specs.declared.events.Doing.{Doing}
use Rattle.b1_model.specs.declared.events.Phase.{Phase}
use Rattle.b1_model.specs.declared.events.Phase.TheVariants.{Starting}
use Rattle.b1_model.specs.MachineParts.{PeerPart, DriverPart, State}
use Rattle.b1_model.specs.MachineDriver.{next_action, peer_of, turn}
use Rattle.b1_model.specs.MachineTook.{with_facts, turned}
use Rattle.b1_model.specs.MachineEvents.{happens}
use Rattle.b1_model.specs.MachineStep.{Step}
use Rattle.b1_inv_tools.proofs.Leaves.{Did, step_did}

-- a step that goes on from a phase of an open command
pub record Moved (o : Opening) (d : DriverPart) (x : PeerPart) (command : Command) (phase : Phase) (at : ℕ) (f : DriverPart) (y : PeerPart) : Type 0 where
  pub memory : Bool
  -- the driver's part with its open command
  pub e : DriverPart
  pub me : e.me ≡ d.me
  pub calls : e.calls ≡ d.calls
  pub shut : e.shut ≡ d.shut
  pub owed : e.owed ≡ d.owed
  pub told : e.told ≡ d.told
  pub attempted : e.attempted ≡ d.attempted
  pub is_open : e.doing ≡ Some (record { command = command; phase = phase })
  pub is_at : at ≡ peer_of e.me (next_action e)
  pub driver : f ≡ turned (with_facts e (record { command = command; phase = phase }) (happens o memory e (record { command = command; phase = phase }) (next_action e) x).0) command
      (turn e.me command phase (happens o memory e (record { command = command; phase = phase }) (next_action e) x).0)
  pub peer : y ≡ (happens o memory e (record { command = command; phase = phase }) (next_action e) x).1

-- where the next event is known
module _ {o : Opening} {d : DriverPart} {x : PeerPart} {command : Command} {phase : Phase} {at : ℕ} {f : DriverPart} {y : PeerPart} (m : Moved o d x command phase at f y) (action : Action) (next : next_action m.e ≡ action) where
  abbrev doing : Doing
  doing = record { command = command; phase = phase }

  pub moved_at : at ≡ peer_of m.e.me action
  moved_at = m.is_at ∙ ap (peer_of m.e.me) next

  pub moved_driver : f ≡ turned (with_facts m.e doing (happens o m.memory m.e doing action x).0) command (turn m.e.me command phase (happens o m.memory m.e doing action x).0)
  moved_driver = m.driver ∙ ap (λ a. turned (with_facts m.e doing (happens o m.memory m.e doing a x).0) command (turn m.e.me command phase (happens o m.memory m.e doing a x).0)) next

  pub moved_peer : y ≡ (happens o m.memory m.e doing action x).1
  moved_peer = m.peer ∙ ap (λ a. (happens o m.memory m.e doing a x).1) next

module _ {o : Opening} {s : State} {p : ℕ} {command : Option Command} {t : State} (step : Step o s p command t) where
  k : Did o step.local.memory step.driver command step.peer step.action step.at step.new_driver step.new_peer
  k = step_did step

  by_doing : Moved o step.driver step.peer k.doing.command k.doing.phase step.at step.new_driver step.new_peer
  by_doing = record {
    memory = step.local.memory;
    e = k.e;
    me = k.opened.me;
    calls = k.opened.calls;
    shut = k.opened.shut;
    owed = k.opened.owed;
    told = k.opened.told;
    attempted = k.opened.attempted;
    is_open = k.opened.is_open;
    is_at = k.is_at ∙ ap (peer_of k.e.me) k.is_action;
    driver = k.driver ∙ ap (λ a. turned (with_facts k.e k.doing (happens o step.local.memory k.e k.doing a step.peer).0) k.doing.command (turn k.e.me k.doing.command k.doing.phase (happens o step.local.memory k.e k.doing a step.peer).0)) k.is_action;
    peer = k.peer ∙ ap (λ a. (happens o step.local.memory k.e k.doing a step.peer).1) k.is_action;
  }

  by_phase : (doing : Doing) → k.doing ≡ doing → Moved o step.driver step.peer doing.command doing.phase step.at step.new_driver step.new_peer
  by_phase doing is = subst (λ z. Moved o step.driver step.peer z.command z.phase step.at step.new_driver step.new_peer) is by_doing

  -- a command begins
  pub begin_moved : (c : Command) → command ≡ Some c → step.driver.doing ≡ None → Moved o step.driver step.peer c Starting step.at step.new_driver step.new_peer
  begin_moved c begins idle = elim k.opened.from [
    | inl is ↦ absurd (cc (sym idle ∙ is))
    | inr b ↦ by_phase (record { command = c; phase = Starting }) (ap (λ z. record { command = z; phase = k.doing.phase }) (same_Some k.doing.command c (sym b.1 ∙ begins)) ∙ ap (λ z. record { command = c; phase = z }) b.2)
  ]

  -- an open command goes on
  pub further_moved : (doing : Doing) → step.driver.doing ≡ Some doing → Moved o step.driver step.peer doing.command doing.phase step.at step.new_driver step.new_peer
  further_moved doing is_open = elim k.opened.from [
    | inl is ↦ by_phase doing (same_Some k.doing doing (sym is ∙ is_open))
    | inr b ↦ absurd (cc (sym b.0 ∙ is_open))
  ]

  -- no open command goes on where none is open
  pub no_further : command ≡ None → step.driver.doing ≡ None → ⊥
  no_further none idle = elim k.opened.from [
    | inl is ↦ cc (sym idle ∙ is)
    | inr b ↦ cc (sym none ∙ b.1)
  ]
