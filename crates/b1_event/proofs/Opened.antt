-- The driver's part that a step works on: the one whose command is open, or begins.
use Rattle.std.proofs.Common.{◌≡◌, ◌⊎◌, refl, sym, ap, ◌∙◌, inl, inr, ℕ, Bool, Option, Some, None, option_map}
use Rattle.b1_model.specs.declared.commands.Command.{Command}
use Rattle.b1_model.specs.declared.naming.Opening.{Opening}
use Rattle.b1_model.specs.declared.events.Action.{Action}
use Rattle.b1_model.specs.declared.events.Doing.{Doing}
use Rattle.b1_model.specs.declared.events.Phase.TheVariants.{Starting}
use Rattle.b1_model.specs.MachineParts.{PeerPart, DriverPart}
use Rattle.b1_model.specs.MachineDriver.{next_action, peer_of}
use Rattle.b1_model.specs.MachineTook.{took}
use Rattle.b1_model.specs.MachineEvents.{happens}
use Rattle.b1_model.specs.MachineStep.{LocalStep, begun_by, begun, aimed, target, done_by, effect_by, effect}

some_same : {A : Type 0} (x y : A) → Some x ≡ Some y → x ≡ y
some_same x y same = cc same

-- a driver's part with a command that begins
abbrev pub begins : DriverPart → Command → DriverPart
begins d c = record d { doing = Some (record { command = c; phase = Starting }) }

-- a part with an open command: the old one, or one that begins where none was open
pub record Opened (d : DriverPart) (command : Option Command) (e : DriverPart) : Type 0 where
  pub doing : Doing
  pub is_doing : e.doing ≡ Some doing
  pub old_or_new : (e ≡ d) ⊎ ((c : Command) × (d.doing ≡ None) × (e ≡ begins d c))

opened_by : (d e : DriverPart) (doing : Option Doing) (command : Option Command) → d.doing ≡ doing → begun_by d doing command ≡ Some e → Opened d command e
opened_by d e None None open_is is = absurd (cc is)
opened_by d e None (Some c) open_is is =
    let same : begins d c ≡ e = some_same _ e is in
    record { doing = record { command = c; phase = Starting }; is_doing = sym (ap (λ f. f.doing) same); old_or_new = inr (c, open_is, sym same) }
opened_by d e (Some doing) None open_is is =
    let same : d ≡ e = some_same d e is in
    record { doing = doing; is_doing = sym (ap (λ f. f.doing) same) ∙ open_is; old_or_new = inl (sym same) }
opened_by d e (Some doing) (Some c) open_is is = absurd (cc is)

pub opened : (d e : DriverPart) (command : Option Command) → begun d command ≡ Some e → Opened d command e
opened d e command is = opened_by d e d.doing command refl is

-- a part whose command is open begins with itself
pub begun_itself : (e : DriverPart) (doing : Doing) → e.doing ≡ Some doing → begun e None ≡ Some e
begun_itself e doing is = ap (λ o. begun_by e o None) is

-- what a step does on two parts, by the open command
pub effect_is : (o : Opening) (memory : Bool) (d e : DriverPart) (command : Option Command) (doing : Doing) (x : PeerPart) → begun d command ≡ Some e → e.doing ≡ Some doing
    → effect o memory d command x ≡ (took e (happens o memory e doing (next_action e) x).0, (happens o memory e doing (next_action e) x).1)
effect_is o memory d e command doing x is_begun is_doing = ap (λ b. effect_by o memory d b x) is_begun ∙ ap (λ b. done_by o memory e b x) is_doing

-- a step of the part whose command is open is one of the part that it began from
pub begun_step : (o : Opening) (d e f : DriverPart) (command : Option Command) (x y : PeerPart) → begun d command ≡ Some e → LocalStep o None e x f y → LocalStep o command d x f y
begun_step o d e f command x y is_begun local =
    let one = opened d e command is_begun in
    record {
      memory = local.memory;
      after =
          effect_is o local.memory d e command one.doing x is_begun one.is_doing
          ∙ sym (effect_is o local.memory e e None one.doing x (begun_itself e one.doing one.is_doing) one.is_doing)
          ∙ local.after;
    }

-- where a step's event is
pub record Aimed (d : DriverPart) (command : Option Command) (action : Action) (at : ℕ) : Type 0 where
  pub part : DriverPart
  pub is_begun : begun d command ≡ Some part
  pub is_next : next_action part ≡ action
  pub is_at : peer_of part.me action ≡ at

aimed_by : (d : DriverPart) (command : Option Command) (action : Action) (at : ℕ) (b : Option DriverPart) → begun d command ≡ b → option_map aimed b ≡ Some (action, at) → Aimed d command action at
aimed_by d command action at None is_begun is = absurd (cc is)
aimed_by d command action at (Some e) is_begun is =
    let pair : aimed e ≡ (action, at) = some_same _ _ is in
    let next : next_action e ≡ action = ap (λ z. z.0) pair in
    record { part = e; is_begun = is_begun; is_next = next; is_at = ap (peer_of e.me) (sym next) ∙ ap (λ z. z.1) pair }

pub aimed_at : (d : DriverPart) (command : Option Command) (action : Action) (at : ℕ) → target d command ≡ Some (action, at) → Aimed d command action at
aimed_at d command action at is = aimed_by d command action at (begun d command) refl is

pub target_is : (d e : DriverPart) (command : Option Command) → begun d command ≡ Some e → target d command ≡ Some (next_action e, peer_of e.me (next_action e))
target_is d e command is = ap (option_map aimed) is
