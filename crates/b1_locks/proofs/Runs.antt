-- A command begins at a driver, and goes on.
use Rattle.std.proofs.Common.{◌≡◌, ◌⊎◌, inl, inr, ℕ, [], Err, refl, sym, ap, ◌∙◌, true, false, length, Option, Some, None, Bor, is_some, option_copied}
use native.Mathlib.Omega.{arith}
use Rattle.b1_model.specs.declared.naming.Opening.{Opening}
use Rattle.b1_model.specs.declared.commands.Command.{Command}
use Rattle.b1_model.specs.declared.events.Doing.{Doing}
use Rattle.b1_model.specs.declared.events.Phase.TheVariants.{Starting}
use Rattle.b1_model.specs.declared.answers.Answer.TheVariants as answer
use Rattle.b1_model.specs.declared.answers.Refused.{Refused}
use Rattle.b1_model.specs.declared.commands.Command.TheVariants as cmd
use Rattle.b1_model.specs.declared.commands.SendCmd.{SendCmd}
use Rattle.b1_model.specs.declared.events.Action.TheVariants as act
use Rattle.b1_model.specs.declared.events.Outcome.TheVariants as out
use Rattle.b1_model.specs.declared.events.Phase.{Phase}
use Rattle.b1_model.specs.Opening.{IsOpening}
use Rattle.b1_model.specs.MachineParts.{DriverPart, State}
use Rattle.b1_model.specs.MachineDriver.{next_action, phase_action}
use Rattle.b1_model.specs.MachineTook.{took}
use Rattle.b1_inv.specs.Sound.{IsSound}
use Rattle.b1_inv.specs.References.{may_owe}
use Rattle.b1_inv.specs.Words.{phase_of}
use Rattle.b1_inv_tools.proofs.Facts.{next_of}
use Rattle.b1_edge.specs.Ports.{with_call}
use Rattle.b1_commands.specs.Done.{GoesOn}
use Rattle.b1_commands.proofs.Ended.{stays_closed}
use Rattle.b1_model.specs.MachineStep.{Reached, begun_by}
use Rattle.b1_driver.specs.Parts.{Driver, command_of}
use Rattle.b1_rule.specs.Rule.{holding}
use Rattle.b1_locks.specs.Faces.{IsIdle, StandsIn}
use Rattle.b1_locks.specs.Locks.{IsFit, HasBegun, IsBeginRefused}

pub begins_here : (o : Opening) (d e : Driver) (c : Command) → IsIdle d → StandsIn o d.part → e ≡ record d { part = record d.part { doing = Some (record { command = c; phase = Starting }) } } → HasBegun o (holding d) (Some c) e
begins_here o d e c idle stands is = record {
  stands = stands;
  begun = ap (λ b. begun_by d.part b (Some c)) idle.closed ∙ ap (λ z. Some z.part) (sym is);
  room = ap (λ z. z.doomed) is;
  fit = record {
    few = let few = idle.few in omega (arith, few, ap (λ z. length z.part.calls) is, ap (λ z. z.spare) is);
    here = let here = idle.here in omega (arith, here, ap (λ z. z.doomed) is, ap (λ z. z.here) is);
  };
}

itself : (d : DriverPart) (doing : Option Doing) (c : Command) → command_of doing ≡ Some c → begun_by d doing None ≡ Some d
itself d None c is = absurd (cc is)
itself d (Some doing) c is = refl

pub goes_here : (o : Opening) (d : Driver) (c : Command) → StandsIn o d.part → IsFit d → command_of d.part.doing ≡ Some c → HasBegun o (holding d) None d
goes_here o d c stands fit is = record { stands = stands; begun = itself d.part d.part.doing c is; room = refl; fit = fit }

none_open : (doing : Option Doing) → command_of doing ≡ None → doing ≡ None
none_open None is = refl
none_open (Some doing) is = absurd (cc is)

pub closed_here : (d : DriverPart) → command_of d.doing ≡ None → d.doing ≡ None
closed_here d is = none_open d.doing is

pub some_open : (doing : Option Doing) (r : Option (Bor Command)) → option_copied r ≡ command_of doing → is_some r ≡ true → (c : Command) × (command_of doing ≡ Some c)
some_open doing None is some = absurd (cc some)
some_open doing (Some b) is some = (b.now, sym is)

-- ---- a SEND without memory for its answer

-- a driver without an open command owes nothing
pub owes_nothing : (o : Opening) (d : DriverPart) → ((o : Opening) (s : State) → IsOpening o → Reached o s → IsSound o s) → StandsIn o d → d.doing ≡ None → d.owed ≡ []
owes_nothing o d sound stands idle = by ((sound o stands.state stands.opening stands.reached).references.owing d.me d stands.driver)
  where
    by : (d.owed ≡ []) ⊎ ((phase : Phase) × (phase_of d ≡ Some phase) × (may_owe phase ≡ true)) → d.owed ≡ []
    by (inl none) = none
    by (inr (phase, is, may)) = absurd (cc (sym (ap (λ (open_is : Option Doing). elim open_is as (λ z. Option Phase) [ None ↦ None | Some doing ↦ Some doing.phase ]) idle) ∙ is))

-- its next event is the begin where a SEND begins and it isn't shut
pub begins_next : (d e : DriverPart) (s : SendCmd) → d.owed ≡ [] → d.shut ≡ false → e ≡ record d { doing = Some (record { command = cmd.Send s; phase = Starting }) } → next_action e ≡ act.Begin
begins_next d e s owes is_open same =
    ap next_action same
    ∙ next_of (record d { doing = Some (record { command = cmd.Send s; phase = Starting }) }) (record { command = cmd.Send s; phase = Starting }) refl owes
    ∙ ap (λ b. phase_action d.me b (cmd.Send s) Starting) is_open

-- where the begin is refused, the SEND is over
pub refused_begin : (o : Opening) (d e m f : DriverPart) (s : SendCmd) (n : ℕ) → e ≡ record d { doing = Some (record { command = cmd.Send s; phase = Starting }) } → IsBeginRefused e m → GoesOn o n m f → (b : Refused) × (f.calls ≡ with_call (cmd.Send s) (answer.Refused b) d.calls)
refused_begin o d e m f s n same (r, took_is) goes =
    let one : DriverPart = took (record d { doing = Some (record { command = cmd.Send s; phase = Starting }) }) (out.Begin (Err r)) in
    let is : m ≡ one = took_is ∙ ap (λ z. took z (out.Begin (Err r))) same in
    let ends : f ≡ m = stays_closed o n m f (ap (λ z. z.doing) is) goes in
    (record { reason = r; place = None }, ap (λ z. z.calls) (ends ∙ is))
