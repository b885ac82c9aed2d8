-- Want of memory makes a difference only at an accepted begin or stage, and the peer's part then stays.
use Rattle.std.proofs.Common.{◌≡◌, refl, ℕ, true, false, List, Option, Some, None, Err}
use Rattle.b1_model.specs.declared.naming.NodeRef.{NodeRef}
use Rattle.b1_model.specs.declared.naming.Opening.{Opening}
use Rattle.b1_model.specs.declared.commands.SendCmd.{SendCmd}
use Rattle.b1_model.specs.declared.answers.Reason.{Reason}
use Rattle.b1_model.specs.declared.answers.Reason.TheVariants as reason
use Rattle.b1_model.specs.declared.events.Action.{Action}
use Rattle.b1_model.specs.declared.events.Action.TheVariants as act
use Rattle.b1_model.specs.declared.events.Outcome.TheVariants as out
use Rattle.b1_model.specs.declared.events.Doing.{Doing}
use Rattle.b1_model.specs.MachineParts.{PeerPart, DriverPart}
use Rattle.b1_model.specs.MachineEvents.{happens, begin_by, stage_by}
use Rattle.b1_step.specs.Rights.{is_accepted, may_want_memory, memory_answer}

begin_same : (r : Option Reason) (c : SendCmd) (x : PeerPart) → is_accepted r ≡ false → begin_by r true c x ≡ begin_by r false c x
begin_same (Some r) c x is = refl
begin_same None c x is = absurd (cc is)

begin_refused : (r : Option Reason) (c : SendCmd) (x : PeerPart) → is_accepted r ≡ true → begin_by r true c x ≡ (out.Begin (Err reason.Memory), x)
begin_refused (Some r) c x is = absurd (cc is)
begin_refused None c x is = refl

module _ (origin user place serial : ℕ) (payload : List ℕ) (nodes : List NodeRef) (x : PeerPart) where
  stage_same : (r : Option Reason) → is_accepted r ≡ false → stage_by r true origin user place serial payload nodes x ≡ stage_by r false origin user place serial payload nodes x
  stage_same (Some r) is = refl
  stage_same None is = absurd (cc is)

  stage_refused : (r : Option Reason) → is_accepted r ≡ true → stage_by r true origin user place serial payload nodes x ≡ (out.Stage (Err reason.Memory), x)
  stage_refused (Some r) is = absurd (cc is)
  stage_refused None is = refl

pub same : (o : Opening) (d : DriverPart) (doing : Doing) (action : Action) (x : PeerPart) → may_want_memory o d doing x action ≡ false → happens o true d doing action x ≡ happens o false d doing action x
same o d doing act.Begin x is = begin_same _ _ x is
same o d doing (act.Stage peer place) x is = stage_same _ _ _ _ _ _ x _ is
same o d doing action x is = refl

pub refused : (o : Opening) (d : DriverPart) (doing : Doing) (action : Action) (x : PeerPart) → may_want_memory o d doing x action ≡ true → happens o true d doing action x ≡ (memory_answer action, x)
refused o d doing act.Begin x is = begin_refused _ _ x is
refused o d doing (act.Stage peer place) x is = stage_refused _ _ _ _ _ _ x _ is
refused o d doing action x is = absurd (cc is)
