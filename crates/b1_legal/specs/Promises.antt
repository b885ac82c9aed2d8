-- What is promised of a step, and of every step from a state.
use Rattle.std.specs.Prelude.{◌≡◌, ℕ, true, Option}
use Rattle.b1_model.specs.declared.naming.NodeRef.{NodeRef}
use Rattle.b1_model.specs.declared.naming.Opening.{Opening}
use Rattle.b1_model.specs.declared.commands.Command.{Command}
use Rattle.b1_model.specs.MachineParts.{State}
use Rattle.b1_model.specs.MachineCounts.{OnlyLiveNotified, ReleaseDue, is_live_in}
use Rattle.b1_model.specs.MachineStep.{Step}
use Rattle.b1_inv_next.specs.Shown.{ShowsRightFront, TakesFront}
use Rattle.b1_inv_ends.specs.Holders.{HoldersServed, LateByAttach}
use Rattle.b1_inv_ends.specs.Notices.{NoticesOnce, OneNotice}
use Rattle.b1_inv_ends.specs.Refused.{RefusedLeavesNothing, QueuesNeedAll}

-- release notices come and go when they are due; a RECV takes the front, or shows the right one; a destroy notice comes while its node ends, and leaves once it has; and only an attach makes a holder late
pub record KeepsPromises {o : Opening} {s : State} {p : ℕ} {c : Option Command} {t : State} (step : Step o s p c t) : Type 0 where
  pub due : (node : NodeRef) (live : is_live_in s node ≡ true) → ReleaseDue step node live
  pub shown : ShowsRightFront step
  pub taken : TakesFront step
  pub notice : OneNotice step
  pub late : LateByAttach step

-- every step from the state keeps them
abbrev pub StepsKeepPromises : Opening → State → Type 0
StepsKeepPromises o s = (p : ℕ) (c : Option Command) (t : State) (step : Step o s p c t) → KeepsPromises step

-- what is promised of a state: only live nodes have a release notice; a node has one destroy notice in a queue at most, and its holders have it once its destruction is done; and a refused SEND leaves nothing
pub record StateKeepsPromises (o : Opening) (s : State) : Type 0 where
  pub live : OnlyLiveNotified s
  pub once : NoticesOnce s
  pub served : HoldersServed o s
  pub refused : RefusedLeavesNothing s
  pub needed : QueuesNeedAll s
