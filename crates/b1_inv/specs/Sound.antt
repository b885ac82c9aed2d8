-- All that holds of every reached state, together.
use Rattle.b1_model.specs.declared.naming.Opening.{Opening}
use Rattle.b1_model.specs.Opening.{IsOpening}
use Rattle.b1_model.specs.MachineParts.{State}
use Rattle.b1_step.specs.Fixed.{IsNumbered}
use Rattle.b1_step.specs.Ordered.{HandlesRise}
use Rattle.b1_inv.specs.Sends.{SendsRight}
use Rattle.b1_inv.specs.Stages.{StagesRight}
use Rattle.b1_inv.specs.Stamps.{StampsRight}
use Rattle.b1_inv.specs.Notices.{NoticesRight}
use Rattle.b1_inv.specs.Apart.{OwnNoticesApart}
use Rattle.b1_inv.specs.Numbers.{NumbersRight}
use Rattle.b1_inv.specs.References.{FlightsRight, SlotsRight, ReferencesRight}
use Rattle.b1_inv.specs.Bounds.{BoundsRight}
use Rattle.b1_inv.specs.Clocks.{ClocksRight}
use Rattle.b1_inv.specs.Receipts.{ReceiptsRight}

-- a state that any list of steps leads to from a valid opening
pub record IsSound (o : Opening) (s : State) : Type 0 where
  pub opening : IsOpening o
  pub numbered : IsNumbered o s
  pub rising : HandlesRise s
  pub sends : SendsRight s
  pub stages : StagesRight o s
  pub slots : SlotsRight s
  pub stamps : StampsRight s
  pub notices : NoticesRight s
  pub apart : OwnNoticesApart s
  pub numbers : NumbersRight s
  pub flights : FlightsRight s
  pub references : ReferencesRight s
  pub bounds : BoundsRight o s
  pub clocks : ClocksRight s
  pub receipts : ReceiptsRight s
