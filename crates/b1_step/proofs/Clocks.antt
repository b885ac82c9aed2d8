-- No event lowers a clock.
use Rattle.std.proofs.Common.{◌≡◌, ap, ℕ, ◌≤◌, Bool, true, false, List, [], ◌∷◌}
use native.Mathlib.Omega.{arith}
use Rattle.b1_model.specs.declared.naming.Opening.{Opening}
use Rattle.b1_model.specs.declared.events.Action.{Action}
use Rattle.b1_model.specs.declared.events.Action.TheVariants as act
use Rattle.b1_model.specs.declared.events.Doing.{Doing}
use Rattle.b1_model.specs.MachineParts.{PeerPart, DriverPart}
use Rattle.b1_model.specs.MachineReceive.{with_release_notice, is_released, dropped_refs}
use Rattle.b1_model.specs.MachineDestroy.{doom_by}
use Rattle.b1_model.specs.MachineEvents.{happens}
use Rattle.b1_step.proofs.Changed.{changes}

same_clock : (before after : ℕ) → after ≡ before → before ≤ after
same_clock before after same = omega (arith, same)

at_drop : (b : Bool) (x : PeerPart) (serial holder k clock : ℕ) → x.clock ≤ (with_release_notice b (dropped_refs x serial holder k clock) serial).clock
at_drop true x serial holder k clock = omega arith
at_drop false x serial holder k clock = omega arith

at_doom : (late : List ℕ) (x : PeerPart) (collected : ℕ) (doomed : List ℕ) → x.clock ≤ (doom_by late x collected doomed).clock
at_doom [] x collected doomed = omega arith
at_doom (peer ∷ rest) x collected doomed = omega arith

pub rises : (o : Opening) (memory : Bool) (d : DriverPart) (doing : Doing) (action : Action) (x : PeerPart) → x.clock ≤ (happens o memory d doing action x).1.clock
rises o memory d doing act.Stamp x = omega arith
rises o memory d doing (act.Sync peer stamp) x = omega arith
rises o memory d doing (act.DropRefs peer serial holder k clock) x = at_drop (is_released (dropped_refs x serial holder k clock) serial) x serial holder k clock
rises o memory d doing act.StampDestroy x = at_doom x.late x _ _
rises o memory d doing act.Rest x = omega arith
rises o memory d doing act.Begin x = same_clock x.clock _ (ap (λ y. y.clock) (changes o memory d doing act.Begin x))
rises o memory d doing (act.Stage peer place) x = same_clock x.clock _ (ap (λ y. y.clock) (changes o memory d doing (act.Stage peer place) x))
rises o memory d doing (act.Unstage peer place) x = same_clock x.clock _ (ap (λ y. y.clock) (changes o memory d doing (act.Unstage peer place) x))
rises o memory d doing (act.Attach peer serial dest) x = same_clock x.clock _ (ap (λ y. y.clock) (changes o memory d doing (act.Attach peer serial dest) x))
rises o memory d doing (act.Commit peer place stamp) x = same_clock x.clock _ (ap (λ y. y.clock) (changes o memory d doing (act.Commit peer place stamp) x))
rises o memory d doing (act.CommitNotices peer stamp) x = omega arith
rises o memory d doing act.Recv x = same_clock x.clock _ (ap (λ y. y.clock) (changes o memory d doing act.Recv x))
rises o memory d doing act.Reap x = omega arith
rises o memory d doing act.Release x = same_clock x.clock _ (ap (λ y. y.clock) (changes o memory d doing act.Release x))
rises o memory d doing act.BeginDestroy x = same_clock x.clock _ (ap (λ y. y.clock) (changes o memory d doing act.BeginDestroy x))
rises o memory d doing (act.Visit peer) x = same_clock x.clock _ (ap (λ y. y.clock) (changes o memory d doing (act.Visit peer) x))
rises o memory d doing act.Flush x = omega arith
rises o memory d doing act.Local x = same_clock x.clock _ (ap (λ y. y.clock) (changes o memory d doing act.Local x))
