-- Release notices are queued exactly when they are due: none in openings, those of live nodes alone, and how each step changes which are queued.
use Rattle.std.proofs.Common.{◌≡◌, refl, sym, subst, ◌∙◌, ℕ, Bool, true, false, Option}
use Rattle.b1_model.specs.declared.commands.Command.{Command}
use Rattle.b1_model.specs.declared.naming.NodeRef.{NodeRef}
use Rattle.b1_model.specs.declared.naming.Opening.{Opening}
use Rattle.b1_model.specs.declared.entries.Entry.TheVariants.{ReleaseNotice}
use Rattle.b1_model.specs.MachineParts.{State}
use Rattle.b1_model.specs.MachineCounts.{is_notified, is_live_in, ReleaseDue, NoneNotified, OnlyLiveNotified}
use Rattle.b1_model.specs.MachineStep.{Step, opening_state}
use Rattle.b1_step.specs.Rights.{Has}
use Rattle.b1_inv.specs.Sound.{IsSound}
use Rattle.b1_inv_record.specs.Right.{IsRight}
use Rattle.b1_inv_sends.proofs.StagesKept.{opening_queue}
use Rattle.b1_inv_due.proofs.Notified.{notice_there, notified_by, notified_owner, live_by}
use Rattle.b1_inv_due.proofs.Comes.{comes_forth, comes_back, comes_stamped}
use Rattle.b1_inv_due.proofs.Goes.{goes_forth, goes_back, taken_none}

-- no queue of an opening has an entry
pub none_notified : (o : Opening) → NoneNotified (opening_state o)
none_notified o node = by (is_notified (opening_state o) node) refl
  where
    by : (b : Bool) → is_notified (opening_state o) node ≡ b → b ≡ false
    by false is = refl
    by true is =
        let owner = notified_owner (opening_state o) node is in
        let found = notice_there node.serial owner.0 (sym (notified_by (opening_state o) node owner.0 owner.1) ∙ is) in
        absurd (subst (λ q. Has q (found.0, ReleaseNotice node.serial)) (opening_queue o node.owner owner.0 owner.1) found.1)

-- a queued notice is of a live node
pub only_live : (o : Opening) (s : State) → IsRight o s → OnlyLiveNotified s
only_live o s right node is =
    let owner = notified_owner s node is in
    let found = notice_there node.serial owner.0 (sym (notified_by s node owner.0 owner.1) ∙ is) in
    live_by s node owner.0 owner.1 ∙ right.parts.releases.live node.owner node.serial owner.0 found.0 owner.1 found.1

-- when a live node's notice comes, under which stamp, when it goes, and that nobody has a reference where it is taken
pub release_due : {o : Opening} {s : State} {p : ℕ} {command : Option Command} {t : State} → IsSound o s → IsRight o s → (step : Step o s p command t) (node : NodeRef) (live : is_live_in s node ≡ true) → ReleaseDue step node live
release_due sound right step node live = record {
  comes = (comes_forth sound right step node live, comes_back sound right step node live);
  stamp = comes_stamped sound right step node live;
  goes = λ there. (goes_forth sound right step node live there, goes_back sound right step node live);
  taken = taken_none sound right step node live;
}
