-- Which outcomes can come, by the event that is next.
use Rattle.std.proofs.Common.{◌≡◌, ◌≢◌, ℕ, Bool, true, false, List, [], ◌∷◌, Option, Some, None, Result, Err, refl, ap}
use Rattle.b1_model.specs.declared.commands.Command.{Command}
use Rattle.b1_model.specs.declared.commands.Command.TheVariants as cmd
use Rattle.b1_model.specs.declared.answers.Reason.{Reason}
use Rattle.b1_model.specs.declared.answers.Reason.TheVariants.{Memory}
use Rattle.b1_driver.specs.declared.stage.Open.{Open}
use Rattle.b1_model.specs.declared.events.Action.TheVariants as act
use Rattle.b1_model.specs.declared.events.Outcome.{Outcome}
use Rattle.b1_model.specs.declared.events.Outcome.TheVariants as out
use Rattle.b1_model.specs.declared.events.Phase.{Phase}
use Rattle.b1_model.specs.declared.events.OwedDrop.{OwedDrop}
use Rattle.b1_model.specs.MachineParts.{DriverPart}
use Rattle.b1_model.specs.MachineDriver.{phase_action, next_action}
use Rattle.b1_driver.specs.declared.stage.Stage.{Stage}
use Rattle.b1_driver.specs.declared.stage.Stage.TheVariants as stage
use Rattle.b1_driver.specs.declared.stage.SendStage.TheVariants.{Staging, Unstaging, Attaching, Stamping, Syncing, Committing}
use Rattle.b1_driver.specs.declared.stage.DestroyStage.TheVariants.{Visiting, Dooming, SyncingNotices, CommittingOwn, CommittingNotices}
use Rattle.b1_driver.specs.Stages.{phase_of, doing_of, is_dropping, is_starting, OwesDrop}
use Rattle.b1_driver.specs.Parts.{fits, is_drop, hands_back}

fits_drop : (peer serial holder k clock : ℕ) (outcome : Outcome) → fits (act.DropRefs peer serial holder k clock) outcome ≡ true → is_drop outcome ≡ true
fits_drop peer serial holder k clock (out.Begin got) e = e
fits_drop peer serial holder k clock (out.Stage got) e = e
fits_drop peer serial holder k clock out.Unstage e = e
fits_drop peer serial holder k clock (out.Attach got) e = e
fits_drop peer serial holder k clock (out.Stamp stamp) e = e
fits_drop peer serial holder k clock out.Sync e = e
fits_drop peer serial holder k clock (out.Commit found) e = e
fits_drop peer serial holder k clock out.CommitNotices e = e
fits_drop peer serial holder k clock (out.Recv got dead) e = e
fits_drop peer serial holder k clock (out.Reap got dead) e = e
fits_drop peer serial holder k clock (out.Release got) e = e
fits_drop peer serial holder k clock out.DropRefs e = e
fits_drop peer serial holder k clock (out.BeginDestroy got list) e = e
fits_drop peer serial holder k clock (out.Visit got) e = e
fits_drop peer serial holder k clock (out.StampDestroy got) e = e
fits_drop peer serial holder k clock (out.Flush dead) e = e
fits_drop peer serial holder k clock (out.Local got) e = e

nothing_there : (me : ℕ) (shut : Bool) (command : Command) (p : Phase) (owed : List OwedDrop) (outcome : Outcome) → fits (elim owed [ [] ↦ phase_action me shut command p | drop ∷ rest ↦ act.DropRefs drop.node.owner drop.node.serial drop.holder drop.amount drop.clock ]) outcome ≡ true → is_drop outcome ≡ false → owed ≡ []
nothing_there me shut command p [] outcome e other = refl
nothing_there me shut command p (drop ∷ rest) outcome e other =
    absurd (let is = fits_drop drop.node.owner drop.node.serial drop.holder drop.amount drop.clock outcome e in cc)

pub nothing_is_owed : (d : DriverPart) (command : Command) (p : Phase) (outcome : Outcome) → d.doing ≡ Some (record { command = command; phase = p }) → fits (next_action d) outcome ≡ true → is_drop outcome ≡ false → d.owed ≡ []
nothing_is_owed d command p outcome is_open e other =
    let fit = rw is_open at e in nothing_there d.me d.shut command p d.owed outcome fit other

fits_start : (me : ℕ) (shut : Bool) (command : Command) (doomed : List ℕ) (one : Stage) (got : Result (List ℕ) Reason) (list : List ℕ) → fits (phase_action me shut command (phase_of doomed one)) (out.BeginDestroy got list) ≡ true → is_starting one ≡ true
fits_start me shut command doomed stage.Starting got list e = refl
fits_start me shut command doomed (stage.Sending (Staging begun places slots collected)) got list e = e
fits_start me shut command doomed (stage.Sending (Unstaging begun places refused place)) got list e = e
fits_start me shut command doomed (stage.Sending (Attaching sending place handle)) got list e = e
fits_start me shut command doomed (stage.Sending (Stamping sending)) got list e = e
fits_start me shut command doomed (stage.Sending (Syncing sending stamp place)) got list e = e
fits_start me shut command doomed (stage.Sending (Committing sending stamp place)) got list e = e
fits_start me shut command doomed stage.Dropping got list e = e
fits_start me shut command doomed (stage.Reaping answer) got list e = e
fits_start me shut command doomed (stage.Destroying (Visiting visits left)) got list e = e
fits_start me shut command doomed (stage.Destroying (Dooming visits)) got list e = e
fits_start me shut command doomed (stage.Destroying (SyncingNotices visits stamp place)) got list e = e
fits_start me shut command doomed (stage.Destroying (CommittingOwn visits stamp)) got list e = e
fits_start me shut command doomed (stage.Destroying (CommittingNotices visits stamp place)) got list e = e
fits_start me shut command doomed (stage.Flushing stamp) got list e = e

starts : (me : ℕ) (shut : Bool) (command : Command) (doomed : List ℕ) (one : Stage) (owed : List OwedDrop) (got : Result (List ℕ) Reason) (list : List ℕ) → fits (elim owed [ [] ↦ phase_action me shut command (phase_of doomed one) | drop ∷ rest ↦ act.DropRefs drop.node.owner drop.node.serial drop.holder drop.amount drop.clock ]) (out.BeginDestroy got list) ≡ true → is_starting one ≡ true
starts me shut command doomed one [] got list e = fits_start me shut command doomed one got list e
starts me shut command doomed one (drop ∷ rest) got list e = absurd (let is : false ≡ true = e in cc)

pub starts_there : (d : DriverPart) (command : Command) (doomed : List ℕ) (one : Stage) (outcome : Outcome) → d.doing ≡ Some (record { command = command; phase = phase_of doomed one }) → fits (next_action d) outcome ≡ true → hands_back outcome ≡ true → is_starting one ≡ true
starts_there d command doomed one (out.Begin got) is_open e back = absurd (let is : false ≡ true = back in cc)
starts_there d command doomed one (out.Stage got) is_open e back = absurd (let is : false ≡ true = back in cc)
starts_there d command doomed one out.Unstage is_open e back = absurd (let is : false ≡ true = back in cc)
starts_there d command doomed one (out.Attach got) is_open e back = absurd (let is : false ≡ true = back in cc)
starts_there d command doomed one (out.Stamp stamp) is_open e back = absurd (let is : false ≡ true = back in cc)
starts_there d command doomed one out.Sync is_open e back = absurd (let is : false ≡ true = back in cc)
starts_there d command doomed one (out.Commit found) is_open e back = absurd (let is : false ≡ true = back in cc)
starts_there d command doomed one out.CommitNotices is_open e back = absurd (let is : false ≡ true = back in cc)
starts_there d command doomed one (out.Recv got dead) is_open e back = absurd (let is : false ≡ true = back in cc)
starts_there d command doomed one (out.Reap got dead) is_open e back = absurd (let is : false ≡ true = back in cc)
starts_there d command doomed one (out.Release got) is_open e back = absurd (let is : false ≡ true = back in cc)
starts_there d command doomed one out.DropRefs is_open e back = absurd (let is : false ≡ true = back in cc)
starts_there d command doomed one (out.BeginDestroy got list) is_open e back = let fit = rw is_open at e in starts d.me d.shut command doomed one d.owed got list fit
starts_there d command doomed one (out.Visit got) is_open e back = absurd (let is : false ≡ true = back in cc)
starts_there d command doomed one (out.StampDestroy got) is_open e back = absurd (let is : false ≡ true = back in cc)
starts_there d command doomed one (out.Flush dead) is_open e back = absurd (let is : false ≡ true = back in cc)
starts_there d command doomed one (out.Local got) is_open e back = absurd (let is : false ≡ true = back in cc)

same_phase : (one : Stage) (a b : List ℕ) → is_starting one ≡ true → phase_of a one ≡ phase_of b one
same_phase stage.Starting a b e = refl
same_phase (stage.Sending one) a b e = refl
same_phase stage.Dropping a b e = refl
same_phase (stage.Reaping answer) a b e = refl
same_phase (stage.Destroying one) a b e = absurd (let is : false ≡ true = e in cc)
same_phase (stage.Flushing stamp) a b e = refl

-- where a destruction begins, the command is at its first event
pub begins : (d : DriverPart) (command : Command) (doomed : List ℕ) (one : Stage) → d.doing ≡ Some (record { command = command; phase = phase_of doomed one }) → next_action d ≡ act.BeginDestroy → is_starting one ≡ true
begins d command doomed one is_open e = starts_there d command doomed one (out.BeginDestroy (Err Memory) []) is_open (ap (λ a. fits a (out.BeginDestroy (Err Memory) [])) e) refl

-- and its phase doesn't depend on the list of doomed nodes
pub same_doing : (d : DriverPart) (doing : Option Open) (a b : List ℕ) → d.doing ≡ doing_of a doing → next_action d ≡ act.BeginDestroy → doing_of b doing ≡ doing_of a doing
same_doing d None a b is_open e = refl
same_doing d (Some one) a b is_open e = ap (λ p. Some (record { command = one.command; phase = p })) (same_phase one.stage b a (begins d one.command a one.stage is_open e))

rests_phase : (me : ℕ) (shut : Bool) (command : Command) (doomed : List ℕ) (one : Stage) → phase_action me shut command (phase_of doomed one) ≡ act.Rest → is_dropping one ≡ true
rests_phase me true command doomed stage.Starting e = absurd cc
rests_phase me false cmd.Disconnect doomed stage.Starting e = absurd cc
rests_phase me false cmd.Query doomed stage.Starting e = absurd cc
rests_phase me false (cmd.Reset limits) doomed stage.Starting e = absurd cc
rests_phase me false (cmd.Limit limits) doomed stage.Starting e = absurd cc
rests_phase me false (cmd.Release number) doomed stage.Starting e = absurd cc
rests_phase me false (cmd.Destroy numbers) doomed stage.Starting e = absurd cc
rests_phase me false (cmd.SliceRelease offset) doomed stage.Starting e = absurd cc
rests_phase me false (cmd.Send c) doomed stage.Starting e = absurd cc
rests_phase me false cmd.Recv doomed stage.Starting e = absurd cc
rests_phase me false cmd.Await doomed stage.Starting e = absurd cc
rests_phase me shut command doomed (stage.Sending (Staging begun places slots collected)) e = absurd cc
rests_phase me shut command doomed (stage.Sending (Unstaging begun places refused place)) e = absurd cc
rests_phase me shut command doomed (stage.Sending (Attaching sending place handle)) e = absurd cc
rests_phase me shut command doomed (stage.Sending (Stamping sending)) e = absurd cc
rests_phase me shut command doomed (stage.Sending (Syncing sending stamp place)) e = absurd cc
rests_phase me shut command doomed (stage.Sending (Committing sending stamp place)) e = absurd cc
rests_phase me shut command doomed stage.Dropping e = refl
rests_phase me shut command doomed (stage.Reaping answer) e = absurd cc
rests_phase me shut command doomed (stage.Destroying (Visiting visits left)) e = absurd cc
rests_phase me shut command doomed (stage.Destroying (Dooming visits)) e = absurd cc
rests_phase me shut command doomed (stage.Destroying (SyncingNotices visits stamp place)) e = absurd cc
rests_phase me shut command doomed (stage.Destroying (CommittingOwn visits stamp)) e = absurd cc
rests_phase me shut command doomed (stage.Destroying (CommittingNotices visits stamp place)) e = absurd cc
rests_phase me shut command doomed (stage.Flushing stamp) e = absurd cc

rests_open : (me : ℕ) (shut : Bool) (command : Command) (doomed : List ℕ) (one : Stage) (owed : List OwedDrop) → elim owed [ [] ↦ phase_action me shut command (phase_of doomed one) | drop ∷ rest ↦ act.DropRefs drop.node.owner drop.node.serial drop.holder drop.amount drop.clock ] ≡ act.Rest → (is_dropping one ≡ true → owed ≢ []) → ⊥
rests_open me shut command doomed one [] e owes = owes (rests_phase me shut command doomed one e) refl
rests_open me shut command doomed one (drop ∷ rest) e owes = cc

-- a driver rests only where no command is open
pub rests : (d : DriverPart) (doing : Option Open) (doomed : List ℕ) → d.doing ≡ doing_of doomed doing → OwesDrop d.owed doing → next_action d ≡ act.Rest → d.doing ≡ None
rests d None doomed is owes e = is
rests d (Some one) doomed is owes e = absurd (rests_open d.me d.shut one.command doomed one.stage d.owed (rw is at e) owes)

-- and there it does
pub rests_there : (d : DriverPart) → d.doing ≡ None → next_action d ≡ act.Rest
rests_there d e = rw e refl
