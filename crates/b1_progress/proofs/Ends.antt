-- A step of an open command, where no other driver steps, leaves less work.
use Rattle.std.proofs.Common.{◌≡◌, ◌≢◌, refl, sym, ap, ◌∙◌, arith, ℕ, ◌+◌, ◌*◌, ◌<◌, Bool, List, [], ◌∷◌, length, slice_get, Some, None, subst, inl, inr}
use Rattle.b1_model.specs.declared.naming.Opening.{Opening}
use Rattle.b1_model.specs.declared.events.Action.{Action}
use Rattle.b1_model.specs.declared.events.Doing.{Doing}
use Rattle.b1_model.specs.declared.events.OwedDrop.{OwedDrop}
use Rattle.b1_model.specs.declared.events.Phase.{Phase}
use Rattle.b1_model.specs.declared.events.Phase.TheVariants.{Starting, Staging, Unstaging, Attaching, Stamping, Syncing, Committing, Dropping, Reaping, Visiting, Dooming, SyncingNotices, CommittingOwn, CommittingNotices, Flushing}
use Rattle.b1_model.specs.MachineParts.{PeerPart, DriverPart, State}
use Rattle.b1_model.specs.MachineDriver.{turn, phase_action, next_action, peer_of}
use Rattle.b1_model.specs.MachineTook.{turned, with_facts}
use Rattle.b1_model.specs.MachineEvents.{happens}
use Rattle.b1_model.specs.MachineStep.{Step}
use Rattle.b1_step.specs.Fixed.{IsNumbered}
use Rattle.b1_inv.specs.Words.{IsPeer}
use Rattle.b1_inv.specs.Sends.{SendShape, SendsRight}
use Rattle.b1_inv.specs.Notices.{DestructionShape, NoticesRight}
use Rattle.b1_inv_tools.proofs.Leaves.{Did, step_did, new_peer, same_peer}
use Rattle.b1_progress.specs.Work.{work, kept_weight, phase_weight}
use Rattle.b1_progress.proofs.Phases.{left_of, turned_falls}
use Rattle.b1_progress.proofs.Left.{OwnPart, Lessens, stage_lessens, unstage_lessens, attach_lessens, stamp_lessens, sync_lessens, commit_lessens, flush_lessens, visit_lessens, doom_lessens, notice_sync_lessens, own_notices_lessen, notices_lessen, reap_lessens, drop_lessens}
use Rattle.b1_inv_tools.proofs.Facts.{next_of, next_owed}

module _ (o : Opening) (memory : Bool) (s : State) (e : DriverPart) (doing : Doing) (x before after : PeerPart) (mine : before.me ≡ e.me) (sends : SendShape s doing.command doing.phase) (notices : DestructionShape before.peers before doing.command doing.phase) where
  abbrev OwnAt : Action → Type 0
  OwnAt action = OwnPart e.me (peer_of e.me action) x (happens o memory e doing action x).1 before after

  -- by the phase, where nothing is owed
  by_phase : (phase : Phase) → doing.phase ≡ phase → SendShape s doing.command phase → DestructionShape before.peers before doing.command phase → OwnAt (phase_action e.me e.shut doing.command phase) → Lessens o memory e doing x before after (phase_action e.me e.shut doing.command phase) phase []
  by_phase Starting is send notice own = absurd send
  by_phase (Staging nodes places collected) is send notice own = stage_lessens o memory e doing x before after nodes places collected is send.1 own
  by_phase (Unstaging nodes places refused place) is send notice own = unstage_lessens o memory e doing x before after nodes places refused place send.1 send.2 own
  by_phase (Attaching sending place handle) is send notice own = attach_lessens o memory e doing x before after s sending place handle send own
  by_phase (Stamping sending) is send notice own = stamp_lessens o memory e doing x before after sending own
  by_phase (Syncing sending stamp place) is send notice own = sync_lessens o memory e doing x before after s sending stamp place send own
  by_phase (Committing sending stamp place) is send notice own = commit_lessens o memory e doing x before after s sending stamp place is send own
  by_phase Dropping is send notice own = λ going. absurd (cc going)
  by_phase (Reaping got) is send notice own = reap_lessens o memory e doing x before after got own
  by_phase (Visiting d left) is send notice own = visit_lessens o memory e doing x before after s d left mine notice own
  by_phase (Dooming d) is send notice own = doom_lessens o memory e doing x before after d own
  by_phase (SyncingNotices d stamp at) is send notice own = notice_sync_lessens o memory e doing x before after d stamp at notice.2 own
  by_phase (CommittingOwn d stamp) is send notice own = own_notices_lessen o memory e doing x before after d stamp own
  by_phase (CommittingNotices d stamp at) is send notice own = notices_lessen o memory e doing x before after d stamp at notice.2 own
  by_phase (Flushing stamp) is send notice own = flush_lessens o memory e doing x before after stamp own

  -- by what is owed
  by_owed : (owed : List OwedDrop) → e.owed ≡ owed → e.doing ≡ Some doing → OwnAt (next_action e) → Lessens o memory e doing x before after (next_action e) doing.phase owed
  by_owed [] is is_open own =
      let next = next_of e doing is_open is in
      subst (λ action. Lessens o memory e doing x before after action doing.phase []) (sym next) (by_phase doing.phase refl sends notices (subst OwnAt next own))
  by_owed (one ∷ rest) is is_open own =
      let next = next_owed e doing one rest is_open is in
      subst (λ action. Lessens o memory e doing x before after action doing.phase (one ∷ rest)) (sym next) (drop_lessens o memory e doing x before after doing.phase one rest (λ starts. subst (SendShape s doing.command) starts sends) (subst OwnAt next own))

  -- the driver's part after the event has less left
  pub less_left : e.doing ≡ Some doing → OwnAt (next_action e)
      → (turned (with_facts e doing (happens o memory e doing (next_action e) x).0) doing.command (turn e.me doing.command doing.phase (happens o memory e doing (next_action e) x).0)).doing ≢ None
      → left_of (length after.late) (turned (with_facts e doing (happens o memory e doing (next_action e) x).0) doing.command (turn e.me doing.command doing.phase (happens o memory e doing (next_action e) x).0)) (kept_weight after)
      < phase_weight (length before.late) doing.phase + 2 * length e.owed + kept_weight before
  less_left is_open own opened =
      turned_falls (with_facts e doing (happens o memory e doing (next_action e) x).0) doing.command (length after.late) (kept_weight after) (phase_weight (length before.late) doing.phase + 2 * length e.owed + kept_weight before)
      (turn e.me doing.command doing.phase (happens o memory e doing (next_action e) x).0) (by_owed e.owed refl is_open own) opened

pub same_part : {X : Type 0} (xs : List X) (i : ℕ) (a b : X) → slice_get xs i ≡ Some a → slice_get xs i ≡ Some b → a ≡ b
same_part xs i a b first second = some_is (sym first ∙ second)
  where
    some_is : {X : Type 0} {a b : X} → Some a ≡ Some b → a ≡ b
    some_is is = cc is

module _ {o : Opening} {s : State} {p : ℕ} {t : State} (numbered : IsNumbered o s) (sends : SendsRight s) (notices : NoticesRight s) (step : Step o s p None t) where
  k : Did o step.local.memory step.driver None step.peer step.action step.at step.new_driver step.new_peer
  k = step_did step

  was_open : step.driver.doing ≡ Some k.doing
  was_open = elim k.opened.from [ inl is ↦ is | inr starts ↦ absurd (cc starts.1) ]

  -- the driver's number
  number : k.e.me ≡ p
  number = k.opened.me ∙ numbered.drivers p step.driver step.is_driver

  -- where the event is
  at_next : step.at ≡ peer_of k.e.me (next_action k.e)
  at_next = k.is_at ∙ ap (peer_of k.e.me) k.is_action

  module _ (x y : PeerPart) (is_x : IsPeer s p x) (is_y : IsPeer t p y) where
    own_part : OwnPart k.e.me (peer_of k.e.me (next_action k.e)) step.peer (happens o step.local.memory k.e k.doing (next_action k.e) step.peer).1 x y
    own_part = record {
      own = λ is. (
        same_part t.peers p y step.new_peer is_y (ap (slice_get t.peers) (sym (at_next ∙ is ∙ number)) ∙ new_peer step) ∙ k.peer ∙ ap (λ action. (happens o step.local.memory k.e k.doing action step.peer).1) k.is_action,
        same_part s.peers p x step.peer is_x (ap (slice_get s.peers) (sym (at_next ∙ is ∙ number)) ∙ step.is_peer),
      );
      other = λ apart. same_part t.peers p y x is_y (same_peer step p x (λ is. apart (sym at_next ∙ sym is ∙ sym number)) is_x);
    }

    shape : SendShape s k.doing.command k.doing.phase
    shape = sends.shape p step.driver k.doing step.is_driver was_open

    destruction : DestructionShape x.peers x k.doing.command k.doing.phase
    destruction = notices.shape p step.driver x k.doing step.is_driver is_x was_open

    mine : x.me ≡ k.e.me
    mine = (numbered.peers p x is_x).me ∙ sym number

    -- the driver's part afterwards
    after_is : step.new_driver ≡ turned (with_facts k.e k.doing (happens o step.local.memory k.e k.doing (next_action k.e) step.peer).0) k.doing.command (turn k.e.me k.doing.command k.doing.phase (happens o step.local.memory k.e k.doing (next_action k.e) step.peer).0)
    after_is = k.driver ∙ ap (λ action. turned (with_facts k.e k.doing (happens o step.local.memory k.e k.doing action step.peer).0) k.doing.command (turn k.e.me k.doing.command k.doing.phase (happens o step.local.memory k.e k.doing action step.peer).0)) k.is_action

    work_before : work step.driver x ≡ phase_weight (length x.late) k.doing.phase + 2 * length k.e.owed + kept_weight x
    work_before = ap (λ one. elim one [ None ↦ 0 | Some doing ↦ phase_weight (length x.late) doing.phase ] + 2 * length step.driver.owed + kept_weight x) was_open
        ∙ ap (λ owed. phase_weight (length x.late) k.doing.phase + 2 * length owed + kept_weight x) (sym k.opened.owed)

    -- less work is left of a command that is open afterwards
    pub work_falls : step.new_driver.doing ≢ None → work step.new_driver y < work step.driver x
    work_falls opened =
        let less = less_left o step.local.memory s k.e k.doing step.peer x y mine shape destruction k.opened.is_open own_part (λ is. opened (ap (λ d. d.doing) after_is ∙ is)) in
        omega (arith, less, work_before, ap (λ d. left_of (length y.late) d (kept_weight y)) after_is)
