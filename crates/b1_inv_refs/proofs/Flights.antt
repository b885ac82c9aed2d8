-- Flights after each event: a record's flight stays how often the queue carries its node.
use Rattle.std.proofs.Common.{◌≡◌, ◌≢◌, refl, sym, ap, ◌∙◌, ℕ, ◌+◌, ◌-◌, Bool, true, false, List, [], ◌∷◌, Option, Some, None}
use native.Mathlib.Omega.{arith}
use Rattle.b1_model.specs.declared.naming.Key.{Key}
use Rattle.b1_model.specs.declared.naming.NodeRef.{NodeRef}
use Rattle.b1_model.specs.declared.naming.Opening.{Opening}
use Rattle.b1_model.specs.declared.parts.Attach.{Attach}
use Rattle.b1_model.specs.declared.parts.Attach.TheVariants as attach
use Rattle.b1_model.specs.declared.parts.Slot.{Slot}
use Rattle.b1_model.specs.declared.entries.Entry.{Entry}
use Rattle.b1_model.specs.declared.entries.Entry.TheVariants.{Message, OwnNotice, ForeignNotice, ReleaseNotice}
use Rattle.b1_model.specs.declared.answers.Reason.{Reason}
use Rattle.b1_model.specs.declared.events.Action.{Action}
use Rattle.b1_model.specs.declared.events.Action.TheVariants as act
use Rattle.b1_model.specs.declared.events.Doing.{Doing}
use Rattle.b1_model.specs.MachineParts.{PeerPart, DriverPart, is_data, carried}
use Rattle.b1_model.specs.MachineTables.{without, is_stage, less_held, noticed, foreign, held_node}
use Rattle.b1_model.specs.Names.{is_given}
use Rattle.b1_model.specs.MachineSend.{find_stage, unstaged_by, attach_answer, attached_by, committed_by, with_slots}
use Rattle.b1_model.specs.MachineReceive.{given_up, with_release_notice, is_released, dropped_refs}
use Rattle.b1_model.specs.MachineDestroy.{needs_notice, notice_by, visited_from}
use Rattle.b1_model.specs.MachineEvents.{happens, stage_by, destroy_by, begin_refusal, begin_serials, doomed_of, number_of}
use Rattle.b1_step.specs.Ordered.{Rising}
use Rattle.b1_step.proofs.Queues.{sum_put}
use Rattle.b1_step.proofs.Lookups.{rising_changed}
use Rattle.b1_step.proofs.Changed.{changes}
use Rattle.b1_inv.specs.Stages.{OnceEach}
use Rattle.b1_inv.specs.References.{times_in, carried_times}
use Rattle.b1_inv_refs.proofs.Views.{flight_same, flight_expected, flight_unexpected, times_foreign}
use Rattle.b1_inv_refs.proofs.Weights.{release_left, release_queued, own_notices, visit_queued, notices_restamped, stage_left}
use Rattle.b1_inv_refs.proofs.Arrivals.{flight_in}
use Rattle.b1_inv_refs.proofs.Receipts.{Flies, HasSlots, receives}

pub slots_carry : (slots : List Slot) (e : Entry) → carried (with_slots slots e) ≡ carried e
slots_carry slots (Message origin user index serial offset len nodes old handles payload) = refl
slots_carry slots (OwnNotice serial index) = refl
slots_carry slots (ForeignNotice node index) = refl
slots_carry slots (ReleaseNotice serial) = refl

module _ (node : NodeRef) where
  -- how often an entry carries the node
  abbrev pub weight : Key × Entry → ℕ
  weight f = times_in node (carried f.1)

  pub weightless : (k : Key) (e : Entry) → is_data e ≡ false → weight (k, e) ≡ 0
  weightless k (Message origin user index serial offset len nodes slots handles payload) is = absurd (cc is)
  weightless k (OwnNotice serial index) is = refl
  weightless k (ForeignNotice other index) is = refl
  weightless k (ReleaseNotice serial) is = refl

  -- the flight is how often the queue carries the node
  abbrev FliesAt : PeerPart → Type 0
  FliesAt y = flight_in node y.handles ≡ carried_times node y.queue

  as_before : (x y : PeerPart) → y.handles ≡ x.handles → y.queue ≡ x.queue → FliesAt x → FliesAt y
  as_before x y handles queue flies = ap (flight_in node) handles ∙ flies ∙ ap (carried_times node) (sym queue)

  module _ (x : PeerPart) (apart : node.owner ≢ x.me) (up : Rising x.handles) (once : OnceEach x.queue) (flies : FliesAt x) where
    at_stage : (r : Option Reason) (memory : Bool) (origin user place serial : ℕ) (payload : List ℕ) (nodes : List NodeRef) → FliesAt (stage_by r memory origin user place serial payload nodes x).1
    at_stage (Some r) memory origin user place serial payload nodes = flies
    at_stage None true origin user place serial payload nodes = flies
    at_stage None false origin user place serial payload nodes =
        let one = flight_expected node (foreign x.me nodes) x.handles up in
        let two = times_foreign x.me node nodes apart in
        let three : carried_times node (stage_by None false origin user place serial payload nodes x).1.queue ≡ times_in node nodes + carried_times node x.queue = sum_put weight _ _ x.queue in
        omega (arith, one, two, three, flies)

    at_unstage : (f : Option (Key × Entry)) (origin index : ℕ) → find_stage x origin index ≡ f → FliesAt (unstaged_by f x origin index)
    at_unstage None origin index found = flies
    at_unstage (Some f) origin index found =
        let one = flight_unexpected node (foreign x.me (carried f.1)) x.handles up in
        let two = times_foreign x.me node (carried f.1) apart in
        let three = stage_left weight origin index x.queue f once found in
        omega (arith, one, two, three, flies)

    at_commit : (f : Option (Key × Entry)) (origin index stamp : ℕ) (slots : List Slot) → find_stage x origin index ≡ f → FliesAt (committed_by f x origin index stamp slots)
    at_commit None origin index stamp slots found = flies
    at_commit (Some f) origin index stamp slots found =
        let one = sum_put weight (record { stamp = stamp; origin = origin; index = index }) (with_slots slots f.1) (without (is_stage origin index) x.queue) in
        let two = ap (times_in node) (slots_carry slots f.1) in
        let three = stage_left weight origin index x.queue f once found in
        omega (arith, one, two, three, flies)

    at_attach : (a : Attach) (serial dest : ℕ) → FliesAt (attached_by a x serial dest)
    at_attach attach.Counted serial dest = flies ∙ sym (release_left weight weightless serial x.queue)
    at_attach attach.Own serial dest = flies
    at_attach (attach.Void stamp) serial dest = flies

    at_release : (b : Bool) (held : Option NodeRef) → FliesAt (given_up b held x)
    at_release false held = flies
    at_release true None = flies
    at_release true (Some other) = flight_same less_held (λ h. refl) (λ h. refl) other node x.handles up ∙ flies

    drop_handles : (b : Bool) (y : PeerPart) (serial : ℕ) → y.handles ≡ x.handles → (with_release_notice b y serial).handles ≡ x.handles
    drop_handles false y serial same = same
    drop_handles true y serial same = same

    at_drop : (serial holder k clock : ℕ) (b : Bool) → FliesAt (with_release_notice b (dropped_refs x serial holder k clock) serial)
    at_drop serial holder k clock b = ap (flight_in node) (drop_handles b (dropped_refs x serial holder k clock) serial refl) ∙ flies ∙ sym (release_queued weight weightless b (dropped_refs x serial holder k clock) serial)

    at_destroy : (r : Option Reason) (doomed : List ℕ) → FliesAt (destroy_by r doomed x).1
    at_destroy (Some r) doomed = flies
    at_destroy None doomed = flies ∙ sym (own_notices weight weightless x 0 doomed x.queue)

    visit_flight : (doomed : List ℕ) (origin index : ℕ) (y : PeerPart) → Rising y.handles → flight_in node (visited_from origin index doomed y).handles ≡ flight_in node y.handles
    visit_flight [] origin index y rises = refl
    visit_flight (serial ∷ rest) origin index y rises = at (needs_notice y (record { owner = origin; serial = serial })) (visit_flight rest origin (index + 1))
      where
        at : (b : Bool) → ((z : PeerPart) → Rising z.handles → flight_in node (visited_from origin (index + 1) rest z).handles ≡ flight_in node z.handles) → flight_in node (visited_from origin (index + 1) rest (notice_by b origin y index (record { owner = origin; serial = serial }))).handles ≡ flight_in node y.handles
        at false further = further y rises
        at true further =
            further (notice_by true origin y index (record { owner = origin; serial = serial })) (rising_changed (record { owner = origin; serial = serial }) noticed (λ h. refl) y.handles rises)
            ∙ flight_same noticed (λ h. refl) (λ h. refl) (record { owner = origin; serial = serial }) node y.handles rises

    at_visit : (doomed : List ℕ) (origin : ℕ) → FliesAt (visited_from origin 0 doomed x)
    at_visit doomed origin = visit_flight doomed origin 0 x up ∙ flies ∙ sym (visit_queued weight weightless doomed origin 0 x)

-- after each event
pub flies_after : (o : Opening) (memory : Bool) (d : DriverPart) (doing : Doing) (action : Action) (x : PeerPart) → Rising x.handles → OnceEach x.queue → HasSlots x → Flies x
    → (node : NodeRef) → node.owner ≢ x.me → flight_in node (happens o memory d doing action x).1.handles ≡ carried_times node (happens o memory d doing action x).1.queue
flies_after o memory d doing act.Rest x up once slots flies node apart = flies node apart
flies_after o memory d doing act.Begin x up once slots flies node apart = as_before node x (happens o memory d doing act.Begin x).1 (ap (λ y. y.handles) (changes o memory d doing act.Begin x)) (ap (λ y. y.queue) (changes o memory d doing act.Begin x)) (flies node apart)
flies_after o memory d doing (act.Stage peer place) x up once slots flies node apart = at_stage node x apart up once (flies node apart) _ memory _ _ _ _ _ _
flies_after o memory d doing (act.Unstage peer place) x up once slots flies node apart = at_unstage node x apart up once (flies node apart) (find_stage x d.me place) d.me place refl
flies_after o memory d doing (act.Attach peer serial dest) x up once slots flies node apart = at_attach node x apart up once (flies node apart) (attach_answer x serial dest) serial dest
flies_after o memory d doing act.Stamp x up once slots flies node apart = flies node apart
flies_after o memory d doing (act.Sync peer stamp) x up once slots flies node apart = flies node apart
flies_after o memory d doing (act.Commit peer place stamp) x up once slots flies node apart = at_commit node x apart up once (flies node apart) (find_stage x d.me place) d.me place stamp _ refl
flies_after o memory d doing (act.CommitNotices peer stamp) x up once slots flies node apart = flies node apart ∙ sym (notices_restamped (weight node) (weightless node) x d.me stamp)
flies_after o memory d doing act.Recv x up once slots flies node apart = (receives x up flies slots).flies node apart
flies_after o memory d doing act.Reap x up once slots flies node apart = flies node apart
flies_after o memory d doing act.Release x up once slots flies node apart = at_release node x apart up once (flies node apart) (is_given (number_of doing.command)) (held_node (number_of doing.command) x.handles)
flies_after o memory d doing (act.DropRefs peer serial holder k clock) x up once slots flies node apart = at_drop node x apart up once (flies node apart) serial holder k clock (is_released (dropped_refs x serial holder k clock) serial)
flies_after o memory d doing act.BeginDestroy x up once slots flies node apart = at_destroy node x apart up once (flies node apart) (begin_refusal doing.command x) (begin_serials doing.command x)
flies_after o memory d doing (act.Visit peer) x up once slots flies node apart = at_visit node x apart up once (flies node apart) (doomed_of doing.phase) d.me
flies_after o memory d doing act.StampDestroy x up once slots flies node apart = as_before node x (happens o memory d doing act.StampDestroy x).1 (ap (λ y. y.handles) (changes o memory d doing act.StampDestroy x)) (ap (λ y. y.queue) (changes o memory d doing act.StampDestroy x)) (flies node apart)
flies_after o memory d doing act.Flush x up once slots flies node apart = refl
flies_after o memory d doing act.Local x up once slots flies node apart = as_before node x (happens o memory d doing act.Local x).1 (ap (λ y. y.handles) (changes o memory d doing act.Local x)) (ap (λ y. y.queue) (changes o memory d doing act.Local x)) (flies node apart)
