-- Which fields of a peer's part each event changes.
use Rattle.std.proofs.Common.{◌≡◌, refl, ap, ℕ, Bool, true, false, List, [], ◌∷◌, fold, zip, Option, Some, None}
use Rattle.b1_model.specs.declared.naming.Key.{Key}
use Rattle.b1_model.specs.declared.naming.NodeRef.{NodeRef}
use Rattle.b1_model.specs.declared.naming.Opening.{Opening}
use Rattle.b1_model.specs.declared.commands.Command.{Command}
use Rattle.b1_model.specs.declared.commands.Command.TheVariants as cmd
use Rattle.b1_model.specs.declared.commands.SendCmd.{SendCmd}
use Rattle.b1_model.specs.declared.parts.Attach.{Attach}
use Rattle.b1_model.specs.declared.parts.Attach.TheVariants as attach
use Rattle.b1_model.specs.declared.parts.Slot.{Slot}
use Rattle.b1_model.specs.declared.parts.Slot.TheVariants as slot
use Rattle.b1_model.specs.declared.entries.Entry.{Entry}
use Rattle.b1_model.specs.declared.entries.Entry.TheVariants.{Message, OwnNotice, ForeignNotice, ReleaseNotice}
use Rattle.b1_model.specs.declared.answers.Reason.{Reason}
use Rattle.b1_model.specs.declared.events.Action.{Action}
use Rattle.b1_model.specs.declared.events.Action.TheVariants as act
use Rattle.b1_model.specs.declared.events.Doing.{Doing}
use Rattle.b1_model.specs.MachineParts.{PeerPart, DriverPart, is_staged, record_or_none, HandleRecord}
use Rattle.b1_model.specs.MachineSend.{unstaged_by, find_stage, attached_by, attach_answer, committed_by}
use Rattle.b1_model.specs.MachineReceive.{Arriving, discards, discarded, cleared, reference_by, slot_arrives, taken_entry, front_by, front_taken, received_part, given_up, with_release_notice, is_released, dropped_refs, slice_given_back}
use Rattle.b1_model.specs.MachinePool.{is_received}
use Rattle.b1_model.specs.MachineParts.{NodePart, Slice}
use Rattle.b1_model.specs.MachineDestroy.{needs_notice, notice_by, visited_from, doom_by}
use Rattle.b1_model.specs.MachineEvents.{happens, begin_by, stage_by, destroy_by, local_part, begin_refusal, begin_serials, doomed_of}
use Rattle.b1_step.specs.Rights.{Changes}

-- ---- receiving

-- the six fields that receiving changes
abbrev Six : PeerPart → PeerPart → Type 0
Six x y = Changes act.Recv x y

six_set : (x y : PeerPart) (g : ℕ) (s : List Slice) (q : List (Key × Entry)) (n : List NodePart) (h : List HandleRecord) (d : List (List (NodeRef × ℕ))) → Six x y → Six x (record y { given = g; slices = s; queue = q; nodes = n; handles = h; dead = d })
six_set x y g s q n h d same = ap {A = PeerPart} {B = PeerPart} (λ w. record w { given = g; slices = s; queue = q; nodes = n; handles = h; dead = d }) same

six_discarded : (e : Entry) (x y : PeerPart) → Six x y → Six x (discarded y e)
six_discarded (Message origin user index serial offset len nodes slots handles payload) x y same = six_set x y _ _ _ _ _ _ same
six_discarded (OwnNotice serial index) x y same = same
six_discarded (ForeignNotice node index) x y same = six_set x y _ _ _ _ _ _ same
six_discarded (ReleaseNotice serial) x y same = same

six_discards : (es : List (Key × Entry)) (x y : PeerPart) → Six x y → Six x (fold (λ z f. discarded z f.1) y es)
six_discards [] x y same = same
six_discards (f ∷ rest) x y same = six_discards rest x (discarded y f.1) (six_discarded f.1 x y same)

six_cleared : (x : PeerPart) → Six x (cleared x)
six_cleared x = six_discards (discards x) x _ (six_set x x _ _ _ _ _ _ refl)

six_reference : (b : Bool) (x : PeerPart) (a : Arriving) (node : NodeRef) → Six x a.part → Six x (reference_by b a node).part
six_reference true x a node same = six_set x a.part _ _ _ _ _ _ same
six_reference false x a node same = six_set x a.part _ _ _ _ _ _ same

six_slot : (x : PeerPart) (a : Arriving) (node : NodeRef) (s : Slot) → Six x a.part → Six x (slot_arrives a (node, s)).part
six_slot x a node slot.Unattached same = six_set x a.part _ _ _ _ _ _ same
six_slot x a node slot.Attached same = six_reference (record_or_none node a.part.handles).dead x a node same
six_slot x a node slot.Own same = same
six_slot x a node slot.Void same = six_set x a.part _ _ _ _ _ _ same

six_slots : (ss : List (NodeRef × Slot)) (x : PeerPart) (a : Arriving) → Six x a.part → Six x (fold slot_arrives a ss).part
six_slots [] x a same = same
six_slots ((node, s) ∷ rest) x a same = six_slots rest x (slot_arrives a (node, s)) (six_slot x a node s same)

six_taken : (e : Entry) (k : Key) (x y : PeerPart) → Six x y → Six x (taken_entry y k e).1
six_taken (Message origin user index serial offset len nodes slots handles payload) k x y same =
    six_set x _ _ _ _ _ _ _ (six_slots (zip nodes slots) x _ (six_set x y _ _ _ _ _ _ same))
six_taken (OwnNotice serial index) k x y same = six_set x y _ _ _ _ _ _ same
six_taken (ForeignNotice node index) k x y same = six_set x y _ _ _ _ _ _ same
six_taken (ReleaseNotice serial) k x y same = same

six_front : (b : Bool) (x y : PeerPart) (f : Key × Entry) (rest : List (Key × Entry)) → Six x y → Six x (front_by b y f rest).1
six_front true x y f rest same = same
six_front false x y f rest same = six_taken f.1 f.0 x _ (six_set x y _ _ _ _ _ _ same)

six_front_taken : (queue : List (Key × Entry)) (x y : PeerPart) → Six x y → Six x (front_taken y queue).1
six_front_taken [] x y same = same
six_front_taken (f ∷ rest) x y same = six_front (is_staged f) x y f rest same

six_received : (x : PeerPart) → Six x (received_part x)
six_received x = six_front_taken (cleared x).queue x (cleared x) (six_cleared x)

-- ---- visiting

abbrev Two : PeerPart → PeerPart → Type 0
Two x y = y ≡ record x { queue = y.queue; handles = y.handles }

two_noticed : (b : Bool) (origin : ℕ) (x y : PeerPart) (index : ℕ) (node : NodeRef) → Two x y → Two x (notice_by b origin y index node)
two_noticed false origin x y index node same = same
two_noticed true origin x y index node same = two_set _ _ same
  where
    two_set : (q : List (Key × Entry)) (h : List HandleRecord) → Two x y → Two x (record y { queue = q; handles = h })
    two_set q h e = ap {A = PeerPart} {B = PeerPart} (λ w. record w { queue = q; handles = h }) e

two_visited : (doomed : List ℕ) (origin index : ℕ) (x y : PeerPart) → Two x y → Two x (visited_from origin index doomed y)
two_visited [] origin index x y same = same
two_visited (serial ∷ rest) origin index x y same = two_visited rest origin _ x _ (two_noticed (needs_notice y (record { owner = origin; serial = serial })) origin x y index _ same)

-- ---- the other events

begin_changes : (r : Option Reason) (memory : Bool) (c : SendCmd) (x : PeerPart) → Changes act.Begin x (begin_by r memory c x).1
begin_changes (Some r) memory c x = refl
begin_changes None true c x = refl
begin_changes None false c x = refl

stage_changes : (r : Option Reason) (memory : Bool) (origin user place serial : ℕ) (payload : List ℕ) (nodes : List NodeRef) (x : PeerPart) → Changes (act.Stage 0 0) x (stage_by r memory origin user place serial payload nodes x).1
stage_changes (Some r) memory origin user place serial payload nodes x = refl
stage_changes None true origin user place serial payload nodes x = refl
stage_changes None false origin user place serial payload nodes x = refl

unstage_changes : (f : Option (Key × Entry)) (x : PeerPart) (origin index : ℕ) → Changes (act.Unstage 0 0) x (unstaged_by f x origin index)
unstage_changes None x origin index = refl
unstage_changes (Some f) x origin index = refl

attach_changes : (a : Attach) (x : PeerPart) (serial dest : ℕ) → Changes (act.Attach 0 0 0) x (attached_by a x serial dest)
attach_changes attach.Counted x serial dest = refl
attach_changes attach.Own x serial dest = refl
attach_changes (attach.Void stamp) x serial dest = refl

commit_changes : (f : Option (Key × Entry)) (x : PeerPart) (origin index stamp : ℕ) (slots : List Slot) → Changes (act.Commit 0 0 0) x (committed_by f x origin index stamp slots)
commit_changes None x origin index stamp slots = refl
commit_changes (Some f) x origin index stamp slots = refl

release_changes : (b : Bool) (held : Option NodeRef) (x : PeerPart) → Changes act.Release x (given_up b held x)
release_changes false held x = refl
release_changes true None x = refl
release_changes true (Some node) x = refl

drop_changes : (b : Bool) (x : PeerPart) (serial holder k clock : ℕ) → Changes (act.DropRefs 0 0 0 0 0) x (with_release_notice b (dropped_refs x serial holder k clock) serial)
drop_changes false x serial holder k clock = refl
drop_changes true x serial holder k clock = refl

destroy_changes : (r : Option Reason) (doomed : List ℕ) (x : PeerPart) → Changes act.BeginDestroy x (destroy_by r doomed x).1
destroy_changes (Some r) doomed x = refl
destroy_changes None doomed x = refl

doom_changes : (late : List ℕ) (x : PeerPart) (collected : ℕ) (doomed : List ℕ) → Changes act.StampDestroy x (doom_by late x collected doomed)
doom_changes [] x collected doomed = refl
doom_changes (peer ∷ rest) x collected doomed = refl

slice_changes : (b : Bool) (x : PeerPart) (offset : ℕ) → Changes act.Local x (slice_given_back b x offset)
slice_changes false x offset = refl
slice_changes true x offset = refl

local_changes : (shut : Bool) (command : Command) (x : PeerPart) → Changes act.Local x (local_part shut command x)
local_changes true command x = refl
local_changes false (cmd.SliceRelease offset) x = slice_changes (is_received offset x.slices) x offset
local_changes false command x = refl

-- each event changes the fields that it may change
pub changes : (o : Opening) (memory : Bool) (d : DriverPart) (doing : Doing) (action : Action) (x : PeerPart) → Changes action x (happens o memory d doing action x).1
changes o memory d doing act.Rest x = refl
changes o memory d doing act.Begin x = begin_changes _ memory _ x
changes o memory d doing (act.Stage peer place) x = stage_changes _ memory _ _ _ _ _ _ x
changes o memory d doing (act.Unstage peer place) x = unstage_changes (find_stage x d.me place) x d.me place
changes o memory d doing (act.Attach peer serial dest) x = attach_changes (attach_answer x serial dest) x serial dest
changes o memory d doing act.Stamp x = refl
changes o memory d doing (act.Sync peer stamp) x = refl
changes o memory d doing (act.Commit peer place stamp) x = commit_changes (find_stage x d.me place) x d.me place stamp _
changes o memory d doing (act.CommitNotices peer stamp) x = refl
changes o memory d doing act.Recv x = six_received x
changes o memory d doing act.Reap x = refl
changes o memory d doing act.Release x = release_changes _ _ x
changes o memory d doing (act.DropRefs peer serial holder k clock) x = drop_changes (is_released (dropped_refs x serial holder k clock) serial) x serial holder k clock
changes o memory d doing act.BeginDestroy x = destroy_changes (begin_refusal doing.command x) (begin_serials doing.command x) x
changes o memory d doing (act.Visit peer) x = two_visited (doomed_of doing.phase) d.me 0 x x refl
changes o memory d doing act.StampDestroy x = doom_changes x.late x _ _
changes o memory d doing act.Flush x = refl
changes o memory d doing act.Local x = local_changes d.shut doing.command x
