-- How many nodes an event leaves at a peer: as many as before, and at a SEND's begin at most one more for each handle.
use Rattle.std.proofs.Common.{◌≡◌, refl, ap, ◌∙◌, ℕ, suc, ◌+◌, ◌≤◌, Bool, true, false, cond, List, [], ◌∷◌, ◌++◌, fold, filter, length, replicate, zip, Option, Some, None}
use Rattle.std.proofs.lemmas.List.{length-set, length-append}
use native.Mathlib.Omega.{arith}
use Rattle.b1_model.specs.declared.naming.Key.{Key}
use Rattle.b1_model.specs.declared.naming.NodeRef.{NodeRef}
use Rattle.b1_model.specs.declared.naming.Opening.{Opening}
use Rattle.b1_model.specs.declared.commands.Command.{Command}
use Rattle.b1_model.specs.declared.commands.Command.TheVariants as cmd
use Rattle.b1_model.specs.declared.commands.SendCmd.{SendCmd}
use Rattle.b1_model.specs.declared.parts.Attach.{Attach}
use Rattle.b1_model.specs.declared.parts.Attach.TheVariants as attach
use Rattle.b1_model.specs.declared.parts.Slot.{Slot}
use Rattle.b1_model.specs.declared.parts.Slot.TheVariants as slot
use Rattle.b1_model.specs.declared.entries.Entry.{Entry}
use Rattle.b1_model.specs.declared.entries.Entry.TheVariants.{Message, OwnNotice, ForeignNotice, ReleaseNotice}
use Rattle.b1_model.specs.declared.answers.Reason.{Reason}
use Rattle.b1_model.specs.declared.events.Action.{Action}
use Rattle.b1_model.specs.declared.events.Action.TheVariants as act
use Rattle.b1_model.specs.declared.events.Doing.{Doing}
use Rattle.b1_model.specs.declared.parts.NodeState.TheVariants.{Live, Dying, Destroyed}
use Rattle.b1_model.specs.Names.{is_own}
use Rattle.b1_model.specs.MachinePool.{published}
use Rattle.b1_model.specs.MachineParts.{PeerPart, DriverPart, NodePart, is_staged}
use Rattle.b1_model.specs.MachineTables.{in_state, serial_of, with_made, with_node, with_nodes}
use Rattle.b1_model.specs.MachineSend.{final_stamp, begun_part, unstaged_by, attached_by, committed_by}
use Rattle.b1_model.specs.MachineReceive.{Arriving, slot_arrives, reference_by, discarded, discards, cleared, taken_entry, front_by, front_taken, given_up, with_release_notice, slice_given_back}
use Rattle.b1_model.specs.MachineDestroy.{notice_by, visited_from, with_foreign_notice, doom_by}
use Rattle.b1_model.specs.MachineEvents.{doomed_of, begin_refusal, begin_serials, begin_by, stage_by, destroy_by, local_part, happens}

-- ---- lists of nodes

pub nodes_as_many : (f : NodePart → NodePart) (serials : List ℕ) (nodes : List NodePart) → length (with_nodes serials f nodes) ≡ length nodes
nodes_as_many f [] nodes = refl
nodes_as_many f (serial ∷ rest) nodes = nodes_as_many f rest (with_node serial f nodes) ∙ length-set nodes serial _

made_few : (peers number : ℕ) (nodes : List NodePart) (found : Option ℕ) (n : NodePart) → length {A = NodePart} (elim found [ None ↦ nodes ++ n ∷ [] | Some serial ↦ nodes ]) ≤ length nodes + 1
made_few peers number nodes None n = let k = length-append nodes (n ∷ []) in omega (arith, k)
made_few peers number nodes (Some serial) n = omega arith

all_made_few : (peers : ℕ) (numbers : List ℕ) (nodes : List NodePart) → length (fold (λ ns number. with_made peers number ns) nodes numbers) ≤ length nodes + length numbers
all_made_few peers [] nodes = omega arith
all_made_few peers (number ∷ rest) nodes =
    let one : length (with_made peers number nodes) ≤ length nodes + 1 = made_few peers number nodes (serial_of number nodes) (record { number = number; state = Live; counts = replicate peers 0; taken = false }) in
    let further = all_made_few peers rest (with_made peers number nodes) in
    omega (arith, one, further)

filter_few : (test : ℕ → Bool) (xs : List ℕ) → length (filter test xs) ≤ length xs
filter_few test [] = omega arith
filter_few test (x ∷ xs) = let further = filter_few test xs in elim (test x) as (λ b. length (cond b (x ∷ filter test xs) (filter test xs)) ≤ suc (length xs)) [ true ↦ omega (arith, further) | false ↦ omega (arith, further) ]

begun_few : (x : PeerPart) (c : SendCmd) → length (begun_part x c).nodes ≤ length x.nodes + length c.with
begun_few x c =
    let made = all_made_few x.peers (filter is_own c.with) x.nodes in
    let own = filter_few is_own c.with in
    omega (arith, made, own)

pub begin_few : (r : Option Reason) (memory : Bool) (c : SendCmd) (x : PeerPart) → length (begin_by r memory c x).1.nodes ≤ length x.nodes + length c.with
begin_few (Some r) memory c x = omega arith
begin_few None true c x = omega arith
begin_few None false c x = begun_few x c

-- ---- events

module _ (x : PeerPart) where
  stage_same : (r : Option Reason) (memory : Bool) (origin user place serial : ℕ) (payload : List ℕ) (nodes : List NodeRef) → (stage_by r memory origin user place serial payload nodes x).1.nodes ≡ x.nodes
  stage_same (Some r) memory origin user place serial payload nodes = refl
  stage_same None true origin user place serial payload nodes = refl
  stage_same None false origin user place serial payload nodes = refl

  unstage_same : (found : Option (Key × Entry)) (origin index : ℕ) → (unstaged_by found x origin index).nodes ≡ x.nodes
  unstage_same None origin index = refl
  unstage_same (Some f) origin index = refl

  attach_same : (a : Attach) (serial dest : ℕ) → length (attached_by a x serial dest).nodes ≡ length x.nodes
  attach_same attach.Counted serial dest = length-set x.nodes serial _
  attach_same attach.Own serial dest = refl
  attach_same (attach.Void stamp) serial dest = refl

  commit_same : (found : Option (Key × Entry)) (origin index stamp : ℕ) (slots : List Slot) → (committed_by found x origin index stamp slots).nodes ≡ x.nodes
  commit_same None origin index stamp slots = refl
  commit_same (Some f) origin index stamp slots = refl

  release_same : (given : Bool) (held : Option NodeRef) → (given_up given held x).nodes ≡ x.nodes
  release_same false held = refl
  release_same true None = refl
  release_same true (Some node) = refl

  noticed_same : (due : Bool) (serial : ℕ) → (with_release_notice due x serial).nodes ≡ x.nodes
  noticed_same false serial = refl
  noticed_same true serial = refl

  doomed_same : (r : Option Reason) (doomed : List ℕ) → length (destroy_by r doomed x).1.nodes ≡ length x.nodes
  doomed_same (Some r) doomed = refl
  doomed_same None doomed = nodes_as_many (in_state Dying) doomed x.nodes

  stamped_same : (late : List ℕ) (collected : ℕ) (doomed : List ℕ) → length (doom_by late x collected doomed).nodes ≡ length x.nodes
  stamped_same [] collected doomed = nodes_as_many (in_state (Destroyed (final_stamp x collected))) doomed x.nodes
  stamped_same (peer ∷ rest) collected doomed = refl

  given_back_same : (received : Bool) (offset : ℕ) → (slice_given_back received x offset).nodes ≡ x.nodes
  given_back_same false offset = refl
  given_back_same true offset = refl

  local_same : (shut : Bool) (command : Command) → (local_part shut command x).nodes ≡ x.nodes
  local_same true command = refl
  local_same false (cmd.SliceRelease offset) = given_back_same _ offset
  local_same false command = refl

-- a visit
notice_same : (needs : Bool) (origin : ℕ) (x : PeerPart) (index : ℕ) (node : NodeRef) → (notice_by needs origin x index node).nodes ≡ x.nodes
notice_same false origin x index node = refl
notice_same true origin x index node = refl

visit_same : (origin index : ℕ) (doomed : List ℕ) (x : PeerPart) → (visited_from origin index doomed x).nodes ≡ x.nodes
visit_same origin index [] x = refl
visit_same origin index (serial ∷ rest) x = visit_same origin (index + 1) rest (with_foreign_notice origin x index (record { owner = origin; serial = serial })) ∙ notice_same _ origin x index _

-- a recv
discard_same : (x : PeerPart) (e : Entry) → (discarded x e).nodes ≡ x.nodes
discard_same x (Message origin user index serial offset len nodes slots handles payload) = refl
discard_same x (OwnNotice serial index) = refl
discard_same x (ForeignNotice node index) = refl
discard_same x (ReleaseNotice serial) = refl

discards_same : (gone : List (Key × Entry)) (x : PeerPart) → (fold (λ y f. discarded y f.1) x gone).nodes ≡ x.nodes
discards_same [] x = refl
discards_same (f ∷ rest) x = discards_same rest (discarded x f.1) ∙ discard_same x f.1

reference_same : (dead : Bool) (a : Arriving) (node : NodeRef) → (reference_by dead a node).part.nodes ≡ a.part.nodes
reference_same true a node = refl
reference_same false a node = refl

slot_same : (a : Arriving) (node : NodeRef) (s : Slot) → (slot_arrives a (node, s)).part.nodes ≡ a.part.nodes
slot_same a node slot.Unattached = refl
slot_same a node slot.Void = refl
slot_same a node slot.Own = refl
slot_same a node slot.Attached = reference_same _ a node

slots_same : (slots : List (NodeRef × Slot)) (a : Arriving) → (fold slot_arrives a slots).part.nodes ≡ a.part.nodes
slots_same [] a = refl
slots_same (one ∷ rest) a = slots_same rest (slot_arrives a one) ∙ slot_same a one.0 one.1

taken_same : (x : PeerPart) (k : Key) (e : Entry) → length (taken_entry x k e).1.nodes ≡ length x.nodes
taken_same x k (Message origin user index serial offset len nodes slots handles payload) = ap length (slots_same (zip nodes slots) (record { part = record x { slices = published offset x.slices }; numbers = []; refs = [] }))
taken_same x k (OwnNotice serial index) = length-set x.nodes serial _
taken_same x k (ForeignNotice node index) = refl
taken_same x k (ReleaseNotice serial) = refl

front_same : (staged : Bool) (x : PeerPart) (f : Key × Entry) (rest : List (Key × Entry)) → length (front_by staged x f rest).1.nodes ≡ length x.nodes
front_same true x f rest = refl
front_same false x f rest = taken_same (record x { queue = rest }) f.0 f.1

fronts_same : (x : PeerPart) (queue : List (Key × Entry)) → length (front_taken x queue).1.nodes ≡ length x.nodes
fronts_same x [] = refl
fronts_same x (f ∷ rest) = front_same (is_staged f) x f rest

-- ---- all events

-- a SEND's begin
abbrev pub is_begin : Action → Bool
is_begin act.Begin = true
is_begin action = false

pub as_many_nodes : (o : Opening) (memory : Bool) (d : DriverPart) (doing : Doing) (action : Action) (x : PeerPart) → is_begin action ≡ false → length (happens o memory d doing action x).1.nodes ≡ length x.nodes
as_many_nodes o memory d doing act.Begin x is = absurd (cc is)
as_many_nodes o memory d doing (act.Stage peer place) x is = ap length (stage_same x _ memory _ _ _ _ _ _)
as_many_nodes o memory d doing (act.Unstage peer place) x is = ap length (unstage_same x _ _ _)
as_many_nodes o memory d doing (act.Attach peer serial dest) x is = attach_same x _ serial dest
as_many_nodes o memory d doing (act.Commit peer place stamp) x is = ap length (commit_same x _ _ _ _ _)
as_many_nodes o memory d doing act.Recv x is = fronts_same (cleared x) (cleared x).queue ∙ ap length (discards_same (discards x) _)
as_many_nodes o memory d doing act.Release x is = ap length (release_same x _ _)
as_many_nodes o memory d doing (act.DropRefs peer serial holder k clock) x is = ap length (noticed_same _ _ serial) ∙ length-set x.nodes serial _
as_many_nodes o memory d doing act.BeginDestroy x is = doomed_same x (begin_refusal doing.command x) (begin_serials doing.command x)
as_many_nodes o memory d doing (act.Visit peer) x is = ap length (visit_same d.me 0 (doomed_of doing.phase) x)
as_many_nodes o memory d doing act.StampDestroy x is = stamped_same x x.late _ _
as_many_nodes o memory d doing act.Local x is = ap length (local_same x _ _)
as_many_nodes o memory d doing action x is = refl
