-- What a destruction and a flush do at one peer: begin destroy, visit, stamp destroy, flush.
use Rattle.std.specs.Prelude.{ℕ, ◌+◌, ◌==◌, Bool, true, false, ◌||◌, not, nat_lt, nat_le, if◌then◌else◌, List, [], ◌∷◌, ◌++◌, Option, Some, None, Ok, Err, Result, fold, filter, filter_map, find, length, option_map}
use Rattle.std.specs.List.{list_any, range_with_len}
use Rattle.std.specs.Bool.{then_some}
use Rattle.b1_model.specs.declared.limits.TheConstants.{MOST_DESTINATIONS}
use Rattle.b1_model.specs.declared.naming.Key.{Key}
use Rattle.b1_model.specs.declared.naming.NodeRef.{NodeRef}
use Rattle.b1_model.specs.declared.naming.Limits.{Limits}
use Rattle.b1_model.specs.declared.parts.NodeState.TheVariants.{Dying, Destroyed}
use Rattle.b1_model.specs.declared.parts.Visited.{Visited}
use Rattle.b1_model.specs.declared.entries.Entry.{Entry}
use Rattle.b1_model.specs.declared.entries.Entry.TheVariants.{OwnNotice, ForeignNotice}
use Rattle.b1_model.specs.declared.answers.Reason.{Reason}
use Rattle.b1_model.specs.declared.answers.Reason.TheVariants as reason
use Rattle.b1_model.specs.Names.{is_own}
use Rattle.b1_model.specs.MachineParts.{PeerPart, NodePart, HandleRecord, clock_limit, is_staged, is_live, node_at, record_of, is_release_notice}
use Rattle.b1_model.specs.MachinePool.{whole_pool}
use Rattle.b1_model.specs.MachineTables.{put, without, changed, noticed, with_nodes, in_state, serial_of, count_of, is_number, next_number}
use Rattle.b1_model.specs.MachineSend.{first_reason, final_stamp}
use Rattle.b1_model.specs.MachineReceive.{references, with_item}

-- ---- begin destroy

-- whether a number stands twice
abbrev pub has_repeat : List ℕ → Bool
has_repeat [] = false
has_repeat (n ∷ rest) = list_any (λ m. m == n) rest || has_repeat rest

-- no number or too many, a number that isn't a multiple of 4, or a repeat
abbrev pub is_bad_destroy : List ℕ → Bool
is_bad_destroy numbers = (length numbers == 0) || nat_lt MOST_DESTINATIONS (length numbers) || list_any (λ n. not (is_own n)) numbers || has_repeat numbers

-- the serial of a live own node, by its number
abbrev pub live_serial : PeerPart → ℕ → Option ℕ
live_serial x number = elim (serial_of number x.nodes) [ None ↦ None | Some serial ↦ then_some (is_live (node_at x serial).state) serial ]

-- a number that is unknown, or whose node is no longer live
abbrev pub is_not_live : PeerPart → ℕ → Bool
is_not_live x number = elim (live_serial x number) [ None ↦ true | Some serial ↦ false ]

-- no stamp is begun where the clock is 2^62 or more
abbrev pub overflow_reason : PeerPart → Option Reason
overflow_reason x = then_some (nat_le clock_limit x.clock) (reason.Overflow x.clock)

-- the refusals of NODES_DESTROY, in their order
abbrev pub destroy_refusal : PeerPart → List ℕ → Option Reason
destroy_refusal x numbers =
    first_reason (
    then_some (is_bad_destroy numbers) reason.Invalid ∷
    overflow_reason x ∷
    option_map (λ number. reason.Unknown number) (find (is_not_live x) numbers) ∷ [])

-- the nodes that NODES_DESTROY dooms, in the order of the list
abbrev pub destroy_serials : PeerPart → List ℕ → List ℕ
destroy_serials x numbers = filter_map (live_serial x) numbers

-- the live nodes from a serial on, in rising order
abbrev pub live_serials : ℕ → List NodePart → List ℕ
live_serials serial [] = []
live_serials serial (n ∷ rest) = if is_live n.state then serial ∷ live_serials (serial + 1) rest else live_serials (serial + 1) rest

-- the nodes that a PEER_RESET or a PEER_DISCONNECT dooms
abbrev pub reset_serials : PeerPart → List ℕ
reset_serials x = live_serials 0 x.nodes

-- the peers with a count above zero for one of the doomed nodes, rising
abbrev pub visit_set : PeerPart → List ℕ → List ℕ
visit_set x doomed = filter (λ peer. list_any (λ serial. nat_lt 0 (count_of (node_at x serial) peer)) doomed) (range_with_len 0 x.peers)

-- a doomed node's own notice is staged at its place, and its release notice leaves
abbrev pub with_own_notices : PeerPart → ℕ → List ℕ → List (Key × Entry) → List (Key × Entry)
with_own_notices x index [] queue = queue
with_own_notices x index (serial ∷ rest) queue =
    with_own_notices x (index + 1) rest
    (put (record { stamp = x.clock + 1; origin = x.me; index = index }) (OwnNotice serial index) (without (is_release_notice serial) queue))

-- each doomed node is dying, its release notice is removed, its own notice is staged, and the late set is empty
abbrev pub doomed_part : PeerPart → List ℕ → PeerPart
doomed_part x doomed = record x { nodes = with_nodes doomed (in_state Dying) x.nodes; queue = with_own_notices x 0 doomed x.queue; late = [] }

-- ---- visit

-- a record of a doomed node without a queued notice gets one
abbrev pub needs_notice : PeerPart → NodeRef → Bool
needs_notice x node = elim (record_of node x.handles) [ None ↦ false | Some h ↦ not h.notice ]

-- whether the record needs one is given
abbrev pub notice_by : Bool → ℕ → PeerPart → ℕ → NodeRef → PeerPart
notice_by false origin x index node = x
notice_by true origin x index node = record x { handles = changed node noticed x.handles; queue = put (record { stamp = x.clock + 1; origin = origin; index = index }) (ForeignNotice node index) x.queue }

-- one doomed node at a visited peer
abbrev pub with_foreign_notice : ℕ → PeerPart → ℕ → NodeRef → PeerPart
with_foreign_notice origin x index node = notice_by (needs_notice x node) origin x index node

-- from a place of the doomed list on
abbrev pub visited_from : ℕ → ℕ → List ℕ → PeerPart → PeerPart
visited_from origin index [] x = x
visited_from origin index (serial ∷ rest) x = visited_from origin (index + 1) rest (with_foreign_notice origin x index (record { owner = origin; serial = serial }))

-- a visit, from the first doomed node on
abbrev pub visited : PeerPart → ℕ → List ℕ → PeerPart
visited x origin doomed = visited_from origin 0 doomed x

-- the clock is collected in any case; whether a notice was staged
abbrev pub visit_answer : PeerPart → ℕ → List ℕ → Visited
visit_answer x origin doomed = record { clock = x.clock; staged = list_any (λ serial. needs_notice x (record { owner = origin; serial = serial })) doomed }

-- ---- stamp destroy

-- the stamp, or the late set where it isn't empty
abbrev pub doom_answer : PeerPart → ℕ → Result ℕ (List ℕ)
doom_answer x collected = elim x.late [ [] ↦ Ok (final_stamp x collected) | peer ∷ rest ↦ Err (peer ∷ rest) ]

-- the late set is emptied, and nothing else changes; where it was empty, the nodes are destroyed with the stamp
abbrev pub doom_by : List ℕ → PeerPart → ℕ → List ℕ → PeerPart
doom_by [] x collected doomed = record x { clock = final_stamp x collected; nodes = with_nodes doomed (in_state (Destroyed (final_stamp x collected))) x.nodes }
doom_by (peer ∷ rest) x collected doomed = record x { late = [] }

-- the event, by the part's own late set
abbrev pub doom_stamped : PeerPart → ℕ → List ℕ → PeerPart
doom_stamped x collected doomed = doom_by x.late x collected doomed

-- ---- flush

-- the committed messages' references, an item for each that has some, in the queue's order
abbrev pub queued_items : List (Key × Entry) → List (List (NodeRef × ℕ)) → List (List (NodeRef × ℕ))
queued_items queue dead = fold (λ items f. if is_staged f then items else with_item (references f.1) items) dead queue

-- a record that is held under a number, with how often
abbrev pub held_item : List HandleRecord → ℕ → Option (List (NodeRef × ℕ))
held_item handles number = option_map (λ h. (h.node, h.held) ∷ []) (find (is_number number) handles)

-- the held records, by rising numbers
abbrev pub held_items : ℕ → List HandleRecord → List (List (NodeRef × ℕ))
held_items given handles = filter_map (λ g. held_item handles (next_number g)) (range_with_len 0 given)

-- the queue and the handles are given up, all slices are free, the limits are new, and the epoch rises
abbrev pub flushed : PeerPart → Limits → PeerPart
flushed x limits =
    record x {
      queue = [];
      handles = [];
      slices = whole_pool x.pool;
      limits = limits;
      epoch = x.epoch + 1;
      dead = queued_items x.queue x.dead ++ held_items x.given x.handles;
    }
