-- What events leave of a peer's nodes: their lives, but where a destruction begins or gets its stamp.
use Rattle.std.proofs.Common.{◌≡◌, refl, sym, ap, subst, ◌∙◌, inl, inr, ℕ, zero, suc, ◌<◌, ◌≤◌, Bool, true, false, List, [], ◌∷◌, ◌++◌, fold, zip, replicate, get_or, filter, length, Option, Some, None}
use Rattle.std.proofs.lemmas.Bool.{cases_eq, cases_lt}
use Rattle.std.proofs.lemmas.List.{length-set, get_or-set_same, get_or-set_other, get_or_past}
use native.Mathlib.Omega.{arith}
use Rattle.b1_model.specs.declared.naming.Key.{Key}
use Rattle.b1_model.specs.declared.naming.NodeRef.{NodeRef}
use Rattle.b1_model.specs.declared.naming.Opening.{Opening}
use Rattle.b1_model.specs.declared.commands.SendCmd.{SendCmd}
use Rattle.b1_model.specs.declared.parts.Attach.{Attach}
use Rattle.b1_model.specs.declared.parts.Attach.TheVariants as attach
use Rattle.b1_model.specs.declared.parts.NodeState.{NodeState}
use Rattle.b1_model.specs.declared.parts.NodeState.TheVariants.{Live}
use Rattle.b1_model.specs.declared.parts.Slot.{Slot}
use Rattle.b1_model.specs.declared.parts.Slot.TheVariants as slot
use Rattle.b1_model.specs.declared.entries.Entry.{Entry}
use Rattle.b1_model.specs.declared.entries.Entry.TheVariants.{Message, OwnNotice, ForeignNotice, ReleaseNotice}
use Rattle.b1_model.specs.declared.answers.Reason.{Reason}
use Rattle.b1_model.specs.declared.events.Action.{Action}
use Rattle.b1_model.specs.declared.events.Action.TheVariants as act
use Rattle.b1_model.specs.declared.events.Doing.{Doing}
use Rattle.b1_model.specs.Names.{is_own}
use Rattle.b1_model.specs.MachineParts.{PeerPart, DriverPart, NodePart, no_node, is_dying, is_staged, record_or_none}
use Rattle.b1_model.specs.MachineTables.{with_node, with_nodes, with_made, serial_of, counted, uncounted, notice_taken, in_state}
use Rattle.b1_model.specs.MachineSend.{send_refusal, attached_by, attach_answer}
use Rattle.b1_model.specs.MachineReceive.{Arriving, discards, discarded, reference_by, slot_arrives, taken_entry, front_by, front_taken, cleared, received_part, with_release_notice, is_released, dropped_refs}
use Rattle.b1_model.specs.MachineDriver.{send_of}
use Rattle.b1_model.specs.MachineEvents.{happens, begin_by}
use Rattle.b1_step.specs.Rights.{Has}
use Rattle.b1_step.proofs.Changed.{changes}

-- no node is lost, each keeps its life, and each that comes is live
pub record NodesKept (ns ms : List NodePart) : Type 0 where
  pub within : length ns ≤ length ms
  pub state : (serial : ℕ) → serial < length ns → (get_or ms serial no_node).state ≡ (get_or ns serial no_node).state
  pub new : (serial : ℕ) → length ns ≤ serial → is_dying (get_or ms serial no_node).state ≡ false
  pub live : (serial : ℕ) → length ns ≤ serial → serial < length ms → (get_or ms serial no_node).state ≡ Live

pub nodes_same : (ns ms : List NodePart) → ms ≡ ns → NodesKept ns ms
nodes_same ns ms same = subst (NodesKept ns) (sym same) (record { within = omega arith; state = λ serial within. refl; new = λ serial past. ap (λ n. is_dying n.state) (get_or_past ns serial no_node past); live = λ serial past within. absurd (omega (arith, past, within)) })

pub nodes_trans : (ns ms ks : List NodePart) → NodesKept ns ms → NodesKept ms ks → NodesKept ns ks
nodes_trans ns ms ks h k = record {
  within = omega (arith, h.within, k.within);
  state = λ serial within. k.state serial (omega (arith, within, h.within)) ∙ h.state serial within;
  new = λ serial past. elim (cases_lt serial (length ms)) [ inl there ↦ ap is_dying (k.state serial there) ∙ h.new serial past | inr beyond ↦ k.new serial beyond ];
  live = λ serial past within. elim (cases_lt serial (length ms)) [ inl there ↦ k.state serial there ∙ h.live serial past there | inr beyond ↦ k.live serial beyond within ];
}

-- a node that is changed and keeps its life
module _ (f : NodePart → NodePart) (keeps : (n : NodePart) → (f n).state ≡ n.state) (serial : ℕ) (ns : List NodePart) where
  at_node : (other : ℕ) → other < length ns → (get_or (with_node serial f ns) other no_node).state ≡ (get_or ns other no_node).state
  at_node other within =
      elim (cases_eq other serial) [
        | inl same ↦ ap (λ i. (get_or (with_node serial f ns) i no_node).state) same ∙ ap (λ n. n.state) (get_or-set_same ns serial (f (get_or ns serial no_node)) no_node (omega (arith, within, same))) ∙ keeps (get_or ns serial no_node) ∙ ap (λ i. (get_or ns i no_node).state) (sym same)
        | inr apart ↦ ap (λ n. n.state) (get_or-set_other ns serial other (f (get_or ns serial no_node)) no_node apart)
      ]

  pub node_kept : NodesKept ns (with_node serial f ns)
  node_kept = record {
    within = omega (arith, length-set ns serial (f (get_or ns serial no_node)));
    state = at_node;
    new = λ other past. ap (λ n. is_dying n.state) (get_or_past (with_node serial f ns) other no_node (omega (arith, length-set ns serial (f (get_or ns serial no_node)), past)));
    live = λ other past within. absurd (omega (arith, length-set ns serial (f (get_or ns serial no_node)), past, within));
  }

get_or_new : (ns : List NodePart) (n : NodePart) (i : ℕ) → is_dying n.state ≡ false → length ns ≤ i → is_dying (get_or (ns ++ n ∷ []) i no_node).state ≡ false
get_or_new [] n zero alive past = alive
get_or_new [] n (suc i) alive past = refl
get_or_new (m ∷ rest) n zero alive past = absurd (omega (arith, past))
get_or_new (m ∷ rest) n (suc i) alive past = get_or_new rest n i alive (omega (arith, past))

get_or_old : (ns : List NodePart) (n : NodePart) (i : ℕ) → i < length ns → get_or (ns ++ n ∷ []) i no_node ≡ get_or ns i no_node
get_or_old [] n i within = absurd (omega (arith, within))
get_or_old (m ∷ rest) n zero within = refl
get_or_old (m ∷ rest) n (suc i) within = get_or_old rest n i (omega (arith, within))

longer : (ns : List NodePart) (n : NodePart) → length ns ≤ length (ns ++ n ∷ [])
longer [] n = omega arith
longer (m ∷ rest) n = let k = longer rest n in omega (arith, k)

live_new : (ns : List NodePart) (n : NodePart) (i : ℕ) → n.state ≡ Live → length ns ≤ i → i < length (ns ++ n ∷ []) → (get_or (ns ++ n ∷ []) i no_node).state ≡ Live
live_new [] n zero alive past within = alive
live_new [] n (suc i) alive past within = absurd (omega (arith, within))
live_new (m ∷ rest) n zero alive past within = absurd (omega (arith, past))
live_new (m ∷ rest) n (suc i) alive past within = live_new rest n i alive (omega (arith, past)) (omega (arith, within))

pub node_added : (ns : List NodePart) (n : NodePart) → n.state ≡ Live → NodesKept ns (ns ++ n ∷ [])
node_added ns n alive = record {
  within = longer ns n;
  state = λ serial within. ap (λ m. m.state) (get_or_old ns n serial within);
  new = λ serial past. get_or_new ns n serial (ap is_dying alive) past;
  live = λ serial past within. live_new ns n serial alive past within;
}

pub made_kept : (peers number : ℕ) (ns : List NodePart) → NodesKept ns (with_made peers number ns)
made_kept peers number ns =
    elim (serial_of number ns) as (λ found. NodesKept ns (elim found [ None ↦ ns ++ record { number = number; state = Live; counts = replicate peers 0; taken = false } ∷ [] | Some serial ↦ ns ])) [
      | None ↦ node_added ns (record { number = number; state = Live; counts = replicate peers 0; taken = false }) refl
      | Some serial ↦ nodes_same ns ns refl
    ]

all_made_kept : (peers : ℕ) (numbers : List ℕ) (ns : List NodePart) → NodesKept ns (fold (λ nodes number. with_made peers number nodes) ns numbers)
all_made_kept peers [] ns = nodes_same ns ns refl
all_made_kept peers (number ∷ rest) ns = nodes_trans ns (with_made peers number ns) _ (made_kept peers number ns) (all_made_kept peers rest (with_made peers number ns))

-- ---- events

begin_kept : (r : Option Reason) (memory : Bool) (c : SendCmd) (x : PeerPart) → NodesKept x.nodes (begin_by r memory c x).1.nodes
begin_kept (Some r) memory c x = nodes_same x.nodes x.nodes refl
begin_kept None true c x = nodes_same x.nodes x.nodes refl
begin_kept None false c x = all_made_kept x.peers (filter is_own c.with) x.nodes

attach_kept : (a : Attach) (x : PeerPart) (serial dest : ℕ) → NodesKept x.nodes (attached_by a x serial dest).nodes
attach_kept attach.Counted x serial dest = node_kept (counted dest) (λ n. refl) serial x.nodes
attach_kept attach.Own x serial dest = nodes_same x.nodes x.nodes refl
attach_kept (attach.Void stamp) x serial dest = nodes_same x.nodes x.nodes refl

drop_kept : (b : Bool) (x : PeerPart) (serial holder k clock : ℕ) → NodesKept x.nodes (with_release_notice b (dropped_refs x serial holder k clock) serial).nodes
drop_kept true x serial holder k clock = node_kept (uncounted holder k) (λ n. refl) serial x.nodes
drop_kept false x serial holder k clock = node_kept (uncounted holder k) (λ n. refl) serial x.nodes

-- receiving changes no node but the taken one
discard_nodes : (e : Entry) (x : PeerPart) → (discarded x e).nodes ≡ x.nodes
discard_nodes (Message origin user index serial offset len nodes slots handles payload) x = refl
discard_nodes (OwnNotice serial index) x = refl
discard_nodes (ForeignNotice node index) x = refl
discard_nodes (ReleaseNotice serial) x = refl

discards_nodes : (es : List (Key × Entry)) (x : PeerPart) → (fold (λ z f. discarded z f.1) x es).nodes ≡ x.nodes
discards_nodes [] x = refl
discards_nodes (f ∷ rest) x = discards_nodes rest (discarded x f.1) ∙ discard_nodes f.1 x

reference_nodes : (b : Bool) (a : Arriving) (node : NodeRef) → (reference_by b a node).part.nodes ≡ a.part.nodes
reference_nodes true a node = refl
reference_nodes false a node = refl

slot_nodes : (a : Arriving) (node : NodeRef) (s : Slot) → (slot_arrives a (node, s)).part.nodes ≡ a.part.nodes
slot_nodes a node slot.Unattached = refl
slot_nodes a node slot.Attached = reference_nodes (record_or_none node a.part.handles).dead a node
slot_nodes a node slot.Own = refl
slot_nodes a node slot.Void = refl

slots_nodes : (ss : List (NodeRef × Slot)) (a : Arriving) → (fold slot_arrives a ss).part.nodes ≡ a.part.nodes
slots_nodes [] a = refl
slots_nodes ((node, s) ∷ rest) a = slots_nodes rest (slot_arrives a (node, s)) ∙ slot_nodes a node s

taken_kept : (e : Entry) (k : Key) (x : PeerPart) → NodesKept x.nodes (taken_entry x k e).1.nodes
taken_kept (Message origin user index serial offset len nodes slots handles payload) k x = nodes_same x.nodes _ (slots_nodes (zip nodes slots) _)
taken_kept (OwnNotice serial index) k x = node_kept notice_taken (λ n. refl) serial x.nodes
taken_kept (ForeignNotice node index) k x = nodes_same x.nodes x.nodes refl
taken_kept (ReleaseNotice serial) k x = nodes_same x.nodes x.nodes refl

front_kept : (b : Bool) (x : PeerPart) (f : Key × Entry) (rest : List (Key × Entry)) → NodesKept x.nodes (front_by b x f rest).1.nodes
front_kept true x f rest = nodes_same x.nodes x.nodes refl
front_kept false x f rest = taken_kept f.1 f.0 (record x { queue = rest })

front_taken_kept : (queue : List (Key × Entry)) (x : PeerPart) → NodesKept x.nodes (front_taken x queue).1.nodes
front_taken_kept [] x = nodes_same x.nodes x.nodes refl
front_taken_kept (f ∷ rest) x = front_kept (is_staged f) x f rest

recv_kept : (x : PeerPart) → NodesKept x.nodes (received_part x).nodes
recv_kept x = nodes_trans x.nodes (cleared x).nodes (received_part x).nodes (nodes_same x.nodes (cleared x).nodes (discards_nodes (discards x) _)) (front_taken_kept (cleared x).queue (cleared x))

-- the events that change the life of nodes
abbrev pub dooms : Action → Bool
dooms act.BeginDestroy = true
dooms act.StampDestroy = true
dooms action = false

pub nodes_kept : (o : Opening) (memory : Bool) (d : DriverPart) (doing : Doing) (action : Action) (x : PeerPart) → dooms action ≡ false → NodesKept x.nodes (happens o memory d doing action x).1.nodes
nodes_kept o memory d doing act.BeginDestroy x is = absurd (cc is)
nodes_kept o memory d doing act.StampDestroy x is = absurd (cc is)
nodes_kept o memory d doing act.Rest x is = nodes_same x.nodes x.nodes refl
nodes_kept o memory d doing act.Begin x is = begin_kept (send_refusal x (send_of doing.command)) memory (send_of doing.command) x
nodes_kept o memory d doing (act.Stage peer place) x is = nodes_same x.nodes _ (ap (λ y. y.nodes) (changes o memory d doing (act.Stage peer place) x))
nodes_kept o memory d doing (act.Unstage peer place) x is = nodes_same x.nodes _ (ap (λ y. y.nodes) (changes o memory d doing (act.Unstage peer place) x))
nodes_kept o memory d doing (act.Attach peer serial dest) x is = attach_kept (attach_answer x serial dest) x serial dest
nodes_kept o memory d doing act.Stamp x is = nodes_same x.nodes x.nodes refl
nodes_kept o memory d doing (act.Sync peer stamp) x is = nodes_same x.nodes x.nodes refl
nodes_kept o memory d doing (act.Commit peer place stamp) x is = nodes_same x.nodes _ (ap (λ y. y.nodes) (changes o memory d doing (act.Commit peer place stamp) x))
nodes_kept o memory d doing (act.CommitNotices peer stamp) x is = nodes_same x.nodes x.nodes refl
nodes_kept o memory d doing act.Recv x is = recv_kept x
nodes_kept o memory d doing act.Reap x is = nodes_same x.nodes x.nodes refl
nodes_kept o memory d doing act.Release x is = nodes_same x.nodes _ (ap (λ y. y.nodes) (changes o memory d doing act.Release x))
nodes_kept o memory d doing (act.DropRefs peer serial holder k clock) x is = drop_kept (is_released (dropped_refs x serial holder k clock) serial) x serial holder k clock
nodes_kept o memory d doing (act.Visit peer) x is = nodes_same x.nodes _ (ap (λ y. y.nodes) (changes o memory d doing (act.Visit peer) x))
nodes_kept o memory d doing act.Flush x is = nodes_same x.nodes x.nodes refl
nodes_kept o memory d doing act.Local x is = nodes_same x.nodes _ (ap (λ y. y.nodes) (changes o memory d doing act.Local x))

-- ---- nodes that a destruction changes

module _ (state : NodeState) where
  pub doomed_length : (serials : List ℕ) (ns : List NodePart) → length (with_nodes serials (in_state state) ns) ≡ length ns
  doomed_length [] ns = refl
  doomed_length (serial ∷ rest) ns = doomed_length rest (with_node serial (in_state state) ns) ∙ length-set ns serial (in_state state (get_or ns serial no_node))

  -- a node that isn't doomed stays
  pub undoomed_state : (serials : List ℕ) (ns : List NodePart) (serial : ℕ) → (Has serials serial → ⊥) → get_or (with_nodes serials (in_state state) ns) serial no_node ≡ get_or ns serial no_node
  undoomed_state [] ns serial none = refl
  undoomed_state (one ∷ rest) ns serial none =
      undoomed_state rest (with_node one (in_state state) ns) serial (λ h. none (inr h))
      ∙ get_or-set_other ns one serial (in_state state (get_or ns one no_node)) no_node (λ same. none (inl same))

  in_state_stays : (serials : List ℕ) (ns : List NodePart) (serial : ℕ) → serial < length ns → (get_or ns serial no_node).state ≡ state → (get_or (with_nodes serials (in_state state) ns) serial no_node).state ≡ state
  in_state_stays [] ns serial within is = is
  in_state_stays (one ∷ rest) ns serial within is =
      in_state_stays rest (with_node one (in_state state) ns) serial (omega (arith, length-set ns one (in_state state (get_or ns one no_node)), within))
      (elim (cases_eq serial one) [
        | inl same ↦ ap (λ i. (get_or (with_node one (in_state state) ns) i no_node).state) same ∙ ap (λ n. n.state) (get_or-set_same ns one (in_state state (get_or ns one no_node)) no_node (omega (arith, within, same)))
        | inr apart ↦ ap (λ n. n.state) (get_or-set_other ns one serial (in_state state (get_or ns one no_node)) no_node apart) ∙ is
      ])

  -- a doomed one is in the state
  pub doomed_state : (serials : List ℕ) (ns : List NodePart) (serial : ℕ) → Has serials serial → serial < length ns → (get_or (with_nodes serials (in_state state) ns) serial no_node).state ≡ state
  doomed_state [] ns serial h within = absurd h
  doomed_state (one ∷ rest) ns serial (inl same) within =
      in_state_stays rest (with_node one (in_state state) ns) serial (omega (arith, length-set ns one (in_state state (get_or ns one no_node)), within))
      (ap (λ i. (get_or (with_node one (in_state state) ns) i no_node).state) same ∙ ap (λ n. n.state) (get_or-set_same ns one (in_state state (get_or ns one no_node)) no_node (omega (arith, within, same))))
  doomed_state (one ∷ rest) ns serial (inr further) within = doomed_state rest (with_node one (in_state state) ns) serial further (omega (arith, length-set ns one (in_state state (get_or ns one no_node)), within))
