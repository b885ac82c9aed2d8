-- What an event leaves of nodes: whose destroy notice was taken, and that the destroyed stay so.
use Rattle.std.proofs.Common.{◌≡◌, ◌⊎◌, refl, sym, ap, ◌∙◌, inl, inr, ℕ, zero, suc, ◌+◌, ◌<◌, Bool, true, false, cond, List, [], ◌∷◌, ◌++◌, drop, fold, zip, replicate, get_or, filter, length, Option, Some, None}
use Rattle.std.specs.Prelude.{filter_map}
use Rattle.std.specs.Bool.{then_some}
use Rattle.std.specs.List.{cons_option}
use Rattle.std.proofs.lemmas.Bool.{cases_eq}
use Rattle.std.proofs.lemmas.List.{get_or-set_other}
use native.Mathlib.Omega.{arith}
use Rattle.b1_model.specs.declared.naming.Key.{Key}
use Rattle.b1_model.specs.declared.naming.NodeRef.{NodeRef}
use Rattle.b1_model.specs.declared.naming.Opening.{Opening}
use Rattle.b1_model.specs.declared.commands.Command.{Command}
use Rattle.b1_model.specs.declared.commands.Command.TheVariants as cmd
use Rattle.b1_model.specs.declared.commands.SendCmd.{SendCmd}
use Rattle.b1_model.specs.declared.parts.Attach.{Attach}
use Rattle.b1_model.specs.declared.parts.Attach.TheVariants as attach
use Rattle.b1_model.specs.declared.parts.NodeState.{NodeState}
use Rattle.b1_model.specs.declared.parts.NodeState.TheVariants.{Live, Dying, Destroyed}
use Rattle.b1_model.specs.declared.parts.Slot.{Slot}
use Rattle.b1_model.specs.declared.parts.Slot.TheVariants as slot
use Rattle.b1_model.specs.declared.entries.Entry.{Entry}
use Rattle.b1_model.specs.declared.entries.Entry.TheVariants.{Message, OwnNotice, ForeignNotice, ReleaseNotice}
use Rattle.b1_model.specs.declared.answers.Reason.{Reason}
use Rattle.b1_model.specs.declared.events.Action.{Action}
use Rattle.b1_model.specs.declared.events.Action.TheVariants as act
use Rattle.b1_model.specs.declared.events.Doing.{Doing}
use Rattle.b1_model.specs.Names.{is_own}
use Rattle.b1_model.specs.MachineParts.{PeerPart, DriverPart, NodePart, no_node, node_at, is_live, is_destroyed, is_staged, record_or_none}
use Rattle.b1_model.specs.MachineTables.{with_node, with_nodes, with_made, serial_of, counted, uncounted, notice_taken, in_state}
use Rattle.b1_model.specs.MachineSend.{send_refusal, attached_by, attach_answer, final_stamp}
use Rattle.b1_model.specs.MachineReceive.{Arriving, discards, discarded, reference_by, slot_arrives, taken_entry, front_by, front_taken, cleared, received_part, with_release_notice, is_released, dropped_refs}
use Rattle.b1_model.specs.MachineDestroy.{live_serial, live_serials, destroy_serials, reset_serials, doom_by}
use Rattle.b1_model.specs.MachineDriver.{send_of}
use Rattle.b1_model.specs.MachineEvents.{happens, begin_by, destroy_by, begin_refusal, begin_serials, collected_of, doomed_of}
use Rattle.b1_step.specs.Rights.{Has}
use Rattle.b1_step.proofs.Changed.{changes}
use Rattle.b1_inv_tools.proofs.Received.{at_cleared}
use Rattle.b1_inv_notices.proofs.Nodes.{dooms, nodes_kept, undoomed_state, doomed_state}
use Rattle.b1_inv_notices.proofs.Sets.{in_or_not}

-- ---- the same nodes' notices were taken

abbrev pub TakenSame : List NodePart → List NodePart → Type 0
TakenSame ns ms = (serial : ℕ) → (get_or ms serial no_node).taken ≡ (get_or ns serial no_node).taken

same_nodes : (ns ms : List NodePart) → ms ≡ ns → TakenSame ns ms
same_nodes ns ms same serial = ap (λ nodes. (get_or nodes serial no_node).taken) same

module _ (f : NodePart → NodePart) (keeps : (n : NodePart) → (f n).taken ≡ n.taken) where
  pub with_same : (ns : List NodePart) (i : ℕ) → TakenSame ns (with_node i f ns)
  with_same [] i serial = refl
  with_same (n ∷ ns) zero zero = keeps n
  with_same (n ∷ ns) zero (suc serial) = refl
  with_same (n ∷ ns) (suc i) zero = refl
  with_same (n ∷ ns) (suc i) (suc serial) = with_same ns i serial

  all_same : (serials : List ℕ) (ns : List NodePart) → TakenSame ns (with_nodes serials f ns)
  all_same [] ns serial = refl
  all_same (one ∷ rest) ns serial = all_same rest (with_node one f ns) serial ∙ with_same ns one serial

added_same : (ns : List NodePart) (n : NodePart) → n.taken ≡ false → TakenSame ns (ns ++ n ∷ [])
added_same [] n none zero = none
added_same [] n none (suc serial) = refl
added_same (m ∷ ns) n none zero = refl
added_same (m ∷ ns) n none (suc serial) = added_same ns n none serial

pub made_same : (peers number : ℕ) (ns : List NodePart) → TakenSame ns (with_made peers number ns)
made_same peers number ns = by (serial_of number ns)
  where
    by : (at : Option ℕ) → TakenSame ns (elim at [ None ↦ ns ++ record { number = number; state = Live; counts = replicate peers 0; taken = false } ∷ [] | Some serial ↦ ns ])
    by None = added_same ns (record { number = number; state = Live; counts = replicate peers 0; taken = false }) refl
    by (Some serial) = λ one. refl

all_made_same : (peers : ℕ) (numbers : List ℕ) (ns : List NodePart) → TakenSame ns (fold (λ nodes number. with_made peers number nodes) ns numbers)
all_made_same peers [] ns serial = refl
all_made_same peers (number ∷ rest) ns serial = all_made_same peers rest (with_made peers number ns) serial ∙ made_same peers number ns serial

begin_same : (r : Option Reason) (memory : Bool) (c : SendCmd) (x : PeerPart) → TakenSame x.nodes (begin_by r memory c x).1.nodes
begin_same (Some r) memory c x = λ serial. refl
begin_same None true c x = λ serial. refl
begin_same None false c x = all_made_same x.peers (filter is_own c.with) x.nodes

attach_same : (a : Attach) (x : PeerPart) (serial dest : ℕ) → TakenSame x.nodes (attached_by a x serial dest).nodes
attach_same attach.Counted x serial dest = with_same (counted dest) (λ n. refl) x.nodes serial
attach_same attach.Own x serial dest = λ one. refl
attach_same (attach.Void stamp) x serial dest = λ one. refl

drop_same : (b : Bool) (x : PeerPart) (serial holder k clock : ℕ) → TakenSame x.nodes (with_release_notice b (dropped_refs x serial holder k clock) serial).nodes
drop_same true x serial holder k clock = with_same (uncounted holder k) (λ n. refl) x.nodes serial
drop_same false x serial holder k clock = with_same (uncounted holder k) (λ n. refl) x.nodes serial

destroy_same : (r : Option Reason) (doomed : List ℕ) (x : PeerPart) → TakenSame x.nodes (destroy_by r doomed x).1.nodes
destroy_same (Some r) doomed x = λ serial. refl
destroy_same None doomed x = all_same (in_state Dying) (λ n. refl) doomed x.nodes

doom_same : (late : List ℕ) (x : PeerPart) (collected : ℕ) (doomed : List ℕ) → TakenSame x.nodes (doom_by late x collected doomed).nodes
doom_same [] x collected doomed = all_same (in_state (Destroyed (final_stamp x collected))) (λ n. refl) doomed x.nodes
doom_same (peer ∷ rest) x collected doomed = λ serial. refl

-- an event that takes an entry
abbrev pub is_recv : Action → Bool
is_recv act.Recv = true
is_recv action = false

pub taken_same : (o : Opening) (memory : Bool) (d : DriverPart) (doing : Doing) (action : Action) (x : PeerPart) → is_recv action ≡ false → TakenSame x.nodes (happens o memory d doing action x).1.nodes
taken_same o memory d doing act.Recv x is = absurd (cc is)
taken_same o memory d doing act.BeginDestroy x is = destroy_same (begin_refusal doing.command x) (begin_serials doing.command x) x
taken_same o memory d doing act.StampDestroy x is = doom_same x.late x (collected_of doing.phase) (doomed_of doing.phase)
taken_same o memory d doing act.Rest x is = same_nodes x.nodes x.nodes refl
taken_same o memory d doing act.Begin x is = begin_same (send_refusal x (send_of doing.command)) memory (send_of doing.command) x
taken_same o memory d doing (act.Stage peer place) x is = same_nodes x.nodes _ (ap (λ y. y.nodes) (changes o memory d doing (act.Stage peer place) x))
taken_same o memory d doing (act.Unstage peer place) x is = same_nodes x.nodes _ (ap (λ y. y.nodes) (changes o memory d doing (act.Unstage peer place) x))
taken_same o memory d doing (act.Attach peer serial dest) x is = attach_same (attach_answer x serial dest) x serial dest
taken_same o memory d doing act.Stamp x is = same_nodes x.nodes x.nodes refl
taken_same o memory d doing (act.Sync peer stamp) x is = same_nodes x.nodes x.nodes refl
taken_same o memory d doing (act.Commit peer place stamp) x is = same_nodes x.nodes _ (ap (λ y. y.nodes) (changes o memory d doing (act.Commit peer place stamp) x))
taken_same o memory d doing (act.CommitNotices peer stamp) x is = same_nodes x.nodes x.nodes refl
taken_same o memory d doing act.Reap x is = same_nodes x.nodes x.nodes refl
taken_same o memory d doing act.Release x is = same_nodes x.nodes _ (ap (λ y. y.nodes) (changes o memory d doing act.Release x))
taken_same o memory d doing (act.DropRefs peer serial holder k clock) x is = drop_same (is_released (dropped_refs x serial holder k clock) serial) x serial holder k clock
taken_same o memory d doing (act.Visit peer) x is = same_nodes x.nodes _ (ap (λ y. y.nodes) (changes o memory d doing (act.Visit peer) x))
taken_same o memory d doing act.Flush x is = same_nodes x.nodes x.nodes refl
taken_same o memory d doing act.Local x is = same_nodes x.nodes _ (ap (λ y. y.nodes) (changes o memory d doing act.Local x))

-- ---- a RECV

discard_nodes : (e : Entry) (x : PeerPart) → (discarded x e).nodes ≡ x.nodes
discard_nodes (Message origin user index serial offset len nodes slots handles payload) x = refl
discard_nodes (OwnNotice serial index) x = refl
discard_nodes (ForeignNotice node index) x = refl
discard_nodes (ReleaseNotice serial) x = refl

pub discards_nodes : (es : List (Key × Entry)) (x : PeerPart) → (fold (λ z f. discarded z f.1) x es).nodes ≡ x.nodes
discards_nodes [] x = refl
discards_nodes (f ∷ rest) x = discards_nodes rest (discarded x f.1) ∙ discard_nodes f.1 x

reference_nodes : (b : Bool) (a : Arriving) (node : NodeRef) → (reference_by b a node).part.nodes ≡ a.part.nodes
reference_nodes true a node = refl
reference_nodes false a node = refl

slot_nodes : (a : Arriving) (node : NodeRef) (s : Slot) → (slot_arrives a (node, s)).part.nodes ≡ a.part.nodes
slot_nodes a node slot.Unattached = refl
slot_nodes a node slot.Attached = reference_nodes (record_or_none node a.part.handles).dead a node
slot_nodes a node slot.Own = refl
slot_nodes a node slot.Void = refl

pub slots_nodes : (ss : List (NodeRef × Slot)) (a : Arriving) → (fold slot_arrives a ss).part.nodes ≡ a.part.nodes
slots_nodes [] a = refl
slots_nodes ((node, s) ∷ rest) a = slots_nodes rest (slot_arrives a (node, s)) ∙ slot_nodes a node s

-- a node's notice was taken before, or stood at the front of what wasn't removed, and the rest is left
abbrev pub Taking : PeerPart → PeerPart → Type 0
Taking x y = (serial : ℕ) → (node_at y serial).taken ≡ true → ((node_at x serial).taken ≡ true) ⊎ ((k : Key) × (i : ℕ) × (n : ℕ) × (drop n x.queue ≡ (k, OwnNotice serial i) ∷ y.queue) × (is_staged (k, OwnNotice serial i) ≡ false))

module _ (x : PeerPart) where
  by_nodes : (y : PeerPart) → y.nodes ≡ x.nodes → Taking x y
  by_nodes y same serial is = inl (ap (λ nodes. (get_or nodes serial no_node).taken) (sym same) ∙ is)

  entry_taking : (k : Key) (e : Entry) (z : PeerPart) (n : ℕ) → z.nodes ≡ x.nodes → drop n x.queue ≡ (k, e) ∷ z.queue → is_staged (k, e) ≡ false → Taking x (taken_entry z k e).1
  entry_taking k (Message origin user index serial offset len nodes slots handles payload) z n same front even = by_nodes (taken_entry z k (Message origin user index serial offset len nodes slots handles payload)).1 (slots_nodes (zip nodes slots) _ ∙ same)
  entry_taking k (ForeignNotice node index) z n same front even = by_nodes (taken_entry z k (ForeignNotice node index)).1 same
  entry_taking k (ReleaseNotice serial) z n same front even = by_nodes (taken_entry z k (ReleaseNotice serial)).1 same
  entry_taking k (OwnNotice one index) z n same front even = λ serial is. elim (cases_eq serial one) [
    | inl here ↦ inr (k, index, n, front ∙ ap (λ m. (k, OwnNotice m index) ∷ z.queue) (sym here), even)
    | inr apart ↦ inl (ap (λ nodes. (get_or nodes serial no_node).taken) (sym same) ∙ ap (λ m. m.taken) (sym (get_or-set_other z.nodes one serial (notice_taken (get_or z.nodes one no_node)) no_node apart)) ∙ is)
  ]

  front_taking : (b : Bool) (z : PeerPart) (f : Key × Entry) (rest : List (Key × Entry)) (n : ℕ) → is_staged f ≡ b → z.nodes ≡ x.nodes → drop n x.queue ≡ f ∷ rest → Taking x (front_by b z f rest).1
  front_taking true z f rest n is same front = by_nodes z same
  front_taking false z f rest n is same front = entry_taking f.0 f.1 (record z { queue = rest }) n same front is

  queue_taking : (queue : List (Key × Entry)) (z : PeerPart) (n : ℕ) → z.nodes ≡ x.nodes → drop n x.queue ≡ queue → Taking x (front_taken z queue).1
  queue_taking [] z n same front = by_nodes z same
  queue_taking (f ∷ rest) z n same front = front_taking (is_staged f) z f rest n refl same front

  pub recv_taking : Taking x (received_part x)
  recv_taking = queue_taking (cleared x).queue (cleared x) (length (discards x)) (discards_nodes (discards x) _) (sym (at_cleared x).0)

-- ---- the nodes that a destruction dooms are live

module _ (x : PeerPart) where
  live_found : (here : ℕ) (nodes : List NodePart) (serial : ℕ) → Has (live_serials here nodes) serial → (i : ℕ) × (serial ≡ here + i) × (is_live (get_or nodes i no_node).state ≡ true)
  live_found here [] serial h = absurd h
  live_found here (n ∷ rest) serial h = by (live_found (here + 1) rest serial) (is_live n.state) refl h
    where
      later : (i : ℕ) × (serial ≡ here + 1 + i) × (is_live (get_or rest i no_node).state ≡ true) → (i : ℕ) × (serial ≡ here + i) × (is_live (get_or (n ∷ rest) i no_node).state ≡ true)
      later (i, same, live) = (suc i, omega (arith, same), live)

      by : (Has (live_serials (here + 1) rest) serial → (i : ℕ) × (serial ≡ here + 1 + i) × (is_live (get_or rest i no_node).state ≡ true)) → (b : Bool) → is_live n.state ≡ b → Has (cond b (here ∷ live_serials (here + 1) rest) (live_serials (here + 1) rest)) serial → (i : ℕ) × (serial ≡ here + i) × (is_live (get_or (n ∷ rest) i no_node).state ≡ true)
      by further true is (inl same) = (zero, omega (arith, same), is)
      by further true is (inr more) = later (further more)
      by further false is more = later (further more)

  kept_live : (serial other : ℕ) (b : Bool) → is_live (node_at x serial).state ≡ b → then_some b serial ≡ Some other → is_live (node_at x other).state ≡ true
  kept_live serial other true live is = let same : serial ≡ other = cc is in ap (λ i. is_live (node_at x i).state) (sym same) ∙ live
  kept_live serial other false live is = absurd (cc is)

  named_live : (at : Option ℕ) (serial : ℕ) → elim at [ None ↦ None | Some one ↦ then_some (is_live (node_at x one).state) one ] ≡ Some serial → is_live (node_at x serial).state ≡ true
  named_live None serial is = absurd (cc is)
  named_live (Some one) serial is = kept_live one serial (is_live (node_at x one).state) refl is

  listed_live : (numbers : List ℕ) (serial : ℕ) → Has (destroy_serials x numbers) serial → is_live (node_at x serial).state ≡ true
  listed_live [] serial h = absurd h
  listed_live (number ∷ rest) serial h = by (listed_live rest serial) (live_serial x number) refl h
    where
      by : (Has (destroy_serials x rest) serial → is_live (node_at x serial).state ≡ true) → (one : Option ℕ) → live_serial x number ≡ one → Has (cons_option one (filter_map (live_serial x) rest)) serial → is_live (node_at x serial).state ≡ true
      by further None is more = further more
      by further (Some y) is (inl same) = named_live (serial_of number x.nodes) serial (is ∙ ap Some (sym same))
      by further (Some y) is (inr more) = further more

  reset_live : (serial : ℕ) → Has (reset_serials x) serial → is_live (node_at x serial).state ≡ true
  reset_live serial h = let k = live_found 0 x.nodes serial h in let same : k.0 ≡ serial = let e = k.1 in omega (arith, e) in ap (λ i. is_live (node_at x i).state) (sym same) ∙ k.2

  pub begun_live : (command : Command) (serial : ℕ) → Has (begin_serials command x) serial → is_live (node_at x serial).state ≡ true
  begun_live (cmd.Destroy numbers) serial h = listed_live numbers serial h
  begun_live command serial h = reset_live serial h

-- ---- what is destroyed stays so

pub live_apart : (state : NodeState) → is_live state ≡ true → is_destroyed state ≡ true → ⊥
live_apart Live live destroyed = absurd (cc destroyed)
live_apart Dying live destroyed = absurd (cc live)
live_apart (Destroyed stamp) live destroyed = absurd (cc live)

abbrev pub DestroyedStays : PeerPart → PeerPart → Type 0
DestroyedStays x y = (serial : ℕ) → serial < length x.nodes → is_destroyed (node_at x serial).state ≡ true → is_destroyed (node_at y serial).state ≡ true

destroy_stays : (r : Option Reason) (doomed : List ℕ) (x : PeerPart) → ((serial : ℕ) → Has doomed serial → is_live (node_at x serial).state ≡ true) → DestroyedStays x (destroy_by r doomed x).1
destroy_stays (Some r) doomed x live serial low is = is
destroy_stays None doomed x live serial low is = elim (in_or_not serial doomed) [
  | inl h ↦ absurd (live_apart (node_at x serial).state (live serial h) is)
  | inr none ↦ ap (λ n. is_destroyed n.state) (undoomed_state Dying doomed x.nodes serial none) ∙ is
]

doom_stays : (late : List ℕ) (x : PeerPart) (collected : ℕ) (doomed : List ℕ) → DestroyedStays x (doom_by late x collected doomed)
doom_stays [] x collected doomed serial low is = elim (in_or_not serial doomed) [
  | inl h ↦ ap is_destroyed (doomed_state (Destroyed (final_stamp x collected)) doomed x.nodes serial h low)
  | inr none ↦ ap (λ n. is_destroyed n.state) (undoomed_state (Destroyed (final_stamp x collected)) doomed x.nodes serial none) ∙ is
]
doom_stays (peer ∷ rest) x collected doomed serial low is = is

module _ (o : Opening) (memory : Bool) (d : DriverPart) (doing : Doing) (x : PeerPart) where
  by_kept : (action : Action) → dooms action ≡ false → DestroyedStays x (happens o memory d doing action x).1
  by_kept action calm serial low is = ap is_destroyed ((nodes_kept o memory d doing action x calm).state serial low) ∙ is

  pub destroyed_stays : (action : Action) → DestroyedStays x (happens o memory d doing action x).1
  destroyed_stays act.BeginDestroy = destroy_stays (begin_refusal doing.command x) (begin_serials doing.command x) x (begun_live x doing.command)
  destroyed_stays act.StampDestroy = doom_stays x.late x (collected_of doing.phase) (doomed_of doing.phase)
  destroyed_stays action = by_kept action refl
