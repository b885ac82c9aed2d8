-- A peer's nodes only grow in number, so what was made stays made.
use Rattle.std.proofs.Common.{◌≡◌, refl, sym, ap, ◌∙◌, inl, inr, ℕ, ◌≤◌, Bool, true, false, List, [], ◌∷◌, ◌++◌, fold, filter, length, Option, Some, None}
use Rattle.std.specs.Prelude.{slice_get}
use Rattle.std.proofs.lemmas.Bool.{cases_eq}
use Rattle.std.proofs.lemmas.List.{length-set, length-append}
use native.Mathlib.Omega.{arith}
use Rattle.b1_model.specs.declared.naming.NodeRef.{NodeRef}
use Rattle.b1_model.specs.declared.naming.Opening.{Opening}
use Rattle.b1_model.specs.declared.commands.Command.{Command}
use Rattle.b1_model.specs.declared.commands.SendCmd.{SendCmd}
use Rattle.b1_model.specs.declared.parts.Attach.{Attach}
use Rattle.b1_model.specs.declared.parts.Attach.TheVariants as attach
use Rattle.b1_model.specs.declared.answers.Reason.{Reason}
use Rattle.b1_model.specs.declared.events.Action.{Action}
use Rattle.b1_model.specs.declared.events.Action.TheVariants as act
use Rattle.b1_model.specs.declared.events.Doing.{Doing}
use Rattle.b1_model.specs.Names.{is_own}
use Rattle.b1_model.specs.MachineParts.{PeerPart, DriverPart, NodePart, State}
use Rattle.b1_model.specs.MachineTables.{serial_of, with_made, with_node, with_nodes, in_state}
use Rattle.b1_model.specs.MachineSend.{attach_answer, attached_by, send_refusal, final_stamp}
use Rattle.b1_model.specs.declared.parts.NodeState.TheVariants.{Dying, Destroyed}
use Rattle.b1_model.specs.MachineReceive.{with_release_notice, is_released, dropped_refs}
use Rattle.b1_model.specs.MachineDestroy.{doom_by}
use Rattle.b1_model.specs.MachineDriver.{send_of}
use Rattle.b1_model.specs.MachineEvents.{happens, begin_by, destroy_by, begin_refusal, begin_serials, collected_of, doomed_of}
use Rattle.b1_model.specs.MachineStep.{Step}
use Rattle.b1_step.proofs.Changed.{changes}
use Rattle.b1_inv.specs.Words.{IsMade}
use Rattle.b1_inv_tools.proofs.Received.{recv_rests}
use Rattle.b1_inv_tools.proofs.Leaves.{step_did, new_peer, same_peer}

abbrev Nodes : Type 0
Nodes = List NodePart

one_more : (peers number : ℕ) (nodes : Nodes) (found : Option ℕ) (n : NodePart) → length nodes ≤ length {A = NodePart} (elim found [ None ↦ nodes ++ n ∷ [] | Some serial ↦ nodes ])
one_more peers number nodes None n = let more = length-append nodes (n ∷ []) in omega (arith, more)
one_more peers number nodes (Some serial) n = omega arith

pub made_grows : (peers number : ℕ) (nodes : Nodes) → length nodes ≤ length (with_made peers number nodes)
made_grows peers number nodes = one_more peers number nodes (serial_of number nodes) _

pub all_made_grow : (peers : ℕ) (numbers : List ℕ) (nodes : Nodes) → length nodes ≤ length (fold (λ ns number. with_made peers number ns) nodes numbers)
all_made_grow peers [] nodes = omega arith
all_made_grow peers (number ∷ rest) nodes = let one = made_grows peers number nodes in let more = all_made_grow peers rest (with_made peers number nodes) in omega (arith, one, more)

pub with_nodes_length : (serials : List ℕ) (f : NodePart → NodePart) (nodes : Nodes) → length (with_nodes serials f nodes) ≡ length nodes
with_nodes_length [] f nodes = refl
with_nodes_length (serial ∷ rest) f nodes = with_nodes_length rest f (with_node serial f nodes) ∙ length-set nodes serial _

-- ---- each event

same_length : (m n : ℕ) → m ≡ n → n ≤ m
same_length m n same = omega (arith, same)

at_begin : (r : Option Reason) (memory : Bool) (c : SendCmd) (x : PeerPart) → length x.nodes ≤ length (begin_by r memory c x).1.nodes
at_begin (Some r) memory c x = omega arith
at_begin None true c x = omega arith
at_begin None false c x = all_made_grow x.peers (filter is_own c.with) x.nodes

at_attach : (a : Attach) (x : PeerPart) (serial dest : ℕ) → length x.nodes ≤ length (attached_by a x serial dest).nodes
at_attach attach.Counted x serial dest = same_length _ _ (length-set x.nodes serial _)
at_attach attach.Own x serial dest = omega arith
at_attach (attach.Void stamp) x serial dest = omega arith

at_drop : (b : Bool) (x : PeerPart) (serial holder k clock : ℕ) → length x.nodes ≤ length (with_release_notice b (dropped_refs x serial holder k clock) serial).nodes
at_drop false x serial holder k clock = same_length _ _ (length-set x.nodes serial _)
at_drop true x serial holder k clock = same_length _ _ (length-set x.nodes serial _)

at_destroy : (r : Option Reason) (doomed : List ℕ) (x : PeerPart) → length x.nodes ≤ length (destroy_by r doomed x).1.nodes
at_destroy (Some r) doomed x = omega arith
at_destroy None doomed x = same_length _ _ (with_nodes_length doomed (in_state Dying) x.nodes)

at_doom : (late : List ℕ) (x : PeerPart) (collected : ℕ) (doomed : List ℕ) → length x.nodes ≤ length (doom_by late x collected doomed).nodes
at_doom [] x collected doomed = same_length _ _ (with_nodes_length doomed (in_state (Destroyed (final_stamp x collected))) x.nodes)
at_doom (peer ∷ rest) x collected doomed = omega arith

pub nodes_grow : (o : Opening) (memory : Bool) (d : DriverPart) (doing : Doing) (action : Action) (x : PeerPart) → length x.nodes ≤ length (happens o memory d doing action x).1.nodes
nodes_grow o memory d doing act.Begin x = at_begin (send_refusal x (send_of doing.command)) memory _ x
nodes_grow o memory d doing (act.Attach peer serial dest) x = at_attach (attach_answer x serial dest) x serial dest
nodes_grow o memory d doing act.Recv x = same_length _ _ (recv_rests x).2
nodes_grow o memory d doing (act.DropRefs peer serial holder k clock) x = at_drop (is_released (dropped_refs x serial holder k clock) serial) x serial holder k clock
nodes_grow o memory d doing act.BeginDestroy x = at_destroy (begin_refusal doing.command x) (begin_serials doing.command x) x
nodes_grow o memory d doing act.StampDestroy x = at_doom x.late x (collected_of doing.phase) (doomed_of doing.phase)
nodes_grow o memory d doing act.Rest x = omega arith
nodes_grow o memory d doing (act.Stage peer place) x = same_length _ _ (ap (λ y. length y.nodes) (changes o memory d doing (act.Stage peer place) x))
nodes_grow o memory d doing (act.Unstage peer place) x = same_length _ _ (ap (λ y. length y.nodes) (changes o memory d doing (act.Unstage peer place) x))
nodes_grow o memory d doing act.Stamp x = omega arith
nodes_grow o memory d doing (act.Sync peer stamp) x = omega arith
nodes_grow o memory d doing (act.Commit peer place stamp) x = same_length _ _ (ap (λ y. length y.nodes) (changes o memory d doing (act.Commit peer place stamp) x))
nodes_grow o memory d doing (act.CommitNotices peer stamp) x = omega arith
nodes_grow o memory d doing act.Reap x = omega arith
nodes_grow o memory d doing act.Release x = same_length _ _ (ap (λ y. length y.nodes) (changes o memory d doing act.Release x))
nodes_grow o memory d doing (act.Visit peer) x = same_length _ _ (ap (λ y. length y.nodes) (changes o memory d doing (act.Visit peer) x))
nodes_grow o memory d doing act.Flush x = omega arith
nodes_grow o memory d doing act.Local x = same_length _ _ (ap (λ y. length y.nodes) (changes o memory d doing act.Local x))

-- ---- a step

module _ {o : Opening} {s : State} {p : ℕ} {command : Option Command} {t : State} (step : Step o s p command t) where
  pub step_grows : length step.peer.nodes ≤ length step.new_peer.nodes
  step_grows =
      let k = step_did step in
      let more = nodes_grow o step.local.memory k.e k.doing step.action step.peer in
      let same = ap (λ y. length y.nodes) k.peer in
      omega (arith, more, same)

  -- a node that was made stays made
  pub made_stays : (node : NodeRef) → IsMade s node → IsMade t node
  made_stays node (x, is, within) = elim (cases_eq node.owner step.at) [ inl here ↦ at_owner here | inr apart ↦ (x, same_peer step node.owner x apart is, within) ]
    where
      at_owner : node.owner ≡ step.at → IsMade t node
      at_owner here =
          let same : Some x ≡ Some step.peer = sym is ∙ ap (slice_get s.peers) here ∙ step.is_peer in
          let nodes : x ≡ step.peer = cc same in
          let count = ap (λ y. length y.nodes) nodes in
          (step.new_peer, ap (slice_get t.peers) here ∙ new_peer step, omega (arith, within, count, step_grows))
