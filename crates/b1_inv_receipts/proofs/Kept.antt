-- Nodes have own numbers, and the destroy notices that drivers received name nodes: in an opening, and after each step.
use Rattle.std.proofs.Common.{◌≡◌, refl, sym, ◌∙◌, inl, inr, subst, ℕ, ◌%◌, ◌<◌, ◌≤◌, Bool, true, false, cond, List, [], ◌∷◌, length, Option, Some, None}
use Rattle.std.proofs.lemmas.Bool.{eqb-true}
use native.Mathlib.Omega.{arith}
use Rattle.b1_model.specs.declared.naming.Key.{Key}
use Rattle.b1_model.specs.declared.naming.NodeRef.{NodeRef}
use Rattle.b1_model.specs.declared.naming.Opening.{Opening}
use Rattle.b1_model.specs.declared.parts.Slot.{Slot}
use Rattle.b1_model.specs.declared.commands.Command.{Command}
use Rattle.b1_model.specs.declared.commands.Command.TheVariants as cmd
use Rattle.b1_model.specs.declared.answers.Answer.{Answer}
use Rattle.b1_model.specs.declared.records.Call.{Call}
use Rattle.b1_model.specs.declared.entries.Entry.{Entry}
use Rattle.b1_model.specs.declared.entries.Entry.TheVariants.{Message, OwnNotice, ForeignNotice, ReleaseNotice}
use Rattle.b1_model.specs.declared.events.Action.{Action}
use Rattle.b1_model.specs.declared.events.Action.TheVariants as act
use Rattle.b1_model.specs.declared.events.Doing.{Doing}
use Rattle.b1_model.specs.declared.events.Outcome.{Outcome}
use Rattle.b1_model.specs.declared.events.Phase.{Phase}
use Rattle.b1_model.specs.Names.{is_own}
use Rattle.b1_model.specs.MachineParts.{PeerPart, DriverPart, NodePart, State}
use Rattle.b1_model.specs.MachineTables.{is_stage, with_made}
use Rattle.b1_model.specs.MachineSend.{with_slots}
use Rattle.b1_model.specs.MachineDriver.{Turn, Goes, Ends, turn}
use Rattle.b1_model.specs.MachineTook.{is_waiting, as_call, call_of, is_done, answer_of, ended, goes_by, turned, with_facts}
use Rattle.b1_model.specs.MachineEvents.{happens, begin_serials, slots_at}
use Rattle.b1_model.specs.MachineStep.{Step, opening_state, wire_made, wire_counted, wire_held}
use Rattle.b1_step.specs.Rights.{Has}
use Rattle.b1_step.proofs.Lists.{has_at, has_append}
use Rattle.b1_step.proofs.Orders.{find_has}
use Rattle.b1_inv.specs.Words.{IsPeer}
use Rattle.b1_inv.specs.Receipts.{NamesNode, ReapsNode, IsOfMade, NodesNumbered, NoticesNamed, ReceiptsRight}
use Rattle.b1_inv.specs.Sound.{IsSound}
use Rattle.b1_inv_tools.proofs.Comes.{Comes, queue_comes}
use Rattle.b1_inv_tools.proofs.Grows.{nodes_grow}
use Rattle.b1_inv_tools.proofs.Leaves.{Did, step_did, driver_cases, peer_cases}
use Rattle.b1_inv_tools.proofs.Openings.{opening_each, opening_idle}
use Rattle.b1_inv_notices.proofs.Serials.{reset_made, destroy_made}
use Rattle.b1_inv_refs.proofs.Widths.{EachNode, NodesClosed, each_made, each_counted, each_after}
use Rattle.b1_inv_receipts.proofs.Received.{received_names}
use Rattle.b1_inv_receipts.proofs.Turns.{TurnNames, OutcomeNames, fixed_names, event_names, turn_names}

-- ---- nodes

abbrev HasOwnNumber : NodePart → Type 0
HasOwnNumber n = n.number % 4 ≡ 0

own_number : (number : ℕ) → is_own number ≡ true → number % 4 ≡ 0
own_number number is = eqb-true (number % 4) 0 is

own_closed : (width : ℕ) → NodesClosed width HasOwnNumber
own_closed width = record { new = λ number own. own_number number own; more = λ peer n h. h; less = λ peer k n h. h; lives = λ state n h. h; noticed = λ n h. h }

-- ---- notices in a queue

-- a notice of a made node stays one
still_made : (x y : PeerPart) (e : Entry) → length x.nodes ≤ length y.nodes → IsOfMade x e → IsOfMade y e
still_made x y (OwnNotice serial index) more made = omega (arith, made, more)
still_made x y (Message origin user index serial offset len nodes slots handles payload) more made = tt
still_made x y (ForeignNotice node index) more made = tt
still_made x y (ReleaseNotice serial) more made = tt

slots_made : (x : PeerPart) (slots : List Slot) (e : Entry) → IsOfMade x e → IsOfMade x (with_slots slots e)
slots_made x slots (OwnNotice serial index) made = made
slots_made x slots (Message origin user index serial offset len nodes old handles payload) made = tt
slots_made x slots (ForeignNotice node index) made = tt
slots_made x slots (ReleaseNotice serial) made = tt

begin_made : (command : Command) (x : PeerPart) (serial : ℕ) → Has (begin_serials command x) serial → serial < length x.nodes
begin_made (cmd.Destroy numbers) x serial h = destroy_made x numbers serial h
begin_made cmd.Disconnect x serial h = reset_made x serial h
begin_made cmd.Query x serial h = reset_made x serial h
begin_made (cmd.Reset limits) x serial h = reset_made x serial h
begin_made (cmd.Limit limits) x serial h = reset_made x serial h
begin_made (cmd.Release number) x serial h = reset_made x serial h
begin_made (cmd.SliceRelease offset) x serial h = reset_made x serial h
begin_made (cmd.Send c) x serial h = reset_made x serial h
begin_made cmd.Recv x serial h = reset_made x serial h
begin_made cmd.Await x serial h = reset_made x serial h

-- an entry that an event brings
module _ (o : Opening) (d : DriverPart) (doing : Doing) (x : PeerPart) (f : Key × Entry) (right : NodesNumbered x) where
  comes_made : (action : Action) → Comes o d doing x action f → IsOfMade x f.1
  comes_made (act.Stage peer place) same = subst (λ g. IsOfMade x g.1) (sym same) tt
  comes_made (act.Commit peer place stamp) (g, found, same) =
      subst (λ e. IsOfMade x e.1) (sym same) (slots_made x (slots_at doing.phase place) g.1 (right.noticed g (find_has (is_stage d.me place) x.queue g found).0))
  comes_made (act.CommitNotices peer stamp) (g, has, staged, same) = subst (λ e. IsOfMade x e.1) (sym same) (right.noticed g has)
  comes_made (act.DropRefs peer serial holder k clock) (same, released) = subst (λ g. IsOfMade x g.1) (sym same) tt
  comes_made act.BeginDestroy (index, serial, is, same, accepted) =
      subst (λ g. IsOfMade x g.1) (sym same) (begin_made doing.command x serial (has_at (begin_serials doing.command x) index serial is))
  comes_made (act.Visit peer) (index, serial, is, same) = subst (λ g. IsOfMade x g.1) (sym same) tt
  comes_made action comes = absurd comes

-- a peer's part after an event
nodes_after : (o : Opening) (memory : Bool) (d : DriverPart) (doing : Doing) (action : Action) (x : PeerPart) → NodesNumbered x → NodesNumbered (happens o memory d doing action x).1
nodes_after o memory d doing action x right = record {
  own = each_after x.peers HasOwnNumber (own_closed x.peers) o memory d doing action x refl right.own;
  noticed = λ f h.
      still_made x (happens o memory d doing action x).1 f.1 (nodes_grow o memory d doing action x)
      (elim (queue_comes o d doing f memory action x h) [ inl was ↦ right.noticed f was.0 | inr comes ↦ comes_made o d doing x f right action comes ]);
}

-- ---- calls

ended_named : (d : DriverPart) (command : Command) (got : Answer) → ((call : Call) → Has d.calls call → NamesNode call.answer) → NamesNode got → NoticesNamed (ended d command got)
ended_named d command got all names = record {
  calls = λ call h. elim (has_append d.calls (call_of command got) call h) [ inl old ↦ all call old | inr new ↦ at (is_waiting command got) call new ];
  reaping = λ doing is. absurd (cc is);
}
  where
    at : (b : Bool) (call : Call) → Has (cond b [] (record { command = as_call command; answer = got } ∷ [])) call → NamesNode call.answer
    at true call h = absurd h
    at false call (inl same) = subst (λ c. NamesNode c.answer) (sym same) names
    at false call (inr h) = absurd h

open_named : (d : DriverPart) (command : Command) (phase : Phase) → ((call : Call) → Has d.calls call → NamesNode call.answer) → ReapsNode phase → NoticesNamed (record d { doing = Some (record { command = command; phase = phase }) })
open_named d command phase all right = record {
  calls = all;
  reaping = λ doing is. let same : record { command = command; phase = phase } ≡ doing = cc is in subst (λ one. ReapsNode one.phase) same right;
}

turned_named : (d : DriverPart) (command : Command) (to : Turn) → ((call : Call) → Has d.calls call → NamesNode call.answer) → TurnNames to → NoticesNamed (turned d command to)
turned_named d command (Ends got) all names = ended_named d command got all names
turned_named d command (Goes phase) all right = at (is_done d.owed d.told phase) (answer_of command phase) refl
  where
    at : (b : Bool) (got : Option Answer) → answer_of command phase ≡ got → NoticesNamed (goes_by b got d command phase)
    at false got is = open_named d command phase all right
    at true None is = open_named d command phase all right
    at true (Some got) is = ended_named d command got all (fixed_names command phase got right is)

-- ---- a step

module _ {o : Opening} {s : State} {p : ℕ} {command : Option Command} {t : State} (sound : IsSound o s) (step : Step o s p command t) where
  k : Did o step.local.memory step.driver command step.peer step.action step.at step.new_driver step.new_peer
  k = step_did step

  before : NoticesNamed step.driver
  before = sound.receipts.named p step.driver step.is_driver

  abbrev outcome : Outcome
  outcome = (happens o step.local.memory k.e k.doing step.action step.peer).0

  reaps : ReapsNode k.doing.phase
  reaps = elim k.opened.from [ inl is ↦ before.reaping k.doing is | inr begins ↦ subst ReapsNode (sym begins.2) tt ]

  names : OutcomeNames outcome
  names =
      event_names o step.local.memory k.e k.doing step.peer step.action
      (received_names step.peer (sound.rising step.at step.peer step.is_peer) (sound.numbers.numbered step.at step.peer step.is_peer) (sound.receipts.nodes step.at step.peer step.is_peer))

  new_named : NoticesNamed step.new_driver
  new_named =
      subst NoticesNamed (sym k.driver)
      (turned_named (with_facts k.e k.doing outcome) k.doing.command (turn k.e.me k.doing.command k.doing.phase outcome)
      (subst (λ calls. (call : Call) → Has calls call → NamesNode call.answer) (sym k.opened.calls) before.calls)
      (turn_names k.e.me k.doing.command k.doing.phase outcome reaps names))

  pub receipts_kept : ReceiptsRight t
  receipts_kept = record {
    nodes = λ q x is. elim (peer_cases step q x is) [
      | inl here ↦ subst NodesNumbered (sym (here.1 ∙ k.peer)) (nodes_after o step.local.memory k.e k.doing step.action step.peer (sound.receipts.nodes step.at step.peer step.is_peer))
      | inr other ↦ sound.receipts.nodes q x other.1
    ];
    named = λ r d is. elim (driver_cases step r d is) [ inl here ↦ subst NoticesNamed (sym here.1) new_named | inr other ↦ sound.receipts.named r d other.1 ];
  }

-- ---- an opening

-- nothing is queued, and nodes have own numbers
record IsFirst (x : PeerPart) : Type 0 where
  queue : x.queue ≡ []
  own : EachNode HasOwnNumber x.nodes

made_first : (number : ℕ) (x : PeerPart) → IsFirst x → IsFirst (wire_made number x)
made_first number x first = at (is_own number) refl
  where
    at : (b : Bool) → is_own number ≡ b → IsFirst (cond b (record x { nodes = with_made x.peers number x.nodes }) x)
    at true is = record { queue = first.queue; own = each_made x.peers HasOwnNumber number x.nodes (own_number number is) first.own }
    at false is = first

counted_first : (node : NodeRef) (dest : ℕ) (x : PeerPart) → IsFirst x → IsFirst (wire_counted node dest x)
counted_first node dest x first = record { queue = first.queue; own = each_counted HasOwnNumber dest (λ n h. h) node.serial x.nodes first.own }

held_first : (node : NodeRef) (x : PeerPart) → IsFirst x → IsFirst (wire_held node x)
held_first node x first = record { queue = first.queue; own = first.own }

opening_first : (o : Opening) (q : ℕ) (x : PeerPart) → IsPeer (opening_state o) q x → IsFirst x
opening_first o = opening_each IsFirst made_first counted_first held_first o (λ me spec. record { queue = refl; own = λ n h. absurd h })

pub receipts_begin : (o : Opening) → ReceiptsRight (opening_state o)
receipts_begin o = record {
  nodes = λ q x is. let first = opening_first o q x is in record { own = first.own; noticed = λ f h. absurd (subst (λ queue. Has queue f) first.queue h) };
  named = λ p d is. subst NoticesNamed (sym (opening_idle o p d is)) (record { calls = λ call h. absurd h; reaping = λ doing is_open. absurd (cc is_open) });
}
