-- The numbers of a peer's nodes are the names made in the record, and the new ones of an open SEND.
use Rattle.std.proofs.Common.{◌≡◌, ◌≢◌, refl, sym, ap, subst, ◌∙◌, inl, inr, ℕ, ◌%◌, ◌==◌, Bool, true, false, cond, ◌&&◌, List, [], ◌∷◌, ◌++◌, map, filter, fold, zip, Option, Some, None, Ok}
use Rattle.std.specs.Prelude.{is_some}
use Rattle.std.proofs.lemmas.Bool.{eqb-true}
use Rattle.std.proofs.lemmas.Option.{slice_get_within}
use native.Mathlib.Omega.{arith}
use Rattle.b1_model.specs.declared.commands.Command.{Command}
use Rattle.b1_model.specs.declared.commands.Command.TheVariants as cmd
use Rattle.b1_model.specs.declared.commands.SendCmd.{SendCmd}
use Rattle.b1_model.specs.declared.naming.Key.{Key}
use Rattle.b1_model.specs.declared.naming.NodeRef.{NodeRef}
use Rattle.b1_model.specs.declared.naming.Opening.{Opening}
use Rattle.b1_model.specs.declared.answers.Answer.{Answer}
use Rattle.b1_model.specs.declared.answers.Answer.TheVariants as answer
use Rattle.b1_model.specs.declared.answers.Reason.{Reason}
use Rattle.b1_model.specs.declared.answers.Refused.{Refused}
use Rattle.b1_model.specs.declared.answers.Sent.{Sent}
use Rattle.b1_model.specs.declared.entries.Entry.{Entry}
use Rattle.b1_model.specs.declared.entries.Entry.TheVariants.{Message, OwnNotice, ForeignNotice, ReleaseNotice}
use Rattle.b1_model.specs.declared.parts.Attach.{Attach}
use Rattle.b1_model.specs.declared.parts.Attach.TheVariants as attach
use Rattle.b1_model.specs.declared.parts.NodeState.TheVariants.{Dying, Destroyed}
use Rattle.b1_model.specs.declared.parts.Slot.{Slot}
use Rattle.b1_model.specs.declared.parts.Slot.TheVariants as slot
use Rattle.b1_model.specs.declared.events.Action.{Action}
use Rattle.b1_model.specs.declared.events.Action.TheVariants as act
use Rattle.b1_model.specs.declared.events.Doing.{Doing}
use Rattle.b1_model.specs.declared.events.Outcome.{Outcome}
use Rattle.b1_model.specs.declared.events.Outcome.TheVariants as out
use Rattle.b1_model.specs.declared.events.Phase.{Phase}
use Rattle.b1_model.specs.declared.events.Phase.TheVariants.{Starting, Staging, Unstaging, Attaching, Stamping, Syncing, Committing, Dropping, Reaping, Visiting, Dooming, SyncingNotices, CommittingOwn, CommittingNotices, Flushing}
use Rattle.b1_model.specs.declared.records.Call.{Call}
use Rattle.b1_model.specs.Names.{calls_of, wired, carried_by, add_new}
use Rattle.b1_model.specs.MachineParts.{PeerPart, NodePart, DriverPart, State, is_staged, record_or_none}
use Rattle.b1_model.specs.MachineTables.{counted, uncounted, notice_taken, in_state}
use Rattle.b1_model.specs.MachineSend.{send_refusal, attached_by, attach_answer, final_stamp}
use Rattle.b1_model.specs.MachineReceive.{Arriving, discards, discarded, reference_by, slot_arrives, taken_entry, front_by, front_taken, cleared, received_part, with_release_notice, is_released, dropped_refs}
use Rattle.b1_model.specs.MachineDestroy.{doom_by}
use Rattle.b1_model.specs.MachineDriver.{is_flushing, peer_of, send_of}
use Rattle.b1_model.specs.MachineTook.{call_of, is_await, as_call, is_waiting, open_by, driver_calls, stamped_answer}
use Rattle.b1_model.specs.MachineEvents.{happens, begin_by, stage_by, destroy_by, begin_refusal, begin_serials, collected_of, doomed_of}
use Rattle.b1_model.specs.MachineStep.{Step, record_of_state}
use Rattle.b1_step.specs.Rights.{Has}
use Rattle.b1_step.proofs.Changed.{changes}
use Rattle.b1_step.proofs.Locality.{as_many_peers, as_many_drivers}
use Rattle.b1_inv.specs.Words.{IsPeer, IsDriver}
use Rattle.b1_inv.specs.Sound.{IsSound}
use Rattle.b1_ledger.specs.Growth.{all_names}
use Rattle.b1_inv_record.specs.Names.{MadeNumbers, carried_open, open_numbers}
use Rattle.b1_inv_tools.proofs.Leaves.{driver_cases, peer_cases}
use Rattle.b1_inv_notices.proofs.Turns.{doing_in, get_there, parts, going, going_doing, going_action, going_answer}
use Rattle.b1_inv_names.proofs.Effects.{Kind, Quiet, Carries, Flushes, answer_kind, phase_kind, kind_after, Fits}
use Rattle.b1_inv_names.proofs.Measures.{of_doing, of_driver, value_after}
use Rattle.b1_inv_names.proofs.Recorded.{recorded_calls}
use Rattle.b1_inv_names.proofs.Numbers.{all_joined, name_numbers, node_numbers, new_names, numbers_in, made_numbers, numbers_append, Fine, fine_all, fine_calls, all_made_join, node_same, nodes_same}

-- ---- the numbers as a value of calls

abbrev pub numbers_by : List ℕ → Command → Kind → List ℕ
numbers_by known command Quiet = known
numbers_by known command Carries = all_joined known (send_of command).with
numbers_by known command Flushes = known

carried_sent : (command : Command) (b : Sent) → carried_by (as_call command) (answer.Sent b) ≡ (send_of command).with
carried_sent (cmd.Send c) b = refl
carried_sent command b = refl

carried_refused : (known : List ℕ) (command : Command) (r : Refused) → all_joined known (carried_by (as_call command) (answer.Refused r)) ≡ numbers_by known command (cond (is_some r.place) Carries Quiet)
carried_refused known (cmd.Send c) r = by (is_some r.place)
  where
    by : (b : Bool) → all_joined known (cond b c.with []) ≡ numbers_by known (cmd.Send c) (cond b Carries Quiet)
    by true = refl
    by false = refl
carried_refused known command r = by (is_some r.place)
  where
    by : (b : Bool) → known ≡ numbers_by known command (cond b Carries Quiet)
    by true = refl
    by false = refl

-- of an AWAIT nothing is carried, whether its attempt is a call or not
await_refused : (known : List ℕ) (r : Refused) → numbers_in known (call_of cmd.Await (answer.Refused r)) ≡ numbers_by known cmd.Await (cond (is_some r.place) Carries Quiet)
await_refused known r = by (is_waiting cmd.Await (answer.Refused r)) (is_some r.place)
  where
    by : (b c : Bool) → numbers_in known (cond b [] (record { command = as_call cmd.Await; answer = answer.Refused r } ∷ [])) ≡ numbers_by known cmd.Await (cond c Carries Quiet)
    by true true = refl
    by true false = refl
    by false true = refl
    by false false = refl

refused_numbers : (known : List ℕ) (command : Command) (r : Refused) → numbers_in known (call_of command (answer.Refused r)) ≡ numbers_by known command (cond (is_some r.place) Carries Quiet)
refused_numbers known cmd.Await r = await_refused known r
refused_numbers known command r = carried_refused known command r

-- a call with any other answer stands
other_numbers : (known : List ℕ) (command : Command) (got : Answer) (b : Bool) (end : List ℕ) → all_joined known (carried_by (as_call command) got) ≡ end → numbers_in known (cond (b && false) [] (record { command = as_call command; answer = got } ∷ [])) ≡ end
other_numbers known command got true end is = is
other_numbers known command got false end is = is

one_numbers : (known : List ℕ) (command : Command) (got : Answer) → numbers_in known (call_of command got) ≡ numbers_by known command (answer_kind got)
one_numbers known command (answer.Refused r) = refused_numbers known command r
one_numbers known command (answer.Sent b) = other_numbers known command (answer.Sent b) (is_await command) _ (ap (all_joined known) (carried_sent command b))
one_numbers known command got = other_numbers known command got (is_await command) known (none command)
  where
    none : (c : Command) → all_joined known (carried_by (as_call c) got) ≡ known
    none (cmd.Send c) = refl
    none c = refl

-- ---- the record against it

module _ (known : List ℕ) where
  abbrev pub calls_numbers : List Call → List ℕ
  calls_numbers calls = numbers_in known calls

  pub more_numbers : (calls : List Call) (command : Command) (got : Answer) → calls_numbers (calls ++ call_of command got) ≡ numbers_by (calls_numbers calls) command (answer_kind got)
  more_numbers calls command got = numbers_append known calls (call_of command got) ∙ one_numbers (numbers_in known calls) command got

  -- the numbers that a driver's part has made
  abbrev pub done_numbers : DriverPart → List ℕ
  done_numbers d = of_driver (List ℕ) calls_numbers numbers_by (λ a command. refl) more_numbers d

stamped_numbers : (known : List ℕ) (command : Command) (stamp : ℕ) → numbers_in known (call_of command (stamped_answer command stamp)) ≡ known
stamped_numbers known command stamp = one_numbers known command (stamped_answer command stamp) ∙ by (is_flushing command)
  where
    by : (b : Bool) → numbers_by known command (answer_kind (cond b (answer.Reset (Some stamp)) (answer.Destroyed stamp))) ≡ known
    by true = refl
    by false = refl

-- the record's numbers and the open ones together are those of what is done
abbrev Together : List ℕ → Command → Phase → Type 0
Together known command phase = numbers_by known command (phase_kind phase) ≡ all_joined (numbers_in known (open_by (Some (doing_in command phase)))) (carried_open command phase)

of_send : (known : List ℕ) (c : SendCmd) (phase : Phase) → Together known (cmd.Send c) phase
of_send known c Starting = refl
of_send known c (Staging begun places collected) = refl
of_send known c (Unstaging begun places refused place) = sym (one_numbers known (cmd.Send c) (answer.Refused refused))
of_send known c (Attaching sending place slot) = refl
of_send known c (Stamping sending) = refl
of_send known c (Syncing sending stamp place) = refl
of_send known c (Committing sending stamp place) = refl
of_send known c Dropping = refl
of_send known c (Reaping got) = sym (one_numbers known (cmd.Send c) got)
of_send known c (Visiting destruction left) = refl
of_send known c (Dooming destruction) = refl
of_send known c (SyncingNotices destruction stamp at) = sym (stamped_numbers known (cmd.Send c) stamp)
of_send known c (CommittingOwn destruction stamp) = sym (stamped_numbers known (cmd.Send c) stamp)
of_send known c (CommittingNotices destruction stamp at) = sym (stamped_numbers known (cmd.Send c) stamp)
of_send known c (Flushing stamp) = refl

-- of another command nothing is carried
none_open : (known : List ℕ) (command : Command) → (send_of command).with ≡ [] → ((phase : Phase) → carried_open command phase ≡ []) → (phase : Phase) → Together known command phase
none_open known command with none phase = by phase ∙ ap (all_joined (numbers_in known (open_by (Some (doing_in command phase))))) (sym (none phase))
  where
    carries : numbers_by known command Carries ≡ known
    carries = ap (all_joined known) with

    by : (phase : Phase) → numbers_by known command (phase_kind phase) ≡ numbers_in known (open_by (Some (doing_in command phase)))
    by Starting = refl
    by (Staging begun places collected) = carries
    by (Unstaging begun places refused place) = sym (one_numbers known command (answer.Refused refused))
    by (Attaching sending place slot) = carries
    by (Stamping sending) = carries
    by (Syncing sending stamp place) = sym (one_numbers known command (answer.Sent (record { stamp = stamp; places = sending.places })))
    by (Committing sending stamp place) = sym (one_numbers known command (answer.Sent (record { stamp = stamp; places = sending.places })))
    by Dropping = sym (one_numbers known command answer.Done)
    by (Reaping got) = sym (one_numbers known command got)
    by (Visiting destruction left) = refl
    by (Dooming destruction) = refl
    by (SyncingNotices destruction stamp at) = sym (stamped_numbers known command stamp)
    by (CommittingOwn destruction stamp) = sym (stamped_numbers known command stamp)
    by (CommittingNotices destruction stamp at) = sym (stamped_numbers known command stamp)
    by (Flushing stamp) = sym (one_numbers known command (answer.Reset stamp))

together : (known : List ℕ) (command : Command) (phase : Phase) → Together known command phase
together known (cmd.Send c) phase = of_send known c phase
together known command phase = none_open known command refl (λ ph. refl) phase

doing_numbers : (known : List ℕ) (calls : List Call) (doing : Option Doing) → of_doing (List ℕ) (calls_numbers known) numbers_by (λ a command. refl) (more_numbers known) calls doing ≡ all_joined (numbers_in (calls_numbers known calls) (open_by doing)) (elim doing [ None ↦ [] | Some one ↦ carried_open one.command one.phase ])
doing_numbers known calls None = refl
doing_numbers known calls (Some doing) = together (calls_numbers known calls) doing.command doing.phase

-- in the record a driver's numbers, and then its open ones, are those that it has made
driver_numbers : (known : List ℕ) (d : DriverPart) → done_numbers known d ≡ all_joined (numbers_in known (driver_calls d)) (open_numbers d)
driver_numbers known d = doing_numbers known d.calls d.doing ∙ ap (λ l. all_joined l (open_numbers d)) (sym (numbers_append known d.calls (open_by d.doing)))

-- ---- what events leave of the numbers of nodes

abbrev pub numbers_of : PeerPart → List ℕ
numbers_of x = node_numbers x.nodes

discard_numbers : (e : Entry) (x : PeerPart) → (discarded x e).nodes ≡ x.nodes
discard_numbers (Message origin user index serial offset len nodes slots handles payload) x = refl
discard_numbers (OwnNotice serial index) x = refl
discard_numbers (ForeignNotice node index) x = refl
discard_numbers (ReleaseNotice serial) x = refl

discards_numbers : (es : List (Key × Entry)) (x : PeerPart) → (fold (λ z f. discarded z f.1) x es).nodes ≡ x.nodes
discards_numbers [] x = refl
discards_numbers (f ∷ rest) x = discards_numbers rest (discarded x f.1) ∙ discard_numbers f.1 x

reference_numbers : (b : Bool) (a : Arriving) (node : NodeRef) → (reference_by b a node).part.nodes ≡ a.part.nodes
reference_numbers true a node = refl
reference_numbers false a node = refl

slot_numbers : (a : Arriving) (node : NodeRef) (s : Slot) → (slot_arrives a (node, s)).part.nodes ≡ a.part.nodes
slot_numbers a node slot.Unattached = refl
slot_numbers a node slot.Attached = reference_numbers (record_or_none node a.part.handles).dead a node
slot_numbers a node slot.Own = refl
slot_numbers a node slot.Void = refl

slots_numbers : (ss : List (NodeRef × Slot)) (a : Arriving) → (fold slot_arrives a ss).part.nodes ≡ a.part.nodes
slots_numbers [] a = refl
slots_numbers ((node, s) ∷ rest) a = slots_numbers rest (slot_arrives a (node, s)) ∙ slot_numbers a node s

taken_numbers : (e : Entry) (k : Key) (x : PeerPart) → numbers_of (taken_entry x k e).1 ≡ numbers_of x
taken_numbers (Message origin user index serial offset len nodes slots handles payload) k x = ap node_numbers (slots_numbers (zip nodes slots) _)
taken_numbers (OwnNotice serial index) k x = node_same notice_taken (λ n. refl) serial x.nodes
taken_numbers (ForeignNotice node index) k x = refl
taken_numbers (ReleaseNotice serial) k x = refl

front_numbers : (b : Bool) (x : PeerPart) (f : Key × Entry) (rest : List (Key × Entry)) → numbers_of (front_by b x f rest).1 ≡ numbers_of x
front_numbers true x f rest = refl
front_numbers false x f rest = taken_numbers f.1 f.0 (record x { queue = rest })

queue_numbers : (queue : List (Key × Entry)) (x : PeerPart) → numbers_of (front_taken x queue).1 ≡ numbers_of x
queue_numbers [] x = refl
queue_numbers (f ∷ rest) x = front_numbers (is_staged f) x f rest

recv_numbers : (x : PeerPart) → numbers_of (received_part x) ≡ numbers_of x
recv_numbers x = queue_numbers (cleared x).queue (cleared x) ∙ ap node_numbers (discards_numbers (discards x) _)

attach_numbers : (a : Attach) (x : PeerPart) (serial dest : ℕ) → numbers_of (attached_by a x serial dest) ≡ numbers_of x
attach_numbers attach.Counted x serial dest = node_same (counted dest) (λ n. refl) serial x.nodes
attach_numbers attach.Own x serial dest = refl
attach_numbers (attach.Void stamp) x serial dest = refl

drop_numbers : (b : Bool) (x : PeerPart) (serial holder k clock : ℕ) → numbers_of (with_release_notice b (dropped_refs x serial holder k clock) serial) ≡ numbers_of x
drop_numbers true x serial holder k clock = node_same (uncounted holder k) (λ n. refl) serial x.nodes
drop_numbers false x serial holder k clock = node_same (uncounted holder k) (λ n. refl) serial x.nodes

destroy_numbers : (r : Option Reason) (doomed : List ℕ) (x : PeerPart) → numbers_of (destroy_by r doomed x).1 ≡ numbers_of x
destroy_numbers (Some r) doomed x = refl
destroy_numbers None doomed x = nodes_same (in_state Dying) (λ n. refl) doomed x.nodes

doom_numbers : (late : List ℕ) (x : PeerPart) (collected : ℕ) (doomed : List ℕ) → numbers_of (doom_by late x collected doomed) ≡ numbers_of x
doom_numbers [] x collected doomed = nodes_same (in_state (Destroyed (final_stamp x collected))) (λ n. refl) doomed x.nodes
doom_numbers (peer ∷ rest) x collected doomed = refl

-- what an event makes of the numbers of the nodes of its driver's own peer
abbrev Advances : Command → Outcome → List ℕ → List ℕ → Type 0
Advances command (out.Begin (Ok begun)) old new = new ≡ all_joined old (send_of command).with
Advances command outcome old new = new ≡ old

advances_begin : (command : Command) (r : Option Reason) (memory : Bool) (x : PeerPart) → Advances command (begin_by r memory (send_of command) x).0 (numbers_of x) (numbers_of (begin_by r memory (send_of command) x).1)
advances_begin command (Some r) memory x = refl
advances_begin command None true x = refl
advances_begin command None false x = all_made_join x.peers (send_of command).with x.nodes

advances_stage : (command : Command) (r : Option Reason) (memory : Bool) (origin user place serial : ℕ) (payload : List ℕ) (nodes : List NodeRef) (x : PeerPart) (old new : List ℕ) → new ≡ old → Advances command (stage_by r memory origin user place serial payload nodes x).0 old new
advances_stage command (Some r) memory origin user place serial payload nodes x old new is = is
advances_stage command None true origin user place serial payload nodes x old new is = is
advances_stage command None false origin user place serial payload nodes x old new is = is

advances_destroy : (command : Command) (r : Option Reason) (doomed : List ℕ) (x : PeerPart) (old new : List ℕ) → new ≡ old → Advances command (destroy_by r doomed x).0 old new
advances_destroy command (Some r) doomed x old new is = is
advances_destroy command None doomed x old new is = is

module _ (o : Opening) (memory : Bool) (d : DriverPart) (doing : Doing) (x : PeerPart) where
  -- by the fields that an event changes
  by_changes : (action : Action) → (happens o memory d doing action x).1.nodes ≡ x.nodes → numbers_of (happens o memory d doing action x).1 ≡ numbers_of x
  by_changes action same = ap node_numbers same

  here : (action : Action) → Advances doing.command (happens o memory d doing action x).0 (numbers_of x) (numbers_of (happens o memory d doing action x).1)
  here act.Rest = refl
  here act.Begin = advances_begin doing.command (send_refusal x (send_of doing.command)) memory x
  here (act.Stage peer place) = advances_stage doing.command _ memory _ _ _ _ _ _ x _ _ (by_changes (act.Stage peer place) (ap (λ z. z.nodes) (changes o memory d doing (act.Stage peer place) x)))
  here (act.Unstage peer place) = by_changes (act.Unstage peer place) (ap (λ z. z.nodes) (changes o memory d doing (act.Unstage peer place) x))
  here (act.Attach peer serial dest) = attach_numbers (attach_answer x serial dest) x serial dest
  here act.Stamp = refl
  here (act.Sync peer stamp) = refl
  here (act.Commit peer place stamp) = by_changes (act.Commit peer place stamp) (ap (λ z. z.nodes) (changes o memory d doing (act.Commit peer place stamp) x))
  here (act.CommitNotices peer stamp) = refl
  here act.Recv = recv_numbers x
  here act.Reap = refl
  here act.Release = by_changes act.Release (ap (λ z. z.nodes) (changes o memory d doing act.Release x))
  here (act.DropRefs peer serial holder k clock) = drop_numbers (is_released (dropped_refs x serial holder k clock) serial) x serial holder k clock
  here act.BeginDestroy = advances_destroy doing.command (begin_refusal doing.command x) (begin_serials doing.command x) x _ _ (destroy_numbers (begin_refusal doing.command x) (begin_serials doing.command x) x)
  here (act.Visit peer) = by_changes (act.Visit peer) (ap (λ z. z.nodes) (changes o memory d doing (act.Visit peer) x))
  here act.StampDestroy = doom_numbers x.late x (collected_of doing.phase) (doomed_of doing.phase)
  here act.Flush = refl
  here act.Local = by_changes act.Local (ap (λ z. z.nodes) (changes o memory d doing act.Local x))

  elsewhere : (action : Action) (old : List ℕ) → peer_of d.me action ≢ d.me → Advances doing.command (happens o memory d doing action x).0 old old
  elsewhere act.Begin old apart = absurd (apart refl)
  elsewhere (act.Stage peer place) old apart = advances_stage doing.command _ memory _ _ _ _ _ _ x old old refl
  elsewhere act.BeginDestroy old apart = absurd (apart refl)
  elsewhere action old apart = refl

  other_numbers_stay : (action : Action) → peer_of d.me action ≢ d.me → numbers_of (happens o memory d doing action x).1 ≡ numbers_of x
  other_numbers_stay act.Begin apart = absurd (apart refl)
  other_numbers_stay act.BeginDestroy apart = absurd (apart refl)
  other_numbers_stay (act.Stage peer place) apart = by_changes (act.Stage peer place) (ap (λ z. z.nodes) (changes o memory d doing (act.Stage peer place) x))
  other_numbers_stay act.Rest apart = refl
  other_numbers_stay (act.Unstage peer place) apart = here (act.Unstage peer place)
  other_numbers_stay (act.Attach peer serial dest) apart = here (act.Attach peer serial dest)
  other_numbers_stay act.Stamp apart = refl
  other_numbers_stay (act.Sync peer stamp) apart = refl
  other_numbers_stay (act.Commit peer place stamp) apart = here (act.Commit peer place stamp)
  other_numbers_stay (act.CommitNotices peer stamp) apart = refl
  other_numbers_stay act.Recv apart = here act.Recv
  other_numbers_stay act.Reap apart = refl
  other_numbers_stay act.Release apart = here act.Release
  other_numbers_stay (act.DropRefs peer serial holder k clock) apart = here (act.DropRefs peer serial holder k clock)
  other_numbers_stay (act.Visit peer) apart = here (act.Visit peer)
  other_numbers_stay act.StampDestroy apart = absurd (apart refl)
  other_numbers_stay act.Flush apart = refl
  other_numbers_stay act.Local apart = absurd (apart refl)

advanced : (known : List ℕ) (command : Command) (phase : Phase) (outcome : Outcome) (old new : List ℕ) → Fits phase outcome → Advances command outcome old new → old ≡ numbers_by known command (phase_kind phase) → new ≡ numbers_by known command (kind_after (phase_kind phase) outcome)
advanced known command Starting (out.Begin (Ok begun)) old new fit is was = is ∙ ap (λ l. all_joined l (send_of command).with) was
advanced known command Starting (out.Flush dead) old new fit is was = absurd fit
advanced known command (Flushing stamp) (out.Flush dead) old new fit is was = is ∙ was
advanced known command phase (out.Begin (Ok begun)) old new fit is was = absurd fit
advanced known command phase (out.Flush dead) old new fit is was = absurd fit
advanced known command phase outcome old new fit is was = is ∙ was

-- ---- a step

-- the numbers that a peer's wires name
abbrev pub first_numbers : Opening → ℕ → List ℕ
first_numbers o p = name_numbers (wired o.wires p)

fine_none : Fine []
fine_none = (λ n h. absurd h, tt)

fine_first : (o : Opening) (p : ℕ) → Fine (first_numbers o p)
fine_first o p = subst Fine (sym (new_names 0 [] (map (λ w. w.number) (filter (λ w. w.from == p) o.wires)))) (fine_all (map (λ w. w.number) (filter (λ w. w.from == p) o.wires)) [] fine_none)

-- what the record and the open SEND name, as the value of the driver's part
named_numbers : (o : Opening) (s : State) (p e : ℕ) (d : DriverPart) (x : PeerPart) → IsDriver s p d → IsPeer s p x → name_numbers (add_new e (all_names o.wires (record_of_state s) p) (open_numbers d)) ≡ done_numbers (first_numbers o p) d
named_numbers o s p e d x is_driver is_peer =
    new_names e (all_names o.wires (record_of_state s) p) (open_numbers d)
    ∙ ap (λ l. all_joined l (open_numbers d)) (made_numbers 0 (wired o.wires p) (calls_of (record_of_state s) p) ∙ ap (numbers_in (first_numbers o p)) (recorded_calls s p x d is_peer is_driver))
    ∙ sym (driver_numbers (first_numbers o p) d)

fine_driver : (o : Opening) (p : ℕ) (d : DriverPart) → Fine (done_numbers (first_numbers o p) d)
fine_driver o p d = subst Fine (sym (driver_numbers (first_numbers o p) d)) (fine_all (open_numbers d) (numbers_in (first_numbers o p) (driver_calls d)) (fine_calls (driver_calls d) (first_numbers o p) (fine_first o p)))

has_map : (nodes : List NodePart) (n : NodePart) → Has nodes n → Has (node_numbers nodes) n.number
has_map [] n h = h
has_map (m ∷ ms) n (inl same) = inl (ap (λ z. z.number) same)
has_map (m ∷ ms) n (inr further) = inr (has_map ms n further)

-- the group, from the numbers of each peer
pub all_right : (o : Opening) (s : State) → ((p : ℕ) (x : PeerPart) → IsPeer s p x → (d : DriverPart) × IsDriver s p d) → ((p : ℕ) (d : DriverPart) (x : PeerPart) → IsDriver s p d → IsPeer s p x → numbers_of x ≡ done_numbers (first_numbers o p) d) → MadeNumbers o s
all_right o s driver value = record {
  made = λ p d x is_driver is_peer. value p d x is_driver is_peer ∙ sym (named_numbers o s p x.epoch d x is_driver is_peer);
  own = λ p x n is_peer h. let d = driver p x is_peer in
      let fine = subst Fine (sym (value p d.0 x d.1 is_peer)) (fine_driver o p d.0) in
      eqb-true (n.number % 4) 0 (fine.0 n.number (has_map x.nodes n h));
  apart = λ p x is_peer. let d = driver p x is_peer in (subst Fine (sym (value p d.0 x d.1 is_peer)) (fine_driver o p d.0)).1;
}

module _ {o : Opening} {s : State} {p : ℕ} {c : Option Command} {t : State} (sound : IsSound o s) (before : MadeNumbers o s) (step : Step o s p c t) where
  value_before : (r : ℕ) (d : DriverPart) (x : PeerPart) → IsDriver s r d → IsPeer s r x → numbers_of x ≡ done_numbers (first_numbers o r) d
  value_before r d x is_driver is_peer = before.made r d x is_driver is_peer ∙ named_numbers o s r x.epoch d x is_driver is_peer

  me_is : step.driver.me ≡ p
  me_is = sound.numbered.drivers p step.driver step.is_driver

  by_event : (old new : List ℕ) → old ≡ done_numbers (first_numbers o p) step.driver → Advances (parts step).command (going_answer step) old new → new ≡ done_numbers (first_numbers o p) step.new_driver
  by_event old new was event =
      value_after (List ℕ) (calls_numbers (first_numbers o p)) numbers_by (λ a command. refl) (more_numbers (first_numbers o p)) step old new was
      (λ fit is. advanced (calls_numbers (first_numbers o p) step.driver.calls) (parts step).command (parts step).phase (going_answer step) old new fit event is)

  own_after : (y : PeerPart) → IsPeer t p y → numbers_of y ≡ done_numbers (first_numbers o p) step.new_driver
  own_after y is = elim (peer_cases step p y is) [
    | inl at_it ↦
        by_event (numbers_of step.peer) (numbers_of y) (value_before p step.driver step.peer step.is_driver (subst (λ r. IsPeer s r step.peer) (sym at_it.0) step.is_peer))
        (subst (λ z. Advances (parts step).command (going_answer step) (numbers_of step.peer) (numbers_of z)) ((parts step).is_peer ∙ sym at_it.1) (here o step.local.memory (going step) (going_doing step) step.peer (going_action step)))
    | inr away ↦
        by_event (numbers_of y) (numbers_of y) (value_before p step.driver y step.is_driver away.1)
        (elsewhere o step.local.memory (going step) (going_doing step) step.peer (going_action step) (numbers_of y) (λ same. away.0 (sym me_is ∙ sym same ∙ (parts step).is_at)))
  ]

  other_after : (r : ℕ) (d : DriverPart) (y : PeerPart) → r ≢ p → IsDriver s r d → IsPeer t r y → numbers_of y ≡ done_numbers (first_numbers o r) d
  other_after r d y apart is_driver is = elim (peer_cases step r y is) [
    | inl at_it ↦
        ap numbers_of (at_it.1 ∙ sym (parts step).is_peer)
        ∙ other_numbers_stay o step.local.memory (going step) (going_doing step) step.peer (going_action step) (λ same. apart (at_it.0 ∙ sym (parts step).is_at ∙ same ∙ me_is))
        ∙ value_before r d step.peer is_driver (subst (λ q. IsPeer s q step.peer) (sym at_it.0) step.is_peer)
    | inr away ↦ value_before r d y is_driver away.1
  ]

  after : (r : ℕ) (d : DriverPart) (y : PeerPart) → IsDriver t r d → IsPeer t r y → numbers_of y ≡ done_numbers (first_numbers o r) d
  after r d y is_driver is = elim (driver_cases step r d is_driver) [
    | inl own ↦ subst (λ q. numbers_of y ≡ done_numbers (first_numbers o q) d) (sym own.0) (own_after y (subst (λ q. IsPeer t q y) own.0 is) ∙ ap (done_numbers (first_numbers o p)) (sym own.1))
    | inr other ↦ other_after r d y other.0 other.1 is
  ]

  pub numbers_kept : MadeNumbers o t
  numbers_kept = all_right o t (λ q y is. get_there t.drivers q (let within = slice_get_within t.peers q y is in omega (arith, within, as_many_peers step, as_many_drivers step, sound.numbered.as_many_drivers, sound.numbered.as_many_peers))) after
