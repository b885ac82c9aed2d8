-- An open SEND with its stamp stands in the record as the last call of its peer: its message goes where its begin found.
use Rattle.std.proofs.Common.{◌≡◌, refl, sym, ap, ◌∙◌, ℕ, suc, ◌+◌, Bool, true, false, cond, ◌&&◌, List, [], ◌∷◌, ◌++◌, length, map, Some, None}
use Rattle.std.specs.Prelude.{slice_get}
use Rattle.std.specs.Option.{option_flatten}
use Rattle.std.proofs.lemmas.Option.{same_Some}
use native.Mathlib.Omega.{arith}
use Rattle.b1_model.specs.declared.commands.Command.{Command}
use Rattle.b1_model.specs.declared.commands.Command.TheVariants as cmd
use Rattle.b1_model.specs.declared.commands.SendCmd.{SendCmd}
use Rattle.b1_model.specs.declared.naming.Opening.{Opening}
use Rattle.b1_model.specs.declared.answers.Answer.TheVariants as answer
use Rattle.b1_model.specs.declared.answers.Sent.{Sent}
use Rattle.b1_model.specs.declared.events.Phase.{Phase}
use Rattle.b1_model.specs.declared.events.Phase.TheVariants.{Syncing, Committing}
use Rattle.b1_model.specs.declared.records.Call.{Call}
use Rattle.b1_model.specs.declared.records.Record.{Record}
use Rattle.b1_model.specs.Names.{Node, calls_of, wired, add_new, made_in, made}
use Rattle.b1_model.specs.Ledger.{Message, message, to_at, node_of, named, table, slots}
use Rattle.b1_model.specs.MachineParts.{PeerPart, DriverPart, State}
use Rattle.b1_model.specs.MachineDriver.{send_of}
use Rattle.b1_model.specs.MachineTables.{node_named}
use Rattle.b1_model.specs.MachineTook.{as_call, is_await, call_of, open_by}
use Rattle.b1_model.specs.MachineEvents.{begun_of}
use Rattle.b1_model.specs.MachineStep.{record_of_state}
use Rattle.b1_inv.specs.Words.{IsPeer, IsDriver, stamp_of_phase}
use Rattle.b1_inv.specs.Sound.{IsSound}
use Rattle.b1_ledger.specs.Growth.{calls_len, sent_call, is_quiet, all_names}
use Rattle.b1_ledger.proofs.Bound.{one_call}
use Rattle.b1_ledger.proofs.Sequences.{slice_get-end, take-past}
use Rattle.b1_ledger.proofs.Steps.{table_next, quiet_table}
use Rattle.b1_inv_record.specs.Epochs.{in_gap, awaits_flush, ref_of}
use Rattle.b1_inv_record.specs.Names.{carried_open}
use Rattle.b1_inv_record.specs.Right.{IsRight}
use Rattle.b1_inv_notices.proofs.Turns.{doing_in}
use Rattle.b1_inv_names.proofs.Recorded.{recorded_calls}
use Rattle.b1_inv_legal.proofs.Named.{named_is}
use Rattle.b1_inv_legal.proofs.Sends.{number_of_node, same_image}
use Rattle.b1_inv_next.proofs.Facts.{sent_by}

-- a phase of a SEND with its stamp
abbrev pub is_stamped : Phase → Bool
is_stamped (Syncing sending stamp place) = true
is_stamped (Committing sending stamp place) = true
is_stamped phase = false

sent_call_of : (command : Command) (b : Sent) → call_of command (answer.Sent b) ≡ record { command = as_call command; answer = answer.Sent b } ∷ []
sent_call_of command b = by (is_await command)
  where
    by : (w : Bool) → cond {A = List Call} (w && false) [] (record { command = as_call command; answer = answer.Sent b } ∷ []) ≡ record { command = as_call command; answer = answer.Sent b } ∷ []
    by true = refl
    by false = refl

-- the open call of such a phase
open_sent : (command : Command) (phase : Phase) (stamp : ℕ) → is_stamped phase ≡ true → stamp_of_phase phase ≡ Some stamp → (b : Sent) × (open_by (Some (doing_in command phase)) ≡ record { command = as_call command; answer = answer.Sent b } ∷ []) × (b.stamp ≡ stamp)
open_sent command (Syncing sending stamp place) one is same = (record { stamp = stamp; places = sending.places }, sent_call_of command (record { stamp = stamp; places = sending.places }), same_Some stamp one same)
open_sent command (Committing sending stamp place) one is same = (record { stamp = stamp; places = sending.places }, sent_call_of command (record { stamp = stamp; places = sending.places }), same_Some stamp one same)
open_sent command phase one is same = absurd (cc is)

no_numbers : (command : Command) (phase : Phase) → is_stamped phase ≡ true → carried_open command phase ≡ []
no_numbers (cmd.Send c) (Syncing sending stamp place) is = refl
no_numbers (cmd.Send c) (Committing sending stamp place) is = refl
no_numbers (cmd.Send c) phase is = absurd (cc is)
no_numbers command phase is = refl

not_awaited : (command : Command) (phase : Phase) → is_stamped phase ≡ true → awaits_flush command phase ≡ false
not_awaited command (Syncing sending stamp place) is = refl
not_awaited command (Committing sending stamp place) is = refl
not_awaited command phase is = absurd (cc is)

sending_is : (command : Command) (c : SendCmd) → as_call command ≡ cmd.Send c → send_of command ≡ c
sending_is (cmd.Send one) c is = let same : one ≡ c = cc is in same
sending_is cmd.Await c is = absurd (cc is)
sending_is cmd.Recv c is = absurd (cc is)
sending_is cmd.Disconnect c is = absurd (cc is)
sending_is cmd.Query c is = absurd (cc is)
sending_is (cmd.Reset limits) c is = absurd (cc is)
sending_is (cmd.Limit limits) c is = absurd (cc is)
sending_is (cmd.Release number) c is = absurd (cc is)
sending_is (cmd.Destroy numbers) c is = absurd (cc is)
sending_is (cmd.SliceRelease offset) c is = absurd (cc is)

module _ {o : Opening} {s : State} (sound : IsSound o s) (right : IsRight o s) (p : ℕ) (d : DriverPart) (x : PeerPart) (command : Command) (phase : Phase) (is_driver : IsDriver s p d) (is_peer : IsPeer s p x)
    (is_open : d.doing ≡ Some (doing_in command phase)) (stamped : is_stamped phase ≡ true) (stamp : ℕ) (fixed : stamp_of_phase phase ≡ Some stamp) where
  abbrev r : Record
  r = record_of_state s

  open_is : (b : Sent) × (open_by (Some (doing_in command phase)) ≡ record { command = as_call command; answer = answer.Sent b } ∷ []) × (b.stamp ≡ stamp)
  open_is = open_sent command phase stamp stamped fixed

  abbrev last : Call
  last = record { command = as_call command; answer = answer.Sent open_is.0 }

  calls_are : calls_of r p ≡ d.calls ++ last ∷ []
  calls_are = recorded_calls s p x d is_peer is_driver ∙ ap (λ z. d.calls ++ open_by z) is_open ∙ ap (λ l. d.calls ++ l) open_is.1

  at_last : slice_get (calls_of r p) (length d.calls) ≡ Some last
  at_last = ap (λ l. slice_get l (length d.calls)) calls_are ∙ slice_get-end d.calls last

  all_calls : calls_len r p ≡ suc (length d.calls)
  all_calls = ap length calls_are ∙ longer d.calls
    where
      longer : (l : List Call) → length (l ++ last ∷ []) ≡ suc (length l)
      longer [] = refl
      longer (c ∷ rest) = ap suc (longer rest)

  known : made o.wires r p (length d.calls) ≡ all_names o.wires r p
  known = ap (made_in 0 (wired o.wires p)) (take-past (calls_of r p) (suc (length d.calls)) (let same = all_calls in omega (arith, same)))

  same_table : table o.wires r p (calls_len r p) ≡ table o.wires r p (length d.calls)
  same_table = ap (table o.wires r p) all_calls ∙ table_next o.wires r p (length d.calls) last at_last ∙ quiet_table (slots o.wires r p) (as_call command) (answer.Sent open_is.0) (table o.wires r p (length d.calls)) (quiet (as_call command))
    where
      quiet : (c : Command) → is_quiet c (answer.Sent open_is.0) ≡ true
      quiet (cmd.Release n) = refl
      quiet c = refl

  numbers : map (λ m. m.number) x.nodes ≡ map (λ m. m.number) (all_names o.wires r p)
  numbers =
      right.names.made.made p d x is_driver is_peer
      ∙ ap (λ ns. map (λ m. m.number) (add_new x.epoch (all_names o.wires r p) ns)) (ap (λ z. elim z [ None ↦ [] | Some one ↦ carried_open one.command one.phase ]) is_open ∙ no_numbers command phase stamped)

  no_gap : in_gap d ≡ false
  no_gap = ap (λ z. elim z [ None ↦ false | Some one ↦ awaits_flush one.command one.phase ]) is_open ∙ not_awaited command phase stamped

  -- where the record's message goes, the begin found the node
  pub goes_to : (m : Message) (i : ℕ) (y : Node) → message o.wires r stamp p ≡ Some m → to_at m i ≡ Some y → slice_get (begun_of phase).to i ≡ Some (ref_of y)
  goes_to m i y is to =
      let sent = sent_by o.wires r right.legal.order stamp p m is in
      let place = one_call o.wires r right.legal.order p sent.place (length d.calls) stamp (sent_call sent.command sent.sent) last sent.is_call at_last (ap Some sent.stamped) (ap Some open_is.2) in
      let same : sent_call sent.command sent.sent ≡ last = same_Some (sent_call sent.command sent.sent) last (sym sent.is_call ∙ ap (slice_get (calls_of r p)) place ∙ at_last) in
      let send : send_of command ≡ sent.command = sending_is command sent.command (ap (λ c. c.command) (sym same)) in
      let n = number_of_node (node_of o.wires r p sent.place) sent.command.to i y (ap (λ l. option_flatten (slice_get l i)) (sym sent.to) ∙ to) in
      let node = same_image (node_named x) sent.command.to (begun_of phase).to i n.0 (ap (λ c. map (node_named x) c.to) (sym send) ∙ right.names.begun.to p d x (doing_in command phase) is_driver is_peer is_open) n.1 in
      let by_record : named p (all_names o.wires r p) (table o.wires r p (calls_len r p)) n.0 ≡ Some y =
      ap (λ names. named p names (table o.wires r p (calls_len r p)) n.0) (sym known) ∙ ap (λ tab. named p (made o.wires r p (length d.calls)) tab n.0) same_table ∙ ap (λ k. node_of o.wires r p k n.0) (sym place) ∙ n.2 in
      node.2 ∙ ap Some (sym (named_is sound right p d x is_driver is_peer no_gap (all_names o.wires r p) numbers n.0 y node.0 by_record node.1))
