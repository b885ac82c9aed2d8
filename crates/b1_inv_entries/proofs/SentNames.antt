-- The message of an open SEND with its stamp, in the record: what its begin found.
use Rattle.std.proofs.Common.{◌≡◌, refl, sym, ap, ◌∙◌, ℕ, zero, suc, false, List, [], ◌∷◌, ◌++◌, length, map, Option, Some, None, option_map}
use Rattle.std.specs.Prelude.{slice_get}
use Rattle.std.specs.Option.{option_flatten}
use Rattle.std.proofs.lemmas.List.{length-append}
use native.Mathlib.Omega.{arith}
use Rattle.b1_model.specs.declared.commands.Command.{Command}
use Rattle.b1_model.specs.declared.commands.Command.TheVariants as cmd
use Rattle.b1_model.specs.declared.commands.SendCmd.{SendCmd}
use Rattle.b1_model.specs.declared.naming.NodeRef.{NodeRef}
use Rattle.b1_model.specs.declared.naming.Opening.{Opening}
use Rattle.b1_model.specs.declared.answers.Sent.{Sent}
use Rattle.b1_model.specs.declared.answers.Answer.TheVariants as answer
use Rattle.b1_model.specs.declared.events.Phase.TheVariants.{Committing}
use Rattle.b1_model.specs.declared.events.Sending.{Sending}
use Rattle.b1_model.specs.Names.{Node, calls_of, wired, made, made_in, add_new}
use Rattle.b1_model.specs.Ledger.{Message, message, table, named, node_of}
use Rattle.b1_model.specs.MachineParts.{PeerPart, DriverPart, State}
use Rattle.b1_model.specs.MachineTables.{node_named}
use Rattle.b1_model.specs.MachineDriver.{send_of}
use Rattle.b1_model.specs.MachineTook.{call_of, open_by}
use Rattle.b1_model.specs.MachineStep.{record_of_state}
use Rattle.b1_inv.specs.Words.{IsPeer, IsDriver}
use Rattle.b1_inv.specs.Sends.{IsSend}
use Rattle.b1_inv.specs.Sound.{IsSound}
use Rattle.b1_ledger.specs.Growth.{all_names, calls_len, sent_call}
use Rattle.b1_ledger.proofs.Sequences.{slice_get-end, take-past}
use Rattle.b1_ledger.proofs.Bound.{message_of_call}
use Rattle.b1_ledger.proofs.Steps.{table_next}
use Rattle.b1_inv_record.specs.Epochs.{awaits_flush, in_gap, ref_of}
use Rattle.b1_inv_record.specs.Names.{carried_open}
use Rattle.b1_inv_record.specs.Right.{IsRight}
use Rattle.b1_inv_notices.proofs.Turns.{doing_in}
use Rattle.b1_inv_names.proofs.Recorded.{recorded_calls}
use Rattle.b1_inv_entries.proofs.Named.{all_named}

-- the node at a place of a message
pub place_named : (tos : List (Option Node)) (nodes : List NodeRef) (i : ℕ) (node : NodeRef) → map (option_map ref_of) tos ≡ map Some nodes → slice_get nodes i ≡ Some node → option_map ref_of (option_flatten (slice_get tos i)) ≡ Some node
place_named [] [] i node same at = absurd (cc at)
place_named [] (n ∷ ns) i node same at = absurd (cc same)
place_named (x ∷ xs) [] i node same at = absurd (cc at)
place_named (x ∷ xs) (n ∷ ns) zero node same at = let first : option_map ref_of x ≡ Some n = cc same in first ∙ at
place_named (x ∷ xs) (n ∷ ns) (suc i) node same at = let rest : map (option_map ref_of) xs ≡ map Some ns = cc same in place_named xs ns i node rest at

-- a message that names what a SEND's begin found
pub record SaysBegun (sending : Sending) (payload : List ℕ) (m : Message) : Type 0 where
  pub to : map (option_map ref_of) m.to ≡ map Some sending.begun.to
  pub carried : map (option_map ref_of) m.carried ≡ map Some sending.begun.with
  pub places : m.places ≡ sending.places
  pub payload_is : m.payload ≡ payload

no_numbers : (command : Command) (sending : Sending) (stamp place : ℕ) → carried_open command (Committing sending stamp place) ≡ []
no_numbers (cmd.Send c) sending stamp place = refl
no_numbers command sending stamp place = refl

module _ {o : Opening} {s : State} (sound : IsSound o s) (right : IsRight o s) (p : ℕ) (d : DriverPart) (x : PeerPart) (is_driver : IsDriver s p d) (is_peer : IsPeer s p x)
    (command : Command) (sending : Sending) (stamp place : ℕ) (is_open : d.doing ≡ Some (doing_in command (Committing sending stamp place))) (send : IsSend command) where
  abbrev c : SendCmd
  c = send_of command

  abbrev b : Sent
  b = record { stamp = stamp; places = sending.places }

  abbrev k : ℕ
  k = length d.calls

  calls_are : calls_of (record_of_state s) p ≡ d.calls ++ sent_call c b ∷ []
  calls_are =
      recorded_calls s p x d is_peer is_driver ∙ ap (λ doing. d.calls ++ open_by doing) is_open
      ∙ ap (λ z. d.calls ++ call_of z (answer.Sent b)) send.is_send

  at_call : slice_get (calls_of (record_of_state s) p) k ≡ Some (sent_call c b)
  at_call = ap (λ calls. slice_get calls k) calls_are ∙ slice_get-end d.calls (sent_call c b)

  last : calls_len (record_of_state s) p ≡ suc k
  last = ap length calls_are ∙ length-append d.calls (sent_call c b ∷ []) ∙ omega arith

  all_names_are : made o.wires (record_of_state s) p k ≡ all_names o.wires (record_of_state s) p
  all_names_are = ap (made_in 0 (wired o.wires p)) (take-past (calls_of (record_of_state s) p) (suc k) (let n = last in omega (arith, n)))

  table_is : table o.wires (record_of_state s) p (calls_len (record_of_state s) p) ≡ table o.wires (record_of_state s) p k
  table_is = ap (table o.wires (record_of_state s) p) last ∙ table_next o.wires (record_of_state s) p k (sent_call c b) at_call

  numbers_are : map (λ n. n.number) x.nodes ≡ map (λ m. m.number) (all_names o.wires (record_of_state s) p)
  numbers_are =
      right.names.made.made p d x is_driver is_peer
      ∙ ap (λ ns. map (λ m. m.number) (add_new x.epoch (all_names o.wires (record_of_state s) p) ns)) (ap (λ doing. elim doing [ None ↦ [] | Some one ↦ carried_open one.command one.phase ]) is_open ∙ no_numbers command sending stamp place)

  no_gap : in_gap d ≡ false
  no_gap = ap (λ doing. elim doing [ None ↦ false | Some one ↦ awaits_flush one.command one.phase ]) is_open

  named_by_call : (numbers : List ℕ) (nodes : List NodeRef) → map (node_named x) numbers ≡ map Some nodes → map (option_map ref_of) (map (node_of o.wires (record_of_state s) p k) numbers) ≡ map Some nodes
  named_by_call numbers nodes is =
      ap (λ names. map (option_map ref_of) (map (named p names (table o.wires (record_of_state s) p k)) numbers)) all_names_are
      ∙ ap (λ t. map (option_map ref_of) (map (named p (all_names o.wires (record_of_state s) p) t) numbers)) (sym table_is)
      ∙ all_named sound right p d x is_driver is_peer no_gap (all_names o.wires (record_of_state s) p) numbers_are numbers nodes is

  -- its message is there, and names what its begin found
  pub sent_message : (m : Message) × (message o.wires (record_of_state s) stamp p ≡ Some m) × SaysBegun sending c.payload m
  sent_message = (
    record {
      to = map (node_of o.wires (record_of_state s) p k) c.to;
      carried = map (node_of o.wires (record_of_state s) p k) c.with;
      places = sending.places;
      payload = c.payload;
    },
    message_of_call o.wires (record_of_state s) right.legal.order p k c b at_call,
    record {
      to = named_by_call c.to sending.begun.to (right.names.begun.to p d x (doing_in command (Committing sending stamp place)) is_driver is_peer is_open);
      carried = named_by_call c.with sending.begun.with (right.names.begun.with p d x (doing_in command (Committing sending stamp place)) is_driver is_peer is_open);
      places = refl;
      payload_is = refl;
    },
  )
