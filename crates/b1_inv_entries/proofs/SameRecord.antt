-- What two records with the same calls have in common: messages, tables, destructions.
use Rattle.std.proofs.Common.{◌≡◌, sym, ap, ◌∙◌, ℕ, List, [], ◌∷◌, length, append-nil}
use Rattle.std.specs.Prelude.{⊤, find, flat_map, ◌==◌}
use Rattle.std.specs.List.{list_any}
use native.Mathlib.Omega.{arith}
use Rattle.b1_model.specs.declared.naming.Key.{Key}
use Rattle.b1_model.specs.declared.naming.NodeRef.{NodeRef}
use Rattle.b1_model.specs.declared.naming.Opening.{Opening}
use Rattle.b1_model.specs.declared.answers.Answer.{Answer}
use Rattle.b1_model.specs.declared.answers.Answer.TheVariants as ans
use Rattle.b1_model.specs.declared.answers.Receipt.TheVariants as rec
use Rattle.b1_model.specs.declared.records.Call.{Call}
use Rattle.b1_model.specs.declared.records.Record.{Record}
use Rattle.b1_model.specs.Names.{Node, calls_of}
use Rattle.b1_model.specs.Ledger.{sent_at, message, destructions_before, destructions_of, doomed_at, node_at, is_late_by, is_late, peers_of}
use Rattle.b1_ledger.proofs.Sequences.{Each, list_any-flat_map}
use Rattle.b1_ledger.proofs.Grows.{peers_same}
use Rattle.b1_ledger.proofs.Stable.{GoodIn, Keeps, message_same, destructions_before_same}
use Rattle.b1_inv_record.specs.Epochs.{doom_from, doom_key}

abbrev Any : ℕ → ℕ → Type 0
Any stamp q = ⊤

any_answer : (a : Answer) → GoodIn Any a
any_answer (ans.Got (rec.Message key number offset handles payload)) = tt
any_answer a = tt

any_calls : (calls : List Call) → Each (λ c. GoodIn Any c.answer) calls
any_calls [] = tt
any_calls (c ∷ rest) = (any_answer c.answer, any_calls rest)

module _ (o : Opening) (r t : Record) (peers : length t.peers ≡ length r.peers) (same : (q : ℕ) → calls_of t q ≡ calls_of r q) where
  keeps : Keeps Any r t
  keeps = record {
    grows = λ q. ([], same q ∙ sym (append-nil (calls_of r q)));
    found = λ stamp q any. ap (sent_at stamp) (same q);
    good = λ q. any_calls (calls_of r q);
  }

  pub messages_same : (stamp q : ℕ) → message o.wires t stamp q ≡ message o.wires r stamp q
  messages_same stamp q = message_same o.wires Any r t keeps stamp q tt

  pub destructions_same : (q : ℕ) → destructions_of o.wires t q ≡ destructions_of o.wires r q
  destructions_same q = ap (λ calls. destructions_before o.wires t q (length calls)) (same q) ∙ destructions_before_same o.wires Any r t keeps q (length (calls_of r q)) (omega arith)

  pub doom_keys_same : (node : NodeRef) → doom_key o.wires t node ≡ doom_key o.wires r node
  doom_keys_same node = ap (doom_from node) (destructions_same node.owner)

  pub notices_same : (key : Key) → doomed_at o.wires t key ≡ doomed_at o.wires r key
  notices_same key = ap (λ ds. node_at key.index (find (λ d. d.stamp == key.stamp) ds)) (destructions_same key.origin)

  pub late_same : (x : Node) (key : Key) → is_late o.wires t x key ≡ is_late o.wires r x key
  late_same x key =
      ap (λ ps. list_any (is_late_by x key) (flat_map (destructions_of o.wires t) ps)) (peers_same r t peers)
      ∙ list_any-flat_map (is_late_by x key) (destructions_of o.wires t) (destructions_of o.wires r) (peers_of r) (λ q. ap (list_any (is_late_by x key)) (destructions_same q))
