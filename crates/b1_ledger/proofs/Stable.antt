-- What no growth changes: names, tables, messages and destructions of a record whose receipts' messages are found.
use Rattle.std.specs.Prelude.{◌≡◌, refl, ℕ, zero, suc, ◌<◌, ◌≤◌, List, [], ◌∷◌, ◌++◌, length, take, slice_get, Option, Some, None, option_and_then, ⊤}
use Rattle.std.proofs.lemmas.List.{take-append-le}
use Rattle.std.proofs.lemmas.Option.{slice_get_within}
use Rattle.std.proofs.Common.{arith, ap, ◌∙◌}
use Rattle.b1_model.specs.declared.naming.Key.{Key}
use Rattle.b1_model.specs.declared.naming.Wire.{Wire}
use Rattle.b1_model.specs.declared.answers.Receipt.TheVariants as rec
use Rattle.b1_model.specs.declared.answers.Answer.{Answer}
use Rattle.b1_model.specs.declared.answers.Answer.TheVariants as ans
use Rattle.b1_model.specs.declared.records.Call.{Call}
use Rattle.b1_model.specs.declared.records.Record.{Record}
use Rattle.b1_model.specs.Names.{Node, wired, calls_of, made_in, made, epoch_in, epoch_at}
use Rattle.b1_model.specs.Ledger.{start, table_in, sent_at, message_at, slots_in, slots_by, message_within, message, slots, table, node_of, destructions_before}
use Rattle.b1_model.specs.Legal.{last_in, last_key}
use Rattle.b1_ledger.proofs.Sequences.{slice_get-append_lt, Each, each-take}
use Rattle.b1_ledger.proofs.Walks.{AgreesAt, table_in-same, sent_at-call}

-- the stamp and origin of a message receipt are good
abbrev pub GoodIn : (ℕ → ℕ → Type 0) → Answer → Type 0
GoodIn Good (ans.Got (rec.Message key number offset handles payload)) = Good key.stamp key.origin
GoodIn Good a = ⊤

pub message_at-same : (ws : List Wire) (q : ℕ) (cs more : List Call) (look seek : Key → List (Option Node)) (k : ℕ) → k < length cs → Each (λ c. AgreesAt look seek c.answer) cs → message_at ws q (cs ++ more) look k ≡ message_at ws q cs seek k
message_at-same ws q cs more look seek k l h =
    rw (take-append-le (suc k) cs more (omega (arith, l)), take-append-le k cs more (omega (arith, l)), slice_get-append_lt cs more k l, table_in-same look seek (start ws q) (take k cs) (each-take (λ c. AgreesAt look seek c.answer) k cs h)) refl

pub record Keeps (Good : ℕ → ℕ → Type 0) (r t : Record) : Type 0 where
  pub grows : (q : ℕ) → (more : List Call) × (calls_of t q ≡ calls_of r q ++ more)
  pub found : (stamp q : ℕ) → Good stamp q → sent_at stamp (calls_of t q) ≡ sent_at stamp (calls_of r q)
  pub good : (q : ℕ) → Each (λ c. GoodIn Good c.answer) (calls_of r q)

-- look-ups that agree on the good keys agree on the receipts of calls with good keys
pub agree : (Good : ℕ → ℕ → Type 0) (look seek : Key → List (Option Node)) → ((key : Key) → Good key.stamp key.origin → look key ≡ seek key) → (cs : List Call) → Each (λ c. GoodIn Good c.answer) cs → Each (λ c. AgreesAt look seek c.answer) cs
agree Good look seek same [] h = tt
agree Good look seek same (c ∷ cs) h = (at c.answer h.0, agree Good look seek same cs h.1)
  where
    at : (a : Answer) → GoodIn Good a → AgreesAt look seek a
    at (ans.Got (rec.Message key number offset handles payload)) g = same key g
    at a g = tt

module _ (ws : List Wire) (Good : ℕ → ℕ → Type 0) (r t : Record) (keeps : Keeps Good r t) where
  pub within_same : (n stamp q : ℕ) → Good stamp q → message_within ws t n stamp q ≡ message_within ws r n stamp q
  within_same zero stamp q g = refl
  within_same (suc n) stamp q g = rw (keeps.found stamp q g) (found (sent_at stamp (calls_of r q)) refl (λ s o h. within_same n s o h))
    where
      found : (o : Option ℕ) → sent_at stamp (calls_of r q) ≡ o → ((s o : ℕ) → Good s o → message_within ws t n s o ≡ message_within ws r n s o) → option_and_then (message_at ws q (calls_of t q) (slots_by (message_within ws t n) q)) o ≡ option_and_then (message_at ws q (calls_of r q) (slots_by (message_within ws r n) q)) o
      found None e ih = refl
      found (Some i) e ih =
          let here = sent_at-call stamp (calls_of r q) i e in
          rw ((keeps.grows q).1)
          (message_at-same ws q (calls_of r q) (keeps.grows q).0 (slots_by (message_within ws t n) q) (slots_by (message_within ws r n) q) i (slice_get_within (calls_of r q) i here.0 here.1)
          (agree Good (slots_by (message_within ws t n) q) (slots_by (message_within ws r n) q) (λ key g. ap (slots_in q key.index) (ih key.stamp key.origin g)) (calls_of r q) (keeps.good q)))

  pub message_same : (stamp q : ℕ) → Good stamp q → message ws t stamp q ≡ message ws r stamp q
  message_same stamp q g = within_same (suc stamp) stamp q g

  pub slots_same : (p : ℕ) (key : Key) → Good key.stamp key.origin → slots ws t p key ≡ slots ws r p key
  slots_same p key g = ap (slots_in p key.index) (message_same key.stamp key.origin g)

  pub take_same : (q k : ℕ) → k ≤ length (calls_of r q) → take k (calls_of t q) ≡ take k (calls_of r q)
  take_same q k l = rw ((keeps.grows q).1) (take-append-le k (calls_of r q) (keeps.grows q).0 l)

  pub call_same : (q k : ℕ) → k < length (calls_of r q) → slice_get (calls_of t q) k ≡ slice_get (calls_of r q) k
  call_same q k l = rw ((keeps.grows q).1) (slice_get-append_lt (calls_of r q) (keeps.grows q).0 k l)

  pub made_same : (q k : ℕ) → k < length (calls_of r q) → made ws t q k ≡ made ws r q k
  made_same q k l = ap (made_in 0 (wired ws q)) (take_same q (suc k) (omega (arith, l)))

  pub epoch_same : (q k : ℕ) → k ≤ length (calls_of r q) → epoch_at t q k ≡ epoch_at r q k
  epoch_same q k l = ap (epoch_in 0) (take_same q k l)

  pub last_same : (q k : ℕ) → k ≤ length (calls_of r q) → last_key t q k ≡ last_key r q k
  last_same q k l = ap (last_in None) (take_same q k l)

  pub table_same : (q k : ℕ) → k ≤ length (calls_of r q) → table ws t q k ≡ table ws r q k
  table_same q k l =
      ap (table_in (slots ws t q) (start ws q)) (take_same q k l)
      ∙ table_in-same (slots ws t q) (slots ws r q) (start ws q) (take k (calls_of r q))
      (each-take (λ c. AgreesAt (slots ws t q) (slots ws r q) c.answer) k (calls_of r q) (agree Good (slots ws t q) (slots ws r q) (λ key g. slots_same q key g) (calls_of r q) (keeps.good q)))

  pub node_of_same : (q k n : ℕ) → k < length (calls_of r q) → node_of ws t q k n ≡ node_of ws r q k n
  node_of_same q k n l = rw (made_same q k l, table_same q k (omega (arith, l))) refl

  pub destructions_before_same : (q k : ℕ) → k ≤ length (calls_of r q) → destructions_before ws t q k ≡ destructions_before ws r q k
  destructions_before_same q zero l = refl
  destructions_before_same q (suc k) l = rw (made_same q k (omega (arith, l)), table_same q k (omega (arith, l)), call_same q k (omega (arith, l)), destructions_before_same q k (omega (arith, l))) refl
