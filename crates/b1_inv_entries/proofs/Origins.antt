-- The origins of keys in a record: peers of the bus.
use Rattle.std.proofs.Common.{◌≡◌, refl, sym, ap, subst, ◌∙◌, inl, inr, ℕ, zero, suc, ◌<◌, true, List, [], ◌∷◌, length, Option, Some, None}
use Rattle.std.specs.Prelude.{slice_get, position}
use Rattle.b1_model.specs.declared.commands.Command.{Command}
use Rattle.b1_model.specs.declared.naming.Key.{Key}
use Rattle.b1_model.specs.declared.naming.NodeRef.{NodeRef}
use Rattle.b1_model.specs.declared.naming.Wire.{Wire}
use Rattle.b1_model.specs.declared.naming.Opening.{Opening}
use Rattle.b1_model.specs.declared.answers.Answer.{Answer}
use Rattle.b1_model.specs.declared.answers.Answer.TheVariants as ans
use Rattle.b1_model.specs.declared.answers.Receipt.TheVariants as rec
use Rattle.b1_model.specs.declared.records.Call.{Call}
use Rattle.b1_model.specs.declared.records.Record.{Record}
use Rattle.b1_model.specs.Names.{Name, calls_of, made}
use Rattle.b1_model.specs.Ledger.{got_key, Table, table, Destruction, destruction_by, add_destruction, destructions_before, destructions_of}
use Rattle.b1_model.specs.Legal.{is_message, is_notice, is_candidate, IsNextReceipt, Legal}
use Rattle.b1_step.specs.Rights.{Has}
use Rattle.b1_step.proofs.Lists.{has_append}
use Rattle.b1_ledger.proofs.Sequences.{or_left, or_right}
use Rattle.b1_ledger.proofs.Ascends.{candidate_source}
use Rattle.b1_ledger.proofs.NextAfter.{is_peer}
use Rattle.b1_inv_record.specs.Epochs.{is_ref, doom_from, doom_key}

-- an element of a list stands at a place
pub has_place : {X : Type 0} (xs : List X) (x : X) → Has xs x → (i : ℕ) × (slice_get xs i ≡ Some x)
has_place [] x has = absurd has
has_place (y ∷ ys) x (inl same) = (zero, ap Some (sym same))
has_place (y ∷ ys) x (inr further) = let k = has_place ys x further in (suc k.0, k.1)

next_candidate : (ws : List Wire) (r : Record) (p k : ℕ) (a : Answer) (key : Key) → IsNextReceipt ws r p k a → got_key a ≡ Some key → is_candidate ws r p k key ≡ true
next_candidate ws r p k (ans.Got (rec.Message one number offset handles payload)) key next is = let same : one ≡ key = cc is in subst (λ z. is_candidate ws r p k z ≡ true) same (or_left (is_message ws r p k one) (is_notice ws r p k one) next.0)
next_candidate ws r p k (ans.Got (rec.Destroyed one number)) key next is = let same : one ≡ key = cc is in subst (λ z. is_candidate ws r p k z ≡ true) same (or_right (is_message ws r p k one) (is_notice ws r p k one) next.0)
next_candidate ws r p k a key next is = absurd (cc is)

-- the origin of a receipt
pub received_origin : (o : Opening) (r : Record) → Legal o r → (q k : ℕ) (c : Call) (key : Key) → slice_get (calls_of r q) k ≡ Some c → got_key c.answer ≡ Some key → key.origin < length r.peers
received_origin o r legal q k c key at is =
    let source = candidate_source o.wires r q k key (next_candidate o.wires r q k c.answer key (legal.prefix q k c at) is) in
    is_peer r key.origin source.0 source.1 source.2

-- ---- destructions

abbrev AreOf : ℕ → List Destruction → Type 0
AreOf p ds = (d : Destruction) → Has ds d → d.origin ≡ p

one_of : (p : ℕ) (known : List Name) (tab : Table) (earlier : List Destruction) (c : Command) (a : Answer) → AreOf p (destruction_by p known tab earlier c a)
one_of p known tab earlier c (ans.Destroyed stamp) d (inl same) = ap (λ z. z.origin) same
one_of p known tab earlier c (ans.Destroyed stamp) d (inr none) = absurd none
one_of p known tab earlier c (ans.Reset (Some stamp)) d (inl same) = ap (λ z. z.origin) same
one_of p known tab earlier c (ans.Reset (Some stamp)) d (inr none) = absurd none
one_of p known tab earlier c a d has = absurd has

added_of : (p : ℕ) (known : List Name) (tab : Table) (call : Option Call) (earlier : List Destruction) → AreOf p earlier → AreOf p (add_destruction p known tab call earlier)
added_of p known tab None earlier are d has = are d has
added_of p known tab (Some c) earlier are d has = elim (has_append earlier (destruction_by p known tab earlier c.command c.answer) d has) [ inl old ↦ are d old | inr new ↦ one_of p known tab earlier c.command c.answer d new ]

before_of : (ws : List Wire) (r : Record) (p k : ℕ) → AreOf p (destructions_before ws r p k)
before_of ws r p zero d has = absurd has
before_of ws r p (suc k) d has = added_of p (made ws r p k) (table ws r p k) (slice_get (calls_of r p) k) (destructions_before ws r p k) (before_of ws r p k) d has

from_origin : (p : ℕ) (node : NodeRef) (ds : List Destruction) (key : Key) → AreOf p ds → doom_from node ds ≡ Some key → key.origin ≡ p
from_origin p node [] key are is = absurd (cc is)
from_origin p node (d ∷ rest) key are is = by (position (is_ref node) d.nodes) is (from_origin p node rest key (λ e has. are e (inr has)))
  where
    by : (at : Option ℕ) → elim at [ Some i ↦ Some (record { stamp = d.stamp; origin = d.origin; index = i }) | None ↦ doom_from node rest ] ≡ Some key → (doom_from node rest ≡ Some key → key.origin ≡ p) → key.origin ≡ p
    by (Some i) h further = let same : record { stamp = d.stamp; origin = d.origin; index = i } ≡ key = cc h in ap (λ z. z.origin) (sym same) ∙ are d (inl refl)
    by None h further = further h

-- the origin of a node's destruction is its owner
pub doom_origin : (ws : List Wire) (r : Record) (node : NodeRef) (key : Key) → doom_key ws r node ≡ Some key → key.origin ≡ node.owner
doom_origin ws r node key is = from_origin node.owner node (destructions_of ws r node.owner) key (before_of ws r node.owner (length (calls_of r node.owner))) is

-- who destroys is a peer
pub doom_owner : (ws : List Wire) (r : Record) (node : NodeRef) (key : Key) → doom_key ws r node ≡ Some key → node.owner < length r.peers
doom_owner ws r node key is = by (calls_of r node.owner) refl
  where
    by : (calls : List Call) → calls_of r node.owner ≡ calls → node.owner < length r.peers
    by [] none = let nothing : None ≡ Some key = ap (λ n. doom_from node (destructions_before ws r node.owner n)) (ap length (sym none)) ∙ is in absurd (cc nothing)
    by (c ∷ rest) some = is_peer r node.owner 0 c (ap (λ calls. slice_get calls 0) some)
