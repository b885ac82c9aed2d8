-- Every bus begins with the lines of each peer's table its numbered records: the wires are laid one after another.
use Rattle.std.proofs.Common.{◌≡◌, refl, sym, ap, subst, ◌∙◌, ℕ, zero, suc, ◌+◌, ◌==◌, Bool, true, false, cond, ◌&&◌, not, List, [], ◌∷◌, ◌++◌, fold, get_or, length, take, map, filter, Option, Some, None, option_map, append-nil}
use Rattle.std.specs.Prelude.{slice_get}
use Rattle.std.proofs.lemmas.Bool.{eq-eqb}
use Rattle.std.proofs.lemmas.List.{append_assoc}
use Rattle.std.proofs.lemmas.Option.{same_Some, slice_get_within, get_or_from_slice_get}
use native.Mathlib.Omega.{arith}
use Rattle.b1_model.specs.declared.naming.NodeRef.{NodeRef}
use Rattle.b1_model.specs.declared.naming.PeerSpec.{PeerSpec}
use Rattle.b1_model.specs.declared.naming.Wire.{Wire}
use Rattle.b1_model.specs.declared.naming.Opening.{Opening}
use Rattle.b1_model.specs.Names.{Node, is_own, calls_of, wired as wired_names}
use Rattle.b1_model.specs.Ledger.{Table, handed, named, wire_tables, start, table, table_in, slots}
use Rattle.b1_model.specs.Opening.{after_wire, CanWire, AreWired, IsOpening}
use Rattle.b1_model.specs.MachineParts.{PeerPart, DriverPart, record_or_none}
use Rattle.b1_model.specs.MachineTables.{serial_of, with_made, changed_or_made, more_held, next_number, node_named}
use Rattle.b1_model.specs.MachineStep.{no_peer, with_part, wire_made, wire_counted, wire_held, wired, peer_before, peers_before, opening_state, record_of_state}
use Rattle.b1_model.specs.MachineTook.{driver_calls}
use Rattle.b1_inv.specs.Words.{IsPeer, IsDriver}
use Rattle.b1_ledger.specs.Growth.{calls_len}
use Rattle.b1_inv_record.specs.Epochs.{ref_of}
use Rattle.b1_inv_record.specs.Names.{TableIsLines}
use Rattle.b1_inv_tools.proofs.Openings.{opening_idle}
use Rattle.b1_inv_refs.proofs.Places.{made_serial, part_there}
use Rattle.b1_inv_refs.proofs.Wiring.{Peers, Wiring, read_part}
use Rattle.b1_inv_refs.proofs.Laying.{wire_kept, before_wiring}
use Rattle.b1_inv_names.proofs.Numbers.{joined, all_joined, has_number, name_numbers, new_names}
use Rattle.b1_inv_names.proofs.Made.{numbers_of}
use Rattle.b1_inv_names.proofs.MadeFirst.{joins_at, numbers_from, wired_at, made_part}
use Rattle.b1_inv_names.proofs.Gaps.{gaps_begin}
use Rattle.b1_inv_names.proofs.Recorded.{recorded_calls}
use Rattle.b1_inv_notices.proofs.Turns.{get_there}
use Rattle.b1_step.proofs.Numbers.{opening_numbered}
use Rattle.b1_inv_tables.proofs.Agrees.{IsTable}
use Rattle.b1_inv_tables.proofs.Given.{given_table}
use Rattle.b1_inv_tables.proofs.Named.{named_is}

-- ---- own numbers that join stand behind those before

-- numbers that join stand behind
all_more : (ns later : List ℕ) → (more : List ℕ) × (all_joined ns later ≡ ns ++ more)
all_more ns [] = ([], sym (append-nil ns))
all_more ns (n ∷ later) = by (all_more (joined ns n) later)
  where
    joined_more : (m : List ℕ) × (joined ns n ≡ ns ++ m)
    joined_more = at (is_own n && not (has_number n ns))
      where
        at : (b : Bool) → (m : List ℕ) × (cond b (ns ++ n ∷ []) ns ≡ ns ++ m)
        at true = (n ∷ [], refl)
        at false = ([], sym (append-nil ns))

    by : (more : List ℕ) × (all_joined (joined ns n) later ≡ joined ns n ++ more) → (more : List ℕ) × (all_joined (joined ns n) later ≡ ns ++ more)
    by (more, same) = (joined_more.0 ++ more, same ∙ ap (λ l. l ++ more) joined_more.1 ∙ append_assoc ns joined_more.0 more)

-- ---- a part that a wire changes

-- a part that a change at one index leaves
part_back : (xs : Peers) (i q : ℕ) (f : PeerPart → PeerPart) (y : PeerPart) → slice_get (with_part i f xs) q ≡ Some y → (x : PeerPart) × (slice_get xs q ≡ Some x) × (y ≡ cond (q == i) (f x) x)
part_back xs i q f y is = by (slice_get xs q) refl (sym (read_part xs i q f) ∙ is)
  where
    by : (z : Option PeerPart) → slice_get xs q ≡ z → option_map (λ x. cond (q == i) (f x) x) z ≡ Some y → (x : PeerPart) × (slice_get xs q ≡ Some x) × (y ≡ cond (q == i) (f x) x)
    by None at here = absurd (cc here)
    by (Some x) at here = (x, at, sym (same_Some (cond (q == i) (f x) x) y here))

-- making a node changes nothing that a table sees
made_seen : (b : Bool) (number : ℕ) (x : PeerPart) → ((cond b (wire_made number x) x).given ≡ x.given) × ((cond b (wire_made number x) x).handles ≡ x.handles)
made_seen false number x = (refl, refl)
made_seen true number x = by (is_own number)
  where
    by : (c : Bool) → ((cond c (record x { nodes = with_made x.peers number x.nodes }) x).given ≡ x.given) × ((cond c (record x { nodes = with_made x.peers number x.nodes }) x).handles ≡ x.handles)
    by true = (refl, refl)
    by false = (refl, refl)

-- nor does counting a reference
counted_seen : (b : Bool) (node : NodeRef) (dest : ℕ) (x : PeerPart) → ((cond b (wire_counted node dest x) x).given ≡ x.given) × ((cond b (wire_counted node dest x) x).handles ≡ x.handles)
counted_seen true node dest x = (refl, refl)
counted_seen false node dest x = (refl, refl)

-- a table has the lines of parts that it sees alike
table_seen : (t : Table) (x y : PeerPart) → (y.given ≡ x.given) × (y.handles ≡ x.handles) → IsTable t x.given x.handles → IsTable t y.given y.handles
table_seen t x y seen k = subst (λ g. IsTable t g y.handles) (sym seen.0) (subst (λ hs. IsTable t x.given hs) (sym seen.1) k)

-- what names nothing
none_named : (z : Option Node) → option_map ref_of z ≡ None → z ≡ None
none_named None is = refl
none_named (Some x) is = absurd (cc is)

-- what names a node
some_named : (z : Option Node) (node : NodeRef) → option_map ref_of z ≡ Some node → (x : Node) × (z ≡ Some x) × (ref_of x ≡ node)
some_named None node is = absurd (cc is)
some_named (Some x) node is = let same : ref_of x ≡ node = cc is in (x, refl, same)

-- ---- one wire

-- the tables of all parts
abbrev Tables : (ℕ → Table) → Peers → Type 0
Tables ts xs = (q : ℕ) (x : PeerPart) → slice_get xs q ≡ Some x → IsTable (ts q) x.given x.handles

-- the numbers of each part's nodes, with those of the wires to come, are the names
abbrev NamesTo : List Wire → List Wire → Peers → Type 0
NamesTo all ws xs = (q : ℕ) (x : PeerPart) → slice_get xs q ≡ Some x → all_joined (numbers_of x) (numbers_from q ws) ≡ name_numbers (wired_names all q)

-- a wire's number joins first
joins_first : (b : Bool) (w : Wire) (q : ℕ) (rest : List Wire) (ns : List ℕ) → all_joined (joins_at b w.number ns) (numbers_from q rest) ≡ all_joined ns (map (λ v. v.number) (cond b (w ∷ filter (λ v. v.from == q) rest) (filter (λ v. v.from == q) rest)))
joins_first true w q rest ns = refl
joins_first false w q rest ns = refl

module _ (all : List Wire) (n : ℕ) (held : List Wire) (w : Wire) (rest : List Wire) (xs : Peers) (ts : ℕ → Table) (k : Wiring n held xs) (can : CanWire n held w) (names : NamesTo all (w ∷ rest) xs) (tables : Tables ts xs) where
  -- the parts where the giver has made its node
  abbrev made : Peers
  made = with_part w.from (wire_made w.number) xs

  -- the giver's part before the wire
  abbrev old : PeerPart
  old = get_or xs w.from no_peer

  -- it is there
  old_is : slice_get xs w.from ≡ Some old
  old_is = part_there xs w.from (let c = k.count in let f = can.from in omega (arith, c, f))

  -- the giver's part with its node
  abbrev giver : PeerPart
  giver = get_or made w.from no_peer

  -- it is there with its node
  made_old : slice_get made w.from ≡ Some (wire_made w.number old)
  made_old = read_part xs w.from w.from (wire_made w.number) ∙ ap (option_map (λ x. cond (w.from == w.from) (wire_made w.number x) x)) old_is ∙ ap (λ b. Some (cond b (wire_made w.number old) old)) (eq-eqb w.from w.from refl)

  -- it is the part before with its node
  giver_was : giver ≡ wire_made w.number old
  giver_was = get_or_from_slice_get made w.from (wire_made w.number old) no_peer made_old

  -- it has its number
  giver_me : giver.me ≡ w.from
  giver_me = ap (λ x. x.me) giver_was ∙ by (is_own w.number) ∙ (k.part w.from old old_is).me
    where
      by : (c : Bool) → (cond c (record old { nodes = with_made old.peers w.number old.nodes }) old).me ≡ old.me
      by true = refl
      by false = refl

  -- its table has its lines
  giver_table : IsTable (ts w.from) giver.given giver.handles
  giver_table = subst (λ x. IsTable (ts w.from) x.given x.handles) (sym giver_was) (table_seen (ts w.from) old (wire_made w.number old) (made_seen true w.number old) (tables w.from old old_is))

  -- its nodes' numbers stand first among its names
  giver_names : (more : List ℕ) × (numbers_of giver ++ more ≡ name_numbers (wired_names all w.from))
  giver_names =
      let numbers : numbers_of giver ≡ joined (numbers_of old) w.number = ap numbers_of giver_was ∙ made_part w.number old in
      let m = all_more (numbers_of giver) (numbers_from w.from rest) in
      let own : (w.from == w.from) ≡ true = eq-eqb w.from w.from refl in
      let here : all_joined (joined (numbers_of old) w.number) (numbers_from w.from rest) ≡ all_joined (numbers_of old) (numbers_from w.from (w ∷ rest)) =
      joins_first true w w.from rest (numbers_of old) ∙ ap (λ b. all_joined (numbers_of old) (map (λ v. v.number) (cond b (w ∷ filter (λ v. v.from == w.from) rest) (filter (λ v. v.from == w.from) rest)))) (sym own)
      in
      (m.0, sym m.1 ∙ ap (λ ns. all_joined ns (numbers_from w.from rest)) numbers ∙ here ∙ names w.from old old_is)

  -- an own number has its node
  giver_made : is_own w.number ≡ true → (serial : ℕ) × (serial_of w.number giver.nodes ≡ Some serial)
  giver_made own =
      let serial = made_serial old.peers w.number old.nodes in
      let nodes_is : giver.nodes ≡ with_made old.peers w.number old.nodes = ap (λ x. x.nodes) giver_was ∙ ap (λ b. (cond b (record old { nodes = with_made old.peers w.number old.nodes }) old).nodes) own in
      (serial.0, ap (serial_of w.number) nodes_is ∙ serial.1)

  -- what the wire gives, by the record
  abbrev what : Option Node
  what = named w.from (wired_names all w.from) (ts w.from) w.number

  -- it is what the number names at the giver's part
  what_is : option_map ref_of what ≡ node_named giver w.number
  what_is = named_is w.from w.number giver (wired_names all w.from) giver_names.0 (ts w.from) giver_me giver_names.1 giver_table giver_made

  -- the tables behind the wire
  abbrev ts_then : ℕ → Table
  ts_then q = cond (q == w.to) (handed what (ts q)) (ts q)

  -- a wire that gives nothing leaves every table
  none_then : node_named giver w.number ≡ None → (q : ℕ) → ts_then q ≡ ts q
  none_then none q = ap (λ z. cond (q == w.to) (handed z (ts q)) (ts q)) (none_named what (what_is ∙ none)) ∙ by (q == w.to)
    where
      by : (b : Bool) → cond b (ts q) (ts q) ≡ ts q
      by true = refl
      by false = refl

  -- a wire that gives a node changes the table of its holder
  held_then : (q : ℕ) (x : PeerPart) (node : NodeRef) (b : Bool) → slice_get xs q ≡ Some x → node_named giver w.number ≡ Some node → (y : PeerPart) → (y.given ≡ x.given) × (y.handles ≡ x.handles)
      → IsTable (cond b (handed what (ts q)) (ts q)) (cond b (wire_held node y) y).given (cond b (wire_held node y) y).handles
  held_then q x node false is some y seen = table_seen (ts q) x y seen (tables q x is)
  held_then q x node true is some y seen =
      let f = some_named what node (what_is ∙ some) in
      let l = k.part q x is in
      let z : PeerPart = record x { handles = changed_or_made node (more_held (next_number x.given)) x.handles; given = cond ((record_or_none node x.handles).held == 0) (x.given + 1) x.given } in
      let there : IsTable (handed (Some f.0) (ts q)) z.given z.handles = subst (λ m. IsTable (handed (Some f.0) (ts q)) (cond ((record_or_none m x.handles).held == 0) (x.given + 1) x.given) (changed_or_made m (more_held (next_number x.given)) x.handles)) f.2
      (given_table (ts q) x.given x.handles l.rising l.numbered (tables q x is) f.0) in
      subst (λ t. IsTable t (wire_held node y).given (wire_held node y).handles) (sym (ap (λ v. handed v (ts q)) f.1))
      (subst (λ g. IsTable (handed (Some f.0) (ts q)) (cond ((record_or_none node y.handles).held == 0) (g + 1) g) (changed_or_made node (more_held (next_number g)) y.handles)) (sym seen.0)
      (subst (λ hs. IsTable (handed (Some f.0) (ts q)) (cond ((record_or_none node hs).held == 0) (x.given + 1) x.given) (changed_or_made node (more_held (next_number x.given)) hs)) (sym seen.1) there))

  -- by what the number names
  by_node : (z : Option NodeRef) → node_named giver w.number ≡ z → Tables ts_then (elim z [ None ↦ made | Some node ↦ with_part w.to (wire_held node) (with_part node.owner (wire_counted node w.to) made) ])
  by_node None none q y is =
      let m = part_back xs w.from q (wire_made w.number) y is in
      subst (λ t. IsTable t y.given y.handles) (sym (none_then none q)) (subst (λ v. IsTable (ts q) v.given v.handles) (sym m.2) (table_seen (ts q) m.0 (cond (q == w.from) (wire_made w.number m.0) m.0) (made_seen (q == w.from) w.number m.0) (tables q m.0 m.1)))
  by_node (Some node) some q y is =
      let a = part_back (with_part node.owner (wire_counted node w.to) made) w.to q (wire_held node) y is in
      let b = part_back made node.owner q (wire_counted node w.to) a.0 a.1 in
      let c = part_back xs w.from q (wire_made w.number) b.0 b.1 in
      let one : (b.0.given ≡ c.0.given) × (b.0.handles ≡ c.0.handles) = subst (λ v. (v.given ≡ c.0.given) × (v.handles ≡ c.0.handles)) (sym c.2) (made_seen (q == w.from) w.number c.0) in
      let two : (a.0.given ≡ b.0.given) × (a.0.handles ≡ b.0.handles) = subst (λ v. (v.given ≡ b.0.given) × (v.handles ≡ b.0.handles)) (sym b.2) (counted_seen (q == node.owner) node w.to b.0) in
      subst (λ v. IsTable (ts_then q) v.given v.handles) (sym a.2) (held_then q c.0 node (q == w.to) c.1 some a.0 (two.0 ∙ one.0, two.1 ∙ one.1))

  -- the tables behind the wire
  tables_then : Tables ts_then (wired xs w)
  tables_then = by_node (node_named giver w.number) refl

  -- the names behind the wire
  names_then : NamesTo all rest (wired xs w)
  names_then q y is = by (slice_get xs q) refl (sym (wired_at xs w q) ∙ ap (option_map numbers_of) is)
    where
      by : (z : Option PeerPart) → slice_get xs q ≡ z → option_map (joins_at (w.from == q) w.number) (option_map numbers_of z) ≡ Some (numbers_of y) → all_joined (numbers_of y) (numbers_from q rest) ≡ name_numbers (wired_names all q)
      by None at here = absurd (cc here)
      by (Some x) at here = ap (λ ns. all_joined ns (numbers_from q rest)) (sym (same_Some (joins_at (w.from == q) w.number (numbers_of x)) (numbers_of y) here)) ∙ joins_first (w.from == q) w q rest (numbers_of x) ∙ names q x at

-- ---- all wires

-- the tables behind all wires
tables_end : (all : List Wire) (n : ℕ) (ws held : List Wire) (xs : Peers) (ts : ℕ → Table) → Wiring n held xs → AreWired n held ws → NamesTo all ws xs → Tables ts xs → Tables (wire_tables all ts ws) (fold wired xs ws)
tables_end all n [] held xs ts k wires names tables = tables
tables_end all n (w ∷ rest) held xs ts k wires names tables =
    tables_end all n rest (after_wire held w) (wired xs w) (ts_then all n held w rest xs ts k wires.0 names tables) (wire_kept n held xs k w wires.0) wires.1
    (names_then all n held w rest xs ts k wires.0 names tables) (tables_then all n held w rest xs ts k wires.0 names tables)

-- a part before any wire
first_part : (o : Opening) (here : ℕ) (specs : List PeerSpec) (q : ℕ) (x : PeerPart) → slice_get (peers_before o here specs) q ≡ Some x → (x.given ≡ 0) × (x.handles ≡ []) × (x.nodes ≡ [])
first_part o here [] q x is = absurd (cc is)
first_part o here (spec ∷ rest) zero x is = let same : peer_before o here spec ≡ x = same_Some (peer_before o here spec) x is in (sym (ap (λ y. y.given) same), sym (ap (λ y. y.handles) same), sym (ap (λ y. y.nodes) same))
first_part o here (spec ∷ rest) (suc q) x is = first_part o (here + 1) rest q x is

-- no table has no lines
no_table : IsTable (record { lines = []; given = 0 }) 0 []
no_table = record { given = refl; apart = tt; lines = λ l there. absurd there; records = λ h number there is. absurd there }

-- the tables of the opening state
pub tables_first : (o : Opening) → IsOpening o → (q : ℕ) (x : PeerPart) → IsPeer (opening_state o) q x → IsTable (start o.wires q) x.given x.handles
tables_first o valid =
    tables_end o.wires (length o.peers) o.wires [] (peers_before o 0 o.peers) (λ q. record { lines = []; given = 0 }) (before_wiring o) valid.wires
    (λ q x is. ap (λ ns. all_joined ns (numbers_from q o.wires)) (ap (map (λ n. n.number)) (first_part o 0 o.peers q x is).2) ∙ sym (new_names 0 [] (numbers_from q o.wires)))
    (λ q x is. let f = first_part o 0 o.peers q x is in subst (λ g. IsTable (record { lines = []; given = 0 }) g x.handles) (sym f.0) (subst (λ hs. IsTable (record { lines = []; given = 0 }) 0 hs) (sym f.1) no_table))

-- ---- the opening state

-- no peer has a call
no_calls : (o : Opening) (q : ℕ) (d : DriverPart) (x : PeerPart) → IsDriver (opening_state o) q d → IsPeer (opening_state o) q x → table o.wires (record_of_state (opening_state o)) q (calls_len (record_of_state (opening_state o)) q) ≡ start o.wires q
no_calls o q d x is_driver is_peer =
    let none : calls_of (record_of_state (opening_state o)) q ≡ [] = recorded_calls (opening_state o) q x d is_peer is_driver ∙ ap driver_calls (opening_idle o q d is_driver) in
    ap (λ calls. table_in (slots o.wires (record_of_state (opening_state o)) q) (start o.wires q) (take (length calls) calls)) none

-- every bus begins so
pub lines_begin : (o : Opening) → IsOpening o → TableIsLines o (opening_state o)
lines_begin o valid = record {
  given = λ q x is_peer. let d = driver_of q x is_peer in (agrees q d.0 x d.1 is_peer).given;
  gap = gaps_begin o;
  lines = λ q d x l is_driver is_peer none there. (agrees q d x is_driver is_peer).lines l there;
  records = λ q number d x h is_driver is_peer none there is. (agrees q d x is_driver is_peer).records h number there is;
}
  where
    driver_of : (q : ℕ) (x : PeerPart) → IsPeer (opening_state o) q x → (d : DriverPart) × IsDriver (opening_state o) q d
    driver_of q x is = let k = opening_numbered o in get_there (opening_state o).drivers q (let within = slice_get_within (opening_state o).peers q x is in omega (arith, within, k.as_many_drivers, k.as_many_peers))

    agrees : (q : ℕ) (d : DriverPart) (x : PeerPart) → IsDriver (opening_state o) q d → IsPeer (opening_state o) q x → IsTable (table o.wires (record_of_state (opening_state o)) q (calls_len (record_of_state (opening_state o)) q)) x.given x.handles
    agrees q d x is_driver is_peer = subst (λ t. IsTable t x.given x.handles) (sym (no_calls o q d x is_driver is_peer)) (tables_first o valid q x is_peer)
