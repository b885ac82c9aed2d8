-- A destroy notice that is taken has the number that the record gives it.
use Rattle.std.proofs.Common.{◌≡◌, ◌≢◌, refl, sym, ap, subst, ◌∙◌, inl, inr, ℕ, ◌<◌, ◌==◌, Bool, true, false, cond, List, [], ◌∷◌, map, get_or, length, Option, Some, None, option_map}
use Rattle.std.specs.Prelude.{slice_get, unwrap_or}
use Rattle.std.proofs.lemmas.Bool.{eq-eqb, ne_eqb, eqb-false}
use Rattle.std.proofs.lemmas.Option.{same_Some, slice_get-map, get_or_from_slice_get}
use Rattle.b1_model.specs.declared.naming.Key.{Key}
use Rattle.b1_model.specs.declared.naming.NodeRef.{NodeRef}
use Rattle.b1_model.specs.declared.naming.Opening.{Opening}
use Rattle.b1_model.specs.declared.entries.Entry.{Entry}
use Rattle.b1_model.specs.declared.entries.Entry.TheVariants.{OwnNotice, ForeignNotice}
use Rattle.b1_model.specs.declared.records.Record.{Record}
use Rattle.b1_model.specs.Names.{invalid, Node, Name, made, add_new, name_number, number_at}
use Rattle.b1_model.specs.Ledger.{Line, Table, table, line_number, is_the_node, doomed_at}
use Rattle.b1_model.specs.Legal.{notice_number}
use Rattle.b1_model.specs.MachineParts.{PeerPart, HandleRecord, State, is_staged, no_node, node_at, same_ref, no_record, record_of, record_or_none}
use Rattle.b1_model.specs.MachineReceive.{cleared}
use Rattle.b1_model.specs.MachineStep.{record_of_state}
use Rattle.b1_step.specs.Rights.{Has}
use Rattle.b1_step.proofs.Orders.{same_ref_is, same_ref_itself}
use Rattle.b1_inv.specs.Words.{IsPeer}
use Rattle.b1_inv.specs.Sound.{IsSound}
use Rattle.b1_ledger.specs.Growth.{calls_len, all_names}
use Rattle.b1_inv_record.specs.Epochs.{in_gap, awaits_flush, ref_of, is_ref}
use Rattle.b1_inv_record.specs.Names.{carried_open}
use Rattle.b1_inv_record.specs.Destructions.{own_ref}
use Rattle.b1_inv_record.specs.Right.{IsRight}
use Rattle.b1_inv_notices.proofs.Turns.{get_there}
use Rattle.b1_inv_refs.proofs.Arrivals.{Cleared, is_cleared}
use Rattle.b1_inv_refs.proofs.GivenUp.{found_has, one_record}
use Rattle.b1_inv_names.proofs.Numbers.{name_numbers}
use Rattle.b1_inv_legal.specs.Fronts.{CanTake}
use Rattle.b1_inv_legal.proofs.Sends.{made_end}
use Rattle.b1_inv_legal.proofs.Lines.{line_number_of}
use Rattle.b1_inv_legal.proofs.Doomed.{place_map}
use Rattle.b1_inv_legal.proofs.Front.{cleared_from, cleared_numbered}

-- a record, or what stands in place of none
abbrev or_none : NodeRef → Option HandleRecord → HandleRecord
or_none node found = elim found [ None ↦ no_record node | Some h ↦ h ]

-- a line of a node gives the node some number
number_found : (y : Node) (ls : List Line) (l : Line) → Has ls l → is_the_node y l.node ≡ true → (n : ℕ) × (line_number y ls ≡ Some n)
number_found y [] l has is = absurd has
number_found y (m ∷ ls) l has is = by (is_the_node y m.node) refl has (λ there. number_found y ls l there is)
  where
    by : (b : Bool) → is_the_node y m.node ≡ b → Has (m ∷ ls) l → (Has ls l → (n : ℕ) × (line_number y ls ≡ Some n)) → (n : ℕ) × (cond b (Some m.number) (line_number y ls) ≡ Some n)
    by true at has further = (m.number, refl)
    by false at (inl same) further = let both : true ≡ false = sym is ∙ ap (λ z. is_the_node y z.node) same ∙ at in absurd (cc both)
    by false at (inr there) further = further there

-- a node and the record's node, by the reference
the_node_of : (y : Node) (z : Option Node) (node : NodeRef) → ref_of y ≡ node → is_ref node z ≡ true → is_the_node y z ≡ true
the_node_of y None node of is = absurd (cc is)
the_node_of y (Some w) node of is =
    let same : ref_of w ≡ node = same_ref_is (ref_of w) node is in
    ap (λ r. same_ref (ref_of y) r) (same ∙ sym of) ∙ same_ref_itself (ref_of y)

ref_of_the_node : (y : Node) (z : Option Node) (node other : NodeRef) → ref_of y ≡ node → is_the_node y z ≡ true → is_ref other z ≡ true → other ≡ node
ref_of_the_node y None node other of is also = absurd (cc is)
ref_of_the_node y (Some w) node other of is also = sym (same_ref_is (ref_of w) other also) ∙ sym (same_ref_is (ref_of y) (ref_of w) is) ∙ of

-- the node that has a reference
pub mapped : (z : Option Node) (node : NodeRef) → option_map ref_of z ≡ Some node → (y : Node) × (z ≡ Some y) × (ref_of y ≡ node)
mapped None node is = absurd (cc is)
mapped (Some y) node is = (y, refl, same_Some (ref_of y) node is)

same_number : (k l n : ℕ) (h g : HandleRecord) → l ≡ k → h.number ≡ Some l → h ≡ g → g.number ≡ Some n → Some k ≡ Some n
same_number k l n h g is of same number = ap Some (sym is) ∙ sym of ∙ ap (λ z. z.number) same ∙ number

module _ {o : Opening} {s : State} (sound : IsSound o s) (right : IsRight o s) {p : ℕ} {x : PeerPart} {f : Key × Entry} {rest : List (Key × Entry)} (can : CanTake s p x f rest) where
  abbrev r : Record
  r = record_of_state s

  abbrev known : List Name
  known = made o.wires r p (calls_len r p)

  abbrev tab : Table
  tab = table o.wires r p (calls_len r p)

  no_gap : in_gap can.driver ≡ false
  no_gap = ap (λ doing. elim doing [ None ↦ false | Some one ↦ awaits_flush one.command one.phase ]) can.idle

  -- at rest, the names of the record have the numbers of the nodes
  pub rest_numbers : map (λ m. m.number) x.nodes ≡ map (λ m. m.number) known
  rest_numbers =
      right.names.made.made p can.driver x can.is_driver can.is_peer
      ∙ ap (λ doing. name_numbers (add_new x.epoch (all_names o.wires r p) (elim doing [ None ↦ [] | Some one ↦ carried_open one.command one.phase ]))) can.idle
      ∙ ap name_numbers (sym (made_end o r p))

  -- the own number of a node that was made
  pub own_number : (serial : ℕ) → serial < length x.nodes → number_at known serial ≡ Some (node_at x serial).number
  own_number serial low =
      let n = get_there x.nodes serial low in
      let m = place_map (λ z. z.number) known serial n.0.number (ap (λ l. slice_get l serial) (sym rest_numbers) ∙ slice_get-map (λ z. z.number) x.nodes serial ∙ ap (option_map (λ z. z.number)) n.1) in
      ap name_number m.1 ∙ ap Some (m.2 ∙ ap (λ z. z.number) (sym (get_or_from_slice_get x.nodes serial n.0 no_node n.1)))

  -- the number under which another peer's node is held
  pub held_number : (y : Node) (g : HandleRecord) (n : ℕ) → Has x.handles g → ref_of y ≡ g.node → g.number ≡ Some n → line_number y tab.lines ≡ Some n
  held_number y g n there of number =
      let l = right.names.lines.records p n can.driver x g can.is_driver can.is_peer no_gap there number in
      let k = number_found y tab.lines l.0 l.1 (the_node_of y l.0.node g.node of l.2.2) in
      let m = line_number_of y tab.lines k.0 k.1 in
      let h = right.names.lines.lines p can.driver x m.0 can.is_driver can.is_peer no_gap m.1 in
      let same : h.0 ≡ g = one_record x.handles h.0 g (sound.rising p x can.is_peer) h.1 there (ref_of_the_node y m.0.node g.node h.0.node of m.3 h.2.2) in
      k.1 ∙ same_number k.0 m.0.number n h.0 g m.2 h.2.0 same number

  parts_cleared : Cleared x
  parts_cleared = is_cleared x (sound.rising p x can.is_peer)

  -- ---- a notice of an own node

  module _ (k : Key) (serial index : ℕ) (has : Has x.queue (k, OwnNotice serial index)) (even : is_staged (k, OwnNotice serial index) ≡ false) where
    made_low : serial < length x.nodes
    made_low = right.parts.serials.made p x (k, OwnNotice serial index) can.is_peer has

    own_node_of : (y : Node) × (doomed_at o.wires r k ≡ Some y) × (ref_of y ≡ own_ref p serial)
    own_node_of =
        let n = get_there x.nodes serial made_low in
        mapped (doomed_at o.wires r k) (own_ref p serial) (right.destructions.keys.node p serial x n.0 k can.is_peer n.1 (right.destructions.own.queued p index serial x k can.is_peer has even))

    -- the number of a taken notice of an own node
    pub own_notice_sent : notice_number p known tab (doomed_at o.wires r k) ≡ Some (node_at (cleared x) serial).number
    own_notice_sent =
        let y = own_node_of in
        ap (notice_number p known tab) y.1
        ∙ ap (λ b. cond b (number_at known y.0.serial) (line_number y.0 tab.lines)) (eq-eqb y.0.owner p (ap (λ z. z.owner) y.2))
        ∙ ap (number_at known) (ap (λ z. z.serial) y.2)
        ∙ own_number serial made_low
        ∙ ap (λ nodes. Some (get_or nodes serial no_node).number) (sym parts_cleared.nodes)

  -- ---- a notice of another peer's node

  module _ (k : Key) (node : NodeRef) (index : ℕ) (has : Has x.queue (k, ForeignNotice node index)) (even : is_staged (k, ForeignNotice node index) ≡ false) (held : ((record_or_none node x.handles).held == 0) ≡ false) where
    still_held : (record_or_none node (cleared x).handles).held ≢ 0
    still_held none = eqb-false (record_or_none node x.handles).held 0 held (sym (parts_cleared.held node) ∙ none)

    -- the record that the notice finds, and the old one
    found : (n : ℕ) × (g : HandleRecord) × Has x.handles g × (g.node ≡ node) × (g.number ≡ Some n) × (unwrap_or (record_or_none node (cleared x).handles).number invalid ≡ n)
    found = at (record_of node (cleared x).handles) refl still_held
      where
        by_number : (h : HandleRecord) → Has (cleared x).handles h → h.node ≡ node → h.held ≢ 0 → (number : Option ℕ) → h.number ≡ number → (n : ℕ) × (g : HandleRecord) × Has x.handles g × (g.node ≡ node) × (g.number ≡ Some n) × (unwrap_or h.number invalid ≡ n)
        by_number h there of some None is = absurd (some ((cleared_numbered x (sound.numbers.numbered p x can.is_peer)).unheld h there is))
        by_number h there of some (Some n) is = let g = cleared_from x h there in (n, g.0, g.1, g.2 ∙ of, g.3 ∙ is, ap (λ z. unwrap_or z invalid) is)

        at : (found : Option HandleRecord) → record_of node (cleared x).handles ≡ found → (or_none node found).held ≢ 0
            → (n : ℕ) × (g : HandleRecord) × Has x.handles g × (g.node ≡ node) × (g.number ≡ Some n) × (unwrap_or (or_none node found).number invalid ≡ n)
        at None is some = absurd (some refl)
        at (Some h) is some = let t = found_has (λ z. same_ref z.node node) (cleared x).handles h is in by_number h t.0 (same_ref_is h.node node t.1) some h.number refl

    foreign_node_of : (y : Node) × (doomed_at o.wires r k ≡ Some y) × (ref_of y ≡ node)
    foreign_node_of =
        let g = found in
        let z = sound.flights.made p x g.1 can.is_peer g.2 in
        let owner = subst (λ m. (w : PeerPart) × IsPeer s m.owner w × (m.serial < length w.nodes)) g.3 z in
        let n = get_there owner.0.nodes node.serial owner.2 in
        mapped (doomed_at o.wires r k) node (right.destructions.keys.node node.owner node.serial owner.0 n.0 k owner.1 n.1 (right.destructions.foreign.queued p index x k node can.is_peer has even))

    -- the number of a taken notice of another peer's node
    pub foreign_notice_sent : notice_number p known tab (doomed_at o.wires r k) ≡ Some (unwrap_or (record_or_none node (cleared x).handles).number invalid)
    foreign_notice_sent =
        let y = foreign_node_of in
        let g = found in
        let apart : y.0.owner ≢ p = λ same. (sound.notices.queued p x (k, ForeignNotice node index) can.is_peer has).2 (ap (λ z. z.owner) (sym y.2) ∙ same) in
        ap (notice_number p known tab) y.1
        ∙ ap (λ b. cond b (number_at known y.0.serial) (line_number y.0 tab.lines)) (ne_eqb y.0.owner p apart)
        ∙ held_number y.0 g.1 g.0 g.2 (y.2 ∙ sym g.3) g.4
        ∙ ap Some (sym g.5)
