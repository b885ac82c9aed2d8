-- A step keeps the lines of each peer's table its numbered records.
use Rattle.std.proofs.Common.{◌≡◌, ◌≢◌, ◌⊎◌, refl, sym, ap, subst, ◌∙◌, inl, inr, ℕ, Bool, true, false, List, [], map, take, Option, Some, None, Ok, Err, option_map}
use Rattle.std.specs.Prelude.{slice_get}
use Rattle.std.proofs.lemmas.Bool.{eq-eqb}
use Rattle.std.proofs.lemmas.Option.{same_Some}
use native.Mathlib.Omega.{arith}
use Rattle.b1_model.specs.declared.commands.Command.{Command}
use Rattle.b1_model.specs.declared.naming.Key.{Key}
use Rattle.b1_model.specs.declared.naming.NodeRef.{NodeRef}
use Rattle.b1_model.specs.declared.naming.Opening.{Opening}
use Rattle.b1_model.specs.declared.entries.Entry.{Entry}
use Rattle.b1_model.specs.declared.entries.Entry.TheVariants.{Message, OwnNotice, ForeignNotice, ReleaseNotice}
use Rattle.b1_model.specs.declared.events.Action.{Action}
use Rattle.b1_model.specs.declared.events.Action.TheVariants as act
use Rattle.b1_model.specs.Names.{Node, calls_of, is_given}
use Rattle.b1_model.specs.Ledger.{Table, Message as LedgerMessage, is_accepted, is_node_of, to_at, table_in, start, slots, slots_by, message, table, lowered}
use Rattle.b1_model.specs.MachineParts.{PeerPart, DriverPart, State, is_staged, is_data, carried, slots_of}
use Rattle.b1_model.specs.MachineTables.{held_node}
use Rattle.b1_model.specs.MachineReceive.{received, released, released_by, given_up}
use Rattle.b1_model.specs.MachineDriver.{peer_of, turn}
use Rattle.b1_model.specs.MachineTook.{driver_calls}
use Rattle.b1_model.specs.MachineEvents.{happens}
use Rattle.b1_model.specs.MachineStep.{Step, record_of_state}
use Rattle.b1_step.specs.Rights.{Has}
use Rattle.b1_step.proofs.Locality.{own_driver}
use Rattle.b1_ledger.specs.Growth.{calls_len}
use Rattle.b1_ledger.proofs.Grows.{Found}
use Rattle.b1_ledger.proofs.Sequences.{take-end}
use Rattle.b1_ledger.proofs.Stable.{take_same}
use Rattle.b1_inv.specs.Words.{IsPeer, IsDriver}
use Rattle.b1_inv.specs.Numbers.{AreNumbered}
use Rattle.b1_inv.specs.References.{AreFilled}
use Rattle.b1_inv.specs.Sound.{IsSound}
use Rattle.b1_inv_record.specs.Epochs.{in_gap, ref_of, awaits_flush}
use Rattle.b1_inv_record.specs.Entries.{IsCallOf}
use Rattle.b1_inv_record.specs.Right.{IsRight}
use Rattle.b1_inv_tools.proofs.Leaves.{peer_cases}
use Rattle.b1_inv_notices.proofs.Turns.{parts, going, going_doing, going_action, going_answer}
use Rattle.b1_inv_refs.proofs.Receipts.{Flies, HasSlots}
use Rattle.b1_inv_names.proofs.Recorded.{recorded_calls}
use Rattle.b1_inv_tables.proofs.Lines.{AreApart}
use Rattle.b1_inv_tables.proofs.Agrees.{IsTable, kept_table}
use Rattle.b1_inv_tables.proofs.References.{release_table}
use Rattle.b1_inv_tables.proofs.Slots.{OwnNumbers}
use Rattle.b1_inv_tables.proofs.Receives.{Looks, table_after, recv_table}
use Rattle.b1_inv_tables.proofs.Values.{phase_table, turn_table, value, listed, value_is, value_before, value_behind, gap_before, gap_behind}
use Rattle.b1_inv_tables.proofs.Deeds.{is_plain, emptied, Stays, Empties, Receives, Releases, Flushes, Deed}
use Rattle.b1_inv_tables.proofs.FirstDeeds.{deed}
use Rattle.b1_inv_tables.proofs.Plain.{SameTable, same_table, plain_event}
use Rattle.b1_inv_tables.proofs.Apart.{table_apart, own_numbers}
use Rattle.b1_inv_tables.proofs.Grown.{kept, table_stays, message_stays}

-- the table at the end of a peer's calls
abbrev pub end_table : Opening → State → ℕ → Table
end_table o s q = table o.wires (record_of_state s) q (calls_len (record_of_state s) q)

-- the slots of a message that is known
look_is : (p : ℕ) (key : Key) (z : Option LedgerMessage) (m : LedgerMessage) (serial : ℕ) → z ≡ Some m → is_accepted (slice_get m.places key.index) ≡ true → option_map ref_of (to_at m key.index) ≡ Some (record { owner = p; serial = serial })
    → slots_by (λ stamp origin. z) p key ≡ m.carried
look_is p key z m serial is accepted goes = rw (is, accepted, mine (to_at m key.index) goes) refl
  where
    mine : (x : Option Node) → option_map ref_of x ≡ Some (record { owner = p; serial = serial }) → is_node_of p x ≡ true
    mine None none = absurd (cc none)
    mine (Some x) same = let node : ref_of x ≡ record { owner = p; serial = serial } = cc same in eq-eqb x.owner p (ap (λ n. n.owner) node)

-- a part whose table was emptied and whose records are gone
empty_table : (t : Table) (count : ℕ) → count ≡ t.given → t.lines ≡ [] → IsTable t count []
empty_table t count given none = record {
  given = given;
  apart = subst (λ ls. AreApart ls) (sym none) tt;
  lines = λ l there. absurd (subst (λ ls. Has ls l) none there);
  records = λ h number there is. absurd there;
}

module _ {o : Opening} {s : State} (sound : IsSound o s) (right : IsRight o s) where
  -- what is so of each peer out of a gap
  pub table_before : (q : ℕ) (d : DriverPart) (x : PeerPart) → IsDriver s q d → IsPeer s q x → in_gap d ≡ false → IsTable (end_table o s q) x.given x.handles
  table_before q d x is_driver is_peer none = record {
    given = right.names.lines.given q x is_peer;
    apart = table_apart o.wires (record_of_state s) q (calls_len (record_of_state s) q);
    lines = λ l there. right.names.lines.lines q d x l is_driver is_peer none there;
    records = λ h number there is. right.names.lines.records q number d x h is_driver is_peer none there is;
  }

  -- a peer's records have numbers of their own
  pub numbered : (q : ℕ) (x : PeerPart) → IsPeer s q x → AreNumbered x.given x.handles
  numbered q x is_peer = sound.numbers.numbered q x is_peer

  -- a peer's part has its number
  pub me_is : (q : ℕ) (x : PeerPart) → IsPeer s q x → x.me ≡ q
  me_is q x is_peer = (sound.numbered.peers q x is_peer).me

  -- flights are counted
  pub flies : (q : ℕ) (x : PeerPart) → IsPeer s q x → Flies x
  flies q x is_peer node apart = sound.flights.counted q x node is_peer (λ same. apart (same ∙ sym (me_is q x is_peer)))

  -- committed messages have their slots
  pub has_slots : (q : ℕ) (x : PeerPart) → IsPeer s q x → HasSlots x
  has_slots q x is_peer f there is_message even = subst (λ r. AreFilled r (carried f.1) (slots_of f.1)) (sym (me_is q x is_peer)) (sound.slots.filled q x f is_peer there is_message even)

  -- nodes have own numbers
  pub own_numbered : (q : ℕ) (x : PeerPart) → IsPeer s q x → OwnNumbers x.nodes
  own_numbered q x is_peer = own_numbers x.nodes (sound.receipts.nodes q x is_peer).own

  -- what each committed message of a queue is in the record
  pub called : (q : ℕ) (x : PeerPart) (f : Key × Entry) → IsPeer s q x → Has x.queue f → is_data f.1 ≡ true → is_staged f ≡ false → (m : LedgerMessage) × (message o.wires (record_of_state s) f.0.stamp f.0.origin ≡ Some m) × IsCallOf q f.0 f.1 m
  called q x f is_peer there is_message even = right.entries.called.sent q x f is_peer there is_message even

-- the slots of an entry's key, by its message
slots_of_call : (q : ℕ) (k : Key) (e : Entry) (m : LedgerMessage) (z : Option LedgerMessage) → z ≡ Some m → IsCallOf q k e m → map (option_map ref_of) (slots_by (λ stamp origin. z) q k) ≡ map Some (carried e)
slots_of_call q k (Message origin user index serial offset len nodes list handles payload) m z is call = ap (map (option_map ref_of)) (look_is q k z m serial is call.0 call.1) ∙ call.2
slots_of_call q k (OwnNotice serial index) m z is call = absurd call
slots_of_call q k (ForeignNotice node index) m z is call = absurd call
slots_of_call q k (ReleaseNotice serial) m z is call = absurd call

module _ {o : Opening} {s : State} {p : ℕ} {c : Option Command} {t : State} (sound : IsSound o s) (right : IsRight o s) (step : Step o s p c t) where
  -- the nodes of the slots of messages, by the record after the step
  abbrev look : Key → List (Option Node)
  look = slots o.wires (record_of_state t) p

  -- the table behind the calls of the driver's list
  abbrev w : Table
  w = listed look (start o.wires p) step.driver

  -- the slots of every committed message of the driver's own peer
  pub looks : (x : PeerPart) → IsPeer s p x → Looks look x.queue
  looks x is_peer f there is_message even =
      let call = called sound right p x f is_peer there is_message even in
      slots_of_call p f.0 f.1 call.0 (message o.wires (record_of_state t) f.0.stamp f.0.origin) (message_stays sound step right.legal f.0.stamp f.0.origin call.0 call.1) call.2

  -- ---- the tables before and after, by the driver's part

  -- the table at the end before
  old_end : (x : PeerPart) → IsPeer s p x → value look (start o.wires p) step.driver ≡ end_table o s p
  old_end x is_peer =
      let calls : calls_of (record_of_state s) p ≡ driver_calls step.driver = recorded_calls s p x step.driver is_peer step.is_driver in
      let taken : take (calls_len (record_of_state s) p) (calls_of (record_of_state t) p) ≡ driver_calls step.driver =
      take_same o.wires (Found (record_of_state s)) (record_of_state s) (record_of_state t) (kept sound step right.legal) p (calls_len (record_of_state s) p) (omega arith) ∙ take-end (calls_of (record_of_state s) p) ∙ calls
      in
      sym (value_is look (start o.wires p) step.driver) ∙ ap (table_in look (start o.wires p)) (sym taken) ∙ table_stays sound step right.legal p (calls_len (record_of_state s) p) (omega arith)

  -- the table at the end after
  new_end : (y : PeerPart) → IsPeer t p y → value look (start o.wires p) step.new_driver ≡ end_table o t p
  new_end y is_peer =
      let calls : calls_of (record_of_state t) p ≡ driver_calls step.new_driver = recorded_calls t p y step.new_driver is_peer (own_driver step) in
      sym (value_is look (start o.wires p) step.new_driver) ∙ ap (table_in look (start o.wires p)) (sym (take-end (calls_of (record_of_state t) p) ∙ calls))

  module _ (x y : PeerPart) (was : IsPeer s p x) (now : IsPeer t p y) where
    -- the table before, by the phase
    phase_is : phase_table look (parts step).command (parts step).phase w ≡ end_table o s p
    phase_is = sym (value_before look (start o.wires p) step) ∙ old_end x was

    -- the table after, by the turn
    turn_is : turn_table look (parts step).command (turn step.driver.me (parts step).command (parts step).phase (going_answer step)) w ≡ end_table o t p
    turn_is = sym (value_behind look (start o.wires p) step) ∙ new_end y now

    -- what is to be shown
    abbrev After : Type 0
    After = (y.given ≡ (end_table o t p).given) × (in_gap step.new_driver ≡ false → IsTable (end_table o t p) y.given y.handles)

    -- as many numbers were given
    before_given : x.given ≡ (end_table o s p).given
    before_given = right.names.lines.given p x was

    -- out of a gap by the phase
    old_gap : awaits_flush (parts step).command (parts step).phase ≡ false → in_gap step.driver ≡ false
    old_gap none = gap_before step ∙ none

    -- the table before has the lines of the records
    table_now : in_gap step.driver ≡ false → IsTable (end_table o s p) x.given x.handles
    table_now none = table_before sound right p step.driver x step.is_driver was none

    -- where the table stays
    stays : Stays look w (parts step).command o step.local.memory step.driver step.peer (parts step).phase step.driver.owed (going_action step) → SameTable x y → After
    stays k same =
        let tables : end_table o t p ≡ end_table o s p = sym turn_is ∙ k.table ∙ phase_is in
        let gaps : in_gap step.new_driver ≡ in_gap step.driver = gap_behind step ∙ k.gap ∙ sym (gap_before step) in (
          same.0 ∙ before_given ∙ ap (λ z. z.given) (sym tables),
          λ none. subst (λ u. IsTable u y.given y.handles) (sym tables) (subst (λ g. IsTable (end_table o s p) g y.handles) (sym same.0)
              (kept_table (end_table o s p) x.given x.handles y.handles (numbered sound right p x was) same.1 (table_now (sym gaps ∙ none)))),
        )

    -- where a reset empties it
    empties : Empties look w (parts step).command o step.local.memory step.driver step.peer (parts step).phase step.driver.owed (going_action step) → SameTable x y → After
    empties k same =
        let tables : end_table o t p ≡ emptied (end_table o s p) = sym turn_is ∙ k.table ∙ ap emptied phase_is in
        let gap : in_gap step.new_driver ≡ true = gap_behind step ∙ k.gap in (
          same.0 ∙ before_given ∙ ap (λ z. z.given) (sym tables),
          λ none. let both : true ≡ false = sym gap ∙ none in absurd (cc both),
        )

    -- the part after an event
    abbrev event : PeerPart → Action → PeerPart
    event z action = (happens o step.local.memory (going step) (going_doing step) action z).1

    -- after a RECV
    receives : Receives look w (parts step).command o step.local.memory step.driver step.peer (parts step).phase step.driver.owed (going_action step) → step.peer ≡ x → y ≡ event x act.Recv → After
    receives k at is =
        let tables : end_table o t p ≡ table_after look (received x).front (end_table o s p) = sym turn_is ∙ k.table ∙ ap (λ u. table_after look (received step.peer).front u) phase_is ∙ ap (λ z. table_after look (received z).front (end_table o s p)) at in
        let table : IsTable (end_table o t p) y.given y.handles = subst (λ u. IsTable u y.given y.handles) (sym tables) (subst (λ z. IsTable (table_after look (received x).front (end_table o s p)) z.given z.handles) (sym is)
        (recv_table x (sound.rising p x was) (numbered sound right p x was) (flies sound right p x was) (has_slots sound right p x was) (own_numbered sound right p x was) (end_table o s p) (table_now (old_gap k.gap)) look (looks x was))) in
        (table.given, λ none. table)

    -- after a release
    releases : (k : Releases look w (parts step).command o step.local.memory step.driver step.peer (parts step).phase step.driver.owed (going_action step)) → step.peer ≡ x → y ≡ event x act.Release → After
    releases k at is = by (is_given k.number) (held_node k.number x.handles) refl tables parts_is
      where
        tables : end_table o t p ≡ elim (released x k.number) [ Ok one ↦ record { lines = lowered k.number (end_table o s p).lines; given = (end_table o s p).given } | Err r ↦ end_table o s p ]
        tables =
            sym turn_is ∙ k.table
            ∙ ap (λ u. elim (released step.peer k.number) [ Ok one ↦ record { lines = lowered k.number u.lines; given = u.given } | Err r ↦ u ]) phase_is
            ∙ ap (λ z. elim (released z k.number) [ Ok one ↦ record { lines = lowered k.number (end_table o s p).lines; given = (end_table o s p).given } | Err r ↦ end_table o s p ]) at

        parts_is : y ≡ given_up (is_given k.number) (held_node k.number x.handles) x
        parts_is = is ∙ ap (λ n. given_up (is_given n) (held_node n x.handles) x) k.names

        by : (b : Bool) (held : Option NodeRef) → held_node k.number x.handles ≡ held
            → end_table o t p ≡ elim (released_by b held x k.number) [ Ok one ↦ record { lines = lowered k.number (end_table o s p).lines; given = (end_table o s p).given } | Err r ↦ end_table o s p ]
            → y ≡ given_up b held x → After
        by false held found same part =
            let table : IsTable (end_table o t p) y.given y.handles = subst (λ u. IsTable u y.given y.handles) (sym same) (subst (λ z. IsTable (end_table o s p) z.given z.handles) (sym part) (table_now (old_gap k.gap))) in
            (table.given, λ none. table)
        by true None found same part =
            let table : IsTable (end_table o t p) y.given y.handles = subst (λ u. IsTable u y.given y.handles) (sym same) (subst (λ z. IsTable (end_table o s p) z.given z.handles) (sym part) (table_now (old_gap k.gap))) in
            (table.given, λ none. table)
        by true (Some node) found same part =
            let table : IsTable (end_table o t p) y.given y.handles = subst (λ u. IsTable u y.given y.handles) (sym same) (subst (λ z. IsTable (record { lines = lowered k.number (end_table o s p).lines; given = (end_table o s p).given }) z.given z.handles) (sym part)
            (release_table (end_table o s p) x.given x.handles (sound.rising p x was) (numbered sound right p x was) (table_now (old_gap k.gap)) k.number node found)) in
            (table.given, λ none. table)

    -- after a flush
    flushes : Flushes look w (parts step).command o step.local.memory step.driver step.peer (parts step).phase step.driver.owed (going_action step) → y ≡ event x act.Flush → After
    flushes k is =
        let tables : end_table o t p ≡ end_table o s p = sym turn_is ∙ k.table ∙ phase_is in
        let none : (end_table o s p).lines ≡ [] = right.names.lines.gap p step.driver step.is_driver (gap_before step ∙ k.gap) in
        let given : y.given ≡ (end_table o t p).given = ap (λ z. z.given) is ∙ before_given ∙ ap (λ z. z.given) (sym tables) in
        (given, λ out. subst (λ hs. IsTable (end_table o t p) y.given hs) (sym (ap (λ z. z.handles) is)) (empty_table (end_table o t p) y.given given (ap (λ z. z.lines) tables ∙ none)))

    -- an event that is nowhere else is at the own peer
    at_own : (action : Action) → going_action step ≡ action → peer_of step.driver.me action ≡ step.driver.me → ((p ≡ step.at) × (y ≡ step.new_peer)) ⊎ ((p ≢ step.at) × IsPeer s p y) → (step.peer ≡ x) × (y ≡ event x action)
    at_own action is own (inl (at, new)) =
        let same : step.peer ≡ x = same_Some step.peer x (sym step.is_peer ∙ ap (slice_get s.peers) (sym at) ∙ was) in
        (same, new ∙ sym (parts step).is_peer ∙ ap (event step.peer) is ∙ ap (λ z. event z action) same)
    at_own action is own (inr (apart, there)) =
        absurd (apart (sym (sound.numbered.drivers p step.driver step.is_driver) ∙ sym own ∙ ap (peer_of step.driver.me) (sym is) ∙ (parts step).is_at))

    -- what a plain event leaves of the own part
    plain_own : is_plain (going_action step) ≡ true → ((p ≡ step.at) × (y ≡ step.new_peer)) ⊎ ((p ≢ step.at) × IsPeer s p y) → SameTable x y
    plain_own plain (inl (at, new)) =
        let same : step.peer ≡ x = same_Some step.peer x (sym step.is_peer ∙ ap (slice_get s.peers) (sym at) ∙ was) in
        subst (λ z. SameTable z y) same (subst (SameTable step.peer) ((parts step).is_peer ∙ sym new) (plain_event o step.local.memory (going step) (going_doing step) step.peer (going_action step) plain))
    plain_own plain (inr (apart, there)) = subst (λ z. SameTable x z) (same_Some x y (sym was ∙ there)) (same_table x)

    -- the own table after any event
    pub own_after : After
    own_after = by (deed look w o step.local.memory step.driver step.peer (parts step).command (parts step).phase step.driver.owed)
      where
        cases : ((p ≡ step.at) × (y ≡ step.new_peer)) ⊎ ((p ≢ step.at) × IsPeer s p y)
        cases = peer_cases step p y now

        by : Deed look w (parts step).command o step.local.memory step.driver step.peer (parts step).phase step.driver.owed (going_action step) → After
        by (inl (inl k)) = stays k (plain_own k.plain cases)
        by (inl (inr k)) = empties k (plain_own k.plain cases)
        by (inr (inl k)) = let e = at_own act.Recv k.event refl cases in receives k e.0 e.1
        by (inr (inr (inl k))) = let e = at_own act.Release k.event refl cases in releases k e.0 e.1
        by (inr (inr (inr k))) = let e = at_own act.Flush k.event refl cases in flushes k e.1
