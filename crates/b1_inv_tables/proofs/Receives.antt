-- A RECV at a part: the table after what it took has the lines of the records that it left, and a message's numbers are those of the record's contents.
use Rattle.std.proofs.Common.{◌≡◌, refl, sym, ap, subst, ◌∙◌, inl, ℕ, Bool, true, false, List, [], ◌∷◌, map, drop, fold, zip, length, Option, Some, Ok, Err, Result, option_map}
use Rattle.std.specs.Prelude.{⊤}
use native.Mathlib.Omega.{arith}
use Rattle.b1_model.specs.declared.naming.Key.{Key}
use Rattle.b1_model.specs.declared.naming.NodeRef.{NodeRef}
use Rattle.b1_model.specs.declared.commands.Command.TheVariants as cmd
use Rattle.b1_model.specs.declared.parts.Slot.{Slot}
use Rattle.b1_model.specs.declared.entries.Entry.{Entry}
use Rattle.b1_model.specs.declared.entries.Entry.TheVariants.{Message, OwnNotice, ForeignNotice, ReleaseNotice}
use Rattle.b1_model.specs.declared.answers.Answer.TheVariants as ans
use Rattle.b1_model.specs.declared.answers.Front.{Front}
use Rattle.b1_model.specs.declared.answers.Receipt.{Receipt}
use Rattle.b1_model.specs.Names.{Node, Name}
use Rattle.b1_model.specs.Ledger.{Table, received_all, changed as table_changed}
use Rattle.b1_model.specs.MachineParts.{PeerPart, is_staged, is_data, carried, slots_of}
use Rattle.b1_model.specs.MachinePool.{published}
use Rattle.b1_model.specs.MachineTables.{changed, foreign, unexpected, made_dead}
use Rattle.b1_model.specs.MachineReceive.{Arriving, discards, discarded, cleared, slot_arrives, taken_entry, front_by, front_taken, received, received_part}
use Rattle.b1_step.specs.Rights.{Has}
use Rattle.b1_step.specs.Ordered.{Rising}
use Rattle.b1_step.proofs.Lists.{has_right}
use Rattle.b1_step.proofs.Records.{kept_unexpected}
use Rattle.b1_inv.specs.Numbers.{AreNumbered}
use Rattle.b1_inv.specs.References.{AreFilled, carried_times}
use Rattle.b1_inv_record.specs.Epochs.{ref_of}
use Rattle.b1_inv_refs.proofs.Amounts.{Items}
use Rattle.b1_inv_refs.proofs.Arrivals.{InFlight, Cleared, is_cleared, all_removed, carried_cons, queue_parts}
use Rattle.b1_inv_refs.proofs.Flying.{numbers_closed}
use Rattle.b1_inv_refs.proofs.Receipts.{Flies, HasSlots}
use Rattle.b1_inv_refs.proofs.Tables.{at_discards}
use Rattle.b1_inv_tables.proofs.Agrees.{IsTable, LinesKept, lines_same, lines_trans, lines_of_kept, same_kept, kept_table}
use Rattle.b1_inv_tables.proofs.Slots.{OwnNumbers}
use Rattle.b1_inv_tables.proofs.Arrives.{SlotsCome, slots_come}

-- ---- the removals

-- a removal
discard_lines : (e : Entry) (x : PeerPart) → Rising x.handles → LinesKept x.handles (discarded x e).handles
discard_lines (Message origin user index serial offset len nodes slots handles payload) x up = lines_of_kept x.handles (unexpected (foreign x.me nodes) x.handles) (kept_unexpected (foreign x.me nodes) x.handles)
discard_lines (OwnNotice serial index) x up = lines_same x.handles
discard_lines (ForeignNotice node index) x up = same_kept node made_dead (λ h. refl) x.handles up (λ h. record { node = refl; number = refl; held = refl })
discard_lines (ReleaseNotice serial) x up = lines_same x.handles

-- all removals
discards_lines : (es : Items) (x : PeerPart) → Rising x.handles → LinesKept x.handles (fold (λ y f. discarded y f.1) x es).handles
discards_lines [] x up = lines_same x.handles
discards_lines (f ∷ rest) x up =
    lines_trans x.handles (discarded x f.1).handles (fold (λ y g. discarded y g.1) (discarded x f.1) rest).handles
    (discard_lines f.1 x up) (discards_lines rest (discarded x f.1) ((all_removed ((f.0, f.1) ∷ []) x).rising up))

-- the removals leave what a table sees
pub cleared_lines : (x : PeerPart) → Rising x.handles → LinesKept x.handles (cleared x).handles
cleared_lines x up = discards_lines (discards x) (record x { queue = drop (length (discards x)) x.queue }) up

-- the removals leave numbers
pub cleared_numbered : (x : PeerPart) → AreNumbered x.given x.handles → AreNumbered (cleared x).given (cleared x).handles
cleared_numbered x all = at_discards AreNumbered (λ m. ⊤) numbers_closed (discards x) (record x { queue = drop (length (discards x)) x.queue }) all

-- ---- what is taken

-- the look-up of slots gives the nodes of every committed message of a queue
abbrev pub Looks : (Key → List (Option Node)) → Items → Type 0
Looks look queue = (f : Key × Entry) → Has queue f → is_data f.1 ≡ true → is_staged f ≡ false → map (option_map ref_of) (look f.0) ≡ map Some (carried f.1)

-- the table after what a RECV took
abbrev pub table_after : (Key → List (Option Node)) → Result Receipt Front → Table → Table
table_after look (Ok receipt) t = table_changed look cmd.Recv (ans.Got receipt) t
table_after look (Err front) t = t

module _ (x : PeerPart) (up : Rising x.handles) (all : AreNumbered x.given x.handles) (flies : Flies x) (filled : HasSlots x) (own : OwnNumbers x.nodes) (t : Table) (k : IsTable t x.given x.handles) where
  -- what the removals leave
  clear : Cleared x
  clear = is_cleared x up

  -- the table has the lines of the records then
  pub cleared_table : IsTable t (cleared x).given (cleared x).handles
  cleared_table = subst (λ g. IsTable t g (cleared x).handles) (sym clear.given) (kept_table t x.given x.handles (cleared x).handles all (cleared_lines x up) k)

  -- nodes have own numbers then
  own_cleared : OwnNumbers (cleared x).nodes
  own_cleared = subst OwnNumbers (sym clear.nodes) own

  -- the part from which the slots of the front arrive
  abbrev pub start_at : Items → ℕ → Arriving
  start_at rest offset = record { part = record (cleared x) { queue = rest; slices = published offset (cleared x).slices }; numbers = []; refs = [] }

  -- each carried node of the front is in flight
  pub front_flies : (key : Key) (e : Entry) (rest : Items) → (cleared x).queue ≡ (key, e) ∷ rest → InFlight x.me (carried e) (cleared x).handles
  front_flies key e rest queue m apart =
      let one = clear.flight m apart (flies m apart) ∙ ap (carried_times m) queue ∙ carried_cons m (key, e) rest in
      omega (arith, one)

  -- the slots of the front arrive
  pub front_comes : (late : Node → Bool) (known : List Name) (dead : NodeRef → Bool) (key : Key) (rest : Items) (origin user index serial offset len : ℕ) (nodes : List NodeRef) (slots : List Slot) (handles payload : List ℕ) (nodes_of : List (Option Node))
      → (cleared x).queue ≡ (key, Message origin user index serial offset len nodes slots handles payload) ∷ rest → AreFilled x.me nodes slots → map (option_map ref_of) nodes_of ≡ map Some nodes
      → SlotsCome x.me late known dead (start_at rest offset) (fold slot_arrives (start_at rest offset) (zip nodes slots)) t nodes slots nodes_of
  front_comes late known dead key rest origin user index serial offset len nodes slots handles payload nodes_of queue fills same =
      slots_come x.me late known dead nodes slots nodes_of (start_at rest offset) t clear.me clear.rising (cleared_numbered x all) own_cleared fills
      (front_flies key (Message origin user index serial offset len nodes slots handles payload) rest queue) same cleared_table

  module _ (look : Key → List (Option Node)) (looks : Looks look x.queue) where
    -- the front is taken
    taken_table : (key : Key) (e : Entry) (rest : Items) → (cleared x).queue ≡ (key, e) ∷ rest → (is_data e ≡ true → AreFilled x.me (carried e) (slots_of e) × (map (option_map ref_of) (look key) ≡ map Some (carried e)))
        → IsTable (table_after look (Ok (taken_entry (record (cleared x) { queue = rest }) key e).0) t) (taken_entry (record (cleared x) { queue = rest }) key e).1.given (taken_entry (record (cleared x) { queue = rest }) key e).1.handles
    taken_table key (Message origin user index serial offset len nodes slots handles payload) rest queue is_message =
        let c = front_comes (λ n. false) [] (λ n. false) key rest origin user index serial offset len nodes slots handles payload (look key) queue (is_message refl).0 (is_message refl).1 in
        subst (λ ns. IsTable (received_all (look key) ns t) (fold slot_arrives (start_at rest offset) (zip nodes slots)).part.given (fold slot_arrives (start_at rest offset) (zip nodes slots)).part.handles) (sym c.added) c.table
    taken_table key (OwnNotice serial index) rest queue is_message = cleared_table
    taken_table key (ForeignNotice node index) rest queue is_message =
        kept_table t (cleared x).given (cleared x).handles (changed node made_dead (cleared x).handles) (cleared_numbered x all)
        (same_kept node made_dead (λ h. refl) (cleared x).handles clear.rising (λ h. record { node = refl; number = refl; held = refl })) cleared_table
    taken_table key (ReleaseNotice serial) rest queue is_message = cleared_table

    -- the front is taken, where it is committed
    front_table : (b : Bool) (f : Key × Entry) (rest : Items) → is_staged f ≡ b → (cleared x).queue ≡ f ∷ rest
        → IsTable (table_after look (front_by b (cleared x) f rest).0 t) (front_by b (cleared x) f rest).1.given (front_by b (cleared x) f rest).1.handles
    front_table true f rest is queue = cleared_table
    front_table false f rest is queue = taken_table f.0 f.1 rest queue (λ is_message. (filled f there is_message is, looks f there is_message is))
      where
        there : Has x.queue f
        there = subst (λ l. Has l f) (sym (queue_parts x)) (has_right (discards x) (cleared x).queue f (subst (λ l. Has l f) (sym queue) (inl refl)))

    -- the front is taken, if there is one
    by_queue : (queue : Items) → (cleared x).queue ≡ queue → IsTable (table_after look (front_taken (cleared x) queue).0 t) (front_taken (cleared x) queue).1.given (front_taken (cleared x) queue).1.handles
    by_queue [] is = cleared_table
    by_queue (f ∷ rest) is = front_table (is_staged f) f rest refl is

    -- the table after a RECV has the lines of the records
    pub recv_table : IsTable (table_after look (received x).front t) (received_part x).given (received_part x).handles
    recv_table = by_queue (cleared x).queue refl
