-- The stamp of a destruction keeps the record legal: it is above all that owners and holders of its nodes took.
use Rattle.std.proofs.Common.{◌≡◌, ◌≢◌, ◌⊎◌, refl, sym, ap, subst, ◌∙◌, inl, inr, ℕ, suc, ◌<◌, ◌==◌, Bool, true, false, cond, ◌||◌, List, [], map, Some, None}
use Rattle.std.specs.Prelude.{slice_get, is_some}
use Rattle.std.proofs.lemmas.Bool.{and_parts, eqb-true, ne_eqb, cases_eq}
use Rattle.std.proofs.lemmas.Option.{same_Some}
use native.Mathlib.Omega.{arith}
use Rattle.b1_model.specs.declared.commands.Command.{Command}
use Rattle.b1_model.specs.declared.commands.Command.TheVariants as cmd
use Rattle.b1_model.specs.declared.naming.Key.{Key}
use Rattle.b1_model.specs.declared.naming.Opening.{Opening}
use Rattle.b1_model.specs.declared.answers.Answer.{Answer}
use Rattle.b1_model.specs.declared.answers.Answer.TheVariants as ans
use Rattle.b1_model.specs.declared.answers.Receipt.TheVariants as rec
use Rattle.b1_model.specs.declared.events.Destruction.{Destruction as Open}
use Rattle.b1_model.specs.declared.events.Phase.TheVariants.{Dooming}
use Rattle.b1_model.specs.declared.records.Call.{Call}
use Rattle.b1_model.specs.declared.records.Record.{Record}
use Rattle.b1_model.specs.Names.{Node, Name, calls_of, made, carried_by, add_new, epoch_at}
use Rattle.b1_model.specs.Ledger.{got_key, Message, message, to_at, is_accepted, is_node_of, table, line_number, is_destroyed_in, is_late}
use Rattle.b1_model.specs.Legal.{seen_stamp, is_notice_of, IsNextReceipt, Legal}
use Rattle.b1_model.specs.MachineParts.{PeerPart, DriverPart, State, is_dying, node_at}
use Rattle.b1_model.specs.MachineSend.{final_stamp}
use Rattle.b1_model.specs.MachineDriver.{is_flushing}
use Rattle.b1_model.specs.MachineTook.{as_call, stamped_answer}
use Rattle.b1_model.specs.MachineEvents.{collected_of}
use Rattle.b1_model.specs.MachineStep.{record_of_state}
use Rattle.b1_step.specs.Rights.{Has}
use Rattle.b1_inv.specs.Words.{IsPeer, IsDriver}
use Rattle.b1_inv.specs.Notices.{IsDestroying}
use Rattle.b1_inv.specs.Sound.{IsSound}
use Rattle.b1_ledger.specs.Growth.{Appends, calls_len, all_names, message_key, destroy_stamp, next_destruction, DestroysAbove, Names}
use Rattle.b1_ledger.proofs.Sequences.{option_cases}
use Rattle.b1_ledger.proofs.Calls.{made_new}
use Rattle.b1_ledger.proofs.NextAfter.{is_peer}
use Rattle.b1_ledger.proofs.Stamped.{legal_doomed}
use Rattle.b1_inv_record.specs.Names.{carried_open}
use Rattle.b1_inv_record.specs.Holders.{left_of, IsSeen, IsDue, collected_now}
use Rattle.b1_inv_record.specs.Right.{IsRight}
use Rattle.b1_inv_notices.proofs.Turns.{doing_in, get_there}
use Rattle.b1_inv_names.proofs.Numbers.{name_numbers}
use Rattle.b1_inv_legal.proofs.NewStamp.{above_clock, above_collected, listed_at, new_stamp}
use Rattle.b1_inv_legal.proofs.Grown.{records_length}
use Rattle.b1_inv_legal.proofs.Sends.{made_end}
use Rattle.b1_inv_legal.proofs.Lines.{line_number_of}
use Rattle.b1_inv_legal.proofs.Tables.{is_entry_of, carried_has_line}
use Rattle.b1_inv_legal.proofs.Doomed.{the_node, named_ends, flushed_ends}

-- the stamp of a receipt counts for later calls
pub got_seen : (a : Answer) (key : Key) → got_key a ≡ Some key → seen_stamp a ≡ Some key.stamp
got_seen (ans.Got (rec.Message k number offset handles payload)) key is = ap (λ z. elim z [ None ↦ None | Some m ↦ Some m.stamp ]) is
got_seen (ans.Got (rec.Destroyed k number)) key is = ap (λ z. elim z [ None ↦ None | Some m ↦ Some m.stamp ]) is
got_seen a key is = absurd (cc is)

-- an answer with the key of a message is its receipt
message_answer : (a : Answer) (key : Key) → message_key a ≡ Some key → (number : ℕ) × (offset : ℕ) × (handles : List ℕ) × (payload : List ℕ) × (a ≡ ans.Got (rec.Message key number offset handles payload))
message_answer (ans.Got (rec.Message k number offset handles payload)) key is = (number, offset, handles, payload, ap (λ z. ans.Got (rec.Message z number offset handles payload)) (same_Some k key is))
message_answer a key is = absurd (cc is)

message_got : (a : Answer) (key : Key) → message_key a ≡ Some key → got_key a ≡ Some key
message_got (ans.Got (rec.Message k number offset handles payload)) key is = is
message_got a key is = absurd (cc is)

stamp_is : (command : Command) (stamp : ℕ) → destroy_stamp (stamped_answer command stamp) ≡ Some stamp
stamp_is command stamp = elim (is_flushing command) as (λ b. destroy_stamp (cond b (ans.Reset (Some stamp)) (ans.Destroyed stamp)) ≡ Some stamp) [ true ↦ refl | false ↦ refl ]

none_carried : (command : Command) (ending : Open) → carried_open command (Dooming ending) ≡ []
none_carried (cmd.Send c) ending = refl
none_carried command ending = refl

one_only : (b : Bool) → (b || false) ≡ true → b ≡ true
one_only true is = refl
one_only false is = is

module _ {o : Opening} {s : State} (sound : IsSound o s) (right : IsRight o s) (p : ℕ) (d : DriverPart) (x : PeerPart) (command : Command) (ending : Open)
    (is_driver : IsDriver s p d) (is_own : IsPeer s p x) (is_open : d.doing ≡ Some (doing_in command (Dooming ending))) (none_late : x.late ≡ []) where
  abbrev r : Record
  r = record_of_state s

  abbrev stamp : ℕ
  stamp = final_stamp x ending.collected

  abbrev one : Call
  one = record { command = as_call command; answer = stamped_answer command stamp }

  module _ (t : Record) (more : Appends r t p one) where
    abbrev known : List Name
    known = made o.wires t p (calls_len r p)

    nothing_new : carried_by one.command one.answer ≡ [] → map (λ m. m.number) x.nodes ≡ map (λ m. m.number) known
    nothing_new none =
        right.names.made.made p d x is_driver is_own
        ∙ ap (λ doing. name_numbers (add_new x.epoch (all_names o.wires r p) (elim doing [ None ↦ [] | Some z ↦ carried_open z.command z.phase ]))) is_open
        ∙ ap (λ ns. name_numbers (add_new x.epoch (all_names o.wires r p) ns)) (none_carried command ending)
        ∙ ap name_numbers (sym (made_end o r p))
        ∙ ap name_numbers (sym (made_new o r t p one more right.legal ∙ ap (add_new (epoch_at r p (calls_len r p)) (made o.wires r p (calls_len r p))) none))

    -- what the record's destruction destroys is dying
    ends : (y : Node) → is_destroyed_in (next_destruction o r t p one) y ≡ true → (y.owner ≡ p) × (is_dying (node_at x y.serial).state ≡ true)
    ends = by command refl (sound.notices.shape p d x (doing_in command (Dooming ending)) is_driver is_own is_open).0
      where
        by : (kind : Command) → command ≡ kind → IsDestroying command → (y : Node) → is_destroyed_in (next_destruction o r t p one) y ≡ true → (y.owner ≡ p) × (is_dying (node_at x y.serial).state ≡ true)
        by (cmd.Destroy ns) is destroys y gone =
            named_ends sound right p d x command ending is_driver is_own is_open known (nothing_new (ap (λ k. carried_by (as_call k) (stamped_answer k stamp)) is)) ns (table o.wires r p (calls_len r p)) y is
            (one_only _ (ap (λ k. is_destroyed_in (next_destruction o r t p (record { command = as_call k; answer = stamped_answer k stamp })) y) (sym is) ∙ gone))
        by (cmd.Reset limits) is destroys y gone =
            flushed_ends sound right p d x command ending is_driver is_own is_open known (nothing_new (ap (λ k. carried_by (as_call k) (stamped_answer k stamp)) is)) y (ap is_flushing is)
            (one_only _ (ap (λ k. is_destroyed_in (next_destruction o r t p (record { command = as_call k; answer = stamped_answer k stamp })) y) (sym is) ∙ gone))
        by cmd.Disconnect is destroys y gone =
            flushed_ends sound right p d x command ending is_driver is_own is_open known (nothing_new (ap (λ k. carried_by (as_call k) (stamped_answer k stamp)) is)) y (ap is_flushing is)
            (one_only _ (ap (λ k. is_destroyed_in (next_destruction o r t p (record { command = as_call k; answer = stamped_answer k stamp })) y) (sym is) ∙ gone))
        by kind is destroys y gone = absurd (subst IsDestroying is destroys)

    -- what the owner received
    own_below : (k : ℕ) (c : Call) (key : Key) → slice_get (calls_of r p) k ≡ Some c → got_key c.answer ≡ Some key → key.stamp < stamp
    own_below k c key at got = let low = listed_at s p x right.clocks.listed is_own k key.stamp c at (got_seen c.answer key got) in let high = above_clock x ending.collected in omega (arith, low, high)

    peer_of_call : (q k : ℕ) (c : Call) → slice_get (calls_of r q) k ≡ Some c → (z : PeerPart) × IsPeer s q z
    peer_of_call q k c at =
        let low = is_peer r q k c at in
        let many = records_length s.peers s.drivers (sound.numbered.as_many_peers ∙ sym sound.numbered.as_many_drivers) in
        get_there s.peers q (omega (arith, low, many))

    -- what a holder received while it held a node
    holder_below : (q k : ℕ) (c : Call) (key : Key) (y : Node) → slice_get (calls_of r q) k ≡ Some c → got_key c.answer ≡ Some key → y.owner ≡ p → is_dying (node_at x y.serial).state ≡ true → IsSeen o s q k y → key.stamp < stamp
    holder_below q k c key y at got owner dying seen =
        let z = peer_of_call q k c at in
        elim (right.holders.collected.collected q k z.0 c key y x d z.1 at got seen (subst (λ w. IsPeer s w x) (sym owner) is_own) (subst (λ w. IsDriver s w d) (sym owner) is_driver) dying) [
          | inl (inl low) ↦ let high = above_clock x ending.collected in omega (arith, low, high)
          | inl (inr low) ↦
              let same : collected_now d ≡ ending.collected = ap (λ doing. elim doing [ None ↦ 0 | Some u ↦ collected_of u.phase ]) is_open in
              let high = above_collected x ending.collected in omega (arith, low, high, same)
          | inr due ↦ absurd (not_due q due)
        ]
      where
        not_due : (q : ℕ) → IsDue q x d → ⊥
        not_due q (inl left) = subst (λ doing. Has (elim doing [ None ↦ [] | Some u ↦ left_of u.phase ]) q) is_open left
        not_due q (inr late) = subst (λ l. Has l q) none_late late

    seen_before : (q k : ℕ) (y : Node) → is_some (line_number y (table o.wires r q k).lines) ≡ true → (z : Node) × (y.owner ≡ z.owner) × (y.serial ≡ z.serial) × IsSeen o s q k z
    seen_before q k y there = elim (option_cases (line_number y (table o.wires r q k).lines)) [
      | inl none ↦ let both : true ≡ false = sym there ∙ ap is_some none in absurd (cc both)
      | inr some ↦ let l = line_number_of y (table o.wires r q k).lines some.0 some.1 in let z = the_node y l.0.node l.3 in (z.0, z.2, z.3, (l.0, inl l.1, z.1))
    ]

    seen_behind : (q k : ℕ) (y : Node) → is_some (line_number y (table o.wires r q (suc k)).lines) ≡ true → (z : Node) × (y.owner ≡ z.owner) × (y.serial ≡ z.serial) × IsSeen o s q k z
    seen_behind q k y there = elim (option_cases (line_number y (table o.wires r q (suc k)).lines)) [
      | inl none ↦ let both : true ≡ false = sym there ∙ ap is_some none in absurd (cc both)
      | inr some ↦ let l = line_number_of y (table o.wires r q (suc k)).lines some.0 some.1 in let z = the_node y l.0.node l.3 in (z.0, z.2, z.3, (l.0, inr l.1, z.1))
    ]

    by_line : (q k : ℕ) (c : Call) (key : Key) (y : Node) → slice_get (calls_of r q) k ≡ Some c → got_key c.answer ≡ Some key → (y.owner ≡ p) × (is_dying (node_at x y.serial).state ≡ true) → (z : Node) × (y.owner ≡ z.owner) × (y.serial ≡ z.serial) × IsSeen o s q k z → key.stamp < stamp
    by_line q k c key y at got gone (z, owner, serial, seen) = holder_below q k c key z at got (sym owner ∙ gone.0) (ap (λ i. is_dying (node_at x i).state) (sym serial) ∙ gone.1) seen

    above : DestroysAbove o r (next_destruction o r t p one) stamp
    above = record {
      holders = λ q k y c key gone at got of. held q k y c key (ends y gone) at got of (cases_eq q p);
      named = λ q k y c key m gone at got is names soon. named q k y c key m (ends y gone) at got is names soon (cases_eq q p);
    }
      where
        held : (q k : ℕ) (y : Node) (c : Call) (key : Key) → (y.owner ≡ p) × (is_dying (node_at x y.serial).state ≡ true) → slice_get (calls_of r q) k ≡ Some c → got_key c.answer ≡ Some key → is_notice_of o.wires r q k (Some y) ≡ true → (q ≡ p) ⊎ (q ≢ p) → key.stamp < stamp
        held q k y c key gone at got of (inl here) = own_below k c key (subst (λ w. slice_get (calls_of r w) k ≡ Some c) here at) got
        held q k y c key gone at got of (inr apart) =
            by_line q k c key y at got gone
            (seen_before q k y (sym (ap (λ b. cond b (y.epoch == epoch_at r q k) (is_some (line_number y (table o.wires r q k).lines))) (ne_eqb y.owner q (λ same. apart (sym same ∙ gone.0)))) ∙ of))

        named : (q k : ℕ) (y : Node) (c : Call) (key : Key) (m : Message) → (y.owner ≡ p) × (is_dying (node_at x y.serial).state ≡ true) → slice_get (calls_of r q) k ≡ Some c → message_key c.answer ≡ Some key → message o.wires r key.stamp key.origin ≡ Some m → Names m key.index y → is_late o.wires r y key ≡ false → (q ≡ p) ⊎ (q ≢ p) → key.stamp < stamp
        named q k y c key m gone at got is names soon (inl here) = own_below k c key (subst (λ w. slice_get (calls_of r w) k ≡ Some c) here at) (message_got c.answer key got)
        named q k y c key m gone at got is (inl to) soon (inr apart) =
            let a = message_answer c.answer key got in
            let entry = is_entry_of o r right.legal q k key a.0 a.1 a.2 a.3 m is (subst (IsNextReceipt o.wires r q k) a.4 (right.legal.prefix q k c at)) in
            let owner : y.owner ≡ q = eqb-true y.owner q (sym (ap (is_node_of q) to) ∙ (and_parts (is_accepted (slice_get m.places key.index)) (is_node_of q (to_at m key.index)) entry).1) in
            absurd (apart (sym owner ∙ gone.0))
        named q k y c key m gone at got is (inr (j, there)) soon (inr apart) =
            let a = message_answer c.answer key got in
            by_line q k c key y at (message_got c.answer key got) gone
            (seen_behind q k y (carried_has_line o r right.legal q k c key a.0 a.1 a.2 a.3 m at a.4 is j y there soon (λ same. apart (sym same ∙ gone.0))))

    -- the record with the destruction is legal
    pub doomed_legal : Legal o t
    doomed_legal =
        legal_doomed o r t p one more right.legal stamp (stamp_is command stamp)
        (new_stamp s p x right.clocks.listed is_own ending.collected (sound.clocks.clock p x is_own).0 (sound.clocks.collected p d (doing_in command (Dooming ending)) is_driver is_open).0)
        above
