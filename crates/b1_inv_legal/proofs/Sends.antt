-- The stamp of a SEND keeps the record legal: it is above all that the owners of the accepted destinations took in the nodes' epochs.
use Rattle.std.proofs.Common.{◌≡◌, refl, sym, ap, ◌∙◌, ℕ, suc, ◌≤◌, true, false, List, [], map, Option, Some, None, option_map}
use Rattle.std.specs.Prelude.{slice_get}
use Rattle.std.specs.Option.{option_flatten}
use Rattle.std.proofs.lemmas.Option.{same_Some, slice_get-map}
use native.Mathlib.Omega.{arith}
use Rattle.b1_model.specs.declared.commands.Command.TheVariants as cmd
use Rattle.b1_model.specs.declared.commands.SendCmd.{SendCmd}
use Rattle.b1_model.specs.declared.naming.NodeRef.{NodeRef}
use Rattle.b1_model.specs.declared.naming.Opening.{Opening}
use Rattle.b1_model.specs.declared.answers.Reason.{Reason}
use Rattle.b1_model.specs.declared.answers.Sent.{Sent}
use Rattle.b1_model.specs.declared.events.Phase.TheVariants.{Stamping}
use Rattle.b1_model.specs.declared.events.Sending.{Sending}
use Rattle.b1_model.specs.declared.records.Record.{Record}
use Rattle.b1_model.specs.Names.{Node, wired, calls_of, made_in, made, epoch_in, epoch_at, add_new}
use Rattle.b1_model.specs.Ledger.{is_accepted, named, table, node_of}
use Rattle.b1_model.specs.Legal.{Legal}
use Rattle.b1_model.specs.MachineParts.{PeerPart, DriverPart, State}
use Rattle.b1_model.specs.MachineTables.{node_named}
use Rattle.b1_model.specs.MachineSend.{final_stamp}
use Rattle.b1_model.specs.MachineStep.{record_of_state}
use Rattle.b1_inv.specs.Words.{IsPeer, IsDriver}
use Rattle.b1_inv.specs.Sound.{IsSound}
use Rattle.b1_ledger.specs.Growth.{Appends, calls_len, sent_call, IsAboveReceipts, all_names}
use Rattle.b1_ledger.proofs.Sequences.{take-past, take-end}
use Rattle.b1_ledger.proofs.Calls.{made_new, flat_some}
use Rattle.b1_ledger.proofs.Kept.{table_kept}
use Rattle.b1_ledger.proofs.Stamped.{legal_sent}
use Rattle.b1_inv_record.specs.Epochs.{awaits_flush, in_gap, epoch_now, epoch_of_node, ref_of}
use Rattle.b1_inv_record.specs.Names.{carried_open}
use Rattle.b1_inv_record.specs.Right.{IsRight}
use Rattle.b1_inv_notices.proofs.Turns.{doing_in}
use Rattle.b1_inv_names.proofs.Numbers.{name_numbers, new_names}
use Rattle.b1_inv_legal.proofs.Named.{named_is, named_epoch}
use Rattle.b1_inv_legal.proofs.NewStamp.{above_collected, new_stamp}

accepted_is : (r : Option (Option Reason)) → is_accepted r ≡ true → elim r [ None ↦ false | Some reason ↦ elim reason [ None ↦ true | Some why ↦ false ] ] ≡ true
accepted_is None is = is
accepted_is (Some None) is = refl
accepted_is (Some (Some why)) is = is

-- the names of the record at the end of a peer's calls
pub made_end : (o : Opening) (r : Record) (p : ℕ) → made o.wires r p (calls_len r p) ≡ all_names o.wires r p
made_end o r p = ap (made_in 0 (wired o.wires p)) (take-past (calls_of r p) (suc (calls_len r p)) (omega arith))

-- the epoch at the end of a peer's calls
pub epoch_end : (r : Record) (p : ℕ) → epoch_at r p (calls_len r p) ≡ epoch_in 0 (calls_of r p)
epoch_end r p = ap (epoch_in 0) (take-end (calls_of r p))

-- two lists of which each item's images are the same, at one place
pub same_image : {A C : Type 0} (f : A → Option C) (xs : List A) (ys : List C) (i : ℕ) (a : A) → map f xs ≡ map Some ys → slice_get xs i ≡ Some a → (c : C) × (f a ≡ Some c) × (slice_get ys i ≡ Some c)
same_image {C = C} f xs ys i a same at = by (slice_get ys i) refl (sym (slice_get-map f xs i ∙ ap (option_map f) at) ∙ ap (λ l. slice_get l i) same ∙ slice_get-map Some ys i)
  where
    by : (r : Option C) → slice_get ys i ≡ r → Some (f a) ≡ option_map Some (slice_get ys i) → (c : C) × (f a ≡ Some c) × (slice_get ys i ≡ Some c)
    by None is e = let none : Some (f a) ≡ None = e ∙ ap (option_map Some) is in absurd (cc none)
    by (Some c) is e = (c, same_Some (f a) (Some c) (e ∙ ap (option_map Some) is), is)

-- the call that a number comes from
pub number_of_node : {A B : Type 0} (f : A → Option B) (xs : List A) (i : ℕ) (b : B) → option_flatten (slice_get (map f xs) i) ≡ Some b → (a : A) × (slice_get xs i ≡ Some a) × (f a ≡ Some b)
number_of_node {A = A} f xs i b is = by (slice_get xs i) refl (sym (slice_get-map f xs i) ∙ flat_some (slice_get (map f xs) i) b is)
  where
    by : (r : Option A) → slice_get xs i ≡ r → option_map f (slice_get xs i) ≡ Some (Some b) → (a : A) × (slice_get xs i ≡ Some a) × (f a ≡ Some b)
    by None at e = let none : None ≡ Some (Some b) = sym (ap (option_map f) at) ∙ e in absurd (cc none)
    by (Some a) at e = (a, at, same_Some (f a) (Some b) (sym (ap (option_map f) at) ∙ e))

module _ {o : Opening} {s : State} (sound : IsSound o s) (right : IsRight o s) (p : ℕ) (d : DriverPart) (x : PeerPart) (c : SendCmd) (sending : Sending)
    (is_driver : IsDriver s p d) (is_peer : IsPeer s p x) (is_open : d.doing ≡ Some (doing_in (cmd.Send c) (Stamping sending))) where
  abbrev r : Record
  r = record_of_state s

  no_gap : in_gap d ≡ false
  no_gap = ap (λ doing. elim doing [ None ↦ false | Some one ↦ awaits_flush one.command one.phase ]) is_open

  abbrev sent : Sent
  sent = record { stamp = final_stamp x sending.collected; places = sending.places }

  module _ (t : Record) (more : Appends r t p (sent_call c sent)) where
    known : made o.wires t p (calls_len r p) ≡ add_new (epoch_now s p) (all_names o.wires r p) c.with
    known = made_new o r t p (sent_call c sent) more right.legal ∙ ap (λ e. add_new e (made o.wires r p (calls_len r p)) c.with) (epoch_end r p) ∙ ap (λ names. add_new (epoch_now s p) names c.with) (made_end o r p)

    numbers : map (λ m. m.number) x.nodes ≡ map (λ m. m.number) (made o.wires t p (calls_len r p))
    numbers =
        right.names.made.made p d x is_driver is_peer
        ∙ ap (λ doing. name_numbers (add_new x.epoch (all_names o.wires r p) (elim doing [ None ↦ [] | Some one ↦ carried_open one.command one.phase ]))) is_open
        ∙ new_names x.epoch (all_names o.wires r p) c.with
        ∙ sym (new_names (epoch_now s p) (all_names o.wires r p) c.with)
        ∙ ap name_numbers (sym known)

    -- a destination by the record is the one that the begin found
    pub destination : (i : ℕ) (y : Node) → option_flatten (slice_get (map (node_of o.wires t p (calls_len r p)) c.to) i) ≡ Some y
        → (node : NodeRef) × (slice_get sending.begun.to i ≡ Some node) × (ref_of y ≡ node) × (epoch_of_node o s (ref_of y) ≡ y.epoch)
    destination i y is =
        let n = number_of_node (node_of o.wires t p (calls_len r p)) c.to i y is in
        let node = same_image (node_named x) c.to sending.begun.to i n.0 (right.names.begun.to p d x (doing_in (cmd.Send c) (Stamping sending)) is_driver is_peer is_open) n.1 in
        let by_record : named p (made o.wires t p (calls_len r p)) (table o.wires r p (calls_len r p)) n.0 ≡ Some y =
        ap (λ tab. named p (made o.wires t p (calls_len r p)) tab n.0) (sym (table_kept o r t p (sent_call c sent) more right.legal p (calls_len r p) (omega arith))) ∙ n.2 in (
          node.0,
          node.2,
          named_is sound right p d x is_driver is_peer no_gap (made o.wires t p (calls_len r p)) numbers n.0 y node.0 by_record node.1,
          named_epoch sound right p d x is_driver is_peer (made o.wires t p (calls_len r p)) c.with known n.0 y by_record,
        )

    above : IsAboveReceipts r (map (node_of o.wires t p (calls_len r p)) c.to) sent
    above k i y one key goes at got epoch =
        let node = destination i y goes.1 in
        let low : key.stamp ≤ sending.collected =
        right.entries.above.above p i k d (doing_in (cmd.Send c) (Stamping sending)) (ref_of y) one key is_driver is_open (node.1 ∙ ap Some (sym node.2)) (accepted_is (slice_get sending.places i) goes.0) refl at got (sym epoch ∙ sym node.3) in
        let high = above_collected x sending.collected in omega (arith, low, high)

    -- the record with the send is legal
    pub sent_legal : Legal o t
    sent_legal =
        legal_sent o r t p c sent more right.legal
        (new_stamp s p x right.clocks.listed is_peer sending.collected (sound.clocks.clock p x is_peer).0 (sound.clocks.collected p d (doing_in (cmd.Send c) (Stamping sending)) is_driver is_open).0)
        above
