-- Nodes that stand in a peer's tables: their owners made them, and out of a gap the peer holds those that stand at the end of its calls.
use Rattle.std.proofs.Common.{◌≡◌, sym, ap, subst, ◌∙◌, inl, inr, ℕ, ◌≤◌, ◌<◌, List, [], ◌∷◌, length, Some, option_map}
use Rattle.std.proofs.lemmas.List.{length-map}
use Rattle.std.proofs.lemmas.Option.{slice_get_within}
use native.Mathlib.Omega.{arith}
use Rattle.b1_model.specs.declared.naming.Key.{Key}
use Rattle.b1_model.specs.declared.naming.Opening.{Opening}
use Rattle.b1_model.specs.declared.answers.Answer.{Answer}
use Rattle.b1_model.specs.declared.answers.Answer.TheVariants as ans
use Rattle.b1_model.specs.declared.answers.Receipt.TheVariants as rec
use Rattle.b1_model.specs.Names.{Node, add_new}
use Rattle.b1_model.specs.Ledger.{Line, got_key, table}
use Rattle.b1_model.specs.Legal.{seen_stamp}
use Rattle.b1_model.specs.MachineParts.{PeerPart, DriverPart, HandleRecord, State}
use Rattle.b1_model.specs.MachineStep.{record_of_state}
use Rattle.b1_step.specs.Rights.{Has}
use Rattle.b1_step.specs.Ordered.{Rising}
use Rattle.b1_inv.specs.Words.{IsPeer, IsDriver}
use Rattle.b1_inv.specs.Numbers.{AreNumbered}
use Rattle.b1_inv_record.specs.Epochs.{ref_of}
use Rattle.b1_inv_record.specs.Names.{IsLineOf, MadeNumbers, open_numbers}
use Rattle.b1_ledger.specs.Growth.{all_names}
use Rattle.b1_ledger.proofs.Made.{IsMadeIn, table_made, add_new_keeps}
use Rattle.b1_ledger.proofs.Sequences.{Each}
use Rattle.b1_inv_refs.proofs.Views.{Handles}
use Rattle.b1_inv_refs.proofs.Arrivals.{held_in}
use Rattle.b1_inv_refs.proofs.GivenUp.{held_of}
use Rattle.b1_inv_tables.proofs.Lines.{ref_is}

-- a receipt's stamp is its key's
pub seen_got : (got : Answer) (key : Key) → got_key got ≡ Some key → seen_stamp got ≡ Some key.stamp
seen_got (ans.Got (rec.Message k number offset handles payload)) key is = ap (option_map (λ z. z.stamp)) is
seen_got (ans.Got (rec.Destroyed k number)) key is = ap (option_map (λ z. z.stamp)) is
seen_got (ans.Got (rec.Released stamp number)) key is = absurd (cc is)
seen_got got key is = absurd (cc is)

-- a fact of all elements
each_has : {A : Type 0} (P : A → Type 0) (xs : List A) (x : A) → Each P xs → Has xs x → P x
each_has P [] x all there = absurd there
each_has P (y ∷ rest) x all (inl same) = subst P (sym same) all.0
each_has P (y ∷ rest) x all (inr there) = each_has P rest x all.1 there

-- the node of a line was made
pub line_made : (o : Opening) (s : State) (q k : ℕ) (l : Line) (n : Node) (e : DriverPart) (y : PeerPart) → MadeNumbers o s → Has (table o.wires (record_of_state s) q k).lines l → l.node ≡ Some n → IsDriver s n.owner e → IsPeer s n.owner y → n.serial < length y.nodes
line_made o s q k l n e y made there is is_driver is_peer =
    let m = subst (IsMadeIn (all_names o.wires (record_of_state s))) is (each_has (λ z. IsMadeIn (all_names o.wires (record_of_state s)) z.node) (table o.wires (record_of_state s) q k).lines l (table_made o.wires (record_of_state s) q k) there) in
    let more = add_new_keeps y.epoch (all_names o.wires (record_of_state s) n.owner) (open_numbers e) n.serial m.0 m.1 in
    let within = slice_get_within (add_new y.epoch (all_names o.wires (record_of_state s) n.owner) (open_numbers e)) n.serial m.0 more in
    let names = length-map (add_new y.epoch (all_names o.wires (record_of_state s) n.owner) (open_numbers e)) (λ z. z.number) in
    let nodes = length-map y.nodes (λ z. z.number) in
    let same = ap length (made.made n.owner e y is_driver is_peer) in
    omega (arith, within, names, nodes, same)

-- a record with a line is held
pub line_held : (count : ℕ) (hs : Handles) (h : HandleRecord) (l : Line) (n : Node) → Rising hs → AreNumbered count hs → Has hs h → IsLineOf h l → l.node ≡ Some n → 1 ≤ held_in (ref_of n) hs
line_held count hs h l n up all there of is =
    let both : Some (ref_of n) ≡ Some h.node = ap (option_map ref_of) (sym is) ∙ ref_is h.node l.node of.2 in
    let node : ref_of n ≡ h.node = cc both in
    let some = (all.held h l.number there of.0).0 in
    let held = ap (λ m. held_in m hs) node ∙ held_of hs h up there in
    omega (arith, some, held)
