-- The references of a place, gathered slot by slot.
use Rattle.std.proofs.Common.{◌≡◌, ℕ, zero, suc, ◌+◌, ◌<◌, List, [], ◌∷◌, ◌++◌, length, get_or, drop, slice_get, Some, None, option_to_list, filter_map, zip, refl, ap, sym, ◌∙◌, append_assoc, arith}
use Rattle.std.proofs.lemmas.Option.{get_or_from_slice_get}
use Rattle.std.proofs.lemmas.List.{append-nil}
use native.Mathlib.Numerals.{unary_clauses}
use Rattle.std.proofs.lemmas.Grind.{common_steps}
use Rattle.b1_model.specs.declared.naming.NodeRef.{NodeRef}
use Rattle.b1_model.specs.declared.parts.Slot.{Slot}
use Rattle.b1_model.specs.declared.parts.Slot.TheVariants.{Unattached, Attached, Own, Void}
use Rattle.b1_model.specs.declared.events.Sending.{Sending}
use Rattle.b1_model.specs.MachineReceive.{reference_of}
use Rattle.b1_model.specs.MachineTook.{drops_of, place_references}
use Rattle.b1_driver.proofs.Lists.{read_none}

pub zip_nothing : (nodes : List NodeRef) (slots : List Slot) → slots ≡ [] → zip nodes slots ≡ []
zip_nothing [] slots none = refl
zip_nothing (n ∷ nodes) [] none = refl
zip_nothing (n ∷ nodes) (s ∷ slots) none = cc

pub none_left : {X : Type 0} (xs : List X) (i : ℕ) → slice_get xs i ≡ None → drop i xs ≡ []
none_left [] zero none = refl
none_left [] (suc i) none = refl
none_left (x ∷ xs) zero none = cc
none_left (x ∷ xs) (suc i) none = none_left xs i none

pub one_left : {X : Type 0} (xs : List X) (i : ℕ) (x : X) → Some x ≡ slice_get xs i → drop i xs ≡ x ∷ drop (i + 1) xs
one_left [] i x read = cc
one_left (y ∷ xs) zero x read = grind arith
one_left (y ∷ xs) (suc i) x read = let ih = one_left xs i x read in let more = simp unary_clauses at ih in simp unary_clauses more

one_reference : (n : NodeRef) (s : Slot) (nodes : List NodeRef) (slots : List Slot) → filter_map reference_of (zip (n ∷ nodes) (s ∷ slots)) ≡ option_to_list (reference_of (n, s)) ++ filter_map reference_of (zip nodes slots)
one_reference n Unattached nodes slots = refl
one_reference n Attached nodes slots = refl
one_reference n Own nodes slots = refl
one_reference n Void nodes slots = refl

next_node : {X : Type 0} (xs : List X) (i : ℕ) (x : X) → i < length xs → x ≡ get_or xs i x → drop i xs ≡ x ∷ drop (i + 1) xs
next_node xs i x within read = grind (arith, common_steps)

pub gathered_one : (before whole : List (NodeRef × ℕ)) (after : List (NodeRef × ℕ)) (nodes : List NodeRef) (i : ℕ) (n : NodeRef) (s : Slot) (slots rest : List Slot) → i < length nodes → n ≡ get_or nodes i n → slots ≡ s ∷ rest → after ≡ before ++ option_to_list (reference_of (n, s)) → before ++ filter_map reference_of (zip (drop i nodes) slots) ≡ whole → after ++ filter_map reference_of (zip (drop (i + 1) nodes) rest) ≡ whole
gathered_one before whole after nodes i n s slots rest within read more added so_far =
    let more_nodes : drop i nodes ≡ n ∷ drop (i + 1) nodes = next_node nodes i n within read in
    let all : before ++ filter_map reference_of (zip (n ∷ drop (i + 1) nodes) (s ∷ rest)) ≡ whole = ap (λ l. before ++ filter_map reference_of (zip l (s ∷ rest))) (sym more_nodes) ∙ ap (λ l. before ++ filter_map reference_of (zip (drop i nodes) l)) (sym more) ∙ so_far in
    ap (λ l. l ++ filter_map reference_of (zip (drop (i + 1) nodes) rest)) added
    ∙ append_assoc before (option_to_list (reference_of (n, s))) (filter_map reference_of (zip (drop (i + 1) nodes) rest))
    ∙ ap (λ l. before ++ l) (sym (one_reference n s (drop (i + 1) nodes) rest))
    ∙ all

pub gathered_all : (before whole : List (NodeRef × ℕ)) (nodes : List NodeRef) (slots : List Slot) → slots ≡ [] → before ++ filter_map reference_of (zip nodes slots) ≡ whole → before ≡ whole
gathered_all before whole nodes slots none so_far =
    sym (append-nil before) ∙ ap (λ l. before ++ filter_map reference_of l) (sym (zip_nothing nodes slots none)) ∙ so_far

pub owed_place : (holder stamp : ℕ) (references added item : List (NodeRef × ℕ)) (sending : Sending) (place : ℕ) (slots : List Slot) → references ≡ [] → item ≡ [] → added ≡ references ++ filter_map reference_of (zip sending.begun.with slots) → Some slots ≡ slice_get sending.slots place → drops_of holder stamp (added ++ item) ≡ drops_of holder stamp (place_references sending place)
owed_place holder stamp references added item sending place slots no_references no_item is read =
    ap (λ l. drops_of holder stamp (added ++ l)) no_item
    ∙ ap (drops_of holder stamp) (append-nil added)
    ∙ ap (drops_of holder stamp) (is ∙ ap (λ l. l ++ filter_map reference_of (zip sending.begun.with slots)) no_references)
    ∙ ap (λ l. drops_of holder stamp (filter_map reference_of (zip sending.begun.with l))) (sym (get_or_from_slice_get sending.slots place slots [] (sym read)))

pub owed_nowhere : (holder stamp : ℕ) (references item : List (NodeRef × ℕ)) (sending : Sending) (place : ℕ) → references ≡ [] → item ≡ [] → slice_get sending.slots place ≡ None → drops_of holder stamp (references ++ item) ≡ drops_of holder stamp (place_references sending place)
owed_nowhere holder stamp references item sending place no_references no_item none =
    ap (λ l. drops_of holder stamp (l ++ item)) no_references
    ∙ ap (drops_of holder stamp) no_item
    ∙ sym (ap (λ l. drops_of holder stamp (filter_map reference_of l)) (zip_nothing sending.begun.with (get_or sending.slots place []) (read_none sending.slots place [] none)))
