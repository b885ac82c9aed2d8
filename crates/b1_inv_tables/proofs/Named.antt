-- What a number names by a peer's names and table is what it names at the peer's part.
use Rattle.std.proofs.Common.{◌≡◌, refl, sym, ap, ◌∙◌, inl, inr, ℕ, suc, ◌+◌, ◌<◌, ◌==◌, Bool, true, false, cond, not, List, [], ◌∷◌, ◌++◌, length, find, Option, Some, None, option_map}
use Rattle.std.specs.List.{position_or_len}
use Rattle.std.proofs.lemmas.Bool.{eqb-true, eq-eqb, eqb-false, ne_eqb}
use native.Mathlib.Omega.{arith}
use Rattle.b1_model.specs.Names.{Name, is_own, node_from, own_node}
use Rattle.b1_model.specs.Ledger.{Line, Table, line_node, named}
use Rattle.b1_model.specs.MachineParts.{PeerPart, NodePart, HandleRecord}
use Rattle.b1_model.specs.MachineTables.{serial_of, is_number, held_node, node_named}
use Rattle.b1_step.specs.Rights.{Has}
use Rattle.b1_inv_record.specs.Epochs.{ref_of}
use Rattle.b1_inv_refs.proofs.Views.{Handles}
use Rattle.b1_inv_refs.proofs.GivenUp.{found_has, found_none, number_is}
use Rattle.b1_inv_refs.proofs.Places.{found_at}
use Rattle.b1_inv_names.proofs.Numbers.{name_numbers, node_numbers}
use Rattle.b1_inv_tables.proofs.Lines.{Lines, AreApart, ref_is}
use Rattle.b1_inv_tables.proofs.Agrees.{IsTable}

-- ---- given numbers

-- the node of the line with a number
line_node_of : (n : ℕ) (ls : Lines) (l : Line) → AreApart ls → Has ls l → l.number ≡ n → line_node n ls ≡ l.node
line_node_of n [] l apart there is = absurd there
line_node_of n (k ∷ rest) l apart there is = by (n == k.number) refl there (λ h. line_node_of n rest l apart.1 h is)
  where
    by : (b : Bool) → (n == k.number) ≡ b → Has (k ∷ rest) l → (Has rest l → line_node n rest ≡ l.node) → cond b k.node (line_node n rest) ≡ l.node
    by true at (inl same) next = ap (λ z. z.node) (sym same)
    by true at (inr h) next = absurd (apart.0 l h (is ∙ eqb-true n k.number at))
    by false at (inl same) next = absurd (eqb-false n k.number at (sym is ∙ ap (λ z. z.number) same))
    by false at (inr h) next = next h

-- no line has the number
line_node_none : (n : ℕ) (ls : Lines) → ((l : Line) → Has ls l → l.number ≡ n → ⊥) → line_node n ls ≡ None
line_node_none n [] none = refl
line_node_none n (k ∷ rest) none = rw (ne_eqb n k.number (λ e. none k (inl refl) (sym e))) (line_node_none n rest (λ l there is. none l (inr there) is))

-- a given number names what the record with it is of
pub line_is : (t : Table) (count : ℕ) (hs : Handles) → IsTable t count hs → (number : ℕ) → option_map ref_of (line_node number t.lines) ≡ held_node number hs
line_is t count hs k number = by (find (is_number number) hs) refl
  where
    by : (z : Option HandleRecord) → find (is_number number) hs ≡ z → option_map ref_of (line_node number t.lines) ≡ elim z [ None ↦ None | Some h ↦ Some h.node ]
    by None none =
        ap (option_map ref_of) (line_node_none number t.lines (λ l there is.
        let f = k.lines l there in
        let passes : is_number number f.0 ≡ true = ap (λ n. elim n [ None ↦ false | Some m ↦ m == number ]) (f.2.0 ∙ ap Some is) ∙ eq-eqb number number refl in
        let both : true ≡ false = sym passes ∙ found_none (is_number number) hs f.0 none f.1 in
        absurd (cc both)))
    by (Some h) some =
        let f = found_has (is_number number) hs h some in
        let l = k.records h number f.0 (number_is number h f.1) in
        let same : l.0.number ≡ number = (let both : Some l.0.number ≡ Some number = sym l.2.0 ∙ number_is number h f.1 in cc both) in
        ap (option_map ref_of) (line_node_of number t.lines l.0 k.apart l.1 same) ∙ ref_is h.node l.0.node l.2.2

-- ---- own numbers

-- an own number, from a place on
own_from : (p i number : ℕ) (nodes : List NodePart) (known : List Name) (more : List ℕ) → node_numbers nodes ++ more ≡ name_numbers known → position_or_len (λ n. n.number == number) nodes < length nodes
    → option_map ref_of (node_from p i number known) ≡ Some (record { owner = p; serial = i + position_or_len (λ n. n.number == number) nodes })
own_from p i number [] known more same within = absurd (omega (arith, within))
own_from p i number (n ∷ rest) [] more same within = absurd (cc same)
own_from p i number (n ∷ rest) (m ∷ names) more same within = by (n.number == number) refl within (λ low. own_from p (suc i) number rest names more rest_same low)
  where
    first_same : n.number ≡ m.number
    first_same = cc same

    rest_same : node_numbers rest ++ more ≡ name_numbers names
    rest_same = cc same

    by : (b : Bool) → (n.number == number) ≡ b → cond (not b) (1 + position_or_len (λ k. k.number == number) rest) 0 < suc (length rest)
        → (position_or_len (λ k. k.number == number) rest < length rest → option_map ref_of (node_from p (suc i) number names) ≡ Some (record { owner = p; serial = suc i + position_or_len (λ k. k.number == number) rest }))
        → option_map ref_of (cond (number == m.number) (Some (record { owner = p; serial = i; epoch = m.epoch })) (node_from p (suc i) number names)) ≡ Some (record { owner = p; serial = i + cond (not b) (1 + position_or_len (λ k. k.number == number) rest) 0 })
    by true is low next =
        let moved : i ≡ i + 0 = omega arith in
        ap (λ b. option_map ref_of (cond b (Some (record { owner = p; serial = i; epoch = m.epoch })) (node_from p (suc i) number names))) (eq-eqb number m.number (sym (eqb-true n.number number is) ∙ first_same))
        ∙ ap (λ z. Some (record { owner = p; serial = z })) moved
    by false is low next =
        let moved : suc i + position_or_len (λ k. k.number == number) rest ≡ i + (1 + position_or_len (λ k. k.number == number) rest) = omega arith in
        ap (λ b. option_map ref_of (cond b (Some (record { owner = p; serial = i; epoch = m.epoch })) (node_from p (suc i) number names))) (ne_eqb number m.number (λ e. eqb-false n.number number is (first_same ∙ sym e)))
        ∙ next (omega (arith, low)) ∙ ap (λ z. Some (record { owner = p; serial = z })) moved

-- an own number names the node at its place
pub own_is : (p number serial : ℕ) (nodes : List NodePart) (known : List Name) (more : List ℕ) → node_numbers nodes ++ more ≡ name_numbers known → serial_of number nodes ≡ Some serial → option_map ref_of (own_node p known number) ≡ Some (record { owner = p; serial = serial })
own_is p number serial nodes known more same found =
    let f = found_at (λ n. n.number == number) nodes serial found in
    own_from p 0 number nodes known more same (let is = f.0 in let low = f.1 in omega (arith, is, low))
    ∙ ap (λ z. Some (record { owner = p; serial = z })) (let moved : 0 + position_or_len (λ n. n.number == number) nodes ≡ position_or_len (λ n. n.number == number) nodes = omega arith in moved ∙ f.0)

-- ---- any number, where an own one has its node at the part

-- a number names the same
pub named_is : (p number : ℕ) (x : PeerPart) (known : List Name) (more : List ℕ) (t : Table) → x.me ≡ p → node_numbers x.nodes ++ more ≡ name_numbers known → IsTable t x.given x.handles → (is_own number ≡ true → (serial : ℕ) × (serial_of number x.nodes ≡ Some serial))
    → option_map ref_of (named p known t number) ≡ node_named x number
named_is p number x known more t me same k made = by (is_own number) refl
  where
    at_serial : (serial : ℕ) → serial_of number x.nodes ≡ Some serial → option_map ref_of (own_node p known number) ≡ elim (serial_of number x.nodes) [ None ↦ None | Some one ↦ Some (record { owner = x.me; serial = one }) ]
    at_serial serial found =
        own_is p number serial x.nodes known more same found
        ∙ ap (λ q. Some (record { owner = q; serial = serial })) (sym me)
        ∙ ap (λ z. elim z [ None ↦ None | Some one ↦ Some (record { owner = x.me; serial = one }) ]) (sym found)

    by : (b : Bool) → is_own number ≡ b → option_map ref_of (cond b (own_node p known number) (line_node number t.lines)) ≡ cond b (elim (serial_of number x.nodes) [ None ↦ None | Some one ↦ Some (record { owner = x.me; serial = one }) ]) (held_node number x.handles)
    by true own = let f = made own in at_serial f.0 f.1
    by false own = line_is t x.given x.handles k number
