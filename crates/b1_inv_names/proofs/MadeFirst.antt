-- The numbers of a peer's nodes when a bus begins are those that its wires name.
use Rattle.std.proofs.Common.{◌≡◌, refl, sym, ap, ◌∙◌, inl, inr, ℕ, zero, suc, ◌+◌, ◌==◌, Bool, true, false, cond, List, [], ◌∷◌, map, filter, fold, get_or, Option, Some, None, option_map}
use Rattle.std.specs.Prelude.{slice_get}
use Rattle.std.proofs.lemmas.Bool.{cases_eq, eq-eqb, ne_eqb}
use Rattle.std.proofs.lemmas.Option.{same_Some, slice_get_within}
use native.Mathlib.Omega.{arith}
use Rattle.b1_model.specs.declared.naming.NodeRef.{NodeRef}
use Rattle.b1_model.specs.declared.naming.PeerSpec.{PeerSpec}
use Rattle.b1_model.specs.declared.naming.Wire.{Wire}
use Rattle.b1_model.specs.declared.naming.Opening.{Opening}
use Rattle.b1_model.specs.Names.{is_own, wired as wired_names}
use Rattle.b1_model.specs.MachineParts.{PeerPart, DriverPart}
use Rattle.b1_model.specs.MachineTables.{with_made, counted, node_named}
use Rattle.b1_model.specs.MachineStep.{no_peer, with_part, wire_made, wire_counted, wire_held, wired, peers_before, opening_state}
use Rattle.b1_step.proofs.Numbers.{opening_numbered}
use Rattle.b1_inv.specs.Words.{IsPeer, IsDriver}
use Rattle.b1_inv_record.specs.Names.{MadeNumbers}
use Rattle.b1_inv_tools.proofs.Openings.{opening_idle}
use Rattle.b1_inv_notices.proofs.Turns.{get_there}
use Rattle.b1_inv_refs.proofs.Wiring.{read_part}
use Rattle.b1_inv_names.proofs.Numbers.{joined, all_joined, name_numbers, new_names, made_joins, node_same}
use Rattle.b1_inv_names.proofs.Made.{numbers_of, done_numbers, first_numbers, all_right}

-- the numbers at a part, if there is one
abbrev pub numbers_at : ℕ → List PeerPart → Option (List ℕ)
numbers_at q xs = option_map numbers_of (slice_get xs q)

pub made_part : (number : ℕ) (x : PeerPart) → numbers_of (wire_made number x) ≡ joined (numbers_of x) number
made_part number x = by (is_own number) refl
  where
    by : (b : Bool) → is_own number ≡ b → numbers_of (cond b (record x { nodes = with_made x.peers number x.nodes }) x) ≡ joined (numbers_of x) number
    by true own = made_joins true x.peers number x.nodes own
    by false own = made_joins false x.peers number x.nodes own

-- a change that keeps the numbers of each part
same_at : (f : PeerPart → PeerPart) → ((x : PeerPart) → numbers_of (f x) ≡ numbers_of x) → (xs : List PeerPart) (i q : ℕ) → numbers_at q (with_part i f xs) ≡ numbers_at q xs
same_at f keeps xs i q = ap (option_map numbers_of) (read_part xs i q f) ∙ by (slice_get xs q)
  where
    one : (b : Bool) (x : PeerPart) → numbers_of (cond b (f x) x) ≡ numbers_of x
    one true x = keeps x
    one false x = refl

    by : (r : Option PeerPart) → option_map numbers_of (option_map (λ x. cond (q == i) (f x) x) r) ≡ option_map numbers_of r
    by None = refl
    by (Some x) = ap Some (one (q == i) x)

abbrev pub joins_at : Bool → ℕ → List ℕ → List ℕ
joins_at b number ns = cond b (joined ns number) ns

pub made_at : (xs : List PeerPart) (i q number : ℕ) → numbers_at q (with_part i (wire_made number) xs) ≡ option_map (joins_at (i == q) number) (numbers_at q xs)
made_at xs i q number = ap (option_map numbers_of) (read_part xs i q (wire_made number)) ∙ by (slice_get xs q) ∙ ap (λ b. option_map (joins_at b number) (numbers_at q xs)) turn
  where
    turn : (q == i) ≡ (i == q)
    turn = elim (cases_eq q i) [ inl same ↦ eq-eqb q i same ∙ sym (eq-eqb i q (sym same)) | inr apart ↦ ne_eqb q i apart ∙ sym (ne_eqb i q (λ e. apart (sym e))) ]

    one : (b : Bool) (x : PeerPart) → numbers_of (cond b (wire_made number x) x) ≡ joins_at b number (numbers_of x)
    one true x = made_part number x
    one false x = refl

    by : (r : Option PeerPart) → option_map numbers_of (option_map (λ x. cond (q == i) (wire_made number x) x) r) ≡ option_map (joins_at (q == i) number) (option_map numbers_of r)
    by None = refl
    by (Some x) = ap Some (one (q == i) x)

wired_by : (made : List PeerPart) (w : Wire) (node : Option NodeRef) (q : ℕ) → numbers_at q (elim node [ None ↦ made | Some n ↦ with_part w.to (wire_held n) (with_part n.owner (wire_counted n w.to) made) ]) ≡ numbers_at q made
wired_by made w None q = refl
wired_by made w (Some n) q =
    same_at (wire_held n) (λ x. refl) (with_part n.owner (wire_counted n w.to) made) w.to q
    ∙ same_at (wire_counted n w.to) (λ x. node_same (counted w.to) (λ m. refl) n.serial x.nodes) made n.owner q

pub wired_at : (xs : List PeerPart) (w : Wire) (q : ℕ) → numbers_at q (wired xs w) ≡ option_map (joins_at (w.from == q) w.number) (numbers_at q xs)
wired_at xs w q = wired_by (with_part w.from (wire_made w.number) xs) w (node_named (get_or (with_part w.from (wire_made w.number) xs) w.from no_peer) w.number) q ∙ made_at xs w.from q w.number

abbrev pub numbers_from : ℕ → List Wire → List ℕ
numbers_from q ws = map (λ w. w.number) (filter (λ w. w.from == q) ws)

all_wired : (ws : List Wire) (xs : List PeerPart) (q : ℕ) → numbers_at q (fold wired xs ws) ≡ option_map (λ ns. all_joined ns (numbers_from q ws)) (numbers_at q xs)
all_wired [] xs q = by (numbers_at q xs)
  where
    by : (r : Option (List ℕ)) → r ≡ option_map (λ ns. ns) r
    by None = refl
    by (Some ns) = refl
all_wired (w ∷ rest) xs q = all_wired rest (wired xs w) q ∙ ap (option_map (λ ns. all_joined ns (numbers_from q rest))) (wired_at xs w q) ∙ by (numbers_at q xs)
  where
    one : (b : Bool) (ns : List ℕ) → all_joined (joins_at b w.number ns) (numbers_from q rest) ≡ all_joined ns (map (λ v. v.number) (cond b (w ∷ filter (λ v. v.from == q) rest) (filter (λ v. v.from == q) rest)))
    one true ns = refl
    one false ns = refl

    by : (r : Option (List ℕ)) → option_map (λ ns. all_joined ns (numbers_from q rest)) (option_map (joins_at (w.from == q) w.number) r) ≡ option_map (λ ns. all_joined ns (numbers_from q (w ∷ rest))) r
    by None = refl
    by (Some ns) = ap Some (one (w.from == q) ns)

pub none_before : (o : Opening) (here : ℕ) (specs : List PeerSpec) (q : ℕ) (ns : List ℕ) → numbers_at q (peers_before o here specs) ≡ Some ns → ns ≡ []
none_before o here [] q ns is = absurd (cc is)
none_before o here (spec ∷ rest) zero ns is = sym (same_Some [] ns is)
none_before o here (spec ∷ rest) (suc q) ns is = none_before o (here + 1) rest q ns is

pub first_made : (o : Opening) (q : ℕ) (x : PeerPart) → IsPeer (opening_state o) q x → numbers_of x ≡ name_numbers (wired_names o.wires q)
first_made o q x is = by (numbers_at q (peers_before o 0 o.peers)) refl (sym (all_wired o.wires (peers_before o 0 o.peers) q) ∙ ap (option_map numbers_of) is) ∙ sym (new_names 0 [] (numbers_from q o.wires))
  where
    by : (r : Option (List ℕ)) → numbers_at q (peers_before o 0 o.peers) ≡ r → option_map (λ ns. all_joined ns (numbers_from q o.wires)) r ≡ Some (numbers_of x) → numbers_of x ≡ all_joined [] (numbers_from q o.wires)
    by None at none = absurd (cc none)
    by (Some ns) at same = sym (same_Some (all_joined ns (numbers_from q o.wires)) (numbers_of x) same) ∙ ap (λ l. all_joined l (numbers_from q o.wires)) (none_before o 0 o.peers q ns at)

pub numbers_begin : (o : Opening) → MadeNumbers o (opening_state o)
numbers_begin o = all_right o (opening_state o) driver value
  where
    driver : (p : ℕ) (x : PeerPart) → IsPeer (opening_state o) p x → (d : DriverPart) × IsDriver (opening_state o) p d
    driver p x is = let k = opening_numbered o in get_there (opening_state o).drivers p (let within = slice_get_within (opening_state o).peers p x is in omega (arith, within, k.as_many_drivers, k.as_many_peers))

    value : (p : ℕ) (d : DriverPart) (x : PeerPart) → IsDriver (opening_state o) p d → IsPeer (opening_state o) p x → numbers_of x ≡ done_numbers (first_numbers o p) d
    value p d x is_driver is = first_made o p x is ∙ ap (done_numbers (first_numbers o p)) (sym (opening_idle o p d is_driver))
