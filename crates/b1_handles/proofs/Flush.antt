-- What a flush gives next, and what it leaves.
use Rattle.std.proofs.Common.{◌≡◌, ◌≢◌, ◌==◌, ℕ, ◌-◌, ◌<◌, ◌≤◌, false, not, List, [], ◌∷◌, length, get_or, set, refl, ap, sym, subst, ◌∙◌, arith, inl, inr, Option, Some, None}
use Rattle.std.specs.Prelude.{find, remove}
use Rattle.std.specs.Option.{IfSome}
use Rattle.std.proofs.lemmas.List.{get_or_default, get_or-set_other, length-set}
use Rattle.std.proofs.lemmas.List.Elements.{All-nil}
use Rattle.std.proofs.lemmas.Bool.{cases_eq, cases_lt, ne_eqb}
use Rattle.b1_model.specs.declared.naming.NodeRef.{NodeRef}
use Rattle.b1_model.specs.MachineParts.{HandleRecord, same_ref}
use Rattle.b1_model.specs.MachineTables.{is_number, held_node, next_number}
use Rattle.b1_model.specs.MachineDestroy.{held_item, held_items}
use Rattle.b1_handles.specs.declared.numbers.Named.{Named}
use Rattle.b1_handles.specs.Handles.{IsSound, without_node}
use Rattle.b1_handles.specs.Kept.{IsKept, IsNamed}
use Rattle.b1_handles.specs.Numbers.{EndsFirst, name_at}
use Rattle.b1_handles.proofs.ListLemmas.{find-remove, find-remove_none, filter_but_one, filter_map_first, filter_map_none}
use Rattle.b1_handles.proofs.Order.{same_before, same_is}
use Rattle.b1_handles.proofs.Names.{name_none_beyond, name_set}
use Rattle.b1_handles.proofs.Sound.{All-remove, IsSound-nil, IsSound-remove}
use Rattle.b1_handles.proofs.Soundness.{Stands, stands}
use Rattle.b1_handles.proofs.Holding.{HasNumber, HasUnder, find_none_from, flights-remove, number_other, under_number}

abbrev node_of : Option HandleRecord → Option NodeRef
node_of o = elim o [ None ↦ None | Some h ↦ Some h.node ]

abbrev item_of : Option HandleRecord → Option (List (NodeRef × ℕ))
item_of o = elim o [ None ↦ None | Some h ↦ Some ((h.node, h.held) ∷ []) ]

-- ---- no node is held
module _ (names : List (Option NodeRef)) (records : List HandleRecord) (named : IsNamed names records) (none : (k : ℕ) → name_at names k ≡ None) where
  pub flush_none : held_items (length names) records ≡ []
  flush_none =
      filter_map_none (λ g. held_item records (next_number g)) 0 (length names)
      (λ g. ap item_of (find_none_from (next_number g) records (sym (named g) ∙ none g)))

pub held_items-nil : (given : ℕ) → held_items given [] ≡ []
held_items-nil given = filter_map_none (λ g. held_item [] (next_number g)) 0 given (λ g. refl)

pub kept-none : (names later : List (Option NodeRef)) (spare : ℕ) → later ≡ names → ((k : ℕ) → name_at names k ≡ None) → IsKept [] later 0 spare
kept-none names later spare same none = record {
  sound = IsSound-nil (length later);
  held = All-nil HasNumber;
  named = λ k. ap (λ (ns : List (Option NodeRef)). name_at ns k) same ∙ none k;
  counted = refl;
  room = omega arith;
}

-- ---- the node under the first number
module _ (records : List HandleRecord) (names later : List (Option NodeRef)) (flights spare more : ℕ) (k : IsKept records names flights spare) (first : Named) (ends : EndsFirst names (Some first) later) where
  pub under : HasUnder (next_number first.place) first.node records
  under = under_number (next_number first.place) first.node records k.sound.ordered (sym (k.named first.place) ∙ ends.0)

  abbrev pub x : HandleRecord
  x = under.one

  abbrev pub s : Stands first.node records x
  s = stands first.node records x under.found

  place_given : first.place < length names
  place_given =
      elim (cases_lt first.place (length names)) [
        | inl low ↦ low
        | inr high ↦ let e = sym (name_none_beyond names first.place high) ∙ ends.0 in cc
      ]

  read_is : (d : HandleRecord) → x ≡ get_or records s.place d
  read_is d = s.read ∙ get_or_default records s.place x d s.at.within

  other_node : (j : ℕ) (d : HandleRecord) → j < length records → j ≢ s.place → same_ref (get_or records j d).node first.node ≡ false
  other_node j d lt ne =
      elim (cases_lt j s.place) [
        | inl low ↦ s.at.first j d low
        | inr high ↦ same_before first.node (get_or records s.place d).node (get_or records j d).node (s.at.here d) (k.sound.ordered s.place j d (omega arith) lt)
      ]

  pub removed_is : remove records s.place ≡ without_node first.node records
  removed_is =
      sym (filter_but_one (λ h. not (same_ref h.node first.node)) records s.place s.at.within
      (λ j d lt ne. ap not (other_node j d lt ne))
      (λ d. ap not (s.at.here d)))

  other_number : (j : ℕ) (d : HandleRecord) → j < length records → j ≢ s.place → is_number (next_number first.place) (get_or records j d) ≡ false
  other_number j d lt ne =
      elim (cases_lt j s.place) [
        | inl low ↦ behind (get_or records j d).number (get_or records s.place d).number (k.sound.distinct j s.place d low s.at.within) (sym (ap (λ (h : HandleRecord). h.number) (read_is d)) ∙ under.number)
        | inr high ↦ before (get_or records s.place d).number (get_or records j d).number (k.sound.distinct s.place j d (omega arith) lt) (sym (ap (λ (h : HandleRecord). h.number) (read_is d)) ∙ under.number)
      ]
    where
      behind : (o p : Option ℕ) → IfSome o (λ n. p ≢ Some n) → p ≡ Some (next_number first.place) → elim o [ None ↦ false | Some n ↦ n == next_number first.place ] ≡ false
      behind None p differs is = refl
      behind (Some n) p differs is = ne_eqb n (next_number first.place) (λ e. differs (is ∙ ap (λ (m : ℕ). Some m) (sym e)))

      before : (o p : Option ℕ) → IfSome o (λ n. p ≢ Some n) → o ≡ Some (next_number first.place) → elim p [ None ↦ false | Some n ↦ n == next_number first.place ] ≡ false
      before None p differs is = cc
      before (Some m) None differs is = refl
      before (Some m) (Some n) differs is =
          let m_is : m ≡ next_number first.place = (let d = is in cc) in
          ne_eqb n (next_number first.place) (λ e. differs (ap (λ (r : ℕ). Some r) (e ∙ sym m_is)))

  finds_none : find (is_number (next_number first.place)) (remove records s.place) ≡ None
  finds_none = find-remove_none (is_number (next_number first.place)) records s.place s.at.within other_number

  finds_same : (g : ℕ) → g ≢ first.place → find (is_number (next_number g)) (remove records s.place) ≡ find (is_number (next_number g)) records
  finds_same g ne =
      find-remove (is_number (next_number g)) records s.place s.at.within
      (λ d. ap (is_number (next_number g)) (sym (read_is d)) ∙ number_other x.number (next_number g) (next_number first.place) under.number (λ e. ne (omega (arith, e))))

  pub flush_some : held_items (length names) records ≡ ((first.node, x.held) ∷ []) ∷ held_items (length names) (remove records s.place)
  flush_some =
      filter_map_first (λ g. held_item records (next_number g)) (λ g. held_item (remove records s.place) (next_number g)) ((first.node, x.held) ∷ []) first.place 0 (length names)
      (omega arith) (omega (arith, place_given))
      (λ g low. ap item_of (find_none_from (next_number g) records (sym (k.named g) ∙ ends.1 g low)))
      (ap item_of under.first ∙ ap (λ (n : NodeRef). Some ((n, x.held) ∷ [])) node_is)
      (λ g le. elim (cases_eq g first.place) [
        | inl same ↦ subst (λ (m : ℕ). item_of (find (is_number (next_number m)) (remove records s.place)) ≡ None) (sym same) (ap item_of finds_none)
        | inr less ↦ ap item_of (finds_same g less ∙ find_none_from (next_number g) records (sym (k.named g) ∙ ends.1 g (omega arith)))
      ])
      (λ g above. ap item_of (finds_same g (omega arith)))
    where
      node_is : x.node ≡ first.node
      node_is = same_is x.node first.node (ap (λ (h : HandleRecord). same_ref h.node first.node) (read_is x) ∙ s.at.here x)

  pub given_is : length later ≡ length names
  given_is = ap length ends.2 ∙ length-set names first.place None

  pub next_is : held_items (length names) records ≡ ((first.node, x.held) ∷ []) ∷ held_items (length later) (without_node first.node records)
  next_is =
      flush_some
      ∙ ap (λ hs. ((first.node, x.held) ∷ []) ∷ held_items (length names) hs) removed_is
      ∙ ap (λ (n : ℕ). ((first.node, x.held) ∷ []) ∷ held_items n (without_node first.node records)) (sym given_is)

  pub fewer : x.flight ≤ flights
  fewer = let e = flights-remove records s.place x s.at.within s.read in omega (arith, e, k.counted)

  pub kept-some : spare ≤ more → IsKept (without_node first.node records) later (flights - x.flight) more
  kept-some room =
      let nodes : IsKept (remove records s.place) later (flights - x.flight) more = record {
        sound = subst (λ (n : ℕ). IsSound n (remove records s.place)) (sym given_is) (IsSound-remove (length names) s.place records s.at.within k.sound);
        held = All-remove HasNumber records s.place k.held;
        named = λ g.
            ap (λ (ns : List (Option NodeRef)). name_at ns g) ends.2
            ∙ elim (cases_eq g first.place) [
              | inl same ↦
                  subst (λ (m : ℕ). name_at (set names first.place None) m ≡ held_node (next_number m) (remove records s.place)) (sym same)
                  (name_set names first.place ∙ sym (ap node_of finds_none))
              | inr ne ↦ get_or-set_other names first.place g None None ne ∙ k.named g ∙ sym (ap node_of (finds_same g ne))
            ];
        counted = let e = flights-remove records s.place x s.at.within s.read in omega (arith, e, k.counted);
        room = let r = k.room in omega (arith, r, room);
      } in
      subst (λ (hs : List HandleRecord). IsKept hs later (flights - x.flight) more) removed_is nodes

pub one_is : (x y : HandleRecord) (o : Option HandleRecord) → o ≡ Some x → o ≡ Some y → x ≡ y
one_is x y o first second = let e = sym first ∙ second in cc
