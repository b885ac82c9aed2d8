-- What each change of the table keeps.
use Rattle.std.proofs.Common.{◌≡◌, ◌≢◌, ◌==◌, ℕ, ◌+◌, ◌-◌, ◌/◌, ◌%◌, ◌<◌, ◌≤◌, Bool, true, false, if◌then◌else◌, List, [], ◌∷◌, ◌++◌, length, get_or, set, refl, ap, sym, subst, ◌∙◌, arith, inl, inr, Option, Some, None, is_some}
use Rattle.std.specs.Prelude.{All, nat_lt}
use Rattle.b1_handles.proofs.ListLemmas.{find_none}
use Rattle.std.proofs.lemmas.List.{get_or-set_other, length-append, length-set}
use Rattle.std.proofs.lemmas.Bool.{cases_Bool, cases_eq, eqb-true, eq-eqb, ne_eqb, lt-ltb, le-ltb, ltb-true, ltb-false}
use Rattle.std.proofs.lemmas.Bool.Decides.{nat_tests}
use Rattle.b1_model.specs.declared.naming.NodeRef.{NodeRef}
use Rattle.b1_model.specs.MachineParts.{HandleRecord, no_record, record_of, record_or_none}
use Rattle.b1_model.specs.MachineTables.{is_needed, is_number, held_node, changed, changed_or_made, more_flight, less_flight, more_held, less_held, noticed, next_number}
use Rattle.std.specs.Option.{IfSome}
use Rattle.b1_handles.specs.Handles.{IsSound, IsGivenNumber}
use Rattle.b1_handles.specs.Kept.{IsKept, IsNamed}
use Rattle.b1_handles.specs.Numbers.{name_at, node_under}
use Rattle.b1_handles.proofs.Keyed.{held_needed}
use Rattle.b1_handles.proofs.Names.{name_given, name_given_other, name_set}
use Rattle.b1_handles.proofs.Sound.{next_is_fresh}
use Rattle.b1_handles.proofs.Soundness.{sound-kept, sound-same, sound-ended, sound-new, sound-expected, sound-wired_new, sound-wired_held}
use Rattle.b1_handles.proofs.Holding.{HasNumber, All-changed, All-made, flights-changed, flights-one, flights-same, flights-made, found_has, found_or, under_number, HasUnder, held_node-changed, held_node-made, held_node-ended, held_node-ended_other, held_node-same, held_node-there, held_node-new, held_node-new_other, held_node-wired, held_node-wired_other}

-- ---- the names
named-given : (names : List (Option NodeRef)) (records later : List HandleRecord) (node : NodeRef) → IsNamed names records → ((q : ℕ) → q ≡ next_number (length names) → held_node q later ≡ Some node) → ((q : ℕ) → q ≢ next_number (length names) → held_node q later ≡ held_node q records) → IsNamed (names ++ Some node ∷ []) later
named-given names records later node named here other k =
    elim (cases_eq k (length names)) [
      | inl same ↦
          subst (λ (n : ℕ). name_at (names ++ Some node ∷ []) n ≡ held_node (next_number n) later) (sym same)
          (name_given names (Some node) ∙ sym (here (next_number (length names)) refl))
      | inr apart ↦
          name_given_other names (Some node) k apart
          ∙ named k
          ∙ sym (other (next_number k) (λ e. apart (omega (arith, e))))
    ]

named-ended : (names : List (Option NodeRef)) (records later : List HandleRecord) (place : ℕ) → IsNamed names records → ((q : ℕ) → q ≡ next_number place → held_node q later ≡ None) → ((q : ℕ) → q ≢ next_number place → held_node q later ≡ held_node q records) → IsNamed (set names place None) later
named-ended names records later place named here other k =
    elim (cases_eq k place) [
      | inl same ↦
          subst (λ (n : ℕ). name_at (set names place None) n ≡ held_node (next_number n) later) (sym same)
          (name_set names place ∙ sym (here (next_number place) refl))
      | inr apart ↦
          get_or-set_other names place k None None apart
          ∙ named k
          ∙ sym (other (next_number k) (λ e. apart (omega (arith, e))))
    ]

-- ---- a node has a number while it is held
has_more : (next : ℕ) (h : HandleRecord) → HasNumber h → HasNumber (more_held next h)
has_more next h has =
    elim (cases_Bool (h.held == 0)) [
      | inl free ↦ rw (free, lt-ltb 0 (h.held + 1) (omega arith)) refl
      | inr taken ↦
          let low : 0 < h.held = grind (arith, nat_tests, taken) in
          rw (taken, lt-ltb 0 (h.held + 1) (omega arith)) (has ∙ lt-ltb 0 h.held low)
    ]

has_less : (h : HandleRecord) → HasNumber h → HasNumber (less_held h)
has_less h has =
    elim (cases_Bool (nat_lt 1 h.held)) [
      | inl more ↦
          let low = ltb-true 1 h.held more in
          rw (more, lt-ltb 0 (h.held - 1) (omega (arith, low))) (has ∙ lt-ltb 0 h.held (omega (arith, low)))
      | inr last ↦
          let high = ltb-false 1 h.held last in
          rw (last, le-ltb 0 (h.held - 1) (omega (arith, high))) refl
    ]

pub or_none_is : (node : NodeRef) (records : List HandleRecord) (x : HandleRecord) → record_of node records ≡ Some x → record_or_none node records ≡ x
or_none_is node records x found = ap (λ (o : Option HandleRecord). elim o [ None ↦ no_record node | Some h ↦ h ]) found

true_is_not_false : true ≡ false → ⊥
true_is_not_false e = cc

-- a number of another form is no record's
not_given : (given number : ℕ) (o : Option ℕ) → (number % 4 == 2) ≡ false → IfSome o (IsGivenNumber given) → elim o [ None ↦ false | Some n ↦ n == number ] ≡ false
not_given given number None other is = refl
not_given given number (Some n) other is =
    let form = is.form in
    ne_eqb n number (λ same. true_is_not_false (sym (eq-eqb (number % 4) 2 (ap (λ (m : ℕ). m % 4) (sym same) ∙ form)) ∙ other))

-- the next number is no record's
fresh_all : (given : ℕ) (records : List HandleRecord) → All (λ h. IfSome h.number (IsGivenNumber given)) records → All (λ h. h.number ≢ Some (next_number given)) records
fresh_all given records all = λ j d lt. (next_is_fresh given records all j d lt).1

-- ---- the changes
module _ (node : NodeRef) (records : List HandleRecord) (names : List (Option NodeRef)) (flights spare : ℕ) (k : IsKept records names flights spare) where
  pub kept-expected : (later : ℕ) → flights + 1 ≤ later → IsKept (changed_or_made node more_flight records) names (flights + 1) later
  kept-expected later room = record {
    sound = sound-expected node (length names) records k.sound more_flight (λ h. refl) (λ h. refl);
    held = All-made node more_flight HasNumber (λ h has. has) refl records k.held;
    named = λ q. k.named q ∙ sym (held_node-made (next_number q) node more_flight (λ h. refl) (λ h. refl) records);
    counted = let e = flights-made node more_flight 1 (λ h. refl) records in omega (arith, e, k.counted);
    room = room;
  }

  pub kept-quiet : (f : HandleRecord → HandleRecord) → ((h : HandleRecord) → (f h).node ≡ h.node) → ((h : HandleRecord) → (f h).number ≡ h.number) → ((h : HandleRecord) → (f h).held ≡ h.held) → ((h : HandleRecord) → (f h).flight ≡ h.flight) → IsKept (changed node f records) names flights spare
  kept-quiet f keeps number held flight = record {
    sound = sound-kept node f keeps (length names) records k.sound number;
    held = All-changed node f HasNumber (λ h has. ap (λ (o : Option ℕ). is_some o) (number h) ∙ has ∙ ap (nat_lt 0) (sym (held h))) records k.held;
    named = λ q. k.named q ∙ sym (held_node-changed (next_number q) node f keeps number held records k.held);
    counted = let e = flights-same node f flight records in omega (arith, e, k.counted);
    room = k.room;
  }

  module _ (x : HandleRecord) (found : record_of node records ≡ Some x) where
    kept-unexpected : 0 < x.flight → IsKept (changed node less_flight records) names (flights - 1) spare
    kept-unexpected some = record {
      sound = sound-kept node less_flight (λ h. refl) (length names) records k.sound (λ h. refl);
      held = All-changed node less_flight HasNumber (λ h has. has) records k.held;
      named = λ q. k.named q ∙ sym (held_node-changed (next_number q) node less_flight (λ h. refl) (λ h. refl) (λ h. refl) records k.held);
      counted = let e = flights-changed node less_flight records x found in omega (arith, e, k.counted, some);
      room = let r = k.room in omega (arith, r);
    }

    abbrev gains : HandleRecord → HandleRecord
    gains h = more_held (next_number (length names)) (less_flight h)

    kept-gained_new : 0 < x.flight → (x.held == 0) ≡ true → IsKept (changed node gains records) (names ++ Some node ∷ []) (flights - 1) (spare - 1)
    kept-gained_new some free =
        let zero_held : x.held ≡ 0 = eqb-true x.held 0 free in
        let more : length (names ++ Some node ∷ []) ≡ length names + 1 = length-append names (Some node ∷ []) in
        let numbers : (h : HandleRecord) → h.held ≡ 0 → (gains h).number ≡ Some (next_number (length names)) = λ h zero. rw (eq-eqb h.held 0 zero) refl in
        record {
          sound =
              subst (λ (n : ℕ). IsSound n (changed node gains records)) (sym more)
              (sound-new node gains (λ h. refl) (length names) records k.sound x found (numbers x zero_held));
          held = All-changed node gains HasNumber (λ h has. has_more (next_number (length names)) (less_flight h) has) records k.held;
          named =
              named-given names records (changed node gains records) node k.named
              (λ q same. held_node-new q (next_number (length names)) node gains (λ h. refl) numbers same records (λ h zero. held_needed (next_number (length names)) (less_flight h)) (fresh_all (length names) records k.sound.numbered) x found zero_held)
              (λ q other. held_node-new_other q (next_number (length names)) node gains (λ h. refl) numbers other records (λ h zero. held_needed (next_number (length names)) (less_flight h)) k.held x found zero_held);
          counted = let e = flights-changed node gains records x found in omega (arith, e, k.counted, some);
          room = let r = k.room in omega (arith, r);
        }

    kept-gained_held : 0 < x.flight → (x.held == 0) ≡ false → IsKept (changed node gains records) names (flights - 1) spare
    kept-gained_held some taken =
        let stays : (gains x).number ≡ x.number = rw taken refl in
        record {
          sound = sound-same node gains (λ h. refl) (length names) records k.sound x found stays;
          held = All-changed node gains HasNumber (λ h has. has_more (next_number (length names)) (less_flight h) has) records k.held;
          named = λ q. k.named q ∙ sym (held_node-same (next_number q) node gains (λ h. refl) x stays (held_needed (next_number (length names)) (less_flight x)) records found);
          counted = let e = flights-changed node gains records x found in omega (arith, e, k.counted, some);
          room = let r = k.room in omega (arith, r);
        }

  pub kept-gained : (is_new : Bool) (next : ℕ) → next ≡ next_number (length names) → is_new ≡ ((record_or_none node records).held == 0) → 0 < (record_or_none node records).flight → IsKept (changed node (λ h. more_held next (less_flight h)) records) (if is_new then names ++ Some node ∷ [] else names) (flights - 1) (if is_new then spare - 1 else spare)
  kept-gained is_new next is_next is some =
      subst (λ (n : ℕ). IsKept (changed node (λ h. more_held n (less_flight h)) records) (if is_new then names ++ Some node ∷ [] else names) (flights - 1) (if is_new then spare - 1 else spare)) (sym is_next)
      (elim (found_or node records) [
        | inl f ↦
            let carried : 0 < f.one.flight = subst (λ (h : HandleRecord). 0 < h.flight) f.is some in
            let is_free : is_new ≡ (f.one.held == 0) = is ∙ ap (λ (h : HandleRecord). h.held == 0) f.is in
            elim (cases_Bool (f.one.held == 0)) [
              | inl free ↦ let e : is_new ≡ true = is_free ∙ free in rw e (kept-gained_new f.one f.found carried free)
              | inr taken ↦ let e : is_new ≡ false = is_free ∙ taken in rw e (kept-gained_held f.one f.found carried taken)
            ]
        | inr none ↦
            let low : 0 < 0 = subst (λ (h : HandleRecord). 0 < h.flight) none some in
            absurd (omega (arith, low))
      ])

  pub some_flights : 0 < (record_or_none node records).flight → 1 ≤ flights
  some_flights some =
      elim (found_or node records) [
        | inl f ↦
            let carried : 0 < f.one.flight = subst (λ (h : HandleRecord). 0 < h.flight) f.is some in
            let e = flights-one node records f.one f.found in
            omega (arith, e, carried, k.counted)
        | inr none ↦
            let low : 0 < 0 = subst (λ (h : HandleRecord). 0 < h.flight) none some in
            absurd (omega (arith, low))
      ]

  pub kept-carried : 0 < (record_or_none node records).flight → IsKept (changed node less_flight records) names (flights - 1) spare
  kept-carried some =
      elim (found_or node records) [
        | inl f ↦ kept-unexpected f.one f.found (subst (λ (h : HandleRecord). 0 < h.flight) f.is some)
        | inr none ↦
            let low : 0 < 0 = subst (λ (h : HandleRecord). 0 < h.flight) none some in
            absurd (omega (arith, low))
      ]

  pub kept-notified : (queued : Bool) → IsKept (if queued then changed node noticed records else records) names flights spare
  kept-notified queued =
      elim queued as (λ b. IsKept (if b then changed node noticed records else records) names flights spare) [
        | true ↦ kept-quiet noticed (λ h. refl) (λ h. refl) (λ h. refl) (λ h. refl)
        | false ↦ k
      ]

  abbrev wires : HandleRecord → HandleRecord
  wires = more_held (next_number (length names))

  kept-wired_new : (later : ℕ) → flights + 1 ≤ later → ((record_or_none node records).held == 0) ≡ true → IsKept (changed_or_made node wires records) (names ++ Some node ∷ []) flights (later - 1)
  kept-wired_new later room free =
      let zero_held : (record_or_none node records).held ≡ 0 = eqb-true (record_or_none node records).held 0 free in
      let more : length (names ++ Some node ∷ []) ≡ length names + 1 = length-append names (Some node ∷ []) in
      let numbers : (h : HandleRecord) → h.held ≡ 0 → (wires h).number ≡ Some (next_number (length names)) = λ h zero. rw (eq-eqb h.held 0 zero) refl in
      record {
        sound =
            subst (λ (n : ℕ). IsSound n (changed_or_made node wires records)) (sym more)
            (sound-wired_new node (length names) records k.sound free);
        held = All-made node wires HasNumber (has_more (next_number (length names))) refl records k.held;
        named =
            named-given names records (changed_or_made node wires records) node k.named
            (λ q same. held_node-wired q (next_number (length names)) node wires (λ h. refl) numbers same records (fresh_all (length names) records k.sound.numbered) zero_held)
            (λ q other. held_node-wired_other q (next_number (length names)) node wires (λ h. refl) numbers other records k.held zero_held);
        counted = let e = flights-made node wires 0 (λ h. omega arith) records in omega (arith, e, k.counted);
        room = omega (arith, room);
      }

  kept-wired_held : (later : ℕ) → flights + 1 ≤ later → ((record_or_none node records).held == 0) ≡ false → IsKept (changed_or_made node wires records) names flights later
  kept-wired_held later room taken =
      elim (found_or node records) [
        | inl f ↦
            let taken_one : (f.one.held == 0) ≡ false = sym (ap (λ (h : HandleRecord). h.held == 0) f.is) ∙ taken in
            let stays : (wires f.one).number ≡ f.one.number = rw taken_one refl in
            record {
              sound = sound-wired_held node (length names) records k.sound taken;
              held = All-made node wires HasNumber (has_more (next_number (length names))) refl records k.held;
              named = λ q. k.named q ∙ sym (held_node-there (next_number q) node wires (λ h. refl) f.one stays records k.sound.ordered f.found);
              counted = let e = flights-made node wires 0 (λ h. omega arith) records in omega (arith, e, k.counted);
              room = omega (arith, room);
            }
        | inr none ↦
            let e : true ≡ false = sym (ap (λ (h : HandleRecord). h.held == 0) none) ∙ taken in
            absurd (true_is_not_false e)
      ]

  pub kept-wired : (is_new : Bool) (next later : ℕ) → next ≡ next_number (length names) → is_new ≡ ((record_or_none node records).held == 0) → flights + 1 ≤ later → IsKept (changed_or_made node (more_held next) records) (if is_new then names ++ Some node ∷ [] else names) flights (if is_new then later - 1 else later)
  kept-wired is_new next later is_next is room =
      subst (λ (n : ℕ). IsKept (changed_or_made node (more_held n) records) (if is_new then names ++ Some node ∷ [] else names) flights (if is_new then later - 1 else later)) (sym is_next)
      (elim (cases_Bool ((record_or_none node records).held == 0)) [
        | inl free ↦ let e : is_new ≡ true = is ∙ free in rw e (kept-wired_new later room free)
        | inr taken ↦ let e : is_new ≡ false = is ∙ taken in rw e (kept-wired_held later room taken)
      ])

  -- ---- a number is given up
  pub under_is : (number : ℕ) → node_under number names ≡ held_node number records
  under_is number =
      elim (cases_Bool (number % 4 == 2)) [
        | inl given ↦
            let form : number % 4 ≡ 2 = eqb-true (number % 4) 2 given in
            let same : next_number (number / 4) ≡ number = omega (arith, form) in
            rw given (k.named (number / 4) ∙ ap (λ (q : ℕ). held_node q records) same)
        | inr other ↦
            rw other
            (sym (ap (λ (o : Option HandleRecord). elim o [ None ↦ None | Some h ↦ Some h.node ])
            (find_none (is_number number) records (λ j d lt. not_given (length names) number (get_or records j d).number other (k.sound.numbered j d lt)))))
      ]

  module _ (number : ℕ) (under : node_under number names ≡ Some node) where
    has_under : HasUnder number node records
    has_under = under_number number node records k.sound.ordered (sym (under_is number) ∙ under)

    place_of : next_number (number / 4) ≡ number
    place_of =
        elim (cases_Bool (number % 4 == 2)) [
          | inl given ↦ let form : number % 4 ≡ 2 = eqb-true (number % 4) 2 given in omega (arith, form)
          | inr other ↦ let e = rw other at under in cc
        ]

    pub released_held : is_some (record_or_none node records).number ≡ true
    released_held =
        let u = has_under in
        ap (λ (h : HandleRecord). is_some h.number) (or_none_is node records u.one u.found) ∙ ap (λ (o : Option ℕ). is_some o) u.number

    kept-ended : (later : ℕ) → spare ≤ later → (has_under.one.held == 1) ≡ true → IsKept (changed node less_held records) (set names (number / 4) None) flights later
    kept-ended later more last =
        let u = has_under in
        let one_held : u.one.held ≡ 1 = eqb-true u.one.held 1 last in
        let ends : (less_held u.one).number ≡ None = rw (le-ltb 1 u.one.held (omega (arith, one_held))) refl in
        record {
          sound =
              subst (λ (n : ℕ). IsSound n (changed node less_held records)) (sym (length-set names (number / 4) None))
              (sound-ended node less_held (λ h. refl) (length names) records k.sound u.one u.found ends);
          held = All-changed node less_held HasNumber has_less records k.held;
          named =
              named-ended names records (changed node less_held records) (number / 4) k.named
              (λ q same. held_node-ended q number node less_held u.one u.number ends (same ∙ place_of) records k.sound.distinct u.found)
              (λ q other. held_node-ended_other q number node less_held u.one u.number ends (λ e. other (e ∙ sym place_of)) records u.found);
          counted = let e = flights-same node less_held (λ h. refl) records in omega (arith, e, k.counted);
          room = let r = k.room in omega (arith, r, more);
        }

    kept-less : (later : ℕ) → spare ≤ later → (has_under.one.held == 1) ≡ false → IsKept (changed node less_held records) names flights later
    kept-less later more_room not_last =
        let u = has_under in
        let has : is_some u.one.number ≡ nat_lt 0 u.one.held = found_has HasNumber node records u.one k.held u.found in
        let held : 0 < u.one.held = ltb-true 0 u.one.held (sym has ∙ ap (λ (o : Option ℕ). is_some o) u.number) in
        let more : 1 < u.one.held = grind (arith, nat_tests, not_last, held) in
        let stays : (less_held u.one).number ≡ u.one.number = rw (lt-ltb 1 u.one.held more) refl in
        let needed : is_needed (less_held u.one) ≡ true = rw (lt-ltb 0 (u.one.held - 1) (omega (arith, more))) refl in
        record {
          sound = sound-same node less_held (λ h. refl) (length names) records k.sound u.one u.found stays;
          held = All-changed node less_held HasNumber has_less records k.held;
          named = λ q. k.named q ∙ sym (held_node-same (next_number q) node less_held (λ h. refl) u.one stays needed records u.found);
          counted = let e = flights-same node less_held (λ h. refl) records in omega (arith, e, k.counted);
          room = let r = k.room in omega (arith, r, more_room);
        }

    pub kept-released : (ended : Bool) (later : ℕ) → ended ≡ ((record_or_none node records).held == 1) → spare ≤ later → IsKept (changed node less_held records) (if ended then set names (number / 4) None else names) flights later
    kept-released ended later is more =
        let u = has_under in
        let same : ended ≡ (u.one.held == 1) = is ∙ ap (λ (h : HandleRecord). h.held == 1) (or_none_is node records u.one u.found) in
        elim (cases_Bool (u.one.held == 1)) [
          | inl last ↦ let e : ended ≡ true = same ∙ last in rw e (kept-ended later more last)
          | inr not_last ↦ let e : ended ≡ false = same ∙ not_last in rw e (kept-less later more not_last)
        ]
