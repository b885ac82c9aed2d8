-- An accepted begin finds a node for each number of a SEND.
use Rattle.std.proofs.Common.{◌≡◌, ◌⊎◌, refl, sym, ap, ◌∙◌, inl, inr, subst, ℕ, zero, suc, ◌+◌, ◌<◌, Bool, true, false, cond, ◌==◌, ◌%◌, nat_lt, nat_le, not, List, [], ◌∷◌, ◌++◌, fold, find, filter, length, map, get_or, replicate, Option, Some, None, is_none, Ok}
use Rattle.std.specs.Prelude.{filter_map, option_map}
use Rattle.std.specs.Bool.{then_some}
use Rattle.std.specs.List.{list_any, position_or_len}
use Rattle.std.proofs.lemmas.Bool.{or_parts, cond-true, lt-ltb, eq-eqb, cases_Bool, eqb-false}
use Rattle.std.proofs.lemmas.List.Quantifiers.{position-Some}
use native.Mathlib.Omega.{arith}
use Rattle.b1_model.specs.declared.naming.NodeRef.{NodeRef}
use Rattle.b1_model.specs.declared.parts.NodeState.TheVariants.{Live}
use Rattle.b1_model.specs.declared.parts.Begun.{Begun as Found}
use Rattle.b1_model.specs.declared.answers.Reason.{Reason}
use Rattle.b1_model.specs.declared.answers.Reason.TheVariants as reason
use Rattle.b1_model.specs.declared.commands.SendCmd.{SendCmd}
use Rattle.b1_model.specs.declared.events.Outcome.TheVariants as out
use Rattle.b1_model.specs.Names.{is_own, is_given}
use Rattle.b1_model.specs.MachineParts.{PeerPart, NodePart, no_node, is_odd, clock_limit}
use Rattle.b1_model.specs.MachineTables.{held_node, serial_of, node_named, with_made}
use Rattle.b1_model.specs.MachineSend.{first_reason, is_bad_send, is_unknown, unknown_reason, dead_reason, send_refusal, begun_part, begun_nodes}
use Rattle.b1_model.specs.MachineEvents.{begin_by, begin_event}
use Rattle.b1_step.specs.Rights.{Has}
use Rattle.b1_step.proofs.Lists.{has_filter}

-- ---- lists

module _ {X : Type 0} where
  has_left : (xs ys : List X) (x : X) → Has xs x → Has (xs ++ ys) x
  has_left [] ys x h = absurd h
  has_left (z ∷ xs) ys x (inl same) = inl same
  has_left (z ∷ xs) ys x (inr further) = inr (has_left xs ys x further)

  has_last : (xs : List X) (x : X) → Has (xs ++ x ∷ []) x
  has_last [] x = inl refl
  has_last (z ∷ xs) x = inr (has_last xs x)

  find_fails : (test : X → Bool) (xs : List X) (x : X) → find test xs ≡ None → Has xs x → test x ≡ false
  find_fails test [] x is h = absurd h
  find_fails test (y ∷ ys) x is h = missed (find_fails test ys x) (test y) refl is h
    where
      missed : (find test ys ≡ None → Has ys x → test x ≡ false) → (b : Bool) → test y ≡ b → cond b (Some y) (find test ys) ≡ None → Has (y ∷ ys) x → test x ≡ false
      missed further true passes none h = absurd (cc none)
      missed further false passes none (inl same) = ap test same ∙ passes
      missed further false passes none (inr there) = further none there

  none_passes : (test : X → Bool) (xs : List X) (x : X) → list_any test xs ≡ false → Has xs x → test x ≡ false
  none_passes test [] x is h = absurd h
  none_passes test (y ∷ ys) x is (inl same) = ap test same ∙ (or_parts (test y) (list_any test ys) is).0
  none_passes test (y ∷ ys) x is (inr further) = none_passes test ys x (or_parts (test y) (list_any test ys) is).1 further

  at_first : (test : X → Bool) (x y : X) (ys : List X) → Has ys x ⊎ (x ≡ y) → test x ≡ true → (Has ys x → position_or_len test ys < length ys) → position_or_len test (y ∷ ys) < length (y ∷ ys)
  at_first test x y ys h passes further = by (test y) refl h
    where
      by : (b : Bool) → test y ≡ b → Has ys x ⊎ (x ≡ y) → cond (not b) (1 + position_or_len test ys) 0 < suc (length ys)
      by true is h = omega arith
      by false is (inl there) = let k = further there in omega (arith, k)
      by false is (inr same) = absurd (cc (sym passes ∙ ap test same ∙ is))

  position_within : (test : X → Bool) (xs : List X) (x : X) → Has xs x → test x ≡ true → position_or_len test xs < length xs
  position_within test [] x h passes = absurd h
  position_within test (y ∷ ys) x (inl same) passes = at_first test x y ys (inr same) passes (λ there. position_within test ys x there passes)
  position_within test (y ∷ ys) x (inr there) passes = at_first test x y ys (inl there) passes (λ k. position_within test ys x k passes)

  has_get_or : (xs : List X) (i : ℕ) (d : X) → i < length xs → Has xs (get_or xs i d)
  has_get_or [] i d within = absurd (omega (arith, within))
  has_get_or (y ∷ ys) zero d within = inl refl
  has_get_or (y ∷ ys) (suc i) d within = inr (has_get_or ys i d (omega (arith, within)))

-- a map that finds something for each element keeps the length
all_found : (f : ℕ → Option NodeRef) (xs : List ℕ) → ((x : ℕ) → Has xs x → (n : NodeRef) × (f x ≡ Some n)) → length (filter_map f xs) ≡ length xs
all_found f [] finds = refl
all_found f (x ∷ xs) finds = rw (finds x (inl refl)).1 (ap suc (all_found f xs (λ y h. finds y (inr h))))

-- ---- names

-- one of the nodes has the number
abbrev Named : ℕ → List NodePart → Type 0
Named number nodes = (n : NodePart) × Has nodes n × ((n.number == number) ≡ true)

serial_found : (number : ℕ) (nodes : List NodePart) → Named number nodes → (i : ℕ) × (serial_of number nodes ≡ Some i)
serial_found number nodes (n, h, is) =
    let within = position_within (λ m. m.number == number) nodes n h is in
    (position_or_len (λ m. m.number == number) nodes, cond-true (nat_lt (position_or_len (λ m. m.number == number) nodes) (length nodes)) _ _ (lt-ltb (position_or_len (λ m. m.number == number) nodes) (length nodes) within))

found_named : (number serial : ℕ) (nodes : List NodePart) → serial_of number nodes ≡ Some serial → Named number nodes
found_named number serial nodes is =
    let k = position-Some (λ m. m.number == number) nodes serial no_node is in
    (get_or nodes serial no_node, has_get_or nodes serial no_node k.0, k.1)

still_named : (number : ℕ) (nodes : List NodePart) (found : Option ℕ) (n : NodePart) → Named number nodes → Named number (elim found [ None ↦ nodes ++ n ∷ [] | Some serial ↦ nodes ])
still_named number nodes None n (m, h, is) = (m, has_left nodes (n ∷ []) m h, is)
still_named number nodes (Some serial) n named = named

all_still_named : (number peers : ℕ) (numbers : List ℕ) (nodes : List NodePart) → Named number nodes → Named number (fold (λ ns made. with_made peers made ns) nodes numbers)
all_still_named number peers [] nodes named = named
all_still_named number peers (made ∷ rest) nodes named = all_still_named number peers rest (with_made peers made nodes) (still_named number nodes (serial_of made nodes) _ named)

made_named : (number peers : ℕ) (nodes : List NodePart) (found : Option ℕ) → serial_of number nodes ≡ found → Named number (elim found [ None ↦ nodes ++ record { number = number; state = Live; counts = replicate peers 0; taken = false } ∷ [] | Some serial ↦ nodes ])
made_named number peers nodes None is = (_, has_last nodes _, eq-eqb number number refl)
made_named number peers nodes (Some serial) is = found_named number serial nodes is

all_made_named : (number peers : ℕ) (numbers : List ℕ) (nodes : List NodePart) → Has numbers number → Named number (fold (λ ns made. with_made peers made ns) nodes numbers)
all_made_named number peers [] nodes h = absurd h
all_made_named number peers (made ∷ rest) nodes (inl same) = all_still_named number peers rest (with_made peers made nodes) (subst (λ m. Named m (with_made peers made nodes)) (sym same) (made_named made peers nodes (serial_of made nodes) refl))
all_made_named number peers (made ∷ rest) nodes (inr further) = all_made_named number peers rest (with_made peers made nodes) further

-- ---- refusals

none_first : (r : Option Reason) (rest : List (Option Reason)) → first_reason (r ∷ rest) ≡ None → (r ≡ None) × (first_reason rest ≡ None)
none_first None rest is = (refl, is)
none_first (Some r) rest is = absurd (cc is)

not_then : (b : Bool) (r : Reason) → then_some b r ≡ None → b ≡ false
not_then true r is = absurd (cc is)
not_then false r is = refl

none_mapped : (found : Option ℕ) → option_map (λ number. reason.Unknown number) found ≡ None → found ≡ None
none_mapped None is = refl
none_mapped (Some number) is = absurd (cc is)

known : (node : Option NodeRef) → is_none node ≡ false → (n : NodeRef) × (node ≡ Some n)
known None is = absurd (cc is)
known (Some n) is = (n, refl)

names_of : (x : PeerPart) (numbers : List ℕ) (number : ℕ) → unknown_reason x numbers ≡ None → Has numbers number → (n : NodeRef) × (node_named x number ≡ Some n)
names_of x numbers number is h = known (node_named x number) (find_fails (is_unknown x) numbers number (none_mapped (find (is_unknown x) numbers) is) h)

own_or_given : (number : ℕ) → is_odd number ≡ false → is_own number ≡ false → is_given number ≡ true
own_or_given number odd own = let a = eqb-false (number % 2) 1 odd in let b = eqb-false (number % 4) 0 own in eq-eqb (number % 4) 2 (omega (arith, a, b))

-- ---- an accepted begin

module _ (x : PeerPart) (c : SendCmd) (right : send_refusal x c ≡ None) where
  -- what no refusal leaves true
  forms : is_bad_send c ≡ false
  forms = not_then (is_bad_send c) reason.Invalid (none_first (then_some (is_bad_send c) reason.Invalid) _ right).0

  tail : first_reason (unknown_reason x c.to ∷ unknown_reason x (filter is_given c.with) ∷ first_reason (map (dead_reason x) c.with) ∷ []) ≡ None
  tail =
      let one = none_first (then_some (is_bad_send c) reason.Invalid) _ right in
      let two = none_first (then_some (nat_lt 65536 (length c.payload)) (reason.Size (length c.payload))) _ one.1 in
      (none_first (then_some (nat_le clock_limit x.clock) (reason.Overflow x.clock)) _ two.1).1

  know_to : unknown_reason x c.to ≡ None
  know_to = (none_first (unknown_reason x c.to) _ tail).0

  know_with : unknown_reason x (filter is_given c.with) ≡ None
  know_with = (none_first (unknown_reason x (filter is_given c.with)) (first_reason (map (dead_reason x) c.with) ∷ []) (none_first (unknown_reason x c.to) _ tail).1).0

  even_with : list_any is_odd c.with ≡ false
  even_with = (or_parts _ (list_any is_odd c.with) forms).1

  -- a number that names a node before the begin names one after it
  by_own : (number : ℕ) (n : NodeRef) → is_own number ≡ true → node_named x number ≡ Some n → Named number x.nodes
  by_own number n own is = at (serial_of number x.nodes) refl (rw own at is)
    where
      at : (found : Option ℕ) → serial_of number x.nodes ≡ found → elim found [ None ↦ None | Some serial ↦ Some (record { owner = x.me; serial = serial }) ] ≡ Some n → Named number x.nodes
      at None none same = absurd (cc same)
      at (Some serial) there same = found_named number serial x.nodes there

  own_found : (number : ℕ) → is_own number ≡ true → Named number (begun_part x c).nodes → (n : NodeRef) × (node_named (begun_part x c) number ≡ Some n)
  own_found number own named =
      let (i, is) = serial_found number (begun_part x c).nodes named in
      (record { owner = x.me; serial = i }, rw (own, is) refl)

  given_found : (number : ℕ) (n : NodeRef) → is_own number ≡ false → node_named x number ≡ Some n → (m : NodeRef) × (node_named (begun_part x c) number ≡ Some m)
  given_found number n other is = let held : held_node number x.handles ≡ Some n = rw other at is in (n, rw other held)

  still_found : (number : ℕ) (n : NodeRef) → node_named x number ≡ Some n → (m : NodeRef) × (node_named (begun_part x c) number ≡ Some m)
  still_found number n is =
      elim (cases_Bool (is_own number)) [
        | inl own ↦ own_found number own (all_still_named number x.peers (filter is_own c.with) x.nodes (by_own number n own is))
        | inr other ↦ given_found number n other is
      ]

  with_found : (number : ℕ) → Has c.with number → (m : NodeRef) × (node_named (begun_part x c) number ≡ Some m)
  with_found number h =
      elim (cases_Bool (is_own number)) [
        | inl own ↦ own_found number own (all_made_named number x.peers (filter is_own c.with) x.nodes (has_filter is_own c.with number h own))
        | inr other ↦
            let given = own_or_given number (none_passes is_odd c.with number even_with h) other in
            let k = names_of x (filter is_given c.with) number know_with (has_filter is_given c.with number h given) in
            still_found number k.0 k.1
      ]

  pub as_many_to : length (begun_nodes x c).to ≡ length c.to
  as_many_to = all_found (node_named (begun_part x c)) c.to (λ number h. let k = names_of x c.to number know_to h in still_found number k.0 k.1)

  pub as_many_with : length (begun_nodes x c).with ≡ length c.with
  as_many_with = all_found (node_named (begun_part x c)) c.with with_found

-- the same of an answer
begun_by : (r : Option Reason) (memory : Bool) (x y : PeerPart) (c : SendCmd) (found : Found) → send_refusal x c ≡ r → begin_by r memory c x ≡ (out.Begin (Ok found), y) → (length found.to ≡ length c.to) × (length found.with ≡ length c.with)
begun_by (Some r) memory x y c found is same = absurd (cc (ap (λ z. z.0) same))
begun_by None true x y c found is same = absurd (cc (ap (λ z. z.0) same))
begun_by None false x y c found is same =
    let there : begun_nodes x c ≡ found = cc (ap (λ z. z.0) same) in
    (ap (λ f. length f.to) (sym there) ∙ as_many_to x c is, ap (λ f. length f.with) (sym there) ∙ as_many_with x c is)

pub begun_as_many : (memory : Bool) (x y : PeerPart) (c : SendCmd) (found : Found) → begin_event memory c x ≡ (out.Begin (Ok found), y) → (length found.to ≡ length c.to) × (length found.with ≡ length c.with)
begun_as_many memory x y c found same = begun_by (send_refusal x c) memory x y c found refl same
