-- What the begin of a SEND finds: a made node for each of its numbers.
use Rattle.std.proofs.Common.{◌≡◌, ◌⊎◌, refl, sym, ap, ◌∙◌, inl, inr, subst, ℕ, zero, suc, ◌+◌, ◌<◌, ◌≤◌, Bool, true, false, cond, ◌==◌, ◌%◌, nat_lt, nat_le, not, List, [], ◌∷◌, ◌++◌, fold, find, filter, length, map, get_or, replicate, Option, Some, None, is_none}
use Rattle.std.specs.Prelude.{filter_map, option_map}
use Rattle.std.specs.Bool.{then_some}
use Rattle.std.specs.List.{All, list_any, position_or_len}
use Rattle.std.proofs.lemmas.Bool.{or_parts, cond-true, lt-ltb, eq-eqb, cases_Bool, eqb-false, ltb-false}
use Rattle.std.proofs.lemmas.List.Quantifiers.{position-Some}
use Rattle.std.proofs.lemmas.List.Elements.{All-nil, All-cons}
use native.Mathlib.Omega.{arith}
use Rattle.b1_model.specs.declared.naming.NodeRef.{NodeRef}
use Rattle.b1_model.specs.declared.parts.NodeState.TheVariants.{Live}
use Rattle.b1_model.specs.declared.answers.Reason.{Reason}
use Rattle.b1_model.specs.declared.answers.Reason.TheVariants as reason
use Rattle.b1_model.specs.declared.commands.SendCmd.{SendCmd}
use Rattle.b1_model.specs.declared.commands.Command.TheVariants as cmd
use Rattle.b1_model.specs.Names.{is_own, is_given}
use Rattle.b1_model.specs.MachineParts.{PeerPart, NodePart, HandleRecord, State, no_node, is_odd, clock_limit}
use Rattle.b1_model.specs.MachineTables.{is_number, held_node, serial_of, node_named, with_made}
use Rattle.b1_model.specs.MachineSend.{first_reason, is_bad_send, is_unknown, unknown_reason, dead_reason, send_refusal, begun_part, begun_nodes}
use Rattle.b1_step.specs.Rights.{Has}
use Rattle.b1_step.proofs.Lists.{has_filter}
use Rattle.b1_inv.specs.Words.{IsPeer, IsMade}
use Rattle.b1_inv.specs.Sends.{IsBegun}

-- ---- lists

module _ {X : Type 0} where
  pub has_left : (xs ys : List X) (x : X) → Has xs x → Has (xs ++ ys) x
  has_left [] ys x h = absurd h
  has_left (z ∷ xs) ys x (inl same) = inl same
  has_left (z ∷ xs) ys x (inr further) = inr (has_left xs ys x further)

  pub has_last : (xs : List X) (x : X) → Has (xs ++ x ∷ []) x
  has_last [] x = inl refl
  has_last (z ∷ xs) x = inr (has_last xs x)

  pub find_fails : (test : X → Bool) (xs : List X) (x : X) → find test xs ≡ None → Has xs x → test x ≡ false
  find_fails test [] x is h = absurd h
  find_fails test (y ∷ ys) x is h = missed (find_fails test ys x) (test y) refl is h
    where
      missed : (find test ys ≡ None → Has ys x → test x ≡ false) → (b : Bool) → test y ≡ b → cond b (Some y) (find test ys) ≡ None → Has (y ∷ ys) x → test x ≡ false
      missed further true passes none h = absurd (cc none)
      missed further false passes none (inl same) = ap test same ∙ passes
      missed further false passes none (inr there) = further none there

  pub find_passes : (test : X → Bool) (xs : List X) (x : X) → find test xs ≡ Some x → Has xs x
  find_passes test [] x is = absurd (cc is)
  find_passes test (y ∷ ys) x is = found (find_passes test ys x) (test y) is
    where
      found : (find test ys ≡ Some x → Has ys x) → (b : Bool) → cond b (Some y) (find test ys) ≡ Some x → Has (y ∷ ys) x
      found further true here = inl (sym (cc here))
      found further false there = inr (further there)

  pub none_passes : (test : X → Bool) (xs : List X) (x : X) → list_any test xs ≡ false → Has xs x → test x ≡ false
  none_passes test [] x is h = absurd h
  none_passes test (y ∷ ys) x is (inl same) = ap test same ∙ (or_parts (test y) (list_any test ys) is).0
  none_passes test (y ∷ ys) x is (inr further) = none_passes test ys x (or_parts (test y) (list_any test ys) is).1 further

  at_first : (test : X → Bool) (x y : X) (ys : List X) → Has ys x ⊎ (x ≡ y) → test x ≡ true → ((Has ys x → position_or_len test ys < length ys)) → position_or_len test (y ∷ ys) < length (y ∷ ys)
  at_first test x y ys h passes further = by (test y) refl h
    where
      by : (b : Bool) → test y ≡ b → Has ys x ⊎ (x ≡ y) → cond (not b) (1 + position_or_len test ys) 0 < suc (length ys)
      by true is h = omega arith
      by false is (inl there) = let k = further there in omega (arith, k)
      by false is (inr same) = absurd (cc (sym passes ∙ ap test same ∙ is))

  pub position_within : (test : X → Bool) (xs : List X) (x : X) → Has xs x → test x ≡ true → position_or_len test xs < length xs
  position_within test [] x h passes = absurd h
  position_within test (y ∷ ys) x (inl same) passes = at_first test x y ys (inr same) passes (λ there. position_within test ys x there passes)
  position_within test (y ∷ ys) x (inr there) passes = at_first test x y ys (inl there) passes (λ k. position_within test ys x k passes)

  pub has_get_or : (xs : List X) (i : ℕ) (d : X) → i < length xs → Has xs (get_or xs i d)
  has_get_or [] i d within = absurd (omega (arith, within))
  has_get_or (y ∷ ys) zero d within = inl refl
  has_get_or (y ∷ ys) (suc i) d within = inr (has_get_or ys i d (omega (arith, within)))

-- ---- names

-- one of the nodes has the number
abbrev pub Named : ℕ → List NodePart → Type 0
Named number nodes = (n : NodePart) × Has nodes n × ((n.number == number) ≡ true)

pub serial_found : (number : ℕ) (nodes : List NodePart) → Named number nodes → (i : ℕ) × (serial_of number nodes ≡ Some i) × (i < length nodes)
serial_found number nodes (n, h, is) =
    let within = position_within (λ m. m.number == number) nodes n h is in
    (position_or_len (λ m. m.number == number) nodes, cond-true (nat_lt (position_or_len (λ m. m.number == number) nodes) (length nodes)) _ _ (lt-ltb (position_or_len (λ m. m.number == number) nodes) (length nodes) within), within)

pub found_named : (number serial : ℕ) (nodes : List NodePart) → serial_of number nodes ≡ Some serial → Named number nodes
found_named number serial nodes is =
    let k = position-Some (λ m. m.number == number) nodes serial no_node is in
    (get_or nodes serial no_node, has_get_or nodes serial no_node k.0, k.1)

still_named : (number made peers : ℕ) (nodes : List NodePart) (found : Option ℕ) (n : NodePart) → Named number nodes → Named number (elim found [ None ↦ nodes ++ n ∷ [] | Some serial ↦ nodes ])
still_named number made peers nodes None n (m, h, is) = (m, has_left nodes (n ∷ []) m h, is)
still_named number made peers nodes (Some serial) n named = named

all_still_named : (number peers : ℕ) (numbers : List ℕ) (nodes : List NodePart) → Named number nodes → Named number (fold (λ ns made. with_made peers made ns) nodes numbers)
all_still_named number peers [] nodes named = named
all_still_named number peers (made ∷ rest) nodes named = all_still_named number peers rest (with_made peers made nodes) (still_named number made peers nodes (serial_of made nodes) _ named)

made_named : (number peers : ℕ) (nodes : List NodePart) (found : Option ℕ) → serial_of number nodes ≡ found → Named number (elim found [ None ↦ nodes ++ record { number = number; state = Live; counts = replicate peers 0; taken = false } ∷ [] | Some serial ↦ nodes ])
made_named number peers nodes None is = (_, has_last nodes _, eq-eqb number number refl)
made_named number peers nodes (Some serial) is = found_named number serial nodes is

all_made_named : (number peers : ℕ) (numbers : List ℕ) (nodes : List NodePart) → Has numbers number → Named number (fold (λ ns made. with_made peers made ns) nodes numbers)
all_made_named number peers [] nodes h = absurd h
all_made_named number peers (made ∷ rest) nodes (inl same) = all_still_named number peers rest (with_made peers made nodes) (subst (λ m. Named m (with_made peers made nodes)) (sym same) (made_named made peers nodes (serial_of made nodes) refl))
all_made_named number peers (made ∷ rest) nodes (inr further) = all_made_named number peers rest (with_made peers made nodes) further

-- ---- refusals

none_first : (r : Option Reason) (rest : List (Option Reason)) → first_reason (r ∷ rest) ≡ None → (r ≡ None) × (first_reason rest ≡ None)
none_first None rest is = (refl, is)
none_first (Some r) rest is = absurd (cc is)

not_then : (b : Bool) (r : Reason) → then_some b r ≡ None → b ≡ false
not_then true r is = absurd (cc is)
not_then false r is = refl

none_mapped : (found : Option ℕ) → option_map (λ number. reason.Unknown number) found ≡ None → found ≡ None
none_mapped None is = refl
none_mapped (Some number) is = absurd (cc is)

known : (node : Option NodeRef) → is_none node ≡ false → (n : NodeRef) × (node ≡ Some n)
known None is = absurd (cc is)
known (Some n) is = (n, refl)

pub names_of : (x : PeerPart) (numbers : List ℕ) (number : ℕ) → unknown_reason x numbers ≡ None → Has numbers number → (n : NodeRef) × (node_named x number ≡ Some n)
names_of x numbers number is h = known (node_named x number) (find_fails (is_unknown x) numbers number (none_mapped (find (is_unknown x) numbers) is) h)

-- ---- the nodes that are found

-- a number names a made node
abbrev Finds : State → PeerPart → ℕ → Type 0
Finds t y number = (n : NodeRef) × (node_named y number ≡ Some n) × IsMade t n

module _ (t : State) (y : PeerPart) where
  all_found : (numbers : List ℕ) → ((number : ℕ) → Has numbers number → Finds t y number) → (length (filter_map (node_named y) numbers) ≡ length numbers) × All (IsMade t) (filter_map (node_named y) numbers)
  all_found [] finds = (refl, All-nil (IsMade t))
  all_found (number ∷ rest) finds =
      let (n, is, made) = finds number (inl refl) in
      let further = all_found rest (λ m h. finds m (inr h)) in
      rw is (ap suc further.0, All-cons (IsMade t) n (filter_map (node_named y) rest) made further.1)

  module _ (is_peer : IsPeer t y.me y) (made : (h : HandleRecord) → Has y.handles h → IsMade t h.node) where
    own_found : (number : ℕ) → is_own number ≡ true → Named number y.nodes → Finds t y number
    own_found number own named =
        let (i, is, within) = serial_found number y.nodes named in
        (record { owner = y.me; serial = i }, rw (own, is) refl, (y, is_peer, within))

    held_found : (number : ℕ) (n : NodeRef) → held_node number y.handles ≡ Some n → IsMade t n
    held_found number n is = at (find (is_number number) y.handles) refl is
      where
        at : (found : Option HandleRecord) → find (is_number number) y.handles ≡ found → elim found [ None ↦ None | Some h ↦ Some h.node ] ≡ Some n → IsMade t n
        at None none is = absurd (cc is)
        at (Some h) there is = let same : h.node ≡ n = cc is in subst (IsMade t) same (made h (find_passes (is_number number) y.handles h there))

    given_found : (number : ℕ) (n : NodeRef) → is_own number ≡ false → held_node number y.handles ≡ Some n → Finds t y number
    given_found number n own is = (n, rw own is, held_found number n is)

-- ---- an accepted begin

-- a number of a SEND is an own or a given one
own_or_given : (number : ℕ) → is_odd number ≡ false → is_own number ≡ false → is_given number ≡ true
own_or_given number odd own = let a = eqb-false (number % 2) 1 odd in let b = eqb-false (number % 4) 0 own in eq-eqb (number % 4) 2 (omega (arith, a, b))

-- what no refusal leaves true of a SEND
pub record Accepted (x : PeerPart) (c : SendCmd) : Type 0 where
  pub form : is_bad_send c ≡ false
  pub payload : length c.payload ≤ 65536
  pub clock : nat_le clock_limit x.clock ≡ false
  pub to : unknown_reason x c.to ≡ None
  pub with : unknown_reason x (filter is_given c.with) ≡ None

pub accepted : (x : PeerPart) (c : SendCmd) → send_refusal x c ≡ None → Accepted x c
accepted x c is =
    let one = none_first (then_some (is_bad_send c) reason.Invalid) _ is in
    let two = none_first (then_some (nat_lt 65536 (length c.payload)) (reason.Size (length c.payload))) _ one.1 in
    let three = none_first (then_some (nat_le clock_limit x.clock) (reason.Overflow x.clock)) _ two.1 in
    let four = none_first (unknown_reason x c.to) _ three.1 in
    let five = none_first (unknown_reason x (filter is_given c.with)) (first_reason (map (dead_reason x) c.with) ∷ []) four.1 in
    record {
      form = not_then (is_bad_send c) reason.Invalid one.0;
      payload = ltb-false 65536 (length c.payload) (not_then (nat_lt 65536 (length c.payload)) (reason.Size (length c.payload)) two.0);
      clock = not_then (nat_le clock_limit x.clock) (reason.Overflow x.clock) three.0;
      to = four.0;
      with = five.0;
    }

pub record Formed (c : SendCmd) : Type 0 where
  pub some : 1 ≤ length c.to
  pub destinations : length c.to ≤ 64
  pub handles : length c.with ≤ 64
  pub to : list_any is_odd c.to ≡ false
  pub with : list_any is_odd c.with ≡ false

formed : (c : SendCmd) → is_bad_send c ≡ false → Formed c
formed c is =
    let one = or_parts _ (list_any is_odd c.with) is in
    let two = or_parts _ (list_any is_odd c.to) one.0 in
    let three = or_parts _ (nat_lt 64 (length c.with)) two.0 in
    let four = or_parts (length c.to == 0) (nat_lt 64 (length c.to)) three.0 in
    let empty = eqb-false (length c.to) 0 four.0 in
    record {
      some = omega (arith, empty);
      destinations = ltb-false 64 (length c.to) four.1;
      handles = ltb-false 64 (length c.with) three.1;
      to = two.1;
      with = one.1;
    }

module _ (t : State) (x : PeerPart) (c : SendCmd) (is_peer : IsPeer t x.me (begun_part x c)) (made : (h : HandleRecord) → Has x.handles h → IsMade t h.node) (right : Accepted x c) where
  by_own : (number : ℕ) (n : NodeRef) → is_own number ≡ true → node_named x number ≡ Some n → Named number x.nodes
  by_own number n own is = at (serial_of number x.nodes) refl (rw own at is)
    where
      at : (found : Option ℕ) → serial_of number x.nodes ≡ found → elim found [ None ↦ None | Some serial ↦ Some (record { owner = x.me; serial = serial }) ] ≡ Some n → Named number x.nodes
      at None none same = absurd (cc same)
      at (Some serial) there same = found_named number serial x.nodes there

  by_held : (number : ℕ) (n : NodeRef) → is_own number ≡ false → node_named x number ≡ Some n → held_node number x.handles ≡ Some n
  by_held number n own is = rw own at is

  -- a number that names a node before the begin names a made one after it
  still_found : (number : ℕ) (n : NodeRef) → node_named x number ≡ Some n → Finds t (begun_part x c) number
  still_found number n is =
      elim (cases_Bool (is_own number)) [
        | inl own ↦ own_found t (begun_part x c) is_peer made number own (all_still_named number x.peers (filter is_own c.with) x.nodes (by_own number n own is))
        | inr other ↦ given_found t (begun_part x c) is_peer made number n other (by_held number n other is)
      ]

  to_found : (number : ℕ) → Has c.to number → Finds t (begun_part x c) number
  to_found number h = let k = names_of x c.to number right.to h in still_found number k.0 k.1

  with_found : (number : ℕ) → Has c.with number → Finds t (begun_part x c) number
  with_found number h =
      elim (cases_Bool (is_own number)) [
        | inl own ↦ own_found t (begun_part x c) is_peer made number own (all_made_named number x.peers (filter is_own c.with) x.nodes (has_filter is_own c.with number h own))
        | inr other ↦
            let given = own_or_given number (none_passes is_odd c.with number (formed c right.form).with h) other in
            let k = names_of x (filter is_given c.with) number right.with (has_filter is_given c.with number h given) in
            still_found number k.0 k.1
      ]

  pub begun_right : IsBegun t (cmd.Send c) (begun_nodes x c)
  begun_right =
      let f = formed c right.form in
      let to = all_found t (begun_part x c) c.to to_found in
      let with_nodes = all_found t (begun_part x c) c.with with_found in
      record {
        send = record { is_send = refl; some = f.some; destinations = f.destinations; handles = f.handles; payload = right.payload };
        destinations = to.0;
        handles = with_nodes.0;
        to = to.1;
        with = with_nodes.1;
      }
