-- Facts of records alone: where messages, notices and last receipts come from, which node is late, and epochs of names.
use Rattle.std.proofs.Common.{◌≡◌, ◌⊎◌, refl, sym, ap, subst, ◌∙◌, inl, inr, ℕ, zero, suc, ◌+◌, ◌≤◌, ◌<◌, ◌==◌, Bool, true, false, cond, ◌||◌, List, [], ◌∷◌, ◌++◌, length, flat_map, find, map, Option, Some, None}
use Rattle.std.specs.Prelude.{slice_get, option_and_then}
use Rattle.std.specs.List.{list_any, range_with_len}
use Rattle.std.specs.Option.{option_flatten}
use Rattle.std.proofs.lemmas.Bool.{and_parts, cases_eq, eqb-true, eq-eqb, ne_eqb}
use Rattle.std.proofs.lemmas.Option.{same_Some}
use native.Mathlib.Omega.{arith}
use Rattle.b1_model.specs.declared.commands.Command.{Command}
use Rattle.b1_model.specs.declared.commands.Command.TheVariants as cmd
use Rattle.b1_model.specs.declared.commands.SendCmd.{SendCmd}
use Rattle.b1_model.specs.declared.naming.Key.{Key}
use Rattle.b1_model.specs.declared.naming.Wire.{Wire}
use Rattle.b1_model.specs.declared.answers.Answer.{Answer}
use Rattle.b1_model.specs.declared.answers.Answer.TheVariants as ans
use Rattle.b1_model.specs.declared.answers.Receipt.TheVariants as rec
use Rattle.b1_model.specs.declared.answers.Sent.{Sent}
use Rattle.b1_model.specs.declared.records.Call.{Call}
use Rattle.b1_model.specs.declared.records.Record.{Record}
use Rattle.b1_model.specs.Names.{Node, same_node, calls_of, made}
use Rattle.b1_model.specs.Ledger.{got_key, is_before, is_the_node, has_node, Message, message, message_at, slots, is_send, sent_at, node_of, table, Destruction, destruction_by, add_destruction, destructions_before, destructions_of, destructions, peers_of, node_at, doomed_at, is_late_by, is_late}
use Rattle.b1_model.specs.Legal.{last_after, last_in, last_key}
use Rattle.b1_step.specs.Rights.{Has}
use Rattle.b1_ledger.specs.Growth.{sent_call, destroy_stamp, RisesAt}
use Rattle.b1_ledger.proofs.Bound.{message_is, message_of_call, one_call}
use Rattle.b1_ledger.proofs.Calls.{stamp_of_destroy, node_of_notice}
use Rattle.b1_ledger.proofs.Sequences.{take-end, and_of}
use Rattle.b1_ledger.proofs.Walks.{sent_at-call}

-- ---- the send of a message

is_sent : (stamp : ℕ) (command : Command) (answer : Answer) → is_send stamp command answer ≡ true → (s : SendCmd) × (b : Sent) × (command ≡ cmd.Send s) × (answer ≡ ans.Sent b) × (b.stamp ≡ stamp)
is_sent stamp (cmd.Send s) (ans.Sent b) is = (s, b, refl, refl, sym (eqb-true stamp b.stamp is))
is_sent stamp command answer is = absurd (cc is)

-- the call that sent a message
pub record SentBy (ws : List Wire) (r : Record) (stamp q : ℕ) (m : Message) : Type 0 where
  pub place : ℕ
  pub command : SendCmd
  pub sent : Sent
  pub is_call : slice_get (calls_of r q) place ≡ Some (sent_call command sent)
  pub stamped : sent.stamp ≡ stamp
  pub places : m.places ≡ sent.places
  pub to : m.to ≡ map (node_of ws r q place) command.to

pub sent_by : (ws : List Wire) (r : Record) → RisesAt r → (stamp q : ℕ) (m : Message) → message ws r stamp q ≡ Some m → SentBy ws r stamp q m
sent_by ws r rises stamp q m is = by (sent_at stamp (calls_of r q)) refl (sym (message_is ws r rises stamp q) ∙ is)
  where
    by : (found : Option ℕ) → sent_at stamp (calls_of r q) ≡ found → option_and_then (message_at ws q (calls_of r q) (slots ws r q)) found ≡ Some m → SentBy ws r stamp q m
    by None at none = absurd (cc none)
    by (Some k) at found =
        let call = sent_at-call stamp (calls_of r q) k at in
        let kind = is_sent stamp call.0.command call.0.answer call.2 in
        let is_call : slice_get (calls_of r q) k ≡ Some (sent_call kind.0 kind.1) = call.1 ∙ ap Some (call_is call.0 kind.0 kind.1 kind.2 kind.3) in
        let whole = sym (ap (λ n. message ws r n q) kind.4) in
        let same = same_Some m _ (sym is ∙ whole ∙ message_of_call ws r rises q k kind.0 kind.1 is_call) in
        record { place = k; command = kind.0; sent = kind.1; is_call = is_call; stamped = kind.4; places = ap (λ z. z.places) same; to = ap (λ z. z.to) same }
      where
        call_is : (c : Call) (s : SendCmd) (b : Sent) → c.command ≡ cmd.Send s → c.answer ≡ ans.Sent b → c ≡ sent_call s b
        call_is c s b one two = rw (one, two) refl

-- ---- the last receipt

-- the last key after some calls was there before, or one of them received it
last_found : (l : Option Key) (calls : List Call) (key : Key) → last_in l calls ≡ Some key → (l ≡ Some key) ⊎ ((c : Call) × Has calls c × (got_key c.answer ≡ Some key))
last_found l [] key is = inl is
last_found l (c ∷ rest) key is = elim (last_found (last_after l c.answer) rest key is) [
  | inr (d, has, got) ↦ inr (d, inr has, got)
  | inl after ↦ by c.answer refl after
]
  where
    by : (a : Answer) → c.answer ≡ a → last_after l a ≡ Some key → (l ≡ Some key) ⊎ ((d : Call) × Has (c ∷ rest) d × (got_key d.answer ≡ Some key))
    by (ans.Got (rec.Message k number offset handles payload)) at is = inr (c, inl refl, ap got_key at ∙ is)
    by (ans.Got (rec.Destroyed k number)) at is = inr (c, inl refl, ap got_key at ∙ is)
    by (ans.Reset stamp) at is = absurd (cc is)
    by a at is = inl is

-- a last key was received
pub last_received : (r : Record) (p : ℕ) (key : Key) → last_key r p (length (calls_of r p)) ≡ Some key → (c : Call) × Has (calls_of r p) c × (got_key c.answer ≡ Some key)
last_received r p key is = elim (last_found None (calls_of r p) key (sym (ap (last_in None) (take-end (calls_of r p))) ∙ is)) [
  | inl none ↦ absurd (cc none)
  | inr found ↦ found
]

-- ---- destructions

-- a destruction of p is one of its calls, and is found by its stamp
pub record Destroys (ws : List Wire) (r : Record) (p k : ℕ) (d : Destruction) : Type 0 where
  pub place : ℕ
  pub call : Call
  pub is_call : slice_get (calls_of r p) place ≡ Some call
  pub before : place < k
  pub stamped : destroy_stamp call.answer ≡ Some d.stamp
  pub origin : d.origin ≡ p
  pub found : find (λ e. e.stamp == d.stamp) (destructions_before ws r p k) ≡ Some d

has_append : {A : Type 0} (xs ys : List A) (a : A) → Has (xs ++ ys) a → Has xs a ⊎ Has ys a
has_append [] ys a h = inr h
has_append (x ∷ xs) ys a (inl same) = inl (inl same)
has_append (x ∷ xs) ys a (inr h) = elim (has_append xs ys a h) [ inl one ↦ inl (inr one) | inr two ↦ inr two ]

find_kept : {A : Type 0} (test : A → Bool) (xs ys : List A) (a : A) → find test xs ≡ Some a → find test (xs ++ ys) ≡ Some a
find_kept test [] ys a is = absurd (cc is)
find_kept test (x ∷ xs) ys a is = by (test x) (find_kept test xs ys a) is
  where
    by : (b : Bool) → (find test xs ≡ Some a → find test (xs ++ ys) ≡ Some a) → cond b (Some x) (find test xs) ≡ Some a → cond b (Some x) (find test (xs ++ ys)) ≡ Some a
    by true further here = here
    by false further here = further here

find_behind : {A : Type 0} (test : A → Bool) (xs : List A) (a : A) → ((x : A) → Has xs x → test x ≡ false) → test a ≡ true → find test (xs ++ a ∷ []) ≡ Some a
find_behind test [] a none is = ap (λ b. cond b (Some a) None) is
find_behind test (x ∷ xs) a none is = ap (λ b. cond b (Some x) (find test (xs ++ a ∷ []))) (none x (inl refl)) ∙ find_behind test xs a (λ y h. none y (inr h)) is

module _ (ws : List Wire) (r : Record) (rises : RisesAt r) (p : ℕ) where
  one_destruction : (k : ℕ) (earlier : List Destruction) (command : Command) (answer : Answer) (d : Destruction) → Has (destruction_by p (made ws r p k) (table ws r p k) earlier command answer) d
      → (destroy_stamp answer ≡ Some d.stamp) × (d.origin ≡ p) × (destruction_by p (made ws r p k) (table ws r p k) earlier command answer ≡ d ∷ [])
  one_destruction k earlier command (ans.Destroyed stamp) d (inl same) = (ap (λ e. Some e.stamp) (sym same), ap (λ e. e.origin) same, ap (λ e. e ∷ []) (sym same))
  one_destruction k earlier command (ans.Destroyed stamp) d (inr h) = absurd h
  one_destruction k earlier command (ans.Reset (Some stamp)) d (inl same) = (ap (λ e. Some e.stamp) (sym same), ap (λ e. e.origin) same, ap (λ e. e ∷ []) (sym same))
  one_destruction k earlier command (ans.Reset (Some stamp)) d (inr h) = absurd h
  one_destruction k earlier command answer d h = absurd h

  pub destroys : (k : ℕ) (d : Destruction) → Has (destructions_before ws r p k) d → Destroys ws r p k d
  destroys zero d h = absurd h
  destroys (suc k) d h = by (slice_get (calls_of r p) k) refl h (λ e. destroys k e)
    where
      earlier : List Destruction
      earlier = destructions_before ws r p k

      next : Call → List Destruction
      next c = destruction_by p (made ws r p k) (table ws r p k) earlier c.command c.answer

      by : (found : Option Call) → slice_get (calls_of r p) k ≡ found → Has (add_destruction p (made ws r p k) (table ws r p k) found earlier) d → ((e : Destruction) → Has earlier e → Destroys ws r p k e) → Destroys ws r p (suc k) d
      by None at has further =
          let old = further d has in
          record { place = old.place; call = old.call; is_call = old.is_call; before = (let low = old.before in omega (arith, low)); stamped = old.stamped; origin = old.origin; found = ap (find (λ e. e.stamp == d.stamp)) (same_none at) ∙ old.found }
        where
          same_none : slice_get (calls_of r p) k ≡ None → destructions_before ws r p (suc k) ≡ earlier
          same_none none = ap (λ z. add_destruction p (made ws r p k) (table ws r p k) z earlier) none
      by (Some c) at has further = elim (has_append earlier (next c) d has) [
        | inl there ↦
            let old = further d there in
            record { place = old.place; call = old.call; is_call = old.is_call; before = (let low = old.before in omega (arith, low)); stamped = old.stamped; origin = old.origin; found = ap (find (λ e. e.stamp == d.stamp)) (same_some at) ∙ find_kept (λ e. e.stamp == d.stamp) earlier (next c) d old.found }
        | inr new ↦
            let one = one_destruction k earlier c.command c.answer d new in
            record {
              place = k;
              call = c;
              is_call = at;
              before = omega arith;
              stamped = one.0;
              origin = one.1;
              found =
                  ap (find (λ e. e.stamp == d.stamp)) (same_some at ∙ ap (λ l. earlier ++ l) one.2)
                  ∙ find_behind (λ e. e.stamp == d.stamp) earlier d (λ e old. other e (further e old) one.0) (eq-eqb d.stamp d.stamp refl);
            }
      ]
        where
          same_some : slice_get (calls_of r p) k ≡ Some c → destructions_before ws r p (suc k) ≡ earlier ++ next c
          same_some some = ap (λ z. add_destruction p (made ws r p k) (table ws r p k) z earlier) some

          other : (e : Destruction) → Destroys ws r p k e → destroy_stamp c.answer ≡ Some d.stamp → (e.stamp == d.stamp) ≡ false
          other e old stamped = ne_eqb e.stamp d.stamp (λ same.
              let both = one_call ws r rises p old.place k d.stamp old.call c old.is_call at (stamp_of_destroy old.call.answer d.stamp (old.stamped ∙ ap Some same)) (stamp_of_destroy c.answer d.stamp stamped) in
              let low = old.before in absurd (omega (arith, both, low)))

-- ---- which node is late

-- a node in a list of nodes has a place there
placed : (nodes : List (Option Node)) (x : Node) → has_node x nodes ≡ true → (i : ℕ) × (y : Node) × (slice_get nodes i ≡ Some (Some y)) × (same_node x y ≡ true)
placed [] x is = absurd (cc is)
placed (n ∷ rest) x is = by (is_the_node x n) refl is (placed rest x)
  where
    first : (m : Option Node) → n ≡ m → is_the_node x m ≡ true → (i : ℕ) × (y : Node) × (slice_get (n ∷ rest) i ≡ Some (Some y)) × (same_node x y ≡ true)
    first None at none = absurd (cc none)
    first (Some y) at same = (0, y, ap Some at, same)

    by : (b : Bool) → is_the_node x n ≡ b → (b || list_any (is_the_node x) rest) ≡ true → (has_node x rest ≡ true → (i : ℕ) × (y : Node) × (slice_get rest i ≡ Some (Some y)) × (same_node x y ≡ true))
        → (i : ℕ) × (y : Node) × (slice_get (n ∷ rest) i ≡ Some (Some y)) × (same_node x y ≡ true)
    by true at here further = first n refl at
    by false at here further = let k = further here in (suc k.0, k.1, k.2, k.3)

any_has : {A : Type 0} (test : A → Bool) (xs : List A) → list_any test xs ≡ true → (a : A) × Has xs a × (test a ≡ true)
any_has test [] is = absurd (cc is)
any_has test (x ∷ rest) is = by (test x) refl is (any_has test rest)
  where
    by : (b : Bool) → test x ≡ b → (b || list_any test rest) ≡ true → (list_any test rest ≡ true → (a : _) × Has rest a × (test a ≡ true)) → (a : _) × Has (x ∷ rest) a × (test a ≡ true)
    by true at here further = (x, inl refl, at)
    by false at here further = let k = further here in (k.0, inr k.1, k.2)

has_any : {A : Type 0} (test : A → Bool) (xs : List A) (a : A) → Has xs a → test a ≡ true → list_any test xs ≡ true
has_any test [] a h is = absurd h
has_any test (x ∷ rest) a (inl same) is = ap (λ b. b || list_any test rest) (ap test (sym same) ∙ is)
has_any test (x ∷ rest) a (inr h) is = by (test x) (has_any test rest a h is)
  where
    by : (b : Bool) → list_any test rest ≡ true → (b || list_any test rest) ≡ true
    by true further = refl
    by false further = further

flat_has : {A B : Type 0} (f : A → List B) (xs : List A) (b : B) → Has (flat_map f xs) b → (a : A) × Has xs a × Has (f a) b
flat_has f [] b h = absurd h
flat_has f (x ∷ rest) b h = elim (has_append (f x) (flat_map f rest) b h) [
  | inl here ↦ (x, inl refl, here)
  | inr further ↦ let k = flat_has f rest b further in (k.0, inr k.1, k.2)
]

append_left : {A : Type 0} (xs ys : List A) (a : A) → Has xs a → Has (xs ++ ys) a
append_left [] ys a h = absurd h
append_left (x ∷ rest) ys a (inl same) = inl same
append_left (x ∷ rest) ys a (inr h) = inr (append_left rest ys a h)

append_right : {A : Type 0} (xs ys : List A) (a : A) → Has ys a → Has (xs ++ ys) a
append_right [] ys a h = h
append_right (x ∷ rest) ys a h = inr (append_right rest ys a h)

has_flat : {A B : Type 0} (f : A → List B) (xs : List A) (a : A) (b : B) → Has xs a → Has (f a) b → Has (flat_map f xs) b
has_flat f [] a b h there = absurd h
has_flat f (x ∷ rest) a b (inl same) there = append_left (f x) (flat_map f rest) b (subst (λ z. Has (f z) b) same there)
has_flat f (x ∷ rest) a b (inr h) there = append_right (f x) (flat_map f rest) b (has_flat f rest a b h there)

range_has : (from n q : ℕ) → from ≤ q → q < from + n → Has (range_with_len from n) q
range_has from zero q low high = absurd (omega (arith, low, high))
range_has from (suc n) q low high = elim (cases_eq q from) [
  | inl same ↦ inl same
  | inr apart ↦ inr (range_has (from + 1) n q (omega (arith, low, apart)) (omega (arith, high)))
]

found_has : {A : Type 0} (test : A → Bool) (xs : List A) (a : A) → find test xs ≡ Some a → Has xs a × (test a ≡ true)
found_has test [] a is = absurd (cc is)
found_has test (x ∷ rest) a is = by (test x) refl is (found_has test rest a)
  where
    by : (b : Bool) → test x ≡ b → cond b (Some x) (find test rest) ≡ Some a → (find test rest ≡ Some a → Has rest a × (test a ≡ true)) → Has (x ∷ rest) a × (test a ≡ true)
    by true at here further = let same = same_Some x a here in (inl (sym same), ap test (sym same) ∙ at)
    by false at here further = let k = further here in (inr k.0, k.1)

-- a node that is destroyed before a key has a notice with a key before it
pub late_notice : (ws : List Wire) (r : Record) → RisesAt r → (x : Node) (key : Key) → is_late ws r x key ≡ true
    → (notice : Key) × (y : Node) × (doomed_at ws r notice ≡ Some y) × (same_node x y ≡ true) × (is_before notice.stamp notice.origin key.stamp key.origin ≡ true)
late_notice ws r rises x key is =
    let late = any_has (is_late_by x key) (destructions ws r) is in
    let from = flat_has (destructions_of ws r) (peers_of r) late.0 late.1 in
    let parts = and_parts (is_before late.0.stamp late.0.origin key.stamp key.origin) (has_node x late.0.nodes) late.2 in
    let place = placed late.0.nodes x parts.1 in
    let known = destroys ws r rises from.0 (length (calls_of r from.0)) late.0 from.2 in (
      record { stamp = late.0.stamp; origin = from.0; index = place.0 },
      place.1,
      ap (node_at place.0) known.found ∙ ap option_flatten place.2,
      place.3,
      ap (λ z. is_before late.0.stamp z key.stamp key.origin) (sym known.origin) ∙ parts.0,
    )

-- and the other way round
pub notice_late : (ws : List Wire) (r : Record) → RisesAt r → (x : Node) (notice key : Key) → notice.origin < length r.peers → doomed_at ws r notice ≡ Some x → is_before notice.stamp notice.origin key.stamp key.origin ≡ true → is_late ws r x key ≡ true
notice_late ws r rises x notice key low is before =
    let k = node_of_notice notice.index (find (λ d. d.stamp == notice.stamp) (destructions_of ws r notice.origin)) x is in
    let f = found_has (λ d. d.stamp == notice.stamp) (destructions_of ws r notice.origin) k.0 k.1 in
    let known = destroys ws r rises notice.origin (length (calls_of r notice.origin)) k.0 f.0 in
    let stamp : k.0.stamp ≡ notice.stamp = eqb-true k.0.stamp notice.stamp f.1 in
    let here : is_before k.0.stamp k.0.origin key.stamp key.origin ≡ true = ap (λ z. is_before z k.0.origin key.stamp key.origin) stamp ∙ ap (λ z. is_before notice.stamp z key.stamp key.origin) known.origin ∙ before in
    has_any (is_late_by x key) (destructions ws r) k.0
    (has_flat (destructions_of ws r) (peers_of r) notice.origin k.0 (range_has 0 (length r.peers) notice.origin (omega arith) (omega (arith, low))) f.0)
    (and_of (is_before k.0.stamp k.0.origin key.stamp key.origin) (has_node x k.0.nodes) here k.2)

-- no key is both of a message and of a notice
pub one_kind : (ws : List Wire) (r : Record) → RisesAt r → (key : Key) (m : Message) (x : Node) → message ws r key.stamp key.origin ≡ Some m → doomed_at ws r key ≡ Some x → ⊥
one_kind ws r rises key m x is also =
    let sent = sent_by ws r rises key.stamp key.origin m is in
    let k = node_of_notice key.index (find (λ d. d.stamp == key.stamp) (destructions_of ws r key.origin)) x also in
    let f = found_has (λ d. d.stamp == key.stamp) (destructions_of ws r key.origin) k.0 k.1 in
    let known = destroys ws r rises key.origin (length (calls_of r key.origin)) k.0 f.0 in
    let stamp : k.0.stamp ≡ key.stamp = eqb-true k.0.stamp key.stamp f.1 in
    let stamped : destroy_stamp known.call.answer ≡ Some key.stamp = known.stamped ∙ ap Some stamp in
    let place = one_call ws r rises key.origin sent.place known.place key.stamp (sent_call sent.command sent.sent) known.call sent.is_call known.is_call (ap Some sent.stamped) (stamp_of_destroy known.call.answer key.stamp stamped) in
    let same : sent_call sent.command sent.sent ≡ known.call = same_Some (sent_call sent.command sent.sent) known.call (sym sent.is_call ∙ ap (slice_get (calls_of r key.origin)) place ∙ known.is_call) in
    let both : None ≡ Some key.stamp = ap (λ c. destroy_stamp c.answer) same ∙ stamped in absurd (cc both)
