-- Where one seat has all drivers' parts: the rule holds of a table as it is made, and the state of a table that is closed is reached.
use Rattle.std.proofs.Common.{◌≡◌, ℕ, zero, suc, ◌+◌, ◌<◌, ◌≤◌, ◌==◌, cond, ◌≢◌, List, [], ◌∷◌, map, length, sym, refl, ap, ◌∙◌, subst, inl, inr, arith, Option, Some, None, slice_get, slice_index}
use Rattle.std.proofs.Common.{eq-eqb, ne_eqb}
use Rattle.std.proofs.lemmas.List.{length-map}
use Rattle.std.proofs.lemmas.Option.{same_Some, slice_get_within}
use mathlib.Core.Logic.{dite}
use mathlib.Core.Option.{some, some-injective, some-ne-none}
use native.Mathlib.Decide.{ℕ_discrete}
use lib.ListN.{get_elem?}
use Rattle.atomic_table.specs.Table.{State as Table, opening, Final, Seen}
use Rattle.b1_model.specs.declared.naming.Opening.{Opening}
use Rattle.b1_model.specs.Opening.{IsOpening}
use Rattle.b1_model.specs.MachineParts.{State}
use Rattle.b1_model.specs.MachineStep.{Reached}
use Rattle.b1_step.specs.Fixed.{IsNumbered}
use Rattle.b1_step.proofs.Numbers.{reached_numbered}
use Rattle.b1_peer.specs.Seen.{PeerSeen}
use Rattle.b1_driver.specs.Parts.{Driver}
use Rattle.b1_event.specs.Borne.{AreShort}
use Rattle.b1_event.specs.Events.{HasUsers}
use Rattle.b1_rule.specs.Known.{Found, Holding}
use Rattle.b1_rule.specs.Rule.{LedTo, state_of, total, times, names_peer, whole, holding, held_by, IsHeld, Knows, IsFree, Kept}
use Rattle.b1_rule.specs.declared.view.View.{View}
use Rattle.b1_rule.proofs.Sums.{at_home, there, terms_le}
use Rattle.b1_rule.proofs.Keeps.{reached_now, has_it}

-- ---- lists

module _ {X Y : Type 0} (f : X → Y) where
  pub map_at : (xs : List X) (i : ℕ) (y : Y) → slice_get (map f xs) i ≡ Some y → (x : X) × (slice_get xs i ≡ Some x) × (f x ≡ y)
  map_at [] i y is = absurd (cc is)
  map_at (x ∷ xs) zero y is = (x, refl, cc is)
  map_at (x ∷ xs) (suc i) y is = map_at xs i y is

  pub at_map : (xs : List X) (i : ℕ) (x : X) → slice_get xs i ≡ Some x → slice_get (map f xs) i ≡ Some (f x)
  at_map [] i x is = absurd (cc is)
  at_map (z ∷ xs) zero x is = let same : z ≡ x = cc is in ap (λ w. Some (f w)) same
  at_map (z ∷ xs) (suc i) x is = at_map xs i x is

-- two lists that agree in each place
pub same_list : {X : Type 0} (xs ys : List X) → length xs ≡ length ys → ((i : ℕ) (x : X) → slice_get xs i ≡ Some x → slice_get ys i ≡ Some x) → xs ≡ ys
same_list [] [] long same = refl
same_list [] (y ∷ ys) long same = absurd (omega (arith, long))
same_list (x ∷ xs) [] long same = absurd (omega (arith, long))
same_list (x ∷ xs) (y ∷ ys) long same =
    let first : y ≡ x = same_Some y x (same 0 x refl) in
    let others : xs ≡ ys = same_list xs ys (omega (arith, long)) (λ i z is. same (suc i) z is) in
    ap (λ z. z ∷ xs) (sym first) ∙ ap (λ l. y ∷ l) others

-- a sum that isn't 0 has a term that isn't
some_term : {A : Type 0} (g : A → ℕ) (l : List A) → total g l ≢ 0 → (j : ℕ) × (v : A) × (get_elem? l j ≡ some v) × (g v ≢ 0)
some_term g [] more = absurd (more refl)
some_term g (x ∷ xs) more = dite (ℕ_discrete (g x) 0)
    (λ none. let (j, v, is, at) = some_term g xs (λ z. more (omega (arith, none, z))) in (suc j, v, is, at))
    (λ one. (0, x, refl, one))

elem_at : {A : Type 0} (l : List A) (i : ℕ) (a : A) → get_elem? l i ≡ some a → slice_get l i ≡ Some a
elem_at [] i a is = absurd (some-ne-none a (sym is))
elem_at (x ∷ xs) zero a is = ap (λ y. Some y) (some-injective x a is)
elem_at (x ∷ xs) (suc i) a is = elem_at xs i a is

-- ---- drivers in the order of their numbers

times_below : (ds : List Driver) (from p : ℕ) → ((i : ℕ) (d : Driver) → slice_get ds i ≡ Some d → d.part.me ≡ from + i) → p < from → times p (held_by ds) ≡ 0
times_below [] from p numbered less = refl
times_below (d ∷ ds) from p numbered less =
    let me = numbered 0 d refl in
    let other : cond {A = ℕ} (d.part.me == p) 1 0 ≡ 0 = ap (λ b. cond {A = ℕ} b 1 0) (ne_eqb d.part.me p (λ e. omega (arith, me, less, e))) in
    let rest = times_below ds (from + 1) p (λ i e is. let k = numbered (suc i) e is in omega (arith, k)) (omega (arith, less)) in
    omega (arith, other, rest)

times_one : (ds : List Driver) (from p : ℕ) → ((i : ℕ) (d : Driver) → slice_get ds i ≡ Some d → d.part.me ≡ from + i) → from ≤ p → p < from + length ds → times p (held_by ds) ≡ 1
times_one [] from p numbered low high = absurd (omega (arith, low, high))
times_one (d ∷ ds) from p numbered low high =
    let me = numbered 0 d refl in
    let further : (i : ℕ) (e : Driver) → slice_get ds i ≡ Some e → e.part.me ≡ from + 1 + i = λ i e is. let k = numbered (suc i) e is in omega (arith, k) in
    dite (ℕ_discrete p from)
    (λ same.
    let here : cond {A = ℕ} (d.part.me == p) 1 0 ≡ 1 = ap (λ b. cond {A = ℕ} b 1 0) (eq-eqb d.part.me p (omega (arith, me, same))) in
    let rest = times_below ds (from + 1) p further (omega (arith, same)) in
    omega (arith, here, rest))
    (λ apart.
    let other : cond {A = ℕ} (d.part.me == p) 1 0 ≡ 0 = ap (λ b. cond {A = ℕ} b 1 0) (ne_eqb d.part.me p (λ e. apart (omega (arith, me, e)))) in
    let less : from + 1 ≤ p = omega (arith, low, apart) in
    let rest = times_one ds (from + 1) p further less (omega (arith, high)) in
    omega (arith, other, rest))

-- ---- a table that is made

module _ (o : Opening) (xs : List PeerSeen) (ds : List Driver) (ws : List ℕ) (is_opening : IsOpening o) (reached : Reached o (state_of xs ds)) (short : AreShort (state_of xs ds)) (users : (q : ℕ) (x : PeerSeen) → slice_get xs q ≡ Some x → HasUsers o x.users)
    (room : (p : ℕ) (x : PeerSeen) (d : Driver) → slice_get xs p ≡ Some x → slice_get ds p ≡ Some d → length x.part.nodes ≤ d.doomed) (wide : length ws ≡ length o.peers) (zeros : (q : ℕ) → q < length o.peers → slice_index ws q ≡ 0) where
  numbered : IsNumbered o (state_of xs ds)
  numbered = reached_numbered o (state_of xs ds) reached

  as_many_peers : length xs ≡ length o.peers
  as_many_peers = sym (length-map xs (λ (x : PeerSeen). x.part)) ∙ numbered.as_many_peers

  as_many_drivers : length ds ≡ length o.peers
  as_many_drivers = sym (length-map ds (λ (d : Driver). d.part)) ∙ numbered.as_many_drivers

  me_is : (i : ℕ) (d : Driver) → slice_get ds i ≡ Some d → d.part.me ≡ i
  me_is i d is = numbered.drivers i d.part (at_map (λ (e : Driver). e.part) ds i d is)

  is_held : (i : ℕ) (h : Holding) → slice_get (held_by ds) i ≡ Some h → IsHeld (state_of xs ds) h
  is_held i h is =
      let (d, at, same) = map_at holding ds i h is in
      subst (IsHeld (state_of xs ds)) same (record {
        part = ap (slice_get (map (λ (e : Driver). e.part) ds)) (me_is i d at) ∙ at_map (λ (e : Driver). e.part) ds i d at;
        room = λ z peer.
            let (x, there_is, part) = map_at (λ (y : PeerSeen). y.part) xs d.part.me z peer in
            let enough = room i x d (ap (slice_get xs) (sym (me_is i d at)) ∙ there_is) at in
            let same : length x.part.nodes ≡ length z.nodes = ap (λ y. length y.nodes) part in
            omega (arith, enough, same);
      })

  knows_all : Knows o (state_of xs ds) (whole o (held_by ds))
  knows_all = record {
    opening = λ z. refl;
    spent = λ z. absurd (cc z);
    driver = is_held;
    peer = λ f is. absurd (cc is);
    one = λ f is. absurd (cc is);
  }

  knows_first : (j : ℕ) (v : View) → get_elem? (whole o (held_by ds) ∷ []) j ≡ some v → Knows o (state_of xs ds) v
  knows_first zero v is = subst (Knows o (state_of xs ds)) (some-injective _ v is) knows_all
  knows_first (suc j) v is = absurd (some-ne-none v (sym is))

  free_at : (q : ℕ) → q < length o.peers → IsFree o (state_of xs ds) (opening ws xs (whole o (held_by ds))) q
  free_at q within =
      let (x, is) = there xs q (omega (arith, within, as_many_peers)) in
      record {
        word = zeros q within;
        unnamed = refl;
        seen = x;
        home = at_home xs q x is;
        part = at_map (λ (y : PeerSeen). y.part) xs q x is;
        users = users q x is;
      }

  -- all words are 0, all peers are at home, and the one seat has all drivers' parts
  pub starts : Kept o (state_of xs ds) (opening ws xs (whole o (held_by ds)))
  starts = record {
    state = state_of xs ds;
    opening = is_opening;
    begun = reached;
    led = record { steps = []; run = refl };
    short = short;
    wide = wide;
    deep = length-map xs some ∙ as_many_peers;
    view = knows_first;
    driver = λ p within. let once = times_one ds 0 p (λ i d is. let n = me_is i d is in omega (arith, n)) (omega arith) (omega (arith, within, as_many_drivers)) in omega (arith, once);
    peer = λ q within. inl (free_at q within);
  }

-- ---- a table that is closed

-- a seat had all drivers' parts when the table was closed: then no lock was taken, and the peers' states with the drivers' are a reached state
pub record Settled (o : Opening) (first : State) (ys : List PeerSeen) (ds : List Driver) : Type 0 where
  pub opening : IsOpening o
  pub led : LedTo o first (state_of ys ds)
  pub reached : Reached o (state_of ys ds)
  pub short : AreShort (state_of ys ds)
  pub users : (q : ℕ) (x : PeerSeen) → slice_get ys q ≡ Some x → HasUsers o x.users
  pub room : (p : ℕ) (x : PeerSeen) (d : Driver) → slice_get ys p ≡ Some x → slice_get ds p ≡ Some d → length x.part.nodes ≤ d.doomed

module _ (o : Opening) (first : State) (id : ℕ) (ds : List Driver) (ys : List PeerSeen) (many : length ds ≡ length o.peers) (me_is : (i : ℕ) (d : Driver) → slice_get ds i ≡ Some d → d.part.me ≡ i) (t : Table PeerSeen View) (k : Kept o first t) (me : get_elem? t.views id ≡ some (whole o (held_by ds))) (deep : length t.homes ≡ length ys)
    (values : (q : ℕ) (y : PeerSeen) → get_elem? t.homes q ≡ some (some y) → get_elem? ys q ≡ some y) where
  abbrev all : View
  all = whole o (held_by ds)

  -- a view that names a peer has a driver's part, which the one seat has too
  none_names : (q j : ℕ) (v : View) (f : Found) → get_elem? t.views j ≡ some v → v.named ≡ Some f → ⊥
  none_names q j v f is named = dite (ℕ_discrete j id)
      (λ same. let here : all ≡ v = some-injective all v (sym me ∙ ap (get_elem? t.views) (sym same) ∙ is) in absurd (cc (sym named ∙ ap (λ w. w.named) (sym here))))
      (λ apart.
      let one = (k.view j v is).one f named in
      let (h, first) = there v.parts 0 (omega (arith, one)) in
      let held = (k.view j v is).driver 0 h first in
      let within = slice_get_within k.state.drivers h.part.me h.part held.part in
      let as_many = (reached_numbered o k.state (reached_now k)).as_many_drivers in
      let whole_has = times_one ds 0 h.part.me (λ i d is. let n = me_is i d is in omega (arith, n)) (omega arith) (omega (arith, within, as_many, many)) in
      let has = has_it v.parts 0 h first in
      let both = terms_le (λ (w : View). times h.part.me w.parts) t.views id j all v apart me is in
      let once = k.driver h.part.me (omega (arith, within, as_many)) in
      omega (arith, whole_has, has, both, once))

  named_by : (q : ℕ) (v : View) → names_peer q v ≢ 0 → (f : Found) × (v.named ≡ Some f)
  named_by q v names = by v.named refl
    where
      by : (f : Option Found) → v.named ≡ f → (f : Found) × (v.named ≡ Some f)
      by None is = absurd (names (ap (λ (f : Option Found). elim f as (λ z. ℕ) [ None ↦ 0 | Some f ↦ cond (f.peer == q) 1 0 ]) is))
      by (Some f) is = (f, is)

  is_free : (q : ℕ) → q < length o.peers → IsFree o k.state t q
  is_free q within = elim (k.peer q within) [
    | inl free ↦ free
    | inr taken ↦
        let (j, v, is, names) = some_term (names_peer q) t.views (λ z. omega (arith, z, taken.named)) in
        let (f, named) = named_by q v names in
        absurd (none_names q j v f is named)
  ]

  as_many_ys : length ys ≡ length o.peers
  as_many_ys = sym deep ∙ k.deep

  numbered_now : IsNumbered o k.state
  numbered_now = reached_numbered o k.state (reached_now k)

  peer_at : (q : ℕ) (y : PeerSeen) → slice_get ys q ≡ Some y → (slice_get k.state.peers q ≡ Some y.part) × HasUsers o y.users
  peer_at q y is =
      let free = is_free q (let w = slice_get_within ys q y is in omega (arith, w, as_many_ys)) in
      let same : free.seen ≡ y = same_Some free.seen y (sym (elem_at ys q free.seen (values q free.seen free.home)) ∙ is) in
      (free.part ∙ ap (λ z. Some z.part) same, subst (λ z. HasUsers o z.users) same free.users)

  driver_at : (p : ℕ) (d : Driver) → slice_get ds p ≡ Some d → IsHeld k.state (holding d)
  driver_at p d is = (k.view id all me).driver p (holding d) (at_map holding ds p d is)

  same_peers : map (λ y. y.part) ys ≡ k.state.peers
  same_peers = same_list (map (λ (y : PeerSeen). y.part) ys) k.state.peers (length-map ys (λ (y : PeerSeen). y.part) ∙ as_many_ys ∙ sym numbered_now.as_many_peers)
      (λ q x is. let (y, at, part) = map_at (λ (z : PeerSeen). z.part) ys q x is in (peer_at q y at).0 ∙ ap (λ z. Some z) part)

  same_drivers : map (λ d. d.part) ds ≡ k.state.drivers
  same_drivers = same_list (map (λ (d : Driver). d.part) ds) k.state.drivers (length-map ds (λ (d : Driver). d.part) ∙ many ∙ sym numbered_now.as_many_drivers)
      (λ p x is. let (d, at, part) = map_at (λ (e : Driver). e.part) ds p x is in ap (slice_get k.state.drivers) (sym (me_is p d at)) ∙ (driver_at p d at).part ∙ ap (λ z. Some z) part)

  same_state : k.state ≡ state_of ys ds
  same_state = λ i. record { peers = sym same_peers i; drivers = sym same_drivers i }

  settled_here : Settled o first ys ds
  settled_here = record {
    opening = k.opening;
    led = subst (LedTo o first) same_state k.led;
    reached = subst (Reached o) same_state (reached_now k);
    short = subst AreShort same_state k.short;
    users = λ q y is. (peer_at q y is).1;
    room = λ p y d peer is. (driver_at p d is).room y.part (ap (slice_get k.state.peers) (me_is p d is) ∙ (peer_at p y peer).0);
  }

pub settles : (o : Opening) (first : State) (id : ℕ) (ds : List Driver) (ws : List ℕ) (ys : List PeerSeen) → length ds ≡ length o.peers → ((i : ℕ) (d : Driver) → slice_get ds i ≡ Some d → d.part.me ≡ i)
    → Final (Seen (Kept o first) id (whole o (held_by ds))) ws ys → Settled o first ys ds
settles o first id ds ws ys many me_is (t, seen, words, deep, values) = settled_here o first id ds ys many me_is t seen.0 seen.1 deep values
