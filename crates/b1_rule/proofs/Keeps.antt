-- Each kind of step on the table of locks keeps its rule.
use Rattle.std.proofs.Common.{◌≡◌, ◌⊎◌, ℕ, zero, suc, ◌+◌, ◌<◌, ◌≤◌, ◌==◌, eqb, Bool, true, false, cond, ◌≢◌, List, [], ◌∷◌, ◌++◌, length, set, take, drop, sym, refl, ap, ◌∙◌, subst, inl, inr, ⊎_elim, arith, Option, Some, None, slice_get, slice_index}
use Rattle.std.proofs.Common.{length-set, get_or-set_other, get_or-set_same, eq-eqb, ne_eqb}
use Rattle.std.proofs.lemmas.List.{length-map}
use Rattle.std.proofs.lemmas.Option.{same_Some, slice_get_within}
use mathlib.Core.Logic.{dite}
use mathlib.Core.Option as maybe
use mathlib.Core.Option.{some, none, some-injective, some-ne-none}
use native.Mathlib.Decide.{ℕ_discrete}
use lib.ListN.{get_elem?}
use lib.Seq.{set-get_or}
use prog.Atomic.{either}
use Rattle.atomic_table.specs.Table.{State as Table, step, Act, keeps, takes, gives, Valid, carried_after, stepped, Allows, Splits, Joins}
use Rattle.b1_model.specs.declared.naming.Opening.{Opening}
use Rattle.b1_model.specs.declared.commands.Command.{Command}
use Rattle.b1_model.specs.Opening.{IsOpening}
use Rattle.b1_model.specs.MachineParts.{PeerPart, State}
use Rattle.b1_model.specs.MachineStep.{Label, Leads, Step, Reached, opening_state}
use Rattle.b1_step.specs.Rights.{may_be_elsewhere, node_facts}
use Rattle.b1_step.proofs.Lists.{read_same, read_other, set_cases}
use Rattle.b1_step.proofs.Locality.{step_grows, step_keeps, own_place}
use Rattle.b1_step.proofs.Numbers.{reached_numbered}
use Rattle.b1_step.proofs.Steps.{leads_more}
use Rattle.b1_peer.specs.Seen.{PeerSeen}
use Rattle.b1_event.specs.Borne.{AreShort}
use Rattle.b1_event.specs.Events.{HasUsers}
use Rattle.b1_rule.specs.Known.{Found, Holding}
use Rattle.b1_rule.specs.Rule.{LedTo, total, times, names_peer, whole, IsHeld, Knows, IsFree, IsTaken, Kept}
use Rattle.b1_rule.specs.Plays.{Sat, naming, first_left, first_given, joined, spent, Stands, took, Changes, stored}
use Rattle.b1_rule.specs.declared.view.View.{View}
use Rattle.b1_rule.proofs.Sums.{at_set, set_here, set_else, at_snoc, there, only_one, past_first, up_to_first, in_either, total-append, total-cut, total-set, term_le, terms_le, part_le}

-- ---- steps

leads_on : (o : Opening) (steps more : List Label) (s t u : State) → Leads o s steps t → Leads o t more u → Leads o s (steps ++ more) u
leads_on o [] more s t u same further = subst (λ v. Leads o v more u) (sym same) further
leads_on o (l ∷ rest) more s t u run further = (run.0, run.1, leads_on o rest more run.0 t u run.2 further)

-- the state of a table that keeps the rule is reached
pub reached_now : {o : Opening} {first : State} {t : Table PeerSeen View} (k : Kept o first t) → Reached o k.state
reached_now {o} {first} k = record { steps = k.begun.steps ++ k.led.steps; run = leads_on o k.begun.steps k.led.steps (opening_state o) first k.state k.begun.run k.led.run }

led_more : {o : Opening} {first s t : State} {p : ℕ} {command : Option Command} → LedTo o first s → Step o s p command t → LedTo o first t
led_more {o} {first} {s} {t} {p} {command} led step = record { steps = led.steps ++ record { driver = p; command = command } ∷ []; run = leads_more o led.steps first s t (record { driver = p; command = command }) led.run step }

-- ---- names

names_none : (q : ℕ) (v : View) → v.named ≡ None → names_peer q v ≡ 0
names_none q v unnamed = ap (λ (f : Option Found). elim f as (λ z. ℕ) [ None ↦ 0 | Some f ↦ cond (f.peer == q) 1 0 ]) unnamed

names_same : (o : Opening) (held : List Holding) (q : ℕ) (x : PeerPart) → names_peer q (naming o held q x) ≡ 1
names_same o held q x = ap (λ b. cond {A = ℕ} b 1 0) (eq-eqb q q refl)

names_other : (o : Opening) (held : List Holding) (q r : ℕ) (x : PeerPart) → r ≢ q → names_peer r (naming o held q x) ≡ 0
names_other o held q r x apart = ap (λ b. cond {A = ℕ} b 1 0) (ne_eqb q r (λ e. apart (sym e)))

pub names_it : (v : View) (f : Found) → v.named ≡ Some f → names_peer f.peer v ≡ 1
names_it v f is = ap (λ (g : Option Found). elim g as (λ z. ℕ) [ None ↦ 0 | Some g ↦ cond (g.peer == f.peer) 1 0 ]) is ∙ ap (λ b. cond {A = ℕ} b 1 0) (eq-eqb f.peer f.peer refl)

pub has_it : (held : List Holding) (i : ℕ) (h : Holding) → slice_get held i ≡ Some h → 1 ≤ times h.part.me held
has_it held i h is =
    let one : cond {A = ℕ} (h.part.me == h.part.me) 1 0 ≡ 1 = ap (λ b. cond {A = ℕ} b 1 0) (eq-eqb h.part.me h.part.me refl) in
    omega (arith, one, part_le (λ g. cond {A = ℕ} (g.part.me == h.part.me) 1 0) held i h is)

-- ---- the table with another view in one place

abbrev board : List ℕ → List (maybe.Option PeerSeen) → List View → Table PeerSeen View
board ws hs vs = record { words = ws; homes = hs; views = vs }

-- a view that says the same of its parts, and names a peer or none: the other locks stay as they were
other_lock : (o : Opening) (s : State) (t : Table PeerSeen View) (j q r n : ℕ) (v w : View) (home : maybe.Option PeerSeen) (s' : State) → get_elem? t.views j ≡ some v → r ≢ q → names_peer r w ≡ names_peer r v
    → slice_get s'.peers r ≡ slice_get s.peers r → IsFree o s t r ⊎ IsTaken t r → IsFree o s' (board (set t.words q n) (set t.homes q home) (set t.views j w)) r ⊎ IsTaken (board (set t.words q n) (set t.homes q home) (set t.views j w)) r
other_lock o s t j q r n v w home s' me apart names same (inl free) = inl (record {
  word = get_or-set_other t.words q r n 0 apart ∙ free.word;
  unnamed = omega (arith, total-set (names_peer r) t.views j v w me, names, free.unnamed);
  seen = free.seen;
  home = set_else t.homes q r home apart ∙ free.home;
  part = same ∙ free.part;
  users = free.users;
})
other_lock o s t j q r n v w home s' me apart names same (inr taken) = inr (record {
  word = get_or-set_other t.words q r n 0 apart ∙ taken.word;
  named = omega (arith, total-set (names_peer r) t.views j v w me, names, taken.named);
  out = set_else t.homes q r home apart ∙ taken.out;
})

-- ---- take

module _ (o : Opening) (first : State) (slots id : ℕ) (m : Sat) (q : ℕ) (none_named : m.0.named ≡ None) (unspent : m.0.spent ≡ false) (one : length m.0.parts ≡ 1) (near : q < slots) where
  abbrev then : ℕ → Sat → Type 0
  then = took (step slots q 0 1 none) m

  abbrev Goes : Table PeerSeen View → ℕ → Type 0
  Goes t n = (w : View) × (a : Act PeerSeen) × Valid t.homes m.1 a × Kept o first (stepped t q (either (eqb n 0) 1 n) id m.1 w a) × then n (w, carried_after m.1 a)

  module _ (t : Table PeerSeen View) (k : Kept o first t) (deep : length t.homes ≡ slots) (me : get_elem? t.views id ≡ some m.0) where
    within : q < length o.peers
    within = let d = k.deep in omega (arith, near, deep, d)

    module _ (free : IsFree o k.state t q) where
      abbrev w : View
      w = naming m.0.opening m.0.parts q free.seen.part

      knows : Knows o k.state w
      knows = let old = k.view id m.0 me in record {
        opening = λ e. old.opening unspent;
        spent = λ e. absurd (cc e);
        driver = old.driver;
        peer = λ f is. let same : record { peer = q; part = free.seen.part } ≡ f = same_Some _ f is in subst (λ (g : Found). slice_get k.state.peers g.peer ≡ Some g.part) same free.part;
        one = λ f is. one;
      }

      lock_at : (r : ℕ) → r < length o.peers → IsFree o k.state (board (set t.words q 1) (set t.homes q none) (set t.views id w)) r ⊎ IsTaken (board (set t.words q 1) (set t.homes q none) (set t.views id w)) r
      lock_at r inside = dite (ℕ_discrete r q)
          (λ e. subst (λ x. IsFree o k.state (board (set t.words q 1) (set t.homes q none) (set t.views id w)) x ⊎ IsTaken (board (set t.words q 1) (set t.homes q none) (set t.views id w)) x) (sym e)
          (inr (record {
            word = get_or-set_same t.words q 1 0 (let d = k.wide in omega (arith, d, within));
            named = let a = total-set (names_peer q) t.views id m.0 w me in let b = names_none q m.0 none_named in let c = names_same m.0.opening m.0.parts q free.seen.part in let d = free.unnamed in omega (arith, a, b, c, d);
            out = set_here t.homes q none (let d = k.deep in omega (arith, d, within));
          })))
          (λ ne. other_lock o k.state t id q r 1 m.0 w none k.state me ne (names_other m.0.opening m.0.parts q r free.seen.part ne ∙ sym (names_none r m.0 none_named)) refl (k.peer r inside))

      kept : Kept o first (board (set t.words q 1) (set t.homes q none) (set t.views id w))
      kept = record {
        state = k.state;
        opening = k.opening;
        begun = k.begun;
        led = k.led;
        short = k.short;
        wide = length-set t.words q 1 ∙ k.wide;
        deep = length-set t.homes q none ∙ k.deep;
        view = λ j u is. ⊎_elim (λ e. subst (Knows o k.state) e.1 knows) (λ e. k.view j u e.1) (at_set t.views id j w u is);
        driver = λ p inside. let a = total-set (λ u. times p u.parts) t.views id m.0 w me in let b = k.driver p inside in omega (arith, a, b);
        peer = lock_at;
      }

      stands : Stands m.0 q free.seen.part
      stands =
          let old = k.view id m.0 me in
          let same = old.opening unspent in
          record {
            state = k.state;
            opening = subst IsOpening (sym same) k.opening;
            reached = subst (λ a. Reached a k.state) (sym same) (reached_now k);
            short = k.short;
            driver = old.driver;
            peer = free.part;
          }

      goes : Goes t 0
      goes = (
        w,
        takes q free.seen,
        free.home,
        kept,
        ((λ e. record { seen = free.seen; after = refl; stands = stands; users = subst (λ a. HasUsers a free.seen.users) (sym ((k.view id m.0 me).opening unspent)) free.users }), λ miss. absurd (miss refl)),
      )

    module _ (taken : IsTaken t q) where
      same_words : set t.words q 1 ≡ t.words
      same_words = ap (set t.words q) (sym taken.word) ∙ set-get_or t.words q 0

      same_views : set t.views id m.0 ≡ t.views
      same_views = set_back t.views id m.0 me
        where
          set_back : (l : List View) (i : ℕ) (v : View) → get_elem? l i ≡ some v → set l i v ≡ l
          set_back [] i v e = refl
          set_back (x ∷ xs) zero v e = ap (λ y. y ∷ xs) (sym (some-injective x v e))
          set_back (x ∷ xs) (suc i) v e = ap (λ l. x ∷ l) (set_back xs i v e)

      stays : Goes t 1
      stays = (
        m.0,
        keeps,
        tt,
        subst (λ ws. Kept o first (board ws t.homes (set t.views id m.0))) (sym same_words) (subst (λ vs. Kept o first (board t.words t.homes vs)) (sym same_views) k),
        ((λ hit. absurd (omega (arith, hit))), λ _. refl),
      )

    found : IsFree o k.state t q ⊎ IsTaken t q → Goes t (slice_index t.words q)
    found (inl free) = subst (Goes t) (sym free.word) (goes free)
    found (inr taken) = subst (Goes t) (sym taken.word) (stays taken)

  -- a seat of one driver's part that names no peer may try to take the lock of a peer
  pub takes_lock : Allows (Kept o first) slots id m q (λ n. either (eqb n 0) 1 n) then
  takes_lock t k deep me fits = found t k deep me (k.peer q (within t k deep me))

-- ---- store

-- a seat that names a peer is not spent, so it has the bus's opening
module _ (o : Opening) (first : State) (slots id q : ℕ) (h : Holding) (x : PeerPart) (y : PeerSeen) (more : List (ℕ × PeerSeen)) (e : Holding) (changes : Changes o h q x e y) (near : q < slots) (t : Table PeerSeen View) (k : Kept o first t) (deep : length t.homes ≡ slots) (me : get_elem? t.views id ≡ some (naming o (h ∷ []) q x)) where
  abbrev v : View
  v = naming o (h ∷ []) q x

  abbrev new : View
  new = whole o (e ∷ [])

  held : IsHeld k.state h
  held = (k.view id v me).driver 0 h refl

  inside : q < length o.peers
  inside = let d = k.deep in omega (arith, near, deep, d)

  -- the state after the step
  abbrev after : State
  after = record { peers = set k.state.peers q y.part; drivers = set k.state.drivers h.part.me e.part }

  abbrev is_step : Step o k.state h.part.me changes.command after
  is_step = record {
    driver = h.part;
    action = changes.action;
    at = q;
    peer = x;
    new_driver = e.part;
    new_peer = y.part;
    is_driver = held.part;
    is_target = changes.aims;
    is_peer = (k.view id v me).peer (record { peer = q; part = x }) refl;
    local = changes.local;
    drivers = refl;
    peers = refl;
  }

  same_me : e.part.me ≡ h.part.me
  same_me = (step_grows is_step).me

  -- the nodes of another driver's peer stay as many
  elsewhere : q ≢ h.part.me → length y.part.nodes ≡ length x.nodes
  elsewhere apart = by (may_be_elsewhere changes.action) refl
    where
      by : (b : Bool) → may_be_elsewhere changes.action ≡ b → length y.part.nodes ≡ length x.nodes
      by true is = sym (length-map y.part.nodes node_facts) ∙ ap length (step_keeps is_step is).nodes ∙ length-map x.nodes node_facts
      by false is = absurd (apart (own_place is_step is))

  at_own : e.part.me ≡ q → slice_get k.state.peers h.part.me ≡ Some x
  at_own same = ap (slice_get k.state.peers) (sym same_me ∙ same) ∙ is_step.is_peer

  room_of : (z : PeerPart) → ((e.part.me ≡ q) × (z ≡ y.part)) ⊎ ((e.part.me ≢ q) × (slice_get k.state.peers e.part.me ≡ Some z)) → length z.nodes ≤ e.room
  room_of z (inl here) =
      let nodes = changes.nodes in
      let room = held.room x (at_own here.0) in
      let same : length z.nodes ≡ length y.part.nodes = ap (λ p. length p.nodes) here.1 in
      omega (arith, nodes, room, same)
  room_of z (inr other) =
      let grows = changes.room in
      let room = held.room z (ap (slice_get k.state.peers) (sym same_me) ∙ other.1) in
      omega (arith, grows, room)

  new_held : IsHeld after e
  new_held = record {
    part = ap (slice_get after.drivers) same_me ∙ read_same k.state.drivers h.part.me h.part e.part held.part;
    room = λ z is. room_of z (set_cases k.state.peers q e.part.me y.part z is);
  }

  knows_new : Knows o after new
  knows_new = record {
    opening = λ z. refl;
    spent = λ z. absurd (cc z);
    driver = λ i g is. subst (IsHeld after) (only_one e g i is) new_held;
    peer = λ f is. absurd (cc is);
    one = λ f is. absurd (cc is);
  }

  -- no other view has this driver's part
  driver_within : h.part.me < length o.peers
  driver_within = let w = slice_get_within k.state.drivers h.part.me h.part held.part in let many = (reached_numbered o k.state (reached_now k)).as_many_drivers in omega (arith, w, many)

  others_driver : (j : ℕ) (u : View) (i : ℕ) (g : Holding) → j ≢ id → get_elem? t.views j ≡ some u → slice_get u.parts i ≡ Some g → g.part.me ≢ h.part.me
  others_driver j u i g apart is there same =
      let all = k.driver h.part.me driver_within in
      let mine = has_it (h ∷ []) 0 h refl in
      let theirs : 1 ≤ times h.part.me u.parts = subst (λ n. 1 ≤ times n u.parts) same (has_it u.parts i g there) in
      let both = terms_le (λ w. times h.part.me w.parts) t.views id j v u apart me is in
      omega (arith, all, mine, theirs, both)

  -- nor names this peer
  named_once : total (names_peer q) t.views ≡ 1
  named_once = elim (k.peer q inside) [
    | inl free ↦ let mine = names_same o (h ∷ []) q x in let le = term_le (names_peer q) t.views id v me in let none = free.unnamed in absurd (omega (arith, mine, le, none))
    | inr taken ↦ taken.named
  ]

  others_peer : (j : ℕ) (u : View) (f : Found) → j ≢ id → get_elem? t.views j ≡ some u → u.named ≡ Some f → f.peer ≢ q
  others_peer j u f apart is there same =
      let mine = names_same o (h ∷ []) q x in
      let theirs : names_peer q u ≡ 1 = subst (λ n. names_peer n u ≡ 1) same (names_it u f there) in
      let both = terms_le (names_peer q) t.views id j v u apart me is in
      omega (arith, named_once, mine, theirs, both)

  other_room : (g : Holding) → IsHeld k.state g → g.part.me ≢ h.part.me → (z : PeerPart) → ((g.part.me ≡ q) × (z ≡ y.part)) ⊎ ((g.part.me ≢ q) × (slice_get k.state.peers g.part.me ≡ Some z)) → length z.nodes ≤ g.room
  other_room g old apart z (inl here) =
      let same : length z.nodes ≡ length y.part.nodes = ap (λ p. length p.nodes) here.1 in
      let stays = elsewhere (λ own. apart (here.0 ∙ own)) in
      let room = old.room x (ap (slice_get k.state.peers) here.0 ∙ is_step.is_peer) in
      omega (arith, same, stays, room)
  other_room g old apart z (inr other) = old.room z other.1

  other_held : (g : Holding) → IsHeld k.state g → g.part.me ≢ h.part.me → IsHeld after g
  other_held g old apart = record {
    part = read_other k.state.drivers h.part.me g.part.me e.part (λ z. apart (sym z)) ∙ old.part;
    room = λ z is. other_room g old apart z (set_cases k.state.peers q g.part.me y.part z is);
  }

  knows_other : (j : ℕ) (u : View) → j ≢ id → get_elem? t.views j ≡ some u → Knows o after u
  knows_other j u apart is =
      let old = k.view j u is in
      record {
        opening = old.opening;
        spent = old.spent;
        driver = λ i g at. other_held g (old.driver i g at) (others_driver j u i g apart is at);
        peer = λ f at. read_other k.state.peers q f.peer y.part (λ z. others_peer j u f apart is at (sym z)) ∙ old.peer f at;
        one = old.one;
      }

  abbrev later : Table PeerSeen View
  later = board (set t.words q 0) (set t.homes q (some y)) (set t.views id new)

  lock_after : (r : ℕ) → r < length o.peers → IsFree o after later r ⊎ IsTaken later r
  lock_after r within = dite (ℕ_discrete r q)
      (λ same. subst (λ n. IsFree o after later n ⊎ IsTaken later n) (sym same) (inl (record {
        word = get_or-set_same t.words q 0 0 (let d = k.wide in omega (arith, d, inside));
        unnamed = let a = total-set (names_peer q) t.views id v new me in let b = names_same o (h ∷ []) q x in let d = named_once in omega (arith, a, b, d);
        seen = y;
        home = set_here t.homes q (some y) (let d = k.deep in omega (arith, d, inside));
        part = read_same k.state.peers q x y.part is_step.is_peer;
        users = changes.users;
      })))
      (λ apart. other_lock o k.state t id q r 0 v new (some y) after me apart (sym (names_other o (h ∷ []) q r x apart)) (read_other k.state.peers q r y.part (λ z. apart (sym z))) (k.peer r within))

  still_short : AreShort after
  still_short p d is = elim (set_cases k.state.drivers h.part.me p e.part d is) [
    | inl here ↦ let few = changes.short in let same : length d.calls ≡ length e.part.calls = ap (λ f. length f.calls) here.1 in omega (arith, few, same)
    | inr other ↦ k.short p d other.1
  ]

  times_same : (p : ℕ) → times p (e ∷ []) ≡ times p (h ∷ [])
  times_same p = ap (λ me. cond {A = ℕ} (me == p) 1 0 + 0) same_me

  kept_after : Kept o first later
  kept_after = record {
    state = after;
    opening = k.opening;
    begun = k.begun;
    led = led_more k.led is_step;
    short = still_short;
    wide = length-set t.words q 0 ∙ k.wide;
    deep = length-set t.homes q (some y) ∙ k.deep;
    view = λ j u is. elim (at_set t.views id j new u is) [ inl here ↦ subst (Knows o after) here.1 knows_new | inr other ↦ knows_other j u other.0 other.1 ];
    driver = λ p within. let a = total-set (λ u. times p u.parts) t.views id v new me in let b = k.driver p within in let c = times_same p in omega (arith, a, b, c);
    peer = lock_after;
  }

-- the seat that has the lock of a peer may give it back, where the parts change by a step
pub gives_lock : (o a : Opening) (first : State) (slots id q : ℕ) (h : Holding) (x : PeerPart) (y : PeerSeen) (more : List (ℕ × PeerSeen)) (e : Holding) → Changes a h q x e y → q < slots
    → Allows (Kept o first) slots id (naming a (h ∷ []) q x, (q, y) ∷ more) q (λ _. 0) (λ _. stored e (step slots q 0 0 none) (naming a (h ∷ []) q x, (q, y) ∷ more) 0)
gives_lock o a first slots id q h x y more e changes near t k deep me fits =
    let same : a ≡ o = (k.view id (naming a (h ∷ []) q x) me).opening refl in (
      whole a (e ∷ []),
      gives,
      tt,
      subst (λ b. Kept o first (board (set t.words q 0) (set t.homes q (some y)) (set t.views id (whole b (e ∷ []))))) (sym same)
          (kept_after o first slots id q h x y more e (subst (λ b. Changes b h q x e y) same changes) near t k deep (subst (λ b. get_elem? t.views id ≡ some (naming b (h ∷ []) q x)) same me)),
      refl,
    )

-- ---- split and join

-- a view of some of a view's parts, which names no peer
knows_part : (o : Opening) (s : State) (v : View) (held : List Holding) → Knows o s v → v.spent ≡ false → ((i : ℕ) (h : Holding) → slice_get held i ≡ Some h → IsHeld s h) → Knows o s (whole v.opening held)
knows_part o s v held old unspent parts = record {
  opening = λ z. old.opening unspent;
  spent = λ z. absurd (cc z);
  driver = parts;
  peer = λ f is. absurd (cc is);
  one = λ f is. absurd (cc is);
}

module _ (o : Opening) (first : State) (id : ℕ) (v : View) (none_named : v.named ≡ None) (unspent : v.spent ≡ false) (t : Table PeerSeen View) (k : Kept o first t) (me : get_elem? t.views id ≡ some v) where
  abbrev parted : List View
  parted = set t.views id (first_left v) ++ first_given v ∷ []

  names_parted : (q : ℕ) → total (names_peer q) parted ≡ total (names_peer q) t.views
  names_parted q =
      let a = total-append (names_peer q) (set t.views id (first_left v)) (first_given v ∷ []) in
      let b = total-set (names_peer q) t.views id v (first_left v) me in
      let c = names_none q v none_named in
      omega (arith, a, b, c)

  times_parted : (p : ℕ) → total (λ u. times p u.parts) parted ≡ total (λ u. times p u.parts) t.views
  times_parted p =
      let a = total-append (λ (u : View). times p u.parts) (set t.views id (first_left v)) (first_given v ∷ []) in
      let b = total-set (λ (u : View). times p u.parts) t.views id v (first_left v) me in
      let c = total-cut (λ (h : Holding). cond {A = ℕ} (h.part.me == p) 1 0) v.parts in
      omega (arith, a, b, c)

  knows_parted : (j : ℕ) (u : View) → get_elem? parted j ≡ some u → Knows o k.state u
  knows_parted j u is =
      let old = k.view id v me in
      elim (at_snoc (set t.views id (first_left v)) (first_given v) u j is) [
        | inl there ↦ elim (at_set t.views id j (first_left v) u there) [
          | inl here ↦ subst (Knows o k.state) here.1 (knows_part o k.state v (drop 1 v.parts) old unspent (λ i h at. old.driver (suc i) h (past_first v.parts i h at)))
          | inr other ↦ k.view j u other.1
        ]
        | inr same ↦ subst (Knows o k.state) same (knows_part o k.state v (take 1 v.parts) old unspent (λ i h at. old.driver i h (up_to_first v.parts i h at)))
      ]

  lock_parted : (q : ℕ) → IsFree o k.state t q ⊎ IsTaken t q → IsFree o k.state (board t.words t.homes parted) q ⊎ IsTaken (board t.words t.homes parted) q
  lock_parted q (inl free) = inl (record { word = free.word; unnamed = names_parted q ∙ free.unnamed; seen = free.seen; home = free.home; part = free.part; users = free.users })
  lock_parted q (inr taken) = inr (record { word = taken.word; named = names_parted q ∙ taken.named; out = taken.out })

  kept_parted : Kept o first (board t.words t.homes parted)
  kept_parted = record {
    state = k.state;
    opening = k.opening;
    begun = k.begun;
    led = k.led;
    short = k.short;
    wide = k.wide;
    deep = k.deep;
    view = knows_parted;
    driver = λ p within. times_parted p ∙ k.driver p within;
    peer = λ q within. lock_parted q (k.peer q within);
  }

-- a seat that names no peer may give its first part to a new seat
pub splits : (o : Opening) (first : State) (id : ℕ) (v : View) → v.named ≡ None → v.spent ≡ false → Splits (Kept o first) id v (first_left v) (first_given v)
splits o first id v none_named unspent t k me = kept_parted o first id v none_named unspent t k me

knows_spent : (o : Opening) (s : State) → Knows o s spent
knows_spent o s = record {
  opening = λ z. absurd (cc z);
  spent = λ z. (refl, refl);
  driver = λ i h is. absurd (cc is);
  peer = λ f is. absurd (cc is);
  one = λ f is. absurd (cc is);
}

module _ (o : Opening) (first : State) (id other : ℕ) (v w : View) (none_named : v.named ≡ None) (unspent : v.spent ≡ false) (none_other : w.named ≡ None) (t : Table PeerSeen View) (k : Kept o first t) (me : get_elem? t.views id ≡ some v) (apart : other ≢ id) (there_is : get_elem? (set t.views id (joined v w)) other ≡ some w) where
  abbrev taken_over : List View
  taken_over = set (set t.views id (joined v w)) other spent

  is_other : get_elem? t.views other ≡ some w
  is_other = sym (set_else t.views id other (joined v w) apart) ∙ there_is

  names_joined : (q : ℕ) → total (names_peer q) taken_over ≡ total (names_peer q) t.views
  names_joined q =
      let a = total-set (names_peer q) t.views id v (joined v w) me in
      let b = total-set (names_peer q) (set t.views id (joined v w)) other w spent there_is in
      let c = names_none q v none_named in
      let d = names_none q w none_other in
      omega (arith, a, b, c, d)

  times_joined : (p : ℕ) → total (λ u. times p u.parts) taken_over ≡ total (λ u. times p u.parts) t.views
  times_joined p =
      let a = total-set (λ (u : View). times p u.parts) t.views id v (joined v w) me in
      let b = total-set (λ (u : View). times p u.parts) (set t.views id (joined v w)) other w spent there_is in
      let c = total-append (λ (h : Holding). cond {A = ℕ} (h.part.me == p) 1 0) v.parts w.parts in
      omega (arith, a, b, c)

  in_joined : (i : ℕ) (h : Holding) → slice_get (v.parts ++ w.parts) i ≡ Some h → IsHeld k.state h
  in_joined i h is = elim (in_either v.parts w.parts i h is) [ inl at ↦ (k.view id v me).driver at.0 h at.1 | inr at ↦ (k.view other w is_other).driver at.0 h at.1 ]

  knows_joined : (j : ℕ) (u : View) → get_elem? taken_over j ≡ some u → Knows o k.state u
  knows_joined j u is = elim (at_set (set t.views id (joined v w)) other j spent u is) [
    | inl here ↦ subst (Knows o k.state) here.1 (knows_spent o k.state)
    | inr else ↦ elim (at_set t.views id j (joined v w) u else.1) [
      | inl here ↦ subst (Knows o k.state) here.1 (knows_part o k.state v (v.parts ++ w.parts) (k.view id v me) unspent in_joined)
      | inr old ↦ k.view j u old.1
    ]
  ]

  lock_joined : (q : ℕ) → IsFree o k.state t q ⊎ IsTaken t q → IsFree o k.state (board t.words t.homes taken_over) q ⊎ IsTaken (board t.words t.homes taken_over) q
  lock_joined q (inl free) = inl (record { word = free.word; unnamed = names_joined q ∙ free.unnamed; seen = free.seen; home = free.home; part = free.part; users = free.users })
  lock_joined q (inr taken) = inr (record { word = taken.word; named = names_joined q ∙ taken.named; out = taken.out })

  kept_joined : Kept o first (board t.words t.homes taken_over)
  kept_joined = record {
    state = k.state;
    opening = k.opening;
    begun = k.begun;
    led = k.led;
    short = k.short;
    wide = k.wide;
    deep = k.deep;
    view = knows_joined;
    driver = λ p within. times_joined p ∙ k.driver p within;
    peer = λ q within. lock_joined q (k.peer q within);
  }

-- a seat that names no peer may take over the parts of another such seat
pub joins : (o : Opening) (first : State) (id : ℕ) (v : View) (other : ℕ) (w : View) → v.named ≡ None → v.spent ≡ false → w.named ≡ None → Joins (Kept o first) id v other w (joined v w) spent
joins o first id v other w none_named unspent none_other t k me apart there_is = kept_joined o first id other v w none_named unspent none_other t k me apart there_is
