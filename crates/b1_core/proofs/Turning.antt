-- One turn of a driver: its step, where it leaves the driver, and what is in stock afterwards.
use Rattle.std.proofs.Common.{◌≡◌, ◌≢◌, ◌⊎◌, refl, sym, ap, ◌∙◌, inl, inr, subst, ℕ, zero, suc, ◌+◌, ◌<◌, Bool, true, false, List, [], ◌∷◌, ◌++◌, length, map, set, get_or, Option, Some, None, slice_get}
use Rattle.std.proofs.lemmas.Option.{slice_get_within}
use Rattle.std.proofs.lemmas.List.{length-append, length-map}
use native.Mathlib.Omega.{arith}
use Rattle.b1_model.specs.declared.naming.Opening.{Opening}
use Rattle.b1_model.specs.declared.commands.Command.{Command}
use Rattle.b1_model.specs.declared.records.Call.{Call}
use Rattle.b1_model.specs.Opening.{IsOpening}
use Rattle.b1_model.specs.MachineParts.{DriverPart}
use Rattle.b1_model.specs.MachineDriver.{next_action, peer_of}
use Rattle.b1_model.specs.MachineStep.{Step, Reached, begun}
use Rattle.b1_step.specs.Rights.{may_be_elsewhere, node_facts}
use Rattle.b1_step.specs.Fixed.{IsNumbered, AtMostOneMore}
use Rattle.b1_step.proofs.Lists.{set_cases}
use Rattle.b1_step.proofs.Numbers.{reached_numbered}
use Rattle.b1_step.proofs.Locality.{step_grows, step_keeps, own_place}
use Rattle.b1_peer.specs.Seen.{PeerSeen}
use Rattle.b1_driver.specs.Parts.{Driver}
use Rattle.b1_core.specs.declared.turn.Turn.{Turn}
use Rattle.b1_core.specs.declared.turn.Turn.TheVariants as turn
use Rattle.b1_event.specs.Events.{Allowed, Does, HasStock, HasUsers}
use Rattle.b1_core.specs.Turns.{Stands, StandsBehind}
use Rattle.b1_core.specs.Bus.{state_of, IsStocked, AreStocked, IsStep}
use Rattle.b1_inv_peer.specs.PeerOk.{PeerOk}
use Rattle.b1_event.specs.Borne.{call_limit, AreShort, IsBorne, BearsEvents}
use Rattle.b1_event.proofs.Opened.{begins, opened, begun_step, target_is}
use Rattle.b1_core.proofs.Attempts.{reached_shown, step_leaves}

-- ---- lists

module _ {X Y : Type 0} (f : X → Y) where
  -- what stands in a mapped list comes from the list
  map_at : (xs : List X) (i : ℕ) (y : Y) → slice_get (map f xs) i ≡ Some y → (x : X) × (slice_get xs i ≡ Some x) × (f x ≡ y)
  map_at [] i y is = absurd (cc is)
  map_at (x ∷ xs) zero y is = (x, refl, cc is)
  map_at (x ∷ xs) (suc i) y is = map_at xs i y is

  pub at_map : (xs : List X) (i : ℕ) (x : X) → slice_get xs i ≡ Some x → slice_get (map f xs) i ≡ Some (f x)
  at_map [] i x is = absurd (cc is)
  at_map (z ∷ xs) zero x is = let same : z ≡ x = cc is in ap (λ w. Some (f w)) same
  at_map (z ∷ xs) (suc i) x is = at_map xs i x is

  pub map_set : (xs : List X) (i : ℕ) (x : X) → map f (set xs i x) ≡ set (map f xs) i (f x)
  map_set [] i x = refl
  map_set (z ∷ xs) zero x = refl
  map_set (z ∷ xs) (suc i) x = ap (λ l. f z ∷ l) (map_set xs i x)

-- what is read at an index within the list stands there
pub read_at : {X : Type 0} (xs : List X) (i : ℕ) (x : X) → i < length xs → x ≡ get_or xs i x → slice_get xs i ≡ Some x
read_at [] i x within is = absurd (omega (arith, within))
read_at (z ∷ xs) zero x within is = ap (λ w. Some w) (sym is)
read_at (z ∷ xs) (suc i) x within is = read_at xs i x (omega (arith, within)) is

-- writing what stands there changes nothing
pub same_set : {X : Type 0} (xs : List X) (i : ℕ) (x : X) → slice_get xs i ≡ Some x → set xs i x ≡ xs
same_set [] i x is = refl
same_set (z ∷ xs) zero x is = let same : z ≡ x = cc is in ap (λ w. w ∷ xs) (sym same)
same_set (z ∷ xs) (suc i) x is = ap (λ l. z ∷ l) (same_set xs i x is)

there_at : {X : Type 0} (xs : List X) (i : ℕ) → i < length xs → (x : X) × (slice_get xs i ≡ Some x)
there_at [] i within = absurd (omega (arith, within))
there_at (x ∷ xs) zero within = (x, refl)
there_at (x ∷ xs) (suc i) within = there_at xs i (omega (arith, within))

some_same : {A : Type 0} (x y : A) → Some x ≡ Some y → x ≡ y
some_same x y same = cc same

-- ---- where a driver stands

longer : (calls more : List Call) (n : ℕ) → length calls ≡ n → AtMostOneMore calls more → length more ≡ n → more ≡ calls
longer calls more n is (inl same) as_many = same
longer calls more n is (inr (c, new)) as_many = let k : length (calls ++ c ∷ []) ≡ length calls + 1 = length-append calls (c ∷ []) in absurd (omega (arith, is, as_many, k, ap length new))

one_longer : (calls more : List Call) (n : ℕ) → length calls ≡ n → AtMostOneMore calls more → length more ≢ n → length more ≡ length calls + 1
one_longer calls more n is (inl same) other = absurd (other (ap length same ∙ is))
one_longer calls more n is (inr (c, new)) other = ap length new ∙ length-append calls (c ∷ [])

stands_of : (n : ℕ) (t : Turn) (d e : DriverPart) → length d.calls ≡ n → AtMostOneMore d.calls e.calls → StandsBehind n t e → Stands d t e
stands_of n turn.Idle d e is more behind = behind
stands_of n turn.Moved d e is more behind = behind
stands_of n turn.Ended d e is more behind = (behind.0, one_longer d.calls e.calls n is more behind.1)
stands_of n (turn.Waiting front removed) d e is more behind = (behind.0, longer d.calls e.calls n is more behind.1, behind.2)

-- ---- a turn

module _ (o : Opening) (xs : List PeerSeen) (ds : List Driver) (opening : IsOpening o) (reached : Reached o (state_of xs ds)) (stocked : AreStocked o xs ds) where
  numbered : IsNumbered o (state_of xs ds)
  numbered = reached_numbered o (state_of xs ds) reached

  pub as_many_drivers : length ds ≡ length o.peers
  as_many_drivers = sym (length-map ds (λ (d : Driver). d.part)) ∙ numbered.as_many_drivers

  pub as_many_peers : length xs ≡ length o.peers
  as_many_peers = sym (length-map xs (λ (x : PeerSeen). x.part)) ∙ numbered.as_many_peers

  -- what a driver has in stock
  pub stock_at : (p : ℕ) (d : Driver) → slice_get ds p ≡ Some d → (x : PeerSeen) × (slice_get xs p ≡ Some x) × IsStocked o x d
  stock_at p d is =
      let (x, there) = there_at xs p (let w = slice_get_within ds p d is in omega (arith, w, as_many_drivers, as_many_peers)) in
      (x, there, stocked p x d there is)

  pub short : AreShort (state_of xs ds)
  short p d is =
      let (e, there, same) = map_at (λ (e : Driver). e.part) ds p d is in
      let few = (stock_at p e there).2.few in
      let calls : length e.part.calls ≡ length d.calls = ap (λ f. length f.calls) same in
      omega (arith, few, calls)

  module _ (bears : BearsEvents o (state_of xs ds)) (p : ℕ) (d : Driver) (is_driver : slice_get ds p ≡ Some d) (command : Option Command) (e : Driver) (is_begun : begun d.part command ≡ Some e.part) (doomed : e.doomed ≡ d.doomed) (here : e.here ≡ d.here) (few : length e.part.calls + e.spare < call_limit) where
    pub part_at : slice_get (state_of xs ds).drivers p ≡ Some d.part
    part_at = at_map (λ (f : Driver). f.part) ds p d is_driver

    is_borne : IsBorne o (state_of xs ds) p e.part
    is_borne = bears p d.part e.part command part_at is_begun

    pub number : e.part.me ≡ p
    number = is_borne.number

    pub same_calls : e.part.calls ≡ d.part.calls
    same_calls = by (opened d.part e.part command is_begun).old_or_new
      where
        by : (e.part ≡ d.part) ⊎ ((c : Command) × (d.part.doing ≡ None) × (e.part ≡ begins d.part c)) → e.part.calls ≡ d.part.calls
        by (inl same) = ap (λ f. f.calls) same
        by (inr new) = ap (λ f. f.calls) new.2

    -- the peer where the event is
    abbrev at : ℕ
    at = peer_of p (next_action e.part)

    pub at_is : peer_of e.part.me (next_action e.part) ≡ at
    at_is = ap (λ n. peer_of n (next_action e.part)) number

    pub at_within : at < length xs
    at_within = let k = is_borne.aims in let m = length-map xs (λ (x : PeerSeen). x.part) in omega (arith, k, m)

    module _ (x : PeerSeen) (is_peer : slice_get xs at ≡ Some x) where
      pub peer_at : slice_get (state_of xs ds).peers at ≡ Some x.part
      peer_at = at_map (λ (y : PeerSeen). y.part) xs at x is_peer

      pub allowed : PeerOk x.part → Allowed e.part (next_action e.part) x.part
      allowed ok = is_borne.allowed x.part peer_at ok

      pub users : HasUsers o x.users
      users =
          let (f, there) = there_at ds at (let w = slice_get_within xs at x is_peer in omega (arith, w, as_many_drivers, as_many_peers)) in
          (stocked at x f is_peer there).users

      pub stock : HasStock (next_action e.part) x.part e
      stock =
          is_borne.stock x.part e peer_at refl (λ same.
          let own : at ≡ p = sym (numbered.peers at x.part peer_at).me ∙ same ∙ number in
          let s = stocked p x d (subst (λ n. slice_get xs n ≡ Some x) own is_peer) is_driver in
          let a = s.doomed in
          let b = s.here in
          omega (arith, a, b, doomed, here))

      module _ (f : Driver) (y : PeerSeen) (does : Does o e x f y) where
        -- the step
        abbrev pub step : Step o (state_of xs ds) p command (state_of (set xs at y) (set ds p f))
        step = record {
          driver = d.part;
          action = next_action e.part;
          at = at;
          peer = x.part;
          new_driver = f.part;
          new_peer = y.part;
          is_driver = part_at;
          is_target = target_is d.part e.part command is_begun ∙ ap (λ n. Some (next_action e.part, n)) at_is;
          is_peer = peer_at;
          local = begun_step o d.part e.part f.part command x.part y.part is_begun does.step;
          drivers = map_set (λ (g : Driver). g.part) ds p f;
          peers = map_set (λ (z : PeerSeen). z.part) xs at y;
        }

        grown : AtMostOneMore d.part.calls f.part.calls
        grown = (step_grows step).calls

        pub found : f.part.doing ≡ None → length f.part.calls ≡ length e.part.calls → f.part.attempted ≢ None
        found closed as_many = (step_leaves (reached_shown o (state_of xs ds) reached) step).ended closed (longer d.part.calls f.part.calls (length e.part.calls) (ap length (sym same_calls)) grown as_many)

        pub is_step : (t : Turn) → StandsBehind (length e.part.calls) t f.part → IsStep o (state_of xs ds) p command t (state_of (set xs at y) (set ds p f))
        is_step t behind = record { step = step; stands = stands_of (length e.part.calls) t d.part f.part (ap length (sym same_calls)) grown behind }

        -- ---- the stock afterwards

        elsewhere : at ≢ p → length y.part.nodes ≡ length x.part.nodes
        elsewhere apart = by (may_be_elsewhere (next_action e.part)) refl
          where
            by : (b : Bool) → may_be_elsewhere (next_action e.part) ≡ b → length y.part.nodes ≡ length x.part.nodes
            by true is = sym (length-map y.part.nodes node_facts) ∙ ap length (step_keeps step is).nodes ∙ length-map x.part.nodes node_facts
            by false is = absurd (apart (own_place step is ∙ numbered.drivers p d.part part_at))

        stock_of : (r : ℕ) (z : PeerSeen) (g : Driver) → ((r ≡ at) × (z ≡ y)) ⊎ ((r ≢ at) × (slice_get xs r ≡ Some z)) → ((r ≡ p) × (g ≡ f)) ⊎ ((r ≢ p) × (slice_get ds r ≡ Some g)) → IsStocked o z g
        stock_of r z g (inl peer) (inl driver) =
            let s = stocked p x d (subst (λ n. slice_get xs n ≡ Some x) (sym peer.0 ∙ driver.0) is_peer) is_driver in
            let a = s.doomed in
            let b = s.here in
            let nodes = does.nodes in
            let rises = does.doomed in
            let room = does.here (omega (arith, b, doomed, here)) in
            let spare = does.spare in
            subst (λ w. IsStocked o w g) (sym peer.1) (subst (IsStocked o y) (sym driver.1) (record {
              users = subst (HasUsers o) (sym does.users) users;
              few = omega (arith, few, spare);
              doomed = omega (arith, a, nodes, doomed);
              here = room;
            }))
        stock_of r z g (inl peer) (inr driver) =
            let s = stocked r x g (subst (λ n. slice_get xs n ≡ Some x) (sym peer.0) is_peer) driver.1 in
            let a = s.doomed in
            let same = elsewhere (λ own. driver.0 (peer.0 ∙ own)) in
            subst (λ w. IsStocked o w g) (sym peer.1) (record { users = subst (HasUsers o) (sym does.users) users; few = s.few; doomed = omega (arith, a, same); here = s.here })
        stock_of r z g (inr peer) (inl driver) =
            let s = stocked p z d (subst (λ n. slice_get xs n ≡ Some z) driver.0 peer.1) is_driver in
            let a = s.doomed in
            let b = s.here in
            let rises = does.doomed in
            let room = does.here (omega (arith, b, doomed, here)) in
            let spare = does.spare in
            subst (IsStocked o z) (sym driver.1) (record { users = s.users; few = omega (arith, few, spare); doomed = omega (arith, a, rises, doomed); here = room })
        stock_of r z g (inr peer) (inr driver) = stocked r z g peer.1 driver.1

        pub still_stocked : AreStocked o (set xs at y) (set ds p f)
        still_stocked r z g there is = stock_of r z g (set_cases xs at r y z there) (set_cases ds p r f g is)
