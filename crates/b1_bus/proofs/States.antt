-- The state of a closed bus, as it is opened and as it is settled.
use Rattle.std.proofs.Common.{◌≡◌, ℕ, zero, suc, ◌+◌, ◌<◌, List, [], ◌∷◌, map, length, get_or, slice_get, Some, None, refl, sym, ap, ◌∙◌, subst, arith, replicate, slice_index}
use Rattle.std.specs.Prelude.{All, IfOk, Result, Ok, Err}
use Rattle.std.specs.List.{AllByRecursion}
use Rattle.std.proofs.lemmas.List.{length-map, length-replicate, get_or-replicate}
use Rattle.std.proofs.lemmas.Option.{slice_get_within, slice_get_read}
use Rattle.atomic_table.specs.Table.{opening as board, Final, Seen}
use Rattle.b1_model.specs.declared.naming.Opening.{Opening}
use Rattle.b1_model.specs.declared.naming.PeerSpec.{PeerSpec}
use Rattle.b1_model.specs.Opening.{IsOpening}
use Rattle.b1_model.specs.MachineParts.{DriverPart, State}
use Rattle.b1_model.specs.MachineStep.{idle_driver, idle_drivers, opening_state}
use Rattle.b1_step.specs.Fixed.{IsNumbered}
use Rattle.b1_step.proofs.Numbers.{reached_numbered}
use Rattle.b1_peer.specs.Seen.{PeerSeen}
use Rattle.b1_driver.specs.Parts.{Driver}
use Rattle.b1_event.specs.Borne.{AreShort, call_limit}
use Rattle.b1_event.specs.Events.{HasUsers}
use Rattle.b1_core.specs.Bus.{IsCore, AreNew}
use Rattle.b1_core.proofs.Openings.{core_new}
use Rattle.b1_rule.specs.Rule.{state_of, held_by, whole, Kept}
use Rattle.b1_rule.specs.declared.view.View.{View}
use Rattle.b1_rule.proofs.Sums.{there}
use Rattle.b1_rule.proofs.Whole.{at_map, map_at, starts, settles, Settled}
use Rattle.b1_locks.specs.Faces.{BusFace, DriverFace, IsIdle, IsClosed, members, crew}
use Rattle.b1_bus.specs.Seated.{seated, IsSeated, IsOn}
use Rattle.b1_bus.proofs.Crews.{each, at, crew_is, is_crew, IsCrew}

-- ---- a bus that is opened

-- no command of a new driver is open
idle_at : (specs : List PeerSpec) (from p : ℕ) (d : DriverPart) → slice_get (idle_drivers from specs) p ≡ Some d → d.doing ≡ None
idle_at [] from p d is = absurd (cc is)
idle_at (spec ∷ specs) from zero d is = ap (λ e. e.doing) (let same : d ≡ idle_driver from = cc is in same)
idle_at (spec ∷ specs) from (suc p) d is = idle_at specs (from + 1) p d is

module _ (o : Opening) (xs : List PeerSeen) (ds : List Driver) (opening : IsOpening o) (peers : map (λ x. x.part) xs ≡ (opening_state o).peers) (drivers : map (λ d. d.part) ds ≡ idle_drivers 0 o.peers) (users : All (HasUsers o) (map (λ x. x.users) xs)) (new : AreNew (opening_state o).peers ds) where
  core : IsCore o (map (λ spec. []) o.peers) xs ds
  core = core_new o (map (λ spec. []) o.peers) xs ds opening (length-map o.peers (λ spec. [])) peers drivers users new

  numbered : IsNumbered o (state_of xs ds)
  numbered = reached_numbered o (state_of xs ds) core.reached

  as_many : length xs ≡ length ds
  as_many = sym (length-map xs (λ (x : PeerSeen). x.part)) ∙ numbered.as_many_peers ∙ sym numbered.as_many_drivers ∙ length-map ds (λ (d : Driver). d.part)

  -- a bus as it is opened is closed
  pub opened : IsClosed o xs ds
  opened = record {
    opening = opening;
    reached = core.reached;
    idle = λ p d is.
        let within = slice_get_within ds p d is in
        let (x, at_peer) = there xs p (omega (arith, within, as_many)) in
        let stocked = core.stocked p x d at_peer is in
        record { closed = idle_at o.peers 0 p d.part (ap (λ l. slice_get l p) (sym drivers) ∙ at_map (λ (e : Driver). e.part) ds p d is); few = stocked.few; here = stocked.here };
    room = λ p x d at_peer is. (core.stocked p x d at_peer is).doomed;
    users = λ p x is.
        let within = slice_get_within xs p x is in
        let (d, at_driver) = there ds p (omega (arith, within, as_many)) in
        (core.stocked p x d is at_driver).users;
  }

  -- none has room for a call
  pub spare_at : (p : ℕ) (d : Driver) → slice_get ds p ≡ Some d → d.spare ≡ 0
  spare_at p d is =
      let within = slice_get_within ds p d is in
      let (x, at_peer) = there xs p (omega (arith, within, as_many)) in
      (new p x.part d (ap (λ l. slice_get l p) (sym peers) ∙ at_map (λ (y : PeerSeen). y.part) xs p x at_peer) is).spare

-- ---- a bus that is closed

module _ (o : Opening) (xs : List PeerSeen) (ds : List Driver) (closed : IsClosed o xs ds) where
  numbers : IsNumbered o (state_of xs ds)
  numbers = reached_numbered o (state_of xs ds) closed.reached

  pub many_peers : length xs ≡ length o.peers
  many_peers = sym (length-map xs (λ (x : PeerSeen). x.part)) ∙ numbers.as_many_peers

  pub many_drivers : length ds ≡ length o.peers
  many_drivers = sym (length-map ds (λ (d : Driver). d.part)) ∙ numbers.as_many_drivers

  pub number_is : (p : ℕ) (d : Driver) → slice_get ds p ≡ Some d → d.part.me ≡ p
  number_is p d is = numbers.drivers p d.part (at_map (λ (e : Driver). e.part) ds p d is)

  -- the drivers' lists are short
  pub short_lists : AreShort (state_of xs ds)
  short_lists p d is =
      let (e, at_driver, same) = map_at (λ (f : Driver). f.part) ds p d is in
      let few = (closed.idle p e at_driver).few in
      subst (λ (f : DriverPart). length f.calls < call_limit) same (omega (arith, few))

  -- each driver may have a seat
  pub all_seated : AllByRecursion (IsSeated o) ds
  all_seated = each (IsSeated o) ds (λ p d is.
      let within = slice_get_within ds p d is in
      record {
        idle = closed.idle p d is;
        stands = record {
          state = state_of xs ds;
          opening = closed.opening;
          reached = closed.reached;
          short = short_lists;
          driver = ap (slice_get (map (λ (e : Driver). e.part) ds)) (number_is p d is) ∙ at_map (λ (e : Driver). e.part) ds p d is;
        };
        known = omega (arith, number_is p d is, many_drivers, within);
      })

  -- with their seats they are the drivers of the bus
  pub crew_of : (b : BusFace) → b.opening ≡ o → members (map (seated b.table b.opening) ds) ≡ crew b
  crew_of b same = crew_is b ds b.opening.peers 0 (many_drivers ∙ ap (λ (z : Opening). length z.peers) (sym same)) (λ p d is. let n = number_is p d is in omega (arith, n))

-- ---- a bus that is settled

pub settled_closed : (o : Opening) (first : State) (ys : List PeerSeen) (ds : List Driver) → Settled o first ys ds → AllByRecursion IsIdle ds → IsClosed o ys ds
settled_closed o first ys ds settled idle = record {
  opening = settled.opening;
  reached = settled.reached;
  idle = at IsIdle ds idle;
  room = settled.room;
  users = settled.users;
}

-- ---- what is said of all

-- no driver of a closed bus has a command open
pub all_closed : (o : Opening) (xs : List PeerSeen) (ds : List Driver) → IsClosed o xs ds → All (λ d. d.part.doing ≡ None) ds
all_closed o xs ds closed k d within = (closed.idle k (get_or ds k d) (slice_get_read ds (length ds) k (get_or ds k d) refl within (read_again ds k d))).closed
  where
    read_again : (ds : List Driver) (k : ℕ) (d : Driver) → get_or ds k d ≡ get_or ds k (get_or ds k d)
    read_again [] k d = refl
    read_again (e ∷ ds) zero d = refl
    read_again (e ∷ ds) (suc k) d = read_again ds k d

-- a table whose locks are free, all peers at home, and all drivers' parts with one seat
pub free_board : (o : Opening) (xs : List PeerSeen) (ds : List Driver) (ws : List ℕ) → IsClosed o xs ds → ws ≡ replicate (length xs) 0 → Kept o (state_of xs ds) (board ws xs (whole o (held_by ds)))
free_board o xs ds ws closed words = starts o xs ds ws closed.opening closed.reached (short_lists o xs ds closed) closed.users closed.room wide zeros
  where
    wide : length ws ≡ length o.peers
    wide = ap length words ∙ length-replicate (length xs) 0 ∙ many_peers o xs ds closed

    zeros : (q : ℕ) → q < length o.peers → slice_index ws q ≡ 0
    zeros q within = ap (λ l. slice_index l q) words ∙ get_or-replicate (length xs) q 0 0 (omega (arith, within, many_peers o xs ds closed))

-- ---- a bus that is closed with all its drivers

module _ (b : BusFace) (o : Opening) (fs : List DriverFace) (ds : List Driver) (same : o ≡ b.opening) (all : members fs ≡ crew b) (owns : ds ≡ map (λ f. f.own) fs) where
  crew_here : IsCrew b 0 b.opening.peers fs
  crew_here = is_crew b fs b.opening.peers 0 all

  many_here : length ds ≡ length o.peers
  many_here = ap length owns ∙ length-map fs (λ (f : DriverFace). f.own) ∙ crew_here.as_many ∙ ap (λ (z : Opening). length z.peers) (sym same)

  number_here : (i : ℕ) (d : Driver) → slice_get ds i ≡ Some d → d.part.me ≡ i
  number_here i d is =
      let (f, at_face, own) = map_at (λ (g : DriverFace). g.own) fs i d (ap (λ l. slice_get l i) (sym owns) ∙ is) in
      let n = crew_here.numbered i f at_face in
      omega (arith, n, ap (λ (e : Driver). e.part.me) own)

  pub settles_all : (first : State) (id : ℕ) (v : View) (ws : List ℕ) (ys : List PeerSeen) → v ≡ whole o (held_by ds) → Final (Seen (Kept o first) id v) ws ys → Settled o first ys ds
  settles_all first id v ws ys is final = settles o first id ds ws ys many_here number_here (subst (λ w. Final (Seen (Kept o first) id w) ws ys) is final)

-- a bus has as many drivers as peers, and each is on it
pub as_many_as : (b : BusFace) (fs : List DriverFace) → members fs ≡ crew b → length fs ≡ length b.opening.peers
as_many_as b fs all = (is_crew b fs b.opening.peers 0 all).as_many

pub all_on : (b : BusFace) (fs : List DriverFace) → members fs ≡ crew b → AllByRecursion (IsOn b.table b.opening) fs
all_on b fs all = (is_crew b fs b.opening.peers 0 all).each_of

-- ---- by whether there was memory

pub if_ok : {T E : Type 0} (P Q : T → Type 0) (r : Result T E) → ((x : T) → P x → Q x) → IfOk r P → IfOk r Q
if_ok P Q (Ok x) h k = h x k
if_ok P Q (Err e) h k = k

-- the parts of drivers that have these as their own
pub parts_of : (fs : List DriverFace) (ds : List Driver) → map (λ f. f.own) fs ≡ ds → map (λ f. f.own.part) fs ≡ map (λ d. d.part) ds
parts_of fs ds same = sym (parts fs) ∙ ap (map (λ (d : Driver). d.part)) same
  where
    parts : (fs : List DriverFace) → map (λ d. d.part) (map (λ f. f.own) fs) ≡ map (λ f. f.own.part) fs
    parts [] = refl
    parts (f ∷ fs) = ap (λ l. f.own.part ∷ l) (parts fs)

-- what holds in each place of theirs holds of them
pub each_own : (P : Driver → Type 0) (fs : List DriverFace) (ds : List Driver) → map (λ f. f.own) fs ≡ ds → ((i : ℕ) (d : Driver) → slice_get ds i ≡ Some d → P d) → All (λ f. P f.own) fs
each_own P fs ds same holds k f within =
    holds k (get_or fs k f).own (ap (λ l. slice_get l k) (sym same) ∙ at_map (λ (g : DriverFace). g.own) fs k (get_or fs k f) (slice_get_read fs (length fs) k (get_or fs k f) refl within (again fs k f)))
  where
    again : (fs : List DriverFace) (k : ℕ) (f : DriverFace) → get_or fs k f ≡ get_or fs k (get_or fs k f)
    again [] k f = refl
    again (g ∷ fs) zero f = refl
    again (g ∷ fs) (suc k) f = again fs k f
