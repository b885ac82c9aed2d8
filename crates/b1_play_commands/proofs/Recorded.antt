-- The record of a state has each driver's calls, and all commands of the script where each list is at its end.
use Rattle.std.proofs.Common.{◌≡◌, refl, sym, ap, ◌∙◌, subst, ℕ, zero, suc, ◌<◌, ◌≤◌, List, [], ◌∷◌, take, slice_get, length, Option, Some, None}
use Rattle.std.proofs.lemmas.List.{length-append}
use Rattle.std.proofs.lemmas.Option.{slice_get_within}
use native.Mathlib.Omega.{arith}
use Rattle.b1_model.specs.declared.naming.Opening.{Opening}
use Rattle.b1_model.specs.declared.commands.Command.{Command}
use Rattle.b1_model.specs.declared.records.Call.{Call}
use Rattle.b1_model.specs.declared.records.PeerCalls.{PeerCalls}
use Rattle.b1_model.specs.declared.records.Record.{Record}
use Rattle.b1_model.specs.Names.{calls_of, calls_in}
use Rattle.b1_model.specs.Script.{commands_of, IsInPlace, Script}
use Rattle.b1_model.specs.MachineParts.{PeerPart, DriverPart, State}
use Rattle.b1_model.specs.MachineTook.{open_call, driver_calls}
use Rattle.b1_model.specs.MachineStep.{Reached, peer_records, record_of_state}
use Rattle.b1_step.specs.Fixed.{IsNumbered}
use Rattle.b1_inv.specs.Words.{IsDriver}
use Rattle.b1_inv.specs.Sound.{IsSound}
use Rattle.b1_schedule.specs.Shortage.{Shortage, no_shortage, shortage_of}
use Rattle.b1_schedule.specs.Schedule.{Finished, Stalled, Playing, moves, start_of, IsPlay, IsStall}
use Rattle.b1_play_commands.specs.Following.{AllInPlace, Follows, AllFollow, AllEnd, EndsAt}
use Rattle.b1_play_commands.proofs.Calls.{driver_follows}
use Rattle.b1_play_commands.proofs.Steps.{still_past}
use Rattle.b1_play_commands.proofs.Plays.{Plays, plays}

-- the recorded calls of a peer are those of a driver, or there are none
recorded_by : (P : List Call → Type 0) (xs : List PeerPart) (ds : List DriverPart) (p : ℕ) → P [] → ((d : DriverPart) → slice_get ds p ≡ Some d → P (driver_calls d)) → P (calls_in (slice_get (peer_records xs ds) p))
recorded_by P [] ds p none each = none
recorded_by P (x ∷ xs) [] p none each = none
recorded_by P (x ∷ xs) (d ∷ ds) zero none each = each d refl
recorded_by P (x ∷ xs) (d ∷ ds) (suc p) none each = recorded_by P xs ds p none each

-- there is a driver where both lists are long enough
there : (P : List Call → Type 0) (xs : List PeerPart) (ds : List DriverPart) (p : ℕ) → p < length xs → p < length ds → ((d : DriverPart) → slice_get ds p ≡ Some d → P (driver_calls d)) → P (calls_in (slice_get (peer_records xs ds) p))
there P [] ds p within also each = absurd (omega (arith, within))
there P (x ∷ xs) [] p within also each = absurd (omega (arith, also))
there P (x ∷ xs) (d ∷ ds) zero within also each = each d refl
there P (x ∷ xs) (d ∷ ds) (suc p) within also each = there P xs ds p (omega (arith, within)) (omega (arith, also)) each

pub recorded_in_place : (lists : List (List Command)) (s : State) (p : ℕ) → AllFollow lists s → AllInPlace (commands_of lists p) (calls_of (record_of_state s) p)
recorded_in_place lists s p all = recorded_by (AllInPlace (commands_of lists p)) s.peers s.drivers p (λ k call is. absurd (cc is)) (λ d is. driver_follows (commands_of lists p) d (all p d is))

-- ---- all commands

-- the calls of a list at its end have the script's commands
abbrev Keeps : List Command → ℕ → List Call → Type 0
Keeps commands k calls = k ≤ length calls → IsInPlace (take k calls) (slice_get commands k) (slice_get calls k)

keeps_by : (commands : List Command) (k : ℕ) (calls : List Call) → AllInPlace commands calls → slice_get commands (length calls) ≡ None → k ≤ length calls → (call : Option Call) → slice_get calls k ≡ call → IsInPlace (take k calls) (slice_get commands k) call
keeps_by commands k calls all ended less (Some call) is = all k call is
keeps_by commands k calls all ended less None is =
    let past = past_end calls k is in
    subst (λ next. IsInPlace (take k calls) next None) (sym (ap (slice_get commands) (same_length k (length calls) less past) ∙ ended)) tt
  where
    past_end : {X : Type 0} (xs : List X) (i : ℕ) → slice_get xs i ≡ None → length xs ≤ i
    past_end [] i none = omega arith
    past_end (x ∷ xs) zero none = absurd (cc none)
    past_end (x ∷ xs) (suc i) none = omega (arith, past_end xs i none)

    same_length : (a b : ℕ) → a ≤ b → b ≤ a → a ≡ b
    same_length a b less more = omega (arith, less, more)

-- the calls of a script's record are in their places
pub script_placed : (o : Opening) (lists : List (List Command)) (r : Record) → length r.peers ≡ length o.peers → Script o lists r → (p : ℕ) → AllInPlace (commands_of lists p) (calls_of r p)
script_placed o lists r count script p k call is =
    let within = slice_get_within (calls_of r p) k call is in
    subst (IsInPlace (take k (calls_of r p)) (slice_get (commands_of lists p) k)) is (script p k (there_is (slice_get r.peers p) refl is) (omega (arith, within)))
  where
    there_is : (found : Option PeerCalls) → slice_get r.peers p ≡ found → slice_get (calls_of r p) k ≡ Some call → p < length o.peers
    there_is None none is = absurd (cc (sym is ∙ ap (λ f. slice_get (calls_in f) k) none))
    there_is (Some x) some is = let less = slice_get_within r.peers p x some in omega (arith, less, count)

pub script_kept : (o : Opening) (lists : List (List Command)) (s : State) → IsNumbered o s → AllFollow lists s → AllEnd lists s → Script o lists (record_of_state s)
script_kept o lists s numbered all ended p k within =
    there (Keeps (commands_of lists p) k) s.peers s.drivers p (omega (arith, within, numbered.as_many_peers)) (omega (arith, within, numbered.as_many_drivers))
    (λ d is less.
    let more = length-append d.calls (open_call d) in
    keeps_by (commands_of lists p) k (driver_calls d) (driver_follows (commands_of lists p) d (all p d is))
    (still_past (commands_of lists p) (length d.calls) (length (driver_calls d)) (omega (arith, more)) (ended p d is))
    less (slice_get (driver_calls d) k) refl)

-- ---- where a schedule has come to

module _ (o : Opening) (lists : List (List Command)) (turns : List ℕ) (m : Shortage) (count : ℕ) (sound : (s : State) → Reached o s → IsSound o s) where
  abbrev at : Playing
  at = moves o lists m count (start_of o turns)

  k : Plays o lists at
  k = plays o lists m sound turns count

  pub drivers_follow : (p : ℕ) (d : DriverPart) → IsDriver at.state p d → Follows (commands_of lists p) d
  drivers_follow p d is = k.follow.all p d is

  pub record_follows : (p : ℕ) → AllInPlace (commands_of lists p) (calls_of (record_of_state at.state) p)
  record_follows p = recorded_in_place lists at.state p k.follow.all

  pub record_ends : at.stage ≡ Finished → Script o lists (record_of_state at.state)
  record_ends finished = script_kept o lists at.state (sound at.state k.follow.reached).numbered k.follow.all (subst (EndsAt lists at.state) finished k.ends)

-- ---- what is played, and what stalls

module _ (o : Opening) (lists : List (List Command)) (turns : List ℕ) (sound : (s : State) → Reached o s → IsSound o s) where
  pub came_to : (m : Shortage) (count : ℕ) (end : Playing) → moves o lists m count (start_of o turns) ≡ end → Plays o lists end
  came_to m count end is = subst (Plays o lists) is (plays o lists m sound turns count)

  pub played_follows : (r : Record) → IsPlay o lists turns r → Script o lists r
  played_follows r play =
      let k = came_to (shortage_of r) play.comes.count (record { state = play.state; stage = Finished }) play.comes.is_at in
      subst (Script o lists) (sym play.record_is) (script_kept o lists play.state (sound play.state k.follow.reached).numbered k.follow.all k.ends)

  pub stalled_follows : (waiting : List ℕ) (r : Record) → IsStall o lists turns waiting r → (p : ℕ) → AllInPlace (commands_of lists p) (calls_of r p)
  stalled_follows waiting r stall p =
      let k = came_to no_shortage stall.comes.count (record { state = stall.state; stage = Stalled }) stall.comes.is_at in
      subst (λ z. AllInPlace (commands_of lists p) (calls_of z p)) (sym stall.record_is) (recorded_in_place lists stall.state p k.follow.all)
