-- What a turn makes of a bus.
use Rattle.std.proofs.Common.{◌≡◌, ◌⊎◌, refl, sym, ap, ◌∙◌, inl, inr, subst, ℕ, zero, suc, ◌<◌, true, false, not, List, [], ◌∷◌, length, map, get_or, Option, Some, None, Ok, Err, Result, is_none}
use Rattle.std.specs.Prelude.{option_map, IfOk, OnErr}
use Rattle.std.proofs.lemmas.Option.{get_or_from_slice_get}
use native.Mathlib.Omega.{arith}
use Rattle.b1_model.specs.declared.naming.Opening.{Opening}
use Rattle.b1_model.specs.declared.commands.Command.{Command}
use Rattle.b1_model.specs.declared.commands.Command.TheVariants as cmd
use Rattle.b1_model.specs.declared.events.Doing.{Doing}
use Rattle.b1_model.specs.Script.{resolved}
use Rattle.b1_model.specs.MachineParts.{DriverPart, State}
use Rattle.b1_model.specs.MachineOrder.{next_command}
use Rattle.b1_model.specs.MachineStep.{Step, idle_driver}
use Rattle.b1_step.proofs.Steps.{reached_more}
use Rattle.b1_peer.specs.Seen.{PeerSeen}
use Rattle.b1_driver.specs.Parts.{Driver}
use Rattle.b1_core.specs.declared.turn.Turn.{Turn}
use Rattle.b1_core.specs.declared.turn.Turn.TheVariants as turn
use Rattle.b1_core.specs.Turns.{Bus, driver_at, has_open, scripted, drained, IsTurn, Turns, Drains}
use Rattle.b1_core.specs.Bus.{state_of, AreStocked, IsCore, IsStep}

-- ---- the core

core_moved : (o : Opening) (lists : List (List Command)) (xs ys : List PeerSeen) (ds es : List Driver) (p : ℕ) (command : Option Command) (t : Turn) → IsCore o lists xs ds → IsStep o (state_of xs ds) p command t (state_of ys es) → AreStocked o ys es → IsCore o lists ys es
core_moved o lists xs ys ds es p command t core step stocked = record {
  opening = core.opening;
  as_many = core.as_many;
  reached = reached_more o (state_of xs ds) (state_of ys es) p command core.reached step.step;
  stocked = stocked;
}

-- by whether there was memory
pub core_tried : {E : Type 0} (o : Opening) (lists : List (List Command)) (xs ys : List PeerSeen) (ds es : List Driver) (p : ℕ) (command : Option Command) (r : Result Turn E) → IsCore o lists xs ds
    → IfOk r (λ t. IsStep o (state_of xs ds) p command t (state_of ys es)) → AreStocked o ys es → OnErr r (ys ≡ xs) → OnErr r (es ≡ ds) → IsCore o lists ys es
core_tried o lists xs ys ds es p command (Ok t) core step stocked peers drivers = core_moved o lists xs ys ds es p command t core step stocked
core_tried o lists xs ys ds es p command (Err e) core step stocked peers drivers = subst (λ l. IsCore o lists ys l) (sym drivers) (subst (λ l. IsCore o lists l ds) (sym peers) core)

-- ---- turns

-- the part of a driver
pub part_is : (ds : List Driver) (p : ℕ) (d : Driver) → p < length ds → d ≡ get_or ds p d → driver_at (state_of [] ds) p ≡ d.part
part_is [] p d within is = absurd (omega (arith, within))
part_is (e ∷ ds) zero d within is = ap (λ f. f.part) (sym is)
part_is (e ∷ ds) (suc p) d within is = part_under ds p d (omega (arith, within)) is
  where
    part_under : (ds : List Driver) (i : ℕ) (d : Driver) → i < length ds → d ≡ get_or ds i d → get_or (map (λ f. f.part) ds) i (idle_driver (suc p)) ≡ d.part
    part_under [] i d within is = absurd (omega (arith, within))
    part_under (f ∷ rest) zero d within is = ap (λ g. g.part) (sym is)
    part_under (f ∷ rest) (suc i) d within is = part_under rest i d (omega (arith, within)) is

stepped : (o : Opening) (s t : State) (p : ℕ) (command : Option Command) → (step : Step o s p command t) → driver_at s p ≡ step.driver
stepped o s t p command step = get_or_from_slice_get s.drivers p step.driver (idle_driver p) step.is_driver

turned : (b c : Bus) (p : ℕ) (begins : DriverPart → Option Command) (command : Option Command) (t : Turn) → IsStep b.opening b.state p command t c.state → command ≡ begins (driver_at b.state p) → c.opening ≡ b.opening → c.commands ≡ b.commands → IsTurn b p begins t c
turned b c p begins command t step is opening commands = record {
  command = command;
  step = step.step;
  is_command = is ∙ ap begins (stepped b.opening b.state c.state p command step.step);
  stands = step.stands;
  same_opening = opening;
  same_commands = commands;
}

never_idle : (b c : Bus) (p : ℕ) (t : Turn) → IsTurn b p (scripted b.commands p) t c → Turns b p t c
never_idle b c p turn.Idle is = absurd is.stands
never_idle b c p turn.Moved is = is
never_idle b c p turn.Ended is = is
never_idle b c p (turn.Waiting front removed) is = is

-- a turn of a script, where something is done
pub turns_tried : {E : Type 0} (b c : Bus) (p : ℕ) (command : Option Command) (r : Result Turn E) → IfOk r (λ t. IsStep b.opening b.state p command t c.state) → command ≡ scripted b.commands p (driver_at b.state p) → c.opening ≡ b.opening → c.commands ≡ b.commands → IfOk r (λ t. Turns b p t c)
turns_tried b c p command (Ok t) step is opening commands = never_idle b c p t (turned b c p (scripted b.commands p) command t step is opening commands)
turns_tried b c p command (Err e) step is opening commands = step

-- a turn of the drain
pub drains_tried : {E : Type 0} (b c : Bus) (p : ℕ) (command : Option Command) (r : Result Turn E) → IfOk r (λ t. IsStep b.opening b.state p command t c.state) → command ≡ drained (driver_at b.state p) → c.opening ≡ b.opening → c.commands ≡ b.commands → IfOk r (λ t. Drains b p t c)
drains_tried b c p command (Ok t) step is opening commands = turned b c p drained command t step is opening commands
drains_tried b c p command (Err e) step is opening commands = step

-- a command begins exactly where none is open
scripted_by : (lists : List (List Command)) (p : ℕ) (d : DriverPart) (doing : Option Doing) (next : Option Command) → Option Command
scripted_by lists p d doing next = elim doing [ None ↦ option_map (λ c. resolved c d.calls) next | Some one ↦ None ]

pub drain_begins : (d : DriverPart) → is_none (drained d) ≡ not (is_none d.doing)
drain_begins d = by d.doing
  where
    by : (doing : Option Doing) → is_none (elim doing as (λ z. Option Command) [ None ↦ Some cmd.Await | Some one ↦ None ]) ≡ not (is_none doing)
    by None = refl
    by (Some doing) = refl

-- where one begins or is open
pub script_begins : (lists : List (List Command)) (p : ℕ) (d : DriverPart) → (is_none (scripted lists p d) ≡ false) ⊎ (is_none d.doing ≡ false) → is_none (scripted lists p d) ≡ not (is_none d.doing)
script_begins lists p d some = by d.doing (next_command lists p d) some
  where
    by : (doing : Option Doing) (next : Option Command) → (is_none (elim doing as (λ z. Option Command) [ None ↦ option_map (λ c. resolved c d.calls) next | Some one ↦ None ]) ≡ false) ⊎ (is_none doing ≡ false) → is_none (elim doing as (λ z. Option Command) [ None ↦ option_map (λ c. resolved c d.calls) next | Some one ↦ None ]) ≡ not (is_none doing)
    by None None (inl is) = absurd (cc is)
    by None None (inr is) = absurd (cc is)
    by None (Some c) some = refl
    by (Some doing) next some = refl

-- where none begins and none is open, none is left
pub script_ended : (lists : List (List Command)) (p : ℕ) (d : DriverPart) → is_none (scripted lists p d) ≡ true → not (is_none d.doing) ≡ false → is_none (next_command lists p d) ≡ true
script_ended lists p d none idle = by d.doing (next_command lists p d) none idle
  where
    by : (doing : Option Doing) (next : Option Command) → is_none (elim doing as (λ z. Option Command) [ None ↦ option_map (λ c. resolved c d.calls) next | Some one ↦ None ]) ≡ true → not (is_none doing) ≡ false → is_none next ≡ true
    by None None none idle = refl
    by None (Some c) none idle = absurd (cc none)
    by (Some doing) next none idle = absurd (cc idle)

-- the part of a driver of a bus
pub driver_is : (b : Bus) (o : Opening) (lists : List (List Command)) (xs : List PeerSeen) (ds : List Driver) (p : ℕ) (d : Driver) → record { opening = o; commands = lists; state = state_of xs ds } ≡ b → p < length ds → d ≡ get_or ds p d → driver_at b.state p ≡ d.part
driver_is b o lists xs ds p d view within is = ap (λ (c : Bus). driver_at c.state p) (sym view) ∙ part_is ds p d within is

-- memory is wanted only where a command begins, so none is open there
pub closed_tried : {T E : Type 0} (b : Bus) (p : ℕ) (command : Option Command) (r : Result T E) → OnErr r (is_none command ≡ false) → is_none command ≡ not (is_none (driver_at b.state p).doing) → OnErr r (has_open b p ≡ false)
closed_tried b p command (Ok t) begins is = begins
closed_tried b p command (Err e) begins is = sym is ∙ begins

-- what holds anyway holds where memory is wanted
pub on_error : {T E : Type 0} (P : Type 0) (r : Result T E) → P → OnErr r P
on_error P (Ok t) holds = tt
on_error P (Err e) holds = holds
