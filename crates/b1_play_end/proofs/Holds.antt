-- What drivers know of their dead lists, over a step of a state.
use Rattle.std.proofs.Common.{length, zero, suc, ◌≡◌, ◌≢◌, refl, sym, ap, ◌∙◌, arith, inl, inr, subst, ℕ, ◌<◌, Bool, true, false, cond, List, [], ◌∷◌, slice_get, Option, Some, None}
use Rattle.std.proofs.lemmas.Bool.{cases_eq}
use Rattle.b1_model.specs.declared.naming.Opening.{Opening}
use Rattle.b1_model.specs.declared.commands.Command.{Command}
use Rattle.b1_model.specs.declared.events.Action.{Action}
use Rattle.b1_model.specs.declared.events.Action.TheVariants as act
use Rattle.b1_model.specs.declared.events.Doing.{Doing}
use Rattle.b1_model.specs.declared.events.Phase.{Phase}
use Rattle.b1_model.specs.declared.events.Phase.TheVariants.{Reaping}
use Rattle.b1_model.specs.MachineParts.{PeerPart, DriverPart, State}
use Rattle.b1_model.specs.MachineDriver.{turn, next_action, peer_of}
use Rattle.b1_model.specs.MachineTook.{turned, with_facts}
use Rattle.b1_model.specs.MachineEvents.{happens}
use Rattle.b1_model.specs.MachineStep.{Step, opening_state, wire_made}
use Rattle.b1_model.specs.MachineTables.{with_made}
use Rattle.b1_model.specs.Names.{is_own}
use Rattle.b1_inv_tools.proofs.Openings.{opening_each, opening_idle}
use Rattle.b1_step.proofs.Changed.{changes}
use Rattle.b1_inv.specs.Words.{IsPeer, IsDriver}
use Rattle.b1_inv.specs.Sound.{IsSound}
use Rattle.b1_inv_tools.proofs.Leaves.{Did, step_did, driver_cases, peer_cases, new_peer, same_peer}
use Rattle.b1_play_end.specs.Course.{PhaseTold, OpenTold, AllTold}
use Rattle.b1_play_end.proofs.Knows.{spares_dead, dead_same, next_knows}

-- ---- what stands in a list

pub peer_there : (xs : List PeerPart) (i : ℕ) → i < length xs → (x : PeerPart) × (slice_get xs i ≡ Some x)
peer_there [] i below = absurd (omega (arith, below))
peer_there (x ∷ rest) zero below = (x, refl)
peer_there (x ∷ rest) (suc i) below = peer_there rest i (omega (arith, below))

pub driver_there : (ds : List DriverPart) (i : ℕ) (d : DriverPart) → slice_get ds i ≡ Some d → i < length ds
driver_there [] i d is = absurd (cc is)
driver_there (e ∷ rest) zero d is = omega arith
driver_there (e ∷ rest) (suc i) d is = omega (arith, driver_there rest i d is)

-- an event at another peer leaves its dead list
elsewhere_spares : (me : ℕ) (action : Action) → peer_of me action ≢ me → spares_dead action ≡ true
elsewhere_spares me act.Recv apart = absurd (apart refl)
elsewhere_spares me act.Reap apart = absurd (apart refl)
elsewhere_spares me act.Flush apart = absurd (apart refl)
elsewhere_spares me action apart = refl

-- what is known stays where the dead list stays
phase_same : (d : DriverPart) (x y : PeerPart) (command : Command) (phase : Phase) → y.dead ≡ x.dead → PhaseTold d x command phase → PhaseTold d y command phase
phase_same d x y command (Reaping got) same told = (told.0 ∙ ap {B = Bool} (λ dead. elim dead [ [] ↦ false | item ∷ rest ↦ true ]) (sym same), told.1)
phase_same d x y command phase same told = same ∙ told

open_same : (d : DriverPart) (x y : PeerPart) (doing : Option Doing) → y.dead ≡ x.dead → OpenTold d x doing → OpenTold d y doing
open_same d x y None same told = same ∙ told
open_same d x y (Some doing) same told = phase_same d x y doing.command doing.phase same told

-- the same by what the driver is told, and by its last attempt
pub phase_told : (d e : DriverPart) (x : PeerPart) (command : Command) (phase : Phase) → e.told ≡ d.told → e.attempted ≡ d.attempted → PhaseTold d x command phase → PhaseTold e x command phase
phase_told d e x command (Reaping got) told attempted held = (told ∙ held.0, λ waits. omega (arith, held.1 waits, ap {B = ℕ} (λ found. elim found [ None ↦ 0 | Some one ↦ one.1 ]) attempted))
phase_told d e x command phase told attempted held = held

pub same_part : {X : Type 0} (xs : List X) (i : ℕ) (a b : X) → slice_get xs i ≡ Some a → slice_get xs i ≡ Some b → a ≡ b
same_part xs i a b first second = some_is (sym first ∙ second)
  where
    some_is : {X : Type 0} {a b : X} → Some a ≡ Some b → a ≡ b
    some_is is = cc is

module _ {o : Opening} {s : State} {p : ℕ} {command : Option Command} {t : State} (sound : IsSound o s) (known : AllTold s) (step : Step o s p command t) where
  k : Did o step.local.memory step.driver command step.peer step.action step.at step.new_driver step.new_peer
  k = step_did step

  number : k.e.me ≡ p
  number = k.opened.me ∙ sound.numbered.drivers p step.driver step.is_driver

  at_is : step.at ≡ peer_of k.e.me step.action
  at_is = k.is_at

  module _ (x y : PeerPart) (is_x : IsPeer s p x) (is_y : IsPeer t p y) where
    held : PhaseTold k.e x k.doing.command k.doing.phase
    held = elim k.opened.from [
      | inl is ↦ phase_told step.driver k.e x k.doing.command k.doing.phase k.opened.told k.opened.attempted (subst (OpenTold step.driver x) is (known p step.driver x step.is_driver is_x))
      | inr begins ↦ subst (PhaseTold k.e x k.doing.command) (sym begins.2) (subst (OpenTold step.driver x) begins.0 (known p step.driver x step.is_driver is_x))
    ]

    at_by : (action : Action) → next_action k.e ≡ action → step.at ≡ peer_of k.e.me action
    at_by action is = at_is ∙ ap (peer_of k.e.me) (k.is_action ∙ is)

    own : (action : Action) → next_action k.e ≡ action → peer_of k.e.me action ≡ k.e.me → (y ≡ (happens o step.local.memory k.e k.doing action step.peer).1) × (x ≡ step.peer)
    own action is here =
        let at_own = at_by action is ∙ here ∙ number in (
          same_part t.peers p y step.new_peer is_y (ap (slice_get t.peers) (sym at_own) ∙ new_peer step) ∙ k.peer ∙ ap (λ a. (happens o step.local.memory k.e k.doing a step.peer).1) (k.is_action ∙ is),
          same_part s.peers p x step.peer is_x (ap (slice_get s.peers) (sym at_own) ∙ step.is_peer),
        )

    other : (action : Action) → next_action k.e ≡ action → peer_of k.e.me action ≢ k.e.me → y ≡ x
    other action is apart = same_part t.peers p y x is_y (same_peer step p x (λ same. apart (sym (at_by action is) ∙ sym same ∙ sym number)) is_x)

    after_is : step.new_driver ≡ turned (with_facts k.e k.doing (happens o step.local.memory k.e k.doing (next_action k.e) step.peer).0) k.doing.command (turn k.e.me k.doing.command k.doing.phase (happens o step.local.memory k.e k.doing (next_action k.e) step.peer).0)
    after_is = k.driver ∙ ap (λ action. turned (with_facts k.e k.doing (happens o step.local.memory k.e k.doing action step.peer).0) k.doing.command (turn k.e.me k.doing.command k.doing.phase (happens o step.local.memory k.e k.doing action step.peer).0)) k.is_action

    -- the stepping driver and its own peer
    own_known : OpenTold step.new_driver y step.new_driver.doing
    own_known = subst (λ f. OpenTold f y f.doing) (sym after_is) (next_knows o step.local.memory k.e k.doing step.peer x y own other k.e.owed refl k.opened.is_open held)

  -- another driver and its peer
  other_known : (r : ℕ) (d : DriverPart) (x y : PeerPart) → r ≢ p → IsDriver s r d → IsPeer s r x → IsPeer t r y → OpenTold d y d.doing
  other_known r d x y apart is_d is_x is_y = open_same d x y d.doing dead (known r d x is_d is_x)
    where
      away : r ≡ step.at → peer_of k.e.me step.action ≢ k.e.me
      away here same = apart (here ∙ at_is ∙ same ∙ number)

      dead : y.dead ≡ x.dead
      dead = elim (cases_eq r step.at) [
        | inl here ↦ ap (λ z. z.dead) (same_part t.peers r y step.new_peer is_y (ap (slice_get t.peers) here ∙ new_peer step) ∙ k.peer)
            ∙ dead_same step.action step.peer (happens o step.local.memory k.e k.doing step.action step.peer).1 (elsewhere_spares k.e.me step.action (away here)) (changes o step.local.memory k.e k.doing step.action step.peer)
            ∙ ap (λ z. z.dead) (sym (same_part s.peers r x step.peer is_x (ap (slice_get s.peers) here ∙ step.is_peer)))
        | inr elsewhere ↦ ap (λ z. z.dead) (same_part t.peers r y x is_y (same_peer step r x elsewhere is_x))
      ]

  -- a peer that is there afterwards was there
  pub was_peer : (q : ℕ) (y : PeerPart) → IsPeer t q y → (x : PeerPart) × IsPeer s q x
  was_peer q y is = elim (peer_cases step q y is) [
    | inl here ↦ (step.peer, ap (slice_get s.peers) here.0 ∙ step.is_peer)
    | inr elsewhere ↦ (y, elsewhere.1)
  ]

  pub told_kept : AllTold t
  told_kept r f y is_f is_y = elim (driver_cases step r f is_f) [
    | inl here ↦
        let was = was_peer p y (ap (slice_get t.peers) (sym here.0) ∙ is_y) in
        subst (λ g. OpenTold g y g.doing) (sym here.1) (own_known was.0 y was.1 (ap (slice_get t.peers) (sym here.0) ∙ is_y))
    | inr elsewhere ↦
        let was = was_peer r y is_y in
        other_known r f was.0 y elsewhere.0 elsewhere.1 was.1 is_y
  ]

-- ---- the opening

-- no wire puts anything on a dead list
abbrev HasNone : PeerPart → Type 0
HasNone x = x.dead ≡ []

made_none : (number : ℕ) (x : PeerPart) → HasNone x → HasNone (wire_made number x)
made_none number x none = elim (is_own number) as (λ b. HasNone (cond b (record x { nodes = with_made x.peers number x.nodes }) x)) [ true ↦ none | false ↦ none ]

pub opening_told : (o : Opening) → AllTold (opening_state o)
opening_told o p d x is_d is_x =
    subst (OpenTold d x) (sym (ap (λ e. e.doing) (opening_idle o p d is_d)))
    (opening_each HasNone made_none (λ node dest y none. none) (λ node y none. none) o (λ me spec. refl) p x is_x)
