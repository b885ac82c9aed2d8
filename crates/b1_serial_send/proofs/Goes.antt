-- One step of a SEND that is under way while no other driver does a step.
use Rattle.std.proofs.Common.{◌≡◌, ap, ◌∙◌, ℕ, zero, suc, ◌<◌, Bool, true, false, is_some, map, set, Some, None, arith, subst}
use Rattle.std.specs.Prelude.{slice_get}
use Rattle.std.proofs.lemmas.List.{set-set}
use Rattle.b1_model.specs.declared.naming.Opening.{Opening}
use Rattle.b1_model.specs.declared.commands.Command.TheVariants as cmd
use Rattle.b1_model.specs.declared.commands.SendCmd.{SendCmd}
use Rattle.b1_model.specs.declared.events.Phase.{Phase}
use Rattle.b1_model.specs.MachineParts.{PeerPart, DriverPart, State}
use Rattle.b1_model.specs.MachineDriver.{phase_action, peer_of}
use Rattle.b1_model.specs.MachineStep.{Reached, with_parts, stepped, stepped_by, stepped_at, effect}
use Rattle.b1_schedule.specs.Shortage.{Shortage, is_short}
use Rattle.b1_schedule.specs.Schedule.{beginning, with_step}
use Rattle.b1_step.proofs.Lists.{read_same}
use Rattle.b1_step.proofs.Steps.{step_of, reached_more}
use Rattle.b1_serial_bus.specs.Parts.{Bus}
use Rattle.b1_serial_rest.specs.Rest.{AtRest}
use Rattle.b1_serial_rest.specs.Whole.{own_step, own_steps, is_open_at}
use Rattle.b1_serial_send.proofs.Midway.{at_part, sending_driver, midway}
use Rattle.b1_serial_send.proofs.Parts.{Placed, set_at, map_same, read_map}

-- the driver goes on from a state to one at rest that is a bus
pub record Ends (o : Opening) (m : Shortage) (p : ℕ) (bus : Bus) (u : State) : Type 0 where
  pub count : ℕ
  pub last : State
  pub leads : own_steps o m p count u ≡ last
  pub open_before : (n : ℕ) → n < count → is_open_at p (own_steps o m p n u) ≡ true
  pub over : is_open_at p last ≡ false
  pub rests : AtRest o last bus

-- whatever led to the state
abbrev pub WillEnd : Opening → Shortage → ℕ → Bus → State → Type 0
WillEnd o m p bus u = Reached o u → Ends o m p bus u

-- the same where the parts are the same in other words
pub same_parts : (o : Opening) (m : Shortage) (p : ℕ) (bus : Bus) (s : State) (e : DriverPart) (h j : PeerPart → PeerPart) → ((y : PeerPart) → h y ≡ j y) → WillEnd o m p bus (midway s p e h) → WillEnd o m p bus (midway s p e j)
same_parts o m p bus s e h j same = subst (λ xs. WillEnd o m p bus (record { peers = xs; drivers = set s.drivers p e })) (map_same h j s.peers same)

-- one step more
one_more : (o : Opening) (m : Shortage) (p : ℕ) (bus : Bus) (u v : State) → own_step o m p None u ≡ v → is_open_at p u ≡ true → Ends o m p bus v → Ends o m p bus u
one_more o m p bus u v step busy e = record {
  count = suc e.count;
  last = e.last;
  leads = ap (own_steps o m p e.count) step ∙ e.leads;
  open_before = open_before;
  over = e.over;
  rests = e.rests;
}
  where
    open_before : (n : ℕ) → n < suc e.count → is_open_at p (own_steps o m p n u) ≡ true
    open_before zero less = busy
    open_before (suc n) less = ap (λ w. is_open_at p (own_steps o m p n w)) step ∙ e.open_before n (omega (arith, less))

module _ (o : Opening) (m : Shortage) (p : ℕ) (bus : Bus) (s : State) (d : DriverPart) (c : SendCmd)
    (placed : Placed s.peers) (is_driver : slice_get s.drivers p ≡ Some d) where
  module _ (phase : Phase) (f g h : PeerPart → PeerPart) (q : ℕ) (x : PeerPart) (e : DriverPart)
      (keeps : (y : PeerPart) → (f y).me ≡ y.me) (is_peer : slice_get s.peers q ≡ Some x)
      (is_at : peer_of d.me (phase_action d.me d.shut (cmd.Send c) phase) ≡ q)
      (after : ◌≡◌ {A = DriverPart × PeerPart} (effect o (is_short m (sending_driver d c phase) None) (sending_driver d c phase) None (f x)) (e, g (f x)))
      (change : (y : PeerPart) → at_part q g (f y) ≡ h y) where
    abbrev before : State
    before = midway s p (sending_driver d c phase) f

    abbrev then : State
    then = midway s p e h

    abbrev memory : Bool
    memory = is_short m (sending_driver d c phase) None

    driver_there : slice_get before.drivers p ≡ Some (sending_driver d c phase)
    driver_there = read_same s.drivers p d (sending_driver d c phase) is_driver

    does : stepped o memory p None before ≡ Some then
    does =
        ap (stepped_by o memory p None before) driver_there
        ∙ ap (λ r. stepped_at o memory p None before (sending_driver d c phase) r (slice_get before.peers r)) is_at
        ∙ ap (stepped_at o memory p None before (sending_driver d c phase) q) (read_map f s.peers q x is_peer)
        ∙ ap (λ z. Some (with_parts before p q z)) after
        ∙ ap (λ xs. Some (record { peers = xs; drivers = set (set s.drivers p (sending_driver d c phase)) p e })) (set_at f g s.peers q x placed keeps is_peer ∙ map_same (λ y. at_part q g (f y)) h s.peers change)
        ∙ ap (λ ds. Some (record { peers = map h s.peers; drivers = ds })) (set-set s.drivers p (sending_driver d c phase) e)

    steps_so : own_step o m p None before ≡ then
    steps_so =
        ap (λ r. elim r [ None ↦ before | Some z ↦ with_step o m p (beginning None z) z before ]) driver_there
        ∙ ap (λ r. elim r [ None ↦ before | Some t ↦ t ]) does

    -- from the state behind the step on
    pub goes : WillEnd o m p bus then → WillEnd o m p bus before
    goes next reached =
        one_more o m p bus before then steps_so (ap (λ r. elim r [ None ↦ false | Some z ↦ is_some z.doing ]) driver_there)
        (next (reached_more o before then p None reached (step_of o memory p None before then does)))
