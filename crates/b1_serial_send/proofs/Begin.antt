-- The first step of a SEND, from a state at rest.
use Rattle.std.proofs.Common.{◌≡◌, refl, sym, ap, ◌∙◌, subst, ℕ, Bool, true, false, cond, [], set, length, Option, Some, None, Ok, Err, map-id}
use Rattle.std.specs.Prelude.{slice_get}
use Rattle.std.specs.Bool.{then_some}
use Rattle.std.proofs.lemmas.Option.{same_Some}
use Rattle.b1_model.specs.declared.naming.Opening.{Opening}
use Rattle.b1_model.specs.declared.commands.Command.{Command}
use Rattle.b1_model.specs.declared.commands.Command.TheVariants as cmd
use Rattle.b1_model.specs.declared.commands.SendCmd.{SendCmd}
use Rattle.b1_model.specs.declared.answers.Reason.{Reason}
use Rattle.b1_model.specs.declared.answers.Reason.TheVariants as reason
use Rattle.b1_model.specs.declared.events.Action.{Action}
use Rattle.b1_model.specs.declared.events.Action.TheVariants as act
use Rattle.b1_model.specs.declared.events.Outcome.{Outcome}
use Rattle.b1_model.specs.declared.events.Outcome.TheVariants as out
use Rattle.b1_model.specs.declared.events.Phase.TheVariants.{Starting, Staging}
use Rattle.b1_model.specs.MachineParts.{PeerPart, DriverPart, State}
use Rattle.b1_model.specs.MachineSend.{send_refusal, begun_part, begun_nodes}
use Rattle.b1_model.specs.MachineDriver.{peer_of, refused_at}
use Rattle.b1_model.specs.MachineTook.{took, ended}
use Rattle.b1_model.specs.MachineEvents.{happens, begin_by}
use Rattle.b1_model.specs.MachineStep.{Reached, with_parts, stepped, stepped_by, stepped_at, effect}
use Rattle.b1_model.specs.Script.{resolved}
use Rattle.b1_schedule.specs.Shortage.{Shortage}
use Rattle.b1_schedule.specs.Schedule.{beginning, with_step}
use Rattle.b1_step.proofs.Steps.{step_of, reached_more}
use Rattle.b1_serial_bus.specs.Parts.{Bus}
use Rattle.b1_serial_rest.specs.Rest.{AtRest}
use Rattle.b1_serial_rest.specs.Whole.{own_step, own_steps, is_open_at, RunsWhole}
use Rattle.b1_serial_send.proofs.Midway.{at_part, with_begin, sending_driver, midway}
use Rattle.b1_serial_send.proofs.Parts.{Placed, set_at, map_same, at_keeps}
use Rattle.b1_serial_send.proofs.Goes.{WillEnd}

-- a driver's part at rest
abbrev pub resting : DriverPart → DriverPart
resting d = record d { doing = None; owed = [] }

module _ (o : Opening) (m : Shortage) (p : ℕ) (s : State) (d : DriverPart) (c : SendCmd) (command : Command)
    (placed : Placed s.peers) (is_driver : slice_get s.drivers p ≡ Some (resting d)) (x : PeerPart) (is_peer : slice_get s.peers p ≡ Some x)
    (me_is : d.me ≡ p) (is_open : d.shut ≡ false) (resolves : resolved command d.calls ≡ cmd.Send c) where
  abbrev before : DriverPart
  before = sending_driver d c Starting

  abbrev memory : Bool
  memory = m d.me (length d.calls) None

  abbrev taken_by : Outcome × PeerPart → DriverPart × PeerPart
  taken_by z = (took before z.0, z.1)

  -- the refusal of the begin, if it is refused
  abbrev pub begin_answer : Option Reason
  begin_answer = elim (send_refusal x c) [ None ↦ then_some memory reason.Memory | Some r ↦ Some r ]

  action_is : cond d.shut act.Local act.Begin ≡ act.Begin
  action_is = ap (λ b. cond b act.Local act.Begin) is_open

  effect_is : effect o memory (resting d) (Some (cmd.Send c)) x ≡ taken_by (begin_by (send_refusal x c) memory c x)
  effect_is = ap (λ (a : Action). taken_by (happens o memory before (record { command = cmd.Send c; phase = Starting }) a x)) action_is

  accepts : (r : Option Reason) (b : Bool) → ◌≡◌ {A = Option Reason} (elim r [ None ↦ then_some b reason.Memory | Some e ↦ Some e ]) None → begin_by r b c x ≡ (out.Begin (Ok (begun_nodes x c)), begun_part x c)
  accepts None true none = absurd (cc none)
  accepts None false none = refl
  accepts (Some e) b none = absurd (cc none)

  refuses : (r : Option Reason) (b : Bool) (a : Reason) → ◌≡◌ {A = Option Reason} (elim r [ None ↦ then_some b reason.Memory | Some e ↦ Some e ]) (Some a) → begin_by r b c x ≡ (out.Begin (Err a), x)
  refuses None true a is = ap (λ z. (out.Begin (Err z), x)) (same_Some reason.Memory a is)
  refuses None false a is = absurd (cc is)
  refuses (Some e) b a is = ap (λ z. (out.Begin (Err z), x)) (same_Some e a is)

  to_midway : (e : DriverPart) (g : PeerPart → PeerPart) → with_parts s p p (e, g x) ≡ midway s p e (λ y. at_part p g y)
  to_midway e g = ap (λ xs. record { peers = xs; drivers = set s.drivers p e }) (ap (λ ys. set ys p (g x)) (sym (map-id s.peers)) ∙ set_at (λ y. y) g s.peers p x placed (λ y. refl) is_peer)

  does : (e : DriverPart) (g : PeerPart → PeerPart) → effect o memory (resting d) (Some (cmd.Send c)) x ≡ (e, g x) → stepped o memory p (Some (cmd.Send c)) s ≡ Some (midway s p e (λ y. at_part p g y))
  does e g after =
      ap (stepped_by o memory p (Some (cmd.Send c)) s) is_driver
      ∙ ap (λ a. stepped_at o memory p (Some (cmd.Send c)) s (resting d) (peer_of d.me a) (slice_get s.peers (peer_of d.me a))) action_is
      ∙ ap (λ q. stepped_at o memory p (Some (cmd.Send c)) s (resting d) q (slice_get s.peers q)) me_is
      ∙ ap (stepped_at o memory p (Some (cmd.Send c)) s (resting d) p) is_peer
      ∙ ap (λ z. Some (with_parts s p p z)) after
      ∙ ap Some (to_midway e g)

  steps_so : (u : State) → stepped o memory p (Some (cmd.Send c)) s ≡ Some u → own_step o m p (Some command) s ≡ u
  steps_so u does =
      ap (λ r. elim r [ None ↦ s | Some z ↦ with_step o m p (beginning (Some command) z) z s ]) is_driver
      ∙ ap (λ k. with_step o m p (Some k) (resting d) s) resolves
      ∙ ap (λ r. elim r [ None ↦ s | Some t ↦ t ]) does

  -- the whole command, from what follows its first step
  module _ (target : Bus) (reached : Reached o s) where
    runs : (u : State) → stepped o memory p (Some (cmd.Send c)) s ≡ Some u → WillEnd o m p target u → (t : State) × RunsWhole o m p command s t × AtRest o t target
    runs u does next =
        let e = next (reached_more o s u p (Some (cmd.Send c)) reached (step_of o memory p (Some (cmd.Send c)) s u does)) in
        let same = steps_so u does in (
          e.last,
          record {
            count = e.count;
            leads = ap (own_steps o m p e.count) same ∙ e.leads;
            open_before = λ n less. ap (λ w. is_open_at p (own_steps o m p n w)) same ∙ e.open_before n less;
            over = e.over;
          },
          e.rests,
        )

    -- refused at its begin
    pub refused_runs : (r : Reason) → begin_answer ≡ Some r → WillEnd o m p target (midway s p (ended before (cmd.Send c) (refused_at r None)) (λ y. y)) → (t : State) × RunsWhole o m p command s t × AtRest o t target
    refused_runs r is next =
        runs (midway s p (ended before (cmd.Send c) (refused_at r None)) (λ y. at_part p (λ z. z) y))
        (does (ended before (cmd.Send c) (refused_at r None)) (λ z. z) (effect_is ∙ ap taken_by (refuses (send_refusal x c) memory r is)))
        (subst (λ ys. WillEnd o m p target (record { peers = ys; drivers = set s.drivers p (ended before (cmd.Send c) (refused_at r None)) })) (map_same (λ y. y) (λ y. at_part p (λ z. z) y) s.peers (λ y. sym (at_keeps (λ z. z) p (λ z. z) y refl))) next)

    -- accepted
    pub accepted_runs : begin_answer ≡ None → WillEnd o m p target (midway s p (sending_driver d c (Staging (begun_nodes x c) [] 0)) (with_begin p c)) → (t : State) × RunsWhole o m p command s t × AtRest o t target
    accepted_runs none next =
        runs (midway s p (sending_driver d c (Staging (begun_nodes x c) [] 0)) (with_begin p c))
        (does (sending_driver d c (Staging (begun_nodes x c) [] 0)) (λ y. begun_part y c) (effect_is ∙ ap taken_by (accepts (send_refusal x c) memory none)))
        next
