-- A SEND that is refused, where all parts are as they were, or with the nodes of its begin.
use Rattle.std.proofs.Common.{◌≡◌, refl, sym, ap, ◌∙◌, ℕ, ◌+◌, ◌==◌, Bool, true, false, cond, List, [], ◌∷◌, zip, Some, None}
use Rattle.std.specs.Prelude.{slice_get}
use Rattle.std.proofs.lemmas.Bool.{eqb-true}
use Rattle.std.proofs.lemmas.Option.{same_Some}
use Rattle.b1_model.specs.declared.naming.NodeRef.{NodeRef}
use Rattle.b1_model.specs.declared.naming.Opening.{Opening}
use Rattle.b1_model.specs.Opening.{IsOpening}
use Rattle.b1_model.specs.declared.commands.Command.TheVariants as cmd
use Rattle.b1_model.specs.declared.commands.SendCmd.{SendCmd}
use Rattle.b1_model.specs.declared.answers.Answer.{Answer}
use Rattle.b1_model.specs.declared.events.Phase.TheVariants.{Starting}
use Rattle.b1_model.specs.MachineParts.{PeerPart, DriverPart, State}
use Rattle.b1_model.specs.MachineTook.{ended}
use Rattle.b1_schedule.specs.Shortage.{Shortage}
use Rattle.b1_serial_bus.specs.Parts.{Bus, at_peer, called}
use Rattle.b1_serial_bus.specs.Letters.{Places}
use Rattle.b1_serial_rest.specs.Standing.{part_of, bus_of}
use Rattle.b1_serial_rest.specs.Rest.{IsQuiet, BoxesRight}
use Rattle.b1_serial_rest.proofs.Shown.{boxes_same}
use Rattle.b1_serial_send.proofs.Midway.{over, sending_driver, midway}
use Rattle.b1_serial_send.proofs.Delivered.{read_change}
use Rattle.b1_serial_send.proofs.Ending.{at_none, bus_same, ends_here}
use Rattle.b1_serial_send.proofs.Goes.{WillEnd}
use Rattle.b1_serial_send.proofs.Stamps.{is_any}

-- where no place was accepted, nothing is done for one
pub none_accepted : (f : ℕ → NodeRef → PeerPart → PeerPart) (place : ℕ) (tos : List NodeRef) (zs : Places) (x : PeerPart) → is_any zs ≡ false → over f place (zip tos zs) x ≡ x
none_accepted f place [] zs x none = refl
none_accepted f place (t ∷ ts) [] x none = refl
none_accepted f place (t ∷ ts) (None ∷ rest) x none = absurd (cc none)
none_accepted f place (t ∷ ts) (Some r ∷ rest) x none = none_accepted f (place + 1) ts rest x none

module _ (o : Opening) (m : Shortage) (s : State) (d : DriverPart) (c : SendCmd) (answer : Answer) (bus : Bus) (f : PeerPart → PeerPart)
    (opens : IsOpening o) (quiet : IsQuiet s) (is_driver : slice_get s.drivers d.me ≡ Some d)
    (there : (q : ℕ) (y : PeerPart) (w : DriverPart) → slice_get s.peers q ≡ Some y → slice_get s.drivers q ≡ Some w → slice_get bus q ≡ Some (part_of (f y) w))
    (missing : (q : ℕ) → slice_get (bus_of s) q ≡ None → slice_get bus q ≡ None) (boxes : BoxesRight bus) where
  -- the bus after it
  abbrev pub refused_bus : Bus
  refused_bus = at_peer d.me (called (cmd.Send c) answer) bus

  abbrev pub refused_driver : DriverPart
  refused_driver = ended (sending_driver d c Starting) (cmd.Send c) answer

  own_read : (q : ℕ) (y : PeerPart) (w : DriverPart) → slice_get s.peers q ≡ Some y → slice_get s.drivers q ≡ Some w → slice_get refused_bus q ≡ Some (part_of (f y) (cond (d.me == q) refused_driver w))
  own_read q y w is is_w = read_change d.me q (called (cmd.Send c) answer) bus (part_of (f y) w) (there q y w is is_w) ∙ ap Some (by (d.me == q) refl)
    where
      by : (b : Bool) → d.me == q ≡ b → cond b (called (cmd.Send c) answer (part_of (f y) w)) (part_of (f y) w) ≡ part_of (f y) (cond b refused_driver w)
      by true own = ap (λ v. called (cmd.Send c) answer (part_of (f y) v)) (same_Some w d (sym is_w ∙ ap (slice_get s.drivers) (sym (eqb-true d.me q own)) ∙ is_driver))
      by false other = refl

  pub shows_refused : refused_bus ≡ bus_of (midway s d.me refused_driver f)
  shows_refused = bus_same s d.me refused_driver f refused_bus own_read (λ q none. at_none d.me q (called (cmd.Send c) answer) bus (missing q none))

  pub refused_boxes : BoxesRight refused_bus
  refused_boxes = boxes_same (called (cmd.Send c) answer) (λ y. refl) bus d.me boxes

  -- the state is at rest
  pub refused_ends : WillEnd o m d.me refused_bus (midway s d.me refused_driver f)
  refused_ends = ends_here o m d.me refused_bus s d opens quiet is_driver refused_driver f refl shows_refused refused_boxes
