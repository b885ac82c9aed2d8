-- The opening state is at rest, and it stands for the serial bus before its first command.
use Rattle.std.proofs.Common.{◌≡◌, refl, sym, ap, ◌∙◌, subst, ℕ, zero, suc, ◌+◌, List, [], ◌∷◌, map, fold, length, Some, arith}
use Rattle.std.specs.Prelude.{slice_get}
use Rattle.std.proofs.lemmas.Option.{same_Some}
use Rattle.b1_model.specs.declared.naming.NodeRef.{NodeRef}
use Rattle.b1_model.specs.declared.naming.PeerSpec.{PeerSpec}
use Rattle.b1_model.specs.declared.naming.Wire.{Wire}
use Rattle.b1_model.specs.declared.naming.Opening.{Opening}
use Rattle.b1_model.specs.Opening.{AreWired, IsOpening, after_wire}
use Rattle.b1_model.specs.MachineParts.{PeerPart}
use Rattle.b1_model.specs.MachineStep.{peer_before, peers_before, idle_drivers, opening_state}
use Rattle.b1_model.specs.MachineStep as machine
use Rattle.b1_step.specs.Rights.{Has}
use Rattle.b1_step.proofs.Numbers.{opening_numbered}
use Rattle.b1_inv.specs.Words.{IsPeer}
use Rattle.b1_inv.specs.References.{count_in}
use Rattle.b1_inv_tools.proofs.Openings.{opening_idle}
use Rattle.b1_inv_refs.proofs.Wiring.{Peers, Laid, Wiring, held_read}
use Rattle.b1_inv_refs.proofs.Laying.{wire_kept, before_wiring}
use Rattle.b1_serial_bus.specs.Parts.{Part, Bus}
use Rattle.b1_serial_bus.specs.Opening.{peers_opened, opened}
use Rattle.b1_serial_bus.specs.Opening as bus
use Rattle.b1_serial_rest.specs.Standing.{lines_of, parts_of, bus_of}
use Rattle.b1_serial_rest.specs.Rest.{held_times, boxed_times, IsQuiet, BoxesRight, AtRest}
use Rattle.b1_serial_rest.proofs.Records.{lines_held}
use Rattle.b1_serial_rest.proofs.Living.{opening_late, opening_living}
use Rattle.b1_serial_rest.proofs.Wires.{idle_part, Each, IsAlive, wire_same, wire_alive}

-- the parts with all wires, as the machine lays them and as the serial bus does
pub record Begun (o : Opening) (parts : Peers) (peers : Bus) : Type 0 where
  pub held : List Wire
  pub wiring : Wiring (length o.peers) held parts
  pub same : peers ≡ map idle_part parts

module _ (o : Opening) where
  -- ---- before any wire

  before_same : (me : ℕ) (specs : List PeerSpec) → peers_opened o me specs ≡ map idle_part (peers_before o me specs)
  before_same me [] = refl
  before_same me (spec ∷ rest) = ap (λ ys. idle_part (peer_before o me spec) ∷ ys) (before_same (me + 1) rest)

  before_alive : (me : ℕ) (specs : List PeerSpec) → Each IsAlive (peers_before o me specs)
  before_alive me [] q x is = absurd (cc is)
  before_alive me (spec ∷ rest) zero x is = subst IsAlive (same_Some (peer_before o me spec) x is) (λ h there. absurd there)
  before_alive me (spec ∷ rest) (suc q) x is = before_alive (me + 1) rest q x is

  -- ---- all wires

  all_wires : (ws held : List Wire) (xs : Peers) → Wiring (length o.peers) held xs → AreWired (length o.peers) held ws → Each IsAlive xs → Begun o (fold machine.wired xs ws) (fold bus.wired (map idle_part xs) ws)
  all_wires [] held xs k wires alive = record { held = held; wiring = k; same = refl }
  all_wires (w ∷ rest) held xs k wires alive =
      subst (λ ys. Begun o (fold machine.wired (machine.wired xs w) rest) (fold bus.wired ys rest)) (sym (wire_same (length o.peers) held xs k w wires.0 alive))
      (all_wires rest (after_wire held w) (machine.wired xs w) (wire_kept (length o.peers) held xs k w wires.0) wires.1 (wire_alive (length o.peers) held xs k w wires.0 alive))

  idle_bus : (me : ℕ) (specs : List PeerSpec) (xs : Peers) → length xs ≡ length specs → parts_of xs (idle_drivers me specs) ≡ map idle_part xs
  idle_bus me specs [] same = refl
  idle_bus me [] (x ∷ xs) same = absurd (omega (arith, same))
  idle_bus me (spec ∷ rest) (x ∷ xs) same = ap (λ ys. idle_part x ∷ ys) (idle_bus (me + 1) rest xs (omega (arith, same)))

  module _ (valid : IsOpening o) where
    begun : Begun o (opening_state o).peers (opened o)
    begun = subst (λ ys. Begun o (opening_state o).peers (fold bus.wired ys o.wires)) (sym (before_same 0 o.peers)) (all_wires o.wires [] (peers_before o 0 o.peers) (before_wiring o) valid.wires (before_alive 0 o.peers))

    is_bus : opened o ≡ bus_of (opening_state o)
    is_bus = begun.same ∙ sym (idle_bus 0 o.peers (opening_state o).peers begun.wiring.count)

    laid : (q : ℕ) (x : PeerPart) → IsPeer (opening_state o) q x → Laid (length o.peers) q x
    laid q x is = begun.wiring.part q x is

    -- a peer of the bus is a part
    part_at : (xs : Peers) (q : ℕ) (y : Part) → slice_get (map idle_part xs) q ≡ Some y → (x : PeerPart) × (slice_get xs q ≡ Some x) × (y ≡ idle_part x)
    part_at [] q y is = absurd (cc is)
    part_at (x ∷ xs) zero y is = (x, refl, sym (same_Some (idle_part x) y is))
    part_at (x ∷ xs) (suc q) y is = part_at xs q y is

    of_bus : (q : ℕ) (y : Part) → slice_get (opened o) q ≡ Some y → (x : PeerPart) × IsPeer (opening_state o) q x × (y ≡ idle_part x)
    of_bus q y is = part_at (opening_state o).peers q y (sym (ap (λ ys. slice_get ys q) begun.same) ∙ is)

    box_none : (q : ℕ) (y : Part) → slice_get (opened o) q ≡ Some y → y.box ≡ []
    box_none q y is = let x = of_bus q y is in ap (λ z. z.box) x.2 ∙ (laid q x.0 x.1).queue

    counts : (node : NodeRef) (q : ℕ) (y : Part) → slice_get (opened o) q ≡ Some y → count_in (opening_state o) node q ≡ held_times node y.lines + boxed_times node y.box
    counts node q y is =
        let x = of_bus q y is in
        let k = laid q x.0 x.1 in
        let one = begun.wiring.counts node q ∙ ap (held_read node) x.1 in
        let two = lines_held node x.0.handles k.rising k.numbered.unheld in
        let three : held_times node y.lines ≡ held_times node (lines_of x.0.handles) = ap (λ z. held_times node z.lines) x.2 in
        let four : boxed_times node y.box ≡ 0 = ap (boxed_times node) (box_none q y is) in
        omega (arith, one, two, three, four)

    boxes : BoxesRight (opened o)
    boxes = record {
      sent = λ q y f serial is there to dead. absurd (subst (λ box. Has box f) (box_none q y is) there);
      filled = λ q y f c is there in_it not_void dead. absurd (subst (λ box. Has box f) (box_none q y is) there);
      void = λ q y f c is there in_it is_void. absurd (subst (λ box. Has box f) (box_none q y is) there);
    }

    -- ---- no node is dying, and no holder came late

    quiet : IsQuiet (opening_state o)
    quiet = record {
      idle = λ p d is. ap (λ e. e.doing) (opening_idle o p d is);
      paid = λ p d is. ap (λ e. e.owed) (opening_idle o p d is);
      given_up = λ q x is. (laid q x is).dead;
      in_time = λ q x is. opening_late o q x is;
      committed = λ q x f is there. absurd (subst (λ queue. Has queue f) (laid q x is).queue there);
      stamped = λ q x n is there. opening_living o q x is n there;
    }

    -- before the first command
    pub begins : AtRest o (opening_state o) (opened o)
    begins = record { numbered = opening_numbered o; quiet = quiet; is_bus = is_bus; counts = counts; boxes = boxes }
