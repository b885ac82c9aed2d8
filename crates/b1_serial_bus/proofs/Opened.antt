-- Before the first command each peer's number is its place, and no more is left than the script's commands.
use Rattle.std.specs.Prelude.{◌≡◌, refl, ℕ, zero, suc, ◌+◌, ◌≤◌, List, [], ◌∷◌, length, drop, slice_get, Option, Some, None}
use Rattle.std.proofs.Common.{arith, sym, ap, ◌∙◌}
use Rattle.std.proofs.lemmas.Option.{same_Some}
use Rattle.std.proofs.lemmas.List.Sums.{sum_by-cons}
use Rattle.b1_model.specs.declared.naming.NodeRef.{NodeRef}
use Rattle.b1_model.specs.declared.naming.Opening.{Opening}
use Rattle.b1_model.specs.declared.naming.PeerSpec.{PeerSpec}
use Rattle.b1_model.specs.declared.naming.Wire.{Wire}
use Rattle.b1_model.specs.declared.commands.Command.{Command}
use Rattle.b1_model.specs.Script.{commands_of}
use Rattle.b1_serial_bus.specs.Parts.{Part, Bus, at_peer}
use Rattle.b1_serial_bus.specs.Named.{node_named, making}
use Rattle.b1_serial_bus.specs.References.{with_reference}
use Rattle.b1_serial_bus.specs.Opening.{peers_opened, wire_given, wired, opened}
use Rattle.b1_serial_bus.specs.Report.{command_count}
use Rattle.b1_serial_bus.proofs.Shapes.{shapes, quiet_at, quiet_fold}
use Rattle.b1_serial_bus.proofs.Quiet.{reference_quiet}
use Rattle.b1_serial_bus.proofs.Left.{left, AreNumbered}

-- ---- wires leave numbers and counts

given_quiet : (w : Wire) (bus : Bus) → shapes (wire_given w bus) ≡ shapes bus
given_quiet w bus = by (slice_get bus w.from)
  where
    named : (node : Option NodeRef) → shapes (elim node [ None ↦ bus | Some node ↦ at_peer w.to (with_reference node) bus ]) ≡ shapes bus
    named None = refl
    named (Some node) = quiet_at w.to (with_reference node) bus (λ y. reference_quiet node y)

    by : (found : Option Part) → shapes (elim found [ None ↦ bus | Some x ↦ elim (node_named x w.number) [ None ↦ bus | Some node ↦ at_peer w.to (with_reference node) bus ] ]) ≡ shapes bus
    by None = refl
    by (Some x) = named (node_named x w.number)

wired_quiet : (bus : Bus) (w : Wire) → shapes (wired bus w) ≡ shapes bus
wired_quiet bus w = given_quiet w (at_peer w.from (making (w.number ∷ [])) bus) ∙ quiet_at w.from (making (w.number ∷ [])) bus (λ y. refl)

opened_shapes : (o : Opening) → shapes (opened o) ≡ shapes (peers_opened o 0 o.peers)
opened_shapes o = quiet_fold wired o.wires (peers_opened o 0 o.peers) wired_quiet

-- ---- numbers

numbered_from : (o : Opening) (me : ℕ) (specs : List PeerSpec) (p : ℕ) (s : ℕ × ℕ) → slice_get (shapes (peers_opened o me specs)) p ≡ Some s → s.0 ≡ me + p
numbered_from o me [] p s e = cc
numbered_from o me (spec ∷ rest) zero s e = sym (ap (λ t. t.0) (same_Some (me, 0) s e)) ∙ omega arith
numbered_from o me (spec ∷ rest) (suc p) s e = numbered_from o (me + 1) rest p s e ∙ omega arith

pub opened_numbered : (o : Opening) → AreNumbered (shapes (opened o))
opened_numbered o = rw (opened_shapes o) (λ p s e. numbered_from o 0 o.peers p s e ∙ omega arith)

-- ---- what is left

-- the commands of the peers from one on are its commands and those of the later ones
count_from : (me : ℕ) (lists : List (List Command)) → command_count (drop me lists) ≡ length (commands_of lists me) + command_count (drop (suc me) lists)
count_from zero [] = refl
count_from (suc me) [] = refl
count_from zero (cs ∷ rest) = sum_by-cons (λ commands. length commands) cs rest
count_from (suc me) (cs ∷ rest) = count_from me rest

left_from : (o : Opening) (lists : List (List Command)) (me : ℕ) (specs : List PeerSpec) → left lists (shapes (peers_opened o me specs)) ≤ command_count (drop me lists)
left_from o lists me [] = omega arith
left_from o lists me (spec ∷ rest) = by (left_from o lists (me + 1) rest)
  where
    by : left lists (shapes (peers_opened o (me + 1) rest)) ≤ command_count (drop (me + 1) lists) → left lists (shapes (peers_opened o me (spec ∷ rest))) ≤ command_count (drop me lists)
    by later =
        let next : me + 1 ≡ suc me = omega arith in
        let same : command_count (drop (me + 1) lists) ≡ command_count (drop (suc me) lists) = ap (λ k. command_count (drop k lists)) next in
        let all = count_from me lists in
        omega (arith, later, same, all)

pub opened_left : (o : Opening) (lists : List (List Command)) → left lists (shapes (opened o)) ≤ command_count lists
opened_left o lists = rw (opened_shapes o) (left_from o lists 0 o.peers)
