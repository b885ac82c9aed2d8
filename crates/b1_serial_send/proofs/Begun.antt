-- The begin of a SEND at the machine: its refusals and its nodes are those of the serial bus.
use Rattle.std.proofs.Common.{◌≡◌, refl, ap, ap₂, ◌∙◌, ℕ, ◌==◌, Bool, true, false, cond, nat_lt, nat_le, List, [], ◌∷◌, map, filter, filter_map, fold, find, length, Option, Some, None, option_map, is_some, is_none}
use Rattle.std.specs.Bool.{then_some}
use Rattle.std.specs.List.{cons_option}
use Rattle.b1_model.specs.declared.limits.TheConstants.{MOST_PAYLOAD}
use Rattle.b1_model.specs.declared.commands.SendCmd.{SendCmd}
use Rattle.b1_model.specs.declared.parts.NodeState.{NodeState}
use Rattle.b1_model.specs.declared.parts.NodeState.TheVariants.{Live, Dying, Destroyed}
use Rattle.b1_model.specs.declared.answers.Reason.{Reason}
use Rattle.b1_model.specs.declared.answers.Reason.TheVariants as reason
use Rattle.b1_model.specs.Names.{is_own, is_given}
use Rattle.b1_model.specs.MachineParts.{PeerPart, DriverPart, HandleRecord, NodePart, node_at, is_dying, is_destroyed, clock_limit}
use Rattle.b1_model.specs.MachineTables as tables
use Rattle.b1_model.specs.MachineTables.{is_number}
use Rattle.b1_model.specs.MachineSend as machine
use Rattle.b1_model.specs.MachineSend.{first_reason, is_bad_send, send_refusal, begun_part, begun_nodes}
use Rattle.b1_inv_refs.proofs.Views.{Handles}
use Rattle.b1_inv_refs.proofs.Places.{serial_within}
use Rattle.b1_serial_bus.specs.Parts.{HeldLine}
use Rattle.b1_serial_bus.specs.Named as named
use Rattle.b1_serial_bus.specs.Named.{line_numbered, making}
use Rattle.b1_serial_bus.specs.Lives.{destroyed_at}
use Rattle.b1_serial_bus.specs.Letters.{letter_of}
use Rattle.b1_serial_bus.specs.Begin as begin
use Rattle.b1_serial_bus.specs.Begin.{begin_reasons}
use Rattle.b1_serial_rest.specs.Standing.{stamp_of, own_of, line_under, with_line, lines_of, part_of}
use Rattle.b1_serial_rest.proofs.Lines.{put_numbered}
use Rattle.b1_serial_rest.proofs.Wires.{serial_same, node_made, named_same}
use Rattle.b1_serial_send.proofs.Parts.{map_same}
use Rattle.b1_serial_send.proofs.Answers.{first_of_more, destroyed_so}

-- ---- lists by tests and functions that are the same

find_same : {X : Type 0} (a b : X → Bool) (xs : List X) → ((x : X) → a x ≡ b x) → find a xs ≡ find b xs
find_same a b [] same = refl
find_same a b (x ∷ rest) same = ap₂ (λ v r. cond v (Some x) r) (same x) (find_same a b rest same)

filter_map_same : {X Y : Type 0} (a b : X → Option Y) (xs : List X) → ((x : X) → a x ≡ b x) → filter_map a xs ≡ filter_map b xs
filter_map_same a b [] same = refl
filter_map_same a b (x ∷ rest) same = ap₂ cons_option (same x) (filter_map_same a b rest same)

-- ---- names

-- the nodes made at its begin
made_so : (peers : ℕ) (numbers : List ℕ) (nodes : List NodePart) → fold named.with_made (map own_of nodes) numbers ≡ map own_of (fold (λ ns number. tables.with_made peers number ns) nodes numbers)
made_so peers [] nodes = refl
made_so peers (n ∷ rest) nodes = ap (λ ns. fold named.with_made ns rest) (node_made peers n nodes) ∙ made_so peers rest (tables.with_made peers n nodes)

pub making_so : (c : SendCmd) (x : PeerPart) (d : DriverPart) → making c.with (part_of x d) ≡ part_of (begun_part x c) d
making_so c x d = ap (λ ns. record (part_of x d) { nodes = ns }) (made_so x.peers (filter is_own c.with) x.nodes)

-- the letter that it sends
pub letter_so : (c : SendCmd) (x : PeerPart) (d : DriverPart) → letter_of c (part_of (begun_part x c) d) ≡ record { origin = x.me; user = x.user; to = (begun_nodes x c).to; with = (begun_nodes x c).with; payload = c.payload }
letter_so c x d = ap₂ (λ tos with. record { origin = x.me; user = x.user; to = tos; with = with; payload = c.payload }) (nodes c.to) (nodes c.with)
  where
    nodes : (numbers : List ℕ) → filter_map (named.node_named (part_of (begun_part x c) d)) numbers ≡ filter_map (tables.node_named (begun_part x c)) numbers
    nodes numbers = filter_map_same (named.node_named (part_of (begun_part x c) d)) (tables.node_named (begun_part x c)) numbers (λ n. named_same n (begun_part x c))

-- ---- refusals

dead_by : (st : NodeState) → is_some (stamp_of st) ≡ is_destroyed st
dead_by Live = refl
dead_by Dying = refl
dead_by (Destroyed stamp) = refl

abbrev line_dead : Option HeldLine → Option Reason
line_dead r = elim r [ None ↦ None | Some l ↦ then_some l.dead (reason.Gone l.node.owner l.node.serial) ]

abbrev record_dead : Option HandleRecord → Option Reason
record_dead r = elim r [ None ↦ None | Some h ↦ then_some h.dead (reason.Gone h.node.owner h.node.serial) ]

-- a held handle is dead alike
lines_dead : (n : ℕ) (hs : Handles) → line_dead (line_numbered n (lines_of hs)) ≡ record_dead (find (is_number n) hs)
lines_dead n [] = refl
lines_dead n (h ∷ rest) = by (lines_dead n rest) h.number
  where
    found : line_dead (line_numbered n (lines_of rest)) ≡ record_dead (find (is_number n) rest) → (k : ℕ) (b : Bool) → line_dead (cond b (Some (line_under k h)) (line_numbered n (lines_of rest))) ≡ record_dead (cond b (Some h) (find (is_number n) rest))
    found below k true = refl
    found below k false = below

    by : line_dead (line_numbered n (lines_of rest)) ≡ record_dead (find (is_number n) rest) → (r : Option ℕ) → line_dead (line_numbered n (with_line r h (lines_of rest))) ≡ record_dead (cond (elim r [ None ↦ false | Some m ↦ m == n ]) (Some h) (find (is_number n) rest))
    by below None = below
    by below (Some k) = ap line_dead (put_numbered n (line_under k h) (lines_of rest)) ∙ found below k (k == n)

module _ (x : PeerPart) (d : DriverPart) (living : (j : ℕ) → is_dying (node_at x j).state ≡ false) where
  abbrev own_dead : Option ℕ → Option Reason
  own_dead r = elim r [ None ↦ None | Some serial ↦ then_some (is_destroyed (node_at x serial).state) (reason.Gone x.me serial) ]

  own_dead_so : (number : ℕ) → begin.own_dead_reason (part_of x d) number ≡ own_dead (tables.serial_of number x.nodes)
  own_dead_so number = ap (λ r. elim r [ None ↦ None | Some serial ↦ then_some (is_some (destroyed_at (part_of x d) serial)) (reason.Gone x.me serial) ]) (serial_same number x.nodes) ∙ by (tables.serial_of number x.nodes) refl
    where
      by : (r : Option ℕ) → tables.serial_of number x.nodes ≡ r → ◌≡◌ {A = Option Reason} (elim r [ None ↦ None | Some serial ↦ then_some (is_some (destroyed_at (part_of x d) serial)) (reason.Gone x.me serial) ]) (own_dead r)
      by None is = refl
      by (Some serial) is = ap (λ b. then_some b (reason.Gone x.me serial)) (ap is_some (destroyed_so x d serial (serial_within x.nodes serial number is) (living serial)) ∙ dead_by (node_at x serial).state)

  dead_so : (number : ℕ) → begin.dead_reason (part_of x d) number ≡ machine.dead_reason x number
  dead_so number = ap₂ (cond (is_own number)) (own_dead_so number) (lines_dead number x.handles)

  unknown_so : (numbers : List ℕ) → begin.unknown_reason (part_of x d) numbers ≡ machine.unknown_reason x numbers
  unknown_so numbers = ap (option_map (λ n. reason.Unknown n)) (find_same (λ n. is_none (named.node_named (part_of x d) n)) (machine.is_unknown x) numbers (λ n. ap is_none (named_same n x)))

  abbrev checks : SendCmd → Option Reason → Option Reason → Option Reason → List (Option Reason)
  checks c one two three =
      then_some (is_bad_send c) reason.Invalid ∷
      then_some (nat_lt MOST_PAYLOAD (length c.payload)) (reason.Size (length c.payload)) ∷
      then_some (nat_le clock_limit x.clock) (reason.Overflow x.clock) ∷
      one ∷ two ∷ three ∷ []

  -- the first refusal of the serial bus is the machine's, or else want of memory
  pub begin_so : (c : SendCmd) (short : Bool) → first_reason (begin_reasons (part_of x d) c short) ≡ elim (send_refusal x c) [ None ↦ then_some short reason.Memory | Some r ↦ Some r ]
  begin_so c short =
      first_of_more (checks c (begin.unknown_reason (part_of x d) c.to) (begin.unknown_reason (part_of x d) (filter is_given c.with)) (first_reason (map (begin.dead_reason (part_of x d)) c.with))) (then_some short reason.Memory)
      ∙ ap (λ rs. elim (first_reason rs) [ None ↦ then_some short reason.Memory | Some r ↦ Some r ]) checks_so
    where
      checks_so : checks c (begin.unknown_reason (part_of x d) c.to) (begin.unknown_reason (part_of x d) (filter is_given c.with)) (first_reason (map (begin.dead_reason (part_of x d)) c.with))
          ≡ checks c (machine.unknown_reason x c.to) (machine.unknown_reason x (filter is_given c.with)) (first_reason (map (machine.dead_reason x) c.with))
      checks_so =
          ap (λ r. checks c r (begin.unknown_reason (part_of x d) (filter is_given c.with)) (first_reason (map (begin.dead_reason (part_of x d)) c.with))) (unknown_so c.to)
          ∙ ap₂ (λ r ds. checks c (machine.unknown_reason x c.to) r (first_reason ds)) (unknown_so (filter is_given c.with)) (map_same (begin.dead_reason (part_of x d)) (machine.dead_reason x) c.with dead_so)
