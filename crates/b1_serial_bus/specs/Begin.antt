-- The begin of a SEND: its refusals at the sender.
use Rattle.std.specs.Prelude.{ℕ, Bool, nat_lt, nat_le, if◌then◌else◌, List, [], ◌∷◌, Option}
use Rattle.std.specs.Prelude.{None, Some, is_none, is_some, option_map, map, filter, find, length}
use Rattle.std.specs.Bool.{then_some}
use Rattle.b1_model.specs.declared.limits.TheConstants.{MOST_PAYLOAD}
use Rattle.b1_model.specs.declared.commands.SendCmd.{SendCmd}
use Rattle.b1_model.specs.declared.answers.Reason.{Reason}
use Rattle.b1_model.specs.declared.answers.Reason.TheVariants as reason
use Rattle.b1_model.specs.Names.{is_own, is_given}
use Rattle.b1_model.specs.MachineParts.{clock_limit}
use Rattle.b1_model.specs.MachineSend.{first_reason, is_bad_send}
use Rattle.b1_serial_bus.specs.Parts.{Part}
use Rattle.b1_serial_bus.specs.Named.{serial_of, line_numbered, node_named}
use Rattle.b1_serial_bus.specs.Lives.{destroyed_at}

-- the first of these numbers that names nothing
abbrev pub unknown_reason : Part → List ℕ → Option Reason
unknown_reason x numbers =
    option_map (λ n. reason.Unknown n) (find (λ n. is_none (node_named x n)) numbers)

-- a carried own number is refused where its node is destroyed
abbrev pub own_dead_reason : Part → ℕ → Option Reason
own_dead_reason x number = elim (serial_of number x.nodes) [
  | None ↦ None
  | Some serial ↦ then_some (is_some (destroyed_at x serial)) (reason.Gone x.me serial)
]

-- a carried given number is refused where its line is dead
abbrev pub held_dead_reason : Part → ℕ → Option Reason
held_dead_reason x number = elim (line_numbered number x.lines) [
  | None ↦ None
  | Some l ↦ then_some l.dead (reason.Gone l.node.owner l.node.serial)
]

-- the same, of any carried number
abbrev pub dead_reason : Part → ℕ → Option Reason
dead_reason x n = if is_own n then own_dead_reason x n else held_dead_reason x n

-- the refusals of a SEND at its sender, in their order; the last is want of memory
abbrev pub begin_reasons : Part → SendCmd → Bool → List (Option Reason)
begin_reasons x c short =
    then_some (is_bad_send c) reason.Invalid ∷
    then_some (nat_lt MOST_PAYLOAD (length c.payload)) (reason.Size (length c.payload)) ∷
    then_some (nat_le clock_limit x.clock) (reason.Overflow x.clock) ∷
    unknown_reason x c.to ∷
    unknown_reason x (filter is_given c.with) ∷
    first_reason (map (dead_reason x) c.with) ∷
    then_some short reason.Memory ∷ []
