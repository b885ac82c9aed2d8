-- Which nodes a destruction dooms and what refuses it, by the peer's nodes and its clock alone.
use Rattle.std.specs.Prelude.{ℕ, Bool, true, false, nat_le, List, [], ◌∷◌, Option, Some, None, filter_map, find, get_or, option_map}
use Rattle.std.specs.Bool.{then_some}
use Rattle.b1_model.specs.declared.answers.Reason.{Reason}
use Rattle.b1_model.specs.declared.answers.Reason.TheVariants as reason
use Rattle.b1_model.specs.MachineParts.{NodePart, clock_limit, is_live, no_node}
use Rattle.b1_model.specs.MachineTables.{serial_of}
use Rattle.b1_model.specs.MachineSend.{first_reason}
use Rattle.b1_model.specs.MachineDestroy.{is_bad_destroy}

-- the serial of a live node, by its number
abbrev pub live_in : List NodePart → ℕ → Option ℕ
live_in nodes number = elim (serial_of number nodes) [ None ↦ None | Some serial ↦ then_some (is_live (get_or nodes serial no_node).state) serial ]

-- a number that names no live node
abbrev pub is_not_live_in : List NodePart → ℕ → Bool
is_not_live_in nodes number = elim (live_in nodes number) [ None ↦ true | Some serial ↦ false ]

-- the live nodes that numbers name, in the order of the numbers
abbrev pub serials_in : List NodePart → List ℕ → List ℕ
serials_in nodes numbers = filter_map (live_in nodes) numbers

-- no stamp is begun at a clock of the limit or more
abbrev pub overflow_at : ℕ → Option Reason
overflow_at clock = then_some (nat_le clock_limit clock) (reason.Overflow clock)

-- the refusals of a destruction of nodes by their numbers, in their order
abbrev pub refusal_in : List NodePart → ℕ → List ℕ → Option Reason
refusal_in nodes clock numbers =
    first_reason (
    then_some (is_bad_destroy numbers) reason.Invalid ∷
    overflow_at clock ∷
    option_map (λ number. reason.Unknown number) (find (is_not_live_in nodes) numbers) ∷ [])
