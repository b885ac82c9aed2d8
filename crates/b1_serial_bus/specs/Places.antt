-- The destinations of a SEND: what each of them answers.
use Rattle.std.specs.Prelude.{ℕ, zero, suc, ◌+◌, ◌*◌, ◌==◌, Bool, not, nat_lt, nat_le}
use Rattle.std.specs.Prelude.{if◌then◌else◌, List, [], ◌∷◌, ◌++◌, Option, None, Some, is_some}
use Rattle.std.specs.Prelude.{length, slice_get}
use Rattle.std.specs.Bool.{then_some}
use Rattle.b1_model.specs.declared.naming.NodeRef.{NodeRef}
use Rattle.b1_model.specs.declared.answers.Reason.{Reason}
use Rattle.b1_model.specs.declared.answers.Reason.TheVariants as reason
use Rattle.b1_model.specs.declared.answers.Quantity.{Quantity}
use Rattle.b1_model.specs.declared.answers.Quantity.TheVariants.{Entries, Bytes, Handles}
use Rattle.b1_model.specs.MachineParts.{Slice, clock_limit}
use Rattle.b1_model.specs.MachinePool.{largest_free, taken}
use Rattle.b1_model.specs.MachineTables.{amount, charged, limit_of, within_quota}
use Rattle.b1_model.specs.MachineSend.{first_reason}
use Rattle.b1_serial_bus.specs.Parts.{Part, Bus}
use Rattle.b1_serial_bus.specs.Lives.{destroyed_at}
use Rattle.b1_serial_bus.specs.Letters.{Letter, Places, letter_len, accepted_by}

-- a pool after so many messages of one length
abbrev pub after_taken : ℕ → ℕ → List Slice → List Slice
after_taken len zero slices = slices
after_taken len (suc n) slices = after_taken len n (taken len slices)

-- a quantity's refusal at a peer that accepted n copies of the letter for earlier places
abbrev pub over_quota : Letter → ℕ → Part → Quantity → Option Reason
over_quota s n y what =
    let asked = amount what (length s.payload) (length s.with) in
    let own = charged what (λ u. u == s.user) y.box + n * asked in
    let others = charged what (λ u. not (u == s.user)) y.box in
    let limit = limit_of what y.limits in
    if within_quota (s.user == y.user) own others limit asked then None
    else Some (reason.Quota what own others limit asked)

-- the refusals of a destination, in their order; the last is want of memory
abbrev pub place_reasons : Letter → ℕ → Part → ℕ → Bool → List (Option Reason)
place_reasons s n y serial short =
    let largest = largest_free (after_taken (letter_len s) n y.slices) in
    then_some (is_some (destroyed_at y serial)) (reason.Gone y.me serial) ∷
    then_some (nat_le clock_limit y.clock) (reason.Overflow y.clock) ∷
    over_quota s n y Entries ∷
    over_quota s n y Bytes ∷
    over_quota s n y Handles ∷
    then_some (nat_lt largest (letter_len s)) (reason.Full (letter_len s) largest) ∷
    then_some short reason.Memory ∷ []

-- what a destination answers behind the earlier places
abbrev pub answer_of : Bus → Letter → Places → NodeRef → Bool → Option Reason
answer_of bus s places x short = elim (slice_get bus x.owner) [
  | None ↦ None
  | Some y ↦ first_reason (place_reasons s (accepted_by x.owner s places) y x.serial short)
]

-- the answers of further destinations, one after another
abbrev pub answered : Bus → Letter → (Option ℕ → Bool) → List NodeRef → Places → Places
answered bus s short [] places = places
answered bus s short (x ∷ rest) places =
    let answer = answer_of bus s places x (short (Some (length places))) in
    answered bus s short rest (places ++ answer ∷ [])
