-- How large clocks, nodes, numbers and counts are where each driver's list has fewer than 2^25 calls.
use Rattle.std.proofs.Common.{◌≡◌, refl, ℕ, suc, ◌+◌, ◌*◌, ◌-◌, ◌^◌, ◌<◌, ◌≤◌, Bool, true, false, cond, nat_le, List, [], ◌∷◌, length, sum_by, Option, Some, None, slice_get}
use Rattle.std.proofs.lemmas.List.{length-append}
use Rattle.std.proofs.lemmas.List.Sums.{sum_by-cons}
use native.Mathlib.Omega.{arith}
use Rattle.b1_model.specs.declared.limits.TheConstants.{MOST_PEERS}
use Rattle.b1_model.specs.declared.naming.Opening.{Opening}
use Rattle.b1_model.specs.declared.commands.Command.{Command}
use Rattle.b1_model.specs.declared.answers.Answer.{Answer}
use Rattle.b1_model.specs.declared.events.Doing.{Doing}
use Rattle.b1_model.specs.declared.records.Call.{Call}
use Rattle.b1_model.specs.MachineParts.{PeerPart, DriverPart, State, clock_limit}
use Rattle.b1_model.specs.MachineTook.{answer_of, is_waiting, as_call, call_of, fixed_call, open_by, open_call, driver_calls}
use Rattle.b1_inv.specs.Bounds.{calls_begun, call_bound, all_calls_bound}
use Rattle.b1_inv.specs.Clocks.{IsClock as IsBounded, has_unstamped, spent, all_spent, clock_bound}
use Rattle.b1_inv_peer.specs.Needs.{IsClock}
use Rattle.b1_event.specs.Borne.{AreShort}

-- ---- clocks

spent_few : (a b : Bool) → cond a 0 (cond b 1 0) ≤ 1
spent_few true b = omega arith
spent_few false true = omega arith
spent_few false false = omega arith

all_spent_few : (xs : List PeerPart) (ds : List DriverPart) → all_spent xs ds ≤ length xs
all_spent_few [] ds = omega arith
all_spent_few (x ∷ xs) [] = omega arith
all_spent_few (x ∷ xs) (d ∷ ds) =
    let one : spent d x ≤ 1 = spent_few (has_unstamped d) (nat_le clock_limit x.clock) in
    let further = all_spent_few xs ds in
    omega (arith, one, further)

-- a clock that is bounded is below 2^63
pub clock_is : (s : State) (n : ℕ) → length s.peers ≤ MOST_PEERS → IsBounded (clock_bound s) n → IsClock n
clock_is s n few c = let k = all_spent_few s.peers s.drivers in record { even = c.0; low = omega (arith, k, few, c.1) }

-- ---- calls

one_call : (command : Command) (got : Answer) → length (call_of command got) ≤ 1
one_call command got = elim (is_waiting command got) as (λ b. length {A = Call} (cond b [] (record { command = as_call command; answer = got } ∷ [])) ≤ 1) [ true ↦ omega arith | false ↦ omega arith ]

fixed_few : (command : Command) (got : Option Answer) → length (fixed_call command got) + cond (elim got [ None ↦ true | Some a ↦ false ]) 1 0 ≤ 1
fixed_few command None = omega arith
fixed_few command (Some got) = let k = one_call command got in omega (arith, k)

open_few : (doing : Option Doing) → length (open_by doing) + cond (elim doing [ None ↦ false | Some one ↦ elim (answer_of one.command one.phase) [ None ↦ true | Some got ↦ false ] ]) 1 0 ≤ 1
open_few None = omega arith
open_few (Some doing) = fixed_few doing.command (answer_of doing.command doing.phase)

begun_few : (d : DriverPart) → calls_begun d ≤ length d.calls + 1
begun_few d =
    let k = open_few d.doing in
    let l : length (driver_calls d) ≡ length d.calls + length (open_call d) = length-append d.calls (open_call d) in
    omega (arith, k, l)

pub calls_few : (o : Opening) (d : DriverPart) → length o.wires < 2 ^ 20 → length d.calls < 2 ^ 25 → call_bound o d < 2 ^ 32 - 64
calls_few o d wires calls = let k = begun_few d in omega (arith, k, wires, calls)

sum_few : (ds : List DriverPart) → ((p : ℕ) (d : DriverPart) → slice_get ds p ≡ Some d → length d.calls < 2 ^ 25) → sum_by (λ d. 4096 * calls_begun d) ds ≤ length ds * (4096 * 2 ^ 25)
sum_few [] short = omega arith
sum_few (d ∷ ds) short =
    let one = begun_few d in
    let here = short 0 d refl in
    let further = sum_few ds (λ p e is. short (suc p) e is) in
    let more = sum_by-cons (λ e. 4096 * calls_begun e) d ds in
    omega (arith, one, here, further, more)

pub all_calls_few : (o : Opening) (s : State) → length o.wires < 2 ^ 20 → length s.drivers ≤ MOST_PEERS → AreShort s → all_calls_bound o s < 2 ^ 63
all_calls_few o s wires few short = let k = sum_few s.drivers short in omega (arith, k, wires, few)
