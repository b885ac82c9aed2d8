-- Small facts that several groups of the invariant rest on.
use Rattle.std.proofs.Common.{◌≡◌, refl, sym, ap, ◌∙◌, inl, inr, ℕ, zero, suc, ◌%◌, ◌<◌, ◌≤◌, ◌==◌, false, true, List, [], ◌∷◌, length, Option, Some, None}
use Rattle.std.proofs.lemmas.List.{length-append}
use native.Mathlib.Omega.{arith}
use Rattle.b1_model.specs.declared.answers.Reason.{Reason}
use Rattle.b1_model.specs.declared.commands.Command.{Command}
use Rattle.b1_model.specs.declared.commands.Command.TheVariants as cmd
use Rattle.b1_model.specs.declared.records.Call.{Call}
use Rattle.b1_model.specs.declared.events.Action.TheVariants as act
use Rattle.b1_model.specs.declared.events.Doing.{Doing}
use Rattle.b1_model.specs.declared.events.OwedDrop.{OwedDrop}
use Rattle.b1_model.specs.MachineParts.{DriverPart, is_odd}
use Rattle.b1_model.specs.MachineDriver.{phase_action, next_action}
use Rattle.b1_model.specs.MachineTook.{is_await}
use Rattle.b1_step.specs.Fixed.{AtMostOneMore}
use Rattle.b1_inv.specs.Words.{is_accepted_place, stamp_of_phase, fixed_stamp}
use Rattle.b1_inv.specs.Notices.{IsDestroying}

-- without an owed drop the event of the phase is next, else the drop
pub next_of : (e : DriverPart) (doing : Doing) → e.doing ≡ Some doing → e.owed ≡ [] → next_action e ≡ phase_action e.me e.shut doing.command doing.phase
next_of e doing is none = rw (is, none) refl

pub next_owed : (e : DriverPart) (doing : Doing) (one : OwedDrop) (rest : List OwedDrop) → e.doing ≡ Some doing → e.owed ≡ one ∷ rest → next_action e ≡ act.DropRefs one.node.owner one.node.serial one.holder one.amount one.clock
next_owed e doing one rest is owed = rw (is, owed) refl

-- an even stamp is committed
pub even_is : (n : ℕ) → n % 2 ≡ 0 → is_odd n ≡ false
even_is n even = ap (λ m. m == 1) even

-- a driver at rest has no fixed stamp
pub no_stamp : (d : DriverPart) (stamp : ℕ) → d.doing ≡ None → fixed_stamp d ≡ Some stamp → ⊥
no_stamp d stamp none is = let both : Some stamp ≡ None = sym is ∙ ap (λ doing. elim doing [ None ↦ None | Some one ↦ stamp_of_phase one.phase ]) none in absurd (cc both)

-- an accepted place is one of the places
pub accepted_within : (places : List (Option Reason)) (place : ℕ) → is_accepted_place places place ≡ true → place < length places
accepted_within [] place is = absurd (cc is)
accepted_within (x ∷ rest) zero is = omega arith
accepted_within (x ∷ rest) (suc place) is = omega (arith, accepted_within rest place is)

-- a destruction is no AWAIT
pub destroy_waits : (command : Command) → IsDestroying command → is_await command ≡ false
destroy_waits (cmd.Destroy numbers) is = refl
destroy_waits (cmd.Reset limits) is = refl
destroy_waits cmd.Disconnect is = refl
destroy_waits command is = absurd is

-- no list of calls gets shorter
pub more_calls : (old new : List Call) → AtMostOneMore old new → length old ≤ length new
more_calls old new (inl same) = let k = ap length same in omega (arith, k)
more_calls old new (inr (c, same)) = let k = ap length same in let l = length-append old (c ∷ []) in omega (arith, k, l)
