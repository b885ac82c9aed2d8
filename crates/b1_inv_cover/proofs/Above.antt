-- A fixed stamp is above all that its command collected.
use Rattle.std.proofs.Common.{◌≡◌, refl, sym, ap, ◌∙◌, inl, inr, ℕ, ◌+◌, ◌≤◌, Option, Some, None, Ok}
use native.Mathlib.Omega.{arith}
use Rattle.b1_model.specs.declared.commands.Command.{Command}
use Rattle.b1_model.specs.declared.naming.Opening.{Opening}
use Rattle.b1_model.specs.declared.events.Outcome.{Outcome}
use Rattle.b1_model.specs.declared.events.Outcome.TheVariants as out
use Rattle.b1_model.specs.declared.events.Phase.{Phase}
use Rattle.b1_model.specs.declared.events.Phase.TheVariants.{Stamping, Syncing, Committing, Dooming, SyncingNotices, CommittingOwn, CommittingNotices}
use Rattle.b1_model.specs.MachineParts.{State}
use Rattle.b1_model.specs.MachineEvents.{collected_of}
use Rattle.b1_model.specs.MachineStep.{Step, opening_state}
use Rattle.b1_inv.specs.Words.{stamp_of_phase}
use Rattle.b1_inv_record.specs.Clocks.{StampsAboveCollected}
use Rattle.b1_inv_tools.proofs.Leaves.{driver_cases}
use Rattle.b1_inv_tools.proofs.Openings.{opening_idle}
use Rattle.b1_inv_notices.proofs.Turns.{parts, going, going_doing, going_action, going_answer}
use Rattle.b1_inv_notices.proofs.StampTurns.{Gave}
use Rattle.b1_inv_notices.proofs.Stamped.{gave_is}
use Rattle.b1_inv_cover.proofs.Stamped.{Steps, stamped_step, was_open}

-- a stamp is above what a phase has collected
abbrev pub Above : ℕ → Phase → Type 0
Above stamp phase = collected_of phase + 2 ≤ stamp

above_steps : (command : Command) (phase : Phase) (outcome : Outcome) → ((stamp : ℕ) → stamp_of_phase phase ≡ Some stamp → Above stamp phase) → ((stamp : ℕ) → Gave outcome stamp → Above stamp phase) → Steps Above command phase outcome
above_steps command (Stamping sending) (out.Stamp stamp) h given = (λ is. given stamp refl, λ is. given stamp refl)
above_steps command (Syncing sending stamp place) out.Sync h given = (λ is. h stamp refl, λ is. h stamp refl)
above_steps command (Committing sending stamp place) (out.Commit found) h given = h stamp refl
above_steps command (Dooming d) (out.StampDestroy (Ok stamp)) h given = (λ is. given stamp refl, λ is. given stamp refl)
above_steps command (SyncingNotices d stamp at) out.Sync h given = (λ is. h stamp refl, λ is. h stamp refl)
above_steps command (CommittingOwn d stamp) out.CommitNotices h given = h stamp refl
above_steps command (CommittingNotices d stamp at) out.CommitNotices h given = h stamp refl
above_steps command phase outcome h given = tt

module _ {o : Opening} {s : State} {p : ℕ} {c : Option Command} {t : State} (above : StampsAboveCollected s) (step : Step o s p c t) where
  before : (stamp : ℕ) → stamp_of_phase (parts step).phase ≡ Some stamp → Above stamp (parts step).phase
  before stamp is = above.above p stamp step.driver (going_doing step) step.is_driver (was_open step stamp is) is

  given : (stamp : ℕ) → Gave (going_answer step) stamp → Above stamp (parts step).phase
  given stamp gave = let is = (gave_is o step.local.memory (going step) (going_doing step) (going_action step) step.peer stamp gave).1 in omega (arith, is)

  pub above_kept : StampsAboveCollected t
  above_kept = record {
    above = λ r stamp e doing is_driver is fixed. elim (driver_cases step r e is_driver) [
      | inl own ↦ stamped_step step Above before (above_steps (parts step).command (parts step).phase (going_answer step) before given) doing (ap (λ d. d.doing) (sym own.1) ∙ is) stamp fixed
      | inr other ↦ above.above r stamp e doing other.1 is fixed
    ];
  }

pub above_begins : (o : Opening) → StampsAboveCollected (opening_state o)
above_begins o = record {
  above = λ p stamp d doing is_driver is fixed. let none : Some doing ≡ None = sym is ∙ ap (λ e. e.doing) (opening_idle o p d is_driver) in absurd (cc none);
}
