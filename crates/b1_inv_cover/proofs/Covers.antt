-- Clocks cover what they should when a bus begins, and every step keeps it so.
use Rattle.std.specs.Prelude.{ℕ, Option}
use Rattle.b1_model.specs.declared.naming.Opening.{Opening}
use Rattle.b1_model.specs.declared.commands.Command.{Command}
use Rattle.b1_model.specs.Opening.{IsOpening}
use Rattle.b1_model.specs.MachineParts.{State}
use Rattle.b1_model.specs.MachineStep.{Step, opening_state}
use Rattle.b1_inv.specs.Sound.{IsSound}
use Rattle.b1_inv_record.specs.Right.{ClocksCover}
use Rattle.b1_inv_cover.proofs.Above.{above_begins, above_kept}
use Rattle.b1_inv_cover.proofs.Synced.{synced_begins, synced_kept}
use Rattle.b1_inv_cover.proofs.Came.{committed_begins, committed_kept}
use Rattle.b1_inv_cover.proofs.Listed.{listed_begins, listed_kept}
use Rattle.b1_inv_cover.proofs.StagedKeys.{staged_begins, staged_kept}
use Rattle.b1_inv_cover.proofs.Owed.{owed_begins, owed_kept}

pub covers_begin : (o : Opening) → IsOpening o → ClocksCover (opening_state o)
covers_begin o valid = record {
  committed = committed_begins o;
  listed = listed_begins o valid;
  synced = synced_begins o;
  above = above_begins o;
  staged = staged_begins o;
  owed = owed_begins o;
}

pub covers_kept : {o : Opening} {s : State} {p : ℕ} {c : Option Command} {t : State} → IsSound o s → ClocksCover s → Step o s p c t → ClocksCover t
covers_kept sound covers step = record {
  committed = committed_kept sound covers.synced step covers.committed;
  listed = listed_kept sound covers.committed step covers.listed;
  synced = synced_kept covers.synced step;
  above = above_kept covers.above step;
  staged = staged_kept sound covers.synced step covers.staged;
  owed = owed_kept sound step covers.owed;
}
