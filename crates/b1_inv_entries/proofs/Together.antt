-- Where each entry of the record is: all facts together, over a step and when a bus begins.
use Rattle.std.specs.Prelude.{ℕ, Option}
use Rattle.b1_model.specs.declared.commands.Command.{Command}
use Rattle.b1_model.specs.declared.naming.Opening.{Opening}
use Rattle.b1_model.specs.MachineParts.{State}
use Rattle.b1_model.specs.MachineStep.{Step, opening_state}
use Rattle.b1_inv.specs.Sound.{IsSound}
use Rattle.b1_inv_record.specs.Right.{EntriesRight, IsRight}
use Rattle.b1_inv_entries.proofs.AboveTaken.{above_taken, above_begins}
use Rattle.b1_inv_entries.proofs.BelowStamp.{notices_below_stamp, below_stamp_begins}
use Rattle.b1_inv_entries.proofs.CalledKept.{committed_called, called_begins}
use Rattle.b1_inv_entries.proofs.GoneKept.{gone_kept, gone_begins}
use Rattle.b1_inv_entries.proofs.PendingKept.{pending_staged, pending_begins}
use Rattle.b1_inv_entries.proofs.Present.{queued_present, queued_begins}
use Rattle.b1_inv_entries.proofs.SomewhereKept.{entries_somewhere, somewhere_begins}

pub entries_kept : {o : Opening} {s : State} {p : ℕ} {c : Option Command} {t : State} → IsSound o s → IsRight o s → Step o s p c t → EntriesRight o t
entries_kept sound right step = record {
  pending = pending_staged sound right step;
  present = queued_present sound right step;
  called = committed_called sound right step;
  somewhere = entries_somewhere sound right step;
  gone = gone_kept sound right step;
  above = above_taken sound right step;
  noticed = notices_below_stamp sound right step;
}

pub entries_begin : (o : Opening) → EntriesRight o (opening_state o)
entries_begin o = record {
  pending = pending_begins o;
  present = queued_begins o;
  called = called_begins o;
  somewhere = somewhere_begins o;
  gone = gone_begins o;
  above = above_begins o;
  noticed = below_stamp_begins o;
}
