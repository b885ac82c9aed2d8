-- Names and holders against the record: all that is said of each, kept by a step, and so where a bus begins.
use Rattle.std.proofs.Common.{ℕ, Option}
use Rattle.b1_model.specs.declared.commands.Command.{Command}
use Rattle.b1_model.specs.declared.naming.Opening.{Opening}
use Rattle.b1_model.specs.Opening.{IsOpening}
use Rattle.b1_model.specs.MachineParts.{State}
use Rattle.b1_model.specs.MachineStep.{Step, opening_state}
use Rattle.b1_inv.specs.Sound.{IsSound}
use Rattle.b1_inv_record.specs.Right.{NamesRight, HoldersRight, IsRight}
use Rattle.b1_inv_names.proofs.Begun.{begun_begins, begun_kept}
use Rattle.b1_inv_names.proofs.Epochs.{epochs_begin, epochs_kept}
use Rattle.b1_inv_names.proofs.Made.{numbers_kept}
use Rattle.b1_inv_names.proofs.MadeFirst.{numbers_begin}
use Rattle.b1_inv_names.proofs.ShutKept.{shut_begins, shut_kept}
use Rattle.b1_inv_tables.proofs.Begins.{lines_begin}
use Rattle.b1_inv_tables.proofs.LinesKept.{lines_kept}
use Rattle.b1_inv_holders.proofs.Carries.{carried_kept}
use Rattle.b1_inv_holders.proofs.CoverBegins.{covered_begins}
use Rattle.b1_inv_holders.proofs.Held.{held_kept}
use Rattle.b1_inv_holders.proofs.Void.{void_begins, void_kept}
use Rattle.b1_inv_taken.proofs.Old.{old_begins, old_kept}
use Rattle.b1_inv_taken.proofs.OwnSlots.{own_slots_begin, own_slots_kept}
use Rattle.b1_inv_seen.proofs.SeenBegins.{travels_begin, collected_begins}
use Rattle.b1_inv_seen.proofs.SeenKept.{travels_kept}
use Rattle.b1_inv_seen.proofs.CollectedKept.{collected_kept}

-- names, where a bus begins
pub names_begin : (o : Opening) → IsOpening o → NamesRight o (opening_state o)
names_begin o valid = record {
  made = numbers_begin o;
  lines = lines_begin o valid;
  begun = begun_begins o;
  old = old_begins o;
  shut = shut_begins o;
  epochs = epochs_begin o;
}

-- holders, where a bus begins
pub holders_begin : (o : Opening) → IsOpening o → HoldersRight o (opening_state o)
holders_begin o valid = record {
  covered = covered_begins o valid;
  travels = travels_begin o;
  collected = collected_begins o;
  void = void_begins o;
  present = own_slots_begin o;
}

module _ {o : Opening} {s : State} {p : ℕ} {c : Option Command} {t : State} (sound : IsSound o s) (right : IsRight o s) (step : Step o s p c t) where
  -- names, behind a step
  pub names_kept : NamesRight o t
  names_kept = record {
    made = numbers_kept sound right.names.made step;
    lines = lines_kept sound right step;
    begun = begun_kept sound right.names.begun step;
    old = old_kept sound right step;
    shut = shut_kept sound right step;
    epochs = epochs_kept sound right.names.epochs step;
  }

  -- holders, behind a step
  pub holders_kept : HoldersRight o t
  holders_kept = record {
    covered = record { held = held_kept sound right.holders.covered step; carried = carried_kept sound right.holders.covered step };
    travels = travels_kept sound right step;
    collected = collected_kept sound right step;
    void = void_kept sound right.clocks.above right.holders.void step;
    present = own_slots_kept sound right step;
  }
