-- All that is said of destructions and their notices, over a step and at the opening.
use Rattle.std.proofs.Common.{ℕ, Option}
use Rattle.b1_model.specs.declared.commands.Command.{Command}
use Rattle.b1_model.specs.declared.naming.Opening.{Opening}
use Rattle.b1_model.specs.MachineParts.{State}
use Rattle.b1_model.specs.MachineStep.{Step, opening_state}
use Rattle.b1_inv.specs.Sound.{IsSound}
use Rattle.b1_inv_record.specs.Right.{DestructionsRight, IsRight}
use Rattle.b1_inv_destroys.proofs.Before.{keyed_before, keyed_after}
use Rattle.b1_inv_destroys.proofs.Foreign.{foreign_begins, foreign_kept}
use Rattle.b1_inv_destroys.proofs.Own.{own_begins, own_kept}
use Rattle.b1_inv_names.proofs.Dooming.{doom_begins, doom_kept}
use Rattle.b1_inv_doomed.proofs.DoomedKept.{dooms_begin, dooms_kept}
use Rattle.b1_inv_doomed.proofs.DyingKept.{dying_begins, dying_kept}
use Rattle.b1_inv_doomed.proofs.Flushing.{flushes_begin, flushes_kept}
use Rattle.b1_inv_doomed.proofs.KeysKept.{keys_begin, keys_kept}
use Rattle.b1_inv_doomed.proofs.OwnRight.{own_begins as notices_begin, own_right}
use Rattle.b1_inv_taken.proofs.Receipts.{taken_begins, taken_kept}

pub destructions_begin : (o : Opening) → DestructionsRight o (opening_state o)
destructions_begin o = record {
  numbers = own_begins o;
  all = doom_begins o;
  flushes = flushes_begin o;
  doomed = dooms_begin o;
  keys = keys_begin o;
  dying = dying_begins o;
  own = notices_begin o;
  foreign = foreign_begins o;
  taken = taken_begins o;
}

pub destructions_kept : {o : Opening} {s : State} {p : ℕ} {c : Option Command} {t : State} → IsSound o s → IsRight o s → Step o s p c t → DestructionsRight o t
destructions_kept {o} {s} sound right step = record {
  numbers = own_kept right.destructions.numbers step;
  all = doom_kept sound right.destructions.all step;
  flushes = flushes_kept right.destructions.flushes step;
  doomed = dooms_kept sound right.destructions.doomed step;
  keys = keys_kept sound right step;
  dying = dying_kept sound right step;
  own = own_right sound right step;
  foreign = foreign_kept sound right.destructions.dying step right.destructions.foreign (keyed_before o s right) right.destructions.numbers (keyed_after sound right step);
  taken = taken_kept sound right step;
}
