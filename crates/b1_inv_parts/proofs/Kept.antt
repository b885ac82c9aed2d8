-- Single parts of peers stay right in every step.
use Rattle.std.proofs.Common.{subst, ℕ, List, [], ◌∷◌, Option}
use Rattle.b1_model.specs.declared.naming.Opening.{Opening}
use Rattle.b1_model.specs.declared.commands.Command.{Command}
use Rattle.b1_model.specs.Opening.{IsOpening}
use Rattle.b1_model.specs.MachineParts.{State}
use Rattle.b1_model.specs.MachineStep.{Label, Leads, Reached, Step, opening_state}
use Rattle.b1_inv.specs.Sound.{IsSound}
use Rattle.b1_inv_record.specs.Right.{PartsRight}
use Rattle.b1_law.proofs.Reached.{opening_sound, step_sound}
use Rattle.b1_inv_parts.proofs.Serials.{serials_begin, serials_kept}
use Rattle.b1_inv_parts.proofs.Records.{records_begin, records_kept}
use Rattle.b1_inv_parts.proofs.ReleasesKept.{releases_begin, releases_kept}
use Rattle.b1_inv_parts.proofs.MarksKept.{marks_begin, marks_kept}
use Rattle.b1_inv_parts.proofs.PoolsKept.{pools_begin, pools_kept}
use Rattle.b1_inv_parts.proofs.KeysKept.{keys_begin, keys_kept}

pub parts_begin : (o : Opening) → IsOpening o → PartsRight (opening_state o)
parts_begin o opening = record {
  keys = keys_begin o;
  serials = serials_begin o;
  pool = pools_begin o opening;
  records = records_begin o;
  releases = releases_begin o;
  marks = marks_begin o;
}

pub parts_kept : (o : Opening) (s : State) (p : ℕ) (c : Option Command) (t : State) → IsSound o s → PartsRight s → Step o s p c t → PartsRight t
parts_kept o s p c t sound parts step = record {
  keys = keys_kept sound parts step;
  serials = serials_kept o s p c t parts.serials step;
  pool = pools_kept o s p c t sound parts.keys parts.pool step;
  records = records_kept o s p c t parts.records step;
  releases = releases_kept sound step parts.releases;
  marks = marks_kept o s p c t sound parts.keys parts.marks step;
}

-- so it is of every reached state
led_right : (o : Opening) (steps : List Label) (s t : State) → IsSound o s → PartsRight s → Leads o s steps t → PartsRight t
led_right o [] s t sound parts same = subst PartsRight same parts
led_right o (l ∷ rest) s t sound parts run = led_right o rest run.0 t (step_sound o s l.driver l.command run.0 sound run.1) (parts_kept o s l.driver l.command run.0 sound parts run.1) run.2

pub reached_right : (o : Opening) (s : State) → IsOpening o → Reached o s → PartsRight s
reached_right o s valid r = led_right o r.steps (opening_state o) s (opening_sound o valid) (parts_begin o valid) r.run
