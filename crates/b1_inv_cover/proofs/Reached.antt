-- Clocks cover what they should in every reached state.
use Rattle.std.proofs.Common.{subst, List, [], ◌∷◌}
use Rattle.b1_model.specs.declared.naming.Opening.{Opening}
use Rattle.b1_model.specs.Opening.{IsOpening}
use Rattle.b1_model.specs.MachineParts.{State}
use Rattle.b1_model.specs.MachineStep.{Label, Leads, Reached, opening_state}
use Rattle.b1_inv.specs.Sound.{IsSound}
use Rattle.b1_law.proofs.Reached.{opening_sound, step_sound}
use Rattle.b1_inv_record.specs.Right.{ClocksCover}
use Rattle.b1_inv_cover.proofs.Covers.{covers_begin, covers_kept}

led_covers : (o : Opening) (steps : List Label) (s t : State) → IsSound o s → ClocksCover s → Leads o s steps t → ClocksCover t
led_covers o [] s t sound covers same = subst ClocksCover same covers
led_covers o (l ∷ rest) s t sound covers run = led_covers o rest run.0 t (step_sound o s l.driver l.command run.0 sound run.1) (covers_kept sound covers run.1) run.2

pub reached_covers : (o : Opening) (s : State) → IsOpening o → Reached o s → ClocksCover s
reached_covers o s valid r = led_covers o r.steps (opening_state o) s (opening_sound o valid) (covers_begin o valid) r.run
