-- In every reached state a dead list has items only while its driver gives them up.
use Rattle.std.proofs.Common.{subst, List, [], ◌∷◌}
use Rattle.b1_model.specs.declared.naming.Opening.{Opening}
use Rattle.b1_model.specs.Opening.{IsOpening}
use Rattle.b1_model.specs.MachineParts.{State}
use Rattle.b1_model.specs.MachineStep.{Label, Leads, Reached, opening_state}
use Rattle.b1_inv.specs.Sound.{IsSound}
use Rattle.b1_law.proofs.Reached.{opening_sound, step_sound}
use Rattle.b1_play_end.specs.Course.{AllTold}
use Rattle.b1_play_end.proofs.Holds.{told_kept, opening_told}

led_told : (o : Opening) (steps : List Label) (s t : State) → IsSound o s → AllTold s → Leads o s steps t → AllTold t
led_told o [] s t sound told same = subst AllTold same told
led_told o (l ∷ rest) s t sound told run = led_told o rest run.0 t (step_sound o s l.driver l.command run.0 sound run.1) (told_kept sound told run.1) run.2

pub reached_told : (o : Opening) (s : State) → IsOpening o → Reached o s → AllTold s
reached_told o s opens r = led_told o r.steps (opening_state o) s (opening_sound o opens) (opening_told o) r.run
