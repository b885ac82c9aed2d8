-- The parts of a peer before and after a step, and what a step keeps of a reached state.
use Rattle.std.proofs.Common.{sym, subst, inl, inr, ℕ, List, [], ◌∷◌, Option}
use Rattle.std.proofs.lemmas.Bool.{cases_eq}
use Rattle.b1_model.specs.declared.naming.Opening.{Opening}
use Rattle.b1_model.specs.declared.commands.Command.{Command}
use Rattle.b1_model.specs.MachineParts.{PeerPart, State}
use Rattle.b1_model.specs.MachineStep.{Label, Leads, Step}
use Rattle.b1_inv.specs.Words.{IsPeer}
use Rattle.b1_inv.specs.Sound.{IsSound}
use Rattle.b1_inv_record.specs.Right.{IsRight}
use Rattle.b1_inv_tools.proofs.Leaves.{new_peer, same_peer}
use Rattle.b1_law.proofs.Reached.{step_sound}
use Rattle.b1_legal.proofs.Reached.{step_right}

-- all that is known of a reached state
pub record Known (o : Opening) (s : State) : Type 0 where
  pub sound : IsSound o s
  pub right : IsRight o s

pub known_after : {o : Opening} {s : State} {p : ℕ} {c : Option Command} {t : State} → Known o s → Step o s p c t → Known o t
known_after {o} {s} {p} {c} {t} known step = record {
  sound = step_sound o s p c t known.sound step;
  right = step_right o s p c t known.sound known.right step;
}

-- a peer is there after a step
pub peer_after : {o : Opening} {s : State} {p : ℕ} {c : Option Command} {t : State} → (step : Step o s p c t) → (q : ℕ) (x : PeerPart) → IsPeer s q x → (y : PeerPart) × IsPeer t q y
peer_after {o} {s} {p} {c} {t} step q x is = elim (cases_eq q step.at) [
  | inl here ↦ (step.new_peer, subst (λ r. IsPeer t r step.new_peer) (sym here) (new_peer step))
  | inr apart ↦ (x, same_peer step q x apart is)
]

-- over a list of steps
pub sound_led : (o : Opening) (steps : List Label) (s t : State) → IsSound o s → Leads o s steps t → IsSound o t
sound_led o [] s t sound same = subst (IsSound o) same sound
sound_led o (l ∷ rest) s t sound run = sound_led o rest run.0 t (step_sound o s l.driver l.command run.0 sound run.1) run.2
