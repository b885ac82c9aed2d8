-- A fact of each peer's part that every event keeps is kept by steps.
use Rattle.std.proofs.Common.{sym, ◌∙◌, inl, inr, subst, ℕ, Option}
use Rattle.b1_model.specs.declared.naming.Opening.{Opening}
use Rattle.b1_model.specs.declared.commands.Command.{Command}
use Rattle.b1_model.specs.MachineParts.{PeerPart, State}
use Rattle.b1_model.specs.MachineEvents.{happens}
use Rattle.b1_model.specs.MachineStep.{Step}
use Rattle.b1_inv.specs.Words.{IsPeer}
use Rattle.b1_inv_tools.proofs.Leaves.{Did, step_did, peer_cases}

module _ {o : Opening} {s : State} {p : ℕ} {command : Option Command} {t : State} (step : Step o s p command t) (P : PeerPart → Type 0) where
  abbrev k : Did o step.local.memory step.driver command step.peer step.action step.at step.new_driver step.new_peer
  k = step_did step

  pub kept_by_step : ((q : ℕ) (x : PeerPart) → IsPeer s q x → P x) → (P step.peer → P (happens o step.local.memory k.e k.doing step.action step.peer).1) → (q : ℕ) (y : PeerPart) → IsPeer t q y → P y
  kept_by_step before keeps q y is = elim (peer_cases step q y is) [
    | inl here ↦ subst P (sym (here.1 ∙ k.peer)) (keeps (before step.at step.peer step.is_peer))
    | inr elsewhere ↦ before q y elsewhere.1
  ]
