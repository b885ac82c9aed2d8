-- Behind a stamp just those are visited again whom an attach made late since the set was empty.
use Rattle.std.proofs.Common.{◌≡◌, ◌⊎◌, sym, subst, inl, inr, ℕ, List, [], ◌∷◌, Option}
use Rattle.b1_model.specs.declared.naming.Opening.{Opening}
use Rattle.b1_model.specs.declared.commands.Command.{Command}
use Rattle.b1_model.specs.declared.events.Action.TheVariants as act
use Rattle.b1_model.specs.Opening.{IsOpening}
use Rattle.b1_model.specs.MachineParts.{PeerPart, State}
use Rattle.b1_model.specs.MachineStep.{Label, Leads, Reached, Step}
use Rattle.b1_step.specs.Rights.{Has}
use Rattle.b1_inv.specs.Words.{IsPeer}
use Rattle.b1_inv.specs.Sound.{IsSound}
use Rattle.b1_inv_record.specs.Holders.{to_visit}
use Rattle.b1_inv_notices.proofs.Sets.{in_or_not}
use Rattle.b1_inv_tools.proofs.Leaves.{new_peer}
use Rattle.b1_inv_cover.proofs.Stamped.{same_peer_at}
use Rattle.b1_inv_ends.proofs.Late.{late_by_attach}
use Rattle.b1_law.proofs.Reached.{reached_sound, step_sound}
use Rattle.b1_legal_runs.specs.Runs.{Attaches, IsAttach}
use Rattle.b1_legal_runs.proofs.After.{peer_after, sound_led}

-- who is late after a step was late before it, or the step attaches for it
late_before : {o : Opening} {s : State} {p : ℕ} {c : Option Command} {t : State} → IsSound o s → (step : Step o s p c t) → (q other : ℕ) (x y : PeerPart) → IsPeer s q x → IsPeer t q y → Has y.late other → Has x.late other ⊎ IsAttach q other step
late_before sound step q other x y is is_after late = elim (in_or_not other x.late) [
  | inl there ↦ inl there
  | inr none ↦
      let joined = (late_by_attach sound step).joins q other x y is is_after late none in
      inr (joined.0, x, is, joined.1, joined.2)
]

-- over a list of steps
led : (o : Opening) (steps : List Label) (s t : State) (q other : ℕ) (x y : PeerPart) → IsSound o s → IsPeer s q x → IsPeer t q y → Has y.late other → (run : Leads o s steps t) → Has x.late other ⊎ Attaches q other o s steps t run
led o [] s t q other x y sound is is_after late run = inl (subst (λ z. Has z.late other) (same_peer_at s q y x (subst (λ z. IsPeer z q y) (sym run) is_after) is) late)
led o (l ∷ rest) s t q other x y sound is is_after late run =
    let middle = peer_after run.1 q x is in
    elim (led o rest run.0 t q other middle.0 y (step_sound o s l.driver l.command run.0 sound run.1) middle.1 is_after late run.2) [
      | inl there ↦ elim (late_before sound run.1 q other x middle.0 is middle.1 there) [ inl before ↦ inl before | inr attach ↦ inr (inl attach) ]
      | inr later ↦ inr (inr later)
    ]

none_late : (x : PeerPart) (other : ℕ) → x.late ≡ [] → Has x.late other → ⊥
none_late x other empty has = subst (λ z. Has z other) empty has

pub visits : (o : Opening) (s u v w : State) (p r : ℕ) (c d : Option Command) (steps : List Label) (other : ℕ) → IsOpening o → Reached o s → (first : Step o s p c u) → (run : Leads o u steps v) → (stamp : Step o v r d w)
    → (first.action ≡ act.BeginDestroy) ⊎ (first.action ≡ act.StampDestroy) → stamp.at ≡ first.at → stamp.action ≡ act.StampDestroy → Has (to_visit stamp.new_driver) other → Attaches first.at other o u steps v run
visits o s u v w p r c d steps other valid reached first run stamp which here is_stamp visited =
    let sound = reached_sound o s valid reached in
    let behind = step_sound o s p c u sound first in
    let empty = (late_by_attach sound first).emptied first.new_peer (new_peer first) which in
    let late = subst (λ z. Has z other) ((late_by_attach (sound_led o steps u v behind run) stamp).again is_stamp) visited in
    elim (led o steps u v first.at other first.new_peer stamp.peer behind (new_peer first) (subst (λ q. IsPeer v q stamp.peer) here stamp.is_peer) late run) [
      | inl was ↦ absurd (none_late first.new_peer other empty was)
      | inr attached ↦ attached
    ]
