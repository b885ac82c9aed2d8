-- A destroy notice comes once between two flushes: once it came, it is queued or its node is destroyed.
use Rattle.std.proofs.Common.{◌≡◌, ◌⊎◌, refl, sym, ap, subst, ◌∙◌, inl, inr, ℕ, ◌<◌, Bool, true, false, List, [], ◌∷◌, length, Option}
use Rattle.std.proofs.lemmas.Bool.{cases_eq}
use Rattle.b1_model.specs.declared.naming.NodeRef.{NodeRef}
use Rattle.b1_model.specs.declared.naming.Opening.{Opening}
use Rattle.b1_model.specs.declared.commands.Command.{Command}
use Rattle.b1_model.specs.declared.events.Action.TheVariants as act
use Rattle.b1_model.specs.Opening.{IsOpening}
use Rattle.b1_model.specs.MachineParts.{PeerPart, State, is_destroyed, node_at}
use Rattle.b1_model.specs.MachineStep.{Label, Leads, Reached, Step}
use Rattle.b1_inv.specs.Words.{IsPeer, IsMade}
use Rattle.b1_inv_tools.proofs.Leaves.{same_peer}
use Rattle.b1_inv_tools.proofs.Grows.{made_stays}
use Rattle.b1_inv_cover.proofs.Stamped.{same_peer_at}
use Rattle.b1_inv_ends.specs.Notices.{has_notice}
use Rattle.b1_inv_ends.proofs.Once.{one_notice}
use Rattle.b1_law.proofs.Reached.{reached_sound}
use Rattle.b1_legal.proofs.Reached.{reached_right}
use Rattle.b1_legal_runs.specs.Runs.{NoticeComes, NoFlush}
use Rattle.b1_legal_runs.proofs.After.{Known, known_after, peer_after}

-- a notice of the node is queued at peer q, or the node is destroyed
abbrev IsTold : ℕ → NodeRef → State → Type 0
IsTold q node s =
    ((x : PeerPart) × IsPeer s q x × (has_notice q node.owner node.serial x ≡ true))
    ⊎ ((w : PeerPart) × IsPeer s node.owner w × (is_destroyed (node_at w node.serial).state ≡ true))

module _ {o : Opening} {s : State} {p : ℕ} {c : Option Command} {t : State} (known : Known o s) (step : Step o s p c t) (q : ℕ) (node : NodeRef) (made : IsMade s node) (stays : step.at ≡ q → step.action ≡ act.Flush → ⊥) where
  -- where the notice has left the queue, and the step isn't a flush, the node is destroyed
  left : (x y : PeerPart) → IsPeer s q x → has_notice q node.owner node.serial x ≡ true → IsPeer t q y → has_notice q node.owner node.serial y ≡ false → IsTold q node t
  left x y is queued is_after gone =
      let after = made_stays step node made in
      elim ((one_notice known.sound known.right step).leaves q node.owner node.serial x y after.0 is is_after after.1 after.2 queued gone) [
        | inl flush ↦ elim (cases_eq q step.at) [
          | inl here ↦ absurd (stays (sym here) flush)
          | inr apart ↦
              let same = same_peer_at t q x y (same_peer step q x apart is) is_after in
              let both : true ≡ false = sym queued ∙ ap (has_notice q node.owner node.serial) same ∙ gone in
              absurd (cc both)
        ]
        | inr destroyed ↦ inr (after.0, after.1, destroyed)
      ]

  queued_after : (x y : PeerPart) → IsPeer s q x → has_notice q node.owner node.serial x ≡ true → IsPeer t q y → (b : Bool) → has_notice q node.owner node.serial y ≡ b → IsTold q node t
  queued_after x y is queued is_after true there = inl (y, is_after, there)
  queued_after x y is queued is_after false gone = left x y is queued is_after gone

  told_after : IsTold q node s → IsTold q node t
  told_after (inl (x, is, queued)) =
      let after = peer_after step q x is in
      queued_after x after.0 is queued after.1 (has_notice q node.owner node.serial after.0) refl
  told_after (inr (w, is, destroyed)) =
      let after = peer_after step node.owner w is in
      let within = subst (λ z. node.serial < length z.nodes) (same_peer_at s node.owner made.0 w made.1 is) made.2 in
      inr (after.0, after.1, (one_notice known.sound known.right step).stays node.owner node.serial w after.0 is after.1 within destroyed)

-- over a list of steps none of which flushes the queue
led : (o : Opening) (steps : List Label) (s t : State) (q : ℕ) (node : NodeRef) → Known o s → IsMade s node → IsTold q node s → (run : Leads o s steps t) → NoFlush q o s steps t run → Known o t × IsMade t node × IsTold q node t
led o [] s t q node known made told run stays = subst (λ z. Known o z × IsMade z node × IsTold q node z) run (known, made, told)
led o (l ∷ rest) s t q node known made told run stays =
    led o rest run.0 t q node (known_after known run.1) (made_stays run.1 node made) (told_after known run.1 q node made stays.0 told) run.2 stays.1

-- and then none comes
none_comes : {o : Opening} {s : State} {p : ℕ} {c : Option Command} {t : State} → Known o s → Step o s p c t → (q : ℕ) (node : NodeRef) → IsMade s node → IsTold q node s → NoticeComes q node s t → ⊥
none_comes {o} {s} {p} {c} {t} known step q node made (inl (z, here, queued)) (x, y, is, is_after, none, comes) =
    let both : true ≡ false = sym queued ∙ ap (has_notice q node.owner node.serial) (same_peer_at s q z x here is) ∙ none in
    cc both
none_comes {o} {s} {p} {c} {t} known step q node made (inr (w, here, destroyed)) (x, y, is, is_after, none, comes) =
    let within = subst (λ z. node.serial < length z.nodes) (same_peer_at s node.owner made.0 w made.1 here) made.2 in
    let both : true ≡ false = sym destroyed ∙ (one_notice known.sound known.right step).comes q node.owner node.serial x y w is is_after here within none comes in
    cc both

pub once : (o : Opening) (s u v w : State) (p r : ℕ) (c d : Option Command) (steps : List Label) (q : ℕ) (node : NodeRef) → IsOpening o → Reached o s → IsMade s node → Step o s p c u → NoticeComes q node s u → (run : Leads o u steps v) → NoFlush q o u steps v run → Step o v r d w → NoticeComes q node v w → ⊥
once o s u v w p r c d steps q node valid reached made first came run stays second comes =
    let known : Known o s = record { sound = reached_sound o s valid reached; right = reached_right o s valid reached } in
    let then = led o steps u v q node (known_after known first) (made_stays first node made) (inl (came.1, came.3, came.5)) run stays in
    none_comes then.0 second q node then.1 then.2 comes
