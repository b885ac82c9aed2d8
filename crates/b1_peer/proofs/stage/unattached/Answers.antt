use Rattle.std.proofs.Common.{◌≡◌, ◌∙◌, ap, refl, List, [], ◌∷◌, map, length, replicate}
use Rattle.b1_model.specs.declared.naming.NodeRef.{NodeRef}
use Rattle.b1_model.specs.declared.parts.Slot.{Slot}
use Rattle.b1_model.specs.declared.parts.Slot.TheVariants.{Unattached}
use Rattle.b1_peer.proofs.stage.unattached.Goals as goal

-- one for each
each : (nodes : List NodeRef) → replicate {A = Slot} (length nodes) Unattached ≡ map (λ node. Unattached) nodes
each [] = refl
each (node ∷ rest) = ap (λ ss. Unattached ∷ ss) (each rest)

pub returns : goal.returns
returns c = c.from_vec.ensures ∙ c.in_ok-from_elem.ensures.items_if_clones_equal (λ y is. is) ∙ each c.args.with.now
