-- When a bus begins no holder came late, and each node is live.
use Rattle.std.proofs.Common.{◌≡◌, refl, ap, ◌∙◌, inl, inr, ℕ, zero, suc, true, false, cond, List, [], ◌∷◌, ◌++◌, replicate, Option, Some, None}
use Rattle.b1_model.specs.declared.naming.Opening.{Opening}
use Rattle.b1_model.specs.declared.parts.NodeState.TheVariants.{Live}
use Rattle.b1_model.specs.Names.{is_own}
use Rattle.b1_model.specs.MachineParts.{PeerPart, NodePart, is_dying}
use Rattle.b1_model.specs.MachineTables.{serial_of, with_made, with_node, counted}
use Rattle.b1_model.specs.MachineStep.{wire_made, opening_state}
use Rattle.b1_step.specs.Rights.{Has}
use Rattle.b1_inv.specs.Words.{IsPeer}
use Rattle.b1_inv_tools.proofs.Openings.{opening_each}

-- no holder came late
abbrev IsInTime : PeerPart → Type 0
IsInTime x = x.late ≡ []

made_in_time : (number : ℕ) (x : PeerPart) → IsInTime x → IsInTime (wire_made number x)
made_in_time number x late = elim (is_own number) as (λ b. IsInTime (cond b (record x { nodes = with_made x.peers number x.nodes }) x)) [ true ↦ late | false ↦ late ]

pub opening_late : (o : Opening) (q : ℕ) (x : PeerPart) → IsPeer (opening_state o) q x → x.late ≡ []
opening_late o = opening_each IsInTime made_in_time (λ node dest x late. late) (λ node x late. late) o (λ me spec. refl)

-- no node is dying
abbrev pub AreLiving : List NodePart → Type 0
AreLiving nodes = (n : NodePart) → Has nodes n → is_dying n.state ≡ false

with_one_more : (nodes : List NodePart) (m : NodePart) → is_dying m.state ≡ false → AreLiving nodes → AreLiving (nodes ++ m ∷ [])
with_one_more [] m fresh living n (inl is) = ap (λ z. is_dying z.state) is ∙ fresh
with_one_more [] m fresh living n (inr none) = absurd none
with_one_more (k ∷ rest) m fresh living n (inl is) = living n (inl is)
with_one_more (k ∷ rest) m fresh living n (inr there) = with_one_more rest m fresh (λ z in_it. living z (inr in_it)) n there

pub made_living : (peers number : ℕ) (nodes : List NodePart) → AreLiving nodes → AreLiving (with_made peers number nodes)
made_living peers number nodes living = by (serial_of number nodes)
  where
    by : (r : Option ℕ) → AreLiving (elim r [ None ↦ nodes ++ record { number = number; state = Live; counts = replicate peers 0; taken = false } ∷ [] | Some serial ↦ nodes ])
    by None = with_one_more nodes (record { number = number; state = Live; counts = replicate peers 0; taken = false }) refl living
    by (Some serial) = living

counted_living : (serial dest : ℕ) (nodes : List NodePart) → AreLiving nodes → AreLiving (with_node serial (counted dest) nodes)
counted_living serial dest [] living n there = absurd there
counted_living zero dest (k ∷ rest) living n (inl is) = ap (λ z. is_dying z.state) is ∙ living k (inl refl)
counted_living zero dest (k ∷ rest) living n (inr there) = living n (inr there)
counted_living (suc serial) dest (k ∷ rest) living n (inl is) = living n (inl is)
counted_living (suc serial) dest (k ∷ rest) living n (inr there) = counted_living serial dest rest (λ z in_it. living z (inr in_it)) n there

wire_living : (number : ℕ) (x : PeerPart) → AreLiving x.nodes → AreLiving (wire_made number x).nodes
wire_living number x living = elim (is_own number) as (λ b. AreLiving (cond b (record x { nodes = with_made x.peers number x.nodes }) x).nodes) [ true ↦ made_living x.peers number x.nodes living | false ↦ living ]

pub opening_living : (o : Opening) (q : ℕ) (x : PeerPart) → IsPeer (opening_state o) q x → (n : NodePart) → Has x.nodes n → is_dying n.state ≡ false
opening_living o = opening_each (λ x. AreLiving x.nodes) wire_living (λ node dest x living. counted_living node.serial dest x.nodes living) (λ node x living. living) o (λ me spec n there. absurd there)
