-- The nodes and slots that are left of lists, by the first of them.
use Rattle.std.proofs.Common.{◌≡◌, ◌≢◌, ◌==◌, ℕ, ◌+◌, ◌-◌, ◌<◌, ◌≤◌, Bool, true, false, ◌&&◌, nat_lt, List, [], ◌∷◌, length, get_or, take, drop, refl, ap, sym, subst, ◌∙◌, arith}
use Rattle.std.specs.Prelude.{All, zip}
use Rattle.std.proofs.lemmas.Bool.{eqb-true, ne_eqb}
use Rattle.std.proofs.lemmas.Bool.Decides.{nat_tests}
use Rattle.std.proofs.lemmas.List.{take_rest}
use Rattle.std.proofs.lemmas.List.Elements.{All-weaker}
use Rattle.b1_model.specs.declared.naming.NodeRef.{NodeRef}
use Rattle.b1_model.specs.declared.parts.Slot.TheVariants as slot
use Rattle.b1_model.specs.MachineParts.{HandleRecord}
use Rattle.b1_model.specs.MachineTables.{changed, less_flight, foreign, unexpected}
use Rattle.b1_peer_carried.specs.Carry.{AreCarried, may_arrive}
use Rattle.b1_peer_carried.proofs.Records.{carried_less, carried_other}

-- a list is its first element and the others
pub peeled : {X : Type 0} → (xs : List X) (d : X) → 1 ≤ length xs → xs ≡ get_or xs 0 d ∷ take (length xs - 1) (drop 1 xs)
peeled [] d some = absurd (omega arith)
peeled (x ∷ xs) d some = ap (λ ys. x ∷ ys) (sym (take_rest (x ∷ xs) 1))

pub zip_peeled : {K X : Type 0} → (ks left : List K) (xs rest : List X) (k : K) (x : X) → ks ≡ k ∷ left → xs ≡ x ∷ rest → zip ks xs ≡ (k, x) ∷ zip left rest
zip_peeled ks left xs rest k x keys values = ap (λ ys. zip ys xs) keys ∙ ap (λ ys. zip (k ∷ left) ys) values

-- a foreign node leaves
module _ (me : ℕ) (nodes rest : List NodeRef) (node : NodeRef) (hs : List HandleRecord) (is : nodes ≡ node ∷ rest) (other : node.owner ≢ me) where
  pub unexpected_more : unexpected (foreign me nodes) hs ≡ unexpected (foreign me rest) (changed node less_flight hs)
  unexpected_more =
      ap (λ (ns : List NodeRef). unexpected (foreign me ns) hs) is ∙ rw (ne_eqb node.owner me other) refl

  pub carried_more : AreCarried (foreign me nodes) hs → AreCarried (foreign me rest) (changed node less_flight hs)
  carried_more carried =
      carried_less node less_flight (λ h. refl) (λ h. omega arith) (foreign me rest) hs
      (carried_other me node rest hs other (subst (λ (ns : List NodeRef). AreCarried (foreign me ns) hs) is carried))

  pub carried_now : AreCarried (foreign me nodes) hs → AreCarried (node ∷ foreign me rest) hs
  carried_now carried = carried_other me node rest hs other (subst (λ (ns : List NodeRef). AreCarried (foreign me ns) hs) is carried)

-- what the slots that may arrive say of their nodes
pub own_may : (me made : ℕ) (node : NodeRef) → may_arrive me made (node, slot.Own) ≡ true → node.owner ≡ me
own_may me made node may = eqb-true node.owner me (both_first (node.owner == me) (nat_lt node.serial made) may)
  where
    both_first : (a b : Bool) → (a && b) ≡ true → a ≡ true
    both_first true b both = refl
    both_first false b both = both

pub attached_may : (me made : ℕ) (node : NodeRef) → may_arrive me made (node, slot.Attached) ≡ true → node.owner ≢ me
attached_may me made node may = grind (arith, nat_tests)

pub held_weaker : (most : ℕ) (hs : List HandleRecord) → All (λ h. h.held < most) hs → All (λ h. h.held < most + 1) hs
held_weaker most hs all = All-weaker (λ h. h.held < most) (λ h. h.held < most + 1) (λ h low. omega arith) hs all
