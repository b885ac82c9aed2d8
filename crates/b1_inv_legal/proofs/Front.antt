-- What a peer that takes its front has there: an entry of its queue that is for it, with the old nodes and the old numbers of records.
use Rattle.std.proofs.Common.{◌≡◌, refl, sym, ap, subst, ◌∙◌, inl, inr, ℕ, Bool, true, false, cond, not, ◌&&◌, List, [], ◌∷◌, drop, take_while, fold, length}
use Rattle.std.proofs.lemmas.List.Sums.{take_while-cons}
use Rattle.b1_model.specs.declared.naming.Key.{Key}
use Rattle.b1_model.specs.declared.naming.NodeRef.{NodeRef}
use Rattle.b1_model.specs.declared.entries.Entry.{Entry}
use Rattle.b1_model.specs.declared.entries.Entry.TheVariants.{Message, OwnNotice, ForeignNotice, ReleaseNotice}
use Rattle.b1_model.specs.MachineParts.{PeerPart, HandleRecord, State, is_staged, same_ref}
use Rattle.b1_model.specs.MachineTables.{is_needed, changed, less_flight, made_dead, unexpected, foreign}
use Rattle.b1_model.specs.MachineReceive.{is_for_nobody, discards, discarded, cleared}
use Rattle.b1_step.specs.Rights.{Has}
use Rattle.b1_step.proofs.Lists.{has_right}
use Rattle.b1_inv.specs.Numbers.{AreNumbered}
use Rattle.b1_inv_tools.proofs.Received.{at_cleared}
use Rattle.b1_inv_refs.proofs.Arrivals.{queue_parts}
use Rattle.b1_inv_refs.proofs.Tables.{at_discards}
use Rattle.b1_inv_refs.proofs.Flying.{numbers_closed}
use Rattle.b1_inv_legal.specs.Fronts.{CanTake}

-- ---- the front

-- the first one behind those that pass doesn't pass
first_fails : {X : Type 0} (test : X → Bool) (xs : List X) (f : X) (rest : List X) → drop (length (take_while test xs)) xs ≡ f ∷ rest → test f ≡ false
first_fails test [] f rest is = absurd (cc is)
first_fails {X} test (y ∷ ys) f rest is =
    at (first_fails test ys f rest) (test y) refl (subst (λ l. drop (length l) (y ∷ ys) ≡ f ∷ rest) (take_while-cons test y ys) is)
  where
    at : (drop (length (take_while test ys)) ys ≡ f ∷ rest → test f ≡ false) → (b : Bool) → test y ≡ b → drop (length (cond b (y ∷ take_while test ys) [])) (y ∷ ys) ≡ f ∷ rest → test f ≡ false
    at further true passes same = further same
    at further false fails same = let first : y ≡ f = cc same in ap test (sym first) ∙ fails

both_fail : (a b : Bool) → a ≡ false → (not a && b) ≡ false → b ≡ false
both_fail true b is fails = absurd (cc is)
both_fail false b is fails = fails

module _ {s : State} {p : ℕ} {x : PeerPart} {f : Key × Entry} {rest : List (Key × Entry)} (can : CanTake s p x f rest) where
  -- the front stands in the queue
  pub front_queued : Has x.queue f
  front_queued = subst (λ l. Has l f) (sym (queue_parts x)) (has_right (discards x) (cleared x).queue f (subst (λ l. Has l f) (sym can.front) (inl refl)))

  -- the front is not for nobody
  pub front_for_it : is_for_nobody x f.1 ≡ false
  front_for_it = both_fail (is_staged f) (is_for_nobody x f.1) can.committed (first_fails (λ g. not (is_staged g) && is_for_nobody x g.1) x.queue f rest (sym (at_cleared x).0 ∙ can.front))

-- ---- records behind the removals

-- each record is an old one of its node, with its number
abbrev pub NumbersFrom : List HandleRecord → List HandleRecord → Type 0
NumbersFrom old new = (h : HandleRecord) → Has new h → (g : HandleRecord) × Has old g × (g.node ≡ h.node) × (g.number ≡ h.number)

from_same : (hs : List HandleRecord) → NumbersFrom hs hs
from_same hs h there = (h, there, refl, refl)

from_both : (old mid new : List HandleRecord) → NumbersFrom old mid → NumbersFrom mid new → NumbersFrom old new
from_both old mid new one two h there = let k = two h there in let g = one k.0 k.1 in (g.0, g.1, g.2 ∙ k.2, g.3 ∙ k.3)

module _ (node : NodeRef) (f : HandleRecord → HandleRecord) (same_node : (h : HandleRecord) → h.node ≡ (f h).node) (same_number : (h : HandleRecord) → h.number ≡ (f h).number) where
  changed_from : (hs : List HandleRecord) → NumbersFrom hs (changed node f hs)
  changed_from [] h there = absurd there
  changed_from (g ∷ rest) h there = by (same_ref g.node node) (is_needed (f g)) there (changed_from rest h)
    where
      by : (b c : Bool) → Has (cond b (cond c (f g ∷ rest) rest) (g ∷ changed node f rest)) h → (Has (changed node f rest) h → (k : HandleRecord) × Has rest k × (k.node ≡ h.node) × (k.number ≡ h.number)) → (k : HandleRecord) × Has (g ∷ rest) k × (k.node ≡ h.node) × (k.number ≡ h.number)
      by true true (inl here) further = (g, inl refl, same_node g ∙ ap (λ z. z.node) (sym here), same_number g ∙ ap (λ z. z.number) (sym here))
      by true true (inr more) further = (h, inr more, refl, refl)
      by true false more further = (h, inr more, refl, refl)
      by false c (inl here) further = (g, inl refl, ap (λ z. z.node) (sym here), ap (λ z. z.number) (sym here))
      by false c (inr more) further = let k = further more in (k.0, inr k.1, k.2, k.3)

less_from : (nodes : List NodeRef) (hs : List HandleRecord) → NumbersFrom hs (unexpected nodes hs)
less_from [] hs = from_same hs
less_from (node ∷ rest) hs = from_both hs (changed node less_flight hs) (unexpected rest (changed node less_flight hs)) (changed_from node less_flight (λ h. refl) (λ h. refl) hs) (less_from rest (changed node less_flight hs))

discard_from : (e : Entry) (x : PeerPart) → NumbersFrom x.handles (discarded x e).handles
discard_from (Message origin user index serial offset len nodes slots handles payload) x = less_from (foreign x.me nodes) x.handles
discard_from (OwnNotice serial index) x = from_same x.handles
discard_from (ForeignNotice node index) x = changed_from node made_dead (λ h. refl) (λ h. refl) x.handles
discard_from (ReleaseNotice serial) x = from_same x.handles

discards_from : (es : List (Key × Entry)) (x : PeerPart) → NumbersFrom x.handles (fold (λ z g. discarded z g.1) x es).handles
discards_from [] x = from_same x.handles
discards_from (g ∷ es) x = from_both x.handles (discarded x g.1).handles (fold (λ z k. discarded z k.1) (discarded x g.1) es).handles (discard_from g.1 x) (discards_from es (discarded x g.1))

-- each record behind the removals is an old one, with its number
pub cleared_from : (x : PeerPart) → NumbersFrom x.handles (cleared x).handles
cleared_from x = discards_from (discards x) (record x { queue = drop (length (discards x)) x.queue })

-- the records behind the removals are numbered as before
pub cleared_numbered : (x : PeerPart) → AreNumbered x.given x.handles → AreNumbered (cleared x).given (cleared x).handles
cleared_numbered x all = at_discards AreNumbered (λ m. Unit {0}) numbers_closed (discards x) (record x { queue = drop (length (discards x)) x.queue }) all
