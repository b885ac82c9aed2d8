-- Which records are dead once the entries for nobody are removed: those that were, and those whose notice was removed.
use Rattle.std.proofs.Common.{◌≡◌, ◌⊎◌, refl, sym, ap, subst, ◌∙◌, inl, inr, ℕ, ◌==◌, ◌&&◌, nat_lt, Bool, true, false, cond, List, [], ◌∷◌, drop, fold, length}
use Rattle.std.proofs.lemmas.Bool.{and_parts, ltb-true}
use native.Mathlib.Omega.{arith}
use Rattle.b1_model.specs.declared.naming.Key.{Key}
use Rattle.b1_model.specs.declared.naming.NodeRef.{NodeRef}
use Rattle.b1_model.specs.declared.entries.Entry.{Entry}
use Rattle.b1_model.specs.declared.entries.Entry.TheVariants.{Message, OwnNotice, ForeignNotice, ReleaseNotice}
use Rattle.b1_model.specs.MachineParts.{PeerPart, HandleRecord, same_ref, ref_before}
use Rattle.b1_model.specs.MachineTables.{is_needed, changed, less_flight, made_dead, unexpected, foreign}
use Rattle.b1_model.specs.MachineReceive.{discards, discarded, cleared}
use Rattle.b1_step.specs.Rights.{Has}
use Rattle.b1_step.specs.Ordered.{BehindNode, Rising}
use Rattle.b1_step.proofs.Orders.{same_ref_is, same_ref_itself}
use Rattle.b1_ledger.proofs.Sequences.{or_true}
use Rattle.b1_inv_refs.proofs.Arrivals.{all_removed}
use Rattle.b1_inv_refs.proofs.GivenUp.{one_record}

abbrev Handles : Type 0
Handles = List HandleRecord

before_itself : (node : NodeRef) → ref_before node node ≡ true → ⊥
before_itself node is = elim (or_true (nat_lt node.owner node.owner) ((node.owner == node.owner) && nat_lt node.serial node.serial) is) [
  | inl low ↦ absurd (let l = ltb-true node.owner node.owner low in omega (arith, l))
  | inr both ↦ let low = ltb-true node.serial node.serial (and_parts (node.owner == node.owner) (nat_lt node.serial node.serial) both).1 in absurd (omega (arith, low))
]

-- an old record of the same node that is as dead
abbrev pub WasDead : Handles → HandleRecord → Type 0
WasDead hs h = (g : HandleRecord) × Has hs g × (g.node ≡ h.node) × (g.dead ≡ true)

-- ---- where dead records come from

less_dead : (node : NodeRef) (hs : Handles) (h : HandleRecord) → Has (changed node less_flight hs) h → h.dead ≡ true → WasDead hs h
less_dead node [] h there dead = absurd there
less_dead node (g ∷ rest) h there dead = by (same_ref g.node node) (is_needed (less_flight g)) there (λ further. less_dead node rest h further dead)
  where
    by : (b c : Bool) → Has (cond b (cond c (less_flight g ∷ rest) rest) (g ∷ changed node less_flight rest)) h → (Has (changed node less_flight rest) h → WasDead rest h) → WasDead (g ∷ rest) h
    by true true (inl here) further = (g, inl refl, ap (λ z. z.node) (sym here), ap (λ z. z.dead) (sym here) ∙ dead)
    by true true (inr more) further = (h, inr more, refl, dead)
    by true false more further = (h, inr more, refl, dead)
    by false c (inl here) further = (g, inl refl, ap (λ z. z.node) (sym here), ap (λ z. z.dead) (sym here) ∙ dead)
    by false c (inr more) further = let k = further more in (k.0, inr k.1, k.2, k.3)

unexpected_dead : (nodes : List NodeRef) (hs : Handles) (h : HandleRecord) → Has (unexpected nodes hs) h → h.dead ≡ true → WasDead hs h
unexpected_dead [] hs h there dead = (h, there, refl, dead)
unexpected_dead (node ∷ rest) hs h there dead =
    let k = unexpected_dead rest (changed node less_flight hs) h there dead in
    let g = less_dead node hs k.0 k.1 k.3 in
    (g.0, g.1, g.2 ∙ k.2, g.3)

made_dead_from : (node : NodeRef) (hs : Handles) (h : HandleRecord) → Has (changed node made_dead hs) h → h.dead ≡ true → WasDead hs h ⊎ (h.node ≡ node)
made_dead_from node [] h there dead = absurd there
made_dead_from node (g ∷ rest) h there dead = by (same_ref g.node node) refl (is_needed (made_dead g)) there (λ further. made_dead_from node rest h further dead)
  where
    by : (b : Bool) → same_ref g.node node ≡ b → (c : Bool) → Has (cond b (cond c (made_dead g ∷ rest) rest) (g ∷ changed node made_dead rest)) h → (Has (changed node made_dead rest) h → WasDead rest h ⊎ (h.node ≡ node)) → WasDead (g ∷ rest) h ⊎ (h.node ≡ node)
    by true is true (inl here) further = inr (ap (λ z. z.node) here ∙ same_ref_is g.node node is)
    by true is true (inr more) further = inl (h, inr more, refl, dead)
    by true is false more further = inl (h, inr more, refl, dead)
    by false is c (inl here) further = inl (g, inl refl, ap (λ z. z.node) (sym here), ap (λ z. z.dead) (sym here) ∙ dead)
    by false is c (inr more) further = elim (further more) [ inl k ↦ inl (k.0, inr k.1, k.2, k.3) | inr same ↦ inr same ]

-- a removed notice of a node
abbrev pub NoticeOf : List (Key × Entry) → NodeRef → Type 0
NoticeOf es node = (k : Key) × (i : ℕ) × Has es (k, ForeignNotice node i)

one_dead : (e : Entry) (x : PeerPart) (h : HandleRecord) → Has (discarded x e).handles h → h.dead ≡ true → WasDead x.handles h ⊎ ((i : ℕ) × (e ≡ ForeignNotice h.node i))
one_dead (Message origin user index serial offset len nodes slots handles payload) x h there dead = inl (unexpected_dead (foreign x.me nodes) x.handles h there dead)
one_dead (OwnNotice serial index) x h there dead = inl (h, there, refl, dead)
one_dead (ForeignNotice node index) x h there dead = elim (made_dead_from node x.handles h there dead) [ inl was ↦ inl was | inr same ↦ inr (index, ap (λ z. ForeignNotice z index) (sym same)) ]
one_dead (ReleaseNotice serial) x h there dead = inl (h, there, refl, dead)

all_dead_from : (es : List (Key × Entry)) (x : PeerPart) (h : HandleRecord) → Has (fold (λ z g. discarded z g.1) x es).handles h → h.dead ≡ true → WasDead x.handles h ⊎ NoticeOf es h.node
all_dead_from [] x h there dead = inl (h, there, refl, dead)
all_dead_from ((k, e) ∷ es) x h there dead = elim (all_dead_from es (discarded x e) h there dead) [
  | inr notice ↦ inr (notice.0, notice.1, inr notice.2)
  | inl was ↦ elim (one_dead e x was.0 was.1 was.3) [
    | inl before ↦ inl (before.0, before.1, before.2 ∙ was.2, before.3)
    | inr notice ↦ inr (k, notice.0, inl (λ i. (k, (ap (λ n. ForeignNotice n notice.0) (sym was.2) ∙ sym notice.1) i)))
  ]
]

-- a record that is dead behind the removals was dead, or its notice was removed
pub cleared_dead : (x : PeerPart) (h : HandleRecord) → Has (cleared x).handles h → h.dead ≡ true → WasDead x.handles h ⊎ NoticeOf (discards x) h.node
cleared_dead x h there dead = all_dead_from (discards x) (record x { queue = drop (length (discards x)) x.queue }) h there dead

-- ---- what makes records dead

-- each record of a node is dead
abbrev pub AllDead : NodeRef → Handles → Type 0
AllDead node hs = (h : HandleRecord) → Has hs h → h.node ≡ node → h.dead ≡ true

module _ (node other : NodeRef) (f : HandleRecord → HandleRecord) (same_node : (h : HandleRecord) → (f h).node ≡ h.node) (stays : (h : HandleRecord) → h.dead ≡ true → (f h).dead ≡ true) where
  changed_stays : (hs : Handles) → AllDead node hs → AllDead node (changed other f hs)
  changed_stays [] all = all
  changed_stays (g ∷ rest) all = by (same_ref g.node other) (is_needed (f g)) (changed_stays rest (λ h there. all h (inr there)))
    where
      by : (b c : Bool) → AllDead node (changed other f rest) → AllDead node (cond b (cond c (f g ∷ rest) rest) (g ∷ changed other f rest))
      by true true further h (inl here) of = ap (λ z. z.dead) here ∙ stays g (all g (inl refl) (sym (same_node g) ∙ ap (λ z. z.node) (sym here) ∙ of))
      by true true further h (inr more) of = all h (inr more) of
      by true false further h more of = all h (inr more) of
      by false c further h (inl here) of = all h (inl here) of
      by false c further h (inr more) of = further h more of

unexpected_stays : (node : NodeRef) (nodes : List NodeRef) (hs : Handles) → AllDead node hs → AllDead node (unexpected nodes hs)
unexpected_stays node [] hs all = all
unexpected_stays node (other ∷ rest) hs all = unexpected_stays node rest (changed other less_flight hs) (changed_stays node other less_flight (λ h. refl) (λ h dead. dead) hs all)

discard_stays : (node : NodeRef) (e : Entry) (x : PeerPart) → AllDead node x.handles → AllDead node (discarded x e).handles
discard_stays node (Message origin user index serial offset len nodes slots handles payload) x all = unexpected_stays node (foreign x.me nodes) x.handles all
discard_stays node (OwnNotice serial index) x all = all
discard_stays node (ForeignNotice other index) x all = changed_stays node other made_dead (λ h. refl) (λ h dead. refl) x.handles all
discard_stays node (ReleaseNotice serial) x all = all

-- no record stands behind itself
behind_itself : (hs : Handles) (g : HandleRecord) → BehindNode g.node hs → Has hs g → ⊥
behind_itself [] g behind there = there
behind_itself (h ∷ hs) g behind (inl same) = let never : ref_before g.node g.node ≡ true = ap (λ z. ref_before g.node z.node) same ∙ behind.0 in before_itself g.node never
behind_itself (h ∷ hs) g behind (inr more) = behind_itself hs g behind.1 more

-- the one record of a node becomes dead
made_all_dead : (node : NodeRef) (hs : Handles) → Rising hs → AllDead node (changed node made_dead hs)
made_all_dead node [] up = λ h there of. absurd there
made_all_dead node (g ∷ rest) up = by (same_ref g.node node) refl (is_needed (made_dead g)) (made_all_dead node rest up.1)
  where
    no_other : g.node ≡ node → (h : HandleRecord) → Has rest h → h.node ≡ node → h.dead ≡ true
    no_other is h there of =
        let same : g ≡ h = one_record (g ∷ rest) g h up (inl refl) (inr there) (is ∙ sym of) in
        absurd (not_in rest g h up same there)
      where
        not_in : (rest : Handles) (g h : HandleRecord) → Rising (g ∷ rest) → g ≡ h → Has rest h → ⊥
        not_in rest g h up same there = behind_itself rest g up.0 (subst (Has rest) (sym same) there)

    by : (b : Bool) → same_ref g.node node ≡ b → (c : Bool) → AllDead node (changed node made_dead rest) → AllDead node (cond b (cond c (made_dead g ∷ rest) rest) (g ∷ changed node made_dead rest))
    by true is true further h (inl here) of = ap (λ z. z.dead) here
    by true is true further h (inr more) of = no_other (same_ref_is g.node node is) h more of
    by true is false further h more of = no_other (same_ref_is g.node node is) h more of
    by false is c further h (inl here) of = let both : true ≡ false = sym (ap (λ z. same_ref z node) (ap (λ z. z.node) (sym here) ∙ of) ∙ same_ref_itself node) ∙ is in absurd (cc both)
    by false is c further h (inr more) of = further h more of

rising_discarded : (k : Key) (e : Entry) (x : PeerPart) → Rising x.handles → Rising (discarded x e).handles
rising_discarded k e x up = (all_removed ((k, e) ∷ []) x).rising up

all_dead_after : (node : NodeRef) (es : List (Key × Entry)) (x : PeerPart) → Rising x.handles → AllDead node x.handles ⊎ NoticeOf es node → AllDead node (fold (λ z g. discarded z g.1) x es).handles
all_dead_after node [] x up (inl all) = all
all_dead_after node [] x up (inr notice) = absurd notice.2
all_dead_after node ((k, e) ∷ es) x up (inl all) = all_dead_after node es (discarded x e) (rising_discarded k e x up) (inl (discard_stays node e x all))
all_dead_after node ((k, e) ∷ es) x up (inr (l, i, inr further)) = all_dead_after node es (discarded x e) (rising_discarded k e x up) (inr (l, i, further))
all_dead_after node ((k, e) ∷ es) x up (inr (l, i, inl here)) =
    all_dead_after node es (discarded x e) (rising_discarded k e x up)
    (inl (subst (λ z. AllDead node (discarded x z).handles) (ap (λ z. z.1) here) (made_all_dead node x.handles up)))

-- a node's record is dead behind the removals where it was before, or where its notice was removed
pub dead_behind : (x : PeerPart) (node : NodeRef) → Rising x.handles → AllDead node x.handles ⊎ NoticeOf (discards x) node → AllDead node (cleared x).handles
dead_behind x node up dead = all_dead_after node (discards x) (record x { queue = drop (length (discards x)) x.queue }) up dead
