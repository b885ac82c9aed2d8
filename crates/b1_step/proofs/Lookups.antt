-- Handle records in the order of their nodes: what stands under a node after a change of it, and of another.
use Rattle.std.proofs.Common.{◌≡◌, refl, sym, ap, ◌∙◌, subst, Bool, true, false, cond, List, [], ◌∷◌, Option, Some, None}
use Rattle.b1_model.specs.declared.naming.NodeRef.{NodeRef}
use Rattle.b1_model.specs.MachineParts.{HandleRecord, same_ref, ref_before, record_of, record_or_none, no_record}
use Rattle.b1_model.specs.MachineTables.{is_needed, changed, changed_or_made}
use Rattle.b1_step.specs.Ordered.{BehindNode, Rising}
use Rattle.b1_step.proofs.Orders.{same_ref_is, same_ref_itself, ref_trans, ref_apart, ref_after}

abbrev Handles : Type 0
Handles = List HandleRecord

pub behind_node_trans : (a b : NodeRef) (hs : Handles) → ref_before a b ≡ true → BehindNode b hs → BehindNode a hs
behind_node_trans a b [] h k = k
behind_node_trans a b (r ∷ rest) h k = (ref_trans a b r.node h k.0, behind_node_trans a b rest h k.1)

-- no record of a node stands behind it
pub none_behind : (node : NodeRef) (hs : Handles) → BehindNode node hs → record_of node hs ≡ None
none_behind node [] b = refl
none_behind node (h ∷ rest) b = rw (ref_apart node h.node b.0) (none_behind node rest b.1)

-- what a change leaves of a record that it finds
abbrev pub kept_by : (HandleRecord → HandleRecord) → Option HandleRecord → Option HandleRecord
kept_by f None = None
kept_by f (Some h) = cond (is_needed (f h)) (Some (f h)) None

module _ (node : NodeRef) (f : HandleRecord → HandleRecord) (keeps : (h : HandleRecord) → (f h).node ≡ h.node) where
  -- ---- the order stays

  behind_step : (a : NodeRef) (h : HandleRecord) (rest : Handles) (b : Bool) → ref_before a h.node ≡ true → BehindNode a rest → BehindNode a (cond b (f h ∷ rest) rest)
  behind_step a h rest true is k = (ap (ref_before a) (keeps h) ∙ is, k)
  behind_step a h rest false is k = k

  behind_changed : (a : NodeRef) (hs : Handles) → BehindNode a hs → BehindNode a (changed node f hs)
  behind_changed a [] b = b
  behind_changed a (h ∷ rest) b =
      elim (same_ref h.node node) as (λ c. BehindNode a (cond c (cond (is_needed (f h)) (f h ∷ rest) rest) (h ∷ changed node f rest))) [
        | true ↦ behind_step a h rest (is_needed (f h)) b.0 b.1
        | false ↦ (b.0, behind_changed a rest b.1)
      ]

  rising_step : (h : HandleRecord) (rest : Handles) (b : Bool) → BehindNode h.node rest → Rising rest → Rising (cond b (f h ∷ rest) rest)
  rising_step h rest true k up = (subst (λ n. BehindNode n rest) (sym (keeps h)) k, up)
  rising_step h rest false k up = up

  pub rising_changed : (hs : Handles) → Rising hs → Rising (changed node f hs)
  rising_changed [] up = up
  rising_changed (h ∷ rest) up =
      elim (same_ref h.node node) as (λ c. Rising (cond c (cond (is_needed (f h)) (f h ∷ rest) rest) (h ∷ changed node f rest))) [
        | true ↦ rising_step h rest (is_needed (f h)) up.0 up.1
        | false ↦ (behind_changed h.node rest up.0, rising_changed rest up.1)
      ]

  new_node : (f (no_record node)).node ≡ node
  new_node = keeps (no_record node)

  behind_made : (a : NodeRef) (hs : Handles) → ref_before a node ≡ true → BehindNode a hs → BehindNode a (changed_or_made node f hs)
  behind_made a [] is b = (ap (ref_before a) new_node ∙ is, b)
  behind_made a (h ∷ rest) is b =
      elim (same_ref h.node node) as (λ c. BehindNode a (cond c (f h ∷ rest) (cond (ref_before node h.node) (f (no_record node) ∷ h ∷ rest) (h ∷ changed_or_made node f rest)))) [
        | true ↦ (ap (ref_before a) (keeps h) ∙ b.0, b.1)
        | false ↦ elim (ref_before node h.node) as (λ c. BehindNode a (cond c (f (no_record node) ∷ h ∷ rest) (h ∷ changed_or_made node f rest))) [
          | true ↦ (ap (ref_before a) new_node ∙ is, b)
          | false ↦ (b.0, behind_made a rest is b.1)
        ]
      ]

  made_step : (h : HandleRecord) (rest : Handles) (b c : Bool) → same_ref h.node node ≡ b → ref_before node h.node ≡ c → Rising (h ∷ rest) → Rising (changed_or_made node f rest) → Rising (cond b (f h ∷ rest) (cond c (f (no_record node) ∷ h ∷ rest) (h ∷ changed_or_made node f rest)))
  made_step h rest true c same before up further = (subst (λ n. BehindNode n rest) (sym (keeps h)) up.0, up.1)
  made_step h rest false true same before up further = (subst (λ n. BehindNode n (h ∷ rest)) (sym new_node) (before, behind_node_trans node h.node rest before up.0), up)
  made_step h rest false false same before up further = (behind_made h.node rest (ref_after node h.node same before) up.0, further)

  pub rising_made : (hs : Handles) → Rising hs → Rising (changed_or_made node f hs)
  rising_made [] up = (up, up)
  rising_made (h ∷ rest) up = made_step h rest (same_ref h.node node) (ref_before node h.node) refl refl up (rising_made rest up.1)

  -- ---- under another node nothing changes

  other_step : (other : NodeRef) (h : HandleRecord) (rest : Handles) (b : Bool) → same_ref h.node other ≡ false → record_of other (cond b (f h ∷ rest) rest) ≡ record_of other (h ∷ rest)
  other_step other h rest true apart = rw (ap (λ n. same_ref n other) (keeps h), apart) refl
  other_step other h rest false apart = rw apart refl

  module _ (other : NodeRef) (apart : same_ref node other ≡ false) where
    other_at : (h : HandleRecord) (rest : Handles) (b : Bool) → same_ref h.node node ≡ b → record_of other (changed node f rest) ≡ record_of other rest → record_of other (cond b (cond (is_needed (f h)) (f h ∷ rest) rest) (h ∷ changed node f rest)) ≡ record_of other (h ∷ rest)
    other_at h rest true same further = other_step other h rest (is_needed (f h)) (ap (λ n. same_ref n other) (same_ref_is h.node node same) ∙ apart)
    other_at h rest false same further = ap (cond (same_ref h.node other) (Some h)) further

    pub other_changed : (hs : Handles) → record_of other (changed node f hs) ≡ record_of other hs
    other_changed [] = refl
    other_changed (h ∷ rest) = other_at h rest (same_ref h.node node) refl (other_changed rest)

    new_apart : same_ref (f (no_record node)).node other ≡ false
    new_apart = ap (λ n. same_ref n other) new_node ∙ apart

    made_at : (h : HandleRecord) (rest : Handles) (b c : Bool) → same_ref h.node node ≡ b → record_of other (changed_or_made node f rest) ≡ record_of other rest → record_of other (cond b (f h ∷ rest) (cond c (f (no_record node) ∷ h ∷ rest) (h ∷ changed_or_made node f rest))) ≡ record_of other (h ∷ rest)
    made_at h rest true c same further = other_step other h rest true (ap (λ n. same_ref n other) (same_ref_is h.node node same) ∙ apart)
    made_at h rest false true same further = rw new_apart refl
    made_at h rest false false same further = ap (cond (same_ref h.node other) (Some h)) further

    pub other_made : (hs : Handles) → record_of other (changed_or_made node f hs) ≡ record_of other hs
    other_made [] = rw new_apart refl
    other_made (h ∷ rest) = made_at h rest (same_ref h.node node) (ref_before node h.node) refl (other_made rest)

  -- ---- under the node stands the changed record

  own_step : (h : HandleRecord) (rest : Handles) (b : Bool) → same_ref h.node node ≡ true → BehindNode h.node rest → record_of node (cond b (f h ∷ rest) rest) ≡ cond b (Some (f h)) None
  own_step h rest true same k = rw (ap (λ n. same_ref n node) (keeps h), same) refl
  own_step h rest false same k = none_behind node rest (subst (λ n. BehindNode n rest) (same_ref_is h.node node same) k)

  own_at : (h : HandleRecord) (rest : Handles) (b : Bool) → same_ref h.node node ≡ b → BehindNode h.node rest → record_of node (changed node f rest) ≡ kept_by f (record_of node rest) → record_of node (cond b (cond (is_needed (f h)) (f h ∷ rest) rest) (h ∷ changed node f rest)) ≡ kept_by f (cond b (Some h) (record_of node rest))
  own_at h rest true same k further = own_step h rest (is_needed (f h)) same k
  own_at h rest false same k further = rw same further

  pub own_changed : (hs : Handles) → Rising hs → record_of node (changed node f hs) ≡ kept_by f (record_of node hs)
  own_changed [] up = refl
  own_changed (h ∷ rest) up = own_at h rest (same_ref h.node node) refl up.0 (own_changed rest up.1)

  own_made_at : (h : HandleRecord) (rest : Handles) (b c : Bool) → same_ref h.node node ≡ b → ref_before node h.node ≡ c → BehindNode h.node rest → record_of node (changed_or_made node f rest) ≡ Some (f (record_or_none node rest)) → record_of node (cond b (f h ∷ rest) (cond c (f (no_record node) ∷ h ∷ rest) (h ∷ changed_or_made node f rest))) ≡ Some (f (elim (cond b (Some h) (record_of node rest)) [ None ↦ no_record node | Some g ↦ g ]))
  own_made_at h rest true c same before k further = rw (ap (λ n. same_ref n node) (keeps h), same) refl
  own_made_at h rest false true same before k further = rw (ap (λ n. same_ref n node) new_node, same_ref_itself node, none_behind node rest (behind_node_trans node h.node rest before k)) refl
  own_made_at h rest false false same before k further = rw same further

  pub own_made : (hs : Handles) → Rising hs → record_of node (changed_or_made node f hs) ≡ Some (f (record_or_none node hs))
  own_made [] up = rw (ap (λ n. same_ref n node) new_node, same_ref_itself node) refl
  own_made (h ∷ rest) up = own_made_at h rest (same_ref h.node node) (ref_before node h.node) refl refl up.0 (own_made rest up.1)
