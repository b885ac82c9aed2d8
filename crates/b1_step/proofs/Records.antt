-- Handle records: what the changes that other drivers make leave of each.
use Rattle.std.proofs.Common.{◌≡◌, ◌⊎◌, refl, sym, ap, subst, ◌∙◌, inl, inr, Bool, true, false, cond, List, [], ◌∷◌}
use native.Mathlib.Omega.{arith}
use Rattle.b1_model.specs.declared.naming.NodeRef.{NodeRef}
use Rattle.b1_model.specs.MachineParts.{HandleRecord, same_ref, ref_before, no_record}
use Rattle.b1_model.specs.MachineTables.{is_needed, changed, changed_or_made, more_flight, less_flight, noticed, expected, unexpected}
use Rattle.b1_step.specs.Rights.{Has, SameHandle, Unheld, HandlesKept}

abbrev Handles : Type 0
Handles = List HandleRecord

pub same_refl : (h : HandleRecord) → SameHandle h h
same_refl h = record { node = refl; number = refl; held = refl; dead = refl }

pub same_trans : (a b c : HandleRecord) → SameHandle a b → SameHandle b c → SameHandle a c
same_trans a b c s t = record { node = t.node ∙ s.node; number = t.number ∙ s.number; held = t.held ∙ s.held; dead = t.dead ∙ s.dead }

pub kept_refl : (hs : Handles) → HandlesKept hs hs
kept_refl hs = record { stays = λ h i. inl (h, i, same_refl h); comes = λ h i. inl (h, i, same_refl h) }

module _ (old mid new : Handles) (k : HandlesKept old mid) (l : HandlesKept mid new) where
  trans_stays : (h : HandleRecord) → Has old h → ((g : HandleRecord) × Has new g × SameHandle h g) ⊎ (h.held ≡ 0)
  trans_stays h i =
      elim (k.stays h i) [
        | inl (g, j, s) ↦ elim (l.stays g j) [ inl (f, m, t) ↦ inl (f, m, same_trans h g f s t) | inr gone ↦ inr (sym s.held ∙ gone) ]
        | inr gone ↦ inr gone
      ]

  trans_comes : (f : HandleRecord) → Has new f → ((h : HandleRecord) × Has old h × SameHandle h f) ⊎ (Unheld f × (f.dead ≡ false))
  trans_comes f i =
      elim (l.comes f i) [
        | inl (g, j, t) ↦ elim (k.comes g j) [
          | inl (h, m, s) ↦ inl (h, m, same_trans h g f s t)
          | inr (u, alive) ↦ inr (record { number = t.number ∙ u.number; held = t.held ∙ u.held }, t.dead ∙ alive)
        ]
        | inr fresh ↦ inr fresh
      ]

  pub kept_trans : HandlesKept old new
  kept_trans = record { stays = trans_stays; comes = trans_comes }

module _ (hs gs : Handles) (k : HandlesKept hs gs) where
  -- in front of lists that are kept: a record that is the same, one that goes, one that is new
  pub kept_cons : (h g : HandleRecord) → SameHandle h g → HandlesKept (h ∷ hs) (g ∷ gs)
  kept_cons h g s = record {
    stays = λ x i. elim i [
      | inl e ↦ inl (g, inl refl, same_as h x g (sym e) s)
      | inr j ↦ elim (k.stays x j) [ inl (y, m, t) ↦ inl (y, inr m, t) | inr gone ↦ inr gone ]
    ];
    comes = λ y i. elim i [
      | inl e ↦ inl (h, inl refl, same_to h g y (sym e) s)
      | inr j ↦ elim (k.comes y j) [ inl (x, m, t) ↦ inl (x, inr m, t) | inr new ↦ inr new ]
    ];
  }
    where
      same_as : (h x g : HandleRecord) → h ≡ x → SameHandle h g → SameHandle x g
      same_as h x g e s = subst (λ z. SameHandle z g) e s

      same_to : (h g y : HandleRecord) → g ≡ y → SameHandle h g → SameHandle h y
      same_to h g y e s = subst (λ z. SameHandle h z) e s

  pub kept_gone : (h : HandleRecord) → h.held ≡ 0 → HandlesKept (h ∷ hs) gs
  kept_gone h gone = record {
    stays = λ x i. elim i [ inl e ↦ inr (ap (λ z. z.held) e ∙ gone) | inr j ↦ k.stays x j ];
    comes = λ y i. elim (k.comes y i) [ inl (x, m, t) ↦ inl (x, inr m, t) | inr new ↦ inr new ];
  }

  pub kept_new : (g : HandleRecord) → Unheld g → g.dead ≡ false → HandlesKept hs (g ∷ gs)
  kept_new g u alive = record {
    stays = λ x i. elim (k.stays x i) [ inl (y, m, t) ↦ inl (y, inr m, t) | inr gone ↦ inr gone ];
    comes = λ y i. elim i [ inl e ↦ inr (subst (λ z. Unheld z × (z.dead ≡ false)) (sym e) (u, alive)) | inr j ↦ k.comes y j ];
  }

-- a record that isn't needed isn't held
unneeded : (h : HandleRecord) → is_needed h ≡ false → h.held ≡ 0
unneeded h e = grind (arith, e)

module _ (node : NodeRef) (f : HandleRecord → HandleRecord) (same : (h : HandleRecord) → SameHandle h (f h)) where
  at_record : (h : HandleRecord) (rest : Handles) (b : Bool) → is_needed (f h) ≡ b → HandlesKept (h ∷ rest) (cond b (f h ∷ rest) rest)
  at_record h rest true is = kept_cons rest rest (kept_refl rest) h (f h) (same h)
  at_record h rest false is = kept_gone rest rest (kept_refl rest) h (sym (same h).held ∙ unneeded (f h) is)

  pub kept_changed : (hs : Handles) → HandlesKept hs (changed node f hs)
  kept_changed [] = kept_refl []
  kept_changed (h ∷ rest) =
      elim (same_ref h.node node) as (λ b. HandlesKept (h ∷ rest) (cond b (cond (is_needed (f h)) (f h ∷ rest) rest) (h ∷ changed node f rest))) [
        | true ↦ at_record h rest (is_needed (f h)) refl
        | false ↦ kept_cons rest (changed node f rest) (kept_changed rest) h h (same_refl h)
      ]

  pub kept_made : Unheld (f (no_record node)) → (f (no_record node)).dead ≡ false → (hs : Handles) → HandlesKept hs (changed_or_made node f hs)
  kept_made u alive [] = kept_new [] [] (kept_refl []) (f (no_record node)) u alive
  kept_made u alive (h ∷ rest) =
      elim (same_ref h.node node) as (λ b. HandlesKept (h ∷ rest) (cond b (f h ∷ rest) (cond (ref_before node h.node) (f (no_record node) ∷ h ∷ rest) (h ∷ changed_or_made node f rest)))) [
        | true ↦ kept_cons rest rest (kept_refl rest) h (f h) (same h)
        | false ↦ elim (ref_before node h.node) as (λ b. HandlesKept (h ∷ rest) (cond b (f (no_record node) ∷ h ∷ rest) (h ∷ changed_or_made node f rest))) [
          | true ↦ kept_new (h ∷ rest) (h ∷ rest) (kept_refl (h ∷ rest)) (f (no_record node)) u alive
          | false ↦ kept_cons rest (changed_or_made node f rest) (kept_made u alive rest) h h (same_refl h)
        ]
      ]

-- the changes that other drivers make
pub kept_expected : (nodes : List NodeRef) (hs : Handles) → HandlesKept hs (expected nodes hs)
kept_expected [] hs = kept_refl hs
kept_expected (node ∷ rest) hs =
    kept_trans hs (changed_or_made node more_flight hs) (expected rest (changed_or_made node more_flight hs))
    (kept_made node more_flight (λ h. record { node = refl; number = refl; held = refl; dead = refl }) (record { number = refl; held = refl }) refl hs)
    (kept_expected rest (changed_or_made node more_flight hs))

pub kept_unexpected : (nodes : List NodeRef) (hs : Handles) → HandlesKept hs (unexpected nodes hs)
kept_unexpected [] hs = kept_refl hs
kept_unexpected (node ∷ rest) hs =
    kept_trans hs (changed node less_flight hs) (unexpected rest (changed node less_flight hs))
    (kept_changed node less_flight (λ h. record { node = refl; number = refl; held = refl; dead = refl }) hs)
    (kept_unexpected rest (changed node less_flight hs))

pub kept_noticed : (node : NodeRef) (hs : Handles) → HandlesKept hs (changed node noticed hs)
kept_noticed node hs = kept_changed node noticed (λ h. record { node = refl; number = refl; held = refl; dead = refl }) hs
