-- The first of the stamped calls that is about each epoch.
use Rattle.std.specs.Prelude.{◌≡◌, refl, ℕ, ◌+◌, ◌<◌, ◌≤◌, ◌⊎◌, Bool, true, false, ◌&&◌, ◌||◌, ◌==◌, if◌then◌else◌, List, [], ◌∷◌, length, get_or, Option, Some, None, is_some, unwrap_or}
use Rattle.std.specs.Option.{option_or}
use Rattle.std.specs.BTreeMap.{BTreeMap, get, is_at}
use Rattle.std.proofs.lemmas.Bool.{eqb-true}
use Rattle.std.proofs.lemmas.Option.{get_or_from_slice_get}
use Rattle.std.proofs.Common.{arith, inl, inr, sym, ap, subst, ◌∙◌}
use Rattle.b1_model.specs.declared.naming.Wire.{Wire}
use Rattle.b1_model.specs.declared.records.Record.{Record}
use Rattle.b1_model.specs.declared.records.Stamp.{Stamp}
use Rattle.b1_model.specs.Names.{Node}
use Rattle.b1_model.specs.Ledger.{Message, order}
use Rattle.b1_judge_facts.specs.Facts.{doomed}
use Rattle.b1_judge_facts.specs.Kept.{pair_cmp, kept_at, IsKept}
use Rattle.b1_judge_facts.specs.Epochs.{has_epoch, goes_to, is_about_by, is_about, is_kept_about, NonePasses, AreFirst, Notes}
use Rattle.b1_judge_facts.proofs.Keeping.{pair_eq}

pub note_new : (place : ℕ) (y : Node) (m n : BTreeMap (ℕ × ℕ) ℕ) → is_some (kept_at m y.owner y.epoch) ≡ false → ((k : ℕ × ℕ) → get pair_cmp n k ≡ (if is_at (pair_cmp (y.owner, y.epoch)) k then Some place else get pair_cmp m k)) → Notes place (Some y ∷ []) m n
note_new place y m n none h p epoch =
    h (p, epoch) ∙ ap (λ b. if b then Some place else kept_at m p epoch) (pair_eq y.owner y.epoch p epoch) ∙ go ((y.owner == p) && (y.epoch == epoch)) refl
  where
    absent : (w : Option ℕ) → is_some w ≡ false → Some place ≡ option_or w (Some place)
    absent None f = refl
    absent (Some d) f = cc f

    both : (a b : Bool) → (a && b) ≡ true → (a ≡ true) × (b ≡ true)
    both true true f = (refl, refl)
    both true false f = cc f
    both false b f = cc f

    or_none : (w : Option ℕ) → option_or w None ≡ w
    or_none None = refl
    or_none (Some x) = refl

    go : (b : Bool) → ((y.owner == p) && (y.epoch == epoch)) ≡ b → (if (y.owner == p) && (y.epoch == epoch) then Some place else kept_at m p epoch) ≡ option_or (kept_at m p epoch) (if has_epoch p epoch (Some y ∷ []) then Some place else None)
    go true f =
        let parts = both (y.owner == p) (y.epoch == epoch) f in
        let own : p ≡ y.owner = sym (eqb-true y.owner p parts.0) in
        let same : epoch ≡ y.epoch = sym (eqb-true y.epoch epoch parts.1) in
        rw f (absent (kept_at m p epoch) (ap (λ q. is_some (kept_at m q epoch)) own ∙ ap (λ e. is_some (kept_at m y.owner e)) same ∙ none))
    go false f = rw f (sym (or_none (kept_at m p epoch)))

-- the places so far, with those of one stamped call more
pub first_next : (to ends : Stamp → List (Option Node)) (stamps : List Stamp) (n : ℕ) (d : Stamp) (m l k : BTreeMap (ℕ × ℕ) ℕ) → AreFirst (is_about_by to ends) stamps n m → Notes n (to (get_or stamps n d)) m l → Notes n (ends (get_or stamps n d)) l k → AreFirst (is_about_by to ends) stamps (n + 1) k
first_next to ends stamps n d m l k first notes more p epoch i s few read =
    go (kept_at m p epoch) (has_epoch p epoch (to (get_or stamps n d))) (has_epoch p epoch (ends (get_or stamps n d))) refl refl refl
  where
    last : i ≡ n → get_or stamps n d ≡ s
    last e = ap (λ j. get_or stamps j d) (sym e) ∙ get_or_from_slice_get stamps i s d read

    below_or : (i n : ℕ) → i < n + 1 → (i < n) ⊎ (i ≡ n)
    below_or i n l = grind arith

    found : (o : Option ℕ) (a b : Bool) → kept_at m p epoch ≡ o → has_epoch p epoch (to (get_or stamps n d)) ≡ a → has_epoch p epoch (ends (get_or stamps n d)) ≡ b → kept_at k p epoch ≡ option_or (option_or o (if a then Some n else None)) (if b then Some n else None)
    found o a b e f g =
        more p epoch ∙ ap (λ w. option_or w (if has_epoch p epoch (ends (get_or stamps n d)) then Some n else None)) (notes p epoch)
        ∙ ap (λ w. option_or (option_or w (if has_epoch p epoch (to (get_or stamps n d)) then Some n else None)) (if has_epoch p epoch (ends (get_or stamps n d)) then Some n else None)) e
        ∙ ap (λ w. option_or (option_or o (if w then Some n else None)) (if has_epoch p epoch (ends (get_or stamps n d)) then Some n else None)) f
        ∙ ap (λ w. option_or (option_or o (if a then Some n else None)) (if w then Some n else None)) g

    known : (o : Option ℕ) (j : ℕ) → kept_at m p epoch ≡ o → kept_at k p epoch ≡ Some j → unwrap_or o n ≡ j → is_about_by to ends p epoch s ≡ false
    known o j e f g =
        let bound : unwrap_or (kept_at k p epoch) (n + 1) ≡ unwrap_or (kept_at m p epoch) n = ap (λ w. unwrap_or w (n + 1)) f ∙ sym g ∙ ap (λ w. unwrap_or w n) (sym e) in
        first p epoch i s (omega (arith, few, bound)) read

    go : (o : Option ℕ) (a b : Bool) → kept_at m p epoch ≡ o → has_epoch p epoch (to (get_or stamps n d)) ≡ a → has_epoch p epoch (ends (get_or stamps n d)) ≡ b → is_about_by to ends p epoch s ≡ false
    go (Some j) a b e f g = known (Some j) j e (found (Some j) a b e f g) refl
    go None true b e f g = known None n e (found None true b e f g) refl
    go None false true e f g = known None n e (found None false true e f g) refl
    go None false false e f g =
        let bound : unwrap_or (kept_at k p epoch) (n + 1) ≡ n + 1 = ap (λ w. unwrap_or w (n + 1)) (found None false false e f g) in
        elim (below_or i n (omega (arith, few, bound))) [
          | inl l ↦ (let same : unwrap_or (kept_at m p epoch) n ≡ n = ap (λ w. unwrap_or w n) e in first p epoch i s (omega (arith, l, same)) read)
          | inr l ↦ (ap (λ z. has_epoch p epoch (to z) || has_epoch p epoch (ends z)) (sym (last l)) ∙ ap (λ w. w || has_epoch p epoch (ends (get_or stamps n d))) f ∙ g)
        ]

-- the places behind all of them
pub first_end : (about : ℕ → ℕ → Stamp → Bool) (stamps : List Stamp) (n : ℕ) (m : BTreeMap (ℕ × ℕ) ℕ) → length stamps ≤ n → AreFirst about stamps n m → AreFirst about stamps (length stamps) m
first_end about stamps n m few first p epoch i s below read = first p epoch i s (further (kept_at m p epoch) below) read
  where
    further : (o : Option ℕ) → i < unwrap_or o (length stamps) → i < unwrap_or o n
    further None l = omega (arith, few, l)
    further (Some j) l = l

-- they are those of the record
pub first_all : (ws : List Wire) (r : Record) (stamps xs : List Stamp) (messages : BTreeMap (ℕ × ℕ) Message) (destroyed : BTreeMap (ℕ × ℕ) (List (Option Node))) (marks : BTreeMap (ℕ × ℕ) (ℕ × ℕ)) (places : BTreeMap (ℕ × ℕ) ℕ) → IsKept ws r stamps messages destroyed marks → xs ≡ stamps → AreFirst (is_kept_about messages destroyed) xs (length xs) places → AreFirst (is_about ws r) (order r) (length (order r)) places
first_all ws r stamps xs messages destroyed marks places kept same first p epoch i s few read =
    ap (λ m. has_epoch p epoch (goes_to m) || has_epoch p epoch (doomed ws r s.stamp s.origin)) (sym (kept.message_is s.stamp s.origin))
    ∙ ap (λ l. has_epoch p epoch (goes_to (kept_at messages s.stamp s.origin)) || has_epoch p epoch l) (sym (kept.doomed_is s.stamp s.origin))
    ∙ subst (λ ys. AreFirst (is_kept_about messages destroyed) ys (length ys) places) (same ∙ kept.order_is) first p epoch i s few read

-- what the place of an epoch tells, if it has one
pub before_place : (test : Stamp → Bool) (stamps : List Stamp) (o : Option ℕ) (n j : ℕ) → NonePasses test stamps (unwrap_or o n) → o ≡ Some j → NonePasses test stamps j
before_place test stamps o n j none e = subst (λ w. NonePasses test stamps (unwrap_or w n)) e none

pub no_place : (test : Stamp → Bool) (stamps : List Stamp) (o : Option ℕ) (n m : ℕ) → NonePasses test stamps (unwrap_or o n) → o ≡ None → m ≡ n → NonePasses test stamps m
no_place test stamps o n m none e f = subst (NonePasses test stamps) (sym f) (subst (λ w. NonePasses test stamps (unwrap_or w n)) e none)
