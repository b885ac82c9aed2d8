-- What an attempt that can't take its front leaves: nothing but what it removed before.
use Rattle.std.proofs.Common.{zero, suc, ◌≡◌, ◌⊎◌, refl, sym, ap, ◌∙◌, arith, inl, inr, subst, ℕ, ◌<◌, Bool, true, false, List, [], ◌∷◌, length, drop, fold, Err}
use Rattle.b1_model.specs.declared.naming.Key.{Key}
use Rattle.b1_model.specs.declared.answers.Front.{Front}
use Rattle.b1_model.specs.declared.entries.Entry.{Entry}
use Rattle.b1_model.specs.MachineParts.{PeerPart, is_staged}
use Rattle.b1_model.specs.MachineReceive.{discards, discarded, cleared, front_by, front_taken, received, received_part, has_dead}
use Rattle.b1_play_end.specs.Course.{starts_staged, IsBlocked}

-- the part stays where the front isn't taken
front_stays : (y : PeerPart) (queue : List (Key × Entry)) (f : Front) → (front_taken y queue).0 ≡ Err f → (front_taken y queue).1 ≡ y
front_stays y [] f is = refl
front_stays y (g ∷ rest) f is = by_staged (is_staged g) is
  where
    by_staged : (b : Bool) → (front_by b y g rest).0 ≡ Err f → (front_by b y g rest).1 ≡ y
    by_staged true is = refl
    by_staged false is = absurd (cc is)

-- then nothing can be taken: the queue is empty, or its front is staged
front_blocked : (y : PeerPart) (queue : List (Key × Entry)) (f : Front) → (front_taken y queue).0 ≡ Err f → (queue ≡ []) ⊎ (starts_staged queue ≡ true)
front_blocked y [] f is = inl refl
front_blocked y (g ∷ rest) f is = by_staged (is_staged g) refl is
  where
    by_staged : (b : Bool) → b ≡ is_staged g → (front_by b y g rest).0 ≡ Err f → (g ∷ rest ≡ []) ⊎ (starts_staged (g ∷ rest) ≡ true)
    by_staged true same is = inr (sym same)
    by_staged false same is = absurd (cc is)

-- where nothing is removed the part is the same
cleared_by : (x : PeerPart) (es : List (Key × Entry)) → es ≡ [] → fold (λ y f. discarded y f.1) (record x { queue = drop (length es) x.queue }) es ≡ x
cleared_by x es is = ap (λ l. fold (λ y f. discarded y f.1) (record x { queue = drop (length l) x.queue }) l) is

none_removed : (es : List (Key × Entry)) → length es ≡ 0 → es ≡ []
none_removed [] is = refl
none_removed (e ∷ rest) is = absurd (omega (arith, is))

has_none : (x : PeerPart) → x.dead ≡ [] → has_dead x ≡ false
has_none x none = ap {B = Bool} (λ d. elim d [ [] ↦ false | item ∷ rest ↦ true ]) none

module _ (x : PeerPart) (f : Front) (waits : (received x).front ≡ Err f) where
  -- an attempt that removes nothing changes nothing, and nothing can be taken
  pub unremoved_same : length (discards x) ≡ 0 → received_part x ≡ x
  unremoved_same is = front_stays (cleared x) (cleared x).queue f waits ∙ cleared_by x (discards x) (none_removed (discards x) is)

  pub unremoved_blocked : length (discards x) ≡ 0 → IsBlocked x
  unremoved_blocked is = subst IsBlocked (cleared_by x (discards x) (none_removed (discards x) is)) (front_blocked (cleared x) (cleared x).queue f waits)

  -- references to be given up come from what was removed
  pub removed_some : x.dead ≡ [] → has_dead (received_part x) ≡ true → 0 < length (discards x)
  removed_some none dead = by_length (length (discards x)) refl
    where
      by_length : (n : ℕ) → n ≡ length (discards x) → 0 < n
      by_length zero same = absurd (cc (dead, ap has_dead (unremoved_same (sym same)), has_none x none))
      by_length (suc n) same = omega arith
