-- Lists, item by item.
use Rattle.std.proofs.Common.{◌≡◌, ℕ, zero, suc, ◌≤◌, List, [], ◌∷◌, ◌++◌, length, Option, Some, None, Ok, Err, refl, sym, ap, subst, ◌∙◌, arith}
use Rattle.std.proofs.lemmas.List.{append_assoc, length-append}
use Rattle.b1_report_lines.specs.declared.unread.Stop.{Stop}
use Rattle.b1_report_lines.specs.declared.unread.Stop.TheVariants.{Broken}
use Rattle.b1_report_lines.specs.declared.unread.Unread.{Unread}
use Rattle.b1_report_lines.specs.declared.unread.Unread.TheVariants.{Stopped, Memory}
use Rattle.b1_report_lines.specs.Reading.{◌>>=◌, Read, Fails, mapped, split_once, strip, ended, joined, optional, optional_part, or_else, only, dash, with_more, some_items, items, list_of, listed}
use Rattle.b1_report_lines.specs.Seen.{ended_why}
use Rattle.b1_report_lines.proofs.Splitting.{Parts, split_is}

module _ {A : Type 0} (read : List ℕ → Read A) where
  -- how many are allowed makes no difference, from the number of bytes on
  single : (r : Read A) → mapped (λ x. x ∷ []) r ≡ mapped with_more (mapped (λ x. (x, None)) r)
  single (Ok x) = refl
  single (Err d) = refl

  abbrev paired : (List ℕ → Read (List A)) → List ℕ → A → Read (A × List A)
  paired f rest a = mapped {A = List A} {B = A × List A} (λ y. (a, y)) (f rest)

  abbrev going_on : (List ℕ → Read (List A)) → Read (A × List ℕ) → Read (A × List A)
  going_on f r = r >>= λ (x : A × List ℕ). paired f x.1 x.0

  joined_by : (f : List ℕ → Read (List A)) (b : List ℕ) (parts : Parts) → split_once 44 b ≡ Some parts → joined 44 read f b ≡ (ended (read parts.0) >>= paired f parts.1)
  joined_by f b parts h = rw h (at (ended (read parts.0))) where
    at : (r : Read A) → going_on f (mapped (λ x. (x, parts.1)) r) ≡ (r >>= paired f parts.1)
    at (Ok a) = refl
    at (Err d) = refl

  joined_same : (f g : List ℕ → Read (List A)) (b : List ℕ) (parts : Parts) → split_once 44 b ≡ Some parts → f parts.1 ≡ g parts.1
      → optional 44 read f b ≡ optional 44 read g b
  joined_same f g b parts h e =
      let same : joined 44 read f b ≡ joined 44 read g b
      = joined_by f b parts h ∙ ap (λ (r : Read (List A)). ended (read parts.0) >>= λ (a : A). mapped {A = List A} {B = A × List A} (λ y. (a, y)) r) e ∙ sym (joined_by g b parts h) in
      ap (λ r. optional_part 44 read f b r) h ∙ ap (mapped {A = A × List A} {B = A × Option (List A)} (λ x. (x.0, Some x.1))) same ∙ sym (ap (λ r. optional_part 44 read g b r) h)

  shorter : (b : List ℕ) (parts : Parts) → split_once 44 b ≡ Some parts → suc (length parts.1) ≤ length b
  shorter b parts h = omega (arith, ap (λ (x : List ℕ). length x) (split_is 44 b parts h).0, length-append parts.0 (44 ∷ parts.1))

  pub enough : (n m : ℕ) (b : List ℕ) → length b ≤ n → length b ≤ m → some_items n read b ≡ some_items m read b
  enough zero zero b h k = refl
  enough zero (suc m) [] h k = single (read [])
  enough zero (suc m) (x ∷ xs) h k = absurd (omega (arith, h))
  enough (suc n) zero [] h k = sym (single (read []))
  enough (suc n) zero (x ∷ xs) h k = absurd (omega (arith, k))
  enough (suc n) (suc m) b h k = ap (mapped with_more) (at (λ parts u. enough n m parts.1 (omega (arith, shorter b parts u, h)) (omega (arith, shorter b parts u, k))) (split_once 44 b) refl) where
    at : ((parts : Parts) → split_once 44 b ≡ Some parts → some_items n read parts.1 ≡ some_items m read parts.1) → (r : Option Parts) → split_once 44 b ≡ r
        → optional 44 read (some_items n read) b ≡ optional 44 read (some_items m read) b
    at more None u = rw u refl
    at more (Some parts) u = joined_same (some_items n read) (some_items m read) b parts u (more parts u)

  cons_all : (x : A) (r : Read (List A)) → mapped with_more (mapped {A = A × List A} {B = A × Option (List A)} (λ p. (p.0, Some p.1)) (mapped (λ y. (x, y)) r)) ≡ mapped (λ ys. x ∷ ys) r
  cons_all x (Ok ys) = refl
  cons_all x (Err d) = refl

  -- an item that is ended, and the others
  some_step : (n : ℕ) (b : List ℕ) (parts : Parts) → split_once 44 b ≡ Some parts → some_items (suc n) read b ≡ mapped with_more (mapped {A = A × List A} {B = A × Option (List A)} (λ p. (p.0, Some p.1)) (ended (read parts.0) >>= paired (some_items n read) parts.1))
  some_step n b parts h = ap (mapped with_more) (ap (λ r. optional_part 44 read (some_items n read) b r) h ∙ ap (mapped {A = A × List A} {B = A × Option (List A)} (λ p. (p.0, Some p.1))) (joined_by (some_items n read) b parts h))

  pub items_step : (b : List ℕ) (parts : Parts) (x : A) → split_once 44 b ≡ Some parts → read parts.0 ≡ Ok x → items read b ≡ mapped (λ ys. x ∷ ys) (items read parts.1)
  items_step [] parts x h e = absurd cc
  items_step (c ∷ cs) parts x h e =
      some_step (length cs) (c ∷ cs) parts h
      ∙ ap (λ r. mapped with_more (mapped {A = A × List A} {B = A × Option (List A)} (λ p. (p.0, Some p.1)) (ended r >>= paired (some_items (length cs) read) parts.1))) e
      ∙ cons_all x (some_items (length cs) read parts.1)
      ∙ ap (mapped (λ ys. x ∷ ys)) (enough (length cs) (length parts.1) parts.1 (omega (arith, shorter (c ∷ cs) parts h)) (omega arith))

  pub items_broken : (b : List ℕ) (parts : Parts) (stop : Stop) → split_once 44 b ≡ Some parts → read parts.0 ≡ Err stop → items read b ≡ Err Broken
  items_broken [] parts stop h e = absurd cc
  items_broken (c ∷ cs) parts stop h e =
      some_step (length cs) (c ∷ cs) parts h
      ∙ ap (λ r. mapped with_more (mapped {A = A × List A} {B = A × Option (List A)} (λ p. (p.0, Some p.1)) (ended r >>= paired (some_items (length cs) read) parts.1))) e

  -- the last item
  pub items_last : (b : List ℕ) → split_once 44 b ≡ None → items read b ≡ mapped (λ x. x ∷ []) (read b)
  items_last [] h = refl
  items_last (c ∷ cs) h = ap (mapped with_more) (ap (λ r. optional_part 44 read (some_items (length cs) read) (c ∷ cs) r) h) ∙ sym (single (read (c ∷ cs)))

  -- ---- what a loop over the items has so far, and what is left

  abbrev pub with_front : List A → Read (List A) → Read (List A)
  with_front xs r = mapped (λ ys. xs ++ ys) r

  front_more : (xs : List A) (x : A) (r : Read (List A)) → with_front xs (mapped (λ ys. x ∷ ys) r) ≡ with_front (xs ++ x ∷ []) r
  front_more xs x (Ok ys) = ap (λ zs. Ok zs) (sym (append_assoc xs (x ∷ []) ys))
  front_more xs x (Err d) = refl

  pub loop_step : (xs : List A) (all left : List ℕ) (parts : Parts) (x : A) → with_front xs (items read left) ≡ items read all → split_once 44 left ≡ Some parts → read parts.0 ≡ Ok x
      → with_front (xs ++ x ∷ []) (items read parts.1) ≡ items read all
  loop_step xs all left parts x inv h e = sym (front_more xs x (items read parts.1)) ∙ sym (ap (with_front xs) (items_step left parts x h e)) ∙ inv

  pub none_before : (r : Read (List A)) → with_front [] r ≡ r
  none_before (Ok ys) = refl
  none_before (Err d) = refl

  list_some : (r : Read (List A)) → mapped list_of (mapped (λ x. Some x) r) ≡ r
  list_some (Ok xs) = refl
  list_some (Err d) = refl

  list_is : (all : List ℕ) → strip (45 ∷ []) all ≡ Err Broken → listed read all ≡ items read all
  list_is all h = ap (λ r. mapped list_of (or_else (r >>= only None) (mapped (λ x. Some x) (items read all)))) h ∙ list_some (items read all)

  front_fails : (xs : List A) (why : Unread) (r : Read (List A)) → Fails why r → Fails why (with_front xs r)
  front_fails xs Memory r h = tt
  front_fails xs (Stopped stop) r h = ap (with_front xs) h

  part_fails : (left : List ℕ) (parts : Parts) (why : Unread) → split_once 44 left ≡ Some parts → Fails why (read parts.0) → Fails (ended_why why) (items read left)
  part_fails left parts Memory h k = tt
  part_fails left parts (Stopped stop) h k = items_broken left parts stop h k

  last_fails : (left : List ℕ) (why : Unread) → split_once 44 left ≡ None → Fails why (read left) → Fails why (items read left)
  last_fails left Memory h k = tt
  last_fails left (Stopped stop) h k = items_last left h ∙ ap (mapped (λ x. x ∷ [])) k

  pub loop_fails : (xs : List A) (all left : List ℕ) (parts : Parts) (why : Unread) → strip (45 ∷ []) all ≡ Err Broken → with_front xs (items read left) ≡ items read all
      → split_once 44 left ≡ Some parts → Fails why (read parts.0) → Fails (ended_why why) (listed read all)
  loop_fails xs all left parts why dash inv h k =
      subst (λ (r : Read (List A)). Fails (ended_why why) r) (inv ∙ sym (list_is all dash)) (front_fails xs (ended_why why) (items read left) (part_fails left parts why h k))

  pub end_fails : (xs : List A) (all left : List ℕ) (why : Unread) → strip (45 ∷ []) all ≡ Err Broken → with_front xs (items read left) ≡ items read all
      → split_once 44 left ≡ None → Fails why (read left) → Fails why (listed read all)
  end_fails xs all left why dash inv h k =
      subst (λ (r : Read (List A)). Fails why r) (inv ∙ sym (list_is all dash)) (front_fails xs why (items read left) (last_fails left why h k))

  pub end_gives : (xs : List A) (all left : List ℕ) (x : A) → strip (45 ∷ []) all ≡ Err Broken → with_front xs (items read left) ≡ items read all
      → split_once 44 left ≡ None → read left ≡ Ok x → listed read all ≡ Ok (xs ++ x ∷ [])
  end_gives xs all left x dash inv h e = list_is all dash ∙ sym inv ∙ ap (with_front xs) (items_last left h ∙ ap (mapped (λ x. x ∷ [])) e)
