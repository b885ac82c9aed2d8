-- The order of keys is total, and equal only at itself.
use Rattle.std.proofs.Common.{◌≡◌, ◌≢◌, true, false, refl, ap, sym, ◌∙◌, inl, inr, ◌⊎◌}
use Rattle.std.specs.Cmp.{IsTotalOrder, nat_cmp_total}
use Rattle.std.specs.Ordering.{is_eq, is_lt, nat_cmp, ordering_then, ordering_reverse}
use Rattle.std.specs.declared.cmp.Ordering.{Ordering}
use Rattle.std.specs.declared.cmp.Ordering.TheVariants.{Less, Equal, Greater}
use Rattle.std.proofs.lemmas.Cmp.{on_total, then_total, tied_itself}
use Rattle.std.proofs.lemmas.Bool.{false≢true}
use Rattle.std.proofs.lemmas.Map.Lookups.{exact_unsigned}
use Rattle.b1_model.specs.Keys.{compare_keys}
use Rattle.b1_model.specs.declared.naming.Key.{Key}
use Rattle.b1_queue.specs.Queue.{is_before}

pub keys_total : IsTotalOrder compare_keys
keys_total =
    then_total
    (then_total (on_total (λ k. k.stamp) nat_cmp_total) (on_total (λ k. k.origin) nat_cmp_total))
    (on_total (λ k. k.index) nat_cmp_total)

tied_parts : (p q : Ordering) → ordering_then p q ≡ Equal → (p ≡ Equal) × (q ≡ Equal)
tied_parts Less q h = cc
tied_parts Equal q h = (refl, h)
tied_parts Greater q h = cc

pub same_key : (a b : Key) → compare_keys a b ≡ Equal → a ≡ b
same_key a b h =
    let outer = tied_parts _ (nat_cmp a.index b.index) h in
    let inner = tied_parts (nat_cmp a.stamp b.stamp) (nat_cmp a.origin b.origin) outer.0 in
    λ i. record {
      stamp = exact_unsigned a.stamp b.stamp inner.0 i;
      origin = exact_unsigned a.origin b.origin inner.1 i;
      index = exact_unsigned a.index b.index outer.1 i;
    }

less_is : (o : Ordering) → is_lt o ≡ true → o ≡ Less
less_is Less h = refl
less_is Equal h = cc
less_is Greater h = cc

pub less_from_before : (a b : Key) → is_before a b ≡ true → compare_keys a b ≡ Less
less_from_before a b h = less_is (compare_keys a b) h

pub before_from_less : (a b : Key) → compare_keys a b ≡ Less → is_before a b ≡ true
before_from_less a b h = ap is_lt h

either_less : (o p : Ordering) → p ≡ ordering_reverse o → (o ≡ Equal → ⊥) → (o ≡ Less) ⊎ (p ≡ Less)
either_less Less p h n = inl refl
either_less Equal p h n = absurd (n refl)
either_less Greater p h n = inr h

-- of two keys one stands before the other
pub before_cases : (a b : Key) → a ≢ b → (compare_keys a b ≡ Less) ⊎ (compare_keys b a ≡ Less)
before_cases a b ne = either_less (compare_keys a b) (compare_keys b a) (keys_total.antisymm b a) (λ h. ne (same_key a b h))

-- a later key does not stand before
pub not_before : (a b : Key) → compare_keys a b ≡ Less → is_before b a ≡ false
not_before a b h = ap is_lt (keys_total.antisymm b a ∙ ap ordering_reverse h)

pub not_before_itself : (a : Key) → is_before a a ≡ false
not_before_itself a = ap is_lt (tied_itself keys_total a)

equal_is : (o : Ordering) → is_eq o ≡ true → o ≡ Equal
equal_is Less h = cc
equal_is Equal h = refl
equal_is Greater h = cc

-- a test of two keys
pub same_from_test : (a b : Key) → is_eq (compare_keys a b) ≡ true → a ≡ b
same_from_test a b h = same_key a b (equal_is (compare_keys a b) h)

pub other_from_test : (a b : Key) → is_eq (compare_keys a b) ≡ false → a ≢ b
other_from_test a b h same =
    let tied : compare_keys a b ≡ Equal = ap (compare_keys a) (sym same) ∙ tied_itself keys_total a in
    false≢true (sym h ∙ ap is_eq tied)
