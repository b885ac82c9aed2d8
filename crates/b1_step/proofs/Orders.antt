-- The order of keys and of nodes; queues and records that stay in order, and what stands there under a key or a node.
use Rattle.std.proofs.Common.{◌≡◌, ◌≢◌, refl, sym, ap, ◌∙◌, inl, inr, subst, ◌==◌, Bool, true, false, cond, ◌&&◌, not, List, [], ◌∷◌, find, Some, None, ◌||◌, nat_lt}
use Rattle.std.specs.Cmp.{IsTotalOrder, nat_cmp_total}
use Rattle.std.specs.Ordering.{is_lt, nat_cmp, ordering_then, ordering_reverse}
use Rattle.std.specs.declared.cmp.Ordering.{Ordering}
use Rattle.std.specs.declared.cmp.Ordering.TheVariants.{Less, Equal, Greater}
use Rattle.std.proofs.lemmas.Bool.{eqb-true, eq-eqb, and_parts}
use Rattle.std.proofs.lemmas.Cmp.{on_total, then_total, tied_itself}
use Rattle.std.proofs.lemmas.Map.Lookups.{exact_unsigned}
use native.Mathlib.Omega.{arith}
use Rattle.b1_model.specs.Keys.{compare_keys}
use Rattle.b1_model.specs.Ledger.{is_below}
use Rattle.b1_model.specs.declared.naming.Key.{Key}
use Rattle.b1_model.specs.declared.naming.NodeRef.{NodeRef}
use Rattle.b1_model.specs.declared.entries.Entry.{Entry}
use Rattle.b1_model.specs.MachineParts.{key_before, same_ref, ref_before}
use Rattle.b1_model.specs.MachineTables.{put, without}
use Rattle.b1_step.specs.Rights.{Has}
use Rattle.b1_step.specs.Ordered.{Behind, Ascending, NewKey}

-- ---- keys

keys_total : IsTotalOrder compare_keys
keys_total =
    then_total
    (then_total (on_total (λ k. k.stamp) nat_cmp_total) (on_total (λ k. k.origin) nat_cmp_total))
    (on_total (λ k. k.index) nat_cmp_total)

both_equal : (p q : Ordering) → ordering_then p q ≡ Equal → (p ≡ Equal) × (q ≡ Equal)
both_equal Less q h = cc
both_equal Equal q h = (refl, h)
both_equal Greater q h = cc

same_key : (a b : Key) → compare_keys a b ≡ Equal → a ≡ b
same_key a b h =
    let outer = both_equal _ (nat_cmp a.index b.index) h in
    let inner = both_equal (nat_cmp a.stamp b.stamp) (nat_cmp a.origin b.origin) outer.0 in
    λ i. record { stamp = exact_unsigned a.stamp b.stamp inner.0 i; origin = exact_unsigned a.origin b.origin inner.1 i; index = exact_unsigned a.index b.index outer.1 i }

less_is : (o : Ordering) → is_lt o ≡ true → o ≡ Less
less_is Less h = refl
less_is Equal h = cc
less_is Greater h = cc

-- the order of keys is transitive, no key is before itself, and of two keys one is before the other
pub key_trans : (a b c : Key) → key_before a b ≡ true → key_before b c ≡ true → key_before a c ≡ true
key_trans a b c h k = ap is_lt (keys_total.trans a b c (less_is (compare_keys a b) h) (less_is (compare_keys b c) k))

pub key_not_itself : (a : Key) → key_before a a ≡ false
key_not_itself a = ap is_lt (tied_itself keys_total a)

not_before : (o p : Ordering) → p ≡ ordering_reverse o → (o ≡ Equal → ⊥) → is_lt o ≡ false → is_lt p ≡ true
not_before Less p h n is = absurd (cc is)
not_before Equal p h n is = absurd (n refl)
not_before Greater p h n is = ap is_lt h

pub key_after : (a b : Key) → a ≢ b → key_before a b ≡ false → key_before b a ≡ true
key_after a b apart is = not_before (compare_keys a b) (compare_keys b a) (keys_total.antisymm b a) (λ h. apart (same_key a b h)) is

-- by stamp, then by origin, then by index, as tests
lexical : (b c d e f g : Bool) → is_lt (ordering_then (ordering_then (cond b Less (cond c Equal Greater)) (cond d Less (cond e Equal Greater))) (cond f Less (cond g Equal Greater))) ≡ ((b || (c && d)) || ((c && e) && f))
lexical true c d e f g = refl
lexical false false d e f g = refl
lexical false true true e f g = refl
lexical false true false false f g = refl
lexical false true false true true g = refl
lexical false true false true false true = refl
lexical false true false true false false = refl

-- the order of a queue's keys is the order of the record's keys
pub key_before_is_below : (a b : Key) → key_before a b ≡ is_below a b
key_before_is_below a b = lexical (nat_lt a.stamp b.stamp) (a.stamp == b.stamp) (nat_lt a.origin b.origin) (a.origin == b.origin) (nat_lt a.index b.index) (a.index == b.index)

-- ---- queues

pub behind_trans : (a b : Key) (queue : List (Key × Entry)) → key_before a b ≡ true → Behind b queue → Behind a queue
behind_trans a b [] h k = k
behind_trans a b (f ∷ rest) h k = (key_trans a b f.0 h k.0, behind_trans a b rest h k.1)

behind_put : (a k : Key) (e : Entry) (queue : List (Key × Entry)) → key_before a k ≡ true → Behind a queue → Behind a (put k e queue)
behind_put a k e [] h b = (h, b)
behind_put a k e (f ∷ rest) h b = elim (key_before k f.0) as (λ c. Behind a (cond c ((k, e) ∷ f ∷ rest) (f ∷ put k e rest))) [ true ↦ (h, b) | false ↦ (b.0, behind_put a k e rest h b.1) ]

-- a queue stays in order where an entry with a new key comes in
pub put_ascending : (k : Key) (e : Entry) (queue : List (Key × Entry)) → NewKey k queue → Ascending queue → Ascending (put k e queue)
put_ascending k e [] new up = (new, up)
put_ascending k e (f ∷ rest) new up = placed (put_ascending k e rest new.1 up.1) (key_before k f.0) refl
  where
    placed : Ascending (put k e rest) → (b : Bool) → key_before k f.0 ≡ b → Ascending (cond b ((k, e) ∷ f ∷ rest) (f ∷ put k e rest))
    placed further true is = ((is, behind_trans k f.0 rest is up.0), up)
    placed further false is = (behind_put f.0 k e rest (key_after k f.0 (λ same. new.0 (sym same)) is) up.0, further)

behind_without : (test : Key × Entry → Bool) (a : Key) (queue : List (Key × Entry)) → Behind a queue → Behind a (without test queue)
behind_without test a [] b = b
behind_without test a (f ∷ rest) b = elim (not (test f)) as (λ c. Behind a (cond c (f ∷ without test rest) (without test rest))) [ true ↦ (b.0, behind_without test a rest b.1) | false ↦ behind_without test a rest b.1 ]

-- and where entries leave
pub without_ascending : (test : Key × Entry → Bool) (queue : List (Key × Entry)) → Ascending queue → Ascending (without test queue)
without_ascending test [] up = up
without_ascending test (f ∷ rest) up = elim (not (test f)) as (λ c. Ascending (cond c (f ∷ without test rest) (without test rest))) [ true ↦ (behind_without test f.0 rest up.0, without_ascending test rest up.1) | false ↦ without_ascending test rest up.1 ]

pub new_without : (test : Key × Entry → Bool) (k : Key) (queue : List (Key × Entry)) → NewKey k queue → NewKey k (without test queue)
new_without test k [] new = new
new_without test k (f ∷ rest) new = elim (not (test f)) as (λ c. NewKey k (cond c (f ∷ without test rest) (without test rest))) [ true ↦ (new.0, new_without test k rest new.1) | false ↦ new_without test k rest new.1 ]

-- an entry behind a key has a later key
pub behind_has : (a : Key) (queue : List (Key × Entry)) (g : Key × Entry) → Behind a queue → Has queue g → key_before a g.0 ≡ true
behind_has a [] g b h = absurd h
behind_has a (f ∷ rest) g b (inl same) = subst (λ k. key_before a k ≡ true) (sym (ap (λ z. z.0) same)) b.0
behind_has a (f ∷ rest) g b (inr further) = behind_has a rest g b.1 further

-- the first entry is before all others
pub first_least : (f : Key × Entry) (rest : List (Key × Entry)) (g : Key × Entry) → Ascending (f ∷ rest) → Has rest g → key_before f.0 g.0 ≡ true
first_least f rest g up h = behind_has f.0 rest g up.0 h

-- a key stands once
itself : (a b : Key) → key_before a b ≡ true → a ≡ b → ⊥
itself a b is same = let both : true ≡ false = sym is ∙ ap (λ c. key_before c b) same ∙ key_not_itself b in absurd (cc both)

pub one_entry : (queue : List (Key × Entry)) (f g : Key × Entry) → Ascending queue → Has queue f → Has queue g → f.0 ≡ g.0 → f ≡ g
one_entry [] f g up h k same = absurd h
one_entry (e ∷ rest) f g up (inl a) (inl b) same = a ∙ sym b
one_entry (e ∷ rest) f g up (inl a) (inr b) same = absurd (itself e.0 g.0 (behind_has e.0 rest g up.0 b) (sym (ap (λ z. z.0) a) ∙ same))
one_entry (e ∷ rest) f g up (inr a) (inl b) same = absurd (itself e.0 f.0 (behind_has e.0 rest f up.0 a) (sym (ap (λ z. z.0) b) ∙ sym same))
one_entry (e ∷ rest) f g up (inr a) (inr b) same = one_entry rest f g up.1 a b same

-- the first entry that passes is one that is there and passes; none is found only where none passes
pub find_has : (test : Key × Entry → Bool) (queue : List (Key × Entry)) (f : Key × Entry) → find test queue ≡ Some f → Has queue f × (test f ≡ true)
find_has test [] f is = absurd (cc is)
find_has test (g ∷ rest) f is = found (find_has test rest f) (test g) refl is
  where
    found : (find test rest ≡ Some f → Has rest f × (test f ≡ true)) → (b : Bool) → test g ≡ b → cond b (Some g) (find test rest) ≡ Some f → Has (g ∷ rest) f × (test f ≡ true)
    found further true passes here = let same : g ≡ f = cc here in (inl (sym same), ap test (sym same) ∙ passes)
    found further false passes here = let k = further here in (inr k.0, k.1)

pub find_none : (test : Key × Entry → Bool) (queue : List (Key × Entry)) (f : Key × Entry) → find test queue ≡ None → Has queue f → test f ≡ false
find_none test [] f is h = absurd h
find_none test (g ∷ rest) f is h = missed (find_none test rest f) (test g) refl is h
  where
    missed : (find test rest ≡ None → Has rest f → test f ≡ false) → (b : Bool) → test g ≡ b → cond b (Some g) (find test rest) ≡ None → Has (g ∷ rest) f → test f ≡ false
    missed further true passes none h = absurd (cc none)
    missed further false passes none (inl same) = ap test same ∙ passes
    missed further false passes none (inr there) = further none there

-- ---- nodes

pub same_ref_is : (a b : NodeRef) → same_ref a b ≡ true → a ≡ b
same_ref_is a b is =
    let both = and_parts (a.owner == b.owner) (a.serial == b.serial) is in
    λ i. record { owner = eqb-true a.owner b.owner both.0 i; serial = eqb-true a.serial b.serial both.1 i }

pub same_ref_itself : (a : NodeRef) → same_ref a a ≡ true
same_ref_itself a = ap (λ b. b && (a.serial == a.serial)) (eq-eqb a.owner a.owner refl) ∙ eq-eqb a.serial a.serial refl

pub ref_trans : (a b c : NodeRef) → ref_before a b ≡ true → ref_before b c ≡ true → ref_before a c ≡ true
ref_trans a b c h k = grind (arith, h, k)

pub ref_apart : (a b : NodeRef) → ref_before a b ≡ true → same_ref b a ≡ false
ref_apart a b h = grind (arith, h)

pub ref_after : (a b : NodeRef) → same_ref b a ≡ false → ref_before a b ≡ false → ref_before b a ≡ true
ref_after a b h k = grind (arith, h, k)
