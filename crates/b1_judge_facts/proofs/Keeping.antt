-- What is kept under pairs of numbers.
use Rattle.std.specs.Prelude.{◌≡◌, refl, ℕ, Bool, true, false, ◌&&◌, ◌||◌, ◌==◌, nat_lt, if◌then◌else◌, [], ◌∷◌, Option, Some, None, is_some}
use Rattle.std.specs.Option.{option_or}
use Rattle.std.specs.Ordering.{nat_cmp, ordering_then, is_eq}
use Rattle.std.specs.declared.cmp.Ordering.{Ordering}
use Rattle.std.specs.declared.cmp.Ordering.TheVariants.{Less, Equal, Greater}
use Rattle.std.specs.BTreeMap.{BTreeMap, get, is_at}
use Rattle.std.specs.BTreeSet.{BTreeSet, contains}
use Rattle.std.proofs.lemmas.Bool.{eqb-true}
use Rattle.std.proofs.Common.{arith, sym, ap, ◌∙◌}
use Rattle.b1_model.specs.Names.{Node}
use Rattle.b1_model.specs.Ledger.{is_the_node, has_node}
use Rattle.b1_judge_facts.specs.Kept.{pair_cmp, kept_at, Keeps, Marks, is_gone, is_gone_at, Adds}

pub eq_cmp : (a b : ℕ) → is_eq (nat_cmp a b) ≡ (a == b)
eq_cmp a b = go (nat_lt a b) (a == b) refl refl
  where
    go : (x y : Bool) → nat_lt a b ≡ x → (a == b) ≡ y → is_eq (if x then Less else (if y then Equal else Greater)) ≡ y
    go true true e f = let g : (a == b) ≡ false = grind (arith, e) in cc (f, g)
    go true false e f = refl
    go false true e f = refl
    go false false e f = refl

pub eq_then : (x y : Ordering) → is_eq (ordering_then x y) ≡ (is_eq x && is_eq y)
eq_then Less y = refl
eq_then Equal y = refl
eq_then Greater y = refl

pub pair_eq : (a b c d : ℕ) → is_eq (pair_cmp (a, b) (c, d)) ≡ ((a == c) && (b == d))
pair_eq a b c d = rw (eq_then (nat_cmp a c) (nat_cmp b d), eq_cmp a c, eq_cmp b d) refl

eq_sym : (a b : ℕ) → (a == b) ≡ (b == a)
eq_sym a b = go (a == b) (b == a) refl refl
  where
    go : (x y : Bool) → (a == b) ≡ x → (b == a) ≡ y → x ≡ y
    go true true e f = refl
    go true false e f = let g : (b == a) ≡ true = grind (arith, e) in cc (f, g)
    go false true e f = let g : (a == b) ≡ true = grind (arith, f) in cc (e, g)
    go false false e f = refl

pub keeps_insert : {X : Type 0} (s o : ℕ) (v : X) (m n : BTreeMap (ℕ × ℕ) X) → ((k : ℕ × ℕ) → get pair_cmp n k ≡ (if is_at (pair_cmp (s, o)) k then Some v else get pair_cmp m k)) → Keeps s o (Some v) m n
keeps_insert s o v m n h t q = h (t, q) ∙ ap (λ b. if b then Some v else get pair_cmp m (t, q)) (pair_eq s o t q)

or_none : {X : Type 0} (w : Option X) → option_or w None ≡ w
or_none None = refl
or_none (Some x) = refl

or_end : (b : Bool) → (b || false) ≡ b
or_end true = refl
or_end false = refl

-- the node at a pair
pub at_node : (x y : Node) → is_eq (pair_cmp (y.owner, y.serial) (x.owner, x.serial)) ≡ is_the_node x (Some y)
at_node x y = pair_eq y.owner y.serial x.owner x.serial ∙ rw (eq_sym y.owner x.owner, eq_sym y.serial x.serial) refl

has_one : (x y : Node) → has_node x (Some y ∷ []) ≡ is_the_node x (Some y)
has_one x y = or_end (is_the_node x (Some y))

pub marks_new : (s o : ℕ) (y : Node) (m n : BTreeMap (ℕ × ℕ) (ℕ × ℕ)) → is_some (kept_at m y.owner y.serial) ≡ false → ((k : ℕ × ℕ) → get pair_cmp n k ≡ (if is_at (pair_cmp (y.owner, y.serial)) k then Some (s, o) else get pair_cmp m k)) → Marks s o (Some y ∷ []) m n
marks_new s o y m n e h x = h (x.owner, x.serial) ∙ ap (λ b. if b then Some (s, o) else kept_at m x.owner x.serial) (at_node x y) ∙ go (is_the_node x (Some y)) refl
  where
    absent : (w : Option (ℕ × ℕ)) → is_some w ≡ false → ◌≡◌ {A = Option (ℕ × ℕ)} (Some (s, o)) (option_or w (Some (s, o)))
    absent None f = refl
    absent (Some d) f = cc f

    both : (a b : Bool) → (a && b) ≡ true → (a ≡ true) × (b ≡ true)
    both true true f = (refl, refl)
    both true false f = cc f
    both false b f = cc f

    go : (b : Bool) → is_the_node x (Some y) ≡ b → (if is_the_node x (Some y) then Some (s, o) else kept_at m x.owner x.serial) ≡ option_or (kept_at m x.owner x.serial) (if has_node x (Some y ∷ []) then Some (s, o) else None)
    go true f =
        let parts = both (x.owner == y.owner) (x.serial == y.serial) f in
        let own : x.owner ≡ y.owner = eqb-true x.owner y.owner parts.0 in
        let ser : x.serial ≡ y.serial = eqb-true x.serial y.serial parts.1 in
        rw f (absent (kept_at m x.owner x.serial) (rw (own, ser) e))
    go false f = rw f (sym (or_none (kept_at m x.owner x.serial)))

pub adds_insert : (y : Node) (m n : BTreeSet (ℕ × ℕ)) → ((k : ℕ × ℕ) → contains pair_cmp n k ≡ (if is_at (pair_cmp (y.owner, y.serial)) k then true else contains pair_cmp m k)) → Adds (Some y ∷ []) m n
adds_insert y m n h x = h (x.owner, x.serial) ∙ ap (λ b. if b then true else is_gone m x) (at_node x y) ∙ go (is_the_node x (Some y)) (is_gone m x) ∙ ap (λ b. is_gone m x || b) (sym (has_one x y))
  where
    go : (a b : Bool) → (if a then true else b) ≡ (b || a)
    go true true = refl
    go true false = refl
    go false true = refl
    go false false = refl

-- what is in the set stays when a pair is put in
pub gone_stays : (k : ℕ × ℕ) (m n : BTreeSet (ℕ × ℕ)) → ((q : ℕ × ℕ) → contains pair_cmp n q ≡ (if is_at (pair_cmp k) q then true else contains pair_cmp m q)) → (owner serial : ℕ) → is_gone_at m owner serial ≡ true → is_gone_at n owner serial ≡ true
gone_stays k m n h owner serial e = h (owner, serial) ∙ go (is_at (pair_cmp k) (owner, serial))
  where
    go : (b : Bool) → (if b then true else contains pair_cmp m (owner, serial)) ≡ true
    go true = refl
    go false = e
