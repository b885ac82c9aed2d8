-- The order of nodes.
use Rattle.std.proofs.Common.{◌≡◌, ℕ, true, false, refl, ap, ◌∙◌, arith}
use Rattle.std.proofs.lemmas.Bool.{eq-eqb}
use Rattle.std.proofs.lemmas.Bool.Decides.{nat_tests}
use Rattle.b1_model.specs.declared.naming.NodeRef.{NodeRef}
use Rattle.b1_model.specs.MachineParts.{same_ref, ref_before}

pub before_itself : (a b : NodeRef) → ref_before a b ≡ true → same_ref b a ≡ false
before_itself a b before = grind (arith, nat_tests)

pub before_other : (a b : NodeRef) → ref_before a b ≡ true → same_ref a b ≡ false
before_other a b before = grind (arith, nat_tests)

pub same_itself : (a : NodeRef) → same_ref a a ≡ true
same_itself a = rw (eq-eqb a.owner a.owner refl, eq-eqb a.serial a.serial refl) refl

pub before_trans : (a b c : NodeRef) → ref_before a b ≡ true → ref_before b c ≡ true → ref_before a c ≡ true
before_trans a b c first second = grind (arith, nat_tests)

pub before_total : (a b : NodeRef) → same_ref b a ≡ false → ref_before a b ≡ false → ref_before b a ≡ true
before_total a b other behind = grind (arith, nat_tests)

pub before_one : (a b : NodeRef) → ref_before b a ≡ true → ref_before a b ≡ false
before_one a b later = grind (arith, nat_tests)

pub before_same : (a b c : NodeRef) → ref_before a b ≡ true → same_ref b c ≡ true → ref_before a c ≡ true
before_same a b c before same = grind (arith, nat_tests)

pub same_before : (a b c : NodeRef) → same_ref b a ≡ true → ref_before b c ≡ true → same_ref c a ≡ false
same_before a b c same before = grind (arith, nat_tests)

pub same_is : (a b : NodeRef) → same_ref a b ≡ true → a ≡ b
same_is a b same =
    let owner : a.owner ≡ b.owner = grind (arith, nat_tests) in
    let serial : a.serial ≡ b.serial = grind (arith, nat_tests) in
    ap (λ (o : ℕ). record { owner = o; serial = a.serial }) owner ∙ ap (λ (s : ℕ). record { owner = b.owner; serial = s }) serial
