use Rattle.std.proofs.Common.{◌≡◌, ◌≢◌, ℕ, ◌==◌, Option, cond, ap, ◌∙◌}
use Rattle.std.proofs.lemmas.Bool.{ne_eqb}
use Rattle.b1_pool.specs.declared.slices.Slice.{Slice}
use Rattle.b1_pool.proofs.UsedLemmas.{used_at-with_alloc, used_at-published, used_at-given_back}
use Rattle.b1_pool.proofs.laws.other_slices_stay.Goals as goal

-- what a change of one slice leaves elsewhere
elsewhere : (here offset : ℕ) (x y z : Option Slice) → here ≢ offset → x ≡ cond (here == offset) y z → x ≡ z
elsewhere here offset x y z apart e = e ∙ ap (λ b. cond b y z) (ne_eqb here offset apart)

pub returns-clause-taken : goal.returns-clause-taken
returns-clause-taken c size here len offset slices s pool at some most apart =
    elsewhere here offset _ _ _ apart (used_at-with_alloc size here len offset slices s pool at some most)

pub returns-clause-published : goal.returns-clause-published
returns-clause-published c size here offset slices s pool at apart = elsewhere here offset _ _ _ apart (used_at-published size here offset slices s pool at)

pub returns-clause-given_back : goal.returns-clause-given_back
returns-clause-given_back c size here offset slices s pool at apart = elsewhere here offset _ _ _ apart (used_at-given_back size here offset slices s pool at)
