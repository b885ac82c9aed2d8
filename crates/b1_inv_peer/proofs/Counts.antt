-- How many entries of a queue pass a test, and sums over a queue, where entries come in and leave.
use Rattle.std.proofs.Common.{◌≡◌, refl, ap, ◌∙◌, inl, inr, ℕ, ◌+◌, ◌≤◌, Bool, true, false, cond, not, List, [], ◌∷◌, filter, find, map, sum_by, Some, None}
use Rattle.std.proofs.lemmas.List.Sums.{sum_by-cons}
use native.Mathlib.Omega.{arith}
use Rattle.b1_model.specs.declared.naming.Key.{Key}
use Rattle.b1_model.specs.declared.entries.Entry.{Entry}
use Rattle.b1_model.specs.MachineTables.{put, put_all, without}
use Rattle.b1_step.specs.Rights.{Has}
use Rattle.b1_step.proofs.Queues.{sum_put, sum_put_all, sum_without}
use Rattle.b1_inv_peer.specs.PeerOk.{count}

abbrev Queue : Type 0
Queue = List (Key × Entry)

abbrev pub one : Bool → ℕ
one b = cond b 1 0

pub count_cons : (test : Key × Entry → Bool) (f : Key × Entry) (rest : Queue) → count test (f ∷ rest) ≡ one (test f) + count test rest
count_cons test f rest = sum_by-cons (λ g. one (test g)) f rest

pub count_put : (test : Key × Entry → Bool) (k : Key) (e : Entry) (queue : Queue) → count test (put k e queue) ≡ one (test (k, e)) + count test queue
count_put test k e queue = sum_put (λ g. one (test g)) k e queue

-- an entry that is there and passes is counted
pub has_count : (test : Key × Entry → Bool) (queue : Queue) (f : Key × Entry) → Has queue f → test f ≡ true → 1 ≤ count test queue
has_count test [] f h is = absurd h
has_count test (g ∷ rest) f (inl same) is = let head : one (test g) ≡ 1 = rw (← same, is) refl in let more = count_cons test g rest in omega (arith, head, more)
has_count test (g ∷ rest) f (inr there) is = let further = has_count test rest f there is in let more = count_cons test g rest in omega (arith, further, more)

-- where none passes the count is 0, and where the count is 0 none passes
pub none_count : (test : Key × Entry → Bool) (queue : Queue) → ((f : Key × Entry) → Has queue f → test f ≡ false) → count test queue ≡ 0
none_count test [] none = refl
none_count test (g ∷ rest) none =
    let head : one (test g) ≡ 0 = rw (none g (inl refl)) refl in
    let further = none_count test rest (λ f h. none f (inr h)) in
    let more = count_cons test g rest in
    omega (arith, head, further, more)

pub count_none : (test : Key × Entry → Bool) (queue : Queue) → count test queue ≡ 0 → (f : Key × Entry) → Has queue f → test f ≡ false
count_none test queue is f h = elim (test f) as (λ b. test f ≡ b → b ≡ false) [ true ↦ λ passes. let some = has_count test queue f h passes in absurd (omega (arith, some, is)) | false ↦ λ passes. refl ] refl

-- none is found exactly where none passes
pub none_found : (test : Key × Entry → Bool) (queue : Queue) → find test queue ≡ None → count test queue ≡ 0
none_found test [] is = refl
none_found test (g ∷ rest) is = at (none_found test rest) (test g) refl is
  where
    at : (find test rest ≡ None → count test rest ≡ 0) → (b : Bool) → test g ≡ b → cond b (Some g) (find test rest) ≡ None → count test (g ∷ rest) ≡ 0
    at further true passes here = absurd (cc here)
    at further false passes here =
        let head : one (test g) ≡ 0 = rw passes refl in
        let zero_rest = further here in
        let more = count_cons test g rest in
        omega (arith, head, zero_rest, more)

-- what leaves is counted no more
pub count_without_le : (test by : Key × Entry → Bool) (queue : Queue) → count test (without by queue) ≤ count test queue
count_without_le test by queue = let whole = sum_without (λ g. one (test g)) by queue in omega (arith, whole)

pub sum_without_other : (g : Key × Entry → ℕ) (by : Key × Entry → Bool) (queue : Queue) → ((f : Key × Entry) → Has queue f → by f ≡ true → g f ≡ 0) → sum_by g (without by queue) ≡ sum_by g queue
sum_without_other g by [] none = refl
sum_without_other g by (f ∷ rest) none = at (sum_without_other g by rest (λ x h. none x (inr h))) (by f) refl
  where
    at : sum_by g (without by rest) ≡ sum_by g rest → (b : Bool) → by f ≡ b → sum_by g (cond (not b) (f ∷ without by rest) (without by rest)) ≡ sum_by g (f ∷ rest)
    at further true is = let head = none f (inl refl) is in let whole = sum_by-cons g f rest in omega (arith, further, head, whole)
    at further false is = let one_way = sum_by-cons g f (without by rest) in let whole = sum_by-cons g f rest in omega (arith, further, one_way, whole)

pub count_without_other : (test by : Key × Entry → Bool) (queue : Queue) → ((f : Key × Entry) → Has queue f → by f ≡ true → test f ≡ false) → count test (without by queue) ≡ count test queue
count_without_other test by queue none = sum_without_other (λ g. one (test g)) by queue (λ f h is. rw (none f h is) refl)

pub count_without_same : (test : Key × Entry → Bool) (queue : Queue) → count test (without test queue) ≡ 0
count_without_same test [] = refl
count_without_same test (f ∷ rest) = at (count_without_same test rest) (test f) refl
  where
    at : count test (without test rest) ≡ 0 → (b : Bool) → test f ≡ b → count test (cond (not b) (f ∷ without test rest) (without test rest)) ≡ 0
    at further true is = further
    at further false is = let head : one (test f) ≡ 0 = rw is refl in let more = count_cons test f (without test rest) in omega (arith, further, head, more)

-- where at most one passes, the one that is found is all that pass
none_left : (test : Key × Entry → Bool) (queue : Queue) → count test queue ≡ 0 → filter test queue ≡ []
none_left test [] is = refl
none_left test (f ∷ rest) is = at (none_left test rest) (test f) refl
  where
    at : (count test rest ≡ 0 → filter test rest ≡ []) → (b : Bool) → test f ≡ b → cond b (f ∷ filter test rest) (filter test rest) ≡ []
    at further true passes = let head : one (test f) ≡ 1 = rw passes refl in let more = count_cons test f rest in absurd (omega (arith, head, more, is))
    at further false passes = further (let more = count_cons test f rest in omega (arith, more, is))

pub one_left : (test : Key × Entry → Bool) (queue : Queue) (f : Key × Entry) → count test queue ≤ 1 → find test queue ≡ Some f → filter test queue ≡ f ∷ []
one_left test [] f few is = absurd (cc is)
one_left test (g ∷ rest) f few is = at (one_left test rest f) (test g) refl is
  where
    at : (count test rest ≤ 1 → find test rest ≡ Some f → filter test rest ≡ f ∷ []) → (b : Bool) → test g ≡ b → cond b (Some g) (find test rest) ≡ Some f → cond b (g ∷ filter test rest) (filter test rest) ≡ f ∷ []
    at further true passes here =
        let head : one (test g) ≡ 1 = rw passes refl in
        let more = count_cons test g rest in
        let same : g ≡ f = cc here in
        ap (λ x. g ∷ x) (none_left test rest (omega (arith, head, more, few))) ∙ ap (λ x. x ∷ []) same
    at further false passes here =
        let more = count_cons test g rest in
        further (omega (arith, more, few)) here

-- a sum splits into what was found and what is left
pub sum_found : (g : Key × Entry → ℕ) (test : Key × Entry → Bool) (queue : Queue) (f : Key × Entry) → count test queue ≤ 1 → find test queue ≡ Some f → g f + sum_by g (without test queue) ≡ sum_by g queue
sum_found g test queue f few is =
    let whole = sum_without g test queue in
    let single = ap (sum_by g) (one_left test queue f few is) in
    let head = sum_by-cons g f [] in
    omega (arith, whole, single, head)

-- entries that come in again under another key, where that makes no difference
pub sum_moved : (g : Key × Entry → ℕ) (by : Key × Entry → Bool) (move : Key × Entry → Key × Entry) (queue : Queue) → ((f : Key × Entry) → by f ≡ true → g (move f) ≡ g f) → sum_by g (put_all (map move (filter by queue)) (without by queue)) ≡ sum_by g queue
sum_moved g by move queue same =
    let whole = sum_without g by queue in
    let all = sum_put_all g (map move (filter by queue)) (without by queue) in
    let moved = sum_mapped queue in
    omega (arith, whole, all, moved)
  where
    sum_mapped : (rest : Queue) → sum_by g (map move (filter by rest)) ≡ sum_by g (filter by rest)
    sum_mapped [] = refl
    sum_mapped (f ∷ rest) = at (sum_mapped rest) (by f) refl
      where
        at : sum_by g (map move (filter by rest)) ≡ sum_by g (filter by rest) → (b : Bool) → by f ≡ b → sum_by g (map move (cond b (f ∷ filter by rest) (filter by rest))) ≡ sum_by g (cond b (f ∷ filter by rest) (filter by rest))
        at further true is =
            let head = same f is in
            let one_way = sum_by-cons g (move f) (map move (filter by rest)) in
            let other = sum_by-cons g f (filter by rest) in
            omega (arith, further, head, one_way, other)
        at further false is = further
