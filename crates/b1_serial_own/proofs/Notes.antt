-- Notices that come to the end of a queue, staged or with their stamp.
use Rattle.std.proofs.Common.{◌≡◌, ◌⊎◌, refl, sym, ap, ◌∙◌, subst, inl, inr, ℕ, ◌+◌, ◌≤◌, ◌==◌, Bool, true, false, cond, ◌&&◌, ◌||◌, not, nat_lt, List, [], ◌∷◌, ◌++◌, map, filter, append-nil, arith}
use Rattle.std.proofs.lemmas.Bool.{eq-eqb, lt-ltb}
use Rattle.b1_model.specs.declared.naming.Key.{Key}
use Rattle.b1_model.specs.declared.entries.Entry.{Entry}
use Rattle.b1_model.specs.MachineParts.{key_before, is_staged, is_data, is_odd}
use Rattle.b1_model.specs.MachineTables.{put, put_all, without, is_staged_notice}
use Rattle.b1_model.specs.MachineSend.{with_stamp}
use Rattle.b1_step.specs.Rights.{Has}
use Rattle.b1_step.proofs.Lists.{has_append}
use Rattle.b1_step.proofs.Orders.{key_trans, key_not_itself, key_before_is_below}

abbrev pub Queue : Type 0
Queue = List (Key × Entry)

abbrev pub key_at : ℕ → ℕ → ℕ → Key
key_at stamp origin index = record { stamp = stamp; origin = origin; index = index }

-- all of a queue are before a key
abbrev pub AllBefore : Queue → Key → Type 0
AllBefore queue k = (f : Key × Entry) → Has queue f → key_before f.0 k ≡ true

not_after : (a b : Key) → key_before a b ≡ true → key_before b a ≡ false
not_after a b is = by (key_before b a) refl
  where
    by : (c : Bool) → key_before b a ≡ c → c ≡ false
    by true back = absurd (cc (sym (key_trans a b a is back) ∙ key_not_itself a))
    by false back = refl

-- an entry comes in between what is before it and what is behind it
pub put_between : (k : Key) (e : Entry) (queue more : Queue) → AllBefore queue k → ((f : Key × Entry) → Has more f → key_before k f.0 ≡ true) → put k e (queue ++ more) ≡ queue ++ (k, e) ∷ more
put_between k e [] [] before behind = refl
put_between k e [] (g ∷ more) before behind = ap (λ b. cond b ((k, e) ∷ g ∷ more) (g ∷ put k e more)) (behind g (inl refl))
put_between k e (f ∷ queue) more before behind =
    ap (λ b. cond b ((k, e) ∷ f ∷ queue ++ more) (f ∷ put k e (queue ++ more))) (not_after f.0 k (before f (inl refl)))
    ∙ ap (λ q. f ∷ q) (put_between k e queue more (λ g there. before g (inr there)) behind)

-- or at the end
pub put_last : (k : Key) (e : Entry) (queue : Queue) → AllBefore queue k → put k e queue ≡ queue ++ (k, e) ∷ []
put_last k e queue before = ap (put k e) (sym (append-nil queue)) ∙ put_between k e queue [] before (λ f there. absurd there)

pub before_more : (queue : Queue) (a b : Key) (e : Entry) → AllBefore queue a → key_before a b ≡ true → AllBefore (queue ++ (a, e) ∷ []) b
before_more queue a b e before less f there = by (has_append queue ((a, e) ∷ []) f there)
  where
    by : Has queue f ⊎ Has ((a, e) ∷ []) f → key_before f.0 b ≡ true
    by (inl old) = key_trans f.0 a b (before f old) less
    by (inr (inl new)) = ap (λ g. key_before g.0 b) new ∙ less
    by (inr (inr none)) = absurd none

-- ---- filters of two parts

pub filter_two : {X : Type 0} (test : X → Bool) (xs ys : List X) → filter test (xs ++ ys) ≡ filter test xs ++ filter test ys
filter_two test [] ys = refl
filter_two test (x ∷ xs) ys = ap (λ l. cond (test x) (x ∷ l) l) (filter_two test xs ys) ∙ by (test x)
  where
    by : (b : Bool) → cond b (x ∷ filter test xs ++ filter test ys) (filter test xs ++ filter test ys) ≡ cond b (x ∷ filter test xs) (filter test xs) ++ filter test ys
    by true = refl
    by false = refl

pub filter_all : {X : Type 0} (test : X → Bool) (xs : List X) → ((x : X) → Has xs x → test x ≡ true) → filter test xs ≡ xs
filter_all test [] all = refl
filter_all test (x ∷ xs) all = ap (λ b. cond b (x ∷ filter test xs) (filter test xs)) (all x (inl refl)) ∙ ap (λ l. x ∷ l) (filter_all test xs (λ y there. all y (inr there)))

pub filter_nothing : {X : Type 0} (test : X → Bool) (xs : List X) → ((x : X) → Has xs x → test x ≡ false) → filter test xs ≡ []
filter_nothing test [] none = refl
filter_nothing test (x ∷ xs) none = ap (λ b. cond b (x ∷ filter test xs) (filter test xs)) (none x (inl refl)) ∙ filter_nothing test xs (λ y there. none y (inr there))

-- ---- lists of notices

-- an origin's notices of a list with one stamp, where each has an entry or none, from an index on
abbrev pub notes : (ℕ → ℕ → Entry) → (ℕ → Bool) → ℕ → ℕ → ℕ → List ℕ → Queue
notes entry test stamp origin i [] = []
notes entry test stamp origin i (serial ∷ rest) =
    cond (test serial) ((key_at stamp origin i, entry serial i) ∷ notes entry test stamp origin (i + 1) rest) (notes entry test stamp origin (i + 1) rest)

module _ (entry : ℕ → ℕ → Entry) (origin : ℕ) where
  -- the same, by tests that agree
  pub notes_same : (test other : ℕ → Bool) (stamp i : ℕ) (list : List ℕ) → ((n : ℕ) → Has list n → test n ≡ other n) → notes entry test stamp origin i list ≡ notes entry other stamp origin i list
  notes_same test other stamp i [] same = refl
  notes_same test other stamp i (n ∷ rest) same =
      ap (λ b. cond b ((key_at stamp origin i, entry n i) ∷ notes entry test stamp origin (i + 1) rest) (notes entry test stamp origin (i + 1) rest)) (same n (inl refl))
      ∙ ap (λ l. cond (other n) ((key_at stamp origin i, entry n i) ∷ l) l) (notes_same test other stamp (i + 1) rest (λ k there. same k (inr there)))

  module _ (test : ℕ → Bool) where
    -- with another stamp
    pub notes_stamped : (old stamp i : ℕ) (list : List ℕ) → map (with_stamp stamp) (notes entry test old origin i list) ≡ notes entry test stamp origin i list
    notes_stamped old stamp i [] = refl
    notes_stamped old stamp i (n ∷ rest) = by (notes_stamped old stamp (i + 1) rest) (test n)
      where
        by : map (with_stamp stamp) (notes entry test old origin (i + 1) rest) ≡ notes entry test stamp origin (i + 1) rest → (b : Bool)
            → map (with_stamp stamp) (cond b ((key_at old origin i, entry n i) ∷ notes entry test old origin (i + 1) rest) (notes entry test old origin (i + 1) rest))
            ≡ cond b ((key_at stamp origin i, entry n i) ∷ notes entry test stamp origin (i + 1) rest) (notes entry test stamp origin (i + 1) rest)
        by further true = ap (λ l. (key_at stamp origin i, entry n i) ∷ l) further
        by further false = further

    -- each is at an index, of a number of the list
    pub record NoteOf (stamp i : ℕ) (list : List ℕ) (f : Key × Entry) : Type 0 where
      pub at : ℕ
      pub serial : ℕ
      pub from : i ≤ at
      pub listed : Has list serial
      pub passes : test serial ≡ true
      pub is : f ≡ (key_at stamp origin at, entry serial at)

    later_note : (stamp i n : ℕ) (rest : List ℕ) (f : Key × Entry) → NoteOf stamp (i + 1) rest f → NoteOf stamp i (n ∷ rest) f
    later_note stamp i n rest f k = record { at = k.at; serial = k.serial; from = let less = k.from in omega (arith, less); listed = inr k.listed; passes = k.passes; is = k.is }

    pub notes_has : (stamp i : ℕ) (list : List ℕ) (f : Key × Entry) → Has (notes entry test stamp origin i list) f → NoteOf stamp i list f
    notes_has stamp i [] f there = absurd there
    notes_has stamp i (n ∷ rest) f there = by (notes_has stamp (i + 1) rest f) (test n) refl there
      where
        by : (Has (notes entry test stamp origin (i + 1) rest) f → NoteOf stamp (i + 1) rest f) → (b : Bool) → test n ≡ b
            → Has (cond b ((key_at stamp origin i, entry n i) ∷ notes entry test stamp origin (i + 1) rest) (notes entry test stamp origin (i + 1) rest)) f → NoteOf stamp i (n ∷ rest) f
        by further true is (inl same) = record { at = i; serial = n; from = omega arith; listed = inl refl; passes = is; is = same }
        by further true is (inr later) = later_note stamp i n rest f (further later)
        by further false is later = later_note stamp i n rest f (further later)

    -- and each number that passes has one
    pub note_there : (stamp i : ℕ) (list : List ℕ) (n : ℕ) → Has list n → test n ≡ true → (at : ℕ) × Has (notes entry test stamp origin i list) (key_at stamp origin at, entry n at)
    note_there stamp i [] n there passes = absurd there
    note_there stamp i (m ∷ rest) n (inl same) passes = (i, subst (λ b. Has (cond b ((key_at stamp origin i, entry m i) ∷ notes entry test stamp origin (i + 1) rest) (notes entry test stamp origin (i + 1) rest)) (key_at stamp origin i, entry n i)) (sym (ap test (sym same) ∙ passes)) (inl (ap (λ k. (key_at stamp origin i, entry k i)) same)))
    note_there stamp i (m ∷ rest) n (inr there) passes =
        let k = note_there stamp (i + 1) rest n there passes in
        (k.0, by k.0 k.1 (test m))
      where
        by : (at : ℕ) → Has (notes entry test stamp origin (i + 1) rest) (key_at stamp origin at, entry n at) → (b : Bool)
            → Has (cond b ((key_at stamp origin i, entry m i) ∷ notes entry test stamp origin (i + 1) rest) (notes entry test stamp origin (i + 1) rest)) (key_at stamp origin at, entry n at)
        by at has true = inr has
        by at has false = has

    -- a later index is behind
    pub index_behind : (stamp i j : ℕ) → i + 1 ≤ j → key_before (key_at stamp origin i) (key_at stamp origin j) ≡ true
    index_behind stamp i j less =
        key_before_is_below (key_at stamp origin i) (key_at stamp origin j)
        ∙ ap (λ b. (nat_lt stamp stamp || ((stamp == stamp) && nat_lt origin origin)) || b) (ap (λ b. (b && (origin == origin)) && nat_lt i j) (eq-eqb stamp stamp refl) ∙ ap (λ b. b && nat_lt i j) (eq-eqb origin origin refl) ∙ lt-ltb i j (omega (arith, less)))
        ∙ or_true (nat_lt stamp stamp || ((stamp == stamp) && nat_lt origin origin))
      where
        or_true : (b : Bool) → b || true ≡ true
        or_true true = refl
        or_true false = refl

    -- they come to the end of a queue of which all is before them
    pub notes_put : (stamp i : ℕ) (list : List ℕ) (queue : Queue) → ((j : ℕ) → AllBefore queue (key_at stamp origin j)) → put_all (notes entry test stamp origin i list) queue ≡ queue ++ notes entry test stamp origin i list
    notes_put stamp i [] queue before = sym (append-nil queue)
    notes_put stamp i (n ∷ rest) queue before = by (notes_put stamp (i + 1) rest queue before) (test n)
      where
        behind : (f : Key × Entry) → Has (notes entry test stamp origin (i + 1) rest) f → key_before (key_at stamp origin i) f.0 ≡ true
        behind f there = let k = notes_has stamp (i + 1) rest f there in ap (λ g. key_before (key_at stamp origin i) g.0) k.is ∙ index_behind stamp i k.at k.from

        by : put_all (notes entry test stamp origin (i + 1) rest) queue ≡ queue ++ notes entry test stamp origin (i + 1) rest → (b : Bool)
            → put_all (cond b ((key_at stamp origin i, entry n i) ∷ notes entry test stamp origin (i + 1) rest) (notes entry test stamp origin (i + 1) rest)) queue
            ≡ queue ++ cond b ((key_at stamp origin i, entry n i) ∷ notes entry test stamp origin (i + 1) rest) (notes entry test stamp origin (i + 1) rest)
        by further true = ap (put (key_at stamp origin i) (entry n i)) further ∙ put_between (key_at stamp origin i) (entry n i) queue (notes entry test stamp origin (i + 1) rest) (before i) behind
        by further false = further

    -- a commit: those that are staged get the stamp, and come to the end again
    pub notes_committed : (old stamp : ℕ) (list : List ℕ) (queue : Queue) → is_odd old ≡ true → ((n at : ℕ) → is_data (entry n at) ≡ false) → ((f : Key × Entry) → Has queue f → is_staged f ≡ false) → ((j : ℕ) → AllBefore queue (key_at stamp origin j))
        → put_all (map (with_stamp stamp) (filter (is_staged_notice origin) (queue ++ notes entry test old origin 0 list))) (without (is_staged_notice origin) (queue ++ notes entry test old origin 0 list))
        ≡ queue ++ notes entry test stamp origin 0 list
    notes_committed old stamp list queue odd notices even before =
        ap (λ l. put_all (map (with_stamp stamp) l) (without (is_staged_notice origin) (queue ++ notes entry test old origin 0 list))) staged
        ∙ ap (λ l. put_all (map (with_stamp stamp) (notes entry test old origin 0 list)) l) left
        ∙ ap (λ l. put_all l queue) (notes_stamped old stamp 0 list)
        ∙ notes_put stamp 0 list queue before
      where
        of_queue : (f : Key × Entry) → Has queue f → is_staged_notice origin f ≡ false
        of_queue f there = by_parts (is_data f.1) (f.0.origin == origin) (even f there)
          where
            by_parts : (b c : Bool) → is_staged f ≡ false → (not b && is_staged f) && c ≡ false
            by_parts true c none = refl
            by_parts false c none = ap (λ a. a && c) none

        of_notes : (f : Key × Entry) → Has (notes entry test old origin 0 list) f → is_staged_notice origin f ≡ true
        of_notes f there =
            let k = notes_has old 0 list f there in
            ap (is_staged_notice origin) k.is
            ∙ ap (λ b. (not b && is_odd old) && (origin == origin)) (notices k.serial k.at)
            ∙ ap (λ b. b && (origin == origin)) odd
            ∙ eq-eqb origin origin refl

        staged : filter (is_staged_notice origin) (queue ++ notes entry test old origin 0 list) ≡ notes entry test old origin 0 list
        staged =
            filter_two (is_staged_notice origin) queue (notes entry test old origin 0 list)
            ∙ ap (λ l. l ++ filter (is_staged_notice origin) (notes entry test old origin 0 list)) (filter_nothing (is_staged_notice origin) queue of_queue)
            ∙ filter_all (is_staged_notice origin) (notes entry test old origin 0 list) of_notes

        left : without (is_staged_notice origin) (queue ++ notes entry test old origin 0 list) ≡ queue
        left =
            filter_two (λ f. not (is_staged_notice origin f)) queue (notes entry test old origin 0 list)
            ∙ ap (λ l. l ++ filter (λ f. not (is_staged_notice origin f)) (notes entry test old origin 0 list)) (filter_all (λ f. not (is_staged_notice origin f)) queue (λ f there. ap not (of_queue f there)))
            ∙ ap (λ l. queue ++ l) (filter_nothing (λ f. not (is_staged_notice origin f)) (notes entry test old origin 0 list) (λ f there. ap not (of_notes f there)))
            ∙ append-nil queue
