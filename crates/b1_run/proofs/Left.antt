-- Peers of a closed bus that are looked at one after another.
use Rattle.std.proofs.Common.{◌≡◌, ◌≢◌, ℕ, zero, suc, ◌+◌, ◌==◌, ◌<◌, Bool, true, false, not, cond, List, [], ◌∷◌, ◌++◌, length, slice_get, Option, Some, None, is_none, refl, sym, ap, ◌∙◌, subst, inl, inr, arith}
use Rattle.std.specs.List.{filter, range_with_len}
use Rattle.std.proofs.lemmas.Bool.{cases_lt, cases_Bool}
use Rattle.std.proofs.lemmas.List.Elements.{filter-append}
use Rattle.std.proofs.lemmas.Option.{slice_get_within}
use Rattle.b1_model.specs.declared.commands.Command.{Command}
use Rattle.b1_model.specs.declared.commands.Command.TheVariants as cmd
use Rattle.b1_model.specs.MachineParts.{PeerPart, DriverPart, State}
use Rattle.b1_model.specs.MachineOrder.{Stuck, next_command, no_command_open}
use Rattle.b1_schedule.specs.Schedule.{is_left}
use Rattle.b1_run.specs.Standing.{WaitBelow}

last : (a n j : ℕ) → a + n ≡ j → range_with_len a (suc n) ≡ range_with_len a n ++ j ∷ []
last a zero j e = let same : a ≡ j = omega arith in ap (λ k. k ∷ []) same
last a (suc n) j e = ap (λ l. a ∷ l) (last (a + 1) n j (omega arith))

-- one more number
range_more : (n : ℕ) → range_with_len 0 (n + 1) ≡ range_with_len 0 n ++ n ∷ []
range_more n = let on : n + 1 ≡ suc n = omega arith in ap (range_with_len 0) on ∙ last 0 n n (omega arith)

append_none : {A : Type 0} (xs : List A) → xs ++ [] ≡ xs
append_none [] = refl
append_none (x ∷ xs) = ap (λ l. x ∷ l) (append_none xs)

-- one of those that pass a test
some_passes : (f : ℕ → Bool) (l : List ℕ) → (length (filter f l) == 0) ≡ false → (p : ℕ) × (f p ≡ true)
some_passes f [] some = absurd (cc some)
some_passes f (x ∷ l) some = elim (cases_Bool (f x)) [
  | inl passes ↦ (x, passes)
  | inr fails ↦ some_passes f l (ap (λ b. length (cond b (x ∷ filter f l) (filter f l)) == 0) (sym fails) ∙ some)
]

module _ (lists : List (List Command)) (s : State) where
  -- whether the commands of a peer are left
  left_of : (p : ℕ) (o : Option DriverPart) → slice_get s.drivers p ≡ o → is_left lists s p ≡ (elim o [ None ↦ false | Some d ↦ not (is_none (next_command lists p d)) ])
  left_of p o is = ap (λ (z : Option DriverPart). elim z as (λ y. Bool) [ None ↦ false | Some d ↦ not (is_none (next_command lists p d)) ]) is

  left_at : (p : ℕ) (d : DriverPart) (next : Option Command) → slice_get s.drivers p ≡ Some d → next_command lists p d ≡ next → is_left lists s p ≡ not (is_none next)
  left_at p d next is there = left_of p (Some d) is ∙ ap (λ o. not (is_none o)) there

  found_more : (p : ℕ) (b : Bool) → is_left lists s p ≡ b → filter (is_left lists s) (range_with_len 0 (p + 1)) ≡ filter (is_left lists s) (range_with_len 0 p) ++ cond b (p ∷ []) []
  found_more p b is = ap (filter (is_left lists s)) (range_more p) ∙ filter-append (is_left lists s) (range_with_len 0 p) (p ∷ []) ∙ ap (λ v. filter (is_left lists s) (range_with_len 0 p) ++ cond v (p ∷ []) []) is

  -- the peers below n are looked at
  pub record Looked (n : ℕ) (waiting : List ℕ) : Type 0 where
    pub found : waiting ≡ filter (is_left lists s) (range_with_len 0 n)
    pub wait : WaitBelow lists s n

  -- what holds of a peer that waits
  abbrev WaitsAt : ℕ → Type 0
  WaitsAt p = (d : DriverPart) (x : PeerPart) (c : Command) → slice_get s.drivers p ≡ Some d → slice_get s.peers p ≡ Some x → next_command lists p d ≡ Some c → (d.shut ≡ false) × (c ≡ cmd.Await) × (x.queue ≡ [])

  wait_more : (p : ℕ) → WaitBelow lists s p → WaitsAt p → WaitBelow lists s (p + 1)
  wait_more p old here q d x c short = elim (cases_lt q p) [
    | inl less ↦ old q d x c less
    | inr least ↦ (let same : p ≡ q = omega arith in subst WaitsAt same here d x c)
  ]

  module _ (p : ℕ) (d : DriverPart) (x : PeerPart) (driver : slice_get s.drivers p ≡ Some d) (peer : slice_get s.peers p ≡ Some x) where
    same_driver : (e : DriverPart) → slice_get s.drivers p ≡ Some e → d ≡ e
    same_driver e is = let both : Some d ≡ Some e = sym driver ∙ is in cc both

    same_peer : (y : PeerPart) → slice_get s.peers p ≡ Some y → x ≡ y
    same_peer y is = let both : Some x ≡ Some y = sym peer ∙ is in cc both

    -- p's commands are at their end
    pub ended : (before after : List ℕ) → Looked p before → after ≡ before → next_command lists p d ≡ None → Looked (p + 1) after
    ended before after looked same none = record {
      found = same ∙ looked.found ∙ sym (append_none (filter (is_left lists s) (range_with_len 0 p))) ∙ sym (found_more p false (left_at p d None driver none));
      wait = wait_more p looked.wait (λ e y c is_e is_y next. absurd (let no : None ≡ Some c = sym none ∙ ap (next_command lists p) (same_driver e is_e) ∙ next in cc no));
    }

    -- p waits
    pub waits : (before after : List ℕ) → Looked p before → after ≡ before ++ p ∷ [] → next_command lists p d ≡ Some cmd.Await → d.shut ≡ false → x.queue ≡ [] → Looked (p + 1) after
    waits before after looked pushed next not_shut empty = record {
      found = pushed ∙ ap (λ l. l ++ p ∷ []) looked.found ∙ sym (found_more p true (left_at p d (Some cmd.Await) driver next));
      wait = wait_more p looked.wait (λ e y c is_e is_y there.
          let both : Some c ≡ Some cmd.Await = sym there ∙ ap (next_command lists p) (sym (same_driver e is_e)) ∙ next in
          (ap (λ f. f.shut) (sym (same_driver e is_e)) ∙ not_shut, cc both, ap (λ z. z.queue) (sym (same_peer y is_y)) ∙ empty));
    }

  -- one of those that are left
  pub one_left : (p : ℕ) → is_left lists s p ≡ true → (q : ℕ) × (d : DriverPart) × (slice_get s.drivers q ≡ Some d) × (next_command lists q d ≢ None)
  one_left p left = go (slice_get s.drivers p) refl
    where
      go : (o : Option DriverPart) → slice_get s.drivers p ≡ o → (q : ℕ) × (d : DriverPart) × (slice_get s.drivers q ≡ Some d) × (next_command lists q d ≢ None)
      go None is = absurd (let no : false ≡ true = sym (left_of p None is) ∙ left in cc no)
      go (Some d) is = (p, d, is, λ none. let no : false ≡ true = sym (left_at p d None is none) ∙ left in cc no)

  -- all are looked at, they wait, and there is one
  pub stuck : (n : ℕ) (found : List ℕ) → no_command_open s ≡ true → Looked n found → length s.peers ≡ n → (length found == 0) ≡ false → Stuck lists s
  stuck n found closed looked all some =
      let (p, left) = some_passes (is_left lists s) (range_with_len 0 n) (ap (λ l. length l == 0) (sym looked.found) ∙ some) in
      record {
        none_open = closed;
        some_left = one_left p left;
        waiting = λ q d x c driver peer next. let short : q < length s.peers = slice_get_within s.peers q x peer in looked.wait q d x c (omega (arith, short, all)) driver peer next;
      }
