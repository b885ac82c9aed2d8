-- What the first break of a part, and parts without one, tell of a script and a record.
use Rattle.std.specs.Prelude.{◌≡◌, refl, ℕ, ◌<◌, ◌≤◌, ◌⊎◌, ◌↔◌, List, [], ◌∷◌, take, length, slice_get, Option, None, Some, Result, IfOk}
use Rattle.std.specs.List.{AllByRecursion}
use Rattle.std.proofs.lemmas.Result.{IfOk-weaker}
use Rattle.std.specs.declared.alloc.AllocError.{AllocError}
use Rattle.std.proofs.Common.{arith, inl, inr, sym, ap, subst}
use Rattle.std.proofs.lemmas.Option.{slice_get_past, slice_get_within}
use Rattle.b1_model.specs.declared.naming.Wire.{Wire}
use Rattle.b1_model.specs.declared.commands.Command.{Command}
use Rattle.b1_model.specs.declared.records.Call.{Call}
use Rattle.b1_model.specs.declared.records.Record.{Record}
use Rattle.b1_model.specs.Names.{calls_in, calls_of}
use Rattle.b1_model.specs.Legal.{KeepsKeys, KeepsOrder, KeepsPrefix, KeepsContents, HasNoNext}
use Rattle.b1_model.specs.Script as part
use Rattle.b1_script.specs.declared.script.Script.{Script}
use Rattle.b1_judge.specs.declared.verdict.Clause.{Clause}
use Rattle.b1_judge.specs.declared.verdict.Clause.TheVariants as the
use Rattle.b1_judge.specs.declared.verdict.Verdict.{Verdict}
use Rattle.b1_judge.specs.declared.verdict.Verdict.TheVariants as says
use Rattle.b1_judge.specs.Frame.{IsCall, IsEnd, IsFirstPlace}
use Rattle.b1_judge.specs.Judged.{Breaks, IsUnbroken, earlier, IsFirstBreak, SaysBreak, AllHold, Tries, Keeps, IsKept, IsFirstOf, HasLists, IsJudged}

below_or : (k n : ℕ) → (k < n) ⊎ (n ≤ k)
below_or k n = grind arith

-- no peer, no calls
no_calls : (r : Record) (p : ℕ) → length r.peers ≤ p → calls_of r p ≡ []
no_calls r p l = ap calls_in (slice_get_past r.peers p l)

-- a peer that has a call is one of the record
is_peer : (r : Record) (p k : ℕ) → k < length (calls_of r p) → p < length r.peers
is_peer r p k l = elim (below_or p (length r.peers)) [ inl h ↦ h | inr h ↦ absurd (omega (arith, l, ap length (no_calls r p h))) ]

-- no peer keeps the script's part where there is no peer
script_beyond : (lists : List (List Command)) (r : Record) (p k : ℕ) → length r.peers ≤ p → length lists ≤ p → part.KeepsScript lists r p k
script_beyond lists r p k l m =
    by_lists (slice_get (part.commands_of lists p) k) (slice_get (calls_of r p) k)
    (rw (slice_get_past lists p m) refl) (ap (λ (cs : List Call). slice_get cs k) (no_calls r p l))
  where
    by_lists : (o : Option Command) (q : Option Call) → o ≡ None → q ≡ None → part.IsInPlace (take k (calls_of r p)) o q
    by_lists None None e f = tt
    by_lists None (Some c) e f = cc f
    by_lists (Some c) q e f = cc e

-- behind the last call there is none
no_call : (r : Record) (p k : ℕ) (c : Call) → length (calls_of r p) ≤ k → slice_get (calls_of r p) k ≡ Some c → ⊥
no_call r p k c l at = let m = slice_get_within (calls_of r p) k c at in omega (arith, l, m)

module _ (s : Script) (r : Record) (lists : HasLists s r) where
  breaks_from : (clause : Clause) (p k : ℕ) → Tries clause r p k → ¬ Keeps clause s r p k → Breaks clause s r p k
  breaks_from the.Script p k t fails = (t.1, fails)
  breaks_from the.Keys p k t fails = (t.1, fails)
  breaks_from the.Order p k t fails = (t.1, fails)
  breaks_from the.Prefix p k t fails = (t.1, fails)
  breaks_from the.Contents p k t fails = (t.1, fails)
  breaks_from the.Whole p k t fails = (t.0, t.1, fails)

  unbroken_at : (clause : Clause) (p k : ℕ) → (Tries clause r p k → Keeps clause s r p k) → ¬ Breaks clause s r p k
  unbroken_at the.Script p k kept b =
      elim (below_or p (length r.peers)) [ inl h ↦ b.1 (kept (h, b.0)) | inr h ↦ b.1 (script_beyond s.commands r p k h (omega (arith, h, lists.commands, lists.calls))) ]
  unbroken_at the.Keys p k kept b = b.1 (kept (is_peer r p k b.0, b.0))
  unbroken_at the.Order p k kept b = b.1 (kept (is_peer r p k b.0, b.0))
  unbroken_at the.Prefix p k kept b = b.1 (kept (is_peer r p k b.0, b.0))
  unbroken_at the.Contents p k kept b = b.1 (kept (is_peer r p k b.0, b.0))
  unbroken_at the.Whole p k kept b = b.2 (kept (b.0, b.1))

  unbroken : (clause : Clause) → IsKept s r clause → IsUnbroken s r clause
  unbroken clause kept p k = unbroken_at clause p k (kept p k)

  all_unbroken : (clauses : List Clause) → AllByRecursion (IsKept s r) clauses → AllByRecursion (IsUnbroken s r) clauses
  all_unbroken [] kept = tt
  all_unbroken (clause ∷ clauses) kept = (unbroken clause kept.0, all_unbroken clauses kept.1)

  first_break_is : (clause : Clause) (p k : ℕ) → AllByRecursion (IsKept s r) (earlier clause) → IsFirstOf s r clause (Some (p, k)) → IsFirstBreak s r clause p k
  first_break_is clause p k kept first = record {
    breaks = breaks_from clause p k first.0.tried first.0.broken;
    earlier_peers = λ q j l. unbroken_at clause q j (first.1 q j l);
    earlier_calls = λ j l. unbroken_at clause p j (first.0.below j l);
    earlier_parts = all_unbroken (earlier clause) kept;
  }

  -- a part of which no first break was found is kept
  pub kept_is : (clause : Clause) (o : Option (ℕ × ℕ)) → IsFirstOf s r clause o → o ≡ None → IsKept s r clause
  kept_is clause o first e = subst (λ (x : Option (ℕ × ℕ)). IsFirstOf s r clause x) e first

  -- the verdict that names the first break that was found
  pub says_first : (clause : Clause) (o : Option (ℕ × ℕ)) (found : ℕ × ℕ) (v : Verdict) → AllByRecursion (IsKept s r) (earlier clause) → IsFirstOf s r clause o → o ≡ Some found → v ≡ says.Broken clause found.0 found.1 → IsJudged s r v
  says_first clause o found v kept first e is =
      subst (λ (x : Verdict). IsJudged s r x) (sym is)
      (first_break_is clause found.0 found.1 kept (subst (λ (x : Option (ℕ × ℕ)). IsFirstOf s r clause x) e first))

  -- the same, where the wires and the record are those that were gathered
  pub prefix_first : (ws : List Wire) (q : Record) (o : Option (ℕ × ℕ)) → ws ≡ s.opening.wires → q ≡ r → IsFirstPlace (IsCall q) (KeepsPrefix ws q) o → IsFirstOf s r the.Prefix o
  prefix_first ws q o e f first =
      subst (λ (x : Record). IsFirstPlace (IsCall x) (KeepsPrefix s.opening.wires x) o) f
      (subst (λ (x : List Wire). IsFirstPlace (IsCall q) (KeepsPrefix x q) o) e first)

  pub contents_first : (ws : List Wire) (q : Record) (o : Option (ℕ × ℕ)) → ws ≡ s.opening.wires → q ≡ r → IsFirstPlace (IsCall q) (KeepsContents ws q) o → IsFirstOf s r the.Contents o
  contents_first ws q o e f first =
      subst (λ (x : Record). IsFirstPlace (IsCall x) (KeepsContents s.opening.wires x) o) f
      (subst (λ (x : List Wire). IsFirstPlace (IsCall q) (KeepsContents x q) o) e first)

  pub whole_first : (ws : List Wire) (q : Record) (o : Option (ℕ × ℕ)) → ws ≡ s.opening.wires → q ≡ r → IsFirstPlace (IsEnd q) (HasNoNext ws q) o → IsFirstOf s r the.Whole o
  whole_first ws q o e f first =
      subst (λ (x : Record). IsFirstPlace (IsEnd x) (HasNoNext s.opening.wires x) o) f
      (subst (λ (x : List Wire). IsFirstPlace (IsEnd q) (HasNoNext x q) o) e first)

  pub keeps_all_order : IsKept s r the.Order → (p k : ℕ) → KeepsOrder r p k
  keeps_all_order kept p k = elim (below_or k (length (calls_of r p))) [
    | inl h ↦ kept p k (is_peer r p k h, h)
    | inr h ↦ (λ i a t b c l at_b at seen is. absurd (no_call r p k c h at))
  ]

  keeps_all_keys : IsKept s r the.Keys → (p k : ℕ) → KeepsKeys r p k
  keeps_all_keys kept p k = elim (below_or k (length (calls_of r p))) [
    | inl h ↦ kept p k (is_peer r p k h, h)
    | inr h ↦ record { even = λ c t at is. absurd (no_call r p k c h at); once = λ i t b c l at_b at is e. no_call r p k c h at }
  ]

  keeps_all_prefix : IsKept s r the.Prefix → (p k : ℕ) → KeepsPrefix s.opening.wires r p k
  keeps_all_prefix kept p k = elim (below_or k (length (calls_of r p))) [
    | inl h ↦ kept p k (is_peer r p k h, h)
    | inr h ↦ (λ c at. absurd (no_call r p k c h at))
  ]

  keeps_all_contents : IsKept s r the.Contents → (p k : ℕ) → KeepsContents s.opening.wires r p k
  keeps_all_contents kept p k = elim (below_or k (length (calls_of r p))) [
    | inl h ↦ kept p k (is_peer r p k h, h)
    | inr h ↦ (λ c at. absurd (no_call r p k c h at))
  ]

  pub all_hold : IsKept s r the.Script → IsKept s r the.Keys → IsKept s r the.Order → IsKept s r the.Prefix → IsKept s r the.Contents → IsKept s r the.Whole → AllHold s r
  all_hold script keys order prefix contents whole = record {
    script = λ p k l m. script p k (omega (arith, l, lists.calls), m);
    legal = record { keys = keeps_all_keys keys; order = keeps_all_order order; prefix = keeps_all_prefix prefix; contents = keeps_all_contents contents };
    whole = λ p l. whole p (length (calls_of r p)) (l, refl);
  }

  holds_unbroken : AllHold s r → (clause : Clause) (p k : ℕ) → ¬ Breaks clause s r p k
  holds_unbroken all the.Script p k b =
      elim (below_or p (length r.peers)) [ inl h ↦ b.1 (all.script p k (omega (arith, h, lists.calls)) b.0) | inr h ↦ b.1 (script_beyond s.commands r p k h (omega (arith, h, lists.commands, lists.calls))) ]
  holds_unbroken all the.Keys p k b = b.1 (all.legal.keys p k)
  holds_unbroken all the.Order p k b = b.1 (all.legal.order p k)
  holds_unbroken all the.Prefix p k b = b.1 (all.legal.prefix p k)
  holds_unbroken all the.Contents p k b = b.1 (all.legal.contents p k)
  holds_unbroken all the.Whole p k b = b.2 (subst (λ n. HasNoNext s.opening.wires r p n) (sym b.1) (all.whole p b.0))

  judged_legal : (v : Verdict) → IsJudged s r v → (v ≡ says.Legal ↔ AllHold s r)
  judged_legal says.Legal j = ((λ _. j), (λ _. refl))
  judged_legal (says.Broken clause p k) j = ((λ e. cc e), (λ all. absurd (holds_unbroken all clause p k j.breaks)))

  judged_break : (v : Verdict) → IsJudged s r v → SaysBreak s r v
  judged_break says.Legal j = tt
  judged_break (says.Broken clause p k) j = j

  pub if_legal : (o : Result Verdict AllocError) → IfOk o (IsJudged s r) → IfOk o (λ v. v ≡ says.Legal ↔ AllHold s r)
  if_legal o j = IfOk-weaker o (IsJudged s r) (λ v. v ≡ says.Legal ↔ AllHold s r) judged_legal j

  pub if_broken : (o : Result Verdict AllocError) → IfOk o (IsJudged s r) → IfOk o (SaysBreak s r)
  if_broken o j = IfOk-weaker o (IsJudged s r) (SaysBreak s r) judged_break j
