-- What is gathered with one stamped call more.
use Rattle.std.specs.Prelude.{◌≡◌, refl, ℕ, suc, ◌+◌, ◌≢◌, ◌⊎◌, Bool, true, false, ◌&&◌, ◌||◌, ◌==◌, if◌then◌else◌, List, [], ◌∷◌, ◌++◌, length, drop, filter, slice_get, Option, Some, None}
use Rattle.std.specs.Option.{option_or}
use Rattle.std.specs.List.{list_any}
use Rattle.std.proofs.lemmas.Option.{same_Some}
use Rattle.std.proofs.lemmas.List.{length-set, drop-drop}
use Rattle.std.proofs.lemmas.List.Folds.{list_any-append}
use Rattle.std.proofs.lemmas.Bool.{eqb-true, ne_eqb}
use Rattle.std.proofs.Common.{arith, inl, inr, subst, sym, ap, ◌∙◌, append_assoc}
use Rattle.b1_model.specs.declared.naming.Key.{Key}
use Rattle.b1_model.specs.declared.naming.Wire.{Wire}
use Rattle.b1_model.specs.declared.records.Record.{Record}
use Rattle.b1_model.specs.declared.records.Stamp.{Stamp}
use Rattle.b1_model.specs.Names.{Node, calls_of, made}
use Rattle.b1_model.specs.Ledger.{is_before, stamps_from, message, table, has_node, is_destroyed_in, destructions_before}
use Rattle.b1_judge_facts.specs.declared.gather.Pace.{Pace}
use Rattle.b1_judge_facts.specs.declared.gather.Gathering.{Gathering}
use Rattle.b1_judge_facts.specs.Facts.{Rises, doomed}
use Rattle.b1_judge_facts.specs.Kept.{kept_at, kept_nodes, comes_before}
use Rattle.b1_judge_facts.specs.Standing.{standing}
use Rattle.b1_judge_facts.specs.Gathering.{Takes}
use Rattle.b1_judge_facts.proofs.Orders.{below, is_of}
use Rattle.b1_judge_facts.proofs.Starts.{set_cases}
use Rattle.b1_judge_facts.proofs.Dooms.{first_nodes, destruction_at, destruction_here, before_next, destroyed_by_one}
use Rattle.b1_judge_facts.proofs.Late.{dooms_before}
use Rattle.b1_judge_facts.proofs.SoFar.{is_in, Follows, IsSoFar, after_at}
use Rattle.b1_judge_facts.proofs.Step.{all_after, next, at, reached_is, gone_before, message_here, nodes_by, nodes_here, chain_before}

or_end : (b : Bool) → (b || false) ≡ b
or_end true = refl
or_end false = refl

more_in : (done : List Stamp) (s : Stamp) (t q : ℕ) → is_in (done ++ s ∷ []) t q ≡ (is_in done t q || ((s.stamp == t) && (s.origin == q)))
more_in done s t q = list_any-append (λ z. (z.stamp == t) && (z.origin == q)) done (s ∷ []) ∙ ap (λ b. is_in done t q || b) (or_end ((s.stamp == t) && (s.origin == q)))

and_parts : (a b : Bool) → (a && b) ≡ true → (a ≡ true) × (b ≡ true)
and_parts true true e = (refl, refl)
and_parts true false e = cc e
and_parts false b e = cc e

-- what is kept under one stamp and origin more, where f is what should be kept under each
kept_more : {X : Type 0} (w old : Option X) (f : Option X) (same seen : Bool) → (same ≡ true → w ≡ f) → old ≡ (if seen then f else None) → (if same then option_or w old else old) ≡ (if seen || same then f else None)
kept_more w old f true seen h e = one w f seen (h refl) e
  where
    one : (w f : Option _) (seen : Bool) → w ≡ f → old ≡ (if seen then f else None) → option_or w old ≡ (if seen || true then f else None)
    one (Some x) f true g i = g
    one (Some x) f false g i = g
    one None f true g i = i
    one None f false g i = i ∙ g
kept_more w old f false true h e = e
kept_more w old f false false h e = e

nodes_more : (w old : Option (List (Option Node))) (f : List (Option Node)) (same seen : Bool) → (same ≡ true → kept_nodes w ≡ f) → kept_nodes old ≡ (if seen then f else []) → kept_nodes (if same then option_or w old else old) ≡ (if seen || same then f else [])
nodes_more w old f true seen h e = one w seen (h refl) e
  where
    one : (w : Option (List (Option Node))) (seen : Bool) → kept_nodes w ≡ f → kept_nodes old ≡ (if seen then f else []) → kept_nodes (option_or w old) ≡ (if seen || true then f else [])
    one (Some x) true g i = g
    one (Some x) false g i = g
    one None true g i = i
    one None false g i = i ∙ g
nodes_more w old f false true h e = e
nodes_more w old f false false h e = e

-- the first destruction of a node, with one destruction more behind it
late_more : (w : Option (ℕ × ℕ)) (s : Stamp) (key : Key) (has was : Bool) → comes_before w key ≡ was → ((d : ℕ × ℕ) → w ≡ Some d → is_before d.0 d.1 s.stamp s.origin ≡ true) → comes_before (option_or w (if has then Some (s.stamp, s.origin) else None)) key ≡ (was || (is_before s.stamp s.origin key.stamp key.origin && has))
late_more (Some d) s key has was e low = e ∙ go (is_before d.0 d.1 key.stamp key.origin) was (is_before s.stamp s.origin key.stamp key.origin) has e (λ f. chain_before d.0 d.1 s.stamp s.origin key.stamp key.origin (low d refl) f)
  where
    go : (a b c h : Bool) → a ≡ b → (c ≡ true → a ≡ true) → b ≡ (b || (c && h))
    go a true c h e f = refl
    go a false true h e f = cc (e, f refl)
    go a false false h e f = refl
late_more None s key true was e low = go was (is_before s.stamp s.origin key.stamp key.origin) e
  where
    go : (b c : Bool) → false ≡ b → c ≡ (b || (c && true))
    go true c e = cc e
    go false true e = refl
    go false false e = refl
late_more None s key false was e low = go was (is_before s.stamp s.origin key.stamp key.origin) e
  where
    go : (b c : Bool) → false ≡ b → false ≡ (b || (c && false))
    go true c e = cc e
    go false true e = refl
    go false false e = refl

module _ (ws : List Wire) (r : Record) (rises : Rises r) (done rest : List Stamp) (s : Stamp) (g g' : Gathering) (h : IsSoFar ws r done (s ∷ rest) g) (t : Takes s g g') where
  -- the peer whose call it is
  next_follows : Follows ws r rest s.origin t.next
  next_follows = record {
    standing_is = t.same_standing ∙ reached_is ws r rises done rest s g h g' t ∙ ap (standing ws r s.origin) (sym call_is);
    left_is = (next ws r rises done rest s g h g' t).rest_is ∙ ap (stamps_from s.origin (t.pace.call + suc place)) (drop-drop (suc place) t.pace.call (calls_of r s.origin)) ∙ ap (λ n. stamps_from s.origin n (drop n (calls_of r s.origin))) (end ∙ sym call_is);
    gone_is = λ y. t.gone_are y
        ∙ ap (λ b. b || has_node y (kept_nodes t.nodes)) (gone_before ws r rises done rest s g h g' t y)
        ∙ ap (λ ns. is_destroyed_in (destructions_before ws r s.origin s.call) y || has_node y ns) (nodes_by ws r rises done rest s g h g' t)
        ∙ ap (λ b. is_destroyed_in (destructions_before ws r s.origin s.call) y || b) (sym (one_destroys y))
        ∙ sym (list_any-append (λ d. has_node y d.nodes) (destructions_before ws r s.origin s.call) (destruction_at ws r s.origin s.call))
        ∙ ap (λ ds. is_destroyed_in ds y) (sym (before_next ws r s.origin s.call))
        ∙ ap (λ n. is_destroyed_in (destructions_before ws r s.origin n) y) (sym call_is);
  }
    where
      place : ℕ
      place = (next ws r rises done rest s g h g' t).place

      end : t.pace.call + suc place ≡ suc s.call
      end = omega (arith, (next ws r rises done rest s g h g' t).call_is)

      call_is : t.next.call ≡ suc s.call
      call_is = t.same_call ∙ t.reaches.call_is

      one_destroys : (y : Node) → is_destroyed_in (destruction_at ws r s.origin s.call) y ≡ has_node y (first_nodes (destruction_at ws r s.origin s.call))
      one_destroys y =
          ap (λ ds. is_destroyed_in ds y) (destruction_here ws r s.origin s.call t.call (at ws r rises done rest s g h g' t))
          ∙ destroyed_by_one s.origin (made ws r s.origin s.call) (table ws r s.origin s.call) (destructions_before ws r s.origin s.call) t.call.command t.call.answer y
          ∙ ap (λ ds. has_node y (first_nodes ds)) (sym (destruction_here ws r s.origin s.call t.call (at ws r rises done rest s g h g' t)))

  -- the other peers
  other_follows : (q : ℕ) (x : Pace) → q ≢ s.origin → Follows ws r (s ∷ rest) q x → Follows ws r rest q x
  other_follows q x n f =
      let other : (s.origin == q) ≡ false = ne_eqb s.origin q (λ e. n (sym e)) in
      let tail : filter (is_of q) (s ∷ rest) ≡ filter (is_of q) rest = rw other refl in
      record { standing_is = f.standing_is; left_is = sym tail ∙ f.left_is; gone_is = f.gone_is }

  pub gathered_next : IsSoFar ws r (done ++ s ∷ []) rest g'
  gathered_next = record {
    rec_is = t.rec_is ∙ h.rec_is;
    split = append_assoc done (s ∷ []) rest ∙ h.split;
    count = ap length t.paces_are ∙ length-set g.paces.items s.origin t.next ∙ h.count;
    paces_are = λ q x e. pace q x (set_cases g.paces.items s.origin q t.next x (ap (λ l. slice_get l q) (sym t.paces_are) ∙ e));
    messages_are = λ u q. t.messages_are u q
        ∙ kept_more _ (kept_at g.messages u q) (message ws r u q) ((s.stamp == u) && (s.origin == q)) (is_in done u q) (λ e. message_here ws r rises done rest s g h g' t ∙ here_message u q e) (h.messages_are u q)
        ∙ ap (λ b. if b then message ws r u q else None) (sym (more_in done s u q));
    doomed_are = λ u q. ap kept_nodes (t.destroyed_are u q)
        ∙ nodes_more t.nodes (kept_at g.destroyed u q) (doomed ws r u q) ((s.stamp == u) && (s.origin == q)) (is_in done u q) (λ e. nodes_here ws r rises done rest s g h g' t ∙ here_doomed u q e) (h.doomed_are u q)
        ∙ ap (λ b. if b then doomed ws r u q else []) (sym (more_in done s u q));
    late_are = λ x key. ap (λ w. comes_before w key) (t.first_are x)
        ∙ late_more (kept_at g.first x.owner x.serial) s key (has_node x (kept_nodes t.nodes)) (list_any (dooms_before ws r x key) done) (h.late_are x key) (λ d e. h.first_are x d 0 s e refl)
        ∙ ap (λ ns. list_any (dooms_before ws r x key) done || (is_before s.stamp s.origin key.stamp key.origin && has_node x ns)) (nodes_here ws r rises done rest s g h g' t)
        ∙ ap (λ b. list_any (dooms_before ws r x key) done || b) (sym (or_end (dooms_before ws r x key s)))
        ∙ sym (list_any-append (dooms_before ws r x key) done (s ∷ []));
    first_are = λ x d i z e f. first x d i z (sym (t.first_are x) ∙ e) f;
  }
    where
      pace : (q : ℕ) (x : Pace) → (((q ≡ s.origin) × (x ≡ t.next)) ⊎ ((q ≢ s.origin) × (slice_get g.paces.items q ≡ Some x))) → Follows ws r rest q x
      pace q x (inl e) = subst (λ p. Follows ws r rest p x) (sym e.0) (subst (Follows ws r rest s.origin) (sym e.1) next_follows)
      pace q x (inr e) = other_follows q x e.0 (h.paces_are q x e.1)

      here_message : (u q : ℕ) → ((s.stamp == u) && (s.origin == q)) ≡ true → message ws r s.stamp s.origin ≡ message ws r u q
      here_message u q e =
          let both = and_parts (s.stamp == u) (s.origin == q) e in
          ap (λ v. message ws r v s.origin) (eqb-true s.stamp u both.0) ∙ ap (message ws r u) (eqb-true s.origin q both.1)

      here_doomed : (u q : ℕ) → ((s.stamp == u) && (s.origin == q)) ≡ true → doomed ws r s.stamp s.origin ≡ doomed ws r u q
      here_doomed u q e =
          let both = and_parts (s.stamp == u) (s.origin == q) e in
          ap (λ v. doomed ws r v s.origin) (eqb-true s.stamp u both.0) ∙ ap (doomed ws r u) (eqb-true s.origin q both.1)

      first : (x : Node) (d : ℕ × ℕ) (i : ℕ) (z : Stamp) → option_or (kept_at g.first x.owner x.serial) (if has_node x (kept_nodes t.nodes) then Some (s.stamp, s.origin) else None) ≡ Some d → slice_get rest i ≡ Some z → is_before d.0 d.1 z.stamp z.origin ≡ true
      first x d i z e f = go (kept_at g.first x.owner x.serial) (has_node x (kept_nodes t.nodes)) refl e
        where
          here : below s z ≡ true
          here = after_at s rest i z (all_after ws r rises done rest s g h) f

          go : (w : Option (ℕ × ℕ)) (b : Bool) → kept_at g.first x.owner x.serial ≡ w → option_or w (if b then Some (s.stamp, s.origin) else None) ≡ Some d → is_before d.0 d.1 z.stamp z.origin ≡ true
          go (Some c) b k l = let same : c ≡ d = same_Some c d l in subst (λ y. is_before y.0 y.1 z.stamp z.origin ≡ true) same (h.first_are x c (suc i) z k f)
          go None true k l = let same : (s.stamp, s.origin) ≡ d = same_Some (s.stamp, s.origin) d l in subst (λ y. is_before y.0 y.1 z.stamp z.origin ≡ true) same here
          go None false k l = cc l
