-- The gathering from its start to its end.
use Rattle.std.specs.Prelude.{◌≡◌, refl, ℕ, zero, suc, ◌+◌, ◌<◌, ◌≤◌, ◌⊎◌, Bool, true, false, ◌==◌, if◌then◌else◌, List, [], ◌∷◌, ◌++◌, length, take, drop, find, filter, slice_get, Option, Some, None}
use Rattle.std.specs.List.{list_any}
use Rattle.std.specs.Map.{lookup}
use Rattle.std.specs.BTreeMap.{is_at}
use Rattle.std.specs.Option.{option_map}
use Rattle.std.proofs.lemmas.Option.{slice_get_within, slice_get-map, get_or_from_slice_get}
use Rattle.std.proofs.lemmas.List.{drop_all, take_more, take_all, length-map}
use Rattle.std.proofs.Common.{get_or, arith, inl, inr, subst, sym, ap, ◌∙◌}
use Rattle.b1_model.specs.declared.naming.Wire.{Wire}
use Rattle.b1_model.specs.declared.records.Call.{Call}
use Rattle.b1_model.specs.declared.records.Record.{Record}
use Rattle.b1_model.specs.declared.records.Stamp.{Stamp}
use Rattle.b1_model.specs.Names.{Node, calls_of}
use Rattle.b1_model.specs.Ledger.{stamp_of, stamps_from, order, Message, message, Destruction, is_destroyed_in, destructions_before, destructions_of}
use Rattle.b1_ledger.proofs.Sequences.{option_cases}
use Rattle.b1_ledger.proofs.Plain.{message_source, destruction_source}
use Rattle.b1_ledger.proofs.NextAfter.{is_peer}
use Rattle.b1_judge_facts.specs.declared.gather.Pace.{Pace}
use Rattle.b1_judge_facts.specs.declared.gather.Gathering.{Gathering}
use Rattle.b1_judge_facts.specs.declared.standing.Standing.{Standing}
use Rattle.b1_judge_facts.specs.Facts.{Rises, nodes_in, doomed}
use Rattle.b1_judge_facts.specs.Kept.{pair_cmp, kept_nodes, comes_before, IsKept}
use Rattle.b1_judge_facts.specs.Standing.{standing}
use Rattle.b1_judge_facts.specs.Start.{AreBegun}
use Rattle.b1_judge_facts.specs.Gathering.{Takes, IsFresh, IsStart}
use Rattle.b1_judge_facts.proofs.Orders.{is_of, complete, sound, restricted}
use Rattle.b1_judge_facts.proofs.Walking.{drop_at}
use Rattle.b1_judge_facts.proofs.Late.{dooms_before, late_by_order}
use Rattle.b1_judge_facts.proofs.SoFar.{is_in, Follows, IsSoFar, in_of}
use Rattle.b1_judge_facts.proofs.Step.{ahead}
use Rattle.b1_judge_facts.proofs.Next.{gathered_next}

module _ (ws : List Wire) (r : Record) (rises : Rises r) where
  -- ---- the end

  seen : (t q k : ℕ) (c : Call) → slice_get (calls_of r q) k ≡ Some c → stamp_of c.answer ≡ Some t → is_in (order r) t q ≡ true
  seen t q k c e f = let at = complete r rises q k t c e f in in_of (order r) at.0 (record { stamp = t; origin = q; call = k }) at.1

  all_messages : (t q : ℕ) → (if is_in (order r) t q then message ws r t q else None) ≡ message ws r t q
  all_messages t q = go (option_cases (message ws r t q))
    where
      none : (b : Bool) (o : Option Message) → o ≡ None → (if b then o else None) ≡ o
      none true o e = refl
      none false o e = sym e

      go : ((message ws r t q ≡ None) ⊎ ((m : Message) × (message ws r t q ≡ Some m))) → (if is_in (order r) t q then message ws r t q else None) ≡ message ws r t q
      go (inl e) = none (is_in (order r) t q) (message ws r t q) e
      go (inr m) = let from = message_source ws r t q m.0 m.1 in let here : is_in (order r) t q ≡ true = seen t q from.0 from.1 from.2 from.3 in rw here refl

  all_doomed : (t q : ℕ) → (if is_in (order r) t q then doomed ws r t q else []) ≡ doomed ws r t q
  all_doomed t q = go (option_cases (find (λ d. d.stamp == t) (destructions_of ws r q)))
    where
      none : (b : Bool) (o : List (Option Node)) → o ≡ [] → (if b then o else []) ≡ o
      none true o e = refl
      none false o e = sym e

      go : ((find (λ d. d.stamp == t) (destructions_of ws r q) ≡ None) ⊎ ((d : Destruction) × (find (λ d. d.stamp == t) (destructions_of ws r q) ≡ Some d))) → (if is_in (order r) t q then doomed ws r t q else []) ≡ doomed ws r t q
      go (inl e) = none (is_in (order r) t q) (doomed ws r t q) (ap nodes_in e)
      go (inr d) = let from = destruction_source ws r q (length (calls_of r q)) t d.0 d.1 in let here : is_in (order r) t q ≡ true = seen t q from.0 from.1 from.2 from.3 in rw here refl

  finish : (done : List Stamp) (g : Gathering) → done ≡ order r → IsSoFar ws r done [] g → IsKept ws r done g.messages g.destroyed g.first
  finish done g e h = record {
    order_is = e;
    message_is = λ t q. h.messages_are t q ∙ ap (λ l. if is_in l t q then message ws r t q else None) e ∙ all_messages t q;
    doomed_is = λ t q. h.doomed_are t q ∙ ap (λ l. if is_in l t q then doomed ws r t q else []) e ∙ all_doomed t q;
    late_is = λ x key. h.late_are x key ∙ ap (list_any (dooms_before ws r x key)) e ∙ late_by_order ws r rises x key;
  }

  pub gathered_all : (xs ys : List Stamp) (i : ℕ) (g : Gathering) → xs ≡ ys → ys ≡ order r → length xs ≤ i → IsSoFar ws r (take i xs) (drop i xs) g → IsKept ws r ys g.messages g.destroyed g.first
  gathered_all xs ys i g same e l h =
      let all : take i xs ≡ ys = take_all i xs l ∙ same in
      let none : drop i xs ≡ [] = drop_all i xs l in
      finish ys g e (subst (λ z. IsSoFar ws r ys z g) none (subst (λ z. IsSoFar ws r z (drop i xs) g) all h))

  -- ---- a step of the loop

  pub at_stamp : (xs : List Stamp) (i : ℕ) (d : Stamp) (g : Gathering) → i < length xs → IsSoFar ws r (take i xs) (drop i xs) g → IsSoFar ws r (take i xs) (get_or xs i d ∷ drop (i + 1) xs) g
  at_stamp xs i d g l h = subst (λ ys. IsSoFar ws r (take i xs) ys g) (drop_at xs i (get_or xs i d) l (other xs i (get_or xs i d) l)) h
    where
      other : (ys : List Stamp) (j : ℕ) (e : Stamp) → j < length ys → get_or ys j d ≡ get_or ys j e
      other [] j e k = absurd (omega (arith, k))
      other (y ∷ ys) zero e k = refl
      other (y ∷ ys) (suc j) e k = other ys j e (omega (arith, k))

  in_order : (done rest : List Stamp) (s : Stamp) (g : Gathering) → IsSoFar ws r done (s ∷ rest) g → (c : Call) × (slice_get (calls_of r s.origin) s.call ≡ Some c)
  in_order done rest s g h =
      let at = sound r rises (length done) s (ap (λ l. slice_get l (length done)) (sym h.split) ∙ middle done) in
      (at.0, at.1)
    where
      middle : (xs : List Stamp) → slice_get (xs ++ s ∷ rest) (length xs) ≡ Some s
      middle [] = refl
      middle (x ∷ xs) = middle xs

  pub peer_there : (done rest : List Stamp) (s : Stamp) (g : Gathering) → IsSoFar ws r done (s ∷ rest) g → s.origin < length g.paces.items
  peer_there done rest s g h = let c = in_order done rest s g h in omega (arith, is_peer r s.origin s.call c.0 c.1, h.count)

  pub stamp_there : (done rest : List Stamp) (s : Stamp) (g : Gathering) → IsSoFar ws r done (s ∷ rest) g → s.call < length (calls_of g.rec.now s.origin)
  stamp_there done rest s g h = let c = in_order done rest s g h in subst (λ z. s.call < length (calls_of z s.origin)) (sym h.rec_is) (slice_get_within (calls_of r s.origin) s.call c.0 c.1)

  pub not_past : (done rest : List Stamp) (s : Stamp) (g : Gathering) → IsSoFar ws r done (s ∷ rest) g → (x : Pace) → slice_get g.paces.items s.origin ≡ Some x → x.call ≤ s.call
  not_past done rest s g h x e = ahead ws r rises done rest s g h x e

  pub taken : (xs : List Stamp) (i : ℕ) (d : Stamp) (g g' : Gathering) → i < length xs → IsSoFar ws r (take i xs) (drop i xs) g → Takes (get_or xs i d) g g' → IsSoFar ws r (take (i + 1) xs) (drop (i + 1) xs) g'
  taken xs i d g g' l h t = subst (λ ys. IsSoFar ws r ys (drop (i + 1) xs) g') (sym (take_more xs i d l)) (gathered_next ws r rises (take i xs) (drop (i + 1) xs) (get_or xs i d) g g' (at_stamp xs i d g l h) t)

  -- ---- the start

  pub started : (xs : List Stamp) (ss : List Standing) (n : ℕ) (g : Gathering) → xs ≡ order r → n ≡ length r.peers → AreBegun ws ws n ss → IsStart r ss g → IsSoFar ws r [] xs g
  started xs ss n g e m b h = record {
    rec_is = h.rec_is;
    split = e;
    count = sym (length-map g.paces.items (λ (x : Pace). x.standing)) ∙ ap length h.paces_are.standings_are ∙ b.count ∙ m;
    paces_are = λ q x at. follows q x at;
    messages_are = λ t q. ap (λ es. lookup (is_at (pair_cmp (t, q))) es) h.messages_are;
    doomed_are = λ t q. ap (λ es. kept_nodes (lookup (is_at (pair_cmp (t, q))) es)) h.destroyed_are;
    late_are = λ x key. ap (λ es. comes_before (lookup (is_at (pair_cmp (x.owner, x.serial))) es) key) h.first_are;
    first_are = λ x d i s f k. cc (sym (ap (λ es. lookup (is_at (pair_cmp (x.owner, x.serial))) es) h.first_are) ∙ f);
  }
    where
      follows : (q : ℕ) (x : Pace) → slice_get g.paces.items q ≡ Some x → Follows ws r xs q x
      follows q x at =
          let stands : slice_get ss q ≡ Some x.standing = ap (λ l. slice_get l q) (sym h.paces_are.standings_are) ∙ slice_get-map (λ (y : Pace). y.standing) g.paces.items q ∙ ap (option_map (λ (y : Pace). y.standing)) at in
          let fresh : IsFresh x = subst IsFresh (get_or_from_slice_get g.paces.items q x x at) (h.paces_are.fresh q x (slice_get_within g.paces.items q x at)) in
          record {
            standing_is = b.each q x.standing stands ∙ ap (standing ws r q) (sym fresh.call_is);
            left_is = ap (filter (is_of q)) e ∙ restricted r rises q ∙ ap (λ k. stamps_from q k (drop k (calls_of r q))) (sym fresh.call_is);
            gone_is = λ y. ap (list_any (is_at (pair_cmp (y.owner, y.serial)))) fresh.gone_is ∙ ap (λ k. is_destroyed_in (destructions_before ws r q k) y) (sym fresh.call_is);
          }
