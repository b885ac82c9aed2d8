-- The destruction with a stamp is that of the one call that has the stamp.
use Rattle.std.specs.Prelude.{◌≡◌, refl, ℕ, zero, suc, ◌<◌, ◌≢◌, ◌⊎◌, Bool, true, false, ◌||◌, ◌==◌, if◌then◌else◌, List, [], ◌∷◌, ◌++◌, length, find, slice_get, Option, Some, None}
use Rattle.std.specs.Option.{option_or}
use Rattle.std.specs.List.{list_any}
use Rattle.std.proofs.lemmas.Option.{same_Some, slice_get_within}
use Rattle.std.proofs.lemmas.List.Folds.{find-append, list_any-append}
use Rattle.std.proofs.lemmas.Bool.{eqb-true, cases_eq}
use Rattle.std.proofs.Common.{arith, inl, inr, subst, sym, ap, ◌∙◌, eq-eqb}
use Rattle.b1_model.specs.declared.commands.Command.{Command}
use Rattle.b1_model.specs.declared.answers.Answer.{Answer}
use Rattle.b1_model.specs.declared.answers.Answer.TheVariants as ans
use Rattle.b1_model.specs.declared.naming.Wire.{Wire}
use Rattle.b1_model.specs.declared.records.Call.{Call}
use Rattle.b1_model.specs.declared.records.Record.{Record}
use Rattle.b1_model.specs.Names.{Node, Name, calls_of, made}
use Rattle.b1_model.specs.Ledger.{Table, table, stamp_of, has_node, Destruction, is_destroyed_in, destruction_by, add_destruction, destructions_before, destructions_of}
use Rattle.b1_ledger.proofs.Sequences.{or_true, or_left, or_right, option_cases}
use Rattle.b1_ledger.proofs.Bound.{one_call}
use Rattle.b1_judge_facts.specs.Facts.{Rises, nodes_in, doomed}
use Rattle.b1_judge_facts.specs.Kept.{kept_nodes}
use Rattle.b1_judge_facts.specs.Steps.{doomed_by}

-- the nodes of the first destruction
abbrev pub first_nodes : List Destruction → List (Option Node)
first_nodes [] = []
first_nodes (d ∷ ds) = d.nodes

-- what a call's destruction is
pub record IsDestruction (p : ℕ) (a : Answer) (d : Destruction) (ds : List Destruction) : Type 0 where
  pub alone : ds ≡ d ∷ []
  pub stamp_is : stamp_of a ≡ Some d.stamp
  pub origin_is : d.origin ≡ p

destroys_or_not : (p : ℕ) (known : List Name) (t : Table) (earlier : List Destruction) (c : Command) (a : Answer) → (destruction_by p known t earlier c a ≡ []) ⊎ ((d : Destruction) × IsDestruction p a d (destruction_by p known t earlier c a))
destroys_or_not p known t earlier c (ans.Destroyed stamp) = inr (_, record { alone = refl; stamp_is = refl; origin_is = refl })
destroys_or_not p known t earlier c (ans.Reset (Some stamp)) = inr (_, record { alone = refl; stamp_is = refl; origin_is = refl })
destroys_or_not p known t earlier c (ans.Reset None) = inl refl
destroys_or_not p known t earlier c a = inl refl

-- the destroyed nodes by what is gone are those by the earlier destructions
pub doomed_by_is : (p : ℕ) (known : List Name) (t : Table) (gone : Node → Bool) (earlier : List Destruction) (c : Command) (a : Answer) → ((x : Node) → gone x ≡ is_destroyed_in earlier x) → kept_nodes (doomed_by p known t gone c a) ≡ first_nodes (destruction_by p known t earlier c a)
doomed_by_is p known t gone earlier c (ans.Destroyed stamp) h = refl
doomed_by_is p known t gone earlier c (ans.Reset (Some stamp)) h =
    let same : gone ≡ is_destroyed_in earlier = λ i x. h x i in
    ap (λ g. kept_nodes (doomed_by p known t g c (ans.Reset (Some stamp)))) same
doomed_by_is p known t gone earlier c (ans.Reset None) h = refl
doomed_by_is p known t gone earlier c a h = refl

-- which nodes one call destroys
pub destroyed_by_one : (p : ℕ) (known : List Name) (t : Table) (earlier : List Destruction) (c : Command) (a : Answer) (x : Node) → is_destroyed_in (destruction_by p known t earlier c a) x ≡ has_node x (first_nodes (destruction_by p known t earlier c a))
destroyed_by_one p known t earlier c a x = elim (destroys_or_not p known t earlier c a) [
  | inl e ↦ rw e refl
  | inr h ↦ rw h.1.alone (end (has_node x h.0.nodes))
]
  where
    end : (b : Bool) → (b || false) ≡ b
    end true = refl
    end false = refl

-- an unstamped call destroys nothing
pub no_destruction : (p : ℕ) (known : List Name) (t : Table) (earlier : List Destruction) (c : Command) (a : Answer) → stamp_of a ≡ None → destruction_by p known t earlier c a ≡ []
no_destruction p known t earlier c a e = elim (destroys_or_not p known t earlier c a) [ inl h ↦ h | inr h ↦ cc (e, h.1.stamp_is) ]

-- no destruction where there is no call
abbrev pub destruction_in : ℕ → List Name → Table → List Destruction → Option Call → List Destruction
destruction_in q known t earlier None = []
destruction_in q known t earlier (Some c) = destruction_by q known t earlier c.command c.answer

module _ (ws : List Wire) (r : Record) (q : ℕ) where
  -- the destruction that call k is
  abbrev pub destruction_at : ℕ → List Destruction
  destruction_at k = destruction_in q (made ws r q k) (table ws r q k) (destructions_before ws r q k) (slice_get (calls_of r q) k)

  pub destruction_here : (k : ℕ) (c : Call) → slice_get (calls_of r q) k ≡ Some c → destruction_at k ≡ destruction_by q (made ws r q k) (table ws r q k) (destructions_before ws r q k) c.command c.answer
  destruction_here k c e = ap (destruction_in q (made ws r q k) (table ws r q k) (destructions_before ws r q k)) e

  pub before_next : (k : ℕ) → destructions_before ws r q (suc k) ≡ destructions_before ws r q k ++ destruction_at k
  before_next k = go (slice_get (calls_of r q) k)
    where
      nil : (xs : List Destruction) → xs ≡ xs ++ []
      nil [] = refl
      nil (x ∷ xs) = ap (λ l. x ∷ l) (nil xs)

      go : (o : Option Call) → add_destruction q (made ws r q k) (table ws r q k) o (destructions_before ws r q k) ≡ destructions_before ws r q k ++ destruction_in q (made ws r q k) (table ws r q k) (destructions_before ws r q k) o
      go None = nil (destructions_before ws r q k)
      go (Some c) = refl

  -- where a destruction comes from
  pub record ComesFrom (d : Destruction) : Type 0 where
    pub place : ℕ
    pub call : Call
    pub at : slice_get (calls_of r q) place ≡ Some call
    pub alone : destruction_at place ≡ d ∷ []
    pub stamp_is : stamp_of call.answer ≡ Some d.stamp
    pub origin_is : d.origin ≡ q

  of_call : (k : ℕ) (f : Destruction → Bool) → list_any f (destruction_at k) ≡ true → (d : Destruction) × ComesFrom d × (f d ≡ true)
  of_call k f h = go (slice_get (calls_of r q) k) refl h
    where
      end : (b : Bool) → (b || false) ≡ true → b ≡ true
      end true e = refl
      end false e = e

      go : (o : Option Call) → slice_get (calls_of r q) k ≡ o → list_any f (destruction_in q (made ws r q k) (table ws r q k) (destructions_before ws r q k) o) ≡ true → (d : Destruction) × ComesFrom d × (f d ≡ true)
      go None e h = cc h
      go (Some c) e h = elim (destroys_or_not q (made ws r q k) (table ws r q k) (destructions_before ws r q k) c.command c.answer) [
        | inl n ↦ let g : false ≡ true = sym (ap (list_any f) n) ∙ h in cc g
        | inr y ↦ (y.0, record { place = k; call = c; at = e; alone = destruction_here k c e ∙ y.1.alone; stamp_is = y.1.stamp_is; origin_is = y.1.origin_is }, end (f y.0) (sym (ap (list_any f) y.1.alone) ∙ h))
      ]

  -- a destruction that passes a test comes from a call
  pub source : (f : Destruction → Bool) (n : ℕ) → list_any f (destructions_before ws r q n) ≡ true → (d : Destruction) × ComesFrom d × (f d ≡ true)
  source f zero h = cc h
  source f (suc n) h = elim (or_true (list_any f (destructions_before ws r q n)) (list_any f (destruction_at n)) (sym (ap (list_any f) (before_next n) ∙ list_any-append f (destructions_before ws r q n) (destruction_at n)) ∙ h)) [
    | inl e ↦ source f n e
    | inr e ↦ of_call n f e
  ]

  found_call : (k : ℕ) (f : Destruction → Bool) (d : Destruction) → find f (destruction_at k) ≡ Some d → ComesFrom d × (f d ≡ true)
  found_call k f d h = go (slice_get (calls_of r q) k) refl h
    where
      one : (y : Destruction) → find f (y ∷ []) ≡ Some d → (y ≡ d) × (f y ≡ true)
      one y e = pick (f y) refl e
        where
          pick : (b : Bool) → f y ≡ b → (if b then Some y else None) ≡ Some d → (y ≡ d) × (f y ≡ true)
          pick true g h = (same_Some y d h, g)
          pick false g h = cc h

      go : (o : Option Call) → slice_get (calls_of r q) k ≡ o → find f (destruction_in q (made ws r q k) (table ws r q k) (destructions_before ws r q k) o) ≡ Some d → ComesFrom d × (f d ≡ true)
      go None e h = cc h
      go (Some c) e h = elim (destroys_or_not q (made ws r q k) (table ws r q k) (destructions_before ws r q k) c.command c.answer) [
        | inl n ↦ let g : ◌≡◌ {A = Option Destruction} None (Some d) = sym (ap (find f) n) ∙ h in cc g
        | inr y ↦
            let same = one y.0 (sym (ap (find f) y.1.alone) ∙ h) in
            subst (λ z. ComesFrom z × (f z ≡ true)) same.0 (record { place = k; call = c; at = e; alone = destruction_here k c e ∙ y.1.alone; stamp_is = y.1.stamp_is; origin_is = y.1.origin_is }, same.1)
      ]

  -- the first destruction that passes a test comes from a call
  pub first_source : (f : Destruction → Bool) (n : ℕ) (d : Destruction) → find f (destructions_before ws r q n) ≡ Some d → ComesFrom d × (f d ≡ true)
  first_source f zero d h = cc h
  first_source f (suc n) d h = go (find f (destructions_before ws r q n)) refl (sym (ap (find f) (before_next n) ∙ find-append f (destructions_before ws r q n) (destruction_at n)) ∙ h) (λ e. first_source f n d e)
    where
      go : (o : Option Destruction) → find f (destructions_before ws r q n) ≡ o → option_or (find f (destructions_before ws r q n)) (find f (destruction_at n)) ≡ Some d → (find f (destructions_before ws r q n) ≡ Some d → ComesFrom d × (f d ≡ true)) → ComesFrom d × (f d ≡ true)
      go None e g ih = found_call n f d (ap (λ o. option_or o (find f (destruction_at n))) (sym e) ∙ g)
      go (Some y) e g ih = ih (e ∙ ap (λ o. option_or o (find f (destruction_at n))) (sym e) ∙ g)

  -- and what a call destroys is among the destructions
  pub among : (f : Destruction → Bool) (n k : ℕ) (d : Destruction) → k < n → destruction_at k ≡ d ∷ [] → f d ≡ true → list_any f (destructions_before ws r q n) ≡ true
  among f zero k d l e h = absurd (omega (arith, l))
  among f (suc n) k d l e h =
      ap (list_any f) (before_next n) ∙ list_any-append f (destructions_before ws r q n) (destruction_at n)
      ∙ go (cases_eq k n) (λ s. among f n k d s e h)
    where
      go : ((k ≡ n) ⊎ (k ≢ n)) → (k < n → list_any f (destructions_before ws r q n) ≡ true) → (list_any f (destructions_before ws r q n) || list_any f (destruction_at n)) ≡ true
      go (inl s) ih =
          let here : destruction_at n ≡ d ∷ [] = subst (λ j. destruction_at j ≡ d ∷ []) s e in
          or_right (list_any f (destructions_before ws r q n)) (list_any f (destruction_at n)) (ap (list_any f) here ∙ rw h refl)
      go (inr s) ih = or_left (list_any f (destructions_before ws r q n)) (list_any f (destruction_at n)) (ih (omega (arith, l, s)))

  -- a call that destroys a node is a destruction
  pub of_node : (k : ℕ) (x : Node) (c : Call) → slice_get (calls_of r q) k ≡ Some c → has_node x (first_nodes (destruction_at k)) ≡ true → (d : Destruction) × ((destruction_at k ≡ d ∷ []) × (d.origin ≡ q) × (stamp_of c.answer ≡ Some d.stamp))
  of_node k x c e h = elim (destroys_or_not q (made ws r q k) (table ws r q k) (destructions_before ws r q k) c.command c.answer) [
    | inl n ↦ let g : false ≡ true = sym (ap (λ ds. has_node x (first_nodes ds)) (destruction_here k c e ∙ n)) ∙ h in cc g
    | inr y ↦ (y.0, (destruction_here k c e ∙ y.1.alone, y.1.origin_is, y.1.stamp_is))
  ]

module _ (ws : List Wire) (r : Record) (rises : Rises r) (q : ℕ) where
  one_found : {A : Type 0} (f : A → Bool) (xs : List A) → list_any f xs ≡ true → (x : A) × (find f xs ≡ Some x) × (f x ≡ true)
  one_found f [] e = cc e
  one_found f (y ∷ ys) e = go (f y) refl e (λ h. one_found f ys h)
    where
      go : (b : Bool) → f y ≡ b → (b || list_any f ys) ≡ true → (list_any f ys ≡ true → (x : _) × (find f ys ≡ Some x) × (f x ≡ true)) → (x : _) × ((if b then Some y else find f ys) ≡ Some x) × (f x ≡ true)
      go true g h ih = (y, refl, g)
      go false g h ih = ih h

  -- of the call with a stamp
  pub doomed_is : (k t : ℕ) (c : Call) → slice_get (calls_of r q) k ≡ Some c → stamp_of c.answer ≡ Some t → doomed ws r t q ≡ first_nodes (destruction_at ws r q k)
  doomed_is k t c e s = go (option_cases (find by (destructions_of ws r q)))
    where
      by : Destruction → Bool
      by d = d.stamp == t

      same_call : (d : Destruction) → by d ≡ true → ComesFrom ws r q d → destruction_at ws r q k ≡ d ∷ []
      same_call d f h =
          let stamp : d.stamp ≡ t = eqb-true d.stamp t f in
          let place : h.place ≡ k = one_call ws r rises q h.place k t h.call c h.at e (h.stamp_is ∙ ap Some stamp) s in
          subst (λ j. destruction_at ws r q j ≡ d ∷ []) place h.alone

      go : ((find by (destructions_of ws r q) ≡ None) ⊎ ((d : Destruction) × (find by (destructions_of ws r q) ≡ Some d))) → nodes_in (find by (destructions_of ws r q)) ≡ first_nodes (destruction_at ws r q k)
      go (inl n) = elim (destroys_or_not q (made ws r q k) (table ws r q k) (destructions_before ws r q k) c.command c.answer) [
        | inl f ↦ ap nodes_in n ∙ sym (ap first_nodes (destruction_here ws r q k c e ∙ f))
        | inr y ↦
            let stamp : y.0.stamp ≡ t = same_Some y.0.stamp t (sym y.1.stamp_is ∙ s) in
            let any : list_any by (destructions_of ws r q) ≡ true = among ws r q by (length (calls_of r q)) k y.0 (slice_get_within (calls_of r q) k c e) (destruction_here ws r q k c e ∙ y.1.alone) (eq-eqb y.0.stamp t stamp) in
            let one = one_found by (destructions_of ws r q) any in
            cc (n, one.1)
      ]
      go (inr y) =
          let from = first_source ws r q by (length (calls_of r q)) y.0 y.1 in
          ap nodes_in y.1 ∙ sym (ap first_nodes (same_call y.0 from.1 from.0))
