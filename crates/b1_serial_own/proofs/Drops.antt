-- What drops of one peer's references make of their nodes' owners.
use Rattle.std.proofs.Common.{◌≡◌, ◌≢◌, ◌⊎◌, refl, sym, ap, ◌∙◌, subst, inl, inr, ℕ, ◌<◌, ◌==◌, max, Bool, true, false, cond, ◌&&◌, ◌||◌, List, [], ◌∷◌, ◌++◌, length, get_or, map, arith}
use Rattle.std.specs.List.{list_any}
use Rattle.std.proofs.lemmas.Bool.{cases_eq, eq-eqb, ne_eqb}
use Rattle.std.proofs.lemmas.List.{get_or-set_other, length-set}
use Rattle.b1_model.specs.declared.naming.Key.{Key}
use Rattle.b1_model.specs.declared.naming.NodeRef.{NodeRef}
use Rattle.b1_model.specs.declared.entries.Entry.{Entry}
use Rattle.b1_model.specs.declared.entries.Entry.TheVariants.{ReleaseNotice}
use Rattle.b1_model.specs.MachineParts.{PeerPart, no_origin, is_release_notice, is_live, node_at, no_node}
use Rattle.b1_model.specs.MachineTables.{uncounted, is_unheld}
use Rattle.b1_model.specs.MachineReceive.{dropped_refs, with_release_notice, is_released, dropped}
use Rattle.b1_step.specs.Rights.{Has}
use Rattle.b1_step.proofs.Lists.{has_append, map_set}
use Rattle.b1_step.proofs.Queues.{has_put_new, has_put_old, put_has}
use Rattle.b1_serial_rest.specs.Standing.{own_of}

abbrev pub Refs : Type 0
Refs = List (NodeRef × ℕ)

-- some of them are a peer's
abbrev pub touches : ℕ → Refs → Bool
touches q done = list_any (λ (r : NodeRef × ℕ). r.0.owner == q) done

-- a clock that drops with a clock raise, where there are some
abbrev pub clock_after : ℕ → ℕ → Refs → ℕ → ℕ
clock_after c q done a = cond (touches q done) (max a c) a

-- the release notice of a node with a clock
abbrev pub release_note : ℕ → ℕ → Key × Entry
release_note clock serial = (record { stamp = clock; origin = no_origin; index = serial }, ReleaseNotice serial)

-- a reference that was dropped, of peer q
pub record DroppedAt (q : ℕ) (done : Refs) (serial : ℕ) : Type 0 where
  pub ref : NodeRef × ℕ
  pub there : Has done ref
  pub owner : ref.0.owner ≡ q
  pub serial_is : ref.0.serial ≡ serial

-- a part of peer q before and after drops with a clock
pub record DropsAt (c q : ℕ) (done : Refs) (z w : PeerPart) : Type 0 where
  pub shape : w ≡ record z { clock = w.clock; queue = w.queue; nodes = w.nodes }
  pub nodes : map own_of w.nodes ≡ map own_of z.nodes
  pub clock : w.clock ≡ clock_after c q done z.clock
  -- only their release notices come, and nothing goes
  pub comes : (f : Key × Entry) → Has w.queue f → Has z.queue f ⊎ ((serial : ℕ) × DroppedAt q done serial × (f ≡ release_note (max z.clock c) serial))
  pub stays : (f : Key × Entry) → Has z.queue f → Has w.queue f
  -- a node that is live and that nobody has any more has its notice
  pub noticed : (serial : ℕ) → DroppedAt q done serial → is_released w serial ≡ true → (k : Key) × Has w.queue (k, ReleaseNotice serial)
  pub made : (serial : ℕ) → DroppedAt q done serial → serial < length w.nodes
  -- it had none before
  pub unnoticed : (serial : ℕ) (f : Key × Entry) → DroppedAt q done serial → Has z.queue f → is_release_notice serial f ≡ false

-- before the first drop
pub none_dropped : (c q : ℕ) (z : PeerPart) → DropsAt c q [] z z
none_dropped c q z = record {
  shape = refl;
  nodes = refl;
  clock = refl;
  comes = λ f there. inl there;
  stays = λ f there. there;
  noticed = λ serial at is. absurd at.there;
  made = λ serial at. absurd at.there;
  unnoticed = λ serial f at there. absurd at.there;
}

touches_more : (q : ℕ) (done : Refs) (r : NodeRef × ℕ) → touches q (done ++ r ∷ []) ≡ touches q done || (r.0.owner == q)
touches_more q [] r = elim (r.0.owner == q) as (λ b. b || false ≡ b) [ true ↦ refl | false ↦ refl ]
touches_more q (t ∷ rest) r = ap (λ b. (t.0.owner == q) || b) (touches_more q rest r) ∙ by (t.0.owner == q)
  where
    by : (b : Bool) → b || (touches q rest || (r.0.owner == q)) ≡ (b || touches q rest) || (r.0.owner == q)
    by true = refl
    by false = refl

-- a dropped reference is an earlier one, or the last
last_or_earlier : (q serial : ℕ) (done : Refs) (r : NodeRef × ℕ) → DroppedAt q (done ++ r ∷ []) serial → DroppedAt q done serial ⊎ ((r.0.owner ≡ q) × (r.0.serial ≡ serial))
last_or_earlier q serial done r at = by (has_append done (r ∷ []) at.ref at.there)
  where
    by : Has done at.ref ⊎ Has (r ∷ []) at.ref → DroppedAt q done serial ⊎ ((r.0.owner ≡ q) × (r.0.serial ≡ serial))
    by (inl old) = inl (record { ref = at.ref; there = old; owner = at.owner; serial_is = at.serial_is })
    by (inr (inl same)) = inr (ap (λ (t : NodeRef × ℕ). t.0.owner) (sym same) ∙ at.owner, ap (λ (t : NodeRef × ℕ). t.0.serial) (sym same) ∙ at.serial_is)
    by (inr (inr none)) = absurd none

has_last : (done : Refs) (r : NodeRef × ℕ) → Has (done ++ r ∷ []) r
has_last [] r = inl refl
has_last (t ∷ rest) r = inr (has_last rest r)

has_earlier : (done : Refs) (r t : NodeRef × ℕ) → Has done t → Has (done ++ r ∷ []) t
has_earlier [] r t there = absurd there
has_earlier (u ∷ rest) r t (inl same) = inl same
has_earlier (u ∷ rest) r t (inr there) = inr (has_earlier rest r t there)

dropped_earlier : (q serial : ℕ) (done : Refs) (r : NodeRef × ℕ) → DroppedAt q done serial → DroppedAt q (done ++ r ∷ []) serial
dropped_earlier q serial done r at = record { ref = at.ref; there = has_earlier done r at.ref at.there; owner = at.owner; serial_is = at.serial_is }

module _ (c q : ℕ) (done : Refs) (z w : PeerPart) (r : NodeRef × ℕ) (k : DropsAt c q done z w) where
  -- a drop elsewhere
  pub drop_beside : r.0.owner ≢ q → DropsAt c q (done ++ r ∷ []) z w
  drop_beside apart = record {
    shape = k.shape;
    nodes = k.nodes;
    clock = k.clock ∙ ap (λ b. cond b (max z.clock c) z.clock) (sym (touches_more q done r ∙ ap (λ b. touches q done || b) (ne_eqb r.0.owner q apart) ∙ or_false (touches q done)));
    comes = λ f there. elim (k.comes f there) [ inl old ↦ inl old | inr new ↦ inr (new.0, dropped_earlier q new.0 done r new.1, new.2) ];
    stays = k.stays;
    noticed = λ serial at is. elim (last_or_earlier q serial done r at) [ inl old ↦ k.noticed serial old is | inr last ↦ absurd (apart last.0) ];
    made = λ serial at. elim (last_or_earlier q serial done r at) [ inl old ↦ k.made serial old | inr last ↦ absurd (apart last.0) ];
    unnoticed = λ serial f at there. elim (last_or_earlier q serial done r at) [ inl old ↦ k.unnoticed serial f old there | inr last ↦ absurd (apart last.0) ];
  }
    where
      or_false : (b : Bool) → b || false ≡ b
      or_false true = refl
      or_false false = refl

  -- a drop here
  module _ (holder : ℕ) (here : r.0.owner ≡ q) (unqueued : (f : Key × Entry) → Has w.queue f → is_release_notice r.0.serial f ≡ false) (there : r.0.serial < length w.nodes) where
    abbrev serial : ℕ
    serial = r.0.serial

    abbrev less : PeerPart
    less = dropped_refs w serial holder r.1 c

    abbrev after : PeerPart
    after = dropped w serial holder r.1 c

    abbrev bit : Bool
    bit = is_released less serial

    last : DroppedAt q (done ++ r ∷ []) serial
    last = record { ref = r; there = has_last done r; owner = here; serial_is = refl }

    clock_is : max w.clock c ≡ max z.clock c
    clock_is = ap (λ n. max n c) k.clock ∙ by (touches q done)
      where
        by : (b : Bool) → max (cond b (max z.clock c) z.clock) c ≡ max z.clock c
        by true = omega arith
        by false = refl

    shape_by : (b : Bool) → with_release_notice b less serial ≡ record z { clock = (with_release_notice b less serial).clock; queue = (with_release_notice b less serial).queue; nodes = (with_release_notice b less serial).nodes }
    shape_by true = ap (λ (v : PeerPart). record v { clock = max w.clock c; queue = (with_release_notice true less serial).queue; nodes = less.nodes }) k.shape
    shape_by false = ap (λ (v : PeerPart). record v { clock = max w.clock c; queue = w.queue; nodes = less.nodes }) k.shape

    clock_by : (b : Bool) → (with_release_notice b less serial).clock ≡ max w.clock c
    clock_by true = refl
    clock_by false = refl

    comes_by : (b : Bool) (f : Key × Entry) → Has (with_release_notice b less serial).queue f → Has w.queue f ⊎ (f ≡ release_note (max w.clock c) serial)
    comes_by true f there = elim (put_has (record { stamp = max w.clock c; origin = no_origin; index = serial }) (ReleaseNotice serial) w.queue f there) [ inl new ↦ inr new | inr old ↦ inl old ]
    comes_by false f there = inl there

    stays_by : (b : Bool) (f : Key × Entry) → Has w.queue f → Has (with_release_notice b less serial).queue f
    stays_by true f there = has_put_old (record { stamp = max w.clock c; origin = no_origin; index = serial }) (ReleaseNotice serial) w.queue f there
    stays_by false f there = there

    noticed_by : (b : Bool) → b ≡ true → (key : Key) × Has (with_release_notice b less serial).queue (key, ReleaseNotice serial)
    noticed_by true is = (record { stamp = max w.clock c; origin = no_origin; index = serial }, has_put_new (record { stamp = max w.clock c; origin = no_origin; index = serial }) (ReleaseNotice serial) w.queue)
    noticed_by false is = absurd (cc is)

    nodes_by : (b : Bool) → (with_release_notice b less serial).nodes ≡ less.nodes
    nodes_by true = refl
    nodes_by false = refl

    -- another node stays as it is
    node_beside : (other : ℕ) → serial ≢ other → node_at after other ≡ node_at w other
    node_beside other apart = ap (λ ns. get_or ns other no_node) (nodes_by bit) ∙ get_or-set_other w.nodes serial other (uncounted holder r.1 (get_or w.nodes serial no_node)) no_node (λ e. apart (sym e))

    released_here : is_released after serial ≡ true → bit ≡ true
    released_here is = ap (λ n. is_live n.state && is_unheld n) (sym (ap (λ ns. get_or ns serial no_node) (nodes_by bit))) ∙ is

    noticed_then : (other : ℕ) → DroppedAt q (done ++ r ∷ []) other → is_released after other ≡ true → (key : Key) × Has after.queue (key, ReleaseNotice other)
    noticed_then other at is = elim (cases_eq serial other) [
      | inl same ↦ subst (λ n. (key : Key) × Has after.queue (key, ReleaseNotice n)) same (noticed_by bit (released_here (ap (is_released after) same ∙ is)))
      | inr apart ↦ elim (last_or_earlier q other done r at) [
        | inl old ↦ let had = k.noticed other old (ap (λ n. is_live n.state && is_unheld n) (sym (node_beside other apart)) ∙ is) in (had.0, stays_by bit (had.0, ReleaseNotice other) had.1)
        | inr new ↦ absurd (apart new.1)
      ]
    ]

    pub drop_here : DropsAt c q (done ++ r ∷ []) z after
    drop_here = record {
      shape = shape_by bit;
      nodes = nodes_so ∙ k.nodes;
      clock = clock_by bit ∙ clock_is ∙ ap (λ b. cond b (max z.clock c) z.clock) (sym (touches_more q done r ∙ ap (λ b. touches q done || b) (eq-eqb r.0.owner q here) ∙ or_true (touches q done)));
      comes = λ f there. elim (comes_by bit f there) [
        | inl old ↦ elim (k.comes f old) [ inl first ↦ inl first | inr new ↦ inr (new.0, dropped_earlier q new.0 done r new.1, new.2) ]
        | inr new ↦ inr (serial, last, new ∙ ap (λ n. release_note n serial) clock_is)
      ];
      stays = λ f there. stays_by bit f (k.stays f there);
      noticed = noticed_then;
      made = λ other at. elim (last_or_earlier q other done r at) [
        | inl old ↦ (let less = k.made other old in let many = many_nodes in omega (arith, less, many))
        | inr new ↦ (let many = many_nodes in let same = new.1 in omega (arith, there, many, same))
      ];
      unnoticed = λ other f at there. elim (last_or_earlier q other done r at) [
        | inl old ↦ k.unnoticed other f old there
        | inr new ↦ ap (λ n. is_release_notice n f) (sym new.1) ∙ unqueued f (k.stays f there)
      ];
    }
      where
        or_true : (b : Bool) → b || true ≡ true
        or_true true = refl
        or_true false = refl

        many_nodes : length after.nodes ≡ length w.nodes
        many_nodes = ap length (nodes_by bit) ∙ length-set w.nodes serial (uncounted holder r.1 (get_or w.nodes serial no_node))

        nodes_so : map own_of after.nodes ≡ map own_of w.nodes
        nodes_so = ap (map own_of) (nodes_by bit) ∙ map_set own_of w.nodes serial (uncounted holder r.1 (get_or w.nodes serial no_node)) no_node refl
