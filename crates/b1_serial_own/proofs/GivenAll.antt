-- References that are given up one after another on the serial bus, with one clock.
use Rattle.std.proofs.Common.{◌≡◌, ◌≢◌, ◌⊎◌, refl, sym, ap, ◌∙◌, subst, inl, inr, ℕ, ◌==◌, max, Bool, true, false, cond, ◌&&◌, ◌||◌, not, List, [], ◌∷◌, ◌++◌, fold, Some, is_none, append-nil, append_assoc, arith}
use Rattle.std.specs.Prelude.{slice_get}
use Rattle.std.specs.List.{list_any}
use Rattle.std.proofs.lemmas.Bool.{cases_eq, eq-eqb, ne_eqb, not-true}
use Rattle.b1_model.specs.declared.naming.Key.{Key}
use Rattle.b1_model.specs.declared.naming.NodeRef.{NodeRef}
use Rattle.b1_model.specs.declared.entries.Entry.{Entry}
use Rattle.b1_model.specs.declared.entries.Entry.TheVariants.{ReleaseNotice}
use Rattle.b1_model.specs.MachineParts.{no_origin, is_release_notice}
use Rattle.b1_model.specs.MachineTables.{put, without}
use Rattle.b1_step.specs.Rights.{Has}
use Rattle.b1_step.specs.Ordered.{Behind, NewKey, Ascending}
use Rattle.b1_step.proofs.Lists.{has_append, filter_has}
use Rattle.b1_step.proofs.Orders.{put_ascending, without_ascending, key_trans, key_not_itself, behind_has}
use Rattle.b1_step.proofs.Queues.{has_put_new, has_put_old, put_has, has_without, without_has}
use Rattle.b1_serial_bus.specs.Parts.{Part, Bus, at_peer}
use Rattle.b1_serial_bus.specs.Lives.{destroyed_at}
use Rattle.b1_serial_bus.specs.References.{is_abroad}
use Rattle.b1_serial_bus.specs.GivenUp.{noticed, told, given_up}
use Rattle.b1_serial_rest.specs.Rest.{BoxesRight}
use Rattle.b1_serial_own.proofs.Shows.{read_at, read_beside}
use Rattle.b1_serial_own.proofs.Dropped.{noticed_refers, abroad_at}
use Rattle.b1_serial_own.proofs.Given.{given_boxes}
use Rattle.b1_serial_own.proofs.Drops.{release_note}

-- ---- queues with the same entries

-- two queues in the order of their keys that have the same entries
pub same_entries : (a b : List (Key × Entry)) → Ascending a → Ascending b → ((f : Key × Entry) → Has a f → Has b f) → ((f : Key × Entry) → Has b f → Has a f) → a ≡ b
same_entries [] [] up down to from = refl
same_entries [] (g ∷ b) up down to from = absurd (from g (inl refl))
same_entries (f ∷ a) [] up down to from = absurd (to f (inl refl))
same_entries (f ∷ a) (g ∷ b) up down to from =
    ap (λ h. h ∷ a) first ∙ ap (λ l. g ∷ l) (same_entries a b up.1 down.1 to_rest from_rest)
  where
    -- an entry isn't behind itself
    never : (k : Key × Entry) (l : List (Key × Entry)) → Behind k.0 l → Has l k → ⊥
    never k l behind there = absurd (cc (sym (behind_has k.0 l k behind there) ∙ key_not_itself k.0))

    first : f ≡ g
    first = by (to f (inl refl)) (from g (inl refl))
      where
        by : (f ≡ g) ⊎ Has b f → (g ≡ f) ⊎ Has a g → f ≡ g
        by (inl same) other = same
        by (inr later) (inl same) = sym same
        by (inr later) (inr other) = absurd (cc (sym (key_trans f.0 g.0 f.0 (behind_has f.0 a g up.0 other) (behind_has g.0 b f down.0 later)) ∙ key_not_itself f.0))

    to_rest : (k : Key × Entry) → Has a k → Has b k
    to_rest k there = by (to k (inr there))
      where
        by : (k ≡ g) ⊎ Has b k → Has b k
        by (inl same) = absurd (never f a up.0 (subst (Has a) (same ∙ sym first) there))
        by (inr later) = later

    from_rest : (k : Key × Entry) → Has b k → Has a k
    from_rest k there = by (from k (inr there))
      where
        by : (k ≡ f) ⊎ Has a k → Has a k
        by (inl same) = absurd (never g b down.0 (subst (Has b) (same ∙ first) there))
        by (inr later) = later

-- a key that no entry has
new_key : (k : Key) (queue : List (Key × Entry)) → ((f : Key × Entry) → Has queue f → f.0 ≢ k) → NewKey k queue
new_key k [] none = tt
new_key k (f ∷ rest) none = (none f (inl refl), new_key k rest (λ g there. none g (inr there)))

-- ---- one peer

-- a node of a list that is a peer's
pub record GivenOf (q : ℕ) (done : List NodeRef) (serial : ℕ) : Type 0 where
  pub node : NodeRef
  pub there : Has done node
  pub owner : node.owner ≡ q
  pub serial_is : node.serial ≡ serial

-- some of them are a peer's
abbrev pub concerns : ℕ → List NodeRef → Bool
concerns q done = list_any (λ (n : NodeRef). n.owner == q) done

-- whether the release notice of a peer's node is due, by whether it is abroad
abbrev pub is_due : (NodeRef → Bool) → ℕ → Part → ℕ → Bool
is_due abroad q y serial = is_none (destroyed_at y serial) && not (abroad (record { owner = q; serial = serial }))

-- a peer before and after references were given up with a clock
pub record GivenAt (c q : ℕ) (abroad : NodeRef → Bool) (done : List NodeRef) (y w : Part) : Type 0 where
  pub shape : w ≡ record y { clock = w.clock; box = w.box }
  pub clock : w.clock ≡ cond (concerns q done) (max y.clock c) y.clock
  -- the release notices that are due come, and nothing goes
  pub comes : (f : Key × Entry) → Has w.box f → Has y.box f ⊎ ((serial : ℕ) × GivenOf q done serial × (is_due abroad q y serial ≡ true) × (f ≡ release_note (max y.clock c) serial))
  pub stays : (f : Key × Entry) → Has y.box f → Has w.box f
  pub noticed_so : (serial : ℕ) → GivenOf q done serial → is_due abroad q y serial ≡ true → Has w.box (release_note (max y.clock c) serial)
  pub ordered : Ascending w.box

pub none_given : (c q : ℕ) (abroad : NodeRef → Bool) (y : Part) → Ascending y.box → GivenAt c q abroad [] y y
none_given c q abroad y up = record {
  shape = refl;
  clock = refl;
  comes = λ f there. inl there;
  stays = λ f there. there;
  noticed_so = λ serial at due. absurd at.there;
  ordered = up;
}

concerns_more : (q : ℕ) (done : List NodeRef) (n : NodeRef) → concerns q (done ++ n ∷ []) ≡ concerns q done || (n.owner == q)
concerns_more q [] n = elim (n.owner == q) as (λ b. b || false ≡ b) [ true ↦ refl | false ↦ refl ]
concerns_more q (t ∷ rest) n = ap (λ b. (t.owner == q) || b) (concerns_more q rest n) ∙ by (t.owner == q)
  where
    by : (b : Bool) → b || (concerns q rest || (n.owner == q)) ≡ (b || concerns q rest) || (n.owner == q)
    by true = refl
    by false = refl

has_last : (done : List NodeRef) (n : NodeRef) → Has (done ++ n ∷ []) n
has_last [] n = inl refl
has_last (t ∷ rest) n = inr (has_last rest n)

has_earlier : (done : List NodeRef) (n t : NodeRef) → Has done t → Has (done ++ n ∷ []) t
has_earlier [] n t there = absurd there
has_earlier (u ∷ rest) n t (inl same) = inl same
has_earlier (u ∷ rest) n t (inr there) = inr (has_earlier rest n t there)

given_earlier : (q serial : ℕ) (done : List NodeRef) (n : NodeRef) → GivenOf q done serial → GivenOf q (done ++ n ∷ []) serial
given_earlier q serial done n at = record { node = at.node; there = has_earlier done n at.node at.there; owner = at.owner; serial_is = at.serial_is }

last_or_earlier : (q serial : ℕ) (done : List NodeRef) (n : NodeRef) → GivenOf q (done ++ n ∷ []) serial → GivenOf q done serial ⊎ ((n.owner ≡ q) × (n.serial ≡ serial))
last_or_earlier q serial done n at = by (has_append done (n ∷ []) at.node at.there)
  where
    by : Has done at.node ⊎ Has (n ∷ []) at.node → GivenOf q done serial ⊎ ((n.owner ≡ q) × (n.serial ≡ serial))
    by (inl old) = inl (record { node = at.node; there = old; owner = at.owner; serial_is = at.serial_is })
    by (inr (inl same)) = inr (ap (λ (t : NodeRef). t.owner) (sym same) ∙ at.owner, ap (λ (t : NodeRef). t.serial) (sym same) ∙ at.serial_is)
    by (inr (inr none)) = absurd none

module _ (c q : ℕ) (abroad : NodeRef → Bool) (done : List NodeRef) (y w : Part) (n : NodeRef) (k : GivenAt c q abroad done y w) where
  -- one that is another peer's
  pub given_beside : n.owner ≢ q → GivenAt c q abroad (done ++ n ∷ []) y w
  given_beside apart = record {
    shape = k.shape;
    clock = k.clock ∙ ap (λ b. cond b (max y.clock c) y.clock) (sym (concerns_more q done n ∙ ap (λ b. concerns q done || b) (ne_eqb n.owner q apart) ∙ or_false (concerns q done)));
    comes = λ f there. elim (k.comes f there) [ inl old ↦ inl old | inr new ↦ inr (new.0, given_earlier q new.0 done n new.1, new.2, new.3) ];
    stays = k.stays;
    noticed_so = λ serial at due. elim (last_or_earlier q serial done n at) [ inl old ↦ k.noticed_so serial old due | inr last ↦ absurd (apart last.0) ];
    ordered = k.ordered;
  }
    where
      or_false : (b : Bool) → b || false ≡ b
      or_false true = refl
      or_false false = refl

  -- one of the peer's own
  module _ (here : n.owner ≡ q) (unnoticed : (f : Key × Entry) → Has y.box f → is_release_notice n.serial f ≡ false)
      (named : (f : Key × Entry) → Has y.box f → f.0.origin ≡ no_origin → is_release_notice f.0.index f ≡ true) where
    abbrev risen : Part
    risen = record w { clock = max w.clock c }

    abbrev key : Key
    key = record { stamp = max w.clock c; origin = no_origin; index = n.serial }

    clock_is : max w.clock c ≡ max y.clock c
    clock_is = ap (λ a. max a c) k.clock ∙ by (concerns q done)
      where
        by : (b : Bool) → max (cond b (max y.clock c) y.clock) c ≡ max y.clock c
        by true = omega arith
        by false = refl

    node_is : record { owner = q; serial = n.serial } ≡ n
    node_is = ap (λ o. record n { owner = o }) (sym here)

    -- the notice is due for the peer as it was
    due_is : is_none (destroyed_at w n.serial) && not (abroad n) ≡ is_due abroad q y n.serial
    due_is = ap (λ v. is_none (destroyed_at v n.serial) && not (abroad n)) k.shape ∙ ap (λ m. is_none (destroyed_at y n.serial) && not (abroad m)) (sym node_is)

    note_is : (key, ReleaseNotice n.serial) ≡ release_note (max y.clock c) n.serial
    note_is = ap (λ a. release_note a n.serial) clock_is

    last : GivenOf q (done ++ n ∷ []) n.serial
    last = record { node = n; there = has_last done n; owner = here; serial_is = refl }

    left_plain : (f : Key × Entry) → Has (without (is_release_notice n.serial) w.box) f → is_release_notice n.serial f ≡ false
    left_plain f there = not-true (is_release_notice n.serial f) (filter_has (λ g. not (is_release_notice n.serial g)) w.box f there).1

    -- another entry has another key
    fresh : NewKey key (without (is_release_notice n.serial) w.box)
    fresh = new_key key (without (is_release_notice n.serial) w.box) (λ f there same. by f (left_plain f there) same (k.comes f (without_has (is_release_notice n.serial) w.box f there)))
      where
        by : (f : Key × Entry) → is_release_notice n.serial f ≡ false → f.0 ≡ key → Has y.box f ⊎ ((serial : ℕ) × GivenOf q done serial × (is_due abroad q y serial ≡ true) × (f ≡ release_note (max y.clock c) serial)) → ⊥
        by f plain same (inl old) = absurd (cc (sym plain ∙ ap (λ i. is_release_notice i f) (ap (λ (z : Key). z.index) (sym same)) ∙ named f old (ap (λ (z : Key). z.origin) same)))
        by f plain same (inr new) =
            let serial_same : new.0 ≡ n.serial = ap (λ (g : Key × Entry). g.0.index) (sym new.3) ∙ ap (λ (z : Key). z.index) same in
            absurd (cc (sym plain ∙ ap (is_release_notice n.serial) new.3 ∙ eq-eqb new.0 n.serial serial_same))

    clock_by : (b : Bool) → (noticed b n.serial risen).clock ≡ max w.clock c
    clock_by true = refl
    clock_by false = refl

    shape_by : (b : Bool) → noticed b n.serial risen ≡ record y { clock = (noticed b n.serial risen).clock; box = (noticed b n.serial risen).box }
    shape_by true = ap (λ (v : Part). record v { clock = max w.clock c; box = put key (ReleaseNotice n.serial) (without (is_release_notice n.serial) w.box) }) k.shape
    shape_by false = ap (λ (v : Part). record v { clock = max w.clock c; box = w.box }) k.shape

    old_then : (f : Key × Entry) → Has y.box f ⊎ ((serial : ℕ) × GivenOf q done serial × (is_due abroad q y serial ≡ true) × (f ≡ release_note (max y.clock c) serial))
        → Has y.box f ⊎ ((serial : ℕ) × GivenOf q (done ++ n ∷ []) serial × (is_due abroad q y serial ≡ true) × (f ≡ release_note (max y.clock c) serial))
    old_then f (inl old) = inl old
    old_then f (inr new) = inr (new.0, given_earlier q new.0 done n new.1, new.2, new.3)

    comes_by : (b : Bool) → b ≡ is_due abroad q y n.serial → (f : Key × Entry) → Has (noticed b n.serial risen).box f
        → Has y.box f ⊎ ((serial : ℕ) × GivenOf q (done ++ n ∷ []) serial × (is_due abroad q y serial ≡ true) × (f ≡ release_note (max y.clock c) serial))
    comes_by false due f there = old_then f (k.comes f there)
    comes_by true due f there = elim (put_has key (ReleaseNotice n.serial) (without (is_release_notice n.serial) w.box) f there) [
      | inl new ↦ inr (n.serial, last, sym due, new ∙ note_is)
      | inr old ↦ old_then f (k.comes f (without_has (is_release_notice n.serial) w.box f old))
    ]

    stays_by : (b : Bool) (f : Key × Entry) → Has w.box f → is_release_notice n.serial f ≡ false → Has (noticed b n.serial risen).box f
    stays_by false f there plain = there
    stays_by true f there plain = has_put_old key (ReleaseNotice n.serial) (without (is_release_notice n.serial) w.box) f (has_without (is_release_notice n.serial) w.box f there plain)

    new_by : (b : Bool) → b ≡ true → Has (noticed b n.serial risen).box (release_note (max y.clock c) n.serial)
    new_by true is = subst (Has (put key (ReleaseNotice n.serial) (without (is_release_notice n.serial) w.box))) note_is (has_put_new key (ReleaseNotice n.serial) (without (is_release_notice n.serial) w.box))
    new_by false is = absurd (cc is)

    ordered_by : (b : Bool) → Ascending (noticed b n.serial risen).box
    ordered_by true = put_ascending key (ReleaseNotice n.serial) (without (is_release_notice n.serial) w.box) fresh (without_ascending (is_release_notice n.serial) w.box k.ordered)
    ordered_by false = k.ordered

    abbrev bit : Bool
    bit = is_none (destroyed_at w n.serial) && not (abroad n)

    noticed_then : (serial : ℕ) → GivenOf q (done ++ n ∷ []) serial → is_due abroad q y serial ≡ true → Has (noticed bit n.serial risen).box (release_note (max y.clock c) serial)
    noticed_then serial at due = elim (cases_eq n.serial serial) [
      | inl same ↦ subst (λ i. Has (noticed bit n.serial risen).box (release_note (max y.clock c) i)) same (new_by bit (due_is ∙ ap (is_due abroad q y) same ∙ due))
      | inr apart ↦ elim (last_or_earlier q serial done n at) [
        | inl old ↦ stays_by bit (release_note (max y.clock c) serial) (k.noticed_so serial old due) (ne_eqb serial n.serial (λ e. apart (sym e)))
        | inr new ↦ absurd (apart new.1)
      ]
    ]

    pub given_here : GivenAt c q abroad (done ++ n ∷ []) y (told c (abroad n) n.serial w)
    given_here = record {
      shape = shape_by bit;
      clock = clock_by bit ∙ clock_is ∙ ap (λ b. cond b (max y.clock c) y.clock) (sym (concerns_more q done n ∙ ap (λ b. concerns q done || b) (eq-eqb n.owner q here) ∙ or_true (concerns q done)));
      comes = comes_by bit due_is;
      stays = λ f there. stays_by bit f (k.stays f there) (unnoticed f there);
      noticed_so = noticed_then;
      ordered = ordered_by bit;
    }
      where
        or_true : (b : Bool) → b || true ≡ true
        or_true true = refl
        or_true false = refl

-- ---- the bus

module _ (c : ℕ) (start : Bus) where
  abbrev pub out : NodeRef → Bool
  out n = is_abroad n start

  -- who is abroad stays so
  given_abroad : (bus : Bus) (n m : NodeRef) → is_abroad m (given_up c bus n) ≡ is_abroad m bus
  given_abroad bus n m = abroad_at m (told c (is_abroad n bus) n.serial) n.owner bus (λ y. noticed_refers m (is_none (destroyed_at y n.serial) && not (is_abroad n bus)) n.serial (record y { clock = max y.clock c }))

  -- what is so of a peer of the start and the same peer of a bus
  abbrev Gave : List NodeRef → Bus → Type 0
  Gave done bus = (q : ℕ) (y : Part) → slice_get start q ≡ Some y → (w : Part) × (slice_get bus q ≡ Some w) × GivenAt c q out done y w

  module _ (plain : (q : ℕ) (y : Part) (f : Key × Entry) → slice_get start q ≡ Some y → Has y.box f → f.0.origin ≡ no_origin → is_release_notice f.0.index f ≡ true) where
    one_given : (bus : Bus) (done : List NodeRef) (n : NodeRef) → ((m : NodeRef) → is_abroad m bus ≡ is_abroad m start)
        → ((y : Part) (f : Key × Entry) → slice_get start n.owner ≡ Some y → Has y.box f → is_release_notice n.serial f ≡ false) → Gave done bus → Gave (done ++ n ∷ []) (given_up c bus n)
    one_given bus done n same unnoticed gave q y is_y = by (gave q y is_y) (cases_eq n.owner q)
      where
        by : (w : Part) × (slice_get bus q ≡ Some w) × GivenAt c q out done y w → (n.owner ≡ q) ⊎ (n.owner ≢ q) → (w : Part) × (slice_get (given_up c bus n) q ≡ Some w) × GivenAt c q out (done ++ n ∷ []) y w
        by k (inl own) = (
          told c (is_abroad n start) n.serial k.0,
          ap (λ b. slice_get (at_peer n.owner (told c b n.serial) bus) q) (same n)
              ∙ ap (λ o. slice_get (at_peer o (told c (is_abroad n start) n.serial) bus) q) own
              ∙ read_at q (told c (is_abroad n start) n.serial) bus k.0 k.1,
          given_here c q out done y k.0 n k.2 own (λ f there. unnoticed y f (ap (slice_get start) own ∙ is_y) there) (λ f there origin. plain q y f is_y there origin),
        )
        by k (inr apart) = (k.0, read_beside n.owner q (told c (is_abroad n bus) n.serial) bus apart ∙ k.1, given_beside c q out done y k.0 n k.2 apart)

    pub all_given : (left done : List NodeRef) (bus : Bus) → ((m : NodeRef) → is_abroad m bus ≡ is_abroad m start)
        → ((n : NodeRef) (y : Part) (f : Key × Entry) → Has left n → slice_get start n.owner ≡ Some y → Has y.box f → is_release_notice n.serial f ≡ false) → Gave done bus → Gave (done ++ left) (fold (given_up c) bus left)
    all_given [] done bus same unnoticed gave = subst (λ l. Gave l bus) (sym (append-nil done)) gave
    all_given (n ∷ left) done bus same unnoticed gave =
        subst (λ l. Gave l (fold (given_up c) (given_up c bus n) left)) (append_assoc done (n ∷ []) left)
        (all_given left (done ++ n ∷ []) (given_up c bus n) (λ m. given_abroad bus n m ∙ same m) (λ k y f there. unnoticed k y f (inr there)) (one_given bus done n same (λ y f. unnoticed n y f (inl refl)) gave))

-- the boxes stay right
pub given_all_boxes : (c : ℕ) (left : List NodeRef) (bus : Bus) → BoxesRight bus → BoxesRight (fold (given_up c) bus left)
given_all_boxes c [] bus right = right
given_all_boxes c (n ∷ left) bus right = given_all_boxes c left (given_up c bus n) (given_boxes c bus n right)
