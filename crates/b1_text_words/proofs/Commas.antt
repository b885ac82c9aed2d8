-- Lists of items with commas between them.
use Rattle.std.proofs.Common.{◌≡◌, ◌≢◌, arith, ℕ, ◌-◌, ◌<◌, ◌≤◌, ◌⊎◌, inl, inr, List, [], ◌∷◌, ◌++◌, Option, Some, None, Result, Ok, Err, IfOk, refl, sym, ap, subst, ◌∙◌, append-nil, append_assoc}
use Rattle.std.specs.Prelude.{codes}
use Rattle.b1_text_words.specs.declared.items.Item.{Item}
use Rattle.b1_text_words.specs.Items.{item_text, IsItem, IsBounded, AreItems, AreSome, SpellsSome}
use Rattle.b1_text_words.specs.Numbers.{list_text}
use Rattle.b1_text_words.specs.Words.{Spells, Reads, Begins, IsFree, EndsWith}
use Rattle.b1_text_words.proofs.Alphabets.{free_item, no_dash}
use Rattle.b1_text_words.proofs.Languages.{read_found, read_none, joined_first, stops_before, not_free}

-- what is read so far, and what is left
pub record IsReadTo (item : Item) (most : ℕ) (word numbers : List ℕ) (room : ℕ) (rest : List ℕ) : Type 0 where
  pub more : (ys : List ℕ) → AreSome item room ys → rest ≡ list_text (item_text item) ys → AreSome item most (numbers ++ ys) × (word ≡ list_text (item_text item) (numbers ++ ys))
  pub only : (xs : List ℕ) → AreSome item most xs → word ≡ list_text (item_text item) xs → (ys : List ℕ) × (xs ≡ numbers ++ ys) × AreSome item room ys × (rest ≡ list_text (item_text item) ys)

module _ (item : Item) (bound : IsBounded item) where
  two : (x y : ℕ) (ys : List ℕ) → list_text (item_text item) (x ∷ y ∷ ys) ≡ item_text item x ++ 44 ∷ list_text (item_text item) (y ∷ ys)
  two x y ys = refl

  one : (x : ℕ) → list_text (item_text item) (x ∷ []) ≡ item_text item x
  one x = append-nil (item_text item x)

  free : (n : ℕ) → IsItem item n → IsFree 44 (item_text item n)
  free n is = free_item item bound 44 (inl (omega arith)) n is

  -- the parts of a list whose word has a comma
  pub record Parts (room : ℕ) (a b : List ℕ) (values : List ℕ) : Type 0 where
    pub head : ℕ
    pub tail : List ℕ
    pub same : values ≡ head ∷ tail
    pub is_item : IsItem item head
    pub first : a ≡ item_text item head
    pub some : 0 < room
    pub others : AreSome item (room - 1) tail
    pub rest : b ≡ list_text (item_text item) tail

  pub parts_of : (room : ℕ) (word a b values : List ℕ) → word ≡ a ++ 44 ∷ b → IsFree 44 a → AreSome item room values → word ≡ list_text (item_text item) values → Parts room a b values
  parts_of room word a b [] cut plain are same = absurd (omega (arith, are.some))
  parts_of room word a b (x ∷ []) cut plain are same =
      absurd (not_free 44 a b (subst (IsFree 44) (sym (one x) ∙ sym same ∙ cut) (free x are.are.items.0)))
  parts_of room word a b (x ∷ y ∷ ys) cut plain are same =
      let h = joined_first 44 a (item_text item x) b (list_text (item_text item) (y ∷ ys)) plain (free x are.are.items.0) (sym cut ∙ same) in
      record {
        head = x;
        tail = y ∷ ys;
        same = refl;
        is_item = are.are.items.0;
        first = h.0;
        some = omega (arith, are.are.few);
        others = record { some = omega arith; are = record { items = are.are.items.1; few = omega (arith, are.are.few) } };
        rest = h.1;
      }

  pub put_first : (room : ℕ) (a b : List ℕ) (x : ℕ) (ys : List ℕ) → 0 < room → IsItem item x → a ≡ item_text item x → AreSome item (room - 1) ys → b ≡ list_text (item_text item) ys →
      AreSome item room (x ∷ ys) × (a ++ 44 ∷ b ≡ list_text (item_text item) (x ∷ ys))
  put_first room a b x [] some is first are rest = absurd (omega (arith, are.some))
  put_first room a b x (y ∷ ys) some is first are rest = (
    record { some = omega arith; are = record { items = (is, are.are.items); few = omega (arith, are.are.few, some) } },
    ap (λ w. w ++ 44 ∷ b) first ∙ ap (λ w. item_text item x ++ 44 ∷ w) rest,
  )

  -- the one item of a list whose word has no comma
  pub last_of : (room : ℕ) (word values : List ℕ) → IsFree 44 word → AreSome item room values → word ≡ list_text (item_text item) values → (x : ℕ) × (values ≡ x ∷ []) × IsItem item x × (word ≡ item_text item x) × (0 < room)
  last_of room word [] plain are same = absurd (omega (arith, are.some))
  last_of room word (x ∷ []) plain are same = (x, refl, are.are.items.0, same ∙ one x, omega (arith, are.are.few))
  last_of room word (x ∷ y ∷ ys) plain are same = absurd (not_free 44 (item_text item x) (list_text (item_text item) (y ∷ ys)) (subst (IsFree 44) same plain))

  pub put_last : (room : ℕ) (word : List ℕ) (x : ℕ) → 0 < room → IsItem item x → word ≡ item_text item x → AreSome item room (x ∷ []) × (word ≡ list_text (item_text item) (x ∷ []))
  put_last room word x some is same = (record { some = omega arith; are = record { items = (is, tt); few = omega (arith, some) } }, same ∙ sym (one x))

  -- whole words

  pub spells_more : (room : ℕ) (word a b : List ℕ) → word ≡ a ++ 44 ∷ b → 0 < room → Spells (item_text item) (IsItem item) a → SpellsSome item (room - 1) b → SpellsSome item room word
  spells_more room word a b cut some first rest =
      let h = put_first room a b first.value rest.value some first.is_of first.same rest.is_of rest.same in
      record { value = first.value ∷ rest.value; is_of = h.0; same = cut ∙ h.1 }

  pub more_spells : (room : ℕ) (word a b : List ℕ) → word ≡ a ++ 44 ∷ b → IsFree 44 a → SpellsSome item room word → Spells (item_text item) (IsItem item) a × SpellsSome item (room - 1) b
  more_spells room word a b cut plain s =
      let p = parts_of room word a b s.value cut plain s.is_of s.same in
      (record { value = p.head; is_of = p.is_item; same = p.first }, record { value = p.tail; is_of = p.others; same = p.rest })

  pub spells_last : (room : ℕ) (word : List ℕ) → 0 < room → Spells (item_text item) (IsItem item) word → SpellsSome item room word
  spells_last room word some s = let h = put_last room word s.value some s.is_of s.same in record { value = s.value ∷ []; is_of = h.0; same = h.1 }

  pub last_spells : (room : ℕ) (word : List ℕ) → IsFree 44 word → SpellsSome item room word → Spells (item_text item) (IsItem item) word
  last_spells room word plain s = let h = last_of room word s.value plain s.is_of s.same in record { value = h.0; is_of = h.2; same = h.3 }

  -- the bytes that begin one

  pub begins_more : (room : ℕ) (word a b : List ℕ) → word ≡ a ++ 44 ∷ b → 0 < room → Spells (item_text item) (IsItem item) a → Begins (SpellsSome item (room - 1)) b → Begins (SpellsSome item room) word
  begins_more room word a b cut some first g = record { rest = g.rest; whole = spells_more room (word ++ g.rest) a (b ++ g.rest) (ap (λ w. w ++ g.rest) cut ∙ append_assoc a (44 ∷ b) g.rest) some first g.whole }

  pub more_begins : (room : ℕ) (word a b : List ℕ) → word ≡ a ++ 44 ∷ b → IsFree 44 a → Begins (SpellsSome item room) word → Spells (item_text item) (IsItem item) a × Begins (SpellsSome item (room - 1)) b
  more_begins room word a b cut plain g =
      let h = more_spells room (word ++ g.rest) a (b ++ g.rest) (ap (λ w. w ++ g.rest) cut ∙ append_assoc a (44 ∷ b) g.rest) plain g.whole in
      (h.0, record { rest = g.rest; whole = h.1 })

  pub begins_last : (room : ℕ) (word : List ℕ) → 0 < room → Begins (Spells (item_text item) (IsItem item)) word → Begins (SpellsSome item room) word
  begins_last room word some g = record { rest = g.rest; whole = spells_last room (word ++ g.rest) some g.whole }

  pub last_begins : (room : ℕ) (word : List ℕ) → IsFree 44 word → Begins (SpellsSome item room) word → Begins (Spells (item_text item) (IsItem item)) word
  last_begins room word plain g = split g.whole.value g.whole.is_of g.whole.same where
    split : (values : List ℕ) → AreSome item room values → word ++ g.rest ≡ list_text (item_text item) values → Begins (Spells (item_text item) (IsItem item)) word
    split [] are same = absurd (omega (arith, are.some))
    split (x ∷ []) are same = record { rest = g.rest; whole = record { value = x; is_of = are.are.items.0; same = same ∙ one x } }
    split (x ∷ y ∷ ys) are same =
        let h = stops_before 44 word g.rest (item_text item x) (list_text (item_text item) (y ∷ ys)) plain same in
        record { rest = h.0; whole = record { value = x; is_of = are.are.items.0; same = h.1 } }

  pub no_room : (word : List ℕ) → SpellsSome item 0 word → ⊥
  no_room word s = omega (arith, s.is_of.some, s.is_of.are.few)

  -- a whole list

  pub spells_some : (most : ℕ) (word : List ℕ) → SpellsSome item most word → Spells (list_text (item_text item)) (AreItems item most) word
  spells_some most word s = record { value = s.value; is_of = s.is_of.are; same = s.same }

  pub spells_none : (most : ℕ) (word : List ℕ) → word ≡ codes "-" → Spells (list_text (item_text item)) (AreItems item most) word
  spells_none most word dash = record { value = []; is_of = record { items = tt; few = omega arith }; same = dash }

  pub some_or_dash : (most : ℕ) (word : List ℕ) → Spells (list_text (item_text item)) (AreItems item most) word → (word ≡ codes "-") ⊎ SpellsSome item most word
  some_or_dash most word s = split s.value s.is_of s.same where
    split : (values : List ℕ) → AreItems item most values → word ≡ list_text (item_text item) values → (word ≡ codes "-") ⊎ SpellsSome item most word
    split [] are same = inl same
    split (x ∷ xs) are same = inr (record { value = x ∷ xs; is_of = record { some = omega arith; are = are }; same = same })

  pub no_list_is_dash : (most : ℕ) (word : List ℕ) → word ≡ codes "-" → SpellsSome item most word → ⊥
  no_list_is_dash most word dash s = split s.value s.is_of s.same where
    split : (values : List ℕ) → AreSome item most values → word ≡ list_text (item_text item) values → ⊥
    split [] are same = omega (arith, are.some)
    split (x ∷ []) are same = no_dash item bound x are.are.items.0 (sym (one x) ∙ sym same ∙ dash)
    split (x ∷ y ∷ ys) are same = not_free 44 (item_text item x) (list_text (item_text item) (y ∷ ys)) (subst (IsFree 44) (sym dash ∙ same) ((λ e. omega (arith, e)), tt))

  pub read_from : (most : ℕ) (word : List ℕ) → IsReadTo item most word [] most word
  read_from most word = record { more = λ ys are same. (are, same); only = λ xs are same. (xs, refl, are, same) }

  pub read_more : (most : ℕ) (word numbers : List ℕ) (room : ℕ) (rest a b : List ℕ) (r : Option ℕ) (n : ℕ) → rest ≡ a ++ 44 ∷ b → IsFree 44 a → 0 < room → r ≡ Some n → Reads (item_text item) (IsItem item) a r →
      IsReadTo item most word numbers room rest → IsReadTo item most word (numbers ++ n ∷ []) (room - 1) b
  read_more most word numbers room rest a b r n cut plain some is reads so = record { more = more; only = only } where
    found : IsItem item n × (a ≡ item_text item n)
    found = read_found (item_text item) (IsItem item) a r n reads is

    more : (ys : List ℕ) → AreSome item (room - 1) ys → b ≡ list_text (item_text item) ys → AreSome item most ((numbers ++ n ∷ []) ++ ys) × (word ≡ list_text (item_text item) ((numbers ++ n ∷ []) ++ ys))
    more ys are same =
        let h = put_first room a b n ys some found.0 found.1 are same in
        let g = so.more (n ∷ ys) h.0 (cut ∙ h.1) in
        subst (λ zs. AreSome item most zs × (word ≡ list_text (item_text item) zs)) (sym (append_assoc numbers (n ∷ []) ys)) g

    only : (xs : List ℕ) → AreSome item most xs → word ≡ list_text (item_text item) xs → (ys : List ℕ) × (xs ≡ (numbers ++ n ∷ []) ++ ys) × AreSome item (room - 1) ys × (b ≡ list_text (item_text item) ys)
    only xs are same =
        let g = so.only xs are same in
        let p = parts_of room rest a b g.0 cut plain g.2 g.3 in
        let value : r ≡ Some p.head = reads.whole p.head p.is_item p.first in
        let head : p.head ≡ n = cc in
        (p.tail, g.1 ∙ ap (λ zs. numbers ++ zs) (p.same ∙ ap (λ x. x ∷ p.tail) head) ∙ sym (append_assoc numbers (n ∷ []) p.tail), p.others, p.rest)

  pub bad_item : (most : ℕ) (word numbers : List ℕ) (room : ℕ) (rest a b : List ℕ) (r : Option ℕ) → rest ≡ a ++ 44 ∷ b → IsFree 44 a → r ≡ None → Reads (item_text item) (IsItem item) a r →
      IsReadTo item most word numbers room rest → (xs : List ℕ) → AreSome item most xs → word ≡ list_text (item_text item) xs → ⊥
  bad_item most word numbers room rest a b r cut plain is reads so xs are same =
      let g = so.only xs are same in
      let p = parts_of room rest a b g.0 cut plain g.2 g.3 in
      read_none (item_text item) (IsItem item) a r reads is (record { value = p.head; is_of = p.is_item; same = p.first })

  pub bad_last : (most : ℕ) (word numbers : List ℕ) (room : ℕ) (rest : List ℕ) (r : Option ℕ) → IsFree 44 rest → r ≡ None → Reads (item_text item) (IsItem item) rest r →
      IsReadTo item most word numbers room rest → (xs : List ℕ) → AreSome item most xs → word ≡ list_text (item_text item) xs → ⊥
  bad_last most word numbers room rest r plain is reads so xs are same =
      let g = so.only xs are same in
      let h = last_of room rest g.0 plain g.2 g.3 in
      read_none (item_text item) (IsItem item) rest r reads is (record { value = h.0; is_of = h.2; same = h.3 })

  pub no_more_room : (most : ℕ) (word numbers : List ℕ) (room : ℕ) (rest : List ℕ) → room ≤ 0 → IsReadTo item most word numbers room rest → (xs : List ℕ) → AreSome item most xs → word ≡ list_text (item_text item) xs → ⊥
  no_more_room most word numbers room rest none so xs are same = let g = so.only xs are same in omega (arith, none, g.2.some, g.2.are.few)

  pub reads_no_list : (most : ℕ) (word : List ℕ) → word ≢ codes "-" → ((xs : List ℕ) → AreSome item most xs → word ≡ list_text (item_text item) xs → ⊥) → Reads (list_text (item_text item)) (AreItems item most) word None
  reads_no_list most word dash never = record { found = tt; whole = whole } where
    whole : (xs : List ℕ) → AreItems item most xs → word ≡ list_text (item_text item) xs → None ≡ Some xs
    whole [] are same = absurd (dash same)
    whole (x ∷ xs) are same = absurd (never (x ∷ xs) (record { some = omega arith; are = are }) same)

  pub reads_list : (most : ℕ) (word numbers : List ℕ) (room : ℕ) (rest : List ℕ) (r : Option ℕ) (n : ℕ) → word ≢ codes "-" → IsFree 44 rest → 0 < room → r ≡ Some n → Reads (item_text item) (IsItem item) rest r →
      IsReadTo item most word numbers room rest → Reads (list_text (item_text item)) (AreItems item most) word (Some (numbers ++ n ∷ []))
  reads_list most word numbers room rest r n dash plain some is reads so = record { found = (g.0.are, g.1); whole = whole } where
    found : IsItem item n × (rest ≡ item_text item n)
    found = read_found (item_text item) (IsItem item) rest r n reads is

    g : AreSome item most (numbers ++ n ∷ []) × (word ≡ list_text (item_text item) (numbers ++ n ∷ []))
    g = let h = put_last room rest n some found.0 found.1 in so.more (n ∷ []) h.0 h.1

    whole : (xs : List ℕ) → AreItems item most xs → word ≡ list_text (item_text item) xs → Some (numbers ++ n ∷ []) ≡ Some xs
    whole [] are same = absurd (dash same)
    whole (x ∷ xs) are same =
        let k = so.only (x ∷ xs) (record { some = omega arith; are = are }) same in
        let h = last_of room rest k.0 plain k.2 k.3 in
        let value : r ≡ Some h.0 = reads.whole h.0 h.2 h.3 in
        let last : n ≡ h.0 = cc in
        ap Some (ap (λ y. numbers ++ y ∷ []) last ∙ ap (λ zs. numbers ++ zs) (sym h.1) ∙ sym k.1)

  pub reads_dash : (most : ℕ) (word : List ℕ) → word ≡ codes "-" → Reads (list_text (item_text item)) (AreItems item most) word (Some [])
  reads_dash most word dash = record { found = (record { items = tt; few = omega arith }, dash); whole = whole } where
    whole : (xs : List ℕ) → AreItems item most xs → word ≡ list_text (item_text item) xs → Some [] ≡ Some xs
    whole [] are same = refl
    whole (x ∷ xs) are same = absurd (no_list_is_dash most word dash (record { value = x ∷ xs; is_of = record { some = omega arith; are = are }; same = same }))

  pub last_reads : (most : ℕ) (word numbers : List ℕ) (room : ℕ) (rest : List ℕ) → word ≢ codes "-" → IsFree 44 rest → 0 < room → IsReadTo item most word numbers room rest →
      (r : Option (List ℕ)) → EndsWith (item_text item) (IsItem item) numbers rest r → Reads (list_text (item_text item)) (AreItems item most) word r
  last_reads most word numbers room rest dash plain some so None ends = reads_no_list most word dash (bad_last most word numbers room rest None plain refl ends so)
  last_reads most word numbers room rest dash plain some so (Some all) ends = rw ends.1 (reads_list most word numbers room rest (Some ends.0) ends.0 dash plain some refl ends.2 so)

  pub last_given : {E : Type 0} (most : ℕ) (word numbers : List ℕ) (room : ℕ) (rest : List ℕ) → word ≢ codes "-" → IsFree 44 rest → 0 < room → IsReadTo item most word numbers room rest →
      (r : Result (Option (List ℕ)) E) → IfOk r (λ o. EndsWith (item_text item) (IsItem item) numbers rest o) → IfOk r (λ o. Reads (list_text (item_text item)) (AreItems item most) word o)
  last_given most word numbers room rest dash plain some so (Err e) ends = tt
  last_given most word numbers room rest dash plain some so (Ok o) ends = last_reads most word numbers room rest dash plain some so o ends
