-- The names of entries, and what keeps them with the queue's list of places.
use Rattle.std.proofs.Common.{◌≡◌, ◌≢◌, ◌==◌, refl, sym, ap, ◌∙◌, inl, inr, subst, ℕ, ◌+◌, ◌<◌, ◌≤◌, Bool, true, false, not, ◌&&◌, List, [], ◌∷◌, ◌++◌, length, get_or, find, filter, Option, Some, None, is_some, is_none, arith, add-one, add-zero}
use Rattle.std.specs.Prelude.{All, AllPairs, option_map, if◌then◌else◌}
use Rattle.std.specs.List.{AllWithin}
use Rattle.std.specs.Option.{IfSome}
use Rattle.std.specs.declared.cmp.Ordering.TheVariants.{Less}
use Rattle.std.proofs.lemmas.Bool.{cases_Bool, cases_eq, eq-eqb, eqb-true, ne_eqb, false≢true}
use Rattle.std.proofs.lemmas.List.Elements.{All-head, All-tail, All-filter}
use Rattle.std.proofs.lemmas.List.Kept.{AllPairs-filter}
use Rattle.b1_model.specs.Keys.{compare_keys}
use Rattle.b1_model.specs.declared.naming.Key.{Key}
use Rattle.b1_model.specs.declared.entries.Entry.{Entry}
use Rattle.b1_model.specs.declared.entries.Entry.TheVariants.{Message, OwnNotice, ForeignNotice, ReleaseNotice}
use Rattle.b1_model.specs.MachineParts.{is_data, is_odd, is_release_notice}
use Rattle.b1_model.specs.MachineTables.{is_stage, is_staged_notice}
use Rattle.b1_step.specs.Rights.{Has}
use Rattle.b1_queue.specs.Queue.{IsNewItem, IsNewKey, IsQueue, is_before, key_of, restamped, with_entry, without as without_place}
use Rattle.b1_queue.proofs.Order.{before_from_less, not_before_itself}
use Rattle.b1_queue.proofs.Entries.{AllPairs-head, AllPairs-tail, IsNewItem-without, IsNewKey-without, IsQueue-filter, IsQueue-nil, IsQueue-with_entry, filter_all, split_is}
use Rattle.b1_queue.proofs.Kept.{key_among, key_known, stands_at, without_absent}
use Rattle.b1_entry.specs.Table.{entry_at}
use Rattle.b1_peer_queue.specs.Names.{CanName, Names, with_name, without_name}
use Rattle.b1_peer_queue.specs.declared.wanted.Wanted.{Wanted}
use Rattle.b1_peer_queue.specs.declared.wanted.Wanted.TheVariants.{Stage, Notice, Release}
use Rattle.b1_peer_queue.specs.Rows.{IsNamed, IsNewName, entry_or, is_unnamed, name_at, name_of, name_wanted, passes, release_name, row, shown, stage_name}
use Rattle.b1_peer_queue.proofs.ListLemmas.{filter_same, find_passes, has_all, has_mapped, length-filter-le}
use Rattle.b1_peer_queue.proofs.RowLemmas.{filter_with_entry, filter_without_entry, length-with_entry}

module _ {X : Type 0} (t : X → Bool) where
  -- where none is found none passes
  pub none_has : (xs : List X) (x : X) → find t xs ≡ None → Has xs x → t x ≡ true → ⊥
  none_has [] x none h passes = h
  none_has (y ∷ xs) x none h passes =
      elim (cases_Bool (t y)) [
        | inl a ↦ let e = rw a at none in cc e
        | inr a ↦ elim h [
          | inl same ↦ false≢true (sym a ∙ ap t (sym same) ∙ passes)
          | inr further ↦ none_has xs x (rw a at none) further passes
        ]
      ]

-- ---- names and what is looked for

record StageFacts (origin index : ℕ) (k : Key) : Type 0 where
  odd : is_odd k.stamp ≡ true
  origin_is : k.origin ≡ origin
  index_is : k.index ≡ index

both_true : (a b : Bool) → (a && b) ≡ true → (a ≡ true) × (b ≡ true)
both_true true b h = (refl, h)
both_true false b h = absurd (cc h)

stage_facts : (origin index : ℕ) (k : Key) (e : Entry) → is_stage origin index (k, e) ≡ true → StageFacts origin index k
stage_facts origin index k e h =
    let last = both_true (is_data e && is_odd k.stamp && (k.origin == origin)) (k.index == index) h in
    let third = both_true (is_data e && is_odd k.stamp) (k.origin == origin) last.0 in
    let second = both_true (is_data e) (is_odd k.stamp) third.0 in
    record { odd = second.1; origin_is = eqb-true k.origin origin third.1; index_is = eqb-true k.index index last.1 }

pub stage_odd : (origin index : ℕ) (k : Key) (e : Entry) → is_stage origin index (k, e) ≡ true → is_odd k.stamp ≡ true
stage_odd origin index k e h = (stage_facts origin index k e h).odd

pub notice_odd : (origin : ℕ) (k : Key) (e : Entry) → is_staged_notice origin (k, e) ≡ true → is_odd k.stamp ≡ true
notice_odd origin k e h = (both_true (not (is_data e)) (is_odd k.stamp) (both_true (not (is_data e) && is_odd k.stamp) (k.origin == origin) h).0).1

pub none_from : (o : Option Key) → is_none o ≡ true → o ≡ None
none_from None h = refl
none_from (Some name) h = absurd (cc h)

stage_made : (origin index : ℕ) (k : Key) (e : Entry) → is_data e ≡ true → is_odd k.stamp ≡ true → k.origin ≡ origin → k.index ≡ index → is_stage origin index (k, e) ≡ true
stage_made origin index k e is_one odd o i = rw (is_one, odd, eq-eqb k.origin origin o, eq-eqb k.index index i) refl

pub stage_has_name : (origin index : ℕ) (f : Key × Entry) → is_stage origin index f ≡ true → name_of f ≡ Some (stage_name origin index)
stage_has_name origin index (k, Message o user i serial offset len nodes slots handles payload) h =
    let parts = stage_facts origin index k (Message o user i serial offset len nodes slots handles payload) h in
    rw parts.odd (λ j. Some (stage_name (parts.origin_is j) (parts.index_is j)))
stage_has_name origin index (k, OwnNotice serial i) h = absurd (cc h)
stage_has_name origin index (k, ForeignNotice node i) h = absurd (cc h)
stage_has_name origin index (k, ReleaseNotice serial) h = absurd (cc h)

pub stage_named : (origin index : ℕ) (f : Key × Entry) → name_of f ≡ Some (stage_name origin index) → is_stage origin index f ≡ true
stage_named origin index (k, Message o user i serial offset len nodes slots handles payload) h =
    elim (cases_Bool (is_odd k.stamp)) [
      | inl odd ↦
          let same : Some (stage_name k.origin k.index) ≡ Some (stage_name origin index) = rw odd at h in
          let equal : stage_name k.origin k.index ≡ stage_name origin index = cc in
          stage_made origin index k (Message o user i serial offset len nodes slots handles payload) refl odd (ap (λ (n : Key). n.origin) equal) (ap (λ (n : Key). n.index) equal)
      | inr even ↦ let none = rw even at h in absurd (cc none)
    ]
stage_named origin index (k, OwnNotice serial i) h = absurd (cc h)
stage_named origin index (k, ForeignNotice node i) h = absurd (cc h)
stage_named origin index (k, ReleaseNotice serial) h =
    let same : release_name serial ≡ stage_name origin index = cc h in
    let apart : 0 ≡ 1 = ap (λ (n : Key). n.stamp) same in
    absurd (omega (arith, apart))

pub release_has_name : (serial : ℕ) (f : Key × Entry) → is_release_notice serial f ≡ true → name_of f ≡ Some (release_name serial)
release_has_name serial (k, Message o user i dest offset len nodes slots handles payload) h = absurd (cc h)
release_has_name serial (k, OwnNotice doomed i) h = absurd (cc h)
release_has_name serial (k, ForeignNotice node i) h = absurd (cc h)
release_has_name serial (k, ReleaseNotice mine) h = ap (λ (s : ℕ). Some (release_name s)) (eqb-true mine serial h)

pub release_named : (serial : ℕ) (f : Key × Entry) → name_of f ≡ Some (release_name serial) → is_release_notice serial f ≡ true
release_named serial (k, Message o user i dest offset len nodes slots handles payload) h =
    elim (cases_Bool (is_odd k.stamp)) [
      | inl odd ↦
          let same : Some (stage_name k.origin k.index) ≡ Some (release_name serial) = rw odd at h in
          let equal : stage_name k.origin k.index ≡ release_name serial = cc in
          let apart : 1 ≡ 0 = ap (λ (n : Key). n.stamp) equal in
          absurd (omega (arith, apart))
      | inr even ↦ let none = rw even at h in absurd (cc none)
    ]
release_named serial (k, OwnNotice doomed i) h = absurd (cc h)
release_named serial (k, ForeignNotice node i) h = absurd (cc h)
release_named serial (k, ReleaseNotice mine) h =
    let same : release_name mine ≡ release_name serial = cc h in
    eq-eqb mine serial (ap (λ (n : Key). n.index) same)

-- what is looked for by a name is what has it
pub wanted_has_name : (w : Wanted) (name : Key) (f : Key × Entry) → name_wanted w ≡ Some name → passes w f ≡ true → name_of f ≡ Some name
wanted_has_name (Stage origin index) name f is h = stage_has_name origin index f h ∙ is
wanted_has_name (Notice origin) name f is h = absurd (cc is)
wanted_has_name (Release serial) name f is h = release_has_name serial f h ∙ is

pub wanted_named : (w : Wanted) (name : Key) (f : Key × Entry) → name_wanted w ≡ Some name → name_of f ≡ Some name → passes w f ≡ true
wanted_named (Stage origin index) name f is h = stage_named origin index f (h ∙ sym is)
wanted_named (Notice origin) name f is h = absurd (cc is)
wanted_named (Release serial) name f is h = release_named serial f (h ∙ sym is)

-- a new name is one that no entry has
pub new_name_apart : (key : Key) (e : Entry) (queue : List (Key × Entry)) (name : Key) (f : Key × Entry) → IsNewName key e queue → name_of (key, e) ≡ Some name → Has queue f → name_of f ≡ Some name → ⊥
new_name_apart key (Message o user i serial offset len nodes slots handles payload) queue name f new is there h =
    elim (cases_Bool (is_odd key.stamp)) [
      | inl odd ↦ let same : Some (stage_name key.origin key.index) ≡ Some name = rw odd at is in none_has (is_stage key.origin key.index) queue f new there (stage_named key.origin key.index f (h ∙ sym same))
      | inr even ↦ let none = rw even at is in absurd (cc none)
    ]
new_name_apart key (OwnNotice serial i) queue name f new is there h = absurd (cc is)
new_name_apart key (ForeignNotice node i) queue name f new is there h = absurd (cc is)
new_name_apart key (ReleaseNotice serial) queue name f new is there h = none_has (is_release_notice serial) queue f new there (release_named serial f (h ∙ sym is))

-- a stamp alone gives no name to a staged entry
pub name_stays : (key new : Key) (e : Entry) (name : Key) → is_odd key.stamp ≡ true → new.origin ≡ key.origin → new.index ≡ key.index → name_of (new, e) ≡ Some name → name_of (key, e) ≡ Some name
name_stays key new (Message o user i serial offset len nodes slots handles payload) name odd origin index h =
    elim (cases_Bool (is_odd new.stamp)) [
      | inl still ↦ let same : Some (stage_name new.origin new.index) ≡ Some name = rw still at h in rw odd ((λ j. Some (stage_name (sym origin j) (sym index j))) ∙ same)
      | inr even ↦ let none = rw even at h in absurd (cc none)
    ]
name_stays key new (OwnNotice serial i) name odd origin index h = h
name_stays key new (ForeignNotice node i) name odd origin index h = h
name_stays key new (ReleaseNotice serial) name odd origin index h = h

-- ---- the entry of an item

module _ (item : ℕ) where
  pub find_middle_same : (e : Key × ℕ) (xs ys : List (Key × ℕ)) → All (λ x. x.1 ≢ item) xs → e.1 ≡ item → find (λ x. x.1 == item) (xs ++ e ∷ ys) ≡ Some e
  find_middle_same e [] ys new here = rw (eq-eqb e.1 item here) refl
  find_middle_same e (x ∷ xs) ys new here =
      rw (ne_eqb x.1 item (All-head (λ x. x.1 ≢ item) x xs new)) (find_middle_same e xs ys (All-tail (λ x. x.1 ≢ item) x xs new) here)

  pub find_middle_other : (e : Key × ℕ) (xs ys : List (Key × ℕ)) → e.1 ≢ item → find (λ x. x.1 == item) (xs ++ e ∷ ys) ≡ find (λ x. x.1 == item) (xs ++ ys)
  find_middle_other e [] ys other = rw (ne_eqb e.1 item other) refl
  find_middle_other e (x ∷ xs) ys other =
      elim (cases_Bool (x.1 == item)) [ inl a ↦ rw a refl | inr a ↦ rw a (find_middle_other e xs ys other) ]

  pub find_new : (q : List (Key × ℕ)) → IsNewItem item q → find (λ x. x.1 == item) q ≡ None
  find_new [] new = refl
  find_new (x ∷ q) new = rw (ne_eqb x.1 item (All-head (λ x. x.1 ≢ item) x q new)) (find_new q (All-tail (λ x. x.1 ≢ item) x q new))

  pub find_without_other : (other : ℕ) (q : List (Key × ℕ)) → other ≢ item → find (λ x. x.1 == item) (without_place other q) ≡ find (λ x. x.1 == item) q
  find_without_other other [] ne = refl
  find_without_other other (x ∷ q) ne =
      elim (cases_Bool (x.1 == other)) [
        | inl gone ↦
            let is : x.1 ≡ other = eqb-true _ _ gone in
            rw (gone, ne_eqb x.1 item (λ same. ne (sym is ∙ same))) (find_without_other other q ne)
        | inr stays ↦ elim (cases_Bool (x.1 == item)) [
          | inl passes ↦ rw (stays, passes) refl
          | inr fails ↦ rw (stays, fails) (find_without_other other q ne)
        ]
      ]

  pub find_there : (q : List (Key × ℕ)) (e : Key × ℕ) → AllPairs (λ a b. a.1 ≢ b.1) q → Has q e → e.1 ≡ item → find (λ x. x.1 == item) q ≡ Some e
  find_there [] e distinct h here = absurd h
  find_there (x ∷ q) e distinct (inl same) here =
      let at : x.1 ≡ item = ap (λ (y : Key × ℕ). y.1) (sym same) ∙ here in
      rw (eq-eqb x.1 item at) (ap (λ (y : Key × ℕ). Some y) (sym same))
  find_there (x ∷ q) e distinct (inr further) here =
      let other : x.1 ≢ item = λ at. has_all (λ (y : Key × ℕ). x.1 ≢ y.1) q e further (AllPairs-head (λ (a b : Key × ℕ). a.1 ≢ b.1) x q distinct) (at ∙ sym here) in
      rw (ne_eqb x.1 item other) (find_there q e (AllPairs-tail (λ (a b : Key × ℕ). a.1 ≢ b.1) x q distinct) further here)

  -- with one entry more
  module _ (key : Key) (place : ℕ) (q : List (Key × ℕ)) (up : AllPairs (λ a b. compare_keys a.0 b.0 ≡ Less) q) (new : IsNewKey key q) where
    pub find_with_same : IsNewItem item q → place ≡ item → find (λ x. x.1 == item) (with_entry key place q) ≡ Some (key, place)
    find_with_same fresh here =
        find_middle_same (key, place) (filter (λ (e : Key × ℕ). is_before e.0 key) q) (filter (λ (e : Key × ℕ). is_before key e.0) q)
        (All-filter (λ e. is_before e.0 key) (λ e. e.1 ≢ item) q fresh) here

    pub find_with_other : place ≢ item → find (λ x. x.1 == item) (with_entry key place q) ≡ find (λ x. x.1 == item) q
    find_with_other other =
        find_middle_other (key, place) (filter (λ (e : Key × ℕ). is_before e.0 key) q) (filter (λ (e : Key × ℕ). is_before key e.0) q) other
        ∙ ap (find (λ x. x.1 == item)) (split_is key q up new)

-- an item's key is that of its entry
key_as_find : (item : ℕ) (q : List (Key × ℕ)) (o : Option (Key × ℕ)) → find (λ x. x.1 == item) q ≡ o → key_of item q ≡ option_map (λ e. e.0) o
key_as_find item q o is = ap (option_map (λ (e : Key × ℕ). e.0)) is

key_has : (item : ℕ) (key : Key) (q : List (Key × ℕ)) → key_of item q ≡ Some key → Has q (key, item)
key_has item key [] h = absurd (cc h)
key_has item key (x ∷ q) h =
    elim (cases_Bool (x.1 == item)) [
      | inl a ↦
          let same : Some x.0 ≡ Some key = rw a at h in
          let is : x.0 ≡ key = cc same in
          let at : x.1 ≡ item = eqb-true _ _ a in
          inl (λ i. (sym is i, sym at i))
      | inr a ↦ inr (key_has item key q (rw a at h))
    ]

no_later : (key : Key) (a : ℕ) (x : Key × ℕ) (q : List (Key × ℕ)) → AllPairs (λ a b. compare_keys a.0 b.0 ≡ Less) (x ∷ q) → x.0 ≡ key → Has q (key, a) → ⊥
no_later key a x q up is further =
    let less : compare_keys x.0 key ≡ Less = has_all (λ (y : Key × ℕ). compare_keys x.0 y.0 ≡ Less) q (key, a) further (AllPairs-head (λ a b. compare_keys a.0 b.0 ≡ Less) x q up) in
    let before : is_before key key ≡ true = subst (λ (k : Key). is_before k key ≡ true) is (before_from_less x.0 key less) in
    false≢true (sym (not_before_itself key) ∙ before)

-- no two items have one key
same_item : (key : Key) (a b : ℕ) (q : List (Key × ℕ)) → AllPairs (λ a b. compare_keys a.0 b.0 ≡ Less) q → Has q (key, a) → Has q (key, b) → a ≡ b
same_item key a b [] up h g = absurd h
same_item key a b (x ∷ q) up (inl one) (inl two) = ap (λ (e : Key × ℕ). e.1) (one ∙ sym two)
same_item key a b (x ∷ q) up (inl one) (inr further) = absurd (no_later key b x q up (ap (λ (e : Key × ℕ). e.0) (sym one)) further)
same_item key a b (x ∷ q) up (inr further) (inl two) = absurd (no_later key a x q up (ap (λ (e : Key × ℕ). e.0) (sym two)) further)
same_item key a b (x ∷ q) up (inr one) (inr two) = same_item key a b q (AllPairs-tail (λ a b. compare_keys a.0 b.0 ≡ Less) x q up) one two

-- ---- what keeps the names

module _ {spare : ℕ} {listed : List (Key × ℕ)} {slots : List (Option Entry)} {room : ℕ} {names : Names} (named : IsNamed spare listed slots room names) (distinct : AllPairs (λ a b. a.1 ≢ b.1) listed) where
  -- the name of a listed place
  pub name_listed : (e : Key × ℕ) → Has listed e → key_of e.1 names.listed ≡ name_of (row slots e)
  name_listed e there = named.named e.1 ∙ ap (name_at slots) (find_there e.1 listed e distinct there refl)

  -- what a name is found at
  pub found_wanted : (w : Wanted) (name : Key) → name_wanted w ≡ Some name → (place : ℕ) → key_of place names.listed ≡ Some name → (o : Option (Key × ℕ)) → find (λ x. x.1 == place) listed ≡ o → (r : Option (Key × ℕ)) → find (λ e. passes w (row slots e)) listed ≡ r → r ≡ option_map (λ k. (k, place)) (key_of place listed)
  found_wanted w name is place has None o_is r r_is =
      let nothing : key_of place names.listed ≡ None = named.named place ∙ ap (name_at slots) o_is in
      absurd (cc (sym nothing ∙ has))
  found_wanted w name is place has (Some e) o_is r r_is =
      let here = find_passes (λ (x : Key × ℕ). x.1 == place) listed e o_is in
      let at : e.1 ≡ place = eqb-true _ _ here.1 in
      let name_is : name_of (row slots e) ≡ Some name = sym (named.named place ∙ ap (name_at slots) o_is) ∙ has in
      only e here.0 at name_is r r_is ∙ (λ i. Some (e.0, at i)) ∙ sym (ap (option_map (λ k. (k, place))) (ap (option_map (λ (x : Key × ℕ). x.0)) o_is))
    where
      only : (e : Key × ℕ) → Has listed e → e.1 ≡ place → name_of (row slots e) ≡ Some name → (r : Option (Key × ℕ)) → find (λ e. passes w (row slots e)) listed ≡ r → r ≡ Some e
      only e there at name_is None none = absurd (none_has (λ (x : Key × ℕ). passes w (row slots x)) listed e none there (wanted_named w name (row slots e) is name_is))
      only e there at name_is (Some x) found =
          let other = find_passes (λ (y : Key × ℕ). passes w (row slots y)) listed x found in
          let x_named : key_of x.1 names.listed ≡ Some name = name_listed x other.0 ∙ wanted_has_name w name (row slots x) is other.1 in
          let same : x.1 ≡ place = same_item name x.1 place names.listed named.order.ascending (key_has x.1 name names.listed x_named) (key_has place name names.listed has) in
          sym (find_there place listed x distinct other.0 same) ∙ find_there place listed e distinct there at

  pub none_wanted : (w : Wanted) (name : Key) → name_wanted w ≡ Some name → IsNewKey name names.listed → (r : Option (Key × ℕ)) → find (λ e. passes w (row slots e)) listed ≡ r → r ≡ None
  none_wanted w name is new None r_is = refl
  none_wanted w name is new (Some e) r_is =
      let here = find_passes (λ (y : Key × ℕ). passes w (row slots y)) listed e r_is in
      let has : key_of e.1 names.listed ≡ Some name = name_listed e here.0 ∙ wanted_has_name w name (row slots e) is here.1 in
      absurd (key_among e.1 (λ k. k ≢ name) names.listed name new has refl)

  -- a place that isn't listed has no name
  pub new_place : (place : ℕ) → IsNewItem place listed → IsNewItem place names.listed
  new_place place fresh k d lt same =
      let has = key_known names.listed place named.order.distinct k d lt same in
      let nothing : key_of place names.listed ≡ None = named.named place ∙ ap (name_at slots) (find_new place listed fresh) in
      absurd (cc (sym nothing ∙ has))

  -- no place has a new name
  pub new_name : (key : Key) (e : Entry) (name : Key) → IsNewName key e (shown slots listed) → name_of (key, e) ≡ Some name → IsNewKey name names.listed
  new_name key e name new is k d lt same =
      let x = get_or names.listed k d in
      let has : key_of x.1 names.listed ≡ Some name = key_known names.listed x.1 named.order.distinct k d lt refl ∙ ap (λ (n : Key). Some n) same in
      found x.1 (find (λ y. y.1 == x.1) listed) refl has
    where
      found : (place : ℕ) (o : Option (Key × ℕ)) → find (λ y. y.1 == place) listed ≡ o → key_of place names.listed ≡ Some name → ⊥
      found place None o_is has = let nothing : key_of place names.listed ≡ None = named.named place ∙ ap (name_at slots) o_is in cc (sym nothing ∙ has)
      found place (Some y) o_is has =
          let here = find_passes (λ (z : Key × ℕ). z.1 == place) listed y o_is in
          let name_is : name_of (row slots y) ≡ Some name = sym (named.named place ∙ ap (name_at slots) o_is) ∙ has in
          new_name_apart key e (shown slots listed) name (row slots y) new is (has_mapped (row slots) listed y here.0) name_is

-- the same entry elsewhere has the same name
name_at_same : (old new : List (Option Entry)) (place : ℕ) (q : List (Key × ℕ)) (o : Option (Key × ℕ)) → find (λ e. e.1 == place) q ≡ o → entry_at new place ≡ entry_at old place → name_at new o ≡ name_at old o
name_at_same old new place q None is same = refl
name_at_same old new place q (Some e) is same =
    let at : e.1 ≡ place = eqb-true _ _ (find_passes (λ (x : Key × ℕ). x.1 == place) q e is).1 in
    ap (λ (o : Option Entry). name_of (e.0, entry_or o)) (ap (entry_at new) at ∙ same ∙ ap (entry_at old) (sym at))

-- how many pass of a list with an entry less, or one more
module _ (p : Key × ℕ → Bool) where
  passing_without : (q : List (Key × ℕ)) (e : Key × ℕ) → AllPairs (λ a b. a.1 ≢ b.1) q → Has q e → length (filter p q) ≡ length (filter p (without_place e.1 q)) + (if p e then 1 else 0)
  passing_without [] e distinct h = absurd h
  passing_without (x ∷ q) e distinct (inl same) =
      let at : x.1 ≡ e.1 = ap (λ (y : Key × ℕ). y.1) (sym same) in
      rw (
        eq-eqb x.1 e.1 at,
        filter_all (λ (y : Key × ℕ). not (y.1 == e.1)) q (λ k d lt. ap not (ne_eqb (get_or q k d).1 e.1 (λ s. AllPairs-head (λ (a b : Key × ℕ). a.1 ≢ b.1) x q distinct k d lt (at ∙ sym s)))),
        same,
      )
      (elim (cases_Bool (p x)) [ inl a ↦ rw a (sym (add-one (length (filter p q)))) | inr a ↦ rw a (sym (add-zero (length (filter p q)))) ])
  passing_without (x ∷ q) e distinct (inr further) =
      let other : (x.1 == e.1) ≡ false = ne_eqb x.1 e.1 (has_all (λ (y : Key × ℕ). x.1 ≢ y.1) q e further (AllPairs-head (λ (a b : Key × ℕ). a.1 ≢ b.1) x q distinct)) in
      let ih = passing_without q e (AllPairs-tail (λ (a b : Key × ℕ). a.1 ≢ b.1) x q distinct) further in
      rw other (elim (cases_Bool (p x)) [ inl a ↦ rw a (omega (arith, ih)) | inr a ↦ rw a ih ])

  passing_with : (key : Key) (place : ℕ) (q : List (Key × ℕ)) → AllPairs (λ a b. compare_keys a.0 b.0 ≡ Less) q → IsNewKey key q → length (filter p (with_entry key place q)) ≡ length (filter p q) + (if p (key, place) then 1 else 0)
  passing_with key place q up new =
      elim (cases_Bool (p (key, place))) [
        | inl a ↦
            rw a
            (ap length (filter_with_entry key place p q a)
            ∙ length-with_entry key place (filter p q) (AllPairs-filter (λ a b. compare_keys a.0 b.0 ≡ Less) p q up) (All-filter p (λ e. e.0 ≢ key) q new))
        | inr a ↦ rw a (ap length (filter_without_entry key place p q up new a) ∙ sym (add-zero (length (filter p q))))
      ]

pub named_none : IsNamed 0 [] [] 0 (record { listed = []; spare = 0; room = 0 })
named_none = record {
  named = λ place. refl;
  order = IsQueue-nil 0;
  fits = omega arith;
  places = omega arith;
}

module _ {spare : ℕ} {listed : List (Key × ℕ)} {slots : List (Option Entry)} {room : ℕ} {names : Names} (named : IsNamed spare listed slots room names) {qr : ℕ} (order : IsQueue qr listed) where
  -- more room
  pub named_more : (new : List (Option Entry)) → ((place : ℕ) → entry_at new place ≡ entry_at slots place) → (n len r : ℕ) (more : Names) → len ≡ length listed → more.listed ≡ names.listed → names.room ≤ more.room → len + n ≤ more.spare → r ≤ more.room → IsNamed n listed new r more
  named_more new same n len r more len_is listed_is longer enough places =
      let all = length-filter-le (λ e. is_unnamed (row new e)) listed in
      record {
        named = λ place. ap (key_of place) listed_is ∙ named.named place ∙ sym (name_at_same slots new place listed (find (λ e. e.1 == place) listed) refl (same place));
        order = rw listed_is (record {
          ascending = named.order.ascending;
          distinct = named.order.distinct;
          in_room = λ k d lt. let low = named.order.in_room k d lt in omega (arith, low, longer);
        });
        fits = omega (arith, all, enough, len_is);
        places = places;
      }

  -- entries with the same names
  pub named_same : (new : List (Option Entry)) → All (λ e. name_of (row new e) ≡ name_of (row slots e)) listed → IsNamed spare listed new room names
  named_same new same = record {
    named = λ place. named.named place ∙ sym (at_same place (find (λ e. e.1 == place) listed) refl);
    order = named.order;
    fits = rw (filter_same (λ e. is_unnamed (row new e)) (λ e. is_unnamed (row slots e)) listed (λ k d lt. ap (λ o. not (is_some o)) (same k d lt))) named.fits;
    places = named.places;
  }
    where
      at_same : (place : ℕ) (o : Option (Key × ℕ)) → find (λ e. e.1 == place) listed ≡ o → name_at new o ≡ name_at slots o
      at_same place None is = refl
      at_same place (Some e) is = has_all (λ e. name_of (row new e) ≡ name_of (row slots e)) listed e (find_passes (λ (x : Key × ℕ). x.1 == place) listed e is).0 same

  -- one entry more, at a place that was vacant
  module _ (key : Key) (entry : Entry) (place : ℕ) (new : List (Option Entry)) (up : IsNewKey key listed) (fresh : IsNewItem place listed) (new_name_is : IsNewName key entry (shown slots listed)) (here : entry_at new place ≡ Some entry) (others : (other : ℕ) → other ≢ place → entry_at new other ≡ entry_at slots other) where
    same_unnamed : filter (λ e. is_unnamed (row new e)) listed ≡ filter (λ e. is_unnamed (row slots e)) listed
    same_unnamed = filter_same (λ e. is_unnamed (row new e)) (λ e. is_unnamed (row slots e)) listed (λ k d lt. ap (λ (o : Option Entry). is_unnamed ((get_or listed k d).0, entry_or o)) (others (get_or listed k d).1 (fresh k d lt)))

    here_is : row new (key, place) ≡ (key, entry)
    here_is = ap (λ (o : Option Entry). (key, entry_or o)) here

    pub can_name : 0 < spare → place < room → (name : Key) → name_of (key, entry) ≡ Some name → CanName names place name
    can_name some within name is =
        let fits = named.fits in
        let places = named.places in
        record {
          spare = omega arith;
          in_room = omega arith;
          new_name = new_name named order.distinct key entry name new_name_is is;
          new_place = new_place named order.distinct place fresh;
        }

    others_named : (item : ℕ) → item ≢ place → name_at slots (find (λ e. e.1 == item) listed) ≡ name_at new (find (λ e. e.1 == item) (with_entry key place listed))
    others_named item ne =
        sym (name_at_same slots new item listed (find (λ e. e.1 == item) listed) refl (others item ne))
        ∙ ap (name_at new) (sym (find_with_other item key place listed order.ascending up (λ same. ne (sym same))))

    here_named : name_of (key, entry) ≡ name_at new (find (λ e. e.1 == place) (with_entry key place listed))
    here_named = ap name_of (sym here_is) ∙ ap (name_at new) (sym (find_with_same place key place listed order.ascending up fresh refl))

    pub named_put : (s r : ℕ) → 0 < spare → s + 1 ≡ spare → place < room → r ≡ room → IsNamed s (with_entry key place listed) new r (with_name (name_of (key, entry)) place names)
    named_put s r some s_is within r_is = go (name_of (key, entry)) refl
      where
        counted : length (filter (λ e. is_unnamed (row new e)) (with_entry key place listed)) ≡ length (filter (λ e. is_unnamed (row slots e)) listed) + (if is_unnamed (key, entry) then 1 else 0)
        counted =
            passing_with (λ e. is_unnamed (row new e)) key place listed order.ascending up
            ∙ ap (λ (es : List (Key × ℕ)). length es + (if is_unnamed (row new (key, place)) then 1 else 0)) same_unnamed
            ∙ ap (λ (f : Key × Entry). length (filter (λ e. is_unnamed (row slots e)) listed) + (if is_unnamed f then 1 else 0)) here_is

        go : (o : Option Key) → name_of (key, entry) ≡ o → IsNamed s (with_entry key place listed) new r (with_name o place names)
        go None none =
            let sum = rw none at counted in
            let fits = named.fits in
            record {
              named = λ item. elim (cases_eq item place) [
                | inl at ↦ rw at (ap (key_of place) refl ∙ named.named place ∙ ap (name_at slots) (find_new place listed fresh) ∙ sym none ∙ here_named)
                | inr other ↦ named.named item ∙ others_named item other
              ];
              order = named.order;
              fits = omega (arith, sum, fits, s_is);
              places = rw r_is named.places;
            }
        go (Some name) is =
            let sum = rw is at counted in
            let fits = named.fits in
            let can = can_name some within name is in
            record {
              named = λ item. elim (cases_eq item place) [
                | inl at ↦ rw at (ap (option_map (λ (e : Key × ℕ). e.0)) (find_with_same place name place names.listed named.order.ascending can.new_name can.new_place refl) ∙ sym is ∙ here_named)
                | inr other ↦
                    ap (option_map (λ (e : Key × ℕ). e.0)) (find_with_other item name place names.listed named.order.ascending can.new_name (λ same. other (sym same)))
                    ∙ named.named item ∙ others_named item other
              ];
              order = IsQueue-with_entry names.room name place names.listed named.order can.in_room can.new_name can.new_place;
              fits = omega (arith, sum, fits, s_is);
              places = rw r_is named.places;
            }

  -- the entry at a place leaves, or gets another key
  module _ (key : Key) (place : ℕ) (there : Has listed (key, place)) where
    left_is_new : find (λ e. e.1 == place) (without_place place listed) ≡ None
    left_is_new = find_new place (without_place place listed) (IsNewItem-without place listed)

    left_names_new : key_of place (without_place place names.listed) ≡ None
    left_names_new = ap (option_map (λ (e : Key × ℕ). e.0)) (find_new place (without_place place names.listed) (IsNewItem-without place names.listed))

    other_names : (item : ℕ) → item ≢ place → key_of item (without_place place names.listed) ≡ key_of item names.listed
    other_names item ne = ap (option_map (λ (e : Key × ℕ). e.0)) (find_without_other item place names.listed (λ same. ne (sym same)))

    other_left : (item : ℕ) → item ≢ place → find (λ e. e.1 == item) (without_place place listed) ≡ find (λ e. e.1 == item) listed
    other_left item ne = find_without_other item place listed (λ same. ne (sym same))

    name_was : key_of place names.listed ≡ name_of (row slots (key, place))
    name_was = name_listed named order.distinct (key, place) there

    counted_left : length (filter (λ e. is_unnamed (row slots e)) listed) ≡ length (filter (λ e. is_unnamed (row slots e)) (without_place place listed)) + (if is_unnamed (row slots (key, place)) then 1 else 0)
    counted_left = passing_without (λ e. is_unnamed (row slots e)) listed (key, place) order.distinct there

    pub named_left : (new : List (Option Entry)) → ((other : ℕ) → other ≢ place → entry_at new other ≡ entry_at slots other) → (r : ℕ) → r ≡ room → IsNamed (spare + 1) (without_place place listed) new r (without_name place names)
    named_left new others r r_is =
        let same : filter (λ e. is_unnamed (row new e)) (without_place place listed) ≡ filter (λ e. is_unnamed (row slots e)) (without_place place listed) =
        filter_same (λ e. is_unnamed (row new e)) (λ e. is_unnamed (row slots e)) (without_place place listed) (λ k d lt. ap (λ (o : Option Entry). is_unnamed ((get_or (without_place place listed) k d).0, entry_or o)) (others (get_or (without_place place listed) k d).1 (IsNewItem-without place listed k d lt))) in
        record {
          named = λ item. elim (cases_eq item place) [
            | inl at ↦ rw at (left_names_new ∙ sym (ap (name_at new) left_is_new))
            | inr other ↦
                other_names item other ∙ named.named item
                ∙ sym (name_at_same slots new item listed (find (λ e. e.1 == item) listed) refl (others item other))
                ∙ ap (name_at new) (sym (other_left item other))
          ];
          order = IsQueue-filter names.room (λ e. not (e.1 == place)) names.listed named.order;
          fits = rw (same, name_was) (room_left (name_of (row slots (key, place))) refl);
          places = rw r_is named.places;
        }
      where
        room_left : (o : Option Key) → name_of (row slots (key, place)) ≡ o → spare + 1 + length (filter (λ e. is_unnamed (row slots e)) (without_place place listed)) ≤ names.spare + (if is_some o then 1 else 0)
        room_left None is = let sum = rw is at counted_left in let fits = named.fits in omega (arith, sum, fits)
        room_left (Some name) is = let sum = rw is at counted_left in let fits = named.fits in omega (arith, sum, fits)

    module _ (new : Key) (up : IsNewKey new listed) where
      left_up : AllPairs (λ a b. compare_keys a.0 b.0 ≡ Less) (without_place place listed)
      left_up = AllPairs-filter (λ a b. compare_keys a.0 b.0 ≡ Less) (λ e. not (e.1 == place)) listed order.ascending

      left_new : IsNewKey new (without_place place listed)
      left_new = IsNewKey-without place listed new up

      here_restamped : find (λ e. e.1 == place) (restamped place new listed) ≡ Some (new, place)
      here_restamped = find_with_same place new place (without_place place listed) left_up left_new (IsNewItem-without place listed) refl

      other_restamped : (item : ℕ) → item ≢ place → find (λ e. e.1 == item) (restamped place new listed) ≡ find (λ e. e.1 == item) listed
      other_restamped item ne = find_with_other item new place (without_place place listed) left_up left_new (λ same. ne (sym same)) ∙ other_left item ne

      counted_restamped : length (filter (λ e. is_unnamed (row slots e)) (restamped place new listed)) ≡ length (filter (λ e. is_unnamed (row slots e)) (without_place place listed)) + (if is_unnamed (row slots (new, place)) then 1 else 0)
      counted_restamped = passing_with (λ e. is_unnamed (row slots e)) new place (without_place place listed) left_up left_new

      -- it has no name any more
      pub named_dropped : name_of (row slots (new, place)) ≡ None → IsNamed spare (restamped place new listed) slots room (without_name place names)
      named_dropped none = record {
        named = λ item. elim (cases_eq item place) [
          | inl at ↦ rw at (left_names_new ∙ sym none ∙ sym (ap (name_at slots) here_restamped))
          | inr other ↦ other_names item other ∙ named.named item ∙ ap (name_at slots) (sym (other_restamped item other))
        ];
        order = IsQueue-filter names.room (λ e. not (e.1 == place)) names.listed named.order;
        fits = rw name_was (room_left (name_of (row slots (key, place))) refl);
        places = named.places;
      }
        where
          room_left : (o : Option Key) → name_of (row slots (key, place)) ≡ o → spare + length (filter (λ e. is_unnamed (row slots e)) (restamped place new listed)) ≤ names.spare + (if is_some o then 1 else 0)
          room_left None is = let sum = rw is at counted_left in let more = rw none at counted_restamped in let fits = named.fits in omega (arith, sum, more, fits)
          room_left (Some name) is = let sum = rw is at counted_left in let more = rw none at counted_restamped in let fits = named.fits in omega (arith, sum, more, fits)

      -- it has the same name
      pub named_kept : (name : Key) → name_of (row slots (new, place)) ≡ Some name → name_of (row slots (key, place)) ≡ Some name → IsNamed spare (restamped place new listed) slots room names
      named_kept name is was = record {
        named = λ item. elim (cases_eq item place) [
          | inl at ↦ rw at (name_was ∙ was ∙ sym is ∙ sym (ap (name_at slots) here_restamped))
          | inr other ↦ named.named item ∙ ap (name_at slots) (sym (other_restamped item other))
        ];
        order = named.order;
        fits = let sum = rw was at counted_left in let more = rw is at counted_restamped in let fits = named.fits in omega (arith, sum, more, fits);
        places = named.places;
      }

      pub named_still : is_none (name_of (row slots (new, place))) ≡ false → is_odd key.stamp ≡ true → new.origin ≡ key.origin → new.index ≡ key.index → IsNamed spare (restamped place new listed) slots room names
      named_still some odd origin index = go (name_of (row slots (new, place))) refl some
        where
          go : (o : Option Key) → name_of (row slots (new, place)) ≡ o → is_none o ≡ false → IsNamed spare (restamped place new listed) slots room names
          go None is h = absurd (cc h)
          go (Some name) is h = named_kept name is (name_stays key new (entry_or (entry_at slots place)) name odd origin index is)

pub if_named : (names : Names) (place : ℕ) (o is : Option Key) → o ≡ is → ((name : Key) → is ≡ Some name → CanName names place name) → IfSome o (CanName names place)
if_named names place None is same can = tt
if_named names place (Some name) is same can = can name (sym same)

-- a place that is not where its key would be is nowhere
pub unmarked : (q : List (Key × ℕ)) (key : Key) (place at : ℕ) → AllPairs (λ a b. compare_keys a.0 b.0 ≡ Less) q → All (λ e. e.1 ≡ place → e.0 ≡ key) q → AllWithin (λ e. is_before e.0 key ≡ true) q 0 at → AllWithin (λ e. is_before e.0 key ≡ false) q at (length q) → (at < length q → (d : Key × ℕ) → (get_or q at d).1 ≢ place) → without_place place q ≡ q
unmarked q key place at up keyed before after other = go (key_of place q) refl
  where
    go : (o : Option Key) → key_of place q ≡ o → without_place place q ≡ q
    go None is = without_absent q place is
    go (Some k) is =
        let same : k ≡ key = has_all (λ (e : Key × ℕ). e.1 ≡ place → e.0 ≡ key) q (k, place) (key_has place k q is) keyed refl in
        let stands = stands_at place q key at up (is ∙ ap (λ (x : Key). Some x) same) before after in
        absurd (other stands.within (key, place) (ap (λ (e : Key × ℕ). e.1) (stands.here (key, place))))
