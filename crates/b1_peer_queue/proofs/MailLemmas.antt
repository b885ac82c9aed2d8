-- What is always so of what waits at a peer, and what entries that come in, leave or are committed keep of it.
use Rattle.std.proofs.Common.{◌≡◌, ◌==◌, refl, sym, ap, ◌∙◌, inl, inr, subst, ℕ, ◌+◌, ◌≤◌, Bool, true, false, not, ◌&&◌, List, [], ◌∷◌, length, map, filter, find, drop, sum_by, Option, Some, None, arith}
use Rattle.std.specs.Prelude.{if◌then◌else◌, slice_get}
use Rattle.std.proofs.lemmas.Bool.{cases_Bool, eqb-true}
use Rattle.std.proofs.lemmas.List.Sums.{sum_by-cons}
use Rattle.b1_model.specs.declared.naming.Key.{Key}
use Rattle.b1_model.specs.declared.parts.Slot.{Slot}
use Rattle.b1_model.specs.declared.entries.Entry.{Entry}
use Rattle.b1_model.specs.declared.entries.Entry.TheVariants.{Message, OwnNotice, ForeignNotice, ReleaseNotice}
use Rattle.b1_model.specs.declared.answers.Quantity.{Quantity}
use Rattle.b1_model.specs.MachineParts.{carried, is_data, is_odd, is_release_notice, key_before}
use Rattle.b1_model.specs.MachineTables.{charged, is_stage, is_staged_notice, put, put_all, without}
use Rattle.b1_model.specs.MachineSend.{with_slots, with_stamp}
use Rattle.b1_step.specs.Ordered.{Ascending, NewKey}
use Rattle.b1_step.specs.Rights.{Has}
use Rattle.b1_step.proofs.Orders.{new_without, put_ascending, without_ascending}
use Rattle.b1_step.proofs.Queues.{sum_put, sum_put_all, sum_without}
use Rattle.b1_peer_queue.specs.Mail.{Every, IsCommittable, IsMail, IsNewNotice, IsSound, committed_queue, count, notices_queue}
use Rattle.b1_peer_queue.specs.Charged.{HasSlots, weight}
use Rattle.b1_peer_queue.proofs.ListLemmas.{find_passes}
use Rattle.b1_peer_queue.proofs.CommitLemmas.{stage_parts}

abbrev Items : Type 0
Items = List (Key × Entry)

-- ---- every entry

module _ (P : Key × Entry → Type 0) where
  pub every_put : (k : Key) (e : Entry) (queue : Items) → P (k, e) → Every P queue → Every P (put k e queue)
  every_put k e [] one all = (one, all)
  every_put k e (f ∷ rest) one all =
      elim (cases_Bool (key_before k f.0)) [ inl h ↦ rw h (one, all) | inr h ↦ rw h (all.0, every_put k e rest one all.1) ]

  pub every_filter : (p : Key × Entry → Bool) (queue : Items) → Every P queue → Every P (filter p queue)
  every_filter p [] all = all
  every_filter p (f ∷ rest) all = elim (cases_Bool (p f)) [ inl h ↦ rw h (all.0, every_filter p rest all.1) | inr h ↦ rw h (every_filter p rest all.1) ]

  pub every_put_all : (more queue : Items) → Every P more → Every P queue → Every P (put_all more queue)
  every_put_all [] queue new all = all
  every_put_all (f ∷ rest) queue new all = every_put f.0 f.1 (put_all rest queue) new.0 (every_put_all rest queue new.1 all)

  pub every_has : (queue : Items) (f : Key × Entry) → Has queue f → Every P queue → P f
  every_has [] f h all = absurd h
  every_has (g ∷ rest) f (inl same) all = subst P (sym same) all.0
  every_has (g ∷ rest) f (inr further) all = every_has rest f further all.1

-- ---- how many pass

module _ (test : Key × Entry → Bool) where
  abbrev bit : Key × Entry → ℕ
  bit f = if test f then 1 else 0

  pub count_none : (queue : Items) → find test queue ≡ None → count test queue ≡ 0
  count_none [] is = refl
  count_none (f ∷ rest) is =
      elim (cases_Bool (test f)) [
        | inl h ↦ let e = rw h at is in absurd (cc e)
        | inr h ↦
            let none : bit f ≡ 0 = ap (λ (b : Bool). if b then 1 else 0) h in
            omega (arith, sum_by-cons bit f rest, none, count_none rest (rw h at is))
      ]

  pub count_filter : (p : Key × Entry → Bool) (queue : Items) → count test (filter p queue) ≤ count test queue
  count_filter p [] = omega arith
  count_filter p (f ∷ rest) =
      let sum = sum_by-cons bit f rest in
      let ih = count_filter p rest in
      elim (cases_Bool (p f)) [
        | inl h ↦ rw h (omega (arith, sum, sum_by-cons bit f (filter p rest), ih))
        | inr h ↦ rw h (omega (arith, sum, ih))
      ]

  -- one that passes at most is the one that is found
  pub filter_one : (queue : Items) (f : Key × Entry) → find test queue ≡ Some f → count test queue ≤ 1 → filter test queue ≡ f ∷ []
  filter_one [] f is one = absurd (cc is)
  filter_one (g ∷ rest) f is one =
      let sum = sum_by-cons bit g rest in
      elim (cases_Bool (test g)) [
        | inl h ↦
            let same : g ≡ f = let e = rw h at is in cc e in
            let this : bit g ≡ 1 = ap (λ (b : Bool). if b then 1 else 0) h in
            rw h (ap (λ (x : Key × Entry). x ∷ filter test rest) same ∙ ap (λ (xs : Items). f ∷ xs) (none_left rest (omega (arith, sum, this, one))))
        | inr h ↦ rw h (filter_one rest f (rw h at is) (omega (arith, sum, one)))
      ]
    where
      none_left : (rest : Items) → count test rest ≡ 0 → filter test rest ≡ []
      none_left [] none = refl
      none_left (x ∷ rest) none =
          let sum = sum_by-cons bit x rest in
          elim (cases_Bool (test x)) [
            | inl h ↦ let this : bit x ≡ 1 = ap (λ (b : Bool). if b then 1 else 0) h in absurd (omega (arith, sum, this, none))
            | inr h ↦ rw h (none_left rest (omega (arith, sum, none)))
          ]

-- ---- charges

module _ (what : Quantity) (passes : ℕ → Bool) where
  abbrev weight_of : Key × Entry → ℕ
  weight_of f = weight what passes f.1

  charged_sum : (queue : Items) → charged what passes queue ≡ sum_by weight_of queue
  charged_sum [] = refl
  charged_sum ((k, Message origin user index serial offset len nodes slots handles payload) ∷ rest) = let ih = charged_sum rest in omega (arith, ih, sum_by-cons weight_of (k, Message origin user index serial offset len nodes slots handles payload) rest)
  charged_sum ((k, OwnNotice serial index) ∷ rest) = let ih = charged_sum rest in omega (arith, ih, sum_by-cons weight_of (k, OwnNotice serial index) rest)
  charged_sum ((k, ForeignNotice node index) ∷ rest) = let ih = charged_sum rest in omega (arith, ih, sum_by-cons weight_of (k, ForeignNotice node index) rest)
  charged_sum ((k, ReleaseNotice serial) ∷ rest) = let ih = charged_sum rest in omega (arith, ih, sum_by-cons weight_of (k, ReleaseNotice serial) rest)

  pub charged_put : (k : Key) (e : Entry) (queue : Items) → charged what passes (put k e queue) ≡ charged what passes queue + weight what passes e
  charged_put k e queue = let one = sum_put weight_of k e queue in let two = charged_sum queue in let three = charged_sum (put k e queue) in omega (arith, one, two, three)

  -- the one that is found leaves
  pub charged_without : (test : Key × Entry → Bool) (queue : Items) (f : Key × Entry) → find test queue ≡ Some f → count test queue ≤ 1 → charged what passes (without test queue) + weight what passes f.1 ≡ charged what passes queue
  charged_without test queue f is one =
      let whole = sum_without weight_of test queue in
      let alone = ap (sum_by weight_of) (filter_one test queue f is one) in
      let single = sum_by-cons weight_of f [] in
      omega (arith, whole, alone, single, charged_sum queue, charged_sum (without test queue))

  pub charged_first : (queue : Items) (f : Key × Entry) → slice_get queue 0 ≡ Some f → charged what passes (drop 1 queue) + weight what passes f.1 ≡ charged what passes queue
  charged_first [] f is = absurd (cc is)
  charged_first (g ∷ rest) f is =
      let same : g ≡ f = cc is in
      let sum = sum_by-cons weight_of g rest in
      let at = ap weight_of same in
      omega (arith, sum, at, charged_sum (g ∷ rest), charged_sum rest)

  -- the stamp makes no difference
  pub charged_notices : (origin stamp : ℕ) (queue : Items) → charged what passes (notices_queue origin stamp queue) ≡ charged what passes queue
  charged_notices origin stamp queue =
      let staged = filter (is_staged_notice origin) queue in
      let all = sum_put_all weight_of (map (with_stamp stamp) staged) (without (is_staged_notice origin) queue) in
      omega (arith, all, stamped_sum staged, sum_without weight_of (is_staged_notice origin) queue, charged_sum queue, charged_sum (notices_queue origin stamp queue))
    where
      stamped_sum : (xs : Items) → sum_by weight_of (map (with_stamp stamp) xs) ≡ sum_by weight_of xs
      stamped_sum [] = refl
      stamped_sum (f ∷ xs) = let ih = stamped_sum xs in omega (arith, ih, sum_by-cons weight_of (with_stamp stamp f) (map (with_stamp stamp) xs), sum_by-cons weight_of f xs)

pub same_weight : (what : Quantity) (passes : ℕ → Bool) (slots : List Slot) (e : Entry) → weight what passes (with_slots slots e) ≡ weight what passes e
same_weight what passes more (Message origin user index serial offset len nodes slots handles payload) = refl
same_weight what passes more (OwnNotice serial index) = refl
same_weight what passes more (ForeignNotice node index) = refl
same_weight what passes more (ReleaseNotice serial) = refl

-- ---- what is always so

module _ (users : List ℕ) where
  pub mail_empty : IsMail users []
  mail_empty = record { ascending = tt; one_stage = λ origin index. omega arith; one_release = λ serial. omega arith; sound = tt }

  -- no message is a release notice
  data_not_release : (serial : ℕ) (k : Key) (e : Entry) → is_data e ≡ true → is_release_notice serial (k, e) ≡ false
  data_not_release serial k (Message origin user index dest offset len nodes slots handles payload) h = refl
  data_not_release serial k (OwnNotice doomed index) h = absurd (cc h)
  data_not_release serial k (ForeignNotice node index) h = absurd (cc h)
  data_not_release serial k (ReleaseNotice mine) h = absurd (cc h)

  -- a message comes in
  pub mail_message : (queue : Items) → IsMail users queue → (k : Key) (e : Entry) → is_data e ≡ true → IsSound users (k, e) → NewKey k queue → find (is_stage k.origin k.index) queue ≡ None → IsMail users (put k e queue)
  mail_message queue h k e data_is sound new none = record {
    ascending = put_ascending k e queue new h.ascending;
    one_stage = λ origin index. stages origin index;
    one_release = λ serial.
        let sum = sum_put (λ (f : Key × Entry). if is_release_notice serial f then 1 else 0) k e queue in
        let s = rw (data_not_release serial k e data_is) at sum in
        omega (arith, s, h.one_release serial);
    sound = every_put (IsSound users) k e queue sound h.sound;
  }
    where
      stages : (origin index : ℕ) → count (is_stage origin index) (put k e queue) ≤ 1
      stages origin index =
          let sum = sum_put (bit (is_stage origin index)) k e queue in
          elim (cases_Bool (is_stage origin index (k, e))) [
            | inl is ↦
                let parts = stage_parts origin index k e is in
                let absent : find (is_stage origin index) queue ≡ None = ap (λ o. find (is_stage o index) queue) (sym parts.1) ∙ ap (λ i. find (is_stage k.origin i) queue) (sym parts.2) ∙ none in
                let s = rw is at sum in
                omega (arith, s, count_none (is_stage origin index) queue absent)
            | inr is ↦ let s = rw is at sum in omega (arith, s, h.one_stage origin index)
          ]

  notice_sound : (k : Key) (e : Entry) → is_data e ≡ false → IsSound users (k, e)
  notice_sound k (Message origin user index serial offset len nodes slots handles payload) h = absurd (cc h)
  notice_sound k (OwnNotice serial index) h = tt
  notice_sound k (ForeignNotice node index) h = tt
  notice_sound k (ReleaseNotice serial) h = tt

  new_release : (queue : Items) (serial : ℕ) (k : Key) (e : Entry) → IsNewNotice e queue → is_release_notice serial (k, e) ≡ true → find (is_release_notice serial) queue ≡ None
  new_release queue serial k (Message origin user index dest offset len nodes slots handles payload) new is = absurd (cc is)
  new_release queue serial k (OwnNotice doomed index) new is = absurd (cc is)
  new_release queue serial k (ForeignNotice node index) new is = absurd (cc is)
  new_release queue serial k (ReleaseNotice mine) new is = ap (λ s. find (is_release_notice s) queue) (sym (eqb-true mine serial is)) ∙ new

  -- a notice comes in
  pub mail_notice : (queue : Items) → IsMail users queue → (k : Key) (e : Entry) → is_data e ≡ false → NewKey k queue → IsNewNotice e queue → IsMail users (put k e queue)
  mail_notice queue h k e data_is new none = record {
    ascending = put_ascending k e queue new h.ascending;
    one_stage = λ origin index.
        let sum = sum_put (bit (is_stage origin index)) k e queue in
        let s = rw data_is at sum in
        omega (arith, s, h.one_stage origin index);
    one_release = λ serial. releases serial;
    sound = every_put (IsSound users) k e queue (notice_sound k e data_is) h.sound;
  }
    where
      releases : (serial : ℕ) → count (is_release_notice serial) (put k e queue) ≤ 1
      releases serial =
          let sum = sum_put (bit (is_release_notice serial)) k e queue in
          elim (cases_Bool (is_release_notice serial (k, e))) [
            | inl is ↦ let s = rw is at sum in omega (arith, s, count_none (is_release_notice serial) queue (new_release queue serial k e none is))
            | inr is ↦ let s = rw is at sum in omega (arith, s, h.one_release serial)
          ]

  -- entries leave
  pub mail_without : (queue : Items) → IsMail users queue → (test : Key × Entry → Bool) → IsMail users (without test queue)
  mail_without queue h test = record {
    ascending = without_ascending test queue h.ascending;
    one_stage = λ origin index. omega (arith, count_filter (is_stage origin index) (λ f. not (test f)) queue, h.one_stage origin index);
    one_release = λ serial. omega (arith, count_filter (is_release_notice serial) (λ f. not (test f)) queue, h.one_release serial);
    sound = every_filter (IsSound users) (λ f. not (test f)) queue h.sound;
  }

  pub mail_rest : (queue : Items) → IsMail users queue → IsMail users (drop 1 queue)
  mail_rest [] h = h
  mail_rest (f ∷ rest) h = record {
    ascending = h.ascending.1;
    one_stage = λ origin index. omega (arith, sum_by-cons (bit (is_stage origin index)) f rest, h.one_stage origin index);
    one_release = λ serial. omega (arith, sum_by-cons (bit (is_release_notice serial)) f rest, h.one_release serial);
    sound = h.sound.1;
  }

  -- a message is committed
  pub slots_fit : (k : Key) (e : Entry) (more : List Slot) → IsSound users (k, e) → length more ≡ length (carried e) → HasSlots (length more) e
  slots_fit k (Message origin user index serial offset len nodes slots handles payload) more sound fits = sound.slots_are ∙ sym fits
  slots_fit k (OwnNotice serial index) more sound fits = tt
  slots_fit k (ForeignNotice node index) more sound fits = tt
  slots_fit k (ReleaseNotice serial) more sound fits = tt

  committed_sound : (stamp : ℕ) (k : Key) (e : Entry) (more : List Slot) → IsSound users (k, e) → length more ≡ length (carried e) → IsSound users (record k { stamp = stamp }, with_slots more e)
  committed_sound stamp k (Message origin user index serial offset len nodes slots handles payload) more sound fits = record { origin_is = sound.origin_is; index_is = sound.index_is; user_known = sound.user_known; len_is = sound.len_is; short = sound.short; slots_are = fits; few = sound.few }
  committed_sound stamp k (OwnNotice serial index) more sound fits = tt
  committed_sound stamp k (ForeignNotice node index) more sound fits = tt
  committed_sound stamp k (ReleaseNotice serial) more sound fits = tt

  stamped_sound : (stamp : ℕ) (k : Key) (e : Entry) → IsSound users (k, e) → IsSound users (with_stamp stamp (k, e))
  stamped_sound stamp k (Message origin user index serial offset len nodes slots handles payload) sound = record { origin_is = sound.origin_is; index_is = sound.index_is; user_known = sound.user_known; len_is = sound.len_is; short = sound.short; slots_are = sound.slots_are; few = sound.few }
  stamped_sound stamp k (OwnNotice serial index) sound = tt
  stamped_sound stamp k (ForeignNotice node index) sound = tt
  stamped_sound stamp k (ReleaseNotice serial) sound = tt

  -- ---- entries are committed

  same_data : (more : List Slot) (e : Entry) → is_data (with_slots more e) ≡ is_data e
  same_data more (Message origin user index serial offset len nodes slots handles payload) = refl
  same_data more (OwnNotice serial index) = refl
  same_data more (ForeignNotice node index) = refl
  same_data more (ReleaseNotice serial) = refl

  same_release : (serial stamp : ℕ) (k : Key) (e : Entry) → is_release_notice serial (with_stamp stamp (k, e)) ≡ is_release_notice serial (k, e)
  same_release serial stamp k (Message origin user index dest offset len nodes slots handles payload) = refl
  same_release serial stamp k (OwnNotice doomed index) = refl
  same_release serial stamp k (ForeignNotice node index) = refl
  same_release serial stamp k (ReleaseNotice mine) = refl

  and_false : (a b c : Bool) → (a && false && b && c) ≡ false
  and_false true b c = refl
  and_false false b c = refl

  -- what has an even stamp isn't staged
  even_not_stage : (origin index : ℕ) (k : Key) (e : Entry) → is_odd k.stamp ≡ false → is_stage origin index (k, e) ≡ false
  even_not_stage origin index k e even = rw even (and_false (is_data e) (k.origin == origin) (k.index == index))

  pub mail_committed : (queue : Items) → IsMail users queue → (origin index stamp : ℕ) → is_odd stamp ≡ false → (more : List Slot) (o : Option (Key × Entry)) → o ≡ find (is_stage origin index) queue → IsCommittable o origin index stamp more queue → IsMail users (committed_queue o origin index stamp more queue)
  mail_committed queue h origin index stamp even more None is fits = h
  mail_committed queue h origin index stamp even more (Some (k, e)) is fits =
      let found = find_passes (is_stage origin index) queue (k, e) (sym is) in
      let parts = stage_parts origin index k e found.1 in
      let old_sound = every_has (IsSound users) queue (k, e) found.0 h.sound in
      record {
        ascending = put_ascending final (with_slots more e) left (new_without (is_stage origin index) final queue fits.1) (without_ascending (is_stage origin index) queue h.ascending);
        one_stage = λ o i.
            let sum = sum_put (bit (is_stage o i)) final (with_slots more e) left in
            let none : bit (is_stage o i) (final, with_slots more e) ≡ 0 = ap (λ (b : Bool). if b then 1 else 0) (even_not_stage o i final (with_slots more e) even) in
            omega (arith, sum, none, count_filter (is_stage o i) (λ f. not (is_stage origin index f)) queue, h.one_stage o i);
        one_release = λ serial.
            let sum = sum_put (bit (is_release_notice serial)) final (with_slots more e) left in
            let none : bit (is_release_notice serial) (final, with_slots more e) ≡ 0 = ap (λ (b : Bool). if b then 1 else 0) (data_not_release serial final (with_slots more e) (same_data more e ∙ parts.0)) in
            omega (arith, sum, none, count_filter (is_release_notice serial) (λ f. not (is_stage origin index f)) queue, h.one_release serial);
        sound =
            every_put (IsSound users) final (with_slots more e) left
            (subst (λ (a : Key). IsSound users (a, with_slots more e)) (final_is parts.1 parts.2) (committed_sound stamp k e more old_sound fits.0))
            (every_filter (IsSound users) (λ f. not (is_stage origin index f)) queue h.sound);
      }
    where
      final : Key
      final = record { stamp = stamp; origin = origin; index = index }

      left : Items
      left = without (is_stage origin index) queue

      final_is : k.origin ≡ origin → k.index ≡ index → record k { stamp = stamp } ≡ final
      final_is o i = λ j. record { stamp = stamp; origin = o j; index = i j }

  pub mail_notices : (queue : Items) → IsMail users queue → (origin stamp : ℕ) → is_odd stamp ≡ false → Ascending (notices_queue origin stamp queue) → IsMail users (notices_queue origin stamp queue)
  mail_notices queue h origin stamp even up = record {
    ascending = up;
    one_stage = λ o i.
        let all = sum_put_all (bit (is_stage o i)) (map (with_stamp stamp) staged) (without (is_staged_notice origin) queue) in
        omega (arith, all, none_staged o i staged, count_filter (is_stage o i) (λ f. not (is_staged_notice origin f)) queue, h.one_stage o i);
    one_release = λ serial.
        let all = sum_put_all (bit (is_release_notice serial)) (map (with_stamp stamp) staged) (without (is_staged_notice origin) queue) in
        omega (arith, all, same_count serial staged, sum_without (bit (is_release_notice serial)) (is_staged_notice origin) queue, h.one_release serial);
    sound =
        every_put_all (IsSound users) (map (with_stamp stamp) staged) (without (is_staged_notice origin) queue)
        (each staged (every_filter (IsSound users) (is_staged_notice origin) queue h.sound))
        (every_filter (IsSound users) (λ f. not (is_staged_notice origin f)) queue h.sound);
  }
    where
      staged : Items
      staged = filter (is_staged_notice origin) queue

      none_staged : (o i : ℕ) (xs : Items) → sum_by (bit (is_stage o i)) (map (with_stamp stamp) xs) ≡ 0
      none_staged o i [] = refl
      none_staged o i ((k, e) ∷ xs) =
          let none : bit (is_stage o i) (with_stamp stamp (k, e)) ≡ 0 = ap (λ (b : Bool). if b then 1 else 0) (even_not_stage o i (record k { stamp = stamp }) e even) in
          omega (arith, sum_by-cons (bit (is_stage o i)) (with_stamp stamp (k, e)) (map (with_stamp stamp) xs), none, none_staged o i xs)

      same_count : (serial : ℕ) (xs : Items) → sum_by (bit (is_release_notice serial)) (map (with_stamp stamp) xs) ≡ sum_by (bit (is_release_notice serial)) xs
      same_count serial [] = refl
      same_count serial ((k, e) ∷ xs) =
          let same : bit (is_release_notice serial) (with_stamp stamp (k, e)) ≡ bit (is_release_notice serial) (k, e) = ap (λ (b : Bool). if b then 1 else 0) (same_release serial stamp k e) in
          omega (arith, sum_by-cons (bit (is_release_notice serial)) (with_stamp stamp (k, e)) (map (with_stamp stamp) xs), sum_by-cons (bit (is_release_notice serial)) (k, e) xs, same, same_count serial xs)

      each : (xs : Items) → Every (IsSound users) xs → Every (IsSound users) (map (with_stamp stamp) xs)
      each [] all = tt
      each ((k, e) ∷ xs) all = (stamped_sound stamp k e all.0, each xs all.1)
