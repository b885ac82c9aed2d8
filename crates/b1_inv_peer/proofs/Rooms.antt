-- The room that events need, where entries and records come and go.
use Rattle.std.proofs.Common.{◌≡◌, ◌≢◌, refl, sym, ap, ◌∙◌, ℕ, zero, suc, ◌+◌, ◌-◌, ◌≤◌, ◌<◌, Bool, true, false, cond, not, ◌&&◌, List, [], ◌∷◌, filter, map, length, Some, None, ◌==◌}
use Rattle.std.proofs.lemmas.Bool.{eqb-true}
use Rattle.std.proofs.lemmas.List.Sums.{sum_by-cons}
use native.Mathlib.Omega.{arith}
use Rattle.b1_model.specs.declared.naming.Key.{Key}
use Rattle.b1_model.specs.declared.naming.NodeRef.{NodeRef}
use Rattle.b1_model.specs.declared.parts.Slot.{Slot}
use Rattle.b1_model.specs.declared.entries.Entry.{Entry}
use Rattle.b1_model.specs.declared.entries.Entry.TheVariants.{Message, OwnNotice, ForeignNotice, ReleaseNotice}
use Rattle.b1_model.specs.MachineParts.{HandleRecord, is_data, carried, record_of, is_release_notice}
use Rattle.b1_model.specs.MachineTables.{put, put_all, without, is_staged_notice, changed, made_dead, noticed as with_notice, expected}
use Rattle.b1_model.specs.MachineSend.{with_slots, with_stamp}
use Rattle.b1_inv_peer.specs.PeerOk.{count, is_message, carries, is_notice_of, places, unnoticed, IsRoom}
use Rattle.b1_inv_peer.specs.Changes.{Removes, LessFlight}
use Rattle.b1_inv_peer.proofs.Counts.{one, count_put, count_none, count_without_le, count_without_other, sum_moved}
use Rattle.b1_inv_peer.proofs.RecordLists.{fewer_changed, more_expected, unnoticed_one_more, unnoticed_noticed, unnoticed_expected}
use Rattle.b1_inv_peer.proofs.Places.{places_le, places_one_more, places_one_less, places_made}
use Rattle.b1_inv_peer.proofs.Entries.{notice_of_none, data_committed, notice_of_committed}

abbrev Queue : Type 0
Queue = List (Key × Entry)

-- ---- at most so much room is needed

pub places_most : (queue : Queue) (made : ℕ) → places queue made ≤ made
places_most queue zero = omega arith
places_most queue (suc made) = let further = places_most queue made in let one_more = places_made queue made in omega (arith, further, one_more)

pub unnoticed_most : (hs : List HandleRecord) → unnoticed hs ≤ length hs
unnoticed_most [] = omega arith
unnoticed_most (h ∷ rest) = let further = unnoticed_most rest in let whole = sum_by-cons (λ (g : HandleRecord). cond g.notice 0 1) h rest in let head = low h.notice in omega (arith, further, whole, head)
  where
    low : (b : Bool) → cond b 0 1 ≤ 1
    low true = omega arith
    low false = omega arith

pub count_most : (test : Key × Entry → Bool) (queue : Queue) → count test queue ≤ length queue
count_most test [] = omega arith
count_most test (f ∷ rest) = let further = count_most test rest in let whole = sum_by-cons (λ g. one (test g)) f rest in let head = low (test f) in omega (arith, further, whole, head)
  where
    low : (b : Bool) → one b ≤ 1
    low true = omega arith
    low false = omega arith

pub places_grow : (queue : Queue) (made more : ℕ) → places queue (made + more) ≤ places queue made + more
places_grow queue made zero = let same : made + 0 ≡ made = omega arith in rw same (let e : places queue made ≤ places queue made + 0 = omega arith in e)
places_grow queue made (suc more) =
    let further = places_grow queue made more in
    let one_more = places_made queue (made + more) in
    let same : made + suc more ≡ suc (made + more) = omega arith in
    rw same (let e : places queue (suc (made + more)) ≤ places queue made + suc more = omega (arith, further, one_more) in e)

-- a message carries as many nodes once it is committed
carries_committed : (m : ℕ) (slots : List Slot) (k new : Key) (e : Entry) → carries m (new, with_slots slots e) ≡ carries m (k, e)
carries_committed m slots k new (Message o user index serial offset len nodes old hs payload) = refl
carries_committed m slots k new (OwnNotice serial index) = refl
carries_committed m slots k new (ForeignNotice node index) = refl
carries_committed m slots k new (ReleaseNotice serial) = refl

-- ---- one change

module _ (queue : Queue) (made : ℕ) (handles : List HandleRecord) (spare items singles : ℕ) (sets : ℕ → ℕ) (room : IsRoom queue made handles spare items singles sets) where
  -- records change and none loses its notice
  pub room_records : (new : List HandleRecord) → length new ≤ length handles → unnoticed new ≤ unnoticed handles → IsRoom queue made new spare items singles sets
  room_records new fewer free = record {
    notices = (let old = room.notices in omega (arith, old, free));
    dead = (let old = room.dead in omega (arith, old, fewer));
    records = (let old = room.records in omega (arith, old, fewer));
    messages = room.messages;
  }

  -- nodes are made, and there is room for them
  pub room_made : (more : ℕ) → places queue made + unnoticed handles + more ≤ spare → IsRoom queue (made + more) handles spare items singles sets
  room_made more enough = record {
    notices = (let grow = places_grow queue made more in omega (arith, grow, enough));
    dead = room.dead;
    records = room.records;
    messages = room.messages;
  }

  -- a message comes in
  pub room_staged : (k : Key) (e : Entry) (nodes : List NodeRef) → is_data e ≡ true → places queue made + unnoticed handles + length nodes + 1 ≤ spare → count is_message queue + length handles + length nodes + 1 ≤ items → length handles + length nodes ≤ singles → ((m : ℕ) → count (carries m) queue + one (length (carried e) == m) ≤ sets m) → IsRoom (put k e queue) made (expected nodes handles) (spare - 1) items singles sets
  room_staged k e nodes is places_enough items_enough singles_enough sets_enough = record {
    notices = (let le = places_le queue (put k e queue) made (λ s. (let now = count_put (is_notice_of s) k e queue in omega (arith, now))) in let free = unnoticed_expected nodes handles in omega (arith, le, free, places_enough));
    dead = (let now = count_put is_message k e queue in let mine : one (is_data e) ≡ 1 = ap one is in let more = more_expected nodes handles in omega (arith, now, mine, more, items_enough));
    records = (let more = more_expected nodes handles in omega (arith, more, singles_enough));
    messages = λ m. (let now = count_put (carries m) k e queue in let mine : one (carries m (k, e)) ≡ one (length (carried e) == m) = ap (λ b. one (b && (length (carried e) == m))) is in let enough = sets_enough m in omega (arith, now, mine, enough));
  }

  -- a message leaves, and may take an item and a buffer with it
  pub room_message_left : (left : Queue) (f : Key × Entry) (new : List HandleRecord) (me : ℕ) (nodes : List NodeRef) (new_spare new_items new_singles : ℕ) (new_sets : ℕ → ℕ) → Removes queue left f → is_data f.1 ≡ true → LessFlight me nodes handles new → spare ≤ new_spare → items ≤ new_items + 1 → singles ≤ new_singles → ((m : ℕ) → sets m ≤ new_sets m + one (length (carried f.1) == m)) → IsRoom left made new new_spare new_items new_singles new_sets
  room_message_left left f new me nodes new_spare new_items new_singles new_sets gone is less spare_le items_le singles_le sets_le = record {
    notices = (let le = places_le queue left made (λ s. (let whole = gone.sums (λ e. one (is_notice_of s e)) in let none : one (is_notice_of s f) ≡ 0 = ap one (notice_of_none s f is) in omega (arith, whole, none))) in let free = less.unnoticed in let old = room.notices in omega (arith, le, free, old, spare_le));
    dead = (let whole = gone.sums (λ e. one (is_message e)) in let mine : one (is_message f) ≡ 1 = ap one is in let fewer = less.fewer in let old = room.dead in omega (arith, whole, mine, fewer, old, items_le));
    records = (let fewer = less.fewer in let old = room.records in omega (arith, fewer, old, singles_le));
    messages = λ m. (let whole = gone.sums (λ e. one (carries m e)) in let mine : one (carries m f) ≡ one (length (carried f.1) == m) = ap (λ b. one (b && (length (carried f.1) == m))) is in let old = room.messages m in let le = sets_le m in omega (arith, whole, mine, old, le));
  }

  -- a message is committed
  pub room_committed : (left : Queue) (f : Key × Entry) (new : Key) (slots : List Slot) → Removes queue left f → IsRoom (put new (with_slots slots f.1) left) made handles spare items singles sets
  room_committed left f new slots gone = record {
    notices = (let le = places_le queue (put new (with_slots slots f.1) left) made (λ s. (let whole = gone.sums (λ e. one (is_notice_of s e)) in let now = count_put (is_notice_of s) new (with_slots slots f.1) left in let same = ap one (notice_of_committed s f.0 new f.1 slots) in omega (arith, whole, now, same))) in let old = room.notices in omega (arith, le, old));
    dead = (let whole = gone.sums (λ e. one (is_message e)) in let now = count_put is_message new (with_slots slots f.1) left in let same = ap one (data_committed slots f.1) in let old = room.dead in omega (arith, whole, now, same, old));
    records = room.records;
    messages = λ m. (let whole = gone.sums (λ e. one (carries m e)) in let now = count_put (carries m) new (with_slots slots f.1) left in let same = ap one (carries_committed m slots f.0 new f.1) in let old = room.messages m in omega (arith, whole, now, same, old));
  }

  -- notices are committed
  pub room_notices_committed : (origin stamp : ℕ) → IsRoom (put_all (map (with_stamp stamp) (filter (is_staged_notice origin) queue)) (without (is_staged_notice origin) queue)) made handles spare items singles sets
  room_notices_committed origin stamp =
      let moved = put_all (map (with_stamp stamp) (filter (is_staged_notice origin) queue)) (without (is_staged_notice origin) queue) in
      record {
        notices = (let le = places_le queue moved made (λ s. (let same = sum_moved (λ e. one (is_notice_of s e)) (is_staged_notice origin) (with_stamp stamp) queue (λ f is. ap one (notice_of_stamp s f)) in omega (arith, same))) in let old = room.notices in omega (arith, le, old));
        dead = (let same = sum_moved (λ e. one (is_message e)) (is_staged_notice origin) (with_stamp stamp) queue (λ f is. refl) in let old = room.dead in omega (arith, same, old));
        records = room.records;
        messages = λ m. (let same = sum_moved (λ e. one (carries m e)) (is_staged_notice origin) (with_stamp stamp) queue (λ f is. refl) in let old = room.messages m in omega (arith, same, old));
      }
    where
      notice_of_stamp : (s : ℕ) (f : Key × Entry) → is_notice_of s (with_stamp stamp f) ≡ is_notice_of s f
      notice_of_stamp s (k, Message o user index serial offset len carries slots hs payload) = refl
      notice_of_stamp s (k, OwnNotice serial index) = refl
      notice_of_stamp s (k, ForeignNotice other index) = refl
      notice_of_stamp s (k, ReleaseNotice serial) = refl

  -- an own node's notice leaves
  pub room_notice_left : (left : Queue) (f : Key × Entry) (t new_spare : ℕ) → Removes queue left f → ((s : ℕ) → s ≢ t → is_notice_of s f ≡ false) → spare + 1 ≤ new_spare → IsRoom left made handles new_spare items singles sets
  room_notice_left left f t new_spare gone others spare_le = record {
    notices = (let le = places_one_more queue left t made (λ s apart. (let whole = gone.sums (λ e. one (is_notice_of s e)) in let none : one (is_notice_of s f) ≡ 0 = ap one (others s apart) in omega (arith, whole, none))) in let old = room.notices in omega (arith, le, old, spare_le));
    dead = (let whole = gone.sums (λ e. one (is_message e)) in let old = room.dead in omega (arith, whole, old));
    records = room.records;
    messages = λ m. (let whole = gone.sums (λ e. one (carries m e)) in let old = room.messages m in omega (arith, whole, old));
  }

  -- a foreign node's notice leaves
  pub room_foreign_left : (left : Queue) (k : Key) (node : NodeRef) (index new_spare : ℕ) → Removes queue left (k, ForeignNotice node index) → spare + 1 ≤ new_spare → IsRoom left made (changed node made_dead handles) new_spare items singles sets
  room_foreign_left left k node index new_spare gone spare_le = record {
    notices = (let le = places_le queue left made (λ s. (let whole = gone.sums (λ e. one (is_notice_of s e)) in omega (arith, whole))) in let free = unnoticed_one_more node made_dead handles in let old = room.notices in omega (arith, le, free, old, spare_le));
    dead = (let whole = gone.sums (λ e. one (is_message e)) in let fewer = fewer_changed node made_dead handles in let old = room.dead in omega (arith, whole, fewer, old));
    records = (let fewer = fewer_changed node made_dead handles in let old = room.records in omega (arith, fewer, old));
    messages = λ m. (let whole = gone.sums (λ e. one (carries m e)) in let old = room.messages m in omega (arith, whole, old));
  }

  -- a release notice leaves, if it is there
  pub room_released : (t new_spare : ℕ) → (count (is_release_notice t) queue ≡ 0 → spare ≤ new_spare) → (1 ≤ count (is_release_notice t) queue → spare + 1 ≤ new_spare) → IsRoom (without (is_release_notice t) queue) made handles new_spare items singles sets
  room_released t new_spare none_le some_le = record {
    notices = at (count (is_release_notice t) queue) refl;
    dead = (let le = count_without_le is_message (is_release_notice t) queue in let old = room.dead in omega (arith, le, old));
    records = room.records;
    messages = λ m. (let le = count_without_le (carries m) (is_release_notice t) queue in let old = room.messages m in omega (arith, le, old));
  }
    where
      other : (s : ℕ) → s ≢ t → (f : Key × Entry) → is_release_notice t f ≡ true → is_notice_of s f ≡ false
      other s apart (k, Message o user index serial offset len carries slots hs payload) is = refl
      other s apart (k, OwnNotice serial index) is = absurd (cc is)
      other s apart (k, ForeignNotice node index) is = refl
      other s apart (k, ReleaseNotice serial) is = differs (serial == s) refl
        where
          differs : (b : Bool) → (serial == s) ≡ b → (serial == s) ≡ false
          differs false e = e
          differs true e = absurd (apart (sym (eqb-true serial s e) ∙ eqb-true serial t is))

      at : (n : ℕ) → count (is_release_notice t) queue ≡ n → places (without (is_release_notice t) queue) made + unnoticed handles ≤ new_spare
      at zero is =
          let le = places_le queue (without (is_release_notice t) queue) made (λ s. (let same = count_without_other (is_notice_of s) (is_release_notice t) queue (λ f h passes. absurd (cc (sym (count_none (is_release_notice t) queue is f h) ∙ passes))) in omega (arith, same))) in
          let old = room.notices in
          let more = none_le is in
          omega (arith, le, old, more)
      at (suc n) is =
          let le = places_one_more queue (without (is_release_notice t) queue) t made (λ s apart. (let same = count_without_other (is_notice_of s) (is_release_notice t) queue (λ f h passes. other s apart f passes) in omega (arith, same))) in
          let old = room.notices in
          let more = some_le (omega (arith, is)) in
          omega (arith, le, old, more)

  -- an own node that has no notice gets one
  module _ (k : Key) (e : Entry) (t : ℕ) (is : is_data e ≡ false) (mine : is_notice_of t (k, e) ≡ true) (low : t < made) (none : count (is_notice_of t) queue ≡ 0) where
    one_place_less : places (put k e queue) made + 1 ≤ places queue made
    one_place_less = places_one_less queue (put k e queue) t made low (λ s apart. (let now = count_put (is_notice_of s) k e queue in omega (arith, now))) none (let now = count_put (is_notice_of t) k e queue in let here : one (is_notice_of t (k, e)) ≡ 1 = ap one mine in omega (arith, now, here))

    pub room_for_notice : 1 ≤ spare
    room_for_notice = let less = one_place_less in let old = room.notices in omega (arith, less, old)

    pub room_notice_put : IsRoom (put k e queue) made handles (spare - 1) items singles sets
    room_notice_put = record {
      notices = (let less = one_place_less in let old = room.notices in omega (arith, less, old));
      dead = (let now = count_put is_message k e queue in let no_one : one (is_data e) ≡ 0 = ap one is in let old = room.dead in omega (arith, now, no_one, old));
      records = room.records;
      messages = λ m. (let now = count_put (carries m) k e queue in let no_one : one (carries m (k, e)) ≡ 0 = ap (λ b. one (b && (length (carried e) == m))) is in let old = room.messages m in omega (arith, now, no_one, old));
    }

  -- a record without a notice gets one
  module _ (k : Key) (node : NodeRef) (index : ℕ) (needs : (elim (record_of node handles) [ None ↦ false | Some h ↦ not h.notice ]) ≡ true) where
    pub room_for_foreign : 1 ≤ spare
    room_for_foreign = let less = unnoticed_noticed node handles needs in let old = room.notices in omega (arith, less, old)

    pub room_foreign_put : IsRoom (put k (ForeignNotice node index) queue) made (changed node with_notice handles) (spare - 1) items singles sets
    room_foreign_put = record {
      notices = (let le = places_le queue (put k (ForeignNotice node index) queue) made (λ s. (let now = count_put (is_notice_of s) k (ForeignNotice node index) queue in omega (arith, now))) in let less = unnoticed_noticed node handles needs in let old = room.notices in omega (arith, le, less, old));
      dead = (let now = count_put is_message k (ForeignNotice node index) queue in let fewer = fewer_changed node with_notice handles in let old = room.dead in omega (arith, now, fewer, old));
      records = (let fewer = fewer_changed node with_notice handles in let old = room.records in omega (arith, fewer, old));
      messages = λ m. (let now = count_put (carries m) k (ForeignNotice node index) queue in let old = room.messages m in omega (arith, now, old));
    }
