-- What a commit makes of a queue: a message gets its slots and its final key, and notices get their final keys one by one.
use Rattle.std.proofs.Common.{◌≡◌, ◌≢◌, ◌==◌, refl, sym, ap, ◌∙◌, inl, inr, ℕ, ◌≤◌, Bool, true, false, not, ◌&&◌, List, [], ◌∷◌, length, get_or, find, Option, Some, None, IsSome}
use Rattle.std.specs.Prelude.{slice_set}
use Rattle.std.proofs.lemmas.Bool.{cases_eq, cases_lt, eqb-true}
use Rattle.std.proofs.lemmas.List.{get_or-set_other, get_or-set_same, get_or_past}
use Rattle.b1_model.specs.declared.naming.Key.{Key}
use Rattle.b1_model.specs.declared.parts.Slot.{Slot}
use Rattle.b1_model.specs.declared.entries.Entry.{Entry}
use Rattle.b1_model.specs.declared.entries.Entry.TheVariants.{Message, OwnNotice, ForeignNotice, ReleaseNotice}
use Rattle.b1_model.specs.MachineParts.{is_data, is_odd}
use Rattle.b1_model.specs.MachineTables.{is_stage, put, without}
use Rattle.b1_model.specs.MachineSend.{with_slots}
use Rattle.b1_step.specs.Ordered.{NewKey}
use Rattle.b1_step.specs.Rights.{Has}
use Rattle.b1_queue.specs.Queue.{IsQueue, restamped, without as without_place}
use Rattle.b1_queue.proofs.Entries.{IsNewItem-without, IsNewKey-without, IsQueue-filter}
use Rattle.b1_entry.specs.Table.{Table, entry_at}
use Rattle.b1_peer_queue.specs.Mail.{committed_queue, count}
use Rattle.b1_peer_queue.specs.Rows.{IsTied, entry_or, is_marked, name_of, row, shown}
use Rattle.b1_peer_queue.specs.Names.{Names}
use Rattle.b1_peer_queue.proofs.NameLemmas.{named_same}
use Rattle.b1_peer_queue.proofs.ListLemmas.{filter_same, find_passes, has_all}
use Rattle.b1_peer_queue.proofs.RowLemmas.{new_listed, shown-with_entry, shown-without, shown_same}

-- ---- an entry is written

pub entry_set : (slots : List (Option Entry)) (place : ℕ) (entry : Entry) → IsSome (entry_at slots place) → entry_at (slice_set slots place (Some entry)) place ≡ Some entry
entry_set slots place entry there =
    elim (cases_lt place (length slots)) [
      | inl within ↦ get_or-set_same slots place (Some entry) None within
      | inr past ↦ let e = rw (get_or_past slots place None past) at there in absurd (cc e)
    ]

same_data : (more : List Slot) (e : Entry) → is_data (with_slots more e) ≡ is_data e
same_data more (Message origin user index serial offset len nodes slots handles payload) = refl
same_data more (OwnNotice serial index) = refl
same_data more (ForeignNotice node index) = refl
same_data more (ReleaseNotice serial) = refl

same_name : (k : Key) (more : List Slot) (e : Entry) → name_of (k, with_slots more e) ≡ name_of (k, e)
same_name k more (Message origin user index serial offset len nodes slots handles payload) = refl
same_name k more (OwnNotice serial index) = refl
same_name k more (ForeignNotice node index) = refl
same_name k more (ReleaseNotice serial) = refl

module _ {spare len qs qr : ℕ} {listed : List (Key × ℕ)} {table : Table} {capacity : ℕ} {marks : List (Key × ℕ)} {names : Names} (tied : IsTied spare len qs qr listed table capacity marks names) (order : IsQueue qr listed) (key : Key) (place : ℕ) (there : Has listed (key, place)) (entry : Entry) (more : List Slot) (is : entry ≡ with_slots more (entry_or (entry_at table.slots place))) where
  abbrev pub written : List (Option Entry)
  written = slice_set table.slots place (Some entry)

  here_written : entry_at written place ≡ Some entry
  here_written = entry_set table.slots place entry (has_all (λ e. IsSome (entry_at table.slots e.1)) listed (key, place) there tied.filled)

  other_written : (other : ℕ) → other ≢ place → entry_at written other ≡ entry_at table.slots other
  other_written other ne = get_or-set_other table.slots place other (Some entry) None ne

  -- the lists stay tied where a message gets its slots
  pub tied_written : IsTied spare len qs qr listed (record { slots = written; spare = table.spare; room = table.room }) capacity marks names
  tied_written = record {
    queue_fits = tied.queue_fits;
    table_fits = tied.table_fits;
    marks_fit = tied.marks_fit;
    places_fit = tied.places_fit;
    counted = tied.counted;
    filled = λ k d lt. elim (cases_eq (get_or listed k d).1 place) [
      | inl at ↦ rw (at, here_written) refl
      | inr other ↦ rw (other_written (get_or listed k d).1 other) (tied.filled k d lt)
    ];
    marked =
        tied.marked
        ∙ sym (filter_same (λ e. is_marked (row written e)) (λ e. is_marked (row table.slots e)) listed (λ k d lt. elim (cases_eq (get_or listed k d).1 place) [
          | inl at ↦ rw (at, here_written, is, same_data more (entry_or (entry_at table.slots place))) refl
          | inr other ↦ rw (other_written (get_or listed k d).1 other) refl
        ]));
    naming = named_same tied.naming order written (λ k d lt. elim (cases_eq (get_or listed k d).1 place) [
      | inl at ↦ rw (at, here_written, is) (same_name (get_or listed k d).0 more (entry_or (entry_at table.slots place)))
      | inr other ↦ rw (other_written (get_or listed k d).1 other) refl
    ]);
  }

-- ---- a message is committed

-- what passes as a driver's staged message for a place
pub stage_parts : (origin index : ℕ) (k : Key) (e : Entry) → is_stage origin index (k, e) ≡ true → (is_data e ≡ true) × (k.origin ≡ origin) × (k.index ≡ index)
stage_parts origin index k e h =
    let one = and_parts (is_data e) (is_odd k.stamp && (k.origin == origin) && (k.index == index)) (assoc3 (is_data e) (is_odd k.stamp) (k.origin == origin) (k.index == index) h) in
    let two = and_parts (is_odd k.stamp) ((k.origin == origin) && (k.index == index)) (assoc2 (is_odd k.stamp) (k.origin == origin) (k.index == index) one.1) in
    let three = and_parts (k.origin == origin) (k.index == index) two.1 in
    (one.0, eqb-true k.origin origin three.0, eqb-true k.index index three.1)
  where
    and_parts : (a b : Bool) → (a && b) ≡ true → (a ≡ true) × (b ≡ true)
    and_parts true b h = (refl, h)
    and_parts false b h = absurd (cc h)

    assoc2 : (a b c : Bool) → (a && b && c) ≡ true → (a && (b && c)) ≡ true
    assoc2 true b c h = h
    assoc2 false b c h = h

    assoc3 : (a b c d : Bool) → (a && b && c && d) ≡ true → (a && (b && c && d)) ≡ true
    assoc3 true b c d h = h
    assoc3 false b c d h = h

-- a key that no entry has is new whatever the entries are
pub new_shown : (old new : List (Option Entry)) (k : Key) (q : List (Key × ℕ)) → NewKey k (shown old q) → NewKey k (shown new q)
new_shown old new k [] h = h
new_shown old new k (e ∷ q) h = (h.0, new_shown old new k q h.1)

module _ (old new : List (Option Entry)) (room : ℕ) (listed : List (Key × ℕ)) (order : IsQueue room listed) (origin index stamp : ℕ) (more : List Slot) (key : Key) (place : ℕ) (there : Has listed (key, place)) (found : Some (row old (key, place)) ≡ find (is_stage origin index) (shown old listed)) where
  stage_key : (is_data (entry_or (entry_at old place)) ≡ true) × (key.origin ≡ origin) × (key.index ≡ index)
  stage_key = stage_parts origin index key (entry_or (entry_at old place)) (find_passes (is_stage origin index) (shown old listed) (row old (key, place)) (sym found)).1

  abbrev pub final_key : Key
  final_key = record { stamp = stamp; origin = key.origin; index = key.index }

  pub same_key : final_key ≡ record { stamp = stamp; origin = origin; index = index }
  same_key = λ i. record { stamp = stamp; origin = stage_key.1 i; index = stage_key.2 i }

  pub commit_shows : count (is_stage origin index) (shown old listed) ≤ 1 → row new (key, place) ≡ (key, with_slots more (row old (key, place)).1) → ((other : ℕ) → other ≢ place → entry_at new other ≡ entry_at old other) → NewKey final_key (shown old listed) → shown new (restamped place final_key listed) ≡ committed_queue (find (is_stage origin index) (shown old listed)) origin index stamp more (shown old listed)
  commit_shows one here others fresh =
      shown-with_entry new final_key place (without_place place listed) (IsQueue-filter room (λ e. not (e.1 == place)) listed order).ascending (IsNewKey-without place listed final_key (new_listed old final_key listed fresh))
      ∙ ap (λ (f : Key × Entry). put final_key f.1 (shown new (without_place place listed))) here
      ∙ ap (put final_key (with_slots more (row old (key, place)).1))
      (shown_same old new (without_place place listed) (λ k d lt. others (get_or (without_place place listed) k d).1 (IsNewItem-without place listed k d lt))
      ∙ shown-without old (is_stage origin index) listed (key, place) order.distinct there (find_passes (is_stage origin index) (shown old listed) (row old (key, place)) (sym found)).1 one)
      ∙ ap (λ (k : Key). put k (with_slots more (row old (key, place)).1) (without (is_stage origin index) (shown old listed))) same_key
      ∙ ap (λ (f : Option (Key × Entry)). committed_queue f origin index stamp more (shown old listed)) found
