-- What keeps the lists of a queue of entries tied.
use Rattle.std.proofs.Common.{◌≡◌, ◌≢◌, ◌==◌, refl, sym, ap, ◌∙◌, inl, inr, ℕ, ◌+◌, ◌-◌, ◌<◌, ◌≤◌, not, List, length, get_or, filter, find, Option, Some, None, IsSome, arith}
use Rattle.std.specs.Prelude.{All, AllPairs, option_map, if◌then◌else◌}
use Rattle.std.specs.Option.{IfSome}
use Rattle.std.specs.declared.cmp.Ordering.TheVariants.{Less}
use Rattle.std.proofs.lemmas.Bool.{cases_Bool}
use Rattle.std.proofs.lemmas.List.Elements.{All-filter}
use Rattle.std.proofs.lemmas.List.Kept.{AllPairs-filter}
use Rattle.b1_model.specs.Keys.{compare_keys}
use Rattle.b1_model.specs.declared.naming.Key.{Key}
use Rattle.b1_model.specs.declared.entries.Entry.{Entry}
use Rattle.b1_model.specs.MachineTables.{put}
use Rattle.b1_step.specs.Ordered.{NewKey}
use Rattle.b1_step.specs.Rights.{Has}
use Rattle.b1_queue.specs.Queue.{IsNewKey, IsQueue, key_of, restamped, with_entry, without as without_place}
use Rattle.b1_queue.proofs.Entries.{IsNewItem-without, IsNewKey-without, IsQueue-filter}
use Rattle.b1_entry.specs.Table.{Table, entry_at}
use Rattle.b1_peer_queue.specs.Names.{Names}
use Rattle.b1_peer_queue.specs.declared.wanted.Wanted.{Wanted}
use Rattle.b1_peer_queue.specs.Rows.{IsNamed, IsTied, entry_or, is_marked, passes, row, shown}
use Rattle.b1_peer_queue.specs.declared.wanted.Wanted.TheVariants.{Notice}
use Rattle.b1_queue.proofs.Kept.{key_known}
use Rattle.b1_peer_queue.proofs.NameLemmas.{find_there}
use Rattle.b1_peer_queue.proofs.ListLemmas.{filter_swap, find_filter, find_mapped, find_passes, has_all, length-filter-le}
use Rattle.b1_peer_queue.proofs.RowLemmas.{all_with_entry, filled_same, filter_with_entry, filter_without_entry, length-with_entry, length-without, marked_same, new_listed, shown-with_entry, shown_same, vacant_is_new, notice_is_marked}

module _ {spare len qs qr : ℕ} {listed : List (Key × ℕ)} {table : Table} {capacity : ℕ} {marks : List (Key × ℕ)} {names : Names} (tied : IsTied spare len qs qr listed table capacity marks names) (order : IsQueue qr listed) where
  -- the marks are in order, and there are no more of them than entries
  pub marks_ascend : AllPairs (λ a b. compare_keys a.0 b.0 ≡ Less) marks
  marks_ascend = rw tied.marked (IsQueue-filter qr (λ e. is_marked (row table.slots e)) listed order).ascending

  pub marks_distinct : AllPairs (λ a b. a.1 ≢ b.1) marks
  marks_distinct = rw tied.marked (IsQueue-filter qr (λ e. is_marked (row table.slots e)) listed order).distinct

  pub marks_few : length marks ≤ len
  marks_few = rw (tied.marked, tied.counted) (length-filter-le (λ e. is_marked (row table.slots e)) listed)

  pub marks_new : (key : Key) → NewKey key (shown table.slots listed) → IsNewKey key marks
  marks_new key new = rw tied.marked (All-filter (λ e. is_marked (row table.slots e)) (λ e. e.0 ≢ key) listed (new_listed table.slots key listed new))

  pub marks_filled : All (λ e. IsSome (entry_at table.slots e.1)) marks
  marks_filled = rw tied.marked (All-filter (λ e. is_marked (row table.slots e)) (λ e. IsSome (entry_at table.slots e.1)) listed tied.filled)

  -- a driver's first notice is found among the marks
  pub found_first : (origin : ℕ) → find (λ e. e.0.origin == origin) marks ≡ find (λ e. passes (Notice origin) (row table.slots e)) listed
  found_first origin =
      ap (find (λ e. e.0.origin == origin)) tied.marked
      ∙ find_filter (λ e. e.0.origin == origin) (λ e. is_marked (row table.slots e)) (λ e. passes (Notice origin) (row table.slots e)) (λ e. notice_is_marked origin (row table.slots e)) listed

  -- a place's mark has its key
  pub marks_keyed : (key : Key) (place : ℕ) → Has listed (key, place) → All (λ e. e.1 ≡ place → e.0 ≡ key) marks
  marks_keyed key place there =
      rw tied.marked
      (All-filter (λ e. is_marked (row table.slots e)) (λ e. e.1 ≡ place → e.0 ≡ key) listed
      (λ k d lt same.
      let known : key_of place listed ≡ Some (get_or listed k d).0 = key_known listed place order.distinct k d lt same in
      let found : key_of place listed ≡ Some key = ap (option_map (λ (e : Key × ℕ). e.0)) (find_there place listed (key, place) order.distinct there refl) in
      cc (sym known ∙ found)))

  pub found_shown : (w : Wanted) (r : Option (Key × ℕ)) → r ≡ find (λ e. passes w (row table.slots e)) listed → option_map (row table.slots) r ≡ find (passes w) (shown table.slots listed)
  found_shown w r is = ap (option_map (row table.slots)) is ∙ sym (find_mapped (row table.slots) (passes w) listed)

  pub found_listed : (w : Wanted) (r : Option (Key × ℕ)) → r ≡ find (λ e. passes w (row table.slots e)) listed → IfSome r (λ e. Has listed e)
  found_listed w None is = tt
  found_listed w (Some e) is = (find_passes (λ (e : Key × ℕ). passes w (row table.slots e)) listed e (sym is)).0

  -- one entry more, at a place that was vacant
  module _ (key : Key) (entry : Entry) (place : ℕ) (slots : List (Option Entry)) (new : NewKey key (shown table.slots listed)) (vacant : entry_at table.slots place ≡ None) (here : entry_at slots place ≡ Some entry) (others : (other : ℕ) → other ≢ place → entry_at slots other ≡ entry_at table.slots other) where
    same_listed : All (λ e. entry_at slots e.1 ≡ entry_at table.slots e.1) listed
    same_listed k d lt = others (get_or listed k d).1 (vacant_is_new table.slots place listed tied.filled vacant k d lt)

    pub shown_put : shown slots (with_entry key place listed) ≡ put key entry (shown table.slots listed)
    shown_put =
        shown-with_entry slots key place listed order.ascending (new_listed table.slots key listed new)
        ∙ ap (λ (o : Option Entry). put key (entry_or o) (shown slots listed)) here
        ∙ ap (put key entry) (shown_same table.slots slots listed same_listed)

    marked_put : (if is_marked (key, entry) then with_entry key place marks else marks) ≡ filter (λ e. is_marked (row slots e)) (with_entry key place listed)
    marked_put =
        let at : row slots (key, place) ≡ (key, entry) = ap (λ (o : Option Entry). (key, entry_or o)) here in
        let same : filter (λ e. is_marked (row slots e)) listed ≡ marks = marked_same table.slots slots listed same_listed ∙ sym tied.marked in
        elim (cases_Bool (is_marked (key, entry))) [
          | inl is ↦ rw is (ap (with_entry key place) (sym same) ∙ sym (filter_with_entry key place (λ e. is_marked (row slots e)) listed (ap is_marked at ∙ is)))
          | inr is ↦ rw is (sym same ∙ sym (filter_without_entry key place (λ e. is_marked (row slots e)) listed order.ascending (new_listed table.slots key listed new) (ap is_marked at ∙ is)))
        ]

    pub tied_put : (s r : ℕ) → 0 < spare → s + 1 ≡ table.spare → r ≡ table.room → (qs' qr' : ℕ) → qs' + 1 ≡ qs → qr' ≡ qr → (listed' : List (Key × ℕ)) → listed' ≡ with_entry key place listed → (capacity' : ℕ) → capacity ≤ capacity' → (marks' : List (Key × ℕ)) → marks' ≡ (if is_marked (key, entry) then with_entry key place marks else marks) → (names' : Names) → IsNamed (spare - 1) (with_entry key place listed) slots r names' → IsTied (spare - 1) (len + 1) qs' qr' listed' (record { slots = slots; spare = s; room = r }) capacity' marks' names'
    tied_put s r some spare_is room_is qs' qr' qs_is qr_is listed' listed_is capacity' capacity_is marks' marks_are names' naming =
        let up = new_listed table.slots key listed new in
        record {
          queue_fits = omega (arith, tied.queue_fits, qs_is, some);
          table_fits = omega (arith, tied.table_fits, spare_is, some);
          marks_fit = omega (arith, tied.marks_fit, capacity_is, some);
          places_fit = omega (arith, tied.places_fit, room_is, qr_is);
          counted = rw listed_is (omega (arith, tied.counted, length-with_entry key place listed order.ascending up));
          filled = rw listed_is (all_with_entry key place (λ e. IsSome (entry_at slots e.1)) listed order.ascending up (rw here refl) (filled_same table.slots slots listed same_listed tied.filled));
          marked = rw listed_is (marks_are ∙ marked_put);
          naming = rw listed_is naming;
        }

  -- the entry at a place leaves
  module _ (key : Key) (place : ℕ) (slots : List (Option Entry)) (there : Has listed (key, place)) (others : (other : ℕ) → other ≢ place → entry_at slots other ≡ entry_at table.slots other) where
    same_left : All (λ e. entry_at slots e.1 ≡ entry_at table.slots e.1) (without_place place listed)
    same_left k d lt = others (get_or (without_place place listed) k d).1 (IsNewItem-without place listed k d lt)

    pub shown_left : shown slots (without_place place listed) ≡ shown table.slots (without_place place listed)
    shown_left = shown_same table.slots slots (without_place place listed) same_left

    pub tied_left : (s r : ℕ) → s ≡ table.spare + 1 → r ≡ table.room → (qs' qr' : ℕ) → qs' ≡ qs + 1 → qr' ≡ qr → (listed' : List (Key × ℕ)) → listed' ≡ without_place place listed → (capacity' : ℕ) → capacity' ≡ capacity → (marks' : List (Key × ℕ)) → marks' ≡ without_place place marks → (names' : Names) → IsNamed (spare + 1) (without_place place listed) slots r names' → IsTied (spare + 1) (len - 1) qs' qr' listed' (record { slots = slots; spare = s; room = r }) capacity' marks' names'
    tied_left s r spare_is room_is qs' qr' qs_is qr_is listed' listed_is capacity' capacity_is marks' marks_are names' naming =
        let shorter = length-without key place listed order.distinct there in
        record {
          queue_fits = omega (arith, tied.queue_fits, qs_is);
          table_fits = omega (arith, tied.table_fits, spare_is);
          marks_fit = omega (arith, tied.marks_fit, capacity_is, tied.counted, shorter);
          places_fit = omega (arith, tied.places_fit, room_is, qr_is);
          counted = rw listed_is (omega (arith, tied.counted, shorter));
          filled = rw listed_is (filled_same table.slots slots (without_place place listed) same_left (All-filter (λ e. not (e.1 == place)) (λ e. IsSome (entry_at table.slots e.1)) listed tied.filled));
          marked =
              rw listed_is
              (marks_are
              ∙ ap (without_place place) tied.marked
              ∙ filter_swap (λ e. not (e.1 == place)) (λ e. is_marked (row table.slots e)) listed
              ∙ sym (marked_same table.slots slots (without_place place listed) same_left));
          naming = rw listed_is naming;
        }

  -- the entry at a place gets another key
  module _ (key : Key) (place : ℕ) (new : Key) (there : Has listed (key, place)) (fresh : NewKey new (shown table.slots listed)) where
    left_ascends : IsQueue qr (without_place place listed)
    left_ascends = IsQueue-filter qr (λ e. not (e.1 == place)) listed order

    left_new : IsNewKey new (without_place place listed)
    left_new = IsNewKey-without place listed new (new_listed table.slots new listed fresh)

    pub shown_restamped : shown table.slots (restamped place new listed) ≡ put new (entry_or (entry_at table.slots place)) (shown table.slots (without_place place listed))
    shown_restamped = shown-with_entry table.slots new place (without_place place listed) left_ascends.ascending left_new

    marked_left : filter (λ e. is_marked (row table.slots e)) (without_place place listed) ≡ without_place place marks
    marked_left = filter_swap (λ e. is_marked (row table.slots e)) (λ e. not (e.1 == place)) listed ∙ ap (without_place place) (sym tied.marked)

    marked_restamped : (if is_marked (row table.slots (new, place)) then with_entry new place (without_place place marks) else without_place place marks) ≡ filter (λ e. is_marked (row table.slots e)) (restamped place new listed)
    marked_restamped =
        elim (cases_Bool (is_marked (row table.slots (new, place)))) [
          | inl is ↦ rw is (ap (with_entry new place) (sym marked_left) ∙ sym (filter_with_entry new place (λ e. is_marked (row table.slots e)) (without_place place listed) is))
          | inr is ↦ rw is (sym marked_left ∙ sym (filter_without_entry new place (λ e. is_marked (row table.slots e)) (without_place place listed) left_ascends.ascending left_new is))
        ]

    -- the marks that are left are in order
    pub marks_left_ascend : AllPairs (λ a b. compare_keys a.0 b.0 ≡ Less) (without_place place marks)
    marks_left_ascend = AllPairs-filter (λ a b. compare_keys a.0 b.0 ≡ Less) (λ e. not (e.1 == place)) marks marks_ascend

    pub marks_left_new : IsNewKey new (without_place place marks)
    marks_left_new = IsNewKey-without place marks new (marks_new new fresh)

    -- there is room for its mark
    pub marks_left_fit : length (without_place place marks) < capacity
    marks_left_fit =
        let few = length-filter-le (λ e. is_marked (row table.slots e)) (without_place place listed) in
        let fewer = rw marked_left at few in
        let shorter = length-without key place listed order.distinct there in
        omega (arith, fewer, shorter, tied.counted, tied.marks_fit)

    pub tied_restamped : (qs' qr' : ℕ) → qs' ≡ qs → qr' ≡ qr → (listed' : List (Key × ℕ)) → listed' ≡ restamped place new listed → (capacity' : ℕ) → capacity ≤ capacity' → (marks' : List (Key × ℕ)) → marks' ≡ (if is_marked (row table.slots (new, place)) then with_entry new place (without_place place marks) else without_place place marks) → (names' : Names) → IsNamed spare (restamped place new listed) table.slots table.room names' → IsTied spare len qs' qr' listed' table capacity' marks' names'
    tied_restamped qs' qr' qs_is qr_is listed' listed_is capacity' capacity_is marks' marks_are names' naming =
        let shorter = length-without key place listed order.distinct there in
        record {
          queue_fits = omega (arith, tied.queue_fits, qs_is);
          table_fits = tied.table_fits;
          marks_fit = omega (arith, tied.marks_fit, capacity_is);
          places_fit = omega (arith, tied.places_fit, qr_is);
          counted = rw listed_is (omega (arith, tied.counted, shorter, length-with_entry new place (without_place place listed) left_ascends.ascending left_new));
          filled =
              rw listed_is
              (all_with_entry new place (λ e. IsSome (entry_at table.slots e.1)) (without_place place listed) left_ascends.ascending left_new
              (has_all (λ e. IsSome (entry_at table.slots e.1)) listed (key, place) there tied.filled)
              (All-filter (λ e. not (e.1 == place)) (λ e. IsSome (entry_at table.slots e.1)) listed tied.filled));
          marked = rw listed_is (marks_are ∙ marked_restamped);
          naming = rw listed_is naming;
        }
