-- What each event of an open command leaves of what its own peer keeps.
use Rattle.std.proofs.Common.{zero, suc, ◌≡◌, refl, sym, ap, ◌∙◌, arith, ℕ, ◌+◌, ◌*◌, ◌≤◌, ◌<◌, Bool, true, false, cond, not, List, [], ◌∷◌, length, map, filter, filter_map, find, zip, option_map, ◌==◌, Option, Some, None}
use Rattle.b1_model.specs.declared.naming.Key.{Key}
use Rattle.b1_model.specs.declared.naming.NodeRef.{NodeRef}
use Rattle.b1_model.specs.declared.naming.Limits.{Limits}
use Rattle.b1_model.specs.declared.parts.Attach.{Attach}
use Rattle.b1_model.specs.declared.parts.Attach.TheVariants as attach
use Rattle.b1_model.specs.declared.parts.Slot.{Slot}
use Rattle.b1_model.specs.declared.parts.Slot.TheVariants.{Unattached}
use Rattle.b1_model.specs.MachinePool.{taken_offset, slice_len}
use Rattle.b1_model.specs.declared.entries.Entry.{Entry}
use Rattle.b1_model.specs.declared.entries.Entry.TheVariants.{Message, OwnNotice, ForeignNotice, ReleaseNotice}
use Rattle.b1_model.specs.declared.answers.Reason.{Reason}
use Rattle.std.proofs.lemmas.Bool.{eqb-true}
use Rattle.std.specs.List.{range_with_len, cons_option}
use Rattle.b1_model.specs.MachineParts.{PeerPart, HandleRecord, no_origin, is_release_notice, is_staged, carried, slots_of}
use Rattle.b1_model.specs.MachineTables.{without, is_stage, is_staged_notice, foreign, is_number, next_number}
use Rattle.b1_model.specs.MachineSend.{unstaged, unstaged_by, find_stage, attached, attached_by, attach_answer, committed, committed_by, with_slots, with_stamp, notices_committed}
use Rattle.b1_model.specs.MachineReceive.{references, reference_of, with_item, dropped, with_release_notice, is_released, dropped_refs}
use Rattle.b1_model.specs.MachineDestroy.{doom_stamped, doom_by, flushed, queued_items, held_items, held_item}
use Rattle.b1_model.specs.MachineEvents.{stage_by}
use Rattle.b1_progress.specs.Work.{entry_weight, item_weight, queue_weight, handles_weight, dead_weight, kept_weight}
use Rattle.b1_progress.proofs.Weights.{sum_put, sum_put_all, sum_parts, sum_append, filter_map_length, zip_length, expected_length, unexpected_length}

filter_length : {X : Type 0} (test : X → Bool) (xs : List X) → length (filter test xs) ≤ length xs
filter_length test [] = omega arith
filter_length test (x ∷ xs) = let ih = filter_length test xs in grind arith

-- entries that leave take their weight with them
without_below : (test : Key × Entry → Bool) (queue : List (Key × Entry)) → queue_weight (without test queue) ≤ queue_weight queue
without_below test queue = omega (arith, sum_parts entry_weight test queue)

-- the entry that is found is one of those that leave
found_below : (test : Key × Entry → Bool) (queue : List (Key × Entry)) (f : Key × Entry) → find test queue ≡ Some f → queue_weight (without test queue) + entry_weight f ≤ queue_weight queue
found_below test [] f is = absurd (cc is)
found_below test (g ∷ rest) f is = by_test (test g) is (λ at. found_below test rest f at) (without_below test rest)
  where
    by_test : (b : Bool) → cond b (Some g) (find test rest) ≡ Some f → (find test rest ≡ Some f → queue_weight (without test rest) + entry_weight f ≤ queue_weight rest) → queue_weight (without test rest) ≤ queue_weight rest
        → queue_weight (cond (not b) (g ∷ without test rest) (without test rest)) + entry_weight f ≤ entry_weight g + queue_weight rest
    by_test true is more below = omega (arith, below, ap entry_weight (some_is is))
      where
        some_is : Some g ≡ Some f → g ≡ f
        some_is is = cc is
    by_test false is more below = omega (arith, more is)

-- ---- stage, unstage, attach, commit

pub stage_kept : (r : Option Reason) (memory : Bool) (origin user place serial : ℕ) (payload : List ℕ) (nodes : List NodeRef) (x : PeerPart) → kept_weight (stage_by r memory origin user place serial payload nodes x).1 ≤ kept_weight x + (5 * length nodes + 1)
stage_kept (Some r) memory origin user place serial payload nodes x = omega arith
stage_kept None true origin user place serial payload nodes x = omega arith
stage_kept None false origin user place serial payload nodes x =
    omega (arith, sum_put entry_weight (record { stamp = x.clock + 1; origin = origin; index = place }) (Message origin user place serial (taken_offset (slice_len (length payload) (length nodes)) x.slices) (length payload) nodes (map (λ node. Unattached) nodes) [] payload) x.queue, expected_length (foreign x.me nodes) x.handles, filter_length (λ node. not (node.owner == x.me)) nodes)

pub unstage_kept : (x : PeerPart) (origin place : ℕ) → kept_weight (unstaged x origin place) ≤ kept_weight x
unstage_kept x origin place = by_found (find_stage x origin place)
  where
    by_found : (found : Option (Key × Entry)) → kept_weight (unstaged_by found x origin place) ≤ kept_weight x
    by_found None = omega arith
    by_found (Some f) = omega (arith, without_below (is_stage origin place) x.queue, unexpected_length (foreign x.me (carried f.1)) x.handles)

pub attach_kept : (x : PeerPart) (serial dest : ℕ) → kept_weight (attached x serial dest) ≤ kept_weight x
attach_kept x serial dest = by_answer (attach_answer x serial dest)
  where
    by_answer : (got : Attach) → kept_weight (attached_by got x serial dest) ≤ kept_weight x
    by_answer attach.Counted = omega (arith, without_below (is_release_notice serial) x.queue)
    by_answer attach.Own = omega arith
    by_answer (attach.Void stamp) = omega arith

slots_weight : (slots : List Slot) (k : Key) (f : Key × Entry) → entry_weight (k, with_slots slots f.1) ≡ entry_weight f
slots_weight slots k (j, Message origin user index serial offset len nodes old handles payload) = refl
slots_weight slots k (j, OwnNotice serial index) = refl
slots_weight slots k (j, ForeignNotice node index) = refl
slots_weight slots k (j, ReleaseNotice serial) = refl

pub commit_kept : (x : PeerPart) (origin place stamp : ℕ) (slots : List Slot) → kept_weight (committed x origin place stamp slots) ≤ kept_weight x
commit_kept x origin place stamp slots = by_found (find_stage x origin place) refl
  where
    by_found : (found : Option (Key × Entry)) → found ≡ find_stage x origin place → kept_weight (committed_by found x origin place stamp slots) ≤ kept_weight x
    by_found None same = omega arith
    by_found (Some f) same = omega (arith, sum_put entry_weight (record { stamp = stamp; origin = origin; index = place }) (with_slots slots f.1) (without (is_stage origin place) x.queue), slots_weight slots (record { stamp = stamp; origin = origin; index = place }) f, found_below (is_stage origin place) x.queue f (sym same))

stamped_weight : (stamp : ℕ) (queue : List (Key × Entry)) → queue_weight (map (with_stamp stamp) queue) ≡ queue_weight queue
stamped_weight stamp [] = refl
stamped_weight stamp (f ∷ rest) = ap (λ n. entry_weight f + n) (stamped_weight stamp rest)

pub notices_kept : (x : PeerPart) (origin stamp : ℕ) → kept_weight (notices_committed x origin stamp) ≤ kept_weight x
notices_kept x origin stamp =
    omega (arith, sum_put_all entry_weight (map (with_stamp stamp) (filter (is_staged_notice origin) x.queue)) (without (is_staged_notice origin) x.queue), stamped_weight stamp (filter (is_staged_notice origin) x.queue), sum_parts entry_weight (is_staged_notice origin) x.queue)

-- ---- drop, stamp of a destruction, flush

pub drop_kept : (x : PeerPart) (serial holder k clock : ℕ) → kept_weight (dropped x serial holder k clock) ≤ kept_weight x + 1
drop_kept x serial holder k clock = by_release (is_released (dropped_refs x serial holder k clock) serial)
  where
    by_release : (b : Bool) → kept_weight (with_release_notice b (dropped_refs x serial holder k clock) serial) ≤ kept_weight x + 1
    by_release false = omega arith
    by_release true = omega (arith, sum_put entry_weight (record { stamp = (dropped_refs x serial holder k clock).clock; origin = no_origin; index = serial }) (ReleaseNotice serial) x.queue)

pub doom_kept : (x : PeerPart) (collected : ℕ) (doomed : List ℕ) → kept_weight (doom_stamped x collected doomed) ≤ kept_weight x
doom_kept x collected doomed = by_late x.late
  where
    by_late : (late : List ℕ) → kept_weight (doom_by late x collected doomed) ≤ kept_weight x
    by_late [] = omega arith
    by_late (peer ∷ rest) = omega arith

-- an entry's references make an item that is no heavier
references_below : (e : Entry) → length (references e) ≤ length (carried e)
references_below e = omega (arith, filter_map_length reference_of (zip (carried e) (slots_of e)), zip_length (carried e) (slots_of e))

item_below : (refs : List (NodeRef × ℕ)) (dead : List (List (NodeRef × ℕ))) → dead_weight (with_item refs dead) ≤ dead_weight dead + (1 + 2 * length refs)
item_below [] dead = omega arith
item_below (r ∷ rest) dead = omega (arith, sum_append item_weight dead ((r ∷ rest) ∷ []))

queued_below : (queue : List (Key × Entry)) (dead : List (List (NodeRef × ℕ))) → dead_weight (queued_items queue dead) ≤ dead_weight dead + queue_weight queue
queued_below [] dead = omega arith
queued_below (f ∷ rest) dead = by_staged (is_staged f) (queued_below rest dead) (queued_below rest (with_item (references f.1) dead))
  where
    by_staged : (b : Bool) → dead_weight (queued_items rest dead) ≤ dead_weight dead + queue_weight rest → dead_weight (queued_items rest (with_item (references f.1) dead)) ≤ dead_weight (with_item (references f.1) dead) + queue_weight rest
        → dead_weight (queued_items rest (cond b dead (with_item (references f.1) dead))) ≤ dead_weight dead + (entry_weight f + queue_weight rest)
    by_staged true plain more = omega (arith, plain)
    by_staged false plain more = omega (arith, more, item_below (references f.1) dead, references_below f.1)

-- ---- the held records

-- the items of given numbers from one on
abbrev items_from : ℕ → ℕ → List HandleRecord → List (List (NodeRef × ℕ))
items_from from n handles = filter_map (λ g. held_item handles (next_number g)) (range_with_len from n)

not_here : (h : HandleRecord) (rest : List HandleRecord) (number : ℕ) → is_number number h ≡ false → held_item (h ∷ rest) number ≡ held_item rest number
not_here h rest number is = ap (λ b. option_map (λ g. (g.node, g.held) ∷ []) (cond b (Some h) (find (is_number number) rest))) is

is_here : (h : HandleRecord) (rest : List HandleRecord) (number : ℕ) → is_number number h ≡ true → held_item (h ∷ rest) number ≡ Some ((h.node, h.held) ∷ [])
is_here h rest number is = ap (λ b. option_map (λ g. (g.node, g.held) ∷ []) (cond b (Some h) (find (is_number number) rest))) is

apart : (c from : ℕ) → c < from → (next_number c == next_number from) ≡ false
apart c from below = grind (arith, below)

-- a record with an earlier number adds no item
earlier_adds_none : (h : HandleRecord) (rest : List HandleRecord) (c from n : ℕ) → h.number ≡ Some (next_number c) → c < from → items_from from n (h ∷ rest) ≡ items_from from n rest
earlier_adds_none h rest c from zero is below = refl
earlier_adds_none h rest c from (suc n) is below =
    ap (λ o. cons_option o (items_from (from + 1) n (h ∷ rest))) (not_here h rest (next_number from) (ap (λ o. elim o [ None ↦ false | Some m ↦ m == next_number from ]) is ∙ apart c from below))
    ∙ ap (cons_option (held_item rest (next_number from))) (earlier_adds_none h rest c (from + 1) n is (omega (arith, below)))

-- a record with a number has it
number_is : (o : Option ℕ) (number : ℕ) → elim o [ None ↦ false | Some m ↦ m == number ] ≡ true → o ≡ Some number
number_is None number is = absurd (cc is)
number_is (Some m) number is = ap Some (eqb-true m number is)

option_adds : (o : Option (List (NodeRef × ℕ))) (items : List (List (NodeRef × ℕ))) → dead_weight items ≤ dead_weight (cons_option o items)
option_adds None items = omega arith
option_adds (Some item) items = omega arith

option_keeps : (o : Option (List (NodeRef × ℕ))) (items more : List (List (NodeRef × ℕ))) → dead_weight items ≤ dead_weight more + 3 → dead_weight (cons_option o items) ≤ dead_weight (cons_option o more) + 3
option_keeps None items more below = below
option_keeps (Some item) items more below = omega (arith, below)

-- a record more adds one item at most
one_more_item : (h : HandleRecord) (rest : List HandleRecord) (from n : ℕ) → dead_weight (items_from from n (h ∷ rest)) ≤ dead_weight (items_from from n rest) + 3
one_more_item h rest from zero = omega arith
one_more_item h rest from (suc n) = by_number (is_number (next_number from) h) refl (one_more_item h rest (from + 1) n)
  where
    by_number : (b : Bool) → b ≡ is_number (next_number from) h → dead_weight (items_from (from + 1) n (h ∷ rest)) ≤ dead_weight (items_from (from + 1) n rest) + 3
        → dead_weight (cons_option (held_item (h ∷ rest) (next_number from)) (items_from (from + 1) n (h ∷ rest))) ≤ dead_weight (cons_option (held_item rest (next_number from)) (items_from (from + 1) n rest)) + 3
    by_number true same below =
        rw (is_here h rest (next_number from) (sym same), earlier_adds_none h rest from (from + 1) n (number_is h.number (next_number from) (sym same)) (omega arith))
        (omega (arith, option_adds (held_item rest (next_number from)) (items_from (from + 1) n rest)))
    by_number false same below = rw (not_here h rest (next_number from) (sym same)) (option_keeps (held_item rest (next_number from)) (items_from (from + 1) n (h ∷ rest)) (items_from (from + 1) n rest) below)

held_below : (handles : List HandleRecord) (from n : ℕ) → dead_weight (items_from from n handles) ≤ handles_weight handles
held_below [] from zero = omega arith
held_below [] from (suc n) = held_below [] (from + 1) n
held_below (h ∷ rest) from n = omega (arith, one_more_item h rest from n, held_below rest from n)

-- what is given up at a flush makes items that are no heavier than what is given up
pub flush_kept : (x : PeerPart) (limits : Limits) → kept_weight (flushed x limits) ≤ kept_weight x
flush_kept x limits = omega (arith, sum_append item_weight (queued_items x.queue x.dead) (held_items x.given x.handles), queued_below x.queue x.dead, held_below x.handles 0 x.given)
