-- The queue as a set: which entries an event brings, and that all others stood there before.
use Rattle.std.proofs.Common.{◌≡◌, ◌⊎◌, refl, ap, ◌∙◌, inl, inr, subst, ℕ, zero, suc, ◌+◌, max, Bool, true, false, not, List, [], ◌∷◌, map, filter, drop, length, Option, Some, None}
use Rattle.std.specs.Prelude.{slice_get}
use Rattle.std.proofs.lemmas.Bool.{not-true}
use native.Mathlib.Omega.{arith}
use Rattle.b1_model.specs.declared.naming.Key.{Key}
use Rattle.b1_model.specs.declared.naming.NodeRef.{NodeRef}
use Rattle.b1_model.specs.declared.naming.Opening.{Opening}
use Rattle.b1_model.specs.declared.parts.Attach.{Attach}
use Rattle.b1_model.specs.declared.parts.Attach.TheVariants as attach
use Rattle.b1_model.specs.declared.parts.Slot.TheVariants as slot
use Rattle.b1_model.specs.declared.entries.Entry.{Entry}
use Rattle.b1_model.specs.declared.entries.Entry.TheVariants.{Message, OwnNotice, ForeignNotice, ReleaseNotice}
use Rattle.b1_model.specs.declared.answers.Reason.{Reason}
use Rattle.b1_model.specs.declared.events.Action.{Action}
use Rattle.b1_model.specs.declared.events.Action.TheVariants as act
use Rattle.b1_model.specs.declared.events.Doing.{Doing}
use Rattle.b1_model.specs.MachineParts.{PeerPart, DriverPart, no_origin, is_release_notice}
use Rattle.b1_model.specs.MachinePool.{slice_len, taken_offset}
use Rattle.b1_model.specs.MachineTables.{without, is_stage, is_staged_notice}
use Rattle.b1_model.specs.MachineSend.{find_stage, unstaged_by, attached_by, attach_answer, committed_by, with_slots, with_stamp, notices_committed}
use Rattle.b1_model.specs.MachineReceive.{with_release_notice, is_released, dropped_refs}
use Rattle.b1_model.specs.MachineDestroy.{with_own_notices, needs_notice, notice_by, visited_from}
use Rattle.b1_model.specs.MachineDriver.{node_of_place, send_of}
use Rattle.b1_model.specs.MachineEvents.{happens, stage_by, destroy_by, begun_of, slots_at, user_of, doomed_of, begin_refusal, begin_serials}
use Rattle.b1_step.specs.Rights.{Has}
use Rattle.b1_step.proofs.Lists.{filter_has, has_map}
use Rattle.b1_step.proofs.Queues.{put_has, put_all_has, without_has}
use Rattle.b1_step.proofs.Orders.{find_none}
use Rattle.b1_step.proofs.Changed.{changes}
use Rattle.b1_inv_tools.proofs.Received.{recv_rests}

-- the message that a stage puts in
abbrev pub staged_message : ℕ → ℕ → ℕ → ℕ → List ℕ → List NodeRef → PeerPart → Key × Entry
staged_message origin user index serial payload nodes x = (
  record { stamp = x.clock + 1; origin = origin; index = index },
  Message origin user index serial (taken_offset (slice_len (length payload) (length nodes)) x.slices) (length payload) nodes (map (λ node. slot.Unattached) nodes) [] payload,
)

-- an entry that an event brings into the queue
abbrev pub Comes : Opening → DriverPart → Doing → PeerPart → Action → Key × Entry → Type 0
Comes o d doing x (act.Stage peer place) f = f ≡ staged_message d.me (user_of o d.me) place (node_of_place (begun_of doing.phase).to place).serial (send_of doing.command).payload (begun_of doing.phase).with x
Comes o d doing x (act.Commit peer place stamp) f = (g : Key × Entry) × (find_stage x d.me place ≡ Some g) × (f ≡ (record { stamp = stamp; origin = d.me; index = place }, with_slots (slots_at doing.phase place) g.1))
Comes o d doing x (act.CommitNotices peer stamp) f = (g : Key × Entry) × Has x.queue g × (is_staged_notice d.me g ≡ true) × (f ≡ with_stamp stamp g)
Comes o d doing x (act.DropRefs peer serial holder k clock) f = (f ≡ (record { stamp = max x.clock clock; origin = no_origin; index = serial }, ReleaseNotice serial)) × (is_released (dropped_refs x serial holder k clock) serial ≡ true)
Comes o d doing x act.BeginDestroy f = (index : ℕ) × (serial : ℕ) × (slice_get (begin_serials doing.command x) index ≡ Some serial) × (f ≡ (record { stamp = x.clock + 1; origin = x.me; index = index }, OwnNotice serial index)) × (begin_refusal doing.command x ≡ None)
Comes o d doing x (act.Visit peer) f = (index : ℕ) × (serial : ℕ) × (slice_get (doomed_of doing.phase) index ≡ Some serial) × (f ≡ (record { stamp = x.clock + 1; origin = d.me; index = index }, ForeignNotice (record { owner = d.me; serial = serial }) index))
Comes o d doing x action f = ⊥

-- an entry that an event takes out for certain
abbrev pub leaves : DriverPart → Action → Key × Entry → Bool
leaves d (act.Unstage peer place) f = is_stage d.me place f
leaves d (act.Commit peer place stamp) f = is_stage d.me place f
leaves d (act.CommitNotices peer stamp) f = is_staged_notice d.me f
leaves d action f = false

-- an entry of the queue after an event was there before and doesn't leave, or comes
abbrev pub ComesOrWas : Opening → DriverPart → Doing → PeerPart → Action → Key × Entry → Type 0
ComesOrWas o d doing x action f = (Has x.queue f × (leaves d action f ≡ false)) ⊎ Comes o d doing x action f

-- what stays doesn't pass
pub without_fails : (test : Key × Entry → Bool) (queue : List (Key × Entry)) (f : Key × Entry) → Has (without test queue) f → Has queue f × (test f ≡ false)
without_fails test queue f h = let k = filter_has (λ g. not (test g)) queue f h in (k.0, not-true (test f) k.1)

pub has_drop : {A : Type 0} (n : ℕ) (xs : List A) (x : A) → Has (drop n xs) x → Has xs x
has_drop zero xs x h = h
has_drop (suc n) [] x h = h
has_drop (suc n) (y ∷ xs) x h = inr (has_drop n xs x h)

module _ (o : Opening) (d : DriverPart) (doing : Doing) (f : Key × Entry) where
  at_stage : (r : Option Reason) (memory : Bool) (user place serial : ℕ) (payload : List ℕ) (nodes : List NodeRef) (x : PeerPart) → Has (stage_by r memory d.me user place serial payload nodes x).1.queue f → Has x.queue f ⊎ (f ≡ staged_message d.me user place serial payload nodes x)
  at_stage (Some r) memory user place serial payload nodes x h = inl h
  at_stage None true user place serial payload nodes x h = inl h
  at_stage None false user place serial payload nodes x h = elim (put_has _ _ x.queue f h) [ inl new ↦ inr new | inr old ↦ inl old ]

  at_unstage : (g : Option (Key × Entry)) (x : PeerPart) (index : ℕ) → find_stage x d.me index ≡ g → Has (unstaged_by g x d.me index).queue f → Has x.queue f × (is_stage d.me index f ≡ false)
  at_unstage None x index none h = (h, find_none (is_stage d.me index) x.queue f none h)
  at_unstage (Some g) x index is h = without_fails (is_stage d.me index) x.queue f h

  at_attach : (a : Attach) (x : PeerPart) (serial dest : ℕ) → Has (attached_by a x serial dest).queue f → Has x.queue f
  at_attach attach.Counted x serial dest h = without_has (is_release_notice serial) x.queue f h
  at_attach attach.Own x serial dest h = h
  at_attach (attach.Void stamp) x serial dest h = h

  at_commit : (g : Option (Key × Entry)) (x : PeerPart) (peer place stamp : ℕ) → find_stage x d.me place ≡ g → Has (committed_by g x d.me place stamp (slots_at doing.phase place)).queue f → ComesOrWas o d doing x (act.Commit peer place stamp) f
  at_commit None x peer place stamp none h = inl (h, find_none (is_stage d.me place) x.queue f none h)
  at_commit (Some g) x peer place stamp is h = elim (put_has _ _ (without (is_stage d.me place) x.queue) f h) [ inl new ↦ inr (g, is, new) | inr old ↦ inl (without_fails (is_stage d.me place) x.queue f old) ]

  at_notices : (x : PeerPart) (peer stamp : ℕ) → Has (notices_committed x d.me stamp).queue f → ComesOrWas o d doing x (act.CommitNotices peer stamp) f
  at_notices x peer stamp h =
      elim (put_all_has (map (with_stamp stamp) (filter (is_staged_notice d.me) x.queue)) (without (is_staged_notice d.me) x.queue) f h) [
        | inl new ↦ let found = has_map (with_stamp stamp) (filter (is_staged_notice d.me) x.queue) f new in let there = filter_has (is_staged_notice d.me) x.queue found.0 found.1 in inr (found.0, there.0, there.1, found.2)
        | inr old ↦ inl (without_fails (is_staged_notice d.me) x.queue f old)
      ]

  at_release : (b : Bool) (x : PeerPart) (serial : ℕ) → Has (with_release_notice b x serial).queue f → Has x.queue f ⊎ ((f ≡ (record { stamp = x.clock; origin = no_origin; index = serial }, ReleaseNotice serial)) × (b ≡ true))
  at_release false x serial h = inl h
  at_release true x serial h = elim (put_has _ _ x.queue f h) [ inl new ↦ inr (new, refl) | inr old ↦ inl old ]

  -- a notice of one of the serials, counted from a place on
  abbrev OwnOf : PeerPart → ℕ → List ℕ → Type 0
  OwnOf x here serials = (index : ℕ) × (serial : ℕ) × (slice_get serials index ≡ Some serial) × (f ≡ (record { stamp = x.clock + 1; origin = x.me; index = here + index }, OwnNotice serial (here + index)))

  own_later : (x : PeerPart) (here first : ℕ) (serials : List ℕ) → OwnOf x (here + 1) serials → OwnOf x here (first ∷ serials)
  own_later x here first serials (index, serial, is, same) = let moved : (here + 1) + index ≡ here + suc index = omega arith in (suc index, serial, is, same ∙ ap (λ n. (record { stamp = x.clock + 1; origin = x.me; index = n }, OwnNotice serial n)) moved)

  own_first : (x : PeerPart) (here serial : ℕ) (rest : List ℕ) → f ≡ (record { stamp = x.clock + 1; origin = x.me; index = here }, OwnNotice serial here) → OwnOf x here (serial ∷ rest)
  own_first x here serial rest same = let moved : here ≡ here + 0 = omega arith in (zero, serial, refl, same ∙ ap (λ n. (record { stamp = x.clock + 1; origin = x.me; index = n }, OwnNotice serial n)) moved)

  at_own : (x : PeerPart) (here : ℕ) (serials : List ℕ) (queue : List (Key × Entry)) → Has (with_own_notices x here serials queue) f → Has queue f ⊎ OwnOf x here serials
  at_own x here [] queue h = inl h
  at_own x here (serial ∷ rest) queue h =
      elim (at_own x (here + 1) rest _ h) [
        | inr later ↦ inr (own_later x here serial rest later)
        | inl there ↦ elim (put_has _ _ (without (is_release_notice serial) queue) f there) [ inl new ↦ inr (own_first x here serial rest new) | inr old ↦ inl (without_has (is_release_notice serial) queue f old) ]
      ]

  at_destroy : (r : Option Reason) (doomed : List ℕ) (x : PeerPart) → Has (destroy_by r doomed x).1.queue f → Has x.queue f ⊎ ((index : ℕ) × (serial : ℕ) × (slice_get doomed index ≡ Some serial) × (f ≡ (record { stamp = x.clock + 1; origin = x.me; index = index }, OwnNotice serial index)) × (r ≡ None))
  at_destroy (Some r) doomed x h = inl h
  at_destroy None doomed x h = elim (at_own x 0 doomed x.queue h) [ inl old ↦ inl old | inr (index, serial, is, same) ↦ let moved : 0 + index ≡ index = omega arith in inr (index, serial, is, same ∙ ap (λ n. (record { stamp = x.clock + 1; origin = x.me; index = n }, OwnNotice serial n)) moved, refl) ]

  abbrev ForeignOf : ℕ → ℕ → List ℕ → Type 0
  ForeignOf clock here serials = (index : ℕ) × (serial : ℕ) × (slice_get serials index ≡ Some serial) × (f ≡ (record { stamp = clock + 1; origin = d.me; index = here + index }, ForeignNotice (record { owner = d.me; serial = serial }) (here + index)))

  foreign_later : (clock here first : ℕ) (serials : List ℕ) → ForeignOf clock (here + 1) serials → ForeignOf clock here (first ∷ serials)
  foreign_later clock here first serials (index, serial, is, same) = let moved : (here + 1) + index ≡ here + suc index = omega arith in (suc index, serial, is, same ∙ ap (λ n. (record { stamp = clock + 1; origin = d.me; index = n }, ForeignNotice (record { owner = d.me; serial = serial }) n)) moved)

  foreign_first : (clock here serial : ℕ) (rest : List ℕ) → f ≡ (record { stamp = clock + 1; origin = d.me; index = here }, ForeignNotice (record { owner = d.me; serial = serial }) here) → ForeignOf clock here (serial ∷ rest)
  foreign_first clock here serial rest same = let moved : here ≡ here + 0 = omega arith in (zero, serial, refl, same ∙ ap (λ n. (record { stamp = clock + 1; origin = d.me; index = n }, ForeignNotice (record { owner = d.me; serial = serial }) n)) moved)

  at_notice : (b : Bool) (x : PeerPart) (here serial : ℕ) → Has (notice_by b d.me x here (record { owner = d.me; serial = serial })).queue f → Has x.queue f ⊎ (f ≡ (record { stamp = x.clock + 1; origin = d.me; index = here }, ForeignNotice (record { owner = d.me; serial = serial }) here))
  at_notice false x here serial h = inl h
  at_notice true x here serial h = elim (put_has _ _ x.queue f h) [ inl new ↦ inr new | inr old ↦ inl old ]

  same_clock : (b : Bool) (x : PeerPart) (here serial : ℕ) → (notice_by b d.me x here (record { owner = d.me; serial = serial })).clock ≡ x.clock
  same_clock false x here serial = refl
  same_clock true x here serial = refl

  at_visit : (serials : List ℕ) (here : ℕ) (x : PeerPart) → Has (visited_from d.me here serials x).queue f → Has x.queue f ⊎ ForeignOf x.clock here serials
  at_visit [] here x h = inl h
  at_visit (serial ∷ rest) here x h =
      let b = needs_notice x (record { owner = d.me; serial = serial }) in
      elim (at_visit rest (here + 1) (notice_by b d.me x here (record { owner = d.me; serial = serial })) h) [
        | inr later ↦ inr (foreign_later x.clock here serial rest (subst (λ clock. ForeignOf clock (here + 1) rest) (same_clock b x here serial) later))
        | inl there ↦ elim (at_notice b x here serial there) [ inl old ↦ inl old | inr new ↦ inr (foreign_first x.clock here serial rest new) ]
      ]

  visit_from_first : (doomed : List ℕ) (x : PeerPart) (peer : ℕ) → Has x.queue f ⊎ ForeignOf x.clock 0 doomed → Has x.queue f ⊎ ((index : ℕ) × (serial : ℕ) × (slice_get doomed index ≡ Some serial) × (f ≡ (record { stamp = x.clock + 1; origin = d.me; index = index }, ForeignNotice (record { owner = d.me; serial = serial }) index)))
  visit_from_first doomed x peer (inl old) = inl old
  visit_from_first doomed x peer (inr (index, serial, is, same)) = let moved : 0 + index ≡ index = omega arith in inr (index, serial, is, same ∙ ap (λ n. (record { stamp = x.clock + 1; origin = d.me; index = n }, ForeignNotice (record { owner = d.me; serial = serial }) n)) moved)

  was_or : (x : PeerPart) (action : Action) → leaves d action f ≡ false → Has x.queue f ⊎ Comes o d doing x action f → ComesOrWas o d doing x action f
  was_or x action stays (inl old) = inl (old, stays)
  was_or x action stays (inr new) = inr new

  -- the same queue before and after
  same_queue : (memory : Bool) (action : Action) (x : PeerPart) → leaves d action f ≡ false → (happens o memory d doing action x).1.queue ≡ x.queue → Has (happens o memory d doing action x).1.queue f → ComesOrWas o d doing x action f
  same_queue memory action x stays same h = inl (subst (λ queue. Has queue f) same h, stays)

  -- what stands in the queue after an event
  pub queue_comes : (memory : Bool) (action : Action) (x : PeerPart) → Has (happens o memory d doing action x).1.queue f → ComesOrWas o d doing x action f
  queue_comes memory act.Rest x h = inl (h, refl)
  queue_comes memory act.Begin x h = same_queue memory act.Begin x refl (ap (λ y. y.queue) (changes o memory d doing act.Begin x)) h
  queue_comes memory (act.Stage peer place) x h = was_or x (act.Stage peer place) refl (at_stage _ memory _ place _ _ _ x h)
  queue_comes memory (act.Unstage peer place) x h = inl (at_unstage (find_stage x d.me place) x place refl h)
  queue_comes memory (act.Attach peer serial dest) x h = inl (at_attach (attach_answer x serial dest) x serial dest h, refl)
  queue_comes memory act.Stamp x h = inl (h, refl)
  queue_comes memory (act.Sync peer stamp) x h = inl (h, refl)
  queue_comes memory (act.Commit peer place stamp) x h = at_commit (find_stage x d.me place) x peer place stamp refl h
  queue_comes memory (act.CommitNotices peer stamp) x h = at_notices x peer stamp h
  queue_comes memory act.Recv x h = let k = recv_rests x in inl (has_drop k.0 x.queue f (subst (λ queue. Has queue f) k.1 h), refl)
  queue_comes memory act.Reap x h = inl (h, refl)
  queue_comes memory act.Release x h = same_queue memory act.Release x refl (ap (λ y. y.queue) (changes o memory d doing act.Release x)) h
  queue_comes memory (act.DropRefs peer serial holder k clock) x h = was_or x (act.DropRefs peer serial holder k clock) refl (at_release (is_released (dropped_refs x serial holder k clock) serial) (dropped_refs x serial holder k clock) serial h)
  queue_comes memory act.BeginDestroy x h = was_or x act.BeginDestroy refl (at_destroy (begin_refusal doing.command x) (begin_serials doing.command x) x h)
  queue_comes memory (act.Visit peer) x h = was_or x (act.Visit peer) refl (visit_from_first (doomed_of doing.phase) x peer (at_visit (doomed_of doing.phase) 0 x h))
  queue_comes memory act.StampDestroy x h = same_queue memory act.StampDestroy x refl (ap (λ y. y.queue) (changes o memory d doing act.StampDestroy x)) h
  queue_comes memory act.Flush x h = absurd h
  queue_comes memory act.Local x h = same_queue memory act.Local x refl (ap (λ y. y.queue) (changes o memory d doing act.Local x)) h
