-- The keys of a queue go on ascending through one event, where those that come are new.
use Rattle.std.proofs.Common.{◌≡◌, ◌⊎◌, refl, sym, ap, ◌∙◌, inl, inr, subst, arith, ℕ, zero, suc, ◌+◌, ◌≤◌, max, Bool, true, false, cond, List, [], ◌∷◌, map, filter, drop, Option, Some, None}
use Rattle.std.specs.Prelude.{⊤, slice_get}
use Rattle.b1_model.specs.declared.naming.Key.{Key}
use Rattle.b1_model.specs.declared.naming.NodeRef.{NodeRef}
use Rattle.b1_model.specs.declared.naming.Opening.{Opening}
use Rattle.b1_model.specs.declared.parts.Attach.{Attach}
use Rattle.b1_model.specs.declared.parts.Attach.TheVariants as attach
use Rattle.b1_model.specs.declared.parts.Slot.{Slot}
use Rattle.b1_model.specs.declared.answers.Reason.{Reason}
use Rattle.b1_model.specs.declared.entries.Entry.{Entry}
use Rattle.b1_model.specs.declared.entries.Entry.TheVariants.{OwnNotice, ForeignNotice, ReleaseNotice}
use Rattle.b1_model.specs.declared.events.Action.{Action}
use Rattle.b1_model.specs.declared.events.Action.TheVariants as act
use Rattle.b1_model.specs.declared.events.Doing.{Doing}
use Rattle.b1_model.specs.MachineParts.{PeerPart, DriverPart, no_origin, is_release_notice, key_before}
use Rattle.b1_model.specs.MachineTables.{put, put_all, without, is_stage, is_staged_notice}
use Rattle.b1_model.specs.MachineSend.{find_stage, unstaged_by, attached_by, attach_answer, committed_by, with_slots, with_stamp, notices_committed}
use Rattle.b1_model.specs.MachineReceive.{with_release_notice, is_released, dropped_refs}
use Rattle.b1_model.specs.MachineDestroy.{with_own_notices, needs_notice, notice_by, visited_from}
use Rattle.b1_model.specs.MachineEvents.{happens, stage_by, destroy_by, begin_refusal, begin_serials, doomed_of, slots_at}
use Rattle.b1_step.specs.Rights.{Has}
use Rattle.b1_step.specs.Ordered.{Ascending, NewKey}
use Rattle.b1_step.proofs.Changed.{changes}
use Rattle.b1_step.proofs.Lists.{filter_has, has_map}
use Rattle.b1_step.proofs.Orders.{put_ascending, without_ascending, new_without, behind_has, key_not_itself}
use Rattle.b1_step.proofs.Queues.{put_all_has}
use Rattle.b1_inv_tools.proofs.Received.{recv_rests}
use Rattle.b1_inv_peer.proofs.DestroyEvents.{new_put, still_needs}

abbrev Queue : Type 0
Queue = List (Key × Entry)

-- ---- new keys

pub new_from : (k : Key) (queue : Queue) → ((f : Key × Entry) → Has queue f → f.0 ≡ k → ⊥) → NewKey k queue
new_from k [] none = tt
new_from k (f ∷ rest) none = (none f (inl refl), new_from k rest (λ g h. none g (inr h)))

pub new_has : (k : Key) (queue : Queue) → NewKey k queue → (f : Key × Entry) → Has queue f → f.0 ≡ k → ⊥
new_has k [] new f h same = h
new_has k (g ∷ rest) new f (inl is) same = new.0 (sym (ap (λ e. e.0) is) ∙ same)
new_has k (g ∷ rest) new f (inr there) same = new_has k rest new.1 f there same

drop_ascending : (n : ℕ) (queue : Queue) → Ascending queue → Ascending (drop n queue)
drop_ascending zero queue up = up
drop_ascending (suc n) [] up = up
drop_ascending (suc n) (f ∷ rest) up = drop_ascending n rest up.1

-- ---- notices are committed

module _ (by : Key × Entry → Bool) (stamp : ℕ) where
  -- those that pass and have one place are one
  abbrev pub PlacesApart : Queue → Type 0
  PlacesApart queue = (f g : Key × Entry) → Has queue f → Has queue g → by f ≡ true → by g ≡ true → f.0.index ≡ g.0.index → f.0 ≡ g.0

  abbrev moved : Queue → Queue → Queue
  moved part left = put_all (map (with_stamp stamp) (filter by part)) left

  pub moved_ascending : (part left : Queue) → Ascending part → PlacesApart part → ((f : Key × Entry) → Has part f → by f ≡ true → NewKey (with_stamp stamp f).0 left) → Ascending left → Ascending (moved part left)
  moved_ascending [] left up apart new left_up = left_up
  moved_ascending (f ∷ rest) left up apart new left_up = at (moved_ascending rest left up.1 (λ g h i j. apart g h (inr i) (inr j)) (λ g h. new g (inr h)) left_up) (by f) refl
    where
      alone : by f ≡ true → (g : Key × Entry) → Has (map (with_stamp stamp) (filter by rest)) g ⊎ Has left g → g.0 ≡ (with_stamp stamp f).0 → ⊥
      alone passes g (inl there) same =
          let from = has_map (with_stamp stamp) (filter by rest) g there in
          let was = filter_has by rest from.0 from.1 in
          let place : f.0.index ≡ from.0.0.index = sym (ap (λ k. k.index) same) ∙ ap (λ e. e.0.index) from.2 in
          let key : f.0 ≡ from.0.0 = apart f from.0 (inl refl) (inr was.0) passes was.1 place in
          let less : key_before f.0 f.0 ≡ true = subst (λ k. key_before f.0 k ≡ true) (sym key) (behind_has f.0 rest from.0 up.0 was.0) in
          cc (sym less ∙ key_not_itself f.0)
      alone passes g (inr there) same = new_has (with_stamp stamp f).0 left (new f (inl refl) passes) g there same

      at : Ascending (put_all (map (with_stamp stamp) (filter by rest)) left) → (b : Bool) → by f ≡ b → Ascending (put_all (map (with_stamp stamp) (cond b (f ∷ filter by rest) (filter by rest))) left)
      at further false fails = further
      at further true passes =
          put_ascending (with_stamp stamp f).0 (with_stamp stamp f).1 (put_all (map (with_stamp stamp) (filter by rest)) left)
          (new_from (with_stamp stamp f).0 (put_all (map (with_stamp stamp) (filter by rest)) left) (λ g h same. alone passes g (put_all_has (map (with_stamp stamp) (filter by rest)) left g h) same))
          further

-- ---- what events need

-- the key of what a command stages at a part
abbrev pub staged_key : PeerPart → ℕ → ℕ → Key
staged_key x origin index = record { stamp = x.clock + 1; origin = origin; index = index }

-- a key with a final stamp
abbrev pub final_key : ℕ → ℕ → ℕ → Key
final_key stamp origin index = record { stamp = stamp; origin = origin; index = index }

-- what comes has a new key
abbrev pub BringsNew : DriverPart → Doing → PeerPart → Action → Type 0
BringsNew d doing x (act.Stage peer place) = NewKey (staged_key x d.me place) x.queue
BringsNew d doing x (act.Commit peer place stamp) = (g : Key × Entry) → find_stage x d.me place ≡ Some g → NewKey (final_key stamp d.me place) x.queue
BringsNew d doing x (act.CommitNotices peer stamp) = PlacesApart (is_staged_notice d.me) stamp x.queue × ((f : Key × Entry) → Has x.queue f → is_staged_notice d.me f ≡ true → NewKey (with_stamp stamp f).0 x.queue)
BringsNew d doing x (act.DropRefs peer serial holder n clock) = NewKey (final_key (max x.clock clock) no_origin serial) x.queue
BringsNew d doing x act.BeginDestroy = (index : ℕ) → NewKey (staged_key x x.me index) x.queue
BringsNew d doing x (act.Visit peer) = (index serial : ℕ) → slice_get (doomed_of doing.phase) index ≡ Some serial → needs_notice x (record { owner = d.me; serial = serial }) ≡ true → NewKey (staged_key x d.me index) x.queue
BringsNew d doing x action = ⊤

-- ---- events

at_stage : (r : Option Reason) (memory : Bool) (origin user place serial : ℕ) (payload : List ℕ) (nodes : List NodeRef) (x : PeerPart) → NewKey (staged_key x origin place) x.queue → Ascending x.queue → Ascending (stage_by r memory origin user place serial payload nodes x).1.queue
at_stage (Some r) memory origin user place serial payload nodes x new up = up
at_stage None true origin user place serial payload nodes x new up = up
at_stage None false origin user place serial payload nodes x new up = put_ascending (staged_key x origin place) _ x.queue new up

at_unstage : (g : Option (Key × Entry)) (x : PeerPart) (origin index : ℕ) → Ascending x.queue → Ascending (unstaged_by g x origin index).queue
at_unstage None x origin index up = up
at_unstage (Some g) x origin index up = without_ascending (is_stage origin index) x.queue up

at_attach : (a : Attach) (x : PeerPart) (serial dest : ℕ) → Ascending x.queue → Ascending (attached_by a x serial dest).queue
at_attach attach.Counted x serial dest up = without_ascending (is_release_notice serial) x.queue up
at_attach attach.Own x serial dest up = up
at_attach (attach.Void stamp) x serial dest up = up

at_commit : (r : Option (Key × Entry)) (x : PeerPart) (origin index stamp : ℕ) (slots : List Slot) → ((g : Key × Entry) → r ≡ Some g → NewKey (final_key stamp origin index) x.queue) → Ascending x.queue → Ascending (committed_by r x origin index stamp slots).queue
at_commit None x origin index stamp slots new up = up
at_commit (Some g) x origin index stamp slots new up =
    put_ascending (final_key stamp origin index) (with_slots slots g.1) (without (is_stage origin index) x.queue) (new_without (is_stage origin index) (final_key stamp origin index) x.queue (new g refl)) (without_ascending (is_stage origin index) x.queue up)

at_notices : (x : PeerPart) (origin stamp : ℕ) → PlacesApart (is_staged_notice origin) stamp x.queue → ((f : Key × Entry) → Has x.queue f → is_staged_notice origin f ≡ true → NewKey (with_stamp stamp f).0 x.queue) → Ascending x.queue → Ascending (notices_committed x origin stamp).queue
at_notices x origin stamp apart new up =
    moved_ascending (is_staged_notice origin) stamp x.queue (without (is_staged_notice origin) x.queue) up apart
    (λ f h is. new_without (is_staged_notice origin) (with_stamp stamp f).0 x.queue (new f h is))
    (without_ascending (is_staged_notice origin) x.queue up)

at_drop : (b : Bool) (x : PeerPart) (serial : ℕ) → NewKey (final_key x.clock no_origin serial) x.queue → Ascending x.queue → Ascending (with_release_notice b x serial).queue
at_drop false x serial new up = up
at_drop true x serial new up = put_ascending (final_key x.clock no_origin serial) (ReleaseNotice serial) x.queue new up

at_own : (x : PeerPart) (here : ℕ) (doomed : List ℕ) (queue : Queue) → ((index : ℕ) → here ≤ index → NewKey (staged_key x x.me index) queue) → Ascending queue → Ascending (with_own_notices x here doomed queue)
at_own x here [] queue new up = up
at_own x here (serial ∷ rest) queue new up =
    let left = without (is_release_notice serial) queue in
    at_own x (here + 1) rest (put (staged_key x x.me here) (OwnNotice serial here) left)
    (λ index more. new_put (staged_key x x.me index) (staged_key x x.me here) (OwnNotice serial here) left (new_without (is_release_notice serial) (staged_key x x.me index) queue (new index (omega (arith, more)))) (λ same. absurd (let e = ap (λ k. k.index) same in omega (arith, e, more))))
    (put_ascending (staged_key x x.me here) (OwnNotice serial here) left (new_without (is_release_notice serial) (staged_key x x.me here) queue (new here (omega arith))) (without_ascending (is_release_notice serial) queue up))

at_destroy : (r : Option Reason) (doomed : List ℕ) (x : PeerPart) → ((index : ℕ) → NewKey (staged_key x x.me index) x.queue) → Ascending x.queue → Ascending (destroy_by r doomed x).1.queue
at_destroy (Some r) doomed x new up = up
at_destroy None doomed x new up = at_own x 0 doomed x.queue (λ index more. new index) up

-- the notices that a visit still has to stage have new keys
abbrev VisitsNew : ℕ → ℕ → List ℕ → PeerPart → Type 0
VisitsNew origin here serials x = (j serial : ℕ) → slice_get serials j ≡ Some serial → needs_notice x (record { owner = origin; serial = serial }) ≡ true → NewKey (staged_key x origin (here + j)) x.queue

module _ (origin here first : ℕ) (rest : List ℕ) (x : PeerPart) (new : VisitsNew origin here (first ∷ rest) x) (up : Ascending x.queue) where
  abbrev node : NodeRef
  node = record { owner = origin; serial = first }

  first_new : needs_notice x node ≡ true → NewKey (staged_key x origin here) x.queue
  first_new needs = let same : here + 0 ≡ here = omega arith in subst (λ i. NewKey (staged_key x origin i) x.queue) same (new zero first refl needs)

  later : (j serial : ℕ) → slice_get rest j ≡ Some serial → needs_notice x (record { owner = origin; serial = serial }) ≡ true → NewKey (staged_key x origin (here + 1 + j)) x.queue
  later j serial is needs = let same : here + suc j ≡ here + 1 + j = omega arith in subst (λ i. NewKey (staged_key x origin i) x.queue) same (new (suc j) serial is needs)

  at_notice : (b : Bool) → needs_notice x node ≡ b → Ascending (notice_by b origin x here node).queue
  at_notice false is = up
  at_notice true is = put_ascending (staged_key x origin here) (ForeignNotice node here) x.queue (first_new is) up

  then_new : (b : Bool) → needs_notice x node ≡ b → VisitsNew origin (here + 1) rest (notice_by b origin x here node)
  then_new false is j serial found needs = later j serial found needs
  then_new true is j serial found needs =
      new_put (staged_key x origin (here + 1 + j)) (staged_key x origin here) (ForeignNotice node here) x.queue
      (later j serial found (still_needs (record { owner = origin; serial = serial }) node x.handles needs))
      (λ same. absurd (let e = ap (λ k. k.index) same in omega (arith, e)))

at_visit : (origin : ℕ) (serials : List ℕ) (here : ℕ) (x : PeerPart) → VisitsNew origin here serials x → Ascending x.queue → Ascending (visited_from origin here serials x).queue
at_visit origin [] here x new up = up
at_visit origin (serial ∷ rest) here x new up =
    at_visit origin rest (here + 1) (notice_by (needs_notice x (record { owner = origin; serial = serial })) origin x here (record { owner = origin; serial = serial }))
    (then_new origin here serial rest x new up (needs_notice x (record { owner = origin; serial = serial })) refl)
    (at_notice origin here serial rest x new up (needs_notice x (record { owner = origin; serial = serial })) refl)

visit_from_first : (x : PeerPart) (origin : ℕ) (doomed : List ℕ) → ((index serial : ℕ) → slice_get doomed index ≡ Some serial → needs_notice x (record { owner = origin; serial = serial }) ≡ true → NewKey (staged_key x origin index) x.queue) → VisitsNew origin 0 doomed x
visit_from_first x origin doomed new j serial is needs = let same : j ≡ 0 + j = omega arith in subst (λ i. NewKey (staged_key x origin i) x.queue) same (new j serial is needs)

module _ (o : Opening) (memory : Bool) (d : DriverPart) (doing : Doing) (x : PeerPart) (up : Ascending x.queue) where
  same_queue : (action : Action) → (happens o memory d doing action x).1.queue ≡ x.queue → Ascending (happens o memory d doing action x).1.queue
  same_queue action same = subst Ascending (sym same) up

  pub event_ascends : (action : Action) → BringsNew d doing x action → Ascending (happens o memory d doing action x).1.queue
  event_ascends act.Rest new = up
  event_ascends act.Begin new = same_queue act.Begin (ap (λ y. y.queue) (changes o memory d doing act.Begin x))
  event_ascends (act.Stage peer place) new = at_stage _ memory _ _ place _ _ _ x new up
  event_ascends (act.Unstage peer place) new = at_unstage (find_stage x d.me place) x d.me place up
  event_ascends (act.Attach peer serial dest) new = at_attach (attach_answer x serial dest) x serial dest up
  event_ascends act.Stamp new = up
  event_ascends (act.Sync peer stamp) new = up
  event_ascends (act.Commit peer place stamp) new = at_commit (find_stage x d.me place) x d.me place stamp (slots_at doing.phase place) new up
  event_ascends (act.CommitNotices peer stamp) new = at_notices x d.me stamp new.0 new.1 up
  event_ascends act.Recv new = let k = recv_rests x in subst Ascending (sym k.1) (drop_ascending k.0 x.queue up)
  event_ascends act.Reap new = up
  event_ascends act.Release new = same_queue act.Release (ap (λ y. y.queue) (changes o memory d doing act.Release x))
  event_ascends (act.DropRefs peer serial holder n clock) new = at_drop (is_released (dropped_refs x serial holder n clock) serial) (dropped_refs x serial holder n clock) serial new up
  event_ascends act.BeginDestroy new = at_destroy (begin_refusal doing.command x) (begin_serials doing.command x) x new up
  event_ascends (act.Visit peer) new = at_visit d.me (doomed_of doing.phase) 0 x (visit_from_first x d.me (doomed_of doing.phase) new) up
  event_ascends act.StampDestroy new = same_queue act.StampDestroy (ap (λ y. y.queue) (changes o memory d doing act.StampDestroy x))
  event_ascends act.Flush new = tt
  event_ascends act.Local new = same_queue act.Local (ap (λ y. y.queue) (changes o memory d doing act.Local x))
