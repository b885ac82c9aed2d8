-- Each event keeps staged own notices apart.
use Rattle.std.proofs.Common.{arith, ◌<◌, ◌≡◌, refl, sym, ap, inl, inr, subst, ℕ, zero, suc, ◌+◌, Bool, true, false, cond, not, ◌&&◌, List, [], ◌∷◌, map, filter, drop, Option, Some, None}
use Rattle.std.specs.Prelude.{⊤}
use Rattle.std.proofs.Math.Bool.{and-false}
use Rattle.b1_model.specs.declared.naming.Key.{Key}
use Rattle.b1_model.specs.declared.naming.NodeRef.{NodeRef}
use Rattle.b1_model.specs.declared.naming.Opening.{Opening}
use Rattle.b1_model.specs.declared.parts.Attach.{Attach}
use Rattle.b1_model.specs.declared.parts.Attach.TheVariants as attach
use Rattle.b1_model.specs.declared.parts.Slot.{Slot}
use Rattle.b1_model.specs.declared.entries.Entry.{Entry}
use Rattle.b1_model.specs.declared.entries.Entry.TheVariants.{OwnNotice, ForeignNotice, ReleaseNotice}
use Rattle.b1_model.specs.declared.answers.Reason.{Reason}
use Rattle.b1_model.specs.declared.events.Action.{Action}
use Rattle.b1_model.specs.declared.events.Action.TheVariants as act
use Rattle.b1_model.specs.declared.events.Doing.{Doing}
use Rattle.b1_model.specs.MachineParts.{PeerPart, DriverPart, is_odd, is_release_notice, no_origin, key_before}
use Rattle.b1_model.specs.MachineTables.{put, put_all, without, is_stage, is_staged_notice}
use Rattle.b1_model.specs.MachineSend.{find_stage, unstaged_by, attached_by, attach_answer, committed_by, with_slots, with_stamp, notices_committed}
use Rattle.b1_model.specs.MachineReceive.{with_release_notice, is_released, dropped_refs}
use Rattle.b1_model.specs.MachineDestroy.{with_own_notices, needs_notice, notice_by, with_foreign_notice, visited_from}
use Rattle.b1_model.specs.MachineEvents.{happens, stage_by, destroy_by, slots_at, doomed_of, begin_refusal, begin_serials}
use Rattle.b1_step.specs.Rights.{Has}
use Rattle.b1_step.proofs.Lists.{has_map}
use Rattle.b1_step.proofs.Queues.{put_has, without_has}
use Rattle.b1_step.proofs.Changed.{changes}
use Rattle.b1_inv_apart.proofs.Entries.{is_own_notice, is_own_staged, Apart, AllApart}
use Rattle.b1_inv_tools.proofs.Received.{recv_rests}

apart_turned : (f g : Key × Entry) → Apart f g → Apart g f
apart_turned f g apart first second same = apart second first (sym same)

abbrev Items : Type 0
Items = List (Key × Entry)

pub once_put : (k : Key) (e : Entry) (queue : Items) → ((g : Key × Entry) → Has queue g → Apart (k, e) g) → AllApart queue → AllApart (put k e queue)
once_put k e [] apart once = (λ g h. absurd h, tt)
once_put k e (f ∷ rest) apart once =
    elim (key_before k f.0) as (λ b. AllApart (cond b ((k, e) ∷ f ∷ rest) (f ∷ put k e rest))) [
      | true ↦ (apart, once)
      | false ↦ (λ g h. elim (put_has k e rest g h) [ inl new ↦ subst (Apart f) (sym new) (apart_turned (k, e) f (apart f (inl refl))) | inr old ↦ once.0 g old ], once_put k e rest (λ g h. apart g (inr h)) once.1)
    ]

pub once_without : (test : Key × Entry → Bool) (queue : Items) → AllApart queue → AllApart (without test queue)
once_without test [] once = tt
once_without test (f ∷ rest) once =
    elim (not (test f)) as (λ b. AllApart (cond b (f ∷ without test rest) (without test rest))) [
      | true ↦ (λ g h. once.0 g (without_has test rest g h), once_without test rest once.1)
      | false ↦ once_without test rest once.1
    ]

once_drop : (n : ℕ) (queue : Items) → AllApart queue → AllApart (drop n queue)
once_drop zero queue once = once
once_drop (suc n) [] once = once
once_drop (suc n) (f ∷ rest) once = once_drop n rest once.1

-- an entry that isn't a staged own notice
once_other : (k : Key) (e : Entry) (queue : Items) → is_own_staged (k, e) ≡ false → AllApart queue → AllApart (put k e queue)
once_other k e queue other once = once_put k e queue (λ g h own. absurd (cc (own, other))) once

once_all : (more queue : Items) → ((f : Key × Entry) → Has more f → is_own_staged f ≡ false) → AllApart queue → AllApart (put_all more queue)
once_all [] queue others once = once
once_all (f ∷ rest) queue others once = once_other f.0 f.1 (put_all rest queue) (others f (inl refl)) (once_all rest queue (λ g h. others g (inr h)) once)

committed_other : (k : Key) (e : Entry) → is_odd k.stamp ≡ false → is_own_staged (k, e) ≡ false
committed_other k e even = ap (λ b. b && is_own_notice e) even

module _ (d : DriverPart) where
  at_stage : (r : Option Reason) (memory : Bool) (user place serial : ℕ) (payload : List ℕ) (nodes : List NodeRef) (x : PeerPart) → AllApart x.queue → AllApart (stage_by r memory d.me user place serial payload nodes x).1.queue
  at_stage (Some r) memory user place serial payload nodes x once = once
  at_stage None true user place serial payload nodes x once = once
  at_stage None false user place serial payload nodes x once = once_other _ _ x.queue (and-false _) once

  at_unstage : (g : Option (Key × Entry)) (x : PeerPart) (index : ℕ) → AllApart x.queue → AllApart (unstaged_by g x d.me index).queue
  at_unstage None x index once = once
  at_unstage (Some g) x index once = once_without (is_stage d.me index) x.queue once

  at_attach : (a : Attach) (x : PeerPart) (serial dest : ℕ) → AllApart x.queue → AllApart (attached_by a x serial dest).queue
  at_attach attach.Counted x serial dest once = once_without (is_release_notice serial) x.queue once
  at_attach attach.Own x serial dest once = once
  at_attach (attach.Void stamp) x serial dest once = once

  at_commit : (g : Option (Key × Entry)) (x : PeerPart) (index stamp : ℕ) (slots : List Slot) → is_odd stamp ≡ false → AllApart x.queue → AllApart (committed_by g x d.me index stamp slots).queue
  at_commit None x index stamp slots even once = once
  at_commit (Some g) x index stamp slots even once = once_other (record { stamp = stamp; origin = d.me; index = index }) (with_slots slots g.1) (without (is_stage d.me index) x.queue) (committed_other (record { stamp = stamp; origin = d.me; index = index }) (with_slots slots g.1) even) (once_without (is_stage d.me index) x.queue once)

  at_notices : (x : PeerPart) (stamp : ℕ) → is_odd stamp ≡ false → AllApart x.queue → AllApart (notices_committed x d.me stamp).queue
  at_notices x stamp even once =
      once_all (map (with_stamp stamp) (filter (is_staged_notice d.me) x.queue)) (without (is_staged_notice d.me) x.queue)
      (λ f h. let found = has_map (with_stamp stamp) (filter (is_staged_notice d.me) x.queue) f h in subst (λ g. is_own_staged g ≡ false) (sym found.2) (committed_other (with_stamp stamp found.0).0 found.0.1 even))
      (once_without (is_staged_notice d.me) x.queue once)

  at_release : (b : Bool) (x : PeerPart) (serial : ℕ) → AllApart x.queue → AllApart (with_release_notice b x serial).queue
  at_release false x serial once = once
  at_release true x serial once = once_other (record { stamp = x.clock; origin = no_origin; index = serial }) (ReleaseNotice serial) x.queue (and-false _) once

  -- staged own notices have places before one
  abbrev Below : ℕ → Items → Type 0
  Below here queue = (g : Key × Entry) → Has queue g → is_own_staged g ≡ true → g.0.index < here

  at_own : (x : PeerPart) (here : ℕ) (serials : List ℕ) (queue : Items) → Below here queue → AllApart queue → AllApart (with_own_notices x here serials queue)
  at_own x here [] queue below once = once
  at_own x here (serial ∷ rest) queue below once =
      let left = without (is_release_notice serial) queue in
      at_own x (here + 1) rest (put (record { stamp = x.clock + 1; origin = x.me; index = here }) (OwnNotice serial here) left)
      (λ g h own. elim (put_has _ _ left g h) [ inl new ↦ omega (arith, ap (λ f. f.0.index) new) | inr old ↦ omega (arith, below g (without_has (is_release_notice serial) queue g old) own) ])
      (once_put (record { stamp = x.clock + 1; origin = x.me; index = here }) (OwnNotice serial here) left (λ g h own other same. omega (arith, below g (without_has (is_release_notice serial) queue g h) other, same)) (once_without (is_release_notice serial) queue once))

  at_destroy : (r : Option Reason) (doomed : List ℕ) (x : PeerPart) → ((g : Key × Entry) → Has x.queue g → is_own_staged g ≡ false) → AllApart x.queue → AllApart (destroy_by r doomed x).1.queue
  at_destroy (Some r) doomed x none once = once
  at_destroy None doomed x none once = at_own x 0 doomed x.queue (λ g h own. absurd (cc (own, none g h))) once

  at_notice : (b : Bool) (x : PeerPart) (here : ℕ) (node : NodeRef) → AllApart x.queue → AllApart (notice_by b d.me x here node).queue
  at_notice false x here node once = once
  at_notice true x here node once = once_other (record { stamp = x.clock + 1; origin = d.me; index = here }) (ForeignNotice node here) x.queue (and-false _) once

  at_visit : (serials : List ℕ) (here : ℕ) (x : PeerPart) → AllApart x.queue → AllApart (visited_from d.me here serials x).queue
  at_visit [] here x once = once
  at_visit (serial ∷ rest) here x once =
      at_visit rest (here + 1) (with_foreign_notice d.me x here (record { owner = d.me; serial = serial }))
      (at_notice (needs_notice x (record { owner = d.me; serial = serial })) x here (record { owner = d.me; serial = serial }) once)

-- stamps of commits are even, and where a destruction begins no own notice is staged
abbrev pub Fresh : PeerPart → Action → Type 0
Fresh x (act.Commit peer place stamp) = is_odd stamp ≡ false
Fresh x (act.CommitNotices peer stamp) = is_odd stamp ≡ false
Fresh x act.BeginDestroy = (g : Key × Entry) → Has x.queue g → is_own_staged g ≡ false
Fresh x action = ⊤

same_once : (o : Opening) (memory : Bool) (d : DriverPart) (doing : Doing) (action : Action) (x : PeerPart) → (happens o memory d doing action x).1.queue ≡ x.queue → AllApart x.queue → AllApart (happens o memory d doing action x).1.queue
same_once o memory d doing action x same once = subst AllApart (sym same) once

pub event_once : (o : Opening) (memory : Bool) (d : DriverPart) (doing : Doing) (action : Action) (x : PeerPart) → Fresh x action → AllApart x.queue → AllApart (happens o memory d doing action x).1.queue
event_once o memory d doing act.Rest x new once = once
event_once o memory d doing act.Begin x new once = same_once o memory d doing act.Begin x (ap (λ y. y.queue) (changes o memory d doing act.Begin x)) once
event_once o memory d doing (act.Stage peer place) x new once = at_stage d _ memory _ place _ _ _ x once
event_once o memory d doing (act.Unstage peer place) x new once = at_unstage d (find_stage x d.me place) x place once
event_once o memory d doing (act.Attach peer serial dest) x new once = at_attach d (attach_answer x serial dest) x serial dest once
event_once o memory d doing act.Stamp x new once = once
event_once o memory d doing (act.Sync peer stamp) x new once = once
event_once o memory d doing (act.Commit peer place stamp) x new once = at_commit d (find_stage x d.me place) x place stamp (slots_at doing.phase place) new once
event_once o memory d doing (act.CommitNotices peer stamp) x new once = at_notices d x stamp new once
event_once o memory d doing act.Recv x new once = let k = recv_rests x in subst AllApart (sym k.1) (once_drop k.0 x.queue once)
event_once o memory d doing act.Reap x new once = once
event_once o memory d doing act.Release x new once = same_once o memory d doing act.Release x (ap (λ y. y.queue) (changes o memory d doing act.Release x)) once
event_once o memory d doing (act.DropRefs peer serial holder k clock) x new once = at_release d (is_released (dropped_refs x serial holder k clock) serial) (dropped_refs x serial holder k clock) serial once
event_once o memory d doing act.BeginDestroy x new once = at_destroy d (begin_refusal doing.command x) (begin_serials doing.command x) x new once
event_once o memory d doing (act.Visit peer) x new once = at_visit d (doomed_of doing.phase) 0 x once
event_once o memory d doing act.StampDestroy x new once = same_once o memory d doing act.StampDestroy x (ap (λ y. y.queue) (changes o memory d doing act.StampDestroy x)) once
event_once o memory d doing act.Flush x new once = tt
event_once o memory d doing act.Local x new once = same_once o memory d doing act.Local x (ap (λ y. y.queue) (changes o memory d doing act.Local x)) once
