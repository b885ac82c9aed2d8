-- Each place of a SEND stands staged at most once in a queue.
use Rattle.std.proofs.Common.{◌≡◌, ◌⊎◌, refl, sym, ap, ◌∙◌, inl, inr, subst, ℕ, zero, suc, ◌+◌, Bool, true, false, cond, not, ◌&&◌, ◌==◌, List, [], ◌∷◌, map, filter, drop, Option, Some, None}
use Rattle.std.specs.Prelude.{⊤}
use Rattle.std.proofs.lemmas.Bool.{eqb-true, eq-eqb, false_from_ne_true}
use Rattle.b1_model.specs.declared.naming.Key.{Key}
use Rattle.b1_model.specs.declared.naming.NodeRef.{NodeRef}
use Rattle.b1_model.specs.declared.naming.Opening.{Opening}
use Rattle.b1_model.specs.declared.parts.Attach.{Attach}
use Rattle.b1_model.specs.declared.parts.Attach.TheVariants as attach
use Rattle.b1_model.specs.declared.parts.Slot.{Slot}
use Rattle.b1_model.specs.declared.entries.Entry.{Entry}
use Rattle.b1_model.specs.declared.entries.Entry.TheVariants.{OwnNotice, ForeignNotice, ReleaseNotice}
use Rattle.b1_model.specs.declared.answers.Reason.{Reason}
use Rattle.b1_model.specs.declared.events.Action.{Action}
use Rattle.b1_model.specs.declared.events.Action.TheVariants as act
use Rattle.b1_model.specs.declared.events.Doing.{Doing}
use Rattle.b1_model.specs.MachineParts.{PeerPart, DriverPart, is_staged, is_data, is_odd, is_release_notice, no_origin, key_before}
use Rattle.b1_model.specs.MachineTables.{put, put_all, without, is_stage, is_staged_notice}
use Rattle.b1_model.specs.MachineSend.{find_stage, unstaged_by, attached_by, attach_answer, committed_by, with_slots, with_stamp, notices_committed}
use Rattle.b1_model.specs.MachineReceive.{with_release_notice, is_released, dropped_refs}
use Rattle.b1_model.specs.MachineDestroy.{with_own_notices, needs_notice, notice_by, with_foreign_notice, visited_from}
use Rattle.b1_model.specs.MachineEvents.{happens, stage_by, destroy_by, slots_at, doomed_of, begin_refusal, begin_serials}
use Rattle.b1_step.specs.Rights.{Has}
use Rattle.b1_step.proofs.Lists.{filter_has, has_map}
use Rattle.b1_step.proofs.Queues.{put_has, without_has}
use Rattle.b1_step.proofs.Changed.{changes}
use Rattle.b1_inv.specs.Stages.{OnceEach}
use Rattle.b1_inv_tools.proofs.Received.{recv_rests}

-- what a staged message of an origin and a place is
pub record IsStaged (origin index : ℕ) (f : Key × Entry) : Type 0 where
  pub message : is_data f.1 ≡ true
  pub staged : is_staged f ≡ true
  pub origin_is : f.0.origin ≡ origin
  pub index_is : f.0.index ≡ index

four_true : (a b c e : Bool) → (a && b && c && e) ≡ true → (a ≡ true) × (b ≡ true) × (c ≡ true) × (e ≡ true)
four_true true true true true is = (refl, refl, refl, refl)
four_true true true true false is = absurd (cc is)
four_true true true false e is = absurd (cc is)
four_true true false c e is = absurd (cc is)
four_true false b c e is = absurd (cc is)

pub stage_parts : (origin index : ℕ) (f : Key × Entry) → is_stage origin index f ≡ true → IsStaged origin index f
stage_parts origin index f is =
    let (a, b, c, e) = four_true (is_data f.1) (is_staged f) (f.0.origin == origin) (f.0.index == index) is in
    record { message = a; staged = b; origin_is = eqb-true f.0.origin origin c; index_is = eqb-true f.0.index index e }

pub stage_from : (origin index : ℕ) (f : Key × Entry) → IsStaged origin index f → is_stage origin index f ≡ true
stage_from origin index f k = rw (k.message, k.staged, eq-eqb f.0.origin origin k.origin_is, eq-eqb f.0.index index k.index_is) refl

-- one entry is no second staged message of another one's place
abbrev pub Apart : Key × Entry → Key × Entry → Type 0
Apart f g = is_stage f.0.origin f.0.index f ≡ true → is_stage f.0.origin f.0.index g ≡ false

apart_turned : (f g : Key × Entry) → Apart f g → Apart g f
apart_turned f g apart is =
    false_from_ne_true _ (λ same.
    let a = stage_parts g.0.origin g.0.index g is in
    let b = stage_parts g.0.origin g.0.index f same in
    let own = stage_from f.0.origin f.0.index f (record { message = b.message; staged = b.staged; origin_is = refl; index_is = refl }) in
    let other = stage_from f.0.origin f.0.index g (record { message = a.message; staged = a.staged; origin_is = sym b.origin_is; index_is = sym b.index_is }) in
    cc (sym other ∙ apart own))

abbrev Items : Type 0
Items = List (Key × Entry)

pub once_put : (k : Key) (e : Entry) (queue : Items) → ((g : Key × Entry) → Has queue g → Apart (k, e) g) → OnceEach queue → OnceEach (put k e queue)
once_put k e [] apart once = (λ g h. absurd h, tt)
once_put k e (f ∷ rest) apart once =
    elim (key_before k f.0) as (λ b. OnceEach (cond b ((k, e) ∷ f ∷ rest) (f ∷ put k e rest))) [
      | true ↦ (apart, once)
      | false ↦ (λ g h. elim (put_has k e rest g h) [ inl new ↦ subst (Apart f) (sym new) (apart_turned (k, e) f (apart f (inl refl))) | inr old ↦ once.0 g old ], once_put k e rest (λ g h. apart g (inr h)) once.1)
    ]

pub once_without : (test : Key × Entry → Bool) (queue : Items) → OnceEach queue → OnceEach (without test queue)
once_without test [] once = tt
once_without test (f ∷ rest) once =
    elim (not (test f)) as (λ b. OnceEach (cond b (f ∷ without test rest) (without test rest))) [
      | true ↦ (λ g h. once.0 g (without_has test rest g h), once_without test rest once.1)
      | false ↦ once_without test rest once.1
    ]

once_drop : (n : ℕ) (queue : Items) → OnceEach queue → OnceEach (drop n queue)
once_drop zero queue once = once
once_drop (suc n) [] once = once
once_drop (suc n) (f ∷ rest) once = once_drop n rest once.1

-- an entry that is no staged message is none of a place
no_stage : (origin index : ℕ) (f : Key × Entry) → (is_data f.1 ≡ false) ⊎ (is_staged f ≡ false) → is_stage origin index f ≡ false
no_stage origin index f (inl notice) = false_from_ne_true _ (λ is. cc (sym notice ∙ (stage_parts origin index f is).message))
no_stage origin index f (inr committed) = false_from_ne_true _ (λ is. cc (sym committed ∙ (stage_parts origin index f is).staged))

once_other : (k : Key) (e : Entry) (queue : Items) → (is_data e ≡ false) ⊎ (is_staged (k, e) ≡ false) → OnceEach queue → OnceEach (put k e queue)
once_other k e queue other once = once_put k e queue (λ g h is. absurd (cc (sym is ∙ no_stage k.origin k.index (k, e) other))) once

once_all : (more queue : Items) → ((f : Key × Entry) → Has more f → is_data f.1 ≡ false) → OnceEach queue → OnceEach (put_all more queue)
once_all [] queue notices once = once
once_all (f ∷ rest) queue notices once = once_other f.0 f.1 (put_all rest queue) (inl (notices f (inl refl))) (once_all rest queue (λ g h. notices g (inr h)) once)

first_false : (a b c : Bool) → (not a && b && c) ≡ true → a ≡ false
first_false false b c is = refl
first_false true b c is = absurd (cc is)

pub notice_is : (origin : ℕ) (g : Key × Entry) → is_staged_notice origin g ≡ true → is_data g.1 ≡ false
notice_is origin g is = first_false (is_data g.1) (is_staged g) (g.0.origin == origin) is

module _ (d : DriverPart) where
  at_stage : (r : Option Reason) (memory : Bool) (user place serial : ℕ) (payload : List ℕ) (nodes : List NodeRef) (x : PeerPart) → ((g : Key × Entry) → Has x.queue g → is_stage d.me place g ≡ false) → OnceEach x.queue → OnceEach (stage_by r memory d.me user place serial payload nodes x).1.queue
  at_stage (Some r) memory user place serial payload nodes x new once = once
  at_stage None true user place serial payload nodes x new once = once
  at_stage None false user place serial payload nodes x new once = once_put _ _ x.queue (λ g h is. new g h) once

  at_unstage : (g : Option (Key × Entry)) (x : PeerPart) (index : ℕ) → OnceEach x.queue → OnceEach (unstaged_by g x d.me index).queue
  at_unstage None x index once = once
  at_unstage (Some g) x index once = once_without (is_stage d.me index) x.queue once

  at_attach : (a : Attach) (x : PeerPart) (serial dest : ℕ) → OnceEach x.queue → OnceEach (attached_by a x serial dest).queue
  at_attach attach.Counted x serial dest once = once_without (is_release_notice serial) x.queue once
  at_attach attach.Own x serial dest once = once
  at_attach (attach.Void stamp) x serial dest once = once

  at_commit : (g : Option (Key × Entry)) (x : PeerPart) (index stamp : ℕ) (slots : List Slot) → is_odd stamp ≡ false → OnceEach x.queue → OnceEach (committed_by g x d.me index stamp slots).queue
  at_commit None x index stamp slots even once = once
  at_commit (Some g) x index stamp slots even once = once_other (record { stamp = stamp; origin = d.me; index = index }) (with_slots slots g.1) (without (is_stage d.me index) x.queue) (inr even) (once_without (is_stage d.me index) x.queue once)

  at_notices : (x : PeerPart) (stamp : ℕ) → OnceEach x.queue → OnceEach (notices_committed x d.me stamp).queue
  at_notices x stamp once =
      once_all (map (with_stamp stamp) (filter (is_staged_notice d.me) x.queue)) (without (is_staged_notice d.me) x.queue)
      (λ f h. let found = has_map (with_stamp stamp) (filter (is_staged_notice d.me) x.queue) f h in ap (λ g. is_data g.1) found.2 ∙ notice_is d.me found.0 (filter_has (is_staged_notice d.me) x.queue found.0 found.1).1)
      (once_without (is_staged_notice d.me) x.queue once)

  at_release : (b : Bool) (x : PeerPart) (serial : ℕ) → OnceEach x.queue → OnceEach (with_release_notice b x serial).queue
  at_release false x serial once = once
  at_release true x serial once = once_other (record { stamp = x.clock; origin = no_origin; index = serial }) (ReleaseNotice serial) x.queue (inl refl) once

  at_own : (x : PeerPart) (here : ℕ) (serials : List ℕ) (queue : Items) → OnceEach queue → OnceEach (with_own_notices x here serials queue)
  at_own x here [] queue once = once
  at_own x here (serial ∷ rest) queue once = at_own x (here + 1) rest _ (once_other (record { stamp = x.clock + 1; origin = x.me; index = here }) (OwnNotice serial here) (without (is_release_notice serial) queue) (inl refl) (once_without (is_release_notice serial) queue once))

  at_destroy : (r : Option Reason) (doomed : List ℕ) (x : PeerPart) → OnceEach x.queue → OnceEach (destroy_by r doomed x).1.queue
  at_destroy (Some r) doomed x once = once
  at_destroy None doomed x once = at_own x 0 doomed x.queue once

  at_notice : (b : Bool) (x : PeerPart) (here : ℕ) (node : NodeRef) → OnceEach x.queue → OnceEach (notice_by b d.me x here node).queue
  at_notice false x here node once = once
  at_notice true x here node once = once_other (record { stamp = x.clock + 1; origin = d.me; index = here }) (ForeignNotice node here) x.queue (inl refl) once

  at_visit : (serials : List ℕ) (here : ℕ) (x : PeerPart) → OnceEach x.queue → OnceEach (visited_from d.me here serials x).queue
  at_visit [] here x once = once
  at_visit (serial ∷ rest) here x once =
      at_visit rest (here + 1) (with_foreign_notice d.me x here (record { owner = d.me; serial = serial }))
      (at_notice (needs_notice x (record { owner = d.me; serial = serial })) x here (record { owner = d.me; serial = serial }) once)

-- a stage is of a place that isn't staged there, and a commit has an even stamp
abbrev pub Fresh : DriverPart → PeerPart → Action → Type 0
Fresh d x (act.Stage peer place) = (g : Key × Entry) → Has x.queue g → is_stage d.me place g ≡ false
Fresh d x (act.Commit peer place stamp) = is_odd stamp ≡ false
Fresh d x action = ⊤

same_once : (o : Opening) (memory : Bool) (d : DriverPart) (doing : Doing) (action : Action) (x : PeerPart) → (happens o memory d doing action x).1.queue ≡ x.queue → OnceEach x.queue → OnceEach (happens o memory d doing action x).1.queue
same_once o memory d doing action x same once = subst OnceEach (sym same) once

pub event_once : (o : Opening) (memory : Bool) (d : DriverPart) (doing : Doing) (action : Action) (x : PeerPart) → Fresh d x action → OnceEach x.queue → OnceEach (happens o memory d doing action x).1.queue
event_once o memory d doing act.Rest x new once = once
event_once o memory d doing act.Begin x new once = same_once o memory d doing act.Begin x (ap (λ y. y.queue) (changes o memory d doing act.Begin x)) once
event_once o memory d doing (act.Stage peer place) x new once = at_stage d _ memory _ place _ _ _ x new once
event_once o memory d doing (act.Unstage peer place) x new once = at_unstage d (find_stage x d.me place) x place once
event_once o memory d doing (act.Attach peer serial dest) x new once = at_attach d (attach_answer x serial dest) x serial dest once
event_once o memory d doing act.Stamp x new once = once
event_once o memory d doing (act.Sync peer stamp) x new once = once
event_once o memory d doing (act.Commit peer place stamp) x new once = at_commit d (find_stage x d.me place) x place stamp (slots_at doing.phase place) new once
event_once o memory d doing (act.CommitNotices peer stamp) x new once = at_notices d x stamp once
event_once o memory d doing act.Recv x new once = let k = recv_rests x in subst OnceEach (sym k.1) (once_drop k.0 x.queue once)
event_once o memory d doing act.Reap x new once = once
event_once o memory d doing act.Release x new once = same_once o memory d doing act.Release x (ap (λ y. y.queue) (changes o memory d doing act.Release x)) once
event_once o memory d doing (act.DropRefs peer serial holder k clock) x new once = at_release d (is_released (dropped_refs x serial holder k clock) serial) (dropped_refs x serial holder k clock) serial once
event_once o memory d doing act.BeginDestroy x new once = at_destroy d (begin_refusal doing.command x) (begin_serials doing.command x) x once
event_once o memory d doing (act.Visit peer) x new once = at_visit d (doomed_of doing.phase) 0 x once
event_once o memory d doing act.StampDestroy x new once = same_once o memory d doing act.StampDestroy x (ap (λ y. y.queue) (changes o memory d doing act.StampDestroy x)) once
event_once o memory d doing act.Flush x new once = tt
event_once o memory d doing act.Local x new once = same_once o memory d doing act.Local x (ap (λ y. y.queue) (changes o memory d doing act.Local x)) once
