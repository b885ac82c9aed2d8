-- Which events take a release notice out of the queue: an attach that counts, a destruction's begin, a RECV at the front, and a flush.
use Rattle.std.proofs.Common.{◌≡◌, ◌⊎◌, refl, sym, ap, subst, inl, inr, ℕ, ◌+◌, ◌==◌, Bool, true, false, ◌&&◌, List, [], ◌∷◌, map, filter, Option, Some, None}
use Rattle.std.specs.Prelude.{⊤}
use Rattle.std.proofs.lemmas.Bool.{cases_eq, ne_eqb}
use Rattle.b1_model.specs.declared.naming.Key.{Key}
use Rattle.b1_model.specs.declared.naming.NodeRef.{NodeRef}
use Rattle.b1_model.specs.declared.naming.Opening.{Opening}
use Rattle.b1_model.specs.declared.parts.Attach.{Attach}
use Rattle.b1_model.specs.declared.parts.Attach.TheVariants as attach
use Rattle.b1_model.specs.declared.parts.Slot.{Slot}
use Rattle.b1_model.specs.declared.answers.Reason.{Reason}
use Rattle.b1_model.specs.declared.entries.Entry.{Entry}
use Rattle.b1_model.specs.declared.entries.Entry.TheVariants.{OwnNotice, ReleaseNotice}
use Rattle.b1_model.specs.declared.events.Action.{Action}
use Rattle.b1_model.specs.declared.events.Action.TheVariants as act
use Rattle.b1_model.specs.declared.events.Doing.{Doing}
use Rattle.b1_model.specs.MachineParts.{PeerPart, DriverPart, is_staged, is_release_notice}
use Rattle.b1_model.specs.MachineTables.{without, is_stage, is_staged_notice}
use Rattle.b1_model.specs.MachineSend.{find_stage, unstaged_by, attached_by, attach_answer, committed_by, with_stamp, notices_committed}
use Rattle.b1_model.specs.MachineReceive.{received_part, with_release_notice, is_released, dropped_refs}
use Rattle.b1_model.specs.MachineDestroy.{with_own_notices, needs_notice, notice_by, visited_from}
use Rattle.b1_model.specs.MachineEvents.{happens, stage_by, destroy_by, slots_at, doomed_of, begin_refusal, begin_serials}
use Rattle.b1_step.specs.Rights.{Has}
use Rattle.b1_step.proofs.Changed.{changes}
use Rattle.b1_step.proofs.Queues.{has_put_old, has_put_all_old, has_without}
use Rattle.b1_inv_entries.proofs.Keeping.{IsTakenFront, discard_is, recv_keeps}

module _ (key : Key) (serial : ℕ) where
  abbrev notice : Key × Entry
  notice = (key, ReleaseNotice serial)

  -- an event takes the notice out
  abbrev pub Takes : Doing → PeerPart → Action → Type 0
  Takes doing x (act.Attach peer one dest) = (serial ≡ one) × (attach_answer x one dest ≡ attach.Counted)
  Takes doing x act.BeginDestroy = Has (begin_serials doing.command x) serial × (begin_refusal doing.command x ≡ None)
  Takes doing x act.Recv = IsTakenFront x (key, ReleaseNotice serial)
  Takes doing x act.Flush = ⊤
  Takes doing x action = ⊥

  -- a notice stays where those of another node leave
  stays_apart : (one : ℕ) (queue : List (Key × Entry)) → (serial ≡ one → ⊥) → Has queue notice → Has (without (is_release_notice one) queue) notice
  stays_apart one queue apart has = has_without (is_release_notice one) queue notice has (ne_eqb serial one apart)

  -- at a destruction's begin that of a doomed node alone leaves
  at_own : (x : PeerPart) (here : ℕ) (serials : List ℕ) (queue : List (Key × Entry)) → Has queue notice → Has (with_own_notices x here serials queue) notice ⊎ Has serials serial
  at_own x here [] queue has = inl has
  at_own x here (one ∷ rest) queue has = elim (cases_eq serial one) [
    | inl same ↦ inr (inl same)
    | inr apart ↦ elim (at_own x (here + 1) rest _ (has_put_old (record { stamp = x.clock + 1; origin = x.me; index = here }) (OwnNotice one here) (without (is_release_notice one) queue) notice (stays_apart one queue apart has))) [
      | inl stays ↦ inl stays
      | inr there ↦ inr (inr there)
    ]
  ]

  at_destroy : (r : Option Reason) (doomed : List ℕ) (x : PeerPart) → Has x.queue notice → Has (destroy_by r doomed x).1.queue notice ⊎ (Has doomed serial × (r ≡ None))
  at_destroy (Some r) doomed x has = inl has
  at_destroy None doomed x has = elim (at_own x 0 doomed x.queue has) [ inl stays ↦ inl stays | inr there ↦ inr (there, refl) ]

  -- at an attach that counts, that of the attached node alone
  at_attach : (a : Attach) (x : PeerPart) (one dest : ℕ) → Has x.queue notice → Has (attached_by a x one dest).queue notice ⊎ ((serial ≡ one) × (a ≡ attach.Counted))
  at_attach attach.Counted x one dest has = elim (cases_eq serial one) [ inl same ↦ inr (same, refl) | inr apart ↦ inl (stays_apart one x.queue apart has) ]
  at_attach attach.Own x one dest has = inl has
  at_attach (attach.Void stamp) x one dest has = inl has

  -- at visits, drops, stages, unstages and commits it stays
  at_notice : (b : Bool) (origin here : ℕ) (node : NodeRef) (x : PeerPart) → Has x.queue notice → Has (notice_by b origin x here node).queue notice
  at_notice true origin here node x has = has_put_old _ _ x.queue notice has
  at_notice false origin here node x has = has

  at_visit : (origin here : ℕ) (serials : List ℕ) (x : PeerPart) → Has x.queue notice → Has (visited_from origin here serials x).queue notice
  at_visit origin here [] x has = has
  at_visit origin here (one ∷ rest) x has = at_visit origin (here + 1) rest _ (at_notice (needs_notice x (record { owner = origin; serial = one })) origin here (record { owner = origin; serial = one }) x has)

  at_drop : (b : Bool) (x : PeerPart) (one : ℕ) → Has x.queue notice → Has (with_release_notice b x one).queue notice
  at_drop true x one has = has_put_old _ _ x.queue notice has
  at_drop false x one has = has

  at_stage : (r : Option Reason) (memory : Bool) (origin user place dest : ℕ) (payload : List ℕ) (nodes : List NodeRef) (x : PeerPart) → Has x.queue notice → Has (stage_by r memory origin user place dest payload nodes x).1.queue notice
  at_stage (Some r) memory origin user place dest payload nodes x has = has
  at_stage None true origin user place dest payload nodes x has = has
  at_stage None false origin user place dest payload nodes x has = has_put_old _ _ x.queue notice has

  at_unstage : (g : Option (Key × Entry)) (x : PeerPart) (origin index : ℕ) → Has x.queue notice → Has (unstaged_by g x origin index).queue notice
  at_unstage None x origin index has = has
  at_unstage (Some g) x origin index has = has_without (is_stage origin index) x.queue notice has refl

  at_commit : (g : Option (Key × Entry)) (x : PeerPart) (origin index stamp : ℕ) (slots : List Slot) → Has x.queue notice → Has (committed_by g x origin index stamp slots).queue notice
  at_commit None x origin index stamp slots has = has
  at_commit (Some g) x origin index stamp slots has = has_put_old _ _ (without (is_stage origin index) x.queue) notice (has_without (is_stage origin index) x.queue notice has refl)

  module _ (even : is_staged (key, ReleaseNotice serial) ≡ false) where
    -- at a commit of notices too, as it isn't staged
    at_notices : (x : PeerPart) (origin stamp : ℕ) → Has x.queue notice → Has (notices_committed x origin stamp).queue notice
    at_notices x origin stamp has =
        has_put_all_old (map (with_stamp stamp) (filter (is_staged_notice origin) x.queue)) (without (is_staged_notice origin) x.queue) notice
        (has_without (is_staged_notice origin) x.queue notice has (ap (λ b. true && b && (key.origin == origin)) even))

    -- at a RECV it stays unless it is taken, since it is never for nobody
    at_recv : (x : PeerPart) → Has x.queue notice → Has (received_part x).queue notice ⊎ IsTakenFront x notice
    at_recv x has = elim (recv_keeps x notice has) [
      | inl stays ↦ inl stays
      | inr (inl front) ↦ absurd (cc ((discard_is x notice front).2))
      | inr (inr taken) ↦ inr taken
    ]

    module _ (o : Opening) (memory : Bool) (d : DriverPart) (doing : Doing) (x : PeerPart) (has : Has x.queue (key, ReleaseNotice serial)) where
      -- events that leave the queue
      same_queue : (action : Action) → (happens o memory d doing action x).1.queue ≡ x.queue → Has (happens o memory d doing action x).1.queue notice ⊎ Takes doing x action
      same_queue action same = inl (subst (λ queue. Has queue notice) (sym same) has)

      -- a release notice stays at every event that doesn't take it out
      pub release_stays : (action : Action) → Has (happens o memory d doing action x).1.queue (key, ReleaseNotice serial) ⊎ Takes doing x action
      release_stays act.Rest = inl has
      release_stays act.Begin = same_queue act.Begin (ap (λ y. y.queue) (changes o memory d doing act.Begin x))
      release_stays (act.Stage peer place) = inl (at_stage _ memory _ _ place _ _ _ x has)
      release_stays (act.Unstage peer place) = inl (at_unstage (find_stage x d.me place) x d.me place has)
      release_stays (act.Attach peer one dest) = at_attach (attach_answer x one dest) x one dest has
      release_stays act.Stamp = inl has
      release_stays (act.Sync peer stamp) = inl has
      release_stays (act.Commit peer place stamp) = inl (at_commit (find_stage x d.me place) x d.me place stamp (slots_at doing.phase place) has)
      release_stays (act.CommitNotices peer stamp) = inl (at_notices x d.me stamp has)
      release_stays act.Recv = at_recv x has
      release_stays act.Reap = inl has
      release_stays act.Release = same_queue act.Release (ap (λ y. y.queue) (changes o memory d doing act.Release x))
      release_stays (act.DropRefs peer one holder k clock) = inl (at_drop (is_released (dropped_refs x one holder k clock) one) (dropped_refs x one holder k clock) one has)
      release_stays act.BeginDestroy = at_destroy (begin_refusal doing.command x) (begin_serials doing.command x) x has
      release_stays (act.Visit peer) = inl (at_visit d.me 0 (doomed_of doing.phase) x has)
      release_stays act.StampDestroy = same_queue act.StampDestroy (ap (λ y. y.queue) (changes o memory d doing act.StampDestroy x))
      release_stays act.Flush = inr tt
      release_stays act.Local = same_queue act.Local (ap (λ y. y.queue) (changes o memory d doing act.Local x))
