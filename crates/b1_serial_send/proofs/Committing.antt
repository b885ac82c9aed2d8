-- The stamp of a SEND, its syncs and its commits.
use Rattle.std.proofs.Common.{◌≡◌, refl, sym, ap, ◌∙◌, subst, ℕ, ◌+◌, true, cond, not, List, [], ◌∷◌, ◌++◌, length, zip, get_or, Option, Some, None, le_of_eq}
use Rattle.std.specs.Prelude.{slice_get}
use Rattle.std.proofs.lemmas.List.{length-append}
use Rattle.std.proofs.lemmas.Option.{get_or_from_slice_get}
use Rattle.b1_model.specs.declared.naming.Key.{Key}
use Rattle.b1_model.specs.declared.naming.NodeRef.{NodeRef}
use Rattle.b1_model.specs.declared.naming.Opening.{Opening}
use Rattle.b1_model.specs.declared.commands.Command.TheVariants as cmd
use Rattle.b1_model.specs.declared.commands.SendCmd.{SendCmd}
use Rattle.b1_model.specs.declared.parts.Slot.{Slot}
use Rattle.b1_model.specs.declared.entries.Entry.{Entry}
use Rattle.b1_model.specs.declared.answers.Reason.{Reason}
use Rattle.b1_model.specs.declared.events.Outcome.TheVariants as out
use Rattle.b1_model.specs.declared.events.Phase.TheVariants.{Starting, Stamping, Syncing, Committing}
use Rattle.b1_model.specs.declared.events.Sending.{Sending}
use Rattle.b1_model.specs.MachineParts.{PeerPart, DriverPart, State}
use Rattle.b1_model.specs.MachineSend.{final_stamp, synced, find_stage, committed_by, committed, is_committed}
use Rattle.b1_model.specs.MachineDriver.{Turn, Goes, no_ref, node_of_place, accepted_from, syncing}
use Rattle.b1_model.specs.MachineTook.{took, turned, goes_by, ended, sent_answer}
use Rattle.b1_schedule.specs.Shortage.{Shortage}
use Rattle.b1_serial_bus.specs.Parts.{Bus}
use Rattle.b1_serial_bus.specs.Letters.{Letter, Places}
use Rattle.b1_serial_send.proofs.Midway.{over, stamp_at, sync_at, commit_at, sending_driver, midway}
use Rattle.b1_serial_send.proofs.Lists.{over_keeps, over_one, over_none, over_nothing}
use Rattle.b1_serial_send.proofs.Parts.{Placed, at_keeps}
use Rattle.b1_serial_send.proofs.Goes.{WillEnd, goes, same_parts}
use Rattle.b1_serial_send.proofs.Accepted.{none_left, place_to, refused_from, accepted_at, is_place_at, places_back}
use Rattle.b1_serial_send.proofs.Staging.{turned_to, turned_so}

-- a commit leaves the part's number
found_me : (found : Option (Key × Entry)) (x : PeerPart) (origin index stamp : ℕ) (slots : List Slot) → (committed_by found x origin index stamp slots).me ≡ x.me
found_me None x origin index stamp slots = refl
found_me (Some f) x origin index stamp slots = refl

committed_me : (x : PeerPart) (origin index stamp : ℕ) (slots : List Slot) → (committed x origin index stamp slots).me ≡ x.me
committed_me x origin index stamp slots = found_me (find_stage x origin index) x origin index stamp slots

module _ (o : Opening) (m : Shortage) (p : ℕ) (target : Bus) (s : State) (d : DriverPart) (c : SendCmd) (sending : Sending)
    (placed : Placed s.peers) (is_driver : slice_get s.drivers p ≡ Some d) (len : length sending.places ≡ length sending.begun.to) where
  abbrev tos : List NodeRef
  tos = sending.begun.to

  abbrev final : Places
  final = sending.places

  abbrev letter : Letter
  letter = record { origin = 0; user = 0; to = tos; with = []; payload = [] }

  abbrev At : (PeerPart → PeerPart) → Turn → Type 0
  At h turn = WillEnd o m p target (midway s p (turned_to d c turn) h)

  same_at : (h j : PeerPart → PeerPart) (turn : Turn) → ((y : PeerPart) → h y ≡ j y) → At h turn → At j turn
  same_at h j turn same = same_parts o m p target s (turned_to d c turn) h j same

  -- ---- the stamp

  module _ (h : PeerPart → PeerPart) (h_keeps : (y : PeerPart) → (h y).me ≡ y.me) (me_is : d.me ≡ p) (x : PeerPart) (is_peer : slice_get s.peers p ≡ Some x) where
    pub stamp_goes : At (λ y. stamp_at p (final_stamp (h x) sending.collected) (h y)) (Goes (syncing sending (final_stamp (h x) sending.collected) (accepted_from 0 final))) → At h (Goes (Stamping sending))
    stamp_goes =
        goes o m p target s d c placed is_driver (Stamping sending) h (λ y. record y { clock = final_stamp (h x) sending.collected }) (λ y. stamp_at p (final_stamp (h x) sending.collected) (h y))
        p x _ h_keeps is_peer me_is
        (ap (λ e. (e, record (h x) { clock = final_stamp (h x) sending.collected })) (turned_so d c (Stamping sending) (Goes (syncing sending (final_stamp (h x) sending.collected) (accepted_from 0 final)))))
        (λ y. refl)

  module _ (stamp : ℕ) (h : PeerPart → PeerPart) (h_keeps : (y : PeerPart) → (h y).me ≡ y.me)
      (owner : (before rest : Places) (to : NodeRef) → final ≡ before ++ None ∷ rest → slice_get tos (length before) ≡ Some to → (x : PeerPart) × (slice_get s.peers to.owner ≡ Some x)) where
    -- ---- the syncs

    -- a part after the syncs of the first places
    abbrev pub after_syncs : Places → PeerPart → PeerPart
    after_syncs before x = over (sync_at stamp) 0 (zip tos before) (h x)

    syncs_keep : (before : Places) (y : PeerPart) → (after_syncs before y).me ≡ y.me
    syncs_keep before y = over_keeps (λ z. z.me) (sync_at stamp) (λ place to x. at_keeps (λ z. z.me) to.owner (λ z. synced z stamp) x refl) 0 (zip tos before) (h y) ∙ h_keeps y

    abbrev Synced : Places → Type 0
    Synced before = At (after_syncs before) (Goes (syncing sending stamp (accepted_from (length before) final)))

    sync_refused : (before rest : Places) (r : Reason) → final ≡ before ++ Some r ∷ rest → Synced (before ++ Some r ∷ []) → Synced before
    sync_refused before rest r all next =
        let to = place_to final before rest tos (Some r) (le_of_eq len) all in
        same_at (after_syncs (before ++ Some r ∷ [])) (after_syncs before) (Goes (syncing sending stamp (accepted_from (length before) final))) (λ y. over_none letter before to.0 to.1 (sync_at stamp) r (h y))
        (subst (λ k. At (after_syncs (before ++ Some r ∷ [])) (Goes (syncing sending stamp k))) (refused_from final before rest r all) next)

    sync_accepted : (before rest : Places) → final ≡ before ++ None ∷ rest → Synced (before ++ None ∷ []) → Synced before
    sync_accepted before rest all next =
        let to = place_to final before rest tos None (le_of_eq len) all in
        let x = owner before rest to.0 all to.1 in
        let owner_is : (node_of_place tos (length before)).owner ≡ to.0.owner = ap (λ n. n.owner) (get_or_from_slice_get tos (length before) to.0 no_ref to.1) in
        subst (λ k. At (after_syncs before) (Goes (syncing sending stamp k))) (sym (accepted_at final before rest all))
        (subst (λ b. At (after_syncs before) (Goes (cond b (Syncing sending stamp (length before)) (Committing sending stamp (accepted_from 0 final))))) (sym (is_place_at final before rest all))
        (goes o m p target s d c placed is_driver (Syncing sending stamp (length before)) (after_syncs before) (λ y. synced y stamp) (after_syncs (before ++ None ∷ []))
        to.0.owner x.0 _ (syncs_keep before) x.1 owner_is
        (ap (λ e. (e, synced (after_syncs before x.0) stamp)) (turned_so d c (Syncing sending stamp (length before)) (Goes (syncing sending stamp (accepted_from (length before + 1) final)))))
        (λ y. sym (over_one letter before to.0 to.1 (sync_at stamp) (h y)))
        (subst (λ k. At (after_syncs (before ++ None ∷ [])) (Goes (syncing sending stamp (accepted_from k final)))) (length-append before (None ∷ [])) next)))

    pub syncs_go : At (after_syncs final) (Goes (Committing sending stamp (accepted_from 0 final))) → At h (Goes (syncing sending stamp (accepted_from 0 final)))
    syncs_go commits =
        same_at (after_syncs []) h (Goes (syncing sending stamp (accepted_from 0 final))) (λ y. over_nothing (sync_at stamp) tos (h y))
        (places_back final Synced sync_refused sync_accepted
        (subst (λ b. At (after_syncs final) (Goes (cond b (Syncing sending stamp (accepted_from (length final) final)) (Committing sending stamp (accepted_from 0 final))))) (sym (none_left final)) commits)
        final [] refl)

  -- ---- the commits

  module _ (stamp : ℕ) (h : PeerPart → PeerPart) (h_keeps : (y : PeerPart) → (h y).me ≡ y.me)
      (slots : ℕ → List Slot)
      (owner : (before rest : Places) (to : NodeRef) → final ≡ before ++ None ∷ rest → slice_get tos (length before) ≡ Some to
      → (x : PeerPart) × (slice_get s.peers to.owner ≡ Some x)
      × (is_committed (over (commit_at d.me stamp slots) 0 (zip tos before) (h x)) d.me (length before) ≡ true)
      × (get_or sending.slots (length before) [] ≡ slots to.owner)) where
    -- a part after the commits of the first places
    abbrev pub after_commits : Places → PeerPart → PeerPart
    after_commits before x = over (commit_at d.me stamp slots) 0 (zip tos before) (h x)

    commits_keep : (before : Places) (y : PeerPart) → (after_commits before y).me ≡ y.me
    commits_keep before y = over_keeps (λ z. z.me) (commit_at d.me stamp slots) (λ place to x. at_keeps (λ z. z.me) to.owner (λ z. committed z d.me place stamp (slots to.owner)) x (committed_me x d.me place stamp (slots to.owner))) 0 (zip tos before) (h y) ∙ h_keeps y

    abbrev Committed : Places → Type 0
    Committed before = At (after_commits before) (Goes (Committing sending stamp (accepted_from (length before) final)))

    commit_refused : (before rest : Places) (r : Reason) → final ≡ before ++ Some r ∷ rest → Committed (before ++ Some r ∷ []) → Committed before
    commit_refused before rest r all next =
        let to = place_to final before rest tos (Some r) (le_of_eq len) all in
        same_at (after_commits (before ++ Some r ∷ [])) (after_commits before) (Goes (Committing sending stamp (accepted_from (length before) final))) (λ y. over_none letter before to.0 to.1 (commit_at d.me stamp slots) r (h y))
        (subst (λ k. At (after_commits (before ++ Some r ∷ [])) (Goes (Committing sending stamp k))) (refused_from final before rest r all) next)

    commit_accepted : (before rest : Places) → final ≡ before ++ None ∷ rest → Committed (before ++ None ∷ []) → Committed before
    commit_accepted before rest all next =
        let to = place_to final before rest tos None (le_of_eq len) all in
        let x = owner before rest to.0 all to.1 in
        let owner_is : (node_of_place tos (length before)).owner ≡ to.0.owner = ap (λ n. n.owner) (get_or_from_slice_get tos (length before) to.0 no_ref to.1) in
        subst (λ k. At (after_commits before) (Goes (Committing sending stamp k))) (sym (accepted_at final before rest all))
        (subst (λ b. WillEnd o m p target (midway s p (goes_by (not b) (Some (sent_answer sending stamp)) (sending_driver d c Starting) (cmd.Send c) (Committing sending stamp (length before))) (after_commits before))) (sym (is_place_at final before rest all))
        (goes o m p target s d c placed is_driver (Committing sending stamp (length before)) (after_commits before) (λ y. committed y d.me (length before) stamp (slots to.0.owner)) (after_commits (before ++ None ∷ []))
        to.0.owner x.0 _ (commits_keep before) x.1 owner_is
        (ap (λ b. (took (sending_driver d c (Committing sending stamp (length before))) (out.Commit b), committed (after_commits before x.0) d.me (length before) stamp (get_or sending.slots (length before) []))) x.2
        ∙ ap (λ sl. (turned (sending_driver d c (Committing sending stamp (length before))) (cmd.Send c) (Goes (Committing sending stamp (accepted_from (length before + 1) final))), committed (after_commits before x.0) d.me (length before) stamp sl)) x.3
        ∙ ap (λ e. (e, committed (after_commits before x.0) d.me (length before) stamp (slots to.0.owner))) (turned_so d c (Committing sending stamp (length before)) (Goes (Committing sending stamp (accepted_from (length before + 1) final)))))
        (λ y. sym (over_one letter before to.0 to.1 (commit_at d.me stamp slots) (h y)))
        (subst (λ k. At (after_commits (before ++ None ∷ [])) (Goes (Committing sending stamp (accepted_from k final)))) (length-append before (None ∷ [])) next)))

    -- the SEND ends with its answer
    pub commits_go : WillEnd o m p target (midway s p (ended (sending_driver d c Starting) (cmd.Send c) (sent_answer sending stamp)) (after_commits final)) → At h (Goes (Committing sending stamp (accepted_from 0 final)))
    commits_go last =
        same_at (after_commits []) h (Goes (Committing sending stamp (accepted_from 0 final))) (λ y. over_nothing (commit_at d.me stamp slots) tos (h y))
        (places_back final Committed commit_refused commit_accepted
        (subst (λ b. WillEnd o m p target (midway s p (goes_by (not b) (Some (sent_answer sending stamp)) (sending_driver d c Starting) (cmd.Send c) (Committing sending stamp (accepted_from (length final) final))) (after_commits final))) (sym (none_left final)) last)
        final [] refl)
