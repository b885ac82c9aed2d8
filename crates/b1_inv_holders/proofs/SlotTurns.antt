-- A slot that is filled so after an answer was so before, or the answer filled it; no less is collected then.
use Rattle.std.proofs.Common.{◌≡◌, ◌≢◌, ◌⊎◌, refl, sym, ap, subst, ◌∙◌, inl, inr, ℕ, zero, suc, ◌+◌, ◌<◌, ◌≤◌, max, Bool, true, false, cond, ◌&&◌, nat_lt, List, [], ◌∷◌, ◌++◌, drop, map, set, length, get_or, Option, Some, None, Ok, Err}
use Rattle.std.specs.Prelude.{slice_get}
use Rattle.std.proofs.lemmas.Bool.{cases_eq, cases_lt}
use Rattle.std.proofs.lemmas.List.{length-set, get_or-set_same, get_or-set_other, get_or_past}
use Rattle.std.proofs.lemmas.Option.{same_Some}
use native.Mathlib.Omega.{arith}
use Rattle.b1_model.specs.declared.commands.Command.{Command}
use Rattle.b1_model.specs.declared.naming.NodeRef.{NodeRef}
use Rattle.b1_model.specs.declared.answers.Answer.TheVariants as answer
use Rattle.b1_model.specs.declared.answers.Reason.{Reason}
use Rattle.b1_model.specs.declared.answers.Refused.{Refused}
use Rattle.b1_model.specs.declared.parts.Attach.{Attach}
use Rattle.b1_model.specs.declared.parts.Attach.TheVariants as attach
use Rattle.b1_model.specs.declared.parts.Begun.{Begun}
use Rattle.b1_model.specs.declared.parts.Slot.{Slot}
use Rattle.b1_model.specs.declared.parts.Slot.TheVariants as slot
use Rattle.b1_model.specs.declared.events.Destruction.{Destruction}
use Rattle.b1_model.specs.declared.events.Doing.{Doing}
use Rattle.b1_model.specs.declared.events.Outcome.{Outcome}
use Rattle.b1_model.specs.declared.events.Outcome.TheVariants as out
use Rattle.b1_model.specs.declared.events.Phase.{Phase}
use Rattle.b1_model.specs.declared.events.Phase.TheVariants.{Starting, Staging, Unstaging, Attaching, Stamping, Syncing, Committing, Dropping, Reaping, Visiting, Dooming, SyncingNotices, CommittingOwn, CommittingNotices, Flushing}
use Rattle.b1_model.specs.declared.events.Sending.{Sending}
use Rattle.b1_model.specs.MachineDriver.{accepted_from, is_place, slot_of, collected_with, attaching, with_slot, all_staged, staging, all_refused, unstaging, syncing, visiting, with_visit, syncing_notices, committing_notices, destroying, is_flushing, send_of, turn, Goes, Ends}
use Rattle.b1_model.specs.MachineEvents.{begun_of, slots_at, collected_of}
use Rattle.b1_step.proofs.Lists.{set_cases}
use Rattle.b1_inv_notices.proofs.Turns.{doing_in, OnTurn}

-- a slot is filled so
abbrev pub IsSlot : Slot → List Slot → ℕ → Type 0
IsSlot v slots j = slice_get slots j ≡ Some v

-- an attach collects no less
collects : (collected : ℕ) (got : Attach) → collected ≤ collected_with collected got
collects collected attach.Counted = omega arith
collects collected attach.Own = omega arith
collects collected (attach.Void stamp) = omega arith

module _ (v : Slot) (other : slot.Unattached ≢ v) where
  -- ---- slots

  nothing_there : (nodes : List NodeRef) (j : ℕ) → IsSlot v (map (λ node. slot.Unattached) nodes) j → ⊥
  nothing_there [] j is = absurd (cc is)
  nothing_there (node ∷ rest) zero is = other (same_Some slot.Unattached v is)
  nothing_there (node ∷ rest) (suc j) is = nothing_there rest j is

  pub unattached : (nodes : List NodeRef) (j : ℕ) → IsSlot v (map (λ node. slot.Unattached) nodes) j → ⊥
  unattached nodes j is = nothing_there nodes j is

  none_staged_there : (to with : List NodeRef) (at j : ℕ) → IsSlot v (get_or (map (λ node. map (λ other. slot.Unattached) with) to) at []) j → ⊥
  none_staged_there [] with at j is = absurd (cc is)
  none_staged_there (node ∷ rest) with zero j is = nothing_there with j is
  none_staged_there (node ∷ rest) with (suc at) j is = none_staged_there rest with at j is

  -- a slot that is filled so after one was filled was so before, or is the one
  set_there : (slots : List (List Slot)) (place handle : ℕ) (filled : Slot) (at j : ℕ) → IsSlot v (get_or (set slots place (set (get_or slots place []) handle filled)) at []) j → IsSlot v (get_or slots at []) j ⊎ ((at ≡ place) × (j ≡ handle) × (filled ≡ v))
  set_there slots place handle filled at j is = elim (cases_eq at place) [ inr apart ↦ inl (ap (λ l. slice_get l j) (sym (get_or-set_other slots place at new [] apart)) ∙ is) | inl here ↦ at_place here (cases_lt place (length slots)) ]
    where
      new : List Slot
      new = set (get_or slots place []) handle filled

      at_place : at ≡ place → (place < length slots) ⊎ (length slots ≤ place) → IsSlot v (get_or slots at []) j ⊎ ((at ≡ place) × (j ≡ handle) × (filled ≡ v))
      at_place here (inl within) =
          let there : IsSlot v new j = ap (λ l. slice_get l j) (sym (get_or-set_same slots place new [] within) ∙ ap (λ n. get_or (set slots place new) n []) (sym here)) ∙ is in
          elim (set_cases (get_or slots place []) handle j filled v there) [
            | inl k ↦ inr (here, k.0, sym k.1)
            | inr k ↦ inl (ap (λ n. slice_get (get_or slots n []) j) here ∙ k.1)
          ]
      at_place here (inr past) =
          let none : get_or (set slots place new) at [] ≡ [] = get_or_past (set slots place new) at [] (let same = length-set slots place new in omega (arith, same, past, here)) in
          absurd (nothing_there [] j (ap (λ l. slice_get l j) (sym none) ∙ is))

  -- ---- an answer

  -- an answer fills the slot of a handle at a place, and what it brings is collected
  abbrev pub NewSlot : Phase → Outcome → ℕ → ℕ → ℕ → Type 0
  NewSlot (Attaching sending place handle) (out.Attach got) at j collected = (at ≡ place) × (j ≡ handle) × (slot_of got ≡ v) × (collected_with sending.collected got ≤ collected)
  NewSlot phase outcome at j collected = ⊥

  -- where a slot is filled so after an answer
  abbrev pub SlotFrom : Phase → Outcome → ℕ → ℕ → Begun → List Slot → ℕ → Type 0
  SlotFrom before outcome at j begun slots collected = IsSlot v slots j → (begun ≡ begun_of before) × (collected_of before ≤ collected) × (IsSlot v (slots_at before at) j ⊎ NewSlot before outcome at j collected)

  module _ (command : Command) (before : Phase) (outcome : Outcome) (at j : ℕ) where
    abbrev After : Phase → Type 0
    After phase = SlotFrom before outcome at j (begun_of phase) (slots_at phase at) (collected_of phase)

    abbrev pub SlotIn : Option Doing → Type 0
    SlotIn doing = (one : Doing) → doing ≡ Some one → After one.phase

    in_phase : (phase : Phase) → After phase → SlotIn (Some (doing_in command phase))
    in_phase phase h one is = let same : doing_in command phase ≡ one = cc is in subst {A = Doing} (λ z. After z.phase) same h

    pub in_none : SlotIn None
    in_none one is = absurd (cc is)

    -- nothing is filled in a phase without slots
    no_slots : {begun : Begun} {collected : ℕ} → SlotFrom before outcome at j begun [] collected
    no_slots is = absurd (cc is)

    abbrev OnSending : Sending → Type 0
    OnSending sending = SlotFrom before outcome at j sending.begun (get_or sending.slots at []) sending.collected

    in_attaching : (sending : Sending) (place handle : ℕ) → OnSending sending → SlotIn (Some (doing_in command (attaching sending place handle)))
    in_attaching sending place handle h = by (nat_lt handle (length sending.begun.with)) (nat_lt 0 (length sending.begun.with) && is_place (accepted_from (place + 1) sending.places) sending.places) (accepted_from (place + 1) sending.places)
      where
        by : (b c : Bool) (next : ℕ) → SlotIn (Some (doing_in command (cond b (Attaching sending place handle) (cond c (Attaching sending next 0) (Stamping sending)))))
        by true c next = in_phase (Attaching sending place handle) h
        by false true next = in_phase (Attaching sending next 0) h
        by false false next = in_phase (Stamping sending) h

    in_staging : (begun : Begun) (places : List (Option Reason)) (collected : ℕ) → OnTurn command SlotIn (staging begun places collected)
    in_staging begun places collected = by (nat_lt (length places) (length begun.to)) (is_place (accepted_from 0 places) places)
      where
        by : (b c : Bool) → OnTurn command SlotIn (cond b (Goes (Staging begun places collected)) (cond c (Goes (attaching (all_staged begun places collected) (accepted_from 0 places) 0)) (Ends (all_refused places))))
        by true c = in_phase (Staging begun places collected) no_slots
        by false true = in_attaching (all_staged begun places collected) (accepted_from 0 places) 0 (λ is. absurd (none_staged_there begun.to begun.with at j is))
        by false false = in_none

    in_unstaging : (begun : Begun) (places : List (Option Reason)) (refused : Refused) (place : ℕ) → OnTurn command SlotIn (unstaging begun places refused place)
    in_unstaging begun places refused place = elim (is_place place places) as (λ b. OnTurn command SlotIn (cond b (Goes (Unstaging begun places refused place)) (Ends (answer.Refused refused)))) [
      | true ↦ in_phase (Unstaging begun places refused place) no_slots
      | false ↦ in_none
    ]

    in_refused : (r : Reason) (begun : Begun) (places : List (Option Reason)) (collected : ℕ) (go_on : Bool)
        → OnTurn command SlotIn (cond go_on (staging begun (places ++ Some r ∷ []) collected) (unstaging begun (places ++ Some r ∷ []) (record { reason = r; place = Some (length places) }) (accepted_from 0 (places ++ Some r ∷ []))))
    in_refused r begun places collected true = in_staging begun (places ++ Some r ∷ []) collected
    in_refused r begun places collected false = in_unstaging begun (places ++ Some r ∷ []) (record { reason = r; place = Some (length places) }) (accepted_from 0 (places ++ Some r ∷ []))

    in_syncing : (sending : Sending) (stamp place : ℕ) → OnSending sending → SlotIn (Some (doing_in command (syncing sending stamp place)))
    in_syncing sending stamp place h = elim (is_place place sending.places) as (λ b. SlotIn (Some (doing_in command (cond b (Syncing sending stamp place) (Committing sending stamp (accepted_from 0 sending.places)))))) [
      | true ↦ in_phase (Syncing sending stamp place) h
      | false ↦ in_phase (Committing sending stamp (accepted_from 0 sending.places)) h
    ]

    in_visiting : (d : Destruction) (left : List ℕ) → SlotIn (Some (doing_in command (visiting d left)))
    in_visiting d [] = in_phase (Dooming d) no_slots
    in_visiting d (peer ∷ rest) = in_phase (Visiting d (peer ∷ rest)) no_slots

    in_destroying : (doomed visit : List ℕ) → SlotIn (Some (doing_in command (destroying doomed visit)))
    in_destroying [] visit = in_phase (Flushing None) no_slots
    in_destroying (serial ∷ rest) visit = in_visiting (record { doomed = serial ∷ rest; collected = 0; staged = [] }) visit

    in_notices : (d : Destruction) (stamp here : ℕ) → SlotIn (Some (doing_in command (syncing_notices d stamp here)))
    in_notices d stamp here = elim (nat_lt here (length d.staged)) as (λ b. SlotIn (Some (doing_in command (cond b (SyncingNotices d stamp here) (CommittingOwn d stamp))))) [
      | true ↦ in_phase (SyncingNotices d stamp here) no_slots
      | false ↦ in_phase (CommittingOwn d stamp) no_slots
    ]

    in_commits : (d : Destruction) (stamp here : ℕ) → OnTurn command SlotIn (committing_notices command d stamp here)
    in_commits d stamp here = by (nat_lt here (length d.staged)) (is_flushing command)
      where
        by : (b c : Bool) → OnTurn command SlotIn (cond b (Goes (CommittingNotices d stamp here)) (cond c (Goes (Flushing (Some stamp))) (Ends (answer.Destroyed stamp))))
        by true c = in_phase (CommittingNotices d stamp here) no_slots
        by false true = in_phase (Flushing (Some stamp)) no_slots
        by false false = in_none

  module _ (command : Command) (at j : ℕ) where
    filled : (sending : Sending) (place handle : ℕ) (got : Attach) → OnSending command (Attaching sending place handle) (out.Attach got) at j (with_slot sending place handle got)
    filled sending place handle got is =
        let more = collects sending.collected got in
        elim (set_there sending.slots place handle (slot_of got) at j is) [ inl old ↦ (refl, more, inl old) | inr new ↦ (refl, more, inr (new.0, new.1, new.2, omega arith)) ]

    from_start : (me : ℕ) (outcome : Outcome) → OnTurn command (SlotIn command Starting outcome at j) (turn me command Starting outcome)
    from_start me (out.Begin (Ok begun)) = in_phase command Starting (out.Begin (Ok begun)) at j (Staging begun [] 0) (no_slots command Starting (out.Begin (Ok begun)) at j)
    from_start me (out.Begin (Err r)) = in_none command Starting (out.Begin (Err r)) at j
    from_start me (out.Recv got dead) = in_phase command Starting (out.Recv got dead) at j (Reaping _) (no_slots command Starting (out.Recv got dead) at j)
    from_start me (out.Release (Ok owed)) = in_phase command Starting (out.Release (Ok owed)) at j Dropping (no_slots command Starting (out.Release (Ok owed)) at j)
    from_start me (out.Release (Err r)) = in_none command Starting (out.Release (Err r)) at j
    from_start me (out.BeginDestroy (Ok visit) doomed) = in_destroying command Starting (out.BeginDestroy (Ok visit) doomed) at j doomed visit
    from_start me (out.BeginDestroy (Err r) doomed) = in_none command Starting (out.BeginDestroy (Err r) doomed) at j
    from_start me (out.Local got) = in_none command Starting (out.Local got) at j
    from_start me outcome = in_phase command Starting outcome at j Starting (no_slots command Starting outcome at j)

    pub slot_turn : (me : ℕ) (phase : Phase) (outcome : Outcome) → OnTurn command (SlotIn command phase outcome at j) (turn me command phase outcome)
    slot_turn me Starting outcome = from_start me outcome
    slot_turn me (Staging begun places collected) (out.Stage (Ok clock)) = in_staging command (Staging begun places collected) (out.Stage (Ok clock)) at j begun (places ++ None ∷ []) (max collected clock)
    slot_turn me (Staging begun places collected) (out.Stage (Err r)) = in_refused command (Staging begun places collected) (out.Stage (Err r)) at j r begun places collected (send_of command).go_on
    slot_turn me (Unstaging begun places refused place) out.Unstage = in_unstaging command (Unstaging begun places refused place) out.Unstage at j begun places refused (accepted_from (place + 1) places)
    slot_turn me (Attaching sending place handle) (out.Attach got) = in_attaching command (Attaching sending place handle) (out.Attach got) at j (with_slot sending place handle got) place (handle + 1) (filled sending place handle got)
    slot_turn me (Stamping sending) (out.Stamp stamp) = in_syncing command (Stamping sending) (out.Stamp stamp) at j sending stamp (accepted_from 0 sending.places) (λ is. (refl, omega arith, inl is))
    slot_turn me (Syncing sending stamp place) out.Sync = in_syncing command (Syncing sending stamp place) out.Sync at j sending stamp (accepted_from (place + 1) sending.places) (λ is. (refl, omega arith, inl is))
    slot_turn me (Committing sending stamp place) (out.Commit found) =
        in_phase command (Committing sending stamp place) (out.Commit found) at j (Committing sending stamp (accepted_from (place + 1) sending.places)) (λ is. (refl, omega arith, inl is))
    slot_turn me (Visiting d left) (out.Visit got) = in_visiting command (Visiting d left) (out.Visit got) at j (with_visit d (get_or left 0 me) got) (drop 1 left)
    slot_turn me (Dooming d) (out.StampDestroy (Ok stamp)) = in_notices command (Dooming d) (out.StampDestroy (Ok stamp)) at j d stamp 0
    slot_turn me (Dooming d) (out.StampDestroy (Err late)) = in_visiting command (Dooming d) (out.StampDestroy (Err late)) at j d late
    slot_turn me (SyncingNotices d stamp here) out.Sync = in_notices command (SyncingNotices d stamp here) out.Sync at j d stamp (here + 1)
    slot_turn me (CommittingOwn d stamp) out.CommitNotices = in_commits command (CommittingOwn d stamp) out.CommitNotices at j d stamp 0
    slot_turn me (CommittingNotices d stamp here) out.CommitNotices = in_commits command (CommittingNotices d stamp here) out.CommitNotices at j d stamp (here + 1)
    slot_turn me (Flushing stamp) (out.Flush dead) = in_phase command (Flushing stamp) (out.Flush dead) at j (Reaping (answer.Reset stamp)) (no_slots command (Flushing stamp) (out.Flush dead) at j)
    slot_turn me phase outcome = in_phase command phase outcome at j phase (λ is. (refl, omega arith, inl is))
