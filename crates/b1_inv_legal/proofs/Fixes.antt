-- Which answer an event fixes for a command that has none: a plain one, a receipt, a SEND's stamp, or a destruction's.
use Rattle.std.proofs.Common.{◌≡◌, ◌⊎◌, refl, inl, inr, ℕ, ◌+◌, max, Bool, true, false, cond, ◌&&◌, nat_lt, List, [], ◌∷◌, ◌++◌, drop, get_or, length, Option, Some, None, Ok, Err, Result}
use Rattle.std.specs.Prelude.{⊤}
use Rattle.b1_model.specs.declared.commands.Command.{Command}
use Rattle.b1_model.specs.declared.commands.Command.TheVariants as cmd
use Rattle.b1_model.specs.declared.commands.SendCmd.{SendCmd}
use Rattle.b1_model.specs.declared.naming.NodeRef.{NodeRef}
use Rattle.b1_model.specs.declared.naming.Opening.{Opening}
use Rattle.b1_model.specs.declared.answers.Answer.{Answer}
use Rattle.b1_model.specs.declared.answers.Answer.TheVariants as answer
use Rattle.b1_model.specs.declared.answers.Reason.{Reason}
use Rattle.b1_model.specs.declared.answers.Reason.TheVariants.{Unknown, Memory, Invalid}
use Rattle.b1_model.specs.declared.answers.Refused.{Refused}
use Rattle.b1_model.specs.declared.parts.Begun.{Begun}
use Rattle.b1_model.specs.declared.parts.Owed.{Owed}
use Rattle.b1_model.specs.declared.events.Action.TheVariants as act
use Rattle.b1_model.specs.declared.events.Destruction.{Destruction}
use Rattle.b1_model.specs.declared.events.OwedDrop.{OwedDrop}
use Rattle.b1_model.specs.declared.events.Outcome.TheVariants as out
use Rattle.b1_model.specs.declared.events.Phase.{Phase}
use Rattle.b1_model.specs.declared.events.Phase.TheVariants.{Starting, Staging, Unstaging, Attaching, Stamping, Syncing, Committing, Visiting, Dooming, SyncingNotices, CommittingOwn}
use Rattle.b1_model.specs.declared.events.Sending.{Sending}
use Rattle.b1_model.specs.Ledger.{stamp_of, got_key}
use Rattle.b1_model.specs.MachineParts.{PeerPart, DriverPart}
use Rattle.b1_model.specs.MachinePool.{is_received}
use Rattle.b1_model.specs.MachineSend.{send_refusal, final_stamp}
use Rattle.b1_model.specs.MachineReceive.{received, released}
use Rattle.b1_model.specs.MachineDriver.{accepted_from, is_place, attaching, with_slot, all_staged, staging, all_refused, memory_place, refused_at, unstaging, syncing, visiting, with_visit, syncing_notices, destroying, send_of, recv_answer, started, place_done, first_action, turn, Turn, Goes, Ends}
use Rattle.b1_model.specs.MachineTook.{answer_of, stamped_answer, sent_answer}
use Rattle.b1_model.specs.MachineEvents.{happens, begin_by, stage_by, destroy_by, begin_refusal, begin_serials, local_answer}
use Rattle.b1_inv_notices.proofs.Turns.{doing_in, opened, answered}

-- an answer without a stamp that is no receipt, release notices aside
abbrev pub IsPlain : Answer → Type 0
IsPlain got = (stamp_of got ≡ None) × (got_key got ≡ None)

-- the same, if there is an answer
abbrev pub IsPlainIf : Option Answer → Type 0
IsPlainIf None = ⊤
IsPlainIf (Some got) = IsPlain got

-- the answer that stands fixed after a turn
abbrev pub fixed_after : Command → Turn → Option Answer
fixed_after command (Goes phase) = answer_of command phase
fixed_after command (Ends got) = Some got

-- a receipt, or that there was none to take
abbrev pub IsTaken : List OwedDrop → Bool → PeerPart → Command → Option Answer → Type 0
IsTaken owed shut x command got = (owed ≡ []) × (shut ≡ false) × (first_action command ≡ act.Recv) × (got ≡ Some (recv_answer (received x)))

-- what an event at a peer may fix, by the phase before
abbrev pub MayFix : List OwedDrop → Bool → PeerPart → Command → Phase → Option Answer → Type 0
MayFix owed shut x command Starting got = IsPlainIf got ⊎ IsTaken owed shut x command got
MayFix owed shut x command (Stamping sending) got = IsPlainIf got ⊎ ((owed ≡ []) × (got ≡ Some (sent_answer sending (final_stamp x sending.collected))))
MayFix owed shut x command (Dooming destruction) got = IsPlainIf got ⊎ ((owed ≡ []) × (x.late ≡ []) × (got ≡ Some (stamped_answer command (final_stamp x destruction.collected))))
MayFix owed shut x command phase got = IsPlainIf got

-- ---- turns that fix a plain answer, or none

module _ (command : Command) where
  plain_attaching : (sending : Sending) (place slot : ℕ) → IsPlainIf (answer_of command (attaching sending place slot))
  plain_attaching sending place slot = by (nat_lt slot (length sending.begun.with)) (nat_lt 0 (length sending.begun.with) && is_place (accepted_from (place + 1) sending.places) sending.places) (accepted_from (place + 1) sending.places)
    where
      by : (b c : Bool) (next : ℕ) → IsPlainIf (answer_of command (cond b (Attaching sending place slot) (cond c (Attaching sending next 0) (Stamping sending))))
      by true c next = tt
      by false true next = tt
      by false false next = tt

  plain_refused : (places : List (Option Reason)) → IsPlain (all_refused places)
  plain_refused places = by (memory_place 0 places) (get_or places 0 None)
    where
      by : (memory : Option ℕ) (first : Option Reason) → IsPlain (elim memory [ Some place ↦ refused_at Memory (Some place) | None ↦ elim first [ None ↦ refused_at Invalid None | Some r ↦ refused_at r (Some 0) ] ])
      by (Some place) first = (refl, refl)
      by None None = (refl, refl)
      by None (Some r) = (refl, refl)

  plain_staging : (begun : Begun) (places : List (Option Reason)) (collected : ℕ) → IsPlainIf (fixed_after command (staging begun places collected))
  plain_staging begun places collected = by (nat_lt (length places) (length begun.to)) (is_place (accepted_from 0 places) places)
    where
      by : (b c : Bool) → IsPlainIf (fixed_after command (cond b (Goes (Staging begun places collected)) (cond c (Goes (attaching (all_staged begun places collected) (accepted_from 0 places) 0)) (Ends (all_refused places)))))
      by true c = tt
      by false true = plain_attaching (all_staged begun places collected) (accepted_from 0 places) 0
      by false false = plain_refused places

  plain_unstaging : (begun : Begun) (places : List (Option Reason)) (refused : Refused) (place : ℕ) → IsPlainIf (fixed_after command (unstaging begun places refused place))
  plain_unstaging begun places refused place = elim (is_place place places) as (λ b. IsPlainIf (fixed_after command (cond b (Goes (Unstaging begun places refused place)) (Ends (answer.Refused refused))))) [ true ↦ (refl, refl) | false ↦ (refl, refl) ]

  plain_place : (begun : Begun) (places : List (Option Reason)) (collected : ℕ) (got : Result ℕ Reason) → IsPlainIf (fixed_after command (place_done command begun places collected got))
  plain_place begun places collected (Ok clock) = plain_staging begun (places ++ None ∷ []) (max collected clock)
  plain_place begun places collected (Err r) = by (send_of command).go_on
    where
      by : (b : Bool) → IsPlainIf (fixed_after command (cond b (staging begun (places ++ Some r ∷ []) collected) (unstaging begun (places ++ Some r ∷ []) (record { reason = r; place = Some (length places) }) (accepted_from 0 (places ++ Some r ∷ [])))))
      by true = plain_staging begun (places ++ Some r ∷ []) collected
      by false = plain_unstaging begun (places ++ Some r ∷ []) (record { reason = r; place = Some (length places) }) (accepted_from 0 (places ++ Some r ∷ []))

  plain_visiting : (d : Destruction) (left : List ℕ) → IsPlainIf (answer_of command (visiting d left))
  plain_visiting d [] = tt
  plain_visiting d (peer ∷ rest) = tt

  plain_destroying : (doomed visit : List ℕ) → IsPlainIf (answer_of command (destroying doomed visit))
  plain_destroying [] visit = (refl, refl)
  plain_destroying (serial ∷ rest) visit = plain_visiting (record { doomed = serial ∷ rest; collected = 0; staged = [] }) visit

  syncing_fixes : (sending : Sending) (stamp place : ℕ) → answer_of command (syncing sending stamp place) ≡ Some (sent_answer sending stamp)
  syncing_fixes sending stamp place = elim (is_place place sending.places) as (λ b. answer_of command (cond b (Syncing sending stamp place) (Committing sending stamp (accepted_from 0 sending.places))) ≡ Some (sent_answer sending stamp)) [ true ↦ refl | false ↦ refl ]

  notices_fix : (d : Destruction) (stamp at : ℕ) → answer_of command (syncing_notices d stamp at) ≡ Some (stamped_answer command stamp)
  notices_fix d stamp at = elim (nat_lt at (length d.staged)) as (λ b. answer_of command (cond b (SyncingNotices d stamp at) (CommittingOwn d stamp)) ≡ Some (stamped_answer command stamp)) [ true ↦ refl | false ↦ refl ]

-- ---- events

plain_local : (shut : Bool) (command : Command) (x : PeerPart) → IsPlain (local_answer shut command x)
plain_local true command x = (refl, refl)
plain_local false (cmd.SliceRelease offset) x = elim (is_received offset x.slices) as (λ b. IsPlain (cond b answer.Done (refused_at (Unknown offset) None))) [ true ↦ (refl, refl) | false ↦ (refl, refl) ]
plain_local false cmd.Query x = (refl, refl)
plain_local false (cmd.Limit limits) x = (refl, refl)
plain_local false command x = (refl, refl)

module _ (command : Command) where
  plain_begin : (r : Option Reason) (memory : Bool) (c : SendCmd) (x : PeerPart) → IsPlainIf (fixed_after command (started command (begin_by r memory c x).0))
  plain_begin (Some r) memory c x = (refl, refl)
  plain_begin None true c x = (refl, refl)
  plain_begin None false c x = tt

  plain_destroy : (r : Option Reason) (doomed : List ℕ) (x : PeerPart) → IsPlainIf (fixed_after command (started command (destroy_by r doomed x).0))
  plain_destroy (Some r) doomed x = (refl, refl)
  plain_destroy None doomed x = plain_destroying command doomed _

  plain_release : (got : Result Owed Reason) → IsPlainIf (fixed_after command (started command (out.Release got)))
  plain_release (Ok owed) = (refl, refl)
  plain_release (Err r) = (refl, refl)

  plain_stage : (me : ℕ) (begun : Begun) (places : List (Option Reason)) (collected : ℕ) (r : Option Reason) (memory : Bool) (origin user place serial : ℕ) (payload : List ℕ) (nodes : List NodeRef) (x : PeerPart)
      → IsPlainIf (fixed_after command (turn me command (Staging begun places collected) (stage_by r memory origin user place serial payload nodes x).0))
  plain_stage me begun places collected (Some r) memory origin user place serial payload nodes x = plain_place command begun places collected (Err r)
  plain_stage me begun places collected None true origin user place serial payload nodes x = plain_place command begun places collected (Err Memory)
  plain_stage me begun places collected None false origin user place serial payload nodes x = plain_place command begun places collected (Ok x.clock)

  doom_fixes : (me : ℕ) (shut : Bool) (d : Destruction) (x : PeerPart) (late : List ℕ) → x.late ≡ late
      → MayFix [] shut x command (Dooming d) (fixed_after command (turn me command (Dooming d) (out.StampDestroy (elim late [ [] ↦ Ok (final_stamp x d.collected) | peer ∷ rest ↦ Err (peer ∷ rest) ]))))
  doom_fixes me shut d x [] is = inr (refl, is, notices_fix command d (final_stamp x d.collected) 0)
  doom_fixes me shut d x (peer ∷ rest) is = inl (plain_visiting command d (peer ∷ rest))

module _ (o : Opening) (memory : Bool) (d : DriverPart) (x : PeerPart) where
  first_fixes : (command : Command) (b : Bool) → d.shut ≡ b → MayFix [] d.shut x command Starting (fixed_after command (started command (happens o memory (opened d command Starting []) (doing_in command Starting) (cond b act.Local (first_action command)) x).0))
  first_fixes command true is = inl (plain_local d.shut command x)
  first_fixes cmd.Disconnect false is = inl (plain_destroy cmd.Disconnect (begin_refusal cmd.Disconnect x) (begin_serials cmd.Disconnect x) x)
  first_fixes cmd.Query false is = inl (plain_local d.shut cmd.Query x)
  first_fixes (cmd.Reset limits) false is = inl (plain_destroy (cmd.Reset limits) (begin_refusal (cmd.Reset limits) x) (begin_serials (cmd.Reset limits) x) x)
  first_fixes (cmd.Limit limits) false is = inl (plain_local d.shut (cmd.Limit limits) x)
  first_fixes (cmd.Release number) false is = inl (plain_release (cmd.Release number) (released x number))
  first_fixes (cmd.Destroy numbers) false is = inl (plain_destroy (cmd.Destroy numbers) (begin_refusal (cmd.Destroy numbers) x) (begin_serials (cmd.Destroy numbers) x) x)
  first_fixes (cmd.SliceRelease offset) false is = inl (plain_local d.shut (cmd.SliceRelease offset) x)
  first_fixes (cmd.Send c) false is = inl (plain_begin (cmd.Send c) (send_refusal x c) memory c x)
  first_fixes cmd.Recv false is = inr (refl, is, refl, refl)
  first_fixes cmd.Await false is = inr (refl, is, refl, refl)

  drop_fixes : (owed : List OwedDrop) (command : Command) (phase : Phase) → answer_of command phase ≡ None → MayFix owed d.shut x command phase (fixed_after command (turn d.me command phase out.DropRefs))
  drop_fixes owed command Starting none = inl tt
  drop_fixes owed command (Staging begun places collected) none = tt
  drop_fixes owed command (Attaching sending place slot) none = tt
  drop_fixes owed command (Stamping sending) none = inl tt
  drop_fixes owed command (Visiting destruction left) none = tt
  drop_fixes owed command (Dooming destruction) none = inl tt
  drop_fixes owed command phase none = absurd (cc none)

  -- an event of a command without a fixed answer
  pub event_fixes : (command : Command) (phase : Phase) (owed : List OwedDrop) → answer_of command phase ≡ None → MayFix owed d.shut x command phase (fixed_after command (turn d.me command phase (answered o memory d command phase owed x).0))
  event_fixes command phase (one ∷ rest) none = drop_fixes (one ∷ rest) command phase none
  event_fixes command Starting [] none = first_fixes command d.shut refl
  event_fixes command (Staging begun places collected) [] none = plain_stage command d.me begun places collected _ memory _ _ _ _ _ _ x
  event_fixes command (Attaching sending place slot) [] none = plain_attaching command (with_slot sending place slot _) place (slot + 1)
  event_fixes command (Stamping sending) [] none = inr (refl, syncing_fixes command sending (final_stamp x sending.collected) (accepted_from 0 sending.places))
  event_fixes command (Visiting destruction left) [] none = plain_visiting command (with_visit destruction (get_or left 0 d.me) _) (drop 1 left)
  event_fixes command (Dooming destruction) [] none = doom_fixes command d.me d.shut destruction x x.late refl
  event_fixes command phase [] none = absurd (cc none)
