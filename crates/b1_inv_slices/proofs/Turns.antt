-- What an answer adds to the calls that a driver has flushed for: but for a command's first event and a flush, refusals, sends and destructions alone.
use Rattle.std.proofs.Common.{◌≡◌, refl, ap, ◌∙◌, ℕ, ◌+◌, max, Bool, true, false, cond, ◌&&◌, nat_lt, List, [], ◌∷◌, ◌++◌, drop, get_or, length, Option, Some, None, Ok, Err}
use Rattle.b1_model.specs.declared.commands.Command.{Command}
use Rattle.b1_model.specs.declared.answers.Answer.{Answer}
use Rattle.b1_model.specs.declared.answers.Answer.TheVariants as answer
use Rattle.b1_model.specs.declared.answers.Reason.{Reason}
use Rattle.b1_model.specs.declared.answers.Reason.TheVariants.{Memory, Invalid}
use Rattle.b1_model.specs.declared.answers.Refused.{Refused}
use Rattle.b1_model.specs.declared.parts.Begun.{Begun}
use Rattle.b1_model.specs.declared.events.Destruction.{Destruction}
use Rattle.b1_model.specs.declared.events.Outcome.{Outcome}
use Rattle.b1_model.specs.declared.events.Outcome.TheVariants as out
use Rattle.b1_model.specs.declared.events.Phase.{Phase}
use Rattle.b1_model.specs.declared.events.Phase.TheVariants.{Starting, Staging, Unstaging, Attaching, Stamping, Syncing, Committing, Visiting, Dooming, SyncingNotices, CommittingOwn, CommittingNotices, Flushing}
use Rattle.b1_model.specs.declared.events.Sending.{Sending}
use Rattle.b1_model.specs.declared.records.Call.{Call}
use Rattle.b1_model.specs.MachineDriver.{accepted_from, is_place, attaching, with_slot, all_staged, staging, all_refused, memory_place, refused_at, unstaging, syncing, visiting, with_visit, syncing_notices, committing_notices, destroying, is_flushing, send_of, turn, Goes, Ends}
use Rattle.b1_model.specs.MachineTook.{call_of}
use Rattle.b1_inv_destroys.proofs.FirstNode.{left_of, left_turn, NoFlush}
use Rattle.b1_inv_slices.proofs.Calls.{is_neutral}

abbrev pub is_starting : Phase → Bool
is_starting Starting = true
is_starting phase = false

-- a measure of the calls, to which neutral answers add nothing
module _ {X : Type 0} (H : List Call → X) (command : Command) (neutral : (got : Answer) → is_neutral got ≡ true → H (call_of command got) ≡ H []) where
  same_attaching : (sending : Sending) (place slot : ℕ) → H (left_of command (attaching sending place slot)) ≡ H []
  same_attaching sending place slot = by (nat_lt slot (length sending.begun.with)) (nat_lt 0 (length sending.begun.with) && is_place (accepted_from (place + 1) sending.places) sending.places) (accepted_from (place + 1) sending.places)
    where
      by : (b c : Bool) (next : ℕ) → H (left_of command (cond b (Attaching sending place slot) (cond c (Attaching sending next 0) (Stamping sending)))) ≡ H []
      by true c next = refl
      by false true next = refl
      by false false next = refl

  same_refused : (places : List (Option Reason)) → H (call_of command (all_refused places)) ≡ H []
  same_refused places = by (memory_place 0 places) (get_or places 0 None)
    where
      by : (memory : Option ℕ) (first : Option Reason) → H (call_of command (elim memory [ Some place ↦ refused_at Memory (Some place) | None ↦ elim first [ None ↦ refused_at Invalid None | Some r ↦ refused_at r (Some 0) ] ])) ≡ H []
      by (Some place) first = neutral (refused_at Memory (Some place)) refl
      by None None = neutral (refused_at Invalid None) refl
      by None (Some r) = neutral (refused_at r (Some 0)) refl

  same_staging : (begun : Begun) (places : List (Option Reason)) (collected : ℕ) → H (left_turn command (staging begun places collected)) ≡ H []
  same_staging begun places collected = by (nat_lt (length places) (length begun.to)) (is_place (accepted_from 0 places) places)
    where
      by : (b c : Bool) → H (left_turn command (cond b (Goes (Staging begun places collected)) (cond c (Goes (attaching (all_staged begun places collected) (accepted_from 0 places) 0)) (Ends (all_refused places))))) ≡ H []
      by true c = refl
      by false true = same_attaching (all_staged begun places collected) (accepted_from 0 places) 0
      by false false = same_refused places

  same_unstaging : (begun : Begun) (places : List (Option Reason)) (refused : Refused) (place : ℕ) → left_turn command (unstaging begun places refused place) ≡ call_of command (answer.Refused refused)
  same_unstaging begun places refused place = elim (is_place place places) as (λ b. left_turn command (cond b (Goes (Unstaging begun places refused place)) (Ends (answer.Refused refused))) ≡ call_of command (answer.Refused refused)) [ true ↦ refl | false ↦ refl ]

  same_place : (r : Reason) (begun : Begun) (places : List (Option Reason)) (collected : ℕ) (go_on : Bool)
      → H (left_turn command (cond go_on (staging begun (places ++ Some r ∷ []) collected) (unstaging begun (places ++ Some r ∷ []) (record { reason = r; place = Some (length places) }) (accepted_from 0 (places ++ Some r ∷ []))))) ≡ H []
  same_place r begun places collected true = same_staging begun (places ++ Some r ∷ []) collected
  same_place r begun places collected false =
      ap H (same_unstaging begun (places ++ Some r ∷ []) (record { reason = r; place = Some (length places) }) (accepted_from 0 (places ++ Some r ∷ [])))
      ∙ neutral (answer.Refused (record { reason = r; place = Some (length places) })) refl

  abbrev sent : Sending → ℕ → List Call
  sent sending stamp = call_of command (answer.Sent (record { stamp = stamp; places = sending.places }))

  same_syncing : (sending : Sending) (stamp place : ℕ) → left_of command (syncing sending stamp place) ≡ sent sending stamp
  same_syncing sending stamp place = elim (is_place place sending.places) as (λ b. left_of command (cond b (Syncing sending stamp place) (Committing sending stamp (accepted_from 0 sending.places))) ≡ sent sending stamp) [ true ↦ refl | false ↦ refl ]

  same_visiting : (d : Destruction) (left : List ℕ) → left_of command (visiting d left) ≡ []
  same_visiting d [] = refl
  same_visiting d (peer ∷ rest) = refl

  pub same_destroying : (doomed visit : List ℕ) → left_of command (destroying doomed visit) ≡ []
  same_destroying [] visit = refl
  same_destroying (serial ∷ rest) visit = same_visiting (record { doomed = serial ∷ rest; collected = 0; staged = [] }) visit

  -- what is left of a destruction with its stamp
  abbrev stamped : Bool → ℕ → List Call
  stamped b stamp = cond b [] (call_of command (cond b (answer.Reset (Some stamp)) (answer.Destroyed stamp)))

  same_stamped : (b : Bool) (stamp : ℕ) → H (stamped b stamp) ≡ H []
  same_stamped true stamp = refl
  same_stamped false stamp = neutral (answer.Destroyed stamp) refl

  same_notices : (d : Destruction) (stamp at : ℕ) → left_of command (syncing_notices d stamp at) ≡ stamped (is_flushing command) stamp
  same_notices d stamp at = elim (nat_lt at (length d.staged)) as (λ b. left_of command (cond b (SyncingNotices d stamp at) (CommittingOwn d stamp)) ≡ stamped (is_flushing command) stamp) [ true ↦ refl | false ↦ refl ]

  same_commits : (d : Destruction) (stamp at : ℕ) → left_turn command (committing_notices command d stamp at) ≡ stamped (is_flushing command) stamp
  same_commits d stamp at = by (nat_lt at (length d.staged)) (is_flushing command) refl
    where
      by : (b c : Bool) → is_flushing command ≡ c → left_turn command (cond b (Goes (CommittingNotices d stamp at)) (cond c (Goes (Flushing (Some stamp))) (Ends (answer.Destroyed stamp)))) ≡ stamped c stamp
      by true c is = ap (λ z. stamped z stamp) is
      by false true is = refl
      by false false is = refl

  -- an event that is neither a command's first one nor a flush
  pub turn_same : (me : ℕ) (phase : Phase) (outcome : Outcome) → is_starting phase ≡ false → NoFlush phase outcome → H (left_turn command (turn me command phase outcome)) ≡ H (left_of command phase)
  turn_same me Starting outcome late none = absurd (cc late)
  turn_same me (Staging begun places collected) (out.Stage (Ok clock)) late none = same_staging begun (places ++ None ∷ []) (max collected clock)
  turn_same me (Staging begun places collected) (out.Stage (Err r)) late none = same_place r begun places collected (send_of command).go_on
  turn_same me (Unstaging begun places refused place) out.Unstage late none = ap H (same_unstaging begun places refused (accepted_from (place + 1) places))
  turn_same me (Attaching sending place slot) (out.Attach got) late none = same_attaching (with_slot sending place slot got) place (slot + 1)
  turn_same me (Stamping sending) (out.Stamp stamp) late none = ap H (same_syncing sending stamp (accepted_from 0 sending.places)) ∙ neutral (answer.Sent (record { stamp = stamp; places = sending.places })) refl
  turn_same me (Syncing sending stamp place) out.Sync late none = ap H (same_syncing sending stamp (accepted_from (place + 1) sending.places))
  turn_same me (Committing sending stamp place) (out.Commit found) late none = refl
  turn_same me (Visiting d left) (out.Visit got) late none = ap H (same_visiting (with_visit d (get_or left 0 me) got) (drop 1 left))
  turn_same me (Dooming d) (out.StampDestroy (Ok stamp)) late none = ap H (same_notices d stamp 0) ∙ same_stamped (is_flushing command) stamp
  turn_same me (Dooming d) (out.StampDestroy (Err lates)) late none = ap H (same_visiting d lates)
  turn_same me (SyncingNotices d stamp at) out.Sync late none = ap H (same_notices d stamp (at + 1))
  turn_same me (CommittingOwn d stamp) out.CommitNotices late none = ap H (same_commits d stamp 0)
  turn_same me (CommittingNotices d stamp at) out.CommitNotices late none = ap H (same_commits d stamp (at + 1))
  turn_same me (Flushing stamp) (out.Flush dead) late none = absurd none
  turn_same me phase outcome late none = refl
