-- What a call does to its peer's names and epoch, by its answer, and what of it an open command has done, by its phase.
use Rattle.std.proofs.Common.{◌≡◌, refl, sym, ◌∙◌, ℕ, suc, ◌+◌, max, Bool, true, false, cond, ◌&&◌, nat_lt, List, [], ◌∷◌, ◌++◌, length, get_or, drop, Option, Some, None, Ok, Err, Result}
use Rattle.std.specs.Prelude.{⊤, is_some}
use Rattle.std.proofs.lemmas.Bool.{lt-ltb}
use native.Mathlib.Omega.{arith}
use Rattle.b1_model.specs.declared.commands.Command.{Command}
use Rattle.b1_model.specs.declared.commands.Command.TheVariants as cmd
use Rattle.b1_model.specs.declared.commands.SendCmd.{SendCmd}
use Rattle.b1_model.specs.declared.naming.NodeRef.{NodeRef}
use Rattle.b1_model.specs.declared.naming.Opening.{Opening}
use Rattle.b1_model.specs.declared.answers.Answer.{Answer}
use Rattle.b1_model.specs.declared.answers.Answer.TheVariants as answer
use Rattle.b1_model.specs.declared.answers.Front.{Front}
use Rattle.b1_model.specs.declared.answers.Receipt.{Receipt}
use Rattle.b1_model.specs.declared.answers.Reason.{Reason}
use Rattle.b1_model.specs.declared.answers.Reason.TheVariants.{Unknown, Memory, Invalid}
use Rattle.b1_model.specs.declared.answers.Refused.{Refused}
use Rattle.b1_model.specs.declared.parts.Begun.{Begun}
use Rattle.b1_model.specs.declared.events.Action.TheVariants as act
use Rattle.b1_model.specs.declared.events.Destruction.{Destruction}
use Rattle.b1_model.specs.declared.events.OwedDrop.{OwedDrop}
use Rattle.b1_model.specs.declared.events.Outcome.{Outcome}
use Rattle.b1_model.specs.declared.events.Outcome.TheVariants as out
use Rattle.b1_model.specs.declared.events.Phase.{Phase}
use Rattle.b1_model.specs.declared.events.Phase.TheVariants.{Starting, Staging, Unstaging, Attaching, Stamping, Syncing, Committing, Reaping, Visiting, Dooming, SyncingNotices, CommittingOwn, CommittingNotices, Flushing}
use Rattle.b1_model.specs.declared.events.Sending.{Sending}
use Rattle.b1_model.specs.MachineParts.{PeerPart, DriverPart}
use Rattle.b1_model.specs.MachinePool.{is_received}
use Rattle.b1_model.specs.MachineSend.{send_refusal}
use Rattle.b1_model.specs.MachineDriver.{accepted_from, is_place, attaching, with_slot, all_staged, staging, all_refused, memory_place, refused_at, unstaging, syncing, visiting, with_visit, syncing_notices, committing_notices, destroying, is_flushing, send_of, recv_answer, started, turn, Turn, Goes, Ends, first_action}
use Rattle.b1_model.specs.MachineEvents.{happens, begin_by, stage_by, destroy_by, begin_refusal, begin_serials, local_answer}
use Rattle.b1_inv_notices.proofs.Turns.{doing_in, opened, answered}

-- nothing; it makes the carried numbers' nodes; it flushes
pub data Kind : Type 0 where
  Quiet : Kind
  Carries : Kind
  Flushes : Kind

abbrev pub answer_kind : Answer → Kind
answer_kind (answer.Sent b) = Carries
answer_kind (answer.Refused b) = cond (is_some b.place) Carries Quiet
answer_kind (answer.Reset stamp) = Flushes
answer_kind got = Quiet

-- what of it was done in a phase
abbrev pub phase_kind : Phase → Kind
phase_kind (Staging begun places collected) = Carries
phase_kind (Unstaging begun places refused place) = answer_kind (answer.Refused refused)
phase_kind (Attaching sending place slot) = Carries
phase_kind (Stamping sending) = Carries
phase_kind (Syncing sending stamp place) = Carries
phase_kind (Committing sending stamp place) = Carries
phase_kind (Reaping got) = answer_kind got
phase_kind phase = Quiet

abbrev pub TurnKind : Kind → Turn → Type 0
TurnKind k (Goes phase) = phase_kind phase ≡ k
TurnKind k (Ends got) = answer_kind got ≡ k

-- what is done after an event's answer
abbrev pub kind_after : Kind → Outcome → Kind
kind_after k (out.Begin (Ok begun)) = Carries
kind_after k (out.Flush dead) = Flushes
kind_after k outcome = k

-- an answer is one of its phase
abbrev pub Fits : Phase → Outcome → Type 0
Fits Starting (out.Begin got) = ⊤
Fits Starting (out.Flush dead) = ⊥
Fits Starting (out.Local got) = answer_kind got ≡ Quiet
Fits Starting outcome = ⊤
Fits (Flushing stamp) (out.Flush dead) = ⊤
Fits phase (out.Begin (Ok begun)) = ⊥
Fits phase (out.Flush dead) = ⊥
Fits phase outcome = ⊤

-- ---- turns

kind_attaching : (sending : Sending) (place slot : ℕ) → phase_kind (attaching sending place slot) ≡ Carries
kind_attaching sending place slot = by (nat_lt slot (length sending.begun.with)) (nat_lt 0 (length sending.begun.with) && is_place (accepted_from (place + 1) sending.places) sending.places) (accepted_from (place + 1) sending.places)
  where
    by : (b c : Bool) (next : ℕ) → phase_kind (cond b (Attaching sending place slot) (cond c (Attaching sending next 0) (Stamping sending))) ≡ Carries
    by true c next = refl
    by false true next = refl
    by false false next = refl

kind_refused : (places : List (Option Reason)) → (r : Reason) → get_or places 0 None ≡ Some r → answer_kind (all_refused places) ≡ Carries
kind_refused places r first = by (memory_place 0 places) (get_or places 0 None) first
  where
    by : (memory : Option ℕ) (one : Option Reason) → one ≡ Some r → answer_kind (elim memory [ Some place ↦ refused_at Memory (Some place) | None ↦ elim one [ None ↦ refused_at Invalid None | Some why ↦ refused_at why (Some 0) ] ]) ≡ Carries
    by (Some place) one is = refl
    by None None is = absurd (cc is)
    by None (Some why) is = refl

kind_none : (first : Option Reason) (rest : List (Option Reason)) → is_place (accepted_from 0 (first ∷ rest)) (first ∷ rest) ≡ false → answer_kind (all_refused (first ∷ rest)) ≡ Carries
kind_none None rest is =
    let low : nat_lt 0 (suc (length rest)) ≡ true = lt-ltb 0 (suc (length rest)) (omega arith) in
    let high : nat_lt 0 (suc (length rest)) ≡ false = is in
    let both : true ≡ false = sym low ∙ high in absurd (cc both)
kind_none (Some r) rest is = kind_refused (Some r ∷ rest) r refl

kind_staging : (begun : Begun) (first : Option Reason) (rest : List (Option Reason)) (collected : ℕ) → TurnKind Carries (staging begun (first ∷ rest) collected)
kind_staging begun first rest collected = by (nat_lt (length (first ∷ rest)) (length begun.to)) (is_place (accepted_from 0 (first ∷ rest)) (first ∷ rest)) refl
  where
    by : (b c : Bool) → is_place (accepted_from 0 (first ∷ rest)) (first ∷ rest) ≡ c → TurnKind Carries (cond b (Goes (Staging begun (first ∷ rest) collected)) (cond c (Goes (attaching (all_staged begun (first ∷ rest) collected) (accepted_from 0 (first ∷ rest)) 0)) (Ends (all_refused (first ∷ rest)))))
    by true c is = refl
    by false true is = kind_attaching (all_staged begun (first ∷ rest) collected) (accepted_from 0 (first ∷ rest)) 0
    by false false is = kind_none first rest is

kind_one_more : (begun : Begun) (places : List (Option Reason)) (one : Option Reason) (collected : ℕ) → TurnKind Carries (staging begun (places ++ one ∷ []) collected)
kind_one_more begun [] one collected = kind_staging begun one [] collected
kind_one_more begun (first ∷ rest) one collected = kind_staging begun first (rest ++ one ∷ []) collected

kind_unstaging : (begun : Begun) (places : List (Option Reason)) (refused : Refused) (place : ℕ) → TurnKind (answer_kind (answer.Refused refused)) (unstaging begun places refused place)
kind_unstaging begun places refused place = by (is_place place places)
  where
    by : (b : Bool) → TurnKind (answer_kind (answer.Refused refused)) (cond b (Goes (Unstaging begun places refused place)) (Ends (answer.Refused refused)))
    by true = refl
    by false = refl

kind_place : (begun : Begun) (places : List (Option Reason)) (collected : ℕ) (r : Reason) (b : Bool) → TurnKind Carries (cond b (staging begun (places ++ Some r ∷ []) collected) (unstaging begun (places ++ Some r ∷ []) (record { reason = r; place = Some (length places) }) (accepted_from 0 (places ++ Some r ∷ []))))
kind_place begun places collected r true = kind_one_more begun places (Some r) collected
kind_place begun places collected r false = kind_unstaging begun (places ++ Some r ∷ []) (record { reason = r; place = Some (length places) }) (accepted_from 0 (places ++ Some r ∷ []))

kind_syncing : (sending : Sending) (stamp place : ℕ) → phase_kind (syncing sending stamp place) ≡ Carries
kind_syncing sending stamp place = by (is_place place sending.places)
  where
    by : (b : Bool) → phase_kind (cond b (Syncing sending stamp place) (Committing sending stamp (accepted_from 0 sending.places))) ≡ Carries
    by true = refl
    by false = refl

kind_visiting : (d : Destruction) (left : List ℕ) → phase_kind (visiting d left) ≡ Quiet
kind_visiting d [] = refl
kind_visiting d (peer ∷ rest) = refl

kind_notices : (d : Destruction) (stamp at : ℕ) → phase_kind (syncing_notices d stamp at) ≡ Quiet
kind_notices d stamp at = by (nat_lt at (length d.staged))
  where
    by : (b : Bool) → phase_kind (cond b (SyncingNotices d stamp at) (CommittingOwn d stamp)) ≡ Quiet
    by true = refl
    by false = refl

kind_commits : (command : Command) (d : Destruction) (stamp at : ℕ) → TurnKind Quiet (committing_notices command d stamp at)
kind_commits command d stamp at = by (nat_lt at (length d.staged)) (is_flushing command)
  where
    by : (b c : Bool) → TurnKind Quiet (cond b (Goes (CommittingNotices d stamp at)) (cond c (Goes (Flushing (Some stamp))) (Ends (answer.Destroyed stamp))))
    by true c = refl
    by false true = refl
    by false false = refl

kind_destroying : (doomed visit : List ℕ) → phase_kind (destroying doomed visit) ≡ Quiet
kind_destroying [] visit = refl
kind_destroying (serial ∷ rest) visit = kind_visiting (record { doomed = serial ∷ rest; collected = 0; staged = [] }) visit

kind_received : (front : Result Receipt Front) (removed : ℕ) → answer_kind (recv_answer (record { front = front; removed = removed })) ≡ Quiet
kind_received (Ok receipt) removed = refl
kind_received (Err front) removed = refl

kind_started : (command : Command) (outcome : Outcome) → Fits Starting outcome → TurnKind (kind_after Quiet outcome) (started command outcome)
kind_started command (out.Begin (Ok begun)) fits = refl
kind_started command (out.Begin (Err r)) fits = refl
kind_started command (out.Recv got dead) fits = kind_received got.front got.removed
kind_started command (out.Release (Ok owed)) fits = refl
kind_started command (out.Release (Err r)) fits = refl
kind_started command (out.BeginDestroy (Ok visit) doomed) fits = kind_destroying doomed visit
kind_started command (out.BeginDestroy (Err r) doomed) fits = refl
kind_started command (out.Local got) fits = fits
kind_started command (out.Flush dead) fits = absurd fits
kind_started command outcome fits = refl

kind_stays : (phase : Phase) (outcome : Outcome) → Fits phase outcome → (Fits phase outcome → phase_kind phase ≡ kind_after (phase_kind phase) outcome) → phase_kind phase ≡ kind_after (phase_kind phase) outcome
kind_stays phase outcome fits same = same fits

pub turn_kind : (me : ℕ) (command : Command) (phase : Phase) (outcome : Outcome) → Fits phase outcome → TurnKind (kind_after (phase_kind phase) outcome) (turn me command phase outcome)
turn_kind me command Starting outcome fits = kind_started command outcome fits
turn_kind me command (Staging begun places collected) (out.Stage (Ok clock)) fits = kind_one_more begun places None (max collected clock)
turn_kind me command (Staging begun places collected) (out.Stage (Err r)) fits = kind_place begun places collected r (send_of command).go_on
turn_kind me command (Unstaging begun places refused place) out.Unstage fits = kind_unstaging begun places refused (accepted_from (place + 1) places)
turn_kind me command (Attaching sending place slot) (out.Attach got) fits = kind_attaching (with_slot sending place slot got) place (slot + 1)
turn_kind me command (Stamping sending) (out.Stamp stamp) fits = kind_syncing sending stamp (accepted_from 0 sending.places)
turn_kind me command (Syncing sending stamp place) out.Sync fits = kind_syncing sending stamp (accepted_from (place + 1) sending.places)
turn_kind me command (Committing sending stamp place) (out.Commit found) fits = refl
turn_kind me command (Visiting d left) (out.Visit got) fits = kind_visiting (with_visit d (get_or left 0 me) got) (drop 1 left)
turn_kind me command (Dooming d) (out.StampDestroy (Ok stamp)) fits = kind_notices d stamp 0
turn_kind me command (Dooming d) (out.StampDestroy (Err late)) fits = kind_visiting d late
turn_kind me command (SyncingNotices d stamp at) out.Sync fits = kind_notices d stamp (at + 1)
turn_kind me command (CommittingOwn d stamp) out.CommitNotices fits = kind_commits command d stamp 0
turn_kind me command (CommittingNotices d stamp at) out.CommitNotices fits = kind_commits command d stamp (at + 1)
turn_kind me command (Flushing stamp) (out.Flush dead) fits = refl
turn_kind me command phase (out.Begin (Ok begun)) fits = absurd fits
turn_kind me command phase (out.Flush dead) fits = absurd fits
turn_kind me command phase outcome fits = refl

-- ---- an event's answer is one of its phase

fits_begin : (r : Option Reason) (memory : Bool) (c : SendCmd) (x : PeerPart) → Fits Starting (begin_by r memory c x).0
fits_begin (Some r) memory c x = tt
fits_begin None true c x = tt
fits_begin None false c x = tt

fits_stage : (begun : Begun) (places : List (Option Reason)) (collected : ℕ) (r : Option Reason) (memory : Bool) (origin user place serial : ℕ) (payload : List ℕ) (nodes : List NodeRef) (x : PeerPart) → Fits (Staging begun places collected) (stage_by r memory origin user place serial payload nodes x).0
fits_stage begun places collected (Some r) memory origin user place serial payload nodes x = tt
fits_stage begun places collected None true origin user place serial payload nodes x = tt
fits_stage begun places collected None false origin user place serial payload nodes x = tt

fits_destroy : (r : Option Reason) (doomed : List ℕ) (x : PeerPart) → Fits Starting (destroy_by r doomed x).0
fits_destroy (Some r) doomed x = tt
fits_destroy None doomed x = tt

quiet_local : (shut : Bool) (command : Command) (x : PeerPart) → answer_kind (local_answer shut command x) ≡ Quiet
quiet_local true command x = refl
quiet_local false (cmd.SliceRelease offset) x = by (is_received offset x.slices)
  where
    by : (b : Bool) → answer_kind (cond b answer.Done (refused_at (Unknown offset) None)) ≡ Quiet
    by true = refl
    by false = refl
quiet_local false cmd.Query x = refl
quiet_local false (cmd.Limit limits) x = refl
quiet_local false command x = refl

fits_first : (o : Opening) (memory : Bool) (d : DriverPart) (command : Command) (x : PeerPart) (shut : Bool) → Fits Starting (happens o memory (opened d command Starting []) (doing_in command Starting) (cond shut act.Local (first_action command)) x).0
fits_first o memory d command x true = quiet_local d.shut command x
fits_first o memory d cmd.Disconnect x false = fits_destroy (begin_refusal cmd.Disconnect x) (begin_serials cmd.Disconnect x) x
fits_first o memory d cmd.Query x false = quiet_local d.shut cmd.Query x
fits_first o memory d (cmd.Reset limits) x false = fits_destroy (begin_refusal (cmd.Reset limits) x) (begin_serials (cmd.Reset limits) x) x
fits_first o memory d (cmd.Limit limits) x false = quiet_local d.shut (cmd.Limit limits) x
fits_first o memory d (cmd.Release number) x false = tt
fits_first o memory d (cmd.Destroy numbers) x false = fits_destroy (begin_refusal (cmd.Destroy numbers) x) (begin_serials (cmd.Destroy numbers) x) x
fits_first o memory d (cmd.SliceRelease offset) x false = quiet_local d.shut (cmd.SliceRelease offset) x
fits_first o memory d (cmd.Send c) x false = fits_begin (send_refusal x c) memory c x
fits_first o memory d cmd.Recv x false = tt
fits_first o memory d cmd.Await x false = tt

fits_drop : (phase : Phase) → Fits phase out.DropRefs
fits_drop Starting = tt
fits_drop (Flushing stamp) = tt
fits_drop phase = tt

pub fits : (o : Opening) (memory : Bool) (d : DriverPart) (command : Command) (phase : Phase) (owed : List OwedDrop) (x : PeerPart) → Fits phase (answered o memory d command phase owed x).0
fits o memory d command phase (one ∷ rest) x = fits_drop phase
fits o memory d command Starting [] x = fits_first o memory d command x d.shut
fits o memory d command (Staging begun places collected) [] x = fits_stage begun places collected _ memory _ _ _ _ _ _ x
fits o memory d command phase [] x = tt
