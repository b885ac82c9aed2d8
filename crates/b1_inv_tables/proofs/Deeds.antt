-- What each event of a driver makes of the table behind its calls: it stays, but for what a RECV took, for a release, and for the answer of a reset, which empties it.
use Rattle.std.proofs.Common.{◌≡◌, ◌⊎◌, refl, sym, ap, subst, ◌∙◌, inl, inr, ℕ, ◌+◌, max, Bool, true, false, cond, ◌&&◌, nat_lt, List, [], ◌∷◌, ◌++◌, drop, length, get_or, Option, Some, None, Ok, Err, Result}
use Rattle.b1_model.specs.declared.naming.Key.{Key}
use Rattle.b1_model.specs.declared.naming.Opening.{Opening}
use Rattle.b1_model.specs.declared.naming.NodeRef.{NodeRef}
use Rattle.b1_model.specs.declared.commands.Command.{Command}
use Rattle.b1_model.specs.declared.answers.Answer.{Answer}
use Rattle.b1_model.specs.declared.answers.Answer.TheVariants as answer
use Rattle.b1_model.specs.declared.answers.Reason.{Reason}
use Rattle.b1_model.specs.declared.answers.Reason.TheVariants.{Memory, Invalid}
use Rattle.b1_model.specs.declared.answers.Refused.{Refused}
use Rattle.b1_model.specs.declared.parts.Begun.{Begun}
use Rattle.b1_model.specs.declared.events.Action.{Action}
use Rattle.b1_model.specs.declared.events.Action.TheVariants as act
use Rattle.b1_model.specs.declared.events.Destruction.{Destruction}
use Rattle.b1_model.specs.declared.events.OwedDrop.{OwedDrop}
use Rattle.b1_model.specs.declared.events.Outcome.TheVariants as out
use Rattle.b1_model.specs.declared.events.Phase.{Phase}
use Rattle.b1_model.specs.declared.events.Phase.TheVariants.{Starting, Staging, Unstaging, Attaching, Stamping, Syncing, Committing, Dropping, Reaping, Visiting, Dooming, SyncingNotices, CommittingOwn, CommittingNotices, Flushing}
use Rattle.b1_model.specs.declared.events.Sending.{Sending}
use Rattle.b1_model.specs.Names.{Node}
use Rattle.b1_model.specs.Ledger.{Table, lowered, changed}
use Rattle.b1_model.specs.MachineParts.{PeerPart, DriverPart}
use Rattle.b1_model.specs.MachineReceive.{received, released}
use Rattle.b1_model.specs.MachineDriver.{accepted_from, is_place, attaching, all_staged, staging, all_refused, memory_place, refused_at, unstaging, syncing, visiting, syncing_notices, committing_notices, is_flushing, send_of, turn, Turn, Goes, Ends, phase_action, place_done}
use Rattle.b1_model.specs.MachineTook.{as_call, stamped_answer}
use Rattle.b1_model.specs.MachineEvents.{happens, stage_by, number_of}
use Rattle.b1_model.specs.MachineDestroy.{doom_answer}
use Rattle.b1_ledger.specs.Growth.{is_quiet}
use Rattle.b1_ledger.proofs.Steps.{quiet_table}
use Rattle.b1_inv_record.specs.Epochs.{awaits_flush}
use Rattle.b1_inv_notices.proofs.Turns.{doing_in, opened}
use Rattle.b1_inv_refs.proofs.Owing.{drop_stays}
use Rattle.b1_inv_tables.proofs.Receives.{table_after}
use Rattle.b1_inv_tables.proofs.Values.{phase_table, turn_table, turn_gap}

-- an event that leaves numbers, and how often each node is held
abbrev pub is_plain : Action → Bool
is_plain act.Recv = false
is_plain act.Release = false
is_plain act.Flush = false
is_plain action = true

-- the lines are gone
abbrev pub emptied : Table → Table
emptied t = record { lines = []; given = t.given }

module _ (look : Key → List (Option Node)) (w : Table) (command : Command) where
  -- the table stays, outside of a gap
  abbrev pub IsStill : Turn → Type 0
  IsStill to = (turn_table look command to w ≡ w) × (turn_gap command to ≡ false)

  -- a quiet answer leaves the table
  pub quiet_ends : (got : Answer) → is_quiet (as_call command) got ≡ true → IsStill (Ends got)
  quiet_ends got is = (quiet_table look (as_call command) got w is, refl)

  -- a refusal
  pub refused_still : (r : Reason) (place : Option ℕ) → IsStill (Ends (refused_at r place))
  refused_still r place = quiet_ends (refused_at r place) refl

  -- a SEND attaches on
  still_attaching : (sending : Sending) (place slot : ℕ) → IsStill (Goes (attaching sending place slot))
  still_attaching sending place slot = by (nat_lt slot (length sending.begun.with)) (nat_lt 0 (length sending.begun.with) && is_place (accepted_from (place + 1) sending.places) sending.places) (accepted_from (place + 1) sending.places)
    where
      by : (b c : Bool) (next : ℕ) → IsStill (Goes (cond b (Attaching sending place slot) (cond c (Attaching sending next 0) (Stamping sending))))
      by true c next = (refl, refl)
      by false true next = (refl, refl)
      by false false next = (refl, refl)

  -- a SEND without accepted places is refused
  still_all_refused : (places : List (Option Reason)) → IsStill (Ends (all_refused places))
  still_all_refused places = by (memory_place 0 places) (get_or places 0 None)
    where
      by : (memory : Option ℕ) (one : Option Reason) → IsStill (Ends (elim memory [ Some place ↦ refused_at Memory (Some place) | None ↦ elim one [ None ↦ refused_at Invalid None | Some why ↦ refused_at why (Some 0) ] ]))
      by (Some place) one = refused_still Memory (Some place)
      by None None = refused_still Invalid None
      by None (Some why) = refused_still why (Some 0)

  -- a place was done
  still_staging : (begun : Begun) (places : List (Option Reason)) (collected : ℕ) → IsStill (staging begun places collected)
  still_staging begun places collected = by (nat_lt (length places) (length begun.to)) (is_place (accepted_from 0 places) places)
    where
      by : (b c : Bool) → IsStill (cond b (Goes (Staging begun places collected)) (cond c (Goes (attaching (all_staged begun places collected) (accepted_from 0 places) 0)) (Ends (all_refused places))))
      by true c = (refl, refl)
      by false true = still_attaching (all_staged begun places collected) (accepted_from 0 places) 0
      by false false = still_all_refused places

  -- a SEND takes back
  refused_goes : (begun : Begun) (places : List (Option Reason)) (refused : Refused) (place : ℕ) → IsStill (Goes (Unstaging begun places refused place))
  refused_goes begun places refused place = (quiet_table look (as_call command) (answer.Refused refused) w refl, refl)

  -- it takes back from a place on
  still_unstaging : (begun : Begun) (places : List (Option Reason)) (refused : Refused) (place : ℕ) → IsStill (unstaging begun places refused place)
  still_unstaging begun places refused place = by (is_place place places)
    where
      by : (b : Bool) → IsStill (cond b (Goes (Unstaging begun places refused place)) (Ends (answer.Refused refused)))
      by true = refused_goes begun places refused place
      by false = quiet_ends (answer.Refused refused) refl

  -- a destination answered
  still_place : (begun : Begun) (places : List (Option Reason)) (collected : ℕ) (got : Result ℕ Reason) → IsStill (place_done command begun places collected got)
  still_place begun places collected (Ok clock) = still_staging begun (places ++ None ∷ []) (max collected clock)
  still_place begun places collected (Err r) = by (send_of command).go_on
    where
      by : (b : Bool) → IsStill (cond b (staging begun (places ++ Some r ∷ []) collected) (unstaging begun (places ++ Some r ∷ []) (record { reason = r; place = Some (length places) }) (accepted_from 0 (places ++ Some r ∷ []))))
      by true = still_staging begun (places ++ Some r ∷ []) collected
      by false = still_unstaging begun (places ++ Some r ∷ []) (record { reason = r; place = Some (length places) }) (accepted_from 0 (places ++ Some r ∷ []))

  -- a SEND commits
  committing_still : (sending : Sending) (stamp place : ℕ) → IsStill (Goes (Committing sending stamp place))
  committing_still sending stamp place = (quiet_table look (as_call command) (answer.Sent (record { stamp = stamp; places = sending.places })) w refl, refl)

  -- a SEND syncs
  syncing_still : (sending : Sending) (stamp place : ℕ) → IsStill (Goes (Syncing sending stamp place))
  syncing_still sending stamp place = (quiet_table look (as_call command) (answer.Sent (record { stamp = stamp; places = sending.places })) w refl, refl)

  -- it syncs from a place on
  still_syncing : (sending : Sending) (stamp place : ℕ) → IsStill (Goes (syncing sending stamp place))
  still_syncing sending stamp place = by (is_place place sending.places)
    where
      by : (b : Bool) → IsStill (Goes (cond b (Syncing sending stamp place) (Committing sending stamp (accepted_from 0 sending.places))))
      by true = syncing_still sending stamp place
      by false = committing_still sending stamp (accepted_from 0 sending.places)

  -- a destruction visits on
  pub still_visiting : (d : Destruction) (left : List ℕ) → IsStill (Goes (visiting d left))
  still_visiting d [] = (refl, refl)
  still_visiting d (peer ∷ rest) = (refl, refl)

  -- a destruction with its stamp: the table is that behind its answer, and a reset is in its gap
  abbrev stamped_table : ℕ → Table
  stamped_table stamp = changed look (as_call command) (stamped_answer command stamp) w

  -- a destruction with its stamp goes on
  abbrev pub IsStamped : ℕ → Turn → Type 0
  IsStamped stamp to = (turn_table look command to w ≡ stamped_table stamp) × (turn_gap command to ≡ is_flushing command)

  -- it syncs from a place on
  stamped_notices : (d : Destruction) (stamp at : ℕ) → IsStamped stamp (Goes (syncing_notices d stamp at))
  stamped_notices d stamp at = by (nat_lt at (length d.staged))
    where
      by : (b : Bool) → IsStamped stamp (Goes (cond b (SyncingNotices d stamp at) (CommittingOwn d stamp)))
      by true = (refl, refl)
      by false = (refl, refl)

  -- it commits from a place on
  stamped_commits : (d : Destruction) (stamp at : ℕ) → IsStamped stamp (committing_notices command d stamp at)
  stamped_commits d stamp at = by (nat_lt at (length d.staged)) (is_flushing command) refl
    where
      by : (b c : Bool) → is_flushing command ≡ c → IsStamped stamp (cond b (Goes (CommittingNotices d stamp at)) (cond c (Goes (Flushing (Some stamp))) (Ends (answer.Destroyed stamp))))
      by true c is = (refl, refl)
      by false true is = (ap (λ f. changed look (as_call command) (cond f (answer.Reset (Some stamp)) (answer.Destroyed stamp)) w) (sym is), sym is)
      by false false is = (ap (λ f. changed look (as_call command) (cond f (answer.Reset (Some stamp)) (answer.Destroyed stamp)) w) (sym is), sym is)

  -- ---- the deeds

  module _ (o : Opening) (memory : Bool) (d : DriverPart) (x : PeerPart) where
    -- where the command stands behind an event
    abbrev pub turn_of : Phase → List OwedDrop → Action → Turn
    turn_of phase owed action = turn d.me command phase (happens o memory (opened d command phase owed) (doing_in command phase) action x).0

    -- the table stays, and the gap
    pub record Stays (phase : Phase) (owed : List OwedDrop) (action : Action) : Type 0 where
      pub table : turn_table look command (turn_of phase owed action) w ≡ phase_table look command phase w
      pub gap : turn_gap command (turn_of phase owed action) ≡ awaits_flush command phase
      pub plain : is_plain action ≡ true

    -- the answer of a reset empties the table, and its gap begins
    pub record Empties (phase : Phase) (owed : List OwedDrop) (action : Action) : Type 0 where
      pub table : turn_table look command (turn_of phase owed action) w ≡ emptied (phase_table look command phase w)
      pub gap : turn_gap command (turn_of phase owed action) ≡ true
      pub plain : is_plain action ≡ true

    -- a RECV
    pub record Receives (phase : Phase) (owed : List OwedDrop) (action : Action) : Type 0 where
      pub event : action ≡ act.Recv
      pub table : turn_table look command (turn_of phase owed action) w ≡ table_after look (received x).front (phase_table look command phase w)
      pub gap : awaits_flush command phase ≡ false

    -- a release of a number
    pub record Releases (phase : Phase) (owed : List OwedDrop) (action : Action) : Type 0 where
      pub number : ℕ
      pub names : number_of command ≡ number
      pub event : action ≡ act.Release
      pub table : turn_table look command (turn_of phase owed action) w ≡ elim (released x number) [ Ok one ↦ record { lines = lowered number (phase_table look command phase w).lines; given = (phase_table look command phase w).given } | Err r ↦ phase_table look command phase w ]
      pub gap : awaits_flush command phase ≡ false

    -- a flush ends the gap
    pub record Flushes (phase : Phase) (owed : List OwedDrop) (action : Action) : Type 0 where
      pub event : action ≡ act.Flush
      pub table : turn_table look command (turn_of phase owed action) w ≡ phase_table look command phase w
      pub gap : awaits_flush command phase ≡ true

    -- one of these
    abbrev pub Deed : Phase → List OwedDrop → Action → Type 0
    Deed phase owed action = (Stays phase owed action ⊎ Empties phase owed action) ⊎ (Receives phase owed action ⊎ (Releases phase owed action ⊎ Flushes phase owed action))

    -- in phases without a fixed answer
    pub stays_open : (phase : Phase) (owed : List OwedDrop) (action : Action) → phase_table look command phase w ≡ w → awaits_flush command phase ≡ false → is_plain action ≡ true → IsStill (turn_of phase owed action) → Deed phase owed action
    stays_open phase owed action none out_of plain still = inl (inl (record { table = still.0 ∙ sym none; gap = still.1 ∙ sym out_of; plain = plain }))

    -- in phases of a destruction with its stamp
    stays_stamped : (phase : Phase) (owed : List OwedDrop) (action : Action) (stamp : ℕ) → phase_table look command phase w ≡ stamped_table stamp → awaits_flush command phase ≡ is_flushing command → is_plain action ≡ true → IsStamped stamp (turn_of phase owed action) → Deed phase owed action
    stays_stamped phase owed action stamp same gap plain stamped = inl (inl (record { table = stamped.0 ∙ sym same; gap = stamped.1 ∙ sym gap; plain = plain }))

    -- a drop
    pub dropped : (phase : Phase) (one : OwedDrop) (rest : List OwedDrop) → Deed phase (one ∷ rest) (act.DropRefs one.node.owner one.node.serial one.holder one.amount one.clock)
    dropped phase one rest = inl (inl (record { table = ap (λ to. turn_table look command to w) (drop_stays d.me command phase); gap = ap (turn_gap command) (drop_stays d.me command phase); plain = refl }))

    -- ---- a destruction gets its stamp

    -- a reset's stamp
    stamp_empties : (dest : Destruction) → is_flushing command ≡ true → (stamp : ℕ) → (to : Turn) → turn_of (Dooming dest) [] act.StampDestroy ≡ to → IsStamped stamp to → Deed (Dooming dest) [] act.StampDestroy
    stamp_empties dest flushing stamp to at stamped = inl (inr (record {
      table = ap (λ z. turn_table look command z w) at ∙ stamped.0 ∙ ap (λ f. changed look (as_call command) (cond f (answer.Reset (Some stamp)) (answer.Destroyed stamp)) w) flushing;
      gap = ap (turn_gap command) at ∙ stamped.1 ∙ flushing;
      plain = refl;
    }))

    -- the stamp of another destruction
    stamp_stays : (dest : Destruction) → is_flushing command ≡ false → (stamp : ℕ) → (to : Turn) → turn_of (Dooming dest) [] act.StampDestroy ≡ to → IsStamped stamp to → Deed (Dooming dest) [] act.StampDestroy
    stamp_stays dest not_flushing stamp to at stamped = inl (inl (record {
      table = ap (λ z. turn_table look command z w) at ∙ stamped.0 ∙ ap (λ f. changed look (as_call command) (cond f (answer.Reset (Some stamp)) (answer.Destroyed stamp)) w) not_flushing ∙ quiet_table look (as_call command) (answer.Destroyed stamp) w refl;
      gap = ap (turn_gap command) at ∙ stamped.1 ∙ not_flushing;
      plain = refl;
    }))

    -- a stamp
    stamp_deed : (dest : Destruction) (stamp : ℕ) → turn_of (Dooming dest) [] act.StampDestroy ≡ Goes (syncing_notices dest stamp 0) → Deed (Dooming dest) [] act.StampDestroy
    stamp_deed dest stamp at = by (is_flushing command) refl
      where
        by : (b : Bool) → is_flushing command ≡ b → Deed (Dooming dest) [] act.StampDestroy
        by true is = stamp_empties dest is stamp (Goes (syncing_notices dest stamp 0)) at (stamped_notices dest stamp 0)
        by false is = stamp_stays dest is stamp (Goes (syncing_notices dest stamp 0)) at (stamped_notices dest stamp 0)

    -- a stamp, or holders that came late
    dooms : (dest : Destruction) → Deed (Dooming dest) [] act.StampDestroy
    dooms dest = by (doom_answer x dest.collected) refl
      where
        by : (got : Result ℕ (List ℕ)) → doom_answer x dest.collected ≡ got → Deed (Dooming dest) [] act.StampDestroy
        by (Ok stamp) is = stamp_deed dest stamp (ap (λ g. turn d.me command (Dooming dest) (out.StampDestroy g)) is)
        by (Err late) is = stays_open (Dooming dest) [] act.StampDestroy refl refl refl (subst IsStill (sym (ap (λ g. turn d.me command (Dooming dest) (out.StampDestroy g)) is)) (still_visiting dest late))

    -- a stage
    stages : (begun : Begun) (places : List (Option Reason)) (collected : ℕ) (r : Option Reason) (user place serial : ℕ) (payload : List ℕ) (nodes : List NodeRef) → IsStill (turn d.me command (Staging begun places collected) (stage_by r memory d.me user place serial payload nodes x).0)
    stages begun places collected (Some r) user place serial payload nodes = still_place begun places collected (Err r)
    stages begun places collected None user place serial payload nodes = by memory
      where
        by : (b : Bool) → IsStill (turn d.me command (Staging begun places collected) (stage_by None b d.me user place serial payload nodes x).0)
        by true = still_place begun places collected (Err Memory)
        by false = still_place begun places collected (Ok x.clock)

    -- of each phase but the first, where nothing is owed
    pub phase_deed : (phase : Phase) → (phase ≡ Starting → ⊥) → Deed phase [] (phase_action d.me d.shut command phase)
    phase_deed Starting other = absurd (other refl)
    phase_deed (Staging begun places collected) other = stays_open (Staging begun places collected) [] _ refl refl refl (stages begun places collected _ _ _ _ _ _)
    phase_deed (Unstaging begun places refused place) other = stays_open (Unstaging begun places refused place) [] _ (refused_goes begun places refused place).0 refl refl (still_unstaging begun places refused (accepted_from (place + 1) places))
    phase_deed (Attaching sending place slot) other = stays_open (Attaching sending place slot) [] _ refl refl refl (still_attaching _ place (slot + 1))
    phase_deed (Stamping sending) other = stays_open (Stamping sending) [] _ refl refl refl (still_syncing sending _ (accepted_from 0 sending.places))
    phase_deed (Syncing sending stamp place) other = stays_open (Syncing sending stamp place) [] _ (syncing_still sending stamp place).0 refl refl (still_syncing sending stamp (accepted_from (place + 1) sending.places))
    phase_deed (Committing sending stamp place) other = stays_open (Committing sending stamp place) [] _ (committing_still sending stamp place).0 refl refl (committing_still sending stamp (accepted_from (place + 1) sending.places))
    phase_deed Dropping other = inl (inl (record { table = refl; gap = refl; plain = refl }))
    phase_deed (Reaping got) other = inl (inl (record { table = refl; gap = refl; plain = refl }))
    phase_deed (Visiting dest left) other = stays_open (Visiting dest left) [] _ refl refl refl (still_visiting _ (drop 1 left))
    phase_deed (Dooming dest) other = dooms dest
    phase_deed (SyncingNotices dest stamp at) other = stays_stamped (SyncingNotices dest stamp at) [] _ stamp refl refl refl (stamped_notices dest stamp (at + 1))
    phase_deed (CommittingOwn dest stamp) other = stays_stamped (CommittingOwn dest stamp) [] _ stamp refl refl refl (stamped_commits dest stamp 0)
    phase_deed (CommittingNotices dest stamp at) other = stays_stamped (CommittingNotices dest stamp at) [] _ stamp refl refl refl (stamped_commits dest stamp (at + 1))
    phase_deed (Flushing stamp) other = inr (inr (inr (record { event = refl; table = refl; gap = refl })))
