-- Counts and amounts move together at an event: what that says, and the events that move nothing.
use Rattle.std.proofs.Common.{◌≡◌, refl, sym, ap, ℕ, ◌+◌, ◌==◌, Bool, true, false, cond, List, [], Option, Some, None, Ok, Err}
use native.Mathlib.Omega.{arith}
use Rattle.b1_model.specs.declared.naming.NodeRef.{NodeRef}
use Rattle.b1_model.specs.declared.naming.Opening.{Opening}
use Rattle.b1_model.specs.declared.commands.Command.{Command}
use Rattle.b1_model.specs.declared.commands.SendCmd.{SendCmd}
use Rattle.b1_model.specs.declared.parts.Begun.{Begun}
use Rattle.b1_model.specs.declared.answers.Reason.{Reason}
use Rattle.b1_model.specs.declared.answers.Reason.TheVariants as reason
use Rattle.b1_model.specs.declared.answers.Refused.{Refused}
use Rattle.b1_model.specs.declared.events.Action.{Action}
use Rattle.b1_model.specs.declared.events.Action.TheVariants as act
use Rattle.b1_model.specs.declared.events.Outcome.{Outcome}
use Rattle.b1_model.specs.declared.events.Outcome.TheVariants as out
use Rattle.b1_model.specs.declared.events.Phase.{Phase}
use Rattle.b1_model.specs.declared.events.Phase.TheVariants.{Starting, Staging, Unstaging, Stamping, Syncing, Dropping, Visiting, Dooming, SyncingNotices, CommittingOwn, CommittingNotices}
use Rattle.b1_model.specs.declared.events.Doing.{Doing}
use Rattle.b1_model.specs.declared.events.Sending.{Sending}
use Rattle.b1_model.specs.declared.events.Destruction.{Destruction}
use Rattle.b1_model.specs.declared.events.OwedDrop.{OwedDrop}
use Rattle.b1_model.specs.MachineParts.{PeerPart, DriverPart, node_at}
use Rattle.b1_model.specs.MachineTables.{count_of}
use Rattle.b1_model.specs.MachineSend.{send_refusal, find_stage, final_stamp}
use Rattle.b1_model.specs.MachineReceive.{received_part}
use Rattle.b1_model.specs.MachineDriver.{send_of, turn}
use Rattle.b1_model.specs.MachineTook.{owed_after}
use Rattle.b1_model.specs.MachineEvents.{happens, begin_by, stage_by, destroy_by, begin_refusal, begin_serials}
use Rattle.b1_model.specs.MachineCounts.{peer_amount, owed_amount, kept_amount}
use Rattle.b1_step.specs.Ordered.{Rising}
use Rattle.b1_step.proofs.Changed.{changes}
use Rattle.b1_inv_refs.proofs.Owes.{kept_turn}
use Rattle.b1_inv_refs.proofs.Receipts.{SameCounts, Flies, HasSlots, receives}
use Rattle.b1_inv_refs.proofs.Counts.{same_nodes, begin_counts, destroy_counts, doom_counts}
use Rattle.b1_inv_refs.proofs.Turns.{started_none, stage_turn, unstage_turn, stamp_turn, sync_turn, visit_turn, doom_turn, sync_notices_turn, own_notices_turn, notices_turn}
use Rattle.b1_inv_refs.proofs.Peers.{same_amount, stage_amount, unstage_amount, destroy_amount, notices_amount, visit_amount}

-- the open command of a driver
abbrev pub doing_of : Command → Phase → Doing
doing_of command phase = record { command = command; phase = phase }

-- the part at a peer becomes y and its driver has `after` in place of `before`: the count at a node's owner changes by what a holder's part and its driver change by
abbrev pub Balance : ℕ → PeerPart → PeerPart → ℕ → ℕ → NodeRef → ℕ → Type 0
Balance at x y before after node q =
    cond (at == node.owner) (count_of (node_at y node.serial) q) 0 + cond (at == q) (peer_amount node x) 0 + before
    ≡ cond (at == node.owner) (count_of (node_at x node.serial) q) 0 + cond (at == q) (peer_amount node y) 0 + after

module _ (o : Opening) (memory : Bool) (e : DriverPart) (x : PeerPart) (at : ℕ) (node : NodeRef) (q : ℕ) where
  -- what is owed and kept before an event and after its answer
  abbrev pub had : Phase → List OwedDrop → ℕ
  had phase owed = owed_amount node q owed + kept_amount node q phase

  abbrev pub has_then : Command → Phase → List OwedDrop → Outcome → ℕ
  has_then command phase owed outcome = owed_amount node q (owed_after e.me phase owed outcome) + kept_turn node q (turn e.me command phase outcome)

  -- an event of an open command keeps the balance
  abbrev pub Goes_on : Command → Phase → List OwedDrop → Action → Type 0
  Goes_on command phase owed action = Balance at x (happens o memory e (doing_of command phase) action x).1 (had phase owed) (has_then command phase owed (happens o memory e (doing_of command phase) action x).0) node q

  -- the part after an event
  abbrev pub then : Command → Phase → Action → PeerPart
  then command phase action = (happens o memory e (doing_of command phase) action x).1

  -- where nothing changes
  pub quiet : (y : PeerPart) (before after : ℕ) → SameCounts x y → peer_amount node x ≡ peer_amount node y → before ≡ after → Balance at x y before after node q
  quiet y before after counts amount same =
      let one = ap (λ n. cond (at == node.owner) n 0) (counts node.serial q) in
      let two = ap (λ n. cond (at == q) n 0) amount in
      omega (arith, one, two, same)

  module _ (up : Rising x.handles) (command : Command) where
    -- ---- the first event of a command

    pub local_goes : Goes_on command Starting [] act.Local
    local_goes =
        let c = changes o memory e (doing_of command Starting) act.Local x in
        quiet (happens o memory e (doing_of command Starting) act.Local x).1 _ _ (same_nodes x (then command Starting act.Local) (ap (λ y. y.nodes) c)) (same_amount node x (then command Starting act.Local) (ap (λ y. y.handles) c) (ap (λ y. y.queue) c) (ap (λ y. y.dead) c)) refl

    begin_owed : (r : Option Reason) (b : Bool) (c : SendCmd) → owed_after e.me Starting [] (begin_by r b c x).0 ≡ []
    begin_owed (Some r) b c = refl
    begin_owed None true c = refl
    begin_owed None false c = refl

    begin_then : (r : Option Reason) (b : Bool) (c : SendCmd) → has_then command Starting [] (begin_by r b c x).0 ≡ 0
    begin_then r b c =
        let one = ap (owed_amount node q) (begin_owed r b c) in
        let two = started_none node q command (begin_by r b c x).0 in
        let three : owed_amount node q [] ≡ 0 = refl in
        omega (arith, one, two, three)

    pub begin_goes : Goes_on command Starting [] act.Begin
    begin_goes =
        let c = changes o memory e (doing_of command Starting) act.Begin x in
        quiet (happens o memory e (doing_of command Starting) act.Begin x).1 _ _ (begin_counts (send_refusal x (send_of command)) memory (send_of command) x) (same_amount node x (happens o memory e (doing_of command Starting) act.Begin x).1 (ap (λ y. y.handles) c) (ap (λ y. y.queue) c) (ap (λ y. y.dead) c)) (sym (begin_then (send_refusal x (send_of command)) memory (send_of command)))

    pub recv_goes : Flies x → HasSlots x → Goes_on command Starting [] act.Recv
    recv_goes flies slots = let k = receives x up flies slots in quiet (received_part x) _ _ k.counts (k.amount node) refl

    destroy_owed : (r : Option Reason) (doomed : List ℕ) → owed_after e.me Starting [] (destroy_by r doomed x).0 ≡ []
    destroy_owed (Some r) doomed = refl
    destroy_owed None doomed = refl

    destroy_then : (r : Option Reason) (doomed : List ℕ) → has_then command Starting [] (destroy_by r doomed x).0 ≡ 0
    destroy_then r doomed =
        let one = ap (owed_amount node q) (destroy_owed r doomed) in
        let two = started_none node q command (destroy_by r doomed x).0 in
        let three : owed_amount node q [] ≡ 0 = refl in
        omega (arith, one, two, three)

    pub destroy_goes : Goes_on command Starting [] act.BeginDestroy
    destroy_goes = quiet (destroy_by (begin_refusal command x) (begin_serials command x) x).1 _ _ (destroy_counts (begin_refusal command x) (begin_serials command x) x) (destroy_amount node x up (begin_refusal command x) (begin_serials command x)) (sym (destroy_then (begin_refusal command x) (begin_serials command x)))

    -- ---- SENDs

    stage_then : (begun : Begun) (places : List (Option Reason)) (collected : ℕ) (r : Option Reason) (b : Bool) (user place serial : ℕ) (payload : List ℕ) (nodes : List NodeRef) → has_then command (Staging begun places collected) [] (stage_by r b e.me user place serial payload nodes x).0 ≡ 0
    stage_then begun places collected (Some r) b user place serial payload nodes = let k = stage_turn node q e.me command begun places collected (Err r) in omega (arith, k)
    stage_then begun places collected None true user place serial payload nodes = let k = stage_turn node q e.me command begun places collected (Err reason.Memory) in omega (arith, k)
    stage_then begun places collected None false user place serial payload nodes = let k = stage_turn node q e.me command begun places collected (Ok x.clock) in omega (arith, k)

    pub stage_goes : (begun : Begun) (places : List (Option Reason)) (collected peer place : ℕ) → Goes_on command (Staging begun places collected) [] (act.Stage peer place)
    stage_goes begun places collected peer place =
        let c = changes o memory e (doing_of command (Staging begun places collected)) (act.Stage peer place) x in
        quiet (happens o memory e (doing_of command (Staging begun places collected)) (act.Stage peer place) x).1 _ _ (same_nodes x (happens o memory e (doing_of command (Staging begun places collected)) (act.Stage peer place) x).1 (ap (λ y. y.nodes) c)) (stage_amount node x up _ memory _ _ _ _ _ _) (sym (stage_then begun places collected _ memory _ _ _ _ _))

    pub unstage_goes : (begun : Begun) (places : List (Option Reason)) (refused : Refused) (at_place peer place : ℕ) → Goes_on command (Unstaging begun places refused at_place) [] (act.Unstage peer place)
    unstage_goes begun places refused at_place peer place =
        let phase = Unstaging begun places refused at_place in
        let c = changes o memory e (doing_of command phase) (act.Unstage peer place) x in
        let k = unstage_turn node q e.me command begun places refused at_place in
        quiet (happens o memory e (doing_of command phase) (act.Unstage peer place) x).1 (had phase []) (has_then command phase [] out.Unstage) (same_nodes x (happens o memory e (doing_of command phase) (act.Unstage peer place) x).1 (ap (λ y. y.nodes) c)) (unstage_amount node x up (find_stage x e.me place) e.me place) (omega (arith, k))

    pub stamp_goes : (sending : Sending) → Goes_on command (Stamping sending) [] act.Stamp
    stamp_goes sending = quiet (then command (Stamping sending) act.Stamp) _ _ (λ s h. refl) refl (ap (λ n. owed_amount node q [] + n) (sym (stamp_turn node q e.me command sending (final_stamp x sending.collected))))

    pub sync_goes : (sending : Sending) (stamp place peer clock : ℕ) → Goes_on command (Syncing sending stamp place) [] (act.Sync peer clock)
    sync_goes sending stamp place peer clock = quiet (then command (Syncing sending stamp place) (act.Sync peer clock)) _ _ (λ s h. refl) refl (ap (λ n. owed_amount node q [] + n) (sym (sync_turn node q e.me command sending stamp place)))

    -- ---- destructions

    same_zero : (n : ℕ) → n ≡ 0 → owed_amount node q [] + 0 ≡ owed_amount node q [] + n
    same_zero n is = ap (λ m. owed_amount node q [] + m) (sym is)

    pub visit_goes : (destruction : Destruction) (left : List ℕ) (peer : ℕ) → Goes_on command (Visiting destruction left) [] (act.Visit peer)
    visit_goes destruction left peer =
        let phase = Visiting destruction left in
        let c = changes o memory e (doing_of command phase) (act.Visit peer) x in
        quiet (happens o memory e (doing_of command phase) (act.Visit peer) x).1 _ _ (same_nodes x (happens o memory e (doing_of command phase) (act.Visit peer) x).1 (ap (λ y. y.nodes) c)) (visit_amount node x up destruction.doomed e.me) (same_zero _ (visit_turn node q e.me command destruction left _))

    pub doom_goes : (destruction : Destruction) → Goes_on command (Dooming destruction) [] act.StampDestroy
    doom_goes destruction =
        let phase = Dooming destruction in
        let c = changes o memory e (doing_of command phase) act.StampDestroy x in
        quiet (happens o memory e (doing_of command phase) act.StampDestroy x).1 _ _ (doom_counts x.late x destruction.collected destruction.doomed) (same_amount node x (happens o memory e (doing_of command phase) act.StampDestroy x).1 (ap (λ y. y.handles) c) (ap (λ y. y.queue) c) (ap (λ y. y.dead) c)) (same_zero _ (doom_turn node q e.me command destruction _))

    pub sync_notices_goes : (destruction : Destruction) (stamp here peer clock : ℕ) → Goes_on command (SyncingNotices destruction stamp here) [] (act.Sync peer clock)
    sync_notices_goes destruction stamp here peer clock = quiet (then command (SyncingNotices destruction stamp here) (act.Sync peer clock)) _ _ (λ s h. refl) refl (same_zero _ (sync_notices_turn node q e.me command destruction stamp here))

    pub own_notices_goes : (destruction : Destruction) (stamp peer clock : ℕ) → Goes_on command (CommittingOwn destruction stamp) [] (act.CommitNotices peer clock)
    own_notices_goes destruction stamp peer clock = quiet (then command (CommittingOwn destruction stamp) (act.CommitNotices peer clock)) _ _ (λ s h. refl) (notices_amount node x up e.me clock) (same_zero _ (own_notices_turn node q e.me command destruction stamp))

    pub notices_goes : (destruction : Destruction) (stamp here peer clock : ℕ) → Goes_on command (CommittingNotices destruction stamp here) [] (act.CommitNotices peer clock)
    notices_goes destruction stamp here peer clock = quiet (then command (CommittingNotices destruction stamp here) (act.CommitNotices peer clock)) _ _ (λ s h. refl) (notices_amount node x up e.me clock) (same_zero _ (notices_turn node q e.me command destruction stamp here))

    pub rest_goes : Goes_on command Dropping [] act.Rest
    rest_goes = quiet x _ _ (λ s h. refl) refl refl
