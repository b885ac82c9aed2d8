-- The part of a peer that has disconnected: an empty queue, no records, and only destroyed nodes.
use Rattle.std.proofs.Common.{◌≡◌, ◌≢◌, refl, sym, ap, subst, ◌∙◌, inl, inr, ℕ, zero, suc, ◌+◌, Bool, true, false, cond, not, ◌&&◌, List, [], ◌∷◌, set, get_or, find, filter, map, Option, Some, None}
use Rattle.std.specs.Bool.{then_some}
use Rattle.b1_model.specs.declared.commands.Command.{Command}
use Rattle.b1_model.specs.declared.commands.Command.TheVariants as cmd
use Rattle.b1_model.specs.declared.naming.NodeRef.{NodeRef}
use Rattle.b1_model.specs.declared.naming.Opening.{Opening}
use Rattle.b1_model.specs.declared.answers.Reason.{Reason}
use Rattle.b1_model.specs.declared.entries.Entry.{Entry}
use Rattle.b1_model.specs.declared.naming.Key.{Key}
use Rattle.b1_model.specs.declared.parts.NodeState.{NodeState}
use Rattle.b1_model.specs.declared.parts.NodeState.TheVariants.{Live, Dying, Destroyed}
use Rattle.b1_model.specs.declared.events.Action.{Action}
use Rattle.b1_model.specs.declared.events.Action.TheVariants as act
use Rattle.b1_model.specs.declared.events.Doing.{Doing}
use Rattle.b1_model.specs.declared.events.OwedDrop.{OwedDrop}
use Rattle.b1_model.specs.declared.events.Phase.{Phase}
use Rattle.b1_model.specs.declared.events.Phase.TheVariants.{Starting}
use Rattle.b1_model.specs.MachineParts.{PeerPart, NodePart, HandleRecord, DriverPart, is_live, is_destroyed, no_node, node_at, record_of}
use Rattle.b1_model.specs.MachinePool.{is_received}
use Rattle.b1_model.specs.MachineTables.{put_all, without, is_stage, is_staged_notice, with_node, with_nodes, uncounted, in_state, is_unheld}
use Rattle.b1_model.specs.MachineSend.{first_reason, unstaged_by, attach_by, attached_by, committed_by, final_stamp, with_stamp}
use Rattle.b1_model.specs.MachineReceive.{with_release_notice, is_released, dropped_refs, slice_given_back}
use Rattle.b1_model.specs.MachineDestroy.{notice_by, visited_from, doom_by}
use Rattle.b1_model.specs.MachineDriver.{first_action, next_action, peer_of}
use Rattle.b1_model.specs.MachineEvents.{happens, stage_by, local_part, slots_at, doomed_of, collected_of}
use Rattle.b1_step.specs.Rights.{Has}
use Rattle.b1_inv_notices.proofs.Turns.{opened}

-- ---- destroyed nodes

abbrev pub Gone : List NodePart → Type 0
Gone ns = (n : NodePart) → Has ns n → is_destroyed n.state ≡ true

gone_get : (ns : List NodePart) (i : ℕ) → Gone ns → is_destroyed (get_or ns i no_node).state ≡ true
gone_get [] i gone = refl
gone_get (n ∷ ns) zero gone = gone n (inl refl)
gone_get (n ∷ ns) (suc i) gone = gone_get ns i (λ m h. gone m (inr h))

gone_set : (ns : List NodePart) (i : ℕ) (m : NodePart) → is_destroyed m.state ≡ true → Gone ns → Gone (set ns i m)
gone_set [] i m is gone = gone
gone_set (n ∷ ns) zero m is gone = λ k h. elim h [ inl same ↦ ap (λ z. is_destroyed z.state) same ∙ is | inr further ↦ gone k (inr further) ]
gone_set (n ∷ ns) (suc i) m is gone = λ k h. elim h [ inl same ↦ gone k (inl same) | inr further ↦ gone_set ns i m is (λ l there. gone l (inr there)) k further ]

gone_nodes : (stamp : ℕ) (serials : List ℕ) (ns : List NodePart) → Gone ns → Gone (with_nodes serials (in_state (Destroyed stamp)) ns)
gone_nodes stamp [] ns gone = gone
gone_nodes stamp (serial ∷ rest) ns gone = gone_nodes stamp rest (with_node serial (in_state (Destroyed stamp)) ns) (gone_set ns serial (in_state (Destroyed stamp) (get_or ns serial no_node)) refl gone)

not_live : (state : NodeState) → is_destroyed state ≡ true → is_live state ≡ false
not_live Live is = absurd (cc is)
not_live Dying is = refl
not_live (Destroyed stamp) is = refl

-- ---- an empty part

pub record Empty (x : PeerPart) : Type 0 where
  pub queue : x.queue ≡ []
  pub handles : x.handles ≡ []
  pub nodes : Gone x.nodes

stage_same : (b : Bool) (rest : List (Option Reason)) (r : Reason) (memory : Bool) (origin user place serial : ℕ) (payload : List ℕ) (nodes : List NodeRef) (x : PeerPart) → b ≡ false
    → (stage_by (first_reason (then_some (not b) r ∷ rest)) memory origin user place serial payload nodes x).1 ≡ x
stage_same true rest r memory origin user place serial payload nodes x is = absurd (cc is)
stage_same false rest r memory origin user place serial payload nodes x is = refl

attach_same : (state : NodeState) (own : Bool) (x : PeerPart) (serial dest : ℕ) → is_destroyed state ≡ true → attached_by (attach_by state own) x serial dest ≡ x
attach_same Live own x serial dest is = absurd (cc is)
attach_same Dying own x serial dest is = absurd (cc is)
attach_same (Destroyed stamp) own x serial dest is = refl

no_notice : (node : NodeRef) (handles : List HandleRecord) → handles ≡ [] → elim (record_of node handles) [ None ↦ false | Some h ↦ not h.notice ] ≡ false
no_notice node handles none = ap (λ hs. elim (record_of node hs) [ None ↦ false | Some h ↦ not h.notice ]) none

visit_same : (origin index : ℕ) (serials : List ℕ) (x : PeerPart) → x.handles ≡ [] → visited_from origin index serials x ≡ x
visit_same origin index [] x none = refl
visit_same origin index (serial ∷ rest) x none =
    ap (λ b. visited_from origin (index + 1) rest (notice_by b origin x index (record { owner = origin; serial = serial }))) (no_notice (record { owner = origin; serial = serial }) x.handles none)
    ∙ visit_same origin (index + 1) rest x none

none_committed : (origin stamp : ℕ) (queue : List (Key × Entry)) → queue ≡ [] → put_all (map (with_stamp stamp) (filter (is_staged_notice origin) queue)) (without (is_staged_notice origin) queue) ≡ []
none_committed origin stamp queue none = ap (λ q. put_all (map (with_stamp stamp) (filter (is_staged_notice origin) q)) (without (is_staged_notice origin) q)) none

abbrev pub harmless : Action → Bool
harmless act.Begin = false
harmless act.Recv = false
harmless act.Release = false
harmless act.BeginDestroy = false
harmless action = true

doomed_empty : (late : List ℕ) (x : PeerPart) (collected : ℕ) (doomed : List ℕ) → Empty x → Empty (doom_by late x collected doomed)
doomed_empty [] x collected doomed empty = record { queue = empty.queue; handles = empty.handles; nodes = gone_nodes (final_stamp x collected) doomed x.nodes empty.nodes }
doomed_empty (peer ∷ rest) x collected doomed empty = record { queue = empty.queue; handles = empty.handles; nodes = empty.nodes }

dropped_empty : (b : Bool) (x : PeerPart) (serial holder k clock : ℕ) → b ≡ false → Empty x → Empty (with_release_notice b (dropped_refs x serial holder k clock) serial)
dropped_empty true x serial holder k clock is empty = absurd (cc is)
dropped_empty false x serial holder k clock is empty = record { queue = empty.queue; handles = empty.handles; nodes = gone_set x.nodes serial (uncounted holder k (node_at x serial)) (gone_get x.nodes serial empty.nodes) empty.nodes }

local_empty : (shut : Bool) (command : Command) (x : PeerPart) → Empty x → Empty (local_part shut command x)
local_empty true command x empty = empty
local_empty false (cmd.SliceRelease offset) x empty = by (is_received offset x.slices)
  where
    by : (b : Bool) → Empty (slice_given_back b x offset)
    by true = record { queue = empty.queue; handles = empty.handles; nodes = empty.nodes }
    by false = empty
local_empty false (cmd.Limit limits) x empty = record { queue = empty.queue; handles = empty.handles; nodes = empty.nodes }
local_empty false command x empty = empty

module _ (o : Opening) (memory : Bool) (d : DriverPart) (doing : Doing) (x : PeerPart) (empty : Empty x) where
  unlive : (serial : ℕ) → is_live (node_at x serial).state ≡ false
  unlive serial = not_live (node_at x serial).state (gone_get x.nodes serial empty.nodes)

  same : (y : PeerPart) → y ≡ x → Empty y
  same y is = subst Empty (sym is) empty

  pub empty_event : (action : Action) → harmless action ≡ true → Empty (happens o memory d doing action x).1
  empty_event act.Rest is = empty
  empty_event act.Begin is = absurd (cc is)
  empty_event act.Recv is = absurd (cc is)
  empty_event act.Release is = absurd (cc is)
  empty_event act.BeginDestroy is = absurd (cc is)
  empty_event (act.Stage peer place) is = same _ (stage_same (is_live (node_at x _).state) _ _ memory _ _ _ _ _ _ x (unlive _))
  empty_event (act.Unstage peer place) is = same _ (ap (λ q. unstaged_by (find (is_stage d.me place) q) x d.me place) empty.queue)
  empty_event (act.Attach peer serial dest) is = same _ (attach_same (node_at x serial).state _ x serial dest (gone_get x.nodes serial empty.nodes))
  empty_event act.Stamp is = record { queue = empty.queue; handles = empty.handles; nodes = empty.nodes }
  empty_event (act.Sync peer stamp) is = record { queue = empty.queue; handles = empty.handles; nodes = empty.nodes }
  empty_event (act.Commit peer place stamp) is = same _ (ap (λ q. committed_by (find (is_stage d.me place) q) x d.me place stamp (slots_at doing.phase place)) empty.queue)
  empty_event (act.CommitNotices peer stamp) is = record { queue = none_committed d.me stamp x.queue empty.queue; handles = empty.handles; nodes = empty.nodes }
  empty_event act.Reap is = record { queue = empty.queue; handles = empty.handles; nodes = empty.nodes }
  empty_event (act.DropRefs peer serial holder k clock) is =
      dropped_empty (is_released (dropped_refs x serial holder k clock) serial) x serial holder k clock
      (ap (λ b. b && is_unheld (node_at (dropped_refs x serial holder k clock) serial))
      (not_live (node_at (dropped_refs x serial holder k clock) serial).state
      (gone_get (dropped_refs x serial holder k clock).nodes serial (gone_set x.nodes serial (uncounted holder k (node_at x serial)) (gone_get x.nodes serial empty.nodes) empty.nodes))))
      empty
  empty_event (act.Visit peer) is = same _ (visit_same d.me 0 (doomed_of doing.phase) x empty.handles)
  empty_event act.StampDestroy is = doomed_empty x.late x (collected_of doing.phase) (doomed_of doing.phase) empty
  empty_event act.Flush is = record { queue = refl; handles = refl; nodes = empty.nodes }
  empty_event act.Local is = local_empty d.shut doing.command x empty

-- a shut driver begins nothing
pub shut_harmless : (d : DriverPart) (command : Command) (phase : Phase) (owed : List OwedDrop) → d.shut ≡ true → harmless (next_action (opened d command phase owed)) ≡ true
shut_harmless d command phase (one ∷ rest) shut = refl
shut_harmless d command Starting [] shut = ap (λ b. harmless (cond b act.Local (first_action command))) shut
shut_harmless d command phase [] shut = refl

-- nor does a driver at another peer
pub away_harmless : (me : ℕ) (action : Action) → peer_of me action ≢ me → harmless action ≡ true
away_harmless me act.Begin apart = absurd (apart refl)
away_harmless me act.Recv apart = absurd (apart refl)
away_harmless me act.Release apart = absurd (apart refl)
away_harmless me act.BeginDestroy apart = absurd (apart refl)
away_harmless me action apart = refl
