-- The events that let no node, given number or held handle come; and which phases the others are of.
use Rattle.std.proofs.Common.{◌≡◌, refl, sym, ap, ◌∙◌, subst, ℕ, ◌+◌, ◌-◌, ◌≤◌, Bool, true, false, cond, List, [], ◌∷◌, length, Option, Some, None}
use Rattle.std.proofs.lemmas.List.{length-set}
use native.Mathlib.Omega.{arith}
use Rattle.b1_model.specs.declared.naming.Key.{Key}
use Rattle.b1_model.specs.declared.naming.NodeRef.{NodeRef}
use Rattle.b1_model.specs.declared.naming.Opening.{Opening}
use Rattle.b1_model.specs.declared.commands.Command.{Command}
use Rattle.b1_model.specs.declared.commands.Command.TheVariants as cmd
use Rattle.b1_model.specs.declared.parts.Attach.{Attach}
use Rattle.b1_model.specs.declared.parts.Attach.TheVariants as attach
use Rattle.b1_model.specs.declared.entries.Entry.{Entry}
use Rattle.b1_model.specs.declared.parts.NodeState.TheVariants.{Dying, Destroyed}
use Rattle.b1_model.specs.declared.answers.Reason.{Reason}
use Rattle.b1_model.specs.declared.events.Action.{Action}
use Rattle.b1_model.specs.declared.events.Action.TheVariants as act
use Rattle.b1_model.specs.declared.events.Phase.{Phase}
use Rattle.b1_model.specs.declared.events.Phase.TheVariants.{Starting, Staging, Unstaging, Attaching, Stamping, Syncing, Committing, Dropping, Reaping, Visiting, Dooming, SyncingNotices, CommittingOwn, CommittingNotices, Flushing}
use Rattle.b1_model.specs.declared.events.Sending.{Sending}
use Rattle.b1_model.specs.declared.events.Doing.{Doing}
use Rattle.b1_model.specs.Names.{is_given}
use Rattle.b1_model.specs.MachineParts.{PeerPart, DriverPart, carried}
use Rattle.b1_model.specs.MachineTables.{in_state, less_held, noticed, foreign, held_node}
use Rattle.b1_model.specs.MachineSend.{find_stage, unstaged_by, attach_answer, attached_by, final_stamp}
use Rattle.b1_model.specs.MachineReceive.{given_up, with_release_notice, is_released, dropped_refs}
use Rattle.b1_model.specs.MachineDestroy.{needs_notice, notice_by, with_foreign_notice, visited_from, doom_by}
use Rattle.b1_model.specs.MachineDriver.{first_action, phase_action}
use Rattle.b1_model.specs.MachineEvents.{happens, stage_by, destroy_by, begin_refusal, begin_serials, begun_of, doomed_of, collected_of, number_of}
use Rattle.b1_step.proofs.Changed.{changes}
use Rattle.b1_inv_tools.proofs.Grows.{with_nodes_length}
use Rattle.b1_inv_refs.proofs.Numbered.{each_changed}
use Rattle.b1_inv_bounds.proofs.Grown.{HeldAtMost, GrowsBy, by_handles, by_same, grows_zero, most_expected, most_unexpected}

-- the two events by which a part may grow
abbrev pub is_growing : Action → Bool
is_growing act.Begin = true
is_growing act.Recv = true
is_growing action = false

module _ (most : ℕ) where
  at_stage : (r : Option Reason) (memory : Bool) (origin user place serial : ℕ) (payload : List ℕ) (nodes : List NodeRef) (x : PeerPart) → HeldAtMost most x.handles → HeldAtMost most (stage_by r memory origin user place serial payload nodes x).1.handles
  at_stage (Some r) memory origin user place serial payload nodes x each = each
  at_stage None true origin user place serial payload nodes x each = each
  at_stage None false origin user place serial payload nodes x each = most_expected most (foreign x.me nodes) x.handles each

  at_unstage : (f : Option (Key × Entry)) (x : PeerPart) (origin index : ℕ) → HeldAtMost most x.handles → HeldAtMost most (unstaged_by f x origin index).handles
  at_unstage None x origin index each = each
  at_unstage (Some f) x origin index each = most_unexpected most (foreign x.me (carried f.1)) x.handles each

  at_release : (b : Bool) (held : Option NodeRef) (x : PeerPart) → HeldAtMost most x.handles → HeldAtMost most (given_up b held x).handles
  at_release false held x each = each
  at_release true None x each = each
  at_release true (Some node) x each = each_changed (λ h. h.held ≤ most) node less_held (λ h is. omega (arith, is)) x.handles each

  at_notice : (b : Bool) (origin : ℕ) (x : PeerPart) (index : ℕ) (node : NodeRef) → HeldAtMost most x.handles → HeldAtMost most (notice_by b origin x index node).handles
  at_notice false origin x index node each = each
  at_notice true origin x index node each = each_changed (λ h. h.held ≤ most) node noticed (λ h is. is) x.handles each

  at_visit : (doomed : List ℕ) (origin index : ℕ) (x : PeerPart) → HeldAtMost most x.handles → HeldAtMost most (visited_from origin index doomed x).handles
  at_visit [] origin index x each = each
  at_visit (serial ∷ rest) origin index x each =
      at_visit rest origin (index + 1) (with_foreign_notice origin x index (record { owner = origin; serial = serial }))
      (at_notice (needs_notice x (record { owner = origin; serial = serial })) origin x index (record { owner = origin; serial = serial }) each)

-- ---- as many nodes

at_attach : (a : Attach) (x : PeerPart) (serial dest : ℕ) → length (attached_by a x serial dest).nodes ≡ length x.nodes
at_attach attach.Counted x serial dest = length-set x.nodes serial _
at_attach attach.Own x serial dest = refl
at_attach (attach.Void stamp) x serial dest = refl

at_drop : (b : Bool) (x : PeerPart) (serial holder k clock : ℕ) → length (with_release_notice b (dropped_refs x serial holder k clock) serial).nodes ≡ length x.nodes
at_drop false x serial holder k clock = length-set x.nodes serial _
at_drop true x serial holder k clock = length-set x.nodes serial _

at_destroy : (r : Option Reason) (doomed : List ℕ) (x : PeerPart) → length (destroy_by r doomed x).1.nodes ≡ length x.nodes
at_destroy (Some r) doomed x = refl
at_destroy None doomed x = with_nodes_length doomed (in_state Dying) x.nodes

at_doom : (late : List ℕ) (x : PeerPart) (collected : ℕ) (doomed : List ℕ) → length (doom_by late x collected doomed).nodes ≡ length x.nodes
at_doom [] x collected doomed = with_nodes_length doomed (in_state (Destroyed (final_stamp x collected))) x.nodes
at_doom (peer ∷ rest) x collected doomed = refl

module _ (o : Opening) (memory : Bool) (d : DriverPart) (doing : Doing) where
  abbrev then : Action → PeerPart → PeerPart
  then action x = (happens o memory d doing action x).1

  -- each other event
  pub quiet_grows : (action : Action) (x : PeerPart) → is_growing action ≡ false → GrowsBy 0 x (happens o memory d doing action x).1
  quiet_grows act.Begin x is = absurd (cc is)
  quiet_grows act.Recv x is = absurd (cc is)
  quiet_grows act.Rest x is = grows_zero x
  quiet_grows (act.Stage peer place) x is = let e = changes o memory d doing (act.Stage peer place) x in by_handles x (then (act.Stage peer place) x) (ap (λ y. length y.nodes) e) (ap (λ y. y.given) e) (λ most each. at_stage most _ memory _ _ _ _ _ (begun_of doing.phase).with x each)
  quiet_grows (act.Unstage peer place) x is = let e = changes o memory d doing (act.Unstage peer place) x in by_handles x (then (act.Unstage peer place) x) (ap (λ y. length y.nodes) e) (ap (λ y. y.given) e) (λ most each. at_unstage most (find_stage x d.me place) x d.me place each)
  quiet_grows (act.Attach peer serial dest) x is = let e = changes o memory d doing (act.Attach peer serial dest) x in by_handles x (then (act.Attach peer serial dest) x) (at_attach (attach_answer x serial dest) x serial dest) (ap (λ y. y.given) e) (λ most each. subst (HeldAtMost most) (sym (ap (λ y. y.handles) e)) each)
  quiet_grows act.Stamp x is = by_same x (then act.Stamp x) refl refl refl
  quiet_grows (act.Sync peer stamp) x is = by_same x (then (act.Sync peer stamp) x) refl refl refl
  quiet_grows (act.Commit peer place stamp) x is = let e = changes o memory d doing (act.Commit peer place stamp) x in by_same x (then (act.Commit peer place stamp) x) (ap (λ y. y.nodes) e) (ap (λ y. y.given) e) (ap (λ y. y.handles) e)
  quiet_grows (act.CommitNotices peer stamp) x is = by_same x (then (act.CommitNotices peer stamp) x) refl refl refl
  quiet_grows act.Reap x is = by_same x (then act.Reap x) refl refl refl
  quiet_grows act.Release x is = let e = changes o memory d doing act.Release x in by_handles x (then act.Release x) (ap (λ y. length y.nodes) e) (ap (λ y. y.given) e) (λ most each. at_release most (is_given (number_of doing.command)) (held_node (number_of doing.command) x.handles) x each)
  quiet_grows (act.DropRefs peer serial holder k clock) x is = let e = changes o memory d doing (act.DropRefs peer serial holder k clock) x in by_handles x (then (act.DropRefs peer serial holder k clock) x) (at_drop (is_released (dropped_refs x serial holder k clock) serial) x serial holder k clock) (ap (λ y. y.given) e) (λ most each. subst (HeldAtMost most) (sym (ap (λ y. y.handles) e)) each)
  quiet_grows act.BeginDestroy x is = let e = changes o memory d doing act.BeginDestroy x in by_handles x (then act.BeginDestroy x) (at_destroy (begin_refusal doing.command x) (begin_serials doing.command x) x) (ap (λ y. y.given) e) (λ most each. subst (HeldAtMost most) (sym (ap (λ y. y.handles) e)) each)
  quiet_grows (act.Visit peer) x is = let e = changes o memory d doing (act.Visit peer) x in by_handles x (then (act.Visit peer) x) (ap (λ y. length y.nodes) e) (ap (λ y. y.given) e) (λ most each. at_visit most (doomed_of doing.phase) d.me 0 x each)
  quiet_grows act.StampDestroy x is = let e = changes o memory d doing act.StampDestroy x in by_handles x (then act.StampDestroy x) (at_doom x.late x (collected_of doing.phase) (doomed_of doing.phase)) (ap (λ y. y.given) e) (λ most each. subst (HeldAtMost most) (sym (ap (λ y. y.handles) e)) each)
  quiet_grows act.Flush x is = by_handles x (then act.Flush x) refl refl (λ most each h there. absurd there)
  quiet_grows act.Local x is = let e = changes o memory d doing act.Local x in by_same x (then act.Local x) (ap (λ y. y.nodes) e) (ap (λ y. y.given) e) (ap (λ y. y.handles) e)

-- ---- the phases of some events

-- a growing event is the first of its command
pub growing_starts : (me : ℕ) (shut : Bool) (command : Command) (phase : Phase) → is_growing (phase_action me shut command phase) ≡ true → phase ≡ Starting
growing_starts me shut command Starting is = refl
growing_starts me shut command (Staging begun places collected) is = absurd (cc is)
growing_starts me shut command (Unstaging begun places refused place) is = absurd (cc is)
growing_starts me shut command (Attaching sending place j) is = absurd (cc is)
growing_starts me shut command (Stamping sending) is = absurd (cc is)
growing_starts me shut command (Syncing sending stamp place) is = absurd (cc is)
growing_starts me shut command (Committing sending stamp place) is = absurd (cc is)
growing_starts me shut command Dropping is = absurd (cc is)
growing_starts me shut command (Reaping got) is = absurd (cc is)
growing_starts me shut command (Visiting destruction left) is = absurd (cc is)
growing_starts me shut command (Dooming destruction) is = absurd (cc is)
growing_starts me shut command (SyncingNotices destruction stamp at) is = absurd (cc is)
growing_starts me shut command (CommittingOwn destruction stamp) is = absurd (cc is)
growing_starts me shut command (CommittingNotices destruction stamp at) is = absurd (cc is)
growing_starts me shut command (Flushing stamp) is = absurd (cc is)

-- an attach is of a SEND that attaches
abbrev pub is_attach : Action → Bool
is_attach (act.Attach peer serial dest) = true
is_attach action = false

first_no_attach : (command : Command) → is_attach (first_action command) ≡ false
first_no_attach cmd.Disconnect = refl
first_no_attach cmd.Query = refl
first_no_attach (cmd.Limit limits) = refl
first_no_attach (cmd.Reset limits) = refl
first_no_attach (cmd.Release number) = refl
first_no_attach (cmd.Destroy numbers) = refl
first_no_attach (cmd.SliceRelease offset) = refl
first_no_attach (cmd.Send c) = refl
first_no_attach cmd.Recv = refl
first_no_attach cmd.Await = refl

start_no_attach : (shut : Bool) (command : Command) → is_attach (cond shut act.Local (first_action command)) ≡ false
start_no_attach true command = refl
start_no_attach false command = first_no_attach command

pub attach_phase : (me : ℕ) (shut : Bool) (command : Command) (phase : Phase) → is_attach (phase_action me shut command phase) ≡ true → (sending : Sending) × (place : ℕ) × (j : ℕ) × (phase ≡ Attaching sending place j)
attach_phase me shut command Starting is = absurd (cc (sym is ∙ start_no_attach shut command))
attach_phase me shut command (Staging begun places collected) is = absurd (cc is)
attach_phase me shut command (Unstaging begun places refused place) is = absurd (cc is)
attach_phase me shut command (Attaching sending place j) is = (sending, place, j, refl)
attach_phase me shut command (Stamping sending) is = absurd (cc is)
attach_phase me shut command (Syncing sending stamp place) is = absurd (cc is)
attach_phase me shut command (Committing sending stamp place) is = absurd (cc is)
attach_phase me shut command Dropping is = absurd (cc is)
attach_phase me shut command (Reaping got) is = absurd (cc is)
attach_phase me shut command (Visiting destruction left) is = absurd (cc is)
attach_phase me shut command (Dooming destruction) is = absurd (cc is)
attach_phase me shut command (SyncingNotices destruction stamp at) is = absurd (cc is)
attach_phase me shut command (CommittingOwn destruction stamp) is = absurd (cc is)
attach_phase me shut command (CommittingNotices destruction stamp at) is = absurd (cc is)
attach_phase me shut command (Flushing stamp) is = absurd (cc is)
