-- A fact of each node of a part that no change of a node alters holds of each node after every event.
use Rattle.std.proofs.Common.{◌≡◌, ◌⊎◌, refl, sym, ap, ◌∙◌, inl, inr, subst, ℕ, zero, suc, ◌+◌, ◌-◌, Bool, true, false, List, [], ◌∷◌, ◌++◌, fold, filter, drop, length, replicate, Option, Some, None}
use Rattle.std.proofs.lemmas.List.{length-set, length-replicate}
use Rattle.b1_model.specs.declared.naming.Key.{Key}
use Rattle.b1_model.specs.declared.naming.Opening.{Opening}
use Rattle.b1_model.specs.declared.commands.SendCmd.{SendCmd}
use Rattle.b1_model.specs.declared.parts.Attach.{Attach}
use Rattle.b1_model.specs.declared.parts.Attach.TheVariants as attach
use Rattle.b1_model.specs.declared.parts.NodeState.{NodeState}
use Rattle.b1_model.specs.declared.parts.NodeState.TheVariants.{Live, Dying, Destroyed}
use Rattle.b1_model.specs.declared.entries.Entry.{Entry}
use Rattle.b1_model.specs.declared.entries.Entry.TheVariants.{Message, OwnNotice, ForeignNotice, ReleaseNotice}
use Rattle.b1_model.specs.declared.answers.Reason.{Reason}
use Rattle.b1_model.specs.declared.events.Action.{Action}
use Rattle.b1_model.specs.declared.events.Action.TheVariants as act
use Rattle.b1_model.specs.declared.events.Doing.{Doing}
use Rattle.b1_model.specs.Names.{is_own}
use Rattle.b1_model.specs.MachineParts.{PeerPart, DriverPart, NodePart, is_staged}
use Rattle.b1_model.specs.MachinePool.{published}
use Rattle.b1_model.specs.MachineTables.{serial_of, with_made, with_node, with_nodes, in_state, count_of, counted, uncounted, notice_taken}
use Rattle.b1_model.specs.MachineSend.{attached_by, attach_answer, send_refusal, final_stamp}
use Rattle.b1_model.specs.MachineReceive.{discards, cleared, taken_entry, front_by, front_taken, received_part, with_release_notice, is_released, dropped_refs}
use Rattle.b1_model.specs.MachineDestroy.{doom_by}
use Rattle.b1_model.specs.MachineDriver.{send_of}
use Rattle.b1_model.specs.MachineEvents.{happens, begin_by, destroy_by, begin_refusal, begin_serials, collected_of, doomed_of}
use Rattle.b1_step.specs.Rights.{Has}
use Rattle.b1_step.proofs.Lists.{filter_has}
use Rattle.b1_step.proofs.Changed.{changes}
use Rattle.b1_inv_refs.proofs.Arrivals.{all_removed, slots_rest}
use Rattle.b1_inv_refs.proofs.Counts.{Nodes}

-- ---- what a RECV leaves of the nodes

-- the nodes are the same, but for one whose notice was taken
abbrev pub TakenFrom : Nodes → Nodes → Type 0
TakenFrom old new = (new ≡ old) ⊎ ((serial : ℕ) × (new ≡ with_node serial notice_taken old))

at_taken : (e : Entry) (k : Key) (x : PeerPart) → TakenFrom x.nodes (taken_entry x k e).1.nodes
at_taken (Message origin user index serial offset len nodes slots handles payload) k x = inl (slots_rest nodes slots (record { part = record x { slices = published offset x.slices }; numbers = []; refs = [] })).nodes
at_taken (OwnNotice serial index) k x = inr (serial, refl)
at_taken (ForeignNotice node index) k x = inl refl
at_taken (ReleaseNotice serial) k x = inl refl

at_front : (b : Bool) (x : PeerPart) (f : Key × Entry) (rest : List (Key × Entry)) → TakenFrom x.nodes (front_by b x f rest).1.nodes
at_front true x f rest = inl refl
at_front false x f rest = at_taken f.1 f.0 (record x { queue = rest })

at_front_taken : (queue : List (Key × Entry)) (x : PeerPart) → TakenFrom x.nodes (front_taken x queue).1.nodes
at_front_taken [] x = inl refl
at_front_taken (f ∷ rest) x = at_front (is_staged f) x f rest

pub recv_nodes : (x : PeerPart) → TakenFrom x.nodes (received_part x).nodes
recv_nodes x =
    let same : (cleared x).nodes ≡ x.nodes = (all_removed (discards x) (record x { queue = drop (length (discards x)) x.queue })).nodes in
    subst (λ l. TakenFrom l (received_part x).nodes) same (at_front_taken (cleared x).queue (cleared x))

-- ---- a fact of each node

abbrev pub EachNode : (NodePart → Type 0) → Nodes → Type 0
EachNode P nodes = (n : NodePart) → Has nodes n → P n

each_with : (P : NodePart → Type 0) (f : NodePart → NodePart) → ((n : NodePart) → P n → P (f n)) → (nodes : Nodes) (serial : ℕ) → EachNode P nodes → EachNode P (with_node serial f nodes)
each_with P f closed [] serial each n there = absurd there
each_with P f closed (m ∷ rest) zero each n (inl same) = subst P (sym same) (closed m (each m (inl refl)))
each_with P f closed (m ∷ rest) zero each n (inr there) = each n (inr there)
each_with P f closed (m ∷ rest) (suc serial) each n (inl same) = each n (inl same)
each_with P f closed (m ∷ rest) (suc serial) each n (inr there) = each_with P f closed rest serial (λ l h. each l (inr h)) n there

each_all : (P : NodePart → Type 0) (f : NodePart → NodePart) → ((n : NodePart) → P n → P (f n)) → (serials : List ℕ) (nodes : Nodes) → EachNode P nodes → EachNode P (with_nodes serials f nodes)
each_all P f closed [] nodes each = each
each_all P f closed (serial ∷ rest) nodes each = each_all P f closed rest (with_node serial f nodes) (each_with P f closed nodes serial each)

each_more : (P : NodePart → Type 0) (nodes : Nodes) (m : NodePart) → P m → EachNode P nodes → EachNode P (nodes ++ m ∷ [])
each_more P [] m new each n (inl same) = subst P (sym same) new
each_more P [] m new each n (inr there) = absurd there
each_more P (l ∷ rest) m new each n (inl same) = each n (inl same)
each_more P (l ∷ rest) m new each n (inr there) = each_more P rest m new (λ k h. each k (inr h)) n there

-- what a new node has, and what each small change of a node keeps
pub record NodesClosed (width : ℕ) (P : NodePart → Type 0) : Type 0 where
  pub new : (number : ℕ) → is_own number ≡ true → P (record { number = number; state = Live; counts = replicate width 0; taken = false })
  pub more : (peer : ℕ) (n : NodePart) → P n → P (counted peer n)
  pub less : (peer k : ℕ) (n : NodePart) → P n → P (uncounted peer k n)
  pub lives : (state : NodeState) (n : NodePart) → P n → P (in_state state n)
  pub noticed : (n : NodePart) → P n → P (notice_taken n)

pub each_made : (width : ℕ) (P : NodePart → Type 0) (number : ℕ) (nodes : Nodes) → P (record { number = number; state = Live; counts = replicate width 0; taken = false }) → EachNode P nodes → EachNode P (with_made width number nodes)
each_made width P number nodes new each = at (serial_of number nodes)
  where
    at : (found : Option ℕ) → EachNode P (elim found [ None ↦ nodes ++ record { number = number; state = Live; counts = replicate width 0; taken = false } ∷ [] | Some serial ↦ nodes ])
    at None = each_more P nodes (record { number = number; state = Live; counts = replicate width 0; taken = false }) new each
    at (Some serial) = each

pub each_counted : (P : NodePart → Type 0) (peer : ℕ) → ((n : NodePart) → P n → P (counted peer n)) → (serial : ℕ) (nodes : Nodes) → EachNode P nodes → EachNode P (with_node serial (counted peer) nodes)
each_counted P peer closed serial nodes each = each_with P (counted peer) closed nodes serial each

module _ (width : ℕ) (P : NodePart → Type 0) (c : NodesClosed width P) where
  abbrev All : Nodes → Type 0
  All nodes = EachNode P nodes

  all_made : (numbers : List ℕ) (nodes : Nodes) → ((number : ℕ) → Has numbers number → is_own number ≡ true) → All nodes → All (fold (λ ns number. with_made width number ns) nodes numbers)
  all_made [] nodes own each = each
  all_made (number ∷ rest) nodes own each = all_made rest (with_made width number nodes) (λ n h. own n (inr h)) (each_made width P number nodes (c.new number (own number (inl refl))) each)

  at_begin : (r : Option Reason) (memory : Bool) (b : SendCmd) (x : PeerPart) → x.peers ≡ width → All x.nodes → All (begin_by r memory b x).1.nodes
  at_begin (Some r) memory b x same each = each
  at_begin None true b x same each = each
  at_begin None false b x same each =
      subst (λ w. All (fold (λ ns number. with_made w number ns) x.nodes (filter is_own b.with))) (sym same)
      (all_made (filter is_own b.with) x.nodes (λ n h. (filter_has is_own b.with n h).1) each)

  at_attach : (a : Attach) (x : PeerPart) (serial dest : ℕ) → All x.nodes → All (attached_by a x serial dest).nodes
  at_attach attach.Counted x serial dest each = each_with P (counted dest) (c.more dest) x.nodes serial each
  at_attach attach.Own x serial dest each = each
  at_attach (attach.Void stamp) x serial dest each = each

  at_drop : (b : Bool) (x : PeerPart) (serial holder k clock : ℕ) → All x.nodes → All (with_release_notice b (dropped_refs x serial holder k clock) serial).nodes
  at_drop false x serial holder k clock each = each_with P (uncounted holder k) (c.less holder k) x.nodes serial each
  at_drop true x serial holder k clock each = each_with P (uncounted holder k) (c.less holder k) x.nodes serial each

  at_destroy : (r : Option Reason) (doomed : List ℕ) (x : PeerPart) → All x.nodes → All (destroy_by r doomed x).1.nodes
  at_destroy (Some r) doomed x each = each
  at_destroy None doomed x each = each_all P (in_state Dying) (c.lives Dying) doomed x.nodes each

  at_doom : (late : List ℕ) (x : PeerPart) (collected : ℕ) (doomed : List ℕ) → All x.nodes → All (doom_by late x collected doomed).nodes
  at_doom [] x collected doomed each = each_all P (in_state (Destroyed (final_stamp x collected))) (c.lives (Destroyed (final_stamp x collected))) doomed x.nodes each
  at_doom (peer ∷ rest) x collected doomed each = each

  at_recv : (old new : Nodes) → TakenFrom old new → All old → All new
  at_recv old new (inl same) each = subst All (sym same) each
  at_recv old new (inr (serial, same)) each = subst All (sym same) (each_with P notice_taken c.noticed old serial each)

  by_same : (x y : PeerPart) → y.nodes ≡ x.nodes → All x.nodes → All y.nodes
  by_same x y same each = subst All (sym same) each

  -- each event keeps it
  pub each_after : (o : Opening) (memory : Bool) (d : DriverPart) (doing : Doing) (action : Action) (x : PeerPart) → x.peers ≡ width → All x.nodes → All (happens o memory d doing action x).1.nodes
  each_after o memory d doing act.Begin x same each = at_begin (send_refusal x (send_of doing.command)) memory (send_of doing.command) x same each
  each_after o memory d doing (act.Attach peer serial dest) x same each = at_attach (attach_answer x serial dest) x serial dest each
  each_after o memory d doing act.Recv x same each = at_recv x.nodes (received_part x).nodes (recv_nodes x) each
  each_after o memory d doing (act.DropRefs peer serial holder k clock) x same each = at_drop (is_released (dropped_refs x serial holder k clock) serial) x serial holder k clock each
  each_after o memory d doing act.BeginDestroy x same each = at_destroy (begin_refusal doing.command x) (begin_serials doing.command x) x each
  each_after o memory d doing act.StampDestroy x same each = at_doom x.late x (collected_of doing.phase) (doomed_of doing.phase) each
  each_after o memory d doing act.Rest x same each = each
  each_after o memory d doing (act.Stage peer place) x same each = by_same x (happens o memory d doing (act.Stage peer place) x).1 (ap (λ y. y.nodes) (changes o memory d doing (act.Stage peer place) x)) each
  each_after o memory d doing (act.Unstage peer place) x same each = by_same x (happens o memory d doing (act.Unstage peer place) x).1 (ap (λ y. y.nodes) (changes o memory d doing (act.Unstage peer place) x)) each
  each_after o memory d doing act.Stamp x same each = each
  each_after o memory d doing (act.Sync peer stamp) x same each = each
  each_after o memory d doing (act.Commit peer place stamp) x same each = by_same x (happens o memory d doing (act.Commit peer place stamp) x).1 (ap (λ y. y.nodes) (changes o memory d doing (act.Commit peer place stamp) x)) each
  each_after o memory d doing (act.CommitNotices peer stamp) x same each = each
  each_after o memory d doing act.Reap x same each = each
  each_after o memory d doing act.Release x same each = by_same x (happens o memory d doing act.Release x).1 (ap (λ y. y.nodes) (changes o memory d doing act.Release x)) each
  each_after o memory d doing (act.Visit peer) x same each = by_same x (happens o memory d doing (act.Visit peer) x).1 (ap (λ y. y.nodes) (changes o memory d doing (act.Visit peer) x)) each
  each_after o memory d doing act.Flush x same each = each
  each_after o memory d doing act.Local x same each = by_same x (happens o memory d doing act.Local x).1 (ap (λ y. y.nodes) (changes o memory d doing act.Local x)) each

-- as many counts as there are peers
abbrev pub IsWide : ℕ → NodePart → Type 0
IsWide width n = length n.counts ≡ width

module _ (width : ℕ) where
  abbrev Wide : Nodes → Type 0
  Wide nodes = EachNode (IsWide width) nodes

  wide_closed : NodesClosed width (IsWide width)
  wide_closed = record {
    new = λ number own. length-replicate width 0;
    more = λ peer n w. length-set n.counts peer (count_of n peer + 1) ∙ w;
    less = λ peer k n w. length-set n.counts peer (count_of n peer - k) ∙ w;
    lives = λ state n w. w;
    noticed = λ n w. w;
  }

  pub wide_made : (number : ℕ) (nodes : Nodes) → Wide nodes → Wide (with_made width number nodes)
  wide_made number nodes each = each_made width (IsWide width) number nodes (length-replicate width 0) each

  pub wide_counted : (peer serial : ℕ) (nodes : Nodes) → Wide nodes → Wide (with_node serial (counted peer) nodes)
  wide_counted peer serial nodes each = each_counted (IsWide width) peer (wide_closed.more peer) serial nodes each

  pub wide_after : (o : Opening) (memory : Bool) (d : DriverPart) (doing : Doing) (action : Action) (x : PeerPart) → x.peers ≡ width → Wide x.nodes → Wide (happens o memory d doing action x).1.nodes
  wide_after o memory d doing action x same each = each_after width (IsWide width) wide_closed o memory d doing action x same each
