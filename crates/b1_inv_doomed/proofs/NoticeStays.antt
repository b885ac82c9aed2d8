-- A committed own notice stays in its queue, but for a flush, until a RECV takes it; and a notice that was taken stays so.
use Rattle.std.proofs.Common.{◌≡◌, ◌⊎◌, refl, sym, ap, subst, ◌∙◌, inl, inr, ℕ, zero, suc, ◌+◌, ◌<◌, ◌≤◌, Bool, true, false, cond, not, ◌&&◌, List, [], ◌∷◌, map, filter, drop, take, zip, length, get_or, Option, Some, None}
use Rattle.std.specs.List.{prefix_len}
use Rattle.std.proofs.lemmas.List.{get_or-set_same}
use native.Mathlib.Omega.{arith}
use Rattle.b1_model.specs.declared.naming.Key.{Key}
use Rattle.b1_model.specs.declared.naming.Opening.{Opening}
use Rattle.b1_model.specs.declared.answers.Reason.{Reason}
use Rattle.b1_model.specs.declared.entries.Entry.{Entry}
use Rattle.b1_model.specs.declared.entries.Entry.TheVariants.{Message, OwnNotice, ForeignNotice, ReleaseNotice}
use Rattle.b1_model.specs.declared.events.Action.{Action}
use Rattle.b1_model.specs.declared.events.Action.TheVariants as act
use Rattle.b1_model.specs.declared.events.Doing.{Doing}
use Rattle.b1_model.specs.MachineParts.{PeerPart, DriverPart, NodePart, no_node, node_at, is_staged}
use Rattle.b1_model.specs.MachineTables.{with_node, notice_taken, put, put_all, is_staged_notice, without}
use Rattle.b1_model.specs.MachineSend.{with_stamp, notices_committed}
use Rattle.b1_model.specs.MachineReceive.{is_for_nobody, discards, taken_entry, front_by, front_taken, cleared, received_part}
use Rattle.b1_model.specs.MachineEvents.{happens, destroy_by, begin_refusal, begin_serials}
use Rattle.b1_step.specs.Rights.{Has, may_be_elsewhere}
use Rattle.b1_step.proofs.Changed.{changes}
use Rattle.b1_step.proofs.Kept.{keeps}
use Rattle.b1_step.proofs.Lists.{has_filter}
use Rattle.b1_step.proofs.Queues.{has_put_new, has_put_old}
use Rattle.b1_inv_tools.proofs.Received.{at_cleared, at_taken}
use Rattle.b1_inv_destroys.proofs.FirstNode.{is_flush_action}
use Rattle.b1_inv_destroys.proofs.Nodes.{is_recv, taken_same, discards_nodes, slots_nodes}
use Rattle.b1_inv_destroys.proofs.Staged.{own_stays}

-- ---- what doesn't pass stays behind what is dropped

passing : {X : Type 0} (test : X → Bool) (n : ℕ) (xs : List X) (f : X) → n ≤ prefix_len test xs → Has xs f → test f ≡ false → Has (drop n xs) f
passing test zero xs f low has fails = has
passing test (suc n) [] f low has fails = has
passing test (suc n) (x ∷ xs) f low has fails = by (test x) refl low (λ below further. passing test n xs f below further fails) has
  where
    by : (b : Bool) → test x ≡ b → suc n ≤ cond b (1 + prefix_len test xs) 0 → (n ≤ prefix_len test xs → Has xs f → Has (drop n xs) f) → Has (x ∷ xs) f → Has (drop n xs) f
    by true is below later (inl same) = let both : true ≡ false = sym is ∙ ap test (sym same) ∙ fails in absurd (cc both)
    by true is below later (inr further) = later (omega (arith, below)) further
    by false is below later h = absurd (omega (arith, below))

taken_low : {X : Type 0} (n : ℕ) (xs : List X) → length (take n xs) ≤ n
taken_low zero xs = omega arith
taken_low (suc n) [] = omega arith
taken_low (suc n) (x ∷ xs) = let k = taken_low n xs in omega (arith, k)

-- ---- a RECV

module _ (k : Key) (serial i : ℕ) where
  abbrev pub Notice : Key × Entry
  Notice = (k, OwnNotice serial i)

  -- its notice is queued, or was taken
  abbrev pub QueuedOrTaken : PeerPart → Type 0
  QueuedOrTaken y = ((node_at y serial).taken ≡ true) ⊎ Has y.queue Notice

  not_removed : (x : PeerPart) → Has x.queue Notice → Has (cleared x).queue Notice
  not_removed x has = subst (λ queue. Has queue Notice) (sym (at_cleared x).0) (passing (λ f. not (is_staged f) && is_for_nobody x f.1) (length (discards x)) x.queue Notice (taken_low (prefix_len (λ f. not (is_staged f) && is_for_nobody x f.1) x.queue) x.queue) has (by (is_staged Notice)))
    where
      by : (b : Bool) → (not b && false) ≡ false
      by true = refl
      by false = refl

  front_goes : (b : Bool) (x : PeerPart) (f : Key × Entry) (rest : List (Key × Entry)) → x.queue ≡ f ∷ rest → serial < length x.nodes → Has (f ∷ rest) Notice → QueuedOrTaken (front_by b x f rest).1
  front_goes true x f rest is low has = inr (subst (λ queue. Has queue Notice) (sym is) has)
  front_goes false x f rest is low (inr further) = inr (subst (λ queue. Has queue Notice) (sym (at_taken f.1 f.0 (record x { queue = rest })).0) further)
  front_goes false x f rest is low (inl same) = subst (λ g. QueuedOrTaken (taken_entry (record x { queue = rest }) g.0 g.1).1) same (inl (ap (λ n. n.taken) (get_or-set_same x.nodes serial (notice_taken (get_or x.nodes serial no_node)) no_node low)))

  queue_goes : (queue : List (Key × Entry)) (x : PeerPart) → x.queue ≡ queue → serial < length x.nodes → Has queue Notice → QueuedOrTaken (front_taken x queue).1
  queue_goes [] x is low has = absurd has
  queue_goes (f ∷ rest) x is low has = front_goes (is_staged f) x f rest is low has

  pub recv_goes : (x : PeerPart) → serial < length x.nodes → Has x.queue Notice → QueuedOrTaken (received_part x)
  recv_goes x low has = queue_goes (cleared x).queue (cleared x) refl (let same = (at_cleared x).1 in omega (arith, low, same)) (not_removed x has)

-- ---- what was taken

taken_node : (one serial : ℕ) (ns : List NodePart) → (get_or ns serial no_node).taken ≡ true → (get_or (with_node one notice_taken ns) serial no_node).taken ≡ true
taken_node one serial [] is = is
taken_node zero zero (n ∷ ns) is = refl
taken_node zero (suc serial) (n ∷ ns) is = is
taken_node (suc one) zero (n ∷ ns) is = is
taken_node (suc one) (suc serial) (n ∷ ns) is = taken_node one serial ns is

module _ (serial : ℕ) where
  abbrev WasTaken : List NodePart → Type 0
  WasTaken ns = (get_or ns serial no_node).taken ≡ true

  entry_stays : (e : Entry) (k : Key) (x : PeerPart) → WasTaken x.nodes → WasTaken (taken_entry x k e).1.nodes
  entry_stays (Message origin user index dest offset len nodes slots handles payload) k x is = subst WasTaken (sym (slots_nodes (zip nodes slots) _)) is
  entry_stays (OwnNotice one index) k x is = taken_node one serial x.nodes is
  entry_stays (ForeignNotice node index) k x is = is
  entry_stays (ReleaseNotice one) k x is = is

  front_stays : (b : Bool) (x : PeerPart) (f : Key × Entry) (rest : List (Key × Entry)) → WasTaken x.nodes → WasTaken (front_by b x f rest).1.nodes
  front_stays true x f rest is = is
  front_stays false x f rest is = entry_stays f.1 f.0 (record x { queue = rest }) is

  queue_takes : (queue : List (Key × Entry)) (x : PeerPart) → WasTaken x.nodes → WasTaken (front_taken x queue).1.nodes
  queue_takes [] x is = is
  queue_takes (f ∷ rest) x is = front_stays (is_staged f) x f rest is

  recv_takes : (x : PeerPart) → WasTaken x.nodes → WasTaken (received_part x).nodes
  recv_takes x is = queue_takes (cleared x).queue (cleared x) (subst WasTaken (sym (discards_nodes (discards x) _)) is)

  pub taken_stays : (o : Opening) (memory : Bool) (d : DriverPart) (doing : Doing) (action : Action) (x : PeerPart) → (node_at x serial).taken ≡ true → (node_at (happens o memory d doing action x).1 serial).taken ≡ true
  taken_stays o memory d doing act.Recv x is = recv_takes x is
  taken_stays o memory d doing action x is = taken_same o memory d doing action x refl serial ∙ is

-- ---- events

begin_stays : (r : Option Reason) (doomed : List ℕ) (x : PeerPart) (k : Key) (serial i : ℕ) → Has x.queue (k, OwnNotice serial i) → Has (destroy_by r doomed x).1.queue (k, OwnNotice serial i)
begin_stays (Some r) doomed x k serial i has = has
begin_stays None doomed x k serial i has = own_stays x 0 doomed x.queue k serial i has

module _ (o : Opening) (memory : Bool) (d : DriverPart) (doing : Doing) (x : PeerPart) (k : Key) (serial i : ℕ) (even : is_staged (k, OwnNotice serial i) ≡ false) (has : Has x.queue (k, OwnNotice serial i)) where
  by_changes : (action : Action) → (happens o memory d doing action x).1.queue ≡ x.queue → Has (happens o memory d doing action x).1.queue (k, OwnNotice serial i)
  by_changes action same = subst (λ queue. Has queue (k, OwnNotice serial i)) (sym same) has

  by_kept : (action : Action) → may_be_elsewhere action ≡ true → Has (happens o memory d doing action x).1.queue (k, OwnNotice serial i)
  by_kept action is = (keeps o memory d doing action x is).stays (k, OwnNotice serial i) has refl (inl even)

  -- a committed own notice stays queued, but for a RECV and a flush
  queue_keeps : (action : Action) → is_recv action ≡ false → is_flush_action action ≡ false → Has (happens o memory d doing action x).1.queue (k, OwnNotice serial i)
  queue_keeps act.Recv no_recv no_flush = absurd (cc no_recv)
  queue_keeps act.Flush no_recv no_flush = absurd (cc no_flush)
  queue_keeps act.BeginDestroy no_recv no_flush = begin_stays (begin_refusal doing.command x) (begin_serials doing.command x) x k serial i has
  queue_keeps act.Rest no_recv no_flush = by_changes act.Rest (ap (λ y. y.queue) (changes o memory d doing act.Rest x))
  queue_keeps act.Begin no_recv no_flush = by_changes act.Begin (ap (λ y. y.queue) (changes o memory d doing act.Begin x))
  queue_keeps act.Stamp no_recv no_flush = by_changes act.Stamp (ap (λ y. y.queue) (changes o memory d doing act.Stamp x))
  queue_keeps act.Reap no_recv no_flush = by_changes act.Reap (ap (λ y. y.queue) (changes o memory d doing act.Reap x))
  queue_keeps act.Release no_recv no_flush = by_changes act.Release (ap (λ y. y.queue) (changes o memory d doing act.Release x))
  queue_keeps act.StampDestroy no_recv no_flush = by_changes act.StampDestroy (ap (λ y. y.queue) (changes o memory d doing act.StampDestroy x))
  queue_keeps act.Local no_recv no_flush = by_changes act.Local (ap (λ y. y.queue) (changes o memory d doing act.Local x))
  queue_keeps (act.Stage peer place) no_recv no_flush = by_kept (act.Stage peer place) refl
  queue_keeps (act.Unstage peer place) no_recv no_flush = by_kept (act.Unstage peer place) refl
  queue_keeps (act.Attach peer one dest) no_recv no_flush = by_kept (act.Attach peer one dest) refl
  queue_keeps (act.Sync peer stamp) no_recv no_flush = by_kept (act.Sync peer stamp) refl
  queue_keeps (act.Commit peer place stamp) no_recv no_flush = by_kept (act.Commit peer place stamp) refl
  queue_keeps (act.CommitNotices peer stamp) no_recv no_flush = by_kept (act.CommitNotices peer stamp) refl
  queue_keeps (act.DropRefs peer one holder n clock) no_recv no_flush = by_kept (act.DropRefs peer one holder n clock) refl
  queue_keeps (act.Visit peer) no_recv no_flush = by_kept (act.Visit peer) refl

  pub goes_on : (action : Action) → is_flush_action action ≡ false → serial < length x.nodes → QueuedOrTaken k serial i (happens o memory d doing action x).1
  goes_on act.Recv no_flush low = recv_goes k serial i x low has
  goes_on action no_flush low = inr (queue_keeps action refl no_flush)

-- ---- a commit

mapped_has : (f : Key × Entry → Key × Entry) (list : List (Key × Entry)) (g : Key × Entry) → Has list g → Has (map f list) (f g)
mapped_has f [] g h = h
mapped_has f (x ∷ rest) g (inl same) = inl (ap f same)
mapped_has f (x ∷ rest) g (inr further) = inr (mapped_has f rest g further)

put_has_all : (more queue : List (Key × Entry)) (g : Key × Entry) → Has more g → Has (put_all more queue) g
put_has_all [] queue g h = absurd h
put_has_all (f ∷ rest) queue g (inl same) = subst (Has (put f.0 f.1 (put_all rest queue))) (sym same) (has_put_new f.0 f.1 (put_all rest queue))
put_has_all (f ∷ rest) queue g (inr further) = has_put_old f.0 f.1 (put_all rest queue) g (put_has_all rest queue g further)

-- a staged notice of a driver is queued under the stamp
pub commits : (x : PeerPart) (origin stamp : ℕ) (g : Key × Entry) → Has x.queue g → is_staged_notice origin g ≡ true → Has (notices_committed x origin stamp).queue (with_stamp stamp g)
commits x origin stamp g has is = put_has_all (map (with_stamp stamp) (filter (is_staged_notice origin) x.queue)) (without (is_staged_notice origin) x.queue) (with_stamp stamp g) (mapped_has (with_stamp stamp) (filter (is_staged_notice origin) x.queue) g (has_filter (is_staged_notice origin) x.queue g has is))
