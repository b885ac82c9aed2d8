-- By how much an event lets a count rise: by one at an attach, else by nothing.
use Rattle.std.proofs.Common.{◌≡◌, ◌⊎◌, refl, ap, ◌∙◌, inl, inr, ℕ, zero, suc, ◌+◌, ◌-◌, ◌≤◌, Bool, true, false, cond, List, [], ◌∷◌, get_or, set}
use native.Mathlib.Omega.{arith}
use Rattle.b1_model.specs.declared.naming.Opening.{Opening}
use Rattle.b1_model.specs.declared.parts.Attach.{Attach}
use Rattle.b1_model.specs.declared.parts.Attach.TheVariants as attach
use Rattle.b1_model.specs.declared.events.Action.{Action}
use Rattle.b1_model.specs.declared.events.Action.TheVariants as act
use Rattle.b1_model.specs.declared.events.Doing.{Doing}
use Rattle.b1_model.specs.MachineParts.{PeerPart, DriverPart, no_node, node_at}
use Rattle.b1_model.specs.MachineTables.{count_of, with_node, counted, uncounted, notice_taken}
use Rattle.b1_model.specs.MachineSend.{attach_answer, attached_by, send_refusal}
use Rattle.b1_model.specs.MachineReceive.{received_part, with_release_notice, is_released, dropped_refs}
use Rattle.b1_model.specs.MachineDriver.{send_of}
use Rattle.b1_model.specs.MachineEvents.{happens, begin_refusal, begin_serials, collected_of, doomed_of}
use Rattle.b1_step.proofs.Changed.{changes}
use Rattle.b1_inv_refs.proofs.Receipts.{SameCounts, read_view}
use Rattle.b1_inv_refs.proofs.Counts.{Nodes, count_at, same_nodes, begin_counts, destroy_counts, doom_counts}
use Rattle.b1_inv_refs.proofs.Widths.{TakenFrom, recv_nodes}
use Rattle.b1_inv_bounds.proofs.Quiet.{is_attach}

-- what is read after an update: the same, or the new element
set_read : {X : Type 0} (xs : List X) (i j : ℕ) (y d : X) → (get_or (set xs i y) j d ≡ get_or xs j d) ⊎ ((j ≡ i) × (get_or (set xs i y) j d ≡ y))
set_read [] i j y d = inl refl
set_read (x ∷ xs) zero zero y d = inr (refl, refl)
set_read (x ∷ xs) zero (suc j) y d = inl refl
set_read (x ∷ xs) (suc i) zero y d = inl refl
set_read (x ∷ xs) (suc i) (suc j) y d = elim (set_read xs i j y d) [ inl same ↦ inl same | inr new ↦ inr (ap suc new.0, new.1) ]

pub counted_most : (nodes : Nodes) (one serial peer holder : ℕ) → count_at (with_node one (counted peer) nodes) serial holder ≤ count_at nodes serial holder + 1
counted_most nodes one serial peer holder = at (set_read nodes one serial (counted peer (get_or nodes one no_node)) no_node)
  where
    by_count : (counts : List ℕ) → (get_or (set counts peer (get_or counts peer 0 + 1)) holder 0 ≡ get_or counts holder 0) ⊎ ((holder ≡ peer) × (get_or (set counts peer (get_or counts peer 0 + 1)) holder 0 ≡ get_or counts peer 0 + 1)) → get_or (set counts peer (get_or counts peer 0 + 1)) holder 0 ≤ get_or counts holder 0 + 1
    by_count counts (inl same) = omega (arith, same)
    by_count counts (inr new) = let k = new.1 in let l = ap (λ h. get_or counts h 0) new.0 in omega (arith, k, l)

    at : (get_or (set nodes one (counted peer (get_or nodes one no_node))) serial no_node ≡ get_or nodes serial no_node) ⊎ ((serial ≡ one) × (get_or (set nodes one (counted peer (get_or nodes one no_node))) serial no_node ≡ counted peer (get_or nodes one no_node))) → count_at (with_node one (counted peer) nodes) serial holder ≤ count_at nodes serial holder + 1
    at (inl same) = let k = ap (λ z. count_of z holder) same in omega (arith, k)
    at (inr new) =
        let k = ap (λ z. count_of z holder) new.1 in
        let l = by_count (get_or nodes one no_node).counts (set_read (get_or nodes one no_node).counts peer holder (get_or (get_or nodes one no_node).counts peer 0 + 1) 0) in
        let m = ap (λ s. count_at nodes s holder) new.0 in
        omega (arith, k, l, m)

uncounted_most : (nodes : Nodes) (one serial peer holder amount : ℕ) → count_at (with_node one (uncounted peer amount) nodes) serial holder ≤ count_at nodes serial holder
uncounted_most nodes one serial peer holder amount = at (set_read nodes one serial (uncounted peer amount (get_or nodes one no_node)) no_node)
  where
    by_count : (counts : List ℕ) → (get_or (set counts peer (get_or counts peer 0 - amount)) holder 0 ≡ get_or counts holder 0) ⊎ ((holder ≡ peer) × (get_or (set counts peer (get_or counts peer 0 - amount)) holder 0 ≡ get_or counts peer 0 - amount)) → get_or (set counts peer (get_or counts peer 0 - amount)) holder 0 ≤ get_or counts holder 0
    by_count counts (inl same) = omega (arith, same)
    by_count counts (inr new) = let k = new.1 in let l = ap (λ h. get_or counts h 0) new.0 in omega (arith, k, l)

    at : (get_or (set nodes one (uncounted peer amount (get_or nodes one no_node))) serial no_node ≡ get_or nodes serial no_node) ⊎ ((serial ≡ one) × (get_or (set nodes one (uncounted peer amount (get_or nodes one no_node))) serial no_node ≡ uncounted peer amount (get_or nodes one no_node))) → count_at (with_node one (uncounted peer amount) nodes) serial holder ≤ count_at nodes serial holder
    at (inl same) = let k = ap (λ z. count_of z holder) same in omega (arith, k)
    at (inr new) =
        let k = ap (λ z. count_of z holder) new.1 in
        let l = by_count (get_or nodes one no_node).counts (set_read (get_or nodes one no_node).counts peer holder (get_or (get_or nodes one no_node).counts peer 0 - amount) 0) in
        let m = ap (λ s. count_at nodes s holder) new.0 in
        omega (arith, k, l, m)

-- a part's counts rise by so much at most
abbrev pub RisesBy : ℕ → PeerPart → PeerPart → Type 0
RisesBy extra x y = (serial holder : ℕ) → count_of (node_at y serial) holder ≤ count_of (node_at x serial) holder + extra

same_rises : (x y : PeerPart) → SameCounts x y → RisesBy 0 x y
same_rises x y same serial holder = let k = same serial holder in omega (arith, k)

at_attach : (a : Attach) (x : PeerPart) (serial dest : ℕ) → RisesBy 1 x (attached_by a x serial dest)
at_attach attach.Counted x one dest serial holder = counted_most x.nodes one serial dest holder
at_attach attach.Own x one dest serial holder = omega arith
at_attach (attach.Void stamp) x one dest serial holder = omega arith

at_drop : (b : Bool) (x : PeerPart) (serial holder k clock : ℕ) → RisesBy 0 x (with_release_notice b (dropped_refs x serial holder k clock) serial)
at_drop false x one peer amount clock serial holder = let k = uncounted_most x.nodes one serial peer holder amount in omega (arith, k)
at_drop true x one peer amount clock serial holder = let k = uncounted_most x.nodes one serial peer holder amount in omega (arith, k)

at_recv : (old new : Nodes) → TakenFrom old new → (serial holder : ℕ) → count_at new serial holder ≡ count_at old serial holder
at_recv old new (inl same) serial holder = ap (λ ns. count_at ns serial holder) same
at_recv old new (inr (one, same)) serial holder = ap (λ ns. count_at ns serial holder) same ∙ read_view (λ n. count_of n holder) old one serial (notice_taken (get_or old one no_node)) no_node refl

-- each event
pub rises_after : (o : Opening) (memory : Bool) (d : DriverPart) (doing : Doing) (action : Action) (x : PeerPart) → RisesBy (cond (is_attach action) 1 0) x (happens o memory d doing action x).1
rises_after o memory d doing (act.Attach peer serial dest) x = at_attach (attach_answer x serial dest) x serial dest
rises_after o memory d doing act.Begin x = same_rises x (happens o memory d doing act.Begin x).1 (begin_counts (send_refusal x (send_of doing.command)) memory (send_of doing.command) x)
rises_after o memory d doing act.Recv x = same_rises x (received_part x) (at_recv x.nodes (received_part x).nodes (recv_nodes x))
rises_after o memory d doing (act.DropRefs peer serial holder k clock) x = at_drop (is_released (dropped_refs x serial holder k clock) serial) x serial holder k clock
rises_after o memory d doing act.BeginDestroy x = same_rises x (happens o memory d doing act.BeginDestroy x).1 (destroy_counts (begin_refusal doing.command x) (begin_serials doing.command x) x)
rises_after o memory d doing act.StampDestroy x = same_rises x (happens o memory d doing act.StampDestroy x).1 (doom_counts x.late x (collected_of doing.phase) (doomed_of doing.phase))
rises_after o memory d doing act.Rest x = same_rises x x (λ s h. refl)
rises_after o memory d doing (act.Stage peer place) x = same_rises x (happens o memory d doing (act.Stage peer place) x).1 (same_nodes x (happens o memory d doing (act.Stage peer place) x).1 (ap (λ y. y.nodes) (changes o memory d doing (act.Stage peer place) x)))
rises_after o memory d doing (act.Unstage peer place) x = same_rises x (happens o memory d doing (act.Unstage peer place) x).1 (same_nodes x (happens o memory d doing (act.Unstage peer place) x).1 (ap (λ y. y.nodes) (changes o memory d doing (act.Unstage peer place) x)))
rises_after o memory d doing act.Stamp x = same_rises x (happens o memory d doing act.Stamp x).1 (λ s h. refl)
rises_after o memory d doing (act.Sync peer stamp) x = same_rises x (happens o memory d doing (act.Sync peer stamp) x).1 (λ s h. refl)
rises_after o memory d doing (act.Commit peer place stamp) x = same_rises x (happens o memory d doing (act.Commit peer place stamp) x).1 (same_nodes x (happens o memory d doing (act.Commit peer place stamp) x).1 (ap (λ y. y.nodes) (changes o memory d doing (act.Commit peer place stamp) x)))
rises_after o memory d doing (act.CommitNotices peer stamp) x = same_rises x (happens o memory d doing (act.CommitNotices peer stamp) x).1 (λ s h. refl)
rises_after o memory d doing act.Reap x = same_rises x (happens o memory d doing act.Reap x).1 (λ s h. refl)
rises_after o memory d doing act.Release x = same_rises x (happens o memory d doing act.Release x).1 (same_nodes x (happens o memory d doing act.Release x).1 (ap (λ y. y.nodes) (changes o memory d doing act.Release x)))
rises_after o memory d doing (act.Visit peer) x = same_rises x (happens o memory d doing (act.Visit peer) x).1 (same_nodes x (happens o memory d doing (act.Visit peer) x).1 (ap (λ y. y.nodes) (changes o memory d doing (act.Visit peer) x)))
rises_after o memory d doing act.Flush x = same_rises x (happens o memory d doing act.Flush x).1 (λ s h. refl)
rises_after o memory d doing act.Local x = same_rises x (happens o memory d doing act.Local x).1 (same_nodes x (happens o memory d doing act.Local x).1 (ap (λ y. y.nodes) (changes o memory d doing act.Local x)))
