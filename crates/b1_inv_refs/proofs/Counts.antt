-- The counts of a part's nodes after each event.
use Rattle.std.proofs.Common.{◌≡◌, refl, sym, ap, ◌∙◌, inl, inr, subst, ℕ, zero, suc, ◌+◌, ◌-◌, ◌<◌, ◌≤◌, ◌==◌, Bool, true, false, cond, ◌&&◌, List, [], ◌∷◌, ◌++◌, get_or, set, fold, filter, length, replicate, Option, Some, None}
use Rattle.std.proofs.lemmas.Bool.{cases_eq, eq-eqb, ne_eqb}
use Rattle.std.proofs.lemmas.List.{get_or-set_same, get_or-set_other}
use native.Mathlib.Omega.{arith}
use Rattle.b1_model.specs.Names.{is_own}
use Rattle.b1_model.specs.declared.commands.SendCmd.{SendCmd}
use Rattle.b1_model.specs.declared.parts.Attach.TheVariants as attach
use Rattle.b1_model.specs.declared.parts.NodeState.TheVariants.{Live, Dying, Destroyed}
use Rattle.b1_model.specs.declared.answers.Reason.{Reason}
use Rattle.b1_model.specs.MachineParts.{PeerPart, NodePart, no_node, node_at}
use Rattle.b1_model.specs.MachineTables.{serial_of, with_made, with_node, with_nodes, in_state, count_of, counted, uncounted}
use Rattle.b1_model.specs.MachineSend.{attached_by, final_stamp}
use Rattle.b1_model.specs.MachineReceive.{with_release_notice, dropped_refs}
use Rattle.b1_model.specs.MachineDestroy.{doom_by}
use Rattle.b1_model.specs.MachineEvents.{begin_by, destroy_by}
use Rattle.b1_step.proofs.Changed.{changes}
use Rattle.b1_inv_refs.proofs.Receipts.{SameCounts, read_view}

abbrev pub Nodes : Type 0
Nodes = List NodePart

-- the count of a holder at a place of a list of nodes
abbrev pub count_at : Nodes → ℕ → ℕ → ℕ
count_at nodes serial holder = count_of (get_or nodes serial no_node) holder

-- ---- new nodes, and nodes in another state

zeros : (n holder : ℕ) → ◌≡◌ {A = ℕ} (get_or (replicate n 0) holder 0) 0
zeros zero holder = refl
zeros (suc n) zero = refl
zeros (suc n) (suc holder) = zeros n holder

new_node : (nodes : Nodes) (n : NodePart) (peers serial holder : ℕ) → n.counts ≡ replicate peers 0 → count_at (nodes ++ n ∷ []) serial holder ≡ count_at nodes serial holder
new_node [] n peers zero holder is = rw is (zeros peers holder)
new_node [] n peers (suc serial) holder is = refl
new_node (m ∷ rest) n peers zero holder is = refl
new_node (m ∷ rest) n peers (suc serial) holder is = new_node rest n peers serial holder is

pub made_counts : (peers number : ℕ) (nodes : Nodes) (serial holder : ℕ) → count_at (with_made peers number nodes) serial holder ≡ count_at nodes serial holder
made_counts peers number nodes serial holder = at (serial_of number nodes)
  where
    at : (found : Option ℕ) → count_at (elim found [ None ↦ nodes ++ record { number = number; state = Live; counts = replicate peers 0; taken = false } ∷ [] | Some one ↦ nodes ]) serial holder ≡ count_at nodes serial holder
    at None = new_node nodes _ peers serial holder refl
    at (Some one) = refl

all_made_counts : (peers : ℕ) (numbers : List ℕ) (nodes : Nodes) (serial holder : ℕ) → count_at (fold (λ ns number. with_made peers number ns) nodes numbers) serial holder ≡ count_at nodes serial holder
all_made_counts peers [] nodes serial holder = refl
all_made_counts peers (number ∷ rest) nodes serial holder = all_made_counts peers rest (with_made peers number nodes) serial holder ∙ made_counts peers number nodes serial holder

states_counts : (serials : List ℕ) (f : NodePart → NodePart) → ((n : NodePart) → (f n).counts ≡ n.counts) → (nodes : Nodes) (serial holder : ℕ) → count_at (with_nodes serials f nodes) serial holder ≡ count_at nodes serial holder
states_counts [] f keeps nodes serial holder = refl
states_counts (one ∷ rest) f keeps nodes serial holder =
    states_counts rest f keeps (with_node one f nodes) serial holder
    ∙ read_view (λ n. count_of n holder) nodes one serial (f (get_or nodes one no_node)) no_node (ap (λ cs. get_or cs holder 0) (keeps (get_or nodes one no_node)))

-- ---- one count changes

-- a count is set
set_count : (counts : List ℕ) (peer holder n : ℕ) → peer < length counts → get_or (set counts peer n) holder 0 ≡ cond (peer == holder) n (get_or counts holder 0)
set_count counts peer holder n within = elim (cases_eq peer holder) [
  | inl same ↦ subst (λ h. get_or (set counts peer n) h 0 ≡ cond (peer == h) n (get_or counts h 0)) same (rw (eq-eqb peer peer refl) (get_or-set_same counts peer n 0 within))
  | inr apart ↦ rw (ne_eqb peer holder apart) (get_or-set_other counts peer holder n 0 (λ e. apart (sym e)))
]

-- at a node
set_node : (nodes : Nodes) (one serial peer holder n : ℕ) (m : NodePart) → one < length nodes → peer < length (get_or nodes one no_node).counts → m.counts ≡ set (get_or nodes one no_node).counts peer n
    → count_at (set nodes one m) serial holder ≡ cond ((one == serial) && (peer == holder)) n (count_at nodes serial holder)
set_node nodes one serial peer holder n m within wide is = elim (cases_eq one serial) [
  | inl same ↦ subst (λ z. count_at (set nodes one m) z holder ≡ cond ((one == z) && (peer == holder)) n (count_at nodes z holder)) same (rw (eq-eqb one one refl, get_or-set_same nodes one m no_node within, is) (set_count (get_or nodes one no_node).counts peer holder n wide))
  | inr apart ↦ rw (ne_eqb one serial apart, get_or-set_other nodes one serial m no_node (λ e. apart (sym e))) refl
]

at_one : (nodes : Nodes) (one serial peer holder : ℕ) (b : Bool) → ((one == serial) && (peer == holder)) ≡ b → b ≡ true → count_at nodes one peer ≡ count_at nodes serial holder
at_one nodes one serial peer holder b is yes_it = elim (cases_eq one serial) [
  | inl same ↦ elim (cases_eq peer holder) [ inl alike ↦ ap (λ n. count_at nodes n peer) same ∙ ap (λ h. count_at nodes serial h) alike | inr apart ↦ absurd (at_false (one == serial) (peer == holder) (ne_eqb peer holder apart) (is ∙ yes_it)) ]
  | inr apart ↦ absurd (first_false (one == serial) (peer == holder) (ne_eqb one serial apart) (is ∙ yes_it))
]
  where
    at_false : (a c : Bool) → c ≡ false → (a && c) ≡ true → ⊥
    at_false true c is_false is_true = cc (sym is_true ∙ is_false)
    at_false false c is_false is_true = cc is_true

    first_false : (a c : Bool) → a ≡ false → (a && c) ≡ true → ⊥
    first_false true c is_false is_true = cc is_false
    first_false false c is_false is_true = cc is_true

-- a reference is counted
pub counted_one : (nodes : Nodes) (one serial peer holder : ℕ) → one < length nodes → peer < length (get_or nodes one no_node).counts → count_at (with_node one (counted peer) nodes) serial holder ≡ count_at nodes serial holder + cond ((one == serial) && (peer == holder)) 1 0
counted_one nodes one serial peer holder within wide =
    set_node nodes one serial peer holder (count_at nodes one peer + 1) (counted peer (get_or nodes one no_node)) within wide refl ∙ at ((one == serial) && (peer == holder)) refl
  where
    at : (b : Bool) → ((one == serial) && (peer == holder)) ≡ b → cond b (count_at nodes one peer + 1) (count_at nodes serial holder) ≡ count_at nodes serial holder + cond b 1 0
    at true is = let same = at_one nodes one serial peer holder true is refl in omega (arith, same)
    at false is = omega arith

-- references are taken back
pub uncounted_some : (nodes : Nodes) (one serial peer holder k : ℕ) → one < length nodes → peer < length (get_or nodes one no_node).counts → k ≤ count_at nodes one peer → count_at (with_node one (uncounted peer k) nodes) serial holder + cond ((one == serial) && (peer == holder)) k 0 ≡ count_at nodes serial holder
uncounted_some nodes one serial peer holder k within wide enough =
    ap (λ n. n + cond ((one == serial) && (peer == holder)) k 0) (set_node nodes one serial peer holder (count_at nodes one peer - k) (uncounted peer k (get_or nodes one no_node)) within wide refl) ∙ at ((one == serial) && (peer == holder)) refl
  where
    at : (b : Bool) → ((one == serial) && (peer == holder)) ≡ b → cond b (count_at nodes one peer - k) (count_at nodes serial holder) + cond b k 0 ≡ count_at nodes serial holder
    at true is = let same = at_one nodes one serial peer holder true is refl in omega (arith, same, enough)
    at false is = omega arith

-- ---- events that leave the counts

pub same_nodes : (x y : PeerPart) → y.nodes ≡ x.nodes → SameCounts x y
same_nodes x y same serial holder = ap (λ ns. count_at ns serial holder) same

pub begin_counts : (r : Option Reason) (memory : Bool) (c : SendCmd) (x : PeerPart) → SameCounts x (begin_by r memory c x).1
begin_counts (Some r) memory c x serial holder = refl
begin_counts None true c x serial holder = refl
begin_counts None false c x serial holder = all_made_counts x.peers (filter is_own c.with) x.nodes serial holder

pub destroy_counts : (r : Option Reason) (doomed : List ℕ) (x : PeerPart) → SameCounts x (destroy_by r doomed x).1
destroy_counts (Some r) doomed x serial holder = refl
destroy_counts None doomed x serial holder = states_counts doomed (in_state Dying) (λ n. refl) x.nodes serial holder

pub doom_counts : (late : List ℕ) (x : PeerPart) (collected : ℕ) (doomed : List ℕ) → SameCounts x (doom_by late x collected doomed)
doom_counts [] x collected doomed serial holder = states_counts doomed (in_state (Destroyed (final_stamp x collected))) (λ n. refl) x.nodes serial holder
doom_counts (peer ∷ rest) x collected doomed serial holder = refl

-- ---- events that change one

pub attach_counts : (x : PeerPart) (one dest serial holder : ℕ) → one < length x.nodes → dest < length (node_at x one).counts → count_of (node_at (attached_by attach.Counted x one dest) serial) holder ≡ count_of (node_at x serial) holder + cond ((one == serial) && (dest == holder)) 1 0
attach_counts x one dest serial holder within wide = counted_one x.nodes one serial dest holder within wide

drop_nodes : (b : Bool) (x : PeerPart) (serial : ℕ) → (with_release_notice b x serial).nodes ≡ x.nodes
drop_nodes false x serial = refl
drop_nodes true x serial = refl

pub drop_counts : (b : Bool) (x : PeerPart) (one peer k clock serial holder : ℕ) → one < length x.nodes → peer < length (node_at x one).counts → k ≤ count_of (node_at x one) peer → count_of (node_at (with_release_notice b (dropped_refs x one peer k clock) one) serial) holder + cond ((one == serial) && (peer == holder)) k 0 ≡ count_of (node_at x serial) holder
drop_counts b x one peer k clock serial holder within wide enough =
    ap (λ ns. count_at ns serial holder + cond ((one == serial) && (peer == holder)) k 0) (drop_nodes b (dropped_refs x one peer k clock) one)
    ∙ uncounted_some x.nodes one serial peer holder k within wide enough
