-- The references of all peers to a node against the counts at its owner: they sum up to nothing exactly where no count is above zero.
use Rattle.std.proofs.Common.{◌≡◌, refl, sym, ap, ◌∙◌, ℕ, zero, suc, ◌+◌, ◌<◌, ◌≤◌, ◌==◌, Bool, true, false, ◌&&◌, List, [], ◌∷◌, length, get_or, Some, None}
use Rattle.std.specs.List.{list_all, range_with_len}
use Rattle.std.proofs.lemmas.Bool.{eq-eqb, eqb-true}
use Rattle.std.proofs.lemmas.List.Folds.{sum_by-zero}
use native.Mathlib.Omega.{arith}
use Rattle.b1_model.specs.declared.naming.NodeRef.{NodeRef}
use Rattle.b1_model.specs.declared.naming.Opening.{Opening}
use Rattle.b1_model.specs.MachineParts.{PeerPart, State, no_node, node_at}
use Rattle.b1_model.specs.MachineTables.{count_of, is_unheld}
use Rattle.b1_model.specs.MachineCounts.{fresh, total}
use Rattle.b1_step.proofs.Lists.{has_within}
use Rattle.b1_inv.specs.Words.{IsPeer}
use Rattle.b1_inv.specs.Sound.{IsSound}
use Rattle.b1_inv_peer.proofs.NodeEvents.{held_by_some}

-- a test of every number of a range, where a function has the values of a list there
all_in_range : (passes : ℕ → Bool) (value : ℕ → ℕ) (counts : List ℕ) (from : ℕ) → ((i : ℕ) → value (from + i) ≡ get_or counts i 0) → list_all (λ q. passes (value q)) (range_with_len from (length counts)) ≡ list_all passes counts
all_in_range passes value [] from values = refl
all_in_range passes value (c ∷ rest) from values =
    let first : from ≡ from + 0 = omega arith in
    ap (λ b. b && list_all (λ q. passes (value q)) (range_with_len (from + 1) (length rest))) (ap passes (ap value first ∙ values zero))
    ∙ ap (λ b. passes c && b) (all_in_range passes value rest (from + 1) (λ i. let moved : (from + 1) + i ≡ from + suc i = omega arith in ap value moved ∙ values (suc i)))

-- a number that isn't 0
positive : (n : ℕ) → (n == 0) ≡ false → 0 < n
positive zero is = absurd (cc is)
positive (suc n) is = omega arith

module _ {o : Opening} {s : State} (sound : IsSound o s) (node : NodeRef) (x : PeerPart) (is : IsPeer s node.owner x) (made : node.serial < length x.nodes) where
  -- the owner's count of a peer is what is counted anew
  pub fresh_count : (q : ℕ) → fresh s node q ≡ count_of (node_at x node.serial) q
  fresh_count q = sym (sound.references.counts node q) ∙ ap (λ r. elim r [ None ↦ 0 | Some y ↦ count_of (node_at y node.serial) q ]) is

  -- one test for both
  total_none : (total s node == 0) ≡ is_unheld (node_at x node.serial)
  total_none =
      sum_by-zero (fresh s node) (range_with_len 0 (length s.peers))
      ∙ ap (λ n. list_all (λ q. fresh s node q == 0) (range_with_len 0 n)) (sym (sound.references.widths node.owner x (node_at x node.serial) is (has_within x.nodes node.serial no_node made)))
      ∙ all_in_range (λ k. k == 0) (fresh s node) (node_at x node.serial).counts 0 (λ i. let here : 0 + i ≡ i = omega arith in ap (fresh s node) here ∙ fresh_count i)

  -- nobody has a reference to a node without counts
  pub unheld_total : is_unheld (node_at x node.serial) ≡ true → total s node ≡ 0
  unheld_total unheld = eqb-true (total s node) 0 (total_none ∙ unheld)

  -- and the other way round
  pub total_unheld : total s node ≡ 0 → is_unheld (node_at x node.serial) ≡ true
  total_unheld none = sym total_none ∙ eq-eqb (total s node) 0 none

  -- a holder has a reference
  pub held_total : (holder : ℕ) → 1 ≤ count_of (node_at x node.serial) holder → 0 < total s node
  held_total holder some = positive (total s node) (total_none ∙ held_by_some (node_at x node.serial) holder some)
