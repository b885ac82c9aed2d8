-- Clocks are right when a bus begins.
use Rattle.std.proofs.Common.{◌≡◌, refl, sym, ap, subst, ◌∙◌, inl, inr, ℕ, ◌≤◌, true, false, cond, List, length, get_or, Some, None}
use Rattle.std.proofs.lemmas.Bool.{cases_lt}
use Rattle.std.proofs.lemmas.Option.{slice_get_within, get_or_from_slice_get}
use native.Mathlib.Omega.{arith}
use Rattle.b1_model.specs.declared.naming.NodeRef.{NodeRef}
use Rattle.b1_model.specs.declared.naming.Opening.{Opening}
use Rattle.b1_model.specs.declared.parts.NodeState.TheVariants.{Live, Destroyed}
use Rattle.b1_model.specs.Names.{is_own}
use Rattle.b1_model.specs.Opening.{IsOpening}
use Rattle.b1_model.specs.MachineParts.{PeerPart, NodePart, no_node, clock_limit}
use Rattle.b1_model.specs.MachineTables.{counted, with_made}
use Rattle.b1_model.specs.MachineStep.{opening_state, wire_made, wire_counted, wire_held}
use Rattle.b1_step.specs.Rights.{Has}
use Rattle.b1_inv.specs.Words.{IsPeer}
use Rattle.b1_inv.specs.Clocks.{ClocksRight, IsClock, clock_bound}
use Rattle.b1_inv_tools.proofs.Openings.{opening_each, opening_idle}
use Rattle.b1_inv_notices.proofs.Sets.{has_index, has_at_place}
use Rattle.b1_inv_notices.proofs.Nodes.{NodesKept, node_kept, made_kept}
use Rattle.b1_inv_tools.proofs.Facts.{no_stamp}

-- no node is destroyed
abbrev NoneDestroyed : List NodePart → Type 0
NoneDestroyed nodes = (n : NodePart) (stamp : ℕ) → Has nodes n → n.state ≡ Destroyed stamp → ⊥

-- a peer's part at the first clock, without a destroyed node
record IsFirst (o : Opening) (x : PeerPart) : Type 0 where
  clock : x.clock ≡ o.first_clock
  alive : NoneDestroyed x.nodes

still_alive : (ns ms : List NodePart) → NodesKept ns ms → NoneDestroyed ns → NoneDestroyed ms
still_alive ns ms kept alive n stamp h is =
    let at = has_index ms n h in
    let within = slice_get_within ms at.0 n at.1 in
    let same : get_or ms at.0 no_node ≡ n = get_or_from_slice_get ms at.0 n no_node at.1 in
    elim (cases_lt at.0 (length ns)) [
      | inl old ↦ alive (get_or ns at.0 no_node) stamp (has_at_place ns at.0 no_node old) (sym (kept.state at.0 old) ∙ ap (λ m. m.state) same ∙ is)
      | inr new ↦ let both : Live ≡ Destroyed stamp = sym (kept.live at.0 new within) ∙ ap (λ m. m.state) same ∙ is in absurd (cc both)
    ]

module _ (o : Opening) where
  made_first : (number : ℕ) (x : PeerPart) → IsFirst o x → IsFirst o (wire_made number x)
  made_first number x first =
      elim (is_own number) as (λ b. IsFirst o (cond b (record x { nodes = with_made x.peers number x.nodes }) x)) [
        | true ↦ record { clock = first.clock; alive = still_alive x.nodes (with_made x.peers number x.nodes) (made_kept x.peers number x.nodes) first.alive }
        | false ↦ first
      ]

  counted_first : (node : NodeRef) (dest : ℕ) (x : PeerPart) → IsFirst o x → IsFirst o (wire_counted node dest x)
  counted_first node dest x first = record { clock = first.clock; alive = still_alive x.nodes _ (node_kept (counted dest) (λ n. refl) node.serial x.nodes) first.alive }

  held_first : (node : NodeRef) (x : PeerPart) → IsFirst o x → IsFirst o (wire_held node x)
  held_first node x first = record { clock = first.clock; alive = first.alive }

  opening_first : (q : ℕ) (x : PeerPart) → IsPeer (opening_state o) q x → IsFirst o x
  opening_first = opening_each (IsFirst o) made_first counted_first held_first o (λ me spec. record { clock = refl; alive = λ n stamp h is. h })

  first_clock : IsOpening o → (n : ℕ) → n ≡ o.first_clock → IsClock (clock_bound (opening_state o)) n
  first_clock valid n same = (omega (arith, same, valid.even), let most : o.first_clock ≤ clock_limit = valid.clock in omega (arith, same, most))

  pub clocks_begin : IsOpening o → ClocksRight (opening_state o)
  clocks_begin valid = record {
    clock = λ q x is_peer. first_clock valid x.clock (opening_first q x is_peer).clock;
    collected = λ p d doing is_driver is. let none : Some doing ≡ None = sym is ∙ ap (λ e. e.doing) (opening_idle o p d is_driver) in absurd (cc none);
    stamp = λ p d stamp is_driver is. absurd (no_stamp d stamp (ap (λ e. e.doing) (opening_idle o p d is_driver)) is);
    owed = λ p d one is_driver h. absurd (subst (λ owed. Has owed one) (ap (λ e. e.owed) (opening_idle o p d is_driver)) h);
    destroyed = λ q x n stamp is_peer h is. absurd ((opening_first q x is_peer).alive n stamp h is);
  }
