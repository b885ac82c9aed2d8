-- When a bus begins each node is live and nothing is queued, so nobody has to be covered.
use Rattle.std.proofs.Common.{◌≡◌, refl, sym, ap, subst, ◌∙◌, inl, inr, ℕ, ◌<◌, true, false, cond, List, get_or, length}
use Rattle.std.proofs.lemmas.Bool.{cases_lt}
use Rattle.std.proofs.lemmas.Option.{same_Some}
use native.Mathlib.Omega.{arith}
use Rattle.b1_model.specs.declared.naming.Opening.{Opening}
use Rattle.b1_model.specs.declared.parts.NodeState.TheVariants.{Live}
use Rattle.b1_model.specs.Names.{is_own}
use Rattle.b1_model.specs.MachineParts.{PeerPart, NodePart, no_node, node_at, is_live}
use Rattle.b1_model.specs.MachineTables.{with_made, counted}
use Rattle.b1_model.specs.MachineStep.{wire_made, opening_state}
use Rattle.b1_model.specs.Opening.{IsOpening}
use Rattle.b1_step.specs.Rights.{Has}
use Rattle.b1_inv.specs.Words.{IsPeer}
use Rattle.b1_inv_record.specs.Holders.{HolderCovered}
use Rattle.b1_inv_tools.proofs.Openings.{opening_each}
use Rattle.b1_inv_sends.proofs.StagesKept.{opening_queue}
use Rattle.b1_inv_notices.proofs.Nodes.{NodesKept, node_kept, made_kept}
use Rattle.b1_inv_refs.proofs.Laying.{flights_opening}

-- each made node is live
abbrev AllLive : PeerPart → Type 0
AllLive x = (serial : ℕ) → serial < length x.nodes → (node_at x serial).state ≡ Live

still_live : (ns ms : List NodePart) → NodesKept ns ms → ((serial : ℕ) → serial < length ns → (get_or ns serial no_node).state ≡ Live) → (serial : ℕ) → serial < length ms → (get_or ms serial no_node).state ≡ Live
still_live ns ms kept alive serial within = elim (cases_lt serial (length ns)) [ inl there ↦ kept.state serial there ∙ alive serial there | inr past ↦ kept.live serial past within ]

made_live : (number : ℕ) (x : PeerPart) → AllLive x → AllLive (wire_made number x)
made_live number x alive =
    elim (is_own number) as (λ b. AllLive (cond b (record x { nodes = with_made x.peers number x.nodes }) x)) [
      | true ↦ still_live x.nodes (with_made x.peers number x.nodes) (made_kept x.peers number x.nodes) alive
      | false ↦ alive
    ]

opening_live : (o : Opening) (q : ℕ) (x : PeerPart) → IsPeer (opening_state o) q x → AllLive x
opening_live o = opening_each AllLive made_live (λ node dest x alive. still_live x.nodes _ (node_kept (counted dest) (λ n. refl) node.serial x.nodes) alive) (λ node x alive. alive) o (λ me spec serial within. absurd (omega (arith, within)))

pub covered_begins : (o : Opening) → IsOpening o → HolderCovered (opening_state o)
covered_begins o valid = record {
  held = λ q x h y e is_peer there some is_owner is_driver dead.
      let made = (flights_opening o valid).made q x h is_peer there in
      let same : made.0 ≡ y = same_Some made.0 y (sym made.1 ∙ is_owner) in
      let alive = opening_live o h.node.owner y is_owner h.node.serial (subst (λ z. h.node.serial < length z.nodes) same made.2) in
      let both : true ≡ false = sym (ap is_live alive) ∙ dead in absurd (cc both);
  carried = λ q j x f node y e is_peer there node_is slot_is is_owner is_driver dead. absurd (subst (λ queue. Has queue f) (opening_queue o q x is_peer) there);
}
