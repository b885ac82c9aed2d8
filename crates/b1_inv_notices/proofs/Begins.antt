-- Notices and stamps are right when a bus begins.
use Rattle.std.proofs.Common.{◌≡◌, refl, sym, ap, subst, ◌∙◌, inl, inr, ℕ, true, false, cond, List, [], length, get_or, Some, None}
use Rattle.std.proofs.lemmas.Bool.{cases_lt}
use Rattle.b1_model.specs.declared.naming.Key.{Key}
use Rattle.b1_model.specs.declared.naming.NodeRef.{NodeRef}
use Rattle.b1_model.specs.declared.naming.Opening.{Opening}
use Rattle.b1_model.specs.declared.entries.Entry.{Entry}
use Rattle.b1_model.specs.Names.{is_own}
use Rattle.b1_model.specs.MachineParts.{PeerPart, DriverPart, NodePart, is_dying, no_node, node_at}
use Rattle.b1_model.specs.MachineTables.{counted, with_made}
use Rattle.b1_model.specs.MachineStep.{opening_state, wire_made, wire_counted, wire_held}
use Rattle.b1_step.specs.Rights.{Has}
use Rattle.b1_inv.specs.Words.{IsPeer, IsDriver}
use Rattle.b1_inv.specs.Notices.{NoticesRight, AreOthers}
use Rattle.b1_inv.specs.Stamps.{StampsRight}
use Rattle.b1_inv_tools.proofs.Openings.{opening_each, opening_idle}
use Rattle.b1_inv_notices.proofs.Sets.{others_none}
use Rattle.b1_inv_notices.proofs.Nodes.{NodesKept, node_kept, made_kept}
use Rattle.b1_inv_tools.proofs.Facts.{no_stamp}

-- nothing is queued, nobody is late, and no node is dying
pub record IsStill (x : PeerPart) : Type 0 where
  pub queue : x.queue ≡ []
  pub late : x.late ≡ []
  pub alive : (serial : ℕ) → is_dying (node_at x serial).state ≡ false

still_alive : (ns ms : List NodePart) → NodesKept ns ms → ((serial : ℕ) → is_dying (get_or ns serial no_node).state ≡ false) → (serial : ℕ) → is_dying (get_or ms serial no_node).state ≡ false
still_alive ns ms kept alive serial = elim (cases_lt serial (length ns)) [ inl within ↦ ap is_dying (kept.state serial within) ∙ alive serial | inr past ↦ kept.new serial past ]

made_still : (number : ℕ) (x : PeerPart) → IsStill x → IsStill (wire_made number x)
made_still number x still =
    elim (is_own number) as (λ b. IsStill (cond b (record x { nodes = with_made x.peers number x.nodes }) x)) [
      | true ↦ record { queue = still.queue; late = still.late; alive = still_alive x.nodes (with_made x.peers number x.nodes) (made_kept x.peers number x.nodes) still.alive }
      | false ↦ still
    ]

counted_still : (node : NodeRef) (dest : ℕ) (x : PeerPart) → IsStill x → IsStill (wire_counted node dest x)
counted_still node dest x still = record { queue = still.queue; late = still.late; alive = still_alive x.nodes _ (node_kept (counted dest) (λ n. refl) node.serial x.nodes) still.alive }

held_still : (node : NodeRef) (x : PeerPart) → IsStill x → IsStill (wire_held node x)
held_still node x still = record { queue = still.queue; late = still.late; alive = still.alive }

module _ (o : Opening) where
  opening_still : (q : ℕ) (x : PeerPart) → IsPeer (opening_state o) q x → IsStill x
  opening_still = opening_each IsStill made_still counted_still held_still o (λ me spec. record { queue = refl; late = refl; alive = λ serial. refl })

  none_open : (p : ℕ) (d : DriverPart) → IsDriver (opening_state o) p d → d.doing ≡ None
  none_open p d is = ap (λ e. e.doing) (opening_idle o p d is)

  none_queued : {P : Type 0} → (q : ℕ) (x : PeerPart) (f : Key × Entry) → IsPeer (opening_state o) q x → Has x.queue f → P
  none_queued q x f is h = absurd (subst (λ queue. Has queue f) (opening_still q x is).queue h)

  pub notices_begin : NoticesRight (opening_state o)
  notices_begin = record {
    shape = λ p d x doing is_driver is_peer is. let none : Some doing ≡ None = sym is ∙ none_open p d is_driver in absurd (cc none);
    dying = λ p d x serial is_driver is_peer is. let both : true ≡ false = sym is ∙ (opening_still p x is_peer).alive serial in absurd (cc both);
    late = λ p d x is_driver is_peer. (subst (AreOthers x.peers x.me) (sym (opening_still p x is_peer).late) (others_none x.peers x.me), inl (opening_still p x is_peer).late);
    queued = λ q x f is_peer h. none_queued q x f is_peer h;
  }

  pub stamps_begin : StampsRight (opening_state o)
  stamps_begin = record {
    fixed = λ p d x stamp is_driver is_peer is. absurd (no_stamp d stamp (none_open p d is_driver) is);
    committed = λ q x f is_peer h staged origin. none_queued q x f is_peer h;
  }
