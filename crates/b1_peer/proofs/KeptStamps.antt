-- A peer stays what it is where its dying nodes are destroyed.
use Rattle.std.proofs.Common.{◌≡◌, refl, sym, ap, ◌∙◌, inl, inr, subst, ℕ, ◌<◌, true, false, List, [], ◌∷◌, length, All}
use Rattle.std.proofs.lemmas.List.{length-set}
use Rattle.std.proofs.lemmas.List.Elements.{All-head, All-tail}
use Rattle.b1_model.specs.declared.parts.NodeState.{NodeState}
use Rattle.b1_model.specs.declared.parts.NodeState.TheVariants.{Live, Dying, Destroyed}
use Rattle.b1_model.specs.MachineParts.{NodePart, is_live, is_dying}
use Rattle.b1_model.specs.MachineTables.{in_state, with_node, with_nodes}
use Rattle.b1_step.specs.Rights.{Has}
use Rattle.b1_nodes.specs.Nodes.{Nodes, node_in}
use Rattle.b1_peer_dead.specs.Buffers.{count_at}
use Rattle.b1_inv_peer.specs.Needs.{AreDying}
use Rattle.b1_inv_peer.specs.PeerOk.{IsRoom}
use Rattle.b1_inv_peer.proofs.NodeEvents.{destroyed_ok}
use Rattle.b1_peer.specs.State.{Fields, IsPeer, part_of}

all_has : (P : ℕ → Type 0) (xs : List ℕ) → All P xs → (s : ℕ) → Has xs s → P s
all_has P [] all s h = absurd h
all_has P (x ∷ rest) all s (inl same) = subst P (sym same) (All-head P x rest all)
all_has P (x ∷ rest) all s (inr there) = all_has P rest (All-tail P x rest all) s there

not_live : (state : NodeState) → is_dying state ≡ true → is_live state ≡ false
not_live Live is = absurd (cc is)
not_live Dying is = refl
not_live (Destroyed stamp) is = absurd (cc is)

as_many : (doomed : List ℕ) (f : NodePart → NodePart) (nodes : List NodePart) → length (with_nodes doomed f nodes) ≡ length nodes
as_many [] f nodes = refl
as_many (s ∷ rest) f nodes = as_many rest f (with_node s f nodes) ∙ length-set nodes s (f (node_in nodes s))

pub stamp_kept : (p : Fields) → IsPeer p → (stamp : ℕ) (doomed : List ℕ) (nodes mid : Nodes) → AreDying (part_of p) doomed → mid ≡ record p.nodes { late = [] } → nodes ≡ record mid { nodes = with_nodes doomed (in_state (Destroyed stamp)) mid.nodes } → IsPeer (record p { clock = stamp; nodes = nodes })
stamp_kept p peer stamp doomed nodes mid dying mid_is nodes_are =
    subst (λ t. IsPeer (record p { clock = stamp; nodes = t })) (sym (nodes_are ∙ ap (λ (t : Nodes). record t { nodes = with_nodes doomed (in_state (Destroyed stamp)) t.nodes }) mid_is))
    (record {
      ok =
          destroyed_ok stamp doomed p.me p.nodes.nodes p.store.slices p.mail.queue p.handles.records
          (λ s h. not_live (node_in p.nodes.nodes s).state (all_has (λ r. (r < length p.nodes.nodes) × (is_dying (node_in p.nodes.nodes r).state ≡ true)) doomed dying s h).1)
          peer.ok;
      room = subst (λ n. IsRoom p.mail.queue n p.handles.records p.mail.spare p.dead.room p.dead.singles (count_at p.dead.stacks)) (sym (as_many doomed (in_state (Destroyed stamp)) p.nodes.nodes)) peer.room;
      contents = peer.contents;
      stored = peer.stored;
      owner = peer.owner;
      among = peer.among;
      few = peer.few;
    })
