use Rattle.std.proofs.Common.{◌≡◌, ℕ, List, ◌++◌, [], refl, ap, sym, ◌∙◌, arith}
use Rattle.std.proofs.lemmas.List.{append-nil}
use Rattle.b1_model.specs.declared.naming.NodeRef.{NodeRef}
use Rattle.b1_model.specs.MachineDestroy.{held_items}
use Rattle.b1_handles.specs.Handles.{Handles}
use Rattle.b1_peer_carried.proofs.Given.{held_items_few, nothing_held}
use Rattle.b1_peer_carried.proofs.flush.give_up_all.Goals as goal

pub loop-node-init : goal.loop-node-init
loop-node-init c = record {
  given = refl;
  items = refl;
  enough = omega (arith, c.requires.room, held_items_few c.args.handles.now.given c.args.handles.now.records);
  singles = omega (arith, c.requires.singles, held_items_few c.args.handles.now.given c.args.handles.now.records);
  room = refl;
  lent = refl;
}

pub returns-clause-items : goal.returns-clause-items
returns-clause-items c =
    let none : held_items c.loop-node.handles.given c.loop-node.handles.records ≡ [] =
    c.in_default.ensures.next
    ∙ ap (λ (t : Handles). held_items t.given t.records) c.in_default.ensures.emptied
    ∙ nothing_held c.loop-node.handles.given in
    sym (append-nil c.loop-node.dead.items)
    ∙ ap (λ (more : List (List (NodeRef × ℕ))). c.loop-node.dead.items ++ more) (sym none)
    ∙ c.loop-node.invariant.items
