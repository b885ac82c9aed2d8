use Rattle.std.proofs.Common.{sym, ◌∙◌, arith}
use Rattle.std.proofs.lemmas.List.{length-drop, get_or_default}
use Rattle.b1_model.specs.declared.naming.NodeRef.{NodeRef}
use Rattle.b1_driver.proofs.Drops.{none_left, one_left, gathered_all, gathered_one}
use Rattle.b1_driver.proofs.owing.add_references.Goals as goal

pub returns-in_default-clause-items : goal.returns-in_default-clause-items
returns-in_default-clause-items c = gathered_all _ _ _ _ (none_left c.args.slots.now c.loop-index.index (sym c.in_default.ensures)) c.loop-index.invariant.rest

pub loop-index-preserved : goal.loop-index-preserved
loop-index-preserved c = record {
  rest = gathered_one _ _ _ _ _ _ _ _ _ c.loop-index-test.true (get_or_default c.args.nodes.now c.loop-index.index _ _ c.loop-index-test.true) (one_left c.args.slots.now c.loop-index.index c.in-Some.slot c.in-Some.ensures) c.add_reference.ensures.items c.loop-index.invariant.rest;
  room = omega (arith, c.add_reference.ensures.len, c.add_reference.ensures.capacity, c.loop-index.invariant.room, length-drop {A = NodeRef});
  capacity = c.add_reference.ensures.capacity ∙ c.loop-index.invariant.capacity;
}
