use Rattle.std.proofs.Common.{◌<◌, length, get_or, take, ap, refl, ◌∙◌, arith}
use Rattle.b1_model.specs.declared.parts.NodeState.TheVariants.{Destroyed}
use Rattle.b1_model.specs.MachineTables.{in_state}
use Rattle.b1_nodes.proofs.NodeLemmas.{change_more, AreNodes-set, length-with_nodes}
use Rattle.b1_nodes.proofs.IndexLemmas.{alike-set}
use Rattle.b1_nodes.proofs.serials.destroy_all.Goals as goal

pub loop-serial-preserved : goal.loop-serial-preserved
loop-serial-preserved c =
    let f = in_state (Destroyed c.args.stamp) in
    let made : get_or c.args.serials.now c.loop-serial.serial-index 0 < length c.loop-serial.nodes.items =
    omega (arith, c.requires c.loop-serial.serial-index 0 c.loop-serial-test.true, ap length c.loop-serial.invariant.nodes, length-with_nodes (take c.loop-serial.serial-index c.args.serials.now) f c.args.nodes.now.items) in
    record {
      nodes = change_more f c.args.nodes.now.items c.loop-serial.nodes.items c.args.serials.now c.loop-serial.serial-index c.index_mut.result.now c.destroy.new.self c.loop-serial-test.true c.loop-serial.invariant.nodes made c.index_mut.ensures.value c.destroy.ensures;
      kept = λ peers are. AreNodes-set peers c.loop-serial.nodes.items (get_or c.args.serials.now c.loop-serial.serial-index 0) c.index_mut.result.now c.destroy.new.self f (λ n. refl) (λ n. refl) made c.index_mut.ensures.value c.destroy.ensures (c.loop-serial.invariant.kept peers are);
      numbers = λ number. alike-set c.loop-serial.nodes.items (get_or c.args.serials.now c.loop-serial.serial-index 0) c.index_mut.result.now c.destroy.new.self f (λ n. refl) made c.index_mut.ensures.value c.destroy.ensures number ∙ c.loop-serial.invariant.numbers number;
      capacity = c.loop-serial.invariant.capacity;
      len = c.loop-serial.invariant.len;
    }
