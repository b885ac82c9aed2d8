use Rattle.std.proofs.Common.{◌<◌, not, length, get_or, refl, ◌∙◌}
use Rattle.b1_model.specs.declared.parts.NodeState.TheVariants.{Dying}
use Rattle.b1_model.specs.MachineParts.{is_destroyed}
use Rattle.b1_model.specs.MachineTables.{in_state}
use Rattle.b1_nodes.proofs.NodeLemmas.{change_more, AreNodes-set, AllMade-set}
use Rattle.b1_nodes.proofs.IndexLemmas.{alike-set}
use Rattle.b1_nodes.proofs.serials.doom_all.Goals as goal

pub loop-serial-preserved : goal.loop-serial-preserved
loop-serial-preserved c =
    let made : get_or c.args.serials.now c.loop-serial.serial-index 0 < length c.loop-serial.nodes.items = (c.loop-serial.invariant.made c.loop-serial.serial-index 0 c.loop-serial-test.true).0 in
    record {
      nodes = change_more (in_state Dying) c.args.nodes.now.items c.loop-serial.nodes.items c.args.serials.now c.loop-serial.serial-index c.index_mut.result.now c.doom.new.self c.loop-serial-test.true c.loop-serial.invariant.nodes made c.index_mut.ensures.value c.doom.ensures;
      made = AllMade-set (λ n. not (is_destroyed n.state)) (in_state Dying) c.loop-serial.nodes.items c.args.serials.now (get_or c.args.serials.now c.loop-serial.serial-index 0) c.index_mut.result.now c.doom.new.self (λ n passes. refl) made c.index_mut.ensures.value c.doom.ensures c.loop-serial.invariant.made;
      kept = λ peers are. AreNodes-set peers c.loop-serial.nodes.items (get_or c.args.serials.now c.loop-serial.serial-index 0) c.index_mut.result.now c.doom.new.self (in_state Dying) (λ n. refl) (λ n. refl) made c.index_mut.ensures.value c.doom.ensures (c.loop-serial.invariant.kept peers are);
      numbers = λ number. alike-set c.loop-serial.nodes.items (get_or c.args.serials.now c.loop-serial.serial-index 0) c.index_mut.result.now c.doom.new.self (in_state Dying) (λ n. refl) made c.index_mut.ensures.value c.doom.ensures number ∙ c.loop-serial.invariant.numbers number;
      capacity = c.loop-serial.invariant.capacity;
      len = c.loop-serial.invariant.len;
    }
