use Rattle.std.proofs.Common.{ℕ, ap, refl, sym, ◌∙◌}
use Rattle.std.specs.Option.{option_copied_mut}
use Rattle.std.specs.BTreeMap.{BTreeMap, values}
use Rattle.b1_model.specs.MachineParts.{HandleRecord}
use Rattle.b1_model.specs.MachineTables.{made_dead}
use Rattle.b1_handles.specs.Records.{settled}
use Rattle.b1_handles.proofs.Keyed.{keyed_by, settled_record, unchanged_absent, values_by}
use Rattle.b1_handles.proofs.changes.mark_dead_in.Goals as goal

pub returns-in-Some-clause-keyed : goal.returns-in-Some-clause-keyed
returns-in-Some-clause-keyed c =
    keyed_by _ _
    (c.settle.ensures
    ∙ ap (settled c.args.node) (c.get_mut.follows.holds c.kill.new.self).0
    ∙ settled_record c.args.node c.key_of.result c.args.records.now.entries c.key_of.ensures c.requires.keyed made_dead (λ h. refl) c.in-Some.handle.now c.kill.new.self (sym c.get_mut.ensures.value ∙ ap (λ o. option_copied_mut o) c.in-Some.is) c.kill.ensures)

pub returns-in-Some-clause-records : goal.returns-in-Some-clause-records
returns-in-Some-clause-records c =
    values_by _ _
    (c.settle.ensures
    ∙ ap (settled c.args.node) (c.get_mut.follows.holds c.kill.new.self).0
    ∙ settled_record c.args.node c.key_of.result c.args.records.now.entries c.key_of.ensures c.requires.keyed made_dead (λ h. refl) c.in-Some.handle.now c.kill.new.self (sym c.get_mut.ensures.value ∙ ap (λ o. option_copied_mut o) c.in-Some.is) c.kill.ensures)

pub returns-in_default-clause-records : goal.returns-in_default-clause-records
returns-in_default-clause-records c =
    ap (λ (m : BTreeMap (ℕ × ℕ) HandleRecord). values m) c.get_mut.follows.holds-at-none
    ∙ sym (unchanged_absent c.args.node c.key_of.result c.args.records.now.entries c.key_of.ensures c.requires.keyed made_dead (sym c.get_mut.ensures.value ∙ ap (λ o. option_copied_mut o) c.in_default.is))
