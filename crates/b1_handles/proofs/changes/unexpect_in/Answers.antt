use Rattle.std.proofs.Common.{ℕ, ap, refl, subst, sym, ◌<◌, ◌∙◌}
use Rattle.std.specs.Option.{option_copied_mut}
use Rattle.std.specs.BTreeMap.{BTreeMap, values}
use Rattle.b1_model.specs.MachineParts.{HandleRecord}
use Rattle.b1_model.specs.MachineTables.{less_flight}
use Rattle.b1_handles.specs.Records.{settled}
use Rattle.b1_handles.proofs.Keyed.{keyed_by, or_none_there, settled_record, unchanged_absent, values_by}
use Rattle.b1_handles.proofs.changes.unexpect_in.Goals as goal

pub less_flight-requires : goal.less_flight-requires
less_flight-requires c =
    subst (λ (h : HandleRecord). 0 < h.flight)
    (or_none_there c.args.node c.key_of.result c.args.records.now.entries c.key_of.ensures c.requires.keyed c.in-Some.handle.now (sym c.get_mut.ensures.value ∙ ap (λ o. option_copied_mut o) c.in-Some.is))
    c.requires.carried

pub returns-in-Some-clause-keyed : goal.returns-in-Some-clause-keyed
returns-in-Some-clause-keyed c =
    keyed_by _ _
    (c.settle.ensures
    ∙ ap (settled c.args.node) (c.get_mut.follows.holds c.less_flight.new.self).0
    ∙ settled_record c.args.node c.key_of.result c.args.records.now.entries c.key_of.ensures c.requires.keyed less_flight (λ h. refl) c.in-Some.handle.now c.less_flight.new.self (sym c.get_mut.ensures.value ∙ ap (λ o. option_copied_mut o) c.in-Some.is) c.less_flight.ensures)

pub returns-in-Some-clause-records : goal.returns-in-Some-clause-records
returns-in-Some-clause-records c =
    values_by _ _
    (c.settle.ensures
    ∙ ap (settled c.args.node) (c.get_mut.follows.holds c.less_flight.new.self).0
    ∙ settled_record c.args.node c.key_of.result c.args.records.now.entries c.key_of.ensures c.requires.keyed less_flight (λ h. refl) c.in-Some.handle.now c.less_flight.new.self (sym c.get_mut.ensures.value ∙ ap (λ o. option_copied_mut o) c.in-Some.is) c.less_flight.ensures)

pub returns-in_default-clause-records : goal.returns-in_default-clause-records
returns-in_default-clause-records c =
    ap (λ (m : BTreeMap (ℕ × ℕ) HandleRecord). values m) c.get_mut.follows.holds-at-none
    ∙ sym (unchanged_absent c.args.node c.key_of.result c.args.records.now.entries c.key_of.ensures c.requires.keyed less_flight (sym c.get_mut.ensures.value ∙ ap (λ o. option_copied_mut o) c.in_default.is))
