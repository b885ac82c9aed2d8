use Rattle.std.proofs.Common.{ℕ, List, ap, refl, subst, sym, Option, is_none, ◌∙◌}
use Rattle.std.specs.Option.{option_copied_mut}
use Rattle.std.specs.BTreeMap.{BTreeMap, insert_entry}
use Rattle.std.specs.Map.{values_of}
use Rattle.std.proofs.lemmas.Map.Steps.{set_value_same}
use Rattle.b1_model.specs.MachineParts.{HandleRecord}
use Rattle.b1_model.specs.MachineTables.{more_flight}
use Rattle.b1_handles.specs.Records.{key_cmp, IsKeyed}
use Rattle.b1_handles.proofs.Keyed.{keyed_by, lookup_record, made_new, made_there, values_by}
use Rattle.b1_handles.proofs.changes.expect_in.Goals as goal

pub returns-then-flight-clause-keyed : goal.returns-then-flight-clause-keyed
returns-then-flight-clause-keyed c =
    subst IsKeyed (sym ((c.get_mut.follows.holds c.in-Some.handle.now).0 ∙ set_value_same _ _ _ (sym c.get_mut.ensures.value ∙ ap (λ o. option_copied_mut o) c.in-Some.is))) c.requires.keyed

pub returns-then-flight-clause-unchanged : goal.returns-then-flight-clause-unchanged
returns-then-flight-clause-unchanged c =
    ap (λ (es : List ((ℕ × ℕ) × HandleRecord)). values_of es) ((c.get_mut.follows.holds c.in-Some.handle.now).0 ∙ set_value_same _ _ _ (sym c.get_mut.ensures.value ∙ ap (λ o. option_copied_mut o) c.in-Some.is))

pub returns-in-Some-clause-made : goal.returns-in-Some-clause-made
returns-in-Some-clause-made c =
    sym (ap (λ (o : Option HandleRecord). is_none o) (sym (lookup_record c.args.node c.key_of.result c.args.records.now.entries c.key_of.ensures c.requires.keyed) ∙ (sym c.get_mut.ensures.value ∙ ap (λ o. option_copied_mut o) c.in-Some.is)))

pub returns-clause-made : goal.returns-clause-made
returns-clause-made c =
    sym (ap (λ (o : Option HandleRecord). is_none o) (sym (lookup_record c.args.node c.key_of.result c.args.records.now.entries c.key_of.ensures c.requires.keyed) ∙ (sym c.get_mut.ensures.value ∙ ap (λ o. option_copied_mut o) c.in_default.is)))

pub returns-in-Some-clause-keyed : goal.returns-in-Some-clause-keyed
returns-in-Some-clause-keyed c =
    keyed_by _ _
    ((c.get_mut.follows.holds c.more_flight.new.self).0
    ∙ made_there c.args.node c.key_of.result c.args.records.now.entries c.key_of.ensures c.requires.keyed more_flight (λ h. refl) c.in-Some.handle.now c.more_flight.new.self (sym c.get_mut.ensures.value ∙ ap (λ o. option_copied_mut o) c.in-Some.is) c.more_flight.ensures c.requires.ordered)

pub returns-in-Some-clause-records : goal.returns-in-Some-clause-records
returns-in-Some-clause-records c =
    values_by _ _
    ((c.get_mut.follows.holds c.more_flight.new.self).0
    ∙ made_there c.args.node c.key_of.result c.args.records.now.entries c.key_of.ensures c.requires.keyed more_flight (λ h. refl) c.in-Some.handle.now c.more_flight.new.self (sym c.get_mut.ensures.value ∙ ap (λ o. option_copied_mut o) c.in-Some.is) c.more_flight.ensures c.requires.ordered)

pub returns-clause-keyed : goal.returns-clause-keyed
returns-clause-keyed c =
    keyed_by _ _
    (c.in_ok-insert.ensures.entries
    ∙ ap (λ (m : BTreeMap (ℕ × ℕ) HandleRecord). insert_entry key_cmp m.entries c.key_of-2.result c.more_flight-2.new.self) c.get_mut.follows.holds-at-none
    ∙ made_new c.args.node c.key_of-2.result c.args.records.now.entries c.key_of-2.ensures c.requires.keyed more_flight (λ h. refl) c.more_flight-2.new.self (sym (lookup_record c.args.node c.key_of.result c.args.records.now.entries c.key_of.ensures c.requires.keyed) ∙ (sym c.get_mut.ensures.value ∙ ap (λ o. option_copied_mut o) c.in_default.is)) (c.more_flight-2.ensures ∙ ap more_flight c.new-handle.ensures))

pub returns-clause-records : goal.returns-clause-records
returns-clause-records c =
    values_by _ _
    (c.in_ok-insert.ensures.entries
    ∙ ap (λ (m : BTreeMap (ℕ × ℕ) HandleRecord). insert_entry key_cmp m.entries c.key_of-2.result c.more_flight-2.new.self) c.get_mut.follows.holds-at-none
    ∙ made_new c.args.node c.key_of-2.result c.args.records.now.entries c.key_of-2.ensures c.requires.keyed more_flight (λ h. refl) c.more_flight-2.new.self (sym (lookup_record c.args.node c.key_of.result c.args.records.now.entries c.key_of.ensures c.requires.keyed) ∙ (sym c.get_mut.ensures.value ∙ ap (λ o. option_copied_mut o) c.in_default.is)) (c.more_flight-2.ensures ∙ ap more_flight c.new-handle.ensures))
