use Rattle.std.proofs.Common.{◌==◌, ◌<◌, ◌^◌, ℕ, ap, refl, subst, sym, ◌∙◌}
use Rattle.std.specs.Prelude.{unwrap_or}
use Rattle.std.specs.Option.{option_copied_mut}
use Rattle.std.specs.BTreeMap.{BTreeMap, insert_entry}
use Rattle.b1_model.specs.MachineParts.{HandleRecord}
use Rattle.b1_model.specs.MachineTables.{more_held}
use Rattle.b1_handles.specs.Records.{key_cmp}
use Rattle.b1_handles.proofs.Keyed.{keyed_by, lookup_record, made_new, made_there, or_none_absent, or_none_there, values_by}
use Rattle.b1_handles.proofs.changes.wire_in.Goals as goal

pub hold-requires : goal.hold-requires
hold-requires c =
    subst (λ (h : HandleRecord). h.held < 2 ^ 63) (or_none_there c.args.node c.key_of.result c.args.records.now.entries c.key_of.ensures c.requires.keyed c.in-Some.handle.now (sym c.get_mut.ensures.value ∙ ap (λ o. option_copied_mut o) c.in-Some.is)) c.requires.fits

pub returns-in-Some-clause-number : goal.returns-in-Some-clause-number
returns-in-Some-clause-number c =
    c.hold.ensures.number ∙ sym (ap (λ (h : HandleRecord). unwrap_or h.number c.args.next) (or_none_there c.args.node c.key_of.result c.args.records.now.entries c.key_of.ensures c.requires.keyed c.in-Some.handle.now (sym c.get_mut.ensures.value ∙ ap (λ o. option_copied_mut o) c.in-Some.is)))

pub returns-in-Some-clause-is_new : goal.returns-in-Some-clause-is_new
returns-in-Some-clause-is_new c =
    c.hold.ensures.is_new ∙ sym (ap (λ (h : HandleRecord). h.held == 0) (or_none_there c.args.node c.key_of.result c.args.records.now.entries c.key_of.ensures c.requires.keyed c.in-Some.handle.now (sym c.get_mut.ensures.value ∙ ap (λ o. option_copied_mut o) c.in-Some.is)))

pub returns-clause-number : goal.returns-clause-number
returns-clause-number c =
    c.hold-held.ensures.number ∙ ap (λ (h : HandleRecord). unwrap_or h.number c.args.next) c.new-handle.ensures ∙ sym (ap (λ (h : HandleRecord). unwrap_or h.number c.args.next) (or_none_absent c.args.node c.key_of.result c.args.records.now.entries c.key_of.ensures c.requires.keyed (sym c.get_mut.ensures.value ∙ ap (λ o. option_copied_mut o) c.in_default.is)))

pub returns-clause-is_new : goal.returns-clause-is_new
returns-clause-is_new c =
    c.hold-held.ensures.is_new ∙ ap (λ (h : HandleRecord). h.held == 0) c.new-handle.ensures ∙ sym (ap (λ (h : HandleRecord). h.held == 0) (or_none_absent c.args.node c.key_of.result c.args.records.now.entries c.key_of.ensures c.requires.keyed (sym c.get_mut.ensures.value ∙ ap (λ o. option_copied_mut o) c.in_default.is)))

pub returns-in-Some-clause-keyed : goal.returns-in-Some-clause-keyed
returns-in-Some-clause-keyed c =
    keyed_by _ _
    ((c.get_mut.follows.holds c.hold.new.self).0
    ∙ made_there c.args.node c.key_of.result c.args.records.now.entries c.key_of.ensures c.requires.keyed (more_held c.args.next) (λ h. refl) c.in-Some.handle.now c.hold.new.self (sym c.get_mut.ensures.value ∙ ap (λ o. option_copied_mut o) c.in-Some.is) c.hold.ensures.held c.requires.ordered)

pub returns-in-Some-clause-records : goal.returns-in-Some-clause-records
returns-in-Some-clause-records c =
    values_by _ _
    ((c.get_mut.follows.holds c.hold.new.self).0
    ∙ made_there c.args.node c.key_of.result c.args.records.now.entries c.key_of.ensures c.requires.keyed (more_held c.args.next) (λ h. refl) c.in-Some.handle.now c.hold.new.self (sym c.get_mut.ensures.value ∙ ap (λ o. option_copied_mut o) c.in-Some.is) c.hold.ensures.held c.requires.ordered)

pub returns-clause-keyed : goal.returns-clause-keyed
returns-clause-keyed c =
    keyed_by _ _
    (c.in_ok-insert.ensures.entries
    ∙ ap (λ (m : BTreeMap (ℕ × ℕ) HandleRecord). insert_entry key_cmp m.entries c.key_of-2.result c.hold-held.new.self) c.get_mut.follows.holds-at-none
    ∙ made_new c.args.node c.key_of-2.result c.args.records.now.entries c.key_of-2.ensures c.requires.keyed (more_held c.args.next) (λ h. refl) c.hold-held.new.self (sym (lookup_record c.args.node c.key_of.result c.args.records.now.entries c.key_of.ensures c.requires.keyed) ∙ (sym c.get_mut.ensures.value ∙ ap (λ o. option_copied_mut o) c.in_default.is)) (c.hold-held.ensures.held ∙ ap (more_held c.args.next) c.new-handle.ensures))

pub returns-clause-records : goal.returns-clause-records
returns-clause-records c =
    values_by _ _
    (c.in_ok-insert.ensures.entries
    ∙ ap (λ (m : BTreeMap (ℕ × ℕ) HandleRecord). insert_entry key_cmp m.entries c.key_of-2.result c.hold-held.new.self) c.get_mut.follows.holds-at-none
    ∙ made_new c.args.node c.key_of-2.result c.args.records.now.entries c.key_of-2.ensures c.requires.keyed (more_held c.args.next) (λ h. refl) c.hold-held.new.self (sym (lookup_record c.args.node c.key_of.result c.args.records.now.entries c.key_of.ensures c.requires.keyed) ∙ (sym c.get_mut.ensures.value ∙ ap (λ o. option_copied_mut o) c.in_default.is)) (c.hold-held.ensures.held ∙ ap (more_held c.args.next) c.new-handle.ensures))
