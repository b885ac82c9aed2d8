use Rattle.std.proofs.Common.{◌≡◌, ◌==◌, ℕ, true, false, ap, refl, subst, sym, is_some, ◌∙◌}
use Rattle.std.specs.Option.{option_copied_mut}
use Rattle.b1_model.specs.MachineParts.{HandleRecord}
use Rattle.b1_model.specs.MachineTables.{less_held}
use Rattle.b1_handles.specs.Records.{settled}
use Rattle.b1_handles.proofs.Keyed.{keyed_by, or_none_absent, or_none_there, settled_record, values_by}
use Rattle.b1_handles.proofs.changes.release_in.Goals as goal

pub unreachable-requires : goal.unreachable-requires
unreachable-requires c =
    let e : false ≡ true = subst (λ (h : HandleRecord). is_some h.number ≡ true) (or_none_absent c.args.node c.key_of.result c.args.records.now.entries c.key_of.ensures c.requires.keyed (sym c.get_mut.ensures.value ∙ ap (λ o. option_copied_mut o) c.in_default.is)) c.requires.held in
    cc

pub release-requires : goal.release-requires
release-requires c =
    subst (λ (h : HandleRecord). is_some h.number ≡ true) (or_none_there c.args.node c.key_of.result c.args.records.now.entries c.key_of.ensures c.requires.keyed c.in-Some.handle.now (sym c.get_mut.ensures.value ∙ ap (λ o. option_copied_mut o) c.in-Some.is)) c.requires.held

pub returns-clause-ended : goal.returns-clause-ended
returns-clause-ended c =
    ap (λ (n : ℕ). n == 1) c.held-ended.ensures ∙ sym (ap (λ (h : HandleRecord). h.held == 1) (or_none_there c.args.node c.key_of.result c.args.records.now.entries c.key_of.ensures c.requires.keyed c.in-Some.handle.now (sym c.get_mut.ensures.value ∙ ap (λ o. option_copied_mut o) c.in-Some.is)))

pub returns-clause-keyed : goal.returns-clause-keyed
returns-clause-keyed c =
    keyed_by _ _
    (c.settle.ensures
    ∙ ap (settled c.args.node) (c.get_mut.follows.holds c.release.new.self).0
    ∙ settled_record c.args.node c.key_of.result c.args.records.now.entries c.key_of.ensures c.requires.keyed less_held (λ h. refl) c.in-Some.handle.now c.release.new.self (sym c.get_mut.ensures.value ∙ ap (λ o. option_copied_mut o) c.in-Some.is) c.release.ensures)

pub returns-clause-records : goal.returns-clause-records
returns-clause-records c =
    values_by _ _
    (c.settle.ensures
    ∙ ap (settled c.args.node) (c.get_mut.follows.holds c.release.new.self).0
    ∙ settled_record c.args.node c.key_of.result c.args.records.now.entries c.key_of.ensures c.requires.keyed less_held (λ h. refl) c.in-Some.handle.now c.release.new.self (sym c.get_mut.ensures.value ∙ ap (λ o. option_copied_mut o) c.in-Some.is) c.release.ensures)
