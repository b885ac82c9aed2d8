use Rattle.std.proofs.Common.{ℕ, List, false, not, ap, refl, subst, sym, Option, None, Some, ◌∙◌}
use Rattle.std.specs.Option.{option_copied_mut}
use Rattle.std.specs.Map.{values_of}
use Rattle.b1_model.specs.MachineParts.{HandleRecord}
use Rattle.b1_model.specs.MachineTables.{is_needed, noticed}
use Rattle.b1_handles.specs.Records.{IsKeyed}
use Rattle.std.proofs.lemmas.Map.Steps.{set_value_same}
use Rattle.b1_handles.proofs.Keyed.{kept_record, keyed_by, lookup_record, notice_needed, values_by}
use Rattle.b1_handles.proofs.changes.notify_in.Goals as goal

pub returns-in_default-clause-needed : goal.returns-in_default-clause-needed
returns-in_default-clause-needed c =
    sym (ap (λ (o : Option HandleRecord). elim o [ None ↦ false | Some h ↦ not h.notice ]) (sym (lookup_record c.args.node c.key_of.result c.args.records.now.entries c.key_of.ensures c.requires.keyed) ∙ (sym c.get_mut.ensures.value ∙ ap (λ o. option_copied_mut o) c.in_default.is)))

pub returns-then-has_notice-clause-needed : goal.returns-then-has_notice-clause-needed
returns-then-has_notice-clause-needed c =
    ap not (sym c.if-has_notice.true ∙ c.has_notice.ensures) ∙ sym (ap (λ (o : Option HandleRecord). elim o [ None ↦ false | Some h ↦ not h.notice ]) (sym (lookup_record c.args.node c.key_of.result c.args.records.now.entries c.key_of.ensures c.requires.keyed) ∙ (sym c.get_mut.ensures.value ∙ ap (λ o. option_copied_mut o) c.in-Some.is)))

pub returns-then-has_notice-clause-keyed : goal.returns-then-has_notice-clause-keyed
returns-then-has_notice-clause-keyed c =
    subst IsKeyed (sym ((c.get_mut.follows.holds c.in-Some.handle.now).0 ∙ set_value_same _ _ _ (sym c.get_mut.ensures.value ∙ ap (λ o. option_copied_mut o) c.in-Some.is))) c.requires.keyed

pub returns-then-has_notice-clause-records : goal.returns-then-has_notice-clause-records
returns-then-has_notice-clause-records c =
    ap (λ (es : List ((ℕ × ℕ) × HandleRecord)). values_of es) ((c.get_mut.follows.holds c.in-Some.handle.now).0 ∙ set_value_same _ _ _ (sym c.get_mut.ensures.value ∙ ap (λ o. option_copied_mut o) c.in-Some.is))

pub returns-clause-needed : goal.returns-clause-needed
returns-clause-needed c =
    ap not (sym c.if-has_notice.false ∙ c.has_notice.ensures) ∙ sym (ap (λ (o : Option HandleRecord). elim o [ None ↦ false | Some h ↦ not h.notice ]) (sym (lookup_record c.args.node c.key_of.result c.args.records.now.entries c.key_of.ensures c.requires.keyed) ∙ (sym c.get_mut.ensures.value ∙ ap (λ o. option_copied_mut o) c.in-Some.is)))

pub returns-clause-keyed : goal.returns-clause-keyed
returns-clause-keyed c =
    keyed_by _ _
    ((c.get_mut.follows.holds c.notify.new.self).0
    ∙ kept_record c.args.node c.key_of.result c.args.records.now.entries c.key_of.ensures c.requires.keyed noticed (λ h. refl) c.in-Some.handle.now c.notify.new.self (sym c.get_mut.ensures.value ∙ ap (λ o. option_copied_mut o) c.in-Some.is) c.notify.ensures (ap is_needed c.notify.ensures ∙ notice_needed c.in-Some.handle.now))

pub returns-clause-records : goal.returns-clause-records
returns-clause-records c =
    values_by _ _
    ((c.get_mut.follows.holds c.notify.new.self).0
    ∙ kept_record c.args.node c.key_of.result c.args.records.now.entries c.key_of.ensures c.requires.keyed noticed (λ h. refl) c.in-Some.handle.now c.notify.new.self (sym c.get_mut.ensures.value ∙ ap (λ o. option_copied_mut o) c.in-Some.is) c.notify.ensures (ap is_needed c.notify.ensures ∙ notice_needed c.in-Some.handle.now))
