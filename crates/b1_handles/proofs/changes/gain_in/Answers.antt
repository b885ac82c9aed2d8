use Rattle.std.proofs.Common.{◌==◌, ◌<◌, ◌^◌, arith, ap, refl, subst, sym, ◌∙◌}
use Rattle.std.specs.Prelude.{unwrap_or}
use Rattle.std.specs.Option.{option_copied_mut}
use Rattle.b1_model.specs.MachineParts.{HandleRecord}
use Rattle.b1_model.specs.MachineTables.{is_needed, less_flight, more_held}
use Rattle.b1_handles.proofs.Keyed.{held_needed, kept_record, keyed_by, or_none_absent, or_none_there, values_by}
use Rattle.b1_handles.proofs.changes.gain_in.Goals as goal

pub unreachable-requires : goal.unreachable-requires
unreachable-requires c =
    let none : 0 < 0 = subst (λ (h : HandleRecord). 0 < h.flight) (or_none_absent c.args.node c.key_of.result c.args.records.now.entries c.key_of.ensures c.requires.keyed (sym c.get_mut.ensures.value ∙ ap (λ o. option_copied_mut o) c.in_default.is)) c.requires.carried in
    absurd (omega (arith, none))

pub gain-requires-clause-carried : goal.gain-requires-clause-carried
gain-requires-clause-carried c =
    subst (λ (h : HandleRecord). 0 < h.flight) (or_none_there c.args.node c.key_of.result c.args.records.now.entries c.key_of.ensures c.requires.keyed c.in-Some.handle.now (sym c.get_mut.ensures.value ∙ ap (λ o. option_copied_mut o) c.in-Some.is)) c.requires.carried

pub gain-requires-clause-fits : goal.gain-requires-clause-fits
gain-requires-clause-fits c =
    subst (λ (h : HandleRecord). h.held < 2 ^ 63) (or_none_there c.args.node c.key_of.result c.args.records.now.entries c.key_of.ensures c.requires.keyed c.in-Some.handle.now (sym c.get_mut.ensures.value ∙ ap (λ o. option_copied_mut o) c.in-Some.is)) c.requires.fits

pub returns-clause-number : goal.returns-clause-number
returns-clause-number c =
    c.gain.ensures.number ∙ sym (ap (λ (h : HandleRecord). unwrap_or h.number c.args.next) (or_none_there c.args.node c.key_of.result c.args.records.now.entries c.key_of.ensures c.requires.keyed c.in-Some.handle.now (sym c.get_mut.ensures.value ∙ ap (λ o. option_copied_mut o) c.in-Some.is)))

pub returns-clause-is_new : goal.returns-clause-is_new
returns-clause-is_new c =
    c.gain.ensures.is_new ∙ sym (ap (λ (h : HandleRecord). h.held == 0) (or_none_there c.args.node c.key_of.result c.args.records.now.entries c.key_of.ensures c.requires.keyed c.in-Some.handle.now (sym c.get_mut.ensures.value ∙ ap (λ o. option_copied_mut o) c.in-Some.is)))

pub returns-clause-keyed : goal.returns-clause-keyed
returns-clause-keyed c =
    keyed_by _ _
    ((c.get_mut.follows.holds c.gain.new.self).0
    ∙ kept_record c.args.node c.key_of.result c.args.records.now.entries c.key_of.ensures c.requires.keyed (λ h. more_held c.args.next (less_flight h)) (λ h. refl) c.in-Some.handle.now c.gain.new.self (sym c.get_mut.ensures.value ∙ ap (λ o. option_copied_mut o) c.in-Some.is) c.gain.ensures.gained (ap is_needed c.gain.ensures.gained ∙ held_needed c.args.next (less_flight c.in-Some.handle.now)))

pub returns-clause-records : goal.returns-clause-records
returns-clause-records c =
    values_by _ _
    ((c.get_mut.follows.holds c.gain.new.self).0
    ∙ kept_record c.args.node c.key_of.result c.args.records.now.entries c.key_of.ensures c.requires.keyed (λ h. more_held c.args.next (less_flight h)) (λ h. refl) c.in-Some.handle.now c.gain.new.self (sym c.get_mut.ensures.value ∙ ap (λ o. option_copied_mut o) c.in-Some.is) c.gain.ensures.gained (ap is_needed c.gain.ensures.gained ∙ held_needed c.args.next (less_flight c.in-Some.handle.now)))
