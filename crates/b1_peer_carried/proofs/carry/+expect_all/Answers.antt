use Rattle.std.proofs.Common.{◌≡◌, ◌<◌, get_or, ap, sym, subst, ◌∙◌, rules}
use Rattle.b1_model.specs.declared.naming.NodeRef.{NodeRef}
use Rattle.b1_model.specs.MachineParts.{record_or_none}
use Rattle.b1_model.specs.MachineTables.{changed, changed_or_made, more_flight, less_flight}
use Rattle.b1_handles.specs.Handles.{Handles}
use Rattle.b1_peer_carried.specs.Carry.{AreNeeded}
use Rattle.b1_peer_carried.proofs.Records.{flight_made, more_is_needed, needed_changed_or_made, taken_back}
use Rattle.b1_peer_carried.proofs.carry.+expect_all.Goals as goal

pub expect_all-requires-2 : goal.expect_all-requires-2
expect_all-requires-2 t c =
    let node : NodeRef = get_or c.args.nodes.now 0 (record { owner = 0; serial = 0 }) in
    let made : c.expect.new.self ≡ record c.args.handles.now { records = changed_or_made node more_flight c.args.handles.now.records } = search rules in (
      search rules,
      subst (λ (t : Handles). AreNeeded t.records) (sym made) (needed_changed_or_made node more_flight more_is_needed c.args.handles.now.records c.requires),
    )

pub unexpect-requires : goal.unexpect-requires
unexpect-requires t c =
    let node : NodeRef = get_or c.args.nodes.now 0 (record { owner = 0; serial = 0 }) in
    let unchanged : c.expect_all-2.new.handles ≡ c.expect.new.self = search rules in
    let made : c.expect.new.self ≡ record c.args.handles.now { records = changed_or_made node more_flight c.args.handles.now.records } = search rules in
    subst (λ (t : Handles). 0 < (record_or_none node t.records).flight) (sym (unchanged ∙ made)) (flight_made node c.args.handles.now.records)

pub returns-then-is_err-clause-unchanged : goal.returns-then-is_err-clause-unchanged
returns-then-is_err-clause-unchanged t c =
    let node : NodeRef = get_or c.args.nodes.now 0 (record { owner = 0; serial = 0 }) in
    let unchanged : c.expect_all-2.new.handles ≡ c.expect.new.self = search rules in
    let made : c.expect.new.self ≡ record c.args.handles.now { records = changed_or_made node more_flight c.args.handles.now.records } = search rules in
    c.unexpect.ensures
    ∙ ap (λ (t : Handles). record t { records = changed node less_flight t.records }) (unchanged ∙ made)
    ∙ ap (λ hs. record c.args.handles.now { records = hs }) (taken_back node c.args.handles.now.records c.requires)

pub returns-then-is_err-clause-needed : goal.returns-then-is_err-clause-needed
returns-then-is_err-clause-needed t c =
    let node : NodeRef = get_or c.args.nodes.now 0 (record { owner = 0; serial = 0 }) in
    let unchanged : c.expect_all-2.new.handles ≡ c.expect.new.self = search rules in
    let made : c.expect.new.self ≡ record c.args.handles.now { records = changed_or_made node more_flight c.args.handles.now.records } = search rules in
    let back : c.unexpect.new.self ≡ record c.args.handles.now { records = changed node less_flight (changed_or_made node more_flight c.args.handles.now.records) } =
    c.unexpect.ensures ∙ ap (λ (t : Handles). record t { records = changed node less_flight t.records }) (unchanged ∙ made) in
    subst (λ (t : Handles). AreNeeded t.records) (sym back) (subst AreNeeded (sym (taken_back node c.args.handles.now.records c.requires)) c.requires)
