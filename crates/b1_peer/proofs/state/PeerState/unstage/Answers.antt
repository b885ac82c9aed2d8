use Rattle.std.proofs.Common.{sym, ◌∙◌}
use Rattle.b1_peer.proofs.KeptSends.{unfound, not_unstaged, stage_found, message_slice, message_carried, message_set, unstage_kept}
use Rattle.b1_peer.proofs.state.PeerState.unstage.Goals as goal

pub take_back-requires-clause-message : goal.take_back-requires-clause-message
take_back-requires-clause-message g c = (stage_found _ c.self.invariant c.args.origin c.args.index (c.in-Some.field-0-0, c.in-Some.entry) (sym c.take_stage.ensures.found ∙ c.in-Some.is)).1

pub take_back-requires-clause-queued : goal.take_back-requires-clause-queued
take_back-requires-clause-queued g c =
    let there = stage_found _ c.self.invariant c.args.origin c.args.index (c.in-Some.field-0-0, c.in-Some.entry) (sym c.take_stage.ensures.found ∙ c.in-Some.is) in
    message_slice _ c.self.invariant (c.in-Some.field-0-0, c.in-Some.entry) there.0 there.1

pub take_back-requires-clause-carried : goal.take_back-requires-clause-carried
take_back-requires-clause-carried g c =
    let there = stage_found _ c.self.invariant c.args.origin c.args.index (c.in-Some.field-0-0, c.in-Some.entry) (sym c.take_stage.ensures.found ∙ c.in-Some.is) in
    message_carried _ c.self.invariant (c.in-Some.field-0-0, c.in-Some.entry) there.0

pub take_back-requires-clause-set : goal.take_back-requires-clause-set
take_back-requires-clause-set g c =
    let there = stage_found _ c.self.invariant c.args.origin c.args.index (c.in-Some.field-0-0, c.in-Some.entry) (sym c.take_stage.ensures.found ∙ c.in-Some.is) in
    message_set _ c.self.invariant (c.in-Some.field-0-0, c.in-Some.entry) there.0 there.1

pub invariant_of-self : goal.invariant_of-self
invariant_of-self g c =
    unstage_kept _ c.self.invariant c.args.origin c.args.index (c.in-Some.field-0-0, c.in-Some.entry) c.take_stage.result c.take_stage.new.self c.take_back.new.store c.take_back.new.handles c.take_back.new.dead c.in-Some.is c.take_stage.ensures.found c.take_stage.ensures.taken c.take_back.ensures.slices c.take_back.ensures.bytes c.take_back.ensures.stored c.take_back.ensures.handles c.take_back.ensures.dead c.take_back.ensures.loses

pub invariant_of-self-in_default : goal.invariant_of-self-in_default
invariant_of-self-in_default g c = rw (unfound c.self.inside.mail c.take_stage.new.self c.take_stage.result c.args.origin c.args.index c.in_default.is c.take_stage.ensures.found c.take_stage.ensures.taken) c.self.invariant

pub returns-in_default : goal.returns-in_default
returns-in_default g c =
    rw (unfound c.self.inside.mail c.take_stage.new.self c.take_stage.result c.args.origin c.args.index c.in_default.is c.take_stage.ensures.found c.take_stage.ensures.taken, ← c.self.view_is)
    (not_unstaged _ _ _ c.args.origin c.args.index (sym c.take_stage.ensures.found ∙ c.in_default.is))
