-- The walk stands at the end.
use Rattle.std.proofs.Common.{◌≡◌, length, arith}
use Rattle.b1_model.specs.Names.{calls_of}
use Rattle.b1_judge.proofs.WalkLemmas.{calls_read, whole_broken, whole_kept}
use Rattle.b1_judge.proofs.whole.WholePart.first_of.Goals as goal

pub returns-then-has_candidate : goal.returns-then-has_candidate
returns-then-has_candidate c =
    let read = calls_read c.peer_calls-items.result.now c.rec.result.now c.args.self.now.facts.now c.args.peer c.peer_calls-items.ensures c.rec.ensures in
    let end : c.loop.index ≡ length (calls_of c.args.self.now.facts.now.rec c.args.peer) = omega arith in
    whole_broken c.loop.walk c.args.self.now.facts.now c.args.peer c.loop.index c.loop.invariant c.call.result c.call.ensures c.requires end (c.has_candidate.ensures.0 c.if-has_candidate.true)

pub returns : goal.returns
returns c =
    let read = calls_read c.peer_calls-items.result.now c.rec.result.now c.args.self.now.facts.now c.args.peer c.peer_calls-items.ensures c.rec.ensures in
    let end : c.loop.index ≡ length (calls_of c.args.self.now.facts.now.rec c.args.peer) = omega arith in
    whole_kept c.loop.walk c.args.self.now.facts.now c.args.peer c.loop.index c.loop.invariant end (λ h. cc (c.has_candidate.ensures.1 h, c.if-has_candidate.false))
