-- The walk goes past one call after another.
use Rattle.std.proofs.Common.{◌<◌, length, arith, ℕ}
use borrow.Author.Count.{below_more}
use Rattle.b1_model.specs.Names.{calls_of}
use Rattle.b1_model.specs.Legal.{KeepsContents}
use Rattle.b1_judge.proofs.WalkLemmas.{walk_next, calls_read, contents_here, contents_broken}
use Rattle.b1_judge.proofs.contents.ContentsPart.first_of.Goals as goal

pub loop-call-preserved : goal.loop-call-preserved
loop-call-preserved c = record {
  walk = walk_next c.loop-call.walk c.in_ok-walk-2.walk c.args.self.now.facts.now c.args.peer c.loop-call.call-index c.loop-call.invariant.walk c.in_ok-walk-2.ensures;
  kept = below_more (λ (j : ℕ). KeepsContents c.args.self.now.facts.now.wires c.args.self.now.facts.now.rec c.args.peer j) c.loop-call.call-index c.loop-call.invariant.kept
      (contents_here c.loop-call.walk c.args.self.now.facts.now c.args.peer c.loop-call.call-index c.loop-call.invariant.walk (c.in_ok-keeps_contents.ensures.0 c.if-not-branch.false));
}

pub returns-then-not-branch : goal.returns-then-not-branch
returns-then-not-branch c =
    let read = calls_read c.peer_calls-call-items.result.now c.rec.result.now c.args.self.now.facts.now c.args.peer c.peer_calls-call-items.ensures c.rec.ensures in
    let inside : c.loop-call.call-index < length (calls_of c.args.self.now.facts.now.rec c.args.peer) = omega arith in
    contents_broken c.loop-call.walk c.args.self.now.facts.now c.args.peer c.loop-call.call-index c.loop-call.invariant.walk c.call.result c.call.ensures c.requires inside c.loop-call.invariant.kept
    (λ kept. cc (c.in_ok-keeps_contents.ensures.1 kept, c.if-not-branch.true))
