use Rattle.std.proofs.Common.{◌≡◌, sym, ap, ◌∙◌, subst, length, arith}
use Rattle.b1_model.specs.Opening.{IsOpening}
use Rattle.b1_rule.specs.Rule.{holding}
use Rattle.b1_rule.specs.Plays.{resting}
use Rattle.b1_locks.specs.Faces.{member, StandsIn}
use Rattle.b1_locks.proofs.Finished.{same_member, same_number}
use Rattle.b1_locks.proofs.driver.Driver.finish_command.Goals as goal

pub invariant_of-self : goal.invariant_of-self
invariant_of-self g c =
    let o = c.args.bus.now.opening in
    let old = c.self.inside.hand in
    let new = c.run.new.hand in
    let before : old.seat.me.0.opening ≡ o = ap (λ f. f.opening) c.self.view_is ∙ c.requires.own.opening in
    let after : new.seat.me.0.opening ≡ o = ap (λ z. z.0.opening) c.run.ensures.rests in
    let ended = c.commands_are_answered.ensures o old.state.part c.args.command new.state.part (subst IsOpening before c.self.invariant.stands.opening) c.self.invariant.idle.closed c.run.ensures.steps c.run.ensures.idle.closed in
    let me = same_number old.state.part c.args.command new.state.part ended in
    let known = c.self.invariant.known in
    let many : length new.seat.me.0.opening.peers ≡ length old.seat.me.0.opening.peers = ap (λ a. length a.peers) (after ∙ sym before) in
    record {
      rests = c.run.ensures.rests ∙ ap (λ a. resting a (holding new.state)) (sym after);
      idle = c.run.ensures.idle;
      stands = subst (λ a. StandsIn a new.state.part) (sym after) c.run.ensures.stands;
      known = omega (arith, known, me, many);
      words = ap (λ t. t.words) c.run.ensures.table ∙ c.self.invariant.words ∙ sym many;
    }

pub returns-clause-member : goal.returns-clause-member
returns-clause-member g c =
    let o = c.args.bus.now.opening in
    let old = c.self.inside.hand in
    let new = c.run.new.hand in
    let before : old.seat.me.0.opening ≡ o = ap (λ f. f.opening) c.self.view_is ∙ c.requires.own.opening in
    let after : new.seat.me.0.opening ≡ o = ap (λ z. z.0.opening) c.run.ensures.rests in
    let ended = c.commands_are_answered.ensures o old.state.part c.args.command new.state.part (subst IsOpening before c.self.invariant.stands.opening) c.self.invariant.idle.closed c.run.ensures.steps c.run.ensures.idle.closed in
    same_member new.seat.table_id old.seat.table_id new.seat.me.0.opening old.seat.me.0.opening new.state old.state c.run.ensures.table (after ∙ sym before) (same_number old.state.part c.args.command new.state.part ended) ∙ ap member c.self.view_is

pub returns-clause-ended : goal.returns-clause-ended
returns-clause-ended g c =
    let o = c.args.bus.now.opening in
    let old = c.self.inside.hand in
    let before : old.seat.me.0.opening ≡ o = ap (λ f. f.opening) c.self.view_is ∙ c.requires.own.opening in
    rw (← c.self.view_is) (c.commands_are_answered.ensures o old.state.part c.args.command c.run.new.hand.state.part (subst IsOpening before c.self.invariant.stands.opening) c.self.invariant.idle.closed c.run.ensures.steps c.run.ensures.idle.closed)
