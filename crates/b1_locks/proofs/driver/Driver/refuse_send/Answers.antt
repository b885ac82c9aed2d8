use Rattle.std.proofs.Common.{◌≡◌, refl, sym, ap, ◌∙◌, subst, length, arith}
use Rattle.b1_model.specs.Opening.{IsOpening}
use Rattle.b1_model.specs.declared.answers.Answer.TheVariants as answer
use Rattle.b1_model.specs.declared.answers.Refused.{Refused}
use Rattle.b1_model.specs.declared.commands.Command.TheVariants as cmd
use Rattle.b1_rule.specs.Rule.{holding}
use Rattle.b1_rule.specs.Plays.{resting}
use Rattle.b1_edge.specs.Ports.{with_call}
use Rattle.b1_commands.specs.Done.{Comes}
use Rattle.b1_locks.specs.Faces.{DriverFace, StandsIn}
use Rattle.b1_locks.specs.Calls.{Did}
use Rattle.b1_locks.proofs.Finished.{same_member, same_number, did_so}
use Rattle.b1_locks.proofs.Shown.{is_refused}
use Rattle.b1_locks.proofs.driver.Driver.refuse_send.Goals as goal

pub invariant_of-self : goal.invariant_of-self
invariant_of-self g c =
    let o = c.args.bus.now.opening in
    let old = c.self.inside.hand in
    let new = c.run_short.new.hand in
    let before : old.seat.me.0.opening ≡ o = ap (λ f. f.opening) c.self.view_is ∙ c.requires.own.opening in
    let after : new.seat.me.0.opening ≡ o = ap (λ z. z.0.opening) c.run_short.ensures.rests in
    let ended = c.commands_are_answered.ensures o old.state.part (cmd.Send c.args.send) new.state.part (subst IsOpening before c.self.invariant.stands.opening) c.self.invariant.idle.closed c.run_short.ensures.steps c.run_short.ensures.idle.closed in
    let me = same_number old.state.part (cmd.Send c.args.send) new.state.part ended in
    let known = c.self.invariant.known in
    let many : length new.seat.me.0.opening.peers ≡ length old.seat.me.0.opening.peers = ap (λ a. length a.peers) (after ∙ sym before) in
    record {
      rests = c.run_short.ensures.rests ∙ ap (λ a. resting a (holding new.state)) (sym after);
      idle = c.run_short.ensures.idle;
      stands = subst (λ a. StandsIn a new.state.part) (sym after) c.run_short.ensures.stands;
      known = omega (arith, known, me, many);
      words = ap (λ t. t.words) c.run_short.ensures.table ∙ c.self.invariant.words ∙ sym many;
    }

pub returns : goal.returns
returns g c =
    let o = c.args.bus.now.opening in
    let s = c.args.send in
    let old = c.self.inside.hand in
    let new = c.run_short.new.hand in
    let before : old.seat.me.0.opening ≡ o = ap (λ f. f.opening) c.self.view_is ∙ c.requires.own.opening in
    let after : new.seat.me.0.opening ≡ o = ap (λ z. z.0.opening) c.run_short.ensures.rests in
    let ended = c.commands_are_answered.ensures o old.state.part (cmd.Send s) new.state.part (subst IsOpening before c.self.invariant.stands.opening) c.self.invariant.idle.closed c.run_short.ensures.steps c.run_short.ensures.idle.closed in
    let d : DriverFace = record { table = old.seat.table_id; opening = old.seat.me.0.opening; own = old.state } in
    let e : DriverFace = record { table = new.seat.table_id; opening = new.seat.me.0.opening; own = new.state } in
    let same = same_member new.seat.table_id old.seat.table_id new.seat.me.0.opening old.seat.me.0.opening new.state old.state c.run_short.ensures.table (after ∙ sym before) (same_number old.state.part (cmd.Send s) new.state.part ended) in
    let steps = subst (λ a. Comes a old.state.part (cmd.Send s) new.state.part) (sym before) c.run_short.ensures.steps in
    let (got, calls, did) = did_so d e (cmd.Send s) refl same steps c.run_short.ensures.spare ended in
    let (b, is) = is_refused old.state.part new.state.part s got calls did.shutdown c.run_short.ensures.refused in
    subst (λ (z : DriverFace). (b : Refused) × (e.own.part.calls ≡ with_call (cmd.Send s) (answer.Refused b) z.own.part.calls) × Did z (cmd.Send s) (answer.Refused b) e) c.self.view_is
    (b, calls ∙ ap (λ a. with_call (cmd.Send s) a old.state.part.calls) is, subst (λ a. Did d (cmd.Send s) a e) is did)
