use Rattle.std.proofs.Common.{sym, ◌∙◌}
use Rattle.b1_peer.proofs.KeptSends.{attach_done}
use Rattle.b1_peer.proofs.state.PeerState.attach.Goals as goal

pub invariant_of-self : goal.invariant_of-self
invariant_of-self g c = attach_done _ c.self.invariant c.args.serial c.args.dest c.withdraw_release.new.self c.attach-answer.new.self (sym c.attach-answer.ensures.answer ∙ c.in-Counted.is) c.attach-answer.ensures.attached c.withdraw_release.ensures
