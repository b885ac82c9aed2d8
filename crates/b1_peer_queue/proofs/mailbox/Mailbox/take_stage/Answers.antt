use Rattle.b1_peer_queue.proofs.mailbox.Mailbox.take_stage.Goals as goal

pub take_wanted_from-requires-clause-one : goal.take_wanted_from-requires-clause-one
take_wanted_from-requires-clause-one g c = c.self.invariant.mail.one_stage c.args.origin c.args.index
