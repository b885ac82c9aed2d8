use Rattle.std.proofs.Common.{◌≡◌, rules, ap, drop, arith}
use Rattle.b1_peer_queue.specs.Mail.{Mail}
use Rattle.b1_inv_peer.specs.PeerOk.{is_message}
use Rattle.b1_peer.proofs.KeptFlush.{count_left, sets_left}
use Rattle.b1_peer.proofs.flush.empty_queue.Goals as goal

pub loop-key-preserved : goal.loop-key-preserved
loop-key-preserved g c =
    let left : c.take.new.self.queue ≡ drop 1 c.loop-key.mail.queue = ap (λ (m : Mail). m.queue) c.take.ensures.taken in
    let whole = count_left is_message c.loop-key.mail.queue c.take.new.self.queue (c.in-Some.key, c.in-Some.entry) c.in-Some.ensures.front left in
    let enough = c.loop-key.invariant.enough in
    let more = c.loop-key.invariant.room in
    let less = c.give_up_entry.ensures.room in
    record {
      items = search rules;
      sets = sets_left c.loop-key.mail.queue c.take.new.self.queue (c.in-Some.key, c.in-Some.entry) c.loop-key.dead.stacks c.give_up_entry.new.dead.stacks c.in-Some.ensures.front left c.loop-key.invariant.sets c.give_up_entry.ensures.loses;
      enough = omega (arith, whole, enough, less);
      room = omega (arith, whole, more, less);
      singles = search rules;
      mail = search rules;
      spare = search rules;
    }
