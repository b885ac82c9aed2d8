use Rattle.std.proofs.Common.{rules, ◌≡◌, ◌+◌, ◌≤◌, arith}
use Rattle.b1_peer_queue.proofs.NameLemmas.{named_more}
use Rattle.b1_peer_queue.proofs.TiedLemmas.{marks_few}
use Rattle.b1_peer_queue.proofs.rows.reserve_rows.Goals as goal

pub overflow_sub-rows : goal.overflow_sub-rows
overflow_sub-rows g c = omega (arith, marks_few c.requires (g.met.Q.QueueKind.in_order c.args.rows.now.queue), c.len.ensures)

pub returns-clause-tied : goal.returns-clause-tied
returns-clause-tied g c =
    let all : c.in-Some-checked_add.all ≡ c.args.rows.now.len + c.args.n = search rules in
    let enough : c.in-Some-checked_add.all ≤ c.reserve-3.new.self.spare = search rules in
    let places : c.reserve-4.new.self.room ≤ c.reserve-3.new.self.room = search rules in
    record {
      queue_fits = search rules;
      table_fits = search rules;
      marks_fit = search rules;
      places_fit = search rules;
      counted = search rules;
      filled = search rules;
      marked = search rules;
      naming =
          rw c.reserve.ensures.listed
          (named_more c.requires.naming (g.met.Q.QueueKind.in_order c.args.rows.now.queue) c.reserve-4.new.self.slots c.reserve-4.ensures.entries c.args.n c.args.rows.now.len c.reserve-4.new.self.room c.reserve-3.new.self
          c.requires.counted c.reserve-3.ensures.listed c.reserve-3.ensures.room_kept (omega (arith, all, enough)) places);
    }
