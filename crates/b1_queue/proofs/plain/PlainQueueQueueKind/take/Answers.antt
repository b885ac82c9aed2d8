use Rattle.std.proofs.Common.{rules, ◌≡◌, ◌<◌, ◌≤◌, ◌+◌, ap, ℕ, length, drop, deque_len, deque_capacity}
use Rattle.b1_model.specs.declared.naming.Key.{Key}
use Rattle.b1_queue.specs.Queue.{without}
use Rattle.b1_queue.proofs.Kept.{kept_without, without_front}
use Rattle.b1_queue.proofs.plain.PlainQueueQueueKind.take.Goals as goal

pub invariant_of-self-2 : goal.invariant_of-self-2
invariant_of-self-2 c =
    let kept = c.args.self.now.kept in
    let there : 0 < length c.args.self.now.entries.items = search rules in
    let front : without c.in_ok-key.item c.args.self.now.entries.items ≡ drop 1 c.args.self.now.entries.items =
    without_front c.args.self.now.entries.items (c.in_ok-key.key, c.in_ok-key.item) kept.in_order.distinct there (c.in_ok-key.ensures.lookup) in
    let below : c.in_ok-key.item < length c.args.self.now.keys.items =
    rw (ap (λ (e : Key × ℕ). e.1) c.in_ok-key.ensures.lookup) (kept.in_order.in_room 0 (c.in_ok-key.key, c.in_ok-key.item) there) in
    let fits : c.args.self.now.spare + 1 + deque_len c.pop_front.new.self ≤ deque_capacity c.pop_front.new.self = search rules in
    record {
      kept =
          rw (c.in_ok-key.ensures.rest, ← front)
          (kept_without _ _ _ _ _ kept _ _ _ fits c.in_ok-key.item below);
    }
