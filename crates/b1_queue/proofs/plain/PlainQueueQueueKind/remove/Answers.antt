use Rattle.std.proofs.Common.{rules, ◌≡◌, ◌∙◌, ◌<◌, ◌≤◌, ◌+◌, sym, arith, length, get_or, remove, deque_len, deque_capacity, Some, None}
use Rattle.b1_queue.proofs.Kept.{kept_without, without_absent, removed_at, stands_at}
use Rattle.b1_queue.proofs.plain.PlainQueueQueueKind.remove.Goals as goal

pub returns-in_err-key-clause-listed : goal.returns-in_err-key-clause-listed
returns-in_err-key-clause-listed c =
    let none : get_or c.args.self.now.keys.items c.args.item None ≡ None = search rules in
    sym (without_absent c.args.self.now.entries.items c.args.item (sym (c.args.self.now.kept.indexed c.args.item) ∙ none))

pub invariant_of-self : goal.invariant_of-self
invariant_of-self c =
    let kept = c.args.self.now.kept in
    let some : get_or c.args.self.now.keys.items c.args.item None ≡ Some c.in_ok-key.key = search rules in
    let stands = stands_at c.args.item c.args.self.now.entries.items c.in_ok-key.key c.place_of-at.result kept.in_order.ascending (sym (kept.indexed c.args.item) ∙ some) c.place_of-at.ensures.before c.place_of-at.ensures.after in
    let within : c.place_of-at.result < length c.args.self.now.entries.items = stands.within in
    let there : c.place_of-at.result < deque_len c.args.self.now.entries = search rules in
    let below : c.args.item < length c.args.self.now.keys.items = search rules in
    let removed = removed_at c.args.self.now.entries.items c.in_ok-key.key c.args.item c.place_of-at.result kept.in_order.distinct stands in
    let done = c.remove.ensures.succeeds (c.in_ok-key.key, c.args.item) there in
    let shorter : deque_len c.remove.new.self + 1 ≡ deque_len c.args.self.now.entries = rw done at c.remove.ensures.len in
    let items : c.remove.new.self.items ≡ remove c.args.self.now.entries.items c.place_of-at.result = rw done at c.remove.ensures.items in
    let room = kept.fits in
    let same = c.remove.ensures.capacity in
    let fits : c.args.self.now.spare + 1 + deque_len c.remove.new.self ≤ deque_capacity c.remove.new.self = omega arith in
    record {
      kept = rw (items, removed) (kept_without _ _ _ _ _ kept _ _ _ fits c.args.item below);
    }

pub returns-clause-listed : goal.returns-clause-listed
returns-clause-listed c =
    let kept = c.args.self.now.kept in
    let some : get_or c.args.self.now.keys.items c.args.item None ≡ Some c.in_ok-key.key = search rules in
    let stands = stands_at c.args.item c.args.self.now.entries.items c.in_ok-key.key c.place_of-at.result kept.in_order.ascending (sym (kept.indexed c.args.item) ∙ some) c.place_of-at.ensures.before c.place_of-at.ensures.after in
    let within : c.place_of-at.result < length c.args.self.now.entries.items = stands.within in
    let there : c.place_of-at.result < deque_len c.args.self.now.entries = search rules in
    let removed = removed_at c.args.self.now.entries.items c.in_ok-key.key c.args.item c.place_of-at.result kept.in_order.distinct stands in
    let items : c.remove.new.self.items ≡ remove c.args.self.now.entries.items c.place_of-at.result = rw (c.remove.ensures.succeeds (c.in_ok-key.key, c.args.item) there) at c.remove.ensures.items in
    items ∙ removed
