use Rattle.std.proofs.Common.{rules, ◌≡◌, ◌∙◌, ◌<◌, ℕ, true, false, ap, sym, length, get_or, Some}
use Rattle.std.specs.Ordering.{is_eq}
use Rattle.std.proofs.lemmas.List.{get_or_default}
use Rattle.b1_model.specs.Keys.{compare_keys}
use Rattle.b1_model.specs.declared.naming.Key.{Key}
use Rattle.b1_queue.proofs.Order.{same_from_test, other_from_test}
use Rattle.b1_queue.proofs.Kept.{key_known, new_there}
use Rattle.b1_queue.proofs.plain.PlainQueue.item.Goals as goal

pub returns-then-is_eq-clause-some : goal.returns-then-is_eq-clause-some
returns-then-is_eq-clause-some c =
    let x = c.in_ok-found.field-0.now in
    let within : c.place_of-at.result < length c.args.self.now.entries.items = search rules in
    let read : x ≡ get_or c.args.self.now.entries.items c.place_of-at.result x = c.in_ok-found.ensures.lookup in
    let equal : is_eq (compare_keys x.0 c.args.key.now) ≡ true = search rules in
    key_known c.args.self.now.entries.items x.1 c.args.self.now.kept.in_order.distinct c.place_of-at.result x within (ap (λ (e : Key × ℕ). e.1) (sym read))
    ∙ ap (λ (e : Key × ℕ). Some e.0) (sym read)
    ∙ ap (λ (k : Key). Some k) (same_from_test x.0 c.args.key.now equal)

pub returns-else-is_eq-clause-none : goal.returns-else-is_eq-clause-none
returns-else-is_eq-clause-none c =
    let x = c.in_ok-found.field-0.now in
    let within : c.place_of-at.result < length c.args.self.now.entries.items = search rules in
    let read : x ≡ get_or c.args.self.now.entries.items c.place_of-at.result x = c.in_ok-found.ensures.lookup in
    let equal : is_eq (compare_keys x.0 c.args.key.now) ≡ false = search rules in
    new_there c.args.self.now.entries.items c.args.key.now c.place_of-at.result c.args.self.now.kept.in_order.ascending c.place_of-at.ensures.before c.place_of-at.ensures.after within
    (λ d same. other_from_test x.0 c.args.key.now equal (ap (λ (e : Key × ℕ). e.0) read ∙ ap (λ (e : Key × ℕ). e.0) (get_or_default _ _ x d within) ∙ same))
