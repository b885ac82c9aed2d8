use Rattle.std.proofs.Common.{rules, ◌≡◌, ◌==◌, ◌∙◌, ◌<◌, ◌≤◌, ℕ, true, false, ap, sym, length, get_or, remove, deque_len, arith}
use Rattle.std.proofs.lemmas.Bool.{eqb-false}
use Rattle.std.proofs.lemmas.List.{get_or_default}
use Rattle.b1_model.specs.declared.naming.Key.{Key}
use Rattle.b1_queue.proofs.Entries.{removed_is}
use Rattle.b1_peer_queue.proofs.NameLemmas.{unmarked}
use Rattle.b1_peer_queue.proofs.marks.unmark.Goals as goal

pub returns-in_default-clause-marks : goal.returns-in_default-clause-marks
returns-in_default-clause-marks c =
    let past : length c.args.marks.now.items ≤ c.place_of-at.result = search rules in
    sym (unmarked c.args.marks.now.items c.args.key c.args.place c.place_of-at.result c.requires.ascending c.requires.key c.place_of-at.ensures.before c.place_of-at.ensures.after (λ within d same. absurd (omega (arith, past, within))))

pub returns-then-there-place-clause-marks : goal.returns-then-there-place-clause-marks
returns-then-there-place-clause-marks c =
    let x = c.in-Some.field-0.now in
    let within : c.place_of-at.result < length c.args.marks.now.items = search rules in
    let there : c.place_of-at.result < deque_len c.args.marks.now = search rules in
    let read : x ≡ get_or c.args.marks.now.items c.place_of-at.result x = search rules in
    let here : (x.1 == c.args.place) ≡ true = search rules in
    let items : c.remove.new.self.items ≡ remove c.args.marks.now.items c.place_of-at.result = rw (c.remove.ensures.succeeds x there) at c.remove.ensures.items in
    items
    ∙ removed_is c.args.place c.args.marks.now.items c.place_of-at.result c.requires.distinct within
    (λ d. ap (λ (e : Key × ℕ). e.1 == c.args.place) (get_or_default c.args.marks.now.items c.place_of-at.result d x within ∙ sym read) ∙ here)

pub returns-else-there-place-clause-marks : goal.returns-else-there-place-clause-marks
returns-else-there-place-clause-marks c =
    let x = c.in-Some.field-0.now in
    let within : c.place_of-at.result < length c.args.marks.now.items = search rules in
    let read : x ≡ get_or c.args.marks.now.items c.place_of-at.result x = search rules in
    let other : (x.1 == c.args.place) ≡ false = search rules in
    sym (unmarked c.args.marks.now.items c.args.key c.args.place c.place_of-at.result c.requires.ascending c.requires.key c.place_of-at.ensures.before c.place_of-at.ensures.after
    (λ _ d same. eqb-false _ _ other (ap (λ (e : Key × ℕ). e.1) (read ∙ get_or_default c.args.marks.now.items c.place_of-at.result x d within) ∙ same)))
