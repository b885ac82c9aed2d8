use Rattle.std.proofs.Common.{refl}
use Rattle.b1_text.proofs.Begins.{ok_test}
use Rattle.b1_text.proofs.CommandLines.{last, not_true}
use Rattle.b1_text.proofs.NextLines.{list_next, turns_next, command_next, listing_last}
use Rattle.b1_text.proofs.beginning.begins_listing.Goals as goal
use Rattle.b1_text.proofs.beginning.begins_listing.Goals.{then-begins_list-via-then-begins_list, then-begins_list-via-else-begins_list+then-begins_turns}

pub returns-then-begins_list : goal.returns-then-begins_list
returns-then-begins_list c =
    elim c.then-begins_list.branch [
      | then-begins_list-via-then-begins_list w ↦ (λ _. list_next c.args.version c.args.opening.now c.args.lists.now c.args._list.now c.args.len c.args.line.now (rw c.len-before.ensures at (w.if-begins_list.ensures.0 refl)), λ _. refl)
      | then-begins_list-via-else-begins_list+then-begins_turns w ↦ (λ _. turns_next c.args.version c.args.opening.now c.args.lists.now c.args._list.now c.args.len c.args.line.now (rw c.len-before.ensures at (w.if-begins_turns.ensures.0 refl)), λ _. refl)
    ]

pub returns : goal.returns
returns c =
    let no_list = rw c.len-before.ensures at c.if-begins_list.ensures in
    let no_turns = rw c.len-before.ensures at c.if-begins_turns.ensures in
    let next = rw c.len.ensures at c.begins_next_command.ensures in
    ok_test c.begins_next_command.result
    (λ b h. last b h (command_next c.args.version c.args.opening.now c.args.lists.now c.args._list.now c.args.len c.args.line.now) (listing_last c.args.version c.args.opening.now c.args.lists.now c.args._list.now c.args.len c.args.line.now (not_true no_list) (not_true no_turns)))
    next
