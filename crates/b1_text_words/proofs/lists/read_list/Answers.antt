-- Item by item, with the room that is left.
use Rattle.std.proofs.Common.{◌≡◌, true, false}
use Rattle.b1_text_words.proofs.Commas.{reads_dash, read_from, read_more, bad_item, no_more_room, reads_no_list, last_given}
use Rattle.b1_text_words.proofs.lists.read_list.Goals as goal

pub returns-then-is_text : goal.returns-then-is_text
returns-then-is_text c = rw c.new.ensures (reads_dash c.args.item c.is_bounded.ensures c.args.most c.args.word.now (c.is_text.ensures.0 c.if-is_text.true))

pub loop-room-init : goal.loop-room-init
loop-room-init c = rw c.new-numbers.ensures.items (read_from c.args.item c.is_bounded.ensures c.args.most c.args.word.now)

pub returns-in_default : goal.returns-in_default
returns-in_default c = last_given c.args.item c.is_bounded.ensures c.args.most c.args.word.now c.loop-room.numbers.items c.loop-room.room c.loop-room.rest.now
    (λ e. absurd (let yes : c.is_text.result ≡ true = c.is_text.ensures.1 e in let not : c.is_text.result ≡ false = c.if-is_text.false in cc))
    c.in_default.ensures.free c.loop-room-test.true c.loop-room.invariant c.read_last.result c.read_last.ensures

pub returns-in_default-read_item : goal.returns-in_default-read_item
returns-in_default-read_item c = reads_no_list c.args.item c.is_bounded.ensures c.args.most c.args.word.now
    (λ e. absurd (let yes : c.is_text.result ≡ true = c.is_text.ensures.1 e in let not : c.is_text.result ≡ false = c.if-is_text.false in cc))
    (bad_item c.args.item c.is_bounded.ensures c.args.most c.args.word.now c.loop-room.numbers.items c.loop-room.room c.loop-room.rest.now c.in-Some.first.now c.in-Some.behind.now _ c.in-Some.ensures.parts c.in-Some.ensures.first c.in_default-read_item.is c.read_item.ensures c.loop-room.invariant)

pub loop-room-preserved : goal.loop-room-preserved
loop-room-preserved c = rw c.in_ok-push.ensures.items
    (read_more c.args.item c.is_bounded.ensures c.args.most c.args.word.now c.loop-room.numbers.items c.loop-room.room c.loop-room.rest.now c.in-Some.first.now c.in-Some.behind.now _ c.in-Some-read_item.number
    c.in-Some.ensures.parts c.in-Some.ensures.first c.loop-room-test.true c.in-Some-read_item.is c.read_item.ensures c.loop-room.invariant)

pub returns : goal.returns
returns c = reads_no_list c.args.item c.is_bounded.ensures c.args.most c.args.word.now
    (λ e. absurd (let yes : c.is_text.result ≡ true = c.is_text.ensures.1 e in let not : c.is_text.result ≡ false = c.if-is_text.false in cc))
    (no_more_room c.args.item c.is_bounded.ensures c.args.most c.args.word.now c.loop-room.numbers.items c.loop-room.room c.loop-room.rest.now c.loop-room-test.false c.loop-room.invariant)
