-- Its words, if each spells what it stands for.
use Rattle.std.proofs.Common.{subst}
use Rattle.b1_text_words.specs.declared.items.Item.TheVariants.{Handle}
use Rattle.b1_text_words.specs.Items.{item_text, AreItems, AreBytes}
use Rattle.b1_text_words.specs.Numbers.{list_text, hex_text}
use Rattle.b1_text_words.specs.Words.{Reads}
use Rattle.b1_text_words.proofs.Sends.{no_words, no_destinations, no_handles, no_payload, send_read}
use Rattle.b1_text_words.proofs.commands.read_send.Goals as goal

pub returns-in_default-send_words : goal.returns-in_default-send_words
returns-in_default-send_words c = no_words c.args.form c.args.rest.now c.in-Some.go_on c.in-Some.rest.now c.in-Some.ensures c.in_default-send_words.ensures

pub returns-in_default-2 : goal.returns-in_default-2
returns-in_default-2 c = no_destinations c.args.form c.args.rest.now c.in-Some.go_on c.in-Some.rest.now c.in-Some.ensures c.in-Some-send_words.to.now c.in-Some-send_words.with.now c.in-Some-send_words.payload.now c.in-Some-send_words.ensures c.in_ok-to.field-0 c.in_default-2.is (subst (λ m. Reads (list_text (item_text (Handle c.args.form))) (AreItems (Handle c.args.form) m) c.in-Some-send_words.to.now c.in_ok-to.field-0) c.most_numbers.ensures c.in_ok-to.ensures)

pub returns-in_default-3 : goal.returns-in_default-3
returns-in_default-3 c = no_handles c.args.form c.args.rest.now c.in-Some.go_on c.in-Some.rest.now c.in-Some.ensures c.in-Some-send_words.to.now c.in-Some-send_words.with.now c.in-Some-send_words.payload.now c.in-Some-send_words.ensures c.in_ok-with.field-0 c.in_default-3.is (subst (λ m. Reads (list_text (item_text (Handle c.args.form))) (AreItems (Handle c.args.form) m) c.in-Some-send_words.with.now c.in_ok-with.field-0) c.most_numbers-2.ensures c.in_ok-with.ensures)

pub returns-in-Some-4 : goal.returns-in-Some-4
returns-in-Some-4 c = send_read c.args.form c.args.rest.now c.in-Some.go_on c.in-Some.rest.now c.in-Some.ensures c.in-Some-send_words.to.now c.in-Some-send_words.with.now c.in-Some-send_words.payload.now c.in-Some-send_words.ensures c.in-Some-2.to c.in-Some-3.with c.in-Some-4.payload c.in_ok-to.field-0 c.in_ok-with.field-0 c.in_ok-payload.field-0
    c.in-Some-2.is (subst (λ m. Reads (list_text (item_text (Handle c.args.form))) (AreItems (Handle c.args.form) m) c.in-Some-send_words.to.now c.in_ok-to.field-0) c.most_numbers.ensures c.in_ok-to.ensures)
    c.in-Some-3.is (subst (λ m. Reads (list_text (item_text (Handle c.args.form))) (AreItems (Handle c.args.form) m) c.in-Some-send_words.with.now c.in_ok-with.field-0) c.most_numbers-2.ensures c.in_ok-with.ensures)
    c.in-Some-4.is (subst (λ m. Reads hex_text (AreBytes m) c.in-Some-send_words.payload.now c.in_ok-payload.field-0) c.most_bytes.ensures c.in_ok-payload.ensures)

pub returns-in-None : goal.returns-in-None
returns-in-None c = no_payload c.args.form c.args.rest.now c.in-Some.go_on c.in-Some.rest.now c.in-Some.ensures c.in-Some-send_words.to.now c.in-Some-send_words.with.now c.in-Some-send_words.payload.now c.in-Some-send_words.ensures c.in_ok-payload.field-0 c.in-None.is (subst (λ m. Reads hex_text (AreBytes m) c.in-Some-send_words.payload.now c.in_ok-payload.field-0) c.most_bytes.ensures c.in_ok-payload.ensures)
