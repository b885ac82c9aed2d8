use Rattle.b1_wire.specs.Numbers.{u64_bytes}
use Rattle.b1_records.specs.Spelling.{head, flags_of, kind_of_command, has_flag, body_spelling}
use Rattle.b1_records.proofs.Appended.{in_three, on_ok}
use Rattle.b1_records.proofs.writing.put_command2.Goals as goal

pub returns-clause-ok : goal.returns-clause-ok
returns-clause-ok c =
    let command = c.args.command.now in
    on_ok c.put_body.result _ _ (λ last. in_three c.args.out.now.items (head (kind_of_command command) (flags_of (has_flag command))) (u64_bytes c.args.cookie) (body_spelling command) c.put_head2.new.out.items c.put_u64.new.out.items c.put_body.new.out.items c.in_ok-put_head2.ensures.ok c.in_ok-put_u64.ensures.ok last) c.put_body.ensures.ok
