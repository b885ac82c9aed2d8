use Rattle.std.proofs.Common.{arith}
use Rattle.b1_text.proofs.Records.{within_any, small_plain}
use Rattle.b1_text.proofs.draft.record_len.Goals as goal

pub overflow_add-result : goal.overflow_add-result
overflow_add-result c =
    let small = small_plain c.args.entry.now.command (within_any c.args.entry.now c.requires) in
    omega (arith, c.plain_len-in-Some.ensures, small)
