use Rattle.std.proofs.Common.{◌≡◌, ◌+◌, ◌*◌, ℕ, leb, length, refl, ap, arith}
use Rattle.b1_model.specs.declared.limits.TheConstants.{MOST_SCRIPT}
use Rattle.b1_script.specs.Spelling.{spelling}
use Rattle.b1_upgrade.proofs.Lengths.{count, few_commands, few_bytes, upgraded_len}
use Rattle.b1_upgrade.specs.Upgraded.{upgraded}
use Rattle.b1_upgrade.proofs.has_room.Goals as goal

pub command_count-requires : goal.command_count-requires
command_count-requires c = rw c.as_slice.ensures (few_commands c.args.script.now c.requires.plain c.requires.spelled)

pub overflow_mul-result : goal.overflow_mul-result
overflow_mul-result c =
    let counted : c.command_count.result ≡ count c.args.script.now.commands = rw (c.command_count.ensures, c.as_slice.ensures) refl in
    omega (arith, counted, few_commands c.args.script.now c.requires.plain c.requires.spelled)

pub overflow_add-result : goal.overflow_add-result
overflow_add-result c =
    let counted : c.command_count.result ≡ count c.args.script.now.commands = rw (c.command_count.ensures, c.as_slice.ensures) refl in
    omega (arith, counted, c.requires.len, few_bytes c.args.script.now c.requires.spelled, few_commands c.args.script.now c.requires.plain c.requires.spelled)

pub returns : goal.returns
returns c =
    let counted : c.command_count.result ≡ count c.args.script.now.commands = rw (c.command_count.ensures, c.as_slice.ensures) refl in
    let len : c.args.len + 8 * c.command_count.result ≡ length (spelling (upgraded c.args.script.now)) = omega (arith, counted, c.requires.len, upgraded_len c.args.script.now c.requires.plain c.requires.spelled) in
    ap (λ (n : ℕ). leb n MOST_SCRIPT) len
