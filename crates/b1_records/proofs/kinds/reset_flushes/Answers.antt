use Rattle.std.proofs.Common.{◌≡◌, ◌≤◌, ◌%◌, refl, arith, bit_and}
use Rattle.std.proofs.lemmas.Nat.{and_mask}
use Rattle.std.proofs.lemmas.Bool.{le-leb}
use Rattle.bitflags.proofs.OnLiterals.{bitflags_on_literals}
use Rattle.b1_records.proofs.kinds.reset_flushes.Goals as goal

pub returns-in-Some : goal.returns-in-Some
unfolding bitflags_on_literals
returns-in-Some c =
    let low : bit_and c.args.flags 1 ≡ c.args.flags % 2 = and_mask c.args.flags 1 in
    let known : bit_and c.args.flags 1 ≡ c.args.flags = (c.from_bits.ensures.known tt).0 (rw c.in-Some.is refl) in
    let small : c.args.flags ≤ 1 = omega (arith, low, known) in
    let same : c.in-Some.flags.0 ≡ c.args.flags = c.in-Some.ensures.value tt in
    rw (c.contains.ensures tt, same, known, le-leb _ _ small) refl

pub returns-in-None : goal.returns-in-None
unfolding bitflags_on_literals
returns-in-None c =
    let low : bit_and c.args.flags 1 ≡ c.args.flags % 2 = and_mask c.args.flags 1 in
    grind (arith, low, c.from_bits.ensures.known tt, c.in-None.is)
