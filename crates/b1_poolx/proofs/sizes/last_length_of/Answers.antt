use Rattle.std.proofs.Common.{◌≡◌, ◌-◌, length, Some, sym, arith}
use Rattle.std.specs.Prelude.{slice_get}
use Rattle.std.proofs.lemmas.Option.{slice_get_within}
use Rattle.b1_poolx.proofs.ChangeLemmas.{last_length-last}
use Rattle.b1_poolx.proofs.sizes.last_length_of.Goals as goal

pub returns-in-Some : goal.returns-in-Some
returns-in-Some c =
    let found : slice_get c.args.free.now (length c.args.free.now - 1) ≡ Some c.in-Some.s.now = sym c.in-Some.ensures.value in
    let within = slice_get_within c.args.free.now (length c.args.free.now - 1) c.in-Some.s.now found in
    last_length-last c.args.free.now (length c.args.free.now - 1) c.in-Some.s.now (omega (arith, within)) found
