use Rattle.std.proofs.Common.{◌<◌, ap, subst, arith}
use Rattle.atomic_table.specs.Seated.{TableId}
use Rattle.b1_rule.proofs.Keeps.{splits}
use Rattle.b1_bus.proofs.making.seat_one.Goals as goal

pub split_seat-own-requires : goal.split_seat-own-requires
split_seat-own-requires c = (
  c.requires.table,
  subst (λ (t : TableId). 0 < t.words) c.requires.table (omega (arith, c.requires.words, c.requires.seated.known)),
  splits _ _ _ _ (ap (λ m. m.0.named) c.requires.parts) (ap (λ m. m.0.spent) c.requires.parts),
)
