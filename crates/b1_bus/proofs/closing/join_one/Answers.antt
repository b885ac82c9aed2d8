use Rattle.std.proofs.Common.{◌<◌, ap, ◌∙◌, subst}
use Rattle.atomic_table.specs.Seated.{TableId}
use Rattle.b1_rule.proofs.Keeps.{joins}
use Rattle.b1_bus.proofs.closing.join_one.Goals as goal

pub join_seat-requires : goal.join_seat-requires
join_seat-requires c = (
  c.requires.table,
  c.into_parts-other.ensures.table ∙ c.requires.driver,
  ap (λ m. m.1) c.into_parts-other.ensures.seat,
  subst (λ (t : TableId). 0 < t.words) c.requires.table c.requires.some,
  joins _ _ _ _ _ _ (ap (λ m. m.0.named) c.requires.rests) (ap (λ m. m.0.spent) c.requires.rests) (ap (λ m. m.0.named) c.into_parts-other.ensures.seat),
)
