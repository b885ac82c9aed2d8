use Rattle.std.specs.Option.{option_copied}
use Rattle.std.proofs.Common.{refl, sym, ap, ◌∙◌, inr}
use Rattle.b1_report_lines.specs.declared.unread.Unread.TheVariants.{Stopped}
use Rattle.b1_report.proofs.Faults.{cut_begins}
use Rattle.b1_report.proofs.parsing.unfinished.Goals as goal

pub returns-in-Stopped-Cut : goal.returns-in-Stopped-Cut
returns-in-Stopped-Cut c =
    inr (
      refl,
      cut_begins (option_copied c.args.cookies) c.args.peers c.args.place c.args.left.now c.read_line.result c.read_line.ensures
          (sym c.stop.ensures ∙ c.in-Stopped-Cut.is ∙ ap (λ s. Stopped s) c.in-Stopped-Cut.field-0-is),
    )
