use Rattle.std.specs.Prelude.{◌+◌, ◌*◌}
use Rattle.std.proofs.Common.{sym, ap, ◌∙◌}
use Rattle.b1_model.specs.Ledger.{Table, line_number, given_number}
use Rattle.b1_judge_facts.proofs.Beside.{number_left, number_right}
use Rattle.b1_judge_facts.proofs.table.Table.number_beside.Goals as goal

pub returns-in-Some : goal.returns-in-Some
returns-in-Some c =
    sym (ap (given_number (c.args.self.now.given + c.args.made.now.given))
    (number_left c.args.node.now c.args.self.now.lines c.args.made.now.lines c.in-Some.number
    (ap (λ (t : Table). line_number c.args.node.now t.lines) (sym c.self.view_is) ∙ sym c.in-Some.ensures)))

pub returns-in-Some-number : goal.returns-in-Some-number
returns-in-Some-number c =
    sym (ap (given_number (c.args.self.now.given + c.args.made.now.given))
    (number_right c.args.node.now c.args.self.now.lines c.args.made.now.lines (ap (λ (t : Table). line_number c.args.node.now t.lines) (sym c.self.view_is) ∙ sym c.in-None.ensures)
    ∙ ap (λ (t : Table). line_number c.args.node.now t.lines) (sym c.made.view_is) ∙ sym c.in-Some-number.ensures))

pub returns-in-None-number : goal.returns-in-None-number
returns-in-None-number c =
    ap (λ (t : Table). 2 + 4 * (t.given + c.made.inside.given)) c.self.view_is
    ∙ ap (λ (t : Table). 2 + 4 * (c.args.self.now.given + t.given)) c.made.view_is
    ∙ sym (ap (given_number (c.args.self.now.given + c.args.made.now.given))
    (number_right c.args.node.now c.args.self.now.lines c.args.made.now.lines (ap (λ (t : Table). line_number c.args.node.now t.lines) (sym c.self.view_is) ∙ sym c.in-None.ensures)
    ∙ ap (λ (t : Table). line_number c.args.node.now t.lines) (sym c.made.view_is) ∙ sym c.in-None-number.ensures))
