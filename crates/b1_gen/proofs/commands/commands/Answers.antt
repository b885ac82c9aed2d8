use Rattle.std.proofs.Common.{◌≡◌, length, arith, rules, sym, ap, ◌∙◌}
use Rattle.b1_gen.specs.Generated.{commands_before, commands_of, partners}
use Rattle.b1_gen.proofs.Rising.{commands_before-none, commands_before-more, sum_by-below}
use Rattle.b1_gen.proofs.commands.commands.Goals as goal

pub loop-phase-init : goal.loop-phase-init
loop-phase-init c = (c.new-commands.ensures.items ∙ sym (commands_before-none _ _), search rules, omega arith)

pub loop-phase-preserved : goal.loop-phase-preserved
loop-phase-preserved c = (
  rw c.in_ok-taken.ensures.commands (rw c.loop-phase.invariant.0 (sym (commands_before-more _ _ _))),
  rw (c.in_ok-taken.ensures.count, c.loop-phase.invariant.1) (sym (sum_by-below (λ j. length (partners c.args.number j c.args.peer)) c.loop-phase.phase)),
  omega (arith, c.in_ok-taken.ensures.few, c.loop-phase.invariant.2),
)

pub returns : goal.returns
unfolding commands_of
returns c =
    let all : c.loop-phase.phase ≡ 256 = omega arith in
    c.from_vec.ensures ∙ c.loop-phase.invariant.0 ∙ ap (commands_before c.args.number c.args.peer) all
