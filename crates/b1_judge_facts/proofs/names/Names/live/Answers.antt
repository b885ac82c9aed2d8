use Rattle.std.specs.Prelude.{map, Some}
use Rattle.std.proofs.Common.{ap, ◌∙◌}
use Rattle.b1_judge_facts.specs.Kept.{is_gone_at}
use Rattle.b1_judge_facts.proofs.Naming.{live_skip}
use Rattle.b1_judge_facts.proofs.names.Names.live.Goals as goal

pub loop-serial-init : goal.loop-serial-init
loop-serial-init c =
    rw c.new-nodes.ensures.items
    (ap (map Some) (live_skip c.skip-first.new.self c.args.owner c.args.self.now c.skip-first.result (λ s l. ap (λ g. is_gone_at g c.args.owner s) c.skip-first.ensures.same ∙ c.skip-first.ensures.gone s l)))
