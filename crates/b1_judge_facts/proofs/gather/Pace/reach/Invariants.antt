-- What is left of the calls leads to where all of them lead.
use Rattle.std.proofs.Common.{◌≡◌, drop}
use Rattle.b1_model.specs.Ledger.{slots_by}
use Rattle.b1_judge_facts.specs.Kept.{kept_at}
use Rattle.b1_judge_facts.specs.Standing.{passes}
use Rattle.b1_judge_facts.proofs.gather.Pace.reach.Given as goal

abbrev pub invariant-loop-call : goal.invariant-loop-call
invariant-loop-call l =
    (l.self.call ≡ l.initial.self.call)
    × (l.self.gone ≡ l.initial.self.gone)
    × (passes (slots_by (kept_at l.messages) l.peer) (drop l.call-index l.call-items) l.self.standing ≡ passes (slots_by (kept_at l.messages) l.peer) l.call-items l.initial.self.standing)
