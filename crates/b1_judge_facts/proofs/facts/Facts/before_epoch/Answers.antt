use Rattle.std.specs.Prelude.{length}
use Rattle.std.specs.Option.{option_copied}
use Rattle.std.proofs.Common.{ap, sym, subst, ◌∙◌}
use Rattle.b1_model.specs.Ledger.{order}
use Rattle.b1_judge_facts.specs.Kept.{kept_at}
use Rattle.b1_judge_facts.specs.Epochs.{is_about, IsBeforeEpoch}
use Rattle.b1_judge_facts.proofs.FirstPlaces.{before_place, no_place}
use Rattle.b1_judge_facts.proofs.facts.Facts.before_epoch.Goals as goal

pub returns-in-Some : goal.returns-in-Some
returns-in-Some c =
    subst (λ v. IsBeforeEpoch v.wires v.rec c.args.peer c.args.epoch c.in-Some.place.now) c.self.view_is
    (before_place (is_about c.self.inside.opening.now.wires c.self.inside.rec.now c.args.peer c.args.epoch) (order c.self.inside.rec.now) (kept_at c.self.inside.places c.args.peer c.args.epoch) (length (order c.self.inside.rec.now)) c.in-Some.place.now
    (c.self.invariant.places_are c.args.peer c.args.epoch) (sym c.get.ensures.value ∙ ap option_copied c.in-Some.is))

pub returns-in-None : goal.returns-in-None
returns-in-None c =
    subst (λ v. IsBeforeEpoch v.wires v.rec c.args.peer c.args.epoch (length c.as_slice.result.now)) c.self.view_is
    (no_place (is_about c.self.inside.opening.now.wires c.self.inside.rec.now c.args.peer c.args.epoch) (order c.self.inside.rec.now) (kept_at c.self.inside.places c.args.peer c.args.epoch) (length (order c.self.inside.rec.now)) (length c.as_slice.result.now)
    (c.self.invariant.places_are c.args.peer c.args.epoch) (sym c.get.ensures.value ∙ ap option_copied c.in-None.is) (ap length (c.as_slice.ensures ∙ c.self.invariant.kept.order_is)))
