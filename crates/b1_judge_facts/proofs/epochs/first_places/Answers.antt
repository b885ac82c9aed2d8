use Rattle.std.proofs.Common.{subst}
use Rattle.b1_judge_facts.specs.Kept.{kept_at, kept_nodes}
use Rattle.b1_judge_facts.specs.Epochs.{goes_to, is_kept_about, Notes}
use Rattle.b1_judge_facts.proofs.FirstPlaces.{first_next, first_end}
use Rattle.b1_judge_facts.proofs.epochs.first_places.Goals as goal

pub loop-place-preserved : goal.loop-place-preserved
loop-place-preserved c =
    first_next (λ s. goes_to (kept_at c.args.messages.now s.stamp s.origin)) (λ s. kept_nodes (kept_at c.args.destroyed.now s.stamp s.origin)) c.args.stamps.now c.loop-place.place (record { stamp = 0; origin = 0; call = 0 }) c.loop-place.places c.note_all.new.places c.note_all-in-loop-place.new.places
    c.loop-place.invariant
    (subst (λ nodes. Notes c.loop-place.place nodes c.loop-place.places c.note_all.new.places) c.nodes_to.ensures c.in_ok-note_all.ensures)
    (subst (λ nodes. Notes c.loop-place.place nodes c.note_all.new.places c.note_all-in-loop-place.new.places) c.nodes_at.ensures c.in_ok-note_all-2.ensures)

pub returns : goal.returns
returns c = first_end (is_kept_about c.args.messages.now c.args.destroyed.now) c.args.stamps.now c.loop-place.place c.loop-place.places c.loop-place-test.false c.loop-place.invariant
