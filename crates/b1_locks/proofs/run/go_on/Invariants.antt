use Rattle.std.proofs.Common.{◌≡◌, ◌+◌, ℕ, length}
use Rattle.b1_rule.specs.Plays.{resting}
use Rattle.b1_rule.specs.Rule.{holding}
use Rattle.b1_commands.specs.Done.{GoesOn}
use Rattle.b1_locks.specs.Faces.{StandsIn}
use Rattle.b1_locks.specs.Locks.{IsFit}
use Rattle.b1_locks.proofs.run.go_on.Given as goal

abbrev pub invariant-loop : goal.invariant-loop
invariant-loop g l = record {
  next : (goal.iterator-loop g).can_next l.iterator';
  finite : (goal.iterator-loop g).is_finite l.iterator';
  table : l.hand.seat.table_id ≡ l.initial.hand.seat.table_id;
  rests : l.hand.seat.me ≡ resting l.fn.bus.opening (holding l.hand.state);
  fit : IsFit l.hand.state;
  stands : StandsIn l.fn.bus.opening l.hand.state.part;
  goes : (n : ℕ) × GoesOn l.fn.bus.opening n l.initial.hand.state.part l.hand.state.part;
  spare : l.hand.state.spare + length l.hand.state.part.calls ≡ l.initial.hand.state.spare + length l.initial.hand.state.part.calls;
}
