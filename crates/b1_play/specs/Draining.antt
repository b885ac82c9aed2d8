-- What the drain leaves of a bus.
use Rattle.std.specs.Prelude.{◌≡◌, ◌≤◌, ◌<◌, ◌+◌, ℕ, Bool, true, false}
use Rattle.b1_schedule.specs.Schedule.{Draining, Finished}
use Rattle.b1_progress.specs.Level.{level}
use Rattle.b1_core.specs.Turns.{Bus, driver_at}
use Rattle.b1_play.specs.Runs.{Follows, Plays, IsClosed, AllEnded}
use Rattle.b1_play.specs.Rounds.{bit}

-- no command is open
abbrev pub AllClosed : Bus → Type 0
AllClosed b = (r : ℕ) → IsClosed b r

-- a pass goes on from peer p to peer q, and whether it gained so far, before and after
pub record Empties (b : Bus) (p : ℕ) (before : Bool) (c : Bus) (q : ℕ) (after : Bool) : Type 0 where
  pub follows : Follows b c
  pub played : Plays b (Draining p before) c (Draining q after)
  pub ended : AllEnded c
  pub closed : AllClosed c
  pub lower : level c.state + bit after ≤ level b.state + bit before

-- after one attempt of peer p another one follows, and the level is lower; or the pass is done with this peer
abbrev pub TriesNext : Bus → ℕ → Bool → Bool → Bus → Bool → Type 0
TriesNext b p before true c after = Empties b p before c p after × (level c.state < level b.state) × ((driver_at c.state p).shut ≡ (driver_at b.state p).shut)
TriesNext b p before false c after = Empties b p before c (p + 1) after

-- a peer of a pass goes on to receive
pub record Receives (b : Bus) (p : ℕ) (before : Bool) (c : Bus) (after : Bool) : Type 0 where
  pub empties : Empties b p before c p after
  pub shut : (driver_at c.state p).shut ≡ (driver_at b.state p).shut

-- the drain goes on with another pass
pub record Drains (b c : Bus) : Type 0 where
  pub follows : Follows b c
  pub played : Plays b (Draining 0 false) c (Draining 0 false)
  pub ended : AllEnded c
  pub closed : AllClosed c

-- the drain is done
pub record Drained (b c : Bus) : Type 0 where
  pub follows : Follows b c
  pub played : Plays b (Draining 0 false) c Finished
  pub closed : AllClosed c
