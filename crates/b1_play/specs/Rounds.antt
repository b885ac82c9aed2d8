-- What rounds leave of a bus.
use Rattle.std.specs.Prelude.{◌≡◌, ◌≤◌, ◌<◌, ◌+◌, ◌⊎◌, ℕ, Bool, true, false, if◌then◌else◌, List, [], ◌∷◌, slice_get, length}
use Rattle.b1_model.specs.MachineOrder.{no_command_open}
use Rattle.b1_schedule.specs.Schedule.{Stage, Round as AtPeer, Draining, Stalled, round_end, waiting_peers}
use Rattle.b1_progress.specs.Level.{commands_left, attempts_left}
use Rattle.b1_core.specs.Turns.{Bus}
use Rattle.b1_play.specs.Runs.{Follows, Plays, IsClosed}
use Rattle.b1_play.specs.declared.rounds.Gain.{Gain}
use Rattle.b1_play.specs.declared.rounds.RoundEnd.{RoundEnd}

-- 1 where it gained
abbrev pub bit : Bool → ℕ
bit b = if b then 1 else 0

-- a round that gained nothing so far
abbrev pub no_gain : Gain
no_gain = record { gained = false; called = false }

-- a round goes on from peer p to peer q: what it gained so far, before and after
pub record Passes (b : Bus) (p : ℕ) (before : Gain) (c : Bus) (q : ℕ) (after : Gain) : Type 0 where
  pub follows : Follows b c
  pub played : Plays b (AtPeer p before.gained) c (AtPeer q after.gained)
  pub stays : before.called ≡ true → after.called ≡ true
  pub fewer : commands_left c.commands c.state ≤ commands_left b.commands b.state
  pub called : before.called ≡ false → after.called ≡ true → commands_left c.commands c.state < commands_left b.commands b.state
  pub lower : after.called ≡ false → attempts_left c.state + bit after.gained ≤ attempts_left b.state + bit before.gained
  pub closed : (r : ℕ) → p ≤ r → r < q → IsClosed c r
  pub others : (r : ℕ) → r < p → slice_get c.state.drivers r ≡ slice_get b.state.drivers r
  pub as_many : length c.state.drivers ≡ length b.state.drivers

-- after one command of peer p another one follows, and fewer are left; or the round is done with this peer
abbrev pub RunsNext : Bus → ℕ → Gain → Bool → Bus → Gain → Type 0
RunsNext b p before true c after = Passes b p before c p after × (commands_left c.commands c.state < commands_left b.commands b.state)
RunsNext b p before false c after = Passes b p before c (p + 1) after

-- rounds lead from one bus to another, which is at the beginning of a round
pub record Rounds (b c : Bus) : Type 0 where
  pub follows : Follows b c
  pub played : Plays b (AtPeer 0 false) c (AtPeer 0 false)
  pub fewer : commands_left c.commands c.state ≤ commands_left b.commands b.state

-- rounds ended: no command is open; where the last one gained, a command ended with a call, or all have ended
pub record Ends (b c : Bus) (end : RoundEnd) : Type 0 where
  pub follows : Follows b c
  pub played : Plays b (AtPeer 0 false) c (round_end c.commands c.state end.gain.gained)
  pub none_open : no_command_open c.state ≡ true
  pub waiting : end.waiting.items ≡ waiting_peers c.commands c.state
  pub fewer : commands_left c.commands c.state ≤ commands_left b.commands b.state
  pub called : end.gain.called ≡ true → commands_left c.commands c.state < commands_left b.commands b.state
  pub why : (end.gain.called ≡ true) ⊎ ((end.gain.gained ≡ false) ⊎ (end.waiting.items ≡ []))

-- the stage behind the rounds: the drain where no peer waits, else a stall
abbrev pub behind_rounds : List ℕ → Stage
behind_rounds [] = Draining 0 false
behind_rounds (p ∷ rest) = Stalled

-- all rounds are done
pub record Settles (b c : Bus) (waiting : List ℕ) : Type 0 where
  pub follows : Follows b c
  pub none_open : no_command_open c.state ≡ true
  pub waiting_is : waiting ≡ waiting_peers c.commands c.state
  pub played : Plays b (AtPeer 0 false) c (behind_rounds waiting)
