-- A whole command of one driver, as a schedule runs it: its first step, and then steps as long as it is open.
use Rattle.std.specs.Prelude.{zero, suc, ◌≡◌, ◌<◌, ℕ, Bool, true, false, Option, Some, None, is_some, slice_get}
use Rattle.b1_model.specs.declared.naming.Opening.{Opening}
use Rattle.b1_model.specs.declared.commands.Command.{Command}
use Rattle.b1_model.specs.MachineParts.{State}
use Rattle.b1_schedule.specs.Shortage.{Shortage}
use Rattle.b1_schedule.specs.Schedule.{beginning, with_step}

-- driver p does its next step, with memory wanting at the places m; where none of its commands is open, this one begins
abbrev pub own_step : Opening → Shortage → ℕ → Option Command → State → State
own_step o m p command s =
    elim (slice_get s.drivers p) [ None ↦ s | Some d ↦ with_step o m p (beginning command d) d s ]

-- so many steps of its open command
abbrev pub own_steps : Opening → Shortage → ℕ → ℕ → State → State
own_steps o m p zero s = s
own_steps o m p (suc n) s = own_steps o m p n (own_step o m p None s)

-- driver p has an open command
abbrev pub is_open_at : ℕ → State → Bool
is_open_at p s = elim (slice_get s.drivers p) [ None ↦ false | Some d ↦ is_some d.doing ]

-- driver p runs a whole command, its references resolved, from one state to another
pub record RunsWhole (o : Opening) (m : Shortage) (p : ℕ) (command : Command) (s t : State) : Type 0 where
  -- how many steps follow the first one
  pub count : ℕ
  -- they lead there
  pub leads : own_steps o m p count (own_step o m p (Some command) s) ≡ t
  -- before each of them the command is open
  pub open_before : (n : ℕ) → n < count → is_open_at p (own_steps o m p n (own_step o m p (Some command) s)) ≡ true
  -- after the last one it isn't
  pub over : is_open_at p t ≡ false
