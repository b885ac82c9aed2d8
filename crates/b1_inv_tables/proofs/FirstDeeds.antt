-- What the first event of each command makes of the table behind a driver's calls.
use Rattle.std.proofs.Common.{◌≡◌, refl, sym, ap, subst, inl, inr, ℕ, Bool, true, false, cond, List, [], ◌∷◌, Option, Some, None, Ok, Err, Result}
use Rattle.b1_model.specs.declared.naming.Key.{Key}
use Rattle.b1_model.specs.declared.naming.Opening.{Opening}
use Rattle.b1_model.specs.declared.commands.Command.{Command}
use Rattle.b1_model.specs.declared.commands.Command.TheVariants as cmd
use Rattle.b1_model.specs.declared.commands.SendCmd.{SendCmd}
use Rattle.b1_model.specs.declared.answers.Answer.TheVariants as answer
use Rattle.b1_model.specs.declared.answers.Front.{Front}
use Rattle.b1_model.specs.declared.answers.Receipt.{Receipt}
use Rattle.b1_model.specs.declared.answers.Reason.{Reason}
use Rattle.b1_model.specs.declared.answers.Reason.TheVariants.{Unknown, Memory, Again}
use Rattle.b1_model.specs.declared.parts.Owed.{Owed}
use Rattle.b1_model.specs.declared.events.Action.TheVariants as act
use Rattle.b1_model.specs.declared.events.OwedDrop.{OwedDrop}
use Rattle.b1_model.specs.declared.events.Outcome.TheVariants as out
use Rattle.b1_model.specs.declared.events.Phase.{Phase}
use Rattle.b1_model.specs.declared.events.Phase.TheVariants.{Starting}
use Rattle.b1_model.specs.Names.{Node}
use Rattle.b1_model.specs.Ledger.{Table, lowered, changed}
use Rattle.b1_model.specs.MachineParts.{PeerPart, DriverPart}
use Rattle.b1_model.specs.MachinePool.{is_received}
use Rattle.b1_model.specs.MachineSend.{send_refusal}
use Rattle.b1_model.specs.MachineReceive.{received, released}
use Rattle.b1_model.specs.MachineDriver.{refused_at, send_of, turn, first_action, next_action}
use Rattle.b1_model.specs.MachineTook.{as_call}
use Rattle.b1_model.specs.MachineEvents.{begin_by, destroy_by, begin_refusal, begin_serials, local_answer}
use Rattle.b1_ledger.specs.Growth.{is_quiet}
use Rattle.b1_ledger.proofs.Steps.{quiet_table}
use Rattle.b1_inv_notices.proofs.Turns.{opened}
use Rattle.b1_inv_tables.proofs.Receives.{table_after}
use Rattle.b1_inv_tables.proofs.Values.{turn_table, turn_gap}
use Rattle.b1_inv_tables.proofs.Deeds.{IsStill, quiet_ends, refused_still, still_visiting, Deed, turn_of, stays_open, dropped, phase_deed}

-- a local answer is quiet
local_quiet : (shut : Bool) (command : Command) (x : PeerPart) → is_quiet (as_call command) (local_answer shut command x) ≡ true
local_quiet true command x = refl
local_quiet false (cmd.SliceRelease offset) x = by (is_received offset x.slices)
  where
    by : (b : Bool) → is_quiet (cmd.SliceRelease offset) (cond b answer.Done (refused_at (Unknown offset) None)) ≡ true
    by true = refl
    by false = refl
local_quiet false cmd.Query x = refl
local_quiet false (cmd.Limit limits) x = refl
local_quiet false command x = refl

module _ (look : Key → List (Option Node)) (w : Table) (o : Opening) (memory : Bool) (d : DriverPart) (x : PeerPart) where
  module _ (command : Command) where
    -- a local command
    local_deed : Deed look w command o memory d x Starting [] act.Local
    local_deed = stays_open look w command o memory d x Starting [] act.Local refl refl refl (quiet_ends look w command (local_answer d.shut command x) (local_quiet d.shut command x))

    -- a begin of a SEND leaves the table
    begins : (r : Option Reason) (c : SendCmd) → IsStill look w command (turn d.me command Starting (begin_by r memory c x).0)
    begins (Some r) c = refused_still look w command r None
    begins None c = by memory
      where
        by : (b : Bool) → IsStill look w command (turn d.me command Starting (begin_by None b c x).0)
        by true = refused_still look w command Memory None
        by false = (refl, refl)

    -- a begin of a SEND
    begin_deed : Deed look w command o memory d x Starting [] act.Begin
    begin_deed = stays_open look w command o memory d x Starting [] act.Begin refl refl refl (begins (send_refusal x (send_of command)) (send_of command))

    -- a begin of a destruction
    destroy_deed : Deed look w command o memory d x Starting [] act.BeginDestroy
    destroy_deed = by (begin_refusal command x) (begin_serials command x) refl
      where
        by : (r : Option Reason) (doomed : List ℕ) → turn_of look w command o memory d x Starting [] act.BeginDestroy ≡ turn d.me command Starting (destroy_by r doomed x).0 → Deed look w command o memory d x Starting [] act.BeginDestroy
        by (Some r) doomed is = stays_open look w command o memory d x Starting [] act.BeginDestroy refl refl refl (subst (IsStill look w command) (sym is) (refused_still look w command r None))
        by None [] is = inl (inr (record { table = ap (λ z. turn_table look command z w) is; gap = ap (turn_gap command) is; plain = refl }))
        by None (serial ∷ rest) is = stays_open look w command o memory d x Starting [] act.BeginDestroy refl refl refl (subst (IsStill look w command) (sym is) (still_visiting look w command _ _))

    -- a RECV
    receives : as_call command ≡ cmd.Recv → Deed look w command o memory d x Starting [] act.Recv
    receives listed = inr (inl (record { event = refl; table = by (received x).front; gap = refl }))
      where
        by : (front : Result Receipt Front) → changed look (as_call command) (elim front [ Ok got ↦ answer.Got got | Err none ↦ refused_at (Again none) None ]) w ≡ table_after look front w
        by (Ok got) = ap (λ c. changed look c (answer.Got got) w) listed
        by (Err none) = quiet_table look (as_call command) (refused_at (Again none) None) w refl

  -- a release
  release_deed : (number : ℕ) → Deed look w (cmd.Release number) o memory d x Starting [] act.Release
  release_deed number = inr (inr (inl (record { number = number; names = refl; event = refl; table = by (released x number); gap = refl })))
    where
      by : (got : Result Owed Reason) → turn_table look (cmd.Release number) (turn d.me (cmd.Release number) Starting (out.Release got)) w ≡ elim got [ Ok one ↦ record { lines = lowered number w.lines; given = w.given } | Err r ↦ w ]
      by (Ok one) = refl
      by (Err r) = refl

  -- the first event of any command
  first_deed : (shut : Bool) (command : Command) → Deed look w command o memory d x Starting [] (cond shut act.Local (first_action command))
  first_deed true command = local_deed command
  first_deed false cmd.Disconnect = destroy_deed cmd.Disconnect
  first_deed false cmd.Query = local_deed cmd.Query
  first_deed false (cmd.Reset limits) = destroy_deed (cmd.Reset limits)
  first_deed false (cmd.Limit limits) = local_deed (cmd.Limit limits)
  first_deed false (cmd.Release number) = release_deed number
  first_deed false (cmd.Destroy numbers) = destroy_deed (cmd.Destroy numbers)
  first_deed false (cmd.SliceRelease offset) = local_deed (cmd.SliceRelease offset)
  first_deed false (cmd.Send c) = begin_deed (cmd.Send c)
  first_deed false cmd.Recv = receives cmd.Recv refl
  first_deed false cmd.Await = receives cmd.Await refl

  -- of every event
  pub deed : (command : Command) (phase : Phase) (owed : List OwedDrop) → Deed look w command o memory d x phase owed (next_action (opened d command phase owed))
  deed command phase (one ∷ rest) = dropped look w command o memory d x phase one rest
  deed command Starting [] = first_deed d.shut command
  deed command phase [] = phase_deed look w command o memory d x phase (λ e. absurd (cc e))
