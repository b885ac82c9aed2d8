-- The states in which schedules end and stall are reached, so their records are legal.
use Rattle.std.proofs.Common.{sym, subst, ℕ, List}
use Rattle.b1_model.specs.declared.commands.Command.{Command}
use Rattle.b1_model.specs.declared.naming.Opening.{Opening}
use Rattle.b1_model.specs.declared.records.Record.{Record}
use Rattle.b1_model.specs.Opening.{IsOpening}
use Rattle.b1_model.specs.Legal.{Legal, Whole}
use Rattle.b1_model.specs.MachineParts.{State}
use Rattle.b1_model.specs.MachineStep.{Reached}
use Rattle.b1_inv.specs.Sound.{IsSound}
use Rattle.b1_law.proofs.Reached.{reached_sound}
use Rattle.b1_inv_next.proofs.Shown.{drained_is_whole}
use Rattle.b1_legal.proofs.Reached.{reached_right}
use Rattle.b1_schedule.specs.Schedule.{IsPlay, IsStall, Finished, Stalled}
use Rattle.b1_schedule.specs.Shortage.{shortage_of, no_shortage}
use Rattle.b1_play_commands.proofs.Recorded.{came_to}
use Rattle.b1_play_end.proofs.Ends.{finished_drained}

module _ (o : Opening) (lists : List (List Command)) (turns : List ℕ) (r : Record) (valid : IsOpening o) where
  sound : (s : State) → Reached o s → IsSound o s
  sound s reached = reached_sound o s valid reached

  module _ (play : IsPlay o lists turns r) where
    reached : Reached o play.state
    reached = (came_to o lists turns sound (shortage_of r) play.comes.count (record { state = play.state; stage = Finished }) play.comes.is_at).follow.reached

    pub played_legal : Legal o r
    played_legal = subst (Legal o) (sym play.record_is) (reached_right o play.state valid reached).legal

    pub played_whole : Whole o r
    played_whole = subst (Whole o) (sym play.record_is) (drained_is_whole (reached_sound o play.state valid reached) (reached_right o play.state valid reached) (finished_drained lists o valid (shortage_of r) turns play.state play.comes).drained)

  pub stalled_legal : (waiting : List ℕ) → IsStall o lists turns waiting r → Legal o r
  stalled_legal waiting stall =
      let k = (came_to o lists turns sound no_shortage stall.comes.count (record { state = stall.state; stage = Stalled }) stall.comes.is_at).follow.reached in
      subst (Legal o) (sym stall.record_is) (reached_right o stall.state valid k).legal
