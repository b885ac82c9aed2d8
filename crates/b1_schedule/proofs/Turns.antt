-- What an event's answer shows, and what the phase before it showed: by the phases.
use Rattle.std.proofs.Common.{◌≡◌, ℕ, ◌+◌, Bool, true, false, cond, ◌&&◌, nat_lt, List, length, Option}
use Rattle.b1_model.specs.declared.answers.Answer.TheVariants as answer
use Rattle.b1_model.specs.declared.answers.Reason.{Reason}
use Rattle.b1_model.specs.declared.answers.Refused.{Refused}
use Rattle.b1_model.specs.declared.commands.Command.{Command}
use Rattle.b1_model.specs.declared.parts.Begun.{Begun}
use Rattle.b1_model.specs.declared.events.Outcome.{Outcome}
use Rattle.b1_model.specs.declared.events.Outcome.TheVariants as out
use Rattle.b1_model.specs.declared.events.Phase.{Phase}
use Rattle.b1_model.specs.declared.events.Phase.TheVariants.{Starting, Staging, Unstaging, Attaching, Stamping, Syncing, Committing, Dropping, Reaping, Visiting, Dooming, SyncingNotices, CommittingOwn, CommittingNotices, Flushing}
use Rattle.b1_model.specs.declared.events.Sending.{Sending}
use Rattle.b1_model.specs.MachineDriver.{Goes, Ends, turn, is_place, accepted_from, with_slot}
use Rattle.b1_model.specs.MachineTook.{is_await, sent_answer}
use Rattle.b1_schedule.specs.Shortage.{Shortage}
use Rattle.b1_schedule.specs.Agreement.{AnswerAgrees, PlacesAgree, PhaseAgrees}
use Rattle.b1_schedule.proofs.Backward.{TurnAgrees, with_place, from_sent}

module _ (m : Shortage) (me k : ℕ) (command : Command) where
  at_attaching : (b : Bool) (sending : Sending) (place handle : ℕ) (c : Bool) (next : ℕ) → PhaseAgrees m me k command (cond b (Attaching sending place handle) (cond c (Attaching sending next 0) (Stamping sending))) → is_await command ≡ false → PlacesAgree m me k command sending.places
  at_attaching true sending place handle c next h plain = h plain
  at_attaching false sending place handle true next h plain = h plain
  at_attaching false sending place handle false next h plain = h plain

  at_syncing : (b : Bool) (sending : Sending) (stamp place first : ℕ) → PhaseAgrees m me k command (cond b (Syncing sending stamp place) (Committing sending stamp first)) → AnswerAgrees m me k command (sent_answer sending stamp)
  at_syncing true sending stamp place first h = h
  at_syncing false sending stamp place first h = h

  at_unstaging : (b : Bool) (nodes : Begun) (places : List (Option Reason)) (refused : Refused) (place : ℕ) → TurnAgrees m me k command (cond b (Goes (Unstaging nodes places refused place)) (Ends (answer.Refused refused))) → AnswerAgrees m me k command (answer.Refused refused)
  at_unstaging true nodes places refused place h = h
  at_unstaging false nodes places refused place h = h

  -- a phase showed what the turn that it takes shows
  pub shown_before : (phase : Phase) (outcome : Outcome) → TurnAgrees m me k command (turn me command phase outcome) → PhaseAgrees m me k command phase
  shown_before (Staging nodes places collected) (out.Stage got) h = λ plain. with_place m me k command plain nodes places collected got h
  shown_before (Unstaging nodes places refused place) out.Unstage h = at_unstaging (is_place (accepted_from (place + 1) places) places) nodes places refused (accepted_from (place + 1) places) h
  shown_before (Attaching sending place handle) (out.Attach got) h = λ plain.
      at_attaching (nat_lt (handle + 1) (length sending.begun.with)) (with_slot sending place handle got) place (handle + 1)
      (nat_lt 0 (length sending.begun.with) && is_place (accepted_from (place + 1) sending.places) sending.places) (accepted_from (place + 1) sending.places) h plain
  shown_before (Stamping sending) (out.Stamp stamp) h = λ plain. from_sent m me k command plain sending stamp (at_syncing (is_place (accepted_from 0 sending.places) sending.places) sending stamp (accepted_from 0 sending.places) (accepted_from 0 sending.places) h)
  shown_before (Syncing sending stamp place) out.Sync h = at_syncing (is_place (accepted_from (place + 1) sending.places) sending.places) sending stamp (accepted_from (place + 1) sending.places) (accepted_from 0 sending.places) h
  shown_before (Committing sending stamp place) (out.Commit found) h = h
  shown_before Starting outcome h = tt
  shown_before Dropping outcome h = tt
  shown_before (Reaping got) outcome h = tt
  shown_before (Visiting destruction left) outcome h = tt
  shown_before (Dooming destruction) outcome h = tt
  shown_before (SyncingNotices destruction stamp at) outcome h = tt
  shown_before (CommittingOwn destruction stamp) outcome h = tt
  shown_before (CommittingNotices destruction stamp at) outcome h = tt
  shown_before (Flushing stamp) outcome h = tt
  shown_before phase outcome h = h
