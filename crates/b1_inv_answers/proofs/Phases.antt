-- Each event leads an open command to a phase of its own, or to an end with an answer of its kind.
use Rattle.std.proofs.Common.{◌≡◌, refl, sym, ap, subst, ℕ, zero, suc, ◌+◌, ◌<◌, ◌≤◌, Bool, true, false, max, nat_lt, List, [], ◌∷◌, ◌++◌, length, Option, Some, None, Ok, Err, Result, is_none, get_or}
use Rattle.std.specs.List.{list_any, list_all}
use Rattle.std.proofs.lemmas.Bool.{ltb-false, cond_both}
use Rattle.std.proofs.lemmas.List.{length-append}
use Rattle.std.proofs.lemmas.Option.{same_Some}
use native.Mathlib.Omega.{arith}
use Rattle.b1_model.specs.declared.answers.Answer.{Answer}
use Rattle.b1_model.specs.declared.answers.Answer.TheVariants as answer
use Rattle.b1_model.specs.declared.answers.Reason.{Reason}
use Rattle.b1_model.specs.declared.answers.Reason.TheVariants as reason
use Rattle.b1_model.specs.declared.answers.Refused.{Refused}
use Rattle.b1_model.specs.declared.commands.Command.{Command}
use Rattle.b1_model.specs.declared.commands.Command.TheVariants as cmd
use Rattle.b1_model.specs.declared.parts.Begun.{Begun}
use Rattle.b1_model.specs.declared.events.Destruction.{Destruction}
use Rattle.b1_model.specs.declared.events.Outcome.{Outcome}
use Rattle.b1_model.specs.declared.events.Outcome.TheVariants as out
use Rattle.b1_model.specs.declared.events.Phase.{Phase}
use Rattle.b1_model.specs.declared.events.Phase.TheVariants.{Starting, Staging, Unstaging, Attaching, Stamping, Syncing, Committing, Dropping, Reaping, Visiting, Dooming, SyncingNotices, CommittingOwn, CommittingNotices, Flushing}
use Rattle.b1_model.specs.declared.events.Sending.{Sending}
use Rattle.b1_model.specs.MachineParts.{State}
use Rattle.b1_model.specs.MachineDriver.{send_of, accepted_from, is_place, memory_place, refused_at, all_refused, attaching, all_staged, staging, unstaging, with_slot, syncing, visiting, syncing_notices, committing_notices, is_flushing, place_done, Goes, Ends, turn}
use Rattle.b1_model.specs.MachineTook.{is_await, stamped_answer, sent_answer, answer_of}
use Rattle.b1_inv.specs.Words.{is_accepted_place}
use Rattle.b1_inv.specs.Sends.{IsBegun, SendShape}
use Rattle.b1_inv.specs.Notices.{IsDestroying}
use Rattle.b1_inv_sends.proofs.Places.{next_accepted_place}
use Rattle.b1_inv_answers.specs.Answers.{PlacesFit, EndsWell, PhaseFits, TurnFits}

-- ---- places

all_more : (places : List (Option Reason)) → list_all is_none places ≡ true → list_all is_none (places ++ None ∷ []) ≡ true
all_more [] all = refl
all_more (None ∷ rest) all = all_more rest all
all_more (Some r ∷ rest) all = absurd (cc all)

any_accepted : (places : List (Option Reason)) (place : ℕ) → is_accepted_place places place ≡ true → list_any is_none places ≡ true
any_accepted [] place is = absurd (cc is)
any_accepted (None ∷ rest) place is = refl
any_accepted (Some r ∷ rest) zero is = absurd (cc is)
any_accepted (Some r ∷ rest) (suc place) is = any_accepted rest place is

-- ---- answers

-- every command may be refused, an AWAIT only at a driver that is shut
pub refused_well : (shut : Bool) (command : Command) → is_await command ≡ false → (b : Refused) → EndsWell shut command (answer.Refused b)
refused_well shut cmd.Await plain b = absurd (cc plain)
refused_well shut cmd.Disconnect plain b = (refl, tt)
refused_well shut cmd.Query plain b = (refl, tt)
refused_well shut (cmd.Limit limits) plain b = (refl, tt)
refused_well shut (cmd.Reset limits) plain b = (refl, tt)
refused_well shut (cmd.Release number) plain b = (refl, tt)
refused_well shut (cmd.Destroy numbers) plain b = (refl, tt)
refused_well shut (cmd.SliceRelease offset) plain b = (refl, tt)
refused_well shut (cmd.Send c) plain b = (refl, tt)
refused_well shut cmd.Recv plain b = (refl, tt)

send_plain : (command : Command) → command ≡ cmd.Send (send_of command) → is_await command ≡ false
send_plain command is_send = ap is_await is_send

-- a SEND without an accepted place is refused
by_first : (first : Option Reason) → (b : Refused) × (elim first [ None ↦ refused_at reason.Invalid None | Some r ↦ refused_at r (Some 0) ] ≡ answer.Refused b)
by_first None = (record { reason = reason.Invalid; place = None }, refl)
by_first (Some r) = (record { reason = r; place = Some 0 }, refl)

by_memory : (place : Option ℕ) (got : Answer) → ((b : Refused) × (got ≡ answer.Refused b)) → (b : Refused) × (elim place [ Some at ↦ refused_at reason.Memory (Some at) | None ↦ got ] ≡ answer.Refused b)
by_memory None got is = is
by_memory (Some at) got is = (record { reason = reason.Memory; place = Some at }, refl)

all_refused_well : (command : Command) (places : List (Option Reason)) → command ≡ cmd.Send (send_of command) → EndsWell false command (all_refused places)
all_refused_well command places is_send =
    let (b, is) = by_memory (memory_place 0 places) _ (by_first (get_or places 0 None)) in
    subst (EndsWell false command) (sym is) (refused_well false command (send_plain command is_send) b)

-- a SEND whose places fit may end with them
sent_well : (command : Command) (sending : Sending) (stamp : ℕ) → PlacesFit command sending.places → EndsWell false command (sent_answer sending stamp)
sent_well command sending stamp k = subst (λ c. EndsWell false c (sent_answer sending stamp)) (sym k.is_send) (refl, record { count = k.count; accepted = k.accepted; refused = k.refused })

-- a destruction may end with its stamp, and a flush without one
stamped_well : (command : Command) (stamp : ℕ) → IsDestroying command → EndsWell false command (stamped_answer command stamp)
stamped_well (cmd.Destroy numbers) stamp k = (refl, tt)
stamped_well (cmd.Reset limits) stamp k = (refl, tt)
stamped_well cmd.Disconnect stamp k = (refl, tt)
stamped_well command stamp k = absurd k

flushed_well : (command : Command) (stamp : Option ℕ) → is_flushing command ≡ true → EndsWell false command (answer.Reset stamp)
flushed_well (cmd.Reset limits) stamp k = (refl, tt)
flushed_well cmd.Disconnect stamp k = (refl, tt)
flushed_well command stamp k = absurd (cc k)

destroyed_well : (command : Command) (stamp : ℕ) → IsDestroying command → is_flushing command ≡ false → EndsWell false command (answer.Destroyed stamp)
destroyed_well (cmd.Destroy numbers) stamp k other = (refl, tt)
destroyed_well (cmd.Reset limits) stamp k other = absurd (cc other)
destroyed_well cmd.Disconnect stamp k other = absurd (cc other)
destroyed_well command stamp k other = absurd k

-- a fixed answer is one of the command's kind
pub answered : (command : Command) (phase : Phase) (got : Answer) → PhaseFits command phase → answer_of command phase ≡ Some got → EndsWell false command got
answered command phase got k is = fixed phase k is
  where
    at : (other : Answer) → EndsWell false command other → Some other ≡ Some got → EndsWell false command got
    at other well same = subst (EndsWell false command) (same_Some other got same) well

    fixed : (phase : Phase) → PhaseFits command phase → answer_of command phase ≡ Some got → EndsWell false command got
    fixed (Unstaging begun places refused place) k is = at _ (refused_well false command (send_plain command k) refused) is
    fixed (Syncing sending stamp place) k is = at _ (sent_well command sending stamp k) is
    fixed (Committing sending stamp place) k is = at _ (sent_well command sending stamp k) is
    fixed Dropping k is = at _ k is
    fixed (Reaping other) k is = at _ k is
    fixed (SyncingNotices destruction stamp at_peer) k is = at _ (stamped_well command stamp k) is
    fixed (CommittingOwn destruction stamp) k is = at _ (stamped_well command stamp k) is
    fixed (CommittingNotices destruction stamp at_peer) k is = at _ (stamped_well command stamp k) is
    fixed (Flushing stamp) k is = at _ (flushed_well command stamp k) is
    fixed phase k is = absurd (cc is)

-- ---- turns

module _ (command : Command) where
  attaching_fits : (sending : Sending) (place handle : ℕ) → PlacesFit command sending.places → PhaseFits command (attaching sending place handle)
  attaching_fits sending place handle k =
      cond_both (nat_lt handle (length sending.begun.with)) (Attaching sending place handle) _ (PhaseFits command)
      (λ is. k)
      (λ is. cond_both _ (Attaching sending (accepted_from (place + 1) sending.places) 0) (Stamping sending) (PhaseFits command) (λ e. k) (λ e. k))

  module _ (s : State) (begun : Begun) (right : IsBegun s command begun) where
    staging_fits : (places : List (Option Reason)) (collected : ℕ) → length places ≤ length begun.to → ((send_of command).go_on ≡ false → list_all is_none places ≡ true) → TurnFits false command (staging begun places collected)
    staging_fits places collected within refused =
        cond_both (nat_lt (length places) (length begun.to)) (Goes (Staging begun places collected)) _ (TurnFits false command)
        (λ is. refused)
        (λ done. let all = ltb-false (length places) (length begun.to) done in
        cond_both (is_place (accepted_from 0 places) places) (Goes (attaching (all_staged begun places collected) (accepted_from 0 places) 0)) (Ends (all_refused places)) (TurnFits false command)
        (λ is. attaching_fits (all_staged begun places collected) (accepted_from 0 places) 0 (record {
          is_send = right.send.is_send;
          count = omega (arith, within, all, right.destinations);
          accepted = any_accepted places (accepted_from 0 places) (next_accepted_place 0 places is).accepted;
          refused = refused;
        }))
        (λ is. all_refused_well command places right.send.is_send))

    unstaging_fits : (places : List (Option Reason)) (refused : Refused) (place : ℕ) → TurnFits false command (unstaging begun places refused place)
    unstaging_fits places refused place =
        cond_both (is_place place places) (Goes (Unstaging begun places refused place)) (Ends (answer.Refused refused)) (TurnFits false command)
        (λ is. right.send.is_send)
        (λ is. refused_well false command (send_plain command right.send.is_send) refused)

    one_more : (places : List (Option Reason)) (new : Option Reason) → length places < length begun.to → length (places ++ new ∷ []) ≤ length begun.to
    one_more places new less = let more = length-append places (new ∷ []) in omega (arith, more, less)

    placed_fits : (places : List (Option Reason)) (collected : ℕ) (got : Result ℕ Reason) → length places < length begun.to → ((send_of command).go_on ≡ false → list_all is_none places ≡ true) → TurnFits false command (place_done command begun places collected got)
    placed_fits places collected (Ok clock) less refused = staging_fits (places ++ None ∷ []) (max collected clock) (one_more places None less) (λ stops. all_more places (refused stops))
    placed_fits places collected (Err r) less refused =
        cond_both (send_of command).go_on (staging begun (places ++ Some r ∷ []) collected) _ (TurnFits false command)
        (λ goes_on. staging_fits (places ++ Some r ∷ []) collected (one_more places (Some r) less) (λ stops. absurd (cc (goes_on, stops))))
        (λ stops. unstaging_fits (places ++ Some r ∷ []) (record { reason = r; place = Some (length places) }) (accepted_from 0 (places ++ Some r ∷ [])))

  syncing_fits : (sending : Sending) (stamp place : ℕ) → PlacesFit command sending.places → PhaseFits command (syncing sending stamp place)
  syncing_fits sending stamp place k = cond_both (is_place place sending.places) (Syncing sending stamp place) (Committing sending stamp (accepted_from 0 sending.places)) (PhaseFits command) (λ is. k) (λ is. k)

  pub visiting_fits : (destruction : Destruction) (left : List ℕ) → IsDestroying command → PhaseFits command (visiting destruction left)
  visiting_fits destruction [] k = k
  visiting_fits destruction (peer ∷ rest) k = k

  notices_fit : (destruction : Destruction) (stamp at : ℕ) → IsDestroying command → PhaseFits command (syncing_notices destruction stamp at)
  notices_fit destruction stamp at k = cond_both (nat_lt at (length destruction.staged)) (SyncingNotices destruction stamp at) (CommittingOwn destruction stamp) (PhaseFits command) (λ is. k) (λ is. k)

  committed_fits : (destruction : Destruction) (stamp at : ℕ) → IsDestroying command → TurnFits false command (committing_notices command destruction stamp at)
  committed_fits destruction stamp at k =
      cond_both (nat_lt at (length destruction.staged)) (Goes (CommittingNotices destruction stamp at)) _ (TurnFits false command)
      (λ is. k)
      (λ is. cond_both (is_flushing command) (Goes (Flushing (Some stamp))) (Ends (answer.Destroyed stamp)) (TurnFits false command) (λ flushes. flushes) (λ other. destroyed_well command stamp k other))

  -- whatever an event answered
  pub event_fits : (s : State) (me : ℕ) (phase : Phase) (outcome : Outcome) → SendShape s command phase → PhaseFits command phase → TurnFits false command (turn me command phase outcome)
  event_fits s me Starting outcome shape k = absurd shape
  event_fits s me (Staging begun places collected) (out.Stage got) shape k = placed_fits s begun shape.0 places collected got shape.1 k
  event_fits s me (Unstaging begun places refused place) out.Unstage shape k = unstaging_fits s begun shape.0 places refused (accepted_from (place + 1) places)
  event_fits s me (Attaching sending place handle) (out.Attach got) shape k = attaching_fits (with_slot sending place handle got) place (handle + 1) k
  event_fits s me (Stamping sending) (out.Stamp stamp) shape k = syncing_fits sending stamp (accepted_from 0 sending.places) k
  event_fits s me (Syncing sending stamp place) out.Sync shape k = syncing_fits sending stamp (accepted_from (place + 1) sending.places) k
  event_fits s me (Committing sending stamp place) (out.Commit found) shape k = k
  event_fits s me (Visiting destruction left) (out.Visit got) shape k = visiting_fits _ _ k
  event_fits s me (Dooming destruction) (out.StampDestroy (Ok stamp)) shape k = notices_fit destruction stamp 0 k
  event_fits s me (Dooming destruction) (out.StampDestroy (Err late)) shape k = visiting_fits destruction late k
  event_fits s me (SyncingNotices destruction stamp at) out.Sync shape k = notices_fit destruction stamp (at + 1) k
  event_fits s me (CommittingOwn destruction stamp) out.CommitNotices shape k = committed_fits destruction stamp 0 k
  event_fits s me (CommittingNotices destruction stamp at) out.CommitNotices shape k = committed_fits destruction stamp (at + 1) k
  event_fits s me (Flushing stamp) (out.Flush dead) shape k = flushed_well command stamp k
  event_fits s me phase outcome shape k = k
