-- How many attaches a driver's calls have done at most: a step never takes one back, and an attach adds one.
use Rattle.std.proofs.Common.{◌≡◌, refl, ap, ℕ, suc, ◌+◌, ◌*◌, ◌<◌, ◌≤◌, Bool, true, false, cond, ◌&&◌, max, nat_lt, nat_le, List, [], ◌∷◌, ◌++◌, get_or, drop, length, Option, Some, None, Ok, Err, Result}
use Rattle.std.specs.Prelude.{⊤}
use Rattle.std.proofs.lemmas.Bool.{and_right, and_parts, ltb-true, leb-true}
use Rattle.std.proofs.lemmas.List.{length-append}
use native.Mathlib.Omega.{arith}
use Rattle.b1_model.specs.declared.commands.Command.{Command}
use Rattle.b1_model.specs.declared.parts.Attach.{Attach}
use Rattle.b1_model.specs.declared.parts.Begun.{Begun}
use Rattle.b1_model.specs.declared.answers.Answer.{Answer}
use Rattle.b1_model.specs.declared.answers.Answer.TheVariants as answer
use Rattle.b1_model.specs.declared.answers.Reason.{Reason}
use Rattle.b1_model.specs.declared.answers.Refused.{Refused}
use Rattle.b1_model.specs.declared.records.Call.{Call}
use Rattle.b1_model.specs.declared.events.Outcome.{Outcome}
use Rattle.b1_model.specs.declared.events.Outcome.TheVariants as out
use Rattle.b1_model.specs.declared.events.Phase.{Phase}
use Rattle.b1_model.specs.declared.events.Phase.TheVariants.{Starting, Staging, Unstaging, Attaching, Stamping, Syncing, Committing, Dropping, Reaping, Visiting, Dooming, SyncingNotices, CommittingOwn, CommittingNotices, Flushing}
use Rattle.b1_model.specs.declared.events.Doing.{Doing}
use Rattle.b1_model.specs.declared.events.Sending.{Sending}
use Rattle.b1_model.specs.declared.events.Destruction.{Destruction}
use Rattle.b1_model.specs.declared.events.OwedDrop.{OwedDrop}
use Rattle.b1_model.specs.MachineParts.{DriverPart, State}
use Rattle.b1_model.specs.MachineDriver.{next_accepted, accepted_from, is_place, Turn, Goes, Ends, turn, started, staging, unstaging, place_done, all_staged, all_refused, attaching, with_slot, syncing, visiting, with_visit, syncing_notices, committing_notices, destroying, is_flushing, send_of}
use Rattle.b1_model.specs.MachineTook.{is_await, call_of, as_call, goes_by, is_done, answer_of, turned, fixed_call, open_by, sent_answer}
use Rattle.b1_inv.specs.Sends.{SendShape}
use Rattle.b1_inv.specs.Bounds.{attaches, attach_bound}
use Rattle.b1_inv_refs.proofs.Kept.{accepted_within}
use Rattle.b1_inv_bounds.proofs.Begun.{turn_calls, by_answer}

-- ---- where a command then stands

abbrev pub turn_attaches : Command → Turn → ℕ
turn_attaches command (Goes phase) = 4096 * length (fixed_call command (answer_of command phase)) + attaches phase
turn_attaches command (Ends got) = 4096 * length (call_of command got)

done_none : (owed : List OwedDrop) (told : Bool) (phase : Phase) → is_done owed told phase ≡ true → attaches phase ≡ 0
done_none owed told (Attaching sending place j) is = at owed is
  where
    at : (owed : List OwedDrop) → is_done owed told (Attaching sending place j) ≡ true → 64 * place + j ≡ 0
    at [] done = absurd (cc done)
    at (one ∷ rest) done = absurd (cc done)
done_none owed told (Stamping sending) is = at owed is
  where
    at : (owed : List OwedDrop) → is_done owed told (Stamping sending) ≡ true → ◌≡◌ {A = ℕ} 4096 0
    at [] done = absurd (cc done)
    at (one ∷ rest) done = absurd (cc done)
done_none owed told phase is = refl

goes_attaches : (b : Bool) (f : DriverPart) (command : Command) (phase : Phase) (got : Option Answer) → answer_of command phase ≡ got → (b ≡ true → attaches phase ≡ 0) → attach_bound (goes_by b got f command phase) ≡ 4096 * length f.calls + turn_attaches command (Goes phase)
goes_attaches false f command phase got is none = let one = length-append f.calls (fixed_call command (answer_of command phase)) in omega (arith, one)
goes_attaches true f command phase None is none = let one = length-append f.calls (fixed_call command (answer_of command phase)) in omega (arith, one)
goes_attaches true f command phase (Some got) is none =
    let one = length-append (f.calls ++ call_of command got) [] in
    let two = length-append f.calls (call_of command got) in
    let three = ap (λ r. length (fixed_call command r)) is in
    let four = none refl in
    omega (arith, one, two, three, four)

pub turned_attaches : (f : DriverPart) (command : Command) (to : Turn) → attach_bound (turned f command to) ≡ 4096 * length f.calls + turn_attaches command to
turned_attaches f command (Goes phase) = goes_attaches (is_done f.owed f.told phase) f command phase (answer_of command phase) refl (done_none f.owed f.told phase)
turned_attaches f command (Ends got) =
    let one = length-append (f.calls ++ call_of command got) [] in
    let two = length-append f.calls (call_of command got) in
    omega (arith, one, two)

-- by the open command
abbrev pub bound_with : List Call → Option Doing → ℕ
bound_with calls doing = 4096 * length (calls ++ open_by doing) + elim doing [ None ↦ 0 | Some d ↦ attaches d.phase ]

pub open_attaches : (d : DriverPart) (doing : Doing) → d.doing ≡ Some doing → attach_bound d ≡ 4096 * length d.calls + turn_attaches doing.command (Goes doing.phase)
open_attaches d doing is =
    let a : attach_bound d ≡ 4096 * length (d.calls ++ fixed_call doing.command (answer_of doing.command doing.phase)) + attaches doing.phase = ap (bound_with d.calls) is in
    let b = length-append d.calls (fixed_call doing.command (answer_of doing.command doing.phase)) in
    omega (arith, a, b)

pub none_attaches : (d : DriverPart) → d.doing ≡ None → attach_bound d ≡ 4096 * length d.calls
none_attaches d is =
    let a : attach_bound d ≡ 4096 * length (d.calls ++ []) + 0 = ap (bound_with d.calls) is in
    let b = length-append d.calls [] in
    omega (arith, a, b)

-- ---- an attach adds one

pub accepted_low : (places : List (Option Reason)) (here from : ℕ) → next_accepted here from places < here + length places → from ≤ next_accepted here from places
accepted_low [] here from less = absurd (omega (arith, less))
accepted_low (Some r ∷ rest) here from less = accepted_low rest (here + 1) from (omega (arith, less))
accepted_low (None ∷ rest) here from less = at (nat_le from here) refl (accepted_low rest (here + 1) from) less
  where
    at : (b : Bool) → nat_le from here ≡ b → (next_accepted (here + 1) from rest < here + 1 + length rest → from ≤ next_accepted (here + 1) from rest) → cond b here (next_accepted (here + 1) from rest) < here + suc (length rest) → from ≤ cond b here (next_accepted (here + 1) from rest)
    at true is further inside = leb-true from here is
    at false is further inside = further (omega (arith, inside))

module _ (command : Command) where
  -- attaching goes on, or is at the stamp
  pub attaching_more : (sending : Sending) (place j : ℕ) → place < 64 → j < 64 → 64 * place + j + 1 ≤ turn_attaches command (Goes (attaching sending place (j + 1)))
  attaching_more sending place j low small = at (nat_lt (j + 1) (length sending.begun.with)) (nat_lt 0 (length sending.begun.with) && is_place (accepted_from (place + 1) sending.places) sending.places) refl
    where
      at : (b c : Bool) → (nat_lt 0 (length sending.begun.with) && is_place (accepted_from (place + 1) sending.places) sending.places) ≡ c → 64 * place + j + 1 ≤ turn_attaches command (Goes (cond b (Attaching sending place (j + 1)) (cond c (Attaching sending (accepted_from (place + 1) sending.places) 0) (Stamping sending))))
      at true c is = omega arith
      at false true is =
          let inside = ltb-true (accepted_from (place + 1) sending.places) (length sending.places) (and_parts (nat_lt 0 (length sending.begun.with)) (is_place (accepted_from (place + 1) sending.places) sending.places) is).1 in
          let low_next = accepted_low sending.places 0 (place + 1) (omega (arith, inside)) in
          omega (arith, low_next, small)
      at false false is = omega (arith, low, small)

  -- and is bounded
  attaching_small : (sending : Sending) (place j : ℕ) → place < 64 → length sending.begun.with ≤ 64 → length sending.places ≤ 64 → attaches (attaching sending place j) ≤ 4096
  attaching_small sending place j low handles places = at (nat_lt j (length sending.begun.with)) refl (nat_lt 0 (length sending.begun.with) && is_place (accepted_from (place + 1) sending.places) sending.places) refl
    where
      at : (b : Bool) → nat_lt j (length sending.begun.with) ≡ b → (c : Bool) → (nat_lt 0 (length sending.begun.with) && is_place (accepted_from (place + 1) sending.places) sending.places) ≡ c → attaches (cond b (Attaching sending place j) (cond c (Attaching sending (accepted_from (place + 1) sending.places) 0) (Stamping sending))) ≤ 4096
      at true small c is = let k = ltb-true j (length sending.begun.with) small in omega (arith, k, low, handles)
      at false small true is = let inside = ltb-true (accepted_from (place + 1) sending.places) (length sending.places) (and_parts (nat_lt 0 (length sending.begun.with)) (is_place (accepted_from (place + 1) sending.places) sending.places) is).1 in omega (arith, inside, places)
      at false small false is = omega arith

  sent_one : (sending : Sending) (stamp : ℕ) → length (call_of command (sent_answer sending stamp)) ≡ 1
  sent_one sending stamp = ap (λ b. length {A = Call} (cond b [] (record { command = as_call command; answer = sent_answer sending stamp } ∷ []))) (and_right (is_await command) false refl)

  syncing_sent : (sending : Sending) (stamp place : ℕ) → 4096 ≤ turn_attaches command (Goes (syncing sending stamp place))
  syncing_sent sending stamp place = at (is_place place sending.places)
    where
      at : (b : Bool) → 4096 ≤ turn_attaches command (Goes (cond b (Syncing sending stamp place) (Committing sending stamp (accepted_from 0 sending.places))))
      at true = let k = sent_one sending stamp in omega (arith, k)
      at false = let k = sent_one sending stamp in omega (arith, k)

  -- an answer takes none back
  pub attaching_stays : (me : ℕ) (sending : Sending) (place j : ℕ) → place < 64 → j < 64 → (outcome : Outcome) → turn_attaches command (Goes (Attaching sending place j)) ≤ turn_attaches command (turn me command (Attaching sending place j) outcome)
  attaching_stays me sending place j low small (out.Attach got) = let k = attaching_more (with_slot sending place j got) place j low small in omega (arith, k)
  attaching_stays me sending place j low small outcome = omega arith

  pub stamping_stays : (me : ℕ) (sending : Sending) (outcome : Outcome) → turn_attaches command (Goes (Stamping sending)) ≤ turn_attaches command (turn me command (Stamping sending) outcome)
  stamping_stays me sending (out.Stamp stamp) = let k = syncing_sent sending stamp (accepted_from 0 sending.places) in omega (arith, k)
  stamping_stays me sending outcome = omega arith

  -- ---- at most 4,096

  abbrev pub Small : Turn → Type 0
  Small to = elim to [ Goes phase ↦ attaches phase ≤ 4096 | Ends got ↦ ⊤ ]

  staging_small : (begun : Begun) (places : List (Option Reason)) (collected : ℕ) → length begun.with ≤ 64 → length places ≤ 64 → Small (staging begun places collected)
  staging_small begun places collected handles short = at (nat_lt (length places) (length begun.to)) (is_place (accepted_from 0 places) places) refl
    where
      at : (b c : Bool) → is_place (accepted_from 0 places) places ≡ c → Small (cond b (Goes (Staging begun places collected)) (cond c (Goes (attaching (all_staged begun places collected) (accepted_from 0 places) 0)) (Ends (all_refused places))))
      at true c is = omega arith
      at false true is = attaching_small (all_staged begun places collected) (accepted_from 0 places) 0 (let k = ltb-true (accepted_from 0 places) (length places) is in omega (arith, k, short)) handles short
      at false false is = tt

  unstaging_small : (begun : Begun) (places : List (Option Reason)) (refused : Refused) (place : ℕ) → Small (unstaging begun places refused place)
  unstaging_small begun places refused place = at (is_place place places)
    where
      at : (b : Bool) → Small (cond b (Goes (Unstaging begun places refused place)) (Ends (answer.Refused refused)))
      at true = omega arith
      at false = tt

  place_small : (begun : Begun) (places : List (Option Reason)) (collected : ℕ) (got : Result ℕ Reason) → length begun.with ≤ 64 → length places < 64 → Small (place_done command begun places collected got)
  place_small begun places collected (Ok clock) handles short = staging_small begun (places ++ None ∷ []) (max collected clock) handles (let k = length-append places (None ∷ []) in omega (arith, k, short))
  place_small begun places collected (Err r) handles short = at (send_of command).go_on
    where
      at : (b : Bool) → Small (cond b (staging begun (places ++ Some r ∷ []) collected) (unstaging begun (places ++ Some r ∷ []) (record { reason = r; place = Some (length places) }) (accepted_from 0 (places ++ Some r ∷ []))))
      at true = staging_small begun (places ++ Some r ∷ []) collected handles (let k = length-append places (Some r ∷ []) in omega (arith, k, short))
      at false = unstaging_small begun (places ++ Some r ∷ []) (record { reason = r; place = Some (length places) }) (accepted_from 0 (places ++ Some r ∷ []))

  syncing_small : (sending : Sending) (stamp place : ℕ) → Small (Goes (syncing sending stamp place))
  syncing_small sending stamp place = elim (is_place place sending.places) as (λ b. Small (Goes (cond b (Syncing sending stamp place) (Committing sending stamp (accepted_from 0 sending.places))))) [ true ↦ omega arith | false ↦ omega arith ]

  visiting_small : (destruction : Destruction) (left : List ℕ) → Small (Goes (visiting destruction left))
  visiting_small destruction [] = omega arith
  visiting_small destruction (peer ∷ rest) = omega arith

  notices_small : (destruction : Destruction) (stamp at : ℕ) → Small (Goes (syncing_notices destruction stamp at))
  notices_small destruction stamp at = elim (nat_lt at (length destruction.staged)) as (λ b. Small (Goes (cond b (SyncingNotices destruction stamp at) (CommittingOwn destruction stamp)))) [ true ↦ omega arith | false ↦ omega arith ]

  committing_small : (destruction : Destruction) (stamp here : ℕ) → Small (committing_notices command destruction stamp here)
  committing_small destruction stamp here = at (nat_lt here (length destruction.staged)) (is_flushing command)
    where
      at : (b c : Bool) → Small (cond b (Goes (CommittingNotices destruction stamp here)) (cond c (Goes (Flushing (Some stamp))) (Ends (answer.Destroyed stamp))))
      at true c = omega arith
      at false true = omega arith
      at false false = tt

  destroying_small : (doomed visit : List ℕ) → Small (Goes (destroying doomed visit))
  destroying_small [] visit = omega arith
  destroying_small (serial ∷ rest) visit = visiting_small (record { doomed = serial ∷ rest; collected = 0; staged = [] }) visit

  pub started_small : (outcome : Outcome) → Small (started command outcome)
  started_small (out.Begin (Ok begun)) = omega arith
  started_small (out.Begin (Err r)) = tt
  started_small (out.Recv got dead) = omega arith
  started_small (out.Release (Ok owed)) = omega arith
  started_small (out.Release (Err r)) = tt
  started_small (out.BeginDestroy (Ok visit) doomed) = destroying_small doomed visit
  started_small (out.BeginDestroy (Err r) doomed) = tt
  started_small (out.Local got) = tt
  started_small outcome = omega arith

  -- an open SEND has at most 64 places and handles
  pub phase_small : (s : State) (phase : Phase) → SendShape s command phase → attaches phase ≤ 4096
  phase_small s (Attaching sending place j) sh =
      let a = accepted_within sending.places place sh.1 in
      let b = sh.0.places in
      let c = sh.0.begun.destinations in
      let d = sh.0.begun.send.destinations in
      let e = sh.0.begun.handles in
      let f = sh.0.begun.send.handles in
      let g = sh.2 in
      omega (arith, a, b, c, d, e, f, g)
  phase_small s (Stamping sending) sh = omega arith
  phase_small s phase sh = omega arith

  pub turn_small : (s : State) (me : ℕ) (phase : Phase) (outcome : Outcome) → (phase ≡ Starting → ⊥) → SendShape s command phase → Small (turn me command phase outcome)
  turn_small s me Starting outcome not_start sh = absurd sh
  turn_small s me (Staging begun places collected) (out.Stage got) not_start sh =
      place_small begun places collected got (let a = sh.0.handles in let b = sh.0.send.handles in omega (arith, a, b)) (let a = sh.1 in let b = sh.0.destinations in let c = sh.0.send.destinations in omega (arith, a, b, c))
  turn_small s me (Unstaging begun places refused place) out.Unstage not_start sh = unstaging_small begun places refused (accepted_from (place + 1) places)
  turn_small s me (Attaching sending place j) (out.Attach got) not_start sh =
      let a = accepted_within sending.places place sh.1 in
      let b = sh.0.places in
      let c = sh.0.begun.destinations in
      let d = sh.0.begun.send.destinations in
      let e = sh.0.begun.handles in
      let f = sh.0.begun.send.handles in
      attaching_small (with_slot sending place j got) place (j + 1) (omega (arith, a, b, c, d)) (omega (arith, e, f)) (omega (arith, b, c, d))
  turn_small s me (Stamping sending) (out.Stamp stamp) not_start sh = syncing_small sending stamp (accepted_from 0 sending.places)
  turn_small s me (Syncing sending stamp place) out.Sync not_start sh = syncing_small sending stamp (accepted_from (place + 1) sending.places)
  turn_small s me (Committing sending stamp place) (out.Commit found) not_start sh = omega arith
  turn_small s me (Visiting destruction left) (out.Visit got) not_start sh = visiting_small (with_visit destruction (get_or left 0 me) got) (drop 1 left)
  turn_small s me (Dooming destruction) (out.StampDestroy (Ok stamp)) not_start sh = notices_small destruction stamp 0
  turn_small s me (Dooming destruction) (out.StampDestroy (Err late)) not_start sh = visiting_small destruction late
  turn_small s me (SyncingNotices destruction stamp at) out.Sync not_start sh = notices_small destruction stamp (at + 1)
  turn_small s me (CommittingOwn destruction stamp) out.CommitNotices not_start sh = committing_small destruction stamp 0
  turn_small s me (CommittingNotices destruction stamp at) out.CommitNotices not_start sh = committing_small destruction stamp (at + 1)
  turn_small s me (Flushing stamp) (out.Flush dead) not_start sh = omega arith
  turn_small s me phase outcome not_start sh = phase_small s phase sh

  -- so its attaches are within its calls
  pub small_within : (to : Turn) → Small to → turn_attaches command to ≤ 4096 * turn_calls command to
  small_within (Ends got) small = omega arith
  small_within (Goes phase) small = at phase small
    where
      answered : (got : Answer) (n : ℕ) → n ≡ 0 → 4096 * length (fixed_call command (Some got)) + n ≤ 4096 * by_answer command (Some got)
      answered got n is = omega (arith, is)

      at : (phase : Phase) → attaches phase ≤ 4096 → 4096 * length (fixed_call command (answer_of command phase)) + attaches phase ≤ 4096 * by_answer command (answer_of command phase)
      at (Attaching sending place j) small_it = omega (arith, small_it)
      at (Stamping sending) small_it = omega arith
      at Starting small_it = omega arith
      at (Staging begun places collected) small_it = omega arith
      at (Unstaging begun places refused place) small_it = omega arith
      at (Syncing sending stamp place) small_it = omega arith
      at (Committing sending stamp place) small_it = omega arith
      at Dropping small_it = omega arith
      at (Reaping got) small_it = omega arith
      at (Visiting destruction left) small_it = omega arith
      at (Dooming destruction) small_it = omega arith
      at (SyncingNotices destruction stamp here) small_it = omega arith
      at (CommittingOwn destruction stamp) small_it = omega arith
      at (CommittingNotices destruction stamp here) small_it = omega arith
      at (Flushing stamp) small_it = omega arith
