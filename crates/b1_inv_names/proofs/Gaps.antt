-- In the gap of a reset the table at the end of a peer's calls is empty: the last call flushes.
use Rattle.std.proofs.Common.{◌≡◌, refl, ap, ◌∙◌, ℕ, Bool, true, false, cond, List, [], ◌∷◌, ◌++◌, take, Option, Some, None}
use Rattle.std.proofs.lemmas.Option.{slice_get_within}
use native.Mathlib.Omega.{arith}
use Rattle.b1_model.specs.declared.commands.Command.{Command}
use Rattle.b1_model.specs.declared.naming.Opening.{Opening}
use Rattle.b1_model.specs.declared.answers.Answer.TheVariants as answer
use Rattle.b1_model.specs.declared.events.Doing.{Doing}
use Rattle.b1_model.specs.declared.events.Phase.{Phase}
use Rattle.b1_model.specs.declared.events.Phase.TheVariants.{SyncingNotices, CommittingOwn, CommittingNotices, Flushing}
use Rattle.b1_model.specs.declared.records.Call.{Call}
use Rattle.b1_model.specs.Names.{calls_of, is_flush}
use Rattle.b1_model.specs.Ledger.{table_in, start, slots, table}
use Rattle.b1_model.specs.MachineParts.{PeerPart, DriverPart, State}
use Rattle.b1_model.specs.MachineDriver.{is_flushing}
use Rattle.b1_model.specs.MachineTook.{call_of, as_call, open_by}
use Rattle.b1_model.specs.MachineStep.{Step, opening_state, record_of_state}
use Rattle.b1_step.proofs.Numbers.{opening_numbered}
use Rattle.b1_step.proofs.Locality.{as_many_peers, as_many_drivers}
use Rattle.b1_inv.specs.Words.{IsPeer, IsDriver}
use Rattle.b1_inv.specs.Sound.{IsSound}
use Rattle.b1_ledger.specs.Growth.{calls_len}
use Rattle.b1_ledger.proofs.Sequences.{take-past}
use Rattle.b1_ledger.proofs.Walks.{table_in-append}
use Rattle.b1_ledger.proofs.Made.{flush_table}
use Rattle.b1_inv_record.specs.Epochs.{awaits_flush, in_gap}
use Rattle.b1_inv_notices.proofs.Turns.{doing_in, get_there}
use Rattle.b1_inv_names.specs.Gap.{GapIsEmpty}
use Rattle.b1_inv_names.proofs.Recorded.{recorded_calls}
use Rattle.b1_inv_names.proofs.ShutKept.{flush_call}

-- the one call that an open flush stands for
abbrev IsFlushing : List Call → Type 0
IsFlushing calls = (c : Call) × (calls ≡ c ∷ []) × (is_flush c.answer ≡ true)

of_reset : (command : Command) (stamp : Option ℕ) → IsFlushing (call_of command (answer.Reset stamp))
of_reset command stamp = (record { command = as_call command; answer = answer.Reset stamp }, flush_call command stamp, refl)

of_stamped : (command : Command) (stamp : ℕ) (b : Bool) → b ≡ true → IsFlushing (call_of command (cond b (answer.Reset (Some stamp)) (answer.Destroyed stamp)))
of_stamped command stamp true is = of_reset command (Some stamp)
of_stamped command stamp false is = absurd (cc is)

gap_call : (command : Command) (phase : Phase) → awaits_flush command phase ≡ true → IsFlushing (open_by (Some (doing_in command phase)))
gap_call command (SyncingNotices destruction stamp at) is = of_stamped command stamp (is_flushing command) is
gap_call command (CommittingOwn destruction stamp) is = of_stamped command stamp (is_flushing command) is
gap_call command (CommittingNotices destruction stamp at) is = of_stamped command stamp (is_flushing command) is
gap_call command (Flushing stamp) is = of_reset command stamp
gap_call command phase is = absurd (cc is)

open_flush : (doing : Option Doing) → elim doing [ None ↦ false | Some one ↦ awaits_flush one.command one.phase ] ≡ true → IsFlushing (open_by doing)
open_flush None is = absurd (cc is)
open_flush (Some doing) is = gap_call doing.command doing.phase is

gap_empty : (o : Opening) (s : State) (p : ℕ) (d : DriverPart) (x : PeerPart) → IsDriver s p d → IsPeer s p x → in_gap d ≡ true → (table o.wires (record_of_state s) p (calls_len (record_of_state s) p)).lines ≡ []
gap_empty o s p d x is_driver is_peer gap =
    let k = open_flush d.doing gap in
    let calls : calls_of (record_of_state s) p ≡ d.calls ++ k.0 ∷ [] = recorded_calls s p x d is_peer is_driver ∙ ap (λ l. d.calls ++ l) k.1 in
    let all : take (calls_len (record_of_state s) p) (calls_of (record_of_state s) p) ≡ d.calls ++ k.0 ∷ [] = take-past (calls_of (record_of_state s) p) (calls_len (record_of_state s) p) (omega arith) ∙ calls in
    ap (λ cs. (table_in (slots o.wires (record_of_state s) p) (start o.wires p) cs).lines) all
    ∙ ap (λ z. z.lines) (table_in-append (slots o.wires (record_of_state s) p) (start o.wires p) d.calls (k.0 ∷ []))
    ∙ flush_table (slots o.wires (record_of_state s) p) k.0.command k.0.answer (table_in (slots o.wires (record_of_state s) p) (start o.wires p) d.calls) k.2

pub gaps_kept : {o : Opening} {s : State} {p : ℕ} {c : Option Command} {t : State} → IsSound o s → Step o s p c t → GapIsEmpty o t
gaps_kept {o = o} {t = t} sound step q d is_driver gap =
    let x = get_there t.peers q (let within = slice_get_within t.drivers q d is_driver in omega (arith, within, as_many_peers step, as_many_drivers step, sound.numbered.as_many_drivers, sound.numbered.as_many_peers)) in
    gap_empty o t q d x.0 is_driver x.1 gap

pub gaps_begin : (o : Opening) → GapIsEmpty o (opening_state o)
gaps_begin o q d is_driver gap =
    let k = opening_numbered o in
    let x = get_there (opening_state o).peers q (let within = slice_get_within (opening_state o).drivers q d is_driver in omega (arith, within, k.as_many_drivers, k.as_many_peers)) in
    gap_empty o (opening_state o) q d x.0 is_driver x.1 gap
