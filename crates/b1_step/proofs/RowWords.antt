-- Words for worked rows: how an opening, a list of steps and a record are written, and what it is that steps lead to a record.
use Rattle.std.specs.Prelude.{◌≡◌, ℕ, zero, suc, true, false, List, [], ◌∷◌, Option, None, Some}
use Rattle.b1_model.specs.declared.commands.Command.{Command}
use Rattle.b1_model.specs.declared.commands.Command.TheVariants as cmd
use Rattle.b1_model.specs.declared.answers.Reason.{Reason}
use Rattle.b1_model.specs.declared.answers.Answer.{Answer}
use Rattle.b1_model.specs.declared.answers.Answer.TheVariants as ans
use Rattle.b1_model.specs.declared.naming.Key.{Key}
use Rattle.b1_model.specs.declared.naming.Limits.{Limits}
use Rattle.b1_model.specs.declared.naming.PeerSpec.{PeerSpec}
use Rattle.b1_model.specs.declared.naming.Wire.{Wire}
use Rattle.b1_model.specs.declared.naming.Opening.{Opening}
use Rattle.b1_model.specs.declared.records.Call.{Call}
use Rattle.b1_model.specs.declared.records.PeerCalls.{PeerCalls}
use Rattle.b1_model.specs.declared.records.Record.{Record}
use Rattle.b1_model.specs.MachineParts.{State}
use Rattle.b1_model.specs.MachineStep.{Label, Run, stepped, opening_state, record_of_state}

abbrev pub call : Command → Answer → Call
call c a = record { command = c; answer = a }

abbrev pub key : ℕ → ℕ → ℕ → Key
key s o i = record { stamp = s; origin = o; index = i }

abbrev pub limits : ℕ → ℕ → ℕ → Limits
limits e b h = record { entries = e; bytes = b; handles = h }

abbrev pub spec : ℕ → ℕ → Limits → PeerSpec
spec user pool limits = record { user = user; pool = pool; limits = limits }

-- a wire from a peer to a peer, by a number
abbrev pub wire : ℕ → ℕ → ℕ → Wire
wire f t n = record { from = f; to = t; number = n }

abbrev pub send : List ℕ → List ℕ → List ℕ → Command
send to carried bytes = cmd.Send (record { go_on = false; to = to; with = carried; payload = bytes })

-- a SEND with CONTINUE
abbrev pub carry_on : List ℕ → List ℕ → List ℕ → Command
carry_on to carried bytes = cmd.Send (record { go_on = true; to = to; with = carried; payload = bytes })

abbrev pub sent : ℕ → List (Option Reason) → Answer
sent stamp places = ans.Sent (record { stamp = stamp; places = places })

abbrev pub refused : Reason → Option ℕ → Answer
refused r place = ans.Refused (record { reason = r; place = place })

abbrev pub peer : ℕ → ℕ → List Call → PeerCalls
peer epoch clock calls = record { epoch = epoch; clock = clock; calls = calls }

abbrev pub opening : ℕ → List PeerSpec → List Wire → Opening
opening first peers wires = record { first_clock = first; peers = peers; wires = wires }

-- steps of one driver in a row
pub record Piece : Type 0 where
  pub driver : ℕ
  pub command : Option Command
  pub further : ℕ

-- a driver's command begins, and goes on for as many further steps
abbrev pub from : ℕ → Command → ℕ → Piece
from p c n = record { driver = p; command = Some c; further = n }

-- a driver's open command goes on for so many steps
abbrev pub more : ℕ → ℕ → Piece
more p n = record { driver = p; command = None; further = n }

abbrev pub further_labels : ℕ → ℕ → List Label → List Label
further_labels p zero rest = rest
further_labels p (suc n) rest = record { driver = p; command = None } ∷ further_labels p n rest

abbrev pub first_label : ℕ → Option Command → List Label → List Label
first_label p None rest = rest
first_label p (Some c) rest = record { driver = p; command = Some c } ∷ rest

abbrev pub labels : List Piece → List Label
labels [] = []
labels (x ∷ rest) = first_label x.driver x.command (further_labels x.driver x.further (labels rest))

-- the state that steps lead to where memory never fails
abbrev pub played_from : Opening → Option State → List Label → Option State
played_from o None steps = None
played_from o (Some s) [] = Some s
played_from o (Some s) (l ∷ rest) = played_from o (stepped o false l.driver l.command s) rest

abbrev pub played : Opening → List Label → Option State
played o steps = played_from o (Some (opening_state o)) steps

-- the steps lead from the opening to a state with this record
abbrev pub LeadsTo : Opening → List Label → Record → Type 0
LeadsTo o steps row = (s : State) × Run o steps s × (record_of_state s ≡ row)
