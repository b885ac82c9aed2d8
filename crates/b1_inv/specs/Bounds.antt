-- How large nodes, given numbers, held handles and counts can be, by the wires and the calls.
use Rattle.std.specs.Prelude.{◌≤◌, ◌*◌, ℕ, ◌+◌, Bool, true, false, if◌then◌else◌, length, Some, None, sum_by}
use Rattle.b1_model.specs.declared.limits.TheConstants.{MOST_DESTINATIONS, MOST_HANDLES}
use Rattle.b1_model.specs.declared.naming.Key.{Key}
use Rattle.b1_model.specs.declared.naming.Opening.{Opening}
use Rattle.b1_model.specs.declared.entries.Entry.{Entry}
use Rattle.b1_model.specs.declared.events.Phase.{Phase}
use Rattle.b1_model.specs.declared.events.Phase.TheVariants.{Attaching, Stamping}
use Rattle.b1_model.specs.MachineParts.{PeerPart, DriverPart, HandleRecord, State, node_at, carried}
use Rattle.b1_model.specs.MachineTables.{count_of}
use Rattle.b1_model.specs.MachineTook.{answer_of, driver_calls}
use Rattle.b1_step.specs.Rights.{Has}
use Rattle.b1_inv.specs.Words.{IsPeer, IsDriver}

-- a command is open whose answer isn't fixed
abbrev pub is_unanswered : DriverPart → Bool
is_unanswered d = elim d.doing [ None ↦ false | Some doing ↦ elim (answer_of doing.command doing.phase) [ None ↦ true | Some got ↦ false ] ]

-- a driver's calls, with the open one
abbrev pub calls_begun : DriverPart → ℕ
calls_begun d = length (driver_calls d) + (if is_unanswered d then 1 else 0)

-- the most slots of a SEND: each carried handle at each place
abbrev pub most_attaches : ℕ
most_attaches = MOST_DESTINATIONS * MOST_HANDLES

-- the most handles of a SEND for each call of a driver, and one for each wire
abbrev pub call_bound : Opening → DriverPart → ℕ
call_bound o d = length o.wires + MOST_HANDLES * calls_begun d

-- the most slots of a SEND for each call of all drivers, and one for each wire
abbrev pub all_calls_bound : Opening → State → ℕ
all_calls_bound o s = length o.wires + sum_by (λ d. most_attaches * calls_begun d) s.drivers

-- how many attaches an open SEND without a stamp has done at most
abbrev pub attaches : Phase → ℕ
attaches (Attaching sending place slot) = MOST_HANDLES * place + slot
attaches (Stamping sending) = most_attaches
attaches phase = 0

-- the most slots of a SEND for each call of a driver, and what the open one without an answer has done
abbrev pub attach_bound : DriverPart → ℕ
attach_bound d = most_attaches * length (driver_calls d) + elim d.doing [ None ↦ 0 | Some doing ↦ attaches doing.phase ]

-- the same of all drivers, and one for each wire
abbrev pub all_attaches_bound : Opening → State → ℕ
all_attaches_bound o s = length o.wires + sum_by attach_bound s.drivers

-- nodes made, numbers given and handles held at a peer, the counts of all nodes, and the handles that entries carry
pub record BoundsRight (o : Opening) (s : State) : Type 0 where
  pub nodes : (p : ℕ) (d : DriverPart) (x : PeerPart) → IsDriver s p d → IsPeer s p x → length x.nodes ≤ call_bound o d
  pub given : (p : ℕ) (d : DriverPart) (x : PeerPart) → IsDriver s p d → IsPeer s p x → x.given ≤ call_bound o d
  pub held : (p : ℕ) (d : DriverPart) (x : PeerPart) (h : HandleRecord) → IsDriver s p d → IsPeer s p x → Has x.handles h → h.held ≤ call_bound o d
  pub counts : (q : ℕ) (x : PeerPart) (serial holder : ℕ) → IsPeer s q x → count_of (node_at x serial) holder ≤ all_calls_bound o s
  pub attached : (q : ℕ) (x : PeerPart) (serial holder : ℕ) → IsPeer s q x → count_of (node_at x serial) holder ≤ all_attaches_bound o s
  pub carried : (q : ℕ) (x : PeerPart) (f : Key × Entry) → IsPeer s q x → Has x.queue f → length (carried f.1) ≤ MOST_HANDLES
