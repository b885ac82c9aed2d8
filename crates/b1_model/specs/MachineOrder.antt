-- The events of a list of steps, the receive-before-send order, the right front, and the words stuck and drained.
use Rattle.std.specs.Prelude.{◌≡◌, ◌≢◌, ℕ, ◌+◌, ◌==◌, ◌<◌, Bool, true, false, ◌&&◌, not, if◌then◌else◌, List, [], ◌∷◌, slice_get, length, Option, Some, None, Ok, Err, is_none}
use Rattle.std.specs.List.{list_any, list_all}
use Rattle.b1_model.specs.declared.naming.Key.{Key}
use Rattle.b1_model.specs.declared.naming.Opening.{Opening}
use Rattle.b1_model.specs.declared.commands.Command.{Command}
use Rattle.b1_model.specs.declared.commands.Command.TheVariants as cmd
use Rattle.b1_model.specs.declared.entries.Entry.{Entry}
use Rattle.b1_model.specs.declared.entries.Entry.TheVariants as entry
use Rattle.b1_model.specs.declared.answers.Front.{Front}
use Rattle.b1_model.specs.declared.answers.Front.TheVariants.{Absent, Staged}
use Rattle.b1_model.specs.declared.answers.Receipt.TheVariants as receipt
use Rattle.b1_model.specs.declared.events.Outcome.{Outcome}
use Rattle.b1_model.specs.declared.events.Outcome.TheVariants as out
use Rattle.b1_model.specs.Names.{calls_of}
use Rattle.b1_model.specs.Ledger.{is_before}
use Rattle.b1_model.specs.Legal.{HasNoNext}
use Rattle.b1_model.specs.Script.{commands_of}
use Rattle.b1_model.specs.MachineParts.{PeerPart, DriverPart, State, is_staged}
use Rattle.b1_model.specs.MachineDriver.{next_action}
use Rattle.b1_model.specs.MachineEvents.{happens}
use Rattle.b1_model.specs.MachineStep.{Label, Step, Leads, Run, begun, opening_state, record_of_state}

-- ---- the events of a list of steps

-- what happened in one step: whose event it was, at which peer, and what it answered
pub record Event : Type 0 where
  pub driver : ℕ
  pub at : ℕ
  pub outcome : Outcome

-- what the next event of a driver's part answers at a peer's part
abbrev pub answer_at : Opening → Bool → Option DriverPart → PeerPart → Outcome
answer_at o memory None x = out.Sync
answer_at o memory (Some e) x = elim e.doing [ None ↦ out.Sync | Some doing ↦ (happens o memory e doing (next_action e) x).0 ]

-- the event of a step
abbrev pub event_of : {o : Opening} {s : State} {p : ℕ} {command : Option Command} {t : State} → Step o s p command t → Event
event_of {o} {s} {p} {command} step = record { driver = p; at = step.at; outcome = answer_at o step.local.memory (begun step.driver command) step.peer }

-- the events of steps, in their order
abbrev pub events : (o : Opening) (s : State) (steps : List Label) (t : State) → Leads o s steps t → List Event
events o s [] t run = []
events o s (l ∷ rest) t run = event_of run.1 ∷ events o run.0 rest t run.2

-- ---- receive before send

-- an accepted begin of a SEND or of a destruction
abbrev pub is_begin : Outcome → Bool
is_begin (out.Begin (Ok nodes)) = true
is_begin (out.BeginDestroy (Ok visit) doomed) = true
is_begin outcome = false

-- an entry or a notice was staged
abbrev pub is_staging : Outcome → Bool
is_staging (out.Stage (Ok clock)) = true
is_staging (out.Visit got) = got.staged
is_staging outcome = false

-- the stamp that an event gave
abbrev pub stamp_given : Outcome → Option ℕ
stamp_given (out.Stamp stamp) = Some stamp
stamp_given (out.StampDestroy (Ok stamp)) = Some stamp
stamp_given outcome = None

-- a stamped call: the step at which it began, its origin and its stamp, and its parties: its origin and the peers where an entry of it was staged
pub record StampedCall : Type 0 where
  pub began : ℕ
  pub origin : ℕ
  pub stamp : ℕ
  pub parties : List ℕ

-- the call of a driver that began at a step, if the events behind it give it a stamp before another begin
abbrev pub stamped_call : ℕ → ℕ → List ℕ → List Event → Option StampedCall
stamped_call began origin parties [] = None
stamped_call began origin parties (e ∷ rest) =
    if not (e.driver == origin) then stamped_call began origin parties rest
    else (if is_begin e.outcome then None
    else elim (stamp_given e.outcome) [
      | Some stamp ↦ Some (record { began = began; origin = origin; stamp = stamp; parties = parties })
      | None ↦ stamped_call began origin (if is_staging e.outcome then e.at ∷ parties else parties) rest
    ])

-- the stamped calls of events, the first of which is the step `here`
abbrev pub with_call : Option StampedCall → List StampedCall → List StampedCall
with_call None calls = calls
with_call (Some c) calls = c ∷ calls

-- the stamped calls of events, the first of which is the step `here`
abbrev pub stamped_calls : ℕ → List Event → List StampedCall
stamped_calls here [] = []
stamped_calls here (e ∷ rest) = if is_begin e.outcome then with_call (stamped_call here e.driver (e.driver ∷ []) rest) (stamped_calls (here + 1) rest) else stamped_calls (here + 1) rest

-- the key of the entry that a RECV took, release notices aside
abbrev pub key_taken : Outcome → Option Key
key_taken (out.Recv got dead) = elim got.front [ Err front ↦ None | Ok one ↦ elim one [ receipt.Message key number offset handles payload ↦ Some key | receipt.Destroyed key number ↦ Some key | receipt.Released stamp number ↦ None ] ]
key_taken outcome = None

-- two calls have a party in common
abbrev pub shares_party : StampedCall → StampedCall → Bool
shares_party m x = list_any (λ a. list_any (λ b. a == b) x.parties) m.parties

-- a stamped call of the events
abbrev pub HasCall : List Event → StampedCall → Type 0
HasCall es c = (i : ℕ) × (slice_get (stamped_calls 0 es) i ≡ Some c)

-- what was begun after an entry of a call was received has a later stamp than that call, where they have a party in common
pub record ReceivedBeforeSent (es : List Event) : Type 0 where
  pub later : (i : ℕ) (e : Event) (key : Key) (m x : StampedCall) → slice_get es i ≡ Some e → key_taken e.outcome ≡ Some key
      → HasCall es m → m.stamp ≡ key.stamp → m.origin ≡ key.origin
      → HasCall es x → i < x.began → shares_party m x ≡ true → m.stamp < x.stamp

-- of every way in which a list of steps leads on from the opening
abbrev pub Late : Opening → List Label → Type 0
Late o steps = (s : State) (run : Run o steps s) → ReceivedBeforeSent (events o (opening_state o) steps s run)

-- ---- the right front

-- nothing in a queue is staged
abbrev pub has_staged : List (Key × Entry) → Bool
has_staged queue = list_any is_staged queue

-- the release notice of some node
abbrev pub is_any_release_notice : Key × Entry → Bool
is_any_release_notice f = elim f.1 [ entry.ReleaseNotice serial ↦ true | other ↦ false ]

-- a staged entry or notice of an origin, with a stamp
abbrev pub is_staged_by : ℕ → ℕ → Key × Entry → Bool
is_staged_by origin stamp f = is_staged f && (f.0.origin == origin) && (f.0.stamp == stamp)

-- the part of peer p shows this front rightly
abbrev pub FrontShown : Opening → State → ℕ → PeerPart → Front → Type 0
FrontShown o s p x Absent = (has_staged x.queue ≡ false) × (list_any is_any_release_notice x.queue ≡ false) × HasNoNext o.wires (record_of_state s) p (length (calls_of (record_of_state s) p))
FrontShown o s p x (Staged origin stamp) =
    ((d : DriverPart) × (slice_get s.drivers origin ≡ Some d) × (is_none d.doing ≡ false))
    × (list_any (is_staged_by origin stamp) x.queue ≡ true)
    × (list_all (λ f. not (is_before f.0.stamp f.0.origin stamp origin)) x.queue ≡ true)

-- the front that a RECV of peer p found is right in the state
abbrev pub FrontRight : Opening → State → ℕ → Front → Type 0
FrontRight o s p front = (x : PeerPart) × (slice_get s.peers p ≡ Some x) × FrontShown o s p x front

-- ---- stuck and drained

-- no command of this driver is open
abbrev pub is_idle : DriverPart → Bool
is_idle d = is_none d.doing

-- no command of any driver is open
abbrev pub no_command_open : State → Bool
no_command_open s = list_all is_idle s.drivers

-- the command that a driver stands at, if its commands aren't at their end: each that ended is a call
abbrev pub next_command : List (List Command) → ℕ → DriverPart → Option Command
next_command lists p d = slice_get (commands_of lists p) (length d.calls)

-- peer p's commands are at their end
abbrev pub IsAtEnd : List (List Command) → State → ℕ → Type 0
IsAtEnd lists s p = (d : DriverPart) → slice_get s.drivers p ≡ Some d → next_command lists p d ≡ None

-- no command is open, some commands aren't at their end, and each of their peers waits: it hasn't disconnected, stands at AWAIT, and has an empty queue
pub record Stuck (lists : List (List Command)) (s : State) : Type 0 where
  pub none_open : no_command_open s ≡ true
  pub some_left : (p : ℕ) × (d : DriverPart) × (slice_get s.drivers p ≡ Some d) × (next_command lists p d ≢ None)
  pub waiting : (p : ℕ) (d : DriverPart) (x : PeerPart) (c : Command) → slice_get s.drivers p ≡ Some d → slice_get s.peers p ≡ Some x → next_command lists p d ≡ Some c → (d.shut ≡ false) × (c ≡ cmd.Await) × (x.queue ≡ [])

-- no command is open, and the queue of every peer that hasn't disconnected is empty
pub record Drained (s : State) : Type 0 where
  pub none_open : no_command_open s ≡ true
  pub empty : (p : ℕ) (d : DriverPart) (x : PeerPart) → slice_get s.drivers p ≡ Some d → slice_get s.peers p ≡ Some x → d.shut ≡ false → x.queue ≡ []

-- the same where the commands are a script's: they have all ended too
pub record DrainedOf (lists : List (List Command)) (s : State) : Type 0 where
  pub drained : Drained s
  pub ended : (p : ℕ) → IsAtEnd lists s p
