-- What the laws of a step say: facts of every step, and of every event.
use Rattle.std.specs.Prelude.{◌≡◌, ◌≢◌, ◌≤◌, ℕ, Bool, true, false, length, slice_get, Option, Some}
use Rattle.b1_model.specs.declared.naming.Opening.{Opening}
use Rattle.b1_model.specs.declared.commands.Command.{Command}
use Rattle.b1_model.specs.declared.events.Action.{Action}
use Rattle.b1_model.specs.declared.events.Doing.{Doing}
use Rattle.b1_model.specs.MachineParts.{PeerPart, DriverPart, State}
use Rattle.b1_model.specs.MachineEvents.{happens}
use Rattle.b1_model.specs.MachineTook.{driver_calls}
use Rattle.b1_model.specs.MachineStep.{LocalStep, Reached, Step, target, with_parts, stepped}
use Rattle.b1_step.specs.Rights.{Changes, Keeps, may_be_elsewhere, may_want_memory, memory_answer}
use Rattle.b1_step.specs.Ordered.{Rising}
use Rattle.b1_step.specs.Fixed.{AtMostOneMore, Grows}

-- a fact of every step of every state
abbrev pub EachStep : ((o : Opening) (s : State) (p : ℕ) (c : Option Command) (t : State) → Step o s p c t → Type 0) → Type 0
EachStep Fact = (o : Opening) (s : State) (p : ℕ) (c : Option Command) (t : State) (step : Step o s p c t) → Fact o s p c t step

-- a fact of every event of an open command at a part, whether memory is wanting or not
abbrev pub EachEvent : (Opening → Bool → DriverPart → Doing → Action → PeerPart → Type 0) → Type 0
EachEvent Fact = (o : Opening) (memory : Bool) (d : DriverPart) (doing : Doing) (action : Action) (x : PeerPart) → Fact o memory d doing action x

-- ---- where a step is

-- the driver that steps has its new part
abbrev pub WritesOwnDriver : (o : Opening) (s : State) (p : ℕ) (c : Option Command) (t : State) → Step o s p c t → Type 0
WritesOwnDriver o s p c t step = slice_get t.drivers p ≡ Some step.new_driver

-- every other driver has the same part as before
abbrev pub KeepsOtherDrivers : (o : Opening) (s : State) (p : ℕ) (c : Option Command) (t : State) → Step o s p c t → Type 0
KeepsOtherDrivers o s p c t step = (r : ℕ) → r ≢ p → slice_get t.drivers r ≡ slice_get s.drivers r

-- the peer that the event is at has its new part
abbrev pub WritesOnePeer : (o : Opening) (s : State) (p : ℕ) (c : Option Command) (t : State) → Step o s p c t → Type 0
WritesOnePeer o s p c t step = slice_get t.peers step.at ≡ Some step.new_peer

-- every other peer has the same part as before
abbrev pub KeepsOtherPeers : (o : Opening) (s : State) (p : ℕ) (c : Option Command) (t : State) → Step o s p c t → Type 0
KeepsOtherPeers o s p c t step = (q : ℕ) → q ≢ step.at → slice_get t.peers q ≡ slice_get s.peers q

-- there are as many drivers, and as many peers
abbrev pub KeepsDriverCount : (o : Opening) (s : State) (p : ℕ) (c : Option Command) (t : State) → Step o s p c t → Type 0
KeepsDriverCount o s p c t step = length t.drivers ≡ length s.drivers

abbrev pub KeepsPeerCount : (o : Opening) (s : State) (p : ℕ) (c : Option Command) (t : State) → Step o s p c t → Type 0
KeepsPeerCount o s p c t step = length t.peers ≡ length s.peers

-- a step on two parts is one of every state that has them
abbrev pub LocalStepExtends : Type 0
LocalStepExtends = (o : Opening) (s : State) (p : ℕ) (c : Option Command) (d : DriverPart) (action : Action) (at : ℕ) (x : PeerPart) (e : DriverPart) (y : PeerPart)
    → slice_get s.drivers p ≡ Some d → target d c ≡ Some (action, at) → slice_get s.peers at ≡ Some x → LocalStep o c d x e y → Step o s p c (with_parts s p at (e, y))

-- ---- a step as a function

-- the state after a step is the computed one
abbrev pub IsComputed : (o : Opening) (s : State) (p : ℕ) (c : Option Command) (t : State) → Step o s p c t → Type 0
IsComputed o s p c t step = stepped o step.local.memory p c s ≡ Some t

-- a computed state is one that a step leads to
abbrev pub ComputedIsStep : Type 0
ComputedIsStep = (o : Opening) (memory : Bool) (s : State) (p : ℕ) (c : Option Command) (t : State) → stepped o memory p c s ≡ Some t → Step o s p c t

-- two steps that are told the same of memory lead to one state
abbrev pub SameMemoryOneState : Type 0
SameMemoryOneState = (o : Opening) (s : State) (p : ℕ) (c : Option Command) (t u : State) (a : Step o s p c t) (b : Step o s p c u) → a.local.memory ≡ b.local.memory → t ≡ u

-- ---- want of memory

-- an event that takes no memory, or that something else refuses, does the same where memory is wanting
abbrev pub MemoryChangesNoOther : Type 0
MemoryChangesNoOther = (o : Opening) (d : DriverPart) (doing : Doing) (action : Action) (x : PeerPart)
    → may_want_memory o d doing x action ≡ false → happens o true d doing action x ≡ happens o false d doing action x

-- a begin or a stage that nothing else refuses is refused for memory then, and leaves the part
abbrev pub MemoryRefuses : Type 0
MemoryRefuses = (o : Opening) (d : DriverPart) (doing : Doing) (action : Action) (x : PeerPart)
    → may_want_memory o d doing x action ≡ true → happens o true d doing action x ≡ (memory_answer action, x)

-- ---- what an event changes

-- the part after an event differs in the event's own fields alone
abbrev pub ChangesOwnFields : Opening → Bool → DriverPart → Doing → Action → PeerPart → Type 0
ChangesOwnFields o memory d doing action x = Changes action x (happens o memory d doing action x).1

abbrev pub StepChangesOwnFields : (o : Opening) (s : State) (p : ℕ) (c : Option Command) (t : State) → Step o s p c t → Type 0
StepChangesOwnFields o s p c t step = Changes step.action step.peer step.new_peer

-- an event that may be at another peer keeps what is that peer's own
abbrev pub KeepsWhatIsOwn : Opening → Bool → DriverPart → Doing → Action → PeerPart → Type 0
KeepsWhatIsOwn o memory d doing action x = may_be_elsewhere action ≡ true → Keeps d.me x (happens o memory d doing action x).1

abbrev pub StepKeepsWhatIsOwn : (o : Opening) (s : State) (p : ℕ) (c : Option Command) (t : State) → Step o s p c t → Type 0
StepKeepsWhatIsOwn o s p c t step = may_be_elsewhere step.action ≡ true → Keeps step.driver.me step.peer step.new_peer

-- every other event is at its driver's own peer
abbrev pub ElseIsAtOwn : (o : Opening) (s : State) (p : ℕ) (c : Option Command) (t : State) → Step o s p c t → Type 0
ElseIsAtOwn o s p c t step = may_be_elsewhere step.action ≡ false → step.at ≡ step.driver.me

-- the clock of the part doesn't fall, nor that of any peer of the state
abbrev pub KeepsClock : Opening → Bool → DriverPart → Doing → Action → PeerPart → Type 0
KeepsClock o memory d doing action x = x.clock ≤ (happens o memory d doing action x).1.clock

abbrev pub KeepsEachClock : (o : Opening) (s : State) (p : ℕ) (c : Option Command) (t : State) → Step o s p c t → Type 0
KeepsEachClock o s p c t step = (q : ℕ) (x y : PeerPart) → slice_get s.peers q ≡ Some x → slice_get t.peers q ≡ Some y → x.clock ≤ y.clock

-- the records of a part stay in the order of their nodes
abbrev pub KeepsRecordOrder : Opening → Bool → DriverPart → Doing → Action → PeerPart → Type 0
KeepsRecordOrder o memory d doing action x = Rising x.handles → Rising (happens o memory d doing action x).1.handles

-- ---- calls

-- the driver's list has its calls and one more at most, and so have the calls that stand in the record for it
abbrev pub OwnListGrows : (o : Opening) (s : State) (p : ℕ) (c : Option Command) (t : State) → Step o s p c t → Type 0
OwnListGrows o s p c t step = Grows step.driver step.new_driver

abbrev pub RecordedGrow : (o : Opening) (s : State) (p : ℕ) (c : Option Command) (t : State) → Step o s p c t → Type 0
RecordedGrow o s p c t step = AtMostOneMore (driver_calls step.driver) (driver_calls step.new_driver)

-- ---- reached states

-- a state that a step leads to from a reached state is reached
abbrev pub ReachedGoesOn : Type 0
ReachedGoesOn = (o : Opening) (s t : State) (p : ℕ) (c : Option Command) → Reached o s → Step o s p c t → Reached o t
