-- From an event's answer and the part that it leaves to a step of the two parts.
use Rattle.std.proofs.Common.{◌≡◌, refl, sym, ap, ◌∙◌, ℕ, zero, suc, ◌+◌, ◌<◌, ◌≤◌, ◌==◌, ◌||◌, Bool, true, false, List, [], ◌∷◌, length, Option, Some, None, slice_get, Ok, Err, Result, subst}
use Rattle.std.specs.Prelude.{IfOk}
use Rattle.std.specs.List.{list_any}
use Rattle.b1_model.specs.declared.answers.Reason.{Reason}
use Rattle.b1_model.specs.declared.commands.SendCmd.{SendCmd}
use Rattle.b1_model.specs.declared.parts.Begun.{Begun}
use Rattle.b1_model.specs.MachineSend.{send_refusal}
use Rattle.b1_peer.specs.Answers.{Begins}
use Rattle.b1_event.proofs.Begun.{begun_as_many}
use Rattle.std.proofs.lemmas.Bool.{eq-eqb}
use Rattle.b1_model.specs.declared.naming.NodeRef.{NodeRef}
use Rattle.b1_model.specs.declared.naming.PeerSpec.{PeerSpec}
use native.Mathlib.Omega.{arith}
use Rattle.b1_model.specs.declared.naming.Opening.{Opening}
use Rattle.b1_model.specs.declared.commands.Command.{Command}
use Rattle.b1_model.specs.declared.commands.Command.TheVariants as cmd
use Rattle.b1_model.specs.declared.events.Action.{Action}
use Rattle.b1_model.specs.declared.events.Action.TheVariants as act
use Rattle.b1_model.specs.declared.events.Doing.{Doing}
use Rattle.b1_model.specs.declared.events.Outcome.{Outcome}
use Rattle.b1_model.specs.declared.events.Phase.{Phase}
use Rattle.b1_model.specs.declared.events.Phase.TheVariants.{Starting}
use Rattle.b1_model.specs.MachineParts.{PeerPart, DriverPart}
use Rattle.b1_model.specs.MachineDriver.{next_action, phase_action, send_of}
use Rattle.b1_model.specs.MachineTook.{took}
use Rattle.b1_model.specs.MachineDestroy.{destroy_serials, destroy_refusal, reset_serials, overflow_reason}
use Rattle.b1_model.specs.MachineEvents.{destroy_by, begin_refusal, begin_serials, happens, stage_event}
use Rattle.b1_model.specs.MachineStep.{LocalStep}
use Rattle.b1_peer.specs.Seen.{PeerSeen}
use Rattle.b1_driver.specs.Parts.{Driver, Room, by_phase, command_of, send_in, HasRoom, HasRoomFor}
use Rattle.b1_event.specs.Events.{numbers_in, open_in, Happens, Does}
use Rattle.b1_event.proofs.Opened.{begun_itself, effect_is}
use Rattle.b1_event.proofs.Nodes.{is_begin, as_many_nodes, begin_few}

-- an event that there is
abbrev pub is_event : Action → Bool
is_event act.Rest = false
is_event action = true

-- a driver that has a next event has an open command
abbrev action_in : DriverPart → Option Doing → Action
action_in d open_is = elim open_is [ None ↦ act.Rest | Some doing ↦ elim d.owed [ [] ↦ phase_action d.me d.shut doing.command doing.phase | drop ∷ rest ↦ act.DropRefs drop.node.owner drop.node.serial drop.holder drop.amount drop.clock ] ]

doing_by : (d : DriverPart) (open_is : Option Doing) (action : Action) → d.doing ≡ open_is → action_in d open_is ≡ action → is_event action ≡ true → (doing : Doing) × (d.doing ≡ Some doing)
doing_by d None action is next event = absurd (cc (ap is_event next ∙ event))
doing_by d (Some doing) action is next event = (doing, is)

pub is_doing : (d : DriverPart) (action : Action) → next_action d ≡ action → is_event action ≡ true → (doing : Doing) × (d.doing ≡ Some doing)
is_doing d action next event = doing_by d d.doing action refl next event

pub open_is : (d : DriverPart) (doing : Doing) → d.doing ≡ Some doing → open_in d ≡ doing
open_is d doing is = ap (λ (o : Option Doing). elim o as (λ z. Doing) [ None ↦ record { command = cmd.Disconnect; phase = Starting } | Some one ↦ one ]) is

-- the step
pub steps : (o : Opening) (d e : DriverPart) (x y : PeerPart) (outcome : Outcome) (action : Action) → next_action d ≡ action → is_event action ≡ true → Happens o d action x outcome y → e ≡ took d outcome → LocalStep o None d x e y
steps o d e x y outcome action next event h takes =
    let (doing, is) = is_doing d action next event in
    let same : happens o h.memory d doing (next_action d) x ≡ (outcome, y) = ap (λ z. happens o h.memory d z (next_action d) x) (sym (open_is d doing is)) ∙ ap (λ a. happens o h.memory d (open_in d) a x) next ∙ h.event in
    record {
      memory = h.memory;
      after = effect_is o h.memory d d None doing x (begun_itself d doing is) is ∙ ap (λ z. (took d z.0, z.1)) same ∙ ap (λ f. (f, y)) (sym takes);
    }

-- an event that makes no nodes
pub does : (o : Opening) (d e : Driver) (x y : PeerSeen) (outcome : Outcome) (action : Action) → next_action d.part ≡ action → is_event action ≡ true → is_begin action ≡ false → Happens o d.part action x.part outcome y.part
    → y.users ≡ x.users → e.part ≡ took d.part outcome → e.spare + length e.part.calls ≡ d.spare + length d.part.calls → e.doomed ≡ d.doomed → e.here ≡ d.here → Does o d x e y
does o d e x y outcome action next event begins h users takes spare doomed here =
    let nodes : length y.part.nodes ≡ length x.part.nodes = ap (λ z. length z.1.nodes) (sym h.event) ∙ as_many_nodes o h.memory d.part (open_in d.part) action x.part begins in
    record {
      step = steps o d.part e.part x.part y.part outcome action next event h takes;
      users = users;
      spare = spare;
      doomed = omega (arith, doomed);
      here = λ before. omega (arith, before, doomed, here);
      nodes = omega (arith, nodes, doomed);
    }

-- ---- what an event reads of the open command

phase_by : {X : Type 0} (none : X) (by : Phase → X) (o : Option Doing) → by Starting ≡ none → by_phase none by o ≡ by (elim o as (λ z. Doing) [ None ↦ record { command = cmd.Disconnect; phase = Starting } | Some one ↦ one ]).phase
phase_by none by None is = sym is
phase_by none by (Some doing) is = refl

pub phase_in : {X : Type 0} (none : X) (by : Phase → X) (d : DriverPart) → by Starting ≡ none → by_phase none by d.doing ≡ by (open_in d).phase
phase_in none by d is = phase_by none by d.doing is

send_by : (o : Option Doing) → send_in o ≡ send_of (elim o as (λ z. Doing) [ None ↦ record { command = cmd.Disconnect; phase = Starting } | Some one ↦ one ]).command
send_by None = refl
send_by (Some doing) = refl

pub send_is : (d : DriverPart) → send_in d.doing ≡ send_of (open_in d).command
send_is d = send_by d.doing

-- a stage reads these
pub stage_is : (memory : Bool) (me self user own place serial dest : ℕ) (payload bytes : List ℕ) (nodes with : List NodeRef) (x : PeerPart) (r : Outcome × PeerPart)
    → self ≡ me → own ≡ user → dest ≡ serial → bytes ≡ payload → with ≡ nodes → stage_event memory self own place dest bytes with x ≡ r → stage_event memory me user place serial payload nodes x ≡ r
stage_is memory me self user own place serial dest payload bytes nodes with x r a b c d e h =
    ap (λ z. stage_event memory z user place serial payload nodes x) (sym a)
    ∙ ap (λ z. stage_event memory self z place serial payload nodes x) (sym b)
    ∙ ap (λ z. stage_event memory self own place z payload nodes x) (sym c)
    ∙ ap (λ z. stage_event memory self own place dest z nodes x) (sym d)
    ∙ ap (λ z. stage_event memory self own place dest bytes z x) (sym e)
    ∙ h

-- a peer of the opening has a user that may send
pub user_known : (peers : List PeerSpec) (p : ℕ) → p < length peers → list_any (λ spec. spec.user == (elim (slice_get peers p) as (λ z. ℕ) [ None ↦ 0 | Some one ↦ one.user ])) peers ≡ true
user_known [] p within = absurd (omega (arith, within))
user_known (spec ∷ rest) zero within = ap (λ b. b || list_any (λ one. one.user == spec.user) rest) (eq-eqb spec.user spec.user refl)
user_known (spec ∷ rest) (suc p) within = ap (λ b. (spec.user == (elim (slice_get rest p) as (λ z. ℕ) [ None ↦ 0 | Some one ↦ one.user ])) || b) (user_known rest p (omega (arith, within))) ∙ or_true (spec.user == (elim (slice_get rest p) as (λ z. ℕ) [ None ↦ 0 | Some one ↦ one.user ]))
  where
    or_true : (b : Bool) → (b || true) ≡ true
    or_true true = refl
    or_true false = refl

-- ---- a begin

pub sent_command : (o : Option Doing) (send : SendCmd) → Some (cmd.Send send) ≡ command_of o → send_in o ≡ send
sent_command None send is = absurd (cc is)
sent_command (Some doing) send is = let same : cmd.Send send ≡ doing.command = cc is in ap send_of (sym same)

-- the room of a SEND is that of the nodes which its begin found
pub room_for : (room : Room) (x y : PeerPart) (send : SendCmd) (got : Result Begun Reason) → Begins x send got y → HasRoom room (length send.to) (length send.with) → HasRoomFor room got
room_for room x y send (Ok begun) b has =
    let k = begun_as_many b.memory x y send begun b.event in
    subst (λ n. HasRoom room n (length begun.with)) (sym k.0) (subst (HasRoom room (length send.to)) (sym k.1) has)
room_for room x y send (Err r) b has = tt

pub no_room_for : (room : Room) (got : Result Begun Reason) → IfOk got (λ begun. ⊥) → HasRoomFor room got
no_room_for room (Ok begun) refused = absurd refused
no_room_for room (Err r) refused = tt

pub begins_few : (x y : PeerPart) (send : SendCmd) (got : Result Begun Reason) → Begins x send got y → length y.nodes ≤ length x.nodes + length send.with
begins_few x y send got b = subst (λ z. length z.nodes ≤ length x.nodes + length send.with) (ap (λ z. z.1) b.event) (begin_few (send_refusal x send) b.memory send x)

-- ---- the command

command_by : (o : Option Doing) (c : Command) → Some c ≡ command_of o → (elim o as (λ z. Doing) [ None ↦ record { command = cmd.Disconnect; phase = Starting } | Some one ↦ one ]).command ≡ c
command_by None c is = absurd (cc is)
command_by (Some doing) c is = let same : c ≡ doing.command = cc is in sym same

pub command_in : (d : DriverPart) (c : Command) → Some c ≡ command_of d.doing → (open_in d).command ≡ c
command_in d c is = command_by d.doing c is

pub some_numbers : (x : PeerPart) (c : Command) (numbers : List ℕ) → Some numbers ≡ numbers_in c → (begin_serials c x ≡ destroy_serials x numbers) × (begin_refusal c x ≡ destroy_refusal x numbers)
some_numbers x (cmd.Destroy mine) numbers is = let same : mine ≡ numbers = cc is in (ap (destroy_serials x) same, ap (destroy_refusal x) same)
some_numbers x cmd.Disconnect numbers is = absurd (cc is)
some_numbers x cmd.Query numbers is = absurd (cc is)
some_numbers x (cmd.Reset limits) numbers is = absurd (cc is)
some_numbers x (cmd.Limit limits) numbers is = absurd (cc is)
some_numbers x (cmd.Release number) numbers is = absurd (cc is)
some_numbers x (cmd.SliceRelease offset) numbers is = absurd (cc is)
some_numbers x (cmd.Send c) numbers is = absurd (cc is)
some_numbers x cmd.Recv numbers is = absurd (cc is)
some_numbers x cmd.Await numbers is = absurd (cc is)

pub no_numbers : (x : PeerPart) (c : Command) → None ≡ numbers_in c → (begin_serials c x ≡ reset_serials x) × (begin_refusal c x ≡ overflow_reason x)
no_numbers x (cmd.Destroy mine) is = absurd (cc is)
no_numbers x cmd.Disconnect is = (refl, refl)
no_numbers x cmd.Query is = (refl, refl)
no_numbers x (cmd.Reset limits) is = (refl, refl)
no_numbers x (cmd.Limit limits) is = (refl, refl)
no_numbers x (cmd.Release number) is = (refl, refl)
no_numbers x (cmd.SliceRelease offset) is = (refl, refl)
no_numbers x (cmd.Send c) is = (refl, refl)
no_numbers x cmd.Recv is = (refl, refl)
no_numbers x cmd.Await is = (refl, refl)

pub some_event : (x : PeerPart) (c : Command) (numbers : List ℕ) → Some numbers ≡ numbers_in c → destroy_by (begin_refusal c x) (begin_serials c x) x ≡ destroy_by (destroy_refusal x numbers) (destroy_serials x numbers) x
some_event x c numbers is =
    let k = some_numbers x c numbers is in
    ap (λ r. destroy_by r (begin_serials c x) x) k.1 ∙ ap (λ l. destroy_by (destroy_refusal x numbers) l x) k.0

pub no_event : (x : PeerPart) (c : Command) → None ≡ numbers_in c → destroy_by (begin_refusal c x) (begin_serials c x) x ≡ destroy_by (overflow_reason x) (reset_serials x) x
no_event x c is =
    let k = no_numbers x c is in
    ap (λ r. destroy_by r (begin_serials c x) x) k.1 ∙ ap (λ l. destroy_by (overflow_reason x) l x) k.0

pub pair_is : {A B : Type 0} (a b : A) (x y : B) → a ≡ b → x ≡ y → ◌≡◌ {A = A × B} (a, x) (b, y)
pair_is a b x y e f = ap (λ z. (z, x)) e ∙ ap (λ z. (b, z)) f
