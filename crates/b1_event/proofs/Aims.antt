-- The peer where a next event is, is one of the bus.
use Rattle.std.proofs.Common.{◌≡◌, ◌⊎◌, refl, sym, ap, inl, inr, subst, ℕ, zero, suc, ◌<◌, Bool, true, false, List, [], ◌∷◌, length, get_or, Option, Some, None}
use Rattle.std.specs.List.{All}
use Rattle.std.proofs.lemmas.List.Elements.{All-head, All-tail}
use native.Mathlib.Omega.{arith}
use Rattle.b1_model.specs.declared.naming.NodeRef.{NodeRef}
use Rattle.b1_model.specs.declared.naming.Opening.{Opening}
use Rattle.b1_model.specs.declared.commands.Command.{Command}
use Rattle.b1_model.specs.declared.commands.Command.TheVariants as cmd
use Rattle.b1_model.specs.declared.events.Action.{Action}
use Rattle.b1_model.specs.declared.events.Action.TheVariants as act
use Rattle.b1_model.specs.declared.events.Doing.{Doing}
use Rattle.b1_model.specs.declared.events.OwedDrop.{OwedDrop}
use Rattle.b1_model.specs.declared.events.Phase.{Phase}
use Rattle.b1_model.specs.declared.events.Phase.TheVariants as phase
use Rattle.b1_model.specs.MachineParts.{PeerPart, DriverPart, State}
use Rattle.b1_model.specs.MachineDriver.{no_ref, node_of_place, phase_action, next_action, peer_of}
use Rattle.b1_step.specs.Rights.{Has}
use Rattle.b1_inv.specs.Words.{IsMade}
use Rattle.b1_inv.specs.Sends.{SendShape}
use Rattle.b1_inv.specs.Notices.{AreOthers, DestructionShape}
use Rattle.b1_inv.specs.Sound.{IsSound}
use Rattle.b1_event.proofs.Facts.{peer_within}

-- ---- which event is next

-- the drop of what is owed
abbrev pub drop_of : OwedDrop → Action
drop_of one = act.DropRefs one.node.owner one.node.serial one.holder one.amount one.clock

-- the next event of an open command: the drop of what is owed, or that of its phase
pub record NextOf (e : DriverPart) (doing : Doing) : Type 0 where
  pub next : ((one : OwedDrop) × Has e.owed one × (next_action e ≡ drop_of one)) ⊎ ((e.owed ≡ []) × (next_action e ≡ phase_action e.me e.shut doing.command doing.phase))

abbrev action_by : DriverPart → Option Doing → List OwedDrop → Action
action_by e o owed = elim o [ None ↦ act.Rest | Some doing ↦ elim owed [ [] ↦ phase_action e.me e.shut doing.command doing.phase | one ∷ rest ↦ drop_of one ] ]

next_by : (e : DriverPart) (doing : Doing) (owed : List OwedDrop) → e.owed ≡ owed → next_action e ≡ action_by e (Some doing) owed → NextOf e doing
next_by e doing [] is next = record { next = inr (is, next) }
next_by e doing (one ∷ rest) is next = record { next = inl (one, subst (λ l. Has l one) (sym is) (inl refl), next) }

pub next_of : (e : DriverPart) (doing : Doing) → e.doing ≡ Some doing → NextOf e doing
next_of e doing is = next_by e doing e.owed refl (ap (λ o. action_by e o e.owed) is)

-- ---- places

any_get_or : {X : Type 0} (P : X → Type 0) (xs : List X) (i : ℕ) (d : X) → P d → All P xs → P (get_or xs i d)
any_get_or P [] i d pd all = pd
any_get_or P (x ∷ xs) zero d pd all = All-head P x xs all
any_get_or P (x ∷ xs) (suc i) d pd all = any_get_or P xs i d pd (All-tail P x xs all)

all_of : {X : Type 0} (P Q : X → Type 0) (xs : List X) → ((x : X) → P x → Q x) → All P xs → All Q xs
all_of P Q xs gives all = λ k d within. gives _ (all k d within)

has_get_or : (xs : List ℕ) (i d n : ℕ) → ((q : ℕ) → Has xs q → q < n) → d < n → get_or xs i d < n
has_get_or [] i d n within here = here
has_get_or (x ∷ xs) zero d n within here = within x (inl refl)
has_get_or (x ∷ xs) (suc i) d n within here = has_get_or xs i d n (λ q h. within q (inr h)) here

-- the first event of a command is at the own peer
pub first_own : (me : ℕ) (shut : Bool) (c : Command) → peer_of me (phase_action me shut c phase.Starting) ≡ me
first_own me true c = refl
first_own me false cmd.Disconnect = refl
first_own me false cmd.Query = refl
first_own me false (cmd.Reset limits) = refl
first_own me false (cmd.Limit limits) = refl
first_own me false (cmd.Release number) = refl
first_own me false (cmd.Destroy numbers) = refl
first_own me false (cmd.SliceRelease offset) = refl
first_own me false (cmd.Send c) = refl
first_own me false cmd.Recv = refl
first_own me false cmd.Await = refl

module _ (o : Opening) (s : State) (sound : IsSound o s) where
  pub node_within : (node : NodeRef) → IsMade s node → node.owner < length s.peers
  node_within node (x, is, made) = peer_within o s sound node.owner x is

  module _ (me : ℕ) (here : me < length s.peers) (n : ℕ) (as_many : n ≡ length s.peers) where
    place_within : (nodes : List NodeRef) (place : ℕ) → All (IsMade s) nodes → (node_of_place nodes place).owner < length s.peers
    place_within nodes place made = any_get_or (λ node. node.owner < length s.peers) nodes place no_ref (omega (arith, here)) (all_of (IsMade s) (λ node. node.owner < length s.peers) nodes node_within made)

    other_within : (list : List ℕ) (self i : ℕ) → AreOthers n self list → get_or list i me < length s.peers
    other_within list self i others = has_get_or list i me (length s.peers) (λ q h. let k = (others.others q h).0 in omega (arith, k, as_many)) here

    pub phase_within : (shut : Bool) (command : Command) (x : PeerPart) (p : Phase) → SendShape s command p → DestructionShape n x command p → peer_of me (phase_action me shut command p) < length s.peers
    phase_within shut command x phase.Starting send destruction = absurd send
    phase_within shut command x (phase.Staging begun places collected) send destruction = place_within begun.to (length places) send.0.to
    phase_within shut command x (phase.Unstaging begun places refused place) send destruction = place_within begun.to place send.0.to
    phase_within shut command x (phase.Attaching sending place slot) send destruction = place_within sending.begun.with slot send.0.begun.with
    phase_within shut command x (phase.Stamping sending) send destruction = here
    phase_within shut command x (phase.Syncing sending stamp place) send destruction = place_within sending.begun.to place send.0.begun.to
    phase_within shut command x (phase.Committing sending stamp place) send destruction = place_within sending.begun.to place send.0.begun.to
    phase_within shut command x phase.Dropping send destruction = here
    phase_within shut command x (phase.Reaping got) send destruction = here
    phase_within shut command x (phase.Visiting destruction left) send shape = other_within left x.me 0 shape.3
    phase_within shut command x (phase.Dooming destruction) send shape = here
    phase_within shut command x (phase.SyncingNotices destruction stamp at) send shape = other_within destruction.staged x.me at shape.1.staged
    phase_within shut command x (phase.CommittingOwn destruction stamp) send shape = here
    phase_within shut command x (phase.CommittingNotices destruction stamp at) send shape = other_within destruction.staged x.me at shape.1.staged
    phase_within shut command x (phase.Flushing stamp) send shape = here
