-- What an event may change of a peer's part, and what other drivers' events never change.
use Rattle.std.specs.Prelude.{◌≡◌, ◌≢◌, ◌⊎◌, ℕ, Bool, true, false, List, [], ◌∷◌, map, length, Option, Some, None, Err}
use Rattle.b1_model.specs.declared.naming.Key.{Key}
use Rattle.b1_model.specs.declared.entries.Entry.{Entry}
use Rattle.b1_model.specs.declared.parts.NodeState.{NodeState}
use Rattle.b1_model.specs.declared.naming.Opening.{Opening}
use Rattle.b1_model.specs.declared.answers.Reason.{Reason}
use Rattle.b1_model.specs.declared.answers.Reason.TheVariants as reason
use Rattle.b1_model.specs.declared.events.Outcome.{Outcome}
use Rattle.b1_model.specs.declared.events.Outcome.TheVariants as out
use Rattle.b1_model.specs.declared.events.Action.{Action}
use Rattle.b1_model.specs.declared.events.Action.TheVariants as act
use Rattle.b1_model.specs.declared.events.Doing.{Doing}
use Rattle.b1_model.specs.MachineParts.{PeerPart, DriverPart, NodePart, HandleRecord, is_staged}
use Rattle.b1_model.specs.MachineOrder.{is_any_release_notice}
use Rattle.b1_model.specs.MachineSend.{send_refusal, stage_refusal}
use Rattle.b1_model.specs.MachineDriver.{node_of_place, send_of}
use Rattle.b1_model.specs.MachineEvents.{begun_of, user_of}

-- an element of a list
abbrev pub Has : {X : Type 0} → List X → X → Type 0
Has [] x = ⊥
Has (y ∷ ys) x = (x ≡ y) ⊎ Has ys x

-- y is x but for the fields that the event may change
abbrev pub Changes : Action → PeerPart → PeerPart → Type 0
Changes act.Rest x y = y ≡ x
Changes act.Begin x y = y ≡ record x { nodes = y.nodes }
Changes (act.Stage peer place) x y = y ≡ record x { slices = y.slices; queue = y.queue; handles = y.handles }
Changes (act.Unstage peer place) x y = y ≡ record x { slices = y.slices; queue = y.queue; handles = y.handles }
Changes (act.Attach peer serial dest) x y = y ≡ record x { queue = y.queue; nodes = y.nodes; late = y.late }
Changes act.Stamp x y = y ≡ record x { clock = y.clock }
Changes (act.Sync peer stamp) x y = y ≡ record x { clock = y.clock }
Changes (act.Commit peer place stamp) x y = y ≡ record x { queue = y.queue }
Changes (act.CommitNotices peer stamp) x y = y ≡ record x { queue = y.queue }
Changes act.Recv x y = y ≡ record x { given = y.given; slices = y.slices; queue = y.queue; nodes = y.nodes; handles = y.handles; dead = y.dead }
Changes act.Reap x y = y ≡ record x { dead = y.dead }
Changes act.Release x y = y ≡ record x { handles = y.handles }
Changes (act.DropRefs peer serial holder k clock) x y = y ≡ record x { clock = y.clock; queue = y.queue; nodes = y.nodes }
Changes act.BeginDestroy x y = y ≡ record x { queue = y.queue; nodes = y.nodes; late = y.late }
Changes (act.Visit peer) x y = y ≡ record x { queue = y.queue; handles = y.handles }
Changes act.StampDestroy x y = y ≡ record x { clock = y.clock; nodes = y.nodes; late = y.late }
Changes act.Flush x y = y ≡ record x { limits = y.limits; epoch = y.epoch; slices = y.slices; queue = y.queue; handles = y.handles; dead = y.dead }
Changes act.Local x y = y ≡ record x { limits = y.limits; slices = y.slices }

-- an event that a driver may do at another peer than its own
abbrev pub may_be_elsewhere : Action → Bool
may_be_elsewhere (act.Stage peer place) = true
may_be_elsewhere (act.Unstage peer place) = true
may_be_elsewhere (act.Attach peer serial dest) = true
may_be_elsewhere (act.Sync peer stamp) = true
may_be_elsewhere (act.Commit peer place stamp) = true
may_be_elsewhere (act.CommitNotices peer stamp) = true
may_be_elsewhere (act.DropRefs peer serial holder k clock) = true
may_be_elsewhere (act.Visit peer) = true
may_be_elsewhere action = false

-- of a node, what only its owner's driver changes: its number, its life, whether its destroy notice was taken
abbrev pub node_facts : NodePart → ℕ × NodeState × Bool
node_facts n = (n.number, n.state, n.taken)

-- of two records of a node: the same number, held as often, dead alike
pub record SameHandle (h g : HandleRecord) : Type 0 where
  pub node : g.node ≡ h.node
  pub number : g.number ≡ h.number
  pub held : g.held ≡ h.held
  pub dead : g.dead ≡ h.dead

-- a record of a node that isn't held and has no number
pub record Unheld (h : HandleRecord) : Type 0 where
  pub number : h.number ≡ None
  pub held : h.held ≡ 0

-- each record stays, but that one which isn't held may go; and each is an old one, or a new one that isn't held and is not dead
pub record HandlesKept (old new : List HandleRecord) : Type 0 where
  pub stays : (h : HandleRecord) → Has old h → ((g : HandleRecord) × Has new g × SameHandle h g) ⊎ (h.held ≡ 0)
  pub comes : (g : HandleRecord) → Has new g → ((h : HandleRecord) × Has old h × SameHandle h g) ⊎ (Unheld g × (g.dead ≡ false))

-- what drivers don't change at a peer that isn't their own: all but clock, counts, late set, flight and notices of records, unused slices, and entries of their own and release notices in the queue
pub record Keeps (p : ℕ) (x y : PeerPart) : Type 0 where
  pub me : y.me ≡ x.me
  pub peers : y.peers ≡ x.peers
  pub user : y.user ≡ x.user
  pub pool : y.pool ≡ x.pool
  pub limits : y.limits ≡ x.limits
  pub epoch : y.epoch ≡ x.epoch
  pub given : y.given ≡ x.given
  pub dead : y.dead ≡ x.dead
  pub nodes : map node_facts y.nodes ≡ map node_facts x.nodes
  pub handles : HandlesKept x.handles y.handles
  pub stays : (f : Key × Entry) → Has x.queue f → is_any_release_notice f ≡ false → (is_staged f ≡ false) ⊎ (f.0.origin ≢ p) → Has y.queue f
  pub comes : (f : Key × Entry) → Has y.queue f → Has x.queue f ⊎ ((f.0.origin ≡ p) ⊎ (is_any_release_notice f ≡ true))

-- a refusal that isn't there
abbrev pub is_accepted : Option Reason → Bool
is_accepted None = true
is_accepted (Some r) = false

-- an accepted begin of a SEND or an accepted stage: the events that want of memory may refuse where nothing else does
abbrev pub may_want_memory : Opening → DriverPart → Doing → PeerPart → Action → Bool
may_want_memory o d doing x act.Begin = is_accepted (send_refusal x (send_of doing.command))
may_want_memory o d doing x (act.Stage peer place) = is_accepted (stage_refusal x (user_of o d.me) (node_of_place (begun_of doing.phase).to place).serial (length (send_of doing.command).payload) (length (begun_of doing.phase).with))
may_want_memory o d doing x action = false

-- how these two answer then
abbrev pub memory_answer : Action → Outcome
memory_answer act.Begin = out.Begin (Err reason.Memory)
memory_answer action = out.Stage (Err reason.Memory)
