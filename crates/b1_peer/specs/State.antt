-- What a peer is made of, and what ties its parts together.
use Rattle.std.specs.Prelude.{◌≡◌, ℕ, ◌≤◌, List}
use Rattle.b1_model.specs.declared.limits.TheConstants.{MOST_PEERS}
use Rattle.b1_model.specs.declared.naming.Key.{Key}
use Rattle.b1_model.specs.declared.entries.Entry.{Entry}
use Rattle.b1_model.specs.declared.entries.Entry.TheVariants.{Message, OwnNotice, ForeignNotice, ReleaseNotice}
use Rattle.b1_model.specs.MachineParts.{PeerPart}
use Rattle.b1_step.specs.Rights.{Has}
use Rattle.b1_nodes.specs.Nodes.{Nodes}
use Rattle.b1_handles.specs.Handles.{Handles}
use Rattle.b1_peer_queue.specs.Mail.{Mail}
use Rattle.b1_peer_pool.specs.Content.{Holds, padded}
use Rattle.b1_peer_pool.specs.Stored.{Stored, IsStored}
use Rattle.b1_peer_dead.specs.Buffers.{count_at}
use Rattle.b1_peer_dead.specs.Dead.{DeadSeen}
use Rattle.b1_inv_peer.specs.PeerOk.{PeerOk, HasRoom}
use Rattle.b1_peer.specs.Seen.{PeerSeen}

-- what a peer is made of
pub record Fields : Type 0 where
  pub me : ℕ
  pub peers : ℕ
  pub epoch : ℕ
  pub clock : ℕ
  pub mail : Mail
  pub store : Stored
  pub nodes : Nodes
  pub handles : Handles
  pub dead : DeadSeen

-- the part of the state that they are
abbrev pub part_of : Fields → PeerPart
part_of p = record {
  me = p.me;
  peers = p.peers;
  user = p.mail.home;
  pool = p.store.size;
  limits = p.mail.limits;
  epoch = p.epoch;
  clock = p.clock;
  given = p.handles.given;
  slices = p.store.slices;
  queue = p.mail.queue;
  nodes = p.nodes.nodes;
  late = p.nodes.late;
  handles = p.handles.records;
  dead = p.dead.items;
}

-- what contracts see of them
abbrev pub seen_of : Fields → PeerSeen
seen_of p = record { part = part_of p; bytes = p.store.bytes; users = p.mail.users }

-- the slice of a queued message begins with its payload, padded
abbrev pub ContentOk : List ℕ → Key × Entry → Type 0
ContentOk bytes (k, Message origin user index serial offset len nodes slots handles payload) = Holds offset bytes (padded payload)
ContentOk bytes (k, OwnNotice serial index) = Unit {0}
ContentOk bytes (k, ForeignNotice node index) = Unit {0}
ContentOk bytes (k, ReleaseNotice serial) = Unit {0}

-- the part is right by itself, there is room for what events put, and the parts agree
pub record IsPeer (p : Fields) : Type 0 where
  pub ok : PeerOk (part_of p)
  pub room : HasRoom (part_of p) p.mail.spare p.dead.room p.dead.singles (count_at p.dead.stacks)
  pub contents : (f : Key × Entry) → Has p.mail.queue f → ContentOk p.store.bytes f
  pub stored : IsStored p.store
  pub owner : p.nodes.owner ≡ p.me
  pub among : p.nodes.peers ≡ p.peers
  pub few : p.peers ≤ MOST_PEERS
