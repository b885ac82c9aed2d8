-- What a peer's part is in every run of a generated script: what never changes there, what is queued, and its slices.
use Rattle.std.specs.Prelude.{◌≡◌, ◌≢◌, ◌<◌, ◌≤◌, ◌⊎◌, ℕ, true, false, [], length, Some}
use Rattle.b1_model.specs.declared.naming.Key.{Key}
use Rattle.b1_model.specs.declared.entries.Entry.{Entry}
use Rattle.b1_model.specs.declared.entries.Entry.TheVariants.{Message, OwnNotice, ForeignNotice, ReleaseNotice}
use Rattle.b1_model.specs.MachineParts.{PeerPart, Slice, is_live, node_at}
use Rattle.b1_model.specs.MachinePool.{is_free}
use Rattle.b1_model.specs.MachineTables.{held_node}
use Rattle.b1_step.specs.Rights.{Has}
use Rattle.b1_gen.specs.Generated.{handle_at, peer_spec, payload_len}
use Rattle.b1_gen.specs.declared.numbers.TheConstants.{POOL}

-- a peer among n has a live node, no destroy notice was taken, it holds the node of each other peer, keeps its limits and its pool, and has nothing to give up
pub record Stands (n q : ℕ) (x : PeerPart) : Type 0 where
  pub live : is_live (node_at x 0).state ≡ true
  pub taken : (serial : ℕ) → (node_at x serial).taken ≡ false
  pub held : (r : ℕ) → r < n → r ≢ q → held_node (handle_at q r) x.handles ≡ Some (record { owner = r; serial = 0 })
  pub limits : x.limits ≡ (peer_spec q).limits
  pub pool : x.pool ≡ POOL
  pub dead : x.dead ≡ []

-- the longest message of a generated script
abbrev pub longest : ℕ
longest = payload_len 7

-- a message that carries no handles and is not too long
abbrev pub IsPlainEntry : Key × Entry → Type 0
IsPlainEntry (k, Message origin user index serial offset len nodes slots handles payload) = (nodes ≡ []) × (len ≡ length payload) × (length payload ≤ longest)
IsPlainEntry (k, OwnNotice serial index) = ⊥
IsPlainEntry (k, ForeignNotice node index) = ⊥
IsPlainEntry (k, ReleaseNotice serial) = ⊥

-- a slice that is free, or not longer than a message
abbrev pub IsSmall : Slice → Type 0
IsSmall t = (is_free t ≡ true) ⊎ (t.len ≤ longest)

-- all that is queued is such a message, and all slices in use are so small
pub record HasPlain (x : PeerPart) : Type 0 where
  pub queue : (f : Key × Entry) → Has x.queue f → IsPlainEntry f
  pub slices : (t : Slice) → Has x.slices t → IsSmall t

-- where a bus begins, nothing is queued, the pool is free, and the clock is 0
pub record IsFresh (x : PeerPart) : Type 0 where
  pub queue : x.queue ≡ []
  pub pieces : length x.slices ≤ 1
  pub slices : (t : Slice) → Has x.slices t → is_free t ≡ true
  pub clock : x.clock ≡ 0
