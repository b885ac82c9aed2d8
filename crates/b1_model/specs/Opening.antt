-- An opening that a bus can begin with, and what its wires give.
use Rattle.std.specs.Prelude.{◌≡◌, ◌≢◌, ℕ, ◌%◌, ◌/◌, ◌<◌, ◌≤◌, Bool, ◌&&◌, ◌==◌, if◌then◌else◌, List, [], ◌∷◌, ◌++◌, length, filter, slice_get, sum_by, Option, Some, None, unwrap_or, IsSomeAnd}
use Rattle.std.specs.Option.{option_map}
use Rattle.std.specs.List.{list_any, AllByRecursion}
use Rattle.b1_model.specs.declared.limits.TheConstants.{CLOCK_LIMIT, MOST_PEERS, MOST_POOL, MOST_POOLS, WIRE_LIMIT}
use Rattle.b1_model.specs.declared.naming.Opening.{Opening}
use Rattle.b1_model.specs.declared.naming.PeerSpec.{PeerSpec}
use Rattle.b1_model.specs.declared.naming.Wire.{Wire}
use Rattle.b1_model.specs.Names.{is_own, is_given}

-- What wires gave is a list of wires from the owners of the nodes, by their own numbers: one for each peer and node, in
-- the order in which the peers got them.

-- what one peer got
abbrev pub held_by : List Wire → ℕ → List Wire
held_by held peer = filter (λ w. w.to == peer) held

-- the wire from the owner that gives what a wire gives, where its number names a node: an own number names the giver's
-- node; 2, 6, 10 and so on name the nodes that the giver got, in their order
abbrev pub from_owner : List Wire → Wire → Option Wire
from_owner held w =
    if is_own w.number then Some w
    else (if is_given w.number then option_map (λ h. record { from = h.from; to = w.to; number = h.number }) (slice_get (held_by held w.from) (w.number / 4)) else None)

abbrev pub is_same : Wire → Wire → Bool
is_same a b = (a.from == b.from) && (a.to == b.to) && (a.number == b.number)

-- what is held when a peer gets a node, which it may have got before
abbrev pub with_held : List Wire → Wire → List Wire
with_held held w = if list_any (λ h. is_same h w) held then held else held ++ w ∷ []

-- what is held after one more wire
abbrev pub after_wire : List Wire → Wire → List Wire
after_wire held w = unwrap_or (option_map (with_held held) (from_owner held w)) held

-- a wire that can be made among n peers: it leads to another peer, and gives a node that the other peer doesn't own
pub record CanWire (n : ℕ) (held : List Wire) (w : Wire) : Type 0 where
  pub from : w.from < n
  pub to : w.to < n
  pub apart : w.to ≢ w.from
  pub gives : IsSomeAnd (from_owner held w) (λ given. given.from ≢ w.to)

-- each wire can be made after those before it
abbrev pub AreWired : ℕ → List Wire → List Wire → Type 0
AreWired n held [] = Unit {0}
AreWired n held (w ∷ ws) = CanWire n held w × AreWired n (after_wire held w) ws

-- a pool's size
pub record IsPool (size : ℕ) : Type 0 where
  pub eighths : size % 8 ≡ 0
  pub least : 8 ≤ size
  pub most : size ≤ MOST_POOL

abbrev pub HasPool : PeerSpec → Type 0
HasPool spec = IsPool spec.pool

-- the bytes of all pools
abbrev pub pool_bytes : List PeerSpec → ℕ
pool_bytes specs = sum_by (λ spec. spec.pool) specs

-- an opening that a bus can begin with
pub record IsOpening (o : Opening) : Type 0 where
  pub least : 1 ≤ length o.peers
  pub most : length o.peers ≤ MOST_PEERS
  pub even : o.first_clock % 2 ≡ 0
  pub clock : o.first_clock ≤ CLOCK_LIMIT
  pub pools : AllByRecursion HasPool o.peers
  pub together : pool_bytes o.peers ≤ MOST_POOLS
  pub few : length o.wires < WIRE_LIMIT
  pub wires : AreWired (length o.peers) [] o.wires
