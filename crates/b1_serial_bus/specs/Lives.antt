-- What a peer's nodes are by their serials: their numbers, and whether they are destroyed.
use Rattle.std.specs.Prelude.{ℕ, List, Option, None, Some, is_none, filter, length, slice_get}
use Rattle.std.specs.List.{range_with_len}
use Rattle.b1_model.specs.declared.naming.NodeRef.{NodeRef}
use Rattle.b1_model.specs.Names.{invalid}
use Rattle.b1_serial_bus.specs.Parts.{Part, Bus}

-- the number of a peer's node
abbrev pub own_number : Part → ℕ → ℕ
own_number x serial = elim (slice_get x.nodes serial) [ None ↦ invalid | Some n ↦ n.number ]

-- the stamp of the destruction of a peer's node, if it is destroyed
abbrev pub destroyed_at : Part → ℕ → Option ℕ
destroyed_at x serial = elim (slice_get x.nodes serial) [ None ↦ None | Some n ↦ n.destroyed ]

-- the same, of any node
abbrev pub destroyed_in : Bus → NodeRef → Option ℕ
destroyed_in bus x =
    elim (slice_get bus x.owner) [ None ↦ None | Some y ↦ destroyed_at y x.serial ]

-- the serials of a peer's live nodes, rising
abbrev pub live_serials : Part → List ℕ
live_serials x =
    filter (λ serial. is_none (destroyed_at x serial)) (range_with_len 0 (length x.nodes))
