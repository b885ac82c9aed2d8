-- A destruction: its stamp, and what it changes.
use Rattle.std.specs.Prelude.{ℕ, zero, suc, ◌+◌, max, List, [], ◌∷◌, Some}
use Rattle.std.specs.Prelude.{map, filter, fold}
use Rattle.b1_model.specs.declared.entries.Entry.TheVariants.{OwnNotice}
use Rattle.b1_model.specs.MachineParts.{is_release_notice}
use Rattle.b1_model.specs.MachineTables.{put, without}
use Rattle.b1_serial_bus.specs.Parts.{OwnNode, Part, Bus, at_peer, key_of}
use Rattle.b1_serial_bus.specs.Notices.{refers_to_doomed, with_notices}

-- the stamp: two above the greatest of the owner's clock and the clocks of the peers that have a
-- line or a boxed slot for a doomed node
abbrev pub doom_stamp : Part → List ℕ → Bus → ℕ
doom_stamp x doomed bus =
    fold max x.clock (map (λ y. y.clock) (filter (refers_to_doomed x.me doomed) bus)) + 2

-- a node is destroyed with a stamp
abbrev pub with_destroyed : ℕ → ℕ → List OwnNode → List OwnNode
with_destroyed stamp serial [] = []
with_destroyed stamp zero (n ∷ rest) = record n { destroyed = Some stamp } ∷ rest
with_destroyed stamp (suc serial) (n ∷ rest) = n ∷ with_destroyed stamp serial rest

-- the owner destroys a node: the notice comes, and a release notice of the node goes
abbrev pub with_doomed : ℕ → ℕ → ℕ → Part → Part
with_doomed stamp index serial x = record x {
  nodes = with_destroyed stamp serial x.nodes;
  box = put (key_of stamp x.me index) (OwnNotice serial index)
      (without (is_release_notice serial) x.box);
}

-- the owner destroys its doomed nodes, from a place of their list on, and its clock is the stamp
abbrev pub with_all_doomed : ℕ → ℕ → List ℕ → Part → Part
with_all_doomed stamp index [] x = record x { clock = stamp }
with_all_doomed stamp index (serial ∷ rest) x =
    with_all_doomed stamp (index + 1) rest (with_doomed stamp index serial x)

-- the bus after a destruction of nodes of peer x with a stamp
abbrev pub destroyed : ℕ → Part → List ℕ → Bus → Bus
destroyed stamp x doomed bus =
    at_peer x.me (with_all_doomed stamp 0 doomed) (map (with_notices stamp x.me 0 doomed) bus)
