-- What a reference that is given up does to the node's owner.
use Rattle.std.specs.Prelude.{ℕ, max, Bool, true, false, ◌&&◌, not, is_none}
use Rattle.b1_model.specs.declared.naming.NodeRef.{NodeRef}
use Rattle.b1_model.specs.declared.entries.Entry.TheVariants.{ReleaseNotice}
use Rattle.b1_model.specs.MachineParts.{no_origin, is_release_notice}
use Rattle.b1_model.specs.MachineTables.{put, without}
use Rattle.b1_serial_bus.specs.Parts.{Part, Bus, at_peer, key_of}
use Rattle.b1_serial_bus.specs.Lives.{destroyed_at}
use Rattle.b1_serial_bus.specs.References.{is_abroad}

-- the release notice of a node comes to its owner's box, with the owner's clock
abbrev pub with_release_notice : ℕ → Part → Part
with_release_notice serial y = record y {
  box = put (key_of y.clock no_origin serial) (ReleaseNotice serial)
      (without (is_release_notice serial) y.box);
}

-- it comes where it is due
abbrev pub noticed : Bool → ℕ → Part → Part
noticed false serial y = y
noticed true serial y = with_release_notice serial y

-- the owner's clock rises to that of the peer that gave the reference up; the notice is due where
-- the node is live, and nobody has a reference any more
abbrev pub told : ℕ → Bool → ℕ → Part → Part
told clock abroad serial y =
    noticed (is_none (destroyed_at y serial) && not abroad) serial
    (record y { clock = max y.clock clock })

-- a peer with this clock gave up a reference that isn't in the bus any more
abbrev pub given_up : ℕ → Bus → NodeRef → Bus
given_up clock bus x = at_peer x.owner (told clock (is_abroad x bus) x.serial) bus
