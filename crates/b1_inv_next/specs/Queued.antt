-- What a queue holds of an entry that its peer may receive.
use Rattle.std.specs.Prelude.{◌≡◌, ◌⊎◌, ◌<◌, true}
use Rattle.b1_model.specs.declared.naming.Key.{Key}
use Rattle.b1_model.specs.declared.entries.Entry.{Entry}
use Rattle.b1_model.specs.MachineParts.{PeerPart, is_staged}
use Rattle.b1_step.specs.Rights.{Has}

-- an entry with a key is queued, or a staged one whose stamp is less
abbrev pub Queued : PeerPart → Key → Type 0
Queued x key = (g : Key × Entry) × Has x.queue g
    × ((g.0 ≡ key) ⊎ ((is_staged g ≡ true) × (g.0.stamp < key.stamp)))
