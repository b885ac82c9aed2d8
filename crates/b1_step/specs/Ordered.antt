-- Queues whose keys rise, and handle records whose nodes rise.
use Rattle.std.specs.Prelude.{◌≡◌, ◌≢◌, ℕ, true, List, [], ◌∷◌, ⊤, slice_get, Some}
use Rattle.b1_model.specs.declared.naming.Key.{Key}
use Rattle.b1_model.specs.declared.naming.NodeRef.{NodeRef}
use Rattle.b1_model.specs.declared.entries.Entry.{Entry}
use Rattle.b1_model.specs.MachineParts.{PeerPart, State, HandleRecord, key_before, ref_before}

-- every entry's key is behind this one
abbrev pub Behind : Key → List (Key × Entry) → Type 0
Behind k [] = ⊤
Behind k (f ∷ rest) = (key_before k f.0 ≡ true) × Behind k rest

-- each key is behind those before it
abbrev pub Ascending : List (Key × Entry) → Type 0
Ascending [] = ⊤
Ascending (f ∷ rest) = Behind f.0 rest × Ascending rest

-- no entry has this key
abbrev pub NewKey : Key → List (Key × Entry) → Type 0
NewKey k [] = ⊤
NewKey k (f ∷ rest) = (f.0 ≢ k) × NewKey k rest

-- every record's node is behind this one
abbrev pub BehindNode : NodeRef → List HandleRecord → Type 0
BehindNode node [] = ⊤
BehindNode node (h ∷ rest) = (ref_before node h.node ≡ true) × BehindNode node rest

-- each record's node is behind those before it, so no node has two records
abbrev pub Rising : List HandleRecord → Type 0
Rising [] = ⊤
Rising (h ∷ rest) = BehindNode h.node rest × Rising rest

-- the records of every peer are in the order of their nodes
abbrev pub HandlesRise : State → Type 0
HandlesRise s = (q : ℕ) (x : PeerPart) → slice_get s.peers q ≡ Some x → Rising x.handles
