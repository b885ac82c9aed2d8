-- What never changes in a state, and how a driver's list grows.
use Rattle.std.specs.Prelude.{◌≡◌, ◌⊎◌, ℕ, true, List, [], ◌∷◌, ◌++◌, length, slice_get, Some}
use Rattle.b1_model.specs.declared.naming.Opening.{Opening}
use Rattle.b1_model.specs.declared.naming.PeerSpec.{PeerSpec}
use Rattle.b1_model.specs.declared.records.Call.{Call}
use Rattle.b1_model.specs.MachineParts.{PeerPart, DriverPart, State}

-- the list is the same, or has one more call at its end
abbrev pub AtMostOneMore : List Call → List Call → Type 0
AtMostOneMore old new = (new ≡ old) ⊎ ((c : Call) × (new ≡ old ++ c ∷ []))

-- the four facts of a peer's part that no event changes
pub record SameFixed (x y : PeerPart) : Type 0 where
  pub me : y.me ≡ x.me
  pub peers : y.peers ≡ x.peers
  pub user : y.user ≡ x.user
  pub pool : y.pool ≡ x.pool

-- a peer's part has its number, the number of peers, and its user and pool by the opening
pub record IsPeerOf (o : Opening) (q : ℕ) (x : PeerPart) : Type 0 where
  pub me : x.me ≡ q
  pub peers : x.peers ≡ length o.peers
  pub spec : PeerSpec
  pub is_spec : slice_get o.peers q ≡ Some spec
  pub user : x.user ≡ spec.user
  pub pool : x.pool ≡ spec.pool

-- each part stands at its number, and there are as many as the opening has peers
pub record IsNumbered (o : Opening) (s : State) : Type 0 where
  pub peers : (q : ℕ) (x : PeerPart) → slice_get s.peers q ≡ Some x → IsPeerOf o q x
  pub drivers : (p : ℕ) (d : DriverPart) → slice_get s.drivers p ≡ Some d → d.me ≡ p
  pub as_many_peers : length s.peers ≡ length o.peers
  pub as_many_drivers : length s.drivers ≡ length o.peers

-- what an event's answer leaves of a driver's part: its number stays, its list grows by one call at most, and once it is shut it stays shut
pub record Grows (d e : DriverPart) : Type 0 where
  pub me : e.me ≡ d.me
  pub calls : AtMostOneMore d.calls e.calls
  pub shut : d.shut ≡ true → e.shut ≡ true
