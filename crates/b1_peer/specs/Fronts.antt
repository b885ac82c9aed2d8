-- What stands at the front of a queue, and one step of RECV.
use Rattle.std.specs.Prelude.{◌≡◌, Bool, false, true, not, ◌&&◌, List, [], ◌∷◌, Some}
use Rattle.b1_model.specs.declared.naming.Key.{Key}
use Rattle.b1_model.specs.declared.entries.Entry.{Entry}
use Rattle.b1_model.specs.declared.entries.Entry.TheVariants.{Message, OwnNotice, ForeignNotice, ReleaseNotice}
use Rattle.b1_model.specs.MachineParts.{PeerPart, Slice, is_odd, is_staged}
use Rattle.b1_model.specs.MachinePool.{slice_at, is_published}
use Rattle.b1_model.specs.MachineReceive.{is_for_nobody, discarded}
use Rattle.b1_step.specs.Ordered.{Rising}
use Rattle.b1_peer.specs.declared.front.Kind.{Kind}
use Rattle.b1_peer.specs.declared.front.Kind.TheVariants as kind

-- of one entry
abbrev pub kind_by : Bool → Key → Entry → Kind
kind_by true k e = kind.Staged k.origin k.stamp
kind_by false k (Message origin user index serial offset len nodes slots handles payload) = kind.Message serial
kind_by false k (OwnNotice serial index) = kind.Own serial
kind_by false k (ForeignNotice node index) = kind.Foreign node
kind_by false k (ReleaseNotice serial) = kind.Release serial

-- of a queue
abbrev pub kind_of : List (Key × Entry) → Kind
kind_of [] = kind.Absent
kind_of (f ∷ rest) = kind_by (is_odd f.0.stamp) f.0 f.1

-- whether the front is committed and for nobody
abbrev pub goes_by : PeerPart → List (Key × Entry) → Bool
goes_by x [] = false
goes_by x (f ∷ rest) = not (is_staged f) && is_for_nobody x f.1

-- the same of a part
abbrev pub front_goes : PeerPart → Bool
front_goes x = goes_by x x.queue

-- the part without its front, which is for nobody
abbrev pub without_by : PeerPart → List (Key × Entry) → PeerPart
without_by x [] = x
without_by x (f ∷ rest) = discarded (record x { queue = rest }) f.1

-- the same of a part
abbrev pub front_gone : PeerPart → PeerPart
front_gone x = without_by x x.queue

-- each received slice is still there
abbrev pub StillReceived : PeerPart → PeerPart → Type 0
StillReceived x y = (s : Slice) → slice_at s.offset x.slices ≡ Some s → is_published s ≡ true → slice_at s.offset y.slices ≡ Some s

-- what a peer tells of a front that goes
pub record GoesWell (x : PeerPart) : Type 0 where
  pub rising : Rising x.handles
  pub still : StillReceived x (front_gone x)
