-- A fact of one part through a RECV: it stays where the front is removed for nobody, and where it is taken.
use Rattle.std.proofs.Common.{◌≡◌, refl, sym, subst, Bool, true, false, ◌&&◌, not, List, [], ◌∷◌}
use Rattle.b1_model.specs.declared.naming.Key.{Key}
use Rattle.b1_model.specs.declared.entries.Entry.{Entry}
use Rattle.b1_model.specs.declared.entries.Entry.TheVariants.{Message, OwnNotice, ForeignNotice, ReleaseNotice}
use Rattle.b1_model.specs.MachineParts.{PeerPart, is_staged}
use Rattle.b1_model.specs.MachineReceive.{is_for_nobody, discarded, cleared, taken_entry, front_by, front_taken, received_part}
use Rattle.b1_step.specs.Ordered.{Rising}
use Rattle.b1_inv_peer.proofs.Clearing.{without_front, cleared_one, cleared_none, cleared_empty}

abbrev Queue : Type 0
Queue = List (Key × Entry)

pub discard_queue : (e : Entry) (x : PeerPart) → (discarded x e).queue ≡ x.queue
discard_queue (Message origin user index serial offset len nodes slots handles payload) x = refl
discard_queue (OwnNotice serial index) x = refl
discard_queue (ForeignNotice node index) x = refl
discard_queue (ReleaseNotice serial) x = refl

module _ (P : PeerPart → Type 0) (up : (x : PeerPart) → P x → Rising x.handles) (gone : (x : PeerPart) (f : Key × Entry) (rest : Queue) → x.queue ≡ f ∷ rest → P x → P (without_front x f rest)) where
  one_more : (x : PeerPart) (f : Key × Entry) (rest : Queue) (b : Bool) → x.queue ≡ f ∷ rest → (not (is_staged f) && is_for_nobody x f.1) ≡ b → P x → (P (without_front x f rest) → P (cleared (without_front x f rest))) → P (cleared x)
  one_more x f rest true is passes all further = subst P (sym (cleared_one x f rest (up x all) is passes)) (further (gone x f rest is all))
  one_more x f rest false is fails all further = subst P (sym (cleared_none x f rest (up x all) is fails)) all

  cleared_from : (queue : Queue) (x : PeerPart) → x.queue ≡ queue → P x → P (cleared x)
  cleared_from [] x is all = subst P (sym (cleared_empty x is)) all
  cleared_from (f ∷ rest) x is all = one_more x f rest (not (is_staged f) && is_for_nobody x f.1) is refl all (λ left. cleared_from rest (without_front x f rest) (discard_queue f.1 (record x { queue = rest })) left)

  -- a fact that the removals keep
  pub cleared_all : (x : PeerPart) → P x → P (cleared x)
  cleared_all x all = cleared_from x.queue x refl all

module _ (P : PeerPart → Type 0) (up : (x : PeerPart) → P x → Rising x.handles) (gone : (x : PeerPart) (f : Key × Entry) (rest : Queue) → x.queue ≡ f ∷ rest → P x → P (without_front x f rest))
    (takes : (x : PeerPart) (f : Key × Entry) (rest : Queue) → x.queue ≡ f ∷ rest → P x → P (taken_entry (record x { queue = rest }) f.0 f.1).1) where
  front_from : (b : Bool) (x : PeerPart) (f : Key × Entry) (rest : Queue) → x.queue ≡ f ∷ rest → P x → P (front_by b x f rest).1
  front_from true x f rest is all = all
  front_from false x f rest is all = takes x f rest is all

  taken_from : (queue : Queue) (x : PeerPart) → x.queue ≡ queue → P x → P (front_taken x queue).1
  taken_from [] x is all = all
  taken_from (f ∷ rest) x is all = front_from (is_staged f) x f rest is all

  pub received_all : (x : PeerPart) → P x → P (received_part x)
  received_all x all = taken_from (cleared x).queue (cleared x) refl (cleared_all P up gone x all)
