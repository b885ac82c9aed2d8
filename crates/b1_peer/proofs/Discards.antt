-- RECV removes one entry for nobody after another.
use Rattle.std.proofs.Common.{◌≡◌, ◌≢◌, ◌⊎◌, refl, sym, ap, ◌∙◌, inl, inr, ℕ, ◌+◌, Bool, true, false, cond, List, [], ◌∷◌, length, Some}
use native.Mathlib.Omega.{arith}
use Rattle.b1_model.specs.declared.naming.Key.{Key}
use Rattle.b1_model.specs.declared.naming.NodeRef.{NodeRef}
use Rattle.b1_model.specs.declared.tables.Usage.{Usage}
use Rattle.b1_model.specs.declared.tables.Usage.TheVariants.{Free, Unpublished, Published}
use Rattle.b1_model.specs.declared.entries.Entry.{Entry}
use Rattle.b1_model.specs.declared.entries.Entry.TheVariants.{Message, OwnNotice, ForeignNotice, ReleaseNotice}
use Rattle.b1_model.specs.MachineParts.{PeerPart, HandleRecord, Slice, same_ref}
use Rattle.b1_model.specs.MachinePool.{slice_at, is_published, is_free}
use Rattle.b1_model.specs.MachineTables.{is_needed, changed, made_dead, foreign}
use Rattle.b1_model.specs.MachineReceive.{discarded, cleared, received, received_part}
use Rattle.b1_step.specs.Rights.{Has}
use Rattle.b1_step.specs.Ordered.{Rising}
use Rattle.b1_step.proofs.Records.{kept_unexpected}
use Rattle.b1_inv_peer.specs.Needs.{HeldFew}
use Rattle.b1_inv_peer.specs.PeerOk.{SliceOk}
use Rattle.b1_inv_peer.proofs.Clearing.{part_one, front_one, removed_one, cleared_none, removed_none, cleared_empty, removed_empty}
use Rattle.b1_peer.specs.State.{Fields, IsPeer, part_of}
use Rattle.b1_peer.specs.Fronts.{goes_by, front_goes, without_by, front_gone, StillReceived}
use Rattle.b1_peer.proofs.Bridges.{queued_slice, others_given_back}

abbrev Queue : Type 0
Queue = List (Key × Entry)

-- ---- one entry goes

module _ (x : PeerPart) (up : Rising x.handles) where
  part_by : (q : Queue) → x.queue ≡ q → goes_by x q ≡ true → received_part x ≡ received_part (without_by x q)
  part_by [] is goes = refl
  part_by (f ∷ rest) is goes = part_one x f rest up is goes

  front_by : (q : Queue) → x.queue ≡ q → goes_by x q ≡ true → (received x).front ≡ (received (without_by x q)).front
  front_by [] is goes = refl
  front_by (f ∷ rest) is goes = front_one x f rest up is goes

  removed_by : (q : Queue) → x.queue ≡ q → goes_by x q ≡ true → (received x).removed ≡ 1 + (received (without_by x q)).removed
  removed_by [] is goes = absurd (cc goes)
  removed_by (f ∷ rest) is goes = removed_one x f rest up is goes

  pub gone_part : front_goes x ≡ true → received_part x ≡ received_part (front_gone x)
  gone_part goes = part_by x.queue refl goes

  pub gone_front : front_goes x ≡ true → (received x).front ≡ (received (front_gone x)).front
  gone_front goes = front_by x.queue refl goes

  pub gone_removed : front_goes x ≡ true → (received x).removed ≡ 1 + (received (front_gone x)).removed
  gone_removed goes = removed_by x.queue refl goes

  -- nothing goes
  settled_by : (q : Queue) → x.queue ≡ q → goes_by x q ≡ false → cleared x ≡ x
  settled_by [] is stays = cleared_empty x is
  settled_by (f ∷ rest) is stays = cleared_none x f rest up is stays

  none_by : (q : Queue) → x.queue ≡ q → goes_by x q ≡ false → (received x).removed ≡ 0
  none_by [] is stays = removed_empty x is
  none_by (f ∷ rest) is stays = removed_none x f rest up is stays

  pub settled : front_goes x ≡ false → cleared x ≡ x
  settled stays = settled_by x.queue refl stays

  pub none_removed : front_goes x ≡ false → (received x).removed ≡ 0
  none_removed stays = none_by x.queue refl stays

queue_left : (x : PeerPart) (e : Entry) (rest : Queue) → (discarded (record x { queue = rest }) e).queue ≡ rest
queue_left x (Message origin user index serial offset len nodes slots handles payload) rest = refl
queue_left x (OwnNotice serial index) rest = refl
queue_left x (ForeignNotice node index) rest = refl
queue_left x (ReleaseNotice serial) rest = refl

len_by : (x : PeerPart) (q : Queue) → goes_by x q ≡ true → length q ≡ length (without_by x q).queue + 1
len_by x [] goes = absurd (cc goes)
len_by x (f ∷ rest) goes = let left = ap (λ (r : Queue). length r) (queue_left x f.1 rest) in omega (arith, left)

pub gone_len : (x : PeerPart) → front_goes x ≡ true → length x.queue ≡ length (front_gone x).queue + 1
gone_len x goes = len_by x x.queue goes

given_left : (x : PeerPart) (e : Entry) (rest : Queue) → (discarded (record x { queue = rest }) e).given ≡ x.given
given_left x (Message origin user index serial offset len nodes slots handles payload) rest = refl
given_left x (OwnNotice serial index) rest = refl
given_left x (ForeignNotice node index) rest = refl
given_left x (ReleaseNotice serial) rest = refl

given_by : (x : PeerPart) (q : Queue) → (without_by x q).given ≡ x.given
given_by x [] = refl
given_by x (f ∷ rest) = given_left x f.1 rest

pub gone_given : (x : PeerPart) → (front_gone x).given ≡ x.given
gone_given x = given_by x x.queue

-- ---- how often nodes are held

pub has_changed : (node : NodeRef) (f : HandleRecord → HandleRecord) (hs : List HandleRecord) (g : HandleRecord) → Has (changed node f hs) g → Has hs g ⊎ ((h : HandleRecord) × Has hs h × (g ≡ f h))
has_changed node f [] g has = absurd has
has_changed node f (h ∷ rest) g has = at (has_changed node f rest g) (same_ref h.node node) (is_needed (f h)) has
  where
    at : (Has (changed node f rest) g → Has rest g ⊎ ((r : HandleRecord) × Has rest r × (g ≡ f r))) → (b c : Bool) → Has (cond b (cond c (f h ∷ rest) rest) (h ∷ changed node f rest)) g → Has (h ∷ rest) g ⊎ ((r : HandleRecord) × Has (h ∷ rest) r × (g ≡ f r))
    at further true true (inl same) = inr (h, inl refl, same)
    at further true true (inr there) = inl (inr there)
    at further true false there = inl (inr there)
    at further false c (inl same) = inl (inl same)
    at further false c (inr there) = elim (further there) [ inl old ↦ inl (inr old) | inr (r, old, same) ↦ inr (r, inr old, same) ]

held_left : (x : PeerPart) (e : Entry) (rest : Queue) → HeldFew x → HeldFew (discarded (record x { queue = rest }) e)
held_left x (Message origin user index serial offset len nodes slots handles payload) rest few g has =
    elim ((kept_unexpected (foreign x.me nodes) x.handles).comes g has) [
      | inl (h, old, same) ↦ (let low = few h old in let e = same.held in omega (arith, low, e))
      | inr (fresh, alive) ↦ (let none = fresh.held in omega (arith, none))
    ]
held_left x (OwnNotice serial index) rest few g has = few g has
held_left x (ForeignNotice node index) rest few g has =
    elim (has_changed node made_dead x.handles g has) [
      | inl old ↦ few g old
      | inr (h, old, same) ↦ (let low = few h old in let e = ap (λ (r : HandleRecord). r.held) same in omega (arith, low, e))
    ]
held_left x (ReleaseNotice serial) rest few g has = few g has

held_by : (x : PeerPart) (q : Queue) → HeldFew x → HeldFew (without_by x q)
held_by x [] few = few
held_by x (f ∷ rest) few = held_left x f.1 rest few

pub gone_held : (x : PeerPart) → HeldFew x → HeldFew (front_gone x)
gone_held x few = held_by x x.queue few

-- ---- received slices stay

pub published_apart : (slices : List Slice) (offset len handles : ℕ) (s : Slice) → slice_at offset slices ≡ Some (queued_slice offset len handles) → slice_at s.offset slices ≡ Some s → is_published s ≡ true → s.offset ≢ offset
published_apart slices offset len handles s queued found received same =
    let e : queued_slice offset len handles ≡ s = cc (sym queued ∙ ap (λ o. slice_at o slices) (sym same) ∙ found) in
    let no_published : false ≡ true = ap is_published e ∙ received in
    absurd (cc no_published)

pub published_used : (s : Slice) → is_published s ≡ true → is_free s ≡ false
published_used s received = by_usage s.usage received
  where
    by_usage : (u : Usage) → (elim u [ Free ↦ false | Unpublished ↦ false | Published ↦ true ]) ≡ true → (elim u [ Free ↦ true | Unpublished ↦ false | Published ↦ false ]) ≡ false
    by_usage Free e = absurd (cc e)
    by_usage Unpublished e = absurd (cc e)
    by_usage Published e = refl

still_left : (p : Fields) → IsPeer p → (k : Key) (e : Entry) (rest : Queue) → SliceOk p.store.slices (k, e) → StillReceived (part_of p) (discarded (record (part_of p) { queue = rest }) e)
still_left p peer k (Message origin user index serial offset len nodes slots handles payload) rest right s found received =
    others_given_back p.store.size offset p.store.slices (queued_slice offset len (length nodes)) peer.stored.pool right s.offset s found (published_used s received) (published_apart p.store.slices offset len (length nodes) s right found received)
still_left p peer k (OwnNotice serial index) rest right s found received = found
still_left p peer k (ForeignNotice node index) rest right s found received = found
still_left p peer k (ReleaseNotice serial) rest right s found received = found

still_by : (p : Fields) → IsPeer p → (q : Queue) → ((f : Key × Entry) → Has q f → SliceOk p.store.slices f) → StillReceived (part_of p) (without_by (part_of p) q)
still_by p peer [] all s found received = found
still_by p peer (f ∷ rest) all s found received = still_left p peer f.0 f.1 rest (all f (inl refl)) s found received

pub gone_still : (p : Fields) → IsPeer p → StillReceived (part_of p) (front_gone (part_of p))
gone_still p peer = still_by p peer p.mail.queue peer.ok.sliced
