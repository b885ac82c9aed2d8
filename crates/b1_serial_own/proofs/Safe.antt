-- In a state at rest what a box has of destroyed nodes is before their notices, so that a message that is taken finds no node
-- whose notice was taken, and no dead record.
use Rattle.std.proofs.Common.{◌≡◌, ◌⊎◌, refl, sym, ap, ◌∙◌, subst, inl, inr, ℕ, ◌<◌, ◌≤◌, true, false, ◌&&◌, List, [], ◌∷◌, length, zip, Option, Some, None, is_some}
use Rattle.std.specs.Prelude.{slice_get}
use Rattle.std.proofs.lemmas.Option.{slice_get-get_or}
use Rattle.std.proofs.lemmas.Bool.{false_from_ne_true, and_parts, cases_lt}
use Rattle.std.proofs.lemmas.List.{get_or_past}
use Rattle.b1_model.specs.declared.naming.Key.{Key}
use Rattle.b1_model.specs.declared.naming.NodeRef.{NodeRef}
use Rattle.b1_model.specs.declared.naming.Opening.{Opening}
use Rattle.b1_model.specs.declared.parts.NodeState.{NodeState}
use Rattle.b1_model.specs.declared.parts.NodeState.TheVariants.{Live, Dying, Destroyed}
use Rattle.b1_model.specs.declared.parts.Slot.{Slot}
use Rattle.b1_model.specs.declared.parts.Slot.TheVariants as slot
use Rattle.b1_model.specs.declared.entries.Entry.{Entry}
use Rattle.b1_model.specs.declared.entries.Entry.TheVariants.{Message, OwnNotice, ForeignNotice, ReleaseNotice}
use Rattle.b1_model.specs.MachineParts.{PeerPart, DriverPart, HandleRecord, State, same_ref, key_before, is_data, is_destroyed, record_of, record_or_none, node_at, no_node, carried, slots_of}
use Rattle.b1_step.specs.Rights.{Has}
use Rattle.b1_step.proofs.Lists.{has_all}
use Rattle.b1_step.proofs.Orders.{key_trans, key_not_itself, same_ref_is}
use Rattle.b1_inv.specs.Words.{IsPeer, IsDriver, IsMade}
use Rattle.b1_inv.specs.Sends.{IsFilled}
use Rattle.b1_inv.specs.References.{AreFilled}
use Rattle.b1_inv.specs.Sound.{IsSound}
use Rattle.b1_inv_refs.proofs.Views.{or_none}
use Rattle.b1_inv_refs.proofs.GivenUp.{found_has}
use Rattle.b1_inv_refs.proofs.SameWires.{any_has}
use Rattle.b1_inv_record.specs.Destructions.{doomed_key}
use Rattle.b1_inv_record.specs.Right.{IsRight}
use Rattle.b1_serial_bus.specs.Parts.{Bus}
use Rattle.b1_serial_bus.specs.Lives.{destroyed_at, destroyed_in}
use Rattle.b1_serial_rest.specs.Standing.{stamp_of, part_of}
use Rattle.b1_serial_rest.specs.Rest.{sent_to, is_notice_of, is_noticed_behind, AtRest}
use Rattle.b1_serial_whole.proofs.Quiet.{driver_beside}
use Rattle.b1_serial_own.proofs.Shows.{part_there}
use Rattle.b1_serial_own.proofs.Dropped.{stamp_at}

-- ---- lists

pub zip_has : {X Y : Type 0} (xs : List X) (ys : List Y) (x : X) (y : Y) → Has (zip xs ys) (x, y) → Has xs x
zip_has [] ys x y there = absurd there
zip_has (a ∷ xs) [] x y there = absurd there
zip_has (a ∷ xs) (b ∷ ys) x y (inl same) = inl (ap (λ z. z.0) same)
zip_has (a ∷ xs) (b ∷ ys) x y (inr there) = inr (zip_has xs ys x y there)

pub filled_at : (q : ℕ) (nodes : List NodeRef) (slots : List Slot) (n : NodeRef) (t : Slot) → AreFilled q nodes slots → Has (zip nodes slots) (n, t) → IsFilled (record { owner = q; serial = 0 }) n t
filled_at q [] slots n t filled there = absurd there
filled_at q (m ∷ nodes) [] n t filled there = absurd there
filled_at q (m ∷ nodes) (u ∷ slots) n t filled (inl same) = subst (λ z. IsFilled (record { owner = q; serial = 0 }) z.0 z.1) (sym same) filled.0
filled_at q (m ∷ nodes) (u ∷ slots) n t filled (inr there) = filled_at q nodes slots n t filled.1 there

-- an entry with slots is a message
slots_data : (e : Entry) (c : NodeRef × Slot) → Has (zip (carried e) (slots_of e)) c → is_data e ≡ true
slots_data (Message origin user index dest offset len nodes slots handles payload) c there = refl
slots_data (OwnNotice mine index) c there = absurd there
slots_data (ForeignNotice node index) c there = absurd there
slots_data (ReleaseNotice mine) c there = absurd there

stamped : (state : NodeState) → is_destroyed state ≡ true → is_some (stamp_of state) ≡ true
stamped Live is = absurd (cc is)
stamped Dying is = absurd (cc is)
stamped (Destroyed stamp) is = refl

-- which notice it is
pub data NoticeOf (me : ℕ) (n : NodeRef) (g : Key × Entry) : Type 0 where
  own : (index : ℕ) → g ≡ (g.0, OwnNotice n.serial index) → n.owner ≡ me → NoticeOf me n g
  foreign : (index : ℕ) → g ≡ (g.0, ForeignNotice n index) → NoticeOf me n g

pub notice_kind : (me : ℕ) (n : NodeRef) (g : Key × Entry) → is_notice_of me n g.1 ≡ true → NoticeOf me n g
notice_kind me n (k, Message origin user index dest offset len nodes slots handles payload) is = absurd (cc is)
notice_kind me n (k, OwnNotice serial index) is =
    let same = same_ref_is n (record { owner = me; serial = serial }) is in
    own index (ap (λ m. (k, OwnNotice m.serial index)) (sym same)) (ap (λ m. m.owner) same)
notice_kind me n (k, ForeignNotice node index) is = foreign index (ap (λ m. (k, ForeignNotice m index)) (sym (same_ref_is n node is)))
notice_kind me n (k, ReleaseNotice serial) is = absurd (cc is)

-- ---- a peer at rest

module _ {o : Opening} {s : State} {bus : Bus} (p : ℕ) (x : PeerPart) (d : DriverPart) (sound : IsSound o s) (right : IsRight o s) (rest : AtRest o s bus) (is_x : IsPeer s p x) (is_d : IsDriver s p d) where
  pub here : slice_get bus p ≡ Some (part_of x d)
  here = ap (λ b. slice_get b p) rest.is_bus ∙ part_there s.peers s.drivers p x d is_x is_d

  me : x.me ≡ p
  me = (sound.numbered.peers p x is_x).me

  -- a doomed node is destroyed on the bus
  pub doomed_shown : (n : NodeRef) (key : Key) → IsMade s n → doomed_key o s n ≡ Some key → is_some (destroyed_in bus n) ≡ true
  doomed_shown n key made doomed =
      let z = made.0 in
      let e = driver_beside sound.numbered n.owner z made.1 in
      let there : slice_get bus n.owner ≡ Some (part_of z e.0) = ap (λ b. slice_get b n.owner) rest.is_bus ∙ part_there s.peers s.drivers n.owner z e.0 made.1 e.1 in
      let state = right.destructions.dying.recorded n.owner n.serial z (node_at z n.serial) key made.1 (slice_get-get_or z.nodes n.serial no_node made.2) doomed in
      ap (λ r. is_some (elim r [ None ↦ None | Some y ↦ destroyed_at y n.serial ])) there
      ∙ ap is_some (stamp_at z.nodes n.serial made.2)
      ∙ ap (λ state. is_some (stamp_of state)) state

  -- the notice that is behind a key
  pub notice_found : (k : Key) (n : NodeRef) → is_noticed_behind k n (part_of x d) ≡ true → (g : Key × Entry) × Has x.queue g × NoticeOf x.me n g × (key_before k g.0 ≡ true)
  notice_found k n noticed =
      let found = any_has (λ f. is_notice_of x.me n f.1 && key_before k f.0) x.queue noticed in
      let both = and_parts (is_notice_of x.me n found.0.1) (key_before k found.0.0) found.2 in
      (found.0, found.1, notice_kind x.me n found.0 both.0, both.1)

  -- a peer has no foreign notice of its own node
  never_foreign : (g : Key × Entry) (n : NodeRef) (index : ℕ) → Has x.queue g → g ≡ (g.0, ForeignNotice n index) → n.owner ≡ p → ⊥
  never_foreign g n index there is mine = (sound.notices.queued p x (g.0, ForeignNotice n index) is_x (subst (Has x.queue) is there)).2 mine

  -- a node whose notice is still boxed isn't taken
  untaken_by : (serial : ℕ) (k : Key) → is_noticed_behind k (record { owner = x.me; serial = serial }) (part_of x d) ≡ true → (node_at x serial).taken ≡ false
  untaken_by serial k noticed = let found = notice_found k (record { owner = x.me; serial = serial }) noticed in by found.0 found.1 found.2
    where
      by : (g : Key × Entry) → Has x.queue g → NoticeOf x.me (record { owner = x.me; serial = serial }) g → (node_at x serial).taken ≡ false
      by g there (own index is mine) = right.destructions.own.untaken p index serial x g.0 is_x (subst (Has x.queue) is there)
      by g there (foreign index is) = absurd (never_foreign g (record { owner = x.me; serial = serial }) index there is me)

  -- a node whose notice was taken is destroyed
  taken_shown : (serial : ℕ) → (node_at x serial).taken ≡ true → is_some (destroyed_at (part_of x d) serial) ≡ true
  taken_shown serial taken = by (cases_lt serial (length x.nodes))
    where
      by : (serial < length x.nodes) ⊎ (length x.nodes ≤ serial) → is_some (destroyed_at (part_of x d) serial) ≡ true
      by (inl less) =
          ap is_some (stamp_at x.nodes serial less)
          ∙ stamped (node_at x serial).state (right.destructions.own.taken p serial x (node_at x serial) is_x (slice_get-get_or x.nodes serial no_node less) taken)
      by (inr past) = absurd (cc (sym taken ∙ ap (λ n. n.taken) (get_or_past x.nodes serial no_node past)))

  -- the node of a boxed message isn't taken
  pub sent_untaken : (f : Key × Entry) (serial : ℕ) → Has x.queue f → sent_to f.1 ≡ Some serial → (node_at x serial).taken ≡ false
  sent_untaken f serial there to = false_from_ne_true (node_at x serial).taken (λ taken.
      absurd (cc (sym taken ∙ untaken_by serial f.0 (rest.boxes.sent p (part_of x d) f serial here there to (taken_shown serial taken)))))

  filled_so : (f : Key × Entry) (c : NodeRef × Slot) → Has x.queue f → Has (zip (carried f.1) (slots_of f.1)) c → IsFilled (record { owner = p; serial = 0 }) c.0 c.1
  filled_so f c there in_it = filled_at p (carried f.1) (slots_of f.1) c.0 c.1 (sound.slots.filled p x f is_x there (slots_data f.1 c in_it) (rest.quiet.committed p x f is_x there)) in_it

  -- nor is the own node of a slot
  pub own_untaken : (f : Key × Entry) (n : NodeRef) → Has x.queue f → Has (zip (carried f.1) (slots_of f.1)) (n, slot.Own) → (node_at x n.serial).taken ≡ false
  own_untaken f n there in_it = false_from_ne_true (node_at x n.serial).taken (λ taken.
      let owner : n.owner ≡ p = filled_so f (n, slot.Own) there in_it in
      let dead : is_some (destroyed_in bus n) ≡ true = ap (λ q. is_some (elim (slice_get bus q) [ None ↦ None | Some y ↦ destroyed_at y n.serial ])) owner ∙ ap (λ r. is_some (elim r [ None ↦ None | Some y ↦ destroyed_at y n.serial ])) here ∙ taken_shown n.serial taken in
      let noticed = rest.boxes.filled p (part_of x d) f (n, slot.Own) here there in_it (λ e. cc e) dead in
      absurd (cc (sym taken ∙ untaken_by n.serial f.0 (ap (λ q. is_noticed_behind f.0 (record { owner = q; serial = n.serial }) (part_of x d)) (me ∙ sym owner) ∙ noticed))))

  -- where the slot's node is another peer's, its notice is boxed behind the message, if it is destroyed
  pub attached_noticed : (f : Key × Entry) (n : NodeRef) → Has x.queue f → Has (zip (carried f.1) (slots_of f.1)) (n, slot.Attached) → is_some (destroyed_in bus n) ≡ true
      → (g : Key) × (index : ℕ) × Has x.queue (g, ForeignNotice n index) × (key_before f.0 g ≡ true)
  attached_noticed f n there in_it dead =
      let noticed = rest.boxes.filled p (part_of x d) f (n, slot.Attached) here there in_it (λ e. cc e) dead in
      let found = notice_found f.0 n noticed in
      by found.0 found.1 found.3 found.2
    where
      by : (g : Key × Entry) → Has x.queue g → key_before f.0 g.0 ≡ true → NoticeOf x.me n g → (k : Key) × (index : ℕ) × Has x.queue (k, ForeignNotice n index) × (key_before f.0 k ≡ true)
      by g has behind (own index is mine) = absurd ((filled_so f (n, slot.Attached) there in_it) (mine ∙ me))
      by g has behind (foreign index is) = (g.0, index, subst (Has x.queue) is has, behind)

  -- so no record of it is dead
  pub attached_alive : (f : Key × Entry) (n : NodeRef) → Has x.queue f → Has (zip (carried f.1) (slots_of f.1)) (n, slot.Attached) → (record_or_none n x.handles).dead ≡ false
  attached_alive f n there in_it = by (record_of n x.handles) refl
    where
      dead_never : (h : HandleRecord) → record_of n x.handles ≡ Some h → h.dead ≡ true → ⊥
      dead_never h found dead =
          let has = found_has (λ g. same_ref g.node n) x.handles h found in
          let node : h.node ≡ n = same_ref_is h.node n has.1 in
          let key = right.destructions.foreign.dead p x h is_x has.0 dead in
          let made = subst (IsMade s) node (sound.flights.made p x h is_x has.0) in
          let notice = attached_noticed f n there in_it (doomed_shown n key.0 made (ap (doomed_key o s) (sym node) ∙ key.1)) in
          let marked = right.parts.marks.marked p notice.1 x notice.0 n is_x notice.2 in
          let unmarked = right.destructions.foreign.apart p x h is_x has.0 dead in
          cc (sym marked ∙ ap (λ r. (or_none n r).notice) found ∙ unmarked)

      by : (r : Option HandleRecord) → record_of n x.handles ≡ r → (or_none n r).dead ≡ false
      by None found = refl
      by (Some h) found = false_from_ne_true h.dead (dead_never h found)

  -- and no notice of it is boxed before the message
  pub none_before : (f : Key × Entry) (n : NodeRef) (k : Key) (index : ℕ) → Has x.queue f → Has (zip (carried f.1) (slots_of f.1)) (n, slot.Attached) → Has x.queue (k, ForeignNotice n index) → key_before k f.0 ≡ true → ⊥
  none_before f n k index there in_it queued before =
      let made = has_all (IsMade s) (carried f.1) n (sound.slots.made p x f is_x there) (zip_has (carried f.1) (slots_of f.1) n slot.Attached in_it) in
      let doomed = right.destructions.foreign.queued p index x k n is_x queued (rest.quiet.committed p x (k, ForeignNotice n index) is_x queued) in
      let notice = attached_noticed f n there in_it (doomed_shown n k made doomed) in
      let same : k ≡ notice.0 = right.parts.marks.once p index notice.1 x k notice.0 n is_x queued notice.2 in
      let behind : key_before f.0 k ≡ true = ap (key_before f.0) same ∙ notice.3 in
      cc (sym (key_trans k f.0 k before behind) ∙ key_not_itself k)
