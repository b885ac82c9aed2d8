-- The boxes of the serial bus are right behind a destruction.
use Rattle.std.proofs.Common.{◌≡◌, ◌≢◌, ◌⊎◌, refl, sym, ap, ◌∙◌, subst, inl, inr, ℕ, zero, suc, ◌<◌, Bool, true, false, cond, ◌&&◌, ◌||◌, List, [], ◌∷◌, ◌++◌, map, filter_map, zip, length, Option, Some, None, is_some, option_map, arith}
use Rattle.std.specs.Prelude.{slice_get}
use Rattle.std.specs.List.{list_any}
use Rattle.std.proofs.lemmas.Option.{same_Some, slice_get-map}
use Rattle.std.proofs.lemmas.Bool.{cases_eq, and_parts, and_from}
use Rattle.b1_model.specs.declared.naming.Key.{Key}
use Rattle.b1_model.specs.declared.naming.NodeRef.{NodeRef}
use Rattle.b1_model.specs.declared.naming.Opening.{Opening}
use Rattle.b1_model.specs.declared.parts.Slot.{Slot}
use Rattle.b1_model.specs.declared.parts.Slot.TheVariants as slot
use Rattle.b1_model.specs.declared.entries.Entry.{Entry}
use Rattle.b1_model.specs.declared.entries.Entry.TheVariants.{Message, OwnNotice, ForeignNotice, ReleaseNotice}
use Rattle.b1_model.specs.MachineParts.{PeerPart, DriverPart, State, is_live, is_data, same_ref, key_before, is_release_notice, node_at, carried, slots_of}
use Rattle.b1_model.specs.MachineTables.{without}
use Rattle.b1_model.specs.MachineReceive.{reference_of}
use Rattle.b1_step.specs.Rights.{Has}
use Rattle.b1_step.proofs.Lists.{has_append, has_left, has_right}
use Rattle.b1_step.proofs.Orders.{same_ref_itself}
use Rattle.b1_step.proofs.Queues.{has_without}
use Rattle.b1_inv.specs.Words.{IsPeer, IsDriver}
use Rattle.b1_inv.specs.Sends.{IsFilled}
use Rattle.b1_inv.specs.Notices.{Apart}
use Rattle.b1_inv.specs.Sound.{IsSound}
use Rattle.b1_inv_record.specs.Right.{IsRight}
use Rattle.b1_inv_notices.proofs.Sets.{in_or_not}
use Rattle.b1_inv_refs.proofs.SameWires.{any_has}
use Rattle.b1_inv_ends.proofs.Ending.{there_any}
use Rattle.b1_serial_bus.specs.Parts.{OwnNode, Part, Bus, at_peer}
use Rattle.b1_serial_bus.specs.Named.{line_of}
use Rattle.b1_serial_bus.specs.Lives.{destroyed_at, destroyed_in}
use Rattle.b1_serial_bus.specs.References.{has_slot, refers}
use Rattle.b1_serial_bus.specs.Notices.{node_of, refers_to_doomed, with_notices}
use Rattle.b1_serial_bus.specs.Doom.{with_destroyed, with_all_doomed}
use Rattle.b1_serial_rest.specs.Standing.{own_of, part_of}
use Rattle.b1_serial_rest.specs.Rest.{sent_to, is_notice_of, is_noticed_behind, BoxesRight, AtRest}
use Rattle.b1_serial_rest.proofs.Own.{parts_at}
use Rattle.b1_serial_own.proofs.Shows.{read_at, read_beside, part_there}
use Rattle.b1_serial_own.proofs.BoxKept.{stamp_in}
use Rattle.b1_serial_own.proofs.Safe.{filled_at}
use Rattle.b1_serial_own.proofs.Notes.{key_at, AllBefore, notes, notes_has, note_there}
use Rattle.b1_serial_own.proofs.Told.{foreign_note, notices_shown, notices_none}
use Rattle.b1_serial_own.proofs.Doomed.{own_note, all_so, unreleased, unreleased_has, all_destroyed, owner_after}
use Rattle.b1_serial_own.proofs.Holders.{none_own, list_has}
use Rattle.b1_serial_own.proofs.Destroys.{queue_before, stamp, own_doomed, clock_below}

-- ---- nodes

destroyed_other : (stamp n m : ℕ) (nodes : List OwnNode) → n ≢ m → slice_get (with_destroyed stamp n nodes) m ≡ slice_get nodes m
destroyed_other stamp n m [] apart = refl
destroyed_other stamp zero zero (k ∷ rest) apart = absurd (apart refl)
destroyed_other stamp zero (suc m) (k ∷ rest) apart = refl
destroyed_other stamp (suc n) zero (k ∷ rest) apart = refl
destroyed_other stamp (suc n) (suc m) (k ∷ rest) apart = destroyed_other stamp n m rest (λ e. apart (ap suc e))

all_other : (stamp m : ℕ) (doomed : List ℕ) (nodes : List OwnNode) → (Has doomed m → ⊥) → slice_get (all_destroyed stamp doomed nodes) m ≡ slice_get nodes m
all_other stamp m [] nodes none = refl
all_other stamp m (n ∷ rest) nodes none = all_other stamp m rest (with_destroyed stamp n nodes) (λ there. none (inr there)) ∙ destroyed_other stamp n m nodes (λ same. none (inl (sym same)))

destroyed_stays : (stamp n m : ℕ) (nodes : List OwnNode) → is_some (stamp_in nodes m) ≡ true → is_some (stamp_in (with_destroyed stamp n nodes) m) ≡ true
destroyed_stays stamp n m [] is = is
destroyed_stays stamp zero zero (k ∷ rest) is = refl
destroyed_stays stamp zero (suc m) (k ∷ rest) is = is
destroyed_stays stamp (suc n) zero (k ∷ rest) is = is
destroyed_stays stamp (suc n) (suc m) (k ∷ rest) is = destroyed_stays stamp n m rest is

all_stay : (stamp m : ℕ) (doomed : List ℕ) (nodes : List OwnNode) → is_some (stamp_in nodes m) ≡ true → is_some (stamp_in (all_destroyed stamp doomed nodes) m) ≡ true
all_stay stamp m [] nodes is = is
all_stay stamp m (n ∷ rest) nodes is = all_stay stamp m rest (with_destroyed stamp n nodes) (destroyed_stays stamp n m nodes is)

-- ---- entries

sent_data : (e : Entry) (serial : ℕ) → sent_to e ≡ Some serial → is_data e ≡ true
sent_data (Message origin user index dest offset len nodes slots handles payload) serial to = refl
sent_data (OwnNotice mine index) serial to = absurd (cc to)
sent_data (ForeignNotice node index) serial to = absurd (cc to)
sent_data (ReleaseNotice mine) serial to = absurd (cc to)

slot_data : (e : Entry) (c : NodeRef × Slot) → Has (zip (carried e) (slots_of e)) c → is_data e ≡ true
slot_data (Message origin user index dest offset len nodes slots handles payload) c there = refl
slot_data (OwnNotice mine index) c there = absurd there
slot_data (ForeignNotice node index) c there = absurd there
slot_data (ReleaseNotice mine) c there = absurd there

-- an attached slot is a reference
attached_reference : (pairs : List (NodeRef × Slot)) (n : NodeRef) → Has pairs (n, slot.Attached) → list_any (same_ref n) (map (λ r. r.0) (filter_map reference_of pairs)) ≡ true
attached_reference [] n there = absurd there
attached_reference ((m, slot.Unattached) ∷ rest) n (inl same) = absurd (cc (ap (λ z. z.1) same))
attached_reference ((m, slot.Own) ∷ rest) n (inl same) = absurd (cc (ap (λ z. z.1) same))
attached_reference ((m, slot.Void) ∷ rest) n (inl same) = absurd (cc (ap (λ z. z.1) same))
attached_reference ((m, slot.Attached) ∷ rest) n (inl same) = ap (λ b. b || list_any (same_ref n) (map (λ r. r.0) (filter_map reference_of rest))) (ap (same_ref n) (sym (ap (λ z. z.0) same)) ∙ same_ref_itself n)
attached_reference ((m, slot.Unattached) ∷ rest) n (inr there) = attached_reference rest n there
attached_reference ((m, slot.Own) ∷ rest) n (inr there) = attached_reference rest n there
attached_reference ((m, slot.Void) ∷ rest) n (inr there) = attached_reference rest n there
attached_reference ((m, slot.Attached) ∷ rest) n (inr there) = ap (λ b. same_ref n m || b) (attached_reference rest n there) ∙ or_true (same_ref n m)
  where
    or_true : (b : Bool) → b || true ≡ true
    or_true true = refl
    or_true false = refl

-- a release notice is no destroy notice
ended_plain : (me : ℕ) (n : NodeRef) (g : Key × Entry) (m : ℕ) → is_notice_of me n g.1 ≡ true → is_release_notice m g ≡ false
ended_plain me n (k, Message origin user index dest offset len nodes slots handles payload) m is = refl
ended_plain me n (k, OwnNotice serial index) m is = refl
ended_plain me n (k, ForeignNotice node index) m is = refl
ended_plain me n (k, ReleaseNotice serial) m is = absurd (cc is)

unreleased_keeps : (doomed : List ℕ) (queue : List (Key × Entry)) (g : Key × Entry) → ((m : ℕ) → is_release_notice m g ≡ false) → Has queue g → Has (unreleased doomed queue) g
unreleased_keeps [] queue g plain there = there
unreleased_keeps (n ∷ rest) queue g plain there = unreleased_keeps rest (without (is_release_notice n) queue) g plain (has_without (is_release_notice n) queue g there (plain n))

-- ---- a peer behind the destruction

-- what is so of it and of the peer before
pub record Behind (y z : Part) : Type 0 where
  pub me : z.me ≡ y.me
  -- no message comes
  pub comes : (f : Key × Entry) → Has z.box f → is_data f.1 ≡ true → Has y.box f
  -- and no destroy notice goes
  pub stays : (n : NodeRef) (g : Key × Entry) → Has y.box g → is_notice_of y.me n g.1 ≡ true → Has z.box g

noticed_still : (y z : Part) → Behind y z → (k : Key) (n : NodeRef) → is_noticed_behind k n y ≡ true → is_noticed_behind k n z ≡ true
noticed_still y z behind k n is =
    let found = any_has (λ g. is_notice_of y.me n g.1 && key_before k g.0) y.box is in
    let both = and_parts (is_notice_of y.me n found.0.1) (key_before k found.0.0) found.2 in
    ap (λ q. list_any (λ g. is_notice_of q n g.1 && key_before k g.0) z.box) behind.me
    ∙ there_any (λ g. is_notice_of y.me n g.1 && key_before k g.0) z.box found.0 (behind.stays n found.0 found.1 both.0) found.2

noticed_by : (z : Part) (k : Key) (n : NodeRef) (g : Key × Entry) → Has z.box g → is_notice_of z.me n g.1 ≡ true → key_before k g.0 ≡ true → is_noticed_behind k n z ≡ true
noticed_by z k n g there notice behind = there_any (λ h. is_notice_of z.me n h.1 && key_before k h.0) z.box g there (and_from (is_notice_of z.me n g.1) (key_before k g.0) notice behind)

module _ {o : Opening} {s : State} {bus : Bus} (sound : IsSound o s) (right : IsRight o s) (rest : AtRest o s bus) (p : ℕ) (x : PeerPart) (d : DriverPart) (is_x : IsPeer s p x) (is_d : IsDriver s p d)
    (doomed : List ℕ) (made : (n : ℕ) → Has doomed n → n < length x.nodes) (live : (n : ℕ) → Has doomed n → is_live (node_at x n).state ≡ true) (apart : Apart doomed) where
  abbrev stamped : ℕ
  stamped = stamp sound right rest p x d is_x is_d doomed made live apart

  abbrev bus_then : Bus
  bus_then = at_peer p (with_all_doomed stamped 0 doomed) (map (with_notices stamped p 0 doomed) bus)

  abbrev owner : Part
  owner = owner_after stamped x d doomed

  me_x : x.me ≡ p
  me_x = (sound.numbered.peers p x is_x).me

  before_owner : (j : ℕ) → AllBefore x.queue (key_at stamped x.me j)
  before_owner j = queue_before sound right rest p x is_x (key_at stamped x.me j) (omega arith)

  here : slice_get bus p ≡ Some (part_of x d)
  here = ap (λ b. slice_get b p) rest.is_bus ∙ part_there s.peers s.drivers p x d is_x is_d

  owner_is : slice_get bus_then p ≡ Some owner
  owner_is =
      read_at p (with_all_doomed stamped 0 doomed) (map (with_notices stamped p 0 doomed) bus) (with_notices stamped p 0 doomed (part_of x d)) (slice_get-map (with_notices stamped p 0 doomed) bus p ∙ ap (option_map (with_notices stamped p 0 doomed)) here)
      ∙ ap (λ v. Some (with_all_doomed stamped 0 doomed v)) (notices_none p stamped doomed 0 (part_of x d) (none_own sound right rest p x d is_x is_d doomed made live))
      ∙ ap Some (own_doomed sound right rest p x d is_x is_d doomed made live apart)

  other_is : (q : ℕ) → q ≢ p → slice_get bus_then q ≡ option_map (with_notices stamped p 0 doomed) (slice_get bus q)
  other_is q other = read_beside p q (with_all_doomed stamped 0 doomed) (map (with_notices stamped p 0 doomed) bus) (λ same. other (sym same)) ∙ slice_get-map (with_notices stamped p 0 doomed) bus q

  -- the owner
  owner_behind : Behind (part_of x d) owner
  owner_behind = record {
    me = refl;
    comes = λ f there data_is. elim (has_append (unreleased doomed x.queue) (notes own_note all_so stamped x.me 0 doomed) f there) [
      | inl old ↦ unreleased_has doomed x.queue f old
      | inr new ↦ let k = notes_has own_note x.me all_so stamped 0 doomed f new in absurd (cc (sym data_is ∙ ap (λ g. is_data g.1) k.is))
    ];
    stays = λ n g there notice. has_left (unreleased doomed x.queue) (notes own_note all_so stamped x.me 0 doomed) g (unreleased_keeps doomed x.queue g (λ m. ended_plain x.me n g m notice) there);
  }

  owner_noticed : (f : Key × Entry) (n : ℕ) → Has x.queue f → Has doomed n → is_noticed_behind f.0 (record { owner = x.me; serial = n }) owner ≡ true
  owner_noticed f n there in_it =
      let note = note_there own_note x.me all_so stamped 0 doomed n in_it refl in
      noticed_by owner f.0 (record { owner = x.me; serial = n }) (key_at stamped x.me note.0, own_note n note.0) (has_right (unreleased doomed x.queue) (notes own_note all_so stamped x.me 0 doomed) (key_at stamped x.me note.0, own_note n note.0) note.1)
      (same_ref_itself (record { owner = x.me; serial = n })) (before_owner note.0 f there)

  -- another peer
  module _ (q : ℕ) (z : PeerPart) (e : DriverPart) (is_z : IsPeer s q z) (is_e : IsDriver s q e) where
    abbrev told : Part
    told = with_notices stamped p 0 doomed (part_of z e)

    told_is : refers_to_doomed p doomed (part_of z e) ≡ true → told ≡ record (part_of z e) { clock = cond (refers_to_doomed p doomed (part_of z e)) stamped z.clock; box = z.queue ++ notes (foreign_note p) (λ n. refers (node_of p n) (part_of z e)) stamped p 0 doomed }
    told_is some = notices_shown p stamped doomed 0 (part_of z e) (queue_before sound right rest q z is_z (key_at stamped p 0) (clock_below sound right rest p x d is_x is_d doomed made live apart q z is_z (list_has sound right rest p x d is_x is_d doomed made live q z e is_z is_e some)))

    none_is : refers_to_doomed p doomed (part_of z e) ≡ false → told ≡ part_of z e
    none_is none = notices_none p stamped doomed 0 (part_of z e) none

    told_nodes : told.nodes ≡ (part_of z e).nodes
    told_nodes = by (refers_to_doomed p doomed (part_of z e)) refl
      where
        by : (b : Bool) → refers_to_doomed p doomed (part_of z e) ≡ b → told.nodes ≡ (part_of z e).nodes
        by true some = ap (λ v. v.nodes) (told_is some)
        by false none = ap (λ v. v.nodes) (none_is none)

    told_behind : Behind (part_of z e) told
    told_behind = by (refers_to_doomed p doomed (part_of z e)) refl
      where
        by : (b : Bool) → refers_to_doomed p doomed (part_of z e) ≡ b → Behind (part_of z e) told
        by false none = subst (Behind (part_of z e)) (sym (none_is none)) (record { me = refl; comes = λ f there data_is. there; stays = λ n g there notice. there })
        by true some = subst (Behind (part_of z e)) (sym (told_is some)) (record {
          me = refl;
          comes = λ f there data_is. elim (has_append z.queue (notes (foreign_note p) (λ n. refers (node_of p n) (part_of z e)) stamped p 0 doomed) f there) [
            | inl old ↦ old
            | inr new ↦ let k = notes_has (foreign_note p) p (λ n. refers (node_of p n) (part_of z e)) stamped 0 doomed f new in absurd (cc (sym data_is ∙ ap (λ g. is_data g.1) k.is))
          ];
          stays = λ n g there notice. has_left z.queue (notes (foreign_note p) (λ n. refers (node_of p n) (part_of z e)) stamped p 0 doomed) g there;
        })

    told_noticed : (f : Key × Entry) (n : ℕ) → Has z.queue f → Has doomed n → refers (node_of p n) (part_of z e) ≡ true → is_noticed_behind f.0 (node_of p n) told ≡ true
    told_noticed f n there in_it its =
        let some : refers_to_doomed p doomed (part_of z e) ≡ true = there_any (λ m. refers (node_of p m) (part_of z e)) doomed n in_it its in
        let less = clock_below sound right rest p x d is_x is_d doomed made live apart q z is_z (list_has sound right rest p x d is_x is_d doomed made live q z e is_z is_e some) in
        let note = note_there (foreign_note p) p (λ m. refers (node_of p m) (part_of z e)) stamped 0 doomed n in_it its in
        ap (is_noticed_behind f.0 (node_of p n)) (told_is some)
        ∙ noticed_by (record (part_of z e) { clock = cond (refers_to_doomed p doomed (part_of z e)) stamped z.clock; box = z.queue ++ notes (foreign_note p) (λ m. refers (node_of p m) (part_of z e)) stamped p 0 doomed })
        f.0 (node_of p n) (key_at stamped p note.0, foreign_note p n note.0) (has_right z.queue (notes (foreign_note p) (λ m. refers (node_of p m) (part_of z e)) stamped p 0 doomed) (key_at stamped p note.0, foreign_note p n note.0) note.1)
        (same_ref_itself (node_of p n)) (queue_before sound right rest q z is_z (key_at stamped p note.0) less f there)

  -- ---- which peer it is

  data Which (q : ℕ) (z : Part) : Type 0 where
    mine : q ≡ p → z ≡ owner → Which q z
    another : q ≢ p → (v : PeerPart) (e : DriverPart) (is_v : IsPeer s q v) (is_e : IsDriver s q e) → z ≡ told q v e is_v is_e → Which q z

  which : (q : ℕ) (z : Part) → slice_get bus_then q ≡ Some z → Which q z
  which q z is = elim (cases_eq q p) [
    | inl same ↦ mine same (same_Some z owner (sym is ∙ ap (slice_get bus_then) same ∙ owner_is))
    | inr other ↦ by other (slice_get bus q) refl (sym (other_is q other) ∙ is)
  ]
    where
      by : q ≢ p → (r : Option Part) → slice_get bus q ≡ r → option_map (with_notices stamped p 0 doomed) r ≡ Some z → Which q z
      by other None none found = absurd (cc found)
      by other (Some y) there found =
          let parts = parts_at s.peers s.drivers q y (ap (λ b. slice_get b q) (sym rest.is_bus) ∙ there) in
          another other parts.0 parts.1 parts.2 parts.3 (sym (same_Some (with_notices stamped p 0 doomed y) z found) ∙ ap (with_notices stamped p 0 doomed) parts.4)

  part_there_then : (q : ℕ) (v : PeerPart) (e : DriverPart) → IsPeer s q v → IsDriver s q e → slice_get bus q ≡ Some (part_of v e)
  part_there_then q v e is_v is_e = ap (λ b. slice_get b q) rest.is_bus ∙ part_there s.peers s.drivers q v e is_v is_e

  -- ---- which nodes are destroyed

  abbrev stamp_by : ℕ → Option Part → Option ℕ
  stamp_by serial r = elim r [ None ↦ None | Some y ↦ destroyed_at y serial ]

  other_stamp : (n : NodeRef) → n.owner ≢ p → destroyed_in bus_then n ≡ destroyed_in bus n
  other_stamp n other = ap (stamp_by n.serial) (other_is n.owner other) ∙ by (slice_get bus n.owner) refl
    where
      by : (r : Option Part) → slice_get bus n.owner ≡ r → stamp_by n.serial (option_map (with_notices stamped p 0 doomed) r) ≡ stamp_by n.serial r
      by None none = refl
      by (Some y) there =
          let parts = parts_at s.peers s.drivers n.owner y (ap (λ b. slice_get b n.owner) (sym rest.is_bus) ∙ there) in
          ap (λ v. stamp_in (with_notices stamped p 0 doomed v).nodes n.serial) parts.4
          ∙ ap (λ nodes. stamp_in nodes n.serial) (told_nodes n.owner parts.0 parts.1 parts.2 parts.3)
          ∙ ap (λ v. stamp_in v.nodes n.serial) (sym parts.4)

  own_stamp : (n : NodeRef) → n.owner ≡ p → destroyed_in bus_then n ≡ stamp_in (all_destroyed stamped doomed (map own_of x.nodes)) n.serial
  own_stamp n own = ap (λ q. stamp_by n.serial (slice_get bus_then q)) own ∙ ap (stamp_by n.serial) owner_is

  own_stamp_before : (n : NodeRef) → n.owner ≡ p → destroyed_in bus n ≡ stamp_in (map own_of x.nodes) n.serial
  own_stamp_before n own = ap (λ q. stamp_by n.serial (slice_get bus q)) own ∙ ap (stamp_by n.serial) here

  dead_before : (n : NodeRef) → is_some (destroyed_in bus_then n) ≡ true → ((n.owner ≡ p) × Has doomed n.serial) ⊎ (is_some (destroyed_in bus n) ≡ true)
  dead_before n dead = elim (cases_eq n.owner p) [ inl own ↦ by own (in_or_not n.serial doomed) | inr other ↦ inr (ap is_some (sym (other_stamp n other)) ∙ dead) ]
    where
      by : n.owner ≡ p → Has doomed n.serial ⊎ (Has doomed n.serial → ⊥) → ((n.owner ≡ p) × Has doomed n.serial) ⊎ (is_some (destroyed_in bus n) ≡ true)
      by own (inl there) = inl (own, there)
      by own (inr none) = inr (ap is_some (own_stamp_before n own ∙ ap (λ r. elim r [ None ↦ None | Some k ↦ k.destroyed ]) (sym (all_other stamped n.serial doomed (map own_of x.nodes) none)) ∙ sym (own_stamp n own)) ∙ dead)

  dead_stays : (n : NodeRef) → is_some (destroyed_in bus n) ≡ true → is_some (destroyed_in bus_then n) ≡ true
  dead_stays n dead = elim (cases_eq n.owner p) [
    | inl own ↦ ap is_some (own_stamp n own) ∙ all_stay stamped n.serial doomed (map own_of x.nodes) (ap is_some (sym (own_stamp_before n own)) ∙ dead)
    | inr other ↦ ap is_some (other_stamp n other) ∙ dead
  ]

  -- ---- the boxes

  old_sent : (q : ℕ) (z : Part) (f : Key × Entry) (serial : ℕ) → Which q z → Has z.box f → sent_to f.1 ≡ Some serial → is_some (destroyed_at z serial) ≡ true → is_noticed_behind f.0 (record { owner = z.me; serial = serial }) z ≡ true
  old_sent q z f serial (mine same is) there to dead =
      ap (λ v. is_noticed_behind f.0 (record { owner = v.me; serial = serial }) v) is
      ∙ by (in_or_not serial doomed)
    where
      old : Has x.queue f
      old = owner_behind.comes f (subst (λ v. Has v.box f) is there) (sent_data f.1 serial to)

      by : Has doomed serial ⊎ (Has doomed serial → ⊥) → is_noticed_behind f.0 (record { owner = x.me; serial = serial }) owner ≡ true
      by (inl in_it) = owner_noticed f serial old in_it
      by (inr none) =
          noticed_still (part_of x d) owner owner_behind f.0 (record { owner = x.me; serial = serial })
          (rest.boxes.sent p (part_of x d) f serial here old to
          (ap (λ r. is_some (elim r [ None ↦ None | Some k ↦ k.destroyed ])) (sym (all_other stamped serial doomed (map own_of x.nodes) none)) ∙ ap (λ v. is_some (destroyed_at v serial)) (sym is) ∙ dead))
  old_sent q z f serial (another other v e is_v is_e is) there to dead =
      let behind = told_behind q v e is_v is_e in
      let old = behind.comes f (subst (λ w. Has w.box f) is there) (sent_data f.1 serial to) in
      let dead_then : is_some (destroyed_at (part_of v e) serial) ≡ true = ap (λ nodes. is_some (stamp_in nodes serial)) (sym (told_nodes q v e is_v is_e)) ∙ ap (λ w. is_some (destroyed_at w serial)) (sym is) ∙ dead in
      ap (λ w. is_noticed_behind f.0 (record { owner = w.me; serial = serial }) w) is
      ∙ ap (λ m. is_noticed_behind f.0 (record { owner = m; serial = serial }) (told q v e is_v is_e)) behind.me
      ∙ noticed_still (part_of v e) (told q v e is_v is_e) behind f.0 (record { owner = v.me; serial = serial }) (rest.boxes.sent q (part_of v e) f serial (part_there_then q v e is_v is_e) old to dead_then)

  -- a slot of a doomed node at another peer is a reference
  refers_by : (q : ℕ) (v : PeerPart) (e : DriverPart) (is_v : IsPeer s q v) (f : Key × Entry) (n : NodeRef) (t : Slot) → q ≢ p → n.owner ≡ p → Has v.queue f → Has (zip (carried f.1) (slots_of f.1)) (n, t) → t ≢ slot.Void → refers n (part_of v e) ≡ true
  refers_by q v e is_v f n t other own there in_it not_void =
      by t in_it not_void (filled_at q (carried f.1) (slots_of f.1) n t (sound.slots.filled q v f is_v there (slot_data f.1 (n, t) in_it) (rest.quiet.committed q v f is_v there)) in_it)
    where
      or_true : (b : Bool) → b || true ≡ true
      or_true true = refl
      or_true false = refl

      by : (t : Slot) → Has (zip (carried f.1) (slots_of f.1)) (n, t) → t ≢ slot.Void → IsFilled (record { owner = q; serial = 0 }) n t → refers n (part_of v e) ≡ true
      by slot.Unattached in_it not_void filled = absurd filled
      by slot.Void in_it not_void filled = absurd (not_void refl)
      by slot.Own in_it not_void filled = absurd (other (sym filled ∙ own))
      by slot.Attached in_it not_void filled =
          ap (λ b. is_some (line_of n (part_of v e).lines) || b) (there_any (has_slot n) v.queue f there (attached_reference (zip (carried f.1) (slots_of f.1)) n in_it))
          ∙ or_true (is_some (line_of n (part_of v e).lines))

  old_filled : (q : ℕ) (z : Part) (f : Key × Entry) (c : NodeRef × Slot) → Which q z → Has z.box f → Has (zip (carried f.1) (slots_of f.1)) c → c.1 ≢ slot.Void → is_some (destroyed_in bus_then c.0) ≡ true → is_noticed_behind f.0 c.0 z ≡ true
  old_filled q z f c (mine same is) there in_it not_void dead = ap (is_noticed_behind f.0 c.0) is ∙ by (dead_before c.0 dead)
    where
      old : Has x.queue f
      old = owner_behind.comes f (subst (λ v. Has v.box f) is there) (slot_data f.1 c in_it)

      by : ((c.0.owner ≡ p) × Has doomed c.0.serial) ⊎ (is_some (destroyed_in bus c.0) ≡ true) → is_noticed_behind f.0 c.0 owner ≡ true
      by (inl new) = ap (λ n. is_noticed_behind f.0 (record { owner = n; serial = c.0.serial }) owner) (new.0 ∙ sym me_x) ∙ owner_noticed f c.0.serial old new.1
      by (inr before) = noticed_still (part_of x d) owner owner_behind f.0 c.0 (rest.boxes.filled p (part_of x d) f c here old in_it not_void before)
  old_filled q z f c (another other v e is_v is_e is) there in_it not_void dead = ap (is_noticed_behind f.0 c.0) is ∙ by (dead_before c.0 dead)
    where
      behind : Behind (part_of v e) (told q v e is_v is_e)
      behind = told_behind q v e is_v is_e

      old : Has v.queue f
      old = behind.comes f (subst (λ w. Has w.box f) is there) (slot_data f.1 c in_it)

      by : ((c.0.owner ≡ p) × Has doomed c.0.serial) ⊎ (is_some (destroyed_in bus c.0) ≡ true) → is_noticed_behind f.0 c.0 (told q v e is_v is_e) ≡ true
      by (inl new) =
          ap (λ n. is_noticed_behind f.0 (record { owner = n; serial = c.0.serial }) (told q v e is_v is_e)) new.0
          ∙ told_noticed q v e is_v is_e f c.0.serial old new.1
          (ap (λ n. refers (record { owner = n; serial = c.0.serial }) (part_of v e)) (sym new.0) ∙ refers_by q v e is_v f c.0 c.1 other new.0 old in_it not_void)
      by (inr before) = noticed_still (part_of v e) (told q v e is_v is_e) behind f.0 c.0 (rest.boxes.filled q (part_of v e) f c (part_there_then q v e is_v is_e) old in_it not_void before)

  old_void : (q : ℕ) (z : Part) (f : Key × Entry) (c : NodeRef × Slot) → Which q z → Has z.box f → Has (zip (carried f.1) (slots_of f.1)) c → c.1 ≡ slot.Void → is_some (destroyed_in bus_then c.0) ≡ true
  old_void q z f c (mine same is) there in_it is_void =
      dead_stays c.0 (rest.boxes.void p (part_of x d) f c here (owner_behind.comes f (subst (λ v. Has v.box f) is there) (slot_data f.1 c in_it)) in_it is_void)
  old_void q z f c (another other v e is_v is_e is) there in_it is_void =
      dead_stays c.0 (rest.boxes.void q (part_of v e) f c (part_there_then q v e is_v is_e) ((told_behind q v e is_v is_e).comes f (subst (λ w. Has w.box f) is there) (slot_data f.1 c in_it)) in_it is_void)

  pub boxes_then : BoxesRight bus_then
  boxes_then = record {
    sent = λ q z f serial is there to dead. old_sent q z f serial (which q z is) there to dead;
    filled = λ q z f c is there in_it not_void dead. old_filled q z f c (which q z is) there in_it not_void dead;
    void = λ q z f c is there in_it is_void. old_void q z f c (which q z is) there in_it is_void;
  }
