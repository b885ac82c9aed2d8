-- The boxes of the serial bus stay right through a SEND.
use Rattle.std.proofs.Common.{◌≡◌, ◌≢◌, ◌⊎◌, refl, sym, ap, ◌∙◌, subst, inl, inr, ℕ, zero, suc, ◌+◌, ◌≤◌, ◌==◌, ◌&&◌, ◌||◌, Bool, true, false, cond, not, List, [], ◌∷◌, ◌++◌, map, fold, filter, length, zip, Option, Some, None, is_some, arith}
use Rattle.std.specs.Prelude.{slice_get}
use Rattle.std.specs.Bool.{then_some}
use Rattle.std.specs.List.{list_any}
use Rattle.std.proofs.lemmas.Bool.{eqb-true, and_parts}
use Rattle.std.proofs.lemmas.List.{length-append, append_assoc}
use Rattle.std.proofs.lemmas.Option.{same_Some}
use Rattle.b1_model.specs.declared.naming.Key.{Key}
use Rattle.b1_model.specs.declared.naming.NodeRef.{NodeRef}
use Rattle.b1_model.specs.declared.parts.Slot.{Slot}
use Rattle.b1_model.specs.declared.parts.Slot.TheVariants as slot
use Rattle.b1_model.specs.declared.entries.Entry.{Entry}
use Rattle.b1_model.specs.declared.entries.Entry.TheVariants as entry
use Rattle.b1_model.specs.declared.answers.Reason.{Reason}
use Rattle.b1_model.specs.declared.answers.Reason.TheVariants as reason
use Rattle.b1_model.specs.Names.{is_own}
use Rattle.b1_model.specs.MachineParts.{Slice, key_before, is_release_notice, carried, slots_of}
use Rattle.b1_model.specs.MachinePool.{taken}
use Rattle.b1_model.specs.MachineTables.{without}
use Rattle.b1_model.specs.MachineSend.{first_reason}
use Rattle.b1_step.specs.Rights.{Has}
use Rattle.b1_step.proofs.Lists.{has_filter, has_append, has_left}
use Rattle.b1_serial_bus.specs.Parts.{OwnNode, Part, Bus, at_peer}
use Rattle.b1_serial_bus.specs.Named.{serial_of, with_made, making}
use Rattle.b1_serial_bus.specs.Lives.{destroyed_at, destroyed_in}
use Rattle.b1_serial_bus.specs.Letters.{Letter, Places, letter_len, accepted_by}
use Rattle.b1_serial_bus.specs.Places.{place_reasons, answer_of, answered}
use Rattle.b1_serial_bus.specs.Delivery.{slot_for, delivered_from}
use Rattle.b1_serial_rest.specs.Rest.{sent_to, is_notice_of, is_noticed_behind, BoxesRight}
use Rattle.b1_serial_send.proofs.Midway.{Answered}
use Rattle.b1_serial_send.proofs.Lists.{zip_more, read_middle}
use Rattle.b1_serial_send.proofs.Charges.{count_at}
use Rattle.b1_serial_send.proofs.Keys.{IsLast}
use Rattle.b1_serial_send.proofs.Copies.{place_key, copy, copies}
use Rattle.b1_serial_send.proofs.Gone.{gone_one, gone, gone_all}
use Rattle.b1_serial_send.proofs.Delivered.{read_change, gone_all_has, slots_here, behind, delivered_read, delivered_from_lives}
use Rattle.b1_serial_send.proofs.Ending.{at_none, delivered_none}

-- ---- boxes by where their entries are from

-- a new entry is to a node that isn't destroyed, its void slots are of destroyed nodes, and its other ones aren't
pub record IsNew (bus : Bus) (y : Part) (f : Key × Entry) : Type 0 where
  pub sent : (serial : ℕ) → sent_to f.1 ≡ Some serial → is_some (destroyed_at y serial) ≡ false
  pub filled : (c : NodeRef × Slot) → Has (zip (carried f.1) (slots_of f.1)) c → c.1 ≢ slot.Void → is_some (destroyed_in bus c.0) ≡ false
  pub void : (c : NodeRef × Slot) → Has (zip (carried f.1) (slots_of f.1)) c → c.1 ≡ slot.Void → is_some (destroyed_in bus c.0) ≡ true

-- a peer was one with the same nodes, and with the same notices in its box; each entry was there, or is new
pub record IsFrom (before after : Bus) (q : ℕ) (z : Part) : Type 0 where
  pub was : Part
  pub there : slice_get before q ≡ Some was
  pub me : z.me ≡ was.me
  pub lives : (serial : ℕ) → destroyed_at z serial ≡ destroyed_at was serial
  pub entries : (f : Key × Entry) → Has z.box f → Has was.box f ⊎ IsNew after z f
  pub notices : (k : Key) (x : NodeRef) → is_noticed_behind k x was ≡ true → is_noticed_behind k x z ≡ true

clash : {A : Type 0} (b : Bool) → b ≡ true → b ≡ false → A
clash b one two = absurd (cc (sym one ∙ two))

pub boxes_from : (before after : Bus) → BoxesRight before → ((x : NodeRef) → destroyed_in after x ≡ destroyed_in before x) → ((q : ℕ) (z : Part) → slice_get after q ≡ Some z → IsFrom before after q z) → BoxesRight after
boxes_from before after right same from = record { sent = sent; filled = filled; void = void }
  where
    sent : (q : ℕ) (z : Part) (f : Key × Entry) (serial : ℕ) → slice_get after q ≡ Some z → Has z.box f → sent_to f.1 ≡ Some serial → is_some (destroyed_at z serial) ≡ true → is_noticed_behind f.0 (record { owner = z.me; serial = serial }) z ≡ true
    sent q z f serial is there to dead = by (k.entries f there)
      where
        k : IsFrom before after q z
        k = from q z is

        by : Has k.was.box f ⊎ IsNew after z f → is_noticed_behind f.0 (record { owner = z.me; serial = serial }) z ≡ true
        by (inl old) =
            k.notices f.0 (record { owner = z.me; serial = serial })
            (ap (λ me. is_noticed_behind f.0 (record { owner = me; serial = serial }) k.was) k.me
            ∙ right.sent q k.was f serial k.there old to (ap is_some (sym (k.lives serial)) ∙ dead))
        by (inr new) = clash (is_some (destroyed_at z serial)) dead (new.sent serial to)

    filled : (q : ℕ) (z : Part) (f : Key × Entry) (c : NodeRef × Slot) → slice_get after q ≡ Some z → Has z.box f → Has (zip (carried f.1) (slots_of f.1)) c → c.1 ≢ slot.Void → is_some (destroyed_in after c.0) ≡ true → is_noticed_behind f.0 c.0 z ≡ true
    filled q z f c is there in_it not_void dead = by (k.entries f there)
      where
        k : IsFrom before after q z
        k = from q z is

        by : Has k.was.box f ⊎ IsNew after z f → is_noticed_behind f.0 c.0 z ≡ true
        by (inl old) = k.notices f.0 c.0 (right.filled q k.was f c k.there old in_it not_void (ap is_some (sym (same c.0)) ∙ dead))
        by (inr new) = clash (is_some (destroyed_in after c.0)) dead (new.filled c in_it not_void)

    void : (q : ℕ) (z : Part) (f : Key × Entry) (c : NodeRef × Slot) → slice_get after q ≡ Some z → Has z.box f → Has (zip (carried f.1) (slots_of f.1)) c → c.1 ≡ slot.Void → is_some (destroyed_in after c.0) ≡ true
    void q z f c is there in_it is_void = by (k.entries f there)
      where
        k : IsFrom before after q z
        k = from q z is

        by : Has k.was.box f ⊎ IsNew after z f → is_some (destroyed_in after c.0) ≡ true
        by (inl old) = ap is_some (same c.0) ∙ right.void q k.was f c k.there old in_it is_void
        by (inr new) = new.void c in_it is_void

-- ---- nodes that are made

abbrev stamp_read : Option OwnNode → Option ℕ
stamp_read r = elim r [ None ↦ None | Some n ↦ n.destroyed ]

one_made : (nodes : List OwnNode) (number serial : ℕ) → stamp_read (slice_get (nodes ++ record { number = number; destroyed = None } ∷ []) serial) ≡ stamp_read (slice_get nodes serial)
one_made [] number zero = refl
one_made [] number (suc serial) = refl
one_made (n ∷ rest) number zero = refl
one_made (n ∷ rest) number (suc serial) = one_made rest number serial

made_lives : (numbers : List ℕ) (nodes : List OwnNode) (serial : ℕ) → stamp_read (slice_get (fold with_made nodes numbers) serial) ≡ stamp_read (slice_get nodes serial)
made_lives [] nodes serial = refl
made_lives (number ∷ rest) nodes serial = made_lives rest (with_made nodes number) serial ∙ by (serial_of number nodes)
  where
    by : (r : Option ℕ) → stamp_read (slice_get (elim r [ None ↦ nodes ++ record { number = number; destroyed = None } ∷ [] | Some one ↦ nodes ]) serial) ≡ stamp_read (slice_get nodes serial)
    by None = one_made nodes number serial
    by (Some one) = refl

pub making_lives : (numbers : List ℕ) (y : Part) (serial : ℕ) → destroyed_at (making numbers y) serial ≡ destroyed_at y serial
making_lives numbers y serial = made_lives (filter is_own numbers) y.nodes serial

-- ---- a change of one peer

-- what was at a peer before a change of one
pub was_there : (p q : ℕ) (g : Part → Part) (bus : Bus) (z : Part) → slice_get (at_peer p g bus) q ≡ Some z → (y : Part) × (slice_get bus q ≡ Some y) × (z ≡ cond (p == q) (g y) y)
was_there p q g bus z is = by (slice_get bus q) refl
  where
    by : (r : Option Part) → slice_get bus q ≡ r → (y : Part) × (slice_get bus q ≡ Some y) × (z ≡ cond (p == q) (g y) y)
    by None none = absurd (cc (sym (at_none p q g bus none) ∙ is))
    by (Some y) there = (y, there, same_Some z (cond (p == q) (g y) y) (sym is ∙ read_change p q g bus y there))

lives_read : (r : Option Part) → NodeRef → Option ℕ
lives_read r x = elim r [ None ↦ None | Some y ↦ destroyed_at y x.serial ]

-- the boxes stay right where a peer makes nodes
pub making_boxes : (p : ℕ) (numbers : List ℕ) (bus : Bus) → BoxesRight bus → BoxesRight (at_peer p (making numbers) bus)
making_boxes p numbers bus right = boxes_from bus (at_peer p (making numbers) bus) right lives from
  where
    kept : (b : Bool) (y : Part) (serial : ℕ) → destroyed_at (cond b (making numbers y) y) serial ≡ destroyed_at y serial
    kept true y serial = making_lives numbers y serial
    kept false y serial = refl

    by_option : (x : NodeRef) (r : Option Part) → slice_get bus x.owner ≡ r → destroyed_in (at_peer p (making numbers) bus) x ≡ destroyed_in bus x
    by_option x None none = ap (λ r. elim r [ None ↦ None | Some y ↦ destroyed_at y x.serial ]) (at_none p x.owner (making numbers) bus none ∙ sym none)
    by_option x (Some y) there =
        ap (λ r. elim r [ None ↦ None | Some z ↦ destroyed_at z x.serial ]) (read_change p x.owner (making numbers) bus y there)
        ∙ kept (p == x.owner) y x.serial
        ∙ sym (ap (λ r. elim r [ None ↦ None | Some z ↦ destroyed_at z x.serial ]) there)

    lives : (x : NodeRef) → destroyed_in (at_peer p (making numbers) bus) x ≡ destroyed_in bus x
    lives x = by_option x (slice_get bus x.owner) refl

    me_kept : (b : Bool) (y : Part) → (cond b (making numbers y) y).me ≡ y.me
    me_kept true y = refl
    me_kept false y = refl

    box_kept : (b : Bool) (y : Part) → (cond b (making numbers y) y).box ≡ y.box
    box_kept true y = refl
    box_kept false y = refl

    notices_kept : (b : Bool) (y : Part) (k : Key) (x : NodeRef) → is_noticed_behind k x y ≡ is_noticed_behind k x (cond b (making numbers y) y)
    notices_kept true y k x = refl
    notices_kept false y k x = refl

    from : (q : ℕ) (z : Part) → slice_get (at_peer p (making numbers) bus) q ≡ Some z → IsFrom bus (at_peer p (making numbers) bus) q z
    from q z is =
        let y = was_there p q (making numbers) bus z is in
        record {
          was = y.0;
          there = y.1;
          me = ap (λ v. v.me) y.2 ∙ me_kept (p == q) y.0;
          lives = λ serial. ap (λ v. destroyed_at v serial) y.2 ∙ kept (p == q) y.0 serial;
          entries = λ f in_it. inl (subst (λ zs. Has zs f) (ap (λ v. v.box) y.2 ∙ box_kept (p == q) y.0) in_it);
          notices = λ k x noticed. ap (is_noticed_behind k x) y.2 ∙ sym (notices_kept (p == q) y.0 k x) ∙ noticed;
        }

-- ---- a letter

-- each message of a letter is to one that accepted it
copies_from : (s : Letter) (q stamp : ℕ) (slots : List Slot) (place : ℕ) (slices : List Slice) (ds : Answered) (f : Key × Entry) → Has (copies s q stamp slots place slices ds) f
    → (i : ℕ) × (to : NodeRef) × (sl : List Slice) × Has ds (to, None) × (to.owner ≡ q) × (f ≡ copy s stamp slots i to sl)
copies_from s q stamp slots place slices [] f there = absurd there
copies_from s q stamp slots place slices ((to, Some r) ∷ rest) f there = let k = copies_from s q stamp slots (place + 1) slices rest f there in (k.0, k.1, k.2, inr k.3, k.4, k.5)
copies_from s q stamp slots place slices ((to, None) ∷ rest) f there = by (to.owner == q) refl (λ sl. copies_from s q stamp slots (place + 1) sl rest f) there
  where
    Found : Answered → Type 0
    Found zs = (i : ℕ) × (t : NodeRef) × (sl : List Slice) × Has zs (t, None) × (t.owner ≡ q) × (f ≡ copy s stamp slots i t sl)

    later : Found rest → Found ((to, None) ∷ rest)
    later k = (k.0, k.1, k.2, inr k.3, k.4, k.5)

    by : (b : Bool) → to.owner == q ≡ b → ((sl : List Slice) → Has (copies s q stamp slots (place + 1) sl rest) f → Found rest)
        → Has (cond b (copy s stamp slots place to slices ∷ copies s q stamp slots (place + 1) (taken (letter_len s) slices) rest) (copies s q stamp slots (place + 1) slices rest)) f → Found ((to, None) ∷ rest)
    by true own further (inl same) = (place, to, slices, inl refl, eqb-true to.owner q own, same)
    by true own further (inr in_it) = later (further (taken (letter_len s) slices) in_it)
    by false other further in_it = later (further slices in_it)

-- a destination that accepted the letter isn't destroyed
abbrev pub AreAlive : Bus → Answered → Type 0
AreAlive bus ds = (to : NodeRef) → Has ds (to, None) → is_some (destroyed_in bus to) ≡ false

alive_by : (bus : Bus) (s : Letter) (places : Places) (to : NodeRef) (short : Bool) → answer_of bus s places to short ≡ None → is_some (destroyed_in bus to) ≡ false
alive_by bus s places to short none = by (slice_get bus to.owner) refl
  where
    alive : (y : Part) (b : Bool) → is_some (destroyed_at y to.serial) ≡ b → first_reason (place_reasons s (accepted_by to.owner s places) y to.serial short) ≡ None → is_some (destroyed_at y to.serial) ≡ false
    alive y true dead nothing = absurd (cc (sym (ap (λ v. first_reason (then_some v (reason.Gone y.me to.serial) ∷ rest)) dead) ∙ nothing))
      where
        rest : List (Option Reason)
        rest = elim (place_reasons s (accepted_by to.owner s places) y to.serial short) [ [] ↦ [] | r ∷ more ↦ more ]
    alive y false living nothing = living

    by : (r : Option Part) → slice_get bus to.owner ≡ r → is_some (destroyed_in bus to) ≡ false
    by None missing = ap (λ r. is_some (elim r [ None ↦ None | Some y ↦ destroyed_at y to.serial ])) missing
    by (Some y) there =
        ap (λ r. is_some (elim r [ None ↦ None | Some z ↦ destroyed_at z to.serial ])) there
        ∙ alive y (is_some (destroyed_at y to.serial)) refl (sym (ap (λ r. elim r [ None ↦ None | Some z ↦ first_reason (place_reasons s (accepted_by to.owner s places) z to.serial short) ]) there) ∙ none)

pub answered_alive : (bus : Bus) (s : Letter) (short : Option ℕ → Bool) (rest done : List NodeRef) (places : Places) → s.to ≡ done ++ rest → length done ≡ length places → AreAlive bus (zip s.to places) → AreAlive bus (zip s.to (answered bus s short rest places))
answered_alive bus s short [] done places all count alive = alive
answered_alive bus s short (to ∷ rest) done places all count alive =
    answered_alive bus s short rest (done ++ to ∷ []) (places ++ answer ∷ []) (all ∙ sym (append_assoc done (to ∷ []) rest))
    (let one = length-append done (to ∷ []) in let two = length-append places (answer ∷ []) in omega (arith, one, two, count))
    (λ t there. by t (has_append (zip s.to places) ((to, answer) ∷ []) (t, None) (subst (λ zs. Has {X = NodeRef × Option Reason} zs (t, None)) (zip_more s.to places to answer is_to) there)))
  where
    answer : Option Reason
    answer = answer_of bus s places to (short (Some (length places)))

    is_to : slice_get s.to (length places) ≡ Some to
    is_to = ap (λ tos. slice_get tos (length places)) all ∙ ap (slice_get (done ++ to ∷ rest)) (sym count) ∙ read_middle done to rest

    by : (t : NodeRef) → Has (zip s.to places) (t, None) ⊎ Has {X = NodeRef × Option Reason} ((to, answer) ∷ []) (t, None) → is_some (destroyed_in bus t) ≡ false
    by t (inl earlier) = alive t earlier
    by t (inr (inl same)) =
        ap (λ z. is_some (destroyed_in bus z)) (ap (λ (z : NodeRef × Option Reason). z.0) same)
        ∙ alive_by bus s places to (short (Some (length places))) (sym (ap (λ (z : NodeRef × Option Reason). z.1) same))
    by t (inr (inr none)) = absurd none

-- ---- notices stay

any_has : (test : Key × Entry → Bool) (xs : List (Key × Entry)) → list_any test xs ≡ true → (f : Key × Entry) × Has xs f × (test f ≡ true)
any_has test [] any = absurd (cc any)
any_has test (x ∷ rest) any = by (test x) refl (any_has test rest) any
  where
    by : (b : Bool) → test x ≡ b → (list_any test rest ≡ true → (f : Key × Entry) × Has rest f × (test f ≡ true)) → b || list_any test rest ≡ true → (f : Key × Entry) × Has (x ∷ rest) f × (test f ≡ true)
    by true is further one = (x, inl refl, is)
    by false is further more = let k = further more in (k.0, inr k.1, k.2)

has_any : (test : Key × Entry → Bool) (xs : List (Key × Entry)) (f : Key × Entry) → Has xs f → test f ≡ true → list_any test xs ≡ true
has_any test [] f there is = absurd there
has_any test (x ∷ rest) f (inl same) is = ap (λ b. b || list_any test rest) (ap test (sym same) ∙ is)
has_any test (x ∷ rest) f (inr there) is = ap (λ b. test x || b) (has_any test rest f there is) ∙ by (test x)
  where
    by : (b : Bool) → b || true ≡ true
    by true = refl
    by false = refl

notice_kept : (me : ℕ) (x : NodeRef) (f : Key × Entry) → is_notice_of me x f.1 ≡ true → (serial : ℕ) → is_release_notice serial f ≡ false
notice_kept me x (k, entry.Message origin user index dest offset len nodes slots handles payload) of serial = refl
notice_kept me x (k, entry.OwnNotice mine index) of serial = refl
notice_kept me x (k, entry.ForeignNotice node index) of serial = refl
notice_kept me x (k, entry.ReleaseNotice mine) of serial = absurd (cc of)

abbrev Stays : Key × Entry → Type 0
Stays f = (serial : ℕ) → is_release_notice serial f ≡ false

gone_one_keeps : (q dest : ℕ) (node : NodeRef) (queue : List (Key × Entry)) (f : Key × Entry) → Stays f → Has queue f → Has (gone_one q dest node queue) f
gone_one_keeps q dest node queue f stays there = by (node.owner == q) (node.owner == dest)
  where
    by : (a b : Bool) → Has (cond a (cond b queue (without (is_release_notice node.serial) queue)) queue) f
    by true true = there
    by true false = has_filter (λ g. not (is_release_notice node.serial g)) queue f there (ap not (stays node.serial))
    by false b = there

gone_keeps : (q dest : ℕ) (nodes : List NodeRef) (queue : List (Key × Entry)) (f : Key × Entry) → Stays f → Has queue f → Has (gone q dest nodes queue) f
gone_keeps q dest [] queue f stays there = there
gone_keeps q dest (n ∷ rest) queue f stays there = gone_keeps q dest rest (gone_one q dest n queue) f stays (gone_one_keeps q dest n queue f stays there)

gone_all_keeps : (q : ℕ) (nodes : List NodeRef) (ds : Answered) (queue : List (Key × Entry)) (f : Key × Entry) → Stays f → Has queue f → Has (gone_all q nodes ds queue) f
gone_all_keeps q nodes [] queue f stays there = there
gone_all_keeps q nodes ((to, Some r) ∷ rest) queue f stays there = gone_all_keeps q nodes rest queue f stays there
gone_all_keeps q nodes ((to, None) ∷ rest) queue f stays there = gone_all_keeps q nodes rest (gone q to.owner nodes queue) f stays (gone_keeps q to.owner nodes queue f stays there)

-- ---- the boxes of a delivered letter

zip_map : (g : NodeRef → Slot) (nodes : List NodeRef) (c : NodeRef × Slot) → Has (zip nodes (map g nodes)) c → c.1 ≡ g c.0
zip_map g [] c there = absurd there
zip_map g (n ∷ rest) c (inl same) = ap (λ (z : NodeRef × Slot). z.1) same ∙ ap g (sym (ap (λ (z : NodeRef × Slot). z.0) same))
zip_map g (n ∷ rest) c (inr there) = zip_map g rest c there

slot_alive : (dead own : Bool) → cond dead slot.Void (cond own slot.Own slot.Attached) ≢ slot.Void → dead ≡ false
slot_alive true own not_void = absurd (not_void refl)
slot_alive false own not_void = refl

slot_dead : (dead own : Bool) → cond dead slot.Void (cond own slot.Own slot.Attached) ≡ slot.Void → dead ≡ true
slot_dead true own is = refl
slot_dead false true is = absurd (cc is)
slot_dead false false is = absurd (cc is)

module _ (s : Letter) (stamp : ℕ) (bus : Bus) (ds : Answered) (right : BoxesRight bus) (alive : AreAlive bus ds)
    (numbered : (q : ℕ) (y : Part) → slice_get bus q ≡ Some y → y.me ≡ q)
    (last : (q : ℕ) (y : Part) → slice_get bus q ≡ Some y → 1 ≤ count_at q ds → IsLast (place_key s stamp 0) y.box) where
  abbrev after : Bus
  after = delivered_from s stamp 0 ds bus

  lives : (x : NodeRef) → destroyed_in after x ≡ destroyed_in bus x
  lives x = delivered_from_lives s stamp bus 0 ds 0 bus x

  new_entry : (q : ℕ) (y : Part) → slice_get bus q ≡ Some y → (f : Key × Entry) → Has (copies s q stamp (slots_here s stamp bus q) 0 y.slices ds) f → IsNew after (behind s stamp bus q 0 ds y) f
  new_entry q y is f there =
      let k = copies_from s q stamp (slots_here s stamp bus q) 0 y.slices ds f there in
      record {
        sent = λ serial to.
            let same : k.1.serial ≡ serial = same_Some k.1.serial serial (ap (λ g. sent_to g.1) (sym k.5) ∙ to) in
            subst (λ n. is_some (destroyed_at y n) ≡ false) same
            (sym (ap (λ r. is_some (elim r [ None ↦ None | Some z ↦ destroyed_at z k.1.serial ])) (ap (slice_get bus) k.4 ∙ is)) ∙ alive k.1 k.3);
        filled = λ c in_it not_void.
            let is_slot = zip_map (slot_for bus q) s.with c (subst (λ g. Has (zip (carried g.1) (slots_of g.1)) c) k.5 in_it) in
            ap is_some (lives c.0) ∙ slot_alive (is_some (destroyed_in bus c.0)) (c.0.owner == q) (λ e. not_void (is_slot ∙ e));
        void = λ c in_it is_void.
            let is_slot = zip_map (slot_for bus q) s.with c (subst (λ g. Has (zip (carried g.1) (slots_of g.1)) c) k.5 in_it) in
            ap is_some (lives c.0) ∙ slot_dead (is_some (destroyed_in bus c.0)) (c.0.owner == q) (sym is_slot ∙ is_void);
      }

  from_behind : (q : ℕ) (y : Part) → slice_get bus q ≡ Some y → IsFrom bus after q (behind s stamp bus q 0 ds y)
  from_behind q y is = record {
    was = y;
    there = is;
    me = refl;
    lives = λ serial. refl;
    entries = λ f there. by f (has_append (gone_all q s.with ds y.box) (copies s q stamp (slots_here s stamp bus q) 0 y.slices ds) f there);
    notices = λ k x noticed.
        let g = any_has (λ f. is_notice_of y.me x f.1 && key_before k f.0) y.box noticed in
        let of = (and_parts (is_notice_of y.me x g.0.1) (key_before k g.0.0) g.2).0 in
        has_any (λ f. is_notice_of y.me x f.1 && key_before k f.0) (gone_all q s.with ds y.box ++ copies s q stamp (slots_here s stamp bus q) 0 y.slices ds) g.0
        (has_left (gone_all q s.with ds y.box) (copies s q stamp (slots_here s stamp bus q) 0 y.slices ds) g.0 (gone_all_keeps q s.with ds y.box g.0 (notice_kept y.me x g.0 of) g.1)) g.2;
  }
    where
      by : (f : Key × Entry) → Has (gone_all q s.with ds y.box) f ⊎ Has (copies s q stamp (slots_here s stamp bus q) 0 y.slices ds) f → Has y.box f ⊎ IsNew after (behind s stamp bus q 0 ds y) f
      by f (inl old) = inl (gone_all_has q s.with ds y.box f old)
      by f (inr new) = inr (new_entry q y is f new)

  -- the boxes behind the letter are right
  pub letter_boxes : BoxesRight after
  letter_boxes = boxes_from bus after right lives (λ q z is. by q z is (slice_get bus q) refl)
    where
      by : (q : ℕ) (z : Part) → slice_get after q ≡ Some z → (r : Option Part) → slice_get bus q ≡ r → IsFrom bus after q z
      by q z is None none = absurd (cc (sym (delivered_none s stamp 0 ds q bus none) ∙ is))
      by q z is (Some y) there =
          subst (IsFrom bus after q) (same_Some (behind s stamp bus q 0 ds y) z (sym (delivered_read s stamp bus q ds 0 bus y there (λ x. refl) (last q y there)) ∙ is))
          (from_behind q y there)
