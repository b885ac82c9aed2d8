-- A delivered letter, read at each peer of the serial bus.
use Rattle.std.proofs.Common.{◌≡◌, ◌⊎◌, refl, sym, ap, ap₂, ◌∙◌, inl, inr, ℕ, zero, suc, ◌+◌, ◌≤◌, ◌==◌, Bool, true, false, cond, not, List, [], ◌∷◌, ◌++◌, map, fold, Option, Some, None, option_map, is_some, arith}
use Rattle.std.specs.Prelude.{slice_get}
use Rattle.std.proofs.lemmas.Bool.{eq-eqb, ne_eqb, eqb-true, cases_eq}
use Rattle.std.proofs.lemmas.List.{append_assoc, append-nil}
use Rattle.b1_model.specs.declared.naming.Key.{Key}
use Rattle.b1_model.specs.declared.naming.NodeRef.{NodeRef}
use Rattle.b1_model.specs.declared.parts.Slot.{Slot}
use Rattle.b1_model.specs.declared.parts.Slot.TheVariants as slot
use Rattle.b1_model.specs.declared.entries.Entry.{Entry}
use Rattle.b1_model.specs.MachineParts.{Slice, is_release_notice}
use Rattle.b1_model.specs.MachinePool.{taken}
use Rattle.b1_model.specs.MachineTables.{put, without, foreign}
use Rattle.b1_step.specs.Rights.{Has}
use Rattle.b1_serial_bus.specs.Parts.{OwnNode, Part, Bus, at_peer}
use Rattle.b1_serial_bus.specs.Lives.{destroyed_in}
use Rattle.b1_serial_bus.specs.Letters.{Letter, letter_len}
use Rattle.b1_serial_bus.specs.Places.{after_taken}
use Rattle.b1_serial_bus.specs.Delivery.{slot_for, with_message, without_notice, delivered, delivered_from}
use Rattle.b1_serial_send.proofs.Midway.{Answered}
use Rattle.b1_serial_send.proofs.Charges.{count_at}
use Rattle.b1_serial_send.proofs.Keys.{IsLast, put_last, without_has}
use Rattle.b1_serial_send.proofs.Copies.{place_key, copy, copies, next_last, later_last}
use Rattle.b1_serial_send.proofs.Gone.{gone_one, gone, gone_all, gone_append, gone_all_append}

-- ---- a change of one peer, read

pub read_own : (p : ℕ) (g : Part → Part) (bus : Bus) → slice_get (at_peer p g bus) p ≡ option_map g (slice_get bus p)
read_own p g [] = refl
read_own zero g (y ∷ ys) = refl
read_own (suc p) g (y ∷ ys) = read_own p g ys

pub read_else : (p q : ℕ) (g : Part → Part) (bus : Bus) → (p ≡ q → ⊥) → slice_get (at_peer p g bus) q ≡ slice_get bus q
read_else p q g [] apart = refl
read_else zero zero g (y ∷ ys) apart = absurd (apart refl)
read_else zero (suc q) g (y ∷ ys) apart = refl
read_else (suc p) zero g (y ∷ ys) apart = refl
read_else (suc p) (suc q) g (y ∷ ys) apart = read_else p q g ys (λ e. apart (ap suc e))

pub read_change : (p q : ℕ) (g : Part → Part) (bus : Bus) (y : Part) → slice_get bus q ≡ Some y → slice_get (at_peer p g bus) q ≡ Some (cond (p == q) (g y) y)
read_change p q g bus y there = by (cases_eq p q)
  where
    by : (p ≡ q) ⊎ (p ≡ q → ⊥) → slice_get (at_peer p g bus) q ≡ Some (cond (p == q) (g y) y)
    by (inl same) =
        ap (λ k. slice_get (at_peer k g bus) q) same ∙ read_own q g bus ∙ ap (option_map g) there
        ∙ sym (ap (λ b. Some (cond b (g y) y)) (eq-eqb p q same))
    by (inr apart) = read_else p q g bus apart ∙ there ∙ sym (ap (λ b. Some (cond b (g y) y)) (ne_eqb p q apart))

abbrev stamp_read : NodeRef → Option Part → Option ℕ
stamp_read x r = elim r [ None ↦ None | Some y ↦ elim (slice_get y.nodes x.serial) [ None ↦ None | Some n ↦ n.destroyed ] ]

-- what leaves nodes destroys none
pub lives_stay : (p : ℕ) (g : Part → Part) (bus : Bus) → ((y : Part) → (g y).nodes ≡ y.nodes) → (x : NodeRef) → destroyed_in (at_peer p g bus) x ≡ destroyed_in bus x
lives_stay p g bus keeps x = by (cases_eq p x.owner)
  where
    own : (r : Option Part) → stamp_read x (option_map g r) ≡ stamp_read x r
    own None = refl
    own (Some y) = ap (λ (nodes : List OwnNode). elim (slice_get nodes x.serial) [ None ↦ None | Some n ↦ n.destroyed ]) (keeps y)

    by : (p ≡ x.owner) ⊎ (p ≡ x.owner → ⊥) → destroyed_in (at_peer p g bus) x ≡ destroyed_in bus x
    by (inl same) = ap (λ k. stamp_read x (slice_get (at_peer k g bus) x.owner)) same ∙ ap (stamp_read x) (read_own x.owner g bus) ∙ own (slice_get bus x.owner)
    by (inr apart) = ap (stamp_read x) (read_else p x.owner g bus apart)

-- ---- release notices

pub gone_one_has : (q dest : ℕ) (node : NodeRef) (queue : List (Key × Entry)) (f : Key × Entry) → Has (gone_one q dest node queue) f → Has queue f
gone_one_has q dest node queue f there = by (node.owner == q) (node.owner == dest) there
  where
    by : (a b : Bool) → Has (cond a (cond b queue (without (is_release_notice node.serial) queue)) queue) f → Has queue f
    by true true in_it = in_it
    by true false in_it = without_has (is_release_notice node.serial) queue f in_it
    by false b in_it = in_it

pub gone_has : (q dest : ℕ) (nodes : List NodeRef) (queue : List (Key × Entry)) (f : Key × Entry) → Has (gone q dest nodes queue) f → Has queue f
gone_has q dest [] queue f there = there
gone_has q dest (n ∷ rest) queue f there = gone_one_has q dest n queue f (gone_has q dest rest (gone_one q dest n queue) f there)

pub gone_all_has : (q : ℕ) (nodes : List NodeRef) (ds : Answered) (queue : List (Key × Entry)) (f : Key × Entry) → Has (gone_all q nodes ds queue) f → Has queue f
gone_all_has q nodes [] queue f there = there
gone_all_has q nodes ((to, Some r) ∷ rest) queue f there = gone_all_has q nodes rest queue f there
gone_all_has q nodes ((to, None) ∷ rest) queue f there = gone_has q to.owner nodes queue f (gone_all_has q nodes rest (gone q to.owner nodes queue) f there)

notices_lives : (dest : ℕ) (nodes : List NodeRef) (bus : Bus) (x : NodeRef) → destroyed_in (fold without_notice bus (foreign dest nodes)) x ≡ destroyed_in bus x
notices_lives dest [] bus x = refl
notices_lives dest (n ∷ rest) bus x = by (not (n.owner == dest)) (λ b. notices_lives dest rest b x)
  where
    by : (v : Bool) → ((b : Bus) → destroyed_in (fold without_notice b (foreign dest rest)) x ≡ destroyed_in b x) → destroyed_in (fold without_notice bus (cond v (n ∷ foreign dest rest) (foreign dest rest))) x ≡ destroyed_in bus x
    by true further = further (without_notice bus n) ∙ lives_stay n.owner (λ y. record y { box = without (is_release_notice n.serial) y.box }) bus (λ y. refl) x
    by false further = further bus

-- the notices of the carried nodes leave a box
notices_read : (q dest : ℕ) (nodes : List NodeRef) (bus : Bus) (y : Part) → slice_get bus q ≡ Some y → slice_get (fold without_notice bus (foreign dest nodes)) q ≡ Some (record y { box = gone q dest nodes y.box })
notices_read q dest [] bus y there = there
notices_read q dest (n ∷ rest) bus y there = by (n.owner == dest) refl (notices_read q dest rest)
  where
    taken_out : Part → Part
    taken_out z = record z { box = without (is_release_notice n.serial) z.box }

    moved : (a : Bool) → ◌≡◌ {A = Part} (cond a (record y { box = without (is_release_notice n.serial) y.box }) y) (record y { box = cond a (without (is_release_notice n.serial) y.box) y.box })
    moved true = refl
    moved false = refl

    kept : (a : Bool) → cond a y.box y.box ≡ y.box
    kept true = refl
    kept false = refl

    by : (b : Bool) → n.owner == dest ≡ b → ((b : Bus) (z : Part) → slice_get b q ≡ Some z → slice_get (fold without_notice b (foreign dest rest)) q ≡ Some (record z { box = gone q dest rest z.box }))
        → slice_get (fold without_notice bus (cond (not b) (n ∷ foreign dest rest) (foreign dest rest))) q ≡ Some (record y { box = gone q dest rest (cond (n.owner == q) (cond b y.box (without (is_release_notice n.serial) y.box)) y.box) })
    by true same further = further bus y there ∙ ap (λ zs. Some (record y { box = gone q dest rest zs })) (sym (kept (n.owner == q)))
    by false apart further =
        further (without_notice bus n) (record y { box = cond (n.owner == q) (without (is_release_notice n.serial) y.box) y.box })
        (read_change n.owner q (λ z. record z { box = without (is_release_notice n.serial) z.box }) bus y there ∙ ap Some (moved (n.owner == q)))

-- ---- the letter

-- the clock of a peer behind some destinations
abbrev pub clock_after : ℕ → ℕ → Answered → ℕ → ℕ
clock_after q stamp [] k = k
clock_after q stamp ((to, Some r) ∷ rest) k = clock_after q stamp rest k
clock_after q stamp ((to, None) ∷ rest) k = clock_after q stamp rest (cond (to.owner == q) stamp k)

-- a peer with another clock, other slices and another box
abbrev pub with_three : Part → ℕ → List Slice → List (Key × Entry) → Part
with_three y k slices box = record y { clock = k; slices = slices; box = box }

module _ (s : Letter) (stamp : ℕ) (whole : Bus) (q : ℕ) where
  -- the slots of a message for the peer
  abbrev pub slots_here : List Slot
  slots_here = map (slot_for whole q) s.with

  slots_same : (bus : Bus) → ((x : NodeRef) → destroyed_in bus x ≡ destroyed_in whole x) → (nodes : List NodeRef) → map (slot_for bus q) nodes ≡ map (slot_for whole q) nodes
  slots_same bus same [] = refl
  slots_same bus same (n ∷ rest) = ap₂ (λ r zs. cond (is_some r) slot.Void (cond (n.owner == q) slot.Own slot.Attached) ∷ zs) (same n) (slots_same bus same rest)

  delivered_lives : (place : ℕ) (to : NodeRef) (bus : Bus) (x : NodeRef) → destroyed_in (delivered s stamp place to bus) x ≡ destroyed_in bus x
  delivered_lives place to bus x = notices_lives to.owner s.with (at_peer to.owner (with_message bus s stamp place to) bus) x ∙ lives_stay to.owner (with_message bus s stamp place to) bus (λ y. refl) x

  pub delivered_from_lives : (ds : Answered) (place : ℕ) (bus : Bus) (x : NodeRef) → destroyed_in (delivered_from s stamp place ds bus) x ≡ destroyed_in bus x
  delivered_from_lives [] place bus x = refl
  delivered_from_lives ((to, Some r) ∷ rest) place bus x = delivered_from_lives rest (place + 1) bus x
  delivered_from_lives ((to, None) ∷ rest) place bus x = delivered_from_lives rest (place + 1) (delivered s stamp place to bus) x ∙ delivered_lives place to bus x

  -- a peer behind the letter's delivery to some destinations
  abbrev pub behind : ℕ → Answered → Part → Part
  behind place ds y = with_three y (clock_after q stamp ds y.clock) (after_taken (letter_len s) (count_at q ds) y.slices) (gone_all q s.with ds y.box ++ copies s q stamp slots_here place y.slices ds)

  gone_last : (k : Key) (dest : ℕ) (nodes : List NodeRef) (queue : List (Key × Entry)) → IsLast k queue → IsLast k (gone q dest nodes queue)
  gone_last k dest nodes queue last f there = last f (gone_has q dest nodes queue f there)

  pub delivered_read : (ds : Answered) (place : ℕ) (bus : Bus) (y : Part) → slice_get bus q ≡ Some y → ((x : NodeRef) → destroyed_in bus x ≡ destroyed_in whole x) → (1 ≤ count_at q ds → IsLast (place_key s stamp place) y.box)
      → slice_get (delivered_from s stamp place ds bus) q ≡ Some (behind place ds y)
  delivered_read [] place bus y there same last = there ∙ ap (λ zs. Some (with_three y y.clock y.slices zs)) (sym (append-nil y.box))
  delivered_read ((to, Some r) ∷ rest) place bus y there same last = delivered_read rest (place + 1) bus y there same (λ some. later_last s stamp place y.box (last some))
  delivered_read ((to, None) ∷ rest) place bus y there same last = by (to.owner == q) refl last (delivered_read rest (place + 1))
    where
      one : Key × Entry
      one = copy s stamp slots_here place to y.slices

      -- the message in its box
      boxed : to.owner == q ≡ true → IsLast (place_key s stamp place) y.box → with_message bus s stamp place to y ≡ with_three y stamp (taken (letter_len s) y.slices) (y.box ++ one ∷ [])
      boxed own is_last =
          ap (λ k. with_three y stamp (taken (letter_len s) y.slices) (put (place_key s stamp place) (entry (map (slot_for bus k) s.with)) y.box)) (eqb-true to.owner q own)
          ∙ ap (λ sl. with_three y stamp (taken (letter_len s) y.slices) (put (place_key s stamp place) (entry sl) y.box)) (slots_same bus same s.with)
          ∙ ap (λ zs. with_three y stamp (taken (letter_len s) y.slices) zs) (put_last (place_key s stamp place) one.1 y.box is_last)
        where
          entry : List Slot → Entry
          entry sl = (copy s stamp sl place to y.slices).1

      no_release : (serial : ℕ) (f : Key × Entry) → Has (one ∷ []) f → is_release_notice serial f ≡ false
      no_release serial f (inl is) = ap (is_release_notice serial) is
      no_release serial f (inr none) = absurd none

      then : Bus
      then = at_peer to.owner (with_message bus s stamp place to) bus

      same_then : (x : NodeRef) → destroyed_in (delivered s stamp place to bus) x ≡ destroyed_in whole x
      same_then x = delivered_lives place to bus x ∙ same x

      Further : Type 0
      Further = (b : Bus) (z : Part) → slice_get b q ≡ Some z → ((x : NodeRef) → destroyed_in b x ≡ destroyed_in whole x) → (1 ≤ count_at q rest → IsLast (place_key s stamp (place + 1)) z.box) → slice_get (delivered_from s stamp (place + 1) rest b) q ≡ Some (behind (place + 1) rest z)

      by : (b : Bool) → to.owner == q ≡ b → (1 ≤ cond b (suc (count_at q rest)) (count_at q rest) → IsLast (place_key s stamp place) y.box) → Further
          → slice_get (delivered_from s stamp (place + 1) rest (delivered s stamp place to bus)) q
          ≡ Some (with_three y (clock_after q stamp rest (cond b stamp y.clock)) (after_taken (letter_len s) (cond b (suc (count_at q rest)) (count_at q rest)) y.slices)
          (gone_all q s.with rest (gone q to.owner s.with y.box) ++ cond b (one ∷ copies s q stamp slots_here (place + 1) (taken (letter_len s) y.slices) rest) (copies s q stamp slots_here (place + 1) y.slices rest)))
      by true own last_if further =
          let is_last : IsLast (place_key s stamp place) y.box = last_if (omega arith) in
          let z = with_three y stamp (taken (letter_len s) y.slices) (gone q to.owner s.with y.box ++ one ∷ []) in
          let is_z : slice_get (delivered s stamp place to bus) q ≡ Some z =
          notices_read q to.owner s.with then (with_three y stamp (taken (letter_len s) y.slices) (y.box ++ one ∷ []))
          (read_change to.owner q (with_message bus s stamp place to) bus y there ∙ ap (λ b. Some (cond b (with_message bus s stamp place to y) y)) own ∙ ap Some (boxed own is_last))
          ∙ ap (λ zs. Some (with_three y stamp (taken (letter_len s) y.slices) zs)) (gone_append q to.owner s.with y.box (one ∷ []) no_release) in
          further (delivered s stamp place to bus) z is_z same_then
          (λ some. next_last s stamp place one.1 (gone q to.owner s.with y.box) (gone_last (place_key s stamp place) to.owner s.with y.box is_last))
          ∙ ap (λ zs. Some (with_three y (clock_after q stamp rest stamp) (after_taken (letter_len s) (count_at q rest) (taken (letter_len s) y.slices)) zs))
          (ap (λ zs. zs ++ copies s q stamp slots_here (place + 1) (taken (letter_len s) y.slices) rest) (gone_all_append q s.with rest (gone q to.owner s.with y.box) (one ∷ []) no_release)
          ∙ append_assoc (gone_all q s.with rest (gone q to.owner s.with y.box)) (one ∷ []) (copies s q stamp slots_here (place + 1) (taken (letter_len s) y.slices) rest))
      by false other last_if further =
          further (delivered s stamp place to bus) (record y { box = gone q to.owner s.with y.box })
          (notices_read q to.owner s.with then y (read_change to.owner q (with_message bus s stamp place to) bus y there ∙ ap (λ b. Some (cond b (with_message bus s stamp place to y) y)) other))
          same_then (λ some. later_last s stamp place (gone q to.owner s.with y.box) (gone_last (place_key s stamp place) to.owner s.with y.box (last_if some)))
