-- The messages of a letter in one peer's queue: staged, and then committed.
use Rattle.std.proofs.Common.{◌≡◌, ◌⊎◌, refl, sym, ap, ◌∙◌, subst, inl, inr, ℕ, suc, ◌+◌, ◌<◌, ◌≤◌, ◌==◌, ◌&&◌, Bool, true, false, cond, List, [], ◌∷◌, ◌++◌, find, length, Some, None, is_some, arith}
use Rattle.std.proofs.lemmas.Bool.{eq-eqb, ne_eqb, eqb-true, and_right}
use Rattle.std.proofs.lemmas.List.{append_assoc, append-nil}
use Rattle.b1_model.specs.declared.naming.Key.{Key}
use Rattle.b1_model.specs.declared.naming.NodeRef.{NodeRef}
use Rattle.b1_model.specs.declared.parts.Slot.{Slot}
use Rattle.b1_model.specs.declared.entries.Entry.{Entry}
use Rattle.b1_model.specs.declared.entries.Entry.TheVariants.{Message}
use Rattle.b1_model.specs.MachineParts.{PeerPart, Slice, key_before, is_odd}
use Rattle.b1_model.specs.MachinePool.{taken, taken_offset}
use Rattle.b1_model.specs.MachineTables.{put, without, is_stage}
use Rattle.b1_model.specs.MachineSend.{staged, find_stage, committed_by, committed, is_committed}
use Rattle.b1_step.specs.Rights.{Has}
use Rattle.b1_step.proofs.Lists.{has_append}
use Rattle.b1_serial_bus.specs.Letters.{Letter, letter_len}
use Rattle.b1_serial_bus.specs.Places.{after_taken}
use Rattle.b1_serial_send.proofs.Midway.{Answered, over, stage_at, commit_at}
use Rattle.b1_serial_send.proofs.Charges.{count_at}
use Rattle.b1_serial_send.proofs.Attaching.{no_slots}
use Rattle.b1_serial_send.proofs.Keys.{before_stamp, before_index, not_back, not_behind_later, IsLast, put_last, NonePass, find_past, without_one}

-- the key of a place
abbrev pub place_key : Letter → ℕ → ℕ → Key
place_key s stamp place = record { stamp = stamp; origin = s.origin; index = place }

-- the message of a place to a node
abbrev pub copy : Letter → ℕ → List Slot → ℕ → NodeRef → List Slice → Key × Entry
copy s stamp slots place to slices = (place_key s stamp place, Message s.origin s.user place to.serial (taken_offset (letter_len s) slices) (length s.payload) s.with slots [] s.payload)

-- the messages of the accepted places that are a peer's, from a place on
abbrev pub copies : Letter → ℕ → ℕ → List Slot → ℕ → List Slice → Answered → List (Key × Entry)
copies s q stamp slots place slices [] = []
copies s q stamp slots place slices ((to, Some r) ∷ rest) = copies s q stamp slots (place + 1) slices rest
copies s q stamp slots place slices ((to, None) ∷ rest) =
    cond (to.owner == q) (copy s stamp slots place to slices ∷ copies s q stamp slots (place + 1) (taken (letter_len s) slices) rest) (copies s q stamp slots (place + 1) slices rest)

-- what holds of each such message holds of all
pub copies_all : (s : Letter) (q stamp : ℕ) (slots : List Slot) (P : Key × Entry → Type 0) (place : ℕ) (slices : List Slice) (ds : Answered)
    → ((i : ℕ) (to : NodeRef) (sl : List Slice) → place ≤ i → i < place + length ds → P (copy s stamp slots i to sl)) → (f : Key × Entry) → Has (copies s q stamp slots place slices ds) f → P f
copies_all s q stamp slots P place slices [] holds f there = absurd there
copies_all s q stamp slots P place slices ((to, Some r) ∷ rest) holds f there =
    copies_all s q stamp slots P (place + 1) slices rest (λ i t sl low high. holds i t sl (omega (arith, low)) (omega (arith, high))) f there
copies_all s q stamp slots P place slices ((to, None) ∷ rest) holds f there =
    by (to.owner == q) (λ sl. copies_all s q stamp slots P (place + 1) sl rest (λ i t z low high. holds i t z (omega (arith, low)) (omega (arith, high))) f) there
  where
    by : (b : Bool) → ((sl : List Slice) → Has (copies s q stamp slots (place + 1) sl rest) f → P f)
        → Has (cond b (copy s stamp slots place to slices ∷ copies s q stamp slots (place + 1) (taken (letter_len s) slices) rest) (copies s q stamp slots (place + 1) slices rest)) f → P f
    by true further (inl same) = subst P (sym same) (holds place to slices (omega arith) (omega arith))
    by true further (inr in_it) = further (taken (letter_len s) slices) in_it
    by false further in_it = further slices in_it

pub copies_append : (s : Letter) (q stamp : ℕ) (slots : List Slot) (place : ℕ) (slices : List Slice) (ds es : Answered)
    → copies s q stamp slots place slices (ds ++ es) ≡ copies s q stamp slots place slices ds ++ copies s q stamp slots (place + length ds) (after_taken (letter_len s) (count_at q ds) slices) es
copies_append s q stamp slots place slices [] es = ap (λ k. copies s q stamp slots k slices es) (omega arith)
copies_append s q stamp slots place slices ((to, Some r) ∷ rest) es =
    copies_append s q stamp slots (place + 1) slices rest es
    ∙ ap (λ k. copies s q stamp slots (place + 1) slices rest ++ copies s q stamp slots k (after_taken (letter_len s) (count_at q rest) slices) es) (omega arith)
copies_append s q stamp slots place slices ((to, None) ∷ rest) es = by (to.owner == q) (λ sl. copies_append s q stamp slots (place + 1) sl rest es)
  where
    later : (place + 1) + length rest ≡ place + suc (length rest)
    later = omega arith

    by : (b : Bool) → ((sl : List Slice) → copies s q stamp slots (place + 1) sl (rest ++ es) ≡ copies s q stamp slots (place + 1) sl rest ++ copies s q stamp slots ((place + 1) + length rest) (after_taken (letter_len s) (count_at q rest) sl) es)
        → cond b (copy s stamp slots place to slices ∷ copies s q stamp slots (place + 1) (taken (letter_len s) slices) (rest ++ es)) (copies s q stamp slots (place + 1) slices (rest ++ es))
        ≡ cond b (copy s stamp slots place to slices ∷ copies s q stamp slots (place + 1) (taken (letter_len s) slices) rest) (copies s q stamp slots (place + 1) slices rest) ++ copies s q stamp slots (place + suc (length rest)) (after_taken (letter_len s) (cond b (suc (count_at q rest)) (count_at q rest)) slices) es
    by true further =
        ap (λ zs. copy s stamp slots place to slices ∷ zs) (further (taken (letter_len s) slices))
        ∙ ap (λ k. copy s stamp slots place to slices ∷ copies s q stamp slots (place + 1) (taken (letter_len s) slices) rest ++ copies s q stamp slots k (after_taken (letter_len s) (count_at q rest) (taken (letter_len s) slices)) es) later
    by false further = further slices ∙ ap (λ k. copies s q stamp slots (place + 1) slices rest ++ copies s q stamp slots k (after_taken (letter_len s) (count_at q rest) slices) es) later

-- ---- staged

-- the next key comes last where this one did
pub next_last : (s : Letter) (stamp place : ℕ) (e : Entry) (queue : List (Key × Entry)) → IsLast (place_key s stamp place) queue → IsLast (place_key s stamp (place + 1)) (queue ++ (place_key s stamp place, e) ∷ [])
next_last s stamp place e queue last f there = by (has_append queue ((place_key s stamp place, e) ∷ []) f there)
  where
    rises : key_before (place_key s stamp place) (place_key s stamp (place + 1)) ≡ true
    rises = before_index (place_key s stamp place) (place_key s stamp (place + 1)) refl refl (omega arith)

    by : Has queue f ⊎ Has ((place_key s stamp place, e) ∷ []) f → key_before (place_key s stamp (place + 1)) f.0 ≡ false
    by (inl earlier) = not_behind_later (place_key s stamp place) (place_key s stamp (place + 1)) f.0 rises (last f earlier)
    by (inr (inl same)) = ap (λ g. key_before (place_key s stamp (place + 1)) g.0) same ∙ not_back (place_key s stamp place) (place_key s stamp (place + 1)) rises
    by (inr (inr none)) = absurd none

pub later_last : (s : Letter) (stamp place : ℕ) (queue : List (Key × Entry)) → IsLast (place_key s stamp place) queue → IsLast (place_key s stamp (place + 1)) queue
later_last s stamp place queue last f there = not_behind_later (place_key s stamp place) (place_key s stamp (place + 1)) f.0 (before_index (place_key s stamp place) (place_key s stamp (place + 1)) refl refl (omega arith)) (last f there)

pub stages_queue : (s : Letter) (place : ℕ) (ds : Answered) (x : PeerPart) → IsLast (place_key s (x.clock + 1) place) x.queue
    → (over (stage_at s) place ds x).queue ≡ x.queue ++ copies s x.me (x.clock + 1) (no_slots s.with) place x.slices ds
stages_queue s place [] x last = sym (append-nil x.queue)
stages_queue s place ((to, Some r) ∷ rest) x last = stages_queue s (place + 1) rest x (later_last s (x.clock + 1) place x.queue last)
stages_queue s place ((to, None) ∷ rest) x last = by (to.owner == x.me) (stages_queue s (place + 1) rest)
  where
    one : Key × Entry
    one = copy s (x.clock + 1) (no_slots s.with) place to x.slices

    then : PeerPart
    then = staged x s.origin s.user place to.serial s.payload s.with

    put_is : then.queue ≡ x.queue ++ one ∷ []
    put_is = put_last one.0 one.1 x.queue last

    by : (b : Bool) → ((z : PeerPart) → IsLast (place_key s (z.clock + 1) (place + 1)) z.queue → (over (stage_at s) (place + 1) rest z).queue ≡ z.queue ++ copies s z.me (z.clock + 1) (no_slots s.with) (place + 1) z.slices rest)
        → (over (stage_at s) (place + 1) rest (cond b then x)).queue ≡ x.queue ++ cond b (one ∷ copies s x.me (x.clock + 1) (no_slots s.with) (place + 1) (taken (letter_len s) x.slices) rest) (copies s x.me (x.clock + 1) (no_slots s.with) (place + 1) x.slices rest)
    by true further =
        further then (subst (IsLast (place_key s (x.clock + 1) (place + 1))) (sym put_is) (next_last s (x.clock + 1) place one.1 x.queue last))
        ∙ ap (λ zs. zs ++ copies s x.me (x.clock + 1) (no_slots s.with) (place + 1) (taken (letter_len s) x.slices) rest) put_is
        ∙ append_assoc x.queue (one ∷ []) (copies s x.me (x.clock + 1) (no_slots s.with) (place + 1) (taken (letter_len s) x.slices) rest)
    by false further = further x (later_last s (x.clock + 1) place x.queue last)

-- ---- committed

module _ (s : Letter) (stamp final : ℕ) (none : List Slot) (slots : ℕ → List Slot) (odd : is_odd stamp ≡ true) (even : is_odd final ≡ false) (less : stamp < final) where
  -- a staged message is found by its place alone
  stage_itself : (i : ℕ) (to : NodeRef) (sl : List Slice) → is_stage s.origin i (copy s stamp none i to sl) ≡ true
  stage_itself i to sl = ap (λ b. b && (s.origin == s.origin) && (i == i)) odd ∙ ap (λ b. b && (i == i)) (eq-eqb s.origin s.origin refl) ∙ eq-eqb i i refl

  pub stage_other : (i j : ℕ) (to : NodeRef) (sl : List Slice) → (i ≡ j → ⊥) → is_stage s.origin j (copy s stamp none i to sl) ≡ false
  stage_other i j to sl apart = and_right (is_odd stamp && (s.origin == s.origin)) (i == j) (ne_eqb i j apart)

  -- a committed one isn't staged
  stage_done : (i j q : ℕ) (to : NodeRef) (sl : List Slice) → is_stage s.origin j (copy s final (slots q) i to sl) ≡ false
  stage_done i j q to sl = ap (λ b. b && (s.origin == s.origin) && (i == j)) even

  -- what stands at the head is found
  module _ (place : ℕ) (to : NodeRef) (sl : List Slice) (y : PeerPart) (base rest : List (Key × Entry))
      (queue_is : y.queue ≡ base ++ copy s stamp none place to sl ∷ rest) (unstaged : NonePass (is_stage s.origin place) base) where
    find_is : find_stage y s.origin place ≡ Some (copy s stamp none place to sl)
    find_is = ap (find (is_stage s.origin place)) queue_is ∙ find_past (is_stage s.origin place) base (copy s stamp none place to sl) rest unstaged (stage_itself place to sl)

    pub found_head : is_committed y s.origin place ≡ true
    found_head = ap is_some find_is

    committed_is : (q : ℕ) → NonePass (is_stage s.origin place) rest → IsLast (place_key s final place) (base ++ rest)
        → committed y s.origin place final (slots q) ≡ record y { queue = (base ++ rest) ++ copy s final (slots q) place to sl ∷ [] }
    committed_is q others last =
        ap (λ f. committed_by f y s.origin place final (slots q)) find_is
        ∙ ap (λ zs. record y { queue = put (place_key s final place) (copy s final (slots q) place to sl).1 zs })
        (ap (without (is_stage s.origin place)) queue_is ∙ without_one (is_stage s.origin place) base (copy s stamp none place to sl) rest unstaged (stage_itself place to sl) others)
        ∙ ap (λ zs. record y { queue = zs }) (put_last (place_key s final place) (copy s final (slots q) place to sl).1 (base ++ rest) last)

  pub commits_queue : (place : ℕ) (ds : Answered) (y : PeerPart) (slices : List Slice) (base tail : List (Key × Entry))
      → y.queue ≡ base ++ (copies s y.me stamp none place slices ds ++ tail)
      → ((i : ℕ) → NonePass (is_stage s.origin i) base)
      → ((i : ℕ) → i < place + length ds → NonePass (is_stage s.origin i) tail)
      → IsLast (place_key s final place) base → IsLast (place_key s final place) tail
      → (over (commit_at s.origin final slots) place ds y).queue ≡ base ++ (tail ++ copies s y.me final (slots y.me) place slices ds)
  commits_queue place [] y slices base tail queue_is unstaged behind last_base last_tail = queue_is ∙ ap (λ zs. base ++ zs) (sym (append-nil tail))
  commits_queue place ((to, Some r) ∷ rest) y slices base tail queue_is unstaged behind last_base last_tail =
      commits_queue (place + 1) rest y slices base tail queue_is unstaged (λ i low. behind i (omega (arith, low))) (later_last s final place base last_base) (later_last s final place tail last_tail)
  commits_queue place ((to, None) ∷ rest) y slices base tail queue_is unstaged behind last_base last_tail =
      by (to.owner == y.me) refl (commits_queue (place + 1) rest) queue_is
    where
      done : Key × Entry
      done = copy s final (slots y.me) place to slices

      left : List Slice → List (Key × Entry)
      left sl = copies s y.me stamp none (place + 1) sl rest

      -- a staged message that is left
      is_left : (sl : List Slice) (f : Key × Entry) → Has (left sl) f → (is_stage s.origin place f ≡ false) × (key_before (place_key s final place) f.0 ≡ false)
      is_left sl = copies_all s y.me stamp none (λ f. (is_stage s.origin place f ≡ false) × (key_before (place_key s final place) f.0 ≡ false)) (place + 1) sl rest
          (λ i t z low high. (stage_other i place t z (λ e. absurd (omega (arith, e, low))), not_back (place_key s stamp i) (place_key s final place) (before_stamp (place_key s stamp i) (place_key s final place) less)))

      rest_last : (sl : List Slice) → IsLast (place_key s final place) (base ++ (left sl ++ tail))
      rest_last sl f there = at (has_append base (left sl ++ tail) f there)
        where
          at : Has base f ⊎ Has (left sl ++ tail) f → key_before (place_key s final place) f.0 ≡ false
          at (inl first) = last_base f first
          at (inr further) = elim (has_append (left sl) tail f further) [ inl in_it ↦ (is_left sl f in_it).1 | inr in_tail ↦ last_tail f in_tail ]

      rest_unstaged : (sl : List Slice) → NonePass (is_stage s.origin place) (left sl ++ tail)
      rest_unstaged sl f there = elim (has_append (left sl) tail f there) [ inl in_it ↦ (is_left sl f in_it).0 | inr in_tail ↦ behind place (omega arith) f in_tail ]

      tail_unstaged : (i : ℕ) → i < (place + 1) + length rest → NonePass (is_stage s.origin i) (tail ++ done ∷ [])
      tail_unstaged i low f there = at (has_append tail (done ∷ []) f there)
        where
          at : Has tail f ⊎ Has (done ∷ []) f → is_stage s.origin i f ≡ false
          at (inl first) = behind i (omega (arith, low)) f first
          at (inr (inl same)) = ap (is_stage s.origin i) same ∙ stage_done place i y.me to slices
          at (inr (inr nothing)) = absurd nothing

      Further : Type 0
      Further = (z : PeerPart) (sl : List Slice) (bs ts : List (Key × Entry))
          → z.queue ≡ bs ++ (copies s z.me stamp none (place + 1) sl rest ++ ts)
          → ((i : ℕ) → NonePass (is_stage s.origin i) bs)
          → ((i : ℕ) → i < (place + 1) + length rest → NonePass (is_stage s.origin i) ts)
          → IsLast (place_key s final (place + 1)) bs → IsLast (place_key s final (place + 1)) ts
          → (over (commit_at s.origin final slots) (place + 1) rest z).queue ≡ bs ++ (ts ++ copies s z.me final (slots z.me) (place + 1) sl rest)

      by : (b : Bool) → to.owner == y.me ≡ b → Further → y.queue ≡ base ++ (cond b (copy s stamp none place to slices ∷ left (taken (letter_len s) slices)) (left slices) ++ tail)
          → (over (commit_at s.origin final slots) (place + 1) rest (cond b (committed y s.origin place final (slots to.owner)) y)).queue
          ≡ base ++ (tail ++ cond b (done ∷ copies s y.me final (slots y.me) (place + 1) (taken (letter_len s) slices) rest) (copies s y.me final (slots y.me) (place + 1) slices rest))
      by true own further queue =
          let next : committed y s.origin place final (slots to.owner) ≡ record y { queue = (base ++ (left (taken (letter_len s) slices) ++ tail)) ++ done ∷ [] } =
          ap (λ q. committed y s.origin place final (slots q)) (eqb-true to.owner y.me own)
          ∙ committed_is place to slices y base (left (taken (letter_len s) slices) ++ tail) queue (unstaged place) y.me (rest_unstaged (taken (letter_len s) slices)) (rest_last (taken (letter_len s) slices)) in
          ap (λ z. (over (commit_at s.origin final slots) (place + 1) rest z).queue) next
          ∙ further (record y { queue = (base ++ (left (taken (letter_len s) slices) ++ tail)) ++ done ∷ [] }) (taken (letter_len s) slices) base (tail ++ done ∷ [])
          (append_assoc base (left (taken (letter_len s) slices) ++ tail) (done ∷ []) ∙ ap (λ zs. base ++ zs) (append_assoc (left (taken (letter_len s) slices)) tail (done ∷ [])))
          unstaged tail_unstaged (later_last s final place base last_base) (next_last s final place done.1 tail last_tail)
          ∙ ap (λ zs. base ++ zs) (append_assoc tail (done ∷ []) (copies s y.me final (slots y.me) (place + 1) (taken (letter_len s) slices) rest))
      by false other further queue = further y slices base tail queue unstaged (λ i low. behind i (omega (arith, low))) (later_last s final place base last_base) (later_last s final place tail last_tail)
