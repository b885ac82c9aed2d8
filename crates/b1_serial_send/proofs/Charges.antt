-- What a letter's stages leave of a peer's part, and what they take of its pool and charge in its queue.
use Rattle.std.proofs.Common.{◌≡◌, refl, ap, ◌∙◌, ℕ, suc, ◌+◌, ◌*◌, ◌==◌, Bool, true, false, cond, List, [], ◌∷◌, map, filter, length, Option, Some, None, is_none, arith}
use Rattle.b1_model.specs.declared.naming.Key.{Key}
use Rattle.b1_model.specs.declared.naming.NodeRef.{NodeRef}
use Rattle.b1_model.specs.declared.entries.Entry.{Entry}
use Rattle.b1_model.specs.declared.entries.Entry.TheVariants.{Message, OwnNotice, ForeignNotice, ReleaseNotice}
use Rattle.b1_model.specs.declared.answers.Reason.{Reason}
use Rattle.b1_model.specs.declared.answers.Quantity.{Quantity}
use Rattle.b1_model.specs.MachineParts.{PeerPart, HandleRecord, Slice, key_before}
use Rattle.b1_model.specs.MachineTables.{put, amount, charged}
use Rattle.b1_model.specs.MachineSend.{staged}
use Rattle.b1_serial_bus.specs.Letters.{Letter, letter_len}
use Rattle.b1_serial_bus.specs.Places.{after_taken}
use Rattle.b1_serial_send.proofs.Midway.{Answered, over, stage_at}

-- how many accepted ones of some destinations are a peer's
abbrev pub count_at : ℕ → Answered → ℕ
count_at q [] = 0
count_at q ((to, Some r) ∷ rest) = count_at q rest
count_at q ((to, None) ∷ rest) = cond (to.owner == q) (suc (count_at q rest)) (count_at q rest)

pub counted_so : (q : ℕ) (ds : Answered) → length (filter (λ (x : NodeRef). x.owner == q) (map (λ (z : NodeRef × Option Reason). z.0) (filter (λ (z : NodeRef × Option Reason). is_none z.1) ds))) ≡ count_at q ds
counted_so q [] = refl
counted_so q ((to, Some r) ∷ rest) = counted_so q rest
counted_so q ((to, None) ∷ rest) = by (to.owner == q) (counted_so q rest)
  where
    kept : List NodeRef
    kept = filter (λ (x : NodeRef). x.owner == q) (map (λ (z : NodeRef × Option Reason). z.0) (filter (λ (z : NodeRef × Option Reason). is_none z.1) rest))

    by : (b : Bool) → length kept ≡ count_at q rest → length (cond b (to ∷ kept) kept) ≡ cond b (suc (count_at q rest)) (count_at q rest)
    by true same = ap suc same
    by false same = same

-- ---- the fields that stages change

-- slices, records and queue
abbrev pub Three : PeerPart → PeerPart → Type 0
Three x y = y ≡ record x { slices = y.slices; handles = y.handles; queue = y.queue }

pub three_set : (x y : PeerPart) (slices : List Slice) (handles : List HandleRecord) (queue : List (Key × Entry)) → Three x y → Three x (record y { slices = slices; handles = handles; queue = queue })
three_set x y slices handles queue same = ap {A = PeerPart} {B = PeerPart} (λ w. record w { slices = slices; handles = handles; queue = queue }) same

module _ (s : Letter) where
  three_stage : (place : ℕ) (to : NodeRef) (x y : PeerPart) → Three x y → Three x (stage_at s place to y)
  three_stage place to x y same = elim (to.owner == y.me) as (λ b. Three x (cond b (staged y s.origin s.user place to.serial s.payload s.with) y)) [ true ↦ three_set x y _ _ _ same | false ↦ same ]

  three_stages : (place : ℕ) (ds : Answered) (x y : PeerPart) → Three x y → Three x (over (stage_at s) place ds y)
  three_stages place [] x y same = same
  three_stages place ((to, Some r) ∷ rest) x y same = three_stages (place + 1) rest x y same
  three_stages place ((to, None) ∷ rest) x y same = three_stages (place + 1) rest x (stage_at s place to y) (three_stage place to x y same)

  -- stages change no other field
  pub stages_leave : (place : ℕ) (ds : Answered) (x : PeerPart) → Three x (over (stage_at s) place ds x)
  stages_leave place ds x = three_stages place ds x x refl

  -- each stage takes a slice of the letter's length
  pub stages_take : (place : ℕ) (ds : Answered) (x : PeerPart) → (over (stage_at s) place ds x).slices ≡ after_taken (letter_len s) (count_at x.me ds) x.slices
  stages_take place [] x = refl
  stages_take place ((to, Some r) ∷ rest) x = stages_take (place + 1) rest x
  stages_take place ((to, None) ∷ rest) x = by (to.owner == x.me) (stages_take (place + 1) rest)
    where
      by : (b : Bool) → ((z : PeerPart) → (over (stage_at s) (place + 1) rest z).slices ≡ after_taken (letter_len s) (count_at z.me rest) z.slices)
          → (over (stage_at s) (place + 1) rest (cond b (staged x s.origin s.user place to.serial s.payload s.with) x)).slices ≡ after_taken (letter_len s) (cond b (suc (count_at x.me rest)) (count_at x.me rest)) x.slices
      by true further = further (staged x s.origin s.user place to.serial s.payload s.with)
      by false further = further x

-- ---- charges

module _ (what : Quantity) (passes : ℕ → Bool) where
  charged_cons : (f : Key × Entry) (queue : List (Key × Entry)) → charged what passes (f ∷ queue) ≡ charged what passes (f ∷ []) + charged what passes queue
  charged_cons (k, Message origin user index serial offset len nodes slots handles payload) queue = omega arith
  charged_cons (k, OwnNotice serial index) queue = omega arith
  charged_cons (k, ForeignNotice node index) queue = omega arith
  charged_cons (k, ReleaseNotice serial) queue = omega arith

  charged_put : (k : Key) (e : Entry) (queue : List (Key × Entry)) → charged what passes (put k e queue) ≡ charged what passes ((k, e) ∷ []) + charged what passes queue
  charged_put k e [] = omega arith
  charged_put k e (f ∷ rest) = by (key_before k f.0) (charged_put k e rest)
    where
      by : (b : Bool) → charged what passes (put k e rest) ≡ charged what passes ((k, e) ∷ []) + charged what passes rest → charged what passes (cond b ((k, e) ∷ f ∷ rest) (f ∷ put k e rest)) ≡ charged what passes ((k, e) ∷ []) + charged what passes (f ∷ rest)
      by true further = charged_cons (k, e) (f ∷ rest)
      by false further = let one = charged_cons f (put k e rest) in let two = charged_cons f rest in omega (arith, further, one, two)

  module _ (s : Letter) where
    -- what one stage is charged
    abbrev pub asked : ℕ
    asked = cond (passes s.user) (amount what (length s.payload) (length s.with)) 0

    charged_stage : (place : ℕ) (to : NodeRef) (x : PeerPart) → charged what passes (staged x s.origin s.user place to.serial s.payload s.with).queue ≡ asked + charged what passes x.queue
    charged_stage place to x = let one = charged_put (record { stamp = x.clock + 1; origin = s.origin; index = place }) _ x.queue in one ∙ omega arith

    -- each stage is charged so
    pub stages_charge : (place : ℕ) (ds : Answered) (x : PeerPart) → charged what passes (over (stage_at s) place ds x).queue ≡ charged what passes x.queue + count_at x.me ds * asked
    stages_charge place [] x = omega arith
    stages_charge place ((to, Some r) ∷ rest) x = stages_charge (place + 1) rest x
    stages_charge place ((to, None) ∷ rest) x = by (to.owner == x.me) (stages_charge (place + 1) rest)
      where
        by : (b : Bool) → ((z : PeerPart) → charged what passes (over (stage_at s) (place + 1) rest z).queue ≡ charged what passes z.queue + count_at z.me rest * asked)
            → charged what passes (over (stage_at s) (place + 1) rest (cond b (staged x s.origin s.user place to.serial s.payload s.with) x)).queue ≡ charged what passes x.queue + cond b (suc (count_at x.me rest)) (count_at x.me rest) * asked
        by true further =
            let one = further (staged x s.origin s.user place to.serial s.payload s.with) in
            let two = charged_stage place to x in
            let three : suc (count_at x.me rest) * asked ≡ asked + count_at x.me rest * asked = omega arith in
            omega (arith, one, two, three)
        by false further = further x
