-- Lists of destinations and their answers, one answer after another.
use Rattle.std.proofs.Common.{◌≡◌, refl, sym, ap, ◌∙◌, ℕ, suc, ◌+◌, max, List, [], ◌∷◌, ◌++◌, map, filter, fold, length, zip, Option, Some, None, is_none, arith}
use Rattle.std.specs.Prelude.{slice_get}
use Rattle.std.proofs.lemmas.List.{append-nil, map-append}
use Rattle.std.proofs.lemmas.List.Elements.{filter-append}
use Rattle.b1_model.specs.declared.naming.NodeRef.{NodeRef}
use Rattle.b1_model.specs.declared.answers.Reason.{Reason}
use Rattle.b1_model.specs.MachineParts.{PeerPart}
use Rattle.b1_serial_bus.specs.Letters.{Letter, Places, accepted}
use Rattle.b1_serial_send.proofs.Midway.{Answered, over}

-- ---- max

pub max_twice : (a b : ℕ) → max (max a b) b ≡ max a b
max_twice a b = omega arith

pub max_max : (a b e : ℕ) → max a (max b e) ≡ max (max a b) e
max_max a b e = omega arith

-- the greatest of some numbers, from one on
pub fold_max : (a b : ℕ) (xs : List ℕ) → fold max (max a b) xs ≡ max a (fold max b xs)
fold_max a b [] = refl
fold_max a b (x ∷ rest) = ap (λ k. fold max k rest) (sym (max_max a b x)) ∙ fold_max a (max b x) rest

-- the element behind a front of a list
pub read_middle : {X : Type 0} (done : List X) (x : X) (rest : List X) → slice_get (done ++ x ∷ rest) (length done) ≡ Some x
read_middle [] x rest = refl
read_middle (y ∷ ys) x rest = read_middle ys x rest

-- ---- one more answer

zip_nil : (tos : List NodeRef) → ◌≡◌ {A = Answered} (zip tos []) []
zip_nil [] = refl
zip_nil (t ∷ ts) = refl

pub zip_more : (tos : List NodeRef) (places : Places) (to : NodeRef) (a : Option Reason) → slice_get tos (length places) ≡ Some to → zip tos (places ++ a ∷ []) ≡ zip tos places ++ (to, a) ∷ []
zip_more [] [] to a is = absurd (cc is)
zip_more (t ∷ ts) [] to a is = ap (λ rest. (t, a) ∷ rest) (zip_nil ts) ∙ ap (λ z. (z, a) ∷ []) (cc is)
zip_more [] (b ∷ bs) to a is = absurd (cc is)
zip_more (t ∷ ts) (b ∷ bs) to a is = ap (λ rest. (t, b) ∷ rest) (zip_more ts bs to a is)

pub zip_len : (tos : List NodeRef) (places : Places) (to : NodeRef) → slice_get tos (length places) ≡ Some to → length (zip tos places) ≡ length places
zip_len [] [] to is = refl
zip_len (t ∷ ts) [] to is = refl
zip_len [] (b ∷ bs) to is = absurd (cc is)
zip_len (t ∷ ts) (b ∷ bs) to is = ap suc (zip_len ts bs to is)

pub over_append : (f : ℕ → NodeRef → PeerPart → PeerPart) (place : ℕ) (ds es : Answered) (x : PeerPart) → over f place (ds ++ es) x ≡ over f (place + length ds) es (over f place ds x)
over_append f place [] es x = ap (λ k. over f k es x) (omega arith)
over_append f place ((to, Some r) ∷ rest) es x = over_append f (place + 1) rest es x ∙ ap (λ k. over f k es (over f (place + 1) rest x)) (omega arith)
over_append f place ((to, None) ∷ rest) es x = over_append f (place + 1) rest es (f place to x) ∙ ap (λ k. over f k es (over f (place + 1) rest (f place to x))) (omega arith)

-- no answer, no change
pub over_nothing : (f : ℕ → NodeRef → PeerPart → PeerPart) (tos : List NodeRef) (x : PeerPart) → over f 0 (zip tos []) x ≡ x
over_nothing f [] x = refl
over_nothing f (t ∷ ts) x = refl

-- what a field keeps under each change it keeps under all
pub over_keeps : {Y : Type 0} (view : PeerPart → Y) (f : ℕ → NodeRef → PeerPart → PeerPart) → ((place : ℕ) (to : NodeRef) (x : PeerPart) → view (f place to x) ≡ view x) → (place : ℕ) (ds : Answered) (x : PeerPart) → view (over f place ds x) ≡ view x
over_keeps view f keeps place [] x = refl
over_keeps view f keeps place ((to, Some r) ∷ rest) x = over_keeps view f keeps (place + 1) rest x
over_keeps view f keeps place ((to, None) ∷ rest) x = over_keeps view f keeps (place + 1) rest (f place to x) ∙ keeps place to x

module _ (s : Letter) (places : Places) (to : NodeRef) (is : slice_get s.to (length places) ≡ Some to) where
  -- one more that accepts, and one more that refuses
  pub over_one : (f : ℕ → NodeRef → PeerPart → PeerPart) (x : PeerPart) → over f 0 (zip s.to (places ++ None ∷ [])) x ≡ f (length places) to (over f 0 (zip s.to places) x)
  over_one f x =
      ap (λ ds. over f 0 ds x) (zip_more s.to places to None is)
      ∙ over_append f 0 (zip s.to places) ((to, None) ∷ []) x
      ∙ ap (λ k. f k to (over f 0 (zip s.to places) x)) (let e = zip_len s.to places to is in omega (arith, e))

  pub over_none : (f : ℕ → NodeRef → PeerPart → PeerPart) (r : Reason) (x : PeerPart) → over f 0 (zip s.to (places ++ Some r ∷ [])) x ≡ over f 0 (zip s.to places) x
  over_none f r x =
      ap (λ ds. over f 0 ds x) (zip_more s.to places to (Some r) is)
      ∙ over_append f 0 (zip s.to places) ((to, Some r) ∷ []) x

  pub accepted_one : accepted s (places ++ None ∷ []) ≡ accepted s places ++ to ∷ []
  accepted_one =
      ap (λ ds. map (λ (z : NodeRef × Option Reason). z.0) (filter (λ (z : NodeRef × Option Reason). is_none z.1) ds)) (zip_more s.to places to None is)
      ∙ ap (map (λ (z : NodeRef × Option Reason). z.0)) (filter-append (λ (z : NodeRef × Option Reason). is_none z.1) (zip s.to places) ((to, None) ∷ []))
      ∙ map-append (λ (z : NodeRef × Option Reason). z.0) (filter (λ (z : NodeRef × Option Reason). is_none z.1) (zip s.to places)) ((to, None) ∷ [])

  pub accepted_none : (r : Reason) → accepted s (places ++ Some r ∷ []) ≡ accepted s places
  accepted_none r =
      ap (λ ds. map (λ (z : NodeRef × Option Reason). z.0) (filter (λ (z : NodeRef × Option Reason). is_none z.1) ds)) (zip_more s.to places to (Some r) is)
      ∙ ap (map (λ (z : NodeRef × Option Reason). z.0)) (filter-append (λ (z : NodeRef × Option Reason). is_none z.1) (zip s.to places) ((to, Some r) ∷ []) ∙ append-nil (filter (λ (z : NodeRef × Option Reason). is_none z.1) (zip s.to places)))
