-- What is always so of a part whose queue and records are given up, and the room that it needs.
use Rattle.std.proofs.Common.{◌≡◌, ◌≢◌, refl, sym, ap, ℕ, ◌+◌, ◌≤◌, Bool, true, false, List, [], ◌∷◌, length, ◌==◌}
use Rattle.std.proofs.lemmas.Bool.{eqb-true}
use native.Mathlib.Omega.{arith}
use Rattle.b1_model.specs.declared.naming.Key.{Key}
use Rattle.b1_model.specs.declared.entries.Entry.{Entry}
use Rattle.b1_model.specs.declared.entries.Entry.TheVariants.{Message, OwnNotice, ForeignNotice, ReleaseNotice}
use Rattle.b1_model.specs.MachineParts.{NodePart, HandleRecord, Slice}
use Rattle.b1_inv_peer.specs.PeerOk.{count, is_notice_of, places, AreOk, IsRoom}
use Rattle.b1_inv_peer.proofs.Counts.{one, count_cons}
use Rattle.b1_inv_peer.proofs.Places.{places_le, places_one_more}

abbrev Queue : Type 0
Queue = List (Key × Entry)

-- nothing is queued, and nothing is held
pub emptied_ok : (me : ℕ) (nodes : List NodePart) (slices : List Slice) → AreOk me nodes slices [] []
emptied_ok me nodes slices = record {
  rising = tt;
  needed = λ h there. absurd there;
  messages = λ f there. absurd there;
  notices = λ f there. absurd there;
  sliced = λ f there. absurd there;
  apart = λ offset. omega arith;
  stages = λ origin index. omega arith;
  flight = λ node other. refl;
  noticed = λ node. omega arith;
}

-- an entry that leaves gives one node its place back at most
one_place : (f : Key × Entry) (rest : Queue) (made : ℕ) → places rest made ≤ places (f ∷ rest) made + 1
one_place f rest made = at f
  where
    fewer : (g : Key × Entry) (s : ℕ) → is_notice_of s g ≡ false → count (is_notice_of s) (g ∷ rest) ≤ count (is_notice_of s) rest
    fewer g s none = let whole = count_cons (is_notice_of s) g rest in let no_one : one (is_notice_of s g) ≡ 0 = ap one none in omega (arith, whole, no_one)

    differs : (a b : ℕ) → b ≢ a → (a == b) ≡ false
    differs a b apart = by (a == b) refl
      where
        by : (c : Bool) → (a == b) ≡ c → (a == b) ≡ false
        by true e = absurd (apart (sym (eqb-true a b e)))
        by false e = e

    at : (g : Key × Entry) → places rest made ≤ places (g ∷ rest) made + 1
    at (k, Message origin user index serial offset len carries slots hs payload) = let le = places_le ((k, Message origin user index serial offset len carries slots hs payload) ∷ rest) rest made (λ s. fewer (k, Message origin user index serial offset len carries slots hs payload) s refl) in omega (arith, le)
    at (k, OwnNotice serial index) = places_one_more ((k, OwnNotice serial index) ∷ rest) rest serial made (λ s apart. fewer (k, OwnNotice serial index) s (differs serial s apart))
    at (k, ForeignNotice node index) = let le = places_le ((k, ForeignNotice node index) ∷ rest) rest made (λ s. fewer (k, ForeignNotice node index) s refl) in omega (arith, le)
    at (k, ReleaseNotice serial) = places_one_more ((k, ReleaseNotice serial) ∷ rest) rest serial made (λ s apart. fewer (k, ReleaseNotice serial) s (differs serial s apart))

-- so all places are there once every entry has left
pub places_emptied : (queue : Queue) (made : ℕ) → places [] made ≤ places queue made + length queue
places_emptied [] made = omega arith
places_emptied (f ∷ rest) made = let further = places_emptied rest made in let here = one_place f rest made in omega (arith, further, here)

pub room_emptied : (queue : Queue) (made : ℕ) (handles : List HandleRecord) (spare items singles new_items new_singles : ℕ) (sets new_sets : ℕ → ℕ) → IsRoom queue made handles spare items singles sets → IsRoom [] made [] (spare + length queue) new_items new_singles new_sets
room_emptied queue made handles spare items singles new_items new_singles sets new_sets room = record {
  notices = (let old = room.notices in let all = places_emptied queue made in omega (arith, old, all));
  dead = omega arith;
  records = omega arith;
  messages = λ m. omega arith;
}
