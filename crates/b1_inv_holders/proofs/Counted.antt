-- A counted reference in an entry of a queue is one of those that the owner counts.
use Rattle.std.proofs.Common.{◌≡◌, refl, sym, ap, subst, ◌∙◌, inl, inr, ℕ, zero, suc, ◌+◌, ◌≤◌, ◌==◌, ◌&&◌, Bool, true, false, cond, nat_le, List, [], ◌∷◌, get_or, Option, Some, None}
use Rattle.std.specs.Prelude.{slice_get}
use Rattle.std.proofs.lemmas.Bool.{eq-eqb, le-leb, leb-true, and_parts}
use Rattle.std.proofs.lemmas.Option.{same_Some}
use native.Mathlib.Omega.{arith}
use Rattle.b1_model.specs.declared.naming.Key.{Key}
use Rattle.b1_model.specs.declared.naming.NodeRef.{NodeRef}
use Rattle.b1_model.specs.declared.naming.Opening.{Opening}
use Rattle.b1_model.specs.declared.answers.Reason.{Reason}
use Rattle.b1_model.specs.declared.entries.Entry.{Entry}
use Rattle.b1_model.specs.declared.entries.Entry.TheVariants.{Message, OwnNotice, ForeignNotice, ReleaseNotice}
use Rattle.b1_model.specs.declared.parts.Slot.{Slot}
use Rattle.b1_model.specs.declared.parts.Slot.TheVariants as slot
use Rattle.b1_model.specs.declared.events.Doing.{Doing}
use Rattle.b1_model.specs.declared.events.Phase.{Phase}
use Rattle.b1_model.specs.declared.events.Phase.TheVariants.{Attaching, Stamping, Syncing, Committing}
use Rattle.b1_model.specs.declared.events.Sending.{Sending}
use Rattle.b1_model.specs.MachineParts.{PeerPart, DriverPart, State, is_staged, is_data, carried, slots_of, same_ref, record_or_none}
use Rattle.b1_model.specs.MachineDriver.{node_of_place}
use Rattle.b1_model.specs.MachineTook.{place_references}
use Rattle.b1_model.specs.MachineCounts.{amount_in, queue_amount, dead_amount, owed_amount, peer_amount, kept_from, kept_amount, driver_amount, fresh}
use Rattle.b1_model.specs.MachineEvents.{begun_of, slots_at}
use Rattle.b1_step.specs.Rights.{Has}
use Rattle.b1_step.proofs.Orders.{same_ref_itself}
use Rattle.b1_inv.specs.Words.{IsPeer, is_accepted_place, waits_at}
use Rattle.b1_inv.specs.Stages.{IsMessageOf}
use Rattle.b1_inv.specs.Sound.{IsSound}
use Rattle.b1_inv_record.specs.Holders.{slots_now}
use Rattle.b1_inv_refs.proofs.Amounts.{slots_amount, slots_cons, slot_amount, queue_cons, entry_amount}
use Rattle.b1_inv_refs.proofs.Counting.{member_le}
use Rattle.b1_inv_refs.proofs.Kept.{accepted_is}

-- a slot has a counted reference
abbrev pub IsAttached : List Slot → ℕ → Type 0
IsAttached slots j = slice_get slots j ≡ Some slot.Attached

-- the slots that a driver has for a place
abbrev pub driver_slots : Option DriverPart → ℕ → List Slot
driver_slots found at = elim found [ None ↦ [] | Some d ↦ elim d.doing [ None ↦ [] | Some doing ↦ slots_at doing.phase at ] ]

pub cond_true : (b : Bool) (xs ys : List Slot) → b ≡ true → cond b xs ys ≡ xs
cond_true true xs ys is = refl
cond_true false xs ys is = absurd (cc is)

pub cond_false : (b : Bool) (xs ys : List Slot) → b ≡ false → cond b xs ys ≡ ys
cond_false true xs ys is = absurd (cc is)
cond_false false xs ys is = refl

-- what carries a node is a message
pub carries_data : (e : Entry) (j : ℕ) (node : NodeRef) → slice_get (carried e) j ≡ Some node → is_data e ≡ true
carries_data (Message origin user index serial offset len nodes slots handles payload) j node is = refl
carries_data (OwnNotice serial index) j node is = absurd (cc is)
carries_data (ForeignNotice other index) j node is = absurd (cc is)
carries_data (ReleaseNotice serial) j node is = absurd (cc is)

pub message_is : (o : Opening) (q : ℕ) (doing : Doing) (k : Key) (e : Entry) → IsMessageOf o q doing k e → (carried e ≡ (begun_of doing.phase).with) × ((node_of_place (begun_of doing.phase).to k.index).owner ≡ q)
message_is o q doing k (Message origin user index serial offset len nodes slots handles payload) h = (h.4, ap (λ n. (node_of_place (begun_of doing.phase).to n).owner) (sym h.1) ∙ ap (λ n. n.owner) h.3)
message_is o q doing k (OwnNotice serial index) h = absurd h
message_is o q doing k (ForeignNotice node index) h = absurd h
message_is o q doing k (ReleaseNotice serial) h = absurd h

module _ (node : NodeRef) where
  slots_there : (nodes : List NodeRef) (slots : List Slot) (j : ℕ) → slice_get nodes j ≡ Some node → IsAttached slots j → 1 ≤ slots_amount node nodes slots
  slots_there [] slots j node_is slot_is = absurd (cc node_is)
  slots_there (n ∷ nodes) [] j node_is slot_is = absurd (cc slot_is)
  slots_there (n ∷ nodes) (t ∷ slots) zero node_is slot_is =
      let cons = slots_cons node n t nodes slots in
      let one : slot_amount node n t ≡ 1 =
      ap (slot_amount node n) (same_Some t slot.Attached slot_is) ∙ ap (λ b. cond b 1 0) (ap (λ m. same_ref m node) (same_Some n node node_is) ∙ same_ref_itself node) in
      omega (arith, cons, one)
  slots_there (n ∷ nodes) (t ∷ slots) (suc j) node_is slot_is = let cons = slots_cons node n t nodes slots in let more = slots_there nodes slots j node_is slot_is in omega (arith, cons, more)

  queue_there : (queue : List (Key × Entry)) (f : Key × Entry) (j : ℕ) → Has queue f → is_staged f ≡ false → slice_get (carried f.1) j ≡ Some node → IsAttached (slots_of f.1) j → 1 ≤ queue_amount node queue
  queue_there [] f j there even node_is slot_is = absurd there
  queue_there (g ∷ rest) f j (inl same) even node_is slot_is =
      let cons = queue_cons node g rest in
      let here : entry_amount node f ≡ slots_amount node (carried f.1) (slots_of f.1) = ap (λ b. cond b 0 (slots_amount node (carried f.1) (slots_of f.1))) even in
      let moved : entry_amount node f ≡ entry_amount node g = ap (entry_amount node) same in
      let some = slots_there (carried f.1) (slots_of f.1) j node_is slot_is in
      omega (arith, cons, here, moved, some)
  queue_there (g ∷ rest) f j (inr more) even node_is slot_is = let cons = queue_cons node g rest in let some = queue_there rest f j more even node_is slot_is in omega (arith, cons, some)

  module _ (holder : ℕ) (sending : Sending) (from : ℕ) where
    kept_there : (places : List (Option Reason)) (k here : ℕ) → from ≤ here + k → slice_get places k ≡ Some None → (node_of_place sending.begun.to (here + k)).owner ≡ holder → 1 ≤ amount_in node (place_references sending (here + k)) → 1 ≤ kept_from node holder sending from here places
    kept_there [] k here low is own some = absurd (cc is)
    kept_there (Some r ∷ rest) zero here low is own some = absurd (cc is)
    kept_there (None ∷ rest) zero here low is own some =
        let at : here + 0 ≡ here = omega arith in
        let first : (nat_le from here && ((node_of_place sending.begun.to here).owner == holder)) ≡ true = rw (le-leb from here (omega (arith, low)), eq-eqb (node_of_place sending.begun.to here).owner holder (ap (λ n. (node_of_place sending.begun.to n).owner) (sym at) ∙ own)) refl in
        let counted : cond (nat_le from here && ((node_of_place sending.begun.to here).owner == holder)) (amount_in node (place_references sending here)) 0 ≡ amount_in node (place_references sending here) = ap (λ b. cond b (amount_in node (place_references sending here)) 0) first in
        let enough : 1 ≤ amount_in node (place_references sending here) = subst (λ n. 1 ≤ amount_in node (place_references sending n)) at some in
        omega (arith, counted, enough)
    kept_there (Some r ∷ rest) (suc k) here low is own some =
        let at : here + suc k ≡ (here + 1) + k = omega arith in
        kept_there rest k (here + 1) (omega (arith, low)) is (ap (λ n. (node_of_place sending.begun.to n).owner) (sym at) ∙ own) (subst (λ n. 1 ≤ amount_in node (place_references sending n)) at some)
    kept_there (None ∷ rest) (suc k) here low is own some =
        let at : here + suc k ≡ (here + 1) + k = omega arith in
        let more = kept_there rest k (here + 1) (omega (arith, low)) is (ap (λ n. (node_of_place sending.begun.to n).owner) (sym at) ∙ own) (subst (λ n. 1 ≤ amount_in node (place_references sending n)) at some) in
        omega (arith, more)

  kept_place : (q : ℕ) (sending : Sending) (from at j : ℕ) → from ≤ at → is_accepted_place sending.places at ≡ true → slice_get sending.begun.with j ≡ Some node → IsAttached (get_or sending.slots at []) j → (node_of_place sending.begun.to at).owner ≡ q → 1 ≤ kept_from node q sending from 0 sending.places
  kept_place q sending from at j low accepted node_is slot_is own =
      let zero_at : at ≡ 0 + at = omega arith in
      kept_there q sending from sending.places at 0 (omega (arith, low)) (accepted_is sending.places at accepted) (ap (λ n. (node_of_place sending.begun.to n).owner) (sym zero_at) ∙ own)
      (subst (λ n. 1 ≤ amount_in node (place_references sending n)) zero_at (slots_there sending.begun.with (get_or sending.slots at []) j node_is slot_is))

  kept_phase : (q : ℕ) (phase : Phase) (at j : ℕ) → waits_at phase at ≡ true → slice_get (begun_of phase).with j ≡ Some node → IsAttached (slots_at phase at) j → (node_of_place (begun_of phase).to at).owner ≡ q → 1 ≤ kept_amount node q phase
  kept_phase q (Attaching sending place handle) at j waits node_is slot_is own = kept_place q sending 0 at j (omega arith) waits node_is slot_is own
  kept_phase q (Stamping sending) at j waits node_is slot_is own = kept_place q sending 0 at j (omega arith) waits node_is slot_is own
  kept_phase q (Syncing sending stamp place) at j waits node_is slot_is own = kept_place q sending 0 at j (omega arith) waits node_is slot_is own
  kept_phase q (Committing sending stamp place) at j waits node_is slot_is own = let k = and_parts (nat_le place at) (is_accepted_place sending.places at) waits in kept_place q sending place at j (leb-true place at k.0) k.1 node_is slot_is own
  kept_phase q phase at j waits node_is slot_is own = absurd (cc slot_is)

abbrev amount_by : NodeRef → Option PeerPart → ℕ
amount_by node found = elim found [ None ↦ 0 | Some x ↦ peer_amount node x ]

abbrev open_kept : NodeRef → ℕ → Option Doing → ℕ
open_kept node q doing = elim doing [ None ↦ 0 | Some one ↦ kept_amount node q one.phase ]

module _ (o : Opening) (s : State) (sound : IsSound o s) (q j : ℕ) (x : PeerPart) (f : Key × Entry) (node : NodeRef) (is_peer : IsPeer s q x) (there : Has x.queue f) (node_is : slice_get (carried f.1) j ≡ Some node) (slot_is : IsAttached (slots_now s f) j) where
  pub entry_counted : 1 ≤ fresh s node q
  entry_counted = by (is_staged f) refl
    where
      by : (b : Bool) → is_staged f ≡ b → 1 ≤ fresh s node q
      by false even =
          let some = queue_there node x.queue f j there even node_is (ap (λ l. slice_get l j) (sym (cond_false (is_staged f) (driver_slots (slice_get s.drivers f.0.origin) f.0.index) (slots_of f.1) even)) ∙ slot_is) in
          let mine : amount_by node (slice_get s.peers q) ≡ (record_or_none node x.handles).held + queue_amount node x.queue + dead_amount node x.dead = ap (amount_by node) is_peer in
          omega (arith, some, mine)
      by true odd =
          let k = sound.stages.sender q x f is_peer there (carries_data f.1 j node node_is) odd in
          let m = message_is o q k.doing f.0 f.1 k.message in
          let now : slots_now s f ≡ slots_at k.doing.phase f.0.index =
          cond_true (is_staged f) (driver_slots (slice_get s.drivers f.0.origin) f.0.index) (slots_of f.1) odd ∙ ap (λ z. driver_slots z f.0.index) k.is_driver ∙ ap (λ z. elim z [ None ↦ [] | Some doing ↦ slots_at doing.phase f.0.index ]) k.is_open in
          let some = kept_phase node q k.doing.phase f.0.index j k.waits (ap (λ l. slice_get l j) (sym m.0) ∙ node_is) (ap (λ l. slice_get l j) (sym now) ∙ slot_is) m.1 in
          let mine : driver_amount node q k.driver ≡ owed_amount node q k.driver.owed + kept_amount node q k.doing.phase = ap (λ z. owed_amount node q k.driver.owed + open_kept node q z) k.is_open in
          let within = member_le (driver_amount node q) s.drivers f.0.origin k.driver k.is_driver in
          omega (arith, some, mine, within)
