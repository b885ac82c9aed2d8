-- Handle records once an entry that carries nodes leaves, or its slots arrive.
use Rattle.std.proofs.Common.{◌≡◌, ◌≢◌, ◌⊎◌, refl, sym, ap, ◌∙◌, inl, inr, subst, ℕ, ◌+◌, ◌-◌, Bool, true, false, List, [], ◌∷◌, fold, zip}
use native.Mathlib.Omega.{arith}
use Rattle.b1_model.specs.declared.naming.NodeRef.{NodeRef}
use Rattle.b1_model.specs.declared.parts.Slot.{Slot}
use Rattle.b1_model.specs.declared.parts.Slot.TheVariants as slot
use Rattle.b1_model.specs.MachineParts.{HandleRecord, same_ref, record_or_none}
use Rattle.b1_model.specs.MachineTables.{changed, less_flight, more_held, next_number, unexpected, foreign}
use Rattle.b1_model.specs.MachineReceive.{Arriving, reference_by, slot_arrives}
use Rattle.b1_step.specs.Ordered.{Rising}
use Rattle.b1_step.proofs.Orders.{same_ref_itself}
use Rattle.b1_step.proofs.Lookups.{rising_changed}
use Rattle.b1_inv_peer.specs.Needs.{IsSlot, AreSlots}
use Rattle.b1_inv_peer.specs.PeerOk.{times}
use Rattle.b1_inv_peer.specs.Changes.{LessFlight}
use Rattle.b1_inv_peer.proofs.Counts.{one}
use Rattle.b1_inv_peer.proofs.RecordFields.{same_or_apart, field_changed, field_stays, other_record, unneeded_flight, unneeded_notice, rising_unexpected, flight_unexpected, notice_unexpected, times_cons, times_foreign}
use Rattle.b1_inv_peer.proofs.RecordLists.{AllNeeded, needed_changed, needed_unexpected, fewer_changed, fewer_unexpected, unnoticed_changed, unnoticed_unexpected}

abbrev Handles : Type 0
Handles = List HandleRecord

-- an entry leaves
pub less_unexpected : (me : ℕ) (nodes : List NodeRef) (hs : Handles) → Rising hs → AllNeeded hs → LessFlight me nodes hs (unexpected (foreign me nodes) hs)
less_unexpected me nodes hs up all = record {
  rising = rising_unexpected (foreign me nodes) hs up;
  needed = needed_unexpected (foreign me nodes) hs all;
  flight = λ node other. (let fewer = flight_unexpected node (foreign me nodes) hs up in let same = times_foreign me node nodes other in omega (arith, fewer, same));
  notice = λ node. notice_unexpected node (foreign me nodes) hs up;
  fewer = fewer_unexpected (foreign me nodes) hs;
  unnoticed = unnoticed_unexpected (foreign me nodes) hs;
}

-- nothing leaves; one node leaves; first some nodes leave and then others
less_none : (me : ℕ) (nodes : List NodeRef) (hs : Handles) → Rising hs → AllNeeded hs → ((node : NodeRef) → node.owner ≢ me → times node nodes ≡ 0) → LessFlight me nodes hs hs
less_none me nodes hs up all none = record {
  rising = up;
  needed = all;
  flight = λ node other. (let no_time = none node other in omega (arith, no_time));
  notice = λ node. refl;
  fewer = omega arith;
  unnoticed = omega arith;
}

less_one : (me : ℕ) (node : NodeRef) (f : HandleRecord → HandleRecord) → ((h : HandleRecord) → (f h).node ≡ h.node) → ((h : HandleRecord) → (f h).flight ≡ h.flight - 1) → ((h : HandleRecord) → (f h).notice ≡ h.notice) → (hs : Handles) → Rising hs → AllNeeded hs → LessFlight me (node ∷ []) hs (changed node f hs)
less_one me node f keeps less same hs up all = record {
  rising = rising_changed node f keeps hs up;
  needed = needed_changed node f hs all;
  flight = λ other far. at other (same_or_apart node other);
  notice = λ other. field_stays (λ h. h.notice) false unneeded_notice (λ m. refl) f keeps same node other hs up;
  fewer = fewer_changed node f hs;
  unnoticed = unnoticed_changed node f same hs;
}
  where
    once : (other : NodeRef) → times other (node ∷ []) ≡ one (same_ref node other)
    once other = let more = times_cons other node [] in omega (arith, more)

    at : (other : NodeRef) → (node ≡ other) ⊎ (same_ref node other ≡ false) → (record_or_none other (changed node f hs)).flight ≡ (record_or_none other hs).flight - times other (node ∷ [])
    at other (inl e) =
        subst (λ n. (record_or_none n (changed node f hs)).flight ≡ (record_or_none n hs).flight - times n (node ∷ [])) e
        (let fewer = field_changed (λ h. h.flight) 0 unneeded_flight (λ m. refl) node f keeps hs up (λ k. k - 1) less refl in
        let mine : times node (node ∷ []) ≡ 1 = once node ∙ ap one (same_ref_itself node) in
        omega (arith, fewer, mine))
    at other (inr apart) =
        let stays = ap (λ h. h.flight) (other_record node other f keeps apart hs) in
        let none : times other (node ∷ []) ≡ 0 = once other ∙ ap one apart in
        omega (arith, stays, none)

pub less_trans : (me : ℕ) (a b : List NodeRef) (whole : List NodeRef) (old mid new : Handles) → ((node : NodeRef) → times node whole ≡ times node a + times node b) → LessFlight me a old mid → LessFlight me b mid new → LessFlight me whole old new
less_trans me a b whole old mid new split first second = record {
  rising = second.rising;
  needed = second.needed;
  flight = λ node other. (let one_way = first.flight node other in let further = second.flight node other in let both = split node in omega (arith, one_way, further, both));
  notice = λ node. second.notice node ∙ first.notice node;
  fewer = (let one_way = first.fewer in let further = second.fewer in omega (arith, one_way, further));
  unnoticed = (let one_way = first.unnoticed in let further = second.unnoticed in omega (arith, one_way, further));
}

-- ---- slots arrive

-- the part's number and its nodes stay, and its records count one fewer
pub record Arrives (me : ℕ) (nodes : List NodeRef) (a b : Arriving) : Type 0 where
  pub me_is : b.part.me ≡ a.part.me
  pub less : LessFlight me nodes a.part.handles b.part.handles

times_none : (me : ℕ) (node other : NodeRef) → node.owner ≡ me → other.owner ≢ me → times other (node ∷ []) ≡ 0
times_none me node other own far = let more = times_cons other node [] in let none : one (same_ref node other) ≡ 0 = apart (same_or_apart node other) in omega (arith, more, none)
  where
    apart : (node ≡ other) ⊎ (same_ref node other ≡ false) → one (same_ref node other) ≡ 0
    apart (inl e) = absurd (far (ap (λ n. n.owner) (sym e) ∙ own))
    apart (inr no_same) = ap one no_same

reference : (me : ℕ) (node : NodeRef) (dead : Bool) (a : Arriving) → Rising a.part.handles → AllNeeded a.part.handles → Arrives me (node ∷ []) a (reference_by dead a node)
reference me node true a up all = record { me_is = refl; less = less_one me node less_flight (λ h. refl) (λ h. refl) (λ h. refl) a.part.handles up all }
reference me node false a up all = record { me_is = refl; less = less_one me node (λ g. more_held (next_number a.part.given) (less_flight g)) (λ h. refl) (λ h. refl) (λ h. refl) a.part.handles up all }

one_slot : (me made : ℕ) (a : Arriving) (node : NodeRef) (s : Slot) → a.part.me ≡ me → IsSlot me made node s → Rising a.part.handles → AllNeeded a.part.handles → Arrives me (node ∷ []) a (slot_arrives a (node, s))
one_slot me made a node slot.Unattached mine is up all = absurd is
one_slot me made a node slot.Attached mine is up all = reference me node (record_or_none node a.part.handles).dead a up all
one_slot me made a node slot.Own mine is up all = record { me_is = refl; less = less_none me (node ∷ []) a.part.handles up all (λ other far. times_none me node other is.0 far) }
one_slot me made a node slot.Void mine is up all = record { me_is = refl; less = subst (λ m. LessFlight me (node ∷ []) a.part.handles (unexpected (foreign m (node ∷ [])) a.part.handles)) (sym mine) (less_unexpected me (node ∷ []) a.part.handles up all) }

pub slots_arrive : (me made : ℕ) (nodes : List NodeRef) (slots : List Slot) (a : Arriving) → a.part.me ≡ me → AreSlots me made nodes slots → Rising a.part.handles → AllNeeded a.part.handles → Arrives me nodes a (fold slot_arrives a (zip nodes slots))
slots_arrive me made [] [] a mine are up all = record { me_is = refl; less = less_none me [] a.part.handles up all (λ node far. refl) }
slots_arrive me made [] (s ∷ slots) a mine are up all = absurd are
slots_arrive me made (node ∷ nodes) [] a mine are up all = absurd are
slots_arrive me made (node ∷ nodes) (s ∷ slots) a mine are up all =
    let first = one_slot me made a node s mine are.0 up all in
    let further = slots_arrive me made nodes slots (slot_arrives a (node, s)) (first.me_is ∙ mine) are.1 first.less.rising first.less.needed in
    record {
      me_is = further.me_is ∙ first.me_is;
      less = less_trans me (node ∷ []) nodes (node ∷ nodes) a.part.handles (slot_arrives a (node, s)).part.handles (fold slot_arrives (slot_arrives a (node, s)) (zip nodes slots)).part.handles
          (λ n. (let whole = times_cons n node nodes in let head = times_cons n node [] in omega (arith, whole, head))) first.less further.less;
    }
