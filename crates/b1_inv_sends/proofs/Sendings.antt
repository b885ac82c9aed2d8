-- A SEND whose messages are all staged: how its slots are filled, handle by handle, and place by place.
use Rattle.std.proofs.Common.{◌≡◌, ◌⊎◌, refl, sym, ap, ◌∙◌, inl, inr, subst, ℕ, zero, suc, ◌+◌, ◌<◌, ◌≤◌, Bool, true, false, ◌&&◌, ◌==◌, nat_lt, List, [], ◌∷◌, set, get_or, map, length, Option}
use Rattle.std.proofs.lemmas.Bool.{cases_eq, cases_lt, ltb-true, ltb-false, eqb-true, eqb-false, and_parts, and_cases, cond_both}
use Rattle.std.proofs.lemmas.List.{length-set, length-map, get_or-set_same, get_or-set_other}
use Rattle.std.proofs.lemmas.List.Elements.{All-map, All-set, All-get_or}
use native.Mathlib.Omega.{arith}
use Rattle.b1_model.specs.declared.naming.NodeRef.{NodeRef}
use Rattle.b1_model.specs.declared.answers.Reason.{Reason}
use Rattle.b1_model.specs.declared.commands.Command.{Command}
use Rattle.b1_model.specs.declared.parts.Begun.{Begun}
use Rattle.b1_model.specs.declared.parts.NodeState.{NodeState}
use Rattle.b1_model.specs.declared.parts.NodeState.TheVariants.{Live, Dying, Destroyed}
use Rattle.b1_model.specs.declared.parts.Attach.{Attach}
use Rattle.b1_model.specs.declared.parts.Slot.{Slot}
use Rattle.b1_model.specs.declared.parts.Slot.TheVariants as slot
use Rattle.b1_model.specs.declared.events.Phase.TheVariants.{Attaching, Stamping}
use Rattle.b1_model.specs.declared.events.Sending.{Sending}
use Rattle.b1_model.specs.MachineParts.{PeerPart, State, node_at}
use Rattle.b1_model.specs.MachineSend.{attach_by, attach_answer}
use Rattle.b1_model.specs.MachineDriver.{node_of_place, accepted_from, is_place, all_staged, slot_of, with_slot, attaching}
use Rattle.b1_inv.specs.Words.{is_accepted_place}
use Rattle.b1_inv.specs.Sends.{IsBegun, IsFilled, IsBefore, slot_of_place, IsSending, SendShape}
use Rattle.b1_inv_sends.proofs.Places.{accepted_within, IsNext, next_before, next_accepted_place, none_left}

-- ---- nothing is filled

blank_row : (nodes : List NodeRef) (j : ℕ) → get_or (map {B = Slot} (λ node. slot.Unattached) nodes) j slot.Unattached ≡ slot.Unattached
blank_row [] j = refl
blank_row (node ∷ rest) zero = refl
blank_row (node ∷ rest) (suc j) = blank_row rest j

blank : (to nodes : List NodeRef) (at j : ℕ) → get_or (get_or (map {B = List Slot} (λ n. map (λ node. slot.Unattached) nodes) to) at []) j slot.Unattached ≡ slot.Unattached
blank [] nodes at j = refl
blank (n ∷ rest) nodes zero j = blank_row nodes j
blank (n ∷ rest) nodes (suc at) j = blank rest nodes at j

module _ (s : State) (command : Command) where
  pub all_staged_right : (begun : Begun) (places : List (Option Reason)) (collected place handle : ℕ) → IsBegun s command begun → length places ≡ length begun.to
      → ((at j : ℕ) → is_accepted_place places at ≡ true → j < length begun.with → IsBefore at j place handle → ⊥) → IsSending s command (all_staged begun places collected) place handle
  all_staged_right begun places collected place handle right all none = record {
    begun = right;
    places = all;
    lists = length-map begun.to (λ n. map (λ node. slot.Unattached) begun.with);
    slots = All-map (λ l. length l ≡ length begun.with) (λ n. map (λ node. slot.Unattached) begun.with) begun.to (λ k d within. length-map begun.with (λ node. slot.Unattached));
    filled = λ at j accepted within before. absurd (none at j accepted within before);
    unfilled = λ at j outside. blank begun.to begun.with at j;
  }

  -- ---- from one handle to another

  pub record Onward (sending : Sending) (place handle next first : ℕ) : Type 0 where
    pub filled : (at j : ℕ) → is_accepted_place sending.places at ≡ true → j < length sending.begun.with → IsBefore at j next first → IsBefore at j place handle
    pub unfilled : (at j : ℕ) → IsBefore at j place handle → IsBefore at j next first

  onward : (sending : Sending) (place handle next first : ℕ) → IsSending s command sending place handle → Onward sending place handle next first → IsSending s command sending next first
  onward sending place handle next first k m = record {
    begun = k.begun;
    places = k.places;
    lists = k.lists;
    slots = k.slots;
    filled = λ at j accepted within before. k.filled at j accepted within (m.filled at j accepted within before);
    unfilled = λ at j outside. k.unfilled at j (elim outside [ inl out ↦ inl (λ before. out (m.unfilled at j before)) | inr refused ↦ inr refused ]);
  }

  before_later : (at j place handle next : ℕ) → place < next → IsBefore at j place handle → IsBefore at j next 0
  before_later at j place handle next later (inl before) = inl (omega (arith, later, before))
  before_later at j place handle next later (inr here) = inl (let same = here.0 in omega (arith, later, same))

  not_later : (at j place handle : ℕ) → j < handle → at < place + 1 → IsBefore at j place handle
  not_later at j place handle within before = elim (cases_eq at place) [ inl same ↦ inr (same, within) | inr apart ↦ inl (omega (arith, apart, before)) ]

  -- all handles of a place are attached: the next accepted place begins, or the end is reached
  place_done : (sending : Sending) (place handle next : ℕ) → place < next → length sending.begun.with ≤ handle
      → ((at j : ℕ) → is_accepted_place sending.places at ≡ true → j < length sending.begun.with → at < next → at < place + 1) → Onward sending place handle next 0
  place_done sending place handle next later all none = record {
    filled = λ at j accepted within before. elim before [
      | inl ahead ↦ not_later at j place handle (omega (arith, within, all)) (none at j accepted within ahead)
      | inr (same, less) ↦ absurd (omega (arith, less))
    ];
    unfilled = λ at j before. before_later at j place handle next later before;
  }

  up_to_next : (sending : Sending) (place handle : ℕ) → IsNext (place + 1) sending.places (accepted_from (place + 1) sending.places) → length sending.begun.with ≤ handle → Onward sending place handle (accepted_from (place + 1) sending.places) 0
  up_to_next sending place handle next all =
      place_done sending place handle (accepted_from (place + 1) sending.places) (let behind = next.behind in omega (arith, behind)) all
      (λ at j accepted within ahead. elim (cases_lt at (place + 1)) [ inl before ↦ before | inr behind ↦ let least = next_before (place + 1) sending.places at accepted behind in absurd (omega (arith, least, ahead)) ])

  up_to_end : (sending : Sending) (place handle : ℕ) → IsSending s command sending place handle → is_accepted_place sending.places place ≡ true → length sending.begun.with ≤ handle
      → ((at j : ℕ) → is_accepted_place sending.places at ≡ true → j < length sending.begun.with → place + 1 ≤ at → ⊥) → Onward sending place handle (length sending.begun.to) 0
  up_to_end sending place handle k accepted all none =
      let within = accepted_within sending.places place accepted in
      let same = k.places in
      place_done sending place handle (length sending.begun.to) (omega (arith, within, same)) all
      (λ at j there less ahead. elim (cases_lt at (place + 1)) [ inl before ↦ before | inr behind ↦ absurd (none at j there less behind) ])

  -- a SEND that is attached up to a handle attaches it, or the next place's first one, or is at its stamp
  pub attaching_right : (sending : Sending) (place handle : ℕ) → IsSending s command sending place handle → is_accepted_place sending.places place ≡ true → SendShape s command (attaching sending place handle)
  attaching_right sending place handle k accepted =
      cond_both (nat_lt handle (length sending.begun.with)) (Attaching sending place handle) _ (SendShape s command)
      (λ is. (k, accepted, ltb-true handle (length sending.begun.with) is))
      (λ done. let all = ltb-false handle (length sending.begun.with) done in
      cond_both (nat_lt 0 (length sending.begun.with) && is_place (accepted_from (place + 1) sending.places) sending.places) (Attaching sending (accepted_from (place + 1) sending.places) 0) (Stamping sending) (SendShape s command)
      (λ is. let both = and_parts (nat_lt 0 (length sending.begun.with)) (is_place (accepted_from (place + 1) sending.places) sending.places) is in
      let next = next_accepted_place (place + 1) sending.places both.1 in
      (onward sending place handle (accepted_from (place + 1) sending.places) 0 k (up_to_next sending place handle next all), next.accepted, ltb-true 0 (length sending.begun.with) both.0))
      (λ is. onward sending place handle (length sending.begun.to) 0 k (up_to_end sending place handle k accepted all
      (elim (and_cases (nat_lt 0 (length sending.begun.with)) (is_place (accepted_from (place + 1) sending.places) sending.places) is) [
        | inl empty ↦ λ at j there less behind. let nothing = ltb-false 0 (length sending.begun.with) empty in omega (arith, nothing, less)
        | inr last ↦ λ at j there less behind. none_left (place + 1) sending.places last at there behind
      ]))))

  -- ---- a handle is attached

  module _ (sending : Sending) (place handle : ℕ) (got : Attach) (k : IsSending s command sending place handle) (accepted : is_accepted_place sending.places place ≡ true) (within : handle < length sending.begun.with) where
    rows : place < length sending.slots
    rows = let less = accepted_within sending.places place accepted in let a = k.places in let b = k.lists in omega (arith, less, a, b)

    row : length (get_or sending.slots place []) ≡ length sending.begun.with
    row = All-get_or (λ l. length l ≡ length sending.begun.with) sending.slots place [] rows k.slots

    abbrev changed_row : List Slot
    changed_row = set (get_or sending.slots place []) handle (slot_of got)

    slot_here : slot_of_place (with_slot sending place handle got) place handle ≡ slot_of got
    slot_here =
        ap (λ l. get_or l handle slot.Unattached) (get_or-set_same sending.slots place changed_row [] rows)
        ∙ get_or-set_same (get_or sending.slots place []) handle (slot_of got) slot.Unattached (let same = row in omega (arith, within, same))

    slot_there : (at j : ℕ) → ((at ≡ place) × (j ≡ handle) → ⊥) → slot_of_place (with_slot sending place handle got) at j ≡ slot_of_place sending at j
    slot_there at j apart =
        elim (cases_eq at place) [
          | inl same ↦
              ap (λ n. get_or (get_or (set sending.slots place changed_row) n []) j slot.Unattached) same
              ∙ ap (λ l. get_or l j slot.Unattached) (get_or-set_same sending.slots place changed_row [] rows)
              ∙ get_or-set_other (get_or sending.slots place []) handle j (slot_of got) slot.Unattached (λ e. apart (same, e))
              ∙ ap (λ n. get_or (get_or sending.slots n []) j slot.Unattached) (sym same)
          | inr other ↦ ap (λ l. get_or l j slot.Unattached) (get_or-set_other sending.slots place at changed_row [] other)
        ]

    at_or_apart : (at j : ℕ) → ((at ≡ place) × (j ≡ handle)) ⊎ ((at ≡ place) × (j ≡ handle) → ⊥)
    at_or_apart at j = elim (cases_eq at place) [ inl a ↦ elim (cases_eq j handle) [ inl b ↦ inl (a, b) | inr apart ↦ inr (λ h. apart h.1) ] | inr apart ↦ inr (λ h. apart h.0) ]

    before_it : (at j : ℕ) → ((at ≡ place) × (j ≡ handle) → ⊥) → IsBefore at j place (handle + 1) → IsBefore at j place handle
    before_it at j apart (inl before) = inl before
    before_it at j apart (inr (same, less)) = elim (cases_eq j handle) [ inl here ↦ absurd (apart (same, here)) | inr other ↦ inr (same, omega (arith, less, other)) ]

    before_more : (at j : ℕ) → IsBefore at j place handle → IsBefore at j place (handle + 1)
    before_more at j (inl before) = inl before
    before_more at j (inr (same, less)) = inr (same, omega (arith, less))

    pub filled_right : IsFilled (node_of_place sending.begun.to place) (node_of_place sending.begun.with handle) (slot_of got) → IsSending s command (with_slot sending place handle got) place (handle + 1)
    filled_right fills = record {
      begun = k.begun;
      places = k.places;
      lists = length-set sending.slots place changed_row ∙ k.lists;
      slots = All-set (λ l. length l ≡ length sending.begun.with) sending.slots place changed_row (length-set (get_or sending.slots place []) handle (slot_of got) ∙ row) k.slots;
      filled = λ at j there less before. elim (at_or_apart at j) [
        | inl (a, b) ↦
            subst (λ n. IsFilled (node_of_place sending.begun.to n) (node_of_place sending.begun.with j) (slot_of_place (with_slot sending place handle got) n j)) (sym a)
            (subst (λ n. IsFilled (node_of_place sending.begun.to place) (node_of_place sending.begun.with n) (slot_of_place (with_slot sending place handle got) place n)) (sym b)
            (subst (IsFilled (node_of_place sending.begun.to place) (node_of_place sending.begun.with handle)) (sym slot_here) fills))
        | inr apart ↦ subst (IsFilled (node_of_place sending.begun.to at) (node_of_place sending.begun.with j)) (sym (slot_there at j apart)) (k.filled at j there less (before_it at j apart before))
      ];
      unfilled = λ at j outside. elim (at_or_apart at j) [
        | inl (a, b) ↦ elim outside [ inl out ↦ absurd (out (inr (a, omega (arith, b)))) | inr refused ↦ absurd (cc (sym accepted ∙ ap (is_accepted_place sending.places) (sym a) ∙ refused)) ]
        | inr apart ↦ slot_there at j apart ∙ k.unfilled at j (elim outside [ inl out ↦ inl (λ before. out (before_more at j before)) | inr refused ↦ inr refused ])
      ];
    }

-- what an owner answers is right for the destination
fills_by : (to node : NodeRef) (state : NodeState) (own : Bool) → (to.owner == node.owner) ≡ own → IsFilled to node (slot_of (attach_by state own))
fills_by to node (Destroyed stamp) own is = tt
fills_by to node Live true is = sym (eqb-true to.owner node.owner is)
fills_by to node Live false is = λ same. eqb-false to.owner node.owner is (sym same)
fills_by to node Dying true is = sym (eqb-true to.owner node.owner is)
fills_by to node Dying false is = λ same. eqb-false to.owner node.owner is (sym same)

pub fills : (to node : NodeRef) (x : PeerPart) → x.me ≡ node.owner → IsFilled to node (slot_of (attach_answer x node.serial to.owner))
fills to node x own = fills_by to node (node_at x node.serial).state (to.owner == x.me) (ap (λ n. to.owner == n) (sym own))
