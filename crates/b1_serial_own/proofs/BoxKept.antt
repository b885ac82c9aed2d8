-- Boxes stay right where a peer changes and keeps its nodes, and no message comes to its box, and the notices behind what is left stay.
use Rattle.std.proofs.Common.{◌≡◌, ◌⊎◌, refl, sym, ap, ◌∙◌, subst, inl, inr, ℕ, zero, suc, true, false, List, [], ◌∷◌, Option, Some, None, option_map, is_some, zip}
use Rattle.std.specs.Prelude.{slice_get}
use Rattle.std.proofs.lemmas.Option.{same_Some}
use Rattle.b1_model.specs.declared.naming.Key.{Key}
use Rattle.b1_model.specs.declared.naming.NodeRef.{NodeRef}
use Rattle.b1_model.specs.declared.parts.Slot.{Slot}
use Rattle.b1_model.specs.declared.entries.Entry.{Entry}
use Rattle.b1_model.specs.declared.entries.Entry.TheVariants.{Message, OwnNotice, ForeignNotice, ReleaseNotice}
use Rattle.b1_model.specs.MachineParts.{is_data, carried, slots_of}
use Rattle.b1_step.specs.Rights.{Has}
use Rattle.b1_serial_bus.specs.Parts.{OwnNode, Part, Bus, at_peer}
use Rattle.b1_serial_bus.specs.Lives.{destroyed_at, destroyed_in}
use Rattle.b1_serial_rest.specs.Rest.{BoxesRight, sent_to, is_noticed_behind}

-- what a change of a peer leaves, for its box to stay right
pub record BoxKept (y z : Part) : Type 0 where
  pub me : z.me ≡ y.me
  pub nodes : z.nodes ≡ y.nodes
  -- no message comes
  pub comes : (f : Key × Entry) → Has z.box f → Has y.box f ⊎ (is_data f.1 ≡ false)
  -- the notices behind what is left stay
  pub noticed : (f : Key × Entry) (x : NodeRef) → Has z.box f → Has y.box f → is_noticed_behind f.0 x y ≡ true → is_noticed_behind f.0 x z ≡ true

-- a notice is sent to nobody, and has no slots
notice_unsent : (e : Entry) (serial : ℕ) → is_data e ≡ false → sent_to e ≡ Some serial → ⊥
notice_unsent (Message origin user index dest offset len nodes slots handles payload) serial is to = cc is
notice_unsent (OwnNotice mine index) serial is to = cc to
notice_unsent (ForeignNotice node index) serial is to = cc to
notice_unsent (ReleaseNotice mine) serial is to = cc to

notice_empty : (e : Entry) (c : NodeRef × Slot) → is_data e ≡ false → Has (zip (carried e) (slots_of e)) c → ⊥
notice_empty (Message origin user index dest offset len nodes slots handles payload) c is there = cc is
notice_empty (OwnNotice mine index) c is there = there
notice_empty (ForeignNotice node index) c is there = there
notice_empty (ReleaseNotice mine) c is there = there

-- the stamp of a node among nodes
abbrev pub stamp_in : List OwnNode → ℕ → Option ℕ
stamp_in nodes serial = elim (slice_get nodes serial) [ None ↦ None | Some n ↦ n.destroyed ]

module _ (g : Part → Part) (p : ℕ) where
  -- each peer after the change
  read : (bus : Bus) (q : ℕ) (z : Part) → ((y : Part) → slice_get bus p ≡ Some y → BoxKept y (g y)) → slice_get (at_peer p g bus) q ≡ Some z → (y : Part) × (slice_get bus q ≡ Some y) × BoxKept y z
  read bus q z kept is = by p bus q kept is
    where
      itself : (y : Part) → BoxKept y y
      itself y = record { me = refl; nodes = refl; comes = λ f there. inl there; noticed = λ f x there before is. is }

      by : (p : ℕ) (bus : Bus) (q : ℕ) → ((y : Part) → slice_get bus p ≡ Some y → BoxKept y (g y)) → slice_get (at_peer p g bus) q ≡ Some z → (y : Part) × (slice_get bus q ≡ Some y) × BoxKept y z
      by p [] q kept is = absurd (cc is)
      by zero (y ∷ ys) zero kept is = (y, refl, subst (BoxKept y) (same_Some (g y) z is) (kept y refl))
      by zero (y ∷ ys) (suc q) kept is = (z, is, itself z)
      by (suc p) (y ∷ ys) zero kept is = (z, is, itself z)
      by (suc p) (y ∷ ys) (suc q) kept is = by p ys q kept is

  nodes_at : (bus : Bus) (q : ℕ) → ((y : Part) → slice_get bus p ≡ Some y → BoxKept y (g y)) → option_map (λ y. y.nodes) (slice_get (at_peer p g bus) q) ≡ option_map (λ y. y.nodes) (slice_get bus q)
  nodes_at bus q kept = by p bus q kept
    where
      by : (p : ℕ) (bus : Bus) (q : ℕ) → ((y : Part) → slice_get bus p ≡ Some y → BoxKept y (g y)) → option_map (λ y. y.nodes) (slice_get (at_peer p g bus) q) ≡ option_map (λ y. y.nodes) (slice_get bus q)
      by p [] q kept = refl
      by zero (y ∷ ys) zero kept = ap Some (kept y refl).nodes
      by zero (y ∷ ys) (suc q) kept = refl
      by (suc p) (y ∷ ys) zero kept = refl
      by (suc p) (y ∷ ys) (suc q) kept = by p ys q kept

  -- the same nodes are destroyed
  pub destroyed_kept : (bus : Bus) (x : NodeRef) → ((y : Part) → slice_get bus p ≡ Some y → BoxKept y (g y)) → destroyed_in (at_peer p g bus) x ≡ destroyed_in bus x
  destroyed_kept bus x kept = by (slice_get (at_peer p g bus) x.owner) ∙ ap stamp (nodes_at bus x.owner kept) ∙ sym (by (slice_get bus x.owner))
    where
      stamp : Option (List OwnNode) → Option ℕ
      stamp r = elim r [ None ↦ None | Some nodes ↦ stamp_in nodes x.serial ]

      by : (r : Option Part) → elim r [ None ↦ None | Some y ↦ destroyed_at y x.serial ] ≡ stamp (option_map (λ y. y.nodes) r)
      by None = refl
      by (Some y) = refl

  -- and the boxes are right
  pub boxes_kept : (bus : Bus) → ((y : Part) → slice_get bus p ≡ Some y → BoxKept y (g y)) → BoxesRight bus → BoxesRight (at_peer p g bus)
  boxes_kept bus kept right = record {
    sent = λ q z f serial is there to dead.
        let y = read bus q z kept is in
        elim (y.2.comes f there) [
          | inl before ↦
              let node : NodeRef = record { owner = y.0.me; serial = serial } in
              let dead_then = ap (λ nodes. is_some (stamp_in nodes serial)) (sym y.2.nodes) ∙ dead in
              ap (λ me. is_noticed_behind f.0 (record { owner = me; serial = serial }) z) y.2.me
              ∙ y.2.noticed f node there before (right.sent q y.0 f serial y.1 before to dead_then)
          | inr notice ↦ absurd (notice_unsent f.1 serial notice to)
        ];
    filled = λ q z f c is there in_it not_void dead.
        let y = read bus q z kept is in
        elim (y.2.comes f there) [
          | inl before ↦ y.2.noticed f c.0 there before (right.filled q y.0 f c y.1 before in_it not_void (ap is_some (sym (destroyed_kept bus c.0 kept)) ∙ dead))
          | inr notice ↦ absurd (notice_empty f.1 c notice in_it)
        ];
    void = λ q z f c is there in_it is_void.
        let y = read bus q z kept is in
        elim (y.2.comes f there) [
          | inl before ↦ ap is_some (destroyed_kept bus c.0 kept) ∙ right.void q y.0 f c y.1 before in_it is_void
          | inr notice ↦ absurd (notice_empty f.1 c notice in_it)
        ];
  }
