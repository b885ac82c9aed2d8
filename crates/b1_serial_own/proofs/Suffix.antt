-- A box of which the front leaves stays right.
use Rattle.std.proofs.Common.{◌≡◌, ◌⊎◌, refl, sym, ap, ◌∙◌, subst, inl, inr, Bool, true, false, cond, ◌&&◌, List, [], ◌∷◌, ◌++◌, fold, map, zip, is_some, append_assoc, ◌+◌}
use Rattle.std.specs.List.{list_any}
use Rattle.std.proofs.lemmas.Bool.{and_parts}
use Rattle.b1_model.specs.declared.naming.Key.{Key}
use Rattle.b1_model.specs.declared.naming.NodeRef.{NodeRef}
use Rattle.b1_model.specs.declared.parts.Slot.{Slot}
use Rattle.b1_model.specs.declared.parts.Slot.TheVariants as slot
use Rattle.b1_model.specs.declared.entries.Entry.{Entry}
use Rattle.b1_model.specs.declared.entries.Entry.TheVariants.{Message, OwnNotice, ForeignNotice, ReleaseNotice}
use Rattle.b1_model.specs.MachineParts.{key_before}
use Rattle.b1_model.specs.MachinePool.{published}
use Rattle.b1_step.specs.Rights.{Has}
use Rattle.b1_step.specs.Ordered.{Ascending}
use Rattle.b1_step.proofs.Lists.{has_right, has_append}
use Rattle.b1_step.proofs.Orders.{behind_has, key_trans, key_not_itself}
use Rattle.b1_inv_refs.proofs.SameWires.{any_has}
use Rattle.b1_inv_ends.proofs.Ending.{there_any}
use Rattle.b1_serial_bus.specs.Parts.{Part}
use Rattle.b1_serial_bus.specs.Named.{line_of}
use Rattle.b1_serial_bus.specs.References.{raised, new_line, with_reference}
use Rattle.b1_serial_bus.specs.Arrival.{Arriving, arrives, taken_entry}
use Rattle.b1_serial_bus.specs.Receive.{is_for_nobody, without_discards, cleared, received_from, received}
use Rattle.b1_serial_rest.specs.Rest.{is_notice_of}
use Rattle.b1_serial_own.proofs.BoxKept.{BoxKept}

-- what is in front of a queue has lesser keys
before_all : (xs ys : List (Key × Entry)) (f g : Key × Entry) → Ascending (xs ++ ys) → Has xs g → Has ys f → key_before g.0 f.0 ≡ true
before_all [] ys f g up there behind = absurd there
before_all (h ∷ xs) ys f g up (inl same) behind = ap (λ z. key_before z.0 f.0) same ∙ behind_has h.0 (xs ++ ys) f up.0 (has_right xs ys f behind)
before_all (h ∷ xs) ys f g up (inr there) behind = before_all xs ys f g up.1 there behind

-- a peer whose box lost its front
pub suffix_kept : (y z : Part) (front : List (Key × Entry)) → z.me ≡ y.me → z.nodes ≡ y.nodes → y.box ≡ front ++ z.box → Ascending y.box → BoxKept y z
suffix_kept y z front me nodes box up = record {
  me = me;
  nodes = nodes;
  comes = λ f there. inl (subst (λ l. Has l f) (sym box) (has_right front z.box f there));
  noticed = λ f x there before is.
      let found = any_has (λ g. is_notice_of y.me x g.1 && key_before f.0 g.0) y.box is in
      let both = and_parts (is_notice_of y.me x found.0.1) (key_before f.0 found.0.0) found.2 in
      let stays : Has z.box found.0 = behind f found.0 there both.1 (has_append front z.box found.0 (subst (λ l. Has l found.0) box found.1)) in
      ap (λ q. list_any (λ g. is_notice_of q x g.1 && key_before f.0 g.0) z.box) me
      ∙ there_any (λ g. is_notice_of y.me x g.1 && key_before f.0 g.0) z.box found.0 stays found.2;
}
  where
    behind : (f g : Key × Entry) → Has z.box f → key_before f.0 g.0 ≡ true → Has front g ⊎ Has z.box g → Has z.box g
    behind f g there after (inl gone) = absurd (cc (sym (key_trans f.0 g.0 f.0 after (before_all front z.box f g (subst Ascending box up) gone there)) ∙ key_not_itself f.0))
    behind f g there after (inr kept) = kept

-- the discards are the front of a box
discards_front : (y : Part) (box : List (Key × Entry)) → (front : List (Key × Entry)) × (box ≡ front ++ without_discards y box)
discards_front y [] = ([], refl)
discards_front y (f ∷ rest) = by (discards_front y rest) (is_for_nobody y f.1)
  where
    by : (front : List (Key × Entry)) × (rest ≡ front ++ without_discards y rest) → (b : Bool) → (front : List (Key × Entry)) × (f ∷ rest ≡ front ++ cond b (without_discards y rest) (f ∷ rest))
    by further true = (f ∷ further.0, ap (λ l. f ∷ l) further.1)
    by further false = ([], refl)

-- what arrives changes neither nodes nor box
pub record SameBox (y z : Part) : Type 0 where
  pub me : z.me ≡ y.me
  pub nodes : z.nodes ≡ y.nodes
  pub box : z.box ≡ y.box

same_trans : (u v w : Part) → SameBox u v → SameBox v w → SameBox u w
same_trans u v w a b = record { me = b.me ∙ a.me; nodes = b.nodes ∙ a.nodes; box = b.box ∙ a.box }

pub reference_box : (x : NodeRef) (y : Part) → SameBox y (with_reference x y)
reference_box x y = by (is_some (line_of x y.lines))
  where
    by : (b : Bool) → SameBox y (cond b (record y { lines = map (raised x) y.lines }) (record y { lines = y.lines ++ new_line y.given x ∷ []; given = y.given + 1 }))
    by true = record { me = refl; nodes = refl; box = refl }
    by false = record { me = refl; nodes = refl; box = refl }

arrives_box : (a : Arriving) (x : NodeRef) (t : Slot) → SameBox a.part (arrives a (x, t)).part
arrives_box a x slot.Unattached = record { me = refl; nodes = refl; box = refl }
arrives_box a x slot.Void = record { me = refl; nodes = refl; box = refl }
arrives_box a x slot.Own = record { me = refl; nodes = refl; box = refl }
arrives_box a x slot.Attached = reference_box x a.part

all_box : (cs : List (NodeRef × Slot)) (a : Arriving) → SameBox a.part (fold arrives a cs).part
all_box [] a = record { me = refl; nodes = refl; box = refl }
all_box ((x, t) ∷ rest) a = same_trans a.part (arrives a (x, t)).part (fold arrives (arrives a (x, t)) rest).part (arrives_box a x t) (all_box rest (arrives a (x, t)))

taken_box : (k : Key) (e : Entry) (y : Part) → SameBox y (taken_entry k e y).1
taken_box k (Message origin user index serial offset len nodes slots handles payload) y =
    let b = all_box (zip nodes slots) (record { part = record y { slices = published offset y.slices }; numbers = [] }) in
    record { me = b.me; nodes = b.nodes; box = b.box }
taken_box k (OwnNotice serial index) y = record { me = refl; nodes = refl; box = refl }
taken_box k (ForeignNotice node index) y = record { me = refl; nodes = refl; box = refl }
taken_box k (ReleaseNotice serial) y = record { me = refl; nodes = refl; box = refl }

-- ---- an attempt to receive

pub cleared_kept : (y : Part) → Ascending y.box → BoxKept y (cleared y)
cleared_kept y up = let k = discards_front y y.box in suffix_kept y (cleared y) k.0 refl refl k.1 up

pub received_kept : (y : Part) → Ascending y.box → BoxKept y (received y)
received_kept y up = let k = discards_front y y.box in by k.0 (without_discards y y.box) k.1
  where
    by : (front box : List (Key × Entry)) → y.box ≡ front ++ box → BoxKept y (received_from box (record y { box = box }))
    by front [] is = suffix_kept y (received_from [] (record y { box = [] })) front refl refl is up
    by front (f ∷ rest) is =
        let k = taken_box f.0 f.1 (record y { box = rest }) in
        suffix_kept y (received_from (f ∷ rest) (record y { box = f ∷ rest })) (front ++ f ∷ []) k.me k.nodes (is ∙ sym (append_assoc front (f ∷ []) rest) ∙ ap (λ l. (front ++ f ∷ []) ++ l) (sym k.box)) up
