-- What of a peer of the serial bus its own small commands leave: its number, its nodes, its lines and its box.
use Rattle.std.proofs.Common.{◌≡◌, refl, sym, ap, ◌∙◌, subst, ℕ, zero, suc, ◌&&◌, Bool, true, false, List, [], ◌∷◌, Option, Some, None, option_map, is_some}
use Rattle.std.specs.Prelude.{slice_get}
use Rattle.std.specs.List.{list_any}
use Rattle.std.proofs.lemmas.Option.{same_Some}
use Rattle.b1_model.specs.declared.naming.Key.{Key}
use Rattle.b1_model.specs.declared.naming.NodeRef.{NodeRef}
use Rattle.b1_model.specs.declared.entries.Entry.{Entry}
use Rattle.b1_model.specs.declared.commands.Command.{Command}
use Rattle.b1_model.specs.declared.commands.Command.TheVariants as cmd
use Rattle.b1_model.specs.MachinePool.{is_received}
use Rattle.b1_model.specs.MachineParts.{key_before}
use Rattle.b1_step.specs.Rights.{Has}
use Rattle.b1_serial_bus.specs.Parts.{OwnNode, HeldLine, Part, Bus, at_peer}
use Rattle.b1_serial_bus.specs.Lives.{destroyed_in}
use Rattle.b1_serial_bus.specs.Small.{slice_released}
use Rattle.b1_serial_rest.specs.Rest.{BoxesRight, is_notice_of, is_noticed_behind}
use Rattle.b1_serial_rest.proofs.Local.{small_change, alone_change}

-- what is left
pub record Shown : Type 0 where
  pub me : ℕ
  pub nodes : List OwnNode
  pub lines : List HeldLine
  pub box : List (Key × Entry)

abbrev pub shown : Part → Shown
shown y = record { me = y.me; nodes = y.nodes; lines = y.lines; box = y.box }

-- a small command leaves it
small_shown : (command : Command) (y : Part) → shown (small_change command y) ≡ shown y
small_shown (cmd.Send c) y = refl
small_shown cmd.Recv y = refl
small_shown cmd.Await y = refl
small_shown (cmd.Release number) y = refl
small_shown (cmd.Destroy numbers) y = refl
small_shown (cmd.Reset limits) y = refl
small_shown cmd.Disconnect y = refl
small_shown (cmd.SliceRelease offset) y = by (is_received offset y.slices) refl
  where
    by : (b : Bool) → is_received offset y.slices ≡ b → shown (slice_released offset y) ≡ shown y
    by true inside = rw inside refl
    by false outside = rw outside refl
small_shown cmd.Query y = refl
small_shown (cmd.Limit limits) y = refl

pub alone_shown : (shut : Bool) (command : Command) (y : Part) → shown (alone_change shut command y) ≡ shown y
alone_shown true command y = refl
alone_shown false command y = small_shown command y

module _ (g : Part → Part) (keeps : (y : Part) → shown (g y) ≡ shown y) where
  -- each peer after the change was one with the same
  pub read_shown : (bus : Bus) (p q : ℕ) (z : Part) → slice_get (at_peer p g bus) q ≡ Some z → (y : Part) × (slice_get bus q ≡ Some y) × (shown z ≡ shown y)
  read_shown [] p q z is = absurd (cc is)
  read_shown (y ∷ ys) zero zero z is = (y, refl, ap shown (sym (same_Some (g y) z is)) ∙ keeps y)
  read_shown (y ∷ ys) zero (suc q) z is = (z, is, refl)
  read_shown (y ∷ ys) (suc p) zero z is = (y, refl, ap shown (sym (same_Some y z is)))
  read_shown (y ∷ ys) (suc p) (suc q) z is = read_shown ys p q z is

  shown_at : (bus : Bus) (p q : ℕ) → option_map shown (slice_get (at_peer p g bus) q) ≡ option_map shown (slice_get bus q)
  shown_at [] p q = refl
  shown_at (y ∷ ys) zero zero = ap Some (keeps y)
  shown_at (y ∷ ys) zero (suc q) = refl
  shown_at (y ∷ ys) (suc p) zero = refl
  shown_at (y ∷ ys) (suc p) (suc q) = shown_at ys p q

  -- so the same nodes are destroyed
  pub destroyed_same : (bus : Bus) (p : ℕ) (x : NodeRef) → destroyed_in (at_peer p g bus) x ≡ destroyed_in bus x
  destroyed_same bus p x = by (slice_get (at_peer p g bus) x.owner) ∙ ap stamp (shown_at bus p x.owner) ∙ sym (by (slice_get bus x.owner))
    where
      stamp : Option Shown → Option ℕ
      stamp r = elim r [ None ↦ None | Some y ↦ elim (slice_get y.nodes x.serial) [ None ↦ None | Some n ↦ n.destroyed ] ]

      by : (r : Option Part) → elim r [ None ↦ None | Some y ↦ elim (slice_get y.nodes x.serial) [ None ↦ None | Some n ↦ n.destroyed ] ] ≡ stamp (option_map shown r)
      by None = refl
      by (Some y) = refl

  -- and the boxes are right
  pub boxes_same : (bus : Bus) (p : ℕ) → BoxesRight bus → BoxesRight (at_peer p g bus)
  boxes_same bus p right = record {
    sent = λ q z f serial is there to dead.
        let y = read_shown bus p q z is in
        let dead_then = ap (λ v. is_some (elim (slice_get v.nodes serial) [ None ↦ None | Some n ↦ n.destroyed ])) (sym y.2) ∙ dead in
        noticed z y.0 f.0 (record { owner = z.me; serial = serial }) y.2
        ∙ ap (λ v. is_noticed_behind f.0 (record { owner = v.me; serial = serial }) y.0) y.2
        ∙ right.sent q y.0 f serial y.1 (subst (λ v. Has v.box f) y.2 there) to dead_then;
    filled = λ q z f c is there in_it not_void dead.
        let y = read_shown bus p q z is in
        noticed z y.0 f.0 c.0 y.2 ∙ right.filled q y.0 f c y.1 (subst (λ v. Has v.box f) y.2 there) in_it not_void (ap is_some (sym (destroyed_same bus p c.0)) ∙ dead);
    void = λ q z f c is there in_it is_void.
        let y = read_shown bus p q z is in
        ap is_some (destroyed_same bus p c.0) ∙ right.void q y.0 f c y.1 (subst (λ v. Has v.box f) y.2 there) in_it is_void;
  }
    where
      noticed : (z y : Part) (k : Key) (x : NodeRef) → shown z ≡ shown y → is_noticed_behind k x z ≡ is_noticed_behind k x y
      noticed z y k x same = ap (λ v. list_any (λ f. is_notice_of v.me x f.1 && key_before k f.0) v.box) same
