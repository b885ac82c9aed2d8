-- A reference that is given up leaves the boxes right.
use Rattle.std.proofs.Common.{◌≡◌, ◌⊎◌, refl, ap, ◌∙◌, inl, inr, ℕ, max, Bool, true, false, ◌&&◌, not, is_none}
use Rattle.b1_model.specs.declared.naming.Key.{Key}
use Rattle.b1_model.specs.declared.naming.NodeRef.{NodeRef}
use Rattle.b1_model.specs.declared.entries.Entry.{Entry}
use Rattle.b1_model.specs.declared.entries.Entry.TheVariants.{ReleaseNotice}
use Rattle.b1_model.specs.MachineParts.{is_data, is_release_notice, no_origin, key_before}
use Rattle.b1_model.specs.MachineTables.{without}
use Rattle.b1_step.specs.Rights.{Has}
use Rattle.b1_step.proofs.Queues.{any_put, put_has, without_has}
use Rattle.b1_serial_bus.specs.Parts.{Part, Bus, key_of}
use Rattle.b1_serial_bus.specs.Lives.{destroyed_at}
use Rattle.b1_serial_bus.specs.References.{is_abroad}
use Rattle.b1_serial_bus.specs.GivenUp.{with_release_notice, noticed, told, given_up}
use Rattle.b1_serial_rest.specs.Rest.{BoxesRight, is_notice_of, is_noticed_behind}
use Rattle.b1_serial_own.proofs.BoxKept.{BoxKept, boxes_kept}
use Rattle.b1_serial_own.proofs.Dropped.{any_left, notice_is}

-- a release notice is no destroy notice
unended : (me : ℕ) (k : Key) (x : NodeRef) (serial : ℕ) (f : Key × Entry) → is_release_notice serial f ≡ true → is_notice_of me x f.1 && key_before k f.0 ≡ false
unended me k x serial f is = ap (λ g. is_notice_of me x g.1 && key_before k g.0) (notice_is serial f is)

-- the destroy notices in a box stay where a release notice comes
noticed_behind : (k : Key) (x : NodeRef) (serial : ℕ) (z : Part) → is_noticed_behind k x (with_release_notice serial z) ≡ is_noticed_behind k x z
noticed_behind k x serial z =
    any_put (λ f. is_notice_of z.me x f.1 && key_before k f.0) (key_of z.clock no_origin serial) (ReleaseNotice serial) (without (is_release_notice serial) z.box)
    ∙ any_left (λ f. is_notice_of z.me x f.1 && key_before k f.0) (is_release_notice serial) z.box (unended z.me k x serial)

comes : (serial : ℕ) (z : Part) (f : Key × Entry) → Has (with_release_notice serial z).box f → Has z.box f ⊎ (is_data f.1 ≡ false)
comes serial z f there = elim (put_has (key_of z.clock no_origin serial) (ReleaseNotice serial) (without (is_release_notice serial) z.box) f there) [
  | inl new ↦ inr (ap (λ g. is_data g.1) new)
  | inr old ↦ inl (without_has (is_release_notice serial) z.box f old)
]

pub told_kept : (clock : ℕ) (abroad : Bool) (serial : ℕ) (z : Part) → BoxKept z (told clock abroad serial z)
told_kept clock abroad serial z = by (is_none (destroyed_at z serial) && not abroad)
  where
    by : (b : Bool) → BoxKept z (noticed b serial (record z { clock = max z.clock clock }))
    by false = record { me = refl; nodes = refl; comes = λ f there. inl there; noticed = λ f x there before is. is }
    by true = record {
      me = refl;
      nodes = refl;
      comes = comes serial (record z { clock = max z.clock clock });
      noticed = λ f x there before is. noticed_behind f.0 x serial (record z { clock = max z.clock clock }) ∙ is;
    }

pub given_boxes : (clock : ℕ) (bus : Bus) (x : NodeRef) → BoxesRight bus → BoxesRight (given_up clock bus x)
given_boxes clock bus x right = boxes_kept (told clock (is_abroad x bus) x.serial) x.owner bus (λ y is. told_kept clock (is_abroad x bus) x.serial y) right
