-- A peer that has no command left, or waits with an empty box: a round leaves it as it is.
use Rattle.std.specs.Prelude.{◌≡◌, refl, ℕ, zero, suc, ◌≢◌, ◌==◌, Bool, true, false, ◌&&◌, ◌||◌, not, if◌then◌else◌, List, [], ◌∷◌, length, fold, slice_get, Option, Some, None, ⊤}
use Rattle.std.proofs.Common.{arith, sym, ap, ◌∙◌}
use Rattle.std.proofs.lemmas.Option.{same_Some}
use Rattle.b1_model.specs.declared.naming.Key.{Key}
use Rattle.b1_model.specs.declared.entries.Entry.{Entry}
use Rattle.b1_model.specs.declared.commands.Command.{Command}
use Rattle.b1_model.specs.declared.commands.Command.TheVariants as cmd
use Rattle.b1_schedule.specs.Shortage.{Shortage}
use Rattle.b1_serial_bus.specs.Parts.{Part, Bus, at_peer}
use Rattle.b1_serial_bus.specs.Receive.{is_empty, without_discards, cleared, waits}
use Rattle.b1_serial_bus.specs.Commands.{after_command_of}
use Rattle.b1_serial_bus.specs.Rounds.{Going, is_waiting, attempted, run, commands_left, round_at}

-- ---- changes of one peer

pub at_same : (p : ℕ) (f : Part → Part) (bus : Bus) (x : Part) → slice_get bus p ≡ Some x → slice_get (at_peer p f bus) p ≡ Some (f x)
at_same p f [] x e = cc
at_same zero f (y ∷ ys) x e = ap (λ z. Some (f z)) (same_Some y x e)
at_same (suc p) f (y ∷ ys) x e = at_same p f ys x e

pub at_other : (p q : ℕ) (f : Part → Part) (bus : Bus) → q ≢ p → slice_get (at_peer p f bus) q ≡ slice_get bus q
at_other p q f [] apart = refl
at_other zero zero f (y ∷ ys) apart = absurd (apart refl)
at_other zero (suc q) f (y ∷ ys) apart = refl
at_other (suc p) zero f (y ∷ ys) apart = refl
at_other (suc p) (suc q) f (y ∷ ys) apart = at_other p q f ys (λ e. apart (ap suc e))

-- a change that leaves the peer leaves the bus
pub at_fixed : (p : ℕ) (f : Part → Part) (bus : Bus) (x : Part) → slice_get bus p ≡ Some x → f x ≡ x → at_peer p f bus ≡ bus
at_fixed p f [] x e fixed = refl
at_fixed zero f (y ∷ ys) x e fixed = let same : y ≡ x = same_Some y x e in ap (λ z. z ∷ ys) (ap f same ∙ fixed ∙ sym same)
at_fixed (suc p) f (y ∷ ys) x e fixed = ap (λ zs. y ∷ zs) (at_fixed p f ys x e fixed)

-- ---- waiting

pub empty_box : (box : List (Key × Entry)) → is_empty box ≡ true → box ≡ []
empty_box [] e = refl
empty_box (f ∷ rest) e = let none : suc (length rest) ≡ 0 = is_zero (suc (length rest)) e in absurd (omega (arith, none))
  where
    is_zero : (n : ℕ) → (n == 0) ≡ true → n ≡ 0
    is_zero n h = grind arith

-- where an attempt waits, nothing is left in the box, and another one waits too
pub waits_empty : (x : Part) → waits x ≡ true → (cleared x).box ≡ []
waits_empty x w = empty_box (cleared x).box (by x.shut (is_empty (cleared x).box) w)
  where
    by : (a b : Bool) → (not a && b) ≡ true → b ≡ true
    by false b e = e
    by true b e = cc

pub waits_again : (x : Part) → waits x ≡ true → waits (cleared x) ≡ true
waits_again x w = rw (waits_empty x w) (by x.shut (is_empty (cleared x).box) w)
  where
    by : (a b : Bool) → (not a && b) ≡ true → (not a && true) ≡ true
    by false b e = refl
    by true b e = cc

-- only an AWAIT waits
pub waiting_waits : (c : Command) (x : Part) → is_waiting c x ≡ true → waits x ≡ true
waiting_waits cmd.Await x w = w
waiting_waits cmd.Disconnect x w = cc
waiting_waits cmd.Query x w = cc
waiting_waits (cmd.Reset limits) x w = cc
waiting_waits (cmd.Limit limits) x w = cc
waiting_waits (cmd.Release number) x w = cc
waiting_waits (cmd.Destroy numbers) x w = cc
waiting_waits (cmd.SliceRelease offset) x w = cc
waiting_waits (cmd.Send c) x w = cc
waiting_waits cmd.Recv x w = cc

pub waiting_again : (c : Command) (x : Part) → is_waiting c x ≡ true → is_waiting c (cleared x) ≡ true
waiting_again cmd.Await x w = waits_again x w
waiting_again cmd.Disconnect x w = cc
waiting_again cmd.Query x w = cc
waiting_again (cmd.Reset limits) x w = cc
waiting_again (cmd.Limit limits) x w = cc
waiting_again (cmd.Release number) x w = cc
waiting_again (cmd.Destroy numbers) x w = cc
waiting_again (cmd.SliceRelease offset) x w = cc
waiting_again (cmd.Send c) x w = cc
waiting_again cmd.Recv x w = cc

-- ---- settled

-- its first command left waits, and its box is empty
abbrev pub SettledBy : List Command → Part → Type 0
SettledBy [] x = ⊤
SettledBy (c ∷ rest) x = (is_waiting c x ≡ true) × (x.box ≡ [])

-- the same of the commands that it has left
abbrev pub Settled : List (List Command) → Part → Type 0
Settled lists x = SettledBy (commands_left lists x) x

-- discards leave an empty box
pub cleared_empty : (x : Part) → x.box ≡ [] → cleared x ≡ x
cleared_empty x empty = ap (λ box. record x { box = box }) (ap (without_discards x) empty ∙ sym empty)

-- a round leaves a settled peer as it is
module _ (lists : List (List Command)) (m : Shortage) where
  run_settled : (p : ℕ) (g : Going) (x : Part) (cs : List Command) → slice_get g.bus p ≡ Some x → x.me ≡ p → SettledBy cs x → run m p cs g ≡ g
  run_settled p g x [] there me settled = refl
  run_settled p g x (c ∷ rest) there me settled = by (slice_get g.bus p) there
    where
      stays : attempted x g ≡ g
      stays =
          let bus : at_peer x.me cleared g.bus ≡ g.bus = at_fixed x.me cleared g.bus x (ap (slice_get g.bus) me ∙ there) (cleared_empty x settled.1) in
          let gained : (g.gained || not (is_empty x.box)) ≡ g.gained = rw settled.1 (none g.gained) in
          rw (bus, gained) refl
        where
          none : (b : Bool) → (b || false) ≡ b
          none false = refl
          none true = refl

      by : (found : Option Part) → found ≡ Some x → elim found [ None ↦ g | Some y ↦ if is_waiting c y then attempted y g else run m p rest (record { bus = after_command_of m p c g.bus; gained = true }) ] ≡ g
      by None e = cc
      by (Some y) e = rw (same_Some y x e, settled.0) stays

  pub round_settled : (p : ℕ) (g : Going) → ((x : Part) → slice_get g.bus p ≡ Some x → (x.me ≡ p) × Settled lists x) → round_at lists m g p ≡ g
  round_settled p g settled = by (slice_get g.bus p) refl
    where
      by : (found : Option Part) → slice_get g.bus p ≡ found → elim found [ None ↦ g | Some x ↦ run m p (commands_left lists x) g ] ≡ g
      by None e = refl
      by (Some x) e = let s = settled x e in run_settled p g x (commands_left lists x) e s.0 s.1

  -- a round of settled peers changes nothing
  pub rounds_settled : (ps : List ℕ) (g : Going) → ((p : ℕ) (x : Part) → slice_get g.bus p ≡ Some x → (x.me ≡ p) × Settled lists x) → fold (round_at lists m) g ps ≡ g
  rounds_settled [] g settled = refl
  rounds_settled (p ∷ ps) g settled = ap (λ h. fold (round_at lists m) h ps) (round_settled p g (settled p)) ∙ rounds_settled ps g settled
