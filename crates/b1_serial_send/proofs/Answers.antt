-- A destination's answer at the machine is that of the serial bus, whatever was staged before it.
use Rattle.std.proofs.Common.{◌≡◌, refl, sym, ap, ◌∙◌, ap₂, ℕ, ◌+◌, ◌*◌, ◌<◌, ◌==◌, Bool, false, cond, not, nat_lt, nat_le, List, [], ◌∷◌, ◌++◌, length, zip, Option, Some, None, option_map, is_some, arith}
use Rattle.std.specs.Prelude.{slice_get}
use Rattle.std.specs.Bool.{then_some}
use Rattle.std.proofs.lemmas.Bool.{eq-eqb}
use Rattle.std.proofs.lemmas.Option.{slice_get-get_or, slice_get-map}
use Rattle.b1_model.specs.declared.naming.NodeRef.{NodeRef}
use Rattle.b1_model.specs.declared.parts.NodeState.{NodeState}
use Rattle.b1_model.specs.declared.parts.NodeState.TheVariants.{Live, Dying, Destroyed}
use Rattle.b1_model.specs.declared.answers.Reason.{Reason}
use Rattle.b1_model.specs.declared.answers.Reason.TheVariants as reason
use Rattle.b1_model.specs.declared.answers.Quantity.{Quantity}
use Rattle.b1_model.specs.declared.answers.Quantity.TheVariants.{Entries, Bytes, Handles}
use Rattle.b1_model.specs.MachineParts.{PeerPart, DriverPart, no_node, node_at, is_live, is_dying, clock_limit}
use Rattle.b1_model.specs.MachinePool.{largest_free}
use Rattle.b1_model.specs.MachineTables as tables
use Rattle.b1_model.specs.MachineTables.{amount, charged, limit_of, within_quota}
use Rattle.b1_model.specs.MachineSend.{first_reason, stage_refusal}
use Rattle.b1_serial_bus.specs.Parts.{OwnNode, Part, Bus}
use Rattle.b1_serial_bus.specs.Lives.{destroyed_at}
use Rattle.b1_serial_bus.specs.Letters.{Letter, Places, letter_len, accepted_by}
use Rattle.b1_serial_bus.specs.Places.{after_taken, over_quota, place_reasons, answer_of}
use Rattle.b1_serial_rest.specs.Standing.{stamp_of, own_of, part_of}
use Rattle.b1_serial_send.proofs.Midway.{Answered, over, stage_at}
use Rattle.b1_serial_send.proofs.Charges.{count_at, counted_so, stages_leave, stages_take, stages_charge}

-- ---- first reasons

-- one more reason at the end comes where there is none before it
pub first_of_more : (rs : List (Option Reason)) (r : Option Reason) → first_reason (rs ++ r ∷ []) ≡ elim (first_reason rs) [ None ↦ r | Some a ↦ Some a ]
first_of_more [] None = refl
first_of_more [] (Some a) = refl
first_of_more (None ∷ rest) r = first_of_more rest r
first_of_more (Some a ∷ rest) r = refl

-- ---- lives

abbrev stamp_read : Option OwnNode → Option ℕ
stamp_read r = elim r [ None ↦ None | Some n ↦ n.destroyed ]

-- a node that was made and isn't dying is destroyed, or it takes messages
pub destroyed_so : (x : PeerPart) (d : DriverPart) (serial : ℕ) → serial < length x.nodes → is_dying (node_at x serial).state ≡ false → destroyed_at (part_of x d) serial ≡ stamp_of (node_at x serial).state
destroyed_so x d serial made living =
    ap stamp_read (slice_get-map own_of x.nodes serial)
    ∙ ap (λ r. stamp_read (option_map own_of r)) (slice_get-get_or x.nodes serial no_node made)

live_so : (n : NodeState) → is_dying n ≡ false → is_some (stamp_of n) ≡ not (is_live n)
live_so Live living = refl
live_so Dying dying = absurd (cc dying)
live_so (Destroyed stamp) living = refl

-- ---- the answer

module _ (s : Letter) (place : ℕ) (ds : Answered) (x : PeerPart) (d : DriverPart) where
  -- the part with the letter staged
  abbrev then : PeerPart
  then = over (stage_at s) place ds x

  abbrev n : ℕ
  n = count_at x.me ds

  abbrev y : Part
  y = part_of x d

  quota_so : (what : Quantity) → tables.over_quota (record x { slices = then.slices; handles = then.handles; queue = then.queue }) s.user (length s.payload) (length s.with) what ≡ over_quota s n y what
  quota_so what = ap₂ (λ own others. cond (within_quota (s.user == x.user) own others (limit_of what x.limits) (amount what (length s.payload) (length s.with))) None (Some (reason.Quota what own others (limit_of what x.limits) (amount what (length s.payload) (length s.with))))) own_so others_so
    where
      own_so : charged what (λ u. u == s.user) then.queue ≡ charged what (λ u. u == s.user) x.queue + n * amount what (length s.payload) (length s.with)
      own_so = stages_charge what (λ u. u == s.user) s place ds x ∙ ap (λ b. charged what (λ u. u == s.user) x.queue + n * cond b (amount what (length s.payload) (length s.with)) 0) (eq-eqb s.user s.user refl)

      others_so : charged what (λ u. not (u == s.user)) then.queue ≡ charged what (λ u. not (u == s.user)) x.queue
      others_so =
          stages_charge what (λ u. not (u == s.user)) s place ds x
          ∙ ap (λ b. charged what (λ u. not (u == s.user)) x.queue + n * cond (not b) (amount what (length s.payload) (length s.with)) 0) (eq-eqb s.user s.user refl)
          ∙ omega arith

  module _ (serial : ℕ) (made : serial < length x.nodes) (living : is_dying (node_at x serial).state ≡ false) where
    lives : not (is_live (node_at x serial).state) ≡ is_some (destroyed_at y serial)
    lives = sym (ap is_some (destroyed_so x d serial made living) ∙ live_so (node_at x serial).state living)

    abbrev without_memory : Bool → Option Reason → Option Reason → Option Reason → ℕ → List (Option Reason)
    without_memory dead one two three largest =
        then_some dead (reason.Gone x.me serial) ∷
        then_some (nat_le clock_limit x.clock) (reason.Overflow x.clock) ∷
        one ∷ two ∷ three ∷
        then_some (nat_lt largest (letter_len s)) (reason.Full (letter_len s) largest) ∷ []

    refusal_so : stage_refusal then s.user serial (length s.payload) (length s.with)
        ≡ first_reason (without_memory (is_some (destroyed_at y serial)) (over_quota s n y Entries) (over_quota s n y Bytes) (over_quota s n y Handles) (largest_free (after_taken (letter_len s) n x.slices)))
    refusal_so =
        ap (λ z. stage_refusal z s.user serial (length s.payload) (length s.with)) (stages_leave s place ds x)
        ∙ ap (λ b. first_reason (without_memory b (quota Entries) (quota Bytes) (quota Handles) (largest_free then.slices))) lives
        ∙ ap (λ r. first_reason (without_memory (is_some (destroyed_at y serial)) r (quota Bytes) (quota Handles) (largest_free then.slices))) (quota_so Entries)
        ∙ ap (λ r. first_reason (without_memory (is_some (destroyed_at y serial)) (over_quota s n y Entries) r (quota Handles) (largest_free then.slices))) (quota_so Bytes)
        ∙ ap (λ r. first_reason (without_memory (is_some (destroyed_at y serial)) (over_quota s n y Entries) (over_quota s n y Bytes) r (largest_free then.slices))) (quota_so Handles)
        ∙ ap (λ sl. first_reason (without_memory (is_some (destroyed_at y serial)) (over_quota s n y Entries) (over_quota s n y Bytes) (over_quota s n y Handles) (largest_free sl))) (stages_take s place ds x)
      where
        quota : Quantity → Option Reason
        quota what = tables.over_quota (record x { slices = then.slices; handles = then.handles; queue = then.queue }) s.user (length s.payload) (length s.with) what

    -- the first reason of the serial bus is the machine's, or else want of memory
    pub reasons_so : (short : Bool) → first_reason (place_reasons s n y serial short) ≡ elim (stage_refusal then s.user serial (length s.payload) (length s.with)) [ None ↦ then_some short reason.Memory | Some r ↦ Some r ]
    reasons_so short =
        first_of_more (without_memory (is_some (destroyed_at y serial)) (over_quota s n y Entries) (over_quota s n y Bytes) (over_quota s n y Handles) (largest_free (after_taken (letter_len s) n x.slices))) (then_some short reason.Memory)
        ∙ ap (λ r. elim r [ None ↦ then_some short reason.Memory | Some a ↦ Some a ]) (sym refusal_so)

-- what a destination answers behind the earlier places
pub answer_so : (bus : Bus) (s : Letter) (places : Places) (to : NodeRef) (x : PeerPart) (d : DriverPart) (short : Bool)
    → slice_get bus to.owner ≡ Some (part_of x d) → x.me ≡ to.owner → to.serial < length x.nodes → is_dying (node_at x to.serial).state ≡ false
    → answer_of bus s places to short ≡ elim (stage_refusal (over (stage_at s) 0 (zip s.to places) x) s.user to.serial (length s.payload) (length s.with)) [ None ↦ then_some short reason.Memory | Some r ↦ Some r ]
answer_so bus s places to x d short there me_is made living =
    ap (λ r. elim r [ None ↦ None | Some y ↦ first_reason (place_reasons s (accepted_by to.owner s places) y to.serial short) ]) there
    ∙ ap (λ k. first_reason (place_reasons s k (part_of x d) to.serial short)) (counted_so to.owner (zip s.to places) ∙ ap (λ q. count_at q (zip s.to places)) (sym me_is))
    ∙ reasons_so s 0 (zip s.to places) x d to.serial made living short
