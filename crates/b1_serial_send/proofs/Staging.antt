-- The stages of a SEND, one destination after another, each answered as the serial bus does.
use Rattle.std.proofs.Common.{◌≡◌, refl, sym, ap, ◌∙◌, subst, inl, inr, ℕ, ◌<◌, max, Bool, true, false, cond, nat_lt, List, [], ◌∷◌, ◌++◌, map, fold, length, zip, Option, Some, None, Ok, Err, arith}
use Rattle.std.specs.Prelude.{slice_get}
use Rattle.std.specs.Bool.{then_some}
use Rattle.std.proofs.lemmas.Bool.{ltb-true, lt-ltb, false_from_ne_true}
use Rattle.std.proofs.lemmas.List.{append_assoc, append-nil, length-append, map-append}
use Rattle.std.proofs.lemmas.Option.{same_Some, get_or_from_slice_get}
use Rattle.std.proofs.lemmas.List.Sums.{fold-append}
use Rattle.b1_model.specs.declared.naming.NodeRef.{NodeRef}
use Rattle.b1_model.specs.declared.naming.Opening.{Opening}
use Rattle.b1_model.specs.declared.commands.Command.TheVariants as cmd
use Rattle.b1_model.specs.declared.commands.SendCmd.{SendCmd}
use Rattle.b1_model.specs.declared.parts.Begun.{Begun}
use Rattle.b1_model.specs.declared.answers.Answer.{Answer}
use Rattle.b1_model.specs.declared.answers.Reason.{Reason}
use Rattle.b1_model.specs.declared.answers.Reason.TheVariants as reason
use Rattle.b1_model.specs.declared.events.Phase.{Phase}
use Rattle.b1_model.specs.declared.events.Phase.TheVariants.{Starting, Staging}
use Rattle.b1_model.specs.declared.events.Outcome.{Outcome}
use Rattle.b1_model.specs.declared.events.Outcome.TheVariants as out
use Rattle.b1_model.specs.MachineParts.{PeerPart, DriverPart, State, node_at, is_dying}
use Rattle.b1_model.specs.MachineSend.{stage_refusal, staged}
use Rattle.b1_model.specs.MachineDriver.{Turn, Goes, no_ref, node_of_place, accepted_from, is_place, all_refused, attaching, all_staged, staging, unstaging, place_done}
use Rattle.b1_model.specs.MachineDriver as driver
use Rattle.b1_model.specs.MachineTook.{took, turned, goes_by, is_done, answer_of}
use Rattle.b1_model.specs.MachineEvents.{user_of, stage_by, stage_event}
use Rattle.b1_model.specs.MachineStep.{effect}
use Rattle.b1_schedule.specs.Shortage.{Shortage}
use Rattle.b1_step.specs.Rights.{Has}
use Rattle.b1_serial_bus.specs.Parts.{Bus}
use Rattle.b1_serial_bus.specs.Letters.{Letter, Places, accepted, clock_at}
use Rattle.b1_serial_bus.specs.Places.{answered}
use Rattle.b1_serial_bus.specs.Places as replies
use Rattle.b1_serial_rest.specs.Standing.{part_of}
use Rattle.b1_serial_send.proofs.Midway.{at_part, over, stage_at, sending_driver, midway}
use Rattle.b1_serial_send.proofs.Lists.{over_keeps, over_one, over_none, accepted_one, accepted_none, read_middle}
use Rattle.b1_serial_send.proofs.Parts.{Placed, at_keeps}
use Rattle.b1_serial_send.proofs.Goes.{WillEnd, goes}
use Rattle.b1_serial_send.proofs.Answers.{answer_so}

-- ---- small facts

-- the driver's part behind an event of a SEND doesn't tell the phase before it
abbrev pub turned_to : DriverPart → SendCmd → Turn → DriverPart
turned_to d c turn = turned (sending_driver d c Starting) (cmd.Send c) turn

pub turned_so : (d : DriverPart) (c : SendCmd) (phase : Phase) (turn : Turn) → turned (sending_driver d c phase) (cmd.Send c) turn ≡ turned_to d c turn
turned_so d c phase (Goes next) = by (is_done [] d.told next) (answer_of (cmd.Send c) next)
  where
    by : (b : Bool) (got : Option Answer) → goes_by b got (sending_driver d c phase) (cmd.Send c) next ≡ goes_by b got (sending_driver d c Starting) (cmd.Send c) next
    by false got = refl
    by true None = refl
    by true (Some got) = refl
turned_so d c phase (driver.Ends got) = refl

-- all places accepted
abbrev pub AreAccepted : Places → Type 0
AreAccepted [] = Unit {0}
AreAccepted (None ∷ rest) = AreAccepted rest
AreAccepted (Some r ∷ rest) = ⊥

pub one_more_accepted : (places : Places) → AreAccepted places → AreAccepted (places ++ None ∷ [])
one_more_accepted [] all = tt
one_more_accepted (None ∷ rest) all = one_more_accepted rest all
one_more_accepted (Some r ∷ rest) all = absurd all

-- later answers stand behind the earlier ones
pub answered_more : (bus : Bus) (s : Letter) (short : Option ℕ → Bool) (tos : List NodeRef) (places : Places) → (more : Places) × (answered bus s short tos places ≡ places ++ more)
answered_more bus s short [] places = ([], sym (append-nil places))
answered_more bus s short (to ∷ rest) places =
    let answer = replies.answer_of bus s places to (short (Some (length places))) in
    let k = answered_more bus s short rest (places ++ answer ∷ []) in
    (answer ∷ k.0, k.1 ∙ append_assoc places (answer ∷ []) k.0)

-- ---- the stages

module _ (o : Opening) (m : Shortage) (p : ℕ) (target : Bus) (s : State) (d : DriverPart) (c : SendCmd) (begun : Begun)
    (placed : Placed s.peers) (is_driver : slice_get s.drivers p ≡ Some d)
    (f : PeerPart → PeerPart) (keeps : (y : PeerPart) → (f y).me ≡ y.me) (bus : Bus) where
  abbrev pub letter : Letter
  letter = record { origin = d.me; user = user_of o d.me; to = begun.to; with = begun.with; payload = c.payload }

  -- a part after the stages of the first places
  abbrev pub after_stages : Places → PeerPart → PeerPart
  after_stages places x = over (stage_at letter) 0 (zip begun.to places) (f x)

  -- where memory is wanting
  abbrev pub short : Option ℕ → Bool
  short place = m d.me (length d.calls) place

  -- a node that was made and isn't dying, its owner's part, and its owner in the serial bus
  abbrev pub There : NodeRef → Type 0
  There to = (x : PeerPart) × (w : DriverPart) × (slice_get s.peers to.owner ≡ Some x) × (slice_get bus to.owner ≡ Some (part_of (f x) w))
      × (to.serial < length (f x).nodes) × (is_dying (node_at (f x) to.serial).state ≡ false)

  -- the clocks collected
  abbrev pub collected_at : Places → ℕ
  collected_at places = fold max 0 (map (clock_at bus) (accepted letter places))

  stages_keep : (places : Places) (y : PeerPart) → (after_stages places y).me ≡ y.me
  stages_keep places y = over_keeps (λ z. z.me) (stage_at letter) (λ place to x. at_keeps (λ z. z.me) to.owner (λ z. staged z d.me (user_of o d.me) place to.serial c.payload begun.with) x refl) 0 (zip begun.to places) (f y) ∙ keeps y

  stages_clock : (places : Places) (y : PeerPart) → (after_stages places y).clock ≡ (f y).clock
  stages_clock places y = over_keeps (λ z. z.clock) (stage_at letter) (λ place to x. at_keeps (λ z. z.clock) to.owner (λ z. staged z d.me (user_of o d.me) place to.serial c.payload begun.with) x refl) 0 (zip begun.to places) (f y)

  abbrev pub At : Places → Turn → Type 0
  At places turn = WillEnd o m p target (midway s p (turned_to d c turn) (after_stages places))

  -- ---- one stage

  module _ (places : Places) (collected : ℕ) (to : NodeRef) (is_to : slice_get begun.to (length places) ≡ Some to) (there : There to) where
    abbrev before : DriverPart
    before = sending_driver d c (Staging begun places collected)

    abbrev x : PeerPart
    x = after_stages places there.0

    abbrev refusal : Option Reason
    refusal = stage_refusal x (user_of o d.me) to.serial (length c.payload) (length begun.with)

    abbrev pub answer : Option Reason
    answer = replies.answer_of bus letter places to (short (Some (length places)))

    answer_is : answer ≡ elim refusal [ None ↦ then_some (short (Some (length places))) reason.Memory | Some r ↦ Some r ]
    answer_is = answer_so bus letter places to (f there.0) there.1 (short (Some (length places))) there.3 (keeps there.0 ∙ placed to.owner there.0 there.2) there.4 there.5

    node_is : node_of_place begun.to (length places) ≡ to
    node_is = get_or_from_slice_get begun.to (length places) to no_ref is_to

    abbrev taken_by : Outcome × PeerPart → DriverPart × PeerPart
    taken_by z = (took before z.0, z.1)

    abbrev stages : Option Reason → Bool → Outcome × PeerPart
    stages r b = stage_by r b d.me (user_of o d.me) (length places) to.serial c.payload begun.with x

    effect_is : effect o (short (Some (length places))) before None x ≡ taken_by (stages refusal (short (Some (length places))))
    effect_is = ap (λ n. taken_by (stage_event (short (Some (length places))) d.me (user_of o d.me) (length places) n.serial c.payload begun.with x)) node_is

    accepts : (r : Option Reason) (b : Bool) → ◌≡◌ {A = Option Reason} (elim r [ None ↦ then_some b reason.Memory | Some a ↦ Some a ]) None → stages r b ≡ (out.Stage (Ok x.clock), staged x d.me (user_of o d.me) (length places) to.serial c.payload begun.with)
    accepts None true none = absurd (cc none)
    accepts None false none = refl
    accepts (Some a) b none = absurd (cc none)

    refuses : (r : Option Reason) (b : Bool) (a : Reason) → ◌≡◌ {A = Option Reason} (elim r [ None ↦ then_some b reason.Memory | Some e ↦ Some e ]) (Some a) → stages r b ≡ (out.Stage (Err a), x)
    refuses None true a is = ap (λ z. (out.Stage (Err z), x)) (same_Some reason.Memory a is)
    refuses None false a is = absurd (cc is)
    refuses (Some e) b a is = ap (λ z. (out.Stage (Err z), x)) (same_Some e a is)

    -- the clock of the owner
    clock_is : x.clock ≡ clock_at bus to
    clock_is = stages_clock places there.0 ∙ sym (ap (λ r. elim r [ None ↦ 0 | Some y ↦ y.clock ]) there.3)

    pub accepted_goes : answer ≡ None → At (places ++ None ∷ []) (staging begun (places ++ None ∷ []) (max collected (clock_at bus to))) → At places (Goes (Staging begun places collected))
    accepted_goes none =
        goes o m p target s d c placed is_driver (Staging begun places collected) (after_stages places) (λ y. staged y d.me (user_of o d.me) (length places) to.serial c.payload begun.with) (after_stages (places ++ None ∷ []))
        to.owner there.0 _ (stages_keep places) there.2 (ap (λ n. n.owner) node_is)
        (effect_is ∙ ap taken_by (accepts refusal (short (Some (length places))) (sym answer_is ∙ none))
        ∙ ap (λ k. (turned before (cmd.Send c) (staging begun (places ++ None ∷ []) (max collected k)), staged x d.me (user_of o d.me) (length places) to.serial c.payload begun.with)) clock_is
        ∙ ap (λ e. (e, staged x d.me (user_of o d.me) (length places) to.serial c.payload begun.with)) (turned_so d c (Staging begun places collected) (staging begun (places ++ None ∷ []) (max collected (clock_at bus to)))))
        (λ y. sym (over_one letter places to is_to (stage_at letter) (f y)))

    pub refused_goes : (a : Reason) → answer ≡ Some a → At (places ++ Some a ∷ []) (place_done (cmd.Send c) begun places collected (Err a)) → At places (Goes (Staging begun places collected))
    refused_goes a is =
        goes o m p target s d c placed is_driver (Staging begun places collected) (after_stages places) (λ y. y) (after_stages (places ++ Some a ∷ []))
        to.owner there.0 _ (stages_keep places) there.2 (ap (λ n. n.owner) node_is)
        (effect_is ∙ ap taken_by (refuses refusal (short (Some (length places))) a (sym answer_is ∙ is))
        ∙ ap (λ e. (e, x)) (turned_so d c (Staging begun places collected) (place_done (cmd.Send c) begun places collected (Err a))))
        (λ y. at_same to.owner (after_stages places y) ∙ sym (over_none letter places to is_to (stage_at letter) a (f y)))
      where
        at_same : (q : ℕ) (y : PeerPart) → at_part q (λ z. z) y ≡ y
        at_same q y = at_keeps (λ z. z) q (λ z. z) y refl

  -- ---- all stages

  -- behind the last place
  abbrev pub all_done : Places → ℕ → Turn
  all_done places collected = cond (is_place (accepted_from 0 places) places) (Goes (attaching (all_staged begun places collected) (accepted_from 0 places) 0)) (driver.Ends (all_refused places))

  -- behind a refusal without CONTINUE
  abbrev pub taken_back : Places → Reason → Turn
  taken_back places a = unstaging begun (places ++ Some a ∷ []) (record { reason = a; place = Some (length places) }) (accepted_from 0 (places ++ Some a ∷ []))

  module _ (final : Places)
      (at_end : (places : Places) → length places ≡ length begun.to → places ≡ final → (c.go_on ≡ false → AreAccepted places) → At places (all_done places (collected_at places)))
      (at_refusal : (places more : Places) (a : Reason) → length places < length begun.to → c.go_on ≡ false → AreAccepted places → final ≡ (places ++ Some a ∷ []) ++ more → At (places ++ Some a ∷ []) (taken_back places a)) where
    -- so far, with some destinations left
    pub record SoFar (rest : List NodeRef) (places : Places) : Type 0 where
      pub done : List NodeRef
      pub all : begun.to ≡ done ++ rest
      pub count : length done ≡ length places
      pub there : (to : NodeRef) → Has rest to → There to
      pub comes : answered bus letter short rest places ≡ final
      pub accepted_all : c.go_on ≡ false → AreAccepted places

    one_place : (to : NodeRef) (rest : List NodeRef) (places : Places) → SoFar (to ∷ rest) places → ((next : Places) → SoFar rest next → At next (staging begun next (collected_at next))) → At places (Goes (Staging begun places (collected_at places)))
    one_place to rest places k further = by (answer places (collected_at places) to is_to there) refl
      where
        there : There to
        there = k.there to (inl refl)

        is_to : slice_get begun.to (length places) ≡ Some to
        is_to = ap (λ tos. slice_get tos (length places)) k.all ∙ ap (slice_get (k.done ++ to ∷ rest)) (sym k.count) ∙ read_middle k.done to rest

        more : (a : Option Reason) → answer places (collected_at places) to is_to there ≡ a → (c.go_on ≡ false → AreAccepted (places ++ a ∷ [])) → SoFar rest (places ++ a ∷ [])
        more a is all = record {
          done = k.done ++ to ∷ [];
          all = k.all ∙ sym (append_assoc k.done (to ∷ []) rest);
          count = (let one = length-append k.done (to ∷ []) in let two = length-append places (a ∷ []) in let three = k.count in omega (arith, one, two, three));
          there = λ z in_it. k.there z (inr in_it);
          comes = ap (λ b. answered bus letter short rest (places ++ b ∷ [])) (sym is) ∙ k.comes;
          accepted_all = all;
        }

        -- the clocks then collected
        collects : collected_at (places ++ None ∷ []) ≡ max (collected_at places) (clock_at bus to)
        collects =
            ap (λ tos. fold max 0 (map (clock_at bus) tos)) (accepted_one letter places to is_to)
            ∙ ap (fold max 0) (map-append (clock_at bus) (accepted letter places) (to ∷ []))
            ∙ fold-append max 0 (map (clock_at bus) (accepted letter places)) (clock_at bus to ∷ [])

        by_mode : (a : Reason) → answer places (collected_at places) to is_to there ≡ Some a → (b : Bool) → c.go_on ≡ b → At (places ++ Some a ∷ []) (cond b (staging begun (places ++ Some a ∷ []) (collected_at places)) (taken_back places a))
        by_mode a is true goes_on =
            subst (λ n. At (places ++ Some a ∷ []) (staging begun (places ++ Some a ∷ []) n)) (ap (λ tos. fold max 0 (map (clock_at bus) tos)) (accepted_none letter places to is_to a))
            (further (places ++ Some a ∷ []) (more (Some a) is (λ stops. absurd (cc (sym goes_on ∙ stops)))))
        by_mode a is false stops =
            at_refusal places (answered_more bus letter short rest (places ++ Some a ∷ [])).0 a
            (let one = ap length k.all in let two = length-append k.done (to ∷ rest) in let three = k.count in omega (arith, one, two, three))
            stops (k.accepted_all stops)
            (sym (ap (λ b. answered bus letter short rest (places ++ b ∷ [])) (sym is) ∙ k.comes) ∙ (answered_more bus letter short rest (places ++ Some a ∷ [])).1)

        by : (a : Option Reason) → answer places (collected_at places) to is_to there ≡ a → At places (Goes (Staging begun places (collected_at places)))
        by None none =
            accepted_goes places (collected_at places) to is_to there none
            (subst (λ n. At (places ++ None ∷ []) (staging begun (places ++ None ∷ []) n)) collects
            (further (places ++ None ∷ []) (more None none (λ stops. one_more_accepted places (k.accepted_all stops)))))
        by (Some a) is = refused_goes places (collected_at places) to is_to there a is (by_mode a is c.go_on refl)

    pub staged_all : (rest : List NodeRef) (places : Places) → SoFar rest places → At places (staging begun places (collected_at places))
    staged_all [] places k =
        let len : length places ≡ length begun.to = (let one = ap length k.all in let two = length-append k.done [] in let three = k.count in omega (arith, one, two, three)) in
        let past : nat_lt (length places) (length begun.to) ≡ false = false_from_ne_true (nat_lt (length places) (length begun.to)) (λ less. let l = ltb-true (length places) (length begun.to) less in absurd (omega (arith, len, l))) in
        subst (At places) (sym (ap (λ b. cond b (Goes (Staging begun places (collected_at places))) (all_done places (collected_at places))) past))
        (at_end places len k.comes k.accepted_all)
    staged_all (to ∷ rest) places k =
        let less : nat_lt (length places) (length begun.to) ≡ true = lt-ltb (length places) (length begun.to) (let one = ap length k.all in let two = length-append k.done (to ∷ rest) in let three = k.count in omega (arith, one, two, three)) in
        subst (At places) (sym (ap (λ b. cond b (Goes (Staging begun places (collected_at places))) (all_done places (collected_at places))) less))
        (one_place to rest places k (λ next so. staged_all rest next so))
