-- A whole SEND of an open peer, from a state at rest.
use Rattle.std.proofs.Common.{◌≡◌, refl, sym, ap, ap₂, ◌∙◌, subst, ℕ, ◌+◌, ◌<◌, ◌==◌, max, Bool, true, false, cond, not, List, [], ◌∷◌, ◌++◌, map, fold, filter_map, length, set, zip, Option, Some, None, arith}
use Rattle.std.specs.Prelude.{slice_get}
use Rattle.std.proofs.lemmas.Bool.{lt-ltb}
use Rattle.b1_model.specs.declared.naming.NodeRef.{NodeRef}
use Rattle.b1_model.specs.declared.naming.Opening.{Opening}
use Rattle.b1_model.specs.Opening.{IsOpening}
use Rattle.b1_model.specs.declared.commands.Command.{Command}
use Rattle.b1_model.specs.declared.commands.Command.TheVariants as cmd
use Rattle.b1_model.specs.declared.commands.SendCmd.{SendCmd}
use Rattle.b1_model.specs.declared.parts.Begun.{Begun}
use Rattle.b1_model.specs.declared.answers.Answer.{Answer}
use Rattle.b1_model.specs.declared.answers.Answer.TheVariants as ans
use Rattle.b1_model.specs.declared.answers.Reason.{Reason}
use Rattle.b1_model.specs.declared.events.Phase.TheVariants.{Staging}
use Rattle.b1_model.specs.MachineParts.{PeerPart, DriverPart, State, node_at, is_dying}
use Rattle.b1_model.specs.MachineSend.{begun_part, begun_nodes, first_reason}
use Rattle.b1_model.specs.MachineDriver.{Turn, Goes, refused_at, accepted_from, is_place, all_refused, attaching, all_staged, staging, unstaging}
use Rattle.b1_model.specs.MachineDriver as driver
use Rattle.b1_model.specs.MachineEvents.{user_of}
use Rattle.b1_model.specs.MachineStep.{Reached}
use Rattle.b1_model.specs.Script.{resolved}
use Rattle.b1_schedule.specs.Shortage.{Shortage}
use Rattle.b1_step.specs.Rights.{Has}
use Rattle.b1_step.proofs.Lists.{read_same, has_all}
use Rattle.b1_inv.specs.Words.{IsMade}
use Rattle.b1_law.proofs.Reached.{reached_sound}
use Rattle.b1_serial_bus.specs.Parts.{Bus, at_peer, called}
use Rattle.b1_serial_bus.specs.Named.{making}
use Rattle.b1_serial_bus.specs.Lives.{destroyed_in}
use Rattle.b1_serial_bus.specs.Delivery.{delivered_from}
use Rattle.b1_serial_bus.specs.Letters.{Letter, Places, accepted, clock_at, letter_of, stamp_of}
use Rattle.b1_serial_bus.specs.Places.{answered}
use Rattle.b1_serial_bus.specs.Begin.{begin_reasons}
use Rattle.b1_serial_bus.specs.Send.{first_refusal, send_refusal, send_called, sent, after_places, after_begin, after_send}
use Rattle.b1_serial_rest.specs.Standing.{part_of, bus_of}
use Rattle.b1_serial_rest.specs.Rest.{AtRest}
use Rattle.b1_serial_rest.specs.Whole.{RunsWhole}
use Rattle.b1_serial_send.proofs.Midway.{with_begin, over, stage_at, sending_driver, midway}
use Rattle.b1_serial_send.proofs.Lists.{over_nothing}
use Rattle.b1_serial_send.proofs.Parts.{map_same}
use Rattle.b1_serial_send.proofs.Goes.{WillEnd}
use Rattle.b1_serial_send.proofs.Staging.{turned_to, AreAccepted, staged_all}
use Rattle.b1_serial_send.proofs.Ending.{bus_there, at_none}
use Rattle.b1_serial_send.proofs.Begun.{making_so, letter_so, begin_so}
use Rattle.b1_serial_send.proofs.Begin.{resting, begin_answer, refused_runs, accepted_runs}
use Rattle.b1_serial_send.proofs.Boxes.{AreAlive, making_boxes, answered_alive}
use Rattle.b1_serial_send.proofs.Stamps.{is_any, any_is, accepted_any}
use Rattle.b1_serial_send.proofs.RefusedEnd.{none_accepted, refused_ends}
use Rattle.b1_serial_send.proofs.Sent.{target, stamp_is, sent_ends}
use Rattle.b1_serial_send.proofs.Facts.{placed, living, begun_me, begun_clock, begun_bus, begun_there, made_there}

-- ---- small facts

-- all places accepted
accepted_none : (here : ℕ) (zs : Places) → AreAccepted zs → first_refusal here zs ≡ None
accepted_none here [] all = refl
accepted_none here (None ∷ rest) all = accepted_none (here + 1) rest all
accepted_none here (Some r ∷ rest) all = absurd all

accepted_some : (zs : Places) → AreAccepted zs → 0 < length zs → is_any zs ≡ true
accepted_some [] all some = absurd (omega (arith, some))
accepted_some (None ∷ rest) all some = refl
accepted_some (Some r ∷ rest) all some = absurd all

-- the first refusal behind accepted places
pub refusal_behind : (here : ℕ) (zs : Places) (a : Reason) (more : Places) → AreAccepted zs → first_refusal here ((zs ++ Some a ∷ []) ++ more) ≡ Some (refused_at a (Some (here + length zs)))
refusal_behind here [] a more all = ap (λ k. Some (refused_at a (Some k))) (omega arith)
refusal_behind here (None ∷ rest) a more all = refusal_behind (here + 1) rest a more all ∙ ap (λ k. Some (refused_at a (Some k))) (omega arith)
refusal_behind here (Some r ∷ rest) a more all = absurd all

zip_nothing : (tos : List NodeRef) (to : NodeRef) → Has {X = NodeRef × Option Reason} (zip tos []) (to, None) → ⊥
zip_nothing [] to there = there
zip_nothing (t ∷ ts) to there = there

nothing_accepted : (tos : List NodeRef) (s : Letter) → s.to ≡ tos → accepted s [] ≡ []
nothing_accepted [] s same = ap (λ ts. accepted (record s { to = ts }) []) same
nothing_accepted (t ∷ ts) s same = ap (λ zs. accepted (record s { to = zs }) []) same

module _ {o : Opening} {s : State} {bus : Bus} (opens : IsOpening o) (reached : Reached o s) (rest : AtRest o s bus) (m : Shortage)
    (d : DriverPart) (is_driver : slice_get s.drivers d.me ≡ Some d) (x : PeerPart) (is_peer : slice_get s.peers d.me ≡ Some x) (c : SendCmd) where
  abbrev pub begun : Begun
  begun = begun_nodes x c

  abbrev pub f : PeerPart → PeerPart
  f = with_begin d.me c

  abbrev pub with_nodes : Bus
  with_nodes = begun_bus opens reached rest d.me c

  abbrev pub letter : Letter
  letter = record { origin = d.me; user = user_of o d.me; to = begun.to; with = begun.with; payload = c.payload }

  abbrev pub short : Option ℕ → Bool
  short place = m d.me (length d.calls) place

  -- what all destinations answer
  abbrev pub final : Places
  final = answered with_nodes letter short begun.to []

  -- the bus after it
  abbrev pub wanted : Bus
  wanted = after_places c letter final (part_of (begun_part x c) d) with_nodes

  x_me : x.me ≡ d.me
  x_me = placed opens reached rest d.me x is_peer

  abbrev At : (PeerPart → PeerPart) → Turn → Type 0
  At h turn = WillEnd o m d.me wanted (midway s d.me (turned_to d c turn) h)

  -- the parts with the letter staged for the first destinations
  abbrev staged_parts : Places → PeerPart → PeerPart
  staged_parts places y = over (stage_at letter) 0 (zip begun.to places) (f y)

  pub missing : (q : ℕ) → slice_get (bus_of s) q ≡ None → slice_get with_nodes q ≡ None
  missing q none = at_none d.me q (making c.with) bus (ap (λ b. slice_get b q) rest.is_bus ∙ none)

  -- ---- the bus by its places

  pub wanted_by : (r : Option Answer) → send_refusal c.go_on letter final ≡ r
      → wanted ≡ elim r [ Some answer ↦ at_peer d.me (called (cmd.Send c) answer) with_nodes | None ↦ sent c letter final (stamp_of with_nodes letter (begun_part x c).clock (accepted letter final)) (part_of (begun_part x c) d) with_nodes ]
  wanted_by (Some answer) is =
      ap (λ r. elim r [ Some a ↦ send_called c a (part_of (begun_part x c) d) with_nodes | None ↦ sent c letter final (stamp_of with_nodes letter (begun_part x c).clock (accepted letter final)) (part_of (begun_part x c) d) with_nodes ]) is
      ∙ ap (λ k. at_peer k (called (cmd.Send c) answer) with_nodes) x_me
  wanted_by None is =
      ap (λ r. elim r [ Some a ↦ send_called c a (part_of (begun_part x c) d) with_nodes | None ↦ sent c letter final (stamp_of with_nodes letter (begun_part x c).clock (accepted letter final)) (part_of (begun_part x c) d) with_nodes ]) is

  -- ---- at the end of the places

  module _ (some : 0 < length begun.to) where
    abbrev There : NodeRef → Type 0
    There to = (z : PeerPart) × (w : DriverPart) × (slice_get s.peers to.owner ≡ Some z) × (slice_get with_nodes to.owner ≡ Some (part_of (f z) w))
        × (to.serial < length (f z).nodes) × (is_dying (node_at (f z) to.serial).state ≡ false)

    -- all places were answered: the letter goes to those that accepted it, or all refused it
    ends_at : ((to : NodeRef) → Has begun.to to → There to) → ((node : NodeRef) → Has begun.with node → There node) → length final ≡ length begun.to → (c.go_on ≡ false → AreAccepted final)
        → At (staged_parts final) (cond (is_place (accepted_from 0 final) final) (Goes (attaching (all_staged begun final (fold max 0 (map (clock_at with_nodes) (accepted letter final)))) (accepted_from 0 final) 0)) (driver.Ends (all_refused final)))
    ends_at destinations carried len all = by (is_any final) refl
      where
        collected : ℕ
        collected = fold max 0 (map (clock_at with_nodes) (accepted letter final))

        turn_by : Bool → Turn
        turn_by b = cond b (Goes (attaching (all_staged begun final collected) (accepted_from 0 final) 0)) (driver.Ends (all_refused final))

        -- whether the accepted ones are none
        count_by : (b : Bool) → is_any final ≡ b → length (accepted letter final) == 0 ≡ not b
        count_by b is = accepted_any begun.to final (omega (arith, len)) ∙ ap not is

        refusal_none : (b : Bool) → c.go_on ≡ b → is_any final ≡ true → send_refusal b letter final ≡ None
        refusal_none true goes_on any = ap (λ v. cond v (Some (all_refused final)) None) (count_by true any)
        refusal_none false stops any = accepted_none 0 final (all stops)

        refusal_all : (b : Bool) → c.go_on ≡ b → is_any final ≡ false → send_refusal b letter final ≡ Some (all_refused final)
        refusal_all true goes_on none = ap (λ v. cond v (Some (all_refused final)) None) (count_by false none)
        refusal_all false stops none = absurd (cc (sym (accepted_some final (all stops) (omega (arith, len, some))) ∙ none))

        sent_is : (any : is_any final ≡ true) → wanted ≡ target opens reached rest m d is_driver x is_peer c begun final len any
        sent_is any =
            wanted_by None (ap (λ b. send_refusal b letter final) refl ∙ refusal_none c.go_on refl any)
            ∙ ap₂ (λ k stamp. at_peer k (λ y. called (cmd.Send c) (ans.Sent (record { stamp = stamp; places = final })) (record y { clock = stamp })) (delivered_from letter stamp 0 (zip begun.to final) with_nodes)) x_me
            (ap (λ k. fold max k (map (clock_at with_nodes) (accepted letter final) ++ filter_map (destroyed_in with_nodes) begun.with) + 2) (sym (begun_clock opens reached rest d.me c x))
            ∙ sym (stamp_is opens reached rest m d is_driver x is_peer c begun final len any))

        alive : AreAlive with_nodes (zip begun.to final)
        alive = answered_alive with_nodes letter short begun.to [] [] refl refl (λ to there. absurd (zip_nothing begun.to to there))

        by : (b : Bool) → is_any final ≡ b → At (staged_parts final) (turn_by (is_place (accepted_from 0 final) final))
        by true any =
            subst (λ v. At (staged_parts final) (turn_by v)) (sym (any_is final ∙ any))
            (subst (λ t. WillEnd o m d.me t (midway s d.me (turned_to d c (turn_by true)) (staged_parts final))) (sym (sent_is any))
            (sent_ends opens reached rest m d is_driver x is_peer c begun final len any destinations alive carried))
        by false none =
            subst (λ v. At (staged_parts final) (turn_by v)) (sym (any_is final ∙ none))
            (subst (λ xs. WillEnd o m d.me wanted (record { peers = xs; drivers = set s.drivers d.me (turned_to d c (turn_by false)) })) (map_same f (staged_parts final) s.peers (λ y. sym (none_accepted (stage_at letter) 0 begun.to final (f y) none)))
            (subst (λ t. WillEnd o m d.me t (midway s d.me (turned_to d c (turn_by false)) f)) (sym (wanted_by (Some (all_refused final)) (refusal_all c.go_on refl none)))
            (refused_ends o m s d c (all_refused final) with_nodes f opens rest.quiet is_driver (λ q y w is is_w. begun_there opens reached rest d.me c q y w is is_w) missing (making_boxes d.me c.with bus rest.boxes))))

    -- ---- from the first stage on

    abbrev TakesBack : Type 0
    TakesBack = (places more : Places) (a : Reason) → length places < length begun.to → c.go_on ≡ false → AreAccepted places → final ≡ (places ++ Some a ∷ []) ++ more
        → At (staged_parts (places ++ Some a ∷ [])) (unstaging begun (places ++ Some a ∷ []) (record { reason = a; place = Some (length places) }) (accepted_from 0 (places ++ Some a ∷ [])))

    from_stages : ((to : NodeRef) → Has begun.to to → There to) → ((node : NodeRef) → Has begun.with node → There node) → TakesBack
        → WillEnd o m d.me wanted (midway s d.me (sending_driver d c (Staging begun [] 0)) f)
    from_stages destinations carried takes_back =
        subst (λ xs. WillEnd o m d.me wanted (record { peers = xs; drivers = set s.drivers d.me (sending_driver d c (Staging begun [] 0)) })) (map_same (staged_parts []) f s.peers (λ y. over_nothing (stage_at letter) begun.to (f y)))
        (subst (At (staged_parts [])) first_turn
        (staged_all o m d.me wanted s d c begun (placed opens reached rest) is_driver f (begun_me opens reached rest d.me c) with_nodes final at_end takes_back begun.to []
        (record { done = []; all = refl; count = refl; there = destinations; comes = refl; accepted_all = λ stops. tt })))
      where
        first_turn : staging begun [] (fold max 0 (map (clock_at with_nodes) (accepted letter []))) ≡ Goes (Staging begun [] 0)
        first_turn =
            ap (λ tos. staging begun [] (fold max 0 (map (clock_at with_nodes) tos))) (nothing_accepted begun.to letter refl)
            ∙ ap (λ b. cond b (Goes (Staging begun [] 0)) (cond (is_place (accepted_from 0 []) []) (Goes (attaching (all_staged begun [] 0) (accepted_from 0 []) 0)) (driver.Ends (all_refused [])))) (lt-ltb 0 (length begun.to) some)

        at_end : (places : Places) → length places ≡ length begun.to → places ≡ final → (c.go_on ≡ false → AreAccepted places)
            → At (staged_parts places) (cond (is_place (accepted_from 0 places) places) (Goes (attaching (all_staged begun places (fold max 0 (map (clock_at with_nodes) (accepted letter places)))) (accepted_from 0 places) 0)) (driver.Ends (all_refused places)))
        at_end places len is all =
            subst (λ zs. At (staged_parts zs) (cond (is_place (accepted_from 0 zs) zs) (Goes (attaching (all_staged begun zs (fold max 0 (map (clock_at with_nodes) (accepted letter zs)))) (accepted_from 0 zs) 0)) (driver.Ends (all_refused zs)))) (sym is)
            (ends_at destinations carried (ap length (sym is) ∙ len) (λ stops. subst AreAccepted is (all stops)))

  -- ---- the whole command

  module _ (command : Command) (is_open : d.shut ≡ false) (resolves : resolved command d.calls ≡ cmd.Send c) (takes_back : (some : 0 < length begun.to) → ((to : NodeRef) → Has begun.to to → There some to) → TakesBack some) where
    resting_is : slice_get s.drivers d.me ≡ Some (resting d)
    resting_is = is_driver ∙ ap Some (ap₂ (λ doing owed. record d { doing = doing; owed = owed }) (rest.quiet.idle d.me d is_driver) (rest.quiet.paid d.me d is_driver))

    letter_is : letter_of c (part_of (begun_part x c) d) ≡ letter
    letter_is =
        letter_so c x d
        ∙ ap₂ (λ me user. record { origin = me; user = user; to = begun.to; with = begun.with; payload = c.payload }) x_me
        (let k = rest.numbered.peers d.me x is_peer in k.user ∙ sym (ap (λ r. elim r [ None ↦ 0 | Some spec ↦ spec.user ]) k.is_spec))

    after_by : (r : Option Reason) → first_reason (begin_reasons (part_of x d) c (short None)) ≡ r
        → after_send short c (part_of x d) bus ≡ elim r [ Some a ↦ at_peer d.me (called (cmd.Send c) (refused_at a None)) bus | None ↦ wanted ]
    after_by (Some a) is =
        ap (λ r. elim r [ Some e ↦ send_called c (refused_at e None) (part_of x d) bus | None ↦ after_begin short c (making c.with (part_of x d)) (at_peer x.me (making c.with) bus) ]) is
        ∙ ap (λ k. at_peer k (called (cmd.Send c) (refused_at a None)) bus) x_me
    after_by None is =
        ap (λ r. elim r [ Some e ↦ send_called c (refused_at e None) (part_of x d) bus | None ↦ after_begin short c (making c.with (part_of x d)) (at_peer x.me (making c.with) bus) ]) is
        ∙ ap₂ (λ z k. after_begin short c z (at_peer k (making c.with) bus)) (making_so c x d) x_me
        ∙ ap (λ l. after_places c l (answered with_nodes l short l.to []) (part_of (begun_part x c) d) with_nodes) letter_is

    abbrev answer : Option Reason
    answer = begin_answer o m d.me s d c command (placed opens reached rest) resting_is x is_peer refl is_open resolves

    reasons_are : first_reason (begin_reasons (part_of x d) c (short None)) ≡ answer
    reasons_are = begin_so x d (living opens reached rest d.me x is_peer) c (short None)

    -- the first staging state knows its destinations
    from_begin : WillEnd o m d.me wanted (midway s d.me (sending_driver d c (Staging begun [] 0)) f)
    from_begin led =
        let now : State = midway s d.me (sending_driver d c (Staging begun [] 0)) f in
        let sound = reached_sound o now opens led in
        let shape = sound.sends.shape d.me (sending_driver d c (Staging begun [] 0)) (record { command = cmd.Send c; phase = Staging begun [] 0 }) (read_same s.drivers d.me d (sending_driver d c (Staging begun [] 0)) is_driver) refl in
        let destinations = λ (to : NodeRef) (there : Has begun.to to). made_there opens reached rest d.me c (sending_driver d c (Staging begun [] 0)) to (has_all (IsMade now) begun.to to shape.0.to there) in
        let carried = λ (node : NodeRef) (there : Has begun.with node). made_there opens reached rest d.me c (sending_driver d c (Staging begun [] 0)) node (has_all (IsMade now) begun.with node shape.0.with there) in
        from_stages shape.1 destinations carried (takes_back shape.1 destinations) led

    pub send_runs : (t : State) × RunsWhole o m d.me command s t × AtRest o t (after_send short c (part_of x d) bus)
    send_runs = by answer refl
      where
        by : (r : Option Reason) → answer ≡ r → (t : State) × RunsWhole o m d.me command s t × AtRest o t (after_send short c (part_of x d) bus)
        by (Some a) is =
            subst (λ b. (t : State) × RunsWhole o m d.me command s t × AtRest o t b) (sym (after_by (Some a) (reasons_are ∙ is)))
            (refused_runs o m d.me s d c command (placed opens reached rest) resting_is x is_peer refl is_open resolves (at_peer d.me (called (cmd.Send c) (refused_at a None)) bus) reached a is
            (refused_ends o m s d c (refused_at a None) bus (λ y. y) opens rest.quiet is_driver (λ q y w is_y is_w. ap (λ b. slice_get b q) rest.is_bus ∙ bus_there s q y w is_y is_w) (λ q none. ap (λ b. slice_get b q) rest.is_bus ∙ none) rest.boxes))
        by None none =
            subst (λ b. (t : State) × RunsWhole o m d.me command s t × AtRest o t b) (sym (after_by None (reasons_are ∙ none)))
            (accepted_runs o m d.me s d c command (placed opens reached rest) resting_is x is_peer refl is_open resolves wanted reached none from_begin)
