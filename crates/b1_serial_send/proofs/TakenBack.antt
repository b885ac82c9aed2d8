-- A SEND that is refused without CONTINUE ends at rest: what it staged is as if it had never been.
use Rattle.std.proofs.Common.{◌≡◌, refl, sym, ap, ap₂, ◌∙◌, subst, ℕ, ◌+◌, ◌<◌, ◌==◌, ◌&&◌, Bool, true, false, cond, List, [], ◌∷◌, ◌++◌, length, zip, Option, Some, None, zero-add, arith}
use Rattle.std.specs.Prelude.{slice_get}
use Rattle.std.proofs.lemmas.Bool.{eqb-true}
use Rattle.std.proofs.lemmas.List.{length-append, append-nil}
use Rattle.std.proofs.lemmas.Option.{same_Some}
use Rattle.b1_model.specs.declared.naming.NodeRef.{NodeRef}
use Rattle.b1_model.specs.declared.naming.Opening.{Opening}
use Rattle.b1_model.specs.Opening.{IsOpening}
use Rattle.b1_model.specs.declared.commands.Command.TheVariants as cmd
use Rattle.b1_model.specs.declared.commands.SendCmd.{SendCmd}
use Rattle.b1_model.specs.declared.parts.Begun.{Begun}
use Rattle.b1_model.specs.declared.answers.Answer.{Answer}
use Rattle.b1_model.specs.declared.answers.Reason.{Reason}
use Rattle.b1_model.specs.declared.records.Call.{Call}
use Rattle.b1_model.specs.MachineParts.{PeerPart, DriverPart, State, is_data}
use Rattle.b1_model.specs.MachineTables.{is_stage}
use Rattle.b1_model.specs.MachineSend.{staged, begun_part, begun_nodes}
use Rattle.b1_model.specs.MachineDriver.{refused_at, accepted_from, unstaging}
use Rattle.b1_model.specs.declared.events.Phase.TheVariants.{Starting}
use Rattle.b1_model.specs.MachineTook.{ended}
use Rattle.b1_model.specs.MachineEvents.{user_of}
use Rattle.b1_model.specs.MachineStep.{Reached}
use Rattle.b1_schedule.specs.Shortage.{Shortage}
use Rattle.b1_step.specs.Rights.{Has}
use Rattle.b1_step.proofs.Lists.{has_at}
use Rattle.b1_inv_refs.proofs.Numbered.{EachRecord}
use Rattle.b1_inv_record.specs.Epochs.{flushed_calls}
use Rattle.b1_legal.proofs.Reached.{reached_right}
use Rattle.b1_inv_slices.specs.Slices.{kept_from, kept_len, received_len}
use Rattle.b1_inv_slices.proofs.Kept.{reached_kept}
use Rattle.b1_serial_bus.specs.Parts.{Bus, at_peer, called}
use Rattle.b1_serial_bus.specs.Letters.{Letter, Places}
use Rattle.b1_serial_bus.specs.Send.{first_refusal, send_refusal}
use Rattle.b1_serial_rest.specs.Standing.{part_of}
use Rattle.b1_serial_rest.specs.Rest.{AtRest}
use Rattle.b1_serial_send.proofs.Midway.{Answered, with_begin, over, stage_at, unstage_at, sending_driver, midway}
use Rattle.b1_serial_send.proofs.Lists.{over_keeps}
use Rattle.b1_serial_send.proofs.Parts.{at_keeps, read_map}
use Rattle.b1_serial_send.proofs.Goes.{Ends, WillEnd}
use Rattle.b1_serial_send.proofs.Staging.{turned_to, AreAccepted}
use Rattle.b1_serial_send.proofs.Attaching.{no_slots}
use Rattle.b1_serial_send.proofs.Keys.{before_stamp, not_back, NonePass}
use Rattle.b1_serial_send.proofs.Copies.{place_key, copies, stages_queue}
use Rattle.b1_serial_send.proofs.Delivered.{with_three}
use Rattle.b1_serial_send.proofs.Finals.{bare, bare_stage}
use Rattle.b1_serial_send.proofs.Ending.{set_read}
use Rattle.b1_serial_send.proofs.Boxes.{making_boxes}
use Rattle.b1_serial_send.proofs.RefusedEnd.{refused_ends}
use Rattle.b1_serial_send.proofs.Pools.{pools_same}
use Rattle.b1_serial_send.proofs.Unstaging.{unstage_keeps, IsHeld, stages_held, unstages_bare, unstages_queue, unstages_go}
use Rattle.b1_serial_send.proofs.Facts.{sound, right, placed, begun_me, begun_queue, begun_quiet, begun_low, begun_odd, begun_bus, begun_there}
use Rattle.b1_serial_send.proofs.Assembled.{final, wanted, missing, wanted_by, refusal_behind}

-- ---- what was received

kept_append : (offset : ℕ) (xs ys : List Call) (kept : Option ℕ) → kept_from offset (xs ++ ys) kept ≡ kept_from offset ys (kept_from offset xs kept)
kept_append offset [] ys kept = refl
kept_append offset (x ∷ xs) ys kept = kept_append offset xs ys _

-- a refused SEND receives nothing
kept_refused : (offset : ℕ) (c : SendCmd) (r : Reason) (place : Option ℕ) (calls : List Call) → kept_len offset (calls ++ record { command = cmd.Send c; answer = refused_at r place } ∷ []) ≡ kept_len offset calls
kept_refused offset c r place calls = kept_append offset calls (record { command = cmd.Send c; answer = refused_at r place } ∷ []) None

module _ {o : Opening} {s : State} {bus : Bus} (opens : IsOpening o) (reached : Reached o s) (rest : AtRest o s bus) (m : Shortage)
    (d : DriverPart) (is_driver : slice_get s.drivers d.me ≡ Some d) (x : PeerPart) (is_peer : slice_get s.peers d.me ≡ Some x) (c : SendCmd) where
  abbrev begun : Begun
  begun = begun_nodes x c

  abbrev f : PeerPart → PeerPart
  f = with_begin d.me c

  abbrev with_nodes : Bus
  with_nodes = begun_bus opens reached rest d.me c

  abbrev letter : Letter
  letter = record { origin = d.me; user = user_of o d.me; to = begun.to; with = begun.with; payload = c.payload }

  abbrev answers : Places
  answers = final opens reached rest m d is_driver x is_peer c

  abbrev bus_then : Bus
  bus_then = wanted opens reached rest m d is_driver x is_peer c

  module _ (places more : Places) (a : Reason) (below : length places < length begun.to) (stops : c.go_on ≡ false) (all : AreAccepted places) (is_final : answers ≡ (places ++ Some a ∷ []) ++ more)
      (owners : (to : NodeRef) → Has begun.to to → (z : PeerPart) × (slice_get s.peers to.owner ≡ Some z)) where
    abbrev ds : Answered
    ds = zip begun.to (places ++ Some a ∷ [])

    abbrev staged_part : PeerPart → PeerPart
    staged_part y = over (stage_at letter) 0 ds (f y)

    abbrev back_part : PeerPart → PeerPart
    back_part y = over (unstage_at d.me) 0 ds (staged_part y)

    abbrev answer : Answer
    answer = refused_at a (Some (length places))

    abbrev last_driver : DriverPart
    last_driver = ended (sending_driver d c Starting) (cmd.Send c) answer

    -- ---- the parts are as they were

    staged_keeps : {Y : Type 0} (view : PeerPart → Y) → ((place : ℕ) (to : NodeRef) (y : PeerPart) → view (staged y d.me (user_of o d.me) place to.serial c.payload begun.with) ≡ view y) → (y : PeerPart) → view (staged_part y) ≡ view (f y)
    staged_keeps view keeps y = over_keeps view (stage_at letter) (λ place to z. at_keeps view to.owner (λ v. staged v d.me (user_of o d.me) place to.serial c.payload begun.with) z (keeps place to z)) 0 ds (f y)

    back_clock : (y : PeerPart) → (back_part y).clock ≡ (f y).clock
    back_clock y = over_keeps (λ z. z.clock) (unstage_at d.me) (λ place to z. unstage_keeps (λ v. v.clock) (λ v queue slices handles. refl) d.me place to z) 0 ds (staged_part y) ∙ staged_keeps (λ z. z.clock) (λ place to z. refl) y

    back_pool : (y : PeerPart) → (back_part y).pool ≡ (f y).pool
    back_pool y = over_keeps (λ z. z.pool) (unstage_at d.me) (λ place to z. unstage_keeps (λ v. v.pool) (λ v queue slices handles. refl) d.me place to z) 0 ds (staged_part y) ∙ staged_keeps (λ z. z.pool) (λ place to z. refl) y

    staged_me : (y : PeerPart) → (staged_part y).me ≡ y.me
    staged_me y = staged_keeps (λ z. z.me) (λ place to z. refl) y ∙ begun_me opens reached rest d.me c y

    module _ (q : ℕ) (y : PeerPart) (is : slice_get s.peers q ≡ Some y) where
      base_unstaged : (i : ℕ) → NonePass (is_stage d.me i) (f y).queue
      base_unstaged i g there = ap (λ b. is_data g.1 && b && (g.0.origin == d.me) && (g.0.index == i)) (begun_quiet opens reached rest d.me c q y is g there) ∙ by (is_data g.1)
        where
          by : (b : Bool) → (b && false && (g.0.origin == d.me) && (g.0.index == i)) ≡ false
          by true = refl
          by false = refl

      back_queue : (back_part y).queue ≡ (f y).queue
      back_queue =
          unstages_queue letter ((f y).clock + 1) (no_slots begun.with) (begun_odd opens reached rest d.me c q y is) 0 ds (staged_part y) (f y).slices (f y).queue
          (stages_queue letter 0 ds (f y) (λ g there. not_back g.0 (place_key letter ((f y).clock + 1) 0) (before_stamp g.0 (place_key letter ((f y).clock + 1) 0) (let l = begun_low opens reached rest d.me c q y is g there in omega (arith, l))))
          ∙ ap (λ k. (f y).queue ++ copies letter k ((f y).clock + 1) (no_slots begun.with) 0 (f y).slices ds) (sym (staged_keeps (λ z. z.me) (λ place to z. refl) y)))
          base_unstaged

      held : EachRecord IsHeld (staged_part y).handles
      held = stages_held letter 0 ds (f y) (subst (EachRecord IsHeld) (sym (at_keeps (λ z. z.handles) d.me (λ z. begun_part z c) y refl)) (λ h there k numbered. (((sound opens reached rest).numbers.numbered q y is).held h k there numbered).0))

      back_bare : (w : DriverPart) → bare w (back_part y) ≡ bare w (f y)
      back_bare w = unstages_bare w d.me 0 ds (staged_part y) held ∙ over_keeps (bare w) (stage_at letter) (λ place to z. bare_stage w letter place to z) 0 ds (f y)

    -- the state then
    abbrev last_state : State
    last_state = midway s d.me last_driver back_part

    -- the calls for which a peer has flushed
    calls_at_rest : (w : DriverPart) → w.doing ≡ None → flushed_calls w ≡ w.calls
    calls_at_rest w idle = ap (λ doing. flushed_calls (record w { doing = doing })) idle ∙ append-nil w.calls

    kept_same : (offset q : ℕ) (w : DriverPart) → slice_get s.drivers q ≡ Some w → kept_len offset (flushed_calls w) ≡ kept_len offset (flushed_calls (cond (d.me == q) last_driver w))
    kept_same offset q w is_w = by (d.me == q) refl
      where
        by : (b : Bool) → d.me == q ≡ b → kept_len offset (flushed_calls w) ≡ kept_len offset (flushed_calls (cond b last_driver w))
        by true own =
            let driver_is : w ≡ d = same_Some w d (sym is_w ∙ ap (slice_get s.drivers) (sym (eqb-true d.me q own)) ∙ is_driver) in
            ap (kept_len offset) (calls_at_rest w (rest.quiet.idle q w is_w) ∙ ap (λ v. v.calls) driver_is)
            ∙ sym (kept_refused offset c a (Some (length places)) d.calls)
            ∙ ap (kept_len offset) (sym (calls_at_rest last_driver refl))
        by false other = refl

    module _ (led : Reached o last_state) where
      part_same : (q : ℕ) (y : PeerPart) (w : DriverPart) → slice_get s.peers q ≡ Some y → slice_get s.drivers q ≡ Some w → part_of (back_part y) w ≡ part_of (f y) w
      part_same q y w is is_w =
          ap₂ (λ b k. with_three b k (back_part y).slices (back_part y).queue) (back_bare q y is w) (back_clock y)
          ∙ ap₂ (λ sl zs. with_three (bare w (f y)) (f y).clock sl zs) slices (back_queue q y is)
        where
          slices_then : (f y).slices ≡ y.slices
          slices_then = at_keeps (λ z. z.slices) d.me (λ z. begun_part z c) y refl

          received : (offset : ℕ) → received_len offset y.slices ≡ received_len offset (back_part y).slices
          received offset =
              (reached_kept o s opens reached).1.kept q offset y w is is_w
              ∙ kept_same offset q w is_w
              ∙ sym ((reached_kept o last_state opens led).1.kept q offset (back_part y) (cond (d.me == q) last_driver w) (read_map back_part s.peers q y is) (set_read s.drivers d.me q last_driver w is_w))

          slices : (back_part y).slices ≡ (f y).slices
          slices =
              sym (pools_same s last_state q y (back_part y) is (read_map back_part s.peers q y is) (right opens reached rest).parts.pool (reached_right o last_state opens led).parts.pool
              (sym (back_pool y ∙ at_keeps (λ z. z.pool) d.me (λ z. begun_part z c) y refl))
              (sym (back_queue q y is ∙ begun_queue opens reached rest d.me c y)) received)
              ∙ sym slices_then

      there : (q : ℕ) (y : PeerPart) (w : DriverPart) → slice_get s.peers q ≡ Some y → slice_get s.drivers q ≡ Some w → slice_get with_nodes q ≡ Some (part_of (back_part y) w)
      there q y w is is_w = begun_there opens reached rest d.me c q y w is is_w ∙ ap Some (sym (part_same q y w is is_w))

    -- ---- the bus is that with the refusal called

    refusal_is : send_refusal c.go_on letter answers ≡ Some answer
    refusal_is =
        ap (λ b. send_refusal b letter answers) stops
        ∙ ap (first_refusal 0) is_final
        ∙ refusal_behind 0 places a more all
        ∙ ap (λ k. Some (refused_at a (Some k))) (zero-add (length places))

    bus_is : bus_then ≡ at_peer d.me (called (cmd.Send c) answer) with_nodes
    bus_is = wanted_by opens reached rest m d is_driver x is_peer c (Some answer) refusal_is

    ends : WillEnd o m d.me bus_then last_state
    ends led =
        subst (λ b. Ends o m d.me b last_state) (sym bus_is)
        (refused_ends o m s d c answer with_nodes back_part opens rest.quiet is_driver (there led) (missing opens reached rest m d is_driver x is_peer c) (making_boxes d.me c.with bus rest.boxes) led)

    -- from the refusal on
    pub takes_back : WillEnd o m d.me bus_then (midway s d.me (turned_to d c (unstaging begun (places ++ Some a ∷ []) (record { reason = a; place = Some (length places) }) (accepted_from 0 (places ++ Some a ∷ [])))) staged_part)
    takes_back =
        unstages_go o m bus_then s d c begun (placed opens reached rest) is_driver (places ++ Some a ∷ []) (let e = length-append places (Some a ∷ []) in omega (arith, e, below)) (record { reason = a; place = Some (length places) }) staged_part staged_me
        (λ before later to is_before is_to. owners to (has_at begun.to (length before) to is_to)) ends
