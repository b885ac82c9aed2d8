-- A whole NODES_DESTROY leads from rest to rest.
use Rattle.std.proofs.Common.{◌≡◌, refl, sym, ap, ◌∙◌, subst, inl, inr, ℕ, ◌<◌, ◌==◌, Bool, true, false, cond, List, [], ◌∷◌, map, find, filter_map, length, Option, Some, None, Err, is_none, option_map, arith}
use Rattle.std.specs.Prelude.{slice_get}
use Rattle.std.specs.Bool.{then_some}
use Rattle.std.specs.List.{cons_option}
use Rattle.std.proofs.lemmas.Option.{same_Some}
use Rattle.std.proofs.lemmas.List.Quantifiers.{position-Some}
use Rattle.b1_model.specs.declared.naming.Opening.{Opening}
use Rattle.b1_model.specs.Opening.{IsOpening}
use Rattle.b1_model.specs.declared.commands.Command.{Command}
use Rattle.b1_model.specs.declared.commands.Command.TheVariants as cmd
use Rattle.b1_model.specs.declared.answers.Answer.{Answer}
use Rattle.b1_model.specs.declared.answers.Answer.TheVariants as ans
use Rattle.b1_model.specs.declared.answers.Reason.{Reason}
use Rattle.b1_model.specs.declared.answers.Reason.TheVariants as reason
use Rattle.b1_model.specs.declared.events.Action.TheVariants as act
use Rattle.b1_model.specs.declared.events.Outcome.TheVariants as out
use Rattle.b1_model.specs.declared.events.Phase.TheVariants.{Starting}
use Rattle.b1_model.specs.MachineParts.{PeerPart, DriverPart, State, is_live, NodePart, is_dying, node_at, no_node}
use Rattle.b1_model.specs.MachineTables as tables
use Rattle.b1_model.specs.MachineSend.{first_reason}
use Rattle.b1_model.specs.MachineDestroy as machine
use Rattle.b1_model.specs.MachineDestroy.{is_bad_destroy, destroy_refusal, destroy_serials, visit_set, is_not_live}
use Rattle.b1_model.specs.MachineDriver.{refused_at}
use Rattle.b1_model.specs.MachineEvents.{destroy_by}
use Rattle.b1_model.specs.MachineStep.{Reached}
use Rattle.b1_schedule.specs.Shortage.{Shortage}
use Rattle.b1_step.specs.Rights.{Has}
use Rattle.b1_step.proofs.Lists.{has_within}
use Rattle.b1_inv.specs.Notices.{Apart}
use Rattle.b1_inv.specs.Sound.{IsSound}
use Rattle.b1_inv_record.specs.Right.{IsRight}
use Rattle.b1_inv_notices.proofs.Serials.{destroy_made, accepted_apart}
use Rattle.b1_inv_doomed.proofs.Named.{accepted_some}
use Rattle.b1_law.proofs.Reached.{reached_sound}
use Rattle.b1_legal.proofs.Reached.{reached_right}
use Rattle.b1_serial_bus.specs.Parts.{Part, Bus, at_peer, called}
use Rattle.b1_serial_bus.specs.Lives.{destroyed_at}
use Rattle.b1_serial_bus.specs.Destroy as bus_destroy
use Rattle.b1_serial_bus.specs.Destroy.{destroy_reasons, destroy_named, after_destroy}
use Rattle.b1_serial_bus.specs.Notices.{with_notices}
use Rattle.b1_serial_bus.specs.Doom.{doom_stamp, with_all_doomed, destroyed}
use Rattle.b1_serial_bus.specs.Commands.{after_command}
use Rattle.b1_serial_rest.specs.Standing.{part_of, parts_of, bus_of}
use Rattle.b1_serial_rest.specs.Rest.{AtRest}
use Rattle.b1_serial_rest.proofs.Wires.{serial_same}
use Rattle.b1_serial_rest.proofs.Own.{Parts, parts_at}
use Rattle.b1_serial_whole.proofs.Whole.{Whole}
use Rattle.b1_serial_whole.proofs.Determined.{whole_rests}
use Rattle.b1_serial_own.proofs.Moved.{begin_moved}
use Rattle.b1_serial_own.proofs.BoxKept.{boxes_kept}
use Rattle.b1_serial_own.proofs.Dropped.{live_is}
use Rattle.b1_serial_own.proofs.Amid.{updated, Ended, finished, end_is}
use Rattle.b1_serial_own.proofs.Visits.{destroys, EndsIn, destruction_done}
use Rattle.b1_serial_own.proofs.Holders.{list_rises, list_others, list_needs, stamp_alike}
use Rattle.b1_serial_own.proofs.Destroys.{collected, stamp, then_shown, then_is}
use Rattle.b1_serial_own.proofs.DestroyBoxes.{boxes_then}
use Rattle.b1_serial_own.proofs.Closed.{ended_shows, unchanged}

-- ---- what numbers name

find_same : {X : Type 0} (test other : X → Bool) (xs : List X) → ((x : X) → test x ≡ other x) → find test xs ≡ find other xs
find_same test other [] same = refl
find_same test other (x ∷ xs) same = ap (λ b. cond b (Some x) (find test xs)) (same x) ∙ ap (λ r. cond (other x) (Some x) r) (find_same test other xs same)

filter_map_same : {X Y : Type 0} (h k : X → Option Y) (xs : List X) → ((x : X) → h x ≡ k x) → filter_map h xs ≡ filter_map k xs
filter_map_same h k [] same = refl
filter_map_same h k (x ∷ xs) same = ap (λ r. cons_option r (filter_map h xs)) (same x) ∙ ap (cons_option (k x)) (filter_map_same h k xs same)

module _ (x : PeerPart) (d : DriverPart) (none_dying : (n : NodePart) → Has x.nodes n → is_dying n.state ≡ false) where
  pub live_alike : (number : ℕ) → bus_destroy.live_serial (part_of x d) number ≡ machine.live_serial x number
  live_alike number =
      ap (λ r. elim r [ None ↦ None | Some serial ↦ then_some (is_none (destroyed_at (part_of x d) serial)) serial ]) (serial_same number x.nodes)
      ∙ by (tables.serial_of number x.nodes) refl
    where
      by : (r : Option ℕ) → tables.serial_of number x.nodes ≡ r
          → ◌≡◌ {A = Option ℕ} (elim r [ None ↦ None | Some serial ↦ then_some (is_none (destroyed_at (part_of x d) serial)) serial ]) (elim r [ None ↦ None | Some serial ↦ then_some (is_live (node_at x serial).state) serial ])
      by None is = refl
      by (Some serial) is =
          let less = (position-Some (λ (n : NodePart). n.number == number) x.nodes serial no_node is).0 in
          ap (λ b. then_some b serial) (sym (live_is x d serial less (none_dying (node_at x serial) (has_within x.nodes serial no_node less))))

  unlive_alike : (number : ℕ) → is_none (bus_destroy.live_serial (part_of x d) number) ≡ is_not_live x number
  unlive_alike number = ap is_none (live_alike number) ∙ by (machine.live_serial x number)
    where
      by : (r : Option ℕ) → is_none r ≡ elim r [ None ↦ true | Some serial ↦ false ]
      by None = refl
      by (Some serial) = refl

  pub refusal_alike : (numbers : List ℕ) → first_reason (destroy_reasons (part_of x d) numbers) ≡ destroy_refusal x numbers
  refusal_alike numbers = ap (λ r. first_reason (then_some (is_bad_destroy numbers) reason.Invalid ∷ machine.overflow_reason x ∷ option_map (λ n. reason.Unknown n) r ∷ [])) (find_same (λ n. is_none (bus_destroy.live_serial (part_of x d) n)) (is_not_live x) numbers unlive_alike)

  pub doomed_alike : (numbers : List ℕ) → filter_map (bus_destroy.live_serial (part_of x d)) numbers ≡ destroy_serials x numbers
  doomed_alike numbers = filter_map_same (bus_destroy.live_serial (part_of x d)) (machine.live_serial x) numbers live_alike

-- what NODES_DESTROY dooms is live
module _ (x : PeerPart) where
  live_one : (b : Bool) (serial n : ℕ) → then_some b serial ≡ Some n → (b ≡ true) × (serial ≡ n)
  live_one true serial n is = (refl, same_Some serial n is)
  live_one false serial n is = absurd (cc is)

  live_named : (number n : ℕ) (r : Option ℕ) → elim r [ None ↦ None | Some serial ↦ then_some (is_live (node_at x serial).state) serial ] ≡ Some n → is_live (node_at x n).state ≡ true
  live_named number n None is = absurd (cc is)
  live_named number n (Some serial) is = let k = live_one (is_live (node_at x serial).state) serial n is in ap (λ i. is_live (node_at x i).state) (sym k.1) ∙ k.0

  pub doomed_live : (numbers : List ℕ) (n : ℕ) → Has (destroy_serials x numbers) n → is_live (node_at x n).state ≡ true
  doomed_live [] n there = absurd there
  doomed_live (number ∷ rest) n there = by (machine.live_serial x number) refl there (doomed_live rest n)
    where
      by : (r : Option ℕ) → machine.live_serial x number ≡ r → Has (cons_option r (filter_map (machine.live_serial x) rest)) n → (Has (filter_map (machine.live_serial x) rest) n → is_live (node_at x n).state ≡ true) → is_live (node_at x n).state ≡ true
      by None is later further = further later
      by (Some serial) is (inl same) further = live_named number n (tables.serial_of number x.nodes) (is ∙ ap Some (sym same))
      by (Some serial) is (inr later) further = further later

-- ---- the command

module _ (o : Opening) (s : State) (bus : Bus) (p : ℕ) (y : Part) (numbers : List ℕ) (m : Shortage) (t : State)
    (opens : IsOpening o) (reached : Reached o s) (rest : AtRest o s bus) (is : slice_get bus p ≡ Some y) (is_open : y.shut ≡ false) (whole : Whole o s p (cmd.Destroy numbers) t) where
  abbrev command : Command
  command = cmd.Destroy numbers

  here : Parts s.peers s.drivers p y
  here = parts_at s.peers s.drivers p y (ap (λ b. slice_get b p) (sym rest.is_bus) ∙ is)

  abbrev x : PeerPart
  x = here.0

  abbrev d : DriverPart
  d = here.1

  sound : IsSound o s
  sound = reached_sound o s opens reached

  right : IsRight o s
  right = reached_right o s opens reached

  me_is : y.me ≡ p
  me_is = ap (λ z. z.me) here.4 ∙ (rest.numbered.peers p x here.2).me

  driver_is : whole.begins.driver ≡ d
  driver_is = same_Some whole.begins.driver d (sym whole.begins.is_driver ∙ here.3)

  open_d : d.shut ≡ false
  open_d = sym (ap (λ z. z.shut) here.4) ∙ is_open

  me_d : d.me ≡ p
  me_d = rest.numbered.drivers p d here.3

  idle : d.doing ≡ None
  idle = rest.quiet.idle p d here.3

  paid : d.owed ≡ []
  paid = rest.quiet.paid p d here.3

  none_dying : (n : NodePart) → Has x.nodes n → is_dying n.state ≡ false
  none_dying n there = rest.quiet.stamped p x n here.2 there

  same_as : (r : Option PeerPart) → r ≡ option_map (λ z. z) r
  same_as None = refl
  same_as (Some z) = refl

  -- by the first refusal
  abbrev after_by : Option Reason → Bus
  after_by r = elim r [
    | Some r ↦ at_peer y.me (called command (refused_at r None)) bus
    | None ↦ destroy_named numbers (filter_map (bus_destroy.live_serial y) numbers) y bus
  ]

  after_is : after_command m command y bus ≡ after_by (destroy_refusal x numbers)
  after_is =
      ap (λ b. cond b (at_peer y.me (called command (refused_at reason.Shutdown None)) bus) (after_destroy numbers y bus)) is_open
      ∙ ap (λ v. after_by (first_reason (destroy_reasons v numbers))) here.4
      ∙ ap after_by (refusal_alike x d none_dying numbers)

  -- ---- refused

  module _ (r : Reason) (refused : destroy_refusal x numbers ≡ Some r) where
    answer : Answer
    answer = refused_at r None

    at : Ended o s p d command whole.first (refused_at r None) (updated p (λ z. z) (λ q z. z))
    at =
        finished o s p d command reached whole.begins Starting (begin_moved whole.begins command refl (ap (λ z. z.doing) driver_is ∙ idle)) (ap (λ z. z.me) driver_is ∙ me_d) (ap (λ z. z.owed) driver_is ∙ paid) (ap (λ z. z.calls) driver_is) (ap (λ z. z.shut) driver_is)
        (λ q apart. refl) (λ q z. z) (λ q. same_as (slice_get s.peers q))
        act.BeginDestroy p x here.2 (out.BeginDestroy (Err r) []) (λ z. z)
        (ap (λ b. cond b act.Local act.BeginDestroy) open_d) refl
        (λ memory e same. ap (λ w. destroy_by w (destroy_serials x numbers) x) refused)
        refl (λ b. refl) (refused_at r None) refl

    shows : bus_of t ≡ at_peer p (called command (refused_at r None)) bus
    shows =
        ap bus_of (sym (end_is o s p d command at whole.further whole.goes_on))
        ∙ ended_shows o s p x d command here.2 here.3 whole.first (refused_at r None) (updated p (λ z. z) (λ q z. z)) at
        ∙ ap (λ xs. at_peer p (called command (refused_at r None)) (parts_of xs s.drivers)) (unchanged s whole.first.peers (updated p (λ z. z) (λ q z. z)) (λ q z. by_either (q == p) z) at.peers)
        ∙ ap (at_peer p (called command (refused_at r None))) (sym rest.is_bus)
      where
        by_either : (b : Bool) (z : PeerPart) → cond b z z ≡ z
        by_either true z = refl
        by_either false z = refl

    refused_rests : AtRest o t (at_peer p (called command (refused_at r None)) bus)
    refused_rests =
        whole_rests whole bus (at_peer p (called command (refused_at r None)) bus) opens reached rest (sym shows)
        (boxes_kept (called command (refused_at r None)) p bus (λ z there. record { me = refl; nodes = refl; comes = λ f in_it. inl in_it; noticed = λ f n in_it before done. done }) rest.boxes)

  -- ---- accepted

  module _ (accepted : destroy_refusal x numbers ≡ None) (one : ℕ) (more : List ℕ) (serials : destroy_serials x numbers ≡ one ∷ more) where
    abbrev doomed : List ℕ
    doomed = one ∷ more

    made : (n : ℕ) → Has doomed n → n < length x.nodes
    made n there = destroy_made x numbers n (subst (λ l. Has l n) (sym serials) there)

    live : (n : ℕ) → Has doomed n → is_live (node_at x n).state ≡ true
    live n there = doomed_live x numbers n (subst (λ l. Has l n) (sym serials) there)

    apart : Apart doomed
    apart = subst Apart serials (accepted_apart x numbers accepted)

    abbrev at_stamp : ℕ
    at_stamp = stamp sound right rest p x d here.2 here.3 doomed made live apart

    ends : EndsIn o s p x d command t here.2 here.3 whole.ends one more (visit_set x doomed) (list_rises sound right rest p x d here.2 here.3 doomed made live) (list_others sound right rest p x d here.2 here.3 doomed made live)
        (list_needs sound right rest p x d here.2 here.3 doomed made live) (ans.Destroyed at_stamp) (destroys p doomed (collected sound right rest p x d here.2 here.3 doomed made live apart) at_stamp (visit_set x doomed))
    ends =
        destruction_done o s p x d command t here.2 here.3 whole.ends one more (visit_set x doomed) (list_rises sound right rest p x d here.2 here.3 doomed made live) (list_others sound right rest p x d here.2 here.3 doomed made live)
        (list_needs sound right rest p x d here.2 here.3 doomed made live) reached whole me_d idle paid open_d refl accepted serials refl

    abbrev bus_then : Bus
    bus_then = at_peer p (with_all_doomed at_stamp 0 doomed) (map (with_notices at_stamp p 0 doomed) bus)

    shown : bus_of t ≡ at_peer p (called command (ans.Destroyed at_stamp)) bus_then
    shown =
        ap bus_of (sym (end_is o s p d command ends.at ends.left ends.goes_on))
        ∙ ended_shows o s p x d command here.2 here.3 ends.state (ans.Destroyed at_stamp) (destroys p doomed (collected sound right rest p x d here.2 here.3 doomed made live apart) at_stamp (visit_set x doomed)) ends.at
        ∙ ap (at_peer p (called command (ans.Destroyed at_stamp))) (then_shown sound right rest p x d here.2 here.3 doomed made live apart ends.state.peers ends.at.peers)

    bus_is : destroy_named numbers (filter_map (bus_destroy.live_serial y) numbers) y bus ≡ at_peer p (called command (ans.Destroyed at_stamp)) bus_then
    bus_is =
        ap (λ l. destroy_named numbers l y bus) (ap (λ v. filter_map (bus_destroy.live_serial v) numbers) here.4 ∙ doomed_alike x d none_dying numbers ∙ serials)
        ∙ ap (λ q. at_peer q (called command (ans.Destroyed (doom_stamp y doomed bus))) (destroyed (doom_stamp y doomed bus) y doomed bus)) me_is
        ∙ ap (λ n. at_peer p (called command (ans.Destroyed n)) (destroyed (doom_stamp y doomed bus) y doomed bus)) (sym (stamp_alike sound right rest p x d here.2 here.3 doomed made live y here.4))
        ∙ ap (at_peer p (called command (ans.Destroyed at_stamp))) (sym (then_is sound right rest p x d here.2 here.3 doomed made live apart y here.4))

    accepted_rests : AtRest o t (destroy_named numbers (filter_map (bus_destroy.live_serial y) numbers) y bus)
    accepted_rests =
        subst (AtRest o t) (sym bus_is)
        (whole_rests whole bus (at_peer p (called command (ans.Destroyed at_stamp)) bus_then) opens reached rest (sym shown)
        (boxes_kept (called command (ans.Destroyed at_stamp)) p bus_then (λ z there. record { me = refl; nodes = refl; comes = λ f in_it. inl in_it; noticed = λ f n in_it before done. done })
        (boxes_then sound right rest p x d here.2 here.3 doomed made live apart)))

  by_serials : destroy_refusal x numbers ≡ None → (l : List ℕ) → destroy_serials x numbers ≡ l → AtRest o t (destroy_named numbers (filter_map (bus_destroy.live_serial y) numbers) y bus)
  by_serials accepted [] serials = let some = accepted_some x numbers accepted in let none = ap length serials in absurd (omega (arith, some, none))
  by_serials accepted (one ∷ more) serials = accepted_rests accepted one more serials

  by_refusal : (r : Option Reason) → destroy_refusal x numbers ≡ r → AtRest o t (after_by r)
  by_refusal None accepted = by_serials accepted (destroy_serials x numbers) refl
  by_refusal (Some r) refused = subst (λ q. AtRest o t (at_peer q (called command (refused_at r None)) bus)) (sym me_is) (refused_rests r refused)

  -- at rest again
  pub destroy_whole : AtRest o t (after_command m command y bus)
  destroy_whole = subst (AtRest o t) (sym after_is) (by_refusal (destroy_refusal x numbers) refl)
