-- A whole PEER_RESET with flush, and a whole PEER_DISCONNECT, lead from rest to rest.
use Rattle.std.proofs.Common.{◌≡◌, refl, sym, ap, ◌∙◌, subst, inl, ℕ, suc, ◌+◌, ◌<◌, ◌==◌, Bool, true, false, cond, if◌then◌else◌, List, [], ◌∷◌, ◌++◌, map, filter, length, get_or, Option, Some, None, Ok, Err, is_none, option_map, arith}
use Rattle.std.specs.Prelude.{slice_get}
use Rattle.std.specs.List.{range_with_len}
use Rattle.std.proofs.lemmas.Option.{same_Some}
use Rattle.std.proofs.lemmas.List.{length-map}
use Rattle.b1_model.specs.declared.naming.Opening.{Opening}
use Rattle.b1_model.specs.Opening.{IsOpening}
use Rattle.b1_model.specs.declared.commands.Command.{Command}
use Rattle.b1_model.specs.declared.commands.Command.TheVariants as cmd
use Rattle.b1_model.specs.declared.answers.Answer.{Answer}
use Rattle.b1_model.specs.declared.answers.Answer.TheVariants as ans
use Rattle.b1_model.specs.declared.answers.Reason.{Reason}
use Rattle.b1_model.specs.declared.answers.Reason.TheVariants as reason
use Rattle.b1_model.specs.declared.events.Action.TheVariants as act
use Rattle.b1_model.specs.declared.events.Outcome.TheVariants as out
use Rattle.b1_model.specs.declared.events.Phase.TheVariants.{Starting, Flushing}
use Rattle.b1_model.specs.MachineParts.{PeerPart, DriverPart, State, is_live, NodePart, is_dying, node_at, no_node}
use Rattle.b1_model.specs.MachineDestroy as machine
use Rattle.b1_model.specs.MachineDestroy.{reset_serials, visit_set, doomed_part}
use Rattle.b1_model.specs.MachineDriver.{Goes, Ends, first_action, refused_at, is_flushing}
use Rattle.b1_model.specs.MachineTook.{call_of}
use Rattle.b1_model.specs.MachineEvents.{begin_refusal, begin_serials, destroy_by}
use Rattle.b1_model.specs.MachineStep.{Reached}
use Rattle.b1_schedule.specs.Shortage.{Shortage}
use Rattle.b1_step.specs.Rights.{Has}
use Rattle.b1_step.proofs.Lists.{has_within, filter_has}
use Rattle.b1_inv.specs.Words.{IsPeer}
use Rattle.b1_inv.specs.Notices.{Apart}
use Rattle.b1_inv.specs.Sound.{IsSound}
use Rattle.b1_inv_record.specs.Right.{IsRight}
use Rattle.b1_inv_notices.proofs.Serials.{reset_made, reset_apart}
use Rattle.b1_law.proofs.Reached.{reached_sound}
use Rattle.b1_legal.proofs.Reached.{reached_right}
use Rattle.b1_serial_bus.specs.Parts.{Part, Bus, at_peer, called}
use Rattle.b1_serial_bus.specs.Lives.{destroyed_at}
use Rattle.b1_serial_bus.specs.Lives as lives
use Rattle.b1_serial_bus.specs.Destroy as bus_destroy
use Rattle.b1_serial_bus.specs.Notices.{with_notices}
use Rattle.b1_serial_bus.specs.Doom.{doom_stamp, with_all_doomed, destroyed}
use Rattle.b1_serial_bus.specs.Flush.{flush, ended_by, after_reset}
use Rattle.b1_serial_bus.specs.Commands.{after_command}
use Rattle.b1_serial_rest.specs.Standing.{own_of, part_of, parts_of, bus_of}
use Rattle.b1_serial_rest.specs.Rest.{BoxesRight, AtRest}
use Rattle.b1_serial_rest.proofs.Own.{Parts, parts_at}
use Rattle.b1_serial_whole.proofs.Whole.{Whole}
use Rattle.b1_serial_whole.proofs.Determined.{whole_rests}
use Rattle.b1_serial_own.proofs.Moved.{begin_moved}
use Rattle.b1_serial_own.proofs.BoxKept.{boxes_kept}
use Rattle.b1_serial_own.proofs.Dropped.{live_is}
use Rattle.b1_serial_own.proofs.Amid.{Become, updated, Amid, Ended, Further, advanced, finished, steps_on, end_is}
use Rattle.b1_serial_own.proofs.Visits.{destroys, Comes, ComesBy, destruction_done}
use Rattle.b1_serial_own.proofs.Holders.{list_rises, list_others, list_needs, stamp_alike}
use Rattle.b1_serial_own.proofs.Destroys.{same_all, of_both, parts_read, collected, stamp, then_shown, then_is}
use Rattle.b1_serial_own.proofs.DestroyBoxes.{boxes_then}
use Rattle.b1_serial_own.proofs.Closed.{ended_shows, unchanged}
use Rattle.b1_serial_own.proofs.FlushEnds.{flush_shows, flush_boxes}

-- ---- the live nodes

-- those of a list, from a serial on
live_from : (test : ℕ → Bool) (here : ℕ) (nodes : List NodePart) → ((i : ℕ) → i < length nodes → test (here + i) ≡ is_live (get_or nodes i no_node).state) → filter test (range_with_len here (length nodes)) ≡ machine.live_serials here nodes
live_from test here [] same = refl
live_from test here (n ∷ rest) same =
    let this : here ≡ here + 0 = omega arith in
    ap (λ b. cond b (here ∷ filter test (range_with_len (here + 1) (length rest))) (filter test (range_with_len (here + 1) (length rest)))) (ap test this ∙ same 0 (omega arith))
    ∙ ap (λ l. cond (is_live n.state) (here ∷ l) l) (live_from test (here + 1) rest (λ i less. let that : here + 1 + i ≡ here + suc i = omega arith in ap test that ∙ same (suc i) (omega (arith, less))))

module _ (x : PeerPart) (d : DriverPart) (none_dying : (n : NodePart) → Has x.nodes n → is_dying n.state ≡ false) where
  live_test : (serial : ℕ) → serial < length x.nodes → is_none (destroyed_at (part_of x d) serial) ≡ is_live (node_at x serial).state
  live_test serial made = sym (live_is x d serial made (none_dying (node_at x serial) (has_within x.nodes serial no_node made)))

  pub serials_alike : lives.live_serials (part_of x d) ≡ reset_serials x
  serials_alike =
      ap (λ k. filter (λ serial. is_none (destroyed_at (part_of x d) serial)) (range_with_len 0 k)) (length-map x.nodes own_of)
      ∙ live_from (λ serial. is_none (destroyed_at (part_of x d) serial)) 0 x.nodes (λ i less. let that : 0 + i ≡ i = omega arith in ap (λ serial. is_none (destroyed_at (part_of x d) serial)) that ∙ live_test i less)

  pub serials_live : (n : ℕ) → Has (reset_serials x) n → is_live (node_at x n).state ≡ true
  serials_live n there =
      sym (live_test n (reset_made x n there))
      ∙ (filter_has (λ serial. is_none (destroyed_at (part_of x d) serial)) (range_with_len 0 (length (map own_of x.nodes))) n (subst (λ l. Has l n) (sym serials_alike) there)).1

-- ---- peers that show what they showed

parts_kept : (s : State) (peers : List PeerPart) (g : Become) → ((q : ℕ) (z : PeerPart) (e : DriverPart) → part_of (g q z) e ≡ part_of z e) → ((q : ℕ) → slice_get peers q ≡ option_map (g q) (slice_get s.peers q)) → parts_of peers s.drivers ≡ bus_of s
parts_kept s peers g same become = same_all (parts_of peers s.drivers) (bus_of s) (λ q.
    parts_read peers s.drivers q ∙ ap (λ r. of_both r (slice_get s.drivers q)) (become q) ∙ by q (slice_get s.peers q) (slice_get s.drivers q) ∙ sym (parts_read s.peers s.drivers q))
  where
    by : (q : ℕ) (r : Option PeerPart) (k : Option DriverPart) → of_both (option_map (g q) r) k ≡ of_both r k
    by q None k = refl
    by q (Some z) None = refl
    by q (Some z) (Some e) = ap Some (same q z e)

-- ---- the command

module _ (o : Opening) (s : State) (bus : Bus) (p : ℕ) (y : Part) (command : Command) (m : Shortage) (t : State)
    (opens : IsOpening o) (reached : Reached o s) (rest : AtRest o s bus) (is : slice_get bus p ≡ Some y) (is_open : y.shut ≡ false) (whole : Whole o s p command t)
    (first_event : first_action command ≡ act.BeginDestroy) (flushes : is_flushing command ≡ true) (refuses : (x : PeerPart) → begin_refusal command x ≡ machine.overflow_reason x) (dooms : (x : PeerPart) → begin_serials command x ≡ reset_serials x)
    (call_is : (answer : Answer) → call_of command answer ≡ record { command = command; answer = answer } ∷ []) (opened : after_command m command y bus ≡ cond y.shut (at_peer y.me (called command (refused_at reason.Shutdown None)) bus) (after_reset command y bus)) where
  here : Parts s.peers s.drivers p y
  here = parts_at s.peers s.drivers p y (ap (λ b. slice_get b p) (sym rest.is_bus) ∙ is)

  abbrev x : PeerPart
  x = here.0

  abbrev d : DriverPart
  d = here.1

  sound : IsSound o s
  sound = reached_sound o s opens reached

  right : IsRight o s
  right = reached_right o s opens reached

  me_is : y.me ≡ p
  me_is = ap (λ z. z.me) here.4 ∙ (rest.numbered.peers p x here.2).me

  driver_is : whole.begins.driver ≡ d
  driver_is = same_Some whole.begins.driver d (sym whole.begins.is_driver ∙ here.3)

  open_d : d.shut ≡ false
  open_d = sym (ap (λ z. z.shut) here.4) ∙ is_open

  me_d : d.me ≡ p
  me_d = rest.numbered.drivers p d here.3

  idle : d.doing ≡ None
  idle = rest.quiet.idle p d here.3

  paid : d.owed ≡ []
  paid = rest.quiet.paid p d here.3

  none_dying : (n : NodePart) → Has x.nodes n → is_dying n.state ≡ false
  none_dying n there = rest.quiet.stamped p x n here.2 there

  same_as : (r : Option PeerPart) → r ≡ option_map (λ z. z) r
  same_as None = refl
  same_as (Some z) = refl

  -- by the refusal
  abbrev after_by : Option Reason → Bus
  after_by r = elim r [
    | Some r ↦ at_peer y.me (called command (refused_at r None)) bus
    | None ↦ ended_by command (lives.live_serials y) y bus
  ]

  after_is : after_command m command y bus ≡ after_by (machine.overflow_reason x)
  after_is =
      opened
      ∙ ap (λ b. cond b (at_peer y.me (called command (refused_at reason.Shutdown None)) bus) (after_reset command y bus)) is_open
      ∙ ap (λ v. after_by (bus_destroy.overflow_reason v)) here.4

  -- ---- refused

  module _ (r : Reason) (refused : machine.overflow_reason x ≡ Some r) where
    at_refusal : Ended o s p d command whole.first (refused_at r None) (updated p (λ z. z) (λ q z. z))
    at_refusal =
        finished o s p d command reached whole.begins Starting (begin_moved whole.begins command refl (ap (λ z. z.doing) driver_is ∙ idle)) (ap (λ z. z.me) driver_is ∙ me_d) (ap (λ z. z.owed) driver_is ∙ paid) (ap (λ z. z.calls) driver_is) (ap (λ z. z.shut) driver_is)
        (λ q apart. refl) (λ q z. z) (λ q. same_as (slice_get s.peers q))
        act.BeginDestroy p x here.2 (out.BeginDestroy (Err r) []) (λ z. z)
        (ap (λ b. cond b act.Local (first_action command)) open_d ∙ first_event) refl
        (λ memory e same. ap (λ w. destroy_by w (begin_serials command x) x) (refuses x ∙ refused))
        refl (λ b. refl) (refused_at r None) refl

    shows : bus_of t ≡ at_peer p (called command (refused_at r None)) bus
    shows =
        ap bus_of (sym (end_is o s p d command at_refusal whole.further whole.goes_on))
        ∙ ended_shows o s p x d command here.2 here.3 whole.first (refused_at r None) (updated p (λ z. z) (λ q z. z)) at_refusal
        ∙ ap (λ l. at_peer p (λ (z : Part). record z { calls = z.calls ++ l }) (parts_of whole.first.peers s.drivers)) (call_is (refused_at r None))
        ∙ ap (λ xs. at_peer p (called command (refused_at r None)) (parts_of xs s.drivers)) (unchanged s whole.first.peers (updated p (λ z. z) (λ q z. z)) (λ q z. by_either (q == p) z) at_refusal.peers)
        ∙ ap (at_peer p (called command (refused_at r None))) (sym rest.is_bus)
      where
        by_either : (b : Bool) (z : PeerPart) → cond b z z ≡ z
        by_either true z = refl
        by_either false z = refl

    refused_rests : AtRest o t (at_peer p (called command (refused_at r None)) bus)
    refused_rests =
        whole_rests whole bus (at_peer p (called command (refused_at r None)) bus) opens reached rest (sym shows)
        (boxes_kept (called command (refused_at r None)) p bus (λ z there. record { me = refl; nodes = refl; comes = λ f in_it. inl in_it; noticed = λ f n in_it before done. done }) rest.boxes)

  -- ---- accepted, with no live node

  module _ (accepted : machine.overflow_reason x ≡ None) (serials : reset_serials x ≡ []) where
    abbrev kept : Become
    kept = updated p (λ z. doomed_part z []) (λ q z. z)

    at_flush : Amid o s p d command whole.first (Flushing None) kept
    at_flush =
        advanced o s p d command reached whole.begins Starting (begin_moved whole.begins command refl (ap (λ z. z.doing) driver_is ∙ idle)) (ap (λ z. z.me) driver_is ∙ me_d) (ap (λ z. z.owed) driver_is ∙ paid) (ap (λ z. z.calls) driver_is) (ap (λ z. z.shut) driver_is)
        (λ q apart. refl) (λ q z. z) (λ q. same_as (slice_get s.peers q))
        act.BeginDestroy p x here.2 (out.BeginDestroy (Ok (visit_set x [])) []) (λ z. doomed_part z [])
        (ap (λ b. cond b act.Local (first_action command)) open_d ∙ first_event) refl
        (λ memory e same. ap (λ r. destroy_by r (begin_serials command x) x) (refuses x ∙ accepted) ∙ ap (λ l. destroy_by None l x) (dooms x ∙ serials))
        refl (λ b. refl) (Flushing None) refl (λ told. refl)

    kept_shows : (q : ℕ) (z : PeerPart) (e : DriverPart) → part_of (kept q z) e ≡ part_of z e
    kept_shows q z e = by (q == p)
      where
        by : (b : Bool) → part_of (cond b (doomed_part z []) z) e ≡ part_of z e
        by true = refl
        by false = refl

    before_is : parts_of whole.first.peers s.drivers ≡ bus
    before_is = parts_kept s whole.first.peers kept kept_shows at_flush.peers ∙ sym rest.is_bus

    further : Further o s p d command whole.first t
    further = steps_on o s p d command at_flush whole.ends whole.further whole.goes_on

    own_flush : IsPeer whole.first p (kept p x)
    own_flush = at_flush.peers p ∙ ap (option_map (kept p)) here.2

    none_rests : AtRest o t (flush command None p bus)
    none_rests =
        whole_rests whole bus (flush command None p bus) opens reached rest
        (sym (flush_shows o s bus p d command opens None rest here.3 t at_flush further.step (kept p x) own_flush open_d whole.ends further.left further.goes_on (call_is (ans.Reset None)) ∙ ap (flush command None p) before_is))
        (subst (λ b. BoxesRight (flush command None p b)) before_is
        (flush_boxes o s bus p d command opens None rest here.3 t at_flush further.step (kept p x) own_flush open_d whole.ends further.left further.goes_on (call_is (ans.Reset None)) (subst BoxesRight (sym before_is) rest.boxes)))

  -- ---- accepted, with live nodes

  module _ (accepted : machine.overflow_reason x ≡ None) (one : ℕ) (more : List ℕ) (serials : reset_serials x ≡ one ∷ more) where
    abbrev doomed : List ℕ
    doomed = one ∷ more

    made : (n : ℕ) → Has doomed n → n < length x.nodes
    made n there = reset_made x n (subst (λ l. Has l n) (sym serials) there)

    live : (n : ℕ) → Has doomed n → is_live (node_at x n).state ≡ true
    live n there = serials_live x d none_dying n (subst (λ l. Has l n) (sym serials) there)

    apart : Apart doomed
    apart = subst Apart serials (reset_apart x)

    abbrev at_stamp : ℕ
    at_stamp = stamp sound right rest p x d here.2 here.3 doomed made live apart

    abbrev become : Become
    become = destroys p doomed (collected sound right rest p x d here.2 here.3 doomed made live apart) at_stamp (visit_set x doomed)

    flushing : Comes o s p x d command t here.2 here.3 whole.ends one more (visit_set x doomed) (list_rises sound right rest p x d here.2 here.3 doomed made live) (list_others sound right rest p x d here.2 here.3 doomed made live)
        (list_needs sound right rest p x d here.2 here.3 doomed made live) (Flushing (Some at_stamp)) become
    flushing =
        subst (λ b. ComesBy o s p x d command t here.2 here.3 whole.ends one more (visit_set x doomed) (list_rises sound right rest p x d here.2 here.3 doomed made live) (list_others sound right rest p x d here.2 here.3 doomed made live)
        (list_needs sound right rest p x d here.2 here.3 doomed made live) (if b then Goes (Flushing (Some at_stamp)) else Ends (ans.Destroyed at_stamp)) become) flushes
        (destruction_done o s p x d command t here.2 here.3 whole.ends one more (visit_set x doomed) (list_rises sound right rest p x d here.2 here.3 doomed made live) (list_others sound right rest p x d here.2 here.3 doomed made live)
        (list_needs sound right rest p x d here.2 here.3 doomed made live) reached whole me_d idle paid open_d first_event (refuses x ∙ accepted) (dooms x ∙ serials) refl)

    abbrev bus_then : Bus
    bus_then = at_peer p (with_all_doomed at_stamp 0 doomed) (map (with_notices at_stamp p 0 doomed) bus)

    before_then : parts_of flushing.state.peers s.drivers ≡ bus_then
    before_then = then_shown sound right rest p x d here.2 here.3 doomed made live apart flushing.state.peers flushing.at.peers

    further_then : Further o s p d command flushing.state t
    further_then = steps_on o s p d command flushing.at whole.ends flushing.left flushing.goes_on

    own_then : IsPeer flushing.state p (become p x)
    own_then = flushing.at.peers p ∙ ap (option_map (become p)) here.2

    some_rests : AtRest o t (flush command (Some at_stamp) p bus_then)
    some_rests =
        whole_rests whole bus (flush command (Some at_stamp) p bus_then) opens reached rest
        (sym (flush_shows o s bus p d command opens (Some at_stamp) rest here.3 t flushing.at further_then.step (become p x) own_then open_d whole.ends further_then.left further_then.goes_on (call_is (ans.Reset (Some at_stamp))) ∙ ap (flush command (Some at_stamp) p) before_then))
        (subst (λ b. BoxesRight (flush command (Some at_stamp) p b)) before_then
        (flush_boxes o s bus p d command opens (Some at_stamp) rest here.3 t flushing.at further_then.step (become p x) own_then open_d whole.ends further_then.left further_then.goes_on (call_is (ans.Reset (Some at_stamp)))
        (subst BoxesRight (sym before_then) (boxes_then sound right rest p x d here.2 here.3 doomed made live apart))))

    bus_is : flush command (Some at_stamp) p bus_then ≡ ended_by command doomed y bus
    bus_is =
        ap (flush command (Some at_stamp) p) (then_is sound right rest p x d here.2 here.3 doomed made live apart y here.4)
        ∙ ap (λ n. flush command (Some n) p (destroyed (doom_stamp y doomed bus) y doomed bus)) (stamp_alike sound right rest p x d here.2 here.3 doomed made live y here.4)
        ∙ ap (λ q. flush command (Some (doom_stamp y doomed bus)) q (destroyed (doom_stamp y doomed bus) y doomed bus)) (sym me_is)

    doomed_rests : AtRest o t (ended_by command doomed y bus)
    doomed_rests = subst (AtRest o t) bus_is some_rests

  by_serials : machine.overflow_reason x ≡ None → (l : List ℕ) → reset_serials x ≡ l → AtRest o t (ended_by command l y bus)
  by_serials accepted [] serials = subst (λ q. AtRest o t (flush command None q bus)) (sym me_is) (none_rests accepted serials)
  by_serials accepted (one ∷ more) serials = doomed_rests accepted one more serials

  lives_are : lives.live_serials y ≡ reset_serials x
  lives_are = ap lives.live_serials here.4 ∙ serials_alike x d none_dying

  by_refusal : (r : Option Reason) → machine.overflow_reason x ≡ r → AtRest o t (after_by r)
  by_refusal None accepted = subst (λ l. AtRest o t (ended_by command l y bus)) (sym lives_are) (by_serials accepted (reset_serials x) refl)
  by_refusal (Some r) refused = subst (λ q. AtRest o t (at_peer q (called command (refused_at r None)) bus)) (sym me_is) (refused_rests r refused)

  -- at rest again
  reset_rests : AtRest o t (after_command m command y bus)
  reset_rests = subst (AtRest o t) (sym after_is) (by_refusal (machine.overflow_reason x) refl)

-- for every command that flushes
module _ (o : Opening) (s : State) (bus : Bus) (p : ℕ) (y : Part) (m : Shortage) (t : State)
    (opens : IsOpening o) (reached : Reached o s) (rest : AtRest o s bus) (is : slice_get bus p ≡ Some y) (is_open : y.shut ≡ false) where
  pub reset_whole : (command : Command) → is_flushing command ≡ true → Whole o s p command t → AtRest o t (after_command m command y bus)
  reset_whole (cmd.Reset limits) flushes whole = reset_rests o s bus p y (cmd.Reset limits) m t opens reached rest is is_open whole refl refl (λ x. refl) (λ x. refl) (λ a. refl) refl
  reset_whole cmd.Disconnect flushes whole = reset_rests o s bus p y cmd.Disconnect m t opens reached rest is is_open whole refl refl (λ x. refl) (λ x. refl) (λ a. refl) refl
  reset_whole (cmd.Send c) flushes whole = absurd (cc flushes)
  reset_whole cmd.Recv flushes whole = absurd (cc flushes)
  reset_whole cmd.Await flushes whole = absurd (cc flushes)
  reset_whole (cmd.Release number) flushes whole = absurd (cc flushes)
  reset_whole (cmd.Destroy numbers) flushes whole = absurd (cc flushes)
  reset_whole (cmd.SliceRelease offset) flushes whole = absurd (cc flushes)
  reset_whole cmd.Query flushes whole = absurd (cc flushes)
  reset_whole (cmd.Limit limits) flushes whole = absurd (cc flushes)
