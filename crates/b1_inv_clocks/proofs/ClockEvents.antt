-- What events make of clocks and of the stamps of nodes, and at which clocks a command can begin.
use Rattle.std.proofs.Common.{◌≡◌, refl, sym, ap, subst, ◌∙◌, inl, inr, ℕ, ◌<◌, ◌==◌, Bool, true, false, List, [], ◌∷◌, length, get_or, map, filter, find, Option, Some, None, Ok, Err, nat_le, nat_lt, option_map}
use Rattle.std.specs.Prelude.{⊤}
use Rattle.std.specs.Bool.{then_some}
use Rattle.std.proofs.lemmas.Bool.{cases_lt, le-leb}
use Rattle.std.proofs.lemmas.Option.{slice_get_within, get_or_from_slice_get}
use Rattle.std.proofs.lemmas.List.{get_or_past}
use native.Mathlib.Omega.{arith}
use Rattle.b1_model.specs.declared.naming.NodeRef.{NodeRef}
use Rattle.b1_model.specs.declared.naming.Opening.{Opening}
use Rattle.b1_model.specs.declared.commands.Command.{Command}
use Rattle.b1_model.specs.declared.commands.Command.TheVariants as cmd
use Rattle.b1_model.specs.declared.commands.SendCmd.{SendCmd}
use Rattle.b1_model.specs.declared.answers.Reason.{Reason}
use Rattle.b1_model.specs.declared.answers.Reason.TheVariants as reason
use Rattle.b1_model.specs.declared.parts.NodeState.{NodeState}
use Rattle.b1_model.specs.declared.parts.NodeState.TheVariants.{Live, Dying, Destroyed}
use Rattle.b1_model.specs.declared.events.Action.{Action}
use Rattle.b1_model.specs.declared.events.Action.TheVariants as act
use Rattle.b1_model.specs.declared.events.Outcome.TheVariants as out
use Rattle.b1_model.specs.declared.events.Doing.{Doing}
use Rattle.b1_model.specs.MachineParts.{PeerPart, DriverPart, NodePart, no_node, node_at, clock_limit}
use Rattle.b1_model.specs.MachineTables.{with_nodes, in_state, held_node}
use Rattle.b1_model.specs.Names.{is_given}
use Rattle.b1_model.specs.MachineSend.{first_reason, is_bad_send, unknown_reason, dead_reason, send_refusal, final_stamp, attach_by}
use Rattle.b1_model.specs.MachineReceive.{has_dead, reaped_part, released_by, with_release_notice, is_released, dropped_refs}
use Rattle.b1_model.specs.MachineDestroy.{is_bad_destroy, is_not_live, overflow_reason, destroy_refusal, doom_by}
use Rattle.b1_model.specs.MachineDriver.{peer_of, send_of}
use Rattle.b1_model.specs.MachineEvents.{happens, begin_by, stage_by, destroy_by, begin_refusal, begin_serials, collected_of, doomed_of, number_of}
use Rattle.b1_step.specs.Rights.{Has}
use Rattle.b1_step.proofs.Changed.{changes}
use Rattle.b1_inv.specs.Clocks.{IsClock}
use Rattle.b1_inv_notices.proofs.Sets.{in_or_not, has_index, has_at_place}
use Rattle.b1_inv_notices.proofs.Nodes.{NodesKept, nodes_kept, doomed_length, doomed_state, undoomed_state}
use Rattle.b1_inv_notices.proofs.StampTurns.{Gave}
use Rattle.b1_inv_clocks.proofs.ClockTurns.{clock_zero, clock_max, BringsClock, Begins}

-- the stamps of destroyed nodes are clocks within a bound
abbrev pub StampsBelow : ℕ → List NodePart → Type 0
StampsBelow bound nodes = (n : NodePart) (stamp : ℕ) → Has nodes n → n.state ≡ Destroyed stamp → IsClock bound stamp

-- a node by its serial, made or not
by_serial : (bound : ℕ) (nodes : List NodePart) (serial stamp : ℕ) → StampsBelow bound nodes → (get_or nodes serial no_node).state ≡ Destroyed stamp → IsClock bound stamp
by_serial bound nodes serial stamp below is =
    elim (cases_lt serial (length nodes)) [
      | inl within ↦ below (get_or nodes serial no_node) stamp (has_at_place nodes serial no_node within) is
      | inr past ↦ let zero_is : Destroyed 0 ≡ Destroyed stamp = sym (ap (λ n. n.state) (get_or_past nodes serial no_node past)) ∙ is in let same : 0 ≡ stamp = cc zero_is in subst (IsClock bound) same (clock_zero bound)
    ]

module _ (bound : ℕ) (x : PeerPart) (clock : IsClock bound x.clock) (below : StampsBelow bound x.nodes) where
  -- ---- the clocks that answers bring

  stage_brings : (r : Option Reason) (memory : Bool) (origin user place serial : ℕ) (payload : List ℕ) (nodes : List NodeRef) → BringsClock bound (stage_by r memory origin user place serial payload nodes x).0
  stage_brings (Some r) memory origin user place serial payload nodes = tt
  stage_brings None true origin user place serial payload nodes = tt
  stage_brings None false origin user place serial payload nodes = clock

  begin_brings : (r : Option Reason) (memory : Bool) (c : SendCmd) → BringsClock bound (begin_by r memory c x).0
  begin_brings (Some r) memory c = tt
  begin_brings None true c = tt
  begin_brings None false c = tt

  destroy_brings : (r : Option Reason) (doomed : List ℕ) → BringsClock bound (destroy_by r doomed x).0
  destroy_brings (Some r) doomed = tt
  destroy_brings None doomed = tt

  attach_brings : (serial : ℕ) (state : NodeState) (own : Bool) → (node_at x serial).state ≡ state → BringsClock bound (out.Attach (attach_by state own))
  attach_brings serial (Destroyed stamp) own is = by_serial bound x.nodes serial stamp below is
  attach_brings serial Live true is = tt
  attach_brings serial Live false is = tt
  attach_brings serial Dying true is = tt
  attach_brings serial Dying false is = tt

  reap_brings : (dead : List (List (NodeRef × ℕ))) (more : Bool) → BringsClock bound (out.Reap (elim dead [ [] ↦ None | item ∷ rest ↦ Some (record { drops = item; clock = x.clock }) ]) more)
  reap_brings [] more = tt
  reap_brings (item ∷ rest) more = clock

  release_brings : (b : Bool) (held : Option NodeRef) (number : ℕ) → BringsClock bound (out.Release (released_by b held x number))
  release_brings false held number = tt
  release_brings true None number = tt
  release_brings true (Some node) number = clock

  pub brings_clock : (o : Opening) (memory : Bool) (d : DriverPart) (one : Doing) (action : Action) → BringsClock bound (happens o memory d one action x).0
  brings_clock o memory d one act.Begin = begin_brings (send_refusal x (send_of one.command)) memory (send_of one.command)
  brings_clock o memory d one (act.Stage peer place) = stage_brings _ memory _ _ _ _ _ _
  brings_clock o memory d one (act.Attach peer serial dest) = attach_brings serial (node_at x serial).state (dest == x.me) refl
  brings_clock o memory d one act.Reap = reap_brings x.dead (has_dead (reaped_part x))
  brings_clock o memory d one act.Release = release_brings (is_given (number_of one.command)) (held_node (number_of one.command) x.handles) (number_of one.command)
  brings_clock o memory d one act.BeginDestroy = destroy_brings (begin_refusal one.command x) (begin_serials one.command x)
  brings_clock o memory d one (act.Visit peer) = clock
  brings_clock o memory d one action = tt

  -- ---- the clock

  -- the stamps and clocks that an event is given
  abbrev pub ActionClock : Action → Type 0
  ActionClock (act.Sync peer stamp) = IsClock bound stamp
  ActionClock (act.DropRefs peer serial holder k given) = IsClock bound given
  ActionClock action = ⊤

  drop_after : (b : Bool) (serial holder k given : ℕ) → IsClock bound given → IsClock bound (with_release_notice b (dropped_refs x serial holder k given) serial).clock
  drop_after true serial holder k given h = clock_max bound x.clock given clock h
  drop_after false serial holder k given h = clock_max bound x.clock given clock h

  doom_after : (late : List ℕ) (collected : ℕ) (doomed : List ℕ) → ((stamp : ℕ) → Gave (out.StampDestroy (elim late [ [] ↦ Ok (final_stamp x collected) | peer ∷ rest ↦ Err (peer ∷ rest) ])) stamp → IsClock bound stamp) → IsClock bound (doom_by late x collected doomed).clock
  doom_after [] collected doomed given = given (final_stamp x collected) refl
  doom_after (peer ∷ rest) collected doomed given = clock

  same_clock : (now : ℕ) → now ≡ x.clock → IsClock bound now
  same_clock now same = subst (IsClock bound) (sym same) clock

  pub clock_after : (o : Opening) (memory : Bool) (d : DriverPart) (one : Doing) (action : Action) → ActionClock action → ((stamp : ℕ) → Gave (happens o memory d one action x).0 stamp → IsClock bound stamp) → IsClock bound (happens o memory d one action x).1.clock
  clock_after o memory d one act.Stamp h given = given (final_stamp x (collected_of one.phase)) refl
  clock_after o memory d one act.StampDestroy h given = doom_after x.late (collected_of one.phase) (doomed_of one.phase) given
  clock_after o memory d one (act.Sync peer stamp) h given = clock_max bound x.clock stamp clock h
  clock_after o memory d one (act.DropRefs peer serial holder k other) h given = drop_after (is_released (dropped_refs x serial holder k other) serial) serial holder k other h
  clock_after o memory d one act.Rest h given = clock
  clock_after o memory d one act.Reap h given = clock
  clock_after o memory d one act.Flush h given = clock
  clock_after o memory d one (act.CommitNotices peer stamp) h given = clock
  clock_after o memory d one act.Begin h given = same_clock _ (ap (λ y. y.clock) (changes o memory d one act.Begin x))
  clock_after o memory d one (act.Stage peer place) h given = same_clock _ (ap (λ y. y.clock) (changes o memory d one (act.Stage peer place) x))
  clock_after o memory d one (act.Unstage peer place) h given = same_clock _ (ap (λ y. y.clock) (changes o memory d one (act.Unstage peer place) x))
  clock_after o memory d one (act.Attach peer serial dest) h given = same_clock _ (ap (λ y. y.clock) (changes o memory d one (act.Attach peer serial dest) x))
  clock_after o memory d one (act.Commit peer place stamp) h given = same_clock _ (ap (λ y. y.clock) (changes o memory d one (act.Commit peer place stamp) x))
  clock_after o memory d one act.Recv h given = same_clock _ (ap (λ y. y.clock) (changes o memory d one act.Recv x))
  clock_after o memory d one act.Release h given = same_clock _ (ap (λ y. y.clock) (changes o memory d one act.Release x))
  clock_after o memory d one act.BeginDestroy h given = same_clock _ (ap (λ y. y.clock) (changes o memory d one act.BeginDestroy x))
  clock_after o memory d one (act.Visit peer) h given = same_clock _ (ap (λ y. y.clock) (changes o memory d one (act.Visit peer) x))
  clock_after o memory d one act.Local h given = same_clock _ (ap (λ y. y.clock) (changes o memory d one act.Local x))

  -- ---- the stamps of nodes

  kept_below : (nodes : List NodePart) → NodesKept x.nodes nodes → StampsBelow bound nodes
  kept_below nodes kept n stamp h is =
      let at = has_index nodes n h in
      let within = slice_get_within nodes at.0 n at.1 in
      let same : get_or nodes at.0 no_node ≡ n = get_or_from_slice_get nodes at.0 n no_node at.1 in
      elim (cases_lt at.0 (length x.nodes)) [
        | inl old ↦ below (get_or x.nodes at.0 no_node) stamp (has_at_place x.nodes at.0 no_node old) (sym (kept.state at.0 old) ∙ ap (λ m. m.state) same ∙ is)
        | inr new ↦ let both : Live ≡ Destroyed stamp = sym (kept.live at.0 new within) ∙ ap (λ m. m.state) same ∙ is in absurd (cc both)
      ]

  -- nodes of which some are in another state
  in_state_below : (state : NodeState) (doomed : List ℕ) → ((stamp : ℕ) → state ≡ Destroyed stamp → IsClock bound stamp) → StampsBelow bound (with_nodes doomed (in_state state) x.nodes)
  in_state_below state doomed fine n stamp h is =
      let at = has_index (with_nodes doomed (in_state state) x.nodes) n h in
      let within = slice_get_within (with_nodes doomed (in_state state) x.nodes) at.0 n at.1 in
      let same : get_or (with_nodes doomed (in_state state) x.nodes) at.0 no_node ≡ n = get_or_from_slice_get (with_nodes doomed (in_state state) x.nodes) at.0 n no_node at.1 in
      let old : at.0 < length x.nodes = omega (arith, within, doomed_length state doomed x.nodes) in
      elim (in_or_not at.0 doomed) [
        | inl there ↦ fine stamp (sym (doomed_state state doomed x.nodes at.0 there old) ∙ ap (λ m. m.state) same ∙ is)
        | inr none ↦ below (get_or x.nodes at.0 no_node) stamp (has_at_place x.nodes at.0 no_node old) (ap (λ m. m.state) (sym (undoomed_state state doomed x.nodes at.0 none) ∙ same) ∙ is)
      ]

  begun_below : (r : Option Reason) (doomed : List ℕ) → StampsBelow bound (destroy_by r doomed x).1.nodes
  begun_below (Some r) doomed = below
  begun_below None doomed = in_state_below Dying doomed (λ stamp is. absurd (cc is))

  doom_below : (late : List ℕ) (collected : ℕ) (doomed : List ℕ) → ((stamp : ℕ) → Gave (out.StampDestroy (elim late [ [] ↦ Ok (final_stamp x collected) | peer ∷ rest ↦ Err (peer ∷ rest) ])) stamp → IsClock bound stamp) → StampsBelow bound (doom_by late x collected doomed).nodes
  doom_below [] collected doomed given = in_state_below (Destroyed (final_stamp x collected)) doomed (λ stamp is. given stamp (cc is))
  doom_below (peer ∷ rest) collected doomed given = below

  pub stamps_after : (o : Opening) (memory : Bool) (d : DriverPart) (one : Doing) (action : Action) → ((stamp : ℕ) → Gave (happens o memory d one action x).0 stamp → IsClock bound stamp) → StampsBelow bound (happens o memory d one action x).1.nodes
  stamps_after o memory d one act.BeginDestroy given = begun_below (begin_refusal one.command x) (begin_serials one.command x)
  stamps_after o memory d one act.StampDestroy given = doom_below x.late (collected_of one.phase) (doomed_of one.phase) given
  stamps_after o memory d one action given = kept_below (happens o memory d one action x).1.nodes (nodes_kept o memory d one action x refl)

-- ---- an accepted begin

module _ (x : PeerPart) where
  next_none : (b : Bool) (r : Reason) (rest : List (Option Reason)) → first_reason (then_some b r ∷ rest) ≡ None → first_reason rest ≡ None
  next_none true r rest is = absurd (cc is)
  next_none false r rest is = is

  first_none : (e : Option Reason) (rest : List (Option Reason)) → first_reason (e ∷ rest) ≡ None → e ≡ None
  first_none None rest is = refl
  first_none (Some r) rest is = absurd (cc is)

  low : nat_le clock_limit x.clock ≡ false → x.clock < clock_limit
  low is = elim (cases_lt x.clock clock_limit) [ inl below ↦ below | inr above ↦ let both : true ≡ false = sym (le-leb clock_limit x.clock above) ∙ is in absurd (cc both) ]

  overflow_low : overflow_reason x ≡ None → x.clock < clock_limit
  overflow_low is = low (by (nat_le clock_limit x.clock) is)
    where
      by : (b : Bool) → then_some b (reason.Overflow x.clock) ≡ None → b ≡ false
      by true is = absurd (cc is)
      by false is = refl

  send_low : (c : SendCmd) → send_refusal x c ≡ None → x.clock < clock_limit
  send_low c is =
      let after_size = then_some (nat_le clock_limit x.clock) (reason.Overflow x.clock) ∷ unknown_reason x c.to ∷ unknown_reason x (filter is_given c.with) ∷ first_reason (map (dead_reason x) c.with) ∷ [] in
      overflow_low (first_none (overflow_reason x) (unknown_reason x c.to ∷ unknown_reason x (filter is_given c.with) ∷ first_reason (map (dead_reason x) c.with) ∷ [])
      (next_none (nat_lt 65536 (length c.payload)) (reason.Size (length c.payload)) after_size
      (next_none (is_bad_send c) reason.Invalid (then_some (nat_lt 65536 (length c.payload)) (reason.Size (length c.payload)) ∷ after_size) is)))

  destroy_low : (numbers : List ℕ) → destroy_refusal x numbers ≡ None → x.clock < clock_limit
  destroy_low numbers is =
      let unknown = option_map (λ number. reason.Unknown number) (find (is_not_live x) numbers) ∷ [] in
      overflow_low (first_none (overflow_reason x) unknown (next_none (is_bad_destroy numbers) reason.Invalid (overflow_reason x ∷ unknown) is))

  begin_low : (command : Command) → begin_refusal command x ≡ None → x.clock < clock_limit
  begin_low (cmd.Destroy numbers) is = destroy_low numbers is
  begin_low command is = overflow_low is

  begin_begins : (r : Option Reason) (memory : Bool) (c : SendCmd) → Begins (begin_by r memory c x).0 → (r ≡ None) × ((begin_by r memory c x).1.clock ≡ x.clock)
  begin_begins (Some r) memory c h = absurd h
  begin_begins None true c h = absurd h
  begin_begins None false c h = (refl, refl)

  stage_begins : (r : Option Reason) (memory : Bool) (origin user place serial : ℕ) (payload : List ℕ) (nodes : List NodeRef) → Begins (stage_by r memory origin user place serial payload nodes x).0 → ⊥
  stage_begins (Some r) memory origin user place serial payload nodes h = h
  stage_begins None true origin user place serial payload nodes h = h
  stage_begins None false origin user place serial payload nodes h = h

  destroy_begins : (r : Option Reason) (doomed : List ℕ) → Begins (destroy_by r doomed x).0 → (r ≡ None) × ((destroy_by r doomed x).1.clock ≡ x.clock)
  destroy_begins (Some r) doomed h = absurd h
  destroy_begins None doomed h = (refl, refl)

  -- a command begins at its own peer, at a clock below the limit, which stays
  pub begins_low : (o : Opening) (memory : Bool) (d : DriverPart) (one : Doing) (action : Action) → Begins (happens o memory d one action x).0 → (peer_of d.me action ≡ d.me) × ((happens o memory d one action x).1.clock < clock_limit)
  begins_low o memory d one act.Begin h = let k = begin_begins (send_refusal x (send_of one.command)) memory (send_of one.command) h in let below = send_low (send_of one.command) k.0 in (refl, omega (arith, k.1, below))
  begins_low o memory d one act.BeginDestroy h = let k = destroy_begins (begin_refusal one.command x) (begin_serials one.command x) h in let below = begin_low one.command k.0 in (refl, omega (arith, k.1, below))
  begins_low o memory d one (act.Stage peer place) h = absurd (stage_begins _ memory _ _ _ _ _ _ h)
  begins_low o memory d one action h = absurd h
