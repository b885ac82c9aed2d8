-- The step that gives a destruction its stamp: what it makes of the parts, and the destruction that it adds to the record.
use Rattle.std.proofs.Common.{◌≡◌, refl, sym, ap, subst, ◌∙◌, inl, inr, ℕ, suc, ◌+◌, ◌≤◌, true, false, List, [], ◌∷◌, ◌++◌, map, length, take, Option, Some, None, Ok, Err, append-nil}
use Rattle.std.specs.Prelude.{slice_get, is_some}
use Rattle.std.proofs.lemmas.List.{length-append}
use native.Mathlib.Omega.{arith}
use Rattle.b1_model.specs.declared.commands.Command.{Command}
use Rattle.b1_model.specs.declared.commands.Command.TheVariants as cmd
use Rattle.b1_model.specs.declared.naming.Key.{Key}
use Rattle.b1_model.specs.declared.naming.Opening.{Opening}
use Rattle.b1_model.specs.declared.parts.NodeState.{NodeState}
use Rattle.b1_model.specs.declared.parts.NodeState.TheVariants.{Live, Dying, Destroyed}
use Rattle.b1_model.specs.declared.events.Destruction.{Destruction}
use Rattle.b1_model.specs.declared.events.Outcome.{Outcome}
use Rattle.b1_model.specs.declared.events.Outcome.TheVariants as out
use Rattle.b1_model.specs.declared.events.OwedDrop.{OwedDrop}
use Rattle.b1_model.specs.declared.events.Phase.{Phase}
use Rattle.b1_model.specs.declared.events.Phase.TheVariants.{Starting, Dooming}
use Rattle.b1_model.specs.declared.records.Call.{Call}
use Rattle.b1_model.specs.Names.{Node, Name, calls_of, wired, carried_by, add_new, made_in, made}
use Rattle.b1_model.specs.Ledger.{Table, table, Destruction as Doom, destruction_by, destructions_of, is_destroyed_in}
use Rattle.b1_model.specs.MachineParts.{PeerPart, NodePart, State, is_destroyed}
use Rattle.b1_model.specs.MachineTables.{serial_of}
use Rattle.b1_model.specs.MachineSend.{final_stamp}
use Rattle.b1_model.specs.MachineDestroy.{doom_by}
use Rattle.b1_model.specs.MachineDriver.{is_flushing, syncing_notices, next_action, peer_of, turn, Goes}
use Rattle.b1_model.specs.MachineTook.{call_of, stamped_answer, driver_calls}
use Rattle.b1_model.specs.MachineStep.{Step, record_of_state}
use Rattle.b1_ledger.specs.Growth.{all_names}
use Rattle.b1_ledger.proofs.Sequences.{take-past}
use Rattle.b1_inv.specs.Words.{IsPeer}
use Rattle.b1_inv.specs.Notices.{IsDestroying, IsDestruction}
use Rattle.b1_inv.specs.Sound.{IsSound}
use Rattle.b1_inv_record.specs.Dooming.{undestroyed}
use Rattle.b1_inv_record.specs.Destructions.{own_ref, doomed_key, DyingIsDoomed}
use Rattle.b1_inv_record.specs.Epochs.{doom_from}
use Rattle.b1_inv_record.specs.Names.{carried_open, open_numbers}
use Rattle.b1_inv_record.specs.Numbers.{names_own}
use Rattle.b1_inv_record.specs.Right.{IsRight}
use Rattle.b1_inv_notices.proofs.Turns.{doing_in, opened, answered, parts, going_answer}
use Rattle.b1_inv_names.proofs.Numbers.{name_numbers, node_numbers, numbers_in, made_numbers, numbers_append, all_joined}
use Rattle.b1_inv_doomed.proofs.Refs.{refs, own_refs, named_refs, destroyed_is, left_refs}
use Rattle.b1_inv_doomed.proofs.CalmCalls.{calls_in_phase, calls_in_turn, same_notices, calls_before, calls_after}
use Rattle.b1_inv_doomed.proofs.Records.{one_dooms, own_before, own_calls}

-- ---- the call

destroy_call : (command : Command) (stamp : ℕ) → IsDestroying command → call_of command (stamped_answer command stamp) ≡ record { command = command; answer = stamped_answer command stamp } ∷ []
destroy_call (cmd.Destroy numbers) stamp is = refl
destroy_call (cmd.Reset limits) stamp is = refl
destroy_call cmd.Disconnect stamp is = refl
destroy_call command stamp is = absurd is

none_carried : (command : Command) (stamp : ℕ) → IsDestroying command → carried_by command (stamped_answer command stamp) ≡ []
none_carried (cmd.Destroy numbers) stamp is = refl
none_carried (cmd.Reset limits) stamp is = refl
none_carried cmd.Disconnect stamp is = refl
none_carried command stamp is = absurd is

none_open : (command : Command) (destruction : Destruction) → carried_open command (Dooming destruction) ≡ []
none_open (cmd.Send c) destruction = refl
none_open command destruction = refl

-- the destruction that the call is, of the nodes that the machine dooms
module _ (p stamp : ℕ) (known : List Name) (tab : Table) (earlier : List Doom) (nodes : List NodePart) (doomed : List ℕ) (numbers_are : name_numbers known ≡ node_numbers nodes) (as_long : length known ≡ length nodes)
    (gone : (j e : ℕ) (n : NodePart) → slice_get nodes j ≡ Some n → is_destroyed_in earlier (record { owner = p; serial = 0 + j; epoch = e }) ≡ is_destroyed n.state) where
  abbrev IsDoomOf : Command → Type 0
  IsDoomOf command = (named : List (Option Node)) × (destruction_by p known tab earlier command (stamped_answer command stamp) ≡ record { stamp = stamp; origin = p; nodes = named } ∷ []) × (refs named ≡ own_refs p doomed)

  doom_of : (command : Command) → IsDestroying command → names_own command ≡ true → ((numbers : List ℕ) → command ≡ cmd.Destroy numbers → map (λ n. serial_of n nodes) numbers ≡ map Some doomed)
      → (is_flushing command ≡ true → undestroyed 0 nodes ≡ doomed) → IsDoomOf command
  doom_of (cmd.Destroy numbers) is own named flushed = (_, refl, named_refs p known nodes numbers_are tab numbers doomed own (named numbers refl))
  doom_of (cmd.Reset limits) is own named flushed = (_, refl, left_refs p earlier 0 known nodes as_long gone ∙ ap (own_refs p) (flushed refl))
  doom_of cmd.Disconnect is own named flushed = (_, refl, left_refs p earlier 0 known nodes as_long gone ∙ ap (own_refs p) (flushed refl))
  doom_of command is own named flushed = absurd is

-- ---- nodes and the record

-- a node is destroyed where the record has its destruction
pub gone_recorded : {o : Opening} {s : State} → DyingIsDoomed o s → (p serial : ℕ) (x : PeerPart) (n : NodePart) → IsPeer s p x → slice_get x.nodes serial ≡ Some n → is_some (doomed_key o s (own_ref p serial)) ≡ is_destroyed n.state
gone_recorded {o} {s} dying p serial x n is at = by (doomed_key o s (own_ref p serial)) refl n.state refl
  where
    by : (r : Option Key) → doomed_key o s (own_ref p serial) ≡ r → (state : NodeState) → n.state ≡ state → is_some r ≡ is_destroyed state
    by (Some key) has (Destroyed stamp) state = refl
    by (Some key) has Live state = let both : Live ≡ Destroyed key.stamp = sym state ∙ dying.recorded p serial x n key is at has in let wrong : false ≡ true = ap is_destroyed both in absurd (cc wrong)
    by (Some key) has Dying state = let both : Dying ≡ Destroyed key.stamp = sym state ∙ dying.recorded p serial x n key is at has in let wrong : false ≡ true = ap is_destroyed both in absurd (cc wrong)
    by None has (Destroyed stamp) state = let k = dying.destroyed p serial stamp x n is at state in let both : None ≡ Some k.0 = sym has ∙ k.1 in absurd (cc both)
    by None has Live state = refl
    by None has Dying state = refl

-- ---- the step

module _ {o : Opening} {s : State} {p : ℕ} {c : Option Command} {t : State} (sound : IsSound o s) (right : IsRight o s) (step : Step o s p c t)
    (destruction : Destruction) (dooming : (parts step).phase ≡ Dooming destruction) (none_owed : step.driver.owed ≡ []) (none_late : step.peer.late ≡ []) where
  abbrev command : Command
  command = (parts step).command

  -- the stamp that it gives
  abbrev pub given : ℕ
  given = final_stamp step.peer destruction.collected

  abbrev happened_by : Phase → List OwedDrop → Outcome × PeerPart
  happened_by phase owed = answered o step.local.memory step.driver command phase owed step.peer

  happened : happened_by (parts step).phase step.driver.owed ≡ (out.StampDestroy (Ok given), doom_by [] step.peer destruction.collected destruction.doomed)
  happened =
      ap (λ phase. happened_by phase step.driver.owed) dooming
      ∙ ap (happened_by (Dooming destruction)) none_owed
      ∙ ap (λ late. (out.StampDestroy (elim late [ [] ↦ Ok given | peer ∷ rest ↦ Err (peer ∷ rest) ]), doom_by late step.peer destruction.collected destruction.doomed)) none_late

  pub answer_is : going_answer step ≡ out.StampDestroy (Ok given)
  answer_is = ap (λ z. z.0) happened

  pub peer_is : step.new_peer ≡ doom_by [] step.peer destruction.collected destruction.doomed
  peer_is = sym (parts step).is_peer ∙ ap (λ z. z.1) happened

  pub turn_is : turn step.driver.me command (parts step).phase (going_answer step) ≡ Goes (syncing_notices destruction given 0)
  turn_is = ap (turn step.driver.me command (parts step).phase) answer_is ∙ ap (λ phase. turn step.driver.me command phase (out.StampDestroy (Ok given))) dooming

  me_is : step.driver.me ≡ p
  me_is = sound.numbered.drivers p step.driver step.is_driver

  pub at_is : step.at ≡ p
  at_is =
      sym (parts step).is_at
      ∙ ap (λ phase. peer_of step.driver.me (next_action (opened step.driver command phase step.driver.owed))) dooming
      ∙ ap (λ owed. peer_of step.driver.me (next_action (opened step.driver command (Dooming destruction) owed))) none_owed
      ∙ me_is

  pub is_peer : IsPeer s p step.peer
  is_peer = subst (λ q. IsPeer s q step.peer) at_is step.is_peer

  pub is_open : step.driver.doing ≡ Some (doing_in command (Dooming destruction))
  is_open = elim (parts step).was [
    | inl open_is ↦ open_is ∙ ap (λ phase. Some (doing_in command phase)) dooming
    | inr new ↦ let both : Starting ≡ Dooming destruction = sym new.1 ∙ dooming in absurd (cc both)
  ]

  pub shape : IsDestroying command × IsDestruction step.peer.peers step.peer destruction Dying
  shape = sound.notices.shape p step.driver step.peer (doing_in command (Dooming destruction)) step.is_driver is_peer is_open

  -- ---- the call that it fixes

  abbrev new_call : Call
  new_call = record { command = command; answer = stamped_answer command given }

  calls_are : driver_calls step.new_driver ≡ driver_calls step.driver ++ new_call ∷ []
  calls_are =
      calls_after step
      ∙ ap (λ to. step.driver.calls ++ calls_in_turn command to) turn_is
      ∙ ap (λ calls. step.driver.calls ++ calls) (same_notices command destruction given 0 ∙ destroy_call command given shape.0)
      ∙ ap (λ calls. calls ++ new_call ∷ []) (sym (append-nil step.driver.calls) ∙ ap (λ phase. step.driver.calls ++ calls_in_phase command phase) (sym dooming) ∙ sym (calls_before step))

  abbrev before : List Call
  before = calls_of (record_of_state s) p

  record_calls : calls_of (record_of_state t) p ≡ before ++ new_call ∷ []
  record_calls = own_calls sound right.destructions.numbers step (new_call ∷ []) calls_are

  -- ---- the names before it

  abbrev known : List Name
  known = made o.wires (record_of_state t) p (length before)

  known_numbers : name_numbers known ≡ node_numbers step.peer.nodes
  known_numbers =
      let sum = length-append before (new_call ∷ []) in
      let whole : length (before ++ new_call ∷ []) ≤ suc (length before) = omega (arith, sum) in
      ap (λ calls. name_numbers (made_in 0 (wired o.wires p) (take (suc (length before)) calls))) record_calls
      ∙ ap (λ calls. name_numbers (made_in 0 (wired o.wires p) calls)) (take-past (before ++ new_call ∷ []) (suc (length before)) whole)
      ∙ made_numbers 0 (wired o.wires p) (before ++ new_call ∷ [])
      ∙ numbers_append (name_numbers (wired o.wires p)) before (new_call ∷ [])
      ∙ ap (all_joined (numbers_in (name_numbers (wired o.wires p)) before)) (none_carried command given shape.0)
      ∙ sym (made_numbers 0 (wired o.wires p) before)
      ∙ sym (right.names.made.made p step.driver step.peer step.is_driver is_peer ∙ ap (λ numbers. name_numbers (add_new step.peer.epoch (all_names o.wires (record_of_state s) p) numbers)) none_new)
    where
      none_new : open_numbers step.driver ≡ []
      none_new = ap (λ doing. elim doing [ None ↦ [] | Some one ↦ carried_open one.command one.phase ]) is_open ∙ none_open command destruction

  lengths : (ms : List Name) (ns : List NodePart) → name_numbers ms ≡ node_numbers ns → length ms ≡ length ns
  lengths [] [] same = refl
  lengths [] (n ∷ ns) same = absurd (cc same)
  lengths (m ∷ ms) [] same = absurd (cc same)
  lengths (m ∷ ms) (n ∷ ns) same = ap suc (lengths ms ns (ap (λ l. elim l [ [] ↦ [] | k ∷ rest ↦ rest ]) same))

  gone : (j e : ℕ) (n : NodePart) → slice_get step.peer.nodes j ≡ Some n → is_destroyed_in (destructions_of o.wires (record_of_state s) p) (record { owner = p; serial = 0 + j; epoch = e }) ≡ is_destroyed n.state
  gone j e n at =
      let same : 0 + j ≡ j = omega arith in
      destroyed_is (record { owner = p; serial = 0 + j; epoch = e }) (destructions_of o.wires (record_of_state s) p)
      ∙ ap (λ k. is_some (doom_from (own_ref p k) (destructions_of o.wires (record_of_state s) p))) same
      ∙ gone_recorded right.destructions.dying p j step.peer n is_peer at

  -- the record has one destruction more, of the nodes that it dooms
  pub new_doom : (named : List (Option Node)) × (destructions_of o.wires (record_of_state t) p ≡ destructions_of o.wires (record_of_state s) p ++ record { stamp = given; origin = p; nodes = named } ∷ []) × (refs named ≡ own_refs p destruction.doomed)
  new_doom =
      let k = doom_of p given known (table o.wires (record_of_state t) p (length before)) (destructions_of o.wires (record_of_state s) p) step.peer.nodes destruction.doomed known_numbers (lengths known step.peer.nodes known_numbers) gone command shape.0
      (right.destructions.numbers.opened p step.driver (doing_in command (Dooming destruction)) step.is_driver is_open refl)
      (λ numbers same. right.destructions.doomed.named p numbers step.driver step.peer (doing_in command (Dooming destruction)) step.is_driver is_peer is_open same refl)
      (λ flushing. right.destructions.doomed.flushed p step.driver step.peer (doing_in command (Dooming destruction)) step.is_driver is_peer is_open flushing refl) in
      (k.0, one_dooms o.wires (record_of_state s) (record_of_state t) p new_call record_calls (own_before sound right.destructions.numbers step p) ∙ ap (λ ds. destructions_of o.wires (record_of_state s) p ++ ds) k.1, k.2)
