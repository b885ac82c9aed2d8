-- The send that a step adds to the record: it is a stamp's, its message names what its begin found, and its places wait.
use Rattle.std.proofs.Common.{◌≡◌, refl, sym, ap, subst, ◌∙◌, inl, inr, ℕ, suc, ◌≤◌, Bool, true, false, cond, List, [], ◌∷◌, ◌++◌, length, map, Option, Some, None, Ok, Err, Result, option_map}
use Rattle.std.specs.Prelude.{slice_get}
use Rattle.std.proofs.lemmas.List.{length-append}
use Rattle.std.proofs.lemmas.Option.{same_Some, slice_get_within}
use native.Mathlib.Omega.{arith}
use Rattle.b1_model.specs.declared.commands.Command.{Command}
use Rattle.b1_model.specs.declared.commands.Command.TheVariants as cmd
use Rattle.b1_model.specs.declared.commands.SendCmd.{SendCmd}
use Rattle.b1_model.specs.declared.naming.NodeRef.{NodeRef}
use Rattle.b1_model.specs.declared.naming.Opening.{Opening}
use Rattle.b1_model.specs.declared.answers.Answer.{Answer}
use Rattle.b1_model.specs.declared.answers.Answer.TheVariants as ans
use Rattle.b1_model.specs.declared.answers.Front.{Front}
use Rattle.b1_model.specs.declared.answers.Receipt.{Receipt}
use Rattle.b1_model.specs.declared.answers.Reason.{Reason}
use Rattle.b1_model.specs.declared.answers.Reason.TheVariants as reason
use Rattle.b1_model.specs.declared.answers.Sent.{Sent}
use Rattle.b1_model.specs.declared.events.Action.{Action}
use Rattle.b1_model.specs.declared.events.Action.TheVariants as act
use Rattle.b1_model.specs.declared.events.Doing.{Doing}
use Rattle.b1_model.specs.declared.events.Outcome.{Outcome}
use Rattle.b1_model.specs.declared.events.Outcome.TheVariants as out
use Rattle.b1_model.specs.declared.events.OwedDrop.{OwedDrop}
use Rattle.b1_model.specs.declared.events.Phase.{Phase}
use Rattle.b1_model.specs.declared.events.Phase.TheVariants.{Starting, Staging, Stamping, Dooming}
use Rattle.b1_model.specs.declared.events.Sending.{Sending}
use Rattle.b1_model.specs.Names.{calls_of, wired, made, made_in, add_new, carried_by}
use Rattle.b1_model.specs.Ledger.{Message, message, stamp_of, table, named, node_of}
use Rattle.b1_model.specs.Legal.{KeepsOrder}
use Rattle.b1_model.specs.MachineParts.{PeerPart, DriverPart, State}
use Rattle.b1_model.specs.MachinePool.{is_received}
use Rattle.b1_model.specs.MachineTables.{node_named}
use Rattle.b1_model.specs.MachineDriver.{is_flushing, recv_answer, refused_at, send_of, next_action}
use Rattle.b1_model.specs.MachineTook.{stamped_answer, as_call}
use Rattle.b1_model.specs.MachineEvents.{happens, begin_by, stage_by, destroy_by, begin_refusal, begin_serials, local_answer}
use Rattle.b1_model.specs.MachineStep.{Step, record_of_state}
use Rattle.b1_step.specs.Rights.{Has}
use Rattle.b1_step.proofs.Lists.{has_at}
use Rattle.b1_inv.specs.Words.{IsPeer}
use Rattle.b1_inv.specs.Sends.{IsSend}
use Rattle.b1_inv.specs.Sound.{IsSound}
use Rattle.b1_ledger.specs.Growth.{all_names, calls_len, sent_call}
use Rattle.b1_ledger.proofs.Sequences.{slice_get-end, slice_get-append_lt, take-past}
use Rattle.b1_ledger.proofs.Bound.{message_of_call}
use Rattle.b1_ledger.proofs.Calls.{order_grows}
use Rattle.b1_ledger.proofs.Grows.{Found, keeps_found}
use Rattle.b1_ledger.proofs.Stable.{table_same}
use Rattle.b1_inv_record.specs.Epochs.{awaits_flush, in_gap, ref_of, epoch_now}
use Rattle.b1_inv_record.specs.Names.{carried_open}
use Rattle.b1_inv_record.specs.Right.{IsRight}
use Rattle.b1_inv_notices.proofs.StampTurns.{Gave}
use Rattle.b1_inv_notices.proofs.StampsLaw.{given_at}
use Rattle.b1_inv_notices.proofs.Turns.{doing_in, opened, answered, parts, going_answer, get_there}
use Rattle.b1_inv_entries.proofs.Answers.{Fixes}
use Rattle.b1_inv_entries.proofs.EpochsStay.{new_names}
use Rattle.b1_inv_entries.proofs.Named.{all_named}
use Rattle.b1_inv_entries.proofs.NewCalls.{NewCall, record_extends}
use Rattle.b1_inv_entries.proofs.SentNames.{SaysBegun}

-- ---- a send is added at a stamp

abbrev is_sent : Answer → Bool
is_sent (ans.Sent b) = true
is_sent got = false

no_sent : (got other : Answer) (b : Sent) → got ≡ other → is_sent other ≡ false → got ≡ ans.Sent b → ⊥
no_sent got other b same none is = let both : false ≡ true = sym none ∙ ap is_sent (sym same ∙ is) in cc both

-- an answer that is the send's comes from a local command
abbrev StartSends : Outcome → Sent → Type 0
StartSends (out.Local result) b = result ≡ ans.Sent b
StartSends outcome b = ⊥

-- a stamp's answer is the send's
abbrev Sends : Phase → Outcome → Sent → Type 0
Sends Starting outcome b = StartSends outcome b
Sends (Stamping sending) (out.Stamp stamp) b = (b.places ≡ sending.places) × (stamp ≡ b.stamp)
Sends phase outcome b = ⊥

recv_none : (front : Result Receipt Front) → is_sent (elim front [ Ok receipt ↦ ans.Got receipt | Err found ↦ refused_at (reason.Again found) None ]) ≡ false
recv_none (Ok receipt) = refl
recv_none (Err found) = refl

stamped_none : (b : Bool) (stamp : ℕ) → is_sent (cond b (ans.Reset (Some stamp)) (ans.Destroyed stamp)) ≡ false
stamped_none true stamp = refl
stamped_none false stamp = refl

module _ (command : Command) (got : Answer) (b : Sent) (is : got ≡ ans.Sent b) where
  start_sends : (outcome : Outcome) → Fixes command Starting outcome got → StartSends outcome b
  start_sends (out.Begin (Err r)) fixes = absurd (no_sent got _ b fixes refl is)
  start_sends (out.Begin (Ok begun)) fixes = absurd fixes
  start_sends (out.Recv front dead) fixes = absurd (no_sent got (recv_answer front) b fixes (recv_none front.front) is)
  start_sends (out.Release (Ok owed)) fixes = absurd (no_sent got _ b fixes refl is)
  start_sends (out.Release (Err r)) fixes = absurd (no_sent got _ b fixes refl is)
  start_sends (out.BeginDestroy (Ok visit) doomed) fixes = absurd (no_sent got _ b fixes.1 refl is)
  start_sends (out.BeginDestroy (Err r) doomed) fixes = absurd (no_sent got _ b fixes refl is)
  start_sends (out.Local result) fixes = sym fixes ∙ is
  start_sends outcome fixes = absurd fixes

  sends : (phase : Phase) (outcome : Outcome) → Fixes command phase outcome got → Sends phase outcome b
  sends Starting outcome fixes = start_sends outcome fixes
  sends (Staging begun places collected) (out.Stage result) (refused, same) = absurd (no_sent got (ans.Refused refused) b same refl is)
  sends (Stamping sending) (out.Stamp stamp) fixes =
      let both : ans.Sent (record { stamp = stamp; places = sending.places }) ≡ ans.Sent b = sym fixes ∙ is in
      let same : record { stamp = stamp; places = sending.places } ≡ b = cc both in (ap (λ z. z.places) (sym same), ap (λ z. z.stamp) same)
  sends (Dooming destruction) (out.StampDestroy (Ok stamp)) fixes = absurd (no_sent got (stamped_answer command stamp) b fixes (stamped_none (is_flushing command) stamp) is)
  sends phase outcome fixes = absurd fixes

local_none : (shut : Bool) (command : Command) (x : PeerPart) → is_sent (local_answer shut command x) ≡ false
local_none true command x = refl
local_none false (cmd.SliceRelease offset) x = elim (is_received offset x.slices) as (λ b. is_sent (cond b ans.Done (refused_at (reason.Unknown offset) None)) ≡ false) [ true ↦ refl | false ↦ refl ]
local_none false cmd.Query x = refl
local_none false (cmd.Limit limits) x = refl
local_none false command x = refl

begin_none : (r : Option Reason) (memory : Bool) (c : SendCmd) (x : PeerPart) (b : Sent) → StartSends (begin_by r memory c x).0 b → ⊥
begin_none (Some r) memory c x b h = h
begin_none None true c x b h = h
begin_none None false c x b h = h

stage_none : (r : Option Reason) (memory : Bool) (origin user place serial : ℕ) (payload : List ℕ) (nodes : List NodeRef) (x : PeerPart) (b : Sent) → StartSends (stage_by r memory origin user place serial payload nodes x).0 b → ⊥
stage_none (Some r) memory origin user place serial payload nodes x b h = h
stage_none None true origin user place serial payload nodes x b h = h
stage_none None false origin user place serial payload nodes x b h = h

destroy_none : (r : Option Reason) (doomed : List ℕ) (x : PeerPart) (b : Sent) → StartSends (destroy_by r doomed x).0 b → ⊥
destroy_none (Some r) doomed x b h = h
destroy_none None doomed x b h = h

event_none : (o : Opening) (memory : Bool) (d : DriverPart) (doing : Doing) (x : PeerPart) (b : Sent) (action : Action) → StartSends (happens o memory d doing action x).0 b → ⊥
event_none o memory d doing x b act.Local h = let both : false ≡ true = sym (local_none d.shut doing.command x) ∙ ap is_sent h in cc both
event_none o memory d doing x b act.Begin h = begin_none _ memory _ x b h
event_none o memory d doing x b (act.Stage peer place) h = stage_none _ memory _ _ _ _ _ _ x b h
event_none o memory d doing x b act.BeginDestroy h = destroy_none (begin_refusal doing.command x) (begin_serials doing.command x) x b h
event_none o memory d doing x b action h = h

-- the stamp that a send was given
abbrev pub IsStamped : Phase → Outcome → Sent → Type 0
IsStamped phase outcome b = (sending : Sending) × (phase ≡ Stamping sending) × (b.places ≡ sending.places) × (outcome ≡ out.Stamp b.stamp)

stamped_by : (o : Opening) (memory : Bool) (d : DriverPart) (command : Command) (x : PeerPart) (b : Sent) (phase : Phase) (owed : List OwedDrop) → Sends phase (answered o memory d command phase owed x).0 b → IsStamped phase (answered o memory d command phase owed x).0 b
stamped_by o memory d command x b Starting owed h = absurd (event_none o memory (opened d command Starting owed) (doing_in command Starting) x b (next_action (opened d command Starting owed)) h)
stamped_by o memory d command x b (Stamping sending) [] h = (sending, refl, h.0, ap out.Stamp h.1)
stamped_by o memory d command x b (Stamping sending) (one ∷ rest) h = absurd h
stamped_by o memory d command x b phase owed h = absurd h

-- ---- its message

none_open : (command : Command) (sending : Sending) → command ≡ cmd.Send (send_of command) → carried_open command (Stamping sending) ≡ (send_of command).with
none_open command sending is = ap (λ z. carried_open z (Stamping sending)) is

module _ {o : Opening} {s : State} {p : ℕ} {c : Option Command} {t : State} (sound : IsSound o s) (right : IsRight o s) (step : Step o s p c t) (new : NewCall step) (b : Sent) (sent : new.call.answer ≡ ans.Sent b) where
  pub stamped : IsStamped (parts step).phase (going_answer step) b
  stamped =
      stamped_by o step.local.memory step.driver (parts step).command step.peer b (parts step).phase step.driver.owed
      (sends (parts step).command new.got b (ap (λ z. z.answer) (sym new.is_call) ∙ sent) (parts step).phase (going_answer step) new.fixes)

  abbrev pub sending : Sending
  sending = stamped.0

  abbrev k : ℕ
  k = length (calls_of (record_of_state s) p)

  was_open : step.driver.doing ≡ Some (doing_in (parts step).command (Stamping sending))
  was_open = elim (parts step).was [
    | inl was ↦ was ∙ ap (λ z. Some (doing_in (parts step).command z)) stamped.1
    | inr none ↦ let no : is_stamping (Stamping sending) ≡ is_stamping Starting = ap is_stamping (sym stamped.1 ∙ none.1) in absurd (cc no)
  ]
    where
      is_stamping : Phase → Bool
      is_stamping (Stamping one) = true
      is_stamping phase = false

  pub many_places : length sending.places ≡ length sending.begun.to
  many_places = (sound.sends.shape p step.driver (doing_in (parts step).command (Stamping sending)) step.is_driver was_open).places

  send : IsSend (parts step).command
  send = (sound.sends.shape p step.driver (doing_in (parts step).command (Stamping sending)) step.is_driver was_open).begun.send

  abbrev the_send : SendCmd
  the_send = send_of (parts step).command

  is_call : new.call ≡ sent_call the_send b
  is_call = new.is_call ∙ ap (λ z. record { command = as_call z; answer = new.got }) send.is_send ∙ ap (λ z. record { command = cmd.Send the_send; answer = z }) (ap (λ z. z.answer) (sym new.is_call) ∙ sent)

  calls_are : calls_of (record_of_state t) p ≡ calls_of (record_of_state s) p ++ sent_call the_send b ∷ []
  calls_are = new.appends.here ∙ ap (λ z. calls_of (record_of_state s) p ++ z ∷ []) is_call

  pub at_call : slice_get (calls_of (record_of_state t) p) k ≡ Some (sent_call the_send b)
  at_call = ap (λ calls. slice_get calls k) calls_are ∙ slice_get-end (calls_of (record_of_state s) p) (sent_call the_send b)

  own_part : (x : PeerPart) × IsPeer s p x
  own_part = get_there s.peers p (let within = slice_get_within s.drivers p step.driver step.is_driver in omega (arith, within, sound.numbered.as_many_drivers, sound.numbered.as_many_peers))

  -- the stamp is above all that its peer has seen
  new_order : KeepsOrder (record_of_state t) p k
  new_order i low high d e less at_d at_e seen stamp =
      let old : slice_get (calls_of (record_of_state s) p) i ≡ Some d = sym (ap (λ calls. slice_get calls i) calls_are ∙ slice_get-append_lt (calls_of (record_of_state s) p) (sent_call the_send b ∷ []) i less) ∙ at_d in
      let given = given_at sound step b.stamp (subst (λ z. Gave z b.stamp) (sym stamped.3) refl) in
      let most = right.clocks.listed.below step.at step.peer d low step.is_peer (subst (λ q. Has (calls_of (record_of_state s) q) d) (sym given.0) (has_at (calls_of (record_of_state s) p) i d old)) seen in
      let same : e ≡ sent_call the_send b = same_Some e (sent_call the_send b) (sym at_e ∙ at_call) in
      let final : b.stamp ≡ high = same_Some b.stamp high (ap (λ z. stamp_of z.answer) (sym same) ∙ stamp) in
      let above = given.2 in omega (arith, most, above, final)

  all_names_are : made o.wires (record_of_state t) p k ≡ add_new (epoch_now s p) (all_names o.wires (record_of_state s) p) the_send.with
  all_names_are =
      let many : length (calls_of (record_of_state t) p) ≤ suc k = let n = ap length calls_are ∙ length-append (calls_of (record_of_state s) p) (sent_call the_send b ∷ []) in omega (arith, n) in
      ap (made_in 0 (wired o.wires p)) (take-past (calls_of (record_of_state t) p) (suc k) many)
      ∙ new_names sound right step new
      ∙ ap (λ z. add_new (epoch_now s p) (all_names o.wires (record_of_state s) p) (carried_by z.command z.answer)) is_call

  table_is : table o.wires (record_of_state t) p k ≡ table o.wires (record_of_state s) p (calls_len (record_of_state s) p)
  table_is = table_same o.wires (Found (record_of_state s)) (record_of_state s) (record_of_state t) (keeps_found o (record_of_state s) (record_of_state t) right.legal (record_extends sound step)) p k (omega arith)

  no_gap : in_gap step.driver ≡ false
  no_gap = ap (λ doing. elim doing [ None ↦ false | Some one ↦ awaits_flush one.command one.phase ]) was_open

  epoch_is : own_part.0.epoch ≡ epoch_now s p
  epoch_is = sym (right.names.epochs.epoch p step.driver own_part.0 step.is_driver own_part.1 ∙ ap (λ b. cond b (suc own_part.0.epoch) own_part.0.epoch) no_gap)

  numbers_are : map (λ n. n.number) own_part.0.nodes ≡ map (λ m. m.number) (made o.wires (record_of_state t) p k)
  numbers_are =
      right.names.made.made p step.driver own_part.0 step.is_driver own_part.1
      ∙ ap (λ ns. map (λ m. m.number) (add_new own_part.0.epoch (all_names o.wires (record_of_state s) p) ns)) (ap (λ doing. elim doing [ None ↦ [] | Some one ↦ carried_open one.command one.phase ]) was_open ∙ none_open (parts step).command sending send.is_send)
      ∙ ap (λ e. map (λ m. m.number) (add_new e (all_names o.wires (record_of_state s) p) the_send.with)) epoch_is
      ∙ ap (map (λ m. m.number)) (sym all_names_are)

  named_by_call : (numbers : List ℕ) (nodes : List NodeRef) → map (node_named own_part.0) numbers ≡ map Some nodes → map (option_map ref_of) (map (node_of o.wires (record_of_state t) p k) numbers) ≡ map Some nodes
  named_by_call numbers nodes is =
      ap (λ z. map (option_map ref_of) (map (named p (made o.wires (record_of_state t) p k) z) numbers)) table_is
      ∙ all_named sound right p step.driver own_part.0 step.is_driver own_part.1 no_gap (made o.wires (record_of_state t) p k) numbers_are numbers nodes is

  -- its message is in the new record, and names what its begin found
  pub new_message : (m : Message) × (message o.wires (record_of_state t) b.stamp p ≡ Some m) × SaysBegun sending the_send.payload m
  new_message = (
    record {
      to = map (node_of o.wires (record_of_state t) p k) the_send.to;
      carried = map (node_of o.wires (record_of_state t) p k) the_send.with;
      places = b.places;
      payload = the_send.payload;
    },
    message_of_call o.wires (record_of_state t) (order_grows o (record_of_state s) (record_of_state t) p new.call new.appends right.legal new_order) p k the_send b at_call,
    record {
      to = named_by_call the_send.to sending.begun.to (right.names.begun.to p step.driver own_part.0 (doing_in (parts step).command (Stamping sending)) step.is_driver own_part.1 was_open);
      carried = named_by_call the_send.with sending.begun.with (right.names.begun.with p step.driver own_part.0 (doing_in (parts step).command (Stamping sending)) step.is_driver own_part.1 was_open);
      places = stamped.2;
      payload_is = refl;
    },
  )
