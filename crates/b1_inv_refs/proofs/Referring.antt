-- A step keeps references right.
use Rattle.std.proofs.Common.{◌≡◌, ◌≢◌, ◌⊎◌, refl, sym, ap, ◌∙◌, inl, inr, subst, ℕ, zero, suc, ◌<◌, ◌≤◌, Bool, true, false, List, [], ◌∷◌, get_or, length, zip, filter_map, is_some, Option, Some, None}
use Rattle.std.proofs.lemmas.Option.{slice_get_within}
use native.Mathlib.Omega.{arith}
use Rattle.b1_model.specs.declared.naming.Key.{Key}
use Rattle.b1_model.specs.declared.naming.NodeRef.{NodeRef}
use Rattle.b1_model.specs.declared.naming.Opening.{Opening}
use Rattle.b1_model.specs.declared.commands.Command.{Command}
use Rattle.b1_model.specs.declared.parts.Slot.{Slot}
use Rattle.b1_model.specs.declared.parts.Slot.TheVariants as slot
use Rattle.b1_model.specs.declared.entries.Entry.{Entry}
use Rattle.b1_model.specs.declared.answers.Reason.{Reason}
use Rattle.b1_model.specs.declared.events.Action.{Action}
use Rattle.b1_model.specs.declared.events.Action.TheVariants as act
use Rattle.b1_model.specs.declared.events.Outcome.{Outcome}
use Rattle.b1_model.specs.declared.events.Outcome.TheVariants as out
use Rattle.b1_model.specs.declared.events.Phase.{Phase}
use Rattle.b1_model.specs.declared.events.Phase.TheVariants.{Starting, Committing}
use Rattle.b1_model.specs.declared.events.Sending.{Sending}
use Rattle.b1_model.specs.declared.events.OwedDrop.{OwedDrop}
use Rattle.b1_model.specs.declared.commands.SendCmd.{SendCmd}
use Rattle.b1_model.specs.Names.{is_given}
use Rattle.b1_model.specs.MachineParts.{PeerPart, DriverPart, NodePart, State, carried}
use Rattle.b1_model.specs.MachineTables.{held_node}
use Rattle.b1_model.specs.MachineSend.{find_stage, send_refusal}
use Rattle.b1_model.specs.MachineReceive.{reference_of, released_by}
use Rattle.b1_model.specs.MachineDriver.{no_ref, node_of_place, phase_action, turn, send_of}
use Rattle.b1_model.specs.MachineTook.{cancelled_drops, place_references, drops_of, owed_after, with_facts}
use Rattle.b1_model.specs.MachineEvents.{happens, begin_by, stage_by, destroy_by, begin_refusal, begin_serials, number_of}
use Rattle.b1_model.specs.MachineStep.{Step}
use Rattle.b1_step.specs.Rights.{Has, may_be_elsewhere}
use Rattle.b1_step.proofs.Locality.{as_many_peers, own_place}
use Rattle.b1_inv.specs.Words.{IsPeer, IsDriver, IsMade, is_accepted_place, phase_of}
use Rattle.b1_inv.specs.Sends.{IsFilled, IsAttached}
use Rattle.b1_inv.specs.References.{IsDrop, ReferencesRight, may_owe}
use Rattle.b1_inv.specs.Sound.{IsSound}
use Rattle.b1_inv_tools.proofs.Leaves.{Did, step_did, driver_cases, peer_cases}
use Rattle.b1_inv_tools.proofs.Grows.{made_stays}
use Rattle.b1_inv_refs.proofs.Amounts.{Refs}
use Rattle.b1_inv_refs.proofs.GivenUp.{held_found}
use Rattle.b1_inv_refs.proofs.Counting.{is_open, shape, counts_kept, below}
use Rattle.b1_inv_refs.proofs.Widths.{wide_after}
use Rattle.b1_inv_refs.proofs.DeadLists.{Right, dead_after}
use Rattle.b1_inv_refs.proofs.Owing.{New, owed_has, drops_has, Owing, OwingThen, turned_owed, turned_owing, phase_then, drop_stays}
use Rattle.b1_inv_tools.proofs.Facts.{next_of, next_owed}
use Rattle.b1_step.proofs.Lists.{has_all}

-- a reference of an attached slot is to the node of its handle
slot_at : (nodes : List NodeRef) (slots : List Slot) (r : NodeRef × ℕ) → Has (filter_map reference_of (zip nodes slots)) r → (j : ℕ) × (j < length nodes) × (r ≡ (get_or nodes j no_ref, 1)) × (get_or slots j slot.Unattached ≡ slot.Attached)
slot_at [] slots r h = absurd h
slot_at (n ∷ nodes) [] r h = absurd h
slot_at (n ∷ nodes) (slot.Unattached ∷ slots) r h = let k = slot_at nodes slots r h in (suc k.0, omega (arith, k.1), k.2, k.3)
slot_at (n ∷ nodes) (slot.Own ∷ slots) r h = let k = slot_at nodes slots r h in (suc k.0, omega (arith, k.1), k.2, k.3)
slot_at (n ∷ nodes) (slot.Void ∷ slots) r h = let k = slot_at nodes slots r h in (suc k.0, omega (arith, k.1), k.2, k.3)
slot_at (n ∷ nodes) (slot.Attached ∷ slots) r (inl same) = (zero, omega arith, same, refl)
slot_at (n ∷ nodes) (slot.Attached ∷ slots) r (inr h) = let k = slot_at nodes slots r h in (suc k.0, omega (arith, k.1), k.2, k.3)

-- beyond a list of slots there are none
none_past : (nodes : List NodeRef) (slots : List (List Slot)) (place : ℕ) (r : NodeRef × ℕ) → Has (filter_map reference_of (zip nodes (get_or slots place []))) r → place < length slots
none_past nodes [] place r h = absurd (empty nodes h)
  where
    empty : (nodes : List NodeRef) → Has (filter_map reference_of (zip nodes [])) r → ⊥
    empty [] h = h
    empty (n ∷ rest) h = h
none_past nodes (l ∷ rest) zero r h = omega arith
none_past nodes (l ∷ rest) (suc place) r h = let k = none_past nodes rest place r h in omega (arith, k)

module _ {o : Opening} {s : State} {p : ℕ} {command : Option Command} {t : State} (sound : IsSound o s) (step : Step o s p command t) where
  abbrev k : Did o step.local.memory step.driver command step.peer step.action step.at step.new_driver step.new_peer
  k = step_did step

  driver_me : step.driver.me ≡ p
  driver_me = sound.numbered.drivers p step.driver step.is_driver

  peer_me : step.peer.me ≡ step.at
  peer_me = (sound.numbered.peers step.at step.peer step.is_peer).me

  as_many : length t.peers ≡ length s.peers
  as_many = as_many_peers step

  -- ---- widths

  widths_at : (q : ℕ) (x : PeerPart) → ((q ≡ step.at) × (x ≡ step.new_peer)) ⊎ ((q ≢ step.at) × IsPeer s q x) → (n : NodePart) → Has x.nodes n → length n.counts ≡ length s.peers
  widths_at q x (inl here) n there =
      let peers : step.peer.peers ≡ length s.peers = (sound.numbered.peers step.at step.peer step.is_peer).peers ∙ sym sound.numbered.as_many_peers in
      wide_after (length s.peers) o step.local.memory k.e k.doing step.action step.peer peers (λ m h. sound.references.widths step.at step.peer m step.is_peer h) n (subst (λ z. Has z.nodes n) (here.1 ∙ k.peer) there)
  widths_at q x (inr other) n there = sound.references.widths q x n other.1 there

  -- ---- dead lists

  -- what is known of a reference in the dead list of peer q
  abbrev Known : ℕ → NodeRef × ℕ → Type 0
  Known q r = (1 ≤ r.1) × IsMade t r.0 × (r.0.owner ≢ q)

  rights : (f : Key × Entry) → Has step.peer.queue f → Right (Known step.at) step.at f
  rights f h message committed = (sound.slots.filled step.at step.peer f step.is_peer h message committed, λ n there apart. (omega arith, made_stays step n (has_all (IsMade s) (carried f.1) n (sound.slots.made step.at step.peer f step.is_peer h) there), apart))

  dead_at : (q : ℕ) (x : PeerPart) → ((q ≡ step.at) × (x ≡ step.new_peer)) ⊎ ((q ≢ step.at) × IsPeer s q x) → (item : Refs) (r : NodeRef × ℕ) → Has x.dead item → Has item r → Known q r
  dead_at q x (inl here) item r there inside =
      subst (λ n. Known n r) (sym here.0)
      (dead_after (Known step.at) step.at step.peer rights (λ i h l m. let d = sound.references.dead step.at step.peer i l step.is_peer h m in (d.0, made_stays step l.0 d.1, d.2))
      (λ h has some. (some, made_stays step h.node (sound.flights.made step.at step.peer h step.is_peer has), sound.flights.foreign step.at step.peer h step.is_peer has))
      (sound.numbers.numbered step.at step.peer step.is_peer) o step.local.memory k.e k.doing step.action item (subst (λ z. Has z.dead item) (here.1 ∙ k.peer) there) r inside)
  dead_at q x (inr other) item r there inside = let d = sound.references.dead q x item r other.1 there inside in (d.0, made_stays step r.0 d.1, d.2)

  -- ---- owed drops

  drop_stays_drop : (one : OwedDrop) → IsDrop s one → IsDrop t one
  drop_stays_drop one d = record { some = d.some; made = made_stays step one.node d.made; holder = (let l = d.holder in omega (arith, l, as_many)); other = d.other }

  -- of a cancelled commit
  cancelled : (sending : Sending) (stamp place : ℕ) → IsAttached s k.doing.command sending × ((is_accepted_place sending.places place ≡ true) ⊎ (length sending.places ≤ place)) → (one : OwedDrop) → Has (drops_of (node_of_place sending.begun.to place).owner stamp (place_references sending place)) one → IsDrop s one
  cancelled sending stamp place sh one h =
      let d = drops_has (node_of_place sending.begun.to place).owner stamp (place_references sending place) one h in
      let j = slot_at sending.begun.with (get_or sending.slots place []) d.0 d.1 in
      let less : place < length sending.slots = none_past sending.begun.with sending.slots place d.0 d.1 in
      let in_to : place < length sending.begun.to = (let l = sh.0.lists in omega (arith, less, l)) in
      let accepted : is_accepted_place sending.places place ≡ true = at_place sh.1 (let l = sh.0.places in omega (arith, in_to, l)) in
      let goal = sh.0.begun.to place no_ref in_to in
      let made = sh.0.begun.with j.0 no_ref j.1 in
      let filled = subst (IsFilled (node_of_place sending.begun.to place) (node_of_place sending.begun.with j.0)) j.3 (sh.0.filled place j.0 accepted j.1 (inl in_to)) in
      let same : one ≡ record { node = node_of_place sending.begun.with j.0; holder = (node_of_place sending.begun.to place).owner; amount = 1; clock = stamp } = d.2 ∙ ap (λ r. record { node = r.0; holder = (node_of_place sending.begun.to place).owner; amount = r.1; clock = stamp }) j.2 in
      subst (IsDrop s) (sym same) (record { some = omega arith; made = made; holder = below sound step (node_of_place sending.begun.to place) goal; other = λ e. filled (sym e) })
    where
      at_place : (is_accepted_place sending.places place ≡ true) ⊎ (length sending.places ≤ place) → place < length sending.places → is_accepted_place sending.places place ≡ true
      at_place (inl is) less = is
      at_place (inr past) less = absurd (omega (arith, past, less))

  by_phase : (phase : Phase) → k.doing.phase ≡ phase → (one : OwedDrop) → Has (cancelled_drops phase) one → IsDrop s one
  by_phase (Committing sending stamp place) is one h = cancelled sending stamp place (shape sound step (Committing sending stamp place) is (λ e. absurd (cc e))) one h
  by_phase phase is one h = absurd h

  -- a reference of the own peer to another's node
  own_drop : may_be_elsewhere step.action ≡ false → (n : NodeRef) (amount clock : ℕ) → 1 ≤ amount → IsMade s n → n.owner ≢ step.at → IsDrop s (record { node = n; holder = k.e.me; amount = amount; clock = clock })
  own_drop own n amount clock some made apart =
      let at_me : step.at ≡ k.e.me = own_place step own ∙ sym k.opened.me in
      record { some = some; made = made; holder = subst (λ z. z < length s.peers) at_me (slice_get_within s.peers step.at step.peer step.is_peer); other = λ e. apart (sym e ∙ sym at_me) }

  reap_new : may_be_elsewhere step.action ≡ false → (dead : List Refs) → step.peer.dead ≡ dead → (phase : Phase) (left : Bool) (one : OwedDrop) → New k.e.me phase (out.Reap (elim dead [ [] ↦ None | item ∷ rest ↦ Some (record { drops = item; clock = step.peer.clock }) ]) left) one → IsDrop s one
  reap_new own [] is phase left one h = absurd h
  reap_new own (item ∷ rest) is phase left one h =
      let d = drops_has k.e.me step.peer.clock item one h in
      let r = sound.references.dead step.at step.peer item d.0 step.is_peer (subst (λ l. Has l item) (sym is) (inl refl)) d.1 in
      subst (IsDrop s) (sym d.2) (own_drop own d.0.0 d.0.1 step.peer.clock r.0 r.1 r.2)

  release_new : may_be_elsewhere step.action ≡ false → (number : ℕ) (b : Bool) (held : Option NodeRef) → held_node number step.peer.handles ≡ held → (phase : Phase) (one : OwedDrop) → New k.e.me phase (out.Release (released_by b held step.peer number)) one → IsDrop s one
  release_new own number false held found phase one h = absurd h
  release_new own number true None found phase one h = absurd h
  release_new own number true (Some node) found phase one h =
      let d = drops_has k.e.me step.peer.clock ((node, 1) ∷ []) one h in
      let same : d.0 ≡ (node, 1) = elim d.1 [ inl e ↦ e | inr none ↦ absurd none ] in
      let f = held_found step.peer.given number step.peer.handles node (sound.numbers.numbered step.at step.peer step.is_peer) found in
      let made : IsMade s node = subst (IsMade s) f.2 (sound.flights.made step.at step.peer f.0 step.is_peer f.1) in
      let apart : node.owner ≢ step.at = λ e. sound.flights.foreign step.at step.peer f.0 step.is_peer f.1 (ap (λ n. n.owner) f.2 ∙ e) in
      subst (IsDrop s) (sym (d.2 ∙ ap (λ r. record { node = r.0; holder = k.e.me; amount = r.1; clock = step.peer.clock }) same)) (own_drop own node 1 step.peer.clock (omega arith) made apart)

  begin_new : (r : Option Reason) (b : Bool) (c : SendCmd) (phase : Phase) (one : OwedDrop) → New k.e.me phase (begin_by r b c step.peer).0 one → IsDrop s one
  begin_new (Some r) b c phase one h = absurd h
  begin_new None true c phase one h = absurd h
  begin_new None false c phase one h = absurd h

  stage_new : (r : Option Reason) (b : Bool) (origin user place serial : ℕ) (payload : List ℕ) (nodes : List NodeRef) (phase : Phase) (one : OwedDrop) → New k.e.me phase (stage_by r b origin user place serial payload nodes step.peer).0 one → IsDrop s one
  stage_new (Some r) b origin user place serial payload nodes phase one h = absurd h
  stage_new None true origin user place serial payload nodes phase one h = absurd h
  stage_new None false origin user place serial payload nodes phase one h = absurd h

  destroy_new : (r : Option Reason) (doomed : List ℕ) (phase : Phase) (one : OwedDrop) → New k.e.me phase (destroy_by r doomed step.peer).0 one → IsDrop s one
  destroy_new (Some r) doomed phase one h = absurd h
  destroy_new None doomed phase one h = absurd h

  commit_new : (b : Bool) (one : OwedDrop) → New k.e.me k.doing.phase (out.Commit b) one → IsDrop s one
  commit_new true one h = absurd h
  commit_new false one h = by_phase k.doing.phase refl one h

  new_drop : (action : Action) → step.action ≡ action → (one : OwedDrop) → New k.e.me k.doing.phase (happens o step.local.memory k.e k.doing action step.peer).0 one → IsDrop s one
  new_drop act.Begin is one h = begin_new (send_refusal step.peer (send_of k.doing.command)) step.local.memory (send_of k.doing.command) k.doing.phase one h
  new_drop (act.Stage peer place) is one h = stage_new _ step.local.memory _ _ _ _ _ _ k.doing.phase one h
  new_drop (act.Commit peer place stamp) is one h = commit_new (is_some (find_stage step.peer k.e.me place)) one h
  new_drop act.Reap is one h = reap_new (ap may_be_elsewhere is) step.peer.dead refl k.doing.phase _ one h
  new_drop act.Release is one h = release_new (ap may_be_elsewhere is) (number_of k.doing.command) (is_given (number_of k.doing.command)) (held_node (number_of k.doing.command) step.peer.handles) refl k.doing.phase one h
  new_drop act.BeginDestroy is one h = destroy_new (begin_refusal k.doing.command step.peer) (begin_serials k.doing.command step.peer) k.doing.phase one h
  new_drop act.Rest is one h = absurd h
  new_drop (act.Unstage peer place) is one h = absurd h
  new_drop (act.Attach peer serial dest) is one h = absurd h
  new_drop act.Stamp is one h = absurd h
  new_drop (act.Sync peer stamp) is one h = absurd h
  new_drop (act.CommitNotices peer stamp) is one h = absurd h
  new_drop act.Recv is one h = absurd h
  new_drop (act.DropRefs peer serial holder n clock) is one h = absurd h
  new_drop (act.Visit peer) is one h = absurd h
  new_drop act.StampDestroy is one h = absurd h
  new_drop act.Flush is one h = absurd h
  new_drop act.Local is one h = absurd h

  outcome : Outcome
  outcome = (happens o step.local.memory k.e k.doing step.action step.peer).0

  new_owed : step.new_driver.owed ≡ owed_after k.e.me k.doing.phase k.e.owed (happens o step.local.memory k.e k.doing step.action step.peer).0
  new_owed = ap (λ d. d.owed) k.driver ∙ turned_owed (with_facts k.e k.doing (happens o step.local.memory k.e k.doing step.action step.peer).0) k.doing.command (turn k.e.me k.doing.command k.doing.phase (happens o step.local.memory k.e k.doing step.action step.peer).0)

  owed_at : (r : ℕ) (d : DriverPart) → ((r ≡ p) × (d ≡ step.new_driver)) ⊎ ((r ≢ p) × IsDriver s r d) → (one : OwedDrop) → Has d.owed one → IsDrop t one
  owed_at r d (inl here) one h = drop_stays_drop one (at (owed_has k.e.me k.doing.phase k.e.owed (happens o step.local.memory k.e k.doing step.action step.peer).0 one (subst (λ l. Has l one) (ap (λ z. z.owed) here.1 ∙ new_owed) h)))
    where
      at : Has k.e.owed one ⊎ New k.e.me k.doing.phase (happens o step.local.memory k.e k.doing step.action step.peer).0 one → IsDrop s one
      at (inl old) = sound.references.owed p step.driver one step.is_driver (subst (λ l. Has l one) k.opened.owed old)
      at (inr new) = new_drop step.action refl one new
  owed_at r d (inr other) one h = drop_stays_drop one (sound.references.owed r d one other.1 h)

  -- ---- phases

  was_owing : (one : OwedDrop) (rest : List OwedDrop) → k.e.owed ≡ one ∷ rest → may_owe k.doing.phase ≡ true
  was_owing one rest is = by_old (sound.references.owing p step.driver step.is_driver) k.opened.from
    where
      by_old : (step.driver.owed ≡ []) ⊎ ((phase : Phase) × (phase_of step.driver ≡ Some phase) × (may_owe phase ≡ true)) → ((step.driver.doing ≡ Some k.doing) ⊎ ((step.driver.doing ≡ None) × (command ≡ Some k.doing.command) × (k.doing.phase ≡ Starting))) → may_owe k.doing.phase ≡ true
      by_old (inl none) from = absurd (cc (sym is ∙ k.opened.owed ∙ none))
      by_old (inr (phase, phase_is, may)) (inl open_is) =
          let same : Some k.doing.phase ≡ Some phase = sym (ap (λ d. elim d [ None ↦ None | Some doing ↦ Some doing.phase ]) open_is) ∙ phase_is in
          let equal : k.doing.phase ≡ phase = cc same in
          ap may_owe equal ∙ may
      by_old (inr (phase, phase_is, may)) (inr starts) =
          let none : None ≡ Some phase = sym (ap (λ d. elim d [ None ↦ None | Some doing ↦ Some doing.phase ]) starts.0) ∙ phase_is in
          absurd (cc none)

  owing_by : (owed : List OwedDrop) → k.e.owed ≡ owed → OwingThen (owed_after k.e.me k.doing.phase owed (happens o step.local.memory k.e k.doing step.action step.peer).0) (turn k.e.me k.doing.command k.doing.phase (happens o step.local.memory k.e k.doing step.action step.peer).0)
  owing_by [] is =
      let same : step.action ≡ phase_action k.e.me k.e.shut k.doing.command k.doing.phase = k.is_action ∙ next_of k.e k.doing k.opened.is_open is in
      subst (λ a. OwingThen (owed_after k.e.me k.doing.phase [] (happens o step.local.memory k.e k.doing a step.peer).0) (turn k.e.me k.doing.command k.doing.phase (happens o step.local.memory k.e k.doing a step.peer).0)) (sym same) (phase_then o step.local.memory k.e step.peer k.doing.command k.doing.phase)
  owing_by (one ∷ rest) is =
      let same : step.action ≡ act.DropRefs one.node.owner one.node.serial one.holder one.amount one.clock = k.is_action ∙ next_owed k.e k.doing one rest k.opened.is_open is in
      subst (λ a. OwingThen (owed_after k.e.me k.doing.phase (one ∷ rest) (happens o step.local.memory k.e k.doing a step.peer).0) (turn k.e.me k.doing.command k.doing.phase (happens o step.local.memory k.e k.doing a step.peer).0)) (sym same) (inr (k.doing.phase, drop_stays k.e.me k.doing.command k.doing.phase, was_owing one rest is))

  owing_at : (r : ℕ) (d : DriverPart) → ((r ≡ p) × (d ≡ step.new_driver)) ⊎ ((r ≢ p) × IsDriver s r d) → Owing d
  owing_at r d (inl here) = subst Owing (sym (here.1 ∙ k.driver)) (turned_owing (with_facts k.e k.doing (happens o step.local.memory k.e k.doing step.action step.peer).0) k.doing.command (turn k.e.me k.doing.command k.doing.phase (happens o step.local.memory k.e k.doing step.action step.peer).0) (owing_by k.e.owed refl))
  owing_at r d (inr other) = sound.references.owing r d other.1

  pub references_kept : ReferencesRight t
  references_kept = record {
    widths = λ q x n is there. widths_at q x (peer_cases step q x is) n there ∙ sym as_many;
    counts = λ node q. counts_kept sound step node q;
    owed = λ r d one is there. owed_at r d (driver_cases step r d is) one there;
    owing = λ r d is. owing_at r d (driver_cases step r d is);
    dead = λ q x item r is there inside. dead_at q x (peer_cases step q x is) item r there inside;
  }
