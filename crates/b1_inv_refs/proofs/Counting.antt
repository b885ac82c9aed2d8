-- A step keeps the counts: each owner's count of a peer's references stays the fresh count.
use Rattle.std.proofs.Common.{◌≡◌, ◌⊎◌, refl, sym, ap, ◌∙◌, inl, inr, subst, ℕ, zero, suc, ◌+◌, ◌<◌, ◌≤◌, ◌==◌, Bool, true, false, cond, ◌&&◌, List, [], ◌∷◌, get_or, length, sum_by, Option, Some, None}
use Rattle.std.specs.Prelude.{slice_get}
use Rattle.std.proofs.lemmas.Bool.{cases_eq, eq-eqb, ne_eqb, eqb-true, and_parts}
use Rattle.std.proofs.lemmas.Option.{slice_get_within, get_or_from_slice_get, same_Some}
use Rattle.std.proofs.lemmas.List.Sums.{get_or-le-sum_by}
use native.Mathlib.Omega.{arith}
use Rattle.b1_model.specs.declared.naming.Key.{Key}
use Rattle.b1_model.specs.declared.naming.NodeRef.{NodeRef}
use Rattle.b1_model.specs.declared.naming.Opening.{Opening}
use Rattle.b1_model.specs.declared.commands.Command.{Command}
use Rattle.b1_model.specs.declared.commands.Command.TheVariants as cmd
use Rattle.b1_model.specs.declared.parts.Slot.{Slot}
use Rattle.b1_model.specs.declared.entries.Entry.{Entry}
use Rattle.b1_model.specs.declared.entries.Entry.TheVariants.{Message, OwnNotice, ForeignNotice, ReleaseNotice}
use Rattle.b1_model.specs.declared.events.Action.{Action}
use Rattle.b1_model.specs.declared.events.Action.TheVariants as act
use Rattle.b1_model.specs.declared.events.Phase.{Phase}
use Rattle.b1_model.specs.declared.events.Phase.TheVariants.{Starting, Staging, Unstaging, Attaching, Stamping, Syncing, Committing, Dropping, Reaping, Visiting, Dooming, SyncingNotices, CommittingOwn, CommittingNotices, Flushing}
use Rattle.b1_model.specs.declared.events.Doing.{Doing}
use Rattle.b1_model.specs.declared.events.Sending.{Sending}
use Rattle.b1_model.specs.declared.events.OwedDrop.{OwedDrop}
use Rattle.b1_model.specs.MachineParts.{PeerPart, State, no_node, node_at, same_ref, is_odd, is_data, is_staged, carried}
use Rattle.b1_model.specs.MachineTables.{count_of, is_stage}
use Rattle.b1_model.specs.MachineSend.{find_stage}
use Rattle.b1_model.specs.MachineDriver.{no_ref, node_of_place, phase_action, first_action, peer_of, accepted_from}
use Rattle.b1_model.specs.MachineTook.{place_references}
use Rattle.b1_model.specs.MachineEvents.{begun_of, happens}
use Rattle.b1_model.specs.MachineCounts.{amount_in, kept_from, peer_amount, owed_amount, driver_amount, fresh}
use Rattle.b1_model.specs.MachineStep.{Step}
use Rattle.b1_step.specs.Rights.{Has}
use Rattle.b1_step.specs.Ordered.{Rising}
use Rattle.b1_step.proofs.Lists.{sum_set, has_within}
use Rattle.b1_step.proofs.Locality.{at_peer, other_peer}
use Rattle.b1_step.proofs.Orders.{find_has, same_ref_itself}
use Rattle.b1_inv.specs.Words.{IsMade, is_accepted_place, stamp_of_phase, fixed_stamp}
use Rattle.b1_inv.specs.Sends.{SendShape}
use Rattle.b1_inv.specs.Stages.{IsMessageOf}
use Rattle.b1_inv.specs.References.{count_in, IsDrop}
use Rattle.b1_inv.specs.Sound.{IsSound}
use Rattle.b1_inv_tools.proofs.Leaves.{Did, step_did}
use Rattle.b1_inv_refs.proofs.Amounts.{slots_amount, slots_none, owed_cons, nothing_of}
use Rattle.b1_inv_refs.proofs.Kept.{at_place, accepted_is, accepted_within, kept_next, kept_skip, kept_past}
use Rattle.b1_inv_refs.proofs.Owes.{after_amount, opened_amount}
use Rattle.b1_inv_refs.proofs.Flying.{peer_flies, peer_slots}
use Rattle.b1_inv_refs.proofs.Peers.{stage_is_staged, stage_is_message}
use Rattle.b1_inv_refs.proofs.Goes.{Goes_on, local_goes, begin_goes, recv_goes, destroy_goes, stage_goes, unstage_goes, stamp_goes, sync_goes, visit_goes, doom_goes, sync_notices_goes, own_notices_goes, notices_goes, rest_goes}
use Rattle.b1_inv_refs.proofs.Moves.{attach_goes, commit_goes, drop_goes, reap_goes, release_goes, flush_goes}
use Rattle.b1_inv_tools.proofs.Facts.{next_of, next_owed, even_is}

-- ---- small facts of lists

pub member_le : {X : Type 0} (f : X → ℕ) (xs : List X) (i : ℕ) (x : X) → slice_get xs i ≡ Some x → f x ≤ sum_by f xs
member_le f xs i x is = let k = get_or-le-sum_by f xs i x (slice_get_within xs i x is) in let same = ap f (get_or_from_slice_get xs i x x is) in omega (arith, k, same)

-- a place beyond the list, or an accepted one: what is kept from it on
kept_on : (node : NodeRef) (q : ℕ) (sending : Sending) (place : ℕ) → length sending.slots ≡ length sending.places → (is_accepted_place sending.places place ≡ true) ⊎ (length sending.places ≤ place)
    → kept_from node q sending place 0 sending.places ≡ at_place node q sending place + kept_from node q sending (accepted_from (place + 1) sending.places) 0 sending.places
kept_on node q sending place lists (inl accepted) =
    let one = kept_next node q sending sending.places place 0 place (omega arith) (accepted_is sending.places place accepted) in
    let two = kept_skip node q sending sending.places (place + 1) 0 in
    omega (arith, one, two)
kept_on node q sending place lists (inr past) =
    let one = kept_past node q sending sending.places place 0 (omega (arith, past)) in
    let two = kept_past node q sending sending.places (place + 1) 0 (omega (arith, past)) in
    let three = kept_skip node q sending sending.places (place + 1) 0 in
    let four : amount_in node (place_references sending place) ≡ 0 = no_slots sending.slots place (omega (arith, past, lists)) in
    let five : at_place node q sending place ≡ 0 = ap (λ n. cond ((node_of_place sending.begun.to place).owner == q) n 0) four ∙ nothing_of node ((node_of_place sending.begun.to place).owner == q) in
    omega (arith, one, two, three, five)
  where
    past_end : {X : Type 0} (xs : List X) (i : ℕ) (d : X) → length xs ≤ i → get_or xs i d ≡ d
    past_end [] i d less = refl
    past_end (x ∷ xs) zero d less = absurd (omega (arith, less))
    past_end (x ∷ xs) (suc i) d less = past_end xs i d (omega (arith, less))

    no_slots : (slots : List (List Slot)) (i : ℕ) → length slots ≤ i → amount_in node (place_references (record sending { slots = slots }) i) ≡ 0
    no_slots slots i less = ap (λ l. slots_amount node sending.begun.with l) (past_end slots i [] less) ∙ slots_none node sending.begun.with

-- the message of a SEND carries its nodes
carries : (o : Opening) (q : ℕ) (doing : Doing) (k : Key) (e : Entry) → IsMessageOf o q doing k e → carried e ≡ (begun_of doing.phase).with
carries o q doing k (Message origin user index serial offset len nodes slots handles payload) is = is.4
carries o q doing k (OwnNotice serial index) is = absurd is
carries o q doing k (ForeignNotice node index) is = absurd is
carries o q doing k (ReleaseNotice serial) is = absurd is

module _ {o : Opening} {s : State} {p : ℕ} {command : Option Command} {t : State} (sound : IsSound o s) (step : Step o s p command t) where
  abbrev k : Did o step.local.memory step.driver command step.peer step.action step.at step.new_driver step.new_peer
  k = step_did step

  up : Rising step.peer.handles
  up = sound.rising step.at step.peer step.is_peer

  me_is : k.e.me ≡ p
  me_is = k.opened.me ∙ sound.numbered.drivers p step.driver step.is_driver

  -- ---- the peer that the event is at

  pub within : (n : NodeRef) → IsMade s n → step.at ≡ n.owner → n.serial < length step.peer.nodes
  within n made here =
      let same : made.0 ≡ step.peer = same_Some made.0 step.peer (sym made.1 ∙ ap (slice_get s.peers) (sym here) ∙ step.is_peer) in
      subst (λ z. n.serial < length z.nodes) same made.2

  pub below : (n : NodeRef) → IsMade s n → n.owner < length s.peers
  below n made = slice_get_within s.peers n.owner made.0 made.1

  pub wide : (serial : ℕ) → serial < length step.peer.nodes → length (node_at step.peer serial).counts ≡ length s.peers
  wide serial less = sound.references.widths step.at step.peer (get_or step.peer.nodes serial no_node) step.is_peer (has_within step.peer.nodes serial no_node less)

  -- ---- the open command

  pub is_open : (phase : Phase) → k.doing.phase ≡ phase → (phase ≡ Starting → ⊥) → step.driver.doing ≡ Some k.doing
  is_open phase is not_start = at k.opened.from
    where
      at : ((step.driver.doing ≡ Some k.doing) ⊎ ((step.driver.doing ≡ None) × (command ≡ Some k.doing.command) × (k.doing.phase ≡ Starting))) → step.driver.doing ≡ Some k.doing
      at (inl open_is) = open_is
      at (inr starts) = absurd (not_start (sym is ∙ starts.2))

  pub shape : (phase : Phase) → k.doing.phase ≡ phase → (phase ≡ Starting → ⊥) → SendShape s k.doing.command phase
  shape phase is not_start = subst (SendShape s k.doing.command) is (sound.sends.shape p step.driver k.doing step.is_driver (is_open phase is not_start))

  -- a message found for a place carries the SEND's nodes
  found_carries : (phase : Phase) → k.doing.phase ≡ phase → (phase ≡ Starting → ⊥) → (place : ℕ) (f : Key × Entry) → find_stage step.peer k.e.me place ≡ Some f → carried f.1 ≡ (begun_of phase).with
  found_carries phase is not_start place f found =
      let there = find_has (is_stage k.e.me place) step.peer.queue f found in
      let sender = sound.stages.sender step.at step.peer f step.is_peer there.0 (stage_is_message k.e.me place f there.1) (stage_is_staged k.e.me place f there.1) in
      let origin : f.0.origin ≡ p = stage_origin k.e.me place f there.1 ∙ me_is in
      let driver : sender.driver ≡ step.driver = same_Some sender.driver step.driver (sym sender.is_driver ∙ ap (slice_get s.drivers) origin ∙ step.is_driver) in
      let doing : sender.doing ≡ k.doing = same_Some sender.doing k.doing (sym sender.is_open ∙ ap (λ d. d.doing) driver ∙ is_open phase is not_start) in
      carries o step.at sender.doing f.0 f.1 sender.message ∙ ap (λ d. (begun_of d.phase).with) doing ∙ ap (λ ph. (begun_of ph).with) is
    where
      stage_origin : (origin index : ℕ) (f : Key × Entry) → is_stage origin index f ≡ true → f.0.origin ≡ origin
      stage_origin origin index f passes = eqb-true f.0.origin origin (and_parts (is_data f.1 && is_staged f) (f.0.origin == origin) (and_parts (is_data f.1 && is_staged f && (f.0.origin == origin)) (f.0.index == index) passes).0).1

  even_stamp : (stamp : ℕ) → fixed_stamp step.driver ≡ Some stamp → is_odd stamp ≡ false
  even_stamp stamp is = even_is stamp (sound.clocks.stamp p step.driver stamp step.is_driver is).0

  module _ (node : NodeRef) (q : ℕ) where
    abbrev Keeps_on : Command → Phase → List OwedDrop → Action → Type 0
    Keeps_on c phase owed action = Goes_on o step.local.memory k.e step.peer step.at node q c phase owed action

    -- ---- the first event of a command

    first_goes : (c : Command) → step.at ≡ peer_of k.e.me (first_action c) → Keeps_on c Starting [] (first_action c)
    first_goes cmd.Disconnect here = destroy_goes o step.local.memory k.e step.peer step.at node q up cmd.Disconnect
    first_goes cmd.Query here = local_goes o step.local.memory k.e step.peer step.at node q up cmd.Query
    first_goes (cmd.Limit limits) here = local_goes o step.local.memory k.e step.peer step.at node q up (cmd.Limit limits)
    first_goes (cmd.Reset limits) here = destroy_goes o step.local.memory k.e step.peer step.at node q up (cmd.Reset limits)
    first_goes (cmd.Release number) here = release_goes o step.local.memory k.e step.peer step.at node q up (cmd.Release number) (sound.numbers.numbered step.at step.peer step.is_peer) here
    first_goes (cmd.Destroy numbers) here = destroy_goes o step.local.memory k.e step.peer step.at node q up (cmd.Destroy numbers)
    first_goes (cmd.SliceRelease offset) here = local_goes o step.local.memory k.e step.peer step.at node q up (cmd.SliceRelease offset)
    first_goes (cmd.Send c) here = begin_goes o step.local.memory k.e step.peer step.at node q up (cmd.Send c)
    first_goes cmd.Recv here = recv_goes o step.local.memory k.e step.peer step.at node q up cmd.Recv (peer_flies sound step step.at step.peer step.is_peer) (peer_slots sound step step.at step.peer step.is_peer)
    first_goes cmd.Await here = recv_goes o step.local.memory k.e step.peer step.at node q up cmd.Await (peer_flies sound step step.at step.peer step.is_peer) (peer_slots sound step step.at step.peer step.is_peer)

    start_goes : (shut : Bool) (c : Command) → step.at ≡ peer_of k.e.me (cond shut act.Local (first_action c)) → Keeps_on c Starting [] (cond shut act.Local (first_action c))
    start_goes true c here = local_goes o step.local.memory k.e step.peer step.at node q up c
    start_goes false c here = first_goes c here

    -- ---- an attach, and a commit

    attach_at : (sending : Sending) (place j : ℕ) → k.doing.phase ≡ Attaching sending place j → step.at ≡ (node_of_place sending.begun.with j).owner → Keeps_on k.doing.command (Attaching sending place j) [] (phase_action k.e.me k.e.shut k.doing.command (Attaching sending place j))
    attach_at sending place j is here =
        let sh = shape (Attaching sending place j) is (λ e. absurd (cc e)) in
        let in_places = accepted_within sending.places place sh.1 in
        let in_to : place < length sending.begun.to = (let l = sh.0.places in omega (arith, in_places, l)) in
        let in_slots : place < length sending.slots = (let l = sh.0.lists in omega (arith, in_to, l)) in
        let row = sh.0.slots place [] in_slots in
        let in_row : j < length (get_or sending.slots place []) = (let l = sh.2 in omega (arith, row, l)) in
        let made = sh.0.begun.with j no_ref sh.2 in
        let goal = sh.0.begun.to place no_ref in_to in
        let less = within (node_of_place sending.begun.with j) made here in
        let wide_at = wide (node_of_place sending.begun.with j).serial less in
        let low = below (node_of_place sending.begun.to place) goal in
        attach_goes o step.local.memory k.e step.peer step.at node q up k.doing.command sending place j sh.1 in_slots in_row sh.2 (sh.0.unfilled place j (inl (not_before place j))) here less (omega (arith, low, wide_at))
      where
        not_before : (place j : ℕ) → (place < place) ⊎ ((place ≡ place) × (j < j)) → ⊥
        not_before place j (inl less) = absurd (omega (arith, less))
        not_before place j (inr less) = let l = less.1 in absurd (omega (arith, l))

    commit_at : (sending : Sending) (stamp place : ℕ) → k.doing.phase ≡ Committing sending stamp place → step.at ≡ (node_of_place sending.begun.to place).owner → Keeps_on k.doing.command (Committing sending stamp place) [] (phase_action k.e.me k.e.shut k.doing.command (Committing sending stamp place))
    commit_at sending stamp place is here =
        let sh = shape (Committing sending stamp place) is (λ e. absurd (cc e)) in
        let open_is = is_open (Committing sending stamp place) is (λ e. absurd (cc e)) in
        let fixed : fixed_stamp step.driver ≡ Some stamp = ap (λ d. elim d [ None ↦ None | Some doing ↦ stamp_of_phase doing.phase ]) open_is ∙ ap stamp_of_phase is in
        let lists : length sending.slots ≡ length sending.places = (let l = sh.0.lists in let m = sh.0.places in omega (arith, l, m)) in
        commit_goes o step.local.memory k.e step.peer step.at node q up k.doing.command sending stamp place here (even_stamp stamp fixed) (kept_on node q sending place lists sh.1) (node_of_place sending.begun.to place).owner (λ f found. found_carries (Committing sending stamp place) is (λ e. absurd (cc e)) place f found)

    -- ---- by the phase, where nothing is owed

    by_phase : (phase : Phase) → k.doing.phase ≡ phase → step.at ≡ peer_of k.e.me (phase_action k.e.me k.e.shut k.doing.command phase) → Keeps_on k.doing.command phase [] (phase_action k.e.me k.e.shut k.doing.command phase)
    by_phase Starting is here = start_goes k.e.shut k.doing.command here
    by_phase (Staging begun places collected) is here = stage_goes o step.local.memory k.e step.peer step.at node q up k.doing.command begun places collected (node_of_place begun.to (length places)).owner (length places)
    by_phase (Unstaging begun places refused place) is here = unstage_goes o step.local.memory k.e step.peer step.at node q up k.doing.command begun places refused place (node_of_place begun.to place).owner place
    by_phase (Attaching sending place j) is here = attach_at sending place j is here
    by_phase (Stamping sending) is here = stamp_goes o step.local.memory k.e step.peer step.at node q up k.doing.command sending
    by_phase (Syncing sending stamp place) is here = sync_goes o step.local.memory k.e step.peer step.at node q up k.doing.command sending stamp place (node_of_place sending.begun.to place).owner stamp
    by_phase (Committing sending stamp place) is here = commit_at sending stamp place is here
    by_phase Dropping is here = rest_goes o step.local.memory k.e step.peer step.at node q up k.doing.command
    by_phase (Reaping got) is here = reap_goes o step.local.memory k.e step.peer step.at node q up k.doing.command got here
    by_phase (Visiting destruction left) is here = visit_goes o step.local.memory k.e step.peer step.at node q up k.doing.command destruction left (get_or left 0 k.e.me)
    by_phase (Dooming destruction) is here = doom_goes o step.local.memory k.e step.peer step.at node q up k.doing.command destruction
    by_phase (SyncingNotices destruction stamp place) is here = sync_notices_goes o step.local.memory k.e step.peer step.at node q up k.doing.command destruction stamp place (get_or destruction.staged place k.e.me) stamp
    by_phase (CommittingOwn destruction stamp) is here = own_notices_goes o step.local.memory k.e step.peer step.at node q up k.doing.command destruction stamp k.e.me stamp
    by_phase (CommittingNotices destruction stamp place) is here = notices_goes o step.local.memory k.e step.peer step.at node q up k.doing.command destruction stamp place (get_or destruction.staged place k.e.me) stamp
    by_phase (Flushing stamp) is here = flush_goes o step.local.memory k.e step.peer step.at node q up k.doing.command stamp (sound.numbers.numbered step.at step.peer step.is_peer)

    -- ---- a drop

    is_drop : (one : OwedDrop) (rest : List OwedDrop) → k.e.owed ≡ one ∷ rest → IsDrop s one
    is_drop one rest is = sound.references.owed p step.driver one step.is_driver (subst (λ l. Has l one) (sym is ∙ k.opened.owed) (inl refl))

    enough : (one : OwedDrop) (rest : List OwedDrop) → k.e.owed ≡ one ∷ rest → step.at ≡ one.node.owner → one.amount ≤ count_of (node_at step.peer one.node.serial) one.holder
    enough one rest is here =
        let a = sound.references.counts one.node one.holder in
        let b : count_in s one.node one.holder ≡ count_of (node_at step.peer one.node.serial) one.holder = ap (λ r. elim r [ None ↦ 0 | Some x ↦ count_of (node_at x one.node.serial) one.holder ]) (ap (slice_get s.peers) (sym here) ∙ step.is_peer) in
        let c = member_le (driver_amount one.node one.holder) s.drivers p step.driver step.is_driver in
        let d = opened_amount one.node one.holder step.driver command k.e k.doing k.opened in
        let f = ap (owed_amount one.node one.holder) is ∙ owed_cons one.node one.holder one rest in
        let g : cond (same_ref one.node one.node && (one.holder == one.holder)) one.amount 0 ≡ one.amount = rw (same_ref_itself one.node, eq-eqb one.holder one.holder refl) refl in
        omega (arith, a, b, c, d, f, g)

    drop_at : (one : OwedDrop) (rest : List OwedDrop) → k.e.owed ≡ one ∷ rest → step.at ≡ one.node.owner → Keeps_on k.doing.command k.doing.phase (one ∷ rest) (act.DropRefs one.node.owner one.node.serial one.holder one.amount one.clock)
    drop_at one rest is here =
        let drop_is = is_drop one rest is in
        let less = within one.node drop_is.made here in
        let wide_at = wide one.node.serial less in
        let low = drop_is.holder in
        drop_goes o step.local.memory k.e step.peer step.at node q up k.doing.command k.doing.phase one rest here less (omega (arith, low, wide_at)) (enough one rest is here)

    -- ---- the event that was next

    by_owed : (owed : List OwedDrop) → k.e.owed ≡ owed → Keeps_on k.doing.command k.doing.phase owed step.action
    by_owed [] is =
        let same : step.action ≡ phase_action k.e.me k.e.shut k.doing.command k.doing.phase = k.is_action ∙ next_of k.e k.doing k.opened.is_open is in
        subst (λ a. Keeps_on k.doing.command k.doing.phase [] a) (sym same) (by_phase k.doing.phase refl (k.is_at ∙ ap (peer_of k.e.me) same))
    by_owed (one ∷ rest) is =
        let same : step.action ≡ act.DropRefs one.node.owner one.node.serial one.holder one.amount one.clock = k.is_action ∙ next_owed k.e k.doing one rest k.opened.is_open is in
        subst (λ a. Keeps_on k.doing.command k.doing.phase (one ∷ rest) a) (sym same) (drop_at one rest is (k.is_at ∙ ap (peer_of k.e.me) same))

    goes : Keeps_on k.doing.command k.doing.phase k.e.owed step.action
    goes = by_owed k.e.owed refl

    -- ---- the sums

    count_moves : count_in t node q + cond (step.at == node.owner) (count_of (node_at step.peer node.serial) q) 0 ≡ count_in s node q + cond (step.at == node.owner) (count_of (node_at step.new_peer node.serial) q) 0
    count_moves = at (cases_eq step.at node.owner)
      where
        at : (step.at ≡ node.owner) ⊎ (step.at ≡ node.owner → ⊥) → count_in t node q + cond (step.at == node.owner) (count_of (node_at step.peer node.serial) q) 0 ≡ count_in s node q + cond (step.at == node.owner) (count_of (node_at step.new_peer node.serial) q) 0
        at (inl same) =
            let a : count_in t node q ≡ count_of (node_at step.new_peer node.serial) q = ap (λ r. elim r [ None ↦ 0 | Some x ↦ count_of (node_at x node.serial) q ]) (ap (slice_get t.peers) (sym same) ∙ at_peer step) in
            let b : count_in s node q ≡ count_of (node_at step.peer node.serial) q = ap (λ r. elim r [ None ↦ 0 | Some x ↦ count_of (node_at x node.serial) q ]) (ap (slice_get s.peers) (sym same) ∙ step.is_peer) in
            rw (eq-eqb step.at node.owner same) (omega (arith, a, b))
        at (inr apart) =
            let a : count_in t node q ≡ count_in s node q = ap (λ r. elim r [ None ↦ 0 | Some x ↦ count_of (node_at x node.serial) q ]) (other_peer step node.owner (λ e. apart (sym e))) in
            rw (ne_eqb step.at node.owner apart) (omega (arith, a))

    -- what a holder's part has
    abbrev part_amount : Option PeerPart → ℕ
    part_amount r = elim r [ None ↦ 0 | Some x ↦ peer_amount node x ]

    amount_moves : part_amount (slice_get t.peers q) + cond (step.at == q) (peer_amount node step.peer) 0 ≡ part_amount (slice_get s.peers q) + cond (step.at == q) (peer_amount node step.new_peer) 0
    amount_moves = at (cases_eq step.at q)
      where
        at : (step.at ≡ q) ⊎ (step.at ≡ q → ⊥) → part_amount (slice_get t.peers q) + cond (step.at == q) (peer_amount node step.peer) 0 ≡ part_amount (slice_get s.peers q) + cond (step.at == q) (peer_amount node step.new_peer) 0
        at (inl same) =
            let a : part_amount (slice_get t.peers q) ≡ peer_amount node step.new_peer = ap part_amount (ap (slice_get t.peers) (sym same) ∙ at_peer step) in
            let b : part_amount (slice_get s.peers q) ≡ peer_amount node step.peer = ap part_amount (ap (slice_get s.peers) (sym same) ∙ step.is_peer) in
            rw (eq-eqb step.at q same) (omega (arith, a, b))
        at (inr apart) =
            let a : part_amount (slice_get t.peers q) ≡ part_amount (slice_get s.peers q) = ap part_amount (other_peer step q (λ e. apart (sym e))) in
            rw (ne_eqb step.at q apart) (omega (arith, a))

    pub counts_kept : count_in t node q ≡ fresh t node q
    counts_kept =
        let a = sound.references.counts node q in
        let b = count_moves in
        let c = amount_moves in
        let d = sum_set (driver_amount node q) s.drivers p step.driver step.new_driver step.is_driver in
        let e = ap (sum_by (driver_amount node q)) step.drivers in
        let f = opened_amount node q step.driver command k.e k.doing k.opened in
        let g = ap (driver_amount node q) k.driver ∙ after_amount node q k.e k.doing (happens o step.local.memory k.e k.doing step.action step.peer).0 in
        let h = goes in
        let i = ap (λ z. cond (step.at == node.owner) (count_of (node_at z node.serial) q) 0) k.peer in
        let j = ap (λ z. cond (step.at == q) (peer_amount node z) 0) k.peer in
        omega (arith, a, b, c, d, e, f, g, h, i, j)
