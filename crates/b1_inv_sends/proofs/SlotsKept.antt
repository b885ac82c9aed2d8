-- Committed messages have their slots, and carry made nodes, through each step.
use Rattle.std.proofs.Common.{◌≡◌, ◌≢◌, ◌⊎◌, refl, sym, ap, ◌∙◌, inl, inr, subst, ℕ, zero, suc, ◌+◌, ◌%◌, ◌<◌, Bool, true, false, nat_le, List, [], ◌∷◌, get_or, length, Option, Some}
use Rattle.std.specs.List.{All}
use Rattle.std.proofs.lemmas.Bool.{and_parts, eq-eqb}
use Rattle.std.proofs.lemmas.List.Elements.{All-nil, All-get_or, All-weaker}
use native.Mathlib.Omega.{arith}
use Rattle.b1_model.specs.declared.naming.Key.{Key}
use Rattle.b1_model.specs.declared.naming.NodeRef.{NodeRef}
use Rattle.b1_model.specs.declared.naming.Opening.{Opening}
use Rattle.b1_model.specs.declared.commands.Command.{Command}
use Rattle.b1_model.specs.declared.parts.Slot.{Slot}
use Rattle.b1_model.specs.declared.parts.Slot.TheVariants as slot
use Rattle.b1_model.specs.declared.entries.Entry.{Entry}
use Rattle.b1_model.specs.declared.entries.Entry.TheVariants.{Message, OwnNotice, ForeignNotice, ReleaseNotice}
use Rattle.b1_model.specs.declared.events.Action.{Action}
use Rattle.b1_model.specs.declared.events.Action.TheVariants as act
use Rattle.b1_model.specs.declared.events.Doing.{Doing}
use Rattle.b1_model.specs.declared.events.Phase.{Phase}
use Rattle.b1_model.specs.declared.events.Phase.TheVariants.{Starting, Staging, Committing}
use Rattle.b1_model.specs.MachineParts.{PeerPart, State, carried, slots_of, is_data, is_staged, is_odd}
use Rattle.b1_model.specs.MachineTables.{is_stage}
use Rattle.b1_model.specs.MachineSend.{find_stage, with_slots}
use Rattle.b1_model.specs.MachineDriver.{no_ref, node_of_place, phase_action, peer_of}
use Rattle.b1_model.specs.MachineEvents.{begun_of, slots_at}
use Rattle.b1_model.specs.MachineStep.{Step, opening_state}
use Rattle.b1_step.specs.Rights.{Has}
use Rattle.b1_step.proofs.Orders.{find_has}
use Rattle.b1_inv.specs.Words.{IsPeer, IsDriver, IsMade, is_accepted_place, waits_at}
use Rattle.b1_inv.specs.Sends.{IsFilled, SendShape}
use Rattle.b1_inv.specs.Stages.{IsMessageOf}
use Rattle.b1_inv.specs.References.{AreFilled, SlotsRight}
use Rattle.b1_inv.specs.Sound.{IsSound}
use Rattle.b1_inv_tools.proofs.Leaves.{peer_cases}
use Rattle.b1_inv_tools.proofs.Grows.{made_stays}
use Rattle.b1_inv_tools.proofs.Comes.{Comes, queue_comes}
use Rattle.b1_inv_sends.proofs.Places.{accepted_within}
use Rattle.b1_inv_sends.proofs.Once.{stage_parts, notice_is}
use Rattle.b1_inv_sends.proofs.StagesKept.{opening_queue, start_no_stage, event, me_is, next_event, same_doing}

pub opening_slots : (o : Opening) → SlotsRight (opening_state o)
opening_slots o = record {
  filled = λ q x f is has message committed. absurd (subst (λ queue. Has queue f) (opening_queue o q x is) has);
  made = λ q x f is has. absurd (subst (λ queue. Has queue f) (opening_queue o q x is) has);
}

-- ---- the slots of a place

filled_at : (q : ℕ) (to node : NodeRef) (filled : Slot) → to.owner ≡ q → IsFilled to node filled → IsFilled (record { owner = q; serial = 0 }) node filled
filled_at q to node slot.Unattached own k = k
filled_at q to node slot.Attached own k = λ same. k (same ∙ sym own)
filled_at q to node slot.Own own k = k ∙ own
filled_at q to node slot.Void own k = k

all_filled : (q : ℕ) (to : NodeRef) (nodes : List NodeRef) (slots : List Slot) → to.owner ≡ q → length slots ≡ length nodes → ((j : ℕ) → j < length nodes → IsFilled to (get_or nodes j no_ref) (get_or slots j slot.Unattached)) → AreFilled q nodes slots
all_filled q to [] [] own same each = tt
all_filled q to [] (filled ∷ slots) own same each = absurd (omega (arith, same))
all_filled q to (node ∷ nodes) [] own same each = absurd (omega (arith, same))
all_filled q to (node ∷ nodes) (filled ∷ slots) own same each = (filled_at q to node filled own (each zero (omega arith)), all_filled q to nodes slots own (omega (arith, same)) (λ j within. each (suc j) (omega (arith, within))))

-- a commit writes the slots that its driver attached
commit_filled : (s : State) (me : ℕ) (shut : Bool) (command : Command) (phase : Phase) (peer place stamp : ℕ) → phase_action me shut command phase ≡ act.Commit peer place stamp → SendShape s command phase → waits_at phase place ≡ true → AreFilled peer (begun_of phase).with (slots_at phase place)
commit_filled s me shut command Starting peer place stamp is k waits = absurd k
commit_filled s me shut command (Committing sending fixed at) peer place stamp is k waits =
    let same : at ≡ place = cc is in
    let own : (node_of_place sending.begun.to at).owner ≡ peer = cc is in
    let accepted = (and_parts (nat_le at place) (is_accepted_place sending.places place) waits).1 in
    let within = accepted_within sending.places place accepted in
    let places = k.0.places in
    let lists = k.0.lists in
    all_filled peer (node_of_place sending.begun.to place) sending.begun.with (get_or sending.slots place []) (ap (λ n. (node_of_place sending.begun.to n).owner) (sym same) ∙ own)
    (All-get_or (λ l. length l ≡ length sending.begun.with) sending.slots place [] (omega (arith, within, places, lists)) k.0.slots)
    (λ j less. k.0.filled place j accepted less (inl (omega (arith, within, places))))
commit_filled s me shut command phase peer place stamp is k waits = absurd (cc is)

-- a stage carries made nodes
stage_made : (s : State) (me : ℕ) (shut : Bool) (command : Command) (phase : Phase) (peer place : ℕ) → phase_action me shut command phase ≡ act.Stage peer place → SendShape s command phase → All (IsMade s) (begun_of phase).with
stage_made s me shut command Starting peer place is k = absurd k
stage_made s me shut command (Staging begun places collected) peer place is k = k.0.with
stage_made s me shut command phase peer place is k = absurd (cc is)

-- ---- entries

same_carried : (slots : List Slot) (e : Entry) → carried (with_slots slots e) ≡ carried e
same_carried slots (Message origin user index serial offset len nodes old handles payload) = refl
same_carried slots (OwnNotice serial index) = refl
same_carried slots (ForeignNotice node index) = refl
same_carried slots (ReleaseNotice serial) = refl

new_slots : (slots : List Slot) (e : Entry) → is_data e ≡ true → slots_of (with_slots slots e) ≡ slots
new_slots slots (Message origin user index serial offset len nodes old handles payload) is = refl
new_slots slots (OwnNotice serial index) is = absurd (cc is)
new_slots slots (ForeignNotice node index) is = absurd (cc is)
new_slots slots (ReleaseNotice serial) is = absurd (cc is)

none_carried : (e : Entry) → is_data e ≡ false → carried e ≡ []
none_carried (Message origin user index serial offset len nodes old handles payload) is = absurd (cc is)
none_carried (OwnNotice serial index) is = refl
none_carried (ForeignNotice node index) is = refl
none_carried (ReleaseNotice serial) is = refl

message_nodes : (o : Opening) (q : ℕ) (doing : Doing) (k : Key) (e : Entry) → IsMessageOf o q doing k e → carried e ≡ (begun_of doing.phase).with
message_nodes o q doing k (Message origin user index serial offset len nodes slots handles payload) (a, b, c, node, nodes_are, text) = nodes_are
message_nodes o q doing k (OwnNotice serial index) h = absurd h
message_nodes o q doing k (ForeignNotice node index) h = absurd h
message_nodes o q doing k (ReleaseNotice serial) h = absurd h

-- ---- a step

module _ {o : Opening} {s : State} {p : ℕ} {command : Option Command} {t : State} (sound : IsSound o s) (step : Step o s p command t) where
  all_stay : (nodes : List NodeRef) → All (IsMade s) nodes → All (IsMade t) nodes
  all_stay nodes made = All-weaker (IsMade s) (IsMade t) (made_stays step) nodes made

  -- what stands in the queue where the event is
  abbrev IsRight : Key × Entry → Type 0
  IsRight f = (is_data f.1 ≡ true → is_staged f ≡ false → AreFilled step.at (carried f.1) (slots_of f.1)) × All (IsMade t) (carried f.1)

  notice_right : (f : Key × Entry) → is_data f.1 ≡ false → IsRight f
  notice_right f notice = (λ message. absurd (cc (sym notice ∙ message)), subst (All (IsMade t)) (sym (none_carried f.1 notice)) (All-nil (IsMade t)))

  stage_right : (peer place : ℕ) (f : Key × Entry) → step.action ≡ act.Stage peer place → is_staged f ≡ is_odd (step.peer.clock + 1) → carried f.1 ≡ (begun_of (event sound step).doing.phase).with → IsRight f
  stage_right peer place f is stamp nodes = (λ message committed. absurd (cc (sym committed ∙ stamp ∙ odd)), subst (All (IsMade t)) (sym nodes) made)
    where
      odd : is_odd (step.peer.clock + 1) ≡ true
      odd = let clock = (sound.clocks.clock step.at step.peer step.is_peer).0 in eq-eqb ((step.peer.clock + 1) % 2) 1 (omega (arith, clock))

      made : All (IsMade t) (begun_of (event sound step).doing.phase).with
      made = elim (next_event sound step) [
        | inr (one, other) ↦ absurd (cc (sym is ∙ other))
        | inl phase ↦ elim (event sound step).opened.from [
          | inl before ↦ all_stay (begun_of (event sound step).doing.phase).with (stage_made s (event sound step).e.me (event sound step).e.shut (event sound step).doing.command (event sound step).doing.phase peer place (sym phase ∙ is) (sound.sends.shape p step.driver (event sound step).doing step.is_driver before))
          | inr (rests, begins, starts) ↦ absurd (start_no_stage (event sound step).e.shut (event sound step).doing.command peer place (ap (phase_action (event sound step).e.me (event sound step).e.shut (event sound step).doing.command) (sym starts) ∙ sym phase ∙ is))
        ]
      ]

  commit_right : (peer place stamp : ℕ) (f g : Key × Entry) → step.action ≡ act.Commit peer place stamp → find_stage step.peer (event sound step).e.me place ≡ Some g → f.1 ≡ with_slots (slots_at (event sound step).doing.phase place) g.1 → IsRight f
  commit_right peer place stamp f g is found same = (λ message committed. filled, subst (All (IsMade t)) (sym nodes) (all_stay (carried g.1) (sound.slots.made step.at step.peer g step.is_peer there.0)))
    where
      there : Has step.peer.queue g × (is_stage (event sound step).e.me place g ≡ true)
      there = find_has (is_stage (event sound step).e.me place) step.peer.queue g found

      nodes : carried f.1 ≡ carried g.1
      nodes = ap carried same ∙ same_carried (slots_at (event sound step).doing.phase place) g.1

      filled : AreFilled step.at (carried f.1) (slots_of f.1)
      filled =
          let parts = stage_parts (event sound step).e.me place g there.1 in
          let h = sound.stages.sender step.at step.peer g step.is_peer there.0 parts.message parts.staged in
          let doing = same_doing sound step h.driver h.doing (subst (λ n. IsDriver s n h.driver) (parts.origin_is ∙ me_is sound step) h.is_driver) h.is_open in
          let waits = ap (waits_at (event sound step).doing.phase) (sym parts.index_is) ∙ ap (λ d. waits_at d.phase g.0.index) (sym doing) ∙ h.waits in
          let carries = nodes ∙ message_nodes o step.at h.doing g.0 g.1 h.message ∙ ap (λ d. (begun_of d.phase).with) doing in
          let slots = ap slots_of same ∙ new_slots (slots_at (event sound step).doing.phase place) g.1 parts.message in
          elim (next_event sound step) [
            | inr (one, other) ↦ absurd (cc (sym is ∙ other))
            | inl phase ↦ elim (event sound step).opened.from [
              | inl before ↦
                  subst (λ q. AreFilled q (carried f.1) (slots_of f.1)) (sym ((event sound step).is_at ∙ ap (peer_of (event sound step).e.me) is))
                  (subst (λ l. AreFilled peer l (slots_of f.1)) (sym carries)
                  (subst (AreFilled peer (begun_of (event sound step).doing.phase).with) (sym slots)
                  (commit_filled s (event sound step).e.me (event sound step).e.shut (event sound step).doing.command (event sound step).doing.phase peer place stamp (sym phase ∙ is) (sound.sends.shape p step.driver (event sound step).doing step.is_driver before) waits)))
              | inr (rests, begins, starts) ↦ absurd (cc (sym (ap (λ z. waits_at z place) starts) ∙ waits))
            ]
          ]

  comes_right : (f : Key × Entry) (action : Action) → step.action ≡ action → Comes o (event sound step).e (event sound step).doing step.peer action f → IsRight f
  comes_right f (act.Stage peer place) is same = stage_right peer place f is (ap is_staged same) (ap (λ z. carried z.1) same)
  comes_right f (act.Commit peer place stamp) is (g, found, same) = commit_right peer place stamp f g is found (ap (λ z. z.1) same)
  comes_right f (act.CommitNotices peer stamp) is (g, has, notice, same) = notice_right f (ap (λ z. is_data z.1) same ∙ notice_is (event sound step).e.me g notice)
  comes_right f (act.DropRefs peer serial holder n clock) is (same, due) = notice_right f (ap (λ z. is_data z.1) same)
  comes_right f act.BeginDestroy is (index, serial, doomed, same, none) = notice_right f (ap (λ z. is_data z.1) same)
  comes_right f (act.Visit peer) is (index, serial, doomed, same) = notice_right f (ap (λ z. is_data z.1) same)
  comes_right f action is comes = absurd comes

  right_here : (f : Key × Entry) → Has step.new_peer.queue f → IsRight f
  right_here f has =
      elim (queue_comes o (event sound step).e (event sound step).doing f step.local.memory step.action step.peer (subst (λ y. Has y.queue f) (event sound step).peer has)) [
        | inl (was, stays) ↦ (λ message committed. sound.slots.filled step.at step.peer f step.is_peer was message committed, all_stay (carried f.1) (sound.slots.made step.at step.peer f step.is_peer was))
        | inr comes ↦ comes_right f step.action refl comes
      ]

  right_of : (q : ℕ) (y : PeerPart) (f : Key × Entry) → ((q ≡ step.at) × (y ≡ step.new_peer)) ⊎ ((q ≢ step.at) × IsPeer s q y) → Has y.queue f → (is_data f.1 ≡ true → is_staged f ≡ false → AreFilled q (carried f.1) (slots_of f.1)) × All (IsMade t) (carried f.1)
  right_of q y f (inl here) has =
      subst (λ n. (is_data f.1 ≡ true → is_staged f ≡ false → AreFilled n (carried f.1) (slots_of f.1)) × All (IsMade t) (carried f.1)) (sym here.0) (right_here f (subst (λ z. Has z.queue f) here.1 has))
  right_of q y f (inr other) has = (λ message committed. sound.slots.filled q y f other.1 has message committed, all_stay (carried f.1) (sound.slots.made q y f other.1 has))

  pub slots_kept : SlotsRight t
  slots_kept = record {
    filled = λ q y f is has message committed. (right_of q y f (peer_cases step q y is) has).0 message committed;
    made = λ q y f is has. (right_of q y f (peer_cases step q y is) has).1;
  }
