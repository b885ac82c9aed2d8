-- A step keeps what holds of every peer by its own open destruction.
use Rattle.std.proofs.Common.{◌≡◌, ◌≢◌, ◌⊎◌, refl, sym, ap, subst, ◌∙◌, inl, inr, ℕ, ◌<◌, ◌≤◌, ◌==◌, Bool, true, false, cond, List, [], ◌∷◌, length, Option, Some, None}
use Rattle.std.specs.List.{All}
use Rattle.std.proofs.lemmas.Bool.{eq-eqb}
use Rattle.std.proofs.lemmas.Option.{slice_get_within}
use Rattle.std.proofs.lemmas.List.Elements.{All-get_or}
use native.Mathlib.Omega.{arith}
use Rattle.b1_model.specs.declared.commands.Command.{Command}
use Rattle.b1_model.specs.declared.commands.Command.TheVariants as cmd
use Rattle.b1_model.specs.declared.commands.SendCmd.{SendCmd}
use Rattle.b1_model.specs.declared.naming.NodeRef.{NodeRef}
use Rattle.b1_model.specs.declared.naming.Opening.{Opening}
use Rattle.b1_model.specs.declared.answers.Reason.{Reason}
use Rattle.b1_model.specs.declared.parts.Attach.{Attach}
use Rattle.b1_model.specs.declared.parts.Attach.TheVariants as attach
use Rattle.b1_model.specs.declared.parts.NodeState.{NodeState}
use Rattle.b1_model.specs.declared.parts.NodeState.TheVariants.{Live, Dying, Destroyed}
use Rattle.b1_model.specs.declared.events.Action.{Action}
use Rattle.b1_model.specs.declared.events.Action.TheVariants as act
use Rattle.b1_model.specs.declared.events.Phase.{Phase}
use Rattle.b1_model.specs.declared.events.Phase.TheVariants.{Starting, Attaching, Dooming}
use Rattle.b1_model.specs.declared.events.Doing.{Doing}
use Rattle.b1_model.specs.declared.events.OwedDrop.{OwedDrop}
use Rattle.b1_model.specs.MachineParts.{PeerPart, DriverPart, State, is_dying, node_at}
use Rattle.b1_model.specs.MachineTables.{with_peer, count_of}
use Rattle.b1_model.specs.MachineSend.{send_refusal, attach_by, attach_answer, attached_by}
use Rattle.b1_model.specs.MachineDriver.{first_action, next_action, peer_of, no_ref, node_of_place, send_of}
use Rattle.b1_model.specs.MachineTook.{took}
use Rattle.b1_model.specs.MachineEvents.{happens, begin_by, stage_by, destroy_by, begin_refusal, begin_serials}
use Rattle.b1_model.specs.MachineStep.{Step}
use Rattle.b1_step.specs.Rights.{Has, Changes}
use Rattle.b1_step.proofs.Changed.{changes}
use Rattle.b1_step.proofs.Numbers.{changes_fixed}
use Rattle.b1_inv.specs.Words.{IsPeer, IsDriver, IsMade}
use Rattle.b1_inv.specs.Notices.{Apart, AreOthers, IsDestroying}
use Rattle.b1_inv.specs.Sends.{SendShape}
use Rattle.b1_inv.specs.Sound.{IsSound}
use Rattle.b1_inv_tools.proofs.Leaves.{driver_cases, peer_cases}
use Rattle.b1_inv_notices.proofs.Turns.{doing_in, opened, answered, took_leaves, parts}
use Rattle.b1_inv_notices.proofs.Calm.{is_destroying}
use Rattle.b1_inv_notices.proofs.Sets.{others_with, some_of_has}
use Rattle.b1_inv_notices.proofs.Nodes.{NodesKept, dooms, nodes_kept}
use Rattle.b1_inv_notices.proofs.Own.{dying_in, Own, dooming_answer, own_calm, own_with, own_same, own_turn, may_end_own}
use Rattle.b1_inv_notices.proofs.Dooms.{stamp_own, begin_own}
use Rattle.b1_inv_notices.proofs.Serials.{reset_apart, reset_made, destroy_made, accepted_apart}
use Rattle.b1_inv_notices.proofs.OwnCount.{own_count_none}
use Rattle.b1_inv_tools.proofs.Facts.{accepted_within}

-- ---- the peer's part

-- the event counts a reference at a peer
abbrev attaches : Action → Bool
attaches (act.Attach peer serial dest) = true
attaches action = false

same_late : (action : Action) (x y : PeerPart) → attaches action ≡ false → dooms action ≡ false → Changes action x y → y.late ≡ x.late
same_late (act.Attach peer serial dest) x y no_attach no_doom e = absurd (cc no_attach)
same_late act.BeginDestroy x y no_attach no_doom e = absurd (cc no_doom)
same_late act.StampDestroy x y no_attach no_doom e = absurd (cc no_doom)
same_late act.Rest x y no_attach no_doom e = ap (λ z. z.late) e
same_late act.Begin x y no_attach no_doom e = ap (λ z. z.late) e
same_late (act.Stage peer place) x y no_attach no_doom e = ap (λ z. z.late) e
same_late (act.Unstage peer place) x y no_attach no_doom e = ap (λ z. z.late) e
same_late act.Stamp x y no_attach no_doom e = ap (λ z. z.late) e
same_late (act.Sync peer stamp) x y no_attach no_doom e = ap (λ z. z.late) e
same_late (act.Commit peer place stamp) x y no_attach no_doom e = ap (λ z. z.late) e
same_late (act.CommitNotices peer stamp) x y no_attach no_doom e = ap (λ z. z.late) e
same_late act.Recv x y no_attach no_doom e = ap (λ z. z.late) e
same_late act.Reap x y no_attach no_doom e = ap (λ z. z.late) e
same_late act.Release x y no_attach no_doom e = ap (λ z. z.late) e
same_late (act.DropRefs peer serial holder k clock) x y no_attach no_doom e = ap (λ z. z.late) e
same_late (act.Visit peer) x y no_attach no_doom e = ap (λ z. z.late) e
same_late act.Flush x y no_attach no_doom e = ap (λ z. z.late) e
same_late act.Local x y no_attach no_doom e = ap (λ z. z.late) e

not_own : (state : NodeState) (own : Bool) → attach_by state own ≡ attach.Counted → own ≡ false
not_own (Destroyed stamp) own is = absurd (cc is)
not_own Live true is = absurd (cc is)
not_own Live false is = refl
not_own Dying true is = absurd (cc is)
not_own Dying false is = refl

module _ (doing : Option Doing) (x : PeerPart) (own : Own doing x) where
  at_attach : (a : Attach) (serial dest : ℕ) → a ≡ attach_answer x serial dest → dest < x.peers → NodesKept x.nodes (attached_by a x serial dest).nodes → Own doing (attached_by a x serial dest)
  at_attach attach.Own serial dest is within nodes = own
  at_attach (attach.Void stamp) serial dest is within nodes = own
  at_attach attach.Counted serial dest is within nodes = by (is_dying (node_at x serial).state) refl
    where
      apart : dest ≢ x.me
      apart same = let both : true ≡ false = sym (eq-eqb dest x.me same) ∙ not_own (node_at x serial).state (dest == x.me) (sym is) in absurd (cc both)

      late_by : (b : Bool) → is_dying (node_at x serial).state ≡ b → AreOthers x.peers x.me (cond b (with_peer dest x.late) x.late) × ((cond b (with_peer dest x.late) x.late ≡ []) ⊎ (1 ≤ length (dying_in doing)))
      late_by true dies = (others_with x.peers x.me dest x.late within apart own.others, inr (some_of_has (dying_in doing) serial (own.dying serial dies)))
      late_by false lives = (own.others, own.late)

      by : (b : Bool) → is_dying (node_at x serial).state ≡ b → Own doing (attached_by attach.Counted x serial dest)
      by b is = let k = late_by (is_dying (node_at x serial).state) refl in own_with doing x (attached_by attach.Counted x serial dest) refl refl nodes own k.0 k.1

  -- an event that dooms no node, of whatever driver
  pub own_part : (o : Opening) (memory : Bool) (d : DriverPart) (one : Doing) (action : Action) → dooms action ≡ false → ((peer serial dest : ℕ) → action ≡ act.Attach peer serial dest → dest < x.peers) → Own doing (happens o memory d one action x).1
  own_part o memory d one (act.Attach peer serial dest) no_doom within = at_attach (attach_answer x serial dest) serial dest refl (within peer serial dest refl) (nodes_kept o memory d one (act.Attach peer serial dest) x refl)
  own_part o memory d one action no_doom within =
      let same = changes_fixed action x (happens o memory d one action x).1 (changes o memory d one action x) in
      own_same doing x (happens o memory d one action x).1 same.me same.peers (nodes_kept o memory d one action x no_doom) own (same_late action x (happens o memory d one action x).1 refl no_doom (changes o memory d one action x))

-- ---- the driver's part

begin_answer : (r : Option Reason) (memory : Bool) (c : SendCmd) (x : PeerPart) → dooming_answer (begin_by r memory c x).0 ≡ false
begin_answer (Some r) memory c x = refl
begin_answer None true c x = refl
begin_answer None false c x = refl

stage_answer : (r : Option Reason) (memory : Bool) (origin user place serial : ℕ) (payload : List ℕ) (nodes : List NodeRef) (x : PeerPart) → dooming_answer (stage_by r memory origin user place serial payload nodes x).0 ≡ false
stage_answer (Some r) memory origin user place serial payload nodes x = refl
stage_answer None true origin user place serial payload nodes x = refl
stage_answer None false origin user place serial payload nodes x = refl

calm_answer : (o : Opening) (memory : Bool) (d : DriverPart) (one : Doing) (action : Action) (x : PeerPart) → dooms action ≡ false → dooming_answer (happens o memory d one action x).0 ≡ false
calm_answer o memory d one act.BeginDestroy x is = absurd (cc is)
calm_answer o memory d one act.StampDestroy x is = absurd (cc is)
calm_answer o memory d one act.Begin x is = begin_answer (send_refusal x (send_of one.command)) memory (send_of one.command) x
calm_answer o memory d one (act.Stage peer place) x is = stage_answer _ memory _ _ _ _ _ _ x
calm_answer o memory d one action x is = refl

module _ (o : Opening) (memory : Bool) (d : DriverPart) (x : PeerPart) where
  -- the open command goes on, and the peer's part is another one
  pub own_goes : (command : Command) (phase : Phase) (owed : List OwedDrop) (z : PeerPart) → dooms (next_action (opened d command phase owed)) ≡ false → Own (Some (doing_in command phase)) z → Own (took (opened d command phase owed) (answered o memory d command phase owed x).0).doing z
  own_goes command phase owed z is own =
      took_leaves (λ doing. Own doing z) command (λ ph may h. may_end_own command z ph may h) d phase owed (answered o memory d command phase owed x).0
      (own_turn command z d.me phase (answered o memory d command phase owed x).0 (calm_answer o memory (opened d command phase owed) (doing_in command phase) (next_action (opened d command phase owed)) x is) own)

  module _ (none : (serial : ℕ) → count_of (node_at x serial) x.me ≡ 0) where
    -- both parts, where a destruction begins
    begins : (command : Command) → IsDestroying command → (begin_refusal command x ≡ None → Apart (begin_serials command x)) → ((serial : ℕ) → Has (begin_serials command x) serial → serial < length x.nodes) → Own (Some (doing_in command Starting)) x
        → Own (took (opened d command Starting []) (destroy_by (begin_refusal command x) (begin_serials command x) x).0).doing (destroy_by (begin_refusal command x) (begin_serials command x) x).1
    begins command destroying apart made own =
        took_leaves (λ doing. Own doing (destroy_by (begin_refusal command x) (begin_serials command x) x).1) command (λ ph may h. may_end_own command _ ph may h) d Starting [] (destroy_by (begin_refusal command x) (begin_serials command x) x).0
        (begin_own command x destroying none own (begin_refusal command x) (begin_serials command x) apart made d.me)

    starts : (b : Bool) (command : Command) → dooms (cond b act.Local (first_action command)) ≡ true → Own (Some (doing_in command Starting)) x
        → Own (took (opened d command Starting []) (happens o memory (opened d command Starting []) (doing_in command Starting) (cond b act.Local (first_action command)) x).0).doing (happens o memory (opened d command Starting []) (doing_in command Starting) (cond b act.Local (first_action command)) x).1
    starts true command is own = absurd (cc is)
    starts false (cmd.Destroy numbers) is own = begins (cmd.Destroy numbers) tt (accepted_apart x numbers) (destroy_made x numbers) own
    starts false (cmd.Reset limits) is own = begins (cmd.Reset limits) tt (λ accepted. reset_apart x) (reset_made x) own
    starts false cmd.Disconnect is own = begins cmd.Disconnect tt (λ accepted. reset_apart x) (reset_made x) own
    starts false command is own = absurd (cc is)

    -- both parts, where a destruction begins or gets its stamp
    pub own_doomed : (command : Command) (phase : Phase) (owed : List OwedDrop) → dooms (next_action (opened d command phase owed)) ≡ true → Own (Some (doing_in command phase)) x → Own (took (opened d command phase owed) (answered o memory d command phase owed x).0).doing (answered o memory d command phase owed x).1
    own_doomed command phase (one ∷ rest) is own = absurd (cc is)
    own_doomed command Starting [] is own = starts d.shut command is own
    own_doomed command (Dooming destruction) [] is own =
        took_leaves (λ doing. Own doing (answered o memory d command (Dooming destruction) [] x).1) command (λ ph may h. may_end_own command _ ph may h) d (Dooming destruction) [] (answered o memory d command (Dooming destruction) [] x).0
        (stamp_own command x destruction own d.me)
    own_doomed command phase [] is own = absurd (cc is)

-- ---- whom an attach counts for

module _ (s : State) (d : DriverPart) (command : Command) where
  made_owner : (nodes : List NodeRef) (place : ℕ) → place < length nodes → All (IsMade s) nodes → (node_of_place nodes place).owner < length s.peers
  made_owner nodes place within made = let k = All-get_or (IsMade s) nodes place no_ref within made in slice_get_within s.peers (node_of_place nodes place).owner k.0 k.1

  pub attach_within : (phase : Phase) (owed : List OwedDrop) → SendShape s command phase → (peer serial dest : ℕ) → next_action (opened d command phase owed) ≡ act.Attach peer serial dest → dest < length s.peers
  attach_within phase (one ∷ rest) shape peer serial dest is = absurd (cc is)
  attach_within Starting [] shape peer serial dest is = absurd shape
  attach_within (Attaching sending place slot) [] shape peer serial dest is =
      let same : (node_of_place sending.begun.to place).owner ≡ dest = cc is in
      subst (λ n. n < length s.peers) same (made_owner sending.begun.to place (omega (arith, accepted_within sending.places place shape.1, shape.0.places)) shape.0.begun.to)
  attach_within phase [] shape peer serial dest is = absurd (cc is)

-- ---- a step

module _ {o : Opening} {s : State} {p : ℕ} {c : Option Command} {t : State} (sound : IsSound o s) (step : Step o s p c t) (all : (r : ℕ) (d : DriverPart) (x : PeerPart) → IsDriver s r d → IsPeer s r x → Own d.doing x) where
  -- the command that begins is calm
  from : (z : PeerPart) → Own step.driver.doing z → Own (Some (doing_in (parts step).command (parts step).phase)) z
  from z own =
      elim (parts step).was [
        | inl is ↦ subst (λ doing. Own doing z) is own
        | inr new ↦ own_calm None (Some (doing_in (parts step).command (parts step).phase)) z refl (ap (λ phase. is_destroying phase) new.1) (subst (λ doing. Own doing z) new.0 own)
      ]

  attached_within : (peer serial dest : ℕ) → next_action (opened step.driver (parts step).command (parts step).phase step.driver.owed) ≡ act.Attach peer serial dest → dest < step.peer.peers
  attached_within peer serial dest is =
      let few : dest < length s.peers = elim (parts step).was [
        | inl open_is ↦ attach_within s step.driver (parts step).command (parts step).phase step.driver.owed (sound.sends.shape p step.driver (doing_in (parts step).command (parts step).phase) step.is_driver open_is) peer serial dest is
        | inr new ↦ starting_never (parts step).phase step.driver.owed new.1 is
      ] in
      omega (arith, few, sound.numbered.as_many_peers, (sound.numbered.peers step.at step.peer step.is_peer).peers)
    where
      never : (b : Bool) (command : Command) → cond b act.Local (first_action command) ≡ act.Attach peer serial dest → ⊥
      never true command is = absurd (cc is)
      never false (cmd.Disconnect) is = absurd (cc is)
      never false command is = absurd (cc is)

      starting_never : (phase : Phase) (owed : List OwedDrop) → phase ≡ Starting → next_action (opened step.driver (parts step).command phase owed) ≡ act.Attach peer serial dest → dest < length s.peers
      starting_never phase (one ∷ rest) is next = absurd (cc next)
      starting_never phase [] is next = absurd (never step.driver.shut (parts step).command (ap (λ ph. next_action (opened step.driver (parts step).command ph [])) (sym is) ∙ next))

  at_own : dooms (next_action (opened step.driver (parts step).command (parts step).phase step.driver.owed)) ≡ true → step.at ≡ p
  at_own is = sym (parts step).is_at ∙ doomed_at (next_action (opened step.driver (parts step).command (parts step).phase step.driver.owed)) is ∙ sound.numbered.drivers p step.driver step.is_driver
    where
      doomed_at : (action : Action) → dooms action ≡ true → peer_of step.driver.me action ≡ step.driver.me
      doomed_at act.BeginDestroy is = refl
      doomed_at act.StampDestroy is = refl
      doomed_at action is = absurd (cc is)

  -- the peer's part after an event that dooms nothing, by any driver's open command
  part_after : (doing : Option Doing) → dooms (next_action (opened step.driver (parts step).command (parts step).phase step.driver.owed)) ≡ false → Own doing step.peer → Own doing step.new_peer
  part_after doing is own =
      subst (Own doing) (parts step).is_peer
      (own_part doing step.peer own o step.local.memory (opened step.driver (parts step).command (parts step).phase step.driver.owed) (doing_in (parts step).command (parts step).phase) (next_action (opened step.driver (parts step).command (parts step).phase step.driver.owed)) is attached_within)

  -- the driver's part after it, by any part of its peer
  driver_after : (z : PeerPart) → dooms (next_action (opened step.driver (parts step).command (parts step).phase step.driver.owed)) ≡ false → Own (Some (doing_in (parts step).command (parts step).phase)) z → Own step.new_driver.doing z
  driver_after z is own =
      subst (λ f. Own f.doing z) (parts step).is_driver
      (own_goes o step.local.memory step.driver step.peer (parts step).command (parts step).phase step.driver.owed z is own)

  both_after : dooms (next_action (opened step.driver (parts step).command (parts step).phase step.driver.owed)) ≡ true → Own (Some (doing_in (parts step).command (parts step).phase)) step.peer → Own step.new_driver.doing step.new_peer
  both_after is own =
      subst (Own step.new_driver.doing) (parts step).is_peer
      (subst (λ f. Own f.doing (answered o step.local.memory step.driver (parts step).command (parts step).phase step.driver.owed step.peer).1) (parts step).is_driver
      (own_doomed o step.local.memory step.driver step.peer (own_count_none sound step.at step.peer step.is_peer) (parts step).command (parts step).phase step.driver.owed is own))

  own_cases : (b : Bool) (r : ℕ) (f : DriverPart) (y : PeerPart) → dooms (next_action (opened step.driver (parts step).command (parts step).phase step.driver.owed)) ≡ b
      → ((r ≡ p) × (f ≡ step.new_driver)) ⊎ ((r ≢ p) × IsDriver s r f) → ((r ≡ step.at) × (y ≡ step.new_peer)) ⊎ ((r ≢ step.at) × IsPeer s r y) → Own f.doing y
  own_cases b r f y is (inr other) (inr elsewhere) = all r f y other.1 elsewhere.1
  own_cases false r f y is (inr other) (inl here) = subst (Own f.doing) (sym here.1) (part_after f.doing is (all r f step.peer other.1 (subst (λ q. IsPeer s q step.peer) (sym here.0) step.is_peer)))
  own_cases false r f y is (inl own) (inr elsewhere) = subst (λ g. Own g.doing y) (sym own.1) (driver_after y is (from y (all p step.driver y step.is_driver (subst (λ q. IsPeer s q y) own.0 elsewhere.1))))
  own_cases false r f y is (inl own) (inl here) =
      subst (λ g. Own g.doing y) (sym own.1) (subst (Own step.new_driver.doing) (sym here.1)
      (driver_after step.new_peer is (part_after (Some (doing_in (parts step).command (parts step).phase)) is (from step.peer (all p step.driver step.peer step.is_driver (subst (λ q. IsPeer s q step.peer) (sym here.0 ∙ own.0) step.is_peer))))))
  own_cases true r f y is (inr other) (inl here) = absurd (other.0 (here.0 ∙ at_own is))
  own_cases true r f y is (inl own) (inr elsewhere) = absurd (elsewhere.0 (own.0 ∙ sym (at_own is)))
  own_cases true r f y is (inl own) (inl here) =
      subst (λ g. Own g.doing y) (sym own.1) (subst (Own step.new_driver.doing) (sym here.1)
      (both_after is (from step.peer (all p step.driver step.peer step.is_driver (subst (λ q. IsPeer s q step.peer) (at_own is) step.is_peer)))))

  pub own_after : (r : ℕ) (f : DriverPart) (y : PeerPart) → IsDriver t r f → IsPeer t r y → Own f.doing y
  own_after r f y is_driver is_peer = own_cases (dooms (next_action (opened step.driver (parts step).command (parts step).phase step.driver.owed))) r f y refl (driver_cases step r f is_driver) (peer_cases step r y is_peer)

  pub begun_from : (z : PeerPart) → Own step.driver.doing z → Own (Some (doing_in (parts step).command (parts step).phase)) z
  begun_from z own = from z own
