-- Which events give a stamp, and that the entries that an event brings committed have the stamp of its driver.
use Rattle.std.proofs.Common.{◌≡◌, ◌≢◌, refl, sym, ap, subst, ◌∙◌, ℕ, ◌+◌, ◌%◌, ◌<◌, Bool, true, false, cond, List, [], ◌∷◌, drop, Option, Some, None, Ok, Err}
use native.Mathlib.Omega.{arith}
use Rattle.b1_model.specs.declared.naming.Key.{Key}
use Rattle.b1_model.specs.declared.naming.NodeRef.{NodeRef}
use Rattle.b1_model.specs.declared.naming.Opening.{Opening}
use Rattle.b1_model.specs.declared.commands.Command.{Command}
use Rattle.b1_model.specs.declared.commands.Command.TheVariants as cmd
use Rattle.b1_model.specs.declared.commands.SendCmd.{SendCmd}
use Rattle.b1_model.specs.declared.answers.Reason.{Reason}
use Rattle.b1_model.specs.declared.parts.Slot.{Slot}
use Rattle.b1_model.specs.declared.entries.Entry.{Entry}
use Rattle.b1_model.specs.declared.entries.Entry.TheVariants.{Message, OwnNotice, ForeignNotice, ReleaseNotice}
use Rattle.b1_model.specs.declared.events.Action.{Action}
use Rattle.b1_model.specs.declared.events.Action.TheVariants as act
use Rattle.b1_model.specs.declared.events.Outcome.TheVariants as out
use Rattle.b1_model.specs.declared.events.Phase.{Phase}
use Rattle.b1_model.specs.declared.events.Phase.TheVariants.{Starting, Staging, Committing, Visiting, CommittingOwn, CommittingNotices}
use Rattle.b1_model.specs.declared.events.Doing.{Doing}
use Rattle.b1_model.specs.declared.events.OwedDrop.{OwedDrop}
use Rattle.b1_model.specs.declared.events.Sending.{Sending}
use Rattle.b1_model.specs.MachineParts.{PeerPart, DriverPart, is_staged, is_data, no_origin}
use Rattle.b1_model.specs.MachineTables.{is_stage, is_staged_notice}
use Rattle.b1_model.specs.MachineSend.{send_refusal, find_stage, final_stamp, with_slots, with_stamp}
use Rattle.b1_model.specs.MachineDestroy.{doom_by}
use Rattle.b1_model.specs.MachineDriver.{first_action, next_action, peer_of, send_of, turn}
use Rattle.b1_model.specs.MachineTook.{took}
use Rattle.b1_model.specs.MachineEvents.{happens, begin_by, stage_by, destroy_by, begin_refusal, begin_serials, collected_of, doomed_of}
use Rattle.b1_step.specs.Rights.{Has}
use Rattle.b1_step.proofs.Orders.{find_has}
use Rattle.b1_inv.specs.Words.{stamp_of_phase}
use Rattle.b1_inv.specs.Notices.{DestructionShape}
use Rattle.b1_inv_tools.proofs.Comes.{Comes}
use Rattle.b1_inv_notices.proofs.Turns.{doing_in, opened, answered, OnTurn, took_leaves}
use Rattle.b1_inv_notices.proofs.Sets.{place_once}
use Rattle.b1_inv_notices.proofs.Brings.{odd_is, stage_is, notice_is}
use Rattle.b1_inv_notices.proofs.StampTurns.{Gave, NotAhead}
use Rattle.b1_inv_notices.proofs.AheadTurns.{done_commit, done_notices, ends_ahead}

-- ---- the events that give a stamp

module _ (x : PeerPart) (stamp : ℕ) where
  begin_gives : (r : Option Reason) (memory : Bool) (c : SendCmd) → Gave (begin_by r memory c x).0 stamp → ⊥
  begin_gives (Some r) memory c g = g
  begin_gives None true c g = g
  begin_gives None false c g = g

  stage_gives : (r : Option Reason) (memory : Bool) (origin user place serial : ℕ) (payload : List ℕ) (nodes : List NodeRef) → Gave (stage_by r memory origin user place serial payload nodes x).0 stamp → ⊥
  stage_gives (Some r) memory origin user place serial payload nodes g = g
  stage_gives None true origin user place serial payload nodes g = g
  stage_gives None false origin user place serial payload nodes g = g

  destroy_gives : (r : Option Reason) (doomed : List ℕ) → Gave (destroy_by r doomed x).0 stamp → ⊥
  destroy_gives (Some r) doomed g = g
  destroy_gives None doomed g = g

  doom_gives : (late : List ℕ) (collected : ℕ) (doomed : List ℕ) → Gave (out.StampDestroy (elim late [ [] ↦ Ok (final_stamp x collected) | peer ∷ rest ↦ Err (peer ∷ rest) ])) stamp → ((doom_by late x collected doomed).clock ≡ stamp) × (x.clock < stamp)
  doom_gives [] collected doomed g = (g, omega (arith, g))
  doom_gives (peer ∷ rest) collected doomed g = absurd g

-- a stamp is given at the own peer, whose clock becomes it and was below it
pub gave_clock : (o : Opening) (memory : Bool) (d : DriverPart) (one : Doing) (action : Action) (x : PeerPart) (stamp : ℕ) → Gave (happens o memory d one action x).0 stamp → (peer_of d.me action ≡ d.me) × ((happens o memory d one action x).1.clock ≡ stamp) × (x.clock < stamp)
gave_clock o memory d one act.Stamp x stamp g = (refl, g, omega (arith, g))
gave_clock o memory d one act.StampDestroy x stamp g = let k = doom_gives x stamp x.late (collected_of one.phase) (doomed_of one.phase) g in (refl, k.0, k.1)
gave_clock o memory d one act.Begin x stamp g = absurd (begin_gives x stamp (send_refusal x (send_of one.command)) memory (send_of one.command) g)
gave_clock o memory d one (act.Stage peer place) x stamp g = absurd (stage_gives x stamp _ memory _ _ _ _ _ _ g)
gave_clock o memory d one act.BeginDestroy x stamp g = absurd (destroy_gives x stamp (begin_refusal one.command x) (begin_serials one.command x) g)
gave_clock o memory d one action x stamp g = absurd g

-- the events that can give one
abbrev pub gives : Action → Bool
gives act.Stamp = true
gives act.StampDestroy = true
gives action = false

doom_is : (x : PeerPart) (stamp : ℕ) (late : List ℕ) (collected : ℕ) → Gave (out.StampDestroy (elim late [ [] ↦ Ok (final_stamp x collected) | peer ∷ rest ↦ Err (peer ∷ rest) ])) stamp → final_stamp x collected ≡ stamp
doom_is x stamp [] collected g = g
doom_is x stamp (peer ∷ rest) collected g = absurd g

-- a stamp that was given is above the own clock and what was collected
pub gave_is : (o : Opening) (memory : Bool) (d : DriverPart) (one : Doing) (action : Action) (x : PeerPart) (stamp : ℕ) → Gave (happens o memory d one action x).0 stamp → (gives action ≡ true) × (final_stamp x (collected_of one.phase) ≡ stamp)
gave_is o memory d one act.Stamp x stamp g = (refl, g)
gave_is o memory d one act.StampDestroy x stamp g = (refl, doom_is x stamp x.late (collected_of one.phase) g)
gave_is o memory d one act.Begin x stamp g = absurd (begin_gives x stamp (send_refusal x (send_of one.command)) memory (send_of one.command) g)
gave_is o memory d one (act.Stage peer place) x stamp g = absurd (stage_gives x stamp _ memory _ _ _ _ _ _ g)
gave_is o memory d one act.BeginDestroy x stamp g = absurd (destroy_gives x stamp (begin_refusal one.command x) (begin_serials one.command x) g)
gave_is o memory d one action x stamp g = absurd g

-- ---- the entries that come committed

slots_data : (slots : List Slot) (e : Entry) → is_data (with_slots slots e) ≡ is_data e
slots_data slots (Message origin user index serial offset len nodes old handles payload) = refl
slots_data slots (OwnNotice serial index) = refl
slots_data slots (ForeignNotice node index) = refl
slots_data slots (ReleaseNotice serial) = refl

module _ (o : Opening) (memory : Bool) (d : DriverPart) (x : PeerPart) (q : ℕ) (f : Key × Entry) (even : x.clock % 2 ≡ 0) (committed : is_staged f ≡ false) (of_driver : f.0.origin ≢ no_origin) where
  abbrev After : Command → Phase → List OwedDrop → Option Doing
  After command phase owed = (took (opened d command phase owed) (answered o memory d command phase owed x).0).doing

  -- the entry is the driver's, has the stamp of its command, and was committed with it
  abbrev pub Brought : Command → Phase → List OwedDrop → Type 0
  Brought command phase owed = (f.0.origin ≡ d.me) × (stamp_of_phase phase ≡ Some f.0.stamp) × NotAhead d.me (After command phase owed) q f

  no_odd : (origin index : ℕ) (e : Entry) → f ≡ (record { stamp = x.clock + 1; origin = origin; index = index }, e) → ⊥
  no_odd origin index e same = let both : true ≡ false = sym (odd_is x.clock even) ∙ ap (λ g. is_staged g) (sym same) ∙ committed in absurd (cc both)

  own_odd : (command : Command) → Comes o (opened d command Starting []) (doing_in command Starting) x act.BeginDestroy f → ⊥
  own_odd command (index, serial, is, same, accepted) = no_odd x.me index (OwnNotice serial index) same

  starts : (b : Bool) (command : Command) → Comes o (opened d command Starting []) (doing_in command Starting) x (cond b act.Local (first_action command)) f → ⊥
  starts true command h = h
  starts false (cmd.Destroy numbers) h = own_odd (cmd.Destroy numbers) h
  starts false (cmd.Reset limits) h = own_odd (cmd.Reset limits) h
  starts false cmd.Disconnect h = own_odd cmd.Disconnect h
  starts false command h = h

  leaves_ahead : (command : Command) (phase : Phase) (owed : List OwedDrop) → OnTurn command (λ doing. NotAhead d.me doing q f) (turn d.me command phase (answered o memory d command phase owed x).0) → NotAhead d.me (After command phase owed) q f
  leaves_ahead command phase owed h = took_leaves (λ doing. NotAhead d.me doing q f) command (λ ph may k. ends_ahead command d.me q f ph may k) d phase owed (answered o memory d command phase owed x).0 h

  at_commit : (command : Command) (sending : Sending) (stamp place : ℕ) (slots : List Slot) → (g : Key × Entry) × (find_stage x d.me place ≡ Some g) × (f ≡ (record { stamp = stamp; origin = d.me; index = place }, with_slots slots g.1)) → Brought command (Committing sending stamp place) []
  at_commit command sending stamp place slots (g, found, same) =
      let is = stage_is d.me place g (find_has (is_stage d.me place) x.queue g found).1 in (
        ap (λ z. z.0.origin) same,
        ap (λ z. Some z.0.stamp) (sym same),
        leaves_ahead command (Committing sending stamp place) [] (done_commit command d.me q f sending stamp place (ap (λ z. is_data z.1) same ∙ slots_data slots g.1 ∙ is.0) (ap (λ z. z.0.index) same)),
      )

  at_notices : (command : Command) (phase : Phase) (stamp : ℕ) → stamp_of_phase phase ≡ Some stamp → (is_data f.1 ≡ false → OnTurn command (λ doing. NotAhead d.me doing q f) (turn d.me command phase (answered o memory d command phase [] x).0))
      → (g : Key × Entry) × Has x.queue g × (is_staged_notice d.me g ≡ true) × (f ≡ with_stamp stamp g) → Brought command phase []
  at_notices command phase stamp fixed after (g, there, notice, same) =
      let is = notice_is d.me g notice in
      (ap (λ z. z.0.origin) same ∙ is.2, fixed ∙ ap (λ z. Some z.0.stamp) (sym same), leaves_ahead command phase [] (after (ap (λ z. is_data z.1) same ∙ is.0)))

  pub brought : (command : Command) (phase : Phase) (owed : List OwedDrop) (z : PeerPart) → z.me ≡ d.me → DestructionShape z.peers z command phase → q ≡ peer_of d.me (next_action (opened d command phase owed))
      → Comes o (opened d command phase owed) (doing_in command phase) x (next_action (opened d command phase owed)) f → Brought command phase owed
  brought command phase (one ∷ rest) z me shape at new = absurd (of_driver (ap (λ g. g.0.origin) new.0))
  brought command Starting [] z me shape at new = absurd (starts d.shut command new)
  brought command (Staging begun places collected) [] z me shape at new = absurd (no_odd _ _ _ new)
  brought command (Visiting destruction left) [] z me shape at (index, serial, is, same) = absurd (no_odd d.me index _ same)
  brought command (Committing sending stamp place) [] z me shape at new = at_commit command sending stamp place _ new
  brought command (CommittingOwn destruction stamp) [] z me shape at new =
      at_notices command (CommittingOwn destruction stamp) stamp refl
      (λ no_data. done_notices command d.me q f destruction stamp 0 no_data (λ h. (shape.1.staged.others q h).1 (at ∙ sym me))) new
  brought command (CommittingNotices destruction stamp place) [] z me shape at new =
      at_notices command (CommittingNotices destruction stamp place) stamp refl
      (λ no_data. done_notices command d.me q f destruction stamp (place + 1) no_data (λ h. place_once destruction.staged place d.me shape.1.staged.rising (subst (Has (drop (place + 1) destruction.staged)) at h) shape.2)) new
  brought command phase [] z me shape at new = absurd new
