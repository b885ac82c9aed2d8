-- Where an entry of a queue comes from: it stood there, or the event that brings it, by the phase of its driver's command.
use Rattle.std.proofs.Common.{◌≡◌, ◌⊎◌, refl, sym, subst, inl, inr, ℕ, ◌+◌, max, Bool, true, false, cond, not, List, [], ◌∷◌, drop, length, get_or, Option, Some, None, Ok}
use Rattle.std.specs.Prelude.{slice_get}
use Rattle.std.specs.Bool.{then_some}
use Rattle.b1_model.specs.declared.commands.Command.{Command}
use Rattle.b1_model.specs.declared.commands.Command.TheVariants as cmd
use Rattle.b1_model.specs.declared.naming.Key.{Key}
use Rattle.b1_model.specs.declared.naming.Opening.{Opening}
use Rattle.b1_model.specs.declared.answers.Reason.{Reason}
use Rattle.b1_model.specs.declared.answers.Reason.TheVariants as reason
use Rattle.b1_model.specs.declared.parts.Begun.{Begun}
use Rattle.b1_model.specs.declared.entries.Entry.{Entry}
use Rattle.b1_model.specs.declared.entries.Entry.TheVariants.{OwnNotice, ForeignNotice, ReleaseNotice}
use Rattle.b1_model.specs.declared.events.Action.TheVariants as act
use Rattle.b1_model.specs.declared.events.OwedDrop.{OwedDrop}
use Rattle.b1_model.specs.declared.events.Outcome.{Outcome}
use Rattle.b1_model.specs.declared.events.Outcome.TheVariants as out
use Rattle.b1_model.specs.declared.events.Phase.{Phase}
use Rattle.b1_model.specs.declared.events.Phase.TheVariants.{Starting, Staging, Committing, CommittingOwn, CommittingNotices, Visiting}
use Rattle.b1_model.specs.declared.events.Sending.{Sending}
use Rattle.b1_model.specs.MachineParts.{PeerPart, DriverPart, State, is_live, node_at, no_origin}
use Rattle.b1_model.specs.MachineTables.{is_staged_notice}
use Rattle.b1_model.specs.MachineSend.{find_stage, with_slots, with_stamp, first_reason, stage_reasons, stage_refusal}
use Rattle.b1_model.specs.MachineDriver.{first_action, next_action, node_of_place, send_of}
use Rattle.b1_model.specs.MachineEvents.{stage_by, user_of, begin_serials, doomed_of}
use Rattle.b1_model.specs.MachineStep.{Step}
use Rattle.b1_step.specs.Rights.{Has}
use Rattle.b1_step.proofs.Queues.{put_has}
use Rattle.b1_inv.specs.Words.{stamp_of_phase}
use Rattle.b1_inv_tools.proofs.Comes.{staged_message, Comes, leaves, queue_comes}
use Rattle.b1_inv_notices.proofs.Turns.{doing_in, opened, answered, parts, going, going_action, going_answer}
use Rattle.b1_inv_destroys.proofs.Taken.{is_starting}

-- a stage is next
abbrev is_staging : Phase → List OwedDrop → Bool
is_staging (Staging begun places collected) [] = true
is_staging (Staging begun places collected) (one ∷ rest) = false
is_staging phase owed = false

-- an entry that an event of driver d brings to a peer: what a stage, a commit, a drop, a begin of a destruction or a visit puts there
pub data Brings (o : Opening) (d : DriverPart) (command : Command) (phase : Phase) (owed : List OwedDrop) (x : PeerPart) (outcome : Outcome) (f : Key × Entry) : Type 0 where
  Stages : (begun : Begun) (places : List (Option Reason)) (collected : ℕ) → phase ≡ Staging begun places collected → owed ≡ [] → is_live (node_at x (node_of_place begun.to (length places)).serial).state ≡ true → outcome ≡ out.Stage (Ok x.clock)
      → f ≡ staged_message d.me (user_of o d.me) (length places) (node_of_place begun.to (length places)).serial (send_of command).payload begun.with x → Brings o d command phase owed x outcome f
  Commits : (sending : Sending) (stamp place : ℕ) (g : Key × Entry) → phase ≡ Committing sending stamp place → owed ≡ [] → find_stage x d.me place ≡ Some g
      → f ≡ (record { stamp = stamp; origin = d.me; index = place }, with_slots (get_or sending.slots place []) g.1) → Brings o d command phase owed x outcome f
  Notices : (stamp : ℕ) (g : Key × Entry) → stamp_of_phase phase ≡ Some stamp → Has x.queue g → is_staged_notice d.me g ≡ true → f ≡ with_stamp stamp g → Brings o d command phase owed x outcome f
  Drops : (one : OwedDrop) → Has owed one → f ≡ (record { stamp = max x.clock one.clock; origin = no_origin; index = one.node.serial }, ReleaseNotice one.node.serial) → Brings o d command phase owed x outcome f
  Dooms : (index serial : ℕ) → is_starting phase ≡ true → slice_get (begin_serials command x) index ≡ Some serial → f ≡ (record { stamp = x.clock + 1; origin = x.me; index = index }, OwnNotice serial index) → Brings o d command phase owed x outcome f
  Visits : (index serial : ℕ) → slice_get (doomed_of phase) index ≡ Some serial → f ≡ (record { stamp = x.clock + 1; origin = d.me; index = index }, ForeignNotice (record { owner = d.me; serial = serial }) index) → Brings o d command phase owed x outcome f

live_of : (b : Bool) (rest : List (Option Reason)) (r : Reason) → first_reason (then_some (not b) r ∷ rest) ≡ None → b ≡ true
live_of true rest r is = refl
live_of false rest r is = absurd (cc is)

-- an accepted destination is live
pub stage_live : (x : PeerPart) (user serial payload handles : ℕ) → stage_refusal x user serial payload handles ≡ None → is_live (node_at x serial).state ≡ true
stage_live x user serial payload handles none = live_of (is_live (node_at x serial).state) (drop 1 (stage_reasons x user serial payload handles)) (reason.Gone x.me serial) none

module _ (o : Opening) (memory : Bool) (d : DriverPart) (command : Command) (x : PeerPart) (f : Key × Entry) where
  abbrev Source : Phase → List OwedDrop → Type 0
  Source phase owed = (Has x.queue f × (leaves (opened d command phase owed) (next_action (opened d command phase owed)) f ≡ false)) ⊎ Brings o d command phase owed x (answered o memory d command phase owed x).0 f

  at_stage : (r : Option Reason) (wants : Bool) (begun : Begun) (places : List (Option Reason)) (collected : ℕ)
      → (r ≡ None → is_live (node_at x (node_of_place begun.to (length places)).serial).state ≡ true)
      → Has (stage_by r wants d.me (user_of o d.me) (length places) (node_of_place begun.to (length places)).serial (send_of command).payload begun.with x).1.queue f
      → Has x.queue f ⊎ Brings o d command (Staging begun places collected) [] x (stage_by r wants d.me (user_of o d.me) (length places) (node_of_place begun.to (length places)).serial (send_of command).payload begun.with x).0 f
  at_stage (Some r) wants begun places collected live h = inl h
  at_stage None true begun places collected live h = inl h
  at_stage None false begun places collected live h = elim (put_has _ _ x.queue f h) [ inl new ↦ inr (Stages begun places collected refl refl (live refl) refl new) | inr old ↦ inl old ]

  first_brings : (shut : Bool) (begins : Command) (outcome : Outcome) → begins ≡ command → Comes o (opened d command Starting []) (doing_in command Starting) x (cond shut act.Local (first_action begins)) f → Brings o d command Starting [] x outcome f
  first_brings true begins outcome same new = absurd new
  first_brings false (cmd.Destroy numbers) outcome same (index, serial, is, entry, accepted) = Dooms index serial refl is entry
  first_brings false (cmd.Reset limits) outcome same (index, serial, is, entry, accepted) = Dooms index serial refl is entry
  first_brings false cmd.Disconnect outcome same (index, serial, is, entry, accepted) = Dooms index serial refl is entry
  first_brings false begins outcome same new = absurd new

  brings : (phase : Phase) (owed : List OwedDrop) (outcome : Outcome) → (is_staging phase owed ≡ false) → Comes o (opened d command phase owed) (doing_in command phase) x (next_action (opened d command phase owed)) f → Brings o d command phase owed x outcome f
  brings phase (one ∷ rest) outcome apart new = Drops one (inl refl) new.0
  brings Starting [] outcome apart new = first_brings d.shut command outcome refl new
  brings (Visiting destruction left) [] outcome apart (index, serial, is, same) = Visits index serial is same
  brings (Committing sending stamp place) [] outcome apart (g, found, same) = Commits sending stamp place g refl refl found same
  brings (CommittingOwn destruction stamp) [] outcome apart (g, there, notice, same) = Notices stamp g refl there notice same
  brings (CommittingNotices destruction stamp place) [] outcome apart (g, there, notice, same) = Notices stamp g refl there notice same
  brings (Staging begun places collected) [] outcome apart new = absurd (cc apart)
  brings phase [] outcome apart new = absurd new

  by_comes : (phase : Phase) (owed : List OwedDrop) → is_staging phase owed ≡ false → Has (answered o memory d command phase owed x).1.queue f → Source phase owed
  by_comes phase owed apart h = elim (queue_comes o (opened d command phase owed) (doing_in command phase) f memory (next_action (opened d command phase owed)) x h) [
    | inl old ↦ inl old
    | inr new ↦ inr (brings phase owed (answered o memory d command phase owed x).0 apart new)
  ]

  -- an entry after an event stood there, or the event brings it
  pub source : (phase : Phase) (owed : List OwedDrop) → Has (answered o memory d command phase owed x).1.queue f → Source phase owed
  source (Staging begun places collected) [] h =
      elim (at_stage (stage_refusal x (user_of o d.me) (node_of_place begun.to (length places)).serial (length (send_of command).payload) (length begun.with)) memory begun places collected (stage_live x _ _ _ _) h) [ inl old ↦ inl (old, refl) | inr new ↦ inr new ]
  source (Staging begun places collected) (one ∷ rest) h = by_comes (Staging begun places collected) (one ∷ rest) refl h
  source phase owed h = by_comes phase owed refl h

module _ {o : Opening} {s : State} {p : ℕ} {c : Option Command} {t : State} (step : Step o s p c t) where
  -- an entry that a step brings to the peer of its event
  abbrev pub Brought : Key × Entry → Type 0
  Brought f = Brings o step.driver (parts step).command (parts step).phase step.driver.owed step.peer (going_answer step) f

  -- an entry of the queue at the event's peer stood there and doesn't leave, or the step brings it
  pub entry_source : (f : Key × Entry) → Has step.new_peer.queue f → (Has step.peer.queue f × (leaves (going step) (going_action step) f ≡ false)) ⊎ Brought f
  entry_source f h = source o step.local.memory step.driver (parts step).command step.peer f (parts step).phase step.driver.owed (subst (λ y. Has y.queue f) (sym (parts step).is_peer) h)
