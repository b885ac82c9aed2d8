-- What a step on two parts moves in a run of a generated script.
use Rattle.std.proofs.Common.{◌≡◌, ◌⊎◌, inl, inr, refl, sym, ap, ◌∙◌, subst, ℕ, ◌<◌, Bool, true, false, List, [], length, Option, Some}
use Rattle.std.proofs.lemmas.List.{length-map}
use native.Mathlib.Omega.{arith}
use Rattle.b1_model.specs.declared.naming.NodeRef.{NodeRef}
use Rattle.b1_model.specs.declared.naming.Opening.{Opening}
use Rattle.b1_model.specs.declared.commands.Command.{Command}
use Rattle.b1_model.specs.declared.commands.Command.TheVariants as cmd
use Rattle.b1_model.specs.declared.parts.Begun.{Begun}
use Rattle.b1_model.specs.declared.answers.Front.{Front}
use Rattle.b1_model.specs.declared.records.Call.{Call}
use Rattle.b1_model.specs.declared.events.Outcome.{Outcome}
use Rattle.b1_model.specs.declared.events.Action.{Action}
use Rattle.b1_model.specs.declared.events.Phase.{Phase}
use Rattle.b1_model.specs.declared.events.Phase.TheVariants.{Starting, Staging, Stamping, Syncing, Committing}
use Rattle.b1_model.specs.declared.events.Doing.{Doing}
use Rattle.b1_model.specs.MachineParts.{PeerPart, DriverPart, Slice, State}
use Rattle.b1_model.specs.declared.naming.Key.{Key}
use Rattle.b1_model.specs.declared.entries.Entry.{Entry}
use Rattle.b1_model.specs.MachineDriver.{turn, phase_action, peer_of, node_of_place}
use Rattle.b1_model.specs.MachineTook.{turned, with_facts}
use Rattle.b1_model.specs.MachineSend.{is_committed, committed}
use Rattle.b1_model.specs.MachineEvents.{happens, slots_at, user_of}
use Rattle.b1_step.specs.Rights.{Has}
use Rattle.b1_inv.specs.Sends.{SendShape}
use Rattle.b1_inv.specs.Stages.{OnceEach}
use Rattle.b1_inv_record.specs.Parts.{IsSliceOf}
use Rattle.b1_gen.specs.Generated.{peer_count}
use Rattle.b1_gen_runs.specs.Sums.{owner_of, is_send}
use Rattle.b1_gen_runs.specs.Phases.{IsPlain, IsGoing, IsGood, IsPlainDriver, nodes_of}
use Rattle.b1_gen_runs.proofs.Events.{recv_takes, none_dead, commit_effect, commit_clock}
use Rattle.b1_gen_runs.proofs.Refusals.{HasRoom}
use Rattle.b1_gen_runs.proofs.Commands.{send_in}
use Rattle.b1_gen_runs.proofs.Turns.{driver_at, Moves}
use Rattle.b1_gen_runs.proofs.Moves.{stamp_moves, sync_moves, commit_moves, begin_moves, stage_moves, get_map, recv_moves, await_moves, release_moves}

begun_is : (b : Begun) (nodes : List NodeRef) → b.with ≡ [] → b.to ≡ nodes → record { to = nodes; with = [] } ≡ b
begun_is b nodes none same = ap (λ t. record { to = t; with = [] }) (sym same) ∙ ap (λ (w : List NodeRef). record { to = b.to; with = w }) (sym none)

-- an open command is a SEND
pub going_sends : (bound me : ℕ) (command : Command) (phase : Phase) → IsGoing bound me command phase → is_send command ≡ true
going_sends bound me command (Staging begun places collected) going = going.0
going_sends bound me command (Stamping sending) going = going.0
going_sends bound me command (Syncing sending stamp place) going = going.0
going_sends bound me command (Committing sending stamp place) going = going.0
going_sends bound me command phase going = absurd going

module _ (o : Opening) (memory : Bool) (number bound me : ℕ) (calls : List Call) (good : (c : Call) → Has calls c → IsGood c.command c.answer) (attempted : Option (Front × ℕ)) (attempts : ℕ) (s : State) (x : PeerPart)
    (once : OnceEach x.queue) (sliced : (f : Key × Entry) → Has x.queue f → (t : Slice) × Has x.slices t × IsSliceOf f.1 t) where
  abbrev doing_at : Command → Phase → Doing
  doing_at command phase = record { command = command; phase = phase }

  abbrev D : Command → Phase → DriverPart
  D command phase = driver_at me calls (Some (doing_at command phase)) attempted attempts

  abbrev action_at : Command → Phase → Action
  action_at command phase = phase_action me false command phase

  abbrev where_at : Command → Phase → ℕ
  where_at command phase = peer_of me (action_at command phase)

  abbrev result : Command → Phase → Outcome × PeerPart
  result command phase = happens o memory (D command phase) (doing_at command phase) (action_at command phase) x

  abbrev new : Command → Phase → DriverPart
  new command phase = turned (with_facts (D command phase) (doing_at command phase) (result command phase).0) command (turn me command phase (result command phase).0)

  abbrev Local : Command → Phase → Type 0
  Local command phase = HasRoom (peer_count number) (where_at command phase) bound x → IsPlainDriver number me (new command phase) → Moves bound (where_at command phase) (D command phase) x (new command phase) (result command phase).1

  abbrev InPhase : Command → Phase → Type 0
  InPhase command phase = (phase ≡ Starting) ⊎ (IsGoing bound me command phase × SendShape s command phase)

  starts : (command : Command) (phase : Phase) → is_send command ≡ false → InPhase command phase → phase ≡ Starting
  starts command phase no_send (inl is) = is
  starts command phase no_send (inr (going, shape)) = let e : true ≡ false = sym (going_sends bound me command phase going) ∙ no_send in absurd (cc e)

  local_send : (k : ℕ) (phase : Phase) → InPhase (cmd.Send (send_in number me k)) phase → Local (cmd.Send (send_in number me k)) phase
  local_send k Starting in_phase = λ room plain. begin_moves number k bound me calls good attempted attempts me x room refl memory plain
  local_send k (Staging begun places collected) (inl e) = absurd (cc e)
  local_send k (Staging begun places collected) (inr (going, shape)) =
      subst (λ b. length places < length b.to → Local (cmd.Send (send_in number me k)) (Staging b places collected)) (begun_is begun (nodes_of me (send_in number me k).to) going.1 going.2) staged_at shape.1
    where
      staged_at : length places < length (nodes_of me (send_in number me k).to) → Local (cmd.Send (send_in number me k)) (Staging (record { to = nodes_of me (send_in number me k).to; with = [] }) places collected)
      staged_at less room plain =
          let within : length places < length (send_in number me k).to = (let n = length-map {B = NodeRef} (send_in number me k).to (λ h. record { owner = owner_of me h; serial = 0 }) in omega (arith, less, n)) in
          stage_moves number k bound me calls good attempted attempts (where_at (cmd.Send (send_in number me k)) (Staging (record { to = nodes_of me (send_in number me k).to; with = [] }) places collected)) x room places collected (user_of o me) within going.4 going.3
          (ap (λ node. node.owner) (get_map me (send_in number me k).to (length places) within)) memory plain
  local_send k (Stamping sending) (inl e) = absurd (cc e)
  local_send k (Stamping sending) (inr (going, shape)) = λ room plain. stamp_moves bound me calls good (send_in number me k) attempted attempts me x room.plain room.clock sending going.1 going.2
  local_send k (Syncing sending stamp place) (inl e) = absurd (cc e)
  local_send k (Syncing sending stamp place) (inr (going, shape)) = λ room plain. sync_moves bound me calls good (send_in number me k) attempted attempts (node_of_place sending.begun.to place).owner x room.plain room.clock sending stamp place going.1 going.2
  local_send k (Committing sending stamp place) (inl e) = absurd (cc e)
  local_send k (Committing sending stamp place) (inr (going, shape)) = λ room plain.
      commit_moves bound me calls good (send_in number me k) attempted attempts (node_of_place sending.begun.to place).owner x room.plain room.clock sending stamp place going.1 going.2
      (committed x me place stamp (slots_at (Committing sending stamp place) place)) (commit_clock x me place stamp (slots_at (Committing sending stamp place) place)) (commit_effect x me place stamp (slots_at (Committing sending stamp place) place) room.plain once) (is_committed x me place)
  local_send k phase (inl e) = absurd (cc e)
  local_send k phase (inr (going, shape)) = absurd going

  pub local : (command : Command) (phase : Phase) → IsPlain number me command → InPhase command phase → Local command phase
  local (cmd.Send c) phase (k, is) = subst (λ command. InPhase command phase → Local command phase) (sym is) (local_send k phase)
  local cmd.Recv phase plain = λ in_phase. subst (Local cmd.Recv) (sym (starts cmd.Recv phase refl in_phase)) (λ room ample. recv_moves bound me calls good attempted attempts x room.clock (recv_takes (peer_count number) me x room.stands room.plain room.cover sliced) (none_dead (peer_count number) me x room.stands room.plain room.cover sliced))
  local cmd.Await phase plain = λ in_phase. subst (Local cmd.Await) (sym (starts cmd.Await phase refl in_phase)) (λ room ample. await_moves bound me calls good attempted attempts x room.clock (recv_takes (peer_count number) me x room.stands room.plain room.cover sliced) (none_dead (peer_count number) me x room.stands room.plain room.cover sliced))
  local (cmd.SliceRelease offset) phase plain = λ in_phase. subst (Local (cmd.SliceRelease offset)) (sym (starts (cmd.SliceRelease offset) phase refl in_phase)) (λ room ample. release_moves bound me calls good attempted attempts x room.clock offset room.plain)
  local command phase plain = absurd plain
