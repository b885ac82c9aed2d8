-- A step that ends an attempt which waits, and removed nothing: the command began with this step, and the peer's part stays.
use Rattle.std.proofs.Common.{◌≡◌, ◌⊎◌, refl, sym, ap, arith, inl, inr, ℕ, ◌+◌, ◌≤◌, Bool, true, false, cond, List, [], ◌∷◌, ◌++◌, length, Option, Some, None}
use Rattle.b1_model.specs.declared.answers.Answer.{Answer}
use Rattle.b1_model.specs.declared.commands.Command.{Command}
use Rattle.b1_model.specs.declared.commands.Command.TheVariants as cmd
use Rattle.b1_model.specs.declared.records.Call.{Call}
use Rattle.b1_model.specs.declared.events.OwedDrop.{OwedDrop}
use Rattle.b1_model.specs.declared.events.Phase.{Phase}
use Rattle.b1_model.specs.declared.events.Phase.TheVariants.{Starting, Staging, Unstaging, Attaching, Stamping, Syncing, Committing, Dropping, Reaping, Visiting, Dooming, SyncingNotices, CommittingOwn, CommittingNotices, Flushing}
use Rattle.b1_model.specs.MachineParts.{PeerPart, DriverPart, State}
use Rattle.b1_model.specs.MachineDriver.{Turn, Goes, Ends, send_of}
use Rattle.b1_model.specs.MachineTook.{is_await, is_waiting, as_call, answer_of, is_done, goes_by, ended, turned}
use Rattle.b1_inv.specs.Sends.{SendShape}
use Rattle.std.specs.Prelude.{⊤}
use Rattle.b1_inv.specs.Notices.{IsDestroying, DestructionShape}

-- ---- an ended command without a call

pub length_more : (calls : List Call) (c : Call) → length (calls ++ c ∷ []) ≡ length calls + 1
length_more [] c = refl
length_more (x ∷ rest) c = omega (arith, length_more rest c)

-- a turn that ended with this answer
abbrev pub EndsBy : List OwedDrop → Bool → Command → Turn → Answer → Type 0
EndsBy owed told command (Goes phase) got = (answer_of command phase ≡ Some got) × (is_done owed told phase ≡ true)
EndsBy owed told command (Ends given) got = given ≡ got

module _ (f : DriverPart) (command : Command) where
  no_call : (got : Answer) → length (ended f command got).calls ≤ length f.calls → is_waiting command got ≡ true
  no_call got few = by_flag (is_waiting command got) refl few
    where
      by_flag : (b : Bool) → b ≡ is_waiting command got → length (f.calls ++ cond b [] (record { command = as_call command; answer = got } ∷ [])) ≤ length f.calls → is_waiting command got ≡ true
      by_flag true same few = sym same
      by_flag false same few = absurd (omega (arith, few, length_more f.calls (record { command = as_call command; answer = got })))

  by_done : (b : Bool) (given : Option Answer) (phase : Phase) → b ≡ is_done f.owed f.told phase → given ≡ answer_of command phase → (goes_by b given f command phase).doing ≡ None → length (goes_by b given f command phase).calls ≤ length f.calls
      → (got : Answer) × EndsBy f.owed f.told command (Goes phase) got × (is_waiting command got ≡ true)
  by_done false given phase done same none few = absurd (cc none)
  by_done true None phase done same none few = absurd (cc none)
  by_done true (Some got) phase done same none few = (got, (sym same, sym done), no_call got few)

  -- a command that ended without a call waited
  pub ended_waiting : (t : Turn) → (turned f command t).doing ≡ None → length (turned f command t).calls ≤ length f.calls → (got : Answer) × EndsBy f.owed f.told command t got × (is_waiting command got ≡ true)
  ended_waiting (Goes phase) none few = by_done (is_done f.owed f.told phase) (answer_of command phase) phase refl refl none few
  ended_waiting (Ends got) none few = (got, refl, no_call got few)

-- ---- which phases an AWAIT has

-- an AWAIT begins, or gives up what it removed
abbrev pub IsAttempt : Phase → Type 0
IsAttempt Starting = ⊤
IsAttempt (Reaping got) = ⊤
IsAttempt Dropping = ⊤
IsAttempt (Flushing stamp) = ⊤
IsAttempt phase = ⊥

send_apart : (command : Command) → command ≡ cmd.Send (send_of command) → is_await command ≡ true → ⊥
send_apart command is await = cc (ap is_await is, await)

destroy_apart : (command : Command) → IsDestroying command → is_await command ≡ true → ⊥
destroy_apart (cmd.Destroy numbers) is await = cc await
destroy_apart (cmd.Reset limits) is await = cc await
destroy_apart cmd.Disconnect is await = cc await
destroy_apart command is await = is

pub attempt_phase : (s : State) (peers : ℕ) (x : PeerPart) (command : Command) (phase : Phase) → is_await command ≡ true → (phase ≡ Starting) ⊎ SendShape s command phase → DestructionShape peers x command phase → IsAttempt phase
attempt_phase s peers x command Starting await send notice = tt
attempt_phase s peers x command (Staging nodes places collected) await (inr send) notice = send_apart command send.0.send.is_send await
attempt_phase s peers x command (Unstaging nodes places refused place) await (inr send) notice = send_apart command send.0.send.is_send await
attempt_phase s peers x command (Attaching sending place handle) await (inr send) notice = send_apart command send.0.begun.send.is_send await
attempt_phase s peers x command (Stamping sending) await (inr send) notice = send_apart command send.begun.send.is_send await
attempt_phase s peers x command (Syncing sending stamp place) await (inr send) notice = send_apart command send.0.begun.send.is_send await
attempt_phase s peers x command (Committing sending stamp place) await (inr send) notice = send_apart command send.0.begun.send.is_send await
attempt_phase s peers x command Dropping await send notice = tt
attempt_phase s peers x command (Reaping got) await send notice = tt
attempt_phase s peers x command (Visiting d left) await send notice = destroy_apart command notice.0 await
attempt_phase s peers x command (Dooming d) await send notice = destroy_apart command notice.0 await
attempt_phase s peers x command (SyncingNotices d stamp at) await send notice = destroy_apart command notice.0 await
attempt_phase s peers x command (CommittingOwn d stamp) await send notice = destroy_apart command notice.0 await
attempt_phase s peers x command (CommittingNotices d stamp at) await send notice = destroy_apart command notice.0 await
attempt_phase s peers x command (Flushing stamp) await send notice = tt
attempt_phase s peers x command phase await (inl starts) notice = absurd (cc starts)
