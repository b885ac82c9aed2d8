-- A step of a state that ends a waiting attempt which removed nothing: nothing has moved but the driver's count of attempts.
use Rattle.std.proofs.Common.{◌≡◌, ◌⊎◌, refl, sym, ap, ◌∙◌, arith, inl, inr, subst, ℕ, ◌<◌, ◌≤◌, Bool, true, false, cond, [], ◌∷◌, ◌++◌, length, Option, Some, None, append-nil}
use Rattle.b1_model.specs.declared.naming.Opening.{Opening}
use Rattle.b1_model.specs.declared.answers.Answer.{Answer}
use Rattle.b1_model.specs.declared.commands.Command.{Command}
use Rattle.b1_model.specs.declared.commands.Command.TheVariants as cmd
use Rattle.b1_model.specs.declared.events.Phase.{Phase}
use Rattle.b1_model.specs.declared.events.Phase.TheVariants.{Starting, Reaping}
use Rattle.b1_model.specs.MachineParts.{PeerPart, DriverPart, State}
use Rattle.b1_model.specs.MachineDriver.{Turn, Goes, Ends, turn, next_action, peer_of}
use Rattle.b1_model.specs.MachineTook.{is_waiting, as_call, answer_of, is_done, goes_by, ended, turned, with_facts}
use Rattle.b1_model.specs.MachineEvents.{happens}
use Rattle.b1_model.specs.MachineStep.{Step}
use Rattle.b1_inv.specs.Words.{IsPeer}
use Rattle.b1_inv.specs.Sends.{SendShape}
use Rattle.b1_inv.specs.Notices.{DestructionShape}
use Rattle.b1_inv.specs.Sound.{IsSound}
use Rattle.b1_inv_tools.proofs.Leaves.{Did, step_did}
use Rattle.b1_inv_sends.proofs.SendsKept.{nothing_owed}
use Rattle.b1_schedule.specs.Schedule.{removed_by}
use Rattle.b1_play_end.specs.Course.{PhaseTold, OpenTold, AllTold, IsBlocked}
use Rattle.b1_play_end.proofs.Holds.{phase_told}
use Rattle.b1_play_end.proofs.Knows.{waits_await}
use Rattle.b1_play_end.proofs.Waits.{EndsBy, ended_waiting, attempt_phase}
use Rattle.b1_play_end.proofs.Waited.{Attempt, waited}
use Rattle.b1_play_end.proofs.Attempts.{unremoved_same, unremoved_blocked}

-- a turn that ended with an answer ends the command with it
by_done : (f : DriverPart) (command : Command) (b : Bool) (given : Option Answer) (phase : Phase) (got : Answer) → b ≡ true → given ≡ Some got → goes_by b given f command phase ≡ ended f command got
by_done f command true (Some given) phase got done is = ap (ended f command) (some_is is)
  where
    some_is : Some given ≡ Some got → given ≡ got
    some_is is = cc is
by_done f command true None phase got done is = absurd (cc is)
by_done f command false given phase got done is = absurd (cc done)

turned_ended : (f : DriverPart) (command : Command) (t : Turn) (got : Answer) → EndsBy f.owed f.told command t got → turned f command t ≡ ended f command got
turned_ended f command (Goes phase) got ends = by_done f command (is_done f.owed f.told phase) (answer_of command phase) phase got ends.1 ends.0
turned_ended f command (Ends given) got ends = ap (ended f command) ends

-- a waiting attempt adds no call
waiting_calls : (f : DriverPart) (command : Command) (got : Answer) → is_waiting command got ≡ true → (ended f command got).calls ≡ f.calls
waiting_calls f command got waits = ap (λ b. f.calls ++ cond b [] (record { command = as_call command; answer = got } ∷ [])) waits ∙ append-nil f.calls

-- what such a step leaves
pub record Unmoved {o : Opening} {s : State} {p : ℕ} {command : Option Command} {t : State} (step : Step o s p command t) : Type 0 where
  pub closed : step.driver.doing ≡ None
  pub await : command ≡ Some cmd.Await
  pub at : step.at ≡ p
  pub same : step.new_peer ≡ step.peer
  pub shut : step.new_driver.shut ≡ false
  pub calls : step.new_driver.calls ≡ step.driver.calls
  pub blocked : IsBlocked step.peer

module _ {o : Opening} {s : State} {p : ℕ} {command : Option Command} {t : State} (sound : IsSound o s) (known : AllTold s) (step : Step o s p command t) (x : PeerPart) (is_x : IsPeer s p x)
    (rests : step.new_driver.doing ≡ None) (few : length step.new_driver.calls ≤ length step.driver.calls) (none : removed_by step.new_driver ≡ 0) where
  k : Did o step.local.memory step.driver command step.peer step.action step.at step.new_driver step.new_peer
  k = step_did step

  abbrev facts : DriverPart
  facts = with_facts k.e k.doing (happens o step.local.memory k.e k.doing (next_action k.e) step.peer).0

  abbrev to : Turn
  to = turn k.e.me k.doing.command k.doing.phase (happens o step.local.memory k.e k.doing (next_action k.e) step.peer).0

  after_is : step.new_driver ≡ turned facts k.doing.command to
  after_is = k.driver ∙ ap (λ action. turned (with_facts k.e k.doing (happens o step.local.memory k.e k.doing action step.peer).0) k.doing.command (turn k.e.me k.doing.command k.doing.phase (happens o step.local.memory k.e k.doing action step.peer).0)) k.is_action

  how : (got : Answer) × EndsBy facts.owed facts.told k.doing.command to got × (is_waiting k.doing.command got ≡ true)
  how = ended_waiting facts k.doing.command to (ap (λ f. f.doing) (sym after_is) ∙ rests) (omega (arith, few, ap (λ f. length f.calls) after_is, ap length k.opened.calls))

  ended_is : step.new_driver ≡ ended facts k.doing.command how.0
  ended_is = after_is ∙ turned_ended facts k.doing.command to how.0 how.1

  none_removed : removed_by facts ≡ 0
  none_removed = ap removed_by (sym ended_is) ∙ none

  send_shape : (k.doing.phase ≡ Starting) ⊎ SendShape s k.doing.command k.doing.phase
  send_shape = elim k.opened.from [
    | inl is ↦ inr (sound.sends.shape p step.driver k.doing step.is_driver is)
    | inr begins ↦ inl begins.2
  ]

  destruction : DestructionShape x.peers x k.doing.command k.doing.phase
  destruction = elim k.opened.from [
    | inl is ↦ sound.notices.shape p step.driver x k.doing step.is_driver is_x is
    | inr begins ↦ subst (DestructionShape x.peers x k.doing.command) (sym begins.2) tt
  ]

  owes : k.doing.phase ≡ Starting → k.e.owed ≡ []
  owes starts = elim k.opened.from [
    | inl is ↦ absurd (subst (SendShape s k.doing.command) starts (sound.sends.shape p step.driver k.doing step.is_driver is))
    | inr begins ↦ k.opened.owed ∙ nothing_owed s p step.driver sound.references step.is_driver begins.0
  ]

  held : (got : Answer) → k.doing.phase ≡ Reaping got → is_waiting k.doing.command got ≡ true → 0 < removed_by k.e
  held got is waits = elim k.opened.from [
    | inl at ↦ (subst (PhaseTold k.e x k.doing.command) is (phase_told step.driver k.e x k.doing.command k.doing.phase k.opened.told k.opened.attempted (subst (OpenTold step.driver x) at (known p step.driver x step.is_driver is_x)))).1 waits
    | inr begins ↦ absurd (cc (begins.2, is))
  ]

  attempt : Attempt o step.local.memory k.e k.doing step.peer
  attempt = elim (waited o step.local.memory k.e k.doing step.peer k.opened.is_open owes held k.doing.phase refl (attempt_phase s x.peers x k.doing.command k.doing.phase (waits_await k.doing.command how.0 how.2) send_shape destruction) how.0 (waits_await k.doing.command how.0 how.2) how.1 how.2) [
    | inl first ↦ first
    | inr more ↦ absurd (omega (arith, more, none_removed))
  ]

  closed_with : (step.driver.doing ≡ None) × (command ≡ Some k.doing.command) × (k.doing.phase ≡ Starting)
  closed_with = elim k.opened.from [
    | inl is ↦ absurd (subst (SendShape s k.doing.command) attempt.starts (sound.sends.shape p step.driver k.doing step.is_driver is))
    | inr begins ↦ begins
  ]

  pub unmoved : Unmoved step
  unmoved = record {
    closed = closed_with.0;
    await = closed_with.1 ∙ ap Some attempt.await;
    at = k.is_at ∙ ap (peer_of k.e.me) (k.is_action ∙ attempt.action) ∙ k.opened.me ∙ sound.numbered.drivers p step.driver step.is_driver;
    same = k.peer ∙ ap (λ action. (happens o step.local.memory k.e k.doing action step.peer).1) (k.is_action ∙ attempt.action) ∙ unremoved_same step.peer attempt.front attempt.waits (sym attempt.removed ∙ none_removed);
    shut = ap (λ f. f.shut) ended_is ∙ ap (λ action. (with_facts k.e k.doing (happens o step.local.memory k.e k.doing action step.peer).0).shut) attempt.action ∙ attempt.shut;
    calls = ap (λ f. f.calls) ended_is ∙ waiting_calls facts k.doing.command how.0 how.2 ∙ k.opened.calls;
    blocked = unremoved_blocked step.peer attempt.front attempt.waits (sym attempt.removed ∙ none_removed);
  }
