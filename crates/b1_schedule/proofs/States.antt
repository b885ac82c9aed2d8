-- A step of a state, with the bit that the state afterwards shows; and what the record of a state without an open command shows.
use Rattle.std.proofs.Common.{◌≡◌, refl, sym, ap, ◌∙◌, arith, ℕ, zero, suc, Bool, true, false, ◌&&◌, List, [], ◌∷◌, ◌++◌, slice_get, length, Option, Some, None, is_none, subst, append-nil, inl, inr}
use Rattle.std.proofs.lemmas.Bool.{cases_eq}
use Rattle.std.specs.List.{list_all}
use Rattle.b1_model.specs.declared.naming.Opening.{Opening}
use Rattle.b1_model.specs.declared.commands.Command.{Command}
use Rattle.b1_model.specs.declared.events.Doing.{Doing}
use Rattle.b1_model.specs.declared.events.Phase.{Phase}
use Rattle.b1_model.specs.declared.events.Phase.TheVariants.{Staging}
use Rattle.b1_model.specs.Names.{calls_of, calls_in}
use Rattle.b1_model.specs.MachineParts.{PeerPart, DriverPart, State}
use Rattle.b1_model.specs.MachineOrder.{no_command_open, is_idle}
use Rattle.b1_model.specs.MachineTook.{is_await, driver_calls, open_by}
use Rattle.b1_model.specs.MachineStep.{effect, Step, stepped, record_of_state, peer_records}
use Rattle.b1_step.specs.Fixed.{IsNumbered}
use Rattle.b1_step.proofs.Locality.{computed, own_driver, other_driver}
use Rattle.b1_inv.specs.Sends.{SendsRight, SendShape}
use Rattle.b1_schedule.specs.Shortage.{Shortage, no_shortage, is_short, shortage_of, is_short_answer}
use Rattle.b1_schedule.specs.Agreement.{Agrees, AllAgree, is_staging}
use Rattle.b1_schedule.proofs.Steps.{StagesPlainly, local_back}

-- a SEND that stages is a SEND
plain_shape : (s : State) (command : Command) (phase : Phase) → SendShape s command phase → is_staging phase ≡ true → is_await command ≡ false
plain_shape s command (Staging nodes places collected) shape stages = ap is_await shape.0.send.is_send
plain_shape s command phase shape stages = absurd (cc stages)

module _ (m : Shortage) {o : Opening} {s : State} {p : ℕ} {command : Option Command} {t : State} (step : Step o s p command t) (sends : SendsRight s) (h : AllAgree m t) where
  plain : (one : Doing) → step.driver.doing ≡ Some one → StagesPlainly one
  plain one is = plain_shape s one.command one.phase (sends.shape p step.driver one step.is_driver is)

  back : Agrees m step.driver × (effect o (is_short m step.driver command) step.driver command step.peer ≡ (step.new_driver, step.new_peer))
  back = local_back m o step.local.memory step.driver step.peer step.new_driver step.new_peer command plain step.local.after (h p step.new_driver (own_driver step))

  -- the same step with the bit that is shown
  abbrev with_bit : Step o s p command t
  with_bit = record step { local = record { memory = is_short m step.driver command; after = back.1 } }

  pub step_shown : stepped o (is_short m step.driver command) p command s ≡ Some t
  step_shown = computed with_bit

  own_before : (d : DriverPart) → slice_get s.drivers p ≡ Some d → Agrees m d
  own_before d is = subst (Agrees m) (some_is (sym step.is_driver ∙ is)) back.0
    where
      some_is : {a b : DriverPart} → Some a ≡ Some b → a ≡ b
      some_is is = cc is

  pub agreed_before : AllAgree m s
  agreed_before r d is = elim (cases_eq r p) [
    | inl same ↦ own_before d (ap (slice_get s.drivers) (sym same) ∙ is)
    | inr apart ↦ h r d (other_driver step r apart ∙ is)
  ]

-- ---- what a record shows

-- a peer's calls in the record of a state
calls_at : (xs : List PeerPart) (ds : List DriverPart) (p : ℕ) (d : DriverPart) → length xs ≡ length ds → slice_get ds p ≡ Some d → calls_in (slice_get (peer_records xs ds) p) ≡ driver_calls d
calls_at xs [] p d same is = absurd (cc is)
calls_at [] (e ∷ ds) p d same is = absurd (omega (arith, same))
calls_at (x ∷ xs) (e ∷ ds) zero d same is = ap driver_calls (some_is is)
  where
    some_is : Some e ≡ Some d → e ≡ d
    some_is is = cc is
calls_at (x ∷ xs) (e ∷ ds) (suc p) d same is = calls_at xs ds p d (omega (arith, same)) is

second_of : (a b : Bool) → (a && b) ≡ true → b ≡ true
second_of true b is = is
second_of false b is = absurd (cc is)

-- a driver without an open command
idle_is : (doing : Option Doing) (b : Bool) → (is_none doing && b) ≡ true → doing ≡ None
idle_is None b is = refl
idle_is (Some one) b is = absurd (cc is)

-- no driver has an open command
idle_at : (ds : List DriverPart) (p : ℕ) (d : DriverPart) → list_all is_idle ds ≡ true → slice_get ds p ≡ Some d → d.doing ≡ None
idle_at [] p d all is = absurd (cc is)
idle_at (e ∷ ds) zero d all is = ap (λ one. one.doing) (sym (some_is is)) ∙ idle_is e.doing (list_all is_idle ds) all
  where
    some_is : Some e ≡ Some d → e ≡ d
    some_is is = cc is
idle_at (e ∷ ds) (suc p) d all is = idle_at ds p d (second_of (is_idle e) (list_all is_idle ds) all) is

pub record_shown : (o : Opening) (s : State) → IsNumbered o s → no_command_open s ≡ true → AllAgree (shortage_of (record_of_state s)) s
record_shown o s numbered none p d is = record {
  calls = λ k call place at.
      ap (λ call. elim call [ None ↦ false | Some one ↦ is_short_answer one.command one.answer place ]) (recorded k ∙ at);
  doing = λ one at. absurd (cc (idle_at s.drivers p d none is, at));
}
  where
    idle : d.doing ≡ None
    idle = idle_at s.drivers p d none is

    recorded : (k : ℕ) → slice_get (calls_of (record_of_state s) d.me) k ≡ slice_get d.calls k
    recorded k = ap (λ l. slice_get l k) (ap (λ q. calls_of (record_of_state s) q) (numbered.drivers p d is) ∙ calls_at s.peers s.drivers p d (numbered.as_many_peers ∙ sym numbered.as_many_drivers) is ∙ ap (λ one. d.calls ++ open_by one) idle ∙ append-nil d.calls)

-- where a record shows no want of memory, it is wanting nowhere
pub nothing_shown : (o : Opening) (s : State) → IsNumbered o s → no_command_open s ≡ true → ((p k : ℕ) (place : Option ℕ) → shortage_of (record_of_state s) p k place ≡ false) → AllAgree no_shortage s
nothing_shown o s numbered none nowhere p d is =
    let shown = record_shown o s numbered none p d is in
    record { calls = λ k call place at. sym (nowhere d.me k place) ∙ shown.calls k call place at; doing = λ one at. absurd (cc (idle_at s.drivers p d none is, at)) }
