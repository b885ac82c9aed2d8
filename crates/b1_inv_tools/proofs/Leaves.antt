-- What a step leaves: the two parts that it changes, all other parts, and the nodes that were made.
use Rattle.std.proofs.Common.{◌≡◌, ◌≢◌, ◌⊎◌, refl, sym, ap, ◌∙◌, inl, inr, subst, ℕ, Bool, true, false, Option, Some, None, option_map}
use Rattle.std.specs.Prelude.{slice_get}
use Rattle.std.proofs.lemmas.Option.{same_Some}
use Rattle.b1_model.specs.declared.naming.Opening.{Opening}
use Rattle.b1_model.specs.declared.commands.Command.{Command}
use Rattle.b1_model.specs.declared.answers.Answer.{Answer}
use Rattle.b1_model.specs.declared.events.Action.{Action}
use Rattle.b1_model.specs.declared.events.Phase.{Phase}
use Rattle.b1_model.specs.declared.events.Phase.TheVariants.{Starting}
use Rattle.b1_model.specs.declared.events.Doing.{Doing}
use Rattle.b1_model.specs.MachineParts.{PeerPart, DriverPart, State}
use Rattle.b1_model.specs.MachineDriver.{next_action, peer_of, Turn, Goes, Ends, turn}
use Rattle.b1_model.specs.MachineTook.{goes_by, is_done, answer_of, turned, with_facts, took_by, took}
use Rattle.b1_model.specs.MachineEvents.{happens}
use Rattle.b1_model.specs.MachineStep.{Step, begun_by, begun, aimed, target, done_by, effect_by, effect}
use Rattle.b1_step.proofs.Lists.{set_cases}
use Rattle.b1_step.proofs.Locality.{own_driver, other_driver, at_peer, other_peer}
use Rattle.b1_inv.specs.Words.{IsPeer, IsDriver}

-- ---- the driver's part with its open command, or with the one that begins

-- the part from which a step goes on: that of the open command, or of the one that begins
pub record Opened (d : DriverPart) (command : Option Command) (e : DriverPart) (doing : Doing) : Type 0 where
  pub me : e.me ≡ d.me
  pub calls : e.calls ≡ d.calls
  pub shut : e.shut ≡ d.shut
  pub owed : e.owed ≡ d.owed
  pub told : e.told ≡ d.told
  pub attempted : e.attempted ≡ d.attempted
  pub is_open : e.doing ≡ Some doing
  pub from : (d.doing ≡ Some doing) ⊎ ((d.doing ≡ None) × (command ≡ Some doing.command) × (doing.phase ≡ Starting))

opened_by : (d e : DriverPart) (doing : Option Doing) (command : Option Command) → d.doing ≡ doing → begun_by d doing command ≡ Some e → (one : Doing) × Opened d command e one
opened_by d e None None is_doing is = absurd (cc is)
opened_by d e None (Some c) is_doing is =
    let same : record d { doing = Some (record { command = c; phase = Starting }) } ≡ e = same_Some _ e is in
    (record { command = c; phase = Starting }, subst (λ z. Opened d (Some c) z (record { command = c; phase = Starting })) same (record { me = refl; calls = refl; shut = refl; owed = refl; told = refl; attempted = refl; is_open = refl; from = inr (is_doing, refl, refl) }))
opened_by d e (Some doing) None is_doing is =
    let same : d ≡ e = same_Some d e is in
    (doing, subst (λ z. Opened d None z doing) same (record { me = refl; calls = refl; shut = refl; owed = refl; told = refl; attempted = refl; is_open = is_doing; from = inl is_doing }))
opened_by d e (Some doing) (Some c) is_doing is = absurd (cc is)

-- what a step did: by the driver's part with its command, the event that was next, and that event's answer
pub record Did (o : Opening) (memory : Bool) (d : DriverPart) (command : Option Command) (x : PeerPart) (action : Action) (at : ℕ) (f : DriverPart) (y : PeerPart) : Type 0 where
  pub e : DriverPart
  pub doing : Doing
  pub opened : Opened d command e doing
  pub is_action : action ≡ next_action e
  pub is_at : at ≡ peer_of e.me action
  pub driver : f ≡ turned (with_facts e doing (happens o memory e doing action x).0) doing.command (turn e.me doing.command doing.phase (happens o memory e doing action x).0)
  pub peer : y ≡ (happens o memory e doing action x).1

module _ (o : Opening) (memory : Bool) (d : DriverPart) (command : Option Command) (x : PeerPart) (action : Action) (at : ℕ) (f : DriverPart) (y : PeerPart) (after : effect o memory d command x ≡ (f, y)) where
  did_with : (e : DriverPart) (doing : Doing) → begun d command ≡ Some e → Opened d command e doing → aimed e ≡ (action, at) → Did o memory d command x action at f y
  did_with e doing is_begun opened pair =
      let is_action : next_action e ≡ action = ap (λ z. z.0) pair in
      let whole = sym after ∙ ap (λ b. effect_by o memory d b x) is_begun ∙ ap (λ b. done_by o memory e b x) opened.is_open ∙ ap (λ a. (took e (happens o memory e doing a x).0, (happens o memory e doing a x).1)) is_action in
      record {
        e = e;
        doing = doing;
        opened = opened;
        is_action = sym is_action;
        is_at = sym (ap (λ z. z.1) pair) ∙ ap (peer_of e.me) is_action;
        driver = ap (λ z. z.0) whole ∙ ap (λ b. took_by e b (happens o memory e doing action x).0) opened.is_open;
        peer = ap (λ z. z.1) whole;
      }

  did_by : (b : Option DriverPart) → begun d command ≡ b → option_map aimed b ≡ Some (action, at) → Did o memory d command x action at f y
  did_by None is_begun is_target = absurd (cc is_target)
  did_by (Some e) is_begun is_target =
      let found = opened_by d e d.doing command refl is_begun in
      did_with e found.0 is_begun found.1 (same_Some (aimed e) (action, at) is_target)

  pub did : target d command ≡ Some (action, at) → Did o memory d command x action at f y
  did is_target = did_by (begun d command) refl is_target

-- ---- the other parts

module _ {o : Opening} {s : State} {p : ℕ} {command : Option Command} {t : State} (step : Step o s p command t) where
  pub step_did : Did o step.local.memory step.driver command step.peer step.action step.at step.new_driver step.new_peer
  step_did = did o step.local.memory step.driver command step.peer step.action step.at step.new_driver step.new_peer step.local.after step.is_target

  -- a driver's part after the step is the new one, or stood there before; likewise a peer's
  pub driver_cases : (r : ℕ) (d : DriverPart) → IsDriver t r d → ((r ≡ p) × (d ≡ step.new_driver)) ⊎ ((r ≢ p) × IsDriver s r d)
  driver_cases r d is = set_cases s.drivers p r step.new_driver d (ap (λ ds. slice_get ds r) (sym step.drivers) ∙ is)

  pub peer_cases : (q : ℕ) (x : PeerPart) → IsPeer t q x → ((q ≡ step.at) × (x ≡ step.new_peer)) ⊎ ((q ≢ step.at) × IsPeer s q x)
  peer_cases q x is = set_cases s.peers step.at q step.new_peer x (ap (λ xs. slice_get xs q) (sym step.peers) ∙ is)

  -- the other way round
  pub new_driver : IsDriver t p step.new_driver
  new_driver = own_driver step

  pub same_driver : (r : ℕ) (d : DriverPart) → r ≢ p → IsDriver s r d → IsDriver t r d
  same_driver r d apart is = other_driver step r apart ∙ is

  pub new_peer : IsPeer t step.at step.new_peer
  new_peer = at_peer step

  pub same_peer : (q : ℕ) (x : PeerPart) → q ≢ step.at → IsPeer s q x → IsPeer t q x
  same_peer q x apart is = other_peer step q apart ∙ is

-- ---- what a turn leaves open

open_by_flag : (b : Bool) (got : Option Answer) (d : DriverPart) (command : Command) (phase : Phase) (doing : Doing) → (goes_by b got d command phase).doing ≡ Some doing → (doing.command ≡ command) × (doing.phase ≡ phase)
open_by_flag false got d command phase doing is = let same : record { command = command; phase = phase } ≡ doing = same_Some _ doing is in (sym (ap (λ z. z.command) same), sym (ap (λ z. z.phase) same))
open_by_flag true None d command phase doing is = let same : record { command = command; phase = phase } ≡ doing = same_Some _ doing is in (sym (ap (λ z. z.command) same), sym (ap (λ z. z.phase) same))
open_by_flag true (Some got) d command phase doing is = absurd (cc is)

-- where a command is open after an event, it is the same, in the phase that the event led to
pub turned_open : (d : DriverPart) (command : Command) (to : Turn) (doing : Doing) → (turned d command to).doing ≡ Some doing → (doing.command ≡ command) × (to ≡ Goes doing.phase)
turned_open d command (Goes phase) doing is = let k = open_by_flag (is_done d.owed d.told phase) (answer_of command phase) d command phase doing is in (k.0, ap Goes (sym k.1))
turned_open d command (Ends got) doing is = absurd (cc is)

-- a phase of which something is left stays open
pub turned_goes : (d : DriverPart) (command : Command) (phase : Phase) → is_done d.owed d.told phase ≡ false → (turned d command (Goes phase)).doing ≡ Some (record { command = command; phase = phase })
turned_goes d command phase left = rw left refl
