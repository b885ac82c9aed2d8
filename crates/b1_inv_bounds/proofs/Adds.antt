-- What a step adds to the attaches of its driver's calls, and which event was next.
use Rattle.std.proofs.Common.{◌≡◌, ◌⊎◌, refl, sym, ap, ◌∙◌, inl, inr, subst, ℕ, ◌+◌, ◌*◌, ◌<◌, ◌≤◌, Bool, true, false, cond, List, [], ◌∷◌, length, Option, Some, None}
use native.Mathlib.Omega.{arith}
use Rattle.b1_model.specs.declared.naming.Opening.{Opening}
use Rattle.b1_model.specs.declared.commands.Command.{Command}
use Rattle.b1_model.specs.declared.events.Outcome.TheVariants as out
use Rattle.b1_model.specs.declared.events.Phase.{Phase}
use Rattle.b1_model.specs.declared.events.Phase.TheVariants.{Starting, Attaching, Stamping}
use Rattle.b1_model.specs.declared.events.Doing.{Doing}
use Rattle.b1_model.specs.declared.events.Sending.{Sending}
use Rattle.b1_model.specs.declared.events.OwedDrop.{OwedDrop}
use Rattle.b1_model.specs.MachineParts.{DriverPart, State}
use Rattle.b1_model.specs.MachineSend.{attach_answer}
use Rattle.b1_model.specs.MachineDriver.{node_of_place, phase_action, with_slot, Goes, turn}
use Rattle.b1_model.specs.MachineTook.{with_facts, driver_calls}
use Rattle.b1_model.specs.MachineEvents.{happens}
use Rattle.b1_model.specs.MachineStep.{Step}
use Rattle.b1_step.proofs.Locality.{step_adds}
use Rattle.b1_inv.specs.Words.{IsDriver}
use Rattle.b1_inv.specs.Sends.{SendShape}
use Rattle.b1_inv.specs.Bounds.{calls_begun, attaches, attach_bound}
use Rattle.b1_inv.specs.Sound.{IsSound}
use Rattle.b1_inv_tools.proofs.Leaves.{Did, step_did}
use Rattle.b1_inv_refs.proofs.Kept.{accepted_within}
use Rattle.b1_inv_refs.proofs.Counting.{is_open, shape}
use Rattle.b1_inv_bounds.proofs.Begun.{open_begun, none_begun, turn_now, new_begun}
use Rattle.b1_inv_bounds.proofs.Quiet.{is_growing, is_attach, attach_phase}
use Rattle.b1_inv_bounds.proofs.Attaches.{turn_attaches, turned_attaches, open_attaches, none_attaches, attaching_more, attaching_stays, stamping_stays, Small, started_small, phase_small, turn_small, small_within}
use Rattle.b1_inv_tools.proofs.Facts.{next_of, next_owed, more_calls}

module _ {o : Opening} {s : State} {p : ℕ} {command : Option Command} {t : State} (sound : IsSound o s) (step : Step o s p command t) where
  abbrev k : Did o step.local.memory step.driver command step.peer step.action step.at step.new_driver step.new_peer
  k = step_did step

  pub driver_me : step.driver.me ≡ p
  driver_me = sound.numbered.drivers p step.driver step.is_driver

  abbrev From : Type 0
  From = (step.driver.doing ≡ Some k.doing) ⊎ ((step.driver.doing ≡ None) × (command ≡ Some k.doing.command) × (k.doing.phase ≡ Starting))

  -- ---- attaches

  pub new_attaches : attach_bound step.new_driver ≡ 4096 * length step.driver.calls + turn_attaches k.doing.command (turn_now sound step)
  new_attaches = ap attach_bound k.driver ∙ turned_attaches (with_facts k.e k.doing (happens o step.local.memory k.e k.doing step.action step.peer).0) k.doing.command (turn_now sound step) ∙ ap (λ l. 4096 * length l + turn_attaches k.doing.command (turn_now sound step)) k.opened.calls

  pub shape_of : step.driver.doing ≡ Some k.doing → SendShape s k.doing.command k.doing.phase
  shape_of open_it = sound.sends.shape p step.driver k.doing step.is_driver open_it

  new_small : Small k.doing.command (turn_now sound step)
  new_small = at k.opened.from
    where
      at : From → Small k.doing.command (turn_now sound step)
      at (inl open_it) = turn_small k.doing.command s k.e.me k.doing.phase (happens o step.local.memory k.e k.doing step.action step.peer).0 (λ start. subst (SendShape s k.doing.command) start (shape_of open_it)) (shape_of open_it)
      at (inr starts) = subst (λ ph. Small k.doing.command (turn k.e.me k.doing.command ph (happens o step.local.memory k.e k.doing step.action step.peer).0)) (sym starts.2) (started_small k.doing.command (happens o step.local.memory k.e k.doing step.action step.peer).0)

  pub new_within : attach_bound step.new_driver ≤ 4096 * calls_begun step.new_driver
  new_within = let a = small_within k.doing.command (turn_now sound step) new_small in let b = new_begun sound step in omega (arith, a, b, new_attaches)

  pub old_within : (r : ℕ) (d : DriverPart) → IsDriver s r d → attach_bound d ≤ 4096 * calls_begun d
  old_within r d is = at d.doing refl
    where
      at : (doing : Option Doing) → d.doing ≡ doing → attach_bound d ≤ 4096 * calls_begun d
      at None none = let a = none_attaches d none in let b = none_begun d none in omega (arith, a, b)
      at (Some doing) open_it =
          let a = open_attaches d doing open_it in
          let b = open_begun d doing open_it in
          let c = small_within doing.command (Goes doing.phase) (phase_small doing.command s doing.phase (sound.sends.shape r d doing is open_it)) in
          omega (arith, a, b, c)

  -- where no attach was done by the open command, its calls say it
  other_stays : step.driver.doing ≡ Some k.doing → attaches k.doing.phase ≡ 0 → attach_bound step.driver ≤ attach_bound step.new_driver
  other_stays open_it none =
      let a : attach_bound step.driver ≡ 4096 * length (driver_calls step.driver) + attaches k.doing.phase = ap (λ r. 4096 * length (driver_calls step.driver) + elim r [ None ↦ 0 | Some d ↦ attaches d.phase ]) open_it in
      let b = more_calls (driver_calls step.driver) (driver_calls step.new_driver) (step_adds step) in
      omega (arith, a, b, none)

  -- an open SEND attaches at a place and a handle below 64
  attach_low : (sending : Sending) (place j : ℕ) → SendShape s k.doing.command (Attaching sending place j) → (place < 64) × (j < 64)
  attach_low sending place j sh =
      let a = accepted_within sending.places place sh.1 in
      let b = sh.0.places in
      let c = sh.0.begun.destinations in
      let d = sh.0.begun.send.destinations in
      let e = sh.0.begun.handles in
      let f = sh.0.begun.send.handles in
      let g = sh.2 in
      (omega (arith, a, b, c, d), omega (arith, e, f, g))

  abbrev Stays : Phase → Type 0
  Stays phase = turn_attaches k.doing.command (Goes phase) ≤ turn_attaches k.doing.command (turn k.e.me k.doing.command phase (happens o step.local.memory k.e k.doing step.action step.peer).0)

  by_phase : (phase : Phase) → SendShape s k.doing.command phase → (attaches phase ≡ 0) ⊎ Stays phase
  by_phase (Attaching sending place j) sh = let l = attach_low sending place j sh in inr (attaching_stays k.doing.command k.e.me sending place j l.0 l.1 (happens o step.local.memory k.e k.doing step.action step.peer).0)
  by_phase (Stamping sending) sh = inr (stamping_stays k.doing.command k.e.me sending (happens o step.local.memory k.e k.doing step.action step.peer).0)
  by_phase phase sh = inl refl

  -- none is taken back
  pub attaches_stay : attach_bound step.driver ≤ attach_bound step.new_driver
  attaches_stay = at k.opened.from
    where
      by_case : step.driver.doing ≡ Some k.doing → (attaches k.doing.phase ≡ 0) ⊎ Stays k.doing.phase → attach_bound step.driver ≤ attach_bound step.new_driver
      by_case open_it (inl none) = other_stays open_it none
      by_case open_it (inr stays) = let a = open_attaches step.driver k.doing open_it in omega (arith, a, stays, new_attaches)

      at : From → attach_bound step.driver ≤ attach_bound step.new_driver
      at (inl open_it) = by_case open_it (by_phase k.doing.phase (shape_of open_it))
      at (inr starts) = let a = none_attaches step.driver starts.0 in omega (arith, a, new_attaches)

  -- ---- which event was next

  -- an event that is no drop is that of the phase
  pub action_by : (owed : List OwedDrop) → k.e.owed ≡ owed → (step.action ≡ phase_action k.e.me k.e.shut k.doing.command k.doing.phase) ⊎ ((is_growing step.action ≡ false) × (is_attach step.action ≡ false))
  action_by [] is = inl (k.is_action ∙ next_of k.e k.doing k.opened.is_open is)
  action_by (one ∷ rest) is = let same = k.is_action ∙ next_owed k.e k.doing one rest k.opened.is_open is in inr (ap is_growing same, ap is_attach same)

  -- an attach adds one
  attach_adds : is_attach step.action ≡ true → attach_bound step.driver + 1 ≤ attach_bound step.new_driver
  attach_adds is = at (action_by k.e.owed refl)
    where
      by_place : step.action ≡ phase_action k.e.me k.e.shut k.doing.command k.doing.phase → (sending : Sending) (place j : ℕ) → k.doing.phase ≡ Attaching sending place j → attach_bound step.driver + 1 ≤ attach_bound step.new_driver
      by_place same sending place j phase =
          let open_it = is_open sound step (Attaching sending place j) phase (λ e. absurd (cc e)) in
          let low = attach_low sending place j (shape sound step (Attaching sending place j) phase (λ e. absurd (cc e))) in
          let action : step.action ≡ phase_action k.e.me k.e.shut k.doing.command (Attaching sending place j) = same ∙ ap (phase_action k.e.me k.e.shut k.doing.command) phase in
          let got = attach_answer step.peer (node_of_place sending.begun.with j).serial (node_of_place sending.begun.to place).owner in
          let turn_is : turn_now sound step ≡ turn k.e.me k.doing.command (Attaching sending place j) (out.Attach got) =
          ap (λ a. turn k.e.me k.doing.command k.doing.phase (happens o step.local.memory k.e k.doing a step.peer).0) action ∙ ap (λ ph. turn k.e.me k.doing.command ph (out.Attach got)) phase in
          let a = open_attaches step.driver k.doing open_it in
          let b = ap (λ ph. turn_attaches k.doing.command (Goes ph)) phase in
          let c = ap (turn_attaches k.doing.command) turn_is in
          let d = attaching_more k.doing.command (with_slot sending place j got) place j low.0 low.1 in
          omega (arith, a, b, c, d, new_attaches)

      at : (step.action ≡ phase_action k.e.me k.e.shut k.doing.command k.doing.phase) ⊎ ((is_growing step.action ≡ false) × (is_attach step.action ≡ false)) → attach_bound step.driver + 1 ≤ attach_bound step.new_driver
      at (inr other) = absurd (cc (sym is ∙ other.1))
      at (inl same) = let f = attach_phase k.e.me k.e.shut k.doing.command k.doing.phase (sym (ap is_attach same) ∙ is) in by_place same f.0 f.1 f.2 f.3

  pub attach_adds_by : (b : Bool) → is_attach step.action ≡ b → attach_bound step.driver + cond b 1 0 ≤ attach_bound step.new_driver
  attach_adds_by true is = attach_adds is
  attach_adds_by false is = let a = attaches_stay in omega (arith, a)
