-- A step, and the bit that its state shows afterwards.
use Rattle.std.proofs.Common.{◌≡◌, refl, sym, ap, ◌∙◌, Bool, true, false, List, [], ◌∷◌, length, Option, Some, None, subst}
use Rattle.b1_model.specs.declared.naming.Opening.{Opening}
use Rattle.b1_model.specs.declared.commands.Command.{Command}
use Rattle.b1_model.specs.declared.events.Action.{Action}
use Rattle.b1_model.specs.declared.events.Action.TheVariants as act
use Rattle.b1_model.specs.declared.events.Doing.{Doing}
use Rattle.b1_model.specs.declared.events.Outcome.{Outcome}
use Rattle.b1_model.specs.declared.events.OwedDrop.{OwedDrop}
use Rattle.b1_model.specs.declared.events.Phase.TheVariants.{Starting}
use Rattle.b1_model.specs.MachineParts.{PeerPart, DriverPart}
use Rattle.b1_model.specs.MachineDriver.{turn, phase_action, next_action}
use Rattle.b1_model.specs.MachineTook.{is_await, with_facts, took, took_by, turned}
use Rattle.b1_model.specs.MachineEvents.{happens}
use Rattle.b1_model.specs.MachineStep.{begun_by, effect, effect_by, done_by}
use Rattle.b1_step.specs.Rights.{may_want_memory}
use Rattle.b1_step.proofs.Memory.{same as bits_same}
use Rattle.b1_schedule.specs.Shortage.{Shortage, is_short, is_short_now, place_of}
use Rattle.b1_schedule.specs.Agreement.{is_staging, PhaseAgrees, Agrees}
use Rattle.b1_schedule.proofs.Backward.{TurnAgrees}
use Rattle.b1_schedule.proofs.Turns.{shown_before}
use Rattle.b1_schedule.proofs.Bits.{turned_shows, turned_older, bit_shown}

-- a SEND that stages is no AWAIT
abbrev pub StagesPlainly : Doing → Type 0
StagesPlainly doing = is_staging doing.phase ≡ true → is_await doing.command ≡ false

module _ (m : Shortage) (o : Opening) (e : DriverPart) (doing : Doing) (x : PeerPart) where
  -- the part with its open command shows less than the part after the event
  before : (outcome : Outcome) → e.doing ≡ Some doing → Agrees m (turned (with_facts e doing outcome) doing.command (turn e.me doing.command doing.phase outcome)) → Agrees m e
  before outcome is_open h = record {
    calls = turned_older m (with_facts e doing outcome) doing.command (turn e.me doing.command doing.phase outcome) h;
    doing = λ other is. by_doing other (some_is (sym is_open ∙ is));
  }
    where
      shown : PhaseAgrees m e.me (length e.calls) doing.command doing.phase
      shown = shown_before m e.me (length e.calls) doing.command doing.phase outcome (turned_shows m (with_facts e doing outcome) doing.command (turn e.me doing.command doing.phase outcome) h)

      some_is : {other : Doing} → Some doing ≡ Some other → doing ≡ other
      some_is is = cc is

      by_doing : (other : Doing) → doing ≡ other → PhaseAgrees m e.me (length e.calls) other.command other.phase
      by_doing other is = subst (λ one. PhaseAgrees m e.me (length e.calls) one.command one.phase) is shown

  alike : (b c : Bool) (action : Action) → may_want_memory o e doing x action ≡ false → happens o b e doing action x ≡ happens o c e doing action x
  alike true true action is = refl
  alike true false action is = bits_same o e doing action x is
  alike false true action is = sym (bits_same o e doing action x is)
  alike false false action is = refl

  -- what an event's answer shows, and that it is the same with the bit that is shown
  abbrev Shown : Bool → Action → Type 0
  Shown memory action = TurnAgrees m e.me (length e.calls) doing.command (turn e.me doing.command doing.phase (happens o memory e doing action x).0)

  abbrev Same : Bool → Action → Type 0
  Same memory action = happens o (m e.me (length e.calls) (place_of doing.phase)) e doing action x ≡ happens o memory e doing action x

  by_phase : (memory : Bool) → StagesPlainly doing → Shown memory (phase_action e.me e.shut doing.command doing.phase) → (b : Bool) → b ≡ may_want_memory o e doing x (phase_action e.me e.shut doing.command doing.phase) → Same memory (phase_action e.me e.shut doing.command doing.phase)
  by_phase memory plain h true may = ap (λ bit. happens o bit e doing (phase_action e.me e.shut doing.command doing.phase) x) (bit_shown m o e doing x doing.phase memory refl plain (sym may) h)
  by_phase memory plain h false may = alike (m e.me (length e.calls) (place_of doing.phase)) memory (phase_action e.me e.shut doing.command doing.phase) (sym may)

  -- the event that is next, by what is owed
  abbrev next_by : List OwedDrop → Action
  next_by [] = phase_action e.me e.shut doing.command doing.phase
  next_by (one ∷ rest) = act.DropRefs one.node.owner one.node.serial one.holder one.amount one.clock

  by_owed : (memory : Bool) (owed : List OwedDrop) → StagesPlainly doing → Shown memory (next_by owed) → Same memory (next_by owed)
  by_owed memory [] plain h = by_phase memory plain h (may_want_memory o e doing x (phase_action e.me e.shut doing.command doing.phase)) refl
  by_owed memory (one ∷ rest) plain h = alike (m e.me (length e.calls) (place_of doing.phase)) memory (next_by (one ∷ rest)) refl

  next_is : (owed : List OwedDrop) → elim owed [ [] ↦ phase_action e.me e.shut doing.command doing.phase | drop ∷ rest ↦ act.DropRefs drop.node.owner drop.node.serial drop.holder drop.amount drop.clock ] ≡ next_by owed
  next_is [] = refl
  next_is (one ∷ rest) = refl

  is_next : e.doing ≡ Some doing → next_action e ≡ next_by e.owed
  is_next is_open = ap (λ d. elim d [ None ↦ act.Rest | Some one ↦ elim e.owed [ [] ↦ phase_action e.me e.shut one.command one.phase | drop ∷ rest ↦ act.DropRefs drop.node.owner drop.node.serial drop.holder drop.amount drop.clock ] ]) is_open ∙ next_is e.owed

  -- an event of the open command: what its part shows afterwards, it showed before, and the bit that is shown leads to the same parts
  pub done_back : (memory : Bool) (f : DriverPart) (y : PeerPart) → e.doing ≡ Some doing → StagesPlainly doing → done_by o memory e (Some doing) x ≡ (f, y) → Agrees m f → Agrees m e × (done_by o (is_short_now m e (Some doing)) e (Some doing) x ≡ (f, y))
  done_back memory f y is_open plain after h = (before outcome is_open turned_is, ap (λ r. (took e r.0, r.1)) same ∙ after)
    where
      outcome : Outcome
      outcome = (happens o memory e doing (next_action e) x).0

      took_is : took e outcome ≡ turned (with_facts e doing outcome) doing.command (turn e.me doing.command doing.phase outcome)
      took_is = ap (λ d. took_by e d outcome) is_open

      turned_is : Agrees m (turned (with_facts e doing outcome) doing.command (turn e.me doing.command doing.phase outcome))
      turned_is = subst (Agrees m) (sym (ap (λ pair. pair.0) after) ∙ took_is) h

      shown : Shown memory (next_action e)
      shown = turned_shows m (with_facts e doing outcome) doing.command (turn e.me doing.command doing.phase outcome) turned_is

      same : Same memory (next_action e)
      same = subst (Same memory) (sym (is_next is_open)) (by_owed memory e.owed plain (subst (Shown memory) (is_next is_open) shown))

-- ---- two parts and a beginning command

module _ (m : Shortage) (o : Opening) (memory : Bool) (d : DriverPart) (x : PeerPart) (f : DriverPart) (y : PeerPart) where
  -- the two parts after a step with a bit
  abbrev After : Bool → Option DriverPart → Type 0
  After bit e = effect_by o bit d e x ≡ (f, y)

  abbrev short_at : Option DriverPart → Bool
  short_at e = elim e [ None ↦ false | Some one ↦ is_short_now m one one.doing ]

  first_is : {A B : Type 0} {a c : A} {b d : B} → ◌≡◌ {A = A × B} (a, b) (c, d) → a ≡ c
  first_is is = ap (λ pair. pair.0) is

  by_begin : (doing : Option Doing) (command : Option Command) → d.doing ≡ doing → ((one : Doing) → doing ≡ Some one → StagesPlainly one) → Agrees m f → After memory (begun_by d doing command) → Agrees m d × After (short_at (begun_by d doing command)) (begun_by d doing command)
  by_begin None None is plain h after = (subst (Agrees m) (sym (first_is after)) h, after)
  by_begin (Some doing) (Some c) is plain h after = (subst (Agrees m) (sym (first_is after)) h, after)
  by_begin None (Some c) is plain h after =
      let e = record d { doing = Some (record { command = c; phase = Starting }) } in
      let back = done_back m o e (record { command = c; phase = Starting }) x memory f y refl (λ stages. absurd (cc stages)) after h in
      (record { calls = back.0.calls; doing = λ one at. absurd (cc (is, at)) }, back.1)
  by_begin (Some doing) None is plain h after =
      let back = done_back m o d doing x memory f y is (plain doing refl) (subst (λ one. done_by o memory d one x ≡ (f, y)) is after) h in
      (back.0, subst (λ one. done_by o (is_short_now m d one) d one x ≡ (f, y)) (sym is) back.1)

  -- what the parts after a step show, they showed before, and the bit that they show leads to the same parts
  pub local_back : (command : Option Command) → ((one : Doing) → d.doing ≡ Some one → StagesPlainly one) → effect o memory d command x ≡ (f, y) → Agrees m f → Agrees m d × (effect o (is_short m d command) d command x ≡ (f, y))
  local_back command plain after h = by_begin d.doing command refl plain h after
