-- Words for worked rows of events: the events of steps where memory never fails, computed.
use Rattle.std.proofs.Common.{◌≡◌, refl, sym, ap, ◌∙◌, ℕ, false, List, [], ◌∷◌, Option, Some, None, option_map}
use Rattle.std.specs.Prelude.{slice_get}
use Rattle.b1_model.specs.declared.naming.Opening.{Opening}
use Rattle.b1_model.specs.declared.events.Action.{Action}
use Rattle.b1_model.specs.MachineParts.{PeerPart, DriverPart, State}
use Rattle.b1_model.specs.MachineStep.{Label, Leads, Step, begun, target, effect, with_parts}
use Rattle.b1_model.specs.MachineOrder.{Event, answer_at, event_of, events}

-- the event of a step, and the state after it
abbrev pub heard_at : Opening → Label → State → DriverPart → ℕ → Option PeerPart → Option (Event × State)
heard_at o l s d at None = None
heard_at o l s d at (Some x) = Some (record { driver = l.driver; at = at; outcome = answer_at o false (begun d l.command) x }, with_parts s l.driver at (effect o false d l.command x))

abbrev pub heard_to : Opening → Label → State → DriverPart → Option (Action × ℕ) → Option (Event × State)
heard_to o l s d None = None
heard_to o l s d (Some (action, at)) = heard_at o l s d at (slice_get s.peers at)

abbrev pub heard_by : Opening → Label → State → Option DriverPart → Option (Event × State)
heard_by o l s None = None
heard_by o l s (Some d) = heard_to o l s d (target d l.command)

abbrev pub heard : Opening → Label → State → Option (Event × State)
heard o l s = heard_by o l s (slice_get s.drivers l.driver)

-- the events of steps and the state that they lead to
abbrev pub all_heard : Opening → State → List Label → Option (List Event × State)
all_heard o s [] = Some ([], s)
all_heard o s (l ∷ rest) = elim (heard o l s) [ None ↦ None | Some z ↦ option_map (λ all. (z.0 ∷ all.0, all.1)) (all_heard o z.1 rest) ]

-- the events alone
abbrev pub told_of : Option (List Event × State) → Option (List Event)
told_of None = None
told_of (Some (es, t)) = Some es

-- the steps can be taken from a state, and have these events
abbrev pub Tells : Opening → State → List Label → List Event → Type 0
Tells o s steps es = (t : State) × (run : Leads o s steps t) × (events o s steps t run ≡ es)

-- a step with this event
abbrev pub TellsOne : Opening → Label → State → Event → State → Type 0
TellsOne o l s e t = (step : Step o s l.driver l.command t) × (event_of step ≡ e)

module _ (o : Opening) (l : Label) (s : State) (e : Event) (t : State) where
  one_at : (d : DriverPart) (action : Action) (at : ℕ) (x : Option PeerPart) → slice_get s.drivers l.driver ≡ Some d → target d l.command ≡ Some (action, at) → slice_get s.peers at ≡ x → heard_at o l s d at x ≡ Some (e, t) → TellsOne o l s e t
  one_at d action at None is_driver is_target is_peer same = absurd (cc same)
  one_at d action at (Some x) is_driver is_target is_peer same =
      let found : ◌≡◌ {A = Event × State} (record { driver = l.driver; at = at; outcome = answer_at o false (begun d l.command) x }, with_parts s l.driver at (effect o false d l.command x)) (e, t) = cc same in
      let moved = ap (λ z. z.1) found in (
        record {
          driver = d;
          action = action;
          at = at;
          peer = x;
          new_driver = (effect o false d l.command x).0;
          new_peer = (effect o false d l.command x).1;
          is_driver = is_driver;
          is_target = is_target;
          is_peer = is_peer;
          local = record { memory = false; after = refl };
          drivers = ap (λ u. u.drivers) (sym moved);
          peers = ap (λ u. u.peers) (sym moved);
        },
        ap (λ z. z.0) found,
      )

  one_to : (d : DriverPart) (to : Option (Action × ℕ)) → slice_get s.drivers l.driver ≡ Some d → target d l.command ≡ to → heard_to o l s d to ≡ Some (e, t) → TellsOne o l s e t
  one_to d None is_driver is_target same = absurd (cc same)
  one_to d (Some (action, at)) is_driver is_target same = one_at d action at (slice_get s.peers at) is_driver is_target refl same

  one_by : (d : Option DriverPart) → slice_get s.drivers l.driver ≡ d → heard_by o l s d ≡ Some (e, t) → TellsOne o l s e t
  one_by None is_driver same = absurd (cc same)
  one_by (Some d) is_driver same = one_to d (target d l.command) is_driver refl same

  one_heard : heard o l s ≡ Some (e, t) → TellsOne o l s e t
  one_heard same = one_by (slice_get s.drivers l.driver) refl same

-- what is computed can be taken
pub tells : (o : Opening) (steps : List Label) (s : State) (es : List Event) → told_of (all_heard o s steps) ≡ Some es → Tells o s steps es
tells o [] s es same = (s, refl, cc same)
tells o (l ∷ rest) s es same = by (heard o l s) refl same (λ u more. tells o rest u more)
  where
    goes : (e : Event) (u : State) (more : Option (List Event × State)) → all_heard o u rest ≡ more → heard o l s ≡ Some (e, u) → told_of (option_map {T = List Event × State} (λ all. (e ∷ all.0, all.1)) more) ≡ Some es
        → ((u : State) (more : List Event) → told_of (all_heard o u rest) ≡ Some more → Tells o u rest more) → Tells o s (l ∷ rest) es
    goes e u None is_more is wanted further = absurd (cc wanted)
    goes e u (Some (more, t)) is_more is wanted further =
        let k = one_heard o l s e u is in
        let j = further u more (ap told_of is_more) in
        let whole : e ∷ more ≡ es = cc wanted in
        (j.0, (u, k.0, j.1), ap (λ z. z ∷ events o u rest j.0 j.1) k.1 ∙ ap (λ z. e ∷ z) j.2 ∙ whole)

    by : (m : Option (Event × State)) → heard o l s ≡ m → told_of (elim m [ None ↦ None | Some z ↦ option_map {T = List Event × State} (λ all. (z.0 ∷ all.0, all.1)) (all_heard o z.1 rest) ]) ≡ Some es
        → ((u : State) (more : List Event) → told_of (all_heard o u rest) ≡ Some more → Tells o u rest more) → Tells o s (l ∷ rest) es
    by None is wanted further = absurd (cc wanted)
    by (Some (e, u)) is wanted further = goes e u (all_heard o u rest) refl is wanted further
