-- A step as a function and a step as a relation are one.
use mathlib.Core.Path.{ap, sym, subst}
use Rattle.std.specs.Prelude.{◌≡◌, refl, ℕ, Bool, false, List, [], ◌∷◌, ◌++◌, Option, None, Some, slice_get, option_map}
use Rattle.b1_model.specs.declared.commands.Command.{Command}
use Rattle.b1_model.specs.declared.naming.Opening.{Opening}
use Rattle.b1_model.specs.declared.records.Record.{Record}
use Rattle.b1_model.specs.declared.events.Action.{Action}
use Rattle.b1_model.specs.MachineParts.{PeerPart, DriverPart, State}
use Rattle.b1_model.specs.MachineStep.{Label, Leads, Reached, Step, with_parts, stepped_at, stepped_to, stepped_by, stepped, opening_state, record_of_state, target, effect}
use Rattle.b1_step.proofs.RowWords.{played, played_from, LeadsTo}

module _ (o : Opening) (memory : Bool) (p : ℕ) (command : Option Command) (s t : State) where
  step_at : (d : DriverPart) (action : Action) (at : ℕ) (x : Option PeerPart) → slice_get s.drivers p ≡ Some d → target d command ≡ Some (action, at) → slice_get s.peers at ≡ x → stepped_at o memory p command s d at x ≡ Some t → Step o s p command t
  step_at d action at None is_driver is_target is_peer same = absurd (cc same)
  step_at d action at (Some x) is_driver is_target is_peer same =
      let moved : with_parts s p at (effect o memory d command x) ≡ t = cc same in
      record {
        driver = d;
        action = action;
        at = at;
        peer = x;
        new_driver = (effect o memory d command x).0;
        new_peer = (effect o memory d command x).1;
        is_driver = is_driver;
        is_target = is_target;
        is_peer = is_peer;
        local = record { memory = memory; after = refl };
        drivers = ap (λ u. u.drivers) (sym moved);
        peers = ap (λ u. u.peers) (sym moved);
      }

  step_to : (d : DriverPart) (to : Option (Action × ℕ)) → slice_get s.drivers p ≡ Some d → target d command ≡ to → stepped_to o memory p command s d to ≡ Some t → Step o s p command t
  step_to d None is_driver is_target same = absurd (cc same)
  step_to d (Some (action, at)) is_driver is_target same = step_at d action at (slice_get s.peers at) is_driver is_target refl same

  step_by : (d : Option DriverPart) → slice_get s.drivers p ≡ d → stepped_by o memory p command s d ≡ Some t → Step o s p command t
  step_by None is_driver same = absurd (cc same)
  step_by (Some d) is_driver same = step_to d (target d command) is_driver refl same

  -- what the function gives is a step
  pub step_of : stepped o memory p command s ≡ Some t → Step o s p command t
  step_of same = step_by (slice_get s.drivers p) refl same

-- what is played is led to
goes_on : (o : Opening) (l : Label) (rest : List Label) (s t : State) (m : Option State) → stepped o false l.driver l.command s ≡ m → ((u : State) → played_from o (Some u) rest ≡ Some t → Leads o u rest t) → played_from o m rest ≡ Some t → Leads o s (l ∷ rest) t
goes_on o l rest s t None is_m further same = absurd (cc same)
goes_on o l rest s t (Some u) is_m further same = (u, step_of o false l.driver l.command s u is_m, further u same)

pub played_leads : (o : Opening) (steps : List Label) (s t : State) → played_from o (Some s) steps ≡ Some t → Leads o s steps t
played_leads o [] s t same = cc same
played_leads o (l ∷ rest) s t same = goes_on o l rest s t (stepped o false l.driver l.command s) refl (λ u. played_leads o rest u t) same

record_led : (o : Opening) (steps : List Label) (row : Record) (m : Option State) → played o steps ≡ m → option_map (λ s. record_of_state s) m ≡ Some row → LeadsTo o steps row
record_led o steps row None is_m same = absurd (cc same)
record_led o steps row (Some s) is_m same = (s, played_leads o steps (opening_state o) s is_m, cc same)

-- steps that are played to a record lead to it
pub leads_to : (o : Opening) (steps : List Label) (row : Record) → option_map (λ s. record_of_state s) (played o steps) ≡ Some row → LeadsTo o steps row
leads_to o steps row same = record_led o steps row (played o steps) refl same

-- one more step
pub leads_more : (o : Opening) (steps : List Label) (s t u : State) (l : Label) → Leads o s steps t → Step o t l.driver l.command u → Leads o s (steps ++ l ∷ []) u
leads_more o [] s t u l same step = (u, subst (λ v. Step o v l.driver l.command u) (sym same) step, refl)
leads_more o (k ∷ rest) s t u l run step = (run.0, run.1, leads_more o rest run.0 t u l run.2 step)

pub reached_more : (o : Opening) (s t : State) (p : ℕ) (command : Option Command) → Reached o s → Step o s p command t → Reached o t
reached_more o s t p command r step = record { steps = r.steps ++ record { driver = p; command = command } ∷ []; run = leads_more o r.steps (opening_state o) s t (record { driver = p; command = command }) r.run step }
