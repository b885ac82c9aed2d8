-- A node's key stays in the record from a step to the next.
use Rattle.std.proofs.Common.{◌≡◌, refl, sym, subst, ℕ, true, Option, Some, None}
use Rattle.std.specs.Prelude.{slice_get}
use Rattle.b1_model.specs.declared.answers.Answer.{Answer}
use Rattle.b1_model.specs.declared.commands.Command.{Command}
use Rattle.b1_model.specs.declared.events.Doing.{Doing}
use Rattle.b1_model.specs.declared.naming.Key.{Key}
use Rattle.b1_model.specs.declared.naming.NodeRef.{NodeRef}
use Rattle.b1_model.specs.declared.naming.Opening.{Opening}
use Rattle.b1_model.specs.MachineParts.{DriverPart, State}
use Rattle.b1_model.specs.MachineTook.{answer_of, fixed_call, open_by}
use Rattle.b1_model.specs.MachineStep.{Step, record_of_state}
use Rattle.b1_inv.specs.Sound.{IsSound}
use Rattle.b1_inv_record.specs.Destructions.{doomed_key}
use Rattle.b1_inv_record.specs.Numbers.{names_own, is_destroy, may_destroy, DestroysOwn}
use Rattle.b1_inv_destroys.proofs.Recorded.{calls_by, recorded, as_many, record_grows}
use Rattle.b1_inv_destroys.proofs.Dooms.{AllOwn, doom_key_stays}
use Rattle.b1_inv_destroys.proofs.Own.{answer_may, call_own, append_own}

fixed_own : (command : Command) (got : Option Answer) → ((a : Answer) → got ≡ Some a → is_destroy a ≡ true → names_own command ≡ true) → AllOwn (fixed_call command got)
fixed_own command None h = λ c there. absurd there
fixed_own command (Some got) h = call_own command got (h got refl)

open_own : (doing : Option Doing) → ((one : Doing) → doing ≡ Some one → may_destroy one.phase ≡ true → names_own one.command ≡ true) → AllOwn (open_by doing)
open_own None h = λ c there. absurd there
open_own (Some doing) h = fixed_own doing.command (answer_of doing.command doing.phase) (λ a same is. h doing refl (answer_may doing.command doing.phase a same is))

pub recorded_own : (s : State) → DestroysOwn s → (q : ℕ) (d : Option DriverPart) → slice_get s.drivers q ≡ d → AllOwn (calls_by d)
recorded_own s own q None is = λ c there. absurd there
recorded_own s own q (Some d) is = append_own d.calls (open_by d.doing) (λ c h. own.listed q d c is h) (open_own d.doing (λ one open_is. own.opened q d one is open_is))

module _ {o : Opening} {s : State} {p : ℕ} {c : Option Command} {t : State} (sound : IsSound o s) (own : DestroysOwn s) (step : Step o s p c t) where
  pub doomed_stays : (node : NodeRef) (key : Key) → doomed_key o s node ≡ Some key → doomed_key o t node ≡ Some key
  doomed_stays node key is =
      let more = record_grows sound step node.owner in
      doom_key_stays o.wires (record_of_state s) (record_of_state t) node key more.0 more.1
      (subst AllOwn (sym (recorded s node.owner (as_many sound step))) (recorded_own s own node.owner (slice_get s.drivers node.owner) refl)) is
