-- The first event of a command leads it to a phase of its own, or to an end with an answer of its kind.
use Rattle.std.proofs.Common.{◌≡◌, refl, sym, ap, ◌∙◌, inl, inr, subst, ℕ, Bool, true, false, cond, List, [], ◌∷◌, filter_map, find, Option, Some, None, Ok, Err, Result, option_map}
use Rattle.std.specs.List.{cons_option}
use Rattle.std.proofs.lemmas.Bool.{cond_both}
use Rattle.b1_model.specs.declared.naming.Limits.{Limits}
use Rattle.b1_model.specs.declared.naming.Opening.{Opening}
use Rattle.b1_model.specs.declared.answers.Answer.TheVariants as answer
use Rattle.b1_model.specs.declared.answers.Front.{Front}
use Rattle.b1_model.specs.declared.answers.Reason.{Reason}
use Rattle.b1_model.specs.declared.answers.Reason.TheVariants as reason
use Rattle.b1_model.specs.declared.answers.Receipt.{Receipt}
use Rattle.b1_model.specs.declared.commands.Command.{Command}
use Rattle.b1_model.specs.declared.commands.Command.TheVariants as cmd
use Rattle.b1_model.specs.declared.commands.SendCmd.{SendCmd}
use Rattle.b1_model.specs.declared.parts.Owed.{Owed}
use Rattle.b1_model.specs.declared.events.Action.{Action}
use Rattle.b1_model.specs.declared.events.Action.TheVariants as act
use Rattle.b1_model.specs.declared.events.Doing.{Doing}
use Rattle.b1_model.specs.declared.events.Outcome.TheVariants as out
use Rattle.b1_model.specs.declared.events.OwedDrop.{OwedDrop}
use Rattle.b1_model.specs.declared.events.Phase.{Phase}
use Rattle.b1_model.specs.declared.events.Phase.TheVariants.{Starting}
use Rattle.b1_model.specs.MachineParts.{PeerPart, DriverPart}
use Rattle.b1_model.specs.MachinePool.{is_received}
use Rattle.b1_model.specs.MachineSend.{first_reason, send_refusal}
use Rattle.b1_model.specs.MachineReceive.{received, released}
use Rattle.b1_model.specs.MachineDestroy.{is_not_live, live_serial, destroy_refusal, destroy_serials}
use Rattle.b1_model.specs.MachineDriver.{send_of, refused_at, first_action, next_action, is_flushing, destroying, started, phase_action, turn}
use Rattle.b1_model.specs.MachineEvents.{happens, begin_by, destroy_by, begin_refusal, begin_serials, local_answer, number_of}
use Rattle.b1_inv.specs.Notices.{IsDestroying}
use Rattle.b1_inv_answers.specs.Answers.{EndsWell, PhaseFits, TurnFits}
use Rattle.b1_inv_answers.proofs.Phases.{refused_well, visiting_fits}
use Rattle.b1_inv_tools.proofs.Facts.{next_of, next_owed, destroy_waits}

-- ---- a NODES_DESTROY that isn't refused dooms some node

last_none : (a b c : Option Reason) → first_reason (a ∷ b ∷ c ∷ []) ≡ None → c ≡ None
last_none None None None is = refl
last_none None None (Some r) is = absurd (cc is)
last_none None (Some r) c is = absurd (cc is)
last_none (Some r) b c is = absurd (cc is)

none_found : (found : Option ℕ) → option_map (λ number. reason.Unknown number) found ≡ None → found ≡ None
none_found None is = refl
none_found (Some number) is = absurd (cc is)

first_passes : (b : Bool) (n : ℕ) (rest : Option ℕ) → cond b (Some n) rest ≡ None → b ≡ false
first_passes true n rest is = absurd (cc is)
first_passes false n rest is = refl

some_live : (serial : Option ℕ) (rest : List ℕ) → elim serial [ None ↦ true | Some one ↦ false ] ≡ false → cons_option serial rest ≡ [] → ⊥
some_live None rest live none = cc live
some_live (Some one) rest live none = cc none

some_doomed : (x : PeerPart) (numbers : List ℕ) → destroy_refusal x numbers ≡ None → destroy_serials x numbers ≡ [] → ⊥
some_doomed x [] taken none = cc taken
some_doomed x (n ∷ rest) taken none =
    let unknown = none_found (find (is_not_live x) (n ∷ rest)) (last_none _ _ _ taken) in
    some_live (live_serial x n) (filter_map (live_serial x) rest) (first_passes (is_not_live x n) n (find (is_not_live x) rest) unknown) none

-- ---- by the first event

doomed_fit : (command : Command) (doomed visit : List ℕ) → IsDestroying command → (doomed ≡ [] → is_flushing command ≡ true) → PhaseFits command (destroying doomed visit)
doomed_fit command [] visit k flushes = flushes refl
doomed_fit command (serial ∷ rest) visit k flushes = visiting_fits command (record { doomed = serial ∷ rest; collected = 0; staged = [] }) visit k

destroy_fits : (shut : Bool) (command : Command) (r : Option Reason) (doomed : List ℕ) (x : PeerPart) → IsDestroying command → (r ≡ None → doomed ≡ [] → is_flushing command ≡ true) → TurnFits shut command (started command (destroy_by r doomed x).0)
destroy_fits shut command (Some r) doomed x k flushes = refused_well shut command (destroy_waits command k) (record { reason = r; place = None })
destroy_fits shut command None doomed x k flushes = doomed_fit command doomed _ k (flushes refl)

begin_fits : (shut : Bool) (c : SendCmd) (r : Option Reason) (memory : Bool) (other : SendCmd) (x : PeerPart) → TurnFits shut (cmd.Send c) (started (cmd.Send c) (begin_by r memory other x).0)
begin_fits shut c (Some r) memory other x = (refl, tt)
begin_fits shut c None true other x = (refl, tt)
begin_fits shut c None false other x = λ stops. refl

release_fits : (shut : Bool) (number : ℕ) (got : Result Owed Reason) → TurnFits shut (cmd.Release number) (started (cmd.Release number) (out.Release got))
release_fits shut number (Ok owed) = (refl, tt)
release_fits shut number (Err r) = (refl, tt)

recv_fits : (front : Result Receipt Front) → EndsWell false cmd.Recv (elim front [ Ok receipt ↦ answer.Got receipt | Err one ↦ refused_at (reason.Again one) None ])
recv_fits (Ok receipt) = (refl, tt)
recv_fits (Err one) = (refl, tt)

await_fits : (front : Result Receipt Front) → EndsWell false cmd.Await (elim front [ Ok receipt ↦ answer.Got receipt | Err one ↦ refused_at (reason.Again one) None ])
await_fits (Ok receipt) = inr (inl refl)
await_fits (Err one) = inl refl

query_well : (shut : Bool) (x : PeerPart) → EndsWell shut cmd.Query (local_answer shut cmd.Query x)
query_well true x = (refl, tt)
query_well false x = (refl, tt)

limit_well : (shut : Bool) (limits : Limits) (x : PeerPart) → EndsWell shut (cmd.Limit limits) (local_answer shut (cmd.Limit limits) x)
limit_well true limits x = (refl, tt)
limit_well false limits x = (refl, tt)

slice_well : (shut : Bool) (offset : ℕ) (x : PeerPart) → EndsWell shut (cmd.SliceRelease offset) (local_answer shut (cmd.SliceRelease offset) x)
slice_well true offset x = (refl, tt)
slice_well false offset x = cond_both (is_received offset x.slices) answer.Done (refused_at (reason.Unknown offset) None) (EndsWell false (cmd.SliceRelease offset)) (λ is. (refl, tt)) (λ is. (refl, tt))

shut_well : (command : Command) → EndsWell true command (refused_at reason.Shutdown None)
shut_well cmd.Await = inr (inr (refl, refl))
shut_well cmd.Disconnect = (refl, tt)
shut_well cmd.Query = (refl, tt)
shut_well (cmd.Limit limits) = (refl, tt)
shut_well (cmd.Reset limits) = (refl, tt)
shut_well (cmd.Release number) = (refl, tt)
shut_well (cmd.Destroy numbers) = (refl, tt)
shut_well (cmd.SliceRelease offset) = (refl, tt)
shut_well (cmd.Send c) = (refl, tt)
shut_well cmd.Recv = (refl, tt)

module _ (o : Opening) (memory : Bool) (e : DriverPart) (doing : Doing) (x : PeerPart) where
  first_fits : (command : Command) → doing.command ≡ command → TurnFits e.shut command (started command (happens o memory e doing (first_action command) x).0)
  first_fits cmd.Disconnect same = destroy_fits e.shut cmd.Disconnect (begin_refusal doing.command x) (begin_serials doing.command x) x tt (λ taken none. refl)
  first_fits cmd.Query same = subst (λ c. EndsWell e.shut cmd.Query (local_answer e.shut c x)) (sym same) (query_well e.shut x)
  first_fits (cmd.Limit limits) same = subst (λ c. EndsWell e.shut (cmd.Limit limits) (local_answer e.shut c x)) (sym same) (limit_well e.shut limits x)
  first_fits (cmd.Reset limits) same = destroy_fits e.shut (cmd.Reset limits) (begin_refusal doing.command x) (begin_serials doing.command x) x tt (λ taken none. refl)
  first_fits (cmd.Release number) same = release_fits e.shut number (released x (number_of doing.command))
  first_fits (cmd.Destroy numbers) same =
      destroy_fits e.shut (cmd.Destroy numbers) (begin_refusal doing.command x) (begin_serials doing.command x) x tt
      (λ taken none. absurd (some_doomed x numbers (sym (ap (λ c. begin_refusal c x) same) ∙ taken) (sym (ap (λ c. begin_serials c x) same) ∙ none)))
  first_fits (cmd.SliceRelease offset) same = subst (λ c. EndsWell e.shut (cmd.SliceRelease offset) (local_answer e.shut c x)) (sym same) (slice_well e.shut offset x)
  first_fits (cmd.Send c) same = begin_fits e.shut c (send_refusal x (send_of doing.command)) memory (send_of doing.command) x
  first_fits cmd.Recv same = recv_fits (received x).front
  first_fits cmd.Await same = await_fits (received x).front

  -- a shut driver answers at once
  shut_fits : (b : Bool) → b ≡ e.shut → TurnFits e.shut doing.command (started doing.command (happens o memory e doing (cond b act.Local (first_action doing.command)) x).0)
  shut_fits true is = subst (λ shut. EndsWell shut doing.command (local_answer shut doing.command x)) is (shut_well doing.command)
  shut_fits false is = first_fits doing.command refl

  abbrev Fits : Action → Phase → Type 0
  Fits action phase = TurnFits e.shut doing.command (turn e.me doing.command phase (happens o memory e doing action x).0)

  by_owed : (owed : List OwedDrop) → e.owed ≡ owed → e.doing ≡ Some doing → doing.phase ≡ Starting → Fits (next_action e) Starting
  by_owed [] owes is_open starts = subst (λ action. Fits action Starting) (sym (next_of e doing is_open owes)) (subst (λ phase. Fits (phase_action e.me e.shut doing.command phase) Starting) (sym starts) (shut_fits e.shut refl))
  by_owed (one ∷ rest) owes is_open starts = subst (λ action. Fits action Starting) (sym (next_owed e doing one rest is_open owes)) tt

  pub start_fits : e.doing ≡ Some doing → doing.phase ≡ Starting → Fits (next_action e) doing.phase
  start_fits is_open starts = subst (Fits (next_action e)) (sym starts) (by_owed e.owed refl is_open starts)
