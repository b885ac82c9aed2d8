-- Every step keeps the record legal, where what is taken next is the next entry and has what was sent.
use Rattle.std.proofs.Common.{◌≡◌, refl, sym, ap, subst, ◌∙◌, inl, inr, ℕ, Bool, true, false, cond, List, [], ◌∷◌, length, Option, Some, None}
use Rattle.std.specs.Prelude.{slice_get}
use Rattle.b1_model.specs.declared.commands.Command.{Command}
use Rattle.b1_model.specs.declared.commands.Command.TheVariants as cmd
use Rattle.b1_model.specs.declared.naming.Key.{Key}
use Rattle.b1_model.specs.declared.naming.Opening.{Opening}
use Rattle.b1_model.specs.declared.answers.Answer.{Answer}
use Rattle.b1_model.specs.declared.entries.Entry.{Entry}
use Rattle.b1_model.specs.declared.events.Action.TheVariants as act
use Rattle.b1_model.specs.declared.events.Destruction.{Destruction}
use Rattle.b1_model.specs.declared.events.Phase.TheVariants.{Starting, Stamping, Dooming}
use Rattle.b1_model.specs.declared.events.Sending.{Sending}
use Rattle.b1_model.specs.declared.records.Call.{Call}
use Rattle.b1_model.specs.Names.{calls_of}
use Rattle.b1_model.specs.Legal.{Legal}
use Rattle.b1_model.specs.MachineParts.{DriverPart, State, is_staged}
use Rattle.b1_model.specs.MachineSend.{final_stamp}
use Rattle.b1_model.specs.MachineReceive.{cleared, discards, front_by, front_taken, taken_entry, received}
use Rattle.b1_model.specs.MachineDriver.{send_of, first_action, peer_of, recv_answer}
use Rattle.b1_model.specs.MachineTook.{as_call, stamped_answer, sent_answer, driver_calls}
use Rattle.b1_model.specs.MachineStep.{Step, opening_state, record_of_state}
use Rattle.b1_step.proofs.Numbers.{opening_numbered}
use Rattle.b1_inv.specs.Sound.{IsSound}
use Rattle.b1_ledger.specs.Growth.{Appends}
use Rattle.b1_ledger.proofs.Calls.{legal_received}
use Rattle.b1_inv_record.specs.Right.{IsRight}
use Rattle.b1_inv_tools.proofs.Openings.{opening_idle}
use Rattle.b1_inv_notices.proofs.Turns.{doing_in, parts}
use Rattle.b1_inv_destroys.proofs.Recorded.{calls_by, recorded}
use Rattle.b1_inv_legal.specs.Fronts.{CanTake, taken_answer, FrontIsNext, FrontIsSent}
use Rattle.b1_inv_legal.proofs.Grown.{call_with}
use Rattle.b1_inv_legal.proofs.Adds.{StaysLegal, plain_stays, step_legal}
use Rattle.b1_inv_legal.proofs.Here.{was_open, at_own}
use Rattle.b1_inv_legal.proofs.Sends.{sent_legal}
use Rattle.b1_inv_legal.proofs.Ends.{doomed_legal}

module _ {o : Opening} {s : State} {p : ℕ} {c : Option Command} {t : State} (sound : IsSound o s) (right : IsRight o s) (next : FrontIsNext o s) (sent : FrontIsSent o s) (step : Step o s p c t) where
  abbrev Stays : Answer → Type 0
  Stays got = StaysLegal sound step right.legal got

  -- ---- a receipt

  idle : (parts step).phase ≡ Starting → step.driver.doing ≡ None
  idle is = elim (parts step).was [
    | inl open_is ↦ absurd (sound.sends.shape p step.driver (doing_in (parts step).command Starting) step.is_driver (open_is ∙ ap (λ z. Some (doing_in (parts step).command z)) is))
    | inr new ↦ new.0
  ]

  took : (f : Key × Entry) (rest : List (Key × Entry)) → CanTake s p step.peer f rest → Stays (taken_answer step.peer f rest)
  took f rest can more =
      legal_received o (record_of_state s) (record_of_state t) p (call_with sound step (taken_answer step.peer f rest)) more right.legal (taken_entry (record (cleared step.peer) { queue = rest }) f.0 f.1).0 refl
      (next p step.peer f rest can) (sent p step.peer f rest can)

  at_front : ((f : Key × Entry) (rest : List (Key × Entry)) → (cleared step.peer).queue ≡ f ∷ rest → is_staged f ≡ false → CanTake s p step.peer f rest) → Stays (recv_answer (received step.peer))
  at_front can = by (cleared step.peer).queue refl
    where
      by_staged : (f : Key × Entry) (rest : List (Key × Entry)) → (cleared step.peer).queue ≡ f ∷ rest → (b : Bool) → is_staged f ≡ b → Stays (recv_answer (record { front = (front_by b (cleared step.peer) f rest).0; removed = length (discards step.peer) }))
      by_staged f rest is true staged = plain_stays sound step right.legal _ (refl, refl)
      by_staged f rest is false committed = took f rest (can f rest is committed)

      by : (queue : List (Key × Entry)) → (cleared step.peer).queue ≡ queue → Stays (recv_answer (record { front = (front_taken (cleared step.peer) queue).0; removed = length (discards step.peer) }))
      by [] is = plain_stays sound step right.legal _ (refl, refl)
      by (f ∷ rest) is = by_staged f rest is (is_staged f) refl

  received_stays : (parts step).phase ≡ Starting → step.driver.owed ≡ [] → step.driver.shut ≡ false → first_action (parts step).command ≡ act.Recv → Stays (recv_answer (received step.peer))
  received_stays starting none running receives = at_front (λ f rest is committed. record {
    driver = step.driver;
    is_driver = step.is_driver;
    is_peer = at_own sound step Starting starting none (ap (λ b. peer_of step.driver.me (cond b act.Local (first_action (parts step).command))) running ∙ ap (peer_of step.driver.me) receives);
    idle = idle starting;
    running = running;
    front = is;
    committed = committed;
  })

  -- ---- a stamp

  sent_stays : (sending : Sending) → (parts step).phase ≡ Stamping sending → step.driver.owed ≡ [] → Stays (sent_answer sending (final_stamp step.peer sending.collected))
  sent_stays sending stamping none more =
      let open_is = was_open sound step (Stamping sending) stamping (λ e. cc e) in
      let send : (parts step).command ≡ cmd.Send (send_of (parts step).command) = (sound.sends.shape p step.driver (doing_in (parts step).command (Stamping sending)) step.is_driver open_is).begun.send.is_send in
      sent_legal sound right p step.driver step.peer (send_of (parts step).command) sending step.is_driver (at_own sound step (Stamping sending) stamping none refl)
      (open_is ∙ ap (λ k. Some (doing_in k (Stamping sending))) send)
      (record_of_state t)
      (subst (λ k. Appends (record_of_state s) (record_of_state t) p (record { command = k; answer = sent_answer sending (final_stamp step.peer sending.collected) })) (ap as_call send) more)

  doomed_stays : (d : Destruction) → (parts step).phase ≡ Dooming d → step.driver.owed ≡ [] → step.peer.late ≡ [] → Stays (stamped_answer (parts step).command (final_stamp step.peer d.collected))
  doomed_stays d dooming none late more =
      doomed_legal sound right p step.driver step.peer (parts step).command d step.is_driver (at_own sound step (Dooming d) dooming none refl)
      (was_open sound step (Dooming d) dooming (λ e. cc e)) late (record_of_state t) more

  -- the record after the step is legal
  pub legal_kept : Legal o (record_of_state t)
  legal_kept = step_legal sound step right.legal (record {
    plain = plain_stays sound step right.legal;
    taken = received_stays;
    sent = sent_stays;
    doomed = doomed_stays;
  })

-- ---- where a bus begins

none_called : (o : Opening) (q : ℕ) → calls_of (record_of_state (opening_state o)) q ≡ []
none_called o q = recorded (opening_state o) q (let k = opening_numbered o in k.as_many_peers ∙ sym k.as_many_drivers) ∙ by (slice_get (opening_state o).drivers q) refl
  where
    by : (r : Option DriverPart) → slice_get (opening_state o).drivers q ≡ r → calls_by r ≡ []
    by None is = refl
    by (Some d) is = ap driver_calls (opening_idle o q d is)

-- every bus begins with a legal record
pub legal_begins : (o : Opening) → Legal o (record_of_state (opening_state o))
legal_begins o = record {
  keys = λ p k. record {
    even = λ c stamp at is. absurd (none p k c at);
    once = λ i stamp b c before first second is. absurd (none p i b first);
  };
  order = λ p k i low high b c before first second. absurd (none p i b first);
  prefix = λ p k c at. absurd (none p k c at);
  contents = λ p k c at. absurd (none p k c at);
}
  where
    none : (p k : ℕ) (c : Call) → slice_get (calls_of (record_of_state (opening_state o)) p) k ≡ Some c → ⊥
    none p k c at = let nothing : None ≡ Some c = sym (ap (λ l. slice_get l k) (none_called o p)) ∙ at in absurd (cc nothing)
