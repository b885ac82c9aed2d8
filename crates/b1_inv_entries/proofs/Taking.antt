-- A RECV that takes the committed front adds its receipt to the record.
use Rattle.std.proofs.Common.{◌≡◌, refl, sym, ap, ◌∙◌, ℕ, Bool, true, false, cond, ◌&&◌, List, [], ◌∷◌, ◌++◌, length, take, append-nil, Option, Some}
use Rattle.std.specs.Prelude.{slice_get}
use Rattle.std.proofs.lemmas.List.{take-append-le}
use native.Mathlib.Omega.{arith}
use Rattle.b1_model.specs.declared.commands.Command.{Command}
use Rattle.b1_model.specs.declared.naming.Key.{Key}
use Rattle.b1_model.specs.declared.naming.Opening.{Opening}
use Rattle.b1_model.specs.declared.answers.Answer.{Answer}
use Rattle.b1_model.specs.declared.answers.Answer.TheVariants as answer
use Rattle.b1_model.specs.declared.answers.Receipt.{Receipt}
use Rattle.b1_model.specs.declared.entries.Entry.{Entry}
use Rattle.b1_model.specs.declared.entries.Entry.TheVariants.{Message, OwnNotice, ForeignNotice, ReleaseNotice}
use Rattle.b1_model.specs.declared.events.Action.TheVariants as act
use Rattle.b1_model.specs.declared.events.Outcome.TheVariants as out
use Rattle.b1_model.specs.declared.events.Phase.TheVariants.{Starting}
use Rattle.b1_model.specs.declared.records.Call.{Call}
use Rattle.b1_model.specs.Names.{calls_of, epoch_in}
use Rattle.b1_model.specs.Ledger.{got_key}
use Rattle.b1_model.specs.MachineParts.{PeerPart, State, is_staged, is_data}
use Rattle.b1_model.specs.MachineReceive.{cleared, front_by, front_taken, has_dead, received, received_part, taken_entry}
use Rattle.b1_model.specs.MachineDriver.{recv_answer, turn}
use Rattle.b1_model.specs.MachineTook.{answer_of, is_await, as_call, call_of, fixed_call}
use Rattle.b1_model.specs.MachineEvents.{happens}
use Rattle.b1_model.specs.MachineStep.{Step, record_of_state}
use Rattle.b1_inv.specs.Sound.{IsSound}
use Rattle.b1_ledger.proofs.Sequences.{slice_get-end, take-end}
use Rattle.b1_inv_record.specs.Epochs.{epoch_now, WasReceivedIn}
use Rattle.b1_inv_notices.proofs.Turns.{parts, going, going_doing, going_action, going_answer}
use Rattle.b1_inv_destroys.proofs.Nodes.{is_recv}
use Rattle.b1_inv_destroys.proofs.Taken.{starting_is}
use Rattle.b1_inv_entries.proofs.AboveTaken.{recv_starting}
use Rattle.b1_inv_entries.proofs.Answers.{turn_answer}
use Rattle.b1_inv_entries.proofs.Keeping.{IsTakenFront}
use Rattle.b1_inv_entries.proofs.NewCalls.{calls_before, calls_after, own_before, own_after}

-- a taken entry's receipt has its key, where it is a message
message_key : (x : PeerPart) (k : Key) (e : Entry) → is_data e ≡ true → got_key (answer.Got (taken_entry x k e).0) ≡ Some k
message_key x k (Message origin user index serial offset len nodes slots handles payload) is = refl
message_key x k (OwnNotice serial index) is = absurd (cc is)
message_key x k (ForeignNotice node index) is = absurd (cc is)
message_key x k (ReleaseNotice serial) is = absurd (cc is)

-- the receipt with a key
abbrev HasReceipt : Key → Answer → Type 0
HasReceipt key got = (one : Receipt) × (got ≡ answer.Got one) × (got_key got ≡ Some key)

front_receipt : (x : PeerPart) (queue : List (Key × Entry)) (f : Key × Entry) (rest : List (Key × Entry)) (removed : ℕ) → queue ≡ f ∷ rest → is_staged f ≡ false → is_data f.1 ≡ true → HasReceipt f.0 (recv_answer (record { front = (front_taken x queue).0; removed = removed }))
front_receipt x [] f rest removed is even data_is = absurd (cc is)
front_receipt x (g ∷ others) f rest removed is even data_is = by (is_staged g) (ap is_staged first ∙ even)
  where
    first : g ≡ f
    first = cc is

    by : (b : Bool) → b ≡ false → HasReceipt f.0 (recv_answer (record { front = (front_by b x g others).0; removed = removed }))
    by true none = absurd (cc none)
    by false none = (
      (taken_entry (record x { queue = others }) g.0 g.1).0,
      refl,
      message_key (record x { queue = others }) g.0 g.1 (ap (λ h. is_data h.1) first ∙ data_is) ∙ ap (λ h. Some h.0) first,
    )

got_call : (command : Command) (one : Receipt) → call_of command (answer.Got one) ≡ record { command = as_call command; answer = answer.Got one } ∷ []
got_call command one = by (is_await command)
  where
    by : (b : Bool) → cond {A = List Call} (b && false) [] (record { command = as_call command; answer = answer.Got one } ∷ []) ≡ record { command = as_call command; answer = answer.Got one } ∷ []
    by true = refl
    by false = refl

module _ {o : Opening} {s : State} {p : ℕ} {c : Option Command} {t : State} (sound : IsSound o s) (step : Step o s p c t) where
  answers : going_action step ≡ act.Recv → going_answer step ≡ out.Recv (received step.peer) (has_dead (received_part step.peer))
  answers is = ap (λ a. (happens o step.local.memory (going step) (going_doing step) a step.peer).0) is

  starting : going_action step ≡ act.Recv → (parts step).phase ≡ Starting
  starting is = starting_is (parts step).phase (recv_starting step.driver (parts step).command (parts step).phase step.driver.owed (ap is_recv is))

  receipt_call : (one : Receipt) → going_action step ≡ act.Recv → recv_answer (received step.peer) ≡ answer.Got one → calls_of (record_of_state t) p ≡ calls_of (record_of_state s) p ++ record { command = as_call (parts step).command; answer = answer.Got one } ∷ []
  receipt_call one is got =
      let turned : turn step.driver.me (parts step).command (parts step).phase (going_answer step) ≡ turn step.driver.me (parts step).command Starting (out.Recv (received step.peer) (has_dead (received_part step.peer))) =
      ap (λ phase. turn step.driver.me (parts step).command phase (going_answer step)) (starting is) ∙ ap (turn step.driver.me (parts step).command Starting) (answers is) in
      own_after sound step ∙ calls_after sound step
      ∙ ap (λ z. step.driver.calls ++ fixed_call (parts step).command (turn_answer (parts step).command z)) turned
      ∙ ap (λ z. step.driver.calls ++ call_of (parts step).command z) got
      ∙ ap (λ l. step.driver.calls ++ l) (got_call (parts step).command one)
      ∙ ap (λ calls. calls ++ record { command = as_call (parts step).command; answer = answer.Got one } ∷ []) (sym (own_before sound step ∙ calls_before sound step ∙ ap (λ phase. step.driver.calls ++ fixed_call (parts step).command (answer_of (parts step).command phase)) (starting is) ∙ append-nil step.driver.calls))

  -- a message that is taken was received in the epoch before the step
  pub taken_received : (f : Key × Entry) → going_action step ≡ act.Recv → IsTakenFront step.peer f → is_data f.1 ≡ true → WasReceivedIn t p (epoch_now s p) f.0
  taken_received f is (rest, front, even) data_is =
      let receipt = front_receipt (cleared step.peer) (cleared step.peer).queue f rest (received step.peer).removed front even data_is in
      let calls = receipt_call receipt.0 is receipt.1 in (
        length (calls_of (record_of_state s) p),
        record { command = as_call (parts step).command; answer = answer.Got receipt.0 },
        ap (λ list. slice_get list (length (calls_of (record_of_state s) p))) calls ∙ slice_get-end (calls_of (record_of_state s) p) _,
        ap got_key (sym receipt.1) ∙ receipt.2,
        ap (λ list. epoch_in 0 (take (length (calls_of (record_of_state s) p)) list)) calls
            ∙ ap (epoch_in 0) (take-append-le (length (calls_of (record_of_state s) p)) (calls_of (record_of_state s) p) _ (omega arith))
            ∙ ap (epoch_in 0) (take-end (calls_of (record_of_state s) p)),
      )
