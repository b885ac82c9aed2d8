-- The serial of the first node of a peer's present epoch: it never falls, and where a flush is still to come it is behind all nodes.
use Rattle.std.proofs.Common.{◌≡◌, refl, sym, ap, ◌∙◌, inl, inr, ℕ, suc, ◌≤◌, Bool, true, false, cond, not, ◌&&◌, nat_lt, List, [], ◌∷◌, ◌++◌, filter, length, Option, Some, None, append-nil}
use Rattle.std.proofs.lemmas.Bool.{lt-ltb, ltb-true}
use Rattle.std.proofs.lemmas.List.{append_assoc}
use native.Mathlib.Omega.{arith}
use Rattle.b1_model.specs.declared.answers.Answer.TheVariants as answer
use Rattle.b1_model.specs.declared.commands.Command.{Command}
use Rattle.b1_model.specs.declared.commands.Command.TheVariants as cmd
use Rattle.b1_model.specs.declared.naming.Opening.{Opening}
use Rattle.b1_model.specs.declared.naming.Wire.{Wire}
use Rattle.b1_model.specs.declared.events.OwedDrop.{OwedDrop}
use Rattle.b1_model.specs.declared.events.Phase.{Phase}
use Rattle.b1_model.specs.declared.events.Phase.TheVariants.{Starting, Flushing}
use Rattle.b1_model.specs.declared.events.Action.TheVariants as act
use Rattle.b1_model.specs.declared.records.Call.{Call}
use Rattle.b1_model.specs.Names.{Name, is_own, is_known, add_new, wired, calls_of, next_epoch, carried_by, made_in, epoch_in}
use Rattle.b1_model.specs.MachineParts.{PeerPart, DriverPart, State}
use Rattle.b1_model.specs.MachineDriver.{is_flushing, first_action, next_action}
use Rattle.b1_model.specs.MachineTook.{call_of, driver_calls}
use Rattle.b1_model.specs.MachineStep.{Step, record_of_state}
use Rattle.b1_ledger.specs.Growth.{all_names}
use Rattle.b1_ledger.proofs.Made.{made_low, wired_low, epoch_grows}
use Rattle.b1_ledger.proofs.Sequences.{Each}
use Rattle.b1_ledger.proofs.Walks.{made_in-append, epoch_in-append}
use Rattle.b1_inv.specs.Words.{IsPeer}
use Rattle.b1_inv.specs.Sound.{IsSound}
use Rattle.b1_inv_record.specs.Epochs.{made_before, first_now}
use Rattle.b1_inv_record.specs.Names.{carried_open, open_numbers}
use Rattle.b1_inv_record.specs.Right.{IsRight}
use Rattle.b1_inv_notices.proofs.Turns.{opened, parts, going_doing, going_action}
use Rattle.b1_inv_destroys.proofs.FirstNode.{is_flush_action}
use Rattle.b1_inv_destroys.proofs.Recorded.{calls_by, recorded, as_many, record_grows}
use Rattle.b1_inv_doomed.proofs.Dying.{as_long}

-- ---- it never falls

abbrev More : List Name → List Name → Type 0
More known names = (extra : List Name) × (names ≡ known ++ extra)

more_new : (e : ℕ) (known : List Name) (ns : List ℕ) → More known (add_new e known ns)
more_new e known [] = ([], sym (append-nil known))
more_new e known (n ∷ ns) = by (is_own n && not (is_known n known)) (λ names. more_new e names ns)
  where
    by : (b : Bool) → ((names : List Name) → More names (add_new e names ns)) → More known (add_new e (cond b (known ++ record { number = n; epoch = e } ∷ []) known) ns)
    by true further = let k = further (known ++ record { number = n; epoch = e } ∷ []) in (record { number = n; epoch = e } ∷ k.0, k.1 ∙ append_assoc known (record { number = n; epoch = e } ∷ []) k.0)
    by false further = further known

more_made : (e : ℕ) (known : List Name) (cs : List Call) → More known (made_in e known cs)
more_made e known [] = ([], sym (append-nil known))
more_made e known (c ∷ cs) =
    let one = more_new e known (carried_by c.command c.answer) in
    let rest = more_made (next_epoch e c.answer) (add_new e known (carried_by c.command c.answer)) cs in
    (one.0 ++ rest.0, rest.1 ∙ ap (λ l. l ++ rest.0) one.1 ∙ append_assoc known one.0 rest.0)

epoch_up : (e : ℕ) (cs : List Call) → e ≤ epoch_in e cs
epoch_up e [] = omega arith
epoch_up e (c ∷ cs) = let one = epoch_grows e c.answer in let rest = epoch_up (next_epoch e c.answer) cs in omega (arith, one, rest)

abbrev below : ℕ → List Name → List Name
below e names = filter (λ m. nat_lt m.epoch e) names

below_more : (a b : ℕ) (known extra : List Name) → a ≤ b → length (below a known) ≤ length (below b (known ++ extra))
below_more a b [] extra low = omega arith
below_more a b (m ∷ ms) extra low = by (nat_lt m.epoch a) refl (below_more a b ms extra low)
  where
    by : (c : Bool) → nat_lt m.epoch a ≡ c → length (below a ms) ≤ length (below b (ms ++ extra)) → length (cond c (m ∷ below a ms) (below a ms)) ≤ length (below b (m ∷ (ms ++ extra)))
    by true is further =
        let under = ltb-true m.epoch a is in
        let too : nat_lt m.epoch b ≡ true = lt-ltb m.epoch b (omega (arith, under, low)) in
        let same : length (below b (m ∷ (ms ++ extra))) ≡ suc (length (below b (ms ++ extra))) = ap (λ c. length (cond c (m ∷ below b (ms ++ extra)) (below b (ms ++ extra)))) too in
        omega (arith, further, same)
    by false is further = at (nat_lt m.epoch b)
      where
        at : (c : Bool) → length (below a ms) ≤ length (cond c (m ∷ below b (ms ++ extra)) (below b (ms ++ extra)))
        at true = omega (arith, further)
        at false = further

before_grows : (ws : List Wire) (p : ℕ) (calls more : List Call) → made_before ws p calls ≤ made_before ws p (calls ++ more)
before_grows ws p calls more =
    let names = more_made (epoch_in 0 calls) (made_in 0 (wired ws p) calls) more in
    let up = epoch_up (epoch_in 0 calls) more in
    let k = below_more (epoch_in 0 calls) (epoch_in (epoch_in 0 calls) more) (made_in 0 (wired ws p) calls) names.0 up in
    let same : made_before ws p (calls ++ more) ≡ length (below (epoch_in (epoch_in 0 calls) more) (made_in 0 (wired ws p) calls ++ names.0)) =
    ap (λ e. length (below e (made_in 0 (wired ws p) (calls ++ more)))) (epoch_in-append 0 calls more)
    ∙ ap (λ l. length (below (epoch_in (epoch_in 0 calls) more) l)) (made_in-append 0 (wired ws p) calls more ∙ names.1) in
    omega (arith, k, same)

-- ---- behind a flush

all_below : (e : ℕ) (names : List Name) → Each (λ m. m.epoch ≤ e) names → length (below (suc e) names) ≡ length names
all_below e [] low = refl
all_below e (m ∷ ms) low =
    ap (λ c. length (cond c (m ∷ below (suc e) ms) (below (suc e) ms))) (lt-ltb m.epoch (suc e) (let k = low.0 in omega (arith, k)))
    ∙ ap suc (all_below e ms low.1)

flushed_all : (ws : List Wire) (p : ℕ) (calls : List Call) (command : Command) (stamp : Option ℕ) → carried_by command (answer.Reset stamp) ≡ []
    → (made_before ws p (calls ++ record { command = command; answer = answer.Reset stamp } ∷ []) ≡ length (made_in 0 (wired ws p) (calls ++ record { command = command; answer = answer.Reset stamp } ∷ [])))
flushed_all ws p calls command stamp none =
    let c : Call = record { command = command; answer = answer.Reset stamp } in
    let names : made_in 0 (wired ws p) (calls ++ c ∷ []) ≡ made_in 0 (wired ws p) calls = made_in-append 0 (wired ws p) calls (c ∷ []) ∙ ap (add_new (epoch_in 0 calls) (made_in 0 (wired ws p) calls)) none in
    ap (λ e. length (below e (made_in 0 (wired ws p) (calls ++ c ∷ [])))) (epoch_in-append 0 calls (c ∷ []))
    ∙ ap (λ l. length (below (suc (epoch_in 0 calls)) l)) names
    ∙ all_below (epoch_in 0 calls) (made_in 0 (wired ws p) calls) (made_low 0 (wired ws p) calls (wired_low ws p))
    ∙ ap length (sym names)

flush_call : (command : Command) (stamp : Option ℕ) → is_flushing command ≡ true → call_of command (answer.Reset stamp) ≡ record { command = command; answer = answer.Reset stamp } ∷ []
flush_call (cmd.Reset limits) stamp is = refl
flush_call cmd.Disconnect stamp is = refl
flush_call command stamp is = absurd (cc is)

none_carried : (command : Command) (stamp : Option ℕ) → is_flushing command ≡ true → carried_by command (answer.Reset stamp) ≡ []
none_carried (cmd.Reset limits) stamp is = refl
none_carried cmd.Disconnect stamp is = refl
none_carried command stamp is = absurd (cc is)

none_open : (command : Command) (stamp : Option ℕ) → carried_open command (Flushing stamp) ≡ []
none_open (cmd.Send c) stamp = refl
none_open command stamp = refl

-- the phase of a flush
flush_phase : (d : DriverPart) (command : Command) (phase : Phase) (owed : List OwedDrop) → is_flush_action (next_action (opened d command phase owed)) ≡ true → (stamp : Option ℕ) × (phase ≡ Flushing stamp)
flush_phase d command phase (one ∷ rest) is = absurd (cc is)
flush_phase d command Starting [] is = absurd (first d.shut command is)
  where
    first : (b : Bool) (c : Command) → is_flush_action (cond b act.Local (first_action c)) ≡ true → ⊥
    first true c no_flush = cc no_flush
    first false cmd.Disconnect no_flush = cc no_flush
    first false c no_flush = cc no_flush
flush_phase d command (Flushing stamp) [] is = (stamp, refl)
flush_phase d command phase [] is = absurd (cc is)

module _ {o : Opening} {s : State} {p : ℕ} {c : Option Command} {t : State} (sound : IsSound o s) (step : Step o s p c t) where
  pub first_grows : (q : ℕ) → first_now o s q ≤ first_now o t q
  first_grows q =
      let more = record_grows sound step q in
      let k = before_grows o.wires q (calls_of (record_of_state s) q) more.0 in
      let same = ap (made_before o.wires q) more.1 in
      omega (arith, k, same)

  module _ (right : IsRight o s) (stamp : Option ℕ) (phase : (parts step).phase ≡ Flushing stamp) where
    open_now : step.driver.doing ≡ Some (going_doing step)
    open_now = elim (parts step).was [
      | inl open_is ↦ open_is
      | inr new ↦ let both : Starting ≡ Flushing stamp = sym new.1 ∙ phase in absurd (cc both)
    ]

    flushing : is_flushing (parts step).command ≡ true
    flushing = right.destructions.flushes.flushes p stamp step.driver (going_doing step) step.is_driver open_now phase

    flush_calls : driver_calls step.driver ≡ step.driver.calls ++ record { command = (parts step).command; answer = answer.Reset stamp } ∷ []
    flush_calls =
        ap (λ doing. driver_calls (record step.driver { doing = doing })) (open_now ∙ ap (λ z. Some (record { command = (parts step).command; phase = z })) phase)
        ∙ ap (λ more. step.driver.calls ++ more) (flush_call (parts step).command stamp flushing)

    all_calls : calls_of (record_of_state s) p ≡ step.driver.calls ++ record { command = (parts step).command; answer = answer.Reset stamp } ∷ []
    all_calls = recorded s p (as_many sound step) ∙ ap calls_by step.is_driver ∙ flush_calls

    all_first : first_now o s p ≡ length (all_names o.wires (record_of_state s) p)
    all_first =
        ap (made_before o.wires p) all_calls ∙ flushed_all o.wires p step.driver.calls (parts step).command stamp (none_carried (parts step).command stamp flushing)
        ∙ ap (λ list. length (made_in 0 (wired o.wires p) list)) (sym all_calls)

    no_open : open_numbers step.driver ≡ []
    no_open = ap (λ doing. elim doing [ None ↦ [] | Some one ↦ carried_open one.command one.phase ]) open_now ∙ ap (carried_open (parts step).command) phase ∙ none_open (parts step).command stamp

    all_behind : (x : PeerPart) → IsPeer s p x → length x.nodes ≤ first_now o s p
    all_behind x is_peer =
        let numbers = right.names.made.made p step.driver x step.is_driver is_peer in
        let long = as_long (add_new x.epoch (all_names o.wires (record_of_state s) p) (open_numbers step.driver)) x.nodes (sym numbers) in
        let same = ap (λ ns. length (add_new x.epoch (all_names o.wires (record_of_state s) p) ns)) no_open in
        omega (arith, all_first, long, same)

  -- where its driver is to flush, all nodes of a peer are of earlier epochs
  pub flush_behind : IsRight o s → is_flush_action (going_action step) ≡ true → (x : PeerPart) → IsPeer s p x → length x.nodes ≤ first_now o s p
  flush_behind right is x is_peer = let flush = flush_phase step.driver (parts step).command (parts step).phase step.driver.owed is in all_behind right flush.0 flush.1 x is_peer
