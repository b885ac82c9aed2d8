-- What is counted of a drained run of a generated script.
use Rattle.std.proofs.Common.{◌≡◌, get_or, subst, refl, sym, ap, ◌∙◌, ℕ, zero, suc, ◌+◌, ◌-◌, ◌*◌, ◌<◌, ◌≤◌, true, cond, List, [], ◌∷◌, ◌++◌, take, length, sum_by, append-nil, Option, None}
use Rattle.std.specs.Prelude.{slice_get, is_none, count_by}
use Rattle.std.specs.List.{list_all, range_with_len}
use Rattle.std.proofs.lemmas.List.{length-map}
use Rattle.std.proofs.lemmas.List.Sums.{sum_by-cons}
use native.Mathlib.Omega.{arith}
use Rattle.b1_model.specs.declared.commands.Command.{Command}
use Rattle.b1_model.specs.declared.commands.Command.TheVariants as cmd
use Rattle.b1_model.specs.declared.answers.Answer.{Answer}
use Rattle.b1_model.specs.declared.answers.Answer.TheVariants as answer
use Rattle.b1_model.specs.declared.answers.Receipt.TheVariants as receipt
use Rattle.b1_model.specs.declared.answers.Reason.{Reason}
use Rattle.b1_model.specs.declared.records.Call.{Call}
use Rattle.b1_model.specs.declared.records.PeerCalls.{PeerCalls}
use Rattle.b1_model.specs.declared.events.Doing.{Doing}
use Rattle.b1_model.specs.Script.{fits}
use Rattle.b1_model.specs.MachineParts.{PeerPart, DriverPart, State}
use Rattle.b1_model.specs.MachineDriver.{send_of}
use Rattle.b1_model.specs.MachineTook.{driver_calls, open_by}
use Rattle.b1_model.specs.MachineOrder.{no_command_open, DrainedOf}
use Rattle.b1_model.specs.MachineStep.{peer_records, record_of_state, idle_driver}
use Rattle.b1_model.specs.Names.{calls_of}
use Rattle.b1_inv_cover.proofs.Listed.{recorded_calls}
use Rattle.b1_play_commands.specs.Following.{AllInPlace}
use Rattle.std.proofs.lemmas.Option.{slice_get-get_or}
use Rattle.b1_step.specs.Rights.{Has}
use Rattle.b1_step.proofs.Lists.{has_left}
use Rattle.b1_inv.specs.Words.{IsDriver}
use Rattle.b1_gen.specs.declared.counting.Quantity.{Quantity}
use Rattle.b1_gen.specs.declared.counting.Quantity.TheVariants.{Sends, Entries, Receipts, Bytes}
use Rattle.b1_gen.specs.Counted.{worth, total}
use Rattle.b1_gen.specs.Generated.{below, peer_count, partners, handle_at, payload_len, sending, taken_before, generated}
use Rattle.b1_gen.specs.Generated.{commands_of as commands_of_peer}
use Rattle.b1_gen.specs.declared.numbers.TheConstants.{PHASES}
use Rattle.b1_gen_runs.specs.Sums.{where_true, sent, all_sent, queued_one, queued, got_by, got, is_send}
use Rattle.b1_gen_runs.specs.Phases.{IsPlain, IsGood}
use Rattle.b1_gen_runs.specs.States.{one}
use Rattle.b1_gen_runs.specs.Runs.{IsRun, IsSentToAll}
use Rattle.b1_gen_runs.specs.Counts.{sends_due, messages_due, bytes_due}
use Rattle.b1_gen_runs.proofs.Openings.{and_parts}
use Rattle.b1_gen_runs.proofs.Numbers.{due_before, sum_each, brings_before, both_ways, sum_indexed, sum_same}
use Rattle.b1_gen_runs.proofs.Scripted.{all_before, are_scripted, follows, peer_there, run_plain, send_often, sends_in, has_place}
use Rattle.b1_gen_runs.proofs.Prefixes.{awaits, bring, all_bring, all_await}
use Rattle.b1_gen_runs.proofs.Paired.{calls_measure, all_measure}
use Rattle.b1_gen_runs.proofs.Reached.{answers, driver_to_all}
use Rattle.b1_gen_runs.proofs.Stalls.{ones_due, past_all, idle_at, sound, well, as_many, less, sent_is, taken_is, next_is}

-- ---- what an answer counts

receipt_worth : (a : Answer) → worth Receipts a ≡ got_by one a
receipt_worth (answer.Got (receipt.Message key handle offset handles payload)) = refl
receipt_worth (answer.Got r) = refl
receipt_worth a = refl

bytes_worth : (a : Answer) → worth Bytes a ≡ got_by (λ n. n) a
bytes_worth (answer.Got (receipt.Message key handle offset handles payload)) = refl
bytes_worth (answer.Got r) = refl
bytes_worth a = refl

all_none : (places : List (Option Reason)) → list_all is_none places ≡ true → count_by is_none places ≡ length places
all_none [] all = refl
all_none (place ∷ rest) all =
    let k = and_parts (is_none place) (list_all is_none rest) all in
    let l = sum_by-cons (λ (z : Option Reason). cond (is_none z) 1 0) place rest in
    let m = all_none rest k.1 in
    let n = ap {B = ℕ} (λ b. cond b 1 0) k.0 in
    omega (arith, l, m, n)

-- the destinations of a command
abbrev destinations : Command → ℕ
destinations command = length (send_of command).to

send_worth : (number p : ℕ) (command : Command) (got : Answer) → IsPlain number p command → IsGood command got → fits command got ≡ true → worth Sends got ≡ where_true (is_send command) 1
send_worth number p (cmd.Send c) (answer.Sent sent) plain good fit = refl
send_worth number p (cmd.Send c) got plain good fit = absurd good
send_worth number p cmd.Recv (answer.Sent sent) plain good fit = absurd (cc fit)
send_worth number p cmd.Await (answer.Sent sent) plain good fit = absurd (cc fit)
send_worth number p (cmd.SliceRelease offset) (answer.Sent sent) plain good fit = absurd (cc fit)
send_worth number p cmd.Recv got plain good fit = refl
send_worth number p cmd.Await got plain good fit = refl
send_worth number p (cmd.SliceRelease offset) got plain good fit = refl
send_worth number p command got plain good fit = absurd plain

entry_worth : (number p : ℕ) (command : Command) (got : Answer) → IsPlain number p command → IsSentToAll command got → fits command got ≡ true → worth Entries got ≡ destinations command
entry_worth number p (cmd.Send c) (answer.Sent sent) plain all fit = all_none sent.places all.1 ∙ all.0
entry_worth number p (cmd.Send c) got plain all fit = absurd all
entry_worth number p cmd.Recv (answer.Sent sent) plain all fit = absurd (cc fit)
entry_worth number p cmd.Await (answer.Sent sent) plain all fit = absurd (cc fit)
entry_worth number p (cmd.SliceRelease offset) (answer.Sent sent) plain all fit = absurd (cc fit)
entry_worth number p cmd.Recv got plain all fit = refl
entry_worth number p cmd.Await got plain all fit = refl
entry_worth number p (cmd.SliceRelease offset) got plain all fit = refl
entry_worth number p command got plain all fit = absurd plain

-- ---- a record

total_is : (w : Quantity) (xs : List PeerPart) (ds : List DriverPart) → length xs ≡ length ds → sum_by (λ (p : PeerCalls). sum_by (λ (c : Call). worth w c.answer) p.calls) (peer_records xs ds) ≡ sum_by (λ d. sum_by (λ (c : Call). worth w c.answer) (driver_calls d)) ds
total_is w [] [] same = refl
total_is w [] (d ∷ ds) same = absurd (omega (arith, same))
total_is w (x ∷ xs) [] same = absurd (omega (arith, same))
total_is w (x ∷ xs) (d ∷ ds) same =
    let k = sum_by-cons (λ (p : PeerCalls). sum_by (λ (c : Call). worth w c.answer) p.calls) (record { epoch = x.epoch; clock = x.clock; calls = driver_calls d }) (peer_records xs ds) in
    let l = sum_by-cons (λ d. sum_by (λ (c : Call). worth w c.answer) (driver_calls d)) d ds in
    let m = total_is w xs ds (omega (arith, same)) in
    omega (arith, k, l, m)

sum_const : (from n : ℕ) → sum_by (λ (p : ℕ). PHASES) (range_with_len from n) ≡ n * PHASES
sum_const from zero = refl
sum_const from (suc n) = let k = sum_by-cons (λ (p : ℕ). PHASES) from (range_with_len (from + 1) n) in let l = sum_const (from + 1) n in omega (arith, k, l)

module _ (number : ℕ) (s : State) (run : IsRun number s) (drained : DrainedOf (generated number).commands s) where
  abbrev quiet : no_command_open s ≡ true
  quiet = drained.drained.none_open

  -- a count of a record is a sum over the peers
  total_by : (w : Quantity) (g : ℕ → ℕ) → ((p : ℕ) (d : DriverPart) → IsDriver s p d → sum_by (λ (c : Call). worth w c.answer) d.calls ≡ g p) → total w (record_of_state s) ≡ sum_by g (below (peer_count number))
  total_by w g each =
      total_is w s.peers s.drivers ((sound number s run quiet).numbered.as_many_peers ∙ sym (sound number s run quiet).numbered.as_many_drivers)
      ∙ sum_indexed (λ d. sum_by (λ (c : Call). worth w c.answer) (driver_calls d)) g s.drivers 0 at
      ∙ ap (λ n. sum_by g (range_with_len 0 n)) (as_many number s run quiet)
    where
      plus : (m : ℕ) → m ≡ 0 + m
      plus m = omega arith

      at : (p : ℕ) (d : DriverPart) → IsDriver s p d → sum_by (λ (c : Call). worth w c.answer) (driver_calls d) ≡ g (0 + p)
      at p d is =
          ap (λ (doing : Option Doing). sum_by (λ (c : Call). worth w c.answer) (d.calls ++ open_by doing)) (idle_at s.drivers quiet p d is)
          ∙ ap (sum_by (λ (c : Call). worth w c.answer)) (append-nil d.calls) ∙ each p d is ∙ ap g (plus p)

  module _ (p : ℕ) (d : DriverPart) (is : IsDriver s p d) where
    abbrev commands : List Command
    commands = commands_of_peer number p

    ended : slice_get commands (length d.calls) ≡ None
    ended = sym (next_is number s run quiet p d is) ∙ drained.ended p d is

    whole : take (length d.calls) commands ≡ commands
    whole = past_all commands (length d.calls) ended

    -- what was sent
    sent_all : (f : ℕ → ℕ) (q : ℕ) → sent f q d ≡ brings_before (λ k. f (payload_len k)) number q PHASES p
    sent_all f q = sent_is number s run quiet p d is f q ∙ ap (bring f q p) (whole ∙ all_before number p) ∙ all_bring number p f q PHASES

  sent_to : (f : ℕ → ℕ) (q : ℕ) → q < peer_count number → all_sent f q s ≡ due_before (λ k. f (payload_len k)) number q PHASES
  sent_to f q within =
      sum_indexed (sent f q) (brings_before (λ k. f (payload_len k)) number q PHASES) s.drivers 0 (λ p d is. sent_all p d is f q ∙ ap (brings_before (λ k. f (payload_len k)) number q PHASES) (plus p))
      ∙ ap (λ n. sum_by (brings_before (λ k. f (payload_len k)) number q PHASES) (range_with_len 0 n)) (as_many number s run quiet)
      ∙ both_ways (λ k. f (payload_len k)) number q within PHASES
    where
      plus : (m : ℕ) → m ≡ 0 + m
      plus m = omega arith

  module _ (p : ℕ) (d : DriverPart) (is : IsDriver s p d) where
    -- what was taken
    got_all : (f : ℕ → ℕ) → got f d ≡ due_before (λ k. f (payload_len k)) number p PHASES
    got_all f =
        let x = peer_there number s (sound number s run quiet) run p d is in
        let k = (well number s run quiet).balance f p x.0 d x.1 is in
        let l = ap (sum_by (queued_one f)) (drained.drained.empty p d x.0 is x.1 ((well number s run quiet).drivers p d is).shut) in
        let m = sent_to f p (less number s run quiet p d is) in
        nothing_left (queued f x.0) (got f d) (all_sent f p s) (due_before (λ k. f (payload_len k)) number p PHASES) k l m
      where
        nothing_left : (left mine all due : ℕ) → left + mine ≡ all → left ≡ 0 → all ≡ due → mine ≡ due
        nothing_left left mine all due a b c = omega (arith, a, b, c)

    as_many_calls : length d.calls ≡ length (commands_of_peer number p)
    as_many_calls =
        same_length (length d.calls) (length (commands_of_peer number p)) (got one d) (awaits (commands_of_peer number p)) (taken_before number p PHASES)
        (got_all one ∙ ones_due number p PHASES) (ap awaits (all_before number p) ∙ all_await number p PHASES)
        (taken_is number s run quiet p d is ∙ ap (λ l. awaits l + (length d.calls - length (commands_of_peer number p))) (whole p d is)) (past_end (commands_of_peer number p) (length d.calls) (ended p d is))
      where
        same_length : (calls many mine awaited taken : ℕ) → mine ≡ taken → awaited ≡ taken → mine ≡ awaited + (calls - many) → many ≤ calls → calls ≡ many
        same_length calls many mine awaited taken a b c e = omega (arith, a, b, c, e)

        past_end : {X : Type 0} (xs : List X) (i : ℕ) → slice_get xs i ≡ None → length xs ≤ i
        past_end [] i none = omega arith
        past_end (x ∷ xs) zero none = absurd (cc none)
        past_end (x ∷ xs) (suc i) none = omega (arith, past_end xs i none)

    fit : (c : Call) → Has d.calls c → fits c.command c.answer ≡ true
    fit c has = let k = has_place d.calls c has in ((answers number s run p d is).calls k.0 c k.1).0

    plain_call : (c : Call) → Has d.calls c → IsPlain number p c.command
    plain_call c has = ((run_plain number s (sound number s run quiet) run p d is).calls c (has_left d.calls (open_by d.doing) c has)).command

    sends_all : sum_by (λ (c : Call). worth Sends c.answer) d.calls ≡ PHASES
    sends_all =
        sum_same (λ (c : Call). worth Sends c.answer) (λ (c : Call). where_true (is_send c.command) 1) d.calls (λ c has. send_worth number p c.command c.answer (plain_call c has) (((well number s run quiet).drivers p d is).calls c has) (fit c has))
        ∙ calls_measure number p (λ c. where_true (is_send c) 1) (record { recv = refl; await = refl; release = λ offset. refl }) (commands_of_peer number p) (are_scripted number p) d.calls (follows number s (sound number s run quiet) run p d is).calls
        ∙ ap sends_in (whole p d is) ∙ send_often number p

    entries_all : sum_by (λ (c : Call). worth Entries c.answer) d.calls ≡ due_before (λ k. 1) number p PHASES
    entries_all =
        sum_same (λ (c : Call). worth Entries c.answer) (λ (c : Call). destinations c.command) d.calls (λ c has. entry_worth number p c.command c.answer (plain_call c has) (driver_to_all number s run p d is c (has_left d.calls (open_by d.doing) c has)) (fit c has))
        ∙ calls_measure number p destinations (record { recv = refl; await = refl; release = λ offset. refl }) (commands_of_peer number p) (are_scripted number p) d.calls (follows number s (sound number s run quiet) run p d is).calls
        ∙ ap (sum_by destinations) (whole p d is ∙ all_before number p)
        ∙ all_measure number p destinations (record { recv = refl; await = refl; release = λ offset. refl }) PHASES
        ∙ sum_same (λ k. destinations (sending number p k)) (λ k. length (partners number k p)) (below PHASES) (λ k has. length-map (partners number k p) (handle_at p))
        ∙ sym (ones_due number p PHASES)

  -- ---- the counts

  pub sends_are : total Sends (record_of_state s) ≡ sends_due number
  sends_are = total_by Sends (λ p. PHASES) sends_all ∙ sum_const 0 (peer_count number)

  pub entries_are : total Entries (record_of_state s) ≡ messages_due number
  entries_are = total_by Entries (λ p. taken_before number p PHASES) (λ p d is. entries_all p d is ∙ ones_due number p PHASES)

  pub receipts_are : total Receipts (record_of_state s) ≡ messages_due number
  receipts_are = total_by Receipts (λ p. taken_before number p PHASES) (λ p d is. sum_same (λ (c : Call). worth Receipts c.answer) (λ (c : Call). got_by one c.answer) d.calls (λ c has. receipt_worth c.answer) ∙ got_all p d is one ∙ ones_due number p PHASES)

  pub bytes_are : total Bytes (record_of_state s) ≡ bytes_due number
  bytes_are =
      total_by Bytes (λ p. sum_by (λ k. length (partners number k p) * payload_len k) (below PHASES)) (λ p d is.
      sum_same (λ (c : Call). worth Bytes c.answer) (λ (c : Call). got_by (λ n. n) c.answer) d.calls (λ c has. bytes_worth c.answer) ∙ got_all p d is (λ n. n)
      ∙ sum_same (λ k. sum_by (λ (r : ℕ). payload_len k) (partners number k p)) (λ k. length (partners number k p) * payload_len k) (below PHASES) (λ k has. sum_each (payload_len k) (partners number k p)))

  -- ---- the calls

  module _ (p : ℕ) (within : p < peer_count number) where
    there : (d : DriverPart) × IsDriver s p d
    there = (get_or s.drivers p (idle_driver 0), slice_get-get_or s.drivers p (idle_driver 0) (let k = as_many number s run quiet in omega (arith, k, within)))

    calls_are : calls_of (record_of_state s) p ≡ there.0.calls
    calls_are =
        let x = peer_there number s (sound number s run quiet) run p there.0 there.1 in
        recorded_calls s p x.0 there.0 x.1 there.1
        ∙ ap (λ (doing : Option Doing). there.0.calls ++ open_by doing) (idle_at s.drivers quiet p there.0 there.1) ∙ append-nil there.0.calls

    pub no_more_calls : length (calls_of (record_of_state s) p) ≡ length (commands_of_peer number p)
    no_more_calls = ap length calls_are ∙ as_many_calls p there.0 there.1

    pub calls_in_place : AllInPlace (commands_of_peer number p) (calls_of (record_of_state s) p)
    calls_in_place = subst (AllInPlace (commands_of_peer number p)) (sym calls_are) (follows number s (sound number s run quiet) run p there.0 there.1).calls

-- ---- the counts of one number

seven_sends : sends_due 7 ≡ 1536
seven_sends = refl

seven_messages : messages_due 7 ≡ 5120
seven_messages = refl

seven_bytes : bytes_due 7 ≡ 184320
seven_bytes = refl
