-- What the calls of a peer come to, by the commands in whose places they stand.
use Rattle.std.proofs.Common.{◌≡◌, refl, sym, ap, ◌∙◌, subst, ℕ, zero, suc, ◌+◌, ◌-◌, ◌*◌, true, List, [], ◌∷◌, take, length, sum_by, Option, Some, None}
use Rattle.std.specs.Prelude.{slice_get}
use Rattle.std.proofs.lemmas.List.Sums.{sum_by-cons, sum_by-append}
use native.Mathlib.Omega.{arith}
use Rattle.b1_model.specs.declared.commands.Command.{Command}
use Rattle.b1_model.specs.declared.commands.Command.TheVariants as cmd
use Rattle.b1_model.specs.declared.answers.Answer.{Answer}
use Rattle.b1_model.specs.declared.answers.Answer.TheVariants as answer
use Rattle.b1_model.specs.declared.answers.Receipt.{Receipt}
use Rattle.b1_model.specs.declared.answers.Receipt.TheVariants as receipt
use Rattle.b1_model.specs.declared.answers.Reason.{Reason}
use Rattle.b1_model.specs.declared.answers.Reason.TheVariants as reason
use Rattle.b1_model.specs.declared.records.Call.{Call}
use Rattle.b1_model.specs.declared.commands.SendCmd.{SendCmd}
use Rattle.b1_model.specs.MachineDriver.{send_of}
use Rattle.b1_model.specs.Script.{resolved, resolved_offset, fits, ends_await, is_receipt, IsInPlace}
use Rattle.b1_model.specs.MachineTook.{is_await}
use Rattle.b1_step.specs.Rights.{Has}
use Rattle.b1_step.proofs.Lists.{has_at}
use Rattle.b1_play_commands.specs.Following.{AllInPlace}
use Rattle.std.specs.List.{flat_map, range_with_len}
use Rattle.b1_gen.specs.Generated.{below, partners, sending, taking, taken_before, phase_commands, commands_before}
use Rattle.b1_gen.proofs.Rising.{commands_before-none, commands_before-more, sum_by-below}
use Rattle.b1_gen_runs.specs.Sums.{where_true, brought_by, got_by}
use Rattle.b1_gen_runs.specs.Phases.{IsGood}
use Rattle.b1_gen_runs.specs.States.{one}
use Rattle.b1_gen_runs.proofs.Scripted.{IsScripted, sending_resolved}
use Rattle.b1_gen_runs.proofs.Prefixes.{awaits, bring}

-- ---- sums over both lists

-- what a command comes to, or a call behind the last command
abbrev value_of : (Command → ℕ) → ℕ → Option Command → ℕ
value_of b extra None = extra
value_of b extra (Some command) = b command

none_taken : (n : ℕ) → take {A = Command} n [] ≡ []
none_taken zero = refl
none_taken (suc n) = refl

sum_pairs : (a : Call → ℕ) (b : Command → ℕ) (calls : List Call) (commands : List Command) → ((k : ℕ) (c : Call) → slice_get calls k ≡ Some c → a c ≡ value_of b 0 (slice_get commands k)) → sum_by a calls ≡ sum_by b (take (length calls) commands)
sum_pairs a b [] [] each = refl
sum_pairs a b [] (d ∷ commands) each = refl
sum_pairs a b (c ∷ calls) [] each =
    let k = sum_by-cons a c calls in
    let l = sum_pairs a b calls [] (λ i e is. each (suc i) e is) in
    let m = each 0 c refl in
    let n = ap (sum_by b) (none_taken (length calls)) in
    let o = ap (sum_by b) (none_taken (length (c ∷ calls))) in
    omega (arith, k, l, m, n, o)
sum_pairs a b (c ∷ calls) (d ∷ commands) each =
    let k = sum_by-cons a c calls in
    let n = sum_by-cons b d (take (length calls) commands) in
    let l = sum_pairs a b calls commands (λ i e is. each (suc i) e is) in
    let m = each 0 c refl in
    let o : sum_by b (take (length (c ∷ calls)) (d ∷ commands)) ≡ sum_by b (d ∷ take (length calls) commands) = refl in
    omega (arith, k, l, m, n, o)

-- where each call behind the last command comes to 1
sum_pairs_more : (a : Call → ℕ) (b : Command → ℕ) (calls : List Call) (commands : List Command) → ((k : ℕ) (c : Call) → slice_get calls k ≡ Some c → a c ≡ value_of b 1 (slice_get commands k)) → sum_by a calls ≡ sum_by b (take (length calls) commands) + (length calls - length commands)
sum_pairs_more a b [] [] each = refl
sum_pairs_more a b [] (d ∷ commands) each = omega arith
sum_pairs_more a b (c ∷ calls) [] each =
    let k = sum_by-cons a c calls in
    let l = sum_pairs_more a b calls [] (λ i e is. each (suc i) e is) in
    let m = each 0 c refl in
    let n = ap (sum_by b) (none_taken (length calls)) in
    let o = ap (sum_by b) (none_taken (length (c ∷ calls))) in
    omega (arith, k, l, m, n, o)
sum_pairs_more a b (c ∷ calls) (d ∷ commands) each =
    let k = sum_by-cons a c calls in
    let n = sum_by-cons b d (take (length calls) commands) in
    let l = sum_pairs_more a b calls commands (λ i e is. each (suc i) e is) in
    let m = each 0 c refl in
    let o : sum_by b (take (length (c ∷ calls)) (d ∷ commands)) ≡ sum_by b (d ∷ take (length calls) commands) = refl in
    omega (arith, k, l, m, n, o)

-- ---- one call

module _ (number p : ℕ) where
  call_brings : (f : ℕ → ℕ) (q : ℕ) (calls : List Call) (next : Option Command) (c : Call) → ((command : Command) → next ≡ Some command → IsScripted number p command) → IsInPlace calls next (Some c) → brought_by f q p c.command ≡ value_of (λ c. brought_by f q p c) 0 next
  call_brings f q calls None c scripted is = ap (brought_by f q p) is.0
  call_brings f q calls (Some cmd.Await) c scripted is = ap (brought_by f q p) is.0
  call_brings f q calls (Some (cmd.Send s)) c scripted is =
      let k = scripted (cmd.Send s) refl in
      ap (brought_by f q p) (is.0 ∙ ap (λ command. resolved command calls) k.1 ∙ sending_resolved number p k.0 calls ∙ sym k.1)
  call_brings f q calls (Some (cmd.SliceRelease offset)) c scripted is = ap (brought_by f q p) is.0
  call_brings f q calls (Some command) c scripted is = absurd (scripted command refl)

shut_is : (r : Reason) (place : Option ℕ) → ends_await (answer.Refused (record { reason = r; place = place })) ≡ true → r ≡ reason.Shutdown
shut_is reason.Shutdown place is = refl
shut_is r place is = absurd (cc is)

receipt_weighs : (r : Receipt) → IsGood cmd.Recv (answer.Got r) → got_by one (answer.Got r) ≡ 1
receipt_weighs (receipt.Message key handle offset handles payload) good = refl
receipt_weighs r good = absurd good

await_weighs : (got : Answer) → IsGood cmd.Recv got → ends_await got ≡ true → got_by one got ≡ 1
await_weighs (answer.Got r) good ends = receipt_weighs r good
await_weighs (answer.Refused refused) good ends = absurd (good (shut_is refused.reason refused.place ends))
await_weighs got good ends = absurd (cc ends)

drain_weighs : (got : Answer) → IsGood cmd.Recv got → is_receipt got ≡ true → got_by one got ≡ 1
drain_weighs (answer.Got r) good is = receipt_weighs r good
drain_weighs got good is = absurd (cc is)

send_weighs : (c : SendCmd) (got : Answer) → IsGood (cmd.Send c) got → got_by one got ≡ 0
send_weighs c (answer.Sent sent) good = refl
send_weighs c got good = absurd good

release_weighs : (offset : ℕ) (got : Answer) → fits (cmd.SliceRelease offset) got ≡ true → got_by one got ≡ 0
release_weighs offset answer.Done fit = refl
release_weighs offset (answer.Refused refused) fit = refl
release_weighs offset got fit = absurd (cc fit)

call_takes : (number p : ℕ) (calls : List Call) (next : Option Command) (c : Call) → ((command : Command) → next ≡ Some command → IsScripted number p command) → IsInPlace calls next (Some c) → IsGood c.command c.answer → got_by one c.answer ≡ value_of (λ c. where_true (is_await c) 1) 1 next
call_takes number p calls None c scripted is good = drain_weighs c.answer (subst (λ z. IsGood z c.answer) is.0 good) is.1
call_takes number p calls (Some cmd.Await) c scripted is good = await_weighs c.answer (subst (λ z. IsGood z c.answer) is.0 good) is.1
call_takes number p calls (Some (cmd.Send s)) c scripted is good = send_weighs (send_of (resolved (cmd.Send s) calls)) c.answer (subst (λ z. IsGood z c.answer) is.0 good)
call_takes number p calls (Some (cmd.SliceRelease offset)) c scripted is good = release_weighs (resolved_offset calls offset) c.answer (subst (λ z. fits z c.answer ≡ true) is.0 is.1)
call_takes number p calls (Some command) c scripted is good = absurd (scripted command refl)

-- ---- all calls

module _ (number p : ℕ) (commands : List Command) (scripted : (c : Command) → Has commands c → IsScripted number p c) (calls : List Call) (placed : AllInPlace commands calls) where
  next_scripted : (k : ℕ) (command : Command) → slice_get commands k ≡ Some command → IsScripted number p command
  next_scripted k command at = scripted command (has_at commands k command at)

  pub calls_bring : (f : ℕ → ℕ) (q : ℕ) → sum_by (λ (c : Call). brought_by f q p c.command) calls ≡ bring f q p (take (length calls) commands)
  calls_bring f q = sum_pairs (λ (c : Call). brought_by f q p c.command) (λ c. brought_by f q p c) calls commands (λ k c is. call_brings number p f q (take k calls) (slice_get commands k) c (next_scripted k) (placed k c is))

  pub calls_take : ((c : Call) → Has calls c → IsGood c.command c.answer) → sum_by (λ (c : Call). got_by one c.answer) calls ≡ awaits (take (length calls) commands) + (length calls - length commands)
  calls_take good = sum_pairs_more (λ (c : Call). got_by one c.answer) (λ c. where_true (is_await c) 1) calls commands (λ k c is. call_takes number p (take k calls) (slice_get commands k) c (next_scripted k) (placed k c is) (good c (has_at calls k c is)))

-- ---- a measure of commands by which only SENDs count

pub record OnlySends (b : Command → ℕ) : Type 0 where
  pub recv : b cmd.Recv ≡ 0
  pub await : b cmd.Await ≡ 0
  pub release : (offset : ℕ) → b (cmd.SliceRelease offset) ≡ 0

module _ (number p : ℕ) (b : Command → ℕ) (only : OnlySends b) where
  call_measures : (calls : List Call) (next : Option Command) (c : Call) → ((command : Command) → next ≡ Some command → IsScripted number p command) → IsInPlace calls next (Some c) → b c.command ≡ value_of b 0 next
  call_measures calls None c scripted is = ap b is.0 ∙ only.recv
  call_measures calls (Some cmd.Await) c scripted is = ap b is.0 ∙ only.recv ∙ sym only.await
  call_measures calls (Some (cmd.Send s)) c scripted is =
      let k = scripted (cmd.Send s) refl in
      ap b (is.0 ∙ ap (λ command. resolved command calls) k.1 ∙ sending_resolved number p k.0 calls ∙ sym k.1)
  call_measures calls (Some (cmd.SliceRelease offset)) c scripted is = ap b is.0 ∙ only.release (resolved_offset calls offset) ∙ sym (only.release offset)
  call_measures calls (Some command) c scripted is = absurd (scripted command refl)

  pub calls_measure : (commands : List Command) → ((c : Command) → Has commands c → IsScripted number p c) → (calls : List Call) → AllInPlace commands calls → sum_by (λ (c : Call). b c.command) calls ≡ sum_by b (take (length calls) commands)
  calls_measure commands scripted calls placed = sum_pairs (λ (c : Call). b c.command) b calls commands (λ k c is. call_measures (take k calls) (slice_get commands k) c (λ command at. scripted command (has_at commands k command at)) (placed k c is))

  takings_measure : (rs : List ℕ) → sum_by b (flat_map taking rs) ≡ 0
  takings_measure [] = refl
  takings_measure (r ∷ rs) =
      let k = sum_by-cons b cmd.Await (cmd.SliceRelease (2 * r + 1) ∷ flat_map taking rs) in
      let l = sum_by-cons b (cmd.SliceRelease (2 * r + 1)) (flat_map taking rs) in
      let m = takings_measure rs in
      let n = only.await in
      let o = only.release (2 * r + 1) in
      omega (arith, k, l, m, n, o)

  pub all_measure : (n : ℕ) → sum_by b (commands_before number p n) ≡ sum_by (λ k. b (sending number p k)) (below n)
  all_measure zero = ap (sum_by b) (commands_before-none number p)
  all_measure (suc n) =
      let a = ap (sum_by b) (ap (commands_before number p) (one_more n) ∙ commands_before-more number p n) in
      let c = sum_by-append b (commands_before number p n) (phase_commands number p n) in
      let d = sum_by-cons b (sending number p n) (flat_map taking (range_with_len (taken_before number p n) (length (partners number n p)))) in
      let e = takings_measure (range_with_len (taken_before number p n) (length (partners number n p))) in
      let f = all_measure n in
      let g = ap (λ m. sum_by (λ k. b (sending number p k)) (below m)) (one_more n) ∙ sum_by-below (λ k. b (sending number p k)) n in
      omega (arith, a, c, d, e, f, g)
    where
      one_more : (m : ℕ) → suc m ≡ m + 1
      one_more m = omega arith
