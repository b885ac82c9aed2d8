-- A run of a generated script that ended, and what is counted in it.
use Rattle.std.proofs.Common.{◌≡◌, inl, inr, mul-le-mul, sym, ap, ◌∙◌, subst, ℕ, ◌*◌, ◌%◌, ◌≤◌, ◌<◌, List, length, slice_get, sum_by, Some, None, arith}
use Rattle.std.specs.Prelude.{IfOk, Result, Ok, Err}
use Rattle.std.proofs.lemmas.List.Sums.{sum_by-le-sum_by}
use Rattle.std.proofs.lemmas.List.FromFn.{length-range_with_len}
use Rattle.std.proofs.lemmas.Nat.{mod_below}
use Rattle.b1_model.specs.declared.records.Record.{Record}
use Rattle.b1_model.specs.Names.{calls_of}
use Rattle.b1_gen.specs.declared.numbers.TheConstants.{PHASES}
use Rattle.b1_gen.specs.declared.counting.Counts.{Counts}
use Rattle.b1_gen.specs.declared.counting.Quantity.TheVariants.{Sends, Entries, Receipts, Bytes}
use Rattle.b1_gen.specs.Counted.{HasCounts, total, summary_line}
use Rattle.b1_gen.specs.Generated.{below, commands_of, generated, matches, partners, payload_len, peer_count}
use Rattle.b1_gen.proofs.Rising.{filter-few}
use Rattle.b1_gen_runs.specs.Counts.{sends_due, messages_due, bytes_due}
use Rattle.b1_gen_runs.specs.Runs.{HasMemory, IsWholeRun}
use Rattle.b1_gen_runs.proofs.Numbers.{sum_each}
use Rattle.b1_gen_runs.proofs.Reached.{to_all}
use Rattle.b1_gen_runs.proofs.Stalls.{never}
use Rattle.b1_gen_runs.proofs.Totals.{sends_are, entries_are, receipts_are, bytes_are, no_more_calls}
use Rattle.b1_run.specs.Runs.{IsDone, IsStalled}
use Rattle.b1_soak.specs.Soaks.{IsSoaked, IsSoak, counts_due}

-- ---- how much it is at most

pub few_peers : (number : ℕ) → peer_count number ≤ 8
few_peers number = let k : number % 5 < 5 = mod_below number 5 (omega arith) in omega (arith, k)

few_partners : (number k p : ℕ) → length (partners number k p) ≤ 8
few_partners number k p =
    let most : length (partners number k p) ≤ length (below (peer_count number)) = filter-few (matches number k p) (below (peer_count number)) in
    let all : length (below (peer_count number)) ≡ peer_count number = length-range_with_len 0 (peer_count number) in
    omega (arith, most, all, few_peers number)

few_bytes : (k : ℕ) → payload_len k ≤ 64
few_bytes k = let l : k % 8 < 8 = mod_below k 8 (omega arith) in omega (arith, l)

sum_most : (f : ℕ → ℕ) (m n : ℕ) → ((k : ℕ) → f k ≤ m) → sum_by f (below n) ≤ n * m
sum_most f m n most =
    let less : sum_by f (below n) ≤ sum_by (λ k. m) (below n) = sum_by-le-sum_by f (λ k. m) (below n) most in
    let each : sum_by (λ k. m) (below n) ≡ n * m = sum_each m (below n) ∙ ap (λ l. l * m) (length-range_with_len 0 n) in
    subst (λ z. sum_by f (below n) ≤ z) each less

pub few_sends : (number : ℕ) → sends_due number ≤ 2048
few_sends number = let few = few_peers number in omega (arith, few)

pub few_messages : (number : ℕ) → messages_due number ≤ 16384
few_messages number =
    let all : messages_due number ≤ peer_count number * 2048 = sum_most (λ p. sum_by (λ k. length (partners number k p)) (below PHASES)) 2048 (peer_count number)
    (λ p. sum_most (λ k. length (partners number k p)) 8 PHASES (λ k. few_partners number k p)) in
    let few = few_peers number in
    omega (arith, all, few)

pub few_in_all : (number : ℕ) → bytes_due number ≤ 1048576
few_in_all number =
    let all : bytes_due number ≤ peer_count number * 131072 = sum_most (λ p. sum_by (λ k. length (partners number k p) * payload_len k) (below PHASES)) 131072 (peer_count number)
    (λ p. sum_most (λ k. length (partners number k p) * payload_len k) 512 PHASES (λ k. mul-le-mul (few_partners number k p) (few_bytes k))) in
    let few = few_peers number in
    omega (arith, all, few)

-- ---- a run that ended

module _ (number : ℕ) (r : Record) (done : IsDone (generated number) r) (memory : HasMemory r) where
  whole_run : IsWholeRun number done.state
  whole_run = record {
    run = record { reached = done.reached; follows = λ p d is. done.following p d is; memory = subst HasMemory done.record_is memory };
    drained = done.drained;
  }

  pub is_soaked : IsSoaked number r
  is_soaked = record {
    state = done.state;
    run = whole_run;
    record_is = done.record_is;
    legal = done.legal;
    whole = done.whole;
    script = done.script;
    accepted = λ p k c is. to_all number done.state whole_run.run p k c (subst (λ (z : Record). slice_get (calls_of z p) k ≡ Some c) done.record_is is);
    no_drain = λ p within. subst (λ (z : Record). length (calls_of z p) ≡ length (commands_of number p)) (sym done.record_is) (no_more_calls number done.state whole_run.run done.drained p within);
  }

  sends : total Sends r ≡ sends_due number
  sends = ap (total Sends) done.record_is ∙ sends_are number done.state whole_run.run done.drained

  entries : total Entries r ≡ messages_due number
  entries = ap (total Entries) done.record_is ∙ entries_are number done.state whole_run.run done.drained

  receipts : total Receipts r ≡ messages_due number
  receipts = ap (total Receipts) done.record_is ∙ receipts_are number done.state whole_run.run done.drained

  bytes : total Bytes r ≡ bytes_due number
  bytes = ap (total Bytes) done.record_is ∙ bytes_are number done.state whole_run.run done.drained

  pub counted : HasCounts r (Some (counts_due number))
  counted = (sym sends, sym entries, sym receipts, sym bytes)

  -- the counts are those due
  pub due : (counts : Counts) → HasCounts r (Some counts) → counts ≡ counts_due number
  due counts has =
      ap (λ n. record { sends = n; entries = counts.entries; receipts = counts.receipts; bytes = counts.bytes }) (has.0 ∙ sends)
      ∙ ap (λ n. record { sends = sends_due number; entries = n; receipts = counts.receipts; bytes = counts.bytes }) (has.1 ∙ entries)
      ∙ ap (λ n. record { sends = sends_due number; entries = messages_due number; receipts = n; bytes = counts.bytes }) (has.2 ∙ receipts)
      ∙ ap (λ n. record { sends = sends_due number; entries = messages_due number; receipts = messages_due number; bytes = n }) (has.3 ∙ bytes)

  -- none of them is too large
  pub fits : HasCounts r None → ⊥
  fits (inl much) = let few = few_sends number in absurd (omega (arith, much, few, sends))
  fits (inr (inl much)) = let few = few_messages number in absurd (omega (arith, much, few, entries))
  fits (inr (inr (inl much))) = let few = few_messages number in absurd (omega (arith, much, few, receipts))
  fits (inr (inr (inr much))) = let few = few_in_all number in absurd (omega (arith, much, few, bytes))

  pub is_soak : (counts : Counts) (line : List ℕ) → HasCounts r (Some counts) → line ≡ summary_line number (peer_count number) counts → IsSoak number line
  is_soak counts line has is = record {
    run = r;
    soaked = is_soaked;
    counts = counted;
    line_is = is ∙ ap (summary_line number (peer_count number)) (due counts has);
  }

-- ---- where there was memory

pub if_ok : {T E : Type 0} (P Q : T → Type 0) (r : Result T E) → ((x : T) → P x → Q x) → IfOk r P → IfOk r Q
if_ok P Q (Ok x) h p = h x p
if_ok P Q (Err e) h p = p

-- ---- no run stalls

pub no_stall : (number : ℕ) (waiting : List ℕ) (r : Record) → IsStalled (generated number) waiting r → ⊥
no_stall number waiting r stalled = never number stalled.state
    (record { reached = stalled.reached; follows = λ p d is. stalled.following p d is; memory = subst HasMemory stalled.record_is stalled.ample })
    stalled.stuck
