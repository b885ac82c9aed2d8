-- A run of a generated script doesn't stall: in the least phase that anybody waits in, more was sent than was taken.
use Rattle.std.proofs.Common.{◌≡◌, ◌≢◌, ◌⊎◌, inl, inr, refl, sym, ap, ◌∙◌, subst, ℕ, zero, suc, ◌+◌, ◌-◌, ◌<◌, ◌≤◌, true, List, [], ◌∷◌, take, length, sum_by, Option, Some, None}
use Rattle.std.specs.Prelude.{slice_get, is_none}
use Rattle.std.specs.List.{list_all, range_with_len}
use Rattle.std.proofs.lemmas.Bool.{cases_lt}
use Rattle.std.proofs.lemmas.Option.{same_Some, slice_get_within}
use Rattle.std.proofs.lemmas.List.{length-map}
use Rattle.std.proofs.lemmas.List.FromFn.{length-range_with_len}
use Rattle.std.proofs.Math.Nat.{mul-one}
use native.Mathlib.Omega.{arith}
use Rattle.b1_model.specs.declared.commands.Command.{Command}
use Rattle.b1_model.specs.declared.commands.Command.TheVariants as cmd
use Rattle.b1_model.specs.declared.records.Call.{Call}
use Rattle.b1_model.specs.declared.events.Doing.{Doing}
use Rattle.b1_model.specs.MachineParts.{PeerPart, DriverPart, State}
use Rattle.b1_model.specs.MachineOrder.{is_idle, no_command_open, next_command, Stuck}
use Rattle.b1_inv.specs.Words.{IsPeer, IsDriver}
use Rattle.b1_inv.specs.Sound.{IsSound}
use Rattle.b1_gen.specs.Generated.{below, peer_count, peer_spec, partners, taken_before, opening_of, generated}
use Rattle.b1_gen.specs.Generated.{commands_of as commands_of_peer}
use Rattle.b1_gen.specs.declared.numbers.TheConstants.{PHASES}
use Rattle.b1_gen.proofs.Rising.{sum_by-below}
use Rattle.b1_gen_runs.specs.Sums.{brought_by, brought_so_far, sent, all_sent, queued_one, queued, got}
use Rattle.b1_gen_runs.specs.States.{RunsWell, one}
use Rattle.b1_gen_runs.specs.Runs.{IsRun}
use Rattle.b1_gen_runs.proofs.Openings.{and_parts}
use Rattle.b1_gen_runs.proofs.Bounds.{times}
use Rattle.b1_gen_runs.proofs.Numbers.{due_before, brings_before, sum_each, both_ways, sum_least, sum_same}
use Rattle.b1_gen_runs.proofs.Scripted.{commands_are, all_before, are_scripted, follows, peer_there}
use Rattle.b1_gen_runs.proofs.Prefixes.{awaits, bring, Waits, waits_at, all_bring}
use Rattle.b1_gen_runs.proofs.Paired.{calls_bring, calls_take}
use Rattle.b1_gen_runs.proofs.Reached.{run_sound, run_well}

-- ---- sums

-- a message that counts as one
pub ones_due : (number p phases : ℕ) → due_before (λ k. 1) number p phases ≡ taken_before number p phases
ones_due number p phases = sum_same (λ k. sum_by (λ r. 1) (partners number k p)) (λ k. length (partners number k p)) (below phases) (λ k has. sum_each 1 (partners number k p) ∙ mul-one (length (partners number k p)))

-- later phases bring no less
brings_rise : (each : ℕ → ℕ) (number q p k j : ℕ) → brings_before each number q k p ≤ brings_before each number q (k + j) p
brings_rise each number q p k zero = ap_le (plus_zero k)
  where
    plus_zero : (m : ℕ) → m ≡ m + 0
    plus_zero m = omega arith

    ap_le : {m n : ℕ} → m ≡ n → brings_before each number q m p ≤ brings_before each number q n p
    ap_le {m} {n} same = subst (λ z. brings_before each number q m p ≤ brings_before each number q z p) same (omega arith)
brings_rise each number q p k (suc j) =
    let a = brings_rise each number q p k j in
    let b = ap (λ m. brings_before each number q m p) (one_more k j) in
    let c = sum_by-below (λ i. times q (each i) (partners number i p)) (k + j) in
    omega (arith, a, b, c)
  where
    one_more : (m i : ℕ) → m + suc i ≡ m + i + 1
    one_more m i = omega arith

pub brings_least : (each : ℕ → ℕ) (number q p k m : ℕ) → k ≤ m → brings_before each number q k p ≤ brings_before each number q m p
brings_least each number q p k m less = let same : k + (m - k) ≡ m = omega (arith, less) in subst (λ z. brings_before each number q k p ≤ brings_before each number q z p) same (brings_rise each number q p k (m - k))

next_least : (a b : ℕ) → a < b → a + 1 ≤ b
next_least a b less = omega (arith, less)

next_both : (a b : ℕ) → a ≤ b → a + 1 ≤ b + 1
next_both a b less = omega (arith, less)

less_before : (a b m : ℕ) → a < b → b < suc m → a < m
less_before a b m low high = omega (arith, low, high)

-- ---- a state without open commands

pub idle_at : (ds : List DriverPart) → list_all is_idle ds ≡ true → (p : ℕ) (d : DriverPart) → slice_get ds p ≡ Some d → d.doing ≡ None
idle_at [] all p d is = absurd (cc is)
idle_at (e ∷ rest) all zero d is = subst (λ (z : DriverPart). z.doing ≡ None) (same_Some e d is) (none_is e.doing (and_parts (is_idle e) (list_all is_idle rest) all).0)
  where
    none_is : (doing : Option Doing) → is_none doing ≡ true → doing ≡ None
    none_is None is = refl
    none_is (Some one_open) is = absurd (cc is)
idle_at (e ∷ rest) all (suc p) d is = idle_at rest (and_parts (is_idle e) (list_all is_idle rest) all).1 p d is

module _ (number : ℕ) (s : State) (run : IsRun number s) (quiet : no_command_open s ≡ true) where
  pub sound : IsSound (opening_of (peer_count number)) s
  sound = run_sound number s run

  pub well : RunsWell number s
  well = run_well number s run

  pub as_many : length s.drivers ≡ peer_count number
  as_many = let k = sound.numbered.as_many_drivers in let m = length-map (below (peer_count number)) peer_spec in let n = length-range_with_len 0 (peer_count number) in omega (arith, k, m, n)

  module _ (p : ℕ) (d : DriverPart) (is : IsDriver s p d) where
    pub less : p < peer_count number
    less = let k = slice_get_within s.drivers p d is in let l = as_many in omega (arith, k, l)

    abbrev commands : List Command
    commands = commands_of_peer number p

    -- what a driver has sent and taken, by its commands
    pub sent_is : (f : ℕ → ℕ) (q : ℕ) → sent f q d ≡ bring f q p (take (length d.calls) commands)
    sent_is f q =
        let k = calls_bring number p commands (are_scripted number p) d.calls (follows number s sound run p d is).calls f q in
        let l = ap (λ me. sum_by (λ (c : Call). brought_by f q me c.command) d.calls) (sound.numbered.drivers p d is) in
        let m = ap {B = ℕ} (λ (doing : Option Doing). elim doing [ None ↦ 0 | Some one_open ↦ brought_so_far f q d.me one_open.command one_open.phase ]) (idle_at s.drivers quiet p d is) in
        omega (arith, k, l, m)

    pub taken_is : got one d ≡ awaits (take (length d.calls) commands) + (length d.calls - length commands)
    taken_is = calls_take number p commands (are_scripted number p) d.calls (follows number s sound run p d is).calls (well.drivers p d is).calls

    pub next_is : next_command (generated number).commands p d ≡ slice_get commands (length d.calls)
    next_is = ap (λ l. slice_get l (length d.calls)) (commands_are number p less)

-- ---- stalls

some_there : (next : Option Command) → next ≢ None → (c : Command) × (next ≡ Some c)
some_there None not_none = absurd (not_none refl)
some_there (Some c) not_none = (c, refl)

pub past_all : {X : Type 0} (xs : List X) (l : ℕ) → slice_get xs l ≡ None → take l xs ≡ xs
past_all [] zero none = refl
past_all [] (suc l) none = refl
past_all (x ∷ xs) zero none = absurd (cc none)
past_all (x ∷ xs) (suc l) none = ap (λ z. x ∷ z) (past_all xs l none)

module _ (number : ℕ) (s : State) (run : IsRun number s) (stuck : Stuck (generated number).commands s) where
  abbrev quiet : no_command_open s ≡ true
  quiet = stuck.none_open

  -- a driver that waits: it stands at an AWAIT of some phase
  record IsWaiting (q : ℕ) (d : DriverPart) : Type 0 where
    at : slice_get (commands_of_peer number q) (length d.calls) ≡ Some cmd.Await
    empty : (x : PeerPart) → IsPeer s q x → x.queue ≡ []
    waits : Waits number q PHASES (take (length d.calls) (commands_of_peer number q))

  waiting_by : (q : ℕ) (d : DriverPart) (x : PeerPart) → IsDriver s q d → IsPeer s q x → (c : Command) → next_command (generated number).commands q d ≡ Some c → IsWaiting q d
  waiting_by q d x is is_peer c next =
      let w = stuck.waiting q d x c is is_peer next in
      let at : slice_get (commands_of_peer number q) (length d.calls) ≡ Some cmd.Await = sym (next_is number s run quiet q d is) ∙ next ∙ ap Some w.1 in
      record {
        at = at;
        empty = λ y is_y. subst (λ (z : PeerPart). z.queue ≡ []) (same_Some x y (sym is_peer ∙ is_y)) w.2;
        waits = subst (λ l. Waits number q PHASES (take (length d.calls) l)) (sym (all_before number q)) (waits_at number q PHASES (length d.calls) (subst (λ l. slice_get l (length d.calls) ≡ Some cmd.Await) (all_before number q) at));
      }

  abbrev AllIn : ℕ → Type 0
  AllIn k = (p : ℕ) (d : DriverPart) → IsDriver s p d → (next_command (generated number).commands p d ≡ None) ⊎ ((w : IsWaiting p d) × (k ≤ w.waits.phase))

  -- where all others have come to a phase, what they sent is more than what this one took
  module _ (q : ℕ) (d : DriverPart) (x : PeerPart) (is : IsDriver s q d) (is_peer : IsPeer s q x) (w : IsWaiting q d) (all : AllIn w.waits.phase) where
    abbrev k : ℕ
    k = w.waits.phase

    at_least : (p : ℕ) (e : DriverPart) → IsDriver s p e → brings_before (λ i. 1) number q (k + 1) p ≤ sent one q e
    at_least p e is_e = elim (all p e is_e) [
      | inl ended ↦
          let a = sent_is number s run quiet p e is_e one q in
          let b = ap (bring one q p) (past_all (commands_of_peer number p) (length e.calls) (sym (next_is number s run quiet p e is_e) ∙ ended) ∙ all_before number p) in
          let c = all_bring number p one q PHASES in
          let l = brings_least (λ i. 1) number q p (k + 1) PHASES (next_least k PHASES w.waits.less) in
          subst (λ z. brings_before (λ i. 1) number q (k + 1) p ≤ z) (sym (a ∙ b ∙ c)) l
      | inr (v, no_less) ↦
          let a = sent_is number s run quiet p e is_e one q in
          let b = v.waits.brings one q in
          let l = brings_least (λ i. 1) number q p (k + 1) (v.waits.phase + 1) (next_both k v.waits.phase no_less) in
          subst (λ z. brings_before (λ i. 1) number q (k + 1) p ≤ z) (sym (a ∙ b)) l
    ]

    due_sent : due_before (λ i. 1) number q (k + 1) ≤ all_sent one q s
    due_sent =
        subst (λ z. z ≤ all_sent one q s) (ap (λ n. sum_by (brings_before (λ i. 1) number q (k + 1)) (range_with_len 0 n)) (as_many number s run quiet) ∙ both_ways (λ i. 1) number q (less number s run quiet q d is) (k + 1))
        (sum_least (sent one q) (brings_before (λ i. 1) number q (k + 1)) s.drivers 0 (λ p e is_e. subst (λ n. brings_before (λ i. 1) number q (k + 1) n ≤ sent one q e) (plus p) (at_least p e is_e)))
      where
        plus : (m : ℕ) → m ≡ 0 + m
        plus m = omega arith

    contradiction : ⊥
    contradiction =
        too_few (due_before (λ i. 1) number q (k + 1)) (all_sent one q s) (taken_before number q (k + 1)) (queued one x) (got one d) (awaits (take (length d.calls) (commands_of_peer number q))) (length d.calls) (length (commands_of_peer number q))
        due_sent (ones_due number q (k + 1)) ((well number s run quiet).balance one q x d is_peer is) (ap (sum_by (queued_one one)) (w.empty x is_peer)) (taken_is number s run quiet q d is) (slice_get_within (commands_of_peer number q) (length d.calls) cmd.Await w.at) w.waits.awaited
      where
        too_few : (due all taken left mine awaited calls many : ℕ) → due ≤ all → due ≡ taken → left + mine ≡ all → left ≡ 0 → mine ≡ awaited + (calls - many) → calls < many → awaited < taken → ⊥
        too_few due all taken left mine awaited calls many a b c d e f g = absurd (omega (arith, a, b, c, d, e, f, g))

  least_first : (m : ℕ) (q : ℕ) (d : DriverPart) (x : PeerPart) → IsDriver s q d → IsPeer s q x → (w : IsWaiting q d) → w.waits.phase < m → ⊥
  least_first zero q d x is is_peer w less = absurd (omega (arith, less))
  least_first (suc m) q d x is is_peer w less =
      contradiction q d x is is_peer w (λ p e is_e.
      let y = peer_there number s (sound number s run quiet) run p e is_e in
      by p e y.0 is_e y.1 (λ v before. least_first m p e y.0 is_e y.1 v before) (next_command (generated number).commands p e) refl)
    where
      by : (p : ℕ) (e : DriverPart) (y : PeerPart) → IsDriver s p e → IsPeer s p y → ((v : IsWaiting p e) → v.waits.phase < m → ⊥) → (next : Option Command) → next_command (generated number).commands p e ≡ next → (next_command (generated number).commands p e ≡ None) ⊎ ((v : IsWaiting p e) × (w.waits.phase ≤ v.waits.phase))
      by p e y is_e is_y earlier None at = inl at
      by p e y is_e is_y earlier (Some c) at =
          let v = waiting_by p e y is_e is_y c at in
          elim (cases_lt v.waits.phase w.waits.phase) [
            | inl before ↦ absurd (earlier v (less_before v.waits.phase w.waits.phase m before less))
            | inr behind ↦ inr (v, behind)
          ]

  pub never : ⊥
  never =
      let p = stuck.some_left.0 in
      let d = stuck.some_left.1 in
      let is = stuck.some_left.2 in
      let c = some_there (next_command (generated number).commands p d) stuck.some_left.3 in
      let y = peer_there number s (sound number s run quiet) run p d is in
      let w = waiting_by p d y.0 is y.1 c.0 c.1 in
      least_first (w.waits.phase + 1) p d y.0 is y.1 w (omega arith)
