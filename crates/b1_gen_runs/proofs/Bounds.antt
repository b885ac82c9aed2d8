-- How much is sent to one peer at most, and how many stamps are given.
use Rattle.std.proofs.Common.{◌≡◌, ◌≢◌, ◌⊎◌, inl, inr, refl, sym, ap, subst, ℕ, zero, suc, ◌+◌, ◌*◌, ◌<◌, ◌≤◌, ◌==◌, Bool, true, false, cond, List, [], ◌∷◌, filter, map, length, sum_by, Option, Some, None}
use Rattle.std.specs.Prelude.{slice_get}
use Rattle.std.specs.List.{range_with_len}
use Rattle.std.proofs.lemmas.Bool.{ne_eqb, eq-eqb, cases_eq}
use Rattle.std.proofs.lemmas.List.Sums.{sum_by-cons, sum_by-take-le}
use native.Mathlib.Omega.{arith}
use Rattle.b1_model.specs.declared.commands.Command.{Command}
use Rattle.b1_model.specs.declared.commands.Command.TheVariants as cmd
use Rattle.b1_model.specs.declared.records.Call.{Call}
use Rattle.b1_model.specs.declared.events.Doing.{Doing}
use Rattle.b1_model.specs.declared.events.Phase.{Phase}
use Rattle.b1_model.specs.declared.events.Phase.TheVariants.{Staging, Attaching, Stamping, Syncing, Committing}
use Rattle.b1_model.specs.MachineParts.{DriverPart}
use Rattle.b1_model.specs.MachineDriver.{send_of}
use Rattle.b1_model.specs.MachineTook.{open_call}
use Rattle.b1_step.specs.Rights.{Has}
use Rattle.b1_step.proofs.Lists.{has_left}
use Rattle.b1_gen.specs.Generated.{peer_count, partners, matches, handle_at}
use Rattle.b1_gen_runs.specs.Sums.{owner_of, where_true, brought_by, brought_so_far, sent, is_send, sends, is_stamped, stamps}
use Rattle.b1_gen_runs.specs.Phases.{IsPlain, IsPlainDriver}
use Rattle.b1_gen_runs.specs.States.{one}
use Rattle.b1_gen_runs.proofs.Commands.{IsPartner, partner_is, owner_is}

-- ---- one SEND

-- how often a peer is among some
abbrev pub times : ℕ → ℕ → List ℕ → ℕ
times q each rs = sum_by (λ r. where_true (r == q) each) rs

module _ (q from : ℕ) (F : List ℕ) where
  times_at : (b : Bool) → (from ≡ q) ⊎ (from ≢ q) → (times q 1 F ≤ 1) × (q < from + 1 → times q 1 F ≡ 0) → (times q 1 (cond b (from ∷ F) F) ≤ 1) × (q < from → times q 1 (cond b (from ∷ F) F) ≡ 0)
  times_at false same further = (further.0, λ less. further.1 (omega (arith, less)))
  times_at true (inl same) further =
      let k = sum_by-cons (λ r. where_true (r == q) 1) from F in
      let l = further.1 (omega (arith, same)) in
      let m : where_true (from == q) 1 ≡ 1 = rw (eq-eqb from q same) refl in
      (omega (arith, k, l, m), λ less. absurd (omega (arith, less, same)))
  times_at true (inr apart) further =
      let k = sum_by-cons (λ r. where_true (r == q) 1) from F in
      let m : where_true (from == q) 1 ≡ 0 = rw (ne_eqb from q apart) refl in
      let l = further.0 in
      (omega (arith, k, l, m), λ less. let h = further.1 (omega (arith, less)) in omega (arith, k, h, m))

times_in : (q : ℕ) (test : ℕ → Bool) (from n : ℕ) → (times q 1 (filter test (range_with_len from n)) ≤ 1) × (q < from → times q 1 (filter test (range_with_len from n)) ≡ 0)
times_in q test from zero = (omega arith, λ less. refl)
times_in q test from (suc n) = times_at q from (filter test (range_with_len (from + 1) n)) (test from) (cases_eq from q) (times_in q test (from + 1) n)

pub brought_is : (number p q each : ℕ) (rs : List ℕ) → ((r : ℕ) → Has rs r → IsPartner number p r) → sum_by (λ h. where_true (owner_of p h == q) each) (map (handle_at p) rs) ≡ times q each rs
brought_is number p q each [] are = refl
brought_is number p q each (r ∷ rs) are =
    let k = sum_by-cons (λ h. where_true (owner_of p h == q) each) (handle_at p r) (map (handle_at p) rs) in
    let l = sum_by-cons (λ r. where_true (r == q) each) r rs in
    let m = brought_is number p q each rs (λ y has. are y (inr has)) in
    let n = ap (λ o. where_true (o == q) each) (owner_is p r (are r (inl refl)).apart) in
    omega (arith, k, l, m, n)

brought_once : (number p k q : ℕ) → sum_by (λ h. where_true (owner_of p h == q) 1) (map (handle_at p) (partners number k p)) ≤ 1
brought_once number p k q =
    let e = brought_is number p q 1 (partners number k p) (partner_is number k p) in
    let l = (times_in q (matches number k p) 0 (peer_count number)).0 in
    omega (arith, e, l)

command_few : (number p q : ℕ) (command : Command) → IsPlain number p command → brought_by one q p command ≤ where_true (is_send command) 1
command_few number p q (cmd.Send c) (k, is) = subst (λ command. brought_by one q p command ≤ where_true (is_send command) 1) (sym is) (brought_once number p k q)
command_few number p q cmd.Recv plain = omega arith
command_few number p q cmd.Await plain = omega arith
command_few number p q (cmd.SliceRelease offset) plain = omega arith
command_few number p q command plain = absurd plain

sends_one : (b : Bool) → where_true b 1 ≤ 1
sends_one true = omega arith
sends_one false = omega arith

open_few : (number p q : ℕ) (command : Command) (phase : Phase) → IsPlain number p command → brought_so_far one q p command phase ≤ 1
open_few number p q command (Staging begun places collected) plain =
    let k = sum_by-take-le (λ h. where_true (owner_of p h == q) 1) (send_of command).to (length places) in
    let l = command_few number p q command plain in
    let m = sends_one (is_send command) in
    omega (arith, k, l, m)
open_few number p q command (Attaching sending place handle) plain = let l = command_few number p q command plain in let m = sends_one (is_send command) in omega (arith, l, m)
open_few number p q command (Stamping sending) plain = let l = command_few number p q command plain in let m = sends_one (is_send command) in omega (arith, l, m)
open_few number p q command (Syncing sending stamp place) plain = let l = command_few number p q command plain in let m = sends_one (is_send command) in omega (arith, l, m)
open_few number p q command (Committing sending stamp place) plain = let l = command_few number p q command plain in let m = sends_one (is_send command) in omega (arith, l, m)
open_few number p q command phase plain = omega arith

-- ---- one driver

calls_few : (number p q : ℕ) (calls : List Call) → ((c : Call) → Has calls c → IsPlain number p c.command) → sum_by (λ c. brought_by one q p c.command) calls ≤ sends calls
calls_few number p q [] plain = omega arith
calls_few number p q (c ∷ rest) plain =
    let k = sum_by-cons (λ (c : Call). brought_by one q p c.command) c rest in
    let l = sum_by-cons (λ (c : Call). where_true (is_send c.command) 1) c rest in
    let m = command_few number p q c.command (plain c (inl refl)) in
    let n = calls_few number p q rest (λ a has. plain a (inr has)) in
    omega (arith, k, l, m, n)

pub sent_few : (number p q : ℕ) (d : DriverPart) → d.me ≡ p → IsPlainDriver number p d → sent one q d ≤ 257
sent_few number p q d me plain =
    let k = subst (λ n. sum_by (λ (c : Call). brought_by one q n c.command) d.calls ≤ sends d.calls) (sym me) (calls_few number p q d.calls (λ c has. (plain.calls c (has_left d.calls (open_call d) c has)).command)) in
    let l = open_at d.doing refl in
    let m = plain.few in
    omega (arith, k, l, m)
  where
    open_at : (doing : Option Doing) → d.doing ≡ doing → elim doing [ None ↦ 0 | Some one_open ↦ brought_so_far one q d.me one_open.command one_open.phase ] ≤ 1
    open_at None is = omega arith
    open_at (Some doing) is = subst (λ n. brought_so_far one q n doing.command doing.phase ≤ 1) (sym me) (open_few number p q doing.command doing.phase (plain.doing doing is))

pub stamps_few : (number p : ℕ) (d : DriverPart) → IsPlainDriver number p d → stamps d ≤ 257
stamps_few number p d plain = let l = open_at d.doing in let m = plain.few in omega (arith, l, m)
  where
    open_at : (doing : Option Doing) → elim doing [ None ↦ 0 | Some one_open ↦ where_true (is_stamped one_open.phase) 1 ] ≤ 1
    open_at None = omega arith
    open_at (Some doing) = sends_one (is_stamped doing.phase)

-- ---- all drivers

pub sum_few : {X : Type 0} (f : X → ℕ) (xs : List X) → ((i : ℕ) (x : X) → slice_get xs i ≡ Some x → f x ≤ 257) → sum_by f xs ≤ 257 * length xs
sum_few f [] each = omega arith
sum_few f (x ∷ xs) each =
    let k = sum_by-cons f x xs in
    let l = sum_few f xs (λ i y is. each (suc i) y is) in
    let m = each 0 x refl in
    omega (arith, k, l, m)
