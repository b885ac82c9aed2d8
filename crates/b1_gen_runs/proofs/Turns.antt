-- What a driver's part is after an event, and what a step on two parts moves.
use Rattle.std.proofs.Common.{◌≡◌, ◌⊎◌, inl, inr, refl, sym, ap, ◌∙◌, subst, ℕ, ◌+◌, ◌*◌, ◌≤◌, ◌==◌, Bool, true, false, List, [], ◌∷◌, ◌++◌, append-nil, Option, Some, None}
use Rattle.std.proofs.lemmas.List.Sums.{sum_by_push}
use Rattle.std.proofs.lemmas.Option.{same_Some}
use native.Mathlib.Omega.{arith}
use Rattle.b1_model.specs.declared.commands.Command.{Command}
use Rattle.b1_model.specs.declared.answers.Front.{Front}
use Rattle.b1_model.specs.declared.records.Call.{Call}
use Rattle.b1_model.specs.declared.events.Phase.{Phase}
use Rattle.b1_model.specs.declared.events.Doing.{Doing}
use Rattle.b1_model.specs.MachineParts.{PeerPart, DriverPart}
use Rattle.b1_step.specs.Rights.{Has}
use Rattle.b1_step.proofs.Lists.{has_append}
use Rattle.b1_gen_runs.specs.Sums.{where_true, brought_by, brought_so_far, sent, got_by, got, is_send, sends, is_stamped, stamps}
use Rattle.b1_gen_runs.specs.Phases.{IsGoing, IsGood, GoesWell}
use Rattle.b1_gen_runs.proofs.Events.{Weight, nothing, Effect}

-- a driver that is not shut, owes nothing, and was told of no dead list
abbrev pub driver_at : ℕ → List Call → Option Doing → Option (Front × ℕ) → ℕ → DriverPart
driver_at me calls doing attempted attempts = record { me = me; calls = calls; shut = false; doing = doing; owed = []; told = false; attempted = attempted; attempts = attempts }

-- what a step on a driver's part and a peer's part moves: what came to the peer was sent there, and what left it was taken by its own driver
pub record Moves (bound at : ℕ) (d : DriverPart) (x : PeerPart) (e : DriverPart) (y : PeerPart) : Type 0 where
  pub came : Weight → ℕ
  pub left : Weight → ℕ
  pub effect : Effect x y came left
  pub brings : (f : Weight) (q : ℕ) → sent f q e ≡ sent f q d + where_true (at == q) (came f)
  pub takes : (f : Weight) → got f e ≡ got f d + left f
  pub own : (at ≡ d.me) ⊎ ((f : Weight) → left f ≡ 0)
  pub given : stamps d ≤ stamps e
  pub clock : y.clock + 2 * stamps d ≤ bound + 2 * stamps e
  pub goes : (above : ℕ) → above + 2 * stamps d ≡ bound + 2 * stamps e → GoesWell above e

abbrev pub marks : Phase → ℕ
marks phase = where_true (is_stamped phase) 1

pub where_none : (b : Bool) → where_true b 0 ≡ 0
where_none true = refl
where_none false = refl

module _ (bound me : ℕ) (calls : List Call) (good : (c : Call) → Has calls c → IsGood c.command c.answer) (command : Command) (phase : Phase) (attempted more : Option (Front × ℕ)) (attempts many : ℕ) (at : ℕ) (x y : PeerPart) where
  abbrev D : DriverPart
  D = driver_at me calls (Some (record { command = command; phase = phase })) attempted attempts

  -- the command goes on
  pub goes_on : (next : Phase) (came : Weight → ℕ) → Effect x y came nothing
      → ((f : Weight) (q : ℕ) → brought_so_far f q me command next ≡ brought_so_far f q me command phase + where_true (at == q) (came f))
      → marks phase ≤ marks next → y.clock + 2 * marks phase ≤ bound + 2 * marks next
      → ((above : ℕ) → above + 2 * marks phase ≡ bound + 2 * marks next → IsGoing above me command next)
      → Moves bound at D x (driver_at me calls (Some (record { command = command; phase = next })) more many) y
  goes_on next came effect brings marked clock going = record {
    came = came;
    left = nothing;
    effect = effect;
    brings = λ f q. let k = brings f q in omega (arith, k);
    takes = λ f. omega arith;
    own = inr (λ f. refl);
    given = omega (arith, marked);
    clock = omega (arith, clock);
    goes = λ above same. record {
      shut = refl;
      owed = refl;
      told = refl;
      calls = good;
      going = λ doing is. subst (λ (d : Doing). IsGoing above me d.command d.phase) (same_Some (record { command = command; phase = next }) doing is) (going above (omega (arith, same)));
    };
  }

  -- the command ends as a call
  pub ends : (c : Call) (left : Weight → ℕ) → Effect x y nothing left
      → ((f : Weight) (q : ℕ) → brought_by f q me c.command ≡ brought_so_far f q me command phase)
      → ((f : Weight) → got_by f c.answer ≡ left f) → (at ≡ me) ⊎ ((f : Weight) → left f ≡ 0)
      → (next : ℕ) → where_true (is_send c.command) 1 ≡ next → marks phase ≤ next → y.clock + 2 * marks phase ≤ bound + 2 * next
      → IsGood c.command c.answer
      → Moves bound at D x (driver_at me (calls ++ c ∷ []) None more many) y
  ends c left effect brings gets own next is_next marked clock one = record {
    came = nothing;
    left = left;
    effect = effect;
    brings = λ f q.
        let k = brings f q in
        let l = sum_by_push (λ (c : Call). brought_by f q me c.command) calls c in
        let m = where_none (at == q) in
        omega (arith, k, l, m);
    takes = λ f. let k = gets f in let l = sum_by_push (λ (c : Call). got_by f c.answer) calls c in omega (arith, k, l);
    own = own;
    given = omega (arith, marked, pushed);
    clock = omega (arith, clock, pushed);
    goes = λ above same. record {
      shut = refl;
      owed = refl;
      told = refl;
      calls = λ a has. elim (has_append calls (c ∷ []) a has) [ inl old ↦ good a old | inr new ↦ elim new [ inl same ↦ subst (λ (b : Call). IsGood b.command b.answer) (sym same) one | inr none ↦ absurd none ] ];
      going = λ doing is. absurd (cc is);
    };
  }
    where
      pushed : sends (calls ++ c ∷ []) ≡ sends calls + next
      pushed = sum_by_push (λ (c : Call). where_true (is_send c.command) 1) calls c ∙ ap (λ n. sends calls + n) is_next

  -- an attempt ends without a call
  pub ends_silent : Effect x y nothing nothing → ((f : Weight) (q : ℕ) → brought_so_far f q me command phase ≡ 0) → marks phase ≡ 0 → y.clock ≤ bound
      → Moves bound at D x (driver_at me (calls ++ []) None more many) y
  ends_silent effect brings unmarked clock = subst (λ l. Moves bound at D x (driver_at me l None more many) y) (sym (append-nil calls)) (record {
    came = nothing;
    left = nothing;
    effect = effect;
    brings = λ f q. let k = brings f q in let m = where_none (at == q) in omega (arith, k, m);
    takes = λ f. omega arith;
    own = inr (λ f. refl);
    given = omega (arith, unmarked);
    clock = omega (arith, clock, unmarked);
    goes = λ above same. record { shut = refl; owed = refl; told = refl; calls = good; going = λ doing is. absurd (cc is) };
  })
