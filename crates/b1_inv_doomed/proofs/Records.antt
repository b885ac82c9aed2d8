-- The destructions of the record after a step: the same, or one more where a destruction got its stamp.
use Rattle.std.proofs.Common.{◌≡◌, ◌≢◌, refl, sym, ap, subst, ◌∙◌, inl, inr, ℕ, zero, suc, ◌+◌, List, [], ◌∷◌, ◌++◌, length, Option, Some, None, append-nil}
use Rattle.std.specs.Prelude.{slice_get}
use Rattle.std.proofs.lemmas.Bool.{cases_eq}
use Rattle.std.proofs.lemmas.List.{length-append}
use native.Mathlib.Omega.{arith}
use Rattle.b1_model.specs.declared.answers.Answer.{Answer}
use Rattle.b1_model.specs.declared.answers.Answer.TheVariants as ans
use Rattle.b1_model.specs.declared.commands.Command.{Command}
use Rattle.b1_model.specs.declared.naming.NodeRef.{NodeRef}
use Rattle.b1_model.specs.declared.naming.Opening.{Opening}
use Rattle.b1_model.specs.declared.naming.Wire.{Wire}
use Rattle.b1_model.specs.declared.records.Call.{Call}
use Rattle.b1_model.specs.declared.records.Record.{Record}
use Rattle.b1_model.specs.Names.{Name, calls_of, made}
use Rattle.b1_model.specs.Ledger.{Table, table, Destruction, destruction_by, add_destruction, destructions_before, destructions_of}
use Rattle.b1_model.specs.MachineParts.{State}
use Rattle.b1_model.specs.MachineTook.{driver_calls}
use Rattle.b1_model.specs.MachineStep.{Step, record_of_state}
use Rattle.b1_step.proofs.Lists.{has_at}
use Rattle.b1_step.proofs.Locality.{own_driver, other_driver}
use Rattle.b1_ledger.specs.Growth.{destroy_stamp}
use Rattle.b1_ledger.proofs.Sequences.{slice_get-end}
use Rattle.b1_inv.specs.Sound.{IsSound}
use Rattle.b1_inv_record.specs.Destructions.{doomed_key}
use Rattle.b1_inv_record.specs.Epochs.{doom_from}
use Rattle.b1_inv_record.specs.Numbers.{DestroysOwn}
use Rattle.b1_inv_destroys.proofs.Recorded.{calls_by, recorded, as_many, as_many_after}
use Rattle.b1_inv_destroys.proofs.Dooms.{AllOwn, same_before}
use Rattle.b1_inv_destroys.proofs.Stays.{recorded_own}
use Rattle.b1_inv_notices.proofs.Turns.{parts, going_answer}
use Rattle.b1_inv_doomed.proofs.CalmCalls.{Plain, NoStamp, calm_calls}

-- ---- one peer's calls

no_destruction : (p : ℕ) (known : List Name) (t : Table) (earlier : List Destruction) (c : Command) (a : Answer) → destroy_stamp a ≡ None → destruction_by p known t earlier c a ≡ []
no_destruction p known t earlier c (ans.Destroyed stamp) none = absurd (cc none)
no_destruction p known t earlier c (ans.Reset (Some stamp)) none = absurd (cc none)
no_destruction p known t earlier c (ans.Reset None) none = refl
no_destruction p known t earlier c a none = refl

add_plain : (p : ℕ) (known : List Name) (t : Table) (c : Option Call) (earlier : List Destruction) → ((d : Call) → c ≡ Some d → destroy_stamp d.answer ≡ None) → add_destruction p known t c earlier ≡ earlier
add_plain p known t None earlier none = refl
add_plain p known t (Some d) earlier none = ap (λ ds. earlier ++ ds) (no_destruction p known t earlier d.command d.answer (none d refl)) ∙ append-nil earlier

behind : (xs ys : List Call) (k m : ℕ) (c : Call) → m ≡ k + length xs → slice_get (xs ++ ys) m ≡ Some c → slice_get ys k ≡ Some c
behind [] ys k m c at is = let same : m ≡ k = omega (arith, at) in subst (λ i. slice_get ys i ≡ Some c) same is
behind (x ∷ xs) ys k zero c at is = absurd (omega (arith, at))
behind (x ∷ xs) ys k (suc m) c at is = behind xs ys k m c (omega (arith, at)) is

module _ (ws : List Wire) (r t : Record) (p : ℕ) (more : List Call) (grows : calls_of t p ≡ calls_of r p ++ more) (own : AllOwn (calls_of r p)) where
  plain_before : Plain more → (k m : ℕ) → m ≡ k + length (calls_of r p) → destructions_before ws t p m ≡ destructions_of ws r p
  plain_before plain zero m is =
      let same : m ≡ length (calls_of r p) = omega (arith, is) in
      ap (destructions_before ws t p) same ∙ same_before ws r t p more grows own (length (calls_of r p)) (omega arith)
  plain_before plain (suc k) zero is = absurd (omega (arith, is))
  plain_before plain (suc k) (suc m) is =
      add_plain p (made ws t p m) (table ws t p m) (slice_get (calls_of t p) m) (destructions_before ws t p m)
      (λ d at. plain d (has_at more k d (behind (calls_of r p) more k m d (omega (arith, is)) (ap (λ calls. slice_get calls m) (sym grows) ∙ at))))
      ∙ plain_before plain k m (omega (arith, is))

  pub plain_dooms : Plain more → destructions_of ws t p ≡ destructions_of ws r p
  plain_dooms plain = plain_before plain (length more) (length (calls_of t p)) (let len = ap length grows in let sum = length-append (calls_of r p) more in omega (arith, len, sum))

pub one_dooms : (ws : List Wire) (r t : Record) (p : ℕ) (c : Call) → calls_of t p ≡ calls_of r p ++ c ∷ [] → AllOwn (calls_of r p)
    → destructions_of ws t p ≡ destructions_of ws r p ++ destruction_by p (made ws t p (length (calls_of r p))) (table ws t p (length (calls_of r p))) (destructions_of ws r p) c.command c.answer
one_dooms ws r t p c grows own =
    let len = ap length grows in
    let sum = length-append (calls_of r p) (c ∷ []) in
    let one : length (calls_of t p) ≡ suc (length (calls_of r p)) = omega (arith, len, sum) in
    let n = length (calls_of r p) in
    ap (destructions_before ws t p) one
    ∙ ap (λ z. add_destruction p (made ws t p n) (table ws t p n) z (destructions_before ws t p n)) (ap (λ calls. slice_get calls n) grows ∙ slice_get-end (calls_of r p) c)
    ∙ ap (λ ds. ds ++ destruction_by p (made ws t p n) (table ws t p n) ds c.command c.answer) (same_before ws r t p (c ∷ []) grows own n (omega arith))

-- ---- a step

module _ {o : Opening} {s : State} {p : ℕ} {c : Option Command} {t : State} (sound : IsSound o s) (own : DestroysOwn s) (step : Step o s p c t) where
  pub own_before : (q : ℕ) → AllOwn (calls_of (record_of_state s) q)
  own_before q = subst AllOwn (sym (recorded s q (as_many sound step))) (recorded_own s own q (slice_get s.drivers q) refl)

  -- another driver's calls stay
  pub other_calls : (q : ℕ) → q ≢ p → calls_of (record_of_state t) q ≡ calls_of (record_of_state s) q
  other_calls q apart = recorded t q (as_many_after sound step) ∙ ap calls_by (other_driver step q apart) ∙ sym (recorded s q (as_many sound step))

  -- its own grow as its part's
  pub own_calls : (more : List Call) → driver_calls step.new_driver ≡ driver_calls step.driver ++ more → calls_of (record_of_state t) p ≡ calls_of (record_of_state s) p ++ more
  own_calls more same =
      recorded t p (as_many_after sound step) ∙ ap calls_by (own_driver step) ∙ same
      ∙ ap (λ calls. calls ++ more) (sym (recorded s p (as_many sound step) ∙ ap calls_by step.is_driver))

  pub other_dooms : (q : ℕ) → q ≢ p → destructions_of o.wires (record_of_state t) q ≡ destructions_of o.wires (record_of_state s) q
  other_dooms q apart = plain_dooms o.wires (record_of_state s) (record_of_state t) q [] (other_calls q apart ∙ sym (append-nil (calls_of (record_of_state s) q))) (own_before q) (λ d h. absurd h)

  module _ (none : NoStamp (parts step).phase (going_answer step)) where
    -- where no destruction gets its stamp the record has the same ones
    pub calm_dooms : (q : ℕ) → destructions_of o.wires (record_of_state t) q ≡ destructions_of o.wires (record_of_state s) q
    calm_dooms q = elim (cases_eq q p) [
      | inr apart ↦ other_dooms q apart
      | inl here ↦
          let k = calm_calls step none in
          subst (λ r. destructions_of o.wires (record_of_state t) r ≡ destructions_of o.wires (record_of_state s) r) (sym here)
          (plain_dooms o.wires (record_of_state s) (record_of_state t) p k.0 (own_calls k.0 k.1) (own_before p) k.2)
    ]

    pub calm_keys : (node : NodeRef) → doomed_key o t node ≡ doomed_key o s node
    calm_keys node = ap (doom_from node) (calm_dooms node.owner)
