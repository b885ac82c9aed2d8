use Rattle.std.proofs.Common.{◌≡◌, ℕ, ◌-◌, ◌%◌, ◌≤◌, List, ◌++◌, length, take, cond, Result, Ok, Err, ap, ◌∙◌, append_assoc, arith}
use Rattle.std.specs.Prelude.{replicate, OnOk}
use Rattle.std.specs.Result.{is_ok}
use Rattle.std.proofs.lemmas.List.{take-replicate}
use Rattle.b1_records.specs.Spelling.{rounded}
use Rattle.b1_records.proofs.writing.put_payload.Goals as goal

zeros : (len : ℕ) → take {A = ℕ} ((8 - len % 8) % 8) (replicate 7 0) ≡ replicate (rounded len - len) 0
zeros len =
    let few : (8 - len % 8) % 8 ≤ 7 = omega arith in
    let same : (8 - len % 8) % 8 ≡ rounded len - len = omega arith in
    let list : ℕ → List ℕ = λ n. replicate n 0 in
    take-replicate {X = ℕ} ((8 - len % 8) % 8) 7 0 few ∙ ap list same

on_ok : {A E : Type 0} (r : Result A E) (new x y z : List ℕ) → new ≡ cond (is_ok r) x y → x ≡ z → OnOk r (new ≡ z)
on_ok (Ok a) new x y z h e = h ∙ e
on_ok (Err e') new x y z h e = tt

pub returns-clause-ok : goal.returns-clause-ok
returns-clause-ok c =
    let payload : List ℕ = c.args.payload.now in
    on_ok c.extend_from_slice-2.result c.extend_from_slice-2.new.self.items _ _ _ c.extend_from_slice-2.ensures.items
    (ap (λ (x : List ℕ). x ++ take {A = ℕ} ((8 - length payload % 8) % 8) (replicate 7 0)) c.in_ok-extend_from_slice.ensures.items ∙ append_assoc c.args.out.now.items payload _ ∙ ap (λ (x : List ℕ). c.args.out.now.items ++ (payload ++ x)) (zeros (length payload)))
