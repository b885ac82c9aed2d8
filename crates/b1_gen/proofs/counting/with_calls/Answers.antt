use Rattle.std.proofs.Common.{◌≡◌, ◌+◌, ◌≤◌, ◌<◌, take, Some, sym, ap, ◌∙◌, arith}
use Rattle.std.specs.List.{sum_by}
use Rattle.std.proofs.lemmas.List.{take_all}
use Rattle.b1_model.specs.declared.records.Call.{Call}
use Rattle.b1_gen.specs.Counted.{worth}
use Rattle.b1_gen.proofs.Sums.{within-small, within-large, sum-more, sum-most}
use Rattle.b1_gen.proofs.counting.with_calls.Goals as goal

pub returns-in_err-sum : goal.returns-in_err-sum
returns-in_err-sum c =
    let f = λ (k : Call). worth c.args.quantity k.answer in
    let most : sum_by f (take c.loop-call.call-index c.args.calls.now) + f c.call-item.result ≤ sum_by f c.args.calls.now = sum-most f c.args.calls.now c.loop-call.call-index c.call-item.result (omega arith) c.call-item.is in
    let past : c.loop-call.sum + c.worth_of.result < 18446744073709551616 → ⊥ = c.in_err-sum.ensures in
    let so_far = c.loop-call.invariant.0 in
    let here = c.worth_of.ensures in
    c.from_residual.ensures ∙ sym (within-large (c.args.count + sum_by f c.args.calls.now) (omega arith))

pub loop-call-preserved : goal.loop-call-preserved
loop-call-preserved c =
    let f = λ (k : Call). worth c.args.quantity k.answer in
    let more : sum_by f (take (c.loop-call.call-index + 1) c.args.calls.now) ≡ sum_by f (take c.loop-call.call-index c.args.calls.now) + f c.call-item.result = sum-more f c.args.calls.now c.loop-call.call-index c.call-item.result (omega arith) c.call-item.is in
    let so_far = c.loop-call.invariant.0 in
    let here = c.worth_of.ensures in
    let added = c.in_ok-sum.ensures in
    (omega arith, omega arith)

pub returns : goal.returns
returns c =
    let f = λ (k : Call). worth c.args.quantity k.answer in
    let all : take c.loop-call.call-index c.args.calls.now ≡ c.args.calls.now = take_all _ _ (omega arith) in
    let sum : c.loop-call.sum ≡ c.args.count + sum_by f c.args.calls.now = c.loop-call.invariant.0 ∙ ap (λ l. c.args.count + sum_by f l) all in
    ap Some sum ∙ sym (within-small _ (omega arith))
