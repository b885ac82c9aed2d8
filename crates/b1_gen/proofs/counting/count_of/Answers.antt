use Rattle.std.proofs.Common.{◌≡◌, ℕ, ◌+◌, ◌≤◌, ◌<◌, ◌^◌, List, take, Some, sym, ap, ◌∙◌, arith}
use Rattle.std.specs.List.{sum_by}
use Rattle.std.proofs.lemmas.List.{take_all}
use Rattle.b1_model.specs.declared.records.Call.{Call}
use Rattle.b1_model.specs.declared.records.PeerCalls.{PeerCalls}
use Rattle.b1_gen.specs.declared.counting.Quantity.{Quantity}
use Rattle.b1_gen.specs.Counted.{worth, within}
use Rattle.b1_gen.proofs.Sums.{within-small, within-large, within-none, within-some, sum-more, sum-most}
use Rattle.b1_gen.proofs.counting.count_of.Goals as goal

-- how much the calls of one peer count
abbrev of_peer : Quantity → PeerCalls → ℕ
of_peer quantity p = sum_by (λ (k : Call). worth quantity k.answer) p.calls

pub returns-in_err-count : goal.returns-in_err-count
returns-in_err-count c =
    let f = of_peer c.args.quantity in
    let peers : List PeerCalls = c.as_slice-peer-items.result.now in
    let most : sum_by f (take c.loop-peer.peer-index peers) + f c.peer-item.result ≤ sum_by f peers = sum-most f peers c.loop-peer.peer-index c.peer-item.result (omega arith) c.peer-item.is in
    let here : c.with_calls.result ≡ within (c.loop-peer.count + f c.peer-item.result) = c.with_calls.ensures ∙ ap (λ (l : List Call). within (c.loop-peer.count + sum_by (λ (k : Call). worth c.args.quantity k.answer) l)) c.as_slice.ensures in
    let past : 2 ^ 64 ≤ c.loop-peer.count + f c.peer-item.result = within-none _ (sym here ∙ c.in_err-count.was) in
    let so_far = c.loop-peer.invariant.0 in
    let all : sum_by f peers ≡ sum_by f c.args.run.now.peers = ap (sum_by f) c.loop-peer.invariant.2 in
    c.from_residual.ensures ∙ sym (within-large (sum_by f c.args.run.now.peers) (omega arith))

pub loop-peer-preserved : goal.loop-peer-preserved
loop-peer-preserved c =
    let f = of_peer c.args.quantity in
    let peers : List PeerCalls = c.as_slice-peer-items.result.now in
    let more : sum_by f (take (c.loop-peer.peer-index + 1) peers) ≡ sum_by f (take c.loop-peer.peer-index peers) + f c.peer-item.result = sum-more f peers c.loop-peer.peer-index c.peer-item.result (omega arith) c.peer-item.is in
    let here : c.with_calls.result ≡ within (c.loop-peer.count + f c.peer-item.result) = c.with_calls.ensures ∙ ap (λ (l : List Call). within (c.loop-peer.count + sum_by (λ (k : Call). worth c.args.quantity k.answer) l)) c.as_slice.ensures in
    let added : (c.in_ok-count.count ≡ c.loop-peer.count + f c.peer-item.result) × (c.loop-peer.count + f c.peer-item.result < 2 ^ 64) = within-some _ _ (sym here ∙ c.in_ok-count.was) in
    let so_far = c.loop-peer.invariant.0 in
    (omega arith, omega arith, c.loop-peer.invariant.2)

pub returns : goal.returns
returns c =
    let f = of_peer c.args.quantity in
    let peers : List PeerCalls = c.as_slice-peer-items.result.now in
    let all : take c.loop-peer.peer-index peers ≡ peers = take_all _ _ (omega arith) in
    let sum : c.loop-peer.count ≡ sum_by f c.args.run.now.peers = c.loop-peer.invariant.0 ∙ ap (sum_by f) (all ∙ c.loop-peer.invariant.2) in
    ap Some sum ∙ sym (within-small _ (omega arith))
