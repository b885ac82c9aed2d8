-- The order of pairs of a stamp and an origin is that of the bus.
use Rattle.std.proofs.Common.{rules}
use Rattle.std.specs.Ordering.{is_lt, nat_cmp, ordering_then}
use Rattle.std.proofs.lemmas.List.Sorted.{answers_always}
use Rattle.b1_model.proofs.BusOrder.{compares, sorted_is_in_order}
use Rattle.b1_model.proofs.order.sort.Goals as goal

pub returns : goal.returns
returns c =
    sorted_is_in_order (λ x y. is_lt (ordering_then (nat_cmp x.stamp y.stamp) (nat_cmp x.origin y.origin))) _ _ (λ x y. compares x.stamp x.origin y.stamp y.origin)
    (c.in_ok-sort_by_key.ensures.sorted (λ s. (s.stamp, s.origin)) (answers_always _ _ _ (λ f a r g h. search rules)))
    (c.sort_by_key.ensures.stable (λ s. (s.stamp, s.origin)) (answers_always _ _ _ (λ f a r g h. search rules)))
