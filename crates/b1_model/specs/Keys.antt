-- The order of keys in a queue.
use Rattle.std.specs.Ordering.{nat_cmp, ordering_then}
use Rattle.std.specs.declared.cmp.Ordering.{Ordering}
use Rattle.b1_model.specs.declared.naming.Key.{Key}

-- by stamp, then by origin, then by index
abbrev pub compare_keys : Key → Key → Ordering
compare_keys a b = ordering_then (ordering_then (nat_cmp a.stamp b.stamp) (nat_cmp a.origin b.origin)) (nat_cmp a.index b.index)
