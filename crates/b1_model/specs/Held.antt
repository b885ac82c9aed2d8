-- The indexes beside the wires, by which a wire is found without a search.
use Rattle.std.specs.Prelude.{◌≡◌, ℕ, ◌<◌, length, List, Some, slice_get, unwrap_or}
use Rattle.std.specs.BTreeMap.{BTreeMap, get}
use Rattle.std.specs.Ordering.{nat_cmp, ordering_then}
use Rattle.std.specs.declared.cmp.Ordering.{Ordering}
use Rattle.b1_model.specs.declared.naming.Wire.{Wire}
use Rattle.b1_model.specs.Opening.{held_by}

-- pairs and triples of numbers, by the first, then by the second, then by the third
abbrev pub pair_cmp : ℕ × ℕ → ℕ × ℕ → Ordering
pair_cmp x y = ordering_then (nat_cmp x.0 y.0) (nat_cmp x.1 y.1)

abbrev pub triple_cmp : ℕ × ℕ × ℕ → ℕ × ℕ × ℕ → Ordering
triple_cmp x y = ordering_then (ordering_then (nat_cmp x.0 y.0) (nat_cmp x.1 y.1)) (nat_cmp x.2 y.2)

-- the wires: each one's place, what each peer holds, and how much that is; what a failed addition left over is not read
pub record AreIndexed (wires : List Wire) (places : BTreeMap (ℕ × ℕ × ℕ) ℕ) (rows : BTreeMap (ℕ × ℕ) Wire) (counts : BTreeMap ℕ ℕ) : Type 0 where
  pub placed : (place : ℕ) (w : Wire) → slice_get wires place ≡ Some w → get triple_cmp places (w.from, w.to, w.number) ≡ Some place
  pub held : (peer index : ℕ) → index < length (held_by wires peer) → get pair_cmp rows (peer, index) ≡ slice_get (held_by wires peer) index
  pub counted : (peer : ℕ) → unwrap_or (get nat_cmp counts peer) 0 ≡ length (held_by wires peer)
