-- The opening of a generated script is one that a bus can begin with.
use Rattle.std.proofs.Common.{◌≡◌, ◌≢◌, ℕ, ◌*◌, ◌==◌, ◌≤◌, ◌<◌, true, not, List, [], ◌∷◌, map, length, refl, sym, ◌∙◌, arith, subst}
use Rattle.std.specs.List.{AllByRecursion}
use Rattle.std.proofs.Math.Nat.{mul-le-mul_left}
use Rattle.std.proofs.lemmas.Grind.{common_steps}
use Rattle.std.proofs.lemmas.List.{length-map}
use Rattle.std.proofs.lemmas.List.FromFn.{length-range_with_len}
use Rattle.std.proofs.lemmas.List.Sums.{sum_by-cons}
use Rattle.b1_model.specs.declared.naming.PeerSpec.{PeerSpec}
use Rattle.b1_model.specs.declared.naming.Wire.{Wire}
use Rattle.b1_model.specs.Opening.{after_wire, CanWire, AreWired, HasPool, pool_bytes, IsOpening}
use Rattle.b1_gen.specs.Generated.{below, peer_spec, node_wire, others, wires_of, opening_of}
use Rattle.b1_gen.proofs.Rising.{filter-few}
use Rattle.b1_gen.proofs.Each.{each-map, each-flat_map, each-filter, each-below, flat_map-most}

-- a wire of the node of one peer to another
record IsNodeWire (n : ℕ) (w : Wire) : Type 0 where
  from : ℕ
  to : ℕ
  same : w ≡ node_wire from to
  is_from : from < n
  is_to : to < n
  apart : to ≢ from

can_wire : (n : ℕ) (held : List Wire) (w : Wire) → IsNodeWire n w → CanWire n held w
can_wire n held w h =
    subst (CanWire n held) (sym h.same) (record { from = h.is_from; to = h.is_to; apart = h.apart; gives = λ e. h.apart (sym e) })

are_wired : (n : ℕ) (held ws : List Wire) → AllByRecursion (IsNodeWire n) ws → AreWired n held ws
are_wired n held [] h = tt
are_wired n held (w ∷ ws) h = (can_wire n held w h.0, are_wired n (after_wire held w) ws h.1)

other-apart : (p q : ℕ) → not (q == p) ≡ true → q ≢ p
other-apart p q h e = grind (arith, common_steps)

are_nodes : (n : ℕ) → AllByRecursion (IsNodeWire n) (opening_of n).wires
are_nodes n =
    each-flat_map (IsNodeWire n) (wires_of n) (below n) (each-below _ n (λ p high.
    each-map (IsNodeWire n) (node_wire p) (others n p) (each-filter _ (λ q. not (q == p)) (below n) (each-below _ n (λ q high' passes.
    record { from = p; to = q; same = refl; is_from = high; is_to = high'; apart = other-apart p q passes })))))

pools_together : (xs : List ℕ) → pool_bytes (map peer_spec xs) ≡ length xs * 262144
pools_together [] = refl
pools_together (x ∷ xs) = sum_by-cons (λ (spec : PeerSpec). spec.pool) (peer_spec x) (map peer_spec xs) ∙ omega (arith, pools_together xs)

pub few_wires : (n : ℕ) → length (opening_of n).wires ≤ n * n
few_wires n =
    let most : length (opening_of n).wires ≤ length (below n) * n = flat_map-most (wires_of n) n (below n) (each-below _ n (λ p high.
    let few = filter-few (λ q. not (q == p)) (below n) in
    let many = length-range_with_len 0 n in
    let same = length-map (others n p) (node_wire p) in
    omega arith)) in
    rw (length-range_with_len 0 n) at most

pub squares : (n : ℕ) → n ≤ 8 → n * n ≤ 64
squares n few =
    let most : n * n ≤ n * 8 = mul-le-mul_left n few in
    omega arith

pub is_opening : (n : ℕ) → 1 ≤ n → n ≤ 8 → IsOpening (opening_of n)
is_opening n some few =
    let many : length (opening_of n).peers ≡ n = length-map (below n) peer_spec ∙ length-range_with_len 0 n in
    let together : pool_bytes (opening_of n).peers ≡ length (below n) * 262144 = pools_together (below n) in
    let so_many : length (below n) ≡ n = length-range_with_len 0 n in
    let wires : length (opening_of n).wires ≤ n * n = few_wires n in
    let product : n * n ≤ 64 = squares n few in
    record {
      least = omega arith;
      most = omega arith;
      even = refl;
      clock = omega arith;
      pools = each-map HasPool peer_spec (below n) (each-below _ n (λ p high. record { eighths = refl; least = omega arith; most = omega arith }));
      together = omega arith;
      few = omega arith;
      wires = are_wired _ [] _ (subst (λ m. AllByRecursion (IsNodeWire m) (opening_of n).wires) (sym many) (are_nodes n));
    }
