-- The drivers of a bus, in the order of their peers.
use Rattle.std.proofs.Common.{◌≡◌, ℕ, zero, suc, ◌+◌, List, [], ◌∷◌, map, length, slice_get, Some, refl, ap, ◌∙◌, subst, arith}
use Rattle.std.specs.List.{AllByRecursion}
use Rattle.atomic_table.specs.Seated.{TableId}
use Rattle.b1_model.specs.declared.naming.Opening.{Opening}
use Rattle.b1_model.specs.declared.naming.PeerSpec.{PeerSpec}
use Rattle.b1_driver.specs.Parts.{Driver}
use Rattle.b1_locks.specs.Faces.{BusFace, DriverFace, Member, member, members, crew_from}
use Rattle.b1_bus.specs.Seated.{seated, IsOn}

-- ---- lists

-- what holds in each place holds by recursion, and the other way round
pub each : {A : Type 0} (P : A → Type 0) (xs : List A) → ((i : ℕ) (x : A) → slice_get xs i ≡ Some x → P x) → AllByRecursion P xs
each P [] h = tt
each P (x ∷ xs) h = (h 0 x refl, each P xs (λ i y is. h (suc i) y is))

pub at : {A : Type 0} (P : A → Type 0) (xs : List A) → AllByRecursion P xs → (i : ℕ) (x : A) → slice_get xs i ≡ Some x → P x
at P [] h i x is = absurd (cc is)
at P (y ∷ xs) h zero x is = let same : y ≡ x = cc is in subst P same h.0
at P (y ∷ xs) h (suc i) x is = at P xs h.1 i x is

-- ---- the drivers of a bus

-- each has its own
pub own_of : (t : TableId) (o : Opening) (ds : List Driver) → map (λ d. d.own) (map (seated t o) ds) ≡ ds
own_of t o [] = refl
own_of t o (d ∷ ds) = ap (λ l. d ∷ l) (own_of t o ds)

-- drivers in the order of their numbers are the drivers of the bus
pub crew_is : (b : BusFace) (ds : List Driver) (specs : List PeerSpec) (from : ℕ) → length ds ≡ length specs → ((i : ℕ) (d : Driver) → slice_get ds i ≡ Some d → d.part.me ≡ from + i) → members (map (seated b.table b.opening) ds) ≡ crew_from b from specs
crew_is b [] [] from long numbered = refl
crew_is b [] (spec ∷ specs) from long numbered = absurd (omega (arith, long))
crew_is b (d ∷ ds) [] from long numbered = absurd (omega (arith, long))
crew_is b (d ∷ ds) (spec ∷ specs) from long numbered =
    let here : d.part.me ≡ from = omega (arith, numbered 0 d refl) in
    let rest : members (map (seated b.table b.opening) ds) ≡ crew_from b (from + 1) specs = crew_is b ds specs (from + 1) (omega (arith, long)) (λ i e is. omega (arith, numbered (suc i) e is)) in
    ap (λ n. record { table = b.table; opening = b.opening; number = n } ∷ members (map (seated b.table b.opening) ds)) here
    ∙ ap (λ l. record { table = b.table; opening = b.opening; number = from } ∷ l) rest

-- and the other way round
pub record IsCrew (b : BusFace) (from : ℕ) (specs : List PeerSpec) (ds : List DriverFace) : Type 0 where
  pub as_many : length ds ≡ length specs
  pub each_of : AllByRecursion (IsOn b.table b.opening) ds
  pub numbered : (i : ℕ) (d : DriverFace) → slice_get ds i ≡ Some d → d.own.part.me ≡ from + i

pub is_crew : (b : BusFace) (ds : List DriverFace) (specs : List PeerSpec) (from : ℕ) → members ds ≡ crew_from b from specs → IsCrew b from specs ds
is_crew b [] [] from same = record { as_many = refl; each_of = tt; numbered = λ i d is. absurd (cc is) }
is_crew b [] (spec ∷ specs) from same = absurd (cc same)
is_crew b (d ∷ ds) [] from same = absurd (cc same)
is_crew b (d ∷ ds) (spec ∷ specs) from same =
    let first : member d ≡ record { table = b.table; opening = b.opening; number = from } = cc same in
    let others : members ds ≡ crew_from b (from + 1) specs = cc same in
    let rest = is_crew b ds specs (from + 1) others in
    record {
      as_many = omega (arith, rest.as_many);
      each_of = (record { table_is = ap (λ (m : Member). m.table) first; opening_is = ap (λ (m : Member). m.opening) first }, rest.each_of);
      numbered = numbers d ds from (ap (λ (m : Member). m.number) first) rest.numbered;
    }
  where
    numbers : (d : DriverFace) (ds : List DriverFace) (from : ℕ) → d.own.part.me ≡ from → ((i : ℕ) (e : DriverFace) → slice_get ds i ≡ Some e → e.own.part.me ≡ from + 1 + i) → (i : ℕ) (e : DriverFace) → slice_get (d ∷ ds) i ≡ Some e → e.own.part.me ≡ from + i
    numbers d ds from here further zero e is = let same : d ≡ e = cc is in omega (arith, here, ap (λ (f : DriverFace). f.own.part.me) same)
    numbers d ds from here further (suc i) e is = omega (arith, further i e is)
