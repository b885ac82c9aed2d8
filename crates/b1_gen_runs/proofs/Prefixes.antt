-- What the first commands of a peer come to: how much they send, and how many receipts they await.
use Rattle.std.proofs.Common.{◌≡◌, ◌⊎◌, inl, inr, refl, sym, ap, ◌∙◌, subst, ℕ, zero, suc, ◌+◌, ◌*◌, ◌%◌, ◌<◌, List, [], ◌∷◌, ◌++◌, take, length, sum_by, Some, None}
use Rattle.std.specs.Prelude.{slice_get}
use Rattle.std.specs.List.{flat_map, range_with_len}
use Rattle.std.proofs.lemmas.List.{length-replicate}
use Rattle.std.proofs.lemmas.List.FromFn.{length-range_with_len}
use Rattle.std.proofs.lemmas.List.Sums.{sum_by-cons, sum_by-append}
use native.Mathlib.Omega.{arith}
use Rattle.b1_model.specs.declared.commands.Command.{Command}
use Rattle.b1_model.specs.declared.commands.Command.TheVariants as cmd
use Rattle.b1_model.specs.MachineTook.{is_await}
use Rattle.b1_gen.specs.Generated.{partners, payload_len, payload_of, sending, taking, taken_before, commands_before}
use Rattle.b1_gen.proofs.Rising.{commands_before-none, commands_before-more, sum_by-below}
use Rattle.b1_gen_runs.specs.Sums.{where_true, brought_by}
use Rattle.b1_gen_runs.proofs.Commands.{partner_is}
use Rattle.b1_gen_runs.proofs.Bounds.{times, brought_is}
use Rattle.b1_gen_runs.proofs.Numbers.{brings_before}

-- how many receipts some commands await
abbrev pub awaits : List Command → ℕ
awaits commands = sum_by (λ c. where_true (is_await c) 1) commands

-- what the SENDs of some commands of peer p bring to peer q
abbrev pub bring : (ℕ → ℕ) → ℕ → ℕ → List Command → ℕ
bring f q p commands = sum_by (λ c. brought_by f q p c) commands

-- ---- two lists, one behind the other

split : {X : Type 0} (xs ys : List X) (l : ℕ) → ((slice_get (xs ++ ys) l ≡ slice_get xs l) × (take l (xs ++ ys) ≡ take l xs)) ⊎ ((i : ℕ) × (slice_get (xs ++ ys) l ≡ slice_get ys i) × (take l (xs ++ ys) ≡ xs ++ take i ys))
split [] ys l = inr (l, refl, refl)
split (x ∷ xs) ys zero = inl (refl, refl)
split (x ∷ xs) ys (suc l) = elim (split xs ys l) [
  | inl (at, before) ↦ inl (at, ap (λ z. x ∷ z) before)
  | inr (i, at, before) ↦ inr (i, at, ap (λ z. x ∷ z) before)
]

-- ---- the commands that take

takings_bring : (f : ℕ → ℕ) (q p : ℕ) (rs : List ℕ) → bring f q p (flat_map taking rs) ≡ 0
takings_bring f q p [] = refl
takings_bring f q p (r ∷ rs) =
    let k = sum_by-cons (λ c. brought_by f q p c) cmd.Await (cmd.SliceRelease (2 * r + 1) ∷ flat_map taking rs) in
    let l = sum_by-cons (λ c. brought_by f q p c) (cmd.SliceRelease (2 * r + 1)) (flat_map taking rs) in
    let m = takings_bring f q p rs in
    omega (arith, k, l, m)

takings_await : (rs : List ℕ) → awaits (flat_map taking rs) ≡ length rs
takings_await [] = refl
takings_await (r ∷ rs) =
    let k = sum_by-cons (λ c. where_true (is_await c) 1) cmd.Await (cmd.SliceRelease (2 * r + 1) ∷ flat_map taking rs) in
    let l = sum_by-cons (λ c. where_true (is_await c) 1) (cmd.SliceRelease (2 * r + 1)) (flat_map taking rs) in
    let m = takings_await rs in
    omega (arith, k, l, m)

-- the first of them bring nothing, and before an AWAIT fewer are awaited
first_bring : (f : ℕ → ℕ) (q p : ℕ) (rs : List ℕ) (i : ℕ) → bring f q p (take i (flat_map taking rs)) ≡ 0
first_bring f q p [] zero = refl
first_bring f q p [] (suc i) = refl
first_bring f q p (r ∷ rs) zero = refl
first_bring f q p (r ∷ rs) (suc zero) = refl
first_bring f q p (r ∷ rs) (suc (suc i)) =
    let k = sum_by-cons (λ c. brought_by f q p c) cmd.Await (cmd.SliceRelease (2 * r + 1) ∷ take i (flat_map taking rs)) in
    let l = sum_by-cons (λ c. brought_by f q p c) (cmd.SliceRelease (2 * r + 1)) (take i (flat_map taking rs)) in
    let m = first_bring f q p rs i in
    omega (arith, k, l, m)

first_await : (rs : List ℕ) (i : ℕ) → slice_get (flat_map taking rs) i ≡ Some cmd.Await → awaits (take i (flat_map taking rs)) < length rs
first_await [] i is = absurd (cc is)
first_await (r ∷ rs) zero is = omega arith
first_await (r ∷ rs) (suc zero) is = absurd (cc is)
first_await (r ∷ rs) (suc (suc i)) is =
    let k = sum_by-cons (λ c. where_true (is_await c) 1) cmd.Await (cmd.SliceRelease (2 * r + 1) ∷ take i (flat_map taking rs)) in
    let l = sum_by-cons (λ c. where_true (is_await c) 1) (cmd.SliceRelease (2 * r + 1)) (take i (flat_map taking rs)) in
    let m = first_await rs i is in
    omega (arith, k, l, m)

-- ---- the commands of the first phases

module _ (number p : ℕ) where
  sending_brings : (f : ℕ → ℕ) (q k : ℕ) → brought_by f q p (sending number p k) ≡ times q (f (payload_len k)) (partners number k p)
  sending_brings f q k =
      brought_is number p q (f (length (payload_of p k))) (partners number k p) (partner_is number k p)
      ∙ ap (λ n. times q (f n) (partners number k p)) (length-replicate (payload_len k) ((p + k) % 256))

  abbrev more : ℕ → List Command
  more n = flat_map taking (range_with_len (taken_before number p n) (length (partners number n p)))

  phase_is : (n : ℕ) → commands_before number p (suc n) ≡ commands_before number p n ++ sending number p n ∷ more n
  phase_is n = ap (commands_before number p) (one_more n) ∙ commands_before-more number p n
    where
      one_more : (m : ℕ) → suc m ≡ m + 1
      one_more m = omega arith

  brings_more : (f : ℕ → ℕ) (q n : ℕ) → brings_before (λ k. f (payload_len k)) number q (suc n) p ≡ brings_before (λ k. f (payload_len k)) number q n p + times q (f (payload_len n)) (partners number n p)
  brings_more f q n = ap (λ m. brings_before (λ k. f (payload_len k)) number q m p) (one_more n) ∙ sum_by-below (λ k. times q (f (payload_len k)) (partners number k p)) n
    where
      one_more : (m : ℕ) → suc m ≡ m + 1
      one_more m = omega arith

  taken_more : (n : ℕ) → taken_before number p (suc n) ≡ taken_before number p n + length (partners number n p)
  taken_more n = ap (taken_before number p) (one_more n) ∙ sum_by-below (λ j. length (partners number j p)) n
    where
      one_more : (m : ℕ) → suc m ≡ m + 1
      one_more m = omega arith

  pub all_bring : (f : ℕ → ℕ) (q n : ℕ) → bring f q p (commands_before number p n) ≡ brings_before (λ k. f (payload_len k)) number q n p
  all_bring f q zero = ap (bring f q p) (commands_before-none number p)
  all_bring f q (suc n) =
      let a = ap (bring f q p) (phase_is n) in
      let b = sum_by-append (λ c. brought_by f q p c) (commands_before number p n) (sending number p n ∷ more n) in
      let c = sum_by-cons (λ c. brought_by f q p c) (sending number p n) (more n) in
      let d = takings_bring f q p (range_with_len (taken_before number p n) (length (partners number n p))) in
      let e = all_bring f q n in
      let g = sending_brings f q n in
      let h = brings_more f q n in
      omega (arith, a, b, c, d, e, g, h)

  pub all_await : (n : ℕ) → awaits (commands_before number p n) ≡ taken_before number p n
  all_await zero = ap awaits (commands_before-none number p)
  all_await (suc n) =
      let a = ap awaits (phase_is n) in
      let b = sum_by-append (λ c. where_true (is_await c) 1) (commands_before number p n) (sending number p n ∷ more n) in
      let c = sum_by-cons (λ c. where_true (is_await c) 1) (sending number p n) (more n) in
      let d = takings_await (range_with_len (taken_before number p n) (length (partners number n p))) in
      let e = all_await n in
      let g = taken_more n in
      let h = length-range_with_len (taken_before number p n) (length (partners number n p)) in
      omega (arith, a, b, c, d, e, g, h)

  -- before an AWAIT all SENDs of the phases so far are done, and fewer receipts are awaited than these phases have
  pub record Waits (n : ℕ) (first : List Command) : Type 0 where
    pub phase : ℕ
    pub less : phase < n
    pub brings : (f : ℕ → ℕ) (q : ℕ) → bring f q p first ≡ brings_before (λ k. f (payload_len k)) number q (phase + 1) p
    pub awaited : awaits first < taken_before number p (phase + 1)

  waits_here : (n i : ℕ) → slice_get (sending number p n ∷ more n) i ≡ Some cmd.Await → Waits (suc n) (commands_before number p n ++ take i (sending number p n ∷ more n))
  waits_here n zero is = absurd (cc is)
  waits_here n (suc i) is = record {
    phase = n;
    less = omega arith;
    brings = λ f q.
        let a = sum_by-append (λ c. brought_by f q p c) (commands_before number p n) (sending number p n ∷ take i (more n)) in
        let b = sum_by-cons (λ c. brought_by f q p c) (sending number p n) (take i (more n)) in
        let c = first_bring f q p (range_with_len (taken_before number p n) (length (partners number n p))) i in
        let d = all_bring f q n in
        let e = sending_brings f q n in
        let g = sum_by-below (λ k. times q (f (payload_len k)) (partners number k p)) n in
        omega (arith, a, b, c, d, e, g);
    awaited =
        let a = sum_by-append (λ c. where_true (is_await c) 1) (commands_before number p n) (sending number p n ∷ take i (more n)) in
        let b = sum_by-cons (λ c. where_true (is_await c) 1) (sending number p n) (take i (more n)) in
        let c = first_await (range_with_len (taken_before number p n) (length (partners number n p))) i is in
        let d = all_await n in
        let e = sum_by-below (λ j. length (partners number j p)) n in
        let h = length-range_with_len (taken_before number p n) (length (partners number n p)) in
        omega (arith, a, b, c, d, e, h);
  }

  pub waits_at : (n l : ℕ) → slice_get (commands_before number p n) l ≡ Some cmd.Await → Waits n (take l (commands_before number p n))
  waits_at zero l is = absurd (let e : None ≡ Some cmd.Await = sym (ap (λ z. slice_get z l) (commands_before-none number p)) ∙ is in cc e)
  waits_at (suc n) l is =
      subst (λ z. Waits (suc n) (take l z)) (sym (phase_is n))
      (elim (split (commands_before number p n) (sending number p n ∷ more n) l) [
        | inl (at, before) ↦
            let w = waits_at n l (sym at ∙ ap (λ z. slice_get z l) (sym (phase_is n)) ∙ is) in
            subst (Waits (suc n)) (sym before) (record { phase = w.phase; less = let k = w.less in omega (arith, k); brings = w.brings; awaited = w.awaited })
        | inr (i, at, before) ↦ subst (Waits (suc n)) (sym before) (waits_here n i (sym at ∙ ap (λ z. slice_get z l) (sym (phase_is n)) ∙ is))
      ])
