-- Slots of receipts, and their slices.
use Rattle.std.proofs.Common.{◌≡◌, arith, ℕ, ◌+◌, ◌-◌, ◌*◌, ◌/◌, ◌%◌, ◌^◌, ◌<◌, ◌≤◌, min, List, [], ◌∷◌, ◌++◌, Option, Some, None, sym, ap, subst, ◌∙◌, append_assoc}
use Rattle.std.specs.Prelude.{decimal}
use Rattle.std.proofs.lemmas.Fmt.{decimal_injective}
use Rattle.b1_text_words.specs.Items.{IsUpTo, IsOddUpTo}
use Rattle.b1_text_words.specs.Numbers.{slot_text, slice_text}
use Rattle.b1_text_words.specs.Words.{Spells, Reads, Begins, IsFree}
use Rattle.b1_text_words.proofs.Languages.{read_found, read_none, joined_first, stops_before, not_free}
use Rattle.b1_text_words.proofs.References.{free_of_point}

pub slot_shape : (n : ℕ) → slot_text n ≡ decimal (n / 128) ++ 46 ∷ decimal (n / 2 % 64)
slot_shape n = append_assoc (decimal (n / 128)) (46 ∷ []) (decimal (n / 2 % 64))

-- the numbers

slot_within : (x most q : ℕ) → x ≤ most → x % 2 ≡ 1 → q ≡ x / 128 → x / 2 % 64 ≤ min ((most - 1 - q * 128) / 2) 63
slot_within x most q within odd receipt = omega (arith, within, odd, receipt)

slot_back : (x q i : ℕ) → x % 2 ≡ 1 → q ≡ x / 128 → i ≡ x / 2 % 64 → q * 128 + i * 2 + 1 ≡ x
slot_back x q i odd receipt slot = omega (arith, odd, receipt, slot)

slot_number : (q i most : ℕ) → 1 ≤ most → q ≤ (most - 1) / 128 → i ≤ min ((most - 1 - q * 128) / 2) 63 → IsOddUpTo most (q * 128 + i * 2 + 1)
slot_number q i most some receipt slot = (omega (arith, some, receipt, slot), omega (arith, slot))

slot_receipt : (q i : ℕ) → i ≤ 63 → (q * 128 + i * 2 + 1) / 128 ≡ q
slot_receipt q i slot = omega (arith, slot)

slot_index : (q i : ℕ) → i ≤ 63 → (q * 128 + i * 2 + 1) / 2 % 64 ≡ i
slot_index q i slot = omega (arith, slot)

slot_spelled : (q i : ℕ) → i ≤ 63 → decimal q ++ 46 ∷ decimal i ≡ slot_text (q * 128 + i * 2 + 1)
slot_spelled q i slot = ap (λ r. decimal r ++ 46 ∷ decimal i) (sym (slot_receipt q i slot)) ∙ ap (λ j. decimal ((q * 128 + i * 2 + 1) / 128) ++ 46 ∷ decimal j) (sym (slot_index q i slot)) ∙ sym (slot_shape (q * 128 + i * 2 + 1))

-- what is read

pub slot_none : (most : ℕ) (word : List ℕ) → IsFree 46 word → Reads slot_text (IsOddUpTo most) word None
slot_none most word plain = record { found = tt; whole = λ x odd same. absurd (not_free 46 (decimal (x / 128)) (decimal (x / 2 % 64)) (subst (IsFree 46) (same ∙ slot_shape x) plain)) }

slot_cut : (most : ℕ) (word a b : List ℕ) (x : ℕ) → most < 2 ^ 64 → word ≡ a ++ 46 ∷ b → IsFree 46 a → x ≤ most → word ≡ slot_text x → (a ≡ decimal (x / 128)) × (b ≡ decimal (x / 2 % 64))
slot_cut most word a b x small parts plain within same = joined_first 46 a (decimal (x / 128)) b (decimal (x / 2 % 64)) plain (free_of_point (x / 128) (omega (arith, small, within))) (sym parts ∙ same ∙ slot_shape x)

pub no_receipt : (most : ℕ) (word a b : List ℕ) (r : Option ℕ) → most < 2 ^ 64 → word ≡ a ++ 46 ∷ b → IsFree 46 a → r ≡ None → Reads decimal (IsUpTo ((most - 1) / 128)) a r → Reads slot_text (IsOddUpTo most) word None
no_receipt most word a b r small parts plain is reads = record {
  found = tt;
  whole = λ x odd same.
      let cut = slot_cut most word a b x small parts plain odd.0 same in
      absurd (read_none decimal (IsUpTo ((most - 1) / 128)) a r reads is (record { value = x / 128; is_of = omega (arith, odd.0, odd.1); same = cut.0 }));
}

same_receipt : (most x q : ℕ) (a : List ℕ) → most < 2 ^ 64 → x ≤ most → q ≤ (most - 1) / 128 → a ≡ decimal q → a ≡ decimal (x / 128) → q ≡ x / 128
same_receipt most x q a small within receipt one other = decimal_injective q (x / 128) (omega (arith, receipt, small)) (omega (arith, within, small)) (sym one ∙ other)

pub no_slot : (most q : ℕ) (word a b : List ℕ) (r s : Option ℕ) → most < 2 ^ 64 → word ≡ a ++ 46 ∷ b → IsFree 46 a → r ≡ Some q → Reads decimal (IsUpTo ((most - 1) / 128)) a r →
    s ≡ None → Reads decimal (IsUpTo (min ((most - 1 - q * 128) / 2) 63)) b s → Reads slot_text (IsOddUpTo most) word None
no_slot most q word a b r s small parts plain is reads none slots = record {
  found = tt;
  whole = λ x odd same.
      let cut = slot_cut most word a b x small parts plain odd.0 same in
      let receipt = read_found decimal (IsUpTo ((most - 1) / 128)) a r q reads is in
      let one = same_receipt most x q a small odd.0 receipt.0 receipt.1 cut.0 in
      absurd (read_none decimal (IsUpTo (min ((most - 1 - q * 128) / 2) 63)) b s slots none (record { value = x / 2 % 64; is_of = slot_within x most q odd.0 odd.1 one; same = cut.1 }));
}

pub slot_read : (most q i : ℕ) (word a b : List ℕ) (r s : Option ℕ) → 1 ≤ most → most < 2 ^ 64 → word ≡ a ++ 46 ∷ b → IsFree 46 a → r ≡ Some q → Reads decimal (IsUpTo ((most - 1) / 128)) a r →
    s ≡ Some i → Reads decimal (IsUpTo (min ((most - 1 - q * 128) / 2) 63)) b s → Reads slot_text (IsOddUpTo most) word (Some (q * 128 + i * 2 + 1))
slot_read most q i word a b r s some small parts plain is reads at slots =
    let receipt = read_found decimal (IsUpTo ((most - 1) / 128)) a r q reads is in
    let slot = read_found decimal (IsUpTo (min ((most - 1 - q * 128) / 2) 63)) b s i slots at in
    let few : i ≤ 63 = omega (arith, slot.0) in
    record {
      found = (slot_number q i most some receipt.0 slot.0, parts ∙ ap (λ w. w ++ 46 ∷ b) receipt.1 ∙ ap (λ w. decimal q ++ 46 ∷ w) slot.1 ∙ slot_spelled q i few);
      whole = λ x odd same.
          let cut = slot_cut most word a b x small parts plain odd.0 same in
          let one = same_receipt most x q a small odd.0 receipt.0 receipt.1 cut.0 in
          let two : i ≡ x / 2 % 64 = decimal_injective i (x / 2 % 64) (omega (arith, few)) (omega arith) (sym slot.1 ∙ cut.1) in
          ap Some (slot_back x q i odd.1 one two);
    }

-- the bytes that begin one

pub begins_receipt : (most : ℕ) (word : List ℕ) → 1 ≤ most → Begins (Spells decimal (IsUpTo ((most - 1) / 128))) word → Begins (Spells slot_text (IsOddUpTo most)) word
begins_receipt most word some b =
    let q = b.whole.value in
    record {
      rest = b.rest ++ 46 ∷ decimal 0;
      whole = record {
        value = q * 128 + 0 * 2 + 1;
        is_of = slot_number q 0 most some b.whole.is_of (omega arith);
        same = sym (append_assoc word b.rest (46 ∷ decimal 0)) ∙ ap (λ w. w ++ 46 ∷ decimal 0) b.whole.same ∙ slot_spelled q 0 (omega arith);
      };
    }

pub receipt_begins : (most : ℕ) (word : List ℕ) → IsFree 46 word → Begins (Spells slot_text (IsOddUpTo most)) word → Begins (Spells decimal (IsUpTo ((most - 1) / 128))) word
receipt_begins most word plain b =
    let n = b.whole.value in
    let h = stops_before 46 word b.rest (decimal (n / 128)) (decimal (n / 2 % 64)) plain (b.whole.same ∙ slot_shape n) in
    record { rest = h.0; whole = record { value = n / 128; is_of = omega (arith, b.whole.is_of.0, b.whole.is_of.1); same = h.1 } }

pub begins_index : (most q : ℕ) (word a b : List ℕ) → 1 ≤ most → word ≡ a ++ 46 ∷ b → q ≤ (most - 1) / 128 → a ≡ decimal q → Begins (Spells decimal (IsUpTo (min ((most - 1 - q * 128) / 2) 63))) b → Begins (Spells slot_text (IsOddUpTo most)) word
begins_index most q word a b some parts within receipt i =
    let few : i.whole.value ≤ 63 = omega (arith, i.whole.is_of) in
    record {
      rest = i.rest;
      whole = record {
        value = q * 128 + i.whole.value * 2 + 1;
        is_of = slot_number q i.whole.value most some within i.whole.is_of;
        same = ap (λ w. w ++ i.rest) (parts ∙ ap (λ w. w ++ 46 ∷ b) receipt) ∙ append_assoc (decimal q) (46 ∷ b) i.rest ∙ ap (λ w. decimal q ++ 46 ∷ w) i.whole.same ∙ slot_spelled q i.whole.value few;
      };
    }

begun_cut : (most : ℕ) (word a b : List ℕ) → most < 2 ^ 64 → word ≡ a ++ 46 ∷ b → IsFree 46 a → (g : Begins (Spells slot_text (IsOddUpTo most)) word) → (a ≡ decimal (g.whole.value / 128)) × (b ++ g.rest ≡ decimal (g.whole.value / 2 % 64))
begun_cut most word a b small parts plain g =
    let n = g.whole.value in
    joined_first 46 a (decimal (n / 128)) (b ++ g.rest) (decimal (n / 2 % 64)) plain (free_of_point (n / 128) (omega (arith, g.whole.is_of.0, small)))
    (sym (append_assoc a (46 ∷ b) g.rest) ∙ ap (λ w. w ++ g.rest) (sym parts) ∙ g.whole.same ∙ slot_shape n)

pub index_begins : (most q : ℕ) (word a b : List ℕ) → most < 2 ^ 64 → word ≡ a ++ 46 ∷ b → IsFree 46 a → q ≤ (most - 1) / 128 → a ≡ decimal q → Begins (Spells slot_text (IsOddUpTo most)) word → Begins (Spells decimal (IsUpTo (min ((most - 1 - q * 128) / 2) 63))) b
index_begins most q word a b small parts plain within receipt g =
    let n = g.whole.value in
    let cut = begun_cut most word a b small parts plain g in
    let one = same_receipt most n q a small g.whole.is_of.0 within receipt cut.0 in
    record { rest = g.rest; whole = record { value = n / 2 % 64; is_of = slot_within n most q g.whole.is_of.0 g.whole.is_of.1 one; same = cut.1 } }

pub nothing_without_receipt : (most : ℕ) (word a b : List ℕ) (r : Option ℕ) → most < 2 ^ 64 → word ≡ a ++ 46 ∷ b → IsFree 46 a → r ≡ None → Reads decimal (IsUpTo ((most - 1) / 128)) a r → Begins (Spells slot_text (IsOddUpTo most)) word → ⊥
nothing_without_receipt most word a b r small parts plain is reads g =
    let n = g.whole.value in
    let cut = begun_cut most word a b small parts plain g in
    read_none decimal (IsUpTo ((most - 1) / 128)) a r reads is (record { value = n / 128; is_of = omega (arith, g.whole.is_of.0, g.whole.is_of.1); same = cut.0 })

-- slices

slice_spelled : (q : ℕ) → decimal q ≡ slice_text (q * 2 + 1)
slice_spelled q = ap decimal (let e : q ≡ (q * 2 + 1) / 2 = omega arith in e)

pub slice_none : (most : ℕ) (word : List ℕ) (r : Option ℕ) → r ≡ None → Reads decimal (IsUpTo ((most - 1) / 2)) word r → Reads slice_text (IsOddUpTo most) word None
slice_none most word r is reads = record { found = tt; whole = λ x odd same. absurd (read_none decimal (IsUpTo ((most - 1) / 2)) word r reads is (record { value = x / 2; is_of = omega (arith, odd.0, odd.1); same = same })) }

pub slice_read : (most q : ℕ) (word : List ℕ) (r : Option ℕ) → 1 ≤ most → most < 2 ^ 64 → r ≡ Some q → Reads decimal (IsUpTo ((most - 1) / 2)) word r → Reads slice_text (IsOddUpTo most) word (Some (q * 2 + 1))
slice_read most q word r some small is reads =
    let h = read_found decimal (IsUpTo ((most - 1) / 2)) word r q reads is in
    record {
      found = ((omega (arith, h.0, some), omega arith), h.1 ∙ slice_spelled q);
      whole = λ x odd same.
          let one : q ≡ x / 2 = decimal_injective q (x / 2) (omega (arith, h.0, small)) (omega (arith, odd.0, small)) (sym h.1 ∙ same) in
          ap Some (omega (arith, one, odd.1));
    }

pub begins_slice : (most : ℕ) (word : List ℕ) → 1 ≤ most → Begins (Spells decimal (IsUpTo ((most - 1) / 2))) word → Begins (Spells slice_text (IsOddUpTo most)) word
begins_slice most word some b = record { rest = b.rest; whole = record { value = b.whole.value * 2 + 1; is_of = (omega (arith, b.whole.is_of, some), omega arith); same = b.whole.same ∙ slice_spelled b.whole.value } }

pub slice_begins : (most : ℕ) (word : List ℕ) → Begins (Spells slice_text (IsOddUpTo most)) word → Begins (Spells decimal (IsUpTo ((most - 1) / 2))) word
slice_begins most word b = record { rest = b.rest; whole = record { value = b.whole.value / 2; is_of = omega (arith, b.whole.is_of.0, b.whole.is_of.1); same = b.whole.same } }
