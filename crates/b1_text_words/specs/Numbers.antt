-- How texts write numbers, lists and bytes.
use Rattle.std.specs.Prelude.{ℕ, ◌+◌, ◌-◌, ◌/◌, ◌%◌, ◌^◌, nat_lt, if◌then◌else◌, ◌==◌, List, [], ◌∷◌, ◌++◌, codes}
use Rattle.std.specs.Fmt.{decimal}
use Rattle.std.specs.List.{flat_map}
use Rattle.b1_model.specs.declared.naming.Key.{Key}

-- the number that stands for no handle and for no slice
abbrev pub invalid : ℕ
invalid = 2 ^ 64 - 1

-- that number by its word, every other as it is written
abbrev pub or_invalid : (ℕ → List ℕ) → ℕ → List ℕ
or_invalid text n = if n == invalid then codes "invalid" else text n

-- a number of a receipt
abbrev pub number_text : ℕ → List ℕ
number_text n = or_invalid decimal n

-- slot i of receipt r, for 128 * r + 2 * i + 1
abbrev pub slot_text : ℕ → List ℕ
slot_text n = decimal (n / 128) ++ codes "." ++ decimal (n / 2 % 64)

-- receipt r, for 2 * r + 1
abbrev pub slice_text : ℕ → List ℕ
slice_text n = decimal (n / 2)

-- an odd number refers to something, an even one is written as it is
abbrev pub reference_or : (ℕ → List ℕ) → ℕ → List ℕ
reference_or text n = if n % 2 == 1 then codes "@" ++ text n else decimal n

-- a handle of a script's command: an odd one refers to a slot of a receipt
abbrev pub script_handle_text : ℕ → List ℕ
script_handle_text n = reference_or slot_text n

-- a slice of a script's command: an odd offset refers to the slice of a receipt
abbrev pub script_offset_text : ℕ → List ℕ
script_offset_text n = reference_or slice_text n

-- a handle of a report's command
abbrev pub handle_text : ℕ → List ℕ
handle_text n = or_invalid script_handle_text n

-- a slice of a report's command
abbrev pub offset_text : ℕ → List ℕ
offset_text n = or_invalid script_offset_text n

-- a dash for no item, else the items with commas between them
abbrev pub list_text : {A : Type 0} → (A → List ℕ) → List A → List ℕ
list_text text [] = codes "-"
list_text text (x ∷ xs) = text x ++ flat_map (λ y. codes "," ++ text y) xs

-- a lower-case hexadecimal digit
abbrev pub hex_digit : ℕ → ℕ
hex_digit n = if nat_lt n 10 then 48 + n else 97 + (n - 10)

-- two digits
abbrev pub hex_pair : ℕ → List ℕ
hex_pair b = hex_digit (b / 16) ∷ hex_digit (b % 16) ∷ []

-- a dash for no byte, else two digits for each
abbrev pub hex_text : List ℕ → List ℕ
hex_text [] = codes "-"
hex_text (b ∷ bs) = flat_map hex_pair (b ∷ bs)

-- two numbers with a separator between them
abbrev pub pair_text : ℕ → ℕ × ℕ → List ℕ
pair_text separator pair = decimal pair.0 ++ separator ∷ decimal pair.1

-- stamp, origin and index
abbrev pub key_text : Key → List ℕ
key_text k = decimal k.stamp ++ codes "." ++ decimal k.origin ++ codes "." ++ decimal k.index
