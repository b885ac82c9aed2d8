-- Numbers and bytes of a report's lists, which has no limit but that of a field.
use Rattle.std.proofs.Common.{◌<◌, ◌≤◌, ◌-◌, ◌^◌, All, ℕ, List, length}
use Rattle.std.proofs.lemmas.List.Elements.{recursion_from_All}
use Rattle.b1_text_words.specs.declared.items.Form.TheVariants.{Report}
use Rattle.b1_text_words.specs.declared.items.Item.TheVariants.{Handle}
use Rattle.b1_text_words.specs.Items.{AreItems, AreBytes}
use Rattle.b1_text_words.specs.Commands.{most_bytes, most_numbers}

pub are_items : (numbers : List ℕ) → All (λ n. n < 2 ^ 64) numbers → length numbers ≤ 2 ^ 64 - 1 → AreItems (Handle Report) (most_numbers Report) numbers
are_items numbers fits few = record { items = recursion_from_All (λ n. n < 2 ^ 64) numbers fits; few = few }

pub are_bytes : (bytes : List ℕ) → All (λ b. b < 256) bytes → length bytes ≤ 2 ^ 64 - 1 → AreBytes (most_bytes Report) bytes
are_bytes bytes fits few = record { items = recursion_from_All (λ b. b < 256) bytes fits; few = few }
