-- A word and an item, or a list of items.
use Rattle.std.proofs.Common.{◌≡◌, ℕ, ◌-◌, ◌%◌, [], ap, ◌∙◌, arith}
use Rattle.std.proofs.Math.Nat.{zero-mod}
use Rattle.b1_text_words.specs.declared.among.Numbers.{Numbers}
use Rattle.b1_text_words.specs.declared.items.Item.{Item}
use Rattle.b1_text_words.specs.declared.items.Item.TheVariants.{UpTo, Among, Known, Handle, Offset}
use Rattle.b1_text_words.specs.Items.{IsAmong, IsItem, AreItems}

first_among : (s : Numbers) → IsAmong s s.least
first_among s =
    let none : s.least - s.least ≡ 0 = omega arith in
    record { least = omega arith; most = s.some; step = ap (λ (n : ℕ). n % s.step) none ∙ zero-mod s.step }

-- there is an item of each kind
pub some_item : (item : Item) → (n : ℕ) × IsItem item n
some_item (UpTo most) = (0, omega arith)
some_item (Among numbers) = (numbers.least, first_among numbers)
some_item Known = (0, omega arith)
some_item (Handle form) = (0, omega arith)
some_item (Offset form) = (0, omega arith)

pub no_items : (item : Item) (most : ℕ) → AreItems item most []
no_items item most = record { items = tt; few = omega arith }
