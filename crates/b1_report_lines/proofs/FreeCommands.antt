-- Bytes that stand in no command's text.
use Rattle.std.specs.Prelude.{codes}
use Rattle.std.proofs.Common.{◌≡◌, ℕ, ◌/◌, ◌%◌, ◌^◌, ◌<◌, Bool, true, false, cond, eqb, List, [], ◌∷◌, ◌++◌, refl, arith, inl, inr, ◌⊎◌}
use Rattle.std.proofs.lemmas.Bool.Decides.{nat_tests}
use Rattle.std.specs.Fmt.{decimal}
use Rattle.std.specs.List.{flat_map, AllByRecursion}
use Rattle.b1_model.specs.declared.commands.Command.{Command}
use Rattle.b1_model.specs.declared.commands.Command.TheVariants as cmd
use Rattle.b1_model.specs.declared.naming.Limits.{Limits}
use Rattle.b1_model.specs.declared.version.Version.{Version}
use Rattle.b1_model.specs.declared.version.Version.TheVariants.{One, Two}
use Rattle.b1_text_words.specs.Commands.{command_text, flag_of, limits_text, AreLimits, IsCommand}
use Rattle.b1_text_words.specs.Numbers.{invalid, slot_text, script_handle_text, script_offset_text, handle_text, offset_text, list_text, hex_digit, hex_pair, hex_text}
use Rattle.b1_text_words.specs.declared.items.Form.TheVariants.{Report}
use Rattle.b1_report_lines.proofs.Decimals.{decimal_free}
use Rattle.b1_report_lines.proofs.Splitting.{IsFree, free_cons, free_append}

abbrev pub IsSide : ℕ → Type 0
IsSide mark = (mark < 48) ⊎ ((57 < mark) × (mark < 97))

pub number_side : (mark : ℕ) → IsSide mark → (mark < 48) ⊎ (57 < mark)
number_side mark (inl h) = inl h
number_side mark (inr h) = inr h.0

pub list_free : {A : Type 0} (mark : ℕ) (text : A → List ℕ) (Fits : A → Type 0) → IsFree mark (codes "-") → IsFree mark (codes ",") → ((a : A) → Fits a → IsFree mark (text a))
    → (xs : List A) → AllByRecursion Fits xs → IsFree mark (list_text text xs)
list_free mark text Fits dash comma each [] h = dash
list_free mark text Fits dash comma each (x ∷ xs) h = free_append mark (text x) (flat_map (λ y. codes "," ++ text y) xs) (each x h.0) (more xs h.1) where
  more : (ys : List _) → AllByRecursion Fits ys → IsFree mark (flat_map (λ y. codes "," ++ text y) ys)
  more [] k = refl
  more (y ∷ ys) k = free_append mark (codes "," ++ text y) (flat_map (λ z. codes "," ++ text z) ys) (free_append mark (codes ",") (text y) comma (each y k.0)) (more ys k.1)

hex_apart : (mark n : ℕ) → IsSide mark → n < 16 → eqb (hex_digit n) mark ≡ false
hex_apart mark n (inl h) lt = grind (arith, nat_tests)
hex_apart mark n (inr h) lt = grind (arith, nat_tests)

pub hex_free : (mark : ℕ) → IsSide mark → IsFree mark (codes "-") → (bs : List ℕ) → AllByRecursion (λ b. b < 256) bs → IsFree mark (hex_text bs)
hex_free mark side dash [] h = dash
hex_free mark side dash (b ∷ bs) h = more (b ∷ bs) h where
  more : (xs : List ℕ) → AllByRecursion (λ b. b < 256) xs → IsFree mark (flat_map hex_pair xs)
  more [] k = refl
  more (x ∷ xs) k =
      free_cons mark (hex_digit (x / 16)) (hex_digit (x % 16) ∷ flat_map hex_pair xs) (hex_apart mark (x / 16) side (omega (arith, k.0)))
      (free_cons mark (hex_digit (x % 16)) (flat_map hex_pair xs) (hex_apart mark (x % 16) side (omega arith)) (more xs k.1))

-- the words of commands
pub record WordsAreFree (mark : ℕ) : Type 0 where
  pub side : IsSide mark
  pub dash : IsFree mark (codes "-")
  pub comma : IsFree mark (codes ",")
  pub point : IsFree mark (codes ".")
  pub at : IsFree mark (codes "@")
  pub space : IsFree mark (codes " ")
  pub invalid : IsFree mark (codes "invalid")
  pub disconnect : IsFree mark (codes "disconnect")
  pub query : IsFree mark (codes "query")
  pub reset : IsFree mark (codes "reset ")
  pub limit : IsFree mark (codes "limit ")
  pub release : IsFree mark (codes "release ")
  pub destroy : IsFree mark (codes "destroy ")
  pub slice : IsFree mark (codes "slice ")
  pub send : IsFree mark (codes "send ")
  pub flag_off : IsFree mark (codes "0 to ")
  pub flag_on : IsFree mark (codes "1 to ")
  pub with : IsFree mark (codes " with ")
  pub bytes : IsFree mark (codes " data ")
  pub recv : IsFree mark (codes "recv")
  pub await : IsFree mark (codes "await")

module _ (mark : ℕ) (words : WordsAreFree mark) where
  also : (x y : List ℕ) → IsFree mark x → IsFree mark y → IsFree mark (x ++ y)
  also x y h k = free_append mark x y h k

  number : (n : ℕ) → n < 2 ^ 64 → IsFree mark (decimal n)
  number n h = decimal_free mark n (number_side mark words.side) h

  choice : (b : Bool) (x y : List ℕ) → IsFree mark x → IsFree mark y → IsFree mark (cond b x y)
  choice true x y h k = h
  choice false x y h k = k

  handle : (n : ℕ) → n < 2 ^ 64 → IsFree mark (handle_text n)
  handle n h =
      choice (eqb n invalid) (codes "invalid") (script_handle_text n) words.invalid
      (choice (eqb (n % 2) 1) (codes "@" ++ slot_text n) (decimal n)
      (also (codes "@") (slot_text n) words.at
      (also (decimal (n / 128) ++ codes ".") (decimal (n / 2 % 64)) (also (decimal (n / 128)) (codes ".") (number (n / 128) (omega (arith, h))) words.point) (number (n / 2 % 64) (omega arith))))
      (number n h))

  offset : (n : ℕ) → n < 2 ^ 64 → IsFree mark (offset_text n)
  offset n h =
      choice (eqb n invalid) (codes "invalid") (script_offset_text n) words.invalid
      (choice (eqb (n % 2) 1) (codes "@" ++ decimal (n / 2)) (decimal n)
      (also (codes "@") (decimal (n / 2)) words.at (number (n / 2) (omega (arith, h))))
      (number n h))

  handles : (xs : List ℕ) → AllByRecursion (λ n. n < 2 ^ 64) xs → IsFree mark (list_text handle_text xs)
  handles xs h = list_free mark handle_text (λ n. n < 2 ^ 64) words.dash words.comma handle xs h

  flag : (b : Bool) → IsFree mark (flag_of b)
  flag true = words.flag_on
  flag false = words.flag_off

  three : (word : List ℕ) (limits : Limits) → IsFree mark word → AreLimits limits → IsFree mark (word ++ limits_text limits)
  three word limits free h =
      let a : List ℕ = decimal limits.entries in
      let b : List ℕ = decimal limits.bytes in
      let c : List ℕ = decimal limits.handles in
      also word (a ++ codes " " ++ b ++ codes " " ++ c) free
      (also (a ++ codes " " ++ b ++ codes " ") c
      (also (a ++ codes " " ++ b) (codes " ")
      (also (a ++ codes " ") b (also a (codes " ") (number limits.entries (omega (arith, h.entries))) words.space) (number limits.bytes (omega (arith, h.bytes))))
      words.space)
      (number limits.handles (omega (arith, h.handles))))

  limit : (version : Version) (limits : Limits) → IsCommand Report version (cmd.Limit limits) → IsFree mark (command_text (cmd.Limit limits))
  limit One limits h = absurd h
  limit Two limits h = three (codes "limit ") limits words.limit h

  pub command_free : (version : Version) (c : Command) → IsCommand Report version c → IsFree mark (command_text c)
  command_free version cmd.Disconnect h = words.disconnect
  command_free version cmd.Query h = words.query
  command_free version (cmd.Reset limits) h = three (codes "reset ") limits words.reset h
  command_free version (cmd.Limit limits) h = limit version limits h
  command_free version (cmd.Release n) h = also (codes "release ") (handle_text n) words.release (handle n h)
  command_free version (cmd.Destroy numbers) h = also (codes "destroy ") (list_text handle_text numbers) words.destroy (handles numbers h.items)
  command_free version (cmd.SliceRelease n) h = also (codes "slice ") (offset_text n) words.slice (offset n h)
  command_free version (cmd.Send send) h =
      also ((codes "send " ++ flag_of send.go_on) ++ list_text handle_text send.to ++ codes " with " ++ list_text handle_text send.with ++ codes " data ") (hex_text send.payload)
      (also ((codes "send " ++ flag_of send.go_on) ++ list_text handle_text send.to ++ codes " with " ++ list_text handle_text send.with) (codes " data ")
      (also ((codes "send " ++ flag_of send.go_on) ++ list_text handle_text send.to ++ codes " with ") (list_text handle_text send.with)
      (also ((codes "send " ++ flag_of send.go_on) ++ list_text handle_text send.to) (codes " with ")
      (also ((codes "send " ++ flag_of send.go_on)) (list_text handle_text send.to) (also (codes "send ") (flag_of send.go_on) words.send (flag send.go_on)) (handles send.to h.to.items)) words.with)
      (handles send.with h.with.items))
      words.bytes)
      (hex_free mark words.side words.dash send.payload h.payload.items)
  command_free version cmd.Recv h = words.recv
  command_free version cmd.Await h = words.await

words_free_of_line_feed : WordsAreFree 10
words_free_of_line_feed = record { side = inl (omega arith); dash = refl; comma = refl; point = refl; at = refl; space = refl; invalid = refl; disconnect = refl; query = refl; reset = refl; limit = refl; release = refl; destroy = refl; slice = refl; send = refl; flag_off = refl; flag_on = refl; with = refl; bytes = refl; recv = refl; await = refl }

words_free_of_equals : WordsAreFree 61
words_free_of_equals = record { side = inr (omega arith, omega arith); dash = refl; comma = refl; point = refl; at = refl; space = refl; invalid = refl; disconnect = refl; query = refl; reset = refl; limit = refl; release = refl; destroy = refl; slice = refl; send = refl; flag_off = refl; flag_on = refl; with = refl; bytes = refl; recv = refl; await = refl }

pub command_in_line : (version : Version) (c : Command) → IsCommand Report version c → IsFree 10 (command_text c)
command_in_line = command_free 10 words_free_of_line_feed

pub command_before_equals : (version : Version) (c : Command) → IsCommand Report version c → IsFree 61 (command_text c)
command_before_equals = command_free 61 words_free_of_equals
