-- What is counted in a record, and the line that tells it.
use Rattle.std.specs.Prelude.{◌≡◌, ℕ, ◌^◌, ◌≤◌, ◌⊎◌, nat_lt, if◌then◌else◌, List, ◌++◌, length, sum_by, count_by, is_none, Option, Some, None, codes}
use Rattle.b1_model.specs.declared.answers.Answer.{Answer}
use Rattle.b1_model.specs.declared.answers.Answer.TheVariants.{Sent, Got}
use Rattle.b1_model.specs.declared.answers.Receipt.TheVariants.{Message}
use Rattle.b1_model.specs.declared.records.Record.{Record}
use Rattle.std.specs.Fmt.{decimal}
use Rattle.b1_gen.specs.declared.counting.Counts.{Counts}
use Rattle.b1_gen.specs.declared.counting.Quantity.{Quantity}
use Rattle.b1_gen.specs.declared.counting.Quantity.TheVariants.{Sends, Entries, Receipts, Bytes}

-- how much one answer counts: a SEND that was accepted is one, and has an entry for each accepted place; a message that was taken is one, and has its bytes
abbrev pub worth : Quantity → Answer → ℕ
worth Sends (Sent sent) = 1
worth Entries (Sent sent) = count_by is_none sent.places
worth Receipts (Got (Message key number offset handles payload)) = 1
worth Bytes (Got (Message key number offset handles payload)) = length payload
worth quantity answer = 0

-- how often it stands in all calls of a record
abbrev pub total : Quantity → Record → ℕ
total quantity r = sum_by (λ p. sum_by (λ c. worth quantity c.answer) p.calls) r.peers

-- a count, where it is a number of 64 bits
abbrev pub within : ℕ → Option ℕ
within n = if nat_lt n (2 ^ 64) then Some n else None

-- the counts of a record, and nothing only where one of them is no number of 64 bits
abbrev pub HasCounts : Record → Option Counts → Type 0
HasCounts r (Some counts) = (counts.sends ≡ total Sends r) × (counts.entries ≡ total Entries r) × (counts.receipts ≡ total Receipts r) × (counts.bytes ≡ total Bytes r)
HasCounts r None = (2 ^ 64 ≤ total Sends r) ⊎ (2 ^ 64 ≤ total Entries r) ⊎ (2 ^ 64 ≤ total Receipts r) ⊎ (2 ^ 64 ≤ total Bytes r)

-- the line of a number, how many peers its script has, and the counts of the record
abbrev pub summary_start : ℕ → ℕ → ℕ → List ℕ
summary_start number peers sends = codes "soak " ++ decimal number ++ codes " peers " ++ decimal peers ++ codes " sends " ++ decimal sends

abbrev pub summary_end : ℕ → ℕ → ℕ → List ℕ
summary_end entries receipts bytes = codes " entries " ++ decimal entries ++ codes " receipts " ++ decimal receipts ++ codes " bytes " ++ decimal bytes ++ codes "\n"

abbrev pub summary_line : ℕ → ℕ → Counts → List ℕ
summary_line number peers counts = summary_start number peers counts.sends ++ summary_end counts.entries counts.receipts counts.bytes
