-- How many bytes a command's record has.
use Rattle.std.proofs.Common.{◌≡◌, ℕ, ◌+◌, ◌-◌, ◌*◌, ◌/◌, ◌^◌, ◌<◌, ◌≤◌, List, [], ◌∷◌, ◌++◌, length, replicate, Option, Some, None, refl, ap, arith}
use Rattle.std.specs.List.{flat_map}
use Rattle.std.proofs.lemmas.List.{length-append, length-replicate}
use Rattle.std.proofs.lemmas.List.Concat.{flat_map-cons}
use Rattle.b1_model.specs.declared.commands.Command.{Command}
use Rattle.b1_model.specs.declared.commands.Command.TheVariants.{Disconnect, Query, Reset, Limit, Release, Destroy, SliceRelease, Send, Recv, Await}
use Rattle.b1_model.specs.declared.commands.SendCmd.{SendCmd}
use Rattle.b1_model.specs.Versions.{version_of}
use Rattle.b1_wire.specs.Numbers.{u64_bytes}
use Rattle.b1_records.specs.Spelling.{IsWithin, IsWithin2}
use Rattle.b1_records.specs.Spelling as records
use Rattle.b1_script.specs.Spelling.{IsWithinOf}
use Rattle.b1_text.specs.declared.statement.Entry.{Entry}
use Rattle.b1_text.specs.Drafts.{IsCarried, record_spelling, record_len}
use Rattle.b1_text.specs.Nexts.{plain_len}

length_numbers : (ns : List ℕ) → length (flat_map u64_bytes ns) ≡ 8 * length ns
length_numbers [] = refl
length_numbers (n ∷ ns) =
    let e = ap (λ (x : List ℕ). length x) (flat_map-cons u64_bytes n ns) in
    let ih = length_numbers ns in
    omega (arith, e, ih)

length_padded : (p : List ℕ) → length (records.padded p) ≡ (length p + 7) / 8 * 8
length_padded p = omega (arith, length-append p (replicate (records.rounded (length p) - length p) 0), length-replicate {A = ℕ} (records.rounded (length p) - length p) 0)

pub destroy_len : (ns : List ℕ) → plain_len (Destroy ns) ≡ 16 + 8 * length ns
destroy_len ns = omega (arith, length_numbers ns)

pub send_len : (s : SendCmd) → plain_len (Send s) ≡ 24 + 8 * length s.to + 8 * length s.with + (length s.payload + 7) / 8 * 8
send_len s =
    let counts : List ℕ = records.counts_spelling s in
    let to : List ℕ = flat_map u64_bytes s.to in
    let with : List ℕ = flat_map u64_bytes s.with in
    let payload : List ℕ = records.padded s.payload in
    let a = length-append counts to in
    let b = length-append (counts ++ to) with in
    let c = length-append (counts ++ to ++ with) payload in
    omega (arith, a, b, c, length_numbers s.to, length_numbers s.with, length_padded s.payload)

-- a record without a cookie
pub plain_record : (c : Command) → IsWithin c → length (records.spelling c) ≡ plain_len c
plain_record Disconnect within = refl
plain_record Query within = refl
plain_record (Reset limits) within = refl
plain_record (Limit limits) within = absurd within
plain_record (Release n) within = refl
plain_record (Destroy ns) within = omega arith
plain_record (SliceRelease n) within = refl
plain_record (Send s) within = omega (arith, length-append (records.head (records.kind_of_command (Send s)) (records.flags_of s.go_on)) (records.send_spelling s))
plain_record Recv within = refl
plain_record Await within = refl

-- and one with a cookie
pub marked_record : (k : ℕ) (c : Command) → length (records.spelling2 k c) ≡ plain_len c + 8
marked_record k c = omega (arith, length-append (records.head (records.kind_of_command c) (records.flags_of (records.has_flag c)) ++ u64_bytes k) (records.body_spelling c))

-- the bytes of a cookie
abbrev pub cookie_len : Option ℕ → ℕ
cookie_len None = 0
cookie_len (Some k) = 8

by_cookie : (k : Option ℕ) (c : Command) → IsWithinOf (version_of k) c → length (record_spelling k c) ≡ plain_len c + cookie_len k
by_cookie None c within = omega (arith, plain_record c within)
by_cookie (Some k) c within = marked_record k c

pub record_is : (e : Entry) → IsCarried e → record_len e ≡ plain_len e.command + cookie_len e.cookie
record_is e h = by_cookie e.cookie e.command h.within

-- a record has eight bytes at least
pub least_plain : (c : Command) → 8 ≤ plain_len c
least_plain c = omega arith

-- what a record of either version can carry is what one with a cookie can carry
pub within_two : (c : Command) → IsWithin c → IsWithin2 c
within_two Disconnect within = tt
within_two Query within = tt
within_two (Reset limits) within = tt
within_two (Limit limits) within = absurd within
within_two (Release n) within = tt
within_two (Destroy ns) within = within
within_two (SliceRelease n) within = tt
within_two (Send s) within = within
within_two Recv within = tt
within_two Await within = tt

of_either : (k : Option ℕ) (c : Command) → IsWithinOf (version_of k) c → IsWithin2 c
of_either None c within = within_two c within
of_either (Some k) c within = within

pub within_any : (e : Entry) → IsCarried e → IsWithin2 e.command
within_any e h = of_either e.cookie e.command h.within

-- it isn't long
pub small_plain : (c : Command) → IsWithin2 c → plain_len c < 2 ^ 32
small_plain Disconnect within = omega arith
small_plain Query within = omega arith
small_plain (Reset limits) within = omega arith
small_plain (Limit limits) within = omega arith
small_plain (Release n) within = omega arith
small_plain (Destroy ns) within = omega (arith, destroy_len ns, within)
small_plain (SliceRelease n) within = omega arith
small_plain (Send s) within = omega (arith, send_len s, within.to, within.with, within.payload)
small_plain Recv within = omega arith
small_plain Await within = omega arith
