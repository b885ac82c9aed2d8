-- What is read of a command's record is spelled so, and what is spelled so is read.
use Rattle.std.proofs.Common.{◌≡◌, ℕ, zero, suc, ◌+◌, ◌-◌, ◌^◌, ◌<◌, ◌≤◌, Bool, true, false, ◌&&◌, cond, eqb, leb, ltb, List, [], ◌∷◌, ◌++◌, length, take, drop, Option, Some, None, Result, Ok, Err, refl, sym, ap, subst, ◌∙◌, append_assoc, arith}
use Rattle.std.specs.Prelude.{find, replicate, IfOk}
use Rattle.std.specs.Int.{w32, from_le_bytes}
use Rattle.std.specs.List.{flat_map, AllByRecursion, list_all}
use Rattle.std.proofs.lemmas.Bool.{leb-true, le-leb, eqb-true, ltb-false}
use Rattle.std.proofs.lemmas.List.{append-nil, length-append, length-take, length-drop, length-replicate, take-append-drop, take_at, drop_at}
use Rattle.b1_errs.specs.declared.Cause.{Cause}
use Rattle.b1_errs.specs.declared.Cause.TheVariants as causes
use Rattle.b1_errs.specs.declared.NotRead.{NotRead}
use Rattle.b1_model.specs.declared.commands.Command.{Command}
use Rattle.b1_model.specs.declared.commands.Command.TheVariants.{Disconnect, Query, Reset, Limit, Release, Destroy, SliceRelease, Send, Recv, Await}
use Rattle.b1_model.specs.declared.commands.SendCmd.{SendCmd}
use Rattle.b1_model.specs.declared.naming.Limits.{Limits}
use Rattle.b1_records.specs.declared.kinds.Kind.{Kind}
use Rattle.b1_records.specs.declared.kinds.Kind.TheVariants as kinds
use Rattle.b1_wire.specs.Numbers.{u32_bytes, u64_bytes}
use Rattle.b1_records.specs.Spelling.{code_of, flags_of, most_numbers, most_bytes, rounded, padded, limits_spelling, list_spelling, send_spelling, spelling, IsSendWithin, IsWithin, Is32, Is64, IsByte, AreLimits, IsSend, HasNumbers, Stands, IsRecord}
use Rattle.b1_records.specs.Reading.{◌>>=◌, Read, Fault, Gives, fault_of, bad_record, known, kind_of, goes_on_of, field_at, number_at, long_number_at, zero_at, count_at, numbers_at, payload_at, kind_at, flags_at, limits_at, list_at, send_at, body_at, command_at}
use Rattle.b1_records.proofs.Formats.{IsBytes, done, stands_nothing, IsFormat, bind_ok, guard_ok, passed_ok, ok_is, stands_bytes, IsBytes-take, convert, field_format, number_format, long_number_format, checked_format, pure_format, seq_format, many_format}

-- ---- fields

pub zero_format : (limit : ℕ) (bytes : List ℕ) → IsBytes bytes → IsFormat limit bytes (zero_at limit bytes) u32_bytes (λ n. n ≡ 0)
unfolding zero_at
zero_format limit bytes fits =
    convert limit bytes _ u32_bytes u32_bytes (λ n. (eqb n 0 ≡ true) × Is32 n) (λ n. n ≡ 0)
    (checked_format limit bytes (λ n. eqb n 0) causes.Reserved (number_at limit bytes) u32_bytes Is32 (number_format limit bytes fits))
    (λ n h. refl) (λ n h. eqb-true n 0 h.0) (λ n h. rw h (refl, omega arith))

pub count_format : (limit : ℕ) (bytes : List ℕ) (most : ℕ) → IsBytes bytes → most < 2 ^ 32 → IsFormat limit bytes (count_at limit bytes most) u32_bytes (λ n. n ≤ most)
unfolding count_at
count_format limit bytes most fits small =
    convert limit bytes _ u32_bytes u32_bytes (λ n. (leb n most ≡ true) × Is32 n) (λ n. n ≤ most)
    (checked_format limit bytes (λ n. leb n most) causes.Count (number_at limit bytes) u32_bytes Is32 (number_format limit bytes fits))
    (λ n h. refl) (λ n h. leb-true n most h.0) (λ n h. (le-leb n most h, omega (arith, h, small)))

pub numbers_format : (limit : ℕ) (bytes : List ℕ) (count : ℕ) → IsBytes bytes → IsFormat limit bytes (numbers_at limit bytes count) (flat_map u64_bytes) (λ xs. (length xs ≡ count) × AllByRecursion Is64 xs)
unfolding numbers_at
numbers_format limit bytes count fits = many_format limit bytes (long_number_at limit bytes) u64_bytes Is64 (long_number_format limit bytes fits) count

pub both_true : (a b : Bool) → (a && b) ≡ true → (a ≡ true) × (b ≡ true)
both_true true b h = (refl, h)
both_true false b h = absurd cc

-- zeros are that many zeros
are_zeros : (xs : List ℕ) → list_all (λ b. eqb b 0) xs ≡ true → xs ≡ replicate (length xs) 0
are_zeros [] h = refl
are_zeros (x ∷ xs) h =
    let b = both_true (eqb x 0) (list_all (λ b. eqb b 0) xs) h in
    let first : x ≡ 0 = eqb-true x 0 b.0 in
    rw (first, ← are_zeros xs b.1) refl

zeros_pass : (n : ℕ) → list_all (λ b. eqb b 0) (replicate n 0) ≡ true
zeros_pass zero = refl
zeros_pass (suc n) = zeros_pass n

bytes_each : (xs : List ℕ) → IsBytes xs → AllByRecursion IsByte xs
bytes_each [] fits = tt
bytes_each (x ∷ xs) fits = (fits 0, bytes_each xs (λ i. fits (suc i)))

rounded_up : (len : ℕ) → len ≤ rounded len
rounded_up len = omega arith

length_padded : (p : List ℕ) → length (padded p) ≡ rounded (length p)
length_padded p = omega (arith, length-append p (replicate (rounded (length p) - length p) 0), length-replicate {A = ℕ} (rounded (length p) - length p) 0, rounded_up (length p))

pub payload_format : (limit : ℕ) (bytes : List ℕ) (len : ℕ) → IsBytes bytes → IsFormat limit bytes (payload_at limit bytes len) padded (λ p. (length p ≡ len) × AllByRecursion IsByte p)
unfolding payload_at
payload_format limit bytes len fits = record {
  takes = λ at a end in_bytes in_limit e.
      let b = bind_ok (field_at limit bytes (rounded len) at) (λ field. cond (list_all (λ b. eqb b 0) (drop len field.0)) (Ok (take len field.0, field.1)) (Err (at, causes.Reserved))) (a, end) e in
      let p = passed_ok (list_all (λ b. eqb b 0) (drop len b.0.0)) (at, causes.Reserved) (Ok (take len b.0.0, b.0.1)) (a, end) b.2 in
      let is = ok_is (take len b.0.0, b.0.1) (a, end) p.1 in
      let t = (field_format limit bytes (rounded len)).takes at b.0.0 b.0.1 in_bytes in_limit b.1 in
      let whole : length (take len b.0.0) ≡ len = omega (arith, length-take len b.0.0, t.2, rounded_up len) in
      let zeros : drop len b.0.0 ≡ replicate (rounded len - len) 0 = are_zeros (drop len b.0.0) p.0 ∙ ap (λ (n : ℕ). replicate n 0) (omega (arith, length-drop len b.0.0, t.2)) in
      let text : padded (take len b.0.0) ≡ b.0.0 = ap (λ (n : ℕ). take len b.0.0 ++ replicate (rounded n - n) 0) whole ∙ ap (λ (x : List ℕ). take len b.0.0 ++ x) (sym zeros) ∙ take-append-drop len b.0.0 in
      let made : Stands bytes at (padded (take len b.0.0)) b.0.1 = subst (λ (x : List ℕ). Stands bytes at x b.0.1) (sym text) t.0 in
      let each = bytes_each (take len b.0.0) (IsBytes-take len b.0.0 (stands_bytes bytes b.0.0 at b.0.1 fits t.0)) in
      subst (λ (q : List ℕ × ℕ). Stands bytes at (padded q.0) q.1 × (q.1 ≤ limit) × ((length q.0 ≡ len) × AllByRecursion IsByte q.0)) is (made, t.1, (whole, each));
  again = λ at a end s by h.
      let long : length (padded a) ≡ rounded len = length_padded a ∙ ap rounded h.0 in
      let f = (field_format limit bytes (rounded len)).again at (padded a) end s by long in
      let zeros : drop len (padded a) ≡ replicate (rounded (length a) - length a) 0 = drop_at a (replicate (rounded (length a) - length a) 0) len h.0 in
      let front : take len (padded a) ≡ a = take_at a (replicate (rounded (length a) - length a) 0) len h.0 in
      rw (f, zeros, zeros_pass (rounded (length a) - length a), front) refl;
}

-- ---- three limits

abbrev limits3 : ℕ → List ℕ → ℕ → ℕ → ℕ → ℕ → Read Limits
limits3 limit bytes entries size handles at = zero_at limit bytes at >>= λ end. Ok (record { entries = entries; bytes = size; handles = handles }, end.1)

abbrev limits2 : ℕ → List ℕ → ℕ → ℕ → ℕ → Read Limits
limits2 limit bytes entries size at = number_at limit bytes at >>= λ handles. limits3 limit bytes entries size handles.0 handles.1

abbrev limits1 : ℕ → List ℕ → ℕ → ℕ → Read Limits
limits1 limit bytes entries at = number_at limit bytes at >>= λ size. limits2 limit bytes entries size.0 size.1

pub limits_format : (limit : ℕ) (bytes : List ℕ) → IsBytes bytes → IsFormat limit bytes (limits_at limit bytes) limits_spelling AreLimits
unfolding limits_at
limits_format limit bytes fits =
    let number = number_format limit bytes fits in
    let f3 = λ (a b c : ℕ). seq_format {A = ℕ} {B = Limits} limit bytes (zero_at limit bytes) (λ z at. Ok (record { entries = a; bytes = b; handles = c }, at)) u32_bytes (λ n. n ≡ 0) (λ z l. []) (λ z l. l ≡ record { entries = a; bytes = b; handles = c }) (λ l. 0)
    (zero_format limit bytes fits) (λ z h. pure_format {A = Limits} limit bytes (record { entries = a; bytes = b; handles = c })) (λ z l h k. sym h) in
    let f2 = λ (a b : ℕ). seq_format {A = ℕ} {B = Limits} limit bytes (number_at limit bytes) (limits3 limit bytes a b) u32_bytes Is32 (λ c l. u32_bytes 0 ++ []) (λ c l. (zero ≡ 0) × (l ≡ record { entries = a; bytes = b; handles = c })) (λ l. l.handles)
    number (λ c h. f3 a b c) (λ c l h k. ap (λ (x : Limits). x.handles) k.1) in
    let f1 = λ (a : ℕ). seq_format {A = ℕ} {B = Limits} limit bytes (number_at limit bytes) (limits2 limit bytes a) u32_bytes Is32 (λ b l. u32_bytes l.handles ++ (u32_bytes 0 ++ [])) (λ b l. Is32 l.handles × ((zero ≡ 0) × (l ≡ record { entries = a; bytes = b; handles = l.handles }))) (λ l. l.bytes)
    number (λ b h. f2 a b) (λ b l h k. ap (λ (x : Limits). x.bytes) k.1.1) in
    let f0 = seq_format {A = ℕ} {B = Limits} limit bytes (number_at limit bytes) (limits1 limit bytes) u32_bytes Is32 (λ a l. u32_bytes l.bytes ++ (u32_bytes l.handles ++ (u32_bytes 0 ++ []))) (λ a l. Is32 l.bytes × (Is32 l.handles × ((zero ≡ 0) × (l ≡ record { entries = a; bytes = l.bytes; handles = l.handles })))) (λ l. l.entries)
    number (λ a h. f1 a) (λ a l h k. ap (λ (x : Limits). x.entries) k.1.1.1) in
    convert {A = Limits} limit bytes (limits_at limit bytes) _ limits_spelling _ AreLimits f0
    (λ l h. refl)
    (λ l h. record { entries = h.0; bytes = h.1.0; handles = h.1.1.0 })
    (λ l h. (h.entries, (h.bytes, (h.handles, (refl, refl)))))

-- ---- a list of numbers behind its length

abbrev list2 : ℕ → List ℕ → ℕ → ℕ → Read (List ℕ)
list2 limit bytes count at = zero_at limit bytes at >>= λ start. numbers_at limit bytes count start.1

pub list_format : (limit : ℕ) (bytes : List ℕ) → IsBytes bytes → IsFormat limit bytes (list_at limit bytes) list_spelling (λ xs. (length xs ≤ most_numbers) × AllByRecursion Is64 xs)
unfolding list_at
list_format limit bytes fits =
    let f2 = λ (count : ℕ). seq_format {A = ℕ} {B = List ℕ} limit bytes (zero_at limit bytes) (λ z. numbers_at limit bytes count) u32_bytes (λ n. n ≡ 0) (λ z xs. flat_map u64_bytes xs) (λ z xs. (length xs ≡ count) × AllByRecursion Is64 xs) (λ xs. 0)
    (zero_format limit bytes fits) (λ z h. numbers_format limit bytes count fits) (λ z xs h k. sym h) in
    let f1 = seq_format {A = ℕ} {B = List ℕ} limit bytes (count_at limit bytes most_numbers) (list2 limit bytes) u32_bytes (λ n. n ≤ most_numbers) (λ count xs. u32_bytes 0 ++ flat_map u64_bytes xs) (λ count xs. (zero ≡ 0) × ((length xs ≡ count) × AllByRecursion Is64 xs)) (λ xs. length xs)
    (count_format limit bytes most_numbers fits (omega arith)) (λ count h. f2 count) (λ count xs h k. k.1.0) in
    convert {A = List ℕ} limit bytes (list_at limit bytes) _ list_spelling _ (λ xs. (length xs ≤ most_numbers) × AllByRecursion Is64 xs) f1
    (λ xs h. refl) (λ xs h. (h.0, h.1.1.1)) (λ xs h. (h.0, (refl, (refl, h.1))))

-- ---- a SEND

abbrev send7 : ℕ → List ℕ → Bool → List ℕ → List ℕ → ℕ → ℕ → Read SendCmd
send7 limit bytes go_on to with len at = payload_at limit bytes len at >>= λ payload. Ok (record { go_on = go_on; to = to; with = with; payload = payload.0 }, payload.1)

abbrev send6 : ℕ → List ℕ → Bool → List ℕ → ℕ → ℕ → ℕ → Read SendCmd
send6 limit bytes go_on to handles len at = numbers_at limit bytes handles at >>= λ with. send7 limit bytes go_on to with.0 len with.1

abbrev send5 : ℕ → List ℕ → Bool → ℕ → ℕ → ℕ → ℕ → Read SendCmd
send5 limit bytes go_on destinations handles len at = numbers_at limit bytes destinations at >>= λ to. send6 limit bytes go_on to.0 handles len to.1

abbrev send4 : ℕ → List ℕ → Bool → ℕ → ℕ → ℕ → ℕ → Read SendCmd
send4 limit bytes go_on destinations handles len at = zero_at limit bytes at >>= λ start. send5 limit bytes go_on destinations handles len start.1

abbrev send3 : ℕ → List ℕ → Bool → ℕ → ℕ → ℕ → Read SendCmd
send3 limit bytes go_on destinations handles at = count_at limit bytes most_bytes at >>= λ len. send4 limit bytes go_on destinations handles len.0 len.1

abbrev send2 : ℕ → List ℕ → Bool → ℕ → ℕ → Read SendCmd
send2 limit bytes go_on destinations at = count_at limit bytes most_numbers at >>= λ handles. send3 limit bytes go_on destinations handles.0 handles.1

-- the texts and the facts of the fields from each on
abbrev text7 : SendCmd → List ℕ
text7 s = padded s.payload ++ []

abbrev text6 : SendCmd → List ℕ
text6 s = flat_map u64_bytes s.with ++ text7 s

abbrev text5 : SendCmd → List ℕ
text5 s = flat_map u64_bytes s.to ++ text6 s

abbrev text4 : SendCmd → List ℕ
text4 s = u32_bytes 0 ++ text5 s

abbrev text3 : SendCmd → List ℕ
text3 s = u32_bytes (length s.payload) ++ text4 s

abbrev text2 : SendCmd → List ℕ
text2 s = u32_bytes (length s.with) ++ text3 s

abbrev fits7 : Bool → List ℕ → List ℕ → ℕ → SendCmd → Type 0
fits7 go_on to with len s = ((length s.payload ≡ len) × AllByRecursion IsByte s.payload) × (s ≡ record { go_on = go_on; to = to; with = with; payload = s.payload })

abbrev fits6 : Bool → List ℕ → ℕ → ℕ → SendCmd → Type 0
fits6 go_on to handles len s = ((length s.with ≡ handles) × AllByRecursion Is64 s.with) × fits7 go_on to s.with len s

abbrev fits5 : Bool → ℕ → ℕ → ℕ → SendCmd → Type 0
fits5 go_on destinations handles len s = ((length s.to ≡ destinations) × AllByRecursion Is64 s.to) × fits6 go_on s.to handles len s

abbrev fits4 : Bool → ℕ → ℕ → ℕ → SendCmd → Type 0
fits4 go_on destinations handles len s = (zero ≡ 0) × fits5 go_on destinations handles len s

abbrev fits3 : Bool → ℕ → ℕ → SendCmd → Type 0
fits3 go_on destinations handles s = (length s.payload ≤ most_bytes) × fits4 go_on destinations handles (length s.payload) s

abbrev fits2 : Bool → ℕ → SendCmd → Type 0
fits2 go_on destinations s = (length s.with ≤ most_numbers) × fits3 go_on destinations (length s.with) s

send_text : (s : SendCmd) → u32_bytes (length s.to) ++ text2 s ≡ send_spelling s
send_text s = ap (λ (x : List ℕ). u32_bytes (length s.to) ++ u32_bytes (length s.with) ++ u32_bytes (length s.payload) ++ u32_bytes 0 ++ x)
    (ap (λ (x : List ℕ). flat_map u64_bytes s.to ++ (flat_map u64_bytes s.with ++ x)) (append-nil (padded s.payload)) ∙ sym (append_assoc (flat_map u64_bytes s.to) (flat_map u64_bytes s.with) (padded s.payload)))

pub send_format : (limit : ℕ) (bytes : List ℕ) (go_on : Bool) → IsBytes bytes → IsFormat limit bytes (send_at limit bytes go_on) send_spelling (λ s. IsSendWithin s × IsSend s × (s.go_on ≡ go_on))
unfolding send_at
send_format limit bytes go_on fits =
    let count = count_format limit bytes most_numbers fits (omega arith) in
    let f7 = λ (to with : List ℕ) (len : ℕ). seq_format {A = List ℕ} {B = SendCmd} limit bytes (payload_at limit bytes len) (λ p at. Ok (record { go_on = go_on; to = to; with = with; payload = p }, at)) padded (λ p. (length p ≡ len) × AllByRecursion IsByte p)
    (λ p s. []) (λ p s. s ≡ record { go_on = go_on; to = to; with = with; payload = p }) (λ s. s.payload)
    (payload_format limit bytes len fits) (λ p h. pure_format {A = SendCmd} limit bytes (record { go_on = go_on; to = to; with = with; payload = p })) (λ p s h k. ap (λ (x : SendCmd). x.payload) k) in
    let f6 = λ (to : List ℕ) (handles len : ℕ). seq_format {A = List ℕ} {B = SendCmd} limit bytes (numbers_at limit bytes handles) (λ with. send7 limit bytes go_on to with len) (flat_map u64_bytes) (λ xs. (length xs ≡ handles) × AllByRecursion Is64 xs)
    (λ with. text7) (λ with. fits7 go_on to with len) (λ s. s.with)
    (numbers_format limit bytes handles fits) (λ with h. f7 to with len) (λ with s h k. ap (λ (x : SendCmd). x.with) k.1) in
    let f5 = λ (destinations handles len : ℕ). seq_format {A = List ℕ} {B = SendCmd} limit bytes (numbers_at limit bytes destinations) (λ to. send6 limit bytes go_on to handles len) (flat_map u64_bytes) (λ xs. (length xs ≡ destinations) × AllByRecursion Is64 xs)
    (λ to. text6) (λ to. fits6 go_on to handles len) (λ s. s.to)
    (numbers_format limit bytes destinations fits) (λ to h. f6 to handles len) (λ to s h k. ap (λ (x : SendCmd). x.to) k.1.1) in
    let f4 = λ (destinations handles len : ℕ). seq_format {A = ℕ} {B = SendCmd} limit bytes (zero_at limit bytes) (λ z. send5 limit bytes go_on destinations handles len) u32_bytes (λ n. n ≡ 0)
    (λ z. text5) (λ z. fits5 go_on destinations handles len) (λ s. 0)
    (zero_format limit bytes fits) (λ z h. f5 destinations handles len) (λ z s h k. sym h) in
    let f3 = λ (destinations handles : ℕ). seq_format {A = ℕ} {B = SendCmd} limit bytes (count_at limit bytes most_bytes) (send4 limit bytes go_on destinations handles) u32_bytes (λ n. n ≤ most_bytes)
    (λ len. text4) (λ len. fits4 go_on destinations handles len) (λ s. length s.payload)
    (count_format limit bytes most_bytes fits (omega arith)) (λ len h. f4 destinations handles len) (λ len s h k. k.1.1.1.0.0) in
    let f2 = λ (destinations : ℕ). seq_format {A = ℕ} {B = SendCmd} limit bytes (count_at limit bytes most_numbers) (send3 limit bytes go_on destinations) u32_bytes (λ n. n ≤ most_numbers)
    (λ handles. text3) (λ handles. fits3 go_on destinations handles) (λ s. length s.with)
    count (λ handles h. f3 destinations handles) (λ handles s h k. k.1.1.1.0.0) in
    let f1 = seq_format {A = ℕ} {B = SendCmd} limit bytes (count_at limit bytes most_numbers) (send2 limit bytes go_on) u32_bytes (λ n. n ≤ most_numbers)
    (λ destinations. text2) (λ destinations. fits2 go_on destinations) (λ s. length s.to)
    count (λ destinations h. f2 destinations) (λ destinations s h k. k.1.1.1.0.0) in
    convert {A = SendCmd} limit bytes (send_at limit bytes go_on) _ send_spelling _ (λ s. IsSendWithin s × IsSend s × (s.go_on ≡ go_on)) f1
    (λ s h. send_text s)
    (λ s h. (record { to = h.0; with = h.1.0; payload = h.1.1.0 }, record { to = h.1.1.1.1.0.1; with = h.1.1.1.1.1.0.1; payload = h.1.1.1.1.1.1.0.1 }, ap (λ (x : SendCmd). x.go_on) h.1.1.1.1.1.1.1))
    (λ s h. (h.0.to, (h.0.with, (h.0.payload, (refl, ((refl, h.1.to), ((refl, h.1.with), ((refl, h.1.payload), ap (λ (g : Bool). record s { go_on = g }) h.2))))))))

-- ---- code and flags

found_here : {X : Type 0} (p : X → Bool) (b : Bool) (y x : X) (later : Option X) → p y ≡ b → cond b (Some y) later ≡ Some x → (later ≡ Some x → p x ≡ true) → p x ≡ true
found_here {X = X} p true y x later is e h = let same : y ≡ x = cc in subst (λ (z : X). p z ≡ true) same is
found_here p false y x later is e h = h e

find_holds : {X : Type 0} (p : X → Bool) (xs : List X) (x : X) → find p xs ≡ Some x → p x ≡ true
find_holds p [] x e = absurd cc
find_holds p (y ∷ ys) x e = found_here p (p y) y x (find p ys) refl e (find_holds p ys x)

pub known_ok : {A : Type 0} (o : Option A) (cause : Cause) (at end : ℕ) (a : A) (end' : ℕ) → known o cause at end ≡ Ok (a, end') → (o ≡ Some a) × (end ≡ end')
known_ok {A = A} (Some b) cause at end a end' e = let p = ok_is (b, end) (a, end') e in (ap (λ (q : A × ℕ). Some q.0) p, ap (λ (q : A × ℕ). q.1) p)
known_ok None cause at end a end' e = absurd cc

kind_again : (kind : Kind) → kind_of (code_of kind) ≡ Some kind
kind_again kinds.Disconnect = refl
kind_again kinds.Query = refl
kind_again kinds.Reset = refl
kind_again kinds.Release = refl
kind_again kinds.Destroy = refl
kind_again kinds.SliceRelease = refl
kind_again kinds.Send = refl
kind_again kinds.Recv = refl
kind_again kinds.Await = refl

small_code : (kind : Kind) → Is32 (code_of kind)
small_code kinds.Disconnect = omega arith
small_code kinds.Query = omega arith
small_code kinds.Reset = omega arith
small_code kinds.Release = omega arith
small_code kinds.Destroy = omega arith
small_code kinds.SliceRelease = omega arith
small_code kinds.Send = omega arith
small_code kinds.Recv = omega arith
small_code kinds.Await = omega arith

pub kind_format : (limit : ℕ) (bytes : List ℕ) → IsBytes bytes → IsFormat limit bytes (kind_at limit bytes) (λ kind. u32_bytes (code_of kind)) (λ kind. Unit {0})
unfolding kind_at
kind_format limit bytes fits = record {
  takes = λ at kind end in_bytes in_limit e.
      let b = bind_ok (number_at limit bytes at) (λ code. known (kind_of code.0) causes.Command at code.1) (kind, end) e in
      let k = known_ok (kind_of b.0.0) causes.Command at b.0.1 kind end b.2 in
      let code : code_of kind ≡ b.0.0 = eqb-true _ _ (find_holds (λ k. eqb (code_of k) b.0.0) (kinds.Disconnect ∷ kinds.Query ∷ kinds.Reset ∷ kinds.Release ∷ kinds.Destroy ∷ kinds.SliceRelease ∷ kinds.Send ∷ kinds.Recv ∷ kinds.Await ∷ []) kind k.0) in
      let t = (number_format limit bytes fits).takes at b.0.0 b.0.1 in_bytes in_limit b.1 in
      let made : Stands bytes at (u32_bytes (code_of kind)) b.0.1 = subst (λ (n : ℕ). Stands bytes at (u32_bytes n) b.0.1) (sym code) t.0 in
      subst (λ (n : ℕ). Stands bytes at (u32_bytes (code_of kind)) n × (n ≤ limit) × Unit {0}) k.1 (made, t.1, tt);
  again = λ at kind end s by h.
      rw ((number_format limit bytes fits).again at (code_of kind) end s by (small_code kind), kind_again kind) refl;
}

-- flags that are known, and whether the command goes on
abbrev pub CanGoOn : Kind → Bool → Type 0
CanGoOn kind go_on = goes_on_of kind (flags_of go_on) ≡ Some go_on

-- of commands that know no flag
none_known : (kind : Kind) (none : Bool) (n : ℕ) (g : Bool) → eqb n 0 ≡ none → goes_on_of kind 0 ≡ Some false → cond none (Some false) None ≡ Some g → (flags_of g ≡ n) × CanGoOn kind g
none_known kind true n true is can e = absurd cc
none_known kind true n false is can e = (sym (eqb-true n 0 is), can)
none_known kind false n g is can e = absurd cc

-- of a SEND
pub one_known : (small one : Bool) (n : ℕ) (g : Bool) → leb n 1 ≡ small → eqb n 1 ≡ one → cond small (Some one) None ≡ Some g → (flags_of g ≡ n) × CanGoOn kinds.Send g
one_known true true n true le is e = (sym (eqb-true n 1 is), refl)
one_known true true n false le is e = absurd cc
one_known true false n true le is e = absurd cc
one_known true false n false le is e = (grind (arith, leb-true n 1 le, is), refl)
one_known false one n g le is e = absurd cc

pub flags_known : (kind : Kind) (n : ℕ) (g : Bool) → goes_on_of kind n ≡ Some g → (flags_of g ≡ n) × CanGoOn kind g
flags_known kinds.Disconnect n g e = none_known kinds.Disconnect (eqb n 0) n g refl refl e
flags_known kinds.Query n g e = none_known kinds.Query (eqb n 0) n g refl refl e
flags_known kinds.Reset n g e = none_known kinds.Reset (eqb n 0) n g refl refl e
flags_known kinds.Release n g e = none_known kinds.Release (eqb n 0) n g refl refl e
flags_known kinds.Destroy n g e = none_known kinds.Destroy (eqb n 0) n g refl refl e
flags_known kinds.SliceRelease n g e = none_known kinds.SliceRelease (eqb n 0) n g refl refl e
flags_known kinds.Send n g e = one_known (leb n 1) (eqb n 1) n g refl refl e
flags_known kinds.Recv n g e = none_known kinds.Recv (eqb n 0) n g refl refl e
flags_known kinds.Await n g e = none_known kinds.Await (eqb n 0) n g refl refl e

pub small_flags : (g : Bool) → Is32 (flags_of g)
small_flags true = omega arith
small_flags false = omega arith

pub flags_format : (limit : ℕ) (bytes : List ℕ) (kind : Kind) → IsBytes bytes → IsFormat limit bytes (flags_at limit bytes kind) (λ g. u32_bytes (flags_of g)) (CanGoOn kind)
unfolding flags_at
flags_format limit bytes kind fits = record {
  takes = λ at g end in_bytes in_limit e.
      let b = bind_ok (number_at limit bytes at) (λ flags. known (goes_on_of kind flags.0) causes.Flags at flags.1) (g, end) e in
      let k = known_ok (goes_on_of kind b.0.0) causes.Flags at b.0.1 g end b.2 in
      let f = flags_known kind b.0.0 g k.0 in
      let t = (number_format limit bytes fits).takes at b.0.0 b.0.1 in_bytes in_limit b.1 in
      let made : Stands bytes at (u32_bytes (flags_of g)) b.0.1 = subst (λ (n : ℕ). Stands bytes at (u32_bytes n) b.0.1) (sym f.0) t.0 in
      subst (λ (n : ℕ). Stands bytes at (u32_bytes (flags_of g)) n × (n ≤ limit) × CanGoOn kind g) k.1 (made, t.1, f.1);
  again = λ at g end s by h.
      rw ((number_format limit bytes fits).again at (flags_of g) end s by (small_flags g), h) refl;
}

-- ---- bodies

unfoldable pub command_kind : Command → Kind
command_kind Disconnect = kinds.Disconnect
command_kind Query = kinds.Query
command_kind (Reset limits) = kinds.Reset
command_kind (Limit limits) = kinds.Reset
command_kind (Release number) = kinds.Release
command_kind (Destroy numbers) = kinds.Destroy
command_kind (SliceRelease offset) = kinds.SliceRelease
command_kind (Send send) = kinds.Send
command_kind Recv = kinds.Recv
command_kind Await = kinds.Await

unfoldable pub command_goes_on : Command → Bool
command_goes_on (Send send) = send.go_on
command_goes_on command = false

-- what follows a command's code and flags
unfoldable pub body_text : Command → List ℕ
body_text (Reset limits) = limits_spelling limits
body_text (Release number) = u64_bytes number
body_text (Destroy numbers) = list_spelling numbers
body_text (SliceRelease offset) = u64_bytes offset
body_text (Send send) = send_spelling send
body_text command = []

pub record IsBody (kind : Kind) (go_on : Bool) (c : Command) : Type 0 where
  pub kind_is : command_kind c ≡ kind
  pub goes_on_is : command_goes_on c ≡ go_on
  pub limits : IsWithin c
  pub numbers : HasNumbers c

-- one of the other commands doesn't go on
stays : (kind : Kind) → goes_on_of kind 1 ≡ None → (go_on : Bool) → CanGoOn kind go_on → false ≡ go_on
stays kind no_flag true can = absurd cc
stays kind no_flag false can = refl

-- a command that is made of what one format reads
pub mapped_takes : {A : Type 0} (limit : ℕ) (bytes : List ℕ) (read : ℕ → Read A) (text : A → List ℕ) (Fits : A → Type 0) → IsFormat limit bytes read text Fits
    → (make : A → Command) (at : ℕ) (c : Command) (end : ℕ) → at ≤ length bytes → at ≤ limit → (read at >>= λ x. Ok (make x.0, x.1)) ≡ Ok (c, end)
    → (a : A) × (make a ≡ c) × Stands bytes at (text a) end × (end ≤ limit) × Fits a
mapped_takes {A = A} limit bytes read text Fits format make at c end in_bytes in_limit e =
    let b = bind_ok (read at) (λ (x : A × ℕ). Ok (make x.0, x.1)) (c, end) e in
    let is = ok_is (make b.0.0, b.0.1) (c, end) b.2 in
    let t = format.takes at b.0.0 b.0.1 in_bytes in_limit b.1 in
    let c-is : make b.0.0 ≡ c = ap (λ (p : Command × ℕ). p.0) is in
    let end-is : b.0.1 ≡ end = ap (λ (p : Command × ℕ). p.1) is in
    (b.0.0, c-is, subst (λ (n : ℕ). Stands bytes at (text b.0.0) n) end-is t.0, subst (λ (n : ℕ). n ≤ limit) end-is t.1, t.2)

-- one that is made of nothing
plain_takes : (limit : ℕ) (bytes : List ℕ) (kind : Kind) (d : Command) (at : ℕ) (c : Command) (end : ℕ) → at ≤ length bytes → at ≤ limit → (go_on : Bool) → IsBody kind go_on d → body_text d ≡ []
    → done {A = Command × ℕ} (d, at) ≡ done {A = Command × ℕ} (c, end) → Stands bytes at (body_text c) end × (end ≤ limit) × IsBody kind go_on c
plain_takes limit bytes kind d at c end in_bytes in_limit go_on body empty e =
    subst (λ (p : Command × ℕ). Stands bytes at (body_text p.0) p.1 × (p.1 ≤ limit) × IsBody kind go_on p.0) (ok_is (d, at) (c, end) e) (subst (λ (x : List ℕ). Stands bytes at x at) (sym empty) (stands_nothing bytes at in_bytes), in_limit, body)

-- the body's facts, for what was made
abbrev pub Took : ℕ → List ℕ → ℕ → ℕ → Kind → Bool → Command → Type 0
Took limit bytes at end kind go_on c = Stands bytes at (body_text c) end × (end ≤ limit) × IsBody kind go_on c

pub body_takes : (limit : ℕ) (bytes : List ℕ) → IsBytes bytes → (kind : Kind) (go_on : Bool) (at : ℕ) (c : Command) (end : ℕ) → at ≤ length bytes → at ≤ limit → CanGoOn kind go_on
    → body_at limit bytes kind go_on at ≡ Ok (c, end) → Took limit bytes at end kind go_on c
unfolding body_at command_kind command_goes_on body_text
body_takes limit bytes fits kinds.Disconnect go_on at c end in_bytes in_limit can e =
    plain_takes limit bytes kinds.Disconnect Disconnect at c end in_bytes in_limit go_on (record { kind_is = refl; goes_on_is = stays kinds.Disconnect refl go_on can; limits = tt; numbers = tt }) refl e
body_takes limit bytes fits kinds.Query go_on at c end in_bytes in_limit can e =
    plain_takes limit bytes kinds.Query Query at c end in_bytes in_limit go_on (record { kind_is = refl; goes_on_is = stays kinds.Query refl go_on can; limits = tt; numbers = tt }) refl e
body_takes limit bytes fits kinds.Recv go_on at c end in_bytes in_limit can e =
    plain_takes limit bytes kinds.Recv Recv at c end in_bytes in_limit go_on (record { kind_is = refl; goes_on_is = stays kinds.Recv refl go_on can; limits = tt; numbers = tt }) refl e
body_takes limit bytes fits kinds.Await go_on at c end in_bytes in_limit can e =
    plain_takes limit bytes kinds.Await Await at c end in_bytes in_limit go_on (record { kind_is = refl; goes_on_is = stays kinds.Await refl go_on can; limits = tt; numbers = tt }) refl e
body_takes limit bytes fits kinds.Reset go_on at c end in_bytes in_limit can e =
    let m = mapped_takes limit bytes (limits_at limit bytes) limits_spelling AreLimits (limits_format limit bytes fits) (λ l. Reset l) at c end in_bytes in_limit e in
    subst (Took limit bytes at end kinds.Reset go_on) m.1 (m.2, m.3, record { kind_is = refl; goes_on_is = stays kinds.Reset refl go_on can; limits = tt; numbers = m.4 })
body_takes limit bytes fits kinds.Release go_on at c end in_bytes in_limit can e =
    let m = mapped_takes limit bytes (long_number_at limit bytes) u64_bytes Is64 (long_number_format limit bytes fits) (λ n. Release n) at c end in_bytes in_limit e in
    subst (Took limit bytes at end kinds.Release go_on) m.1 (m.2, m.3, record { kind_is = refl; goes_on_is = stays kinds.Release refl go_on can; limits = tt; numbers = m.4 })
body_takes limit bytes fits kinds.Destroy go_on at c end in_bytes in_limit can e =
    let m = mapped_takes limit bytes (list_at limit bytes) list_spelling (λ xs. (length xs ≤ most_numbers) × AllByRecursion Is64 xs) (list_format limit bytes fits) (λ xs. Destroy xs) at c end in_bytes in_limit e in
    subst (Took limit bytes at end kinds.Destroy go_on) m.1 (m.2, m.3, record { kind_is = refl; goes_on_is = stays kinds.Destroy refl go_on can; limits = m.4.0; numbers = m.4.1 })
body_takes limit bytes fits kinds.SliceRelease go_on at c end in_bytes in_limit can e =
    let m = mapped_takes limit bytes (long_number_at limit bytes) u64_bytes Is64 (long_number_format limit bytes fits) (λ n. SliceRelease n) at c end in_bytes in_limit e in
    subst (Took limit bytes at end kinds.SliceRelease go_on) m.1 (m.2, m.3, record { kind_is = refl; goes_on_is = stays kinds.SliceRelease refl go_on can; limits = tt; numbers = m.4 })
body_takes limit bytes fits kinds.Send go_on at c end in_bytes in_limit can e =
    let m = mapped_takes limit bytes (send_at limit bytes go_on) send_spelling (λ s. IsSendWithin s × IsSend s × (s.go_on ≡ go_on)) (send_format limit bytes go_on fits) (λ s. Send s) at c end in_bytes in_limit e in
    subst (Took limit bytes at end kinds.Send go_on) m.1 (m.2, m.3, record { kind_is = refl; goes_on_is = m.4.2; limits = m.4.0; numbers = m.4.1 })

plain_again : (bytes : List ℕ) (d : Command) (at end : ℕ) → Stands bytes at [] end → done {A = Command × ℕ} (d, at) ≡ done {A = Command × ℕ} (d, end)
plain_again bytes d at end s = ap (λ (n : ℕ). done {A = Command × ℕ} (d, n)) (omega (arith, s.ends))

pub body_again : (limit : ℕ) (bytes : List ℕ) → IsBytes bytes → (c : Command) (at end : ℕ) → Stands bytes at (body_text c) end → end ≤ limit → IsWithin c → HasNumbers c
    → body_at limit bytes (command_kind c) (command_goes_on c) at ≡ Ok (c, end)
unfolding body_at command_kind command_goes_on body_text
body_again limit bytes fits Disconnect at end s by within numbers = plain_again bytes Disconnect at end s
body_again limit bytes fits Query at end s by within numbers = plain_again bytes Query at end s
body_again limit bytes fits Recv at end s by within numbers = plain_again bytes Recv at end s
body_again limit bytes fits Await at end s by within numbers = plain_again bytes Await at end s
body_again limit bytes fits (Reset limits) at end s by within numbers = rw ((limits_format limit bytes fits).again at limits end s by numbers) refl
body_again limit bytes fits (Limit limits) at end s by within numbers = absurd within
body_again limit bytes fits (Release n) at end s by within numbers = rw ((long_number_format limit bytes fits).again at n end s by numbers) refl
body_again limit bytes fits (Destroy xs) at end s by within numbers = rw ((list_format limit bytes fits).again at xs end s by (within, numbers)) refl
body_again limit bytes fits (SliceRelease n) at end s by within numbers = rw ((long_number_format limit bytes fits).again at n end s by numbers) refl
body_again limit bytes fits (Send send) at end s by within numbers = rw ((send_format limit bytes send.go_on fits).again at send end s by (within, numbers, refl)) refl

send_can : (g : Bool) → CanGoOn kinds.Send g
send_can true = refl
send_can false = refl

can_go_on : (c : Command) → CanGoOn (command_kind c) (command_goes_on c)
unfolding command_kind command_goes_on
can_go_on Disconnect = refl
can_go_on Query = refl
can_go_on (Reset limits) = refl
can_go_on (Limit limits) = refl
can_go_on (Release n) = refl
can_go_on (Destroy xs) = refl
can_go_on (SliceRelease n) = refl
can_go_on (Send send) = send_can send.go_on
can_go_on Recv = refl
can_go_on Await = refl

command_text : (c : Command) → IsWithin c → u32_bytes (code_of (command_kind c)) ++ (u32_bytes (flags_of (command_goes_on c)) ++ body_text c) ≡ spelling c
unfolding command_kind command_goes_on body_text
command_text Disconnect within = refl
command_text Query within = refl
command_text (Reset limits) within = refl
command_text (Limit limits) within = absurd within
command_text (Release n) within = refl
command_text (Destroy xs) within = refl
command_text (SliceRelease n) within = refl
command_text (Send send) within = refl
command_text Recv within = refl
command_text Await within = refl

abbrev command2 : ℕ → List ℕ → Kind → ℕ → Read Command
command2 limit bytes kind at = flags_at limit bytes kind at >>= λ go_on. body_at limit bytes kind go_on.0 go_on.1

-- what a command's record spells
abbrev pub Fits : Command → Type 0
Fits c = IsWithin c × HasNumbers c

body_format : (limit : ℕ) (bytes : List ℕ) → IsBytes bytes → (kind : Kind) (go_on : Bool) → CanGoOn kind go_on → IsFormat limit bytes (body_at limit bytes kind go_on) body_text (IsBody kind go_on)
body_format limit bytes fits kind go_on can = record {
  takes = λ at c end in_bytes in_limit e. body_takes limit bytes fits kind go_on at c end in_bytes in_limit can e;
  again = λ at c end s by h.
      let e = body_again limit bytes fits c at end s by h.limits h.numbers in
      subst (λ (k : Kind). body_at limit bytes k go_on at ≡ Ok (c, end)) h.kind_is (subst (λ (g : Bool). body_at limit bytes (command_kind c) g at ≡ Ok (c, end)) h.goes_on_is e);
}

pub command_format : (limit : ℕ) (bytes : List ℕ) → IsBytes bytes → IsFormat limit bytes (command_at limit bytes) spelling Fits
unfolding command_at
command_format limit bytes fits =
    let f2 = λ (kind : Kind). seq_format {A = Bool} {B = Command} limit bytes (flags_at limit bytes kind) (body_at limit bytes kind) (λ g. u32_bytes (flags_of g)) (CanGoOn kind) (λ g. body_text) (IsBody kind) command_goes_on
    (flags_format limit bytes kind fits) (body_format limit bytes fits kind) (λ g c h k. k.goes_on_is) in
    let f1 = seq_format {A = Kind} {B = Command} limit bytes (kind_at limit bytes) (command2 limit bytes) (λ kind. u32_bytes (code_of kind)) (λ kind. Unit {0}) (λ kind c. u32_bytes (flags_of (command_goes_on c)) ++ body_text c) (λ kind c. CanGoOn kind (command_goes_on c) × IsBody kind (command_goes_on c) c) command_kind
    (kind_format limit bytes fits) (λ kind h. f2 kind) (λ kind c h k. k.1.kind_is) in
    convert {A = Command} limit bytes (command_at limit bytes) _ spelling _ Fits f1
    (λ c h. command_text c h.1.1.limits) (λ c h. (h.1.1.limits, h.1.1.numbers)) (λ c h. (tt, (can_go_on c, record { kind_is = refl; goes_on_is = refl; limits = h.0; numbers = h.1 })))

-- ---- a record at any place

-- where a record is read there are bytes
pub command_inside : (limit : ℕ) (bytes : List ℕ) (at : ℕ) (x : Command × ℕ) → command_at limit bytes at ≡ Ok x → (at ≤ length bytes) × (at ≤ limit)
unfolding command_at kind_at number_at field_at
command_inside limit bytes at x e =
    let kind = bind_ok (kind_at limit bytes at) (λ kind. flags_at limit bytes kind.0 kind.1 >>= λ go_on. body_at limit bytes kind.0 go_on.0 go_on.1) x e in
    let code = bind_ok (number_at limit bytes at) (λ code. known (kind_of code.0) causes.Command at code.1) kind.0 kind.1 in
    let field = bind_ok (field_at limit bytes 4 at) (λ field. Ok (from_le_bytes w32 field.0, field.1)) code.0 code.1 in
    let g = guard_ok (ltb (length bytes) (at + 4)) _ _ field.0 field.1 in
    let h = guard_ok (ltb limit (at + 4)) _ _ field.0 g.1 in
    (omega (arith, ltb-false _ _ g.0), omega (arith, ltb-false _ _ h.0))

pub record_found : (bytes : List ℕ) (at : ℕ) (c : Command) (end : ℕ) → IsBytes bytes → command_at (length bytes) bytes at ≡ Ok (c, end) → IsRecord bytes at c end
record_found bytes at c end fits e =
    let t = (command_format (length bytes) bytes fits).takes at c end (command_inside (length bytes) bytes at (c, end) e).0 (command_inside (length bytes) bytes at (c, end) e).1 e in
    record { limits = t.2.0; numbers = t.2.1; stands = t.0 }

pub record_read : (bytes : List ℕ) (at : ℕ) (c : Command) (end : ℕ) → IsBytes bytes → IsRecord bytes at c end → command_at (length bytes) bytes at ≡ Ok (c, end)
record_read bytes at c end fits r = (command_format (length bytes) bytes fits).again at c end r.stands r.stands.within (r.limits, r.numbers)

-- what a function answered is a record
pub answer_found : (bytes : List ℕ) (at : ℕ) (r : Result (Command × ℕ) NotRead) → IsBytes bytes → Gives (λ x. x) r (command_at (length bytes) bytes at) → IfOk r (λ read. IsRecord bytes at read.0 read.1)
answer_found bytes at (Ok x) fits given = record_found bytes at x.0 x.1 fits given
answer_found bytes at (Err e) fits given = tt

pub fault_or_value : {Y : Type 0} (r : Result Y Fault) → fault_of r ≡ None → (y : Y) × (r ≡ Ok y)
fault_or_value (Ok y) e = (y, refl)
fault_or_value (Err f) e = absurd cc

-- each of the bytes of a list, by its place
pub each_byte : (bytes : List ℕ) → AllByRecursion IsByte bytes → IsBytes bytes
each_byte [] fits i = omega arith
each_byte (b ∷ bytes) fits zero = fits.0
each_byte (b ∷ bytes) fits (suc i) = each_byte bytes fits.1 i

pub no_fault : (bytes : List ℕ) (at : ℕ) → IsBytes bytes → bad_record bytes at ≡ None → (c : Command) × (end : ℕ) × IsRecord bytes at c end
no_fault bytes at fits e =
    let v = fault_or_value (command_at (length bytes) bytes at) e in
    (v.0.0, v.0.1, record_found bytes at v.0.0 v.0.1 fits v.1)

pub no_record : (bytes : List ℕ) (at : ℕ) (c : Command) (end : ℕ) → IsBytes bytes → IsRecord bytes at c end → bad_record bytes at ≡ None
no_record bytes at c end fits r = ap (λ (x : Read Command). fault_of x) (record_read bytes at c end fits r)
