-- Two scripts have two texts.
use Rattle.std.proofs.Common.{◌≡◌, ◌≢◌, ℕ, ◌+◌, ◌-◌, ◌*◌, ◌/◌, ◌%◌, ◌^◌, ◌<◌, Bool, true, false, cond, eqb, List, [], ◌∷◌, ◌++◌, drop, ltb, ◌⊎◌, inl, inr, Option, Some, None, codes, refl, sym, ap, subst, ◌∙◌, append_assoc, arith, eq-eqb}
use Rattle.std.specs.Prelude.{IfSome}
use Rattle.std.specs.Fmt.{decimal}
use Rattle.std.specs.List.{flat_map, AllByRecursion}
use Rattle.std.proofs.lemmas.Bool.{eqb-true}
use Rattle.std.proofs.lemmas.Fmt.{decimal_injective, decimal_by_steps}
use Rattle.std.proofs.lemmas.List.{append-nil}
use Rattle.b1_model.specs.declared.commands.Command.{Command}
use Rattle.b1_model.specs.declared.commands.Command.TheVariants.{Disconnect, Query, Reset, Limit, Release, Destroy, SliceRelease, Send, Recv, Await}
use Rattle.b1_model.specs.declared.commands.SendCmd.{SendCmd}
use Rattle.b1_records.specs.Spelling.{Is32, Is64, IsByte, AreLimits, IsSend, HasNumbers}
use Rattle.b1_script.specs.declared.script.Script.{Script}
use Rattle.b1_script.specs.Spelling.{IsSpec}
use Rattle.b1_text_words.specs.declared.items.Form.TheVariants.{Script as in_script}
use Rattle.b1_text_words.specs.Commands.{command_text_in, cookie_text}
use Rattle.b1_text_words.specs.Numbers.{script_handle_text, script_offset_text, list_text, hex_digit, hex_text}
use Rattle.b1_text_words.specs.Digits.{bytes_of}
use Rattle.b1_text_words.specs.Words.{IsFree}
use Rattle.b1_text_words.proofs.Languages.{joined_first, free_append, not_free}
use Rattle.b1_text_words.proofs.Hex.{spelled_back}
use Rattle.b1_text.specs.declared.draft.Draft.TheVariants.{Empty, Whole}
use Rattle.b1_text.specs.declared.statement.Entry.{Entry}
use Rattle.b1_text.specs.declared.statement.Statement.{Statement}
use Rattle.b1_text.specs.declared.statement.Statement.TheVariants as says
use Rattle.b1_text.specs.Texts.{entry_text, statement_text, line_text, statements, script_text}
use Rattle.b1_text.specs.Bodies.{two_text, AreTwo, limits_body, pool_body, IsPoolWithLimits, peer_body, end_body, IsEnd, wire_body, cookie_word}
use Rattle.b1_text.specs.Accepted.{IsWritable}
use Rattle.b1_text.specs.Drafts.{HasWireFields, IsCarried, Fits, run}
use Rattle.b1_text.proofs.Cuts.{Cut, two_cut, limits_cut, pool_cut, peer_cut, end_cut, wire_cut, cookie_free}
use Rattle.b1_text.proofs.Firsts.{three_parts, peer_split, no_command, hash_or_letter, marked_text, version_text, same_digit, only_name, only_clock, only_peer, only_wire, only_commands, only_turns, turns_are, wire_split, starts, first}
use Rattle.b1_text.proofs.Fitting.{statement_clean, statements_fit}
use Rattle.b1_text.proofs.Follow.{split_same, not_empty}
use Rattle.b1_text.proofs.Runs.{whole_run}
use Rattle.b1_text.specs.Nexts.{load_text}
use Rattle.b1_text.proofs.Sends.{flag_words, load_of, send_split}
use Rattle.b1_text.proofs.Loads.{list_free}

-- texts of values of a kind tell the values
abbrev pub Tells : {A : Type 0} → (A → List ℕ) → (A → Type 0) → Type 0
Tells {A} text IsOf = (a b : A) → IsOf a → IsOf b → text a ≡ text b → a ≡ b

abbrev first_of : List ℕ → ℕ
first_of [] = 0
first_of (b ∷ bs) = b

-- ---- numbers

no_digit : (s n : ℕ) → (s < 48) ⊎ (57 < s) → n < 10 → 48 + n ≢ s
no_digit s n (inl low) small e = omega (arith, low, e)
no_digit s n (inr high) small e = omega (arith, high, small, e)

decimal_is_free : (s n : ℕ) → (s < 48) ⊎ (57 < s) → n < 2 ^ 64 → IsFree s (decimal n)
decimal_is_free s n out small =
    decimal_by_steps (λ _ ds. IsFree s ds) (λ m low. (no_digit s m out low, tt)) (λ m ds high h. free_append s ds ((48 + m % 10) ∷ []) h (no_digit s (m % 10) out (omega arith), tt)) n small

decimal_tells : Tells decimal Is64
decimal_tells a b h k e = decimal_injective a b h k e

small_tells : Tells decimal Is32
small_tells a b h k e = decimal_injective a b (omega (arith, h)) (omega (arith, k)) e

-- a reference to a slot
slot_text : ℕ → List ℕ
slot_text n = codes "@" ++ decimal (n / 128) ++ codes "." ++ decimal (n / 2 % 64)

slot_tells : (a b : ℕ) → Is64 a → Is64 b → a % 2 ≡ 1 → b % 2 ≡ 1 → slot_text a ≡ slot_text b → a ≡ b
unfolding slot_text
slot_tells a b h k odd_a odd_b e =
    let da : List ℕ = decimal (a / 128) in
    let db : List ℕ = decimal (b / 128) in
    let ea : List ℕ = decimal (a / 2 % 64) in
    let eb : List ℕ = decimal (b / 2 % 64) in
    let behind : (da ++ codes ".") ++ ea ≡ (db ++ codes ".") ++ eb = ap (λ (x : List ℕ). drop 1 x) e in
    let parts : da ++ 46 ∷ ea ≡ db ++ 46 ∷ eb = sym (append_assoc da (codes ".") ea) ∙ behind ∙ append_assoc db (codes ".") eb in
    let split = joined_first 46 da db ea eb (decimal_is_free 46 (a / 128) (inl (omega arith)) (omega (arith, h))) (decimal_is_free 46 (b / 128) (inl (omega arith)) (omega (arith, k))) parts in
    let high : a / 128 ≡ b / 128 = decimal_injective (a / 128) (b / 128) (omega (arith, h)) (omega (arith, k)) split.0 in
    let low : a / 2 % 64 ≡ b / 2 % 64 = decimal_injective (a / 2 % 64) (b / 2 % 64) (omega arith) (omega arith) split.1 in
    omega (arith, high, low, odd_a, odd_b)

slot_no_decimal : (a b : ℕ) → Is64 b → slot_text a ≡ decimal b → ⊥
unfolding slot_text
slot_no_decimal a b k e = let free = subst (λ (x : List ℕ). IsFree 64 x) (sym e) (decimal_is_free 64 b (inr (omega arith)) k) in free.0 refl

odd_is : (a : ℕ) → eqb (a % 2) 1 ≡ true → a % 2 ≡ 1
odd_is a h = eqb-true (a % 2) 1 h

handles_tell : (a b : ℕ) (p q : Bool) → eqb (a % 2) 1 ≡ p → eqb (b % 2) 1 ≡ q → Is64 a → Is64 b → cond p (slot_text a) (decimal a) ≡ cond q (slot_text b) (decimal b) → a ≡ b
handles_tell a b true true is_a is_b h k e = slot_tells a b h k (odd_is a is_a) (odd_is b is_b) e
handles_tell a b true false is_a is_b h k e = absurd (slot_no_decimal a b k e)
handles_tell a b false true is_a is_b h k e = absurd (slot_no_decimal b a h (sym e))
handles_tell a b false false is_a is_b h k e = decimal_tells a b h k e

handle_tells : Tells script_handle_text Is64
unfolding slot_text
handle_tells a b h k e = handles_tell a b (eqb (a % 2) 1) (eqb (b % 2) 1) refl refl h k e

-- a reference to a slice
slice_text : ℕ → List ℕ
slice_text n = codes "@" ++ decimal (n / 2)

slice_tells : (a b : ℕ) → Is64 a → Is64 b → a % 2 ≡ 1 → b % 2 ≡ 1 → slice_text a ≡ slice_text b → a ≡ b
unfolding slice_text
slice_tells a b h k odd_a odd_b e =
    let half : a / 2 ≡ b / 2 = decimal_injective (a / 2) (b / 2) (omega (arith, h)) (omega (arith, k)) (ap (λ (x : List ℕ). drop 1 x) e) in
    omega (arith, half, odd_a, odd_b)

slice_no_decimal : (a b : ℕ) → Is64 b → slice_text a ≡ decimal b → ⊥
unfolding slice_text
slice_no_decimal a b k e = let free = subst (λ (x : List ℕ). IsFree 64 x) (sym e) (decimal_is_free 64 b (inr (omega arith)) k) in free.0 refl

offsets_tell : (a b : ℕ) (p q : Bool) → eqb (a % 2) 1 ≡ p → eqb (b % 2) 1 ≡ q → Is64 a → Is64 b → cond p (slice_text a) (decimal a) ≡ cond q (slice_text b) (decimal b) → a ≡ b
offsets_tell a b true true is_a is_b h k e = slice_tells a b h k (odd_is a is_a) (odd_is b is_b) e
offsets_tell a b true false is_a is_b h k e = absurd (slice_no_decimal a b k e)
offsets_tell a b false true is_a is_b h k e = absurd (slice_no_decimal b a h (sym e))
offsets_tell a b false false is_a is_b h k e = decimal_tells a b h k e

offset_tells : Tells script_offset_text Is64
unfolding slice_text
offset_tells a b h k e = offsets_tell a b (eqb (a % 2) 1) (eqb (b % 2) 1) refl refl h k e

-- ---- lists and bytes

-- a word of a list: no comma, and no dash
record IsItemWord (word : List ℕ) : Type 0 where
  comma : IsFree 44 word
  dash : IsFree 45 word

decimal_word : (n : ℕ) → n < 2 ^ 64 → IsItemWord (decimal n)
decimal_word n small = record { comma = decimal_is_free 44 n (inl (omega arith)) small; dash = decimal_is_free 45 n (inl (omega arith)) small }

pick_free : (s : ℕ) (b : Bool) (x y : List ℕ) → IsFree s x → IsFree s y → IsFree s (cond b x y)
pick_free s true x y h k = h
pick_free s false x y h k = k

slot_is_free : (s n : ℕ) → s < 46 → Is64 n → IsFree s (slot_text n)
unfolding slot_text
slot_is_free s n low small =
    free_append s (codes "@" ++ decimal (n / 128) ++ codes ".") (decimal (n / 2 % 64))
    (free_append s (codes "@" ++ decimal (n / 128)) (codes ".") (free_append s (codes "@") (decimal (n / 128)) (omega (arith, low), tt) (decimal_is_free s (n / 128) (inl (omega (arith, low))) (omega (arith, small)))) (omega (arith, low), tt))
    (decimal_is_free s (n / 2 % 64) (inl (omega (arith, low))) (omega arith))

handle_is_free : (s n : ℕ) → s < 46 → Is64 n → IsFree s (script_handle_text n)
unfolding slot_text
handle_is_free s n low small = pick_free s (eqb (n % 2) 1) (slot_text n) (decimal n) (slot_is_free s n low small) (decimal_is_free s n (inl (omega (arith, low))) small)

handle_word : (n : ℕ) → Is64 n → IsItemWord (script_handle_text n)
handle_word n small = record { comma = handle_is_free 44 n (omega arith) small; dash = handle_is_free 45 n (omega arith) small }

module _ (text : ℕ → List ℕ) (IsOf : ℕ → Type 0) (word : (n : ℕ) → IsOf n → IsItemWord (text n)) (tells : Tells text IsOf) where
  no_dash : (ns : List ℕ) → AllByRecursion IsOf ns → IsFree 45 (flat_map (λ n. codes "," ++ text n) ns)
  no_dash [] h = tt
  no_dash (n ∷ ns) h = (omega arith, free_append 45 (text n) (flat_map (λ m. codes "," ++ text m) ns) (word n h.0).dash (no_dash ns h.1))

  some_tell : (m n : ℕ) (ms ns : List ℕ) → IsOf m → IsOf n → AllByRecursion IsOf ms → AllByRecursion IsOf ns → text m ++ flat_map (λ n. codes "," ++ text n) ms ≡ text n ++ flat_map (λ n. codes "," ++ text n) ns → m ∷ ms ≡ n ∷ ns
  some_tell m n [] [] hm hn hs ks e =
      let same : text m ≡ text n = sym (append-nil (text m)) ∙ e ∙ append-nil (text n) in
      ap (λ (x : ℕ). x ∷ []) (tells m n hm hn same)
  some_tell m n [] (k ∷ ks) hm hn h hs e =
      let free = subst (λ (x : List ℕ). IsFree 44 x) (sym (append-nil (text m)) ∙ e) (word m hm).comma in
      absurd (not_free 44 (text n) (text k ++ flat_map (λ n. codes "," ++ text n) ks) free)
  some_tell m n (k ∷ ks) [] hm hn hs h e =
      let free = subst (λ (x : List ℕ). IsFree 44 x) (sym (append-nil (text n)) ∙ sym e) (word n hn).comma in
      absurd (not_free 44 (text m) (text k ++ flat_map (λ n. codes "," ++ text n) ks) free)
  some_tell m n (k ∷ ks) (l ∷ ls) hm hn hs h e =
      let split = joined_first 44 (text m) (text n) (text k ++ flat_map (λ n. codes "," ++ text n) ks) (text l ++ flat_map (λ n. codes "," ++ text n) ls) (word m hm).comma (word n hn).comma e in
      let first : m ≡ n = tells m n hm hn split.0 in
      let rest : k ∷ ks ≡ l ∷ ls = some_tell k l ks ls hs.0 h.0 hs.1 h.1 split.1 in
      ap (λ (x : ℕ). x ∷ k ∷ ks) first ∙ ap (λ (xs : List ℕ). n ∷ xs) rest

  list_tells : (ms ns : List ℕ) → AllByRecursion IsOf ms → AllByRecursion IsOf ns → list_text text ms ≡ list_text text ns → ms ≡ ns
  list_tells [] [] hs ks e = refl
  list_tells [] (n ∷ ns) hs ks e =
      let free = subst (λ (x : List ℕ). IsFree 45 x) (sym e) (free_append 45 (text n) (flat_map (λ m. codes "," ++ text m) ns) (word n ks.0).dash (no_dash ns ks.1)) in
      absurd (free.0 refl)
  list_tells (m ∷ ms) [] hs ks e =
      let free = subst (λ (x : List ℕ). IsFree 45 x) e (free_append 45 (text m) (flat_map (λ m. codes "," ++ text m) ms) (word m hs.0).dash (no_dash ms hs.1)) in
      absurd (free.0 refl)
  list_tells (m ∷ ms) (n ∷ ns) hs ks e = some_tell m n ms ns hs.0 ks.0 hs.1 ks.1 e

handle_lists_tell : (ms ns : List ℕ) → AllByRecursion Is64 ms → AllByRecursion Is64 ns → list_text script_handle_text ms ≡ list_text script_handle_text ns → ms ≡ ns
handle_lists_tell ms ns h k e = list_tells script_handle_text Is64 handle_word handle_tells ms ns h k e

decimal_lists_tell : (ms ns : List ℕ) → AllByRecursion Is32 ms → AllByRecursion Is32 ns → list_text decimal ms ≡ list_text decimal ns → ms ≡ ns
decimal_lists_tell ms ns h k e = list_tells decimal Is32 (λ n small. decimal_word n (omega (arith, small))) small_tells ms ns h k e

digit_no_dash : (n : ℕ) (b : Bool) → cond b (48 + n) (97 + (n - 10)) ≢ 45
digit_no_dash n true = omega arith
digit_no_dash n false = omega arith

hex_tells : (bs cs : List ℕ) → AllByRecursion IsByte bs → AllByRecursion IsByte cs → hex_text bs ≡ hex_text cs → bs ≡ cs
hex_tells [] [] h k e = refl
hex_tells [] (c ∷ cs) h k e = let first : 45 ≡ hex_digit (c / 16) = ap (λ (x : List ℕ). first_of x) e in absurd (digit_no_dash (c / 16) (ltb (c / 16) 10) (sym first))
hex_tells (b ∷ bs) [] h k e = let first : hex_digit (b / 16) ≡ 45 = ap (λ (x : List ℕ). first_of x) e in absurd (digit_no_dash (b / 16) (ltb (b / 16) 10) first)
hex_tells (b ∷ bs) (c ∷ cs) h k e = sym (spelled_back (b ∷ bs) h) ∙ ap bytes_of e ∙ spelled_back (c ∷ cs) k

-- ---- two parts

cut_tells : {A B C : Type 0} {ta : A → List ℕ} {IsA : A → Type 0} {tb : B → List ℕ} {IsB : B → Type 0} {tc : C → List ℕ} {IsC : C → Type 0} → Cut ta IsA tb IsB tc IsC → Tells ta IsA → Tells tb IsB → Tells tc IsC
cut_tells {ta = ta} {tb = tb} k first_tells rest_tells c d hc hd e =
    let pc = k.parts c hc in
    let pd = k.parts d hd in
    let split = joined_first 32 (ta (k.first c)) (ta (k.first d)) (tb (k.rest c)) (tb (k.rest d)) (k.free (k.first c) pc.0) (k.free (k.first d) pd.0) (sym (k.text c) ∙ e ∙ k.text d) in
    k.unique c d (first_tells (k.first c) (k.first d) pc.0 pd.0 split.0) (rest_tells (k.rest c) (k.rest d) pc.1 pd.1 split.1)

two_tells : Tells two_text AreTwo
two_tells = cut_tells two_cut small_tells small_tells

limits_tell : Tells limits_body AreLimits
limits_tell = cut_tells limits_cut small_tells two_tells

pool_tells : Tells pool_body IsPoolWithLimits
pool_tells = cut_tells pool_cut small_tells limits_tell

peer_tells : Tells peer_body IsSpec
peer_tells = cut_tells peer_cut small_tells pool_tells

end_tells : Tells end_body IsEnd
end_tells = cut_tells end_cut handle_tells small_tells

wire_tells : Tells wire_body HasWireFields
wire_tells = cut_tells wire_cut small_tells end_tells

-- ---- SENDs

flag_tells : (p q : Bool) (x y : List ℕ) → flag_words p ++ x ≡ flag_words q ++ y → (p ≡ q) × (x ≡ y)
flag_tells true true x y e = (refl, ap (λ (z : List ℕ). drop 10 z) e)
flag_tells false false x y e = (refl, ap (λ (z : List ℕ). drop 10 z) e)
flag_tells true false x y e = let sixth : 49 ≡ 48 = ap (λ (z : List ℕ). first_of (drop 5 z)) e in absurd (omega (arith, sixth))
flag_tells false true x y e = let sixth : 48 ≡ 49 = ap (λ (z : List ℕ). first_of (drop 5 z)) e in absurd (omega (arith, sixth))

send_of : Bool → List ℕ → List ℕ → List ℕ → SendCmd
send_of go_on to with payload = record { go_on = go_on; to = to; with = with; payload = payload }

send_tells : (s t : SendCmd) → IsSend s → IsSend t → command_text_in in_script (Send s) ≡ command_text_in in_script (Send t) → s ≡ t
unfolding send_of
send_tells s t h k e =
    let hn = h in
    let kn = k in
    let a : List ℕ = list_text script_handle_text s.to in
    let b : List ℕ = list_text script_handle_text s.with in
    let c : List ℕ = hex_text s.payload in
    let x : List ℕ = list_text script_handle_text t.to in
    let y : List ℕ = list_text script_handle_text t.with in
    let z : List ℕ = hex_text t.payload in
    let parts = sym (send_split s) ∙ e ∙ send_split t in
    let flags = flag_tells s.go_on t.go_on (a ++ 32 ∷ (codes "with " ++ (b ++ 32 ∷ (codes "data " ++ c)))) (x ++ 32 ∷ (codes "with " ++ (y ++ 32 ∷ (codes "data " ++ z)))) parts in
    let one = joined_first 32 a x (codes "with " ++ (b ++ 32 ∷ (codes "data " ++ c))) (codes "with " ++ (y ++ 32 ∷ (codes "data " ++ z))) (list_free s.to hn.to) (list_free t.to kn.to) flags.1 in
    let behind : b ++ 32 ∷ (codes "data " ++ c) ≡ y ++ 32 ∷ (codes "data " ++ z) = ap (λ (w : List ℕ). drop 5 w) one.1 in
    let two = joined_first 32 b y (codes "data " ++ c) (codes "data " ++ z) (list_free s.with hn.with) (list_free t.with kn.with) behind in
    let last : c ≡ z = ap (λ (w : List ℕ). drop 5 w) two.1 in
    let to : s.to ≡ t.to = handle_lists_tell s.to t.to hn.to kn.to one.0 in
    let with_same : s.with ≡ t.with = handle_lists_tell s.with t.with hn.with kn.with two.0 in
    let payload : s.payload ≡ t.payload = hex_tells s.payload t.payload hn.payload kn.payload last in
    ap (λ p. send_of p s.to s.with s.payload) flags.0 ∙ ap (λ p. send_of t.go_on p s.with s.payload) to ∙ ap (λ p. send_of t.go_on t.to p s.payload) with_same ∙ ap (λ p. send_of t.go_on t.to t.with p) payload

-- ---- commands

-- the first four bytes, as a number
four : List ℕ → ℕ
four (a ∷ b ∷ c ∷ d ∷ rest) = 16777216 * a + 65536 * b + 256 * c + d
four other = 0

code : Command → ℕ
code Disconnect = four (codes "disconnect")
code Query = four (codes "query")
code (Reset limits) = four (codes "reset ")
code (Limit limits) = four (codes "limit ")
code (Release n) = four (codes "release ")
code (Destroy ns) = four (codes "destroy ")
code (SliceRelease n) = four (codes "slice ")
code (Send s) = four (codes "send ")
code Recv = four (codes "recv")
code Await = four (codes "await")

send_code : (b : Bool) (x : List ℕ) → four (flag_words b ++ x) ≡ four (codes "send ")
unfolding four
send_code true x = refl
send_code false x = refl

code_is : (c : Command) → four (command_text_in in_script c) ≡ code c
unfolding four code
code_is Disconnect = refl
code_is Query = refl
code_is (Reset limits) = refl
code_is (Limit limits) = refl
code_is (Release n) = refl
code_is (Destroy ns) = refl
code_is (SliceRelease n) = refl
code_is (Send s) = ap four (send_split s) ∙ send_code s.go_on (load_text (load_of s))
code_is Recv = refl
code_is Await = refl

differ : {m n : ℕ} → m ≡ n → eqb m n ≡ false → ⊥
differ {m = m} {n = n} e apart = let yes = eq-eqb m n e in cc

same_command : (c d : Command) → code c ≡ code d → HasNumbers c → HasNumbers d → command_text_in in_script c ≡ command_text_in in_script d → c ≡ d
unfolding four code
same_command Disconnect Disconnect same h k e = refl
same_command Query Query same h k e = refl
same_command (Reset l) (Reset m) same h k e =
    let body : limits_body l ≡ limits_body m = sym (three_parts (decimal l.entries) (decimal l.bytes) (decimal l.handles)) ∙ ap (λ (x : List ℕ). drop 6 x) e ∙ three_parts (decimal m.entries) (decimal m.bytes) (decimal m.handles) in
    ap (λ x. Reset x) (limits_tell l m h k body)
same_command (Limit l) (Limit m) same h k e =
    let body : limits_body l ≡ limits_body m = sym (three_parts (decimal l.entries) (decimal l.bytes) (decimal l.handles)) ∙ ap (λ (x : List ℕ). drop 6 x) e ∙ three_parts (decimal m.entries) (decimal m.bytes) (decimal m.handles) in
    ap (λ x. Limit x) (limits_tell l m h k body)
same_command (Release m) (Release n) same h k e = ap (λ x. Release x) (handle_tells m n h k (ap (λ (x : List ℕ). drop 8 x) e))
same_command (Destroy ms) (Destroy ns) same h k e = ap (λ x. Destroy x) (handle_lists_tell ms ns h k (ap (λ (x : List ℕ). drop 8 x) e))
same_command (SliceRelease m) (SliceRelease n) same h k e = ap (λ x. SliceRelease x) (offset_tells m n h k (ap (λ (x : List ℕ). drop 6 x) e))
same_command (Send s) (Send t) same h k e = ap (λ x. Send x) (send_tells s t h k e)
same_command Recv Recv same h k e = refl
same_command Await Await same h k e = refl
same_command c d same h k e = absurd (differ same refl)

command_tells : Tells (command_text_in in_script) HasNumbers
command_tells c d h k e = same_command c d (sym (code_is c) ∙ ap four e ∙ code_is d) h k e

-- ---- commands and their cookies

cookie_tells : Tells cookie_word Is64
cookie_tells a b h k e = decimal_tells a b h k (ap (λ (x : List ℕ). drop 1 x) e)

entry_of : Option ℕ → Command → Entry
entry_of k c = record { cookie = k; command = c }

same_entry : (k l : Option ℕ) (c d : Command) → IfSome k Is64 → IfSome l Is64 → HasNumbers c → HasNumbers d → cookie_text k ++ command_text_in in_script c ≡ cookie_text l ++ command_text_in in_script d → entry_of k c ≡ entry_of l d
same_entry None None c d f g h k e = ap (entry_of None) (command_tells c d h k e)
same_entry None (Some n) c d f g h k e = absurd (hash_or_letter (n, d) c (sym (marked_text (n, d)) ∙ sym e))
same_entry (Some m) None c d f g h k e = absurd (hash_or_letter (m, c) d (sym (marked_text (m, c)) ∙ e))
same_entry (Some m) (Some n) c d f g h k e =
    let split = joined_first 32 (cookie_word m) (cookie_word n) (command_text_in in_script c) (command_text_in in_script d) (cookie_free m f) (cookie_free n g) (sym (marked_text (m, c)) ∙ e ∙ marked_text (n, d)) in
    ap (λ (x : ℕ). entry_of (Some x) c) (cookie_tells m n f g split.0) ∙ ap (entry_of (Some n)) (command_tells c d h k split.1)

entry_tells : Tells entry_text IsCarried
unfolding entry_of
entry_tells e d h k same = same_entry e.cookie d.cookie e.command d.command h.cookie k.cookie h.numbers k.numbers same

-- ---- statements

command_of : (c : Entry) (t : Statement) → IsCarried c → Fits t → entry_text c ≡ statement_text t → says.Command c ≡ t
unfolding starts first
command_of c (says.Command d) h k e = ap (λ x. says.Command x) (entry_tells c d h k e)
command_of c (says.Name v) h k e = absurd (no_command (codes "bus1 script " ++ version_text v) c refl (sym e))
command_of c (says.Clock n) h k e = absurd (no_command (codes "clock " ++ decimal n) c refl (sym e))
command_of c (says.Peer p) h k e = absurd (no_command (codes "peer " ++ peer_body p) c refl (sym (e ∙ peer_split p)))
command_of c (says.Wire w) h k e = absurd (no_command (codes "wire " ++ wire_body w) c refl (sym (e ∙ wire_split w)))
command_of c (says.Commands n) h k e = absurd (no_command (codes "commands " ++ decimal n) c refl (sym e))
command_of c (says.Turns ts) h k e = absurd (no_command (codes "turns " ++ list_text decimal ts) c refl (sym e))

pub statement_tells : Tells statement_text Fits
statement_tells (says.Name v) t h k e = let o = only_name t (version_text v) k e in ap (λ x. says.Name x) (same_digit v o.0 o.3) ∙ sym o.1
statement_tells (says.Clock n) t h k e = let o = only_clock t (decimal n) k e in ap (λ x. says.Clock x) (decimal_tells n o.0 h o.2 o.3) ∙ sym o.1
statement_tells (says.Peer p) t h k e = let o = only_peer t (peer_body p) k (sym (peer_split p) ∙ e) in ap (λ x. says.Peer x) (peer_tells p o.0 h o.2 o.3) ∙ sym o.1
statement_tells (says.Wire w) t h k e = let o = only_wire t (wire_body w) k (sym (wire_split w) ∙ e) in ap (λ x. says.Wire x) (wire_tells w o.0 h o.2 o.3) ∙ sym o.1
statement_tells (says.Commands n) t h k e = let o = only_commands t (decimal n) k e in ap (λ x. says.Commands x) (small_tells n o.0 h o.2 o.3) ∙ sym o.1
statement_tells (says.Command c) t h k e = command_of c t h k e
statement_tells (says.Turns ts) t h k e = let o = only_turns t (list_text decimal ts) k e in ap (λ x. says.Turns x) (decimal_lists_tell ts o.0 h.peers (turns_are o.0 o.2) o.3) ∙ sym o.1

lines_tell : (ss ts : List Statement) → AllByRecursion Fits ss → AllByRecursion Fits ts → flat_map line_text ss ≡ flat_map line_text ts → ss ≡ ts
lines_tell [] [] h k e = refl
lines_tell [] (t ∷ ts) h k e = absurd (not_empty (statement_text t) (flat_map line_text ts) (sym (e ∙ append_assoc (statement_text t) (10 ∷ []) (flat_map line_text ts))))
lines_tell (s ∷ ss) [] h k e = absurd (not_empty (statement_text s) (flat_map line_text ss) (sym (append_assoc (statement_text s) (10 ∷ []) (flat_map line_text ss)) ∙ e))
lines_tell (s ∷ ss) (t ∷ ts) h k e =
    let parts = sym (append_assoc (statement_text s) (10 ∷ []) (flat_map line_text ss)) ∙ e ∙ append_assoc (statement_text t) (10 ∷ []) (flat_map line_text ts) in
    let split = split_same (statement_text s) (statement_text t) (flat_map line_text ss) (flat_map line_text ts) (statement_clean s h.0) (statement_clean t k.0) parts in
    ap (λ (x : Statement). x ∷ ss) (statement_tells s t h.0 k.0 split.0) ∙ ap (λ (x : List Statement). t ∷ x) (lines_tell ss ts h.1 k.1 split.1)

pub script_tells : (s t : Script) → IsWritable s → IsWritable t → script_text s ≡ script_text t → s ≡ t
script_tells s t h k e =
    let same = lines_tell (statements s) (statements t) (statements_fit s h) (statements_fit t k) e in
    let both : Some (Whole s) ≡ Some (Whole t) = sym (whole_run s h.has_spelling) ∙ ap (λ (x : List Statement). run (Some Empty) x) same ∙ whole_run t k.has_spelling in
    cc
