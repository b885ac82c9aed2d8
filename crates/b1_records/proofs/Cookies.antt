-- Records with a cookie: what is read is spelled so, and what is spelled so is read.
use Rattle.std.proofs.Common.{◌≡◌, ℕ, ◌≤◌, ◌+◌, Bool, true, false, cond, ltb, eqb, leb, List, [], ◌++◌, length, Some, None, Result, Ok, Err, IfOk, refl, sym, ap, subst, ◌∙◌, arith}
use Rattle.std.proofs.lemmas.Bool.{ltb-false}
use Rattle.std.specs.Int.{w32, from_le_bytes}
use Rattle.std.proofs.lemmas.List.{append-nil}
use Rattle.b1_errs.specs.declared.Cause.TheVariants as causes
use Rattle.b1_errs.specs.declared.NotRead.{NotRead}
use Rattle.b1_errs.specs.declared.NotRead.TheVariants as unread
use Rattle.b1_model.specs.declared.commands.Command.{Command}
use Rattle.b1_model.specs.declared.commands.Command.TheVariants.{Disconnect, Query, Reset, Limit, Release, Destroy, SliceRelease, Send, Recv, Await}
use Rattle.b1_model.specs.declared.naming.Limits.{Limits}
use Rattle.b1_records.specs.declared.kinds.Kind.{Kind}
use Rattle.b1_records.specs.declared.kinds.Kind.TheVariants as kinds
use Rattle.b1_wire.specs.Numbers.{u32_bytes, u64_bytes}
use Rattle.b1_records.specs.Spelling.{IsWithin, IsWithin2, IsRecord2, HasNumbers, AreLimits, Is64, Stands, code_of, flags_of, kind_of_command, has_flag, body_spelling, limits_spelling, spelling2}
use Rattle.b1_records.specs.Reading.{◌>>=◌, Read, Gives, fault_of, known, number_at, long_number_at, field_at, kind_of, kind_at, flag_of, flag_at, reset_at, limits_at, body_at, body2_at, command2_at, bad_record2}
use Rattle.b1_records.proofs.Formats.{IsBytes, IsFormat, bind_ok, done, guard_ok, ok_is, convert, pure_format, seq_format, number_format, long_number_format}
use Rattle.b1_records.proofs.Records.{CanGoOn, IsBody, body_takes, body_again, body_text, command_kind, command_goes_on, fault_or_value, flags_known, kind_format, known_ok, limits_format, mapped_takes, one_known, small_flags}

-- ---- flags

-- the flag of a kind that has one, or none
abbrev pub CanHave : Kind → Bool → Type 0
CanHave kind flag = flag_of kind (flags_of flag) ≡ Some flag

-- a PEER_RESET knows the flag that a SEND knows
reset_known : (n : ℕ) (g : Bool) → flag_of kinds.Reset n ≡ Some g → (flags_of g ≡ n) × CanHave kinds.Reset g
reset_known n g e = one_known (leb n 1) (eqb n 1) n g refl refl e

flag_known : (kind : Kind) (n : ℕ) (g : Bool) → flag_of kind n ≡ Some g → (flags_of g ≡ n) × CanHave kind g
flag_known kinds.Disconnect n g e = flags_known kinds.Disconnect n g e
flag_known kinds.Query n g e = flags_known kinds.Query n g e
flag_known kinds.Reset n g e = reset_known n g e
flag_known kinds.Release n g e = flags_known kinds.Release n g e
flag_known kinds.Destroy n g e = flags_known kinds.Destroy n g e
flag_known kinds.SliceRelease n g e = flags_known kinds.SliceRelease n g e
flag_known kinds.Send n g e = flags_known kinds.Send n g e
flag_known kinds.Recv n g e = flags_known kinds.Recv n g e
flag_known kinds.Await n g e = flags_known kinds.Await n g e

flag_format : (limit : ℕ) (bytes : List ℕ) (kind : Kind) → IsBytes bytes → IsFormat limit bytes (flag_at limit bytes kind) (λ g. u32_bytes (flags_of g)) (CanHave kind)
unfolding flag_at
flag_format limit bytes kind fits = record {
  takes = λ at g end in_bytes in_limit e.
      let b = bind_ok (number_at limit bytes at) (λ flags. known (flag_of kind flags.0) causes.Flags at flags.1) (g, end) e in
      let k = known_ok (flag_of kind b.0.0) causes.Flags at b.0.1 g end b.2 in
      let f = flag_known kind b.0.0 g k.0 in
      let t = (number_format limit bytes fits).takes at b.0.0 b.0.1 in_bytes in_limit b.1 in
      let made : Stands bytes at (u32_bytes (flags_of g)) b.0.1 = subst (λ (n : ℕ). Stands bytes at (u32_bytes n) b.0.1) (sym f.0) t.0 in
      subst (λ (n : ℕ). Stands bytes at (u32_bytes (flags_of g)) n × (n ≤ limit) × CanHave kind g) k.1 (made, t.1, f.1);
  again = λ at g end s by h.
      rw ((number_format limit bytes fits).again at (flags_of g) end s by (small_flags g), h) refl;
}

-- ---- bodies

pub record IsBody2 (kind : Kind) (flag : Bool) (c : Command) : Type 0 where
  pub kind_is : kind_of_command c ≡ kind
  pub flag_is : has_flag c ≡ flag
  pub limits : IsWithin2 c
  pub numbers : HasNumbers c

is_reset : Kind → Bool
is_reset kinds.Reset = true
is_reset kind = false

-- what another kind's body has in version 1
other_body : (kind : Kind) (flag : Bool) (c : Command) → is_reset kind ≡ false → IsBody kind flag c → IsBody2 kind flag c
unfolding is_reset command_kind command_goes_on
other_body kind flag Disconnect other b = record { kind_is = b.kind_is; flag_is = b.goes_on_is; limits = tt; numbers = b.numbers }
other_body kind flag Query other b = record { kind_is = b.kind_is; flag_is = b.goes_on_is; limits = tt; numbers = b.numbers }
other_body kind flag (Reset limits) other b = absurd (cc (subst (λ (k : Kind). is_reset k ≡ false) (sym b.kind_is) other))
other_body kind flag (Limit limits) other b = absurd b.limits
other_body kind flag (Release number) other b = record { kind_is = b.kind_is; flag_is = b.goes_on_is; limits = tt; numbers = b.numbers }
other_body kind flag (Destroy numbers) other b = record { kind_is = b.kind_is; flag_is = b.goes_on_is; limits = b.limits; numbers = b.numbers }
other_body kind flag (SliceRelease offset) other b = record { kind_is = b.kind_is; flag_is = b.goes_on_is; limits = tt; numbers = b.numbers }
other_body kind flag (Send send) other b = record { kind_is = b.kind_is; flag_is = b.goes_on_is; limits = b.limits; numbers = b.numbers }
other_body kind flag Recv other b = record { kind_is = b.kind_is; flag_is = b.goes_on_is; limits = tt; numbers = b.numbers }
other_body kind flag Await other b = record { kind_is = b.kind_is; flag_is = b.goes_on_is; limits = tt; numbers = b.numbers }

-- both versions spell what follows alike
same_body : (c : Command) → IsWithin c → body_text c ≡ body_spelling c
unfolding body_text
same_body Disconnect h = refl
same_body Query h = refl
same_body (Reset limits) h = refl
same_body (Limit limits) h = absurd h
same_body (Release number) h = refl
same_body (Destroy numbers) h = refl
same_body (SliceRelease offset) h = refl
same_body (Send send) h = refl
same_body Recv h = refl
same_body Await h = refl

abbrev Took2 : ℕ → List ℕ → ℕ → ℕ → Kind → Bool → Command → Type 0
Took2 limit bytes at end kind flag c = Stands bytes at (body_spelling c) end × (end ≤ limit) × IsBody2 kind flag c

other_takes : (limit : ℕ) (bytes : List ℕ) → IsBytes bytes → (kind : Kind) (flag : Bool) (at : ℕ) (c : Command) (end : ℕ) → is_reset kind ≡ false → at ≤ length bytes → at ≤ limit → CanGoOn kind flag
    → body_at limit bytes kind flag at ≡ Ok (c, end) → Took2 limit bytes at end kind flag c
other_takes limit bytes fits kind flag at c end other in_bytes in_limit can e =
    let t = body_takes limit bytes fits kind flag at c end in_bytes in_limit can e in
    (subst (λ (x : List ℕ). Stands bytes at x end) (same_body c t.2.limits) t.0, t.1, other_body kind flag c other t.2)

-- a reset's two forms
reset_of : Bool → Limits → Command
reset_of flush limits = cond flush (Reset limits) (Limit limits)

reset_body : (flush : Bool) (limits : Limits) → AreLimits limits → (body_spelling (reset_of flush limits) ≡ limits_spelling limits) × IsBody2 kinds.Reset flush (reset_of flush limits)
unfolding reset_of
reset_body true limits h = (refl, record { kind_is = refl; flag_is = refl; limits = tt; numbers = h })
reset_body false limits h = (refl, record { kind_is = refl; flag_is = refl; limits = tt; numbers = h })

body2_takes : (limit : ℕ) (bytes : List ℕ) → IsBytes bytes → (kind : Kind) (flag : Bool) (at : ℕ) (c : Command) (end : ℕ) → at ≤ length bytes → at ≤ limit → CanHave kind flag
    → body2_at limit bytes kind flag at ≡ Ok (c, end) → Took2 limit bytes at end kind flag c
unfolding body2_at reset_at reset_of is_reset
body2_takes limit bytes fits kinds.Reset flag at c end in_bytes in_limit can e =
    let m = mapped_takes limit bytes (limits_at limit bytes) limits_spelling AreLimits (limits_format limit bytes fits) (reset_of flag) at c end in_bytes in_limit e in
    let b = reset_body flag m.0 m.4 in
    subst (Took2 limit bytes at end kinds.Reset flag) m.1 (subst (λ (x : List ℕ). Stands bytes at x end) (sym b.0) m.2, m.3, b.1)
body2_takes limit bytes fits kinds.Disconnect flag at c end in_bytes in_limit can e = other_takes limit bytes fits kinds.Disconnect flag at c end refl in_bytes in_limit can e
body2_takes limit bytes fits kinds.Query flag at c end in_bytes in_limit can e = other_takes limit bytes fits kinds.Query flag at c end refl in_bytes in_limit can e
body2_takes limit bytes fits kinds.Release flag at c end in_bytes in_limit can e = other_takes limit bytes fits kinds.Release flag at c end refl in_bytes in_limit can e
body2_takes limit bytes fits kinds.Destroy flag at c end in_bytes in_limit can e = other_takes limit bytes fits kinds.Destroy flag at c end refl in_bytes in_limit can e
body2_takes limit bytes fits kinds.SliceRelease flag at c end in_bytes in_limit can e = other_takes limit bytes fits kinds.SliceRelease flag at c end refl in_bytes in_limit can e
body2_takes limit bytes fits kinds.Send flag at c end in_bytes in_limit can e = other_takes limit bytes fits kinds.Send flag at c end refl in_bytes in_limit can e
body2_takes limit bytes fits kinds.Recv flag at c end in_bytes in_limit can e = other_takes limit bytes fits kinds.Recv flag at c end refl in_bytes in_limit can e
body2_takes limit bytes fits kinds.Await flag at c end in_bytes in_limit can e = other_takes limit bytes fits kinds.Await flag at c end refl in_bytes in_limit can e

body2_again : (limit : ℕ) (bytes : List ℕ) → IsBytes bytes → (c : Command) (at end : ℕ) → Stands bytes at (body_spelling c) end → end ≤ limit → IsWithin2 c → HasNumbers c
    → body2_at limit bytes (kind_of_command c) (has_flag c) at ≡ Ok (c, end)
unfolding body2_at reset_at command_kind command_goes_on body_text
body2_again limit bytes fits Disconnect at end s by within numbers = body_again limit bytes fits Disconnect at end s by tt numbers
body2_again limit bytes fits Query at end s by within numbers = body_again limit bytes fits Query at end s by tt numbers
body2_again limit bytes fits Recv at end s by within numbers = body_again limit bytes fits Recv at end s by tt numbers
body2_again limit bytes fits Await at end s by within numbers = body_again limit bytes fits Await at end s by tt numbers
body2_again limit bytes fits (Reset limits) at end s by within numbers = rw ((limits_format limit bytes fits).again at limits end s by numbers) refl
body2_again limit bytes fits (Limit limits) at end s by within numbers = rw ((limits_format limit bytes fits).again at limits end s by numbers) refl
body2_again limit bytes fits (Release n) at end s by within numbers = body_again limit bytes fits (Release n) at end s by tt numbers
body2_again limit bytes fits (Destroy xs) at end s by within numbers = body_again limit bytes fits (Destroy xs) at end s by within numbers
body2_again limit bytes fits (SliceRelease n) at end s by within numbers = body_again limit bytes fits (SliceRelease n) at end s by tt numbers
body2_again limit bytes fits (Send send) at end s by within numbers = body_again limit bytes fits (Send send) at end s by within numbers

send_can : (g : Bool) → CanHave kinds.Send g
send_can true = refl
send_can false = refl

can_have : (c : Command) → CanHave (kind_of_command c) (has_flag c)
can_have Disconnect = refl
can_have Query = refl
can_have (Reset limits) = refl
can_have (Limit limits) = refl
can_have (Release n) = refl
can_have (Destroy xs) = refl
can_have (SliceRelease n) = refl
can_have (Send send) = send_can send.go_on
can_have Recv = refl
can_have Await = refl

body2_format : (limit : ℕ) (bytes : List ℕ) → IsBytes bytes → (kind : Kind) (flag : Bool) → CanHave kind flag → IsFormat limit bytes (body2_at limit bytes kind flag) body_spelling (IsBody2 kind flag)
body2_format limit bytes fits kind flag can = record {
  takes = λ at c end in_bytes in_limit e. body2_takes limit bytes fits kind flag at c end in_bytes in_limit can e;
  again = λ at c end s by h.
      let e = body2_again limit bytes fits c at end s by h.limits h.numbers in
      subst (λ (k : Kind). body2_at limit bytes k flag at ≡ Ok (c, end)) h.kind_is (subst (λ (g : Bool). body2_at limit bytes (kind_of_command c) g at ≡ Ok (c, end)) h.flag_is e);
}

-- ---- records

-- a cookie and a command
abbrev pub Entry : Type 0
Entry = ℕ × Command

-- what a record with a cookie spells
abbrev pub Fits2 : Entry → Type 0
Fits2 e = IsWithin2 e.1 × HasNumbers e.1 × Is64 e.0

abbrev entry5 : ℕ → List ℕ → ℕ → Command → ℕ → Read Entry
entry5 limit bytes cookie command at = Ok ((cookie, command), at)

abbrev entry4 : ℕ → List ℕ → Kind → Bool → ℕ → ℕ → Read Entry
entry4 limit bytes kind flag cookie at = body2_at limit bytes kind flag at >>= λ command. Ok ((cookie, command.0), command.1)

abbrev entry3 : ℕ → List ℕ → Kind → Bool → ℕ → Read Entry
entry3 limit bytes kind flag at = long_number_at limit bytes at >>= λ cookie. entry4 limit bytes kind flag cookie.0 cookie.1

abbrev entry2 : ℕ → List ℕ → Kind → ℕ → Read Entry
entry2 limit bytes kind at = flag_at limit bytes kind at >>= λ flag. entry3 limit bytes kind flag.0 flag.1

-- the pair of a cookie and a command
abbrev FitsPair : Kind → Bool → ℕ → Entry → Type 0
FitsPair kind flag cookie e = IsBody2 kind flag e.1 × (e ≡ (cookie, e.1))

entry_text : (e : Entry) → u32_bytes (code_of (kind_of_command e.1)) ++ (u32_bytes (flags_of (has_flag e.1)) ++ (u64_bytes e.0 ++ (body_spelling e.1 ++ []))) ≡ spelling2 e.0 e.1
entry_text e = ap (λ (t : List ℕ). u32_bytes (code_of (kind_of_command e.1)) ++ (u32_bytes (flags_of (has_flag e.1)) ++ (u64_bytes e.0 ++ t))) (append-nil (body_spelling e.1))

pub command2_format : (limit : ℕ) (bytes : List ℕ) → IsBytes bytes → IsFormat limit bytes (command2_at limit bytes) (λ e. spelling2 e.0 e.1) Fits2
unfolding command2_at
command2_format limit bytes fits =
    let f4 = λ (kind : Kind) (flag : Bool) (can : CanHave kind flag) (cookie : ℕ). seq_format {A = Command} {B = Entry} limit bytes (body2_at limit bytes kind flag) (entry5 limit bytes cookie) body_spelling (IsBody2 kind flag)
    (λ c e. []) (λ c e. e ≡ (cookie, c)) (λ e. e.1)
    (body2_format limit bytes fits kind flag can) (λ c h. pure_format {A = Entry} limit bytes (cookie, c)) (λ c e h k. ap (λ (x : Entry). x.1) k) in
    let f3 = λ (kind : Kind) (flag : Bool) (can : CanHave kind flag). seq_format {A = ℕ} {B = Entry} limit bytes (long_number_at limit bytes) (entry4 limit bytes kind flag) u64_bytes Is64
    (λ cookie e. body_spelling e.1 ++ []) (FitsPair kind flag) (λ e. e.0)
    (long_number_format limit bytes fits) (λ cookie h. f4 kind flag can cookie) (λ cookie e h k. ap (λ (x : Entry). x.0) k.1) in
    let f2 = λ (kind : Kind). seq_format {A = Bool} {B = Entry} limit bytes (flag_at limit bytes kind) (entry3 limit bytes kind) (λ g. u32_bytes (flags_of g)) (CanHave kind)
    (λ flag e. u64_bytes e.0 ++ (body_spelling e.1 ++ [])) (λ flag e. Is64 e.0 × FitsPair kind flag e.0 e) (λ e. has_flag e.1)
    (flag_format limit bytes kind fits) (λ flag can. f3 kind flag can) (λ flag e h k. k.1.0.flag_is) in
    let f1 = seq_format {A = Kind} {B = Entry} limit bytes (kind_at limit bytes) (entry2 limit bytes) (λ kind. u32_bytes (code_of kind)) (λ kind. Unit {0})
    (λ kind e. u32_bytes (flags_of (has_flag e.1)) ++ (u64_bytes e.0 ++ (body_spelling e.1 ++ []))) (λ kind e. CanHave kind (has_flag e.1) × (Is64 e.0 × FitsPair kind (has_flag e.1) e.0 e)) (λ e. kind_of_command e.1)
    (kind_format limit bytes fits) (λ kind h. f2 kind) (λ kind e h k. k.1.1.0.kind_is) in
    convert {A = Entry} limit bytes (command2_at limit bytes) _ (λ e. spelling2 e.0 e.1) _ Fits2 f1
    (λ e h. entry_text e)
    (λ e h. (h.1.1.1.0.limits, h.1.1.1.0.numbers, h.1.1.0))
    (λ e h. (tt, (can_have e.1, (h.2, (record { kind_is = refl; flag_is = refl; limits = h.0; numbers = h.1 }, refl)))))

-- where a record is read there are bytes
pub command2_inside : (limit : ℕ) (bytes : List ℕ) (at : ℕ) (x : Entry × ℕ) → command2_at limit bytes at ≡ Ok x → (at ≤ length bytes) × (at ≤ limit)
unfolding command2_at kind_at number_at field_at
command2_inside limit bytes at x e =
    let kind = bind_ok (kind_at limit bytes at) (λ kind. entry2 limit bytes kind.0 kind.1) x e in
    let code = bind_ok (number_at limit bytes at) (λ code. known (kind_of code.0) causes.Command at code.1) kind.0 kind.1 in
    let field = bind_ok (field_at limit bytes 4 at) (λ field. Ok (from_le_bytes w32 field.0, field.1)) code.0 code.1 in
    let g = guard_ok (ltb (length bytes) (at + 4)) _ _ field.0 field.1 in
    let h = guard_ok (ltb limit (at + 4)) _ _ field.0 g.1 in
    (omega (arith, ltb-false _ _ g.0), omega (arith, ltb-false _ _ h.0))

pub record2_found : (bytes : List ℕ) (at cookie : ℕ) (c : Command) (end : ℕ) → IsBytes bytes → command2_at (length bytes) bytes at ≡ Ok ((cookie, c), end) → IsRecord2 bytes at cookie c end
record2_found bytes at cookie c end fits e =
    let inside = command2_inside (length bytes) bytes at ((cookie, c), end) e in
    let t = (command2_format (length bytes) bytes fits).takes at (cookie, c) end inside.0 inside.1 e in
    record { limits = t.2.0; numbers = t.2.1; wide = t.2.2; stands = t.0 }

pub record2_read : (bytes : List ℕ) (at cookie : ℕ) (c : Command) (end : ℕ) → IsBytes bytes → IsRecord2 bytes at cookie c end → command2_at (length bytes) bytes at ≡ Ok ((cookie, c), end)
record2_read bytes at cookie c end fits r = (command2_format (length bytes) bytes fits).again at (cookie, c) end r.stands r.stands.within (r.limits, r.numbers, r.wide)

-- what a function answered is a record
pub answer2_found : (bytes : List ℕ) (at : ℕ) (r : Result (ℕ × Command × ℕ) NotRead) → IsBytes bytes → Gives (λ x. ((x.0, x.1), x.2)) r (command2_at (length bytes) bytes at) → IfOk r (λ read. IsRecord2 bytes at read.0 read.1 read.2)
answer2_found bytes at (Ok x) fits given = record2_found bytes at x.0 x.1 x.2 fits given
answer2_found bytes at (Err e) fits given = tt

-- what is spelled there is what was answered
pub answer2_only : (bytes : List ℕ) (at : ℕ) (r : Result (ℕ × Command × ℕ) NotRead) (cookie : ℕ) (c : Command) (end : ℕ) → IsBytes bytes → Gives (λ x. ((x.0, x.1), x.2)) r (command2_at (length bytes) bytes at) → IsRecord2 bytes at cookie c end
    → Gives {Y = ℕ × Command × ℕ} (λ x. x) r (Ok (cookie, c, end))
answer2_only bytes at (Ok x) cookie c end fits given spelled =
    let same = ok_is {A = Entry × ℕ} ((x.0, x.1), x.2) ((cookie, c), end) (sym given ∙ record2_read bytes at cookie c end fits spelled) in
    sym (ap (λ (q : Entry × ℕ). done {A = ℕ × Command × ℕ} (q.0.0, q.0.1, q.1)) same)
answer2_only bytes at (Err unread.Memory) cookie c end fits given spelled = tt
answer2_only bytes at (Err (unread.Bad place cause)) cookie c end fits given spelled = absurd (cc (given, record2_read bytes at cookie c end fits spelled))

pub no_fault2 : (bytes : List ℕ) (at : ℕ) → IsBytes bytes → bad_record2 bytes at ≡ None → (cookie : ℕ) × (c : Command) × (end : ℕ) × IsRecord2 bytes at cookie c end
no_fault2 bytes at fits e =
    let v = fault_or_value (command2_at (length bytes) bytes at) e in
    (v.0.0.0, v.0.0.1, v.0.1, record2_found bytes at v.0.0.0 v.0.0.1 v.0.1 fits v.1)

pub no_record2 : (bytes : List ℕ) (at cookie : ℕ) (c : Command) (end : ℕ) → IsBytes bytes → IsRecord2 bytes at cookie c end → bad_record2 bytes at ≡ None
no_record2 bytes at cookie c end fits r = ap (λ (x : Read Entry). fault_of x) (record2_read bytes at cookie c end fits r)
