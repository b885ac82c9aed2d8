-- Reasons are read exactly.
use Rattle.std.proofs.Common.{◌≡◌, ℕ, ◌^◌, ◌<◌, List, [], ◌∷◌, ◌++◌, Ok, Err, refl, arith, inl, inr, ◌⊎◌}
use Rattle.std.proofs.lemmas.List.{append_assoc}
use Rattle.std.specs.Fmt.{decimal}
use Rattle.b1_model.specs.declared.answers.Front.TheVariants as front
use Rattle.b1_model.specs.declared.answers.Quantity.TheVariants as quantity
use Rattle.b1_model.specs.declared.answers.Reason.{Reason}
use Rattle.b1_model.specs.declared.answers.Reason.TheVariants as reason
use Rattle.b1_text_words.specs.Numbers.{number_text}
use Rattle.b1_report_lines.specs.declared.unread.Stop.TheVariants.{Broken}
use Rattle.b1_report_lines.specs.declared.reasons.ReasonKind.{ReasonKind}
use Rattle.b1_report_lines.specs.declared.reasons.ReasonKind.TheVariants as why
use Rattle.b1_report_lines.specs.Answers.{reason_text, Is32, Is64, HasReasonFields}
use Rattle.b1_report_lines.specs.Reading.{◌>>=◌, Read, mapped, only, joined, known_at}
use Rattle.b1_report_lines.specs.Forms.{short_at, long_at, quota_at, reason_word, reason_kinds, reason_kind_at, quota_made, reason_of, reason_at}
use Rattle.b1_report_lines.proofs.Exact.{IsExact, only_exact, joined_exact, mapped_same, bind_same, same_reader}
use Rattle.b1_report_lines.proofs.Decimals.{number_exact, known_exact, decimal_free}
use Rattle.b1_report_lines.proofs.Keyed.{FindsSome, finds_none, finds_words, keyed_exact}

pub short_exact : IsExact short_at decimal Is32
short_exact = number_exact (2 ^ 32) (omega arith) (omega arith)

pub long_exact : IsExact long_at decimal Is64
long_exact = number_exact (2 ^ 64) (omega arith) (omega arith)

-- a number, a mark and something else
pub short_then : {B : Type 0} (mark : ℕ) (second : List ℕ → Read B) (text : B → List ℕ) (Fits : B → Type 0) → (mark < 48) ⊎ (57 < mark) → IsExact second text Fits
    → IsExact (joined mark short_at second) (λ p. decimal p.0 ++ mark ∷ text p.1) (λ p. Is32 p.0 × Fits p.1)
short_then mark second text Fits side two = joined_exact mark short_at second decimal text Is32 Fits short_exact two (λ n h. decimal_free mark n side (omega (arith, h)))

pub long_then : {B : Type 0} (mark : ℕ) (second : List ℕ → Read B) (text : B → List ℕ) (Fits : B → Type 0) → (mark < 48) ⊎ (57 < mark) → IsExact second text Fits
    → IsExact (joined mark long_at second) (λ p. decimal p.0 ++ mark ∷ text p.1) (λ p. Is64 p.0 × Fits p.1)
long_then mark second text Fits side two = joined_exact mark long_at second decimal text Is64 Fits long_exact two (λ n h. decimal_free mark n side h)

pub colon : (58 < 48) ⊎ (57 < 58)
colon = inr (omega arith)

pub point : (46 < 48) ⊎ (57 < 46)
point = inl (omega arith)

pub space : (32 < 48) ⊎ (57 < 32)
space = inl (omega arith)

-- ---- each kind

abbrev pub ReasonValue : ReasonKind → Type 0
ReasonValue why.Unknown = ℕ
ReasonValue why.Absent = Reason
ReasonValue why.Staged = ℕ × ℕ
ReasonValue why.Memory = Reason
ReasonValue why.Invalid = Reason
ReasonValue why.Full = ℕ × ℕ
ReasonValue why.Overflow = ℕ
ReasonValue why.Size = ℕ
ReasonValue why.Shutdown = Reason
ReasonValue why.Gone = ℕ × ℕ
ReasonValue why.Entries = ℕ × (ℕ × (ℕ × ℕ))
ReasonValue why.Bytes = ℕ × (ℕ × (ℕ × ℕ))
ReasonValue why.Handles = ℕ × (ℕ × (ℕ × ℕ))

abbrev pub reason_tail : (kind : ReasonKind) → List ℕ → Read (ReasonValue kind)
reason_tail why.Unknown bytes = known_at bytes
reason_tail why.Absent bytes = only (reason.Again front.Absent) bytes
reason_tail why.Staged bytes = joined 58 short_at long_at bytes
reason_tail why.Memory bytes = only reason.Memory bytes
reason_tail why.Invalid bytes = only reason.Invalid bytes
reason_tail why.Full bytes = joined 58 short_at short_at bytes
reason_tail why.Overflow bytes = long_at bytes
reason_tail why.Size bytes = long_at bytes
reason_tail why.Shutdown bytes = only reason.Shutdown bytes
reason_tail why.Gone bytes = joined 46 short_at short_at bytes
reason_tail why.Entries bytes = quota_at bytes
reason_tail why.Bytes bytes = quota_at bytes
reason_tail why.Handles bytes = quota_at bytes

abbrev pub reason_made : (kind : ReasonKind) → ReasonValue kind → Reason
reason_made why.Unknown v = reason.Unknown v
reason_made why.Absent v = v
reason_made why.Staged v = reason.Again (front.Staged v.0 v.1)
reason_made why.Memory v = v
reason_made why.Invalid v = v
reason_made why.Full v = reason.Full v.0 v.1
reason_made why.Overflow v = reason.Overflow v
reason_made why.Size v = reason.Size v
reason_made why.Shutdown v = v
reason_made why.Gone v = reason.Gone v.0 v.1
reason_made why.Entries v = quota_made quantity.Entries v
reason_made why.Bytes v = quota_made quantity.Bytes v
reason_made why.Handles v = quota_made quantity.Handles v

abbrev pub quota_text : ℕ × (ℕ × (ℕ × ℕ)) → List ℕ
quota_text p = decimal p.0 ++ 58 ∷ (decimal p.1.0 ++ 58 ∷ (decimal p.1.1.0 ++ 58 ∷ decimal p.1.1.1))

abbrev pub FitsQuota : ℕ × (ℕ × (ℕ × ℕ)) → Type 0
FitsQuota p = Is64 p.0 × (Is64 p.1.0 × (Is32 p.1.1.0 × Is32 p.1.1.1))

abbrev pub value_text : (kind : ReasonKind) → ReasonValue kind → List ℕ
value_text why.Unknown v = number_text v
value_text why.Absent v = []
value_text why.Staged v = decimal v.0 ++ 58 ∷ decimal v.1
value_text why.Memory v = []
value_text why.Invalid v = []
value_text why.Full v = decimal v.0 ++ 58 ∷ decimal v.1
value_text why.Overflow v = decimal v
value_text why.Size v = decimal v
value_text why.Shutdown v = []
value_text why.Gone v = decimal v.0 ++ 46 ∷ decimal v.1
value_text why.Entries v = quota_text v
value_text why.Bytes v = quota_text v
value_text why.Handles v = quota_text v

abbrev pub ValueFits : (kind : ReasonKind) → ReasonValue kind → Type 0
ValueFits why.Unknown v = Is64 v
ValueFits why.Absent v = v ≡ reason.Again front.Absent
ValueFits why.Staged v = Is32 v.0 × Is64 v.1
ValueFits why.Memory v = v ≡ reason.Memory
ValueFits why.Invalid v = v ≡ reason.Invalid
ValueFits why.Full v = Is32 v.0 × Is32 v.1
ValueFits why.Overflow v = Is64 v
ValueFits why.Size v = Is64 v
ValueFits why.Shutdown v = v ≡ reason.Shutdown
ValueFits why.Gone v = Is32 v.0 × Is32 v.1
ValueFits why.Entries v = FitsQuota v
ValueFits why.Bytes v = FitsQuota v
ValueFits why.Handles v = FitsQuota v

quota_exact : IsExact quota_at quota_text FitsQuota
quota_exact =
    let two = short_then 58 short_at decimal Is32 colon short_exact in
    let three = long_then 58 (joined 58 short_at short_at) (λ p. decimal p.0 ++ 58 ∷ decimal p.1) (λ p. Is32 p.0 × Is32 p.1) colon two in
    long_then 58 (joined 58 long_at (joined 58 short_at short_at)) (λ p. decimal p.0 ++ 58 ∷ (decimal p.1.0 ++ 58 ∷ decimal p.1.1)) (λ p. Is64 p.0 × (Is32 p.1.0 × Is32 p.1.1)) colon three

each : (kind : ReasonKind) → IsExact (reason_tail kind) (value_text kind) (ValueFits kind)
each why.Unknown = known_exact
each why.Absent = only_exact (reason.Again front.Absent)
each why.Staged = short_then 58 long_at decimal Is64 colon long_exact
each why.Memory = only_exact reason.Memory
each why.Invalid = only_exact reason.Invalid
each why.Full = short_then 58 short_at decimal Is32 colon short_exact
each why.Overflow = long_exact
each why.Size = long_exact
each why.Shutdown = only_exact reason.Shutdown
each why.Gone = short_then 46 short_at decimal Is32 point short_exact
each why.Entries = quota_exact
each why.Bytes = quota_exact
each why.Handles = quota_exact

abbrev pub IsAny : ReasonKind → Type 0
IsAny kind = Unit {0}

finds : FindsSome reason_kind_at reason_word IsAny
finds = finds_words (λ b. Err Broken) reason_word IsAny reason_kinds (tt, (tt, (tt, (tt, (tt, (tt, (tt, (tt, (tt, (tt, (tt, (tt, (tt, tt))))))))))))) (finds_none reason_word IsAny)

again : (kind : ReasonKind) (r : List ℕ) → IsAny kind → reason_kind_at (reason_word kind ++ r) ≡ Ok (kind, r)
again why.Unknown r h = refl
again why.Absent r h = refl
again why.Staged r h = refl
again why.Memory r h = refl
again why.Invalid r h = refl
again why.Full r h = refl
again why.Overflow r h = refl
again why.Size r h = refl
again why.Shutdown r h = refl
again why.Gone r h = refl
again why.Entries r h = refl
again why.Bytes r h = refl
again why.Handles r h = refl

pub same : (kind : ReasonKind) (v : ReasonValue kind) → IsAny kind → ValueFits kind v → reason_word kind ++ value_text kind v ≡ reason_text (reason_made kind v)
same why.Unknown v h k = refl
same why.Absent v h k = rw k refl
same why.Staged v h k = simp append_assoc
same why.Memory v h k = rw k refl
same why.Invalid v h k = rw k refl
same why.Full v h k = simp append_assoc
same why.Overflow v h k = refl
same why.Size v h k = refl
same why.Shutdown v h k = rw k refl
same why.Gone v h k = simp append_assoc
same why.Entries v h k = simp append_assoc
same why.Bytes v h k = simp append_assoc
same why.Handles v h k = simp append_assoc

there : (kind : ReasonKind) (v : ReasonValue kind) → IsAny kind → ValueFits kind v → HasReasonFields (reason_made kind v)
there why.Unknown v h k = k
there why.Absent v h k = rw k tt
there why.Staged v h k = k
there why.Memory v h k = rw k tt
there why.Invalid v h k = rw k tt
there why.Full v h k = k
there why.Overflow v h k = k
there why.Size v h k = k
there why.Shutdown v h k = rw k tt
there why.Gone v h k = k
there why.Entries v h k = k
there why.Bytes v h k = k
there why.Handles v h k = k

abbrev pub Made : Reason → Type 0
Made r = (kind : ReasonKind) × (v : ReasonValue kind) × ((IsAny kind × ValueFits kind v) × (reason_made kind v ≡ r))

pub onto : (r : Reason) → HasReasonFields r → Made r
onto (reason.Unknown number) h = (why.Unknown, number, ((tt, h), refl))
onto (reason.Again front.Absent) h = (why.Absent, reason.Again front.Absent, ((tt, refl), refl))
onto (reason.Again (front.Staged origin stamp)) h = (why.Staged, (origin, stamp), ((tt, h), refl))
onto reason.Memory h = (why.Memory, reason.Memory, ((tt, refl), refl))
onto reason.Invalid h = (why.Invalid, reason.Invalid, ((tt, refl), refl))
onto (reason.Full asked largest) h = (why.Full, (asked, largest), ((tt, h), refl))
onto (reason.Overflow clock) h = (why.Overflow, clock, ((tt, h), refl))
onto (reason.Size len) h = (why.Size, len, ((tt, h), refl))
onto reason.Shutdown h = (why.Shutdown, reason.Shutdown, ((tt, refl), refl))
onto (reason.Gone owner serial) h = (why.Gone, (owner, serial), ((tt, h), refl))
onto (reason.Quota quantity.Entries own others limit asked) h = (why.Entries, (own, (others, (limit, asked))), ((tt, h), refl))
onto (reason.Quota quantity.Bytes own others limit asked) h = (why.Bytes, (own, (others, (limit, asked))), ((tt, h), refl))
onto (reason.Quota quantity.Handles own others limit asked) h = (why.Handles, (own, (others, (limit, asked))), ((tt, h), refl))

reason_same : (kind : ReasonKind) (bytes : List ℕ) → mapped (reason_made kind) (reason_tail kind bytes) ≡ reason_of kind bytes
unfolding reason_of
reason_same why.Unknown bytes = refl
reason_same why.Absent bytes = mapped_same (only (reason.Again front.Absent) bytes)
reason_same why.Staged bytes = refl
reason_same why.Memory bytes = mapped_same (only reason.Memory bytes)
reason_same why.Invalid bytes = mapped_same (only reason.Invalid bytes)
reason_same why.Full bytes = refl
reason_same why.Overflow bytes = refl
reason_same why.Size bytes = refl
reason_same why.Shutdown bytes = mapped_same (only reason.Shutdown bytes)
reason_same why.Gone bytes = refl
reason_same why.Entries bytes = refl
reason_same why.Bytes bytes = refl
reason_same why.Handles bytes = refl

abbrev rest_by_kind : ReasonKind × List ℕ → Read Reason
rest_by_kind x = mapped (reason_made x.0) (reason_tail x.0 x.1)

pub reason_exact : IsExact reason_at reason_text HasReasonFields
unfolding reason_at
reason_exact =
    same_reader (λ b. reason_kind_at b >>= rest_by_kind) reason_at reason_text HasReasonFields
    (λ b. bind_same (reason_kind_at b) rest_by_kind (λ x. reason_of x.0 x.1) (λ x. reason_same x.0 x.1))
    (keyed_exact ReasonValue reason_kind_at reason_word IsAny reason_tail reason_made value_text ValueFits reason_text HasReasonFields finds again each same there onto (why.Memory, tt))
