-- What is read of a script is spelled so, and what is spelled so is read.
use Rattle.std.proofs.Common.{◌≡◌, ◌≢◌, ℕ, zero, suc, ◌+◌, ◌%◌, ◌<◌, ◌≤◌, Bool, true, false, ◌&&◌, ◌||◌, not, cond, eqb, leb, ltb, List, [], ◌∷◌, ◌++◌, length, map, Option, Some, None, Ok, refl, sym, ap, subst, ◌∙◌, append_assoc, arith}
use Rattle.std.specs.Prelude.{IsSomeAnd}
use Rattle.std.specs.Option.{option_map_or}
use Rattle.std.specs.List.{flat_map, AllByRecursion}
use Rattle.std.proofs.lemmas.Bool.{leb-true, le-leb, eqb-true, eqb-false, ne_eqb, not-true, not_from_false, ltb-true, lt-ltb}
use Rattle.std.proofs.lemmas.List.{append-nil}
use Rattle.std.proofs.lemmas.List.Concat.{flat_map-cons}
use Rattle.b1_errs.specs.declared.Cause.TheVariants as causes
use Rattle.b1_model.specs.declared.commands.Command.{Command}
use Rattle.b1_model.specs.declared.limits.TheConstants.{CLOCK_LIMIT, FEW_PEERS, MOST_PEERS, MOST_POOL, MOST_POOLS, MOST_WIDE_SCRIPT}
use Rattle.b1_model.specs.declared.naming.PeerSpec.{PeerSpec}
use Rattle.b1_model.specs.declared.naming.Wire.{Wire}
use Rattle.b1_model.specs.declared.version.Version.{Version}
use Rattle.b1_model.specs.declared.version.Version.TheVariants.{One, Two}
use Rattle.b1_model.specs.Versions.{version_number}
use Rattle.b1_model.specs.Opening.{from_owner, after_wire, CanWire, AreWired, IsPool}
use Rattle.b1_wire.specs.Numbers.{u32_bytes, u64_bytes}
use Rattle.b1_records.specs.Spelling.{Is32, Is64, Stands, HasNumbers}
use Rattle.b1_records.specs.Spelling as records
use Rattle.b1_records.specs.Reading.{◌>>=◌, Read, checked, known, many, number_at, long_number_at, zero_at, command_at, command2_at}
use Rattle.b1_records.proofs.Formats.{IsBytes, IsFormat, bind_ok, ok_is, stands_join, stands_split, stands_nothing, convert, number_format, long_number_format, checked_format, pure_format, seq_format, many_format}
use Rattle.b1_records.proofs.Records.{zero_format, both_true, known_ok, command_format, Fits}
use Rattle.b1_records.proofs.Cookies.{command2_format, Fits2}
use Rattle.b1_script.specs.declared.header.Header.{Header}
use Rattle.b1_script.specs.declared.script.Script.{Script}
use Rattle.b1_script.specs.Spelling.{peer_spelling, wire_spelling, commands_spelling, entry_spelling, entries_spelling, entries_of, lists_spelling, pad_spelling, parts, most_peers, IsSpec, IsWire}
use Rattle.b1_script.proofs.Entries.{entries_again, same_lengths, cookies_back, commands_back}
use Rattle.b1_script.specs.Reading.{magic_number, is_first_clock, is_pool, gives_foreign, numbered_version, magic_at, version_at, peer_count_at, clock_at, len_at, header_at, pool_at, peer_at, peers_at, peer_number_at, other_number_at, wire_at, wires_at, command_list_at, commands_at, entry_list_at, entries_at, cookies_in, commands_in, lists_at, turns_at, pad_at, parts_at}

both_are : (a b : Bool) → a ≡ true → b ≡ true → (a && b) ≡ true
both_are a b p q = rw (p, q) refl

-- ---- the header

magic_format : (limit : ℕ) (bytes : List ℕ) → IsBytes bytes → IsFormat limit bytes (magic_at limit bytes) u64_bytes (λ n. n ≡ magic_number)
unfolding magic_at
magic_format limit bytes fits =
    convert limit bytes _ u64_bytes u64_bytes (λ n. (eqb n magic_number ≡ true) × Is64 n) (λ n. n ≡ magic_number)
    (checked_format limit bytes (λ n. eqb n magic_number) causes.Magic (long_number_at limit bytes) u64_bytes Is64 (long_number_format limit bytes fits))
    (λ n h. refl) (λ n h. eqb-true n magic_number h.0) (λ n h. rw h (refl, omega arith))

first_is : (b : Bool) (n : ℕ) (v : Version) → eqb 1 n ≡ b → cond b (Some One) (cond (eqb 2 n) (Some Two) None) ≡ Some v → version_number v ≡ n
first_is true n v e is = let same : One ≡ v = cc in subst (λ (x : Version). version_number x ≡ n) same (eqb-true 1 n e)
first_is false n v e is = second_is (eqb 2 n) refl is
  where
    second_is : (b : Bool) → eqb 2 n ≡ b → cond b (Some Two) None ≡ Some v → version_number v ≡ n
    second_is true e is = let same : Two ≡ v = cc in subst (λ (x : Version). version_number x ≡ n) same (eqb-true 2 n e)
    second_is false e is = absurd cc

version_is : (n : ℕ) (v : Version) → numbered_version n ≡ Some v → version_number v ≡ n
version_is n v e = first_is (eqb 1 n) n v refl e

version_again : (v : Version) → numbered_version (version_number v) ≡ Some v
version_again One = refl
version_again Two = refl

small_version : (v : Version) → Is32 (version_number v)
small_version One = omega arith
small_version Two = omega arith

version_format : (limit : ℕ) (bytes : List ℕ) → IsBytes bytes → IsFormat limit bytes (version_at limit bytes) (λ v. u32_bytes (version_number v)) (λ v. Unit {0})
unfolding version_at
version_format limit bytes fits = record {
  takes = λ at v end in_bytes in_limit e.
      let b = bind_ok (number_at limit bytes at) (λ number. known (numbered_version number.0) causes.Version at number.1) (v, end) e in
      let k = known_ok (numbered_version b.0.0) causes.Version at b.0.1 v end b.2 in
      let t = (number_format limit bytes fits).takes at b.0.0 b.0.1 in_bytes in_limit b.1 in
      let made : Stands bytes at (u32_bytes (version_number v)) b.0.1 = subst (λ (n : ℕ). Stands bytes at (u32_bytes n) b.0.1) (sym (version_is b.0.0 v k.0)) t.0 in
      subst (λ (n : ℕ). Stands bytes at (u32_bytes (version_number v)) n × (n ≤ limit) × Unit {0}) k.1 (made, t.1, tt);
  again = λ at v end s by h.
      rw ((number_format limit bytes fits).again at (version_number v) end s by (small_version v), version_again v) refl;
}

abbrev IsPeerCount : Version → ℕ → Type 0
IsPeerCount version n = (1 ≤ n) × (n ≤ most_peers version)

pub most_of_all : (version : Version) → most_peers version ≤ MOST_PEERS
most_of_all One = omega arith
most_of_all Two = omega arith

peer_count_format : (limit : ℕ) (bytes : List ℕ) (version : Version) → IsBytes bytes → IsFormat limit bytes (peer_count_at limit bytes version) u32_bytes (IsPeerCount version)
unfolding peer_count_at
peer_count_format limit bytes version fits =
    let most : ℕ = most_peers version in
    convert limit bytes _ u32_bytes u32_bytes (λ n. ((leb 1 n && leb n most) ≡ true) × Is32 n) (IsPeerCount version)
    (checked_format limit bytes (λ n. leb 1 n && leb n most) causes.Count (number_at limit bytes) u32_bytes Is32 (number_format limit bytes fits))
    (λ n h. refl)
    (λ n h. let b = both_true (leb 1 n) (leb n most) h.0 in (leb-true 1 n b.0, leb-true n most b.1))
    (λ n h. (both_are (leb 1 n) (leb n most) (le-leb 1 n h.0) (le-leb n most h.1), omega (arith, h.1, most_of_all version)))

abbrev IsClock : ℕ → Type 0
IsClock n = (n % 2 ≡ 0) × (n ≤ CLOCK_LIMIT)

clock_format : (limit : ℕ) (bytes : List ℕ) → IsBytes bytes → IsFormat limit bytes (clock_at limit bytes) u64_bytes IsClock
unfolding clock_at
clock_format limit bytes fits =
    convert limit bytes _ u64_bytes u64_bytes (λ n. ((eqb (n % 2) 0 && leb n CLOCK_LIMIT) ≡ true) × Is64 n) IsClock
    (checked_format limit bytes is_first_clock causes.Range (long_number_at limit bytes) u64_bytes Is64 (long_number_format limit bytes fits))
    (λ n h. refl)
    (λ n h. let b = both_true (eqb (n % 2) 0) (leb n CLOCK_LIMIT) h.0 in (eqb-true (n % 2) 0 b.0, leb-true n CLOCK_LIMIT b.1))
    (λ n h. (both_are (eqb (n % 2) 0) (leb n CLOCK_LIMIT) (rw h.0 refl) (le-leb n CLOCK_LIMIT h.1), omega (arith, h.1)))

-- a length that so many peers allow
abbrev IsLen : ℕ → ℕ → Type 0
IsLen peers n = Is32 n × ((leb peers FEW_PEERS || leb n MOST_WIDE_SCRIPT) ≡ true)

len_format : (limit : ℕ) (bytes : List ℕ) (peers : ℕ) → IsBytes bytes → IsFormat limit bytes (len_at limit bytes peers) u32_bytes (IsLen peers)
unfolding len_at
len_format limit bytes peers fits =
    convert limit bytes _ u32_bytes u32_bytes (λ n. ((leb peers FEW_PEERS || leb n MOST_WIDE_SCRIPT) ≡ true) × Is32 n) (IsLen peers)
    (checked_format limit bytes (λ n. leb peers FEW_PEERS || leb n MOST_WIDE_SCRIPT) causes.Length (number_at limit bytes) u32_bytes Is32 (number_format limit bytes fits))
    (λ n h. refl) (λ n h. (h.1, h.0)) (λ n h. (h.1, h.0))

abbrev header8 : ℕ → List ℕ → Version → ℕ → ℕ → ℕ → ℕ → ℕ → ℕ → Read Header
header8 limit bytes version peers clock wires turns len at = zero_at limit bytes at >>= λ end. Ok (record { version = version; peers = peers; first_clock = clock; wires = wires; turns = turns; len = len }, end.1)

abbrev header7 : ℕ → List ℕ → Version → ℕ → ℕ → ℕ → ℕ → ℕ → Read Header
header7 limit bytes version peers clock wires turns at = len_at limit bytes peers at >>= λ len. header8 limit bytes version peers clock wires turns len.0 len.1

abbrev header6 : ℕ → List ℕ → Version → ℕ → ℕ → ℕ → ℕ → Read Header
header6 limit bytes version peers clock wires at = number_at limit bytes at >>= λ turns. header7 limit bytes version peers clock wires turns.0 turns.1

abbrev header5 : ℕ → List ℕ → Version → ℕ → ℕ → ℕ → Read Header
header5 limit bytes version peers clock at = number_at limit bytes at >>= λ wires. header6 limit bytes version peers clock wires.0 wires.1

abbrev header4 : ℕ → List ℕ → Version → ℕ → ℕ → Read Header
header4 limit bytes version peers at = clock_at limit bytes at >>= λ clock. header5 limit bytes version peers clock.0 clock.1

abbrev header3 : ℕ → List ℕ → Version → ℕ → Read Header
header3 limit bytes version at = peer_count_at limit bytes version at >>= λ peers. header4 limit bytes version peers.0 peers.1

abbrev header2 : ℕ → List ℕ → ℕ → Read Header
header2 limit bytes at = version_at limit bytes at >>= λ version. header3 limit bytes version.0 version.1

-- the texts and the facts of the fields from each on
abbrev pub htext8 : Header → List ℕ
htext8 h = u32_bytes 0 ++ []

abbrev pub htext7 : Header → List ℕ
htext7 h = u32_bytes h.len ++ htext8 h

abbrev pub htext6 : Header → List ℕ
htext6 h = u32_bytes h.turns ++ htext7 h

abbrev pub htext5 : Header → List ℕ
htext5 h = u32_bytes h.wires ++ htext6 h

abbrev pub htext4 : Header → List ℕ
htext4 h = u64_bytes h.first_clock ++ htext5 h

abbrev pub htext3 : Header → List ℕ
htext3 h = u32_bytes h.peers ++ htext4 h

abbrev pub htext2 : Header → List ℕ
htext2 h = u32_bytes (version_number h.version) ++ htext3 h

abbrev pub htext1 : Header → List ℕ
htext1 h = u64_bytes magic_number ++ htext2 h

abbrev hfits8 : Version → ℕ → ℕ → ℕ → ℕ → ℕ → Header → Type 0
hfits8 version peers clock wires turns len h = (zero ≡ 0) × (h ≡ record { version = version; peers = peers; first_clock = clock; wires = wires; turns = turns; len = len })

abbrev hfits7 : Version → ℕ → ℕ → ℕ → ℕ → Header → Type 0
hfits7 version peers clock wires turns h = IsLen peers h.len × hfits8 version peers clock wires turns h.len h

abbrev hfits6 : Version → ℕ → ℕ → ℕ → Header → Type 0
hfits6 version peers clock wires h = Is32 h.turns × hfits7 version peers clock wires h.turns h

abbrev hfits5 : Version → ℕ → ℕ → Header → Type 0
hfits5 version peers clock h = Is32 h.wires × hfits6 version peers clock h.wires h

abbrev hfits4 : Version → ℕ → Header → Type 0
hfits4 version peers h = IsClock h.first_clock × hfits5 version peers h.first_clock h

abbrev hfits3 : Version → Header → Type 0
hfits3 version h = IsPeerCount version h.peers × hfits4 version h.peers h

pub record IsHeader (h : Header) : Type 0 where
  pub peers : IsPeerCount h.version h.peers
  pub clock : IsClock h.first_clock
  pub wires : Is32 h.wires
  pub turns : Is32 h.turns
  pub len : IsLen h.peers h.len

pub header_format : (limit : ℕ) (bytes : List ℕ) → IsBytes bytes → IsFormat limit bytes (header_at limit bytes) htext1 IsHeader
unfolding header_at
header_format limit bytes fits =
    let number = number_format limit bytes fits in
    let f8 = λ (version : Version) (peers clock wires turns len : ℕ). seq_format {A = ℕ} {B = Header} limit bytes (zero_at limit bytes) (λ z at. Ok (record { version = version; peers = peers; first_clock = clock; wires = wires; turns = turns; len = len }, at)) u32_bytes (λ n. n ≡ 0)
    (λ z h. []) (λ z h. h ≡ record { version = version; peers = peers; first_clock = clock; wires = wires; turns = turns; len = len }) (λ h. 0)
    (zero_format limit bytes fits) (λ z h. pure_format {A = Header} limit bytes (record { version = version; peers = peers; first_clock = clock; wires = wires; turns = turns; len = len })) (λ z h a k. sym a) in
    let f7 = λ (version : Version) (peers clock wires turns : ℕ). seq_format {A = ℕ} {B = Header} limit bytes (len_at limit bytes peers) (header8 limit bytes version peers clock wires turns) u32_bytes (IsLen peers)
    (λ len. htext8) (λ len. hfits8 version peers clock wires turns len) (λ h. h.len)
    (len_format limit bytes peers fits) (λ len a. f8 version peers clock wires turns len) (λ len h a k. ap (λ (x : Header). x.len) k.1) in
    let f6 = λ (version : Version) (peers clock wires : ℕ). seq_format {A = ℕ} {B = Header} limit bytes (number_at limit bytes) (header7 limit bytes version peers clock wires) u32_bytes Is32
    (λ turns. htext7) (λ turns. hfits7 version peers clock wires turns) (λ h. h.turns)
    number (λ turns a. f7 version peers clock wires turns) (λ turns h a k. ap (λ (x : Header). x.turns) k.1.1) in
    let f5 = λ (version : Version) (peers clock : ℕ). seq_format {A = ℕ} {B = Header} limit bytes (number_at limit bytes) (header6 limit bytes version peers clock) u32_bytes Is32
    (λ wires. htext6) (λ wires. hfits6 version peers clock wires) (λ h. h.wires)
    number (λ wires a. f6 version peers clock wires) (λ wires h a k. ap (λ (x : Header). x.wires) k.1.1.1) in
    let f4 = λ (version : Version) (peers : ℕ). seq_format {A = ℕ} {B = Header} limit bytes (clock_at limit bytes) (header5 limit bytes version peers) u64_bytes IsClock
    (λ clock. htext5) (λ clock. hfits5 version peers clock) (λ h. h.first_clock)
    (clock_format limit bytes fits) (λ clock a. f5 version peers clock) (λ clock h a k. ap (λ (x : Header). x.first_clock) k.1.1.1.1) in
    let f3 = λ (version : Version). seq_format {A = ℕ} {B = Header} limit bytes (peer_count_at limit bytes version) (header4 limit bytes version) u32_bytes (IsPeerCount version)
    (λ peers. htext4) (λ peers. hfits4 version peers) (λ h. h.peers)
    (peer_count_format limit bytes version fits) (λ peers a. f4 version peers) (λ peers h a k. ap (λ (x : Header). x.peers) k.1.1.1.1.1) in
    let f2 = seq_format {A = Version} {B = Header} limit bytes (version_at limit bytes) (header3 limit bytes) (λ v. u32_bytes (version_number v)) (λ v. Unit {0})
    (λ v. htext3) (λ v. hfits3 v) (λ h. h.version)
    (version_format limit bytes fits) (λ v a. f3 v) (λ v h a k. ap (λ (x : Header). x.version) k.1.1.1.1.1.1) in
    let f1 = seq_format {A = ℕ} {B = Header} limit bytes (magic_at limit bytes) (λ m. header2 limit bytes) u64_bytes (λ n. n ≡ magic_number)
    (λ m. htext2) (λ m h. Unit {0} × hfits3 h.version h) (λ h. magic_number)
    (magic_format limit bytes fits) (λ m a. f2) (λ m h a k. sym a) in
    convert {A = Header} limit bytes (header_at limit bytes) _ htext1 _ IsHeader f1
    (λ h a. refl)
    (λ h a. record { peers = a.1.1.0; clock = a.1.1.1.0; wires = a.1.1.1.1.0; turns = a.1.1.1.1.1.0; len = a.1.1.1.1.1.1.0 })
    (λ h a. (refl, (tt, (a.peers, (a.clock, (a.wires, (a.turns, (a.len, (refl, refl)))))))))

-- ---- peers

pool_is : (n : ℕ) → is_pool n ≡ true → IsPool n
pool_is n h =
    let b = both_true (eqb (n % 8) 0 && leb 8 n) (leb n MOST_POOL) h in
    let d = both_true (eqb (n % 8) 0) (leb 8 n) b.0 in
    record { eighths = eqb-true (n % 8) 0 d.0; least = leb-true 8 n d.1; most = leb-true n MOST_POOL b.1 }

is_pool_of : (n : ℕ) → IsPool n → is_pool n ≡ true
is_pool_of n h = both_are (eqb (n % 8) 0 && leb 8 n) (leb n MOST_POOL) (both_are (eqb (n % 8) 0) (leb 8 n) (rw h.eighths refl) (le-leb 8 n h.least)) (le-leb n MOST_POOL h.most)

-- a pool that isn't too much with those before it
pub record HasPlace (before n : ℕ) : Type 0 where
  pub is_pool : IsPool n
  pub together : before + n ≤ MOST_POOLS

pool_format : (limit : ℕ) (bytes : List ℕ) (before : ℕ) → IsBytes bytes → IsFormat limit bytes (pool_at limit bytes before) u32_bytes (HasPlace before)
unfolding pool_at
pool_format limit bytes before fits =
    convert limit bytes _ u32_bytes u32_bytes (λ n. ((is_pool n && leb (before + n) MOST_POOLS) ≡ true) × Is32 n) (HasPlace before)
    (checked_format limit bytes (λ n. is_pool n && leb (before + n) MOST_POOLS) causes.Range (number_at limit bytes) u32_bytes Is32 (number_format limit bytes fits))
    (λ n h. refl)
    (λ n h. let b = both_true (is_pool n) (leb (before + n) MOST_POOLS) h.0 in record { is_pool = pool_is n b.0; together = leb-true (before + n) MOST_POOLS b.1 })
    (λ n h. (both_are (is_pool n) (leb (before + n) MOST_POOLS) (is_pool_of n h.is_pool) (le-leb (before + n) MOST_POOLS h.together), omega (arith, h.is_pool.most)))

abbrev peer6 : ℕ → List ℕ → ℕ → ℕ → ℕ → ℕ → ℕ → ℕ → Read PeerSpec
peer6 limit bytes user pool entries size handles at = zero_at limit bytes at >>= λ end. Ok (record { user = user; pool = pool; limits = record { entries = entries; bytes = size; handles = handles } }, end.1)

abbrev peer5 : ℕ → List ℕ → ℕ → ℕ → ℕ → ℕ → ℕ → Read PeerSpec
peer5 limit bytes user pool entries size at = number_at limit bytes at >>= λ handles. peer6 limit bytes user pool entries size handles.0 handles.1

abbrev peer4 : ℕ → List ℕ → ℕ → ℕ → ℕ → ℕ → Read PeerSpec
peer4 limit bytes user pool entries at = number_at limit bytes at >>= λ size. peer5 limit bytes user pool entries size.0 size.1

abbrev peer3 : ℕ → List ℕ → ℕ → ℕ → ℕ → Read PeerSpec
peer3 limit bytes user pool at = number_at limit bytes at >>= λ entries. peer4 limit bytes user pool entries.0 entries.1

abbrev peer2 : ℕ → List ℕ → ℕ → ℕ → ℕ → Read PeerSpec
peer2 limit bytes before user at = pool_at limit bytes before at >>= λ pool. peer3 limit bytes user pool.0 pool.1

abbrev ptext6 : PeerSpec → List ℕ
ptext6 p = u32_bytes 0 ++ []

abbrev ptext5 : PeerSpec → List ℕ
ptext5 p = u32_bytes p.limits.handles ++ ptext6 p

abbrev ptext4 : PeerSpec → List ℕ
ptext4 p = u32_bytes p.limits.bytes ++ ptext5 p

abbrev ptext3 : PeerSpec → List ℕ
ptext3 p = u32_bytes p.limits.entries ++ ptext4 p

abbrev ptext2 : PeerSpec → List ℕ
ptext2 p = u32_bytes p.pool ++ ptext3 p

abbrev pfits6 : ℕ → ℕ → ℕ → ℕ → ℕ → PeerSpec → Type 0
pfits6 user pool entries size handles p = (zero ≡ 0) × (p ≡ record { user = user; pool = pool; limits = record { entries = entries; bytes = size; handles = handles } })

abbrev pfits5 : ℕ → ℕ → ℕ → ℕ → PeerSpec → Type 0
pfits5 user pool entries size p = Is32 p.limits.handles × pfits6 user pool entries size p.limits.handles p

abbrev pfits4 : ℕ → ℕ → ℕ → PeerSpec → Type 0
pfits4 user pool entries p = Is32 p.limits.bytes × pfits5 user pool entries p.limits.bytes p

abbrev pfits3 : ℕ → ℕ → PeerSpec → Type 0
pfits3 user pool p = Is32 p.limits.entries × pfits4 user pool p.limits.entries p

abbrev pfits2 : ℕ → ℕ → PeerSpec → Type 0
pfits2 before user p = HasPlace before p.pool × pfits3 user p.pool p

-- a peer whose pool isn't too much with those before it
abbrev pub IsPeer : ℕ → PeerSpec → Type 0
IsPeer before p = IsSpec p × HasPlace before p.pool

peer_format : (limit : ℕ) (bytes : List ℕ) (before : ℕ) → IsBytes bytes → IsFormat limit bytes (peer_at limit bytes before) peer_spelling (IsPeer before)
unfolding peer_at
peer_format limit bytes before fits =
    let number = number_format limit bytes fits in
    let f6 = λ (user pool entries size handles : ℕ). seq_format {A = ℕ} {B = PeerSpec} limit bytes (zero_at limit bytes) (λ z at. Ok (record { user = user; pool = pool; limits = record { entries = entries; bytes = size; handles = handles } }, at)) u32_bytes (λ n. n ≡ 0)
    (λ z p. []) (λ z p. p ≡ record { user = user; pool = pool; limits = record { entries = entries; bytes = size; handles = handles } }) (λ p. 0)
    (zero_format limit bytes fits) (λ z a. pure_format {A = PeerSpec} limit bytes (record { user = user; pool = pool; limits = record { entries = entries; bytes = size; handles = handles } })) (λ z p a k. sym a) in
    let f5 = λ (user pool entries size : ℕ). seq_format {A = ℕ} {B = PeerSpec} limit bytes (number_at limit bytes) (peer6 limit bytes user pool entries size) u32_bytes Is32
    (λ handles. ptext6) (λ handles. pfits6 user pool entries size handles) (λ p. p.limits.handles)
    number (λ handles a. f6 user pool entries size handles) (λ handles p a k. ap (λ (x : PeerSpec). x.limits.handles) k.1) in
    let f4 = λ (user pool entries : ℕ). seq_format {A = ℕ} {B = PeerSpec} limit bytes (number_at limit bytes) (peer5 limit bytes user pool entries) u32_bytes Is32
    (λ size. ptext5) (λ size. pfits5 user pool entries size) (λ p. p.limits.bytes)
    number (λ size a. f5 user pool entries size) (λ size p a k. ap (λ (x : PeerSpec). x.limits.bytes) k.1.1) in
    let f3 = λ (user pool : ℕ). seq_format {A = ℕ} {B = PeerSpec} limit bytes (number_at limit bytes) (peer4 limit bytes user pool) u32_bytes Is32
    (λ entries. ptext4) (λ entries. pfits4 user pool entries) (λ p. p.limits.entries)
    number (λ entries a. f4 user pool entries) (λ entries p a k. ap (λ (x : PeerSpec). x.limits.entries) k.1.1.1) in
    let f2 = λ (user : ℕ). seq_format {A = ℕ} {B = PeerSpec} limit bytes (pool_at limit bytes before) (peer3 limit bytes user) u32_bytes (HasPlace before)
    (λ pool. ptext3) (λ pool. pfits3 user pool) (λ p. p.pool)
    (pool_format limit bytes before fits) (λ pool a. f3 user pool) (λ pool p a k. ap (λ (x : PeerSpec). x.pool) k.1.1.1.1) in
    let f1 = seq_format {A = ℕ} {B = PeerSpec} limit bytes (number_at limit bytes) (peer2 limit bytes before) u32_bytes Is32
    (λ user. ptext2) (λ user. pfits2 before user) (λ p. p.user)
    number (λ user a. f2 user) (λ user p a k. ap (λ (x : PeerSpec). x.user) k.1.1.1.1.1) in
    convert {A = PeerSpec} limit bytes (peer_at limit bytes before) _ peer_spelling _ (IsPeer before) f1
    (λ p a. refl)
    (λ p a. (record { user = a.0; pool = omega (arith, a.1.0.is_pool.most); limits = record { entries = a.1.1.0; bytes = a.1.1.1.0; handles = a.1.1.1.1.0 } }, a.1.0))
    (λ p a. (a.0.user, (a.1, (a.0.limits.entries, (a.0.limits.bytes, (a.0.limits.handles, (refl, refl)))))))

-- peers whose pools aren't too much together
abbrev pub PeersFit : ℕ → List PeerSpec → Type 0
PeersFit before [] = Unit {0}
PeersFit before (p ∷ ps) = IsPeer before p × PeersFit (before + p.pool) ps

module _ (limit : ℕ) (bytes : List ℕ) (fits : IsBytes bytes) where
  peers_takes : (count before at : ℕ) (ps : List PeerSpec) (end : ℕ) → at ≤ length bytes → at ≤ limit → peers_at limit bytes before count at ≡ Ok (ps, end)
      → Stands bytes at (flat_map peer_spelling ps) end × (end ≤ limit) × ((length ps ≡ count) × PeersFit before ps)
  peers_takes zero before at ps end in_bytes in_limit e =
      let is = ok_is ([], at) (ps, end) e in
      subst (λ (q : List PeerSpec × ℕ). Stands bytes at (flat_map peer_spelling q.0) q.1 × (q.1 ≤ limit) × ((length q.0 ≡ 0) × PeersFit before q.0)) is (stands_nothing bytes at in_bytes, in_limit, (refl, tt))
  peers_takes (suc count) before at ps end in_bytes in_limit e =
      let a = bind_ok (peer_at limit bytes before at) (λ first. peers_at limit bytes (before + first.0.pool) count first.1 >>= λ others. Ok (first.0 ∷ others.0, others.1)) (ps, end) e in
      let b = bind_ok (peers_at limit bytes (before + a.0.0.pool) count a.0.1) (λ others. Ok (a.0.0 ∷ others.0, others.1)) (ps, end) a.2 in
      let is = ok_is (a.0.0 ∷ b.0.0, b.0.1) (ps, end) b.2 in
      let t = (peer_format limit bytes before fits).takes at a.0.0 a.0.1 in_bytes in_limit a.1 in
      let u = peers_takes count (before + a.0.0.pool) a.0.1 b.0.0 b.0.1 t.0.within t.1 b.1 in
      let joined = stands_join bytes (peer_spelling a.0.0) (flat_map peer_spelling b.0.0) at a.0.1 b.0.1 t.0 u.0 in
      let whole : Stands bytes at (flat_map peer_spelling (a.0.0 ∷ b.0.0)) b.0.1 = rw flat_map-cons joined in
      subst (λ (q : List PeerSpec × ℕ). Stands bytes at (flat_map peer_spelling q.0) q.1 × (q.1 ≤ limit) × ((length q.0 ≡ suc count) × PeersFit before q.0)) is (whole, u.1, (ap suc u.2.0, (t.2, u.2.1)))

  peers_again : (count before : ℕ) (ps : List PeerSpec) → length ps ≡ count → (at end : ℕ) → Stands bytes at (flat_map peer_spelling ps) end → end ≤ limit → PeersFit before ps → peers_at limit bytes before count at ≡ Ok (ps, end)
  peers_again zero before [] len at end s by h =
      let e : end ≡ at = omega (arith, s.ends) in
      rw e refl
  peers_again zero before (p ∷ ps) len at end s by h = absurd (omega (arith, len))
  peers_again (suc count) before [] len at end s by h = absurd (omega (arith, len))
  peers_again (suc count) before (p ∷ ps) len at end s by h =
      let both : Stands bytes at (peer_spelling p ++ flat_map peer_spelling ps) end = subst (λ (t : List ℕ). Stands bytes at t end) (flat_map-cons peer_spelling p ps) s in
      let k = stands_split bytes (peer_spelling p) (flat_map peer_spelling ps) at end both in
      let under : at + length (peer_spelling p) ≤ limit = omega (arith, by, k.1.ends) in
      let one = (peer_format limit bytes before fits).again at p (at + length (peer_spelling p)) k.0 under h.0 in
      let rest = peers_again count (before + p.pool) ps (omega (arith, len)) (at + length (peer_spelling p)) end k.1 by h.1 in
      rw (one, rest) refl

-- ---- wires

pub peer_number_format : (limit : ℕ) (bytes : List ℕ) (n : ℕ) → IsBytes bytes → n ≤ MOST_PEERS → IsFormat limit bytes (peer_number_at limit bytes n) u32_bytes (λ p. p < n)
unfolding peer_number_at
peer_number_format limit bytes n fits few =
    convert limit bytes _ u32_bytes u32_bytes (λ p. (ltb p n ≡ true) × Is32 p) (λ p. p < n)
    (checked_format limit bytes (λ p. ltb p n) causes.Range (number_at limit bytes) u32_bytes Is32 (number_format limit bytes fits))
    (λ p h. refl) (λ p h. ltb-true p n h.0) (λ p h. (lt-ltb p n h, omega (arith, h, few)))

other_number_format : (limit : ℕ) (bytes : List ℕ) (n from : ℕ) → IsBytes bytes → n ≤ MOST_PEERS → IsFormat limit bytes (other_number_at limit bytes n from) u32_bytes (λ p. (p < n) × (p ≢ from))
unfolding other_number_at
other_number_format limit bytes n from fits few =
    convert limit bytes _ u32_bytes u32_bytes (λ p. (not (eqb p from) ≡ true) × (p < n)) (λ p. (p < n) × (p ≢ from))
    (checked_format limit bytes (λ p. not (eqb p from)) causes.Wiring (peer_number_at limit bytes n) u32_bytes (λ p. p < n) (peer_number_format limit bytes n fits few))
    (λ p h. refl) (λ p h. (h.1, eqb-false p from (not-true (eqb p from) h.0))) (λ p h. (not_from_false (eqb p from) (ne_eqb p from h.1), h.0))

-- a number that a wire may have
number_of_wire_format : (limit : ℕ) (bytes : List ℕ) (held : List Wire) (from to : ℕ) → IsBytes bytes
    → IsFormat limit bytes (λ at. checked (λ number. gives_foreign held (record { from = from; to = to; number = number })) causes.Wiring at (long_number_at limit bytes at)) u64_bytes (λ number. (gives_foreign held (record { from = from; to = to; number = number }) ≡ true) × Is64 number)
number_of_wire_format limit bytes held from to fits =
    checked_format limit bytes (λ number. gives_foreign held (record { from = from; to = to; number = number })) causes.Wiring (long_number_at limit bytes) u64_bytes Is64 (long_number_format limit bytes fits)

foreign_is : (given : Option Wire) (to : ℕ) → option_map_or (λ g. not (eqb g.from to)) given false ≡ true → IsSomeAnd given (λ g. g.from ≢ to)
foreign_is None to h = absurd cc
foreign_is (Some g) to h = eqb-false g.from to (not-true (eqb g.from to) h)

is_foreign : (given : Option Wire) (to : ℕ) → IsSomeAnd given (λ g. g.from ≢ to) → option_map_or (λ g. not (eqb g.from to)) given false ≡ true
is_foreign None to h = absurd h
is_foreign (Some g) to h = not_from_false (eqb g.from to) (ne_eqb g.from to h)

abbrev wire3 : ℕ → List ℕ → List Wire → ℕ → ℕ → ℕ → Read Wire
wire3 limit bytes held from to at = checked (λ number. gives_foreign held (record { from = from; to = to; number = number })) causes.Wiring at (long_number_at limit bytes at) >>= λ number. Ok (record { from = from; to = to; number = number.0 }, number.1)

abbrev wire2 : ℕ → List ℕ → ℕ → List Wire → ℕ → ℕ → Read Wire
wire2 limit bytes n held from at = other_number_at limit bytes n from at >>= λ to. wire3 limit bytes held from to.0 to.1

abbrev wtext3 : Wire → List ℕ
wtext3 w = u64_bytes w.number ++ []

abbrev wtext2 : Wire → List ℕ
wtext2 w = u32_bytes w.to ++ wtext3 w

abbrev wfits3 : List Wire → ℕ → ℕ → Wire → Type 0
wfits3 held from to w = ((gives_foreign held (record { from = from; to = to; number = w.number }) ≡ true) × Is64 w.number) × (w ≡ record { from = from; to = to; number = w.number })

abbrev wfits2 : ℕ → List Wire → ℕ → Wire → Type 0
wfits2 n held from w = ((w.to < n) × (w.to ≢ from)) × wfits3 held from w.to w

abbrev pub WireFits : ℕ → List Wire → Wire → Type 0
WireFits n held w = CanWire n held w × IsWire w

wire_format : (limit : ℕ) (bytes : List ℕ) (n : ℕ) (held : List Wire) → IsBytes bytes → n ≤ MOST_PEERS → IsFormat limit bytes (wire_at limit bytes n held) wire_spelling (WireFits n held)
unfolding wire_at
wire_format limit bytes n held fits few =
    let f3 = λ (from to : ℕ). seq_format {A = ℕ} {B = Wire} limit bytes (λ at. checked (λ number. gives_foreign held (record { from = from; to = to; number = number })) causes.Wiring at (long_number_at limit bytes at)) (λ number at. Ok (record { from = from; to = to; number = number }, at)) u64_bytes
    (λ number. (gives_foreign held (record { from = from; to = to; number = number }) ≡ true) × Is64 number) (λ number w. []) (λ number w. w ≡ record { from = from; to = to; number = number }) (λ w. w.number)
    (number_of_wire_format limit bytes held from to fits) (λ number a. pure_format {A = Wire} limit bytes (record { from = from; to = to; number = number })) (λ number w a k. ap (λ (x : Wire). x.number) k) in
    let f2 = λ (from : ℕ). seq_format {A = ℕ} {B = Wire} limit bytes (other_number_at limit bytes n from) (wire3 limit bytes held from) u32_bytes (λ p. (p < n) × (p ≢ from))
    (λ to. wtext3) (λ to. wfits3 held from to) (λ w. w.to)
    (other_number_format limit bytes n from fits few) (λ to a. f3 from to) (λ to w a k. ap (λ (x : Wire). x.to) k.1) in
    let f1 = seq_format {A = ℕ} {B = Wire} limit bytes (peer_number_at limit bytes n) (wire2 limit bytes n held) u32_bytes (λ p. p < n)
    (λ from. wtext2) (λ from. wfits2 n held from) (λ w. w.from)
    (peer_number_format limit bytes n fits few) (λ from a. f2 from) (λ from w a k. ap (λ (x : Wire). x.from) k.1.1) in
    convert {A = Wire} limit bytes (wire_at limit bytes n held) _ wire_spelling _ (WireFits n held) f1
    (λ w a. refl)
    (λ w a. (record { from = a.0; to = a.1.0.0; apart = a.1.0.1; gives = foreign_is (from_owner held w) w.to a.1.1.0.0 }, a.1.1.0.1))
    (λ w a. (a.0.from, ((a.0.to, a.0.apart), ((is_foreign (from_owner held w) w.to a.0.gives, a.1), refl))))

-- wires after others
abbrev pub WiresFit : ℕ → List Wire → List Wire → Type 0
WiresFit n held ws = AreWired n held ws × AllByRecursion IsWire ws

module _ (limit : ℕ) (bytes : List ℕ) (n : ℕ) (fits : IsBytes bytes) (few : n ≤ MOST_PEERS) where
  wires_takes : (count : ℕ) (held : List Wire) (at : ℕ) (ws : List Wire) (end : ℕ) → at ≤ length bytes → at ≤ limit → wires_at limit bytes n held count at ≡ Ok (ws, end)
      → Stands bytes at (flat_map wire_spelling ws) end × (end ≤ limit) × ((length ws ≡ count) × WiresFit n held ws)
  wires_takes zero held at ws end in_bytes in_limit e =
      let is = ok_is ([], at) (ws, end) e in
      subst (λ (q : List Wire × ℕ). Stands bytes at (flat_map wire_spelling q.0) q.1 × (q.1 ≤ limit) × ((length q.0 ≡ 0) × WiresFit n held q.0)) is (stands_nothing bytes at in_bytes, in_limit, (refl, (tt, tt)))
  wires_takes (suc count) held at ws end in_bytes in_limit e =
      let a = bind_ok (wire_at limit bytes n held at) (λ first. wires_at limit bytes n (after_wire held first.0) count first.1 >>= λ others. Ok (first.0 ∷ others.0, others.1)) (ws, end) e in
      let b = bind_ok (wires_at limit bytes n (after_wire held a.0.0) count a.0.1) (λ others. Ok (a.0.0 ∷ others.0, others.1)) (ws, end) a.2 in
      let is = ok_is (a.0.0 ∷ b.0.0, b.0.1) (ws, end) b.2 in
      let t = (wire_format limit bytes n held fits few).takes at a.0.0 a.0.1 in_bytes in_limit a.1 in
      let u = wires_takes count (after_wire held a.0.0) a.0.1 b.0.0 b.0.1 t.0.within t.1 b.1 in
      let joined = stands_join bytes (wire_spelling a.0.0) (flat_map wire_spelling b.0.0) at a.0.1 b.0.1 t.0 u.0 in
      let whole : Stands bytes at (flat_map wire_spelling (a.0.0 ∷ b.0.0)) b.0.1 = rw flat_map-cons joined in
      subst (λ (q : List Wire × ℕ). Stands bytes at (flat_map wire_spelling q.0) q.1 × (q.1 ≤ limit) × ((length q.0 ≡ suc count) × WiresFit n held q.0)) is (whole, u.1, (ap suc u.2.0, ((t.2.0, u.2.1.0), (t.2.1, u.2.1.1))))

  wires_again : (count : ℕ) (held ws : List Wire) → length ws ≡ count → (at end : ℕ) → Stands bytes at (flat_map wire_spelling ws) end → end ≤ limit → WiresFit n held ws → wires_at limit bytes n held count at ≡ Ok (ws, end)
  wires_again zero held [] len at end s by h =
      let e : end ≡ at = omega (arith, s.ends) in
      rw e refl
  wires_again zero held (w ∷ ws) len at end s by h = absurd (omega (arith, len))
  wires_again (suc count) held [] len at end s by h = absurd (omega (arith, len))
  wires_again (suc count) held (w ∷ ws) len at end s by h =
      let both : Stands bytes at (wire_spelling w ++ flat_map wire_spelling ws) end = subst (λ (t : List ℕ). Stands bytes at t end) (flat_map-cons wire_spelling w ws) s in
      let k = stands_split bytes (wire_spelling w) (flat_map wire_spelling ws) at end both in
      let under : at + length (wire_spelling w) ≤ limit = omega (arith, by, k.1.ends) in
      let one = (wire_format limit bytes n held fits few).again at w (at + length (wire_spelling w)) k.0 under (h.0.0, h.1.0) in
      let rest = wires_again count (after_wire held w) ws (omega (arith, len)) (at + length (wire_spelling w)) end k.1 by (h.0.1, h.1.1) in
      rw (one, rest) refl

pub wires_format : (limit : ℕ) (bytes : List ℕ) (n count : ℕ) → IsBytes bytes → n ≤ MOST_PEERS → IsFormat limit bytes (wires_at limit bytes n [] count) (flat_map wire_spelling) (λ ws. (length ws ≡ count) × WiresFit n [] ws)
wires_format limit bytes n count fits few = record {
  takes = wires_takes limit bytes n fits few count [];
  again = λ at ws end s by h. wires_again limit bytes n fits few count [] ws h.0 at end s by h.1;
}

-- ---- commands and turns

command_list_format : (limit : ℕ) (bytes : List ℕ) (count : ℕ) → IsBytes bytes → IsFormat limit bytes (command_list_at limit bytes count) (flat_map records.spelling) (λ cs. (length cs ≡ count) × AllByRecursion Fits cs)
unfolding command_list_at
command_list_format limit bytes count fits = many_format {A = Command} limit bytes (command_at limit bytes) records.spelling Fits (command_format limit bytes fits) count

abbrev commands2 : ℕ → List ℕ → ℕ → ℕ → Read (List Command)
commands2 limit bytes count at = zero_at limit bytes at >>= λ start. command_list_at limit bytes count start.1

abbrev pub CommandsFit : List Command → Type 0
CommandsFit cs = Is32 (length cs) × AllByRecursion Fits cs

commands_format : (limit : ℕ) (bytes : List ℕ) → IsBytes bytes → IsFormat limit bytes (commands_at limit bytes) commands_spelling CommandsFit
unfolding commands_at
commands_format limit bytes fits =
    let f2 = λ (count : ℕ). seq_format {A = ℕ} {B = List Command} limit bytes (zero_at limit bytes) (λ z. command_list_at limit bytes count) u32_bytes (λ n. n ≡ 0)
    (λ z cs. flat_map records.spelling cs) (λ z cs. (length cs ≡ count) × AllByRecursion Fits cs) (λ cs. 0)
    (zero_format limit bytes fits) (λ z a. command_list_format limit bytes count fits) (λ z cs a k. sym a) in
    let f1 = seq_format {A = ℕ} {B = List Command} limit bytes (number_at limit bytes) (commands2 limit bytes) u32_bytes Is32
    (λ count cs. u32_bytes 0 ++ flat_map records.spelling cs) (λ count cs. (zero ≡ 0) × ((length cs ≡ count) × AllByRecursion Fits cs)) (λ cs. length cs)
    (number_format limit bytes fits) (λ count a. f2 count) (λ count cs a k. k.1.0) in
    convert {A = List Command} limit bytes (commands_at limit bytes) _ commands_spelling _ CommandsFit f1
    (λ cs a. refl) (λ cs a. (a.0, a.1.1.1)) (λ cs a. (a.0, (refl, (refl, a.1))))

entry_list_format : (limit : ℕ) (bytes : List ℕ) (count : ℕ) → IsBytes bytes → IsFormat limit bytes (entry_list_at limit bytes count) (flat_map entry_spelling) (λ es. (length es ≡ count) × AllByRecursion Fits2 es)
unfolding entry_list_at
entry_list_format limit bytes count fits = many_format {A = ℕ × Command} limit bytes (command2_at limit bytes) entry_spelling Fits2 (command2_format limit bytes fits) count

abbrev entries2 : ℕ → List ℕ → ℕ → ℕ → Read (List (ℕ × Command))
entries2 limit bytes count at = zero_at limit bytes at >>= λ start. entry_list_at limit bytes count start.1

abbrev pub EntriesFit : List (ℕ × Command) → Type 0
EntriesFit es = Is32 (length es) × AllByRecursion Fits2 es

entries_format : (limit : ℕ) (bytes : List ℕ) → IsBytes bytes → IsFormat limit bytes (entries_at limit bytes) entries_spelling EntriesFit
unfolding entries_at
entries_format limit bytes fits =
    let f2 = λ (count : ℕ). seq_format {A = ℕ} {B = List (ℕ × Command)} limit bytes (zero_at limit bytes) (λ z. entry_list_at limit bytes count) u32_bytes (λ n. n ≡ 0)
    (λ z es. flat_map entry_spelling es) (λ z es. (length es ≡ count) × AllByRecursion Fits2 es) (λ es. 0)
    (zero_format limit bytes fits) (λ z a. entry_list_format limit bytes count fits) (λ z es a k. sym a) in
    let f1 = seq_format {A = ℕ} {B = List (ℕ × Command)} limit bytes (number_at limit bytes) (entries2 limit bytes) u32_bytes Is32
    (λ count es. u32_bytes 0 ++ flat_map entry_spelling es) (λ count es. (zero ≡ 0) × ((length es ≡ count) × AllByRecursion Fits2 es)) (λ es. length es)
    (number_format limit bytes fits) (λ count a. f2 count) (λ count es a k. k.1.0) in
    convert {A = List (ℕ × Command)} limit bytes (entries_at limit bytes) _ entries_spelling _ EntriesFit f1
    (λ es a. refl) (λ es a. (a.0, a.1.1.1)) (λ es a. (a.0, (refl, (refl, a.1))))

-- what is made of a value that is read
map_format : {A B : Type 0} (limit : ℕ) (bytes : List ℕ) (read : ℕ → Read A) (text : A → List ℕ) (FitsA : A → Type 0) (made : A → B) (from : B → A) (text' : B → List ℕ) (FitsB : B → Type 0)
    → IsFormat limit bytes read text FitsA → ((a : A) → FitsA a → text a ≡ text' (made a)) → ((a : A) → FitsA a → FitsB (made a)) → ((b : B) → FitsB b → FitsA (from b)) → ((b : B) → FitsB b → made (from b) ≡ b)
    → IsFormat limit bytes (λ at. read at >>= λ x. Ok (made x.0, x.1)) text' FitsB
map_format {A = A} {B = B} limit bytes read text FitsA made from text' FitsB format same there back is = record {
  takes = λ at b end in_bytes in_limit e.
      let x = bind_ok (read at) (λ x. Ok (made x.0, x.1)) (b, end) e in
      let t = format.takes at x.0.0 x.0.1 in_bytes in_limit x.1 in
      let stands : Stands bytes at (text' (made x.0.0)) x.0.1 = subst (λ (y : List ℕ). Stands bytes at y x.0.1) (same x.0.0 t.2) t.0 in
      subst (λ (q : B × ℕ). Stands bytes at (text' q.0) q.1 × (q.1 ≤ limit) × FitsB q.0) (ok_is (made x.0.0, x.0.1) (b, end) x.2) (stands, t.1, there x.0.0 t.2);
  again = λ at b end s by fits.
      let text_is : text' b ≡ text (from b) = sym (ap text' (is b fits)) ∙ sym (same (from b) (back b fits)) in
      let one = format.again at (from b) end (subst (λ (y : List ℕ). Stands bytes at y end) text_is s) by (back b fits) in
      rw one (ap (λ (y : B). Ok (y, end)) (is b fits));
}

abbrev pub Lists : Type 0
Lists = Option (List (List ℕ)) × List (List Command)

-- n lists of commands with their cookies, as a version has them
abbrev pub ListsFit : Version → ℕ → Lists → Type 0
ListsFit One n (cookies, lists) = (cookies ≡ None) × ((length lists ≡ n) × AllByRecursion CommandsFit lists)
ListsFit Two n (None, lists) = ⊥
ListsFit Two n (Some cookies, lists) = (map length cookies ≡ map length lists) × ((length (entries_of cookies lists) ≡ n) × AllByRecursion EntriesFit (entries_of cookies lists))

-- the lists of both, each cookie with its command
abbrev entries_in : Lists → List (List (ℕ × Command))
entries_in (None, lists) = []
entries_in (Some cookies, lists) = entries_of cookies lists

plain_format : (limit : ℕ) (bytes : List ℕ) (n : ℕ) → IsBytes bytes → IsFormat limit bytes (many (commands_at limit bytes) n) (flat_map commands_spelling) (λ ls. (length ls ≡ n) × AllByRecursion CommandsFit ls)
plain_format limit bytes n fits = many_format {A = List Command} limit bytes (commands_at limit bytes) commands_spelling CommandsFit (commands_format limit bytes fits) n

paired_format : (limit : ℕ) (bytes : List ℕ) (n : ℕ) → IsBytes bytes → IsFormat limit bytes (many (entries_at limit bytes) n) (flat_map entries_spelling) (λ es. (length es ≡ n) × AllByRecursion EntriesFit es)
paired_format limit bytes n fits = many_format {A = List (ℕ × Command)} limit bytes (entries_at limit bytes) entries_spelling EntriesFit (entries_format limit bytes fits) n

lists_format : (limit : ℕ) (bytes : List ℕ) (version : Version) (n : ℕ) → IsBytes bytes → IsFormat limit bytes (lists_at limit bytes version n) (λ x. lists_spelling x.0 x.1) (ListsFit version n)
unfolding lists_at
lists_format limit bytes One n fits =
    map_format {A = List (List Command)} {B = Lists} limit bytes (many (commands_at limit bytes) n) (flat_map commands_spelling) (λ ls. (length ls ≡ n) × AllByRecursion CommandsFit ls)
    (λ ls. (None, ls)) (λ x. x.1) (λ x. lists_spelling x.0 x.1) (ListsFit One n) (plain_format limit bytes n fits)
    (λ ls a. refl) (λ ls a. (refl, a)) (λ x a. a.1) (λ x a. ap (λ (c : Option (List (List ℕ))). (c, x.1)) (sym a.0))
lists_format limit bytes Two n fits =
    map_format {A = List (List (ℕ × Command))} {B = Lists} limit bytes (many (entries_at limit bytes) n) (flat_map entries_spelling) (λ es. (length es ≡ n) × AllByRecursion EntriesFit es)
    (λ es. (Some (cookies_in es), commands_in es)) entries_in (λ x. lists_spelling x.0 x.1) (ListsFit Two n) (paired_format limit bytes n fits)
    (λ es a. ap (flat_map entries_spelling) (sym (entries_again es)))
    (λ es a. (same_lengths es, subst (λ (x : List (List (ℕ × Command))). (length x ≡ n) × AllByRecursion EntriesFit x) (sym (entries_again es)) a))
    back is
  where
    back : (x : Lists) → ListsFit Two n x → (length (entries_in x) ≡ n) × AllByRecursion EntriesFit (entries_in x)
    back (None, lists) a = absurd a
    back (Some cookies, lists) a = a.1

    is : (x : Lists) → ListsFit Two n x → (Some (cookies_in (entries_in x)), commands_in (entries_in x)) ≡ x
    is (None, lists) a = absurd a
    is (Some cookies, lists) a = rw (cookies_back cookies lists a.0, commands_back cookies lists a.0) refl

turns_format : (limit : ℕ) (bytes : List ℕ) (n count : ℕ) → IsBytes bytes → n ≤ MOST_PEERS → IsFormat limit bytes (turns_at limit bytes n count) (flat_map u32_bytes) (λ ts. (length ts ≡ count) × AllByRecursion (λ p. p < n) ts)
unfolding turns_at
turns_format limit bytes n count fits few = many_format {A = ℕ} limit bytes (peer_number_at limit bytes n) u32_bytes (λ p. p < n) (peer_number_format limit bytes n fits few) count

peers_format : (limit : ℕ) (bytes : List ℕ) (count : ℕ) → IsBytes bytes → IsFormat limit bytes (peers_at limit bytes 0 count) (flat_map peer_spelling) (λ ps. (length ps ≡ count) × PeersFit 0 ps)
peers_format limit bytes count fits = record {
  takes = peers_takes limit bytes fits count 0;
  again = λ at ps end s by h. peers_again limit bytes fits count 0 ps h.0 at end s by h.1;
}

odd_format : (limit : ℕ) (bytes : List ℕ) (odd : Bool) → IsBytes bytes → IsFormat limit bytes (λ at. cond odd (zero_at limit bytes at) (Ok (0, at))) (λ z. cond odd (u32_bytes 0) []) (λ z. z ≡ 0)
odd_format limit bytes true fits = convert {A = ℕ} limit bytes (zero_at limit bytes) u32_bytes (λ z. u32_bytes 0) (λ z. z ≡ 0) (λ z. z ≡ 0) (zero_format limit bytes fits) (λ z h. ap u32_bytes h) (λ z h. h) (λ z h. h)
odd_format limit bytes false fits = pure_format {A = ℕ} limit bytes 0

pad_format : (limit : ℕ) (bytes : List ℕ) (turns : ℕ) → IsBytes bytes → IsFormat limit bytes (pad_at limit bytes turns) (λ z. pad_spelling turns) (λ z. z ≡ 0)
unfolding pad_at
pad_format limit bytes turns fits = odd_format limit bytes (eqb (turns % 2) 1) fits

-- ---- the parts

abbrev script_of : Header → List PeerSpec → List Wire → Lists → List ℕ → Script
script_of h peers wires lists turns = record { opening = record { first_clock = h.first_clock; peers = peers; wires = wires }; commands = lists.1; turns = turns; cookies = lists.0 }

abbrev lists_of : Script → Lists
lists_of s = (s.cookies, s.commands)

abbrev parts5 : ℕ → List ℕ → Header → List PeerSpec → List Wire → Lists → List ℕ → ℕ → Read Script
parts5 limit bytes h peers wires lists turns at = pad_at limit bytes h.turns at >>= λ end. Ok (script_of h peers wires lists turns, end.1)

abbrev parts4 : ℕ → List ℕ → Header → List PeerSpec → List Wire → Lists → ℕ → Read Script
parts4 limit bytes h peers wires lists at = turns_at limit bytes h.peers h.turns at >>= λ turns. parts5 limit bytes h peers wires lists turns.0 turns.1

abbrev parts3 : ℕ → List ℕ → Header → List PeerSpec → List Wire → ℕ → Read Script
parts3 limit bytes h peers wires at = lists_at limit bytes h.version h.peers at >>= λ lists. parts4 limit bytes h peers wires lists.0 lists.1

abbrev parts2 : ℕ → List ℕ → Header → List PeerSpec → ℕ → Read Script
parts2 limit bytes h peers at = wires_at limit bytes h.peers [] h.wires at >>= λ wires. parts3 limit bytes h peers wires.0 wires.1

abbrev stext5 : Header → Script → List ℕ
stext5 h s = pad_spelling h.turns ++ []

abbrev stext4 : Header → Script → List ℕ
stext4 h s = flat_map u32_bytes s.turns ++ stext5 h s

abbrev stext3 : Header → Script → List ℕ
stext3 h s = lists_spelling s.cookies s.commands ++ stext4 h s

abbrev stext2 : Header → Script → List ℕ
stext2 h s = flat_map wire_spelling s.opening.wires ++ stext3 h s

abbrev sfits5 : Header → List PeerSpec → List Wire → Lists → List ℕ → Script → Type 0
sfits5 h peers wires lists turns s = (zero ≡ 0) × (s ≡ script_of h peers wires lists turns)

abbrev sfits4 : Header → List PeerSpec → List Wire → Lists → Script → Type 0
sfits4 h peers wires lists s = ((length s.turns ≡ h.turns) × AllByRecursion (λ p. p < h.peers) s.turns) × sfits5 h peers wires lists s.turns s

abbrev sfits3 : Header → List PeerSpec → List Wire → Script → Type 0
sfits3 h peers wires s = ListsFit h.version h.peers (lists_of s) × sfits4 h peers wires (lists_of s) s

abbrev sfits2 : Header → List PeerSpec → Script → Type 0
sfits2 h peers s = ((length s.opening.wires ≡ h.wires) × WiresFit h.peers [] s.opening.wires) × sfits3 h peers s.opening.wires s

-- what is read behind a header
pub record PartsFit (h : Header) (s : Script) : Type 0 where
  pub clock : s.opening.first_clock ≡ h.first_clock
  pub peer_count : length s.opening.peers ≡ h.peers
  pub peers : PeersFit 0 s.opening.peers
  pub wire_count : length s.opening.wires ≡ h.wires
  pub wires : WiresFit h.peers [] s.opening.wires
  pub lists : ListsFit h.version h.peers (lists_of s)
  pub turn_count : length s.turns ≡ h.turns
  pub turns : AllByRecursion (λ p. p < h.peers) s.turns

parts_text : (h : Header) (s : Script) → length s.turns ≡ h.turns → flat_map peer_spelling s.opening.peers ++ stext2 h s ≡ parts s
parts_text h s e =
    let peers : List ℕ = flat_map peer_spelling s.opening.peers in
    let wires : List ℕ = flat_map wire_spelling s.opening.wires in
    let lists : List ℕ = lists_spelling s.cookies s.commands in
    let turns : List ℕ = flat_map u32_bytes s.turns in
    let pad : List ℕ = pad_spelling (length s.turns) in
    ap (λ (x : List ℕ). peers ++ (wires ++ (lists ++ (turns ++ x)))) (append-nil (pad_spelling h.turns) ∙ ap pad_spelling (sym e))
    ∙ (simp append_assoc)

script_is : (h : Header) (s : Script) → s.opening.first_clock ≡ h.first_clock → s ≡ script_of h s.opening.peers s.opening.wires (lists_of s) s.turns
script_is h s e = ap (λ (clock : ℕ). record s { opening = record { first_clock = clock; peers = s.opening.peers; wires = s.opening.wires } }) e

pub parts_format : (limit : ℕ) (bytes : List ℕ) (h : Header) → IsBytes bytes → h.peers ≤ MOST_PEERS → IsFormat limit bytes (parts_at limit bytes h) parts (PartsFit h)
unfolding parts_at
parts_format limit bytes h fits few =
    let f5 = λ (peers : List PeerSpec) (wires : List Wire) (lists : Lists) (turns : List ℕ). seq_format {A = ℕ} {B = Script} limit bytes (pad_at limit bytes h.turns) (λ z at. Ok (script_of h peers wires lists turns, at)) (λ z. pad_spelling h.turns) (λ z. z ≡ 0)
    (λ z s. []) (λ z s. s ≡ script_of h peers wires lists turns) (λ s. 0)
    (pad_format limit bytes h.turns fits) (λ z a. pure_format {A = Script} limit bytes (script_of h peers wires lists turns)) (λ z s a k. sym a) in
    let f4 = λ (peers : List PeerSpec) (wires : List Wire) (lists : Lists). seq_format {A = List ℕ} {B = Script} limit bytes (turns_at limit bytes h.peers h.turns) (parts5 limit bytes h peers wires lists) (flat_map u32_bytes) (λ ts. (length ts ≡ h.turns) × AllByRecursion (λ p. p < h.peers) ts)
    (λ turns. stext5 h) (λ turns. sfits5 h peers wires lists turns) (λ s. s.turns)
    (turns_format limit bytes h.peers h.turns fits few) (λ turns a. f5 peers wires lists turns) (λ turns s a k. ap (λ (x : Script). x.turns) k.1) in
    let f3 = λ (peers : List PeerSpec) (wires : List Wire). seq_format {A = Lists} {B = Script} limit bytes (lists_at limit bytes h.version h.peers) (parts4 limit bytes h peers wires) (λ x. lists_spelling x.0 x.1) (ListsFit h.version h.peers)
    (λ lists. stext4 h) (λ lists. sfits4 h peers wires lists) lists_of
    (lists_format limit bytes h.version h.peers fits) (λ lists a. f4 peers wires lists) (λ lists s a k. ap lists_of k.1.1) in
    let f2 = λ (peers : List PeerSpec). seq_format {A = List Wire} {B = Script} limit bytes (wires_at limit bytes h.peers [] h.wires) (parts3 limit bytes h peers) (flat_map wire_spelling) (λ ws. (length ws ≡ h.wires) × WiresFit h.peers [] ws)
    (λ wires. stext3 h) (λ wires. sfits3 h peers wires) (λ s. s.opening.wires)
    (wires_format limit bytes h.peers h.wires fits few) (λ wires a. f3 peers wires) (λ wires s a k. ap (λ (x : Script). x.opening.wires) k.1.1.1) in
    let f1 = seq_format {A = List PeerSpec} {B = Script} limit bytes (peers_at limit bytes 0 h.peers) (parts2 limit bytes h) (flat_map peer_spelling) (λ ps. (length ps ≡ h.peers) × PeersFit 0 ps)
    (λ peers. stext2 h) (λ peers. sfits2 h peers) (λ s. s.opening.peers)
    (peers_format limit bytes h.peers fits) (λ peers a. f2 peers) (λ peers s a k. ap (λ (x : Script). x.opening.peers) k.1.1.1.1) in
    convert {A = Script} limit bytes (parts_at limit bytes h) _ parts _ (PartsFit h) f1
    (λ s a. parts_text h s a.1.1.1.0.0)
    (λ s a. record { clock = ap (λ (x : Script). x.opening.first_clock) a.1.1.1.1.1; peer_count = a.0.0; peers = a.0.1; wire_count = a.1.0.0; wires = a.1.0.1; lists = a.1.1.0; turn_count = a.1.1.1.0.0; turns = a.1.1.1.0.1 })
    (λ s a. ((a.peer_count, a.peers), ((a.wire_count, a.wires), (a.lists, ((a.turn_count, a.turns), (refl, script_is h s a.clock))))))
