-- What is read of a whole script is spelled so, and what is spelled so is read.
use Rattle.std.proofs.Common.{◌≡◌, ℕ, ◌+◌, ◌*◌, ◌<◌, ◌≤◌, Bool, true, false, ◌||◌, cond, eqb, ltb, leb, List, [], ◌∷◌, ◌++◌, length, map, take, drop, Option, None, Some, Result, Ok, Err, refl, sym, ap, subst, ◌∙◌, arith, eq-eqb}
use Rattle.std.specs.Prelude.{IfOk, zip}
use Rattle.std.specs.List.{flat_map, AllByRecursion}
use Rattle.std.proofs.lemmas.Bool.{eqb-true, le-ltb, leb-true, le-leb}
use Rattle.std.proofs.lemmas.List.{length-append, take_all}
use Rattle.std.proofs.lemmas.List.Concat.{flat_map-cons}
use Rattle.std.proofs.lemmas.List.Sums.{sum_by-cons}
use Rattle.b1_errs.specs.declared.Cause.TheVariants as causes
use Rattle.b1_errs.specs.declared.NotRead.{NotRead}
use Rattle.b1_model.specs.declared.commands.Command.{Command}
use Rattle.b1_model.specs.declared.commands.Command.TheVariants.{Disconnect, Query, Reset, Limit, Release, Destroy, SliceRelease, Send, Recv, Await}
use Rattle.b1_model.specs.declared.limits.TheConstants.{FEW_PEERS, MOST_PEERS, MOST_POOLS, MOST_SCRIPT, MOST_WIDE_SCRIPT}
use Rattle.b1_model.specs.declared.naming.Wire.{Wire}
use Rattle.b1_model.specs.declared.naming.PeerSpec.{PeerSpec}
use Rattle.b1_model.specs.declared.version.Version.{Version}
use Rattle.b1_model.specs.declared.version.Version.TheVariants.{One, Two}
use Rattle.b1_model.specs.Opening.{AreWired, HasPool, pool_bytes}
use Rattle.b1_model.specs.Versions.{version_of}
use Rattle.b1_wire.specs.Numbers.{u32_bytes}
use Rattle.b1_records.specs.Spelling.{IsWithin, IsWithin2, HasNumbers, Is32, Is64, Stands}
use Rattle.b1_records.specs.Spelling as records
use Rattle.b1_records.specs.Reading.{◌>>=◌, Read, Fault, Gives, fault_of}
use Rattle.b1_records.proofs.Formats.{IsBytes, bind_ok, passed_ok, ok_is, stands_join, stands_split}
use Rattle.b1_records.proofs.Records.{Fits, fault_or_value}
use Rattle.b1_records.proofs.Cookies.{Fits2}
use Rattle.b1_script.specs.declared.header.Header.{Header}
use Rattle.b1_script.specs.declared.script.Script.{Script}
use Rattle.b1_script.specs.Spelling.{header_len, peer_spelling, wire_spelling, commands_spelling, entry_spelling, entries_spelling, paired, entries_of, lists_spelling, pad_spelling, parts, header_spelling, spelling, most_peers, most_len, HasCookies, AreCookies, IsWithinOf, HasSpelling, IsSpec, HasFields, IsScript, IsWhole}
use Rattle.b1_script.specs.Reading.{header_at, parts_at, script_at, whole_at, to_the_end, len_place, bad_script, bad}
use Rattle.b1_script.proofs.Entries.{length_zip, count_entries}
use Rattle.b1_script.proofs.Scripts.{htext1, IsHeader, header_format, PeersFit, CommandsFit, EntriesFit, ListsFit, PartsFit, most_of_all, parts_format}

-- ---- lengths

length_wires : (ws : List Wire) → length (flat_map wire_spelling ws) ≡ 16 * length ws
length_wires [] = refl
length_wires (w ∷ ws) =
    let e = ap (λ (x : List ℕ). length x) (flat_map-cons wire_spelling w ws) in
    let ih = length_wires ws in
    omega (arith, e, ih)

length_turns : (ts : List ℕ) → length (flat_map u32_bytes ts) ≡ 4 * length ts
length_turns [] = refl
length_turns (t ∷ ts) =
    let e = ap (λ (x : List ℕ). length x) (flat_map-cons u32_bytes t ts) in
    let ih = length_turns ts in
    omega (arith, e, ih)

-- a record has bytes
some_bytes : (c : Command) → IsWithin c → 1 ≤ length (records.spelling c)
some_bytes Disconnect within = omega arith
some_bytes Query within = omega arith
some_bytes (Reset limits) within = omega arith
some_bytes (Limit limits) within = absurd within
some_bytes (Release n) within = omega arith
some_bytes (Destroy ns) within = omega arith
some_bytes (SliceRelease n) within = omega arith
some_bytes (Send send) within = omega arith
some_bytes Recv within = omega arith
some_bytes Await within = omega arith

length_commands : (cs : List Command) → AllByRecursion IsWithin cs → length cs ≤ length (flat_map records.spelling cs)
length_commands [] within = omega arith
length_commands (c ∷ cs) within =
    let e = ap (λ (x : List ℕ). length x) (flat_map-cons records.spelling c cs) ∙ length-append (records.spelling c) (flat_map records.spelling cs) in
    let ih = length_commands cs within.1 in
    omega (arith, e, ih, some_bytes c within.0)

length_entries : (es : List (ℕ × Command)) → length es ≤ length (flat_map entry_spelling es)
length_entries [] = omega arith
length_entries (x ∷ es) =
    let e = ap (λ (y : List ℕ). length y) (flat_map-cons entry_spelling x es) ∙ length-append (entry_spelling x) (flat_map entry_spelling es) in
    let ih = length_entries es in
    omega (arith, e, ih)

-- each list of commands has at most as many as all the lists have bytes
short_plain : (top : ℕ) (ls : List (List Command)) → AllByRecursion (AllByRecursion IsWithin) ls → length (flat_map commands_spelling ls) ≤ top → AllByRecursion (λ cs. length cs ≤ top) ls
short_plain top [] within h = tt
short_plain top (cs ∷ ls) within h =
    let e = ap (λ (x : List ℕ). length x) (flat_map-cons commands_spelling cs ls) ∙ length-append (commands_spelling cs) (flat_map commands_spelling ls) in
    let own = length_commands cs within.0 in
    (omega (arith, e, own, h), short_plain top ls within.1 (omega (arith, e, h)))

short_paired : (top : ℕ) (cookies : List (List ℕ)) (ls : List (List Command)) → map length cookies ≡ map length ls → length (flat_map entries_spelling (entries_of cookies ls)) ≤ top → AllByRecursion (λ cs. length cs ≤ top) ls
short_paired top [] [] same h = tt
short_paired top [] (cs ∷ ls) same h = absurd cc
short_paired top (own ∷ cookies) [] same h = absurd cc
short_paired top (own ∷ cookies) (cs ∷ ls) same h =
    let head : length own ≡ length cs = cc in
    let tail : map length cookies ≡ map length ls = cc in
    let e = ap (λ (x : List ℕ). length x) (flat_map-cons entries_spelling (paired (own, cs)) (entries_of cookies ls)) ∙ length-append (entries_spelling (paired (own, cs))) (flat_map entries_spelling (entries_of cookies ls)) in
    let most = length_entries (paired (own, cs)) in
    let count = length_zip own cs head in
    (omega (arith, e, most, count, h), short_paired top cookies ls tail (omega (arith, e, h)))

short_lists : (top : ℕ) (cookies : Option (List (List ℕ))) (ls : List (List Command)) → AllByRecursion (AllByRecursion (IsWithinOf (version_of cookies))) ls → HasCookies cookies ls → length (lists_spelling cookies ls) ≤ top → AllByRecursion (λ cs. length cs ≤ top) ls
short_lists top None ls within has h = short_plain top ls within h
short_lists top (Some cookies) ls within has h = short_paired top cookies ls has h

-- the lengths of the parts
record PartLengths (s : Script) : Type 0 where
  wires : 16 * length s.opening.wires ≤ length (parts s)
  lists : length (lists_spelling s.cookies s.commands) ≤ length (parts s)
  turns : 4 * length s.turns ≤ length (parts s)

part_lengths : (s : Script) → PartLengths s
part_lengths s =
    let peers : List ℕ = flat_map peer_spelling s.opening.peers in
    let wires : List ℕ = flat_map wire_spelling s.opening.wires in
    let lists : List ℕ = lists_spelling s.cookies s.commands in
    let turns : List ℕ = flat_map u32_bytes s.turns in
    let pad : List ℕ = pad_spelling (length s.turns) in
    let a = length-append peers wires in
    let b = length-append (peers ++ wires) lists in
    let c = length-append (peers ++ wires ++ lists) turns in
    let d = length-append (peers ++ wires ++ lists ++ turns) pad in
    let w = length_wires s.opening.wires in
    let t = length_turns s.turns in
    record { wires = omega (arith, a, b, c, d, w); lists = omega (arith, b, c, d); turns = omega (arith, c, d, t) }

-- no script is longer than the longest
pub most_under : (peers : ℕ) → most_len peers ≤ MOST_SCRIPT
most_under peers = by (leb peers FEW_PEERS)
  where
    by : (b : Bool) → cond b MOST_SCRIPT MOST_WIDE_SCRIPT ≤ MOST_SCRIPT
    by true = omega arith
    by false = omega arith

-- ---- facts of what was read

-- facts on each, taken apart and put together
each : {A : Type 0} (P Q : A → Type 0) → ((a : A) → P a → Q a) → (xs : List A) → AllByRecursion P xs → AllByRecursion Q xs
each P Q f [] h = tt
each P Q f (x ∷ xs) h = (f x h.0, each P Q f xs h.1)

each_both : {A : Type 0} (P Q R : A → Type 0) → ((a : A) → P a → Q a → R a) → (xs : List A) → AllByRecursion P xs → AllByRecursion Q xs → AllByRecursion R xs
each_both P Q R f [] h k = tt
each_both P Q R f (x ∷ xs) h k = (f x h.0 k.0, each_both P Q R f xs h.1 k.1)

-- pools, each of which isn't too much with those before it
each_pool : (before : ℕ) (ps : List PeerSpec) → PeersFit before ps → AllByRecursion HasPool ps
each_pool before [] h = tt
each_pool before (p ∷ ps) h = (h.0.1.is_pool, each_pool (before + p.pool) ps h.1)

all_pools : (before : ℕ) (ps : List PeerSpec) → before ≤ MOST_POOLS → PeersFit before ps → before + pool_bytes ps ≤ MOST_POOLS
all_pools before [] le h = omega (arith, le)
all_pools before (p ∷ ps) le h =
    let ih = all_pools (before + p.pool) ps h.0.1.together h.1 in
    let more = sum_by-cons (λ (x : PeerSpec). x.pool) p ps in
    omega (arith, ih, more)

each_spec : (before : ℕ) (ps : List PeerSpec) → PeersFit before ps → AllByRecursion IsSpec ps
each_spec before [] h = tt
each_spec before (p ∷ ps) h = (h.0.0, each_spec (before + p.pool) ps h.1)

peers_fit : (before : ℕ) (ps : List PeerSpec) → AllByRecursion IsSpec ps → AllByRecursion HasPool ps → before + pool_bytes ps ≤ MOST_POOLS → PeersFit before ps
peers_fit before [] specs pools h = tt
peers_fit before (p ∷ ps) specs pools h =
    let more = sum_by-cons (λ (x : PeerSpec). x.pool) p ps in
    ((specs.0, record { is_pool = pools.0; together = omega (arith, more, h) }), peers_fit (before + p.pool) ps specs.1 pools.1 (omega (arith, more, h)))

-- what the lists of a script say of it
record ListFacts (wanted : Version) (n : ℕ) (told : Option (List (List ℕ))) (lists : List (List Command)) : Type 0 where
  version : version_of told ≡ wanted
  count : length lists ≡ n
  commands : AllByRecursion (AllByRecursion (IsWithinOf (version_of told))) lists
  cookies : HasCookies told lists
  numbers : AllByRecursion (AllByRecursion HasNumbers) lists
  wide : AreCookies told

-- of pairs that fit, the commands fit and the cookies
each_within : (own : List ℕ) (cs : List Command) → length own ≡ length cs → AllByRecursion Fits2 (zip own cs) → AllByRecursion IsWithin2 cs × (AllByRecursion HasNumbers cs × AllByRecursion Is64 own)
each_within [] [] e h = (tt, (tt, tt))
each_within [] (c ∷ cs) e h = absurd (omega (arith, e))
each_within (x ∷ own) [] e h = absurd (omega (arith, e))
each_within (x ∷ own) (c ∷ cs) e h = let ih = each_within own cs (omega (arith, e)) h.1 in ((h.0.0, ih.0), ((h.0.1, ih.1.0), (h.0.2, ih.1.1)))

all_within : (cookies : List (List ℕ)) (lists : List (List Command)) → map length cookies ≡ map length lists → AllByRecursion EntriesFit (entries_of cookies lists)
    → AllByRecursion (AllByRecursion IsWithin2) lists × (AllByRecursion (AllByRecursion HasNumbers) lists × AllByRecursion (AllByRecursion Is64) cookies)
all_within [] [] e h = (tt, (tt, tt))
all_within [] (l ∷ lists) e h = absurd cc
all_within (c ∷ cookies) [] e h = absurd cc
all_within (c ∷ cookies) (l ∷ lists) e h =
    let head : length c ≡ length l = cc in
    let tail : map length cookies ≡ map length lists = cc in
    let own = each_within c l head h.0.1 in
    let ih = all_within cookies lists tail h.1 in
    ((own.0, ih.0), ((own.1.0, ih.1.0), (own.1.1, ih.1.1)))

list_facts : (version : Version) (n : ℕ) (cookies : Option (List (List ℕ))) (lists : List (List Command)) → ListsFit version n (cookies, lists) → ListFacts version n cookies lists
list_facts One n None lists fit = record {
  version = refl;
  count = fit.1.0;
  commands = each CommandsFit (AllByRecursion IsWithin) (λ cs k. each Fits IsWithin (λ c f. f.0) cs k.1) lists fit.1.1;
  cookies = tt;
  numbers = each CommandsFit (AllByRecursion HasNumbers) (λ cs k. each Fits HasNumbers (λ c f. f.1) cs k.1) lists fit.1.1;
  wide = tt;
}
list_facts One n (Some cookies) lists fit = absurd (let e = fit.0 in cc)
list_facts Two n None lists fit = absurd fit
list_facts Two n (Some cookies) lists fit =
    let all = all_within cookies lists fit.0 fit.1.1 in
    record { version = refl; count = sym (count_entries cookies lists fit.0) ∙ fit.1.0; commands = all.0; cookies = fit.0; numbers = all.1.0; wide = all.1.1 }

-- and back
each_pair : (own : List ℕ) (cs : List Command) → length own ≡ length cs → AllByRecursion IsWithin2 cs → AllByRecursion HasNumbers cs → AllByRecursion Is64 own → AllByRecursion Fits2 (zip own cs)
each_pair [] [] e within numbers wide = tt
each_pair [] (c ∷ cs) e within numbers wide = absurd (omega (arith, e))
each_pair (x ∷ own) [] e within numbers wide = absurd (omega (arith, e))
each_pair (x ∷ own) (c ∷ cs) e within numbers wide = ((within.0, numbers.0, wide.0), each_pair own cs (omega (arith, e)) within.1 numbers.1 wide.1)

all_pairs : (cookies : List (List ℕ)) (lists : List (List Command)) → map length cookies ≡ map length lists → AllByRecursion (AllByRecursion IsWithin2) lists → AllByRecursion (AllByRecursion HasNumbers) lists → AllByRecursion (AllByRecursion Is64) cookies
    → AllByRecursion (λ cs. Is32 (length cs)) lists → AllByRecursion EntriesFit (entries_of cookies lists)
all_pairs [] [] e within numbers wide small = tt
all_pairs [] (l ∷ lists) e within numbers wide small = absurd cc
all_pairs (c ∷ cookies) [] e within numbers wide small = absurd cc
all_pairs (c ∷ cookies) (l ∷ lists) e within numbers wide small =
    let head : length c ≡ length l = cc in
    let tail : map length cookies ≡ map length lists = cc in
    let count = length_zip c l head in
    ((omega (arith, count, small.0), each_pair c l head within.0 numbers.0 wide.0), all_pairs cookies lists tail within.1 numbers.1 wide.1 small.1)

lists_fit : (n : ℕ) (cookies : Option (List (List ℕ))) (lists : List (List Command)) → AllByRecursion (λ cs. Is32 (length cs)) lists → ListFacts (version_of cookies) n cookies lists → ListsFit (version_of cookies) n (cookies, lists)
lists_fit n None lists small facts =
    let both = each_both (AllByRecursion IsWithin) (AllByRecursion HasNumbers) (AllByRecursion Fits) (λ cs a b. each_both IsWithin HasNumbers Fits (λ c x y. (x, y)) cs a b) lists facts.commands facts.numbers in
    (refl, (facts.count, each_both (λ cs. Is32 (length cs)) (AllByRecursion Fits) CommandsFit (λ cs a b. (a, b)) lists small both))
lists_fit n (Some cookies) lists small facts =
    (facts.cookies, (count_entries cookies lists facts.cookies ∙ facts.count, all_pairs cookies lists facts.cookies facts.commands facts.numbers facts.wide small))

-- what the header of a script says
abbrev header_of : Script → Header
header_of s = record { version = version_of s.cookies; peers = length s.opening.peers; first_clock = s.opening.first_clock; wires = length s.opening.wires; turns = length s.turns; len = header_len + length (parts s) }

header_is : (h : Header) (s : Script) → PartsFit h s → header_len + length (parts s) ≡ h.len → header_of s ≡ h
header_is h s fit len =
    let facts = list_facts h.version h.peers s.cookies s.commands fit.lists in
    rw len (rw (facts.version, fit.peer_count, fit.clock, fit.wire_count, fit.turn_count) refl)

-- a length that is right for so many peers
short_enough : (peers len : ℕ) → (leb peers FEW_PEERS || leb len MOST_WIDE_SCRIPT) ≡ true → len ≤ MOST_SCRIPT → len ≤ most_len peers
short_enough peers len may under = by (leb peers FEW_PEERS) refl may
  where
    by : (b : Bool) → leb peers FEW_PEERS ≡ b → (b || leb len MOST_WIDE_SCRIPT) ≡ true → len ≤ cond b MOST_SCRIPT MOST_WIDE_SCRIPT
    by true is h = under
    by false is h = leb-true len MOST_WIDE_SCRIPT h

may_be_len : (peers len : ℕ) → len ≤ most_len peers → (leb peers FEW_PEERS || leb len MOST_WIDE_SCRIPT) ≡ true
may_be_len peers len short = by (leb peers FEW_PEERS) short
  where
    by : (b : Bool) → len ≤ cond b MOST_SCRIPT MOST_WIDE_SCRIPT → (b || leb len MOST_WIDE_SCRIPT) ≡ true
    by true h = refl
    by false h = le-leb len MOST_WIDE_SCRIPT h

-- the facts that were found make a script
found_facts : (bytes : List ℕ) (s : Script) (h : Header) (end : ℕ) → header_of s ≡ h → Stands bytes 0 (htext1 h ++ parts s) end → end ≤ MOST_SCRIPT → end ≡ header_len + length (parts s) → IsHeader h → PartsFit h s → IsScript bytes s end
found_facts bytes s h end same joined under ends is_header fit =
    let lengths = part_lengths s in
    let facts = list_facts h.version h.peers s.cookies s.commands fit.lists in
    let n : length s.opening.peers ≡ h.peers = fit.peer_count in
    let len : h.len ≡ header_len + length (parts s) = ap (λ (x : Header). x.len) (sym same) in
    let few : length s.opening.peers ≤ most_peers (version_of s.cookies) = rw facts.version (omega (arith, n, is_header.peers.1)) in
    let pools = all_pools 0 s.opening.peers (omega arith) fit.peers in
    let may : (leb (length s.opening.peers) FEW_PEERS || leb (header_len + length (parts s)) MOST_WIDE_SCRIPT) ≡ true = rw (n, sym len) is_header.len.1 in
    record {
      has_spelling = record {
        opening = record {
          least = omega (arith, n, is_header.peers.0);
          most = omega (arith, few, most_of_all (version_of s.cookies));
          even = rw fit.clock is_header.clock.0;
          clock = rw fit.clock is_header.clock.1;
          pools = each_pool 0 s.opening.peers fit.peers;
          together = omega (arith, pools);
          few = omega (arith, under, ends, lengths.wires);
          wires = subst (λ (k : ℕ). AreWired k [] s.opening.wires) (sym n) fit.wires.0;
        };
        few = few;
        lists = facts.count ∙ sym n;
        commands = facts.commands;
        turns = subst (λ (k : ℕ). AllByRecursion (λ p. p < k) s.turns) (sym n) fit.turns;
        cookies = facts.cookies;
        short = short_enough (length s.opening.peers) (header_len + length (parts s)) may (omega (arith, under, ends));
      };
      fields = record {
        peers = each_spec 0 s.opening.peers fit.peers;
        wires = fit.wires.1;
        commands = facts.numbers;
        cookies = facts.wide;
      };
      stands = subst (λ (k : Header). Stands bytes 0 (htext1 k ++ parts s) end) (sym same) joined;
    }

pub script_found : (bytes : List ℕ) (s : Script) (end : ℕ) → IsBytes bytes → script_at MOST_SCRIPT bytes ≡ Ok (s, end) → IsScript bytes s end
unfolding script_at
script_found bytes s end fits e =
    let b = bind_ok (header_at MOST_SCRIPT bytes 0) (λ header. parts_at MOST_SCRIPT bytes header.0 header.1 >>= λ script. cond (eqb script.1 header.0.len) (Ok script) (Err (len_place, causes.Length))) (s, end) e in
    let h : Header = b.0.0 in
    let c = bind_ok (parts_at MOST_SCRIPT bytes h b.0.1) (λ script. cond (eqb script.1 h.len) (Ok script) (Err (len_place, causes.Length))) (s, end) b.2 in
    let p = passed_ok (eqb c.0.1 h.len) (len_place, causes.Length) (Ok c.0) (s, end) c.2 in
    let is = ok_is c.0 (s, end) p.1 in
    let t = (header_format MOST_SCRIPT bytes fits).takes 0 h b.0.1 (omega arith) (omega arith) b.1 in
    let read : parts_at MOST_SCRIPT bytes h b.0.1 ≡ Ok (s, end) = subst (λ (x : Script × ℕ). parts_at MOST_SCRIPT bytes h b.0.1 ≡ Ok x) is c.1 in
    let few : h.peers ≤ MOST_PEERS = omega (arith, t.2.peers.1, most_of_all h.version) in
    let u = (parts_format MOST_SCRIPT bytes h fits few).takes b.0.1 s end t.0.within t.1 read in
    let ends : end ≡ header_len + length (parts s) = omega (arith, t.0.ends, u.0.ends) in
    let len : header_len + length (parts s) ≡ h.len = sym ends ∙ ap (λ (x : Script × ℕ). x.1) (sym is) ∙ eqb-true c.0.1 h.len p.0 in
    let same : header_of s ≡ h = header_is h s u.2 len in
    let joined : Stands bytes 0 (htext1 h ++ parts s) end = stands_join bytes (htext1 h) (parts s) 0 b.0.1 end t.0 u.0 in
    found_facts bytes s h end same joined u.1 ends t.2 u.2

-- the facts of a script are those that its parts need
parts_fit : (s : Script) → HasSpelling s → HasFields s → PartsFit (header_of s) s
parts_fit s has fields =
    let lengths = part_lengths s in
    let short = short_lists (length (parts s)) s.cookies s.commands has.commands has.cookies lengths.lists in
    let under = most_under (length s.opening.peers) in
    let small : AllByRecursion (λ cs. Is32 (length cs)) s.commands = each (λ cs. length cs ≤ length (parts s)) (λ cs. Is32 (length cs)) (λ cs k. omega (arith, k, has.short, under)) s.commands short in
    record {
      clock = refl;
      peer_count = refl;
      peers = peers_fit 0 s.opening.peers fields.peers has.opening.pools (omega (arith, has.opening.together));
      wire_count = refl;
      wires = (has.opening.wires, fields.wires);
      lists = lists_fit (length s.opening.peers) s.cookies s.commands small (record { version = refl; count = has.lists; commands = has.commands; cookies = has.cookies; numbers = fields.commands; wide = fields.cookies });
      turn_count = refl;
      turns = has.turns;
    }

header_fits : (s : Script) → HasSpelling s → IsHeader (header_of s)
header_fits s has =
    let lengths = part_lengths s in
    let under = most_under (length s.opening.peers) in
    record {
      peers = (has.opening.least, has.few);
      clock = (has.opening.even, has.opening.clock);
      wires = omega (arith, has.opening.few);
      turns = omega (arith, lengths.turns, has.short, under);
      len = (omega (arith, has.short, under), may_be_len (length s.opening.peers) (header_len + length (parts s)) has.short);
    }

pub script_read : (bytes : List ℕ) (s : Script) (end : ℕ) → IsBytes bytes → IsScript bytes s end → script_at MOST_SCRIPT bytes ≡ Ok (s, end)
unfolding script_at
script_read bytes s end fits is =
    let h : Header = header_of s in
    let split = stands_split bytes (htext1 h) (parts s) 0 end is.stands in
    let middle : ℕ = 0 + length (htext1 h) in
    let ends : end ≡ header_len + length (parts s) = omega (arith, is.stands.ends, length-append (htext1 h) (parts s)) in
    let most = most_under (length s.opening.peers) in
    let few : length s.opening.peers ≤ MOST_PEERS = is.has_spelling.opening.most in
    let under : end ≤ MOST_SCRIPT = omega (arith, ends, most, is.has_spelling.short) in
    let early : middle ≤ MOST_SCRIPT = omega (arith, split.1.ends, under) in
    let one = (header_format MOST_SCRIPT bytes fits).again 0 h middle split.0 early (header_fits s is.has_spelling) in
    let two = (parts_format MOST_SCRIPT bytes h fits few).again middle s end split.1 under (parts_fit s is.has_spelling is.fields) in
    rw (one, two, eq-eqb end h.len ends) refl

-- ---- answers

pub answer_found : (bytes : List ℕ) (r : Result (Script × ℕ) NotRead) → IsBytes bytes → Gives (λ x. x) r (script_at MOST_SCRIPT bytes) → IfOk r (λ read. IsScript bytes read.0 read.1)
answer_found bytes (Ok x) fits given = script_found bytes x.0 x.1 fits given
answer_found bytes (Err e) fits given = tt

abbrev read_done : Script × ℕ → Read Script
read_done x = Ok x

abbrev pub whole_done : Script → Result Script Fault
whole_done s = Ok s

pub whole_is : (s t : Script) → whole_done s ≡ whole_done t → s ≡ t
whole_is s t e = cc

at_the_end : (x : Script × ℕ) (n : ℕ) (b : Bool) (s : Script) → eqb x.1 n ≡ b → cond b (whole_done x.0) (Err (x.1, causes.Trailing)) ≡ Ok s → read_done x ≡ Ok (s, n)
at_the_end x n true s is e =
    let end : x.1 ≡ n = eqb-true x.1 n is in
    let same : x.0 ≡ s = whole_is x.0 s e in
    rw (same, end) refl
at_the_end x n false s is e = absurd cc

to_the_end_ok : (bytes : List ℕ) (r : Read Script) (s : Script) → to_the_end bytes r ≡ Ok s → r ≡ Ok (s, length bytes)
to_the_end_ok bytes (Ok x) s e = at_the_end x (length bytes) (eqb x.1 (length bytes)) s refl e
to_the_end_ok bytes (Err f) s e = absurd cc

not_long : (b : Bool) (f : Fault) (r : Result Script Fault) (s : Script) → cond b (Err f) r ≡ Ok s → r ≡ Ok s
not_long true f r s e = absurd cc
not_long false f r s e = e

pub whole_found : (bytes : List ℕ) (s : Script) → IsBytes bytes → whole_at bytes ≡ Ok s → IsWhole bytes s
unfolding whole_at
whole_found bytes s fits e =
    let r = not_long (ltb MOST_SCRIPT (length bytes)) _ (to_the_end bytes (script_at MOST_SCRIPT bytes)) s e in
    let is = script_found bytes s (length bytes) fits (to_the_end_ok bytes (script_at MOST_SCRIPT bytes) s r) in
    let len : length bytes ≡ length (spelling s) = omega (arith, is.stands.ends) in
    record { has_spelling = is.has_spelling; fields = is.fields; spelled = sym (take_all (length (spelling s)) bytes (omega (arith, len))) ∙ is.stands.there }

pub whole_read : (bytes : List ℕ) (s : Script) → IsBytes bytes → IsWhole bytes s → whole_at bytes ≡ Ok s
unfolding whole_at
whole_read bytes s fits is =
    let len : length bytes ≡ length (spelling s) = ap (λ (x : List ℕ). length x) is.spelled in
    let there : take (length (spelling s)) (drop 0 bytes) ≡ spelling s = take_all (length (spelling s)) bytes (omega (arith, len)) ∙ is.spelled in
    let stands : Stands bytes 0 (spelling s) (length bytes) = record { there = there; ends = omega (arith, len); within = omega arith } in
    let read = script_read bytes s (length bytes) fits (record { has_spelling = is.has_spelling; fields = is.fields; stands = stands }) in
    let whole : length (spelling s) ≡ header_len + length (parts s) = length-append (header_spelling s) (parts s) in
    let short : ltb MOST_SCRIPT (length bytes) ≡ false = le-ltb _ _ (omega (arith, len, whole, most_under (length s.opening.peers), is.has_spelling.short)) in
    rw (short, read) (rw (eq-eqb (length bytes) (length bytes) refl) refl)

pub whole_answer : (bytes : List ℕ) (r : Result Script NotRead) → IsBytes bytes → Gives (λ x. x) r (whole_at bytes) → IfOk r (λ s. IsWhole bytes s)
whole_answer bytes (Ok s) fits given = whole_found bytes s fits given
whole_answer bytes (Err e) fits given = tt

pub no_fault : (bytes : List ℕ) → IsBytes bytes → bad bytes ≡ None → (s : Script) × IsWhole bytes s
no_fault bytes fits e =
    let v = fault_or_value (whole_at bytes) e in
    (v.0, whole_found bytes v.0 fits v.1)

pub no_script : (bytes : List ℕ) (s : Script) → IsBytes bytes → IsWhole bytes s → bad bytes ≡ None
no_script bytes s fits is = ap (λ (x : Result Script Fault). fault_of x) (whole_read bytes s fits is)

pub front_has_no_fault : (bytes : List ℕ) → IsBytes bytes → bad_script bytes ≡ None → (s : Script) × (end : ℕ) × IsScript bytes s end
front_has_no_fault bytes fits e =
    let v = fault_or_value (script_at MOST_SCRIPT bytes) e in
    (v.0.0, v.0.1, script_found bytes v.0.0 v.0.1 fits v.1)

pub front_has_no_script : (bytes : List ℕ) (s : Script) (end : ℕ) → IsBytes bytes → IsScript bytes s end → bad_script bytes ≡ None
front_has_no_script bytes s end fits is = ap (λ (x : Read Script). fault_of x) (script_read bytes s end fits is)

-- ---- what can be written is short

pub few_turns : (s : Script) → HasSpelling s → length s.turns ≤ MOST_SCRIPT
few_turns s has = let lengths = part_lengths s in omega (arith, lengths.turns, most_under (length s.opening.peers), has.short)

pub few_commands : (s : Script) → HasSpelling s → AllByRecursion (λ cs. length cs ≤ MOST_SCRIPT) s.commands
few_commands s has =
    let lengths = part_lengths s in
    let under = most_under (length s.opening.peers) in
    each (λ cs. length cs ≤ length (parts s)) (λ cs. length cs ≤ MOST_SCRIPT) (λ cs k. omega (arith, k, under, has.short)) s.commands (short_lists (length (parts s)) s.cookies s.commands has.commands has.cookies lengths.lists)
