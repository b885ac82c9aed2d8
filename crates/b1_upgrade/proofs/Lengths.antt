-- How much longer a script is with cookies, and that it can be written.
use Rattle.std.proofs.Common.{◌≡◌, ℕ, zero, suc, ◌+◌, ◌*◌, ◌^◌, ◌<◌, ◌≤◌, Bool, true, false, cond, leb, List, [], ◌∷◌, ◌++◌, length, map, Option, None, Some, refl, sym, ap, subst, ◌∙◌, arith}
use Rattle.std.specs.Prelude.{zip, sum_by}
use Rattle.std.specs.List.{flat_map, range_with_len, AllByRecursion}
use Rattle.std.proofs.lemmas.Bool.{le-leb}
use Rattle.std.proofs.lemmas.List.{length-append}
use Rattle.std.proofs.lemmas.List.Concat.{flat_map-cons}
use Rattle.std.proofs.lemmas.List.FromFn.{length-range_with_len}
use Rattle.std.proofs.lemmas.List.Sums.{sum_by-cons}
use Rattle.b1_model.specs.declared.commands.Command.{Command}
use Rattle.b1_model.specs.declared.commands.Command.TheVariants.{Disconnect, Query, Reset, Limit, Release, Destroy, SliceRelease, Send, Recv, Await}
use Rattle.b1_model.specs.declared.limits.TheConstants.{FEW_PEERS, MOST_PEERS, MOST_SCRIPT}
use Rattle.b1_model.specs.declared.naming.PeerSpec.{PeerSpec}
use Rattle.b1_model.specs.declared.naming.Wire.{Wire}
use Rattle.b1_model.specs.Versions.{version_of}
use Rattle.b1_wire.specs.Numbers.{u32_bytes}
use Rattle.b1_records.specs.Spelling.{Is64, IsWithin, IsWithin2}
use Rattle.b1_records.specs.Spelling as records
use Rattle.b1_script.specs.declared.script.Script.{Script}
use Rattle.b1_script.specs.Spelling.{header_len, header_spelling, peer_spelling, wire_spelling, commands_spelling, entry_spelling, entries_spelling, entries_of, paired, lists_spelling, pad_spelling, parts, spelling, most_len, most_peers, IsWithinOf, HasFields, HasSpelling}
use Rattle.b1_script.proofs.Laws.{most_under}
use Rattle.b1_upgrade.specs.Upgraded.{places, cookies_or_places, upgraded}

-- one more place
last : (a n : ℕ) → range_with_len a (suc n) ≡ range_with_len a n ++ (a + n) ∷ []
last a zero = let e : a + 0 ≡ a = omega arith in rw e refl
last a (suc n) = let e : a + suc n ≡ (a + 1) + n = omega arith in rw e (ap (λ (x : List ℕ). a ∷ x) (last (a + 1) n))

pub one_more : (n : ℕ) → range_with_len 0 (n + 1) ≡ range_with_len 0 n ++ n ∷ []
one_more n =
    let e : n + 1 ≡ suc n = omega arith in
    let z : 0 + n ≡ n = omega arith in
    rw e (last 0 n ∙ ap (λ (k : ℕ). range_with_len 0 n ++ k ∷ []) z)

-- ---- one record

-- a cookie is eight bytes more
longer : (k : ℕ) (c : Command) → IsWithin c → length (entry_spelling (k, c)) ≡ length (records.spelling c) + 8
longer k Disconnect within = refl
longer k Query within = refl
longer k (Reset limits) within = refl
longer k (Limit limits) within = absurd within
longer k (Release n) within = refl
longer k (Destroy ns) within = omega arith
longer k (SliceRelease n) within = refl
longer k (Send send) within = omega arith
longer k Recv within = refl
longer k Await within = refl

-- a record has eight bytes at least
eight : (c : Command) → IsWithin c → 8 ≤ length (records.spelling c)
eight Disconnect within = omega arith
eight Query within = omega arith
eight (Reset limits) within = omega arith
eight (Limit limits) within = absurd within
eight (Release n) within = omega arith
eight (Destroy ns) within = omega arith
eight (SliceRelease n) within = omega arith
eight (Send send) within = omega arith
eight Recv within = omega arith
eight Await within = omega arith

within_two : (c : Command) → IsWithin c → IsWithin2 c
within_two Disconnect within = tt
within_two Query within = tt
within_two (Reset limits) within = tt
within_two (Limit limits) within = absurd within
within_two (Release n) within = tt
within_two (Destroy ns) within = within
within_two (SliceRelease n) within = tt
within_two (Send send) within = within
within_two Recv within = tt
within_two Await within = tt

-- ---- lists

longer_list : (ks : List ℕ) (cs : List Command) → length ks ≡ length cs → AllByRecursion IsWithin cs → length (flat_map entry_spelling (zip ks cs)) ≡ length (flat_map records.spelling cs) + 8 * length cs
longer_list [] [] e within = refl
longer_list [] (c ∷ cs) e within = absurd (omega (arith, e))
longer_list (k ∷ ks) [] e within = absurd (omega (arith, e))
longer_list (k ∷ ks) (c ∷ cs) e within =
    let a = ap (λ (x : List ℕ). length x) (flat_map-cons entry_spelling (k, c) (zip ks cs)) ∙ length-append (entry_spelling (k, c)) (flat_map entry_spelling (zip ks cs)) in
    let b = ap (λ (x : List ℕ). length x) (flat_map-cons records.spelling c cs) ∙ length-append (records.spelling c) (flat_map records.spelling cs) in
    let one = longer k c within.0 in
    let ih = longer_list ks cs (omega (arith, e)) within.1 in
    omega (arith, a, b, one, ih)

least_list : (cs : List Command) → AllByRecursion IsWithin cs → 8 * length cs ≤ length (flat_map records.spelling cs)
least_list [] within = omega arith
least_list (c ∷ cs) within =
    let b = ap (λ (x : List ℕ). length x) (flat_map-cons records.spelling c cs) ∙ length-append (records.spelling c) (flat_map records.spelling cs) in
    let ih = least_list cs within.1 in
    omega (arith, b, eight c within.0, ih)

abbrev pub count : List (List Command) → ℕ
count lists = sum_by length lists

longer_lists : (lists : List (List Command)) → AllByRecursion (AllByRecursion IsWithin) lists → length (flat_map entries_spelling (entries_of (map places lists) lists)) ≡ length (flat_map commands_spelling lists) + 8 * count lists
longer_lists [] within = refl
longer_lists (cs ∷ lists) within =
    let own : List ℕ = places cs in
    let many : length own ≡ length cs = length-range_with_len 0 (length cs) in
    let pairs : List (ℕ × Command) = paired (own, cs) in
    let a = ap (λ (x : List ℕ). length x) (flat_map-cons entries_spelling pairs (entries_of (map places lists) lists)) ∙ length-append (entries_spelling pairs) (flat_map entries_spelling (entries_of (map places lists) lists)) in
    let b = ap (λ (x : List ℕ). length x) (flat_map-cons commands_spelling cs lists) ∙ length-append (commands_spelling cs) (flat_map commands_spelling lists) in
    let one = longer_list own cs many within.0 in
    let ih = longer_lists lists within.1 in
    let sum = sum_by-cons (λ (x : List Command). length x) cs lists in
    omega (arith, a, b, one, ih, sum)

least_lists : (lists : List (List Command)) → AllByRecursion (AllByRecursion IsWithin) lists → 8 * count lists ≤ length (flat_map commands_spelling lists)
least_lists [] within = omega arith
least_lists (cs ∷ lists) within =
    let b = ap (λ (x : List ℕ). length x) (flat_map-cons commands_spelling cs lists) ∙ length-append (commands_spelling cs) (flat_map commands_spelling lists) in
    let one = least_list cs within.0 in
    let ih = least_lists lists within.1 in
    let sum = sum_by-cons (λ (x : List Command). length x) cs lists in
    omega (arith, b, one, ih, sum)

-- ---- scripts

-- the length of the parts of a script
parts_len : (s : Script) → length (parts s) ≡ length (flat_map peer_spelling s.opening.peers) + length (flat_map wire_spelling s.opening.wires) + length (lists_spelling s.cookies s.commands) + length (flat_map u32_bytes s.turns) + length (pad_spelling (length s.turns))
parts_len s =
    let peers : List ℕ = flat_map peer_spelling s.opening.peers in
    let wires : List ℕ = flat_map wire_spelling s.opening.wires in
    let lists : List ℕ = lists_spelling s.cookies s.commands in
    let turns : List ℕ = flat_map u32_bytes s.turns in
    let pad : List ℕ = pad_spelling (length s.turns) in
    let a = length-append peers wires in
    let b = length-append (peers ++ wires) lists in
    let c = length-append (peers ++ wires ++ lists) turns in
    let d = length-append (peers ++ wires ++ lists ++ turns) pad in
    omega (arith, a, b, c, d)

pub spelled_len : (s : Script) → length (spelling s) ≡ header_len + length (parts s)
spelled_len s = length-append (header_spelling s) (parts s)

-- a script that can be written has no more bytes than a script may have
pub few_bytes : (s : Script) → HasSpelling s → length (spelling s) ≤ MOST_SCRIPT
few_bytes s has = omega (arith, spelled_len s, most_under (length s.opening.peers), has.short)

module _ (s : Script) (plain : s.cookies ≡ None) (has : HasSpelling s) where
  within_one : AllByRecursion (AllByRecursion IsWithin) s.commands
  within_one = subst (λ (cookies : Option (List (List ℕ))). AllByRecursion (AllByRecursion (IsWithinOf (version_of cookies))) s.commands) plain has.commands

  plain_lists : length (lists_spelling s.cookies s.commands) ≡ length (flat_map commands_spelling s.commands)
  plain_lists = ap (λ (cookies : Option (List (List ℕ))). length (lists_spelling cookies s.commands)) plain

  pub placed : upgraded s ≡ record s { cookies = Some (map places s.commands) }
  placed = ap (λ (cookies : Option (List (List ℕ))). record s { cookies = Some (cookies_or_places cookies s.commands) }) plain

  few : length s.opening.peers ≤ FEW_PEERS
  few = subst (λ (cookies : Option (List (List ℕ))). length s.opening.peers ≤ most_peers (version_of cookies)) plain has.few

  all_bytes : most_len (length s.opening.peers) ≡ MOST_SCRIPT
  all_bytes = rw (le-leb (length s.opening.peers) FEW_PEERS few) refl

  -- each command makes it eight bytes longer
  pub upgraded_len : length (spelling (upgraded s)) ≡ length (spelling s) + 8 * count s.commands
  upgraded_len =
      let t : Script = record s { cookies = Some (map places s.commands) } in
      let whole : length (spelling (upgraded s)) ≡ length (spelling t) = ap (λ (x : Script). length (spelling x)) placed in
      omega (arith, whole, spelled_len s, spelled_len t, parts_len s, parts_len t, plain_lists, longer_lists s.commands within_one)

  pub few_commands : count s.commands ≤ MOST_SCRIPT
  few_commands = omega (arith, least_lists s.commands within_one, plain_lists, parts_len s, has.short, all_bytes)

  -- where it isn't too long it can be written
  pub upgraded_spelled : length (spelling (upgraded s)) ≤ MOST_SCRIPT → HasSpelling (record s { cookies = Some (map places s.commands) })
  upgraded_spelled short =
      let t : Script = record s { cookies = Some (map places s.commands) } in
      let whole : length (spelling (upgraded s)) ≡ length (spelling t) = ap (λ (x : Script). length (spelling x)) placed in
      record {
        opening = has.opening;
        few = has.opening.most;
        lists = has.lists;
        commands = each_list s.commands within_one;
        turns = has.turns;
        cookies = lengths s.commands;
        short = rw all_bytes (omega (arith, short, whole, spelled_len t));
      }
    where
      each_command : (cs : List Command) → AllByRecursion IsWithin cs → AllByRecursion IsWithin2 cs
      each_command [] h = tt
      each_command (c ∷ cs) h = (within_two c h.0, each_command cs h.1)

      each_list : (lists : List (List Command)) → AllByRecursion (AllByRecursion IsWithin) lists → AllByRecursion (AllByRecursion IsWithin2) lists
      each_list [] h = tt
      each_list (cs ∷ lists) h = (each_command cs h.0, each_list lists h.1)

      lengths : (lists : List (List Command)) → map length (map places lists) ≡ map length lists
      lengths [] = refl
      lengths (cs ∷ lists) = rw (length-range_with_len 0 (length cs), lengths lists) refl

-- places are numbers of their fields
each_below : (a n : ℕ) → a + n < 2 ^ 64 → AllByRecursion Is64 (range_with_len a n)
each_below a zero lt = tt
each_below a (suc n) lt = (omega (arith, lt), each_below (a + 1) n (omega (arith, lt)))

-- a list of lists has as many items as all of them
each_few : (lists : List (List Command)) → count lists ≤ MOST_SCRIPT → AllByRecursion (AllByRecursion Is64) (map places lists)
each_few [] few = tt
each_few (cs ∷ lists) few =
    let sum = sum_by-cons (λ (x : List Command). length x) cs lists in
    (each_below 0 (length cs) (omega (arith, sum, few)), each_few lists (omega (arith, sum, few)))

pub placed_fields : (s : Script) → s.cookies ≡ None → HasSpelling s → HasFields s → HasFields (record s { cookies = Some (map places s.commands) })
placed_fields s plain has fields = record { peers = fields.peers; wires = fields.wires; commands = fields.commands; cookies = each_few s.commands (few_commands s plain has) }

-- a script with cookies is its own
pub own_cookies : (s : Script) (cookies : List (List ℕ)) → s.cookies ≡ Some cookies → s ≡ upgraded s
own_cookies s cookies is = ap (λ (c : Option (List (List ℕ))). record s { cookies = c }) is ∙ ap (λ (c : Option (List (List ℕ))). record s { cookies = Some (cookies_or_places c s.commands) }) (sym is)
