-- What a draft says of the statements that made it, and that it can be completed.
use Rattle.std.proofs.Common.{◌≡◌, ℕ, zero, suc, ◌+◌, ◌-◌, ◌*◌, ◌%◌, ◌<◌, ◌≤◌, Bool, true, ◌&&◌, cond, eqb, ltb, List, [], ◌∷◌, ◌++◌, length, map, Option, Some, None, refl, sym, ap, subst, ◌∙◌, append_assoc, arith, eq-eqb}
use Rattle.std.specs.List.{flat_map, enumerate_from, list_all, AllByRecursion}
use Rattle.std.proofs.lemmas.Bool.{lt-ltb, ltb-true, eqb-true}
use Rattle.std.proofs.lemmas.Grind.{flat_map-append}
use Rattle.std.proofs.lemmas.List.{append-nil, length-append, map-append}
use Rattle.std.proofs.lemmas.List.Sums.{sum_by-append}
use Rattle.b1_model.specs.declared.limits.TheConstants.{CLOCK_LIMIT, MOST_POOLS}
use Rattle.b1_model.specs.declared.naming.Opening.{Opening}
use Rattle.b1_model.specs.declared.naming.PeerSpec.{PeerSpec}
use Rattle.b1_model.specs.declared.naming.Wire.{Wire}
use Rattle.b1_model.specs.declared.version.Version.{Version}
use Rattle.b1_model.specs.declared.version.Version.TheVariants.{One, Two}
use Rattle.b1_model.specs.Opening.{after_wire, CanWire, AreWired, HasPool, pool_bytes}
use Rattle.b1_model.specs.Versions.{version_of}
use Rattle.b1_script.specs.declared.script.Script.{Script}
use Rattle.b1_script.specs.Spelling.{IsSpec, IsWire, IsWithinOf, most_len, most_peers}
use Rattle.b1_script.specs.Reading.{is_first_clock}
use Rattle.b1_script.proofs.Laws.{most_under}
use Rattle.b1_text.specs.declared.draft.Draft.{Draft}
use Rattle.b1_text.specs.declared.draft.Draft.TheVariants.{Empty, Named, Opened, Listing, Whole}
use Rattle.b1_text.specs.declared.statement.Entry.{Entry}
use Rattle.b1_text.specs.declared.statement.Statement.{Statement}
use Rattle.b1_text.specs.declared.statement.Statement.TheVariants as says
use Rattle.b1_text.specs.Texts.{entries_said, list_statements, lists_statements, statements}
use Rattle.b1_text.specs.Accepted.{IsWritable}
use Rattle.b1_text.specs.Drafts.{HasWireFields, IsCarried, Fits, record_len, turns_len, peer_len, is_of, has_room, can_pool, can_peer, can_wire, can_turn, cookies_said, script_said, step, next, run}
use Rattle.b1_text.proofs.Entries.{AreOf, AllOf, version_said, commands_count, has_cookies, said_again, all_within, all_numbers, are_cookies}
use Rattle.b1_text.proofs.Lengths.{lists_sum, length_parts, records_sum-append, lists_sum-append}
use Rattle.b1_text.proofs.Judging.{both, both_of, passed, room_test, clock_is, pool_left_is, room_is, wire_is, peers_are}
use Rattle.b1_text.proofs.Texts.{enumerate_more}
use Rattle.b1_text.proofs.Runs.{opening_of, peers_len, peers_more, peers_under, wide_under, all_wires}

-- ---- lists with one more item

all_more : {A : Type 0} (P : A → Type 0) (xs : List A) (x : A) → AllByRecursion P xs → P x → AllByRecursion P (xs ++ x ∷ [])
all_more P [] x h p = (p, tt)
all_more P (y ∷ ys) x h p = (h.0, all_more P ys x h.1 p)

all_front : {A : Type 0} (P : A → Type 0) (xs : List A) (x : A) → AllByRecursion P (xs ++ x ∷ []) → AllByRecursion P xs × P x
all_front P [] x h = (tt, h.0)
all_front P (y ∷ ys) x h = let r = all_front P ys x h.1 in ((h.0, r.0), r.1)

wired_none : (n : ℕ) (ws : List Wire) → length ws ≡ 0 → AreWired n [] ws
wired_none n [] h = tt
wired_none n (w ∷ ws) h = absurd (omega (arith, h))

wired_more : (n : ℕ) (ws held : List Wire) (w : Wire) → AreWired n held ws → CanWire n (all_wires held ws) w → AreWired n held (ws ++ w ∷ [])
wired_more n [] held w h can = (can, tt)
wired_more n (v ∷ vs) held w h can = (h.0, wired_more n vs (after_wire held v) w h.1 can)

all_wires_more : (ws held : List Wire) (w : Wire) → all_wires held (ws ++ w ∷ []) ≡ after_wire (all_wires held ws) w
all_wires_more [] held w = refl
all_wires_more (v ∷ vs) held w = all_wires_more vs (after_wire held v) w

peer_behind : (ps : List PeerSpec) (ws : List Wire) (p : PeerSpec) → length ws ≡ 0 → (map says.Peer ps ++ map says.Wire ws) ++ says.Peer p ∷ [] ≡ map says.Peer (ps ++ p ∷ []) ++ map says.Wire ws
peer_behind ps [] p h =
    ap (λ (x : List Statement). x ++ says.Peer p ∷ []) (append-nil (map says.Peer ps)) ∙ sym (map-append says.Peer ps (p ∷ [])) ∙ sym (append-nil (map says.Peer (ps ++ p ∷ [])))
peer_behind ps (w ∷ ws) p h = absurd (omega (arith, h))

wire_behind : (ps : List PeerSpec) (ws : List Wire) (w : Wire) → (map says.Peer ps ++ map says.Wire ws) ++ says.Wire w ∷ [] ≡ map says.Peer ps ++ map says.Wire (ws ++ w ∷ [])
wire_behind ps ws w = append_assoc (map says.Peer ps) (map says.Wire ws) (says.Wire w ∷ []) ∙ ap (λ (x : List Statement). map says.Peer ps ++ x) (sym (map-append says.Wire ws (w ∷ [])))

-- the statements of one more list
lists_more : (ls : List (List Entry)) (es : List Entry) → lists_statements (ls ++ es ∷ []) ≡ lists_statements ls ++ (says.Commands (length ls) ∷ map says.Command es)
lists_more ls es =
    let place : 0 + length ls ≡ length ls = omega arith in
    ap (flat_map list_statements) (enumerate_more 0 ls es) ∙ flat_map-append list_statements (enumerate_from 0 ls) ((0 + length ls, es) ∷ [])
    ∙ ap (λ (x : List Statement). lists_statements ls ++ x) (append-nil (says.Commands (0 + length ls) ∷ map says.Command es))
    ∙ ap (λ (n : ℕ). lists_statements ls ++ (says.Commands n ∷ map says.Command es)) place

list_behind : (front : List Statement) (ls : List (List Entry)) (p : ℕ) → p ≡ length ls → (front ++ lists_statements ls) ++ says.Commands p ∷ [] ≡ front ++ lists_statements (ls ++ [] ∷ [])
list_behind front ls p at =
    append_assoc front (lists_statements ls) (says.Commands p ∷ [])
    ∙ ap (λ (n : ℕ). front ++ (lists_statements ls ++ says.Commands n ∷ [])) at
    ∙ ap (λ (x : List Statement). front ++ x) (sym (lists_more ls []))

command_behind : (front : List Statement) (ls : List (List Entry)) (es : List Entry) (e : Entry)
    → (front ++ lists_statements (ls ++ es ∷ [])) ++ says.Command e ∷ [] ≡ front ++ lists_statements (ls ++ (es ++ e ∷ []) ∷ [])
command_behind front ls es e =
    append_assoc front (lists_statements (ls ++ es ∷ [])) (says.Command e ∷ [])
    ∙ ap (λ (x : List Statement). front ++ (x ++ says.Command e ∷ [])) (lists_more ls es)
    ∙ ap (λ (x : List Statement). front ++ x) (append_assoc (lists_statements ls) (says.Commands (length ls) ∷ map says.Command es) (says.Command e ∷ []))
    ∙ ap (λ (x : List Statement). front ++ (lists_statements ls ++ (says.Commands (length ls) ∷ x))) (sym (map-append says.Command es (e ∷ [])))
    ∙ ap (λ (x : List Statement). front ++ x) (sym (lists_more ls (es ++ e ∷ [])))

-- ---- what a draft says

-- the bytes of the least script with an opening's peers and wires
abbrev start_len : Opening → ℕ
start_len o = peers_len (length o.peers) + 16 * length o.wires

-- an opening that can be begun with, but for a first peer
pub record IsBegun (version : Version) (o : Opening) : Type 0 where
  pub most : length o.peers ≤ most_peers version
  pub even : o.first_clock % 2 ≡ 0
  pub clock : o.first_clock ≤ CLOCK_LIMIT
  pub pools : AllByRecursion HasPool o.peers
  pub together : pool_bytes o.peers ≤ MOST_POOLS
  pub specs : AllByRecursion IsSpec o.peers
  pub wired : AreWired (length o.peers) [] o.wires
  pub fields : AllByRecursion IsWire o.wires
  pub short : start_len o ≤ most_len (length o.peers)

abbrev start_statements : Version → Opening → List Statement
start_statements version o = says.Name version ∷ says.Clock o.first_clock ∷ (map says.Peer o.peers ++ map says.Wire o.wires)

pub record IsOpened (version : Version) (o : Opening) (held : List Wire) (len : ℕ) (read : List Statement) : Type 0 where
  pub begun : IsBegun version o
  pub gives : held ≡ all_wires [] o.wires
  pub counts : len ≡ start_len o
  pub lines : read ≡ start_statements version o

pub record IsListing (version : Version) (o : Opening) (lists : List (List Entry)) (list : List Entry) (len : ℕ) (read : List Statement) : Type 0 where
  pub begun : IsBegun version o
  pub few : length lists + 1 ≤ length o.peers
  pub carried : AllByRecursion (AllByRecursion IsCarried) (lists ++ list ∷ [])
  pub of : AllOf version (lists ++ list ∷ [])
  pub counts : len ≡ start_len o + lists_sum (lists ++ list ∷ [])
  pub short : len ≤ most_len (length o.peers)
  pub lines : read ≡ start_statements version o ++ lists_statements (lists ++ list ∷ [])

pub record IsFinished (s : Script) (read : List Statement) : Type 0 where
  pub writable : IsWritable s
  pub lines : read ≡ statements s

abbrev pub IsMade : Draft → List Statement → Type 0
IsMade Empty read = read ≡ []
IsMade (Named version) read = read ≡ says.Name version ∷ []
IsMade (Opened version o held len) read = IsOpened version o held len read
IsMade (Listing version o lists list len) read = IsListing version o lists list len read
IsMade (Whole s) read = IsFinished s read

-- ---- each step

clock_made : (version : Version) (clock : ℕ) (read : List Statement) → read ≡ says.Name version ∷ [] → is_first_clock clock ≡ true → IsOpened version (opening_of clock [] []) [] 72 (read ++ says.Clock clock ∷ [])
clock_made version clock read lines is =
    let c = clock_is clock is in
    record {
      begun = record { most = omega arith; even = c.0; clock = c.1; pools = tt; together = omega arith; specs = tt; wired = tt; fields = tt; short = omega arith };
      gives = refl;
      counts = refl;
      lines = ap (λ (x : List Statement). x ++ says.Clock clock ∷ []) lines;
    }

peer_made : (version : Version) (o : Opening) (held : List Wire) (len : ℕ) (read : List Statement) (p : PeerSpec) → IsOpened version o held len read → IsSpec p → can_peer version o p ≡ true → has_room (length o.peers + 1) len (peer_len o) ≡ true
    → IsOpened version (record o { peers = o.peers ++ p ∷ [] }) held (len + peer_len o) (read ++ says.Peer p ∷ [])
peer_made version o held len read p made spec can room =
    let b = made.begun in
    let split = both_of ((eqb (length o.wires) 0) && ltb (length o.peers) (most_peers version)) (can_pool o.peers p.pool) can in
    let tests = both_of (eqb (length o.wires) 0) (ltb (length o.peers) (most_peers version)) split.0 in
    let none : length o.wires ≡ 0 = eqb-true (length o.wires) 0 tests.0 in
    let few : length o.peers < most_peers version = ltb-true (length o.peers) (most_peers version) tests.1 in
    let pool = pool_left_is o.peers p.pool split.1 in
    let n : length (o.peers ++ p ∷ []) ≡ length o.peers + 1 = length-append o.peers (p ∷ []) in
    let sum = peers_more (length o.peers) (eqb (length o.peers) 0) refl in
    let fits : len + peer_len o ≤ most_len (length o.peers + 1) = room_is (length o.peers + 1) len (peer_len o) room in
    let more : most_len (length (o.peers ++ p ∷ [])) ≡ most_len (length o.peers + 1) = ap most_len n in
    let pools = sum_by-append (λ (spec : PeerSpec). spec.pool) o.peers (p ∷ []) in
    record {
      begun = record {
        most = omega (arith, n, few);
        even = b.even;
        clock = b.clock;
        pools = all_more HasPool o.peers p b.pools pool.0;
        together = omega (arith, pools, pool.1, b.together);
        specs = all_more IsSpec o.peers p b.specs spec;
        wired = wired_none (length (o.peers ++ p ∷ [])) o.wires none;
        fields = b.fields;
        short = omega (arith, n, sum, made.counts, fits, more);
      };
      gives = made.gives;
      counts = omega (arith, n, sum, made.counts);
      lines = ap (λ (x : List Statement). x ++ says.Peer p ∷ []) made.lines ∙ ap (λ (x : List Statement). says.Name version ∷ says.Clock o.first_clock ∷ x) (peer_behind o.peers o.wires p none);
    }

wire_made : (version : Version) (o : Opening) (held : List Wire) (len : ℕ) (read : List Statement) (w : Wire) → IsOpened version o held len read → HasWireFields w → can_wire (length o.peers) held w ≡ true → has_room (length o.peers) len 16 ≡ true
    → IsOpened version (record o { wires = o.wires ++ w ∷ [] }) (after_wire held w) (len + 16) (read ++ says.Wire w ∷ [])
wire_made version o held len read w made fields can room =
    let b = made.begun in
    let n : length (o.wires ++ w ∷ []) ≡ length o.wires + 1 = length-append o.wires (w ∷ []) in
    let fits = room_is (length o.peers) len 16 room in
    let is = wire_is (length o.peers) held w can in
    record {
      begun = record {
        most = b.most;
        even = b.even;
        clock = b.clock;
        pools = b.pools;
        together = b.together;
        specs = b.specs;
        wired = wired_more (length o.peers) o.wires [] w b.wired (subst (λ (h : List Wire). CanWire (length o.peers) h w) made.gives is);
        fields = all_more IsWire o.wires w b.fields fields.number;
        short = omega (arith, n, made.counts, fits);
      };
      gives = ap (λ (h : List Wire). after_wire h w) made.gives ∙ sym (all_wires_more o.wires [] w);
      counts = omega (arith, n, made.counts);
      lines = ap (λ (x : List Statement). x ++ says.Wire w ∷ []) made.lines ∙ ap (λ (x : List Statement). says.Name version ∷ says.Clock o.first_clock ∷ x) (wire_behind o.peers o.wires w);
    }

first_list_made : (version : Version) (o : Opening) (held : List Wire) (len : ℕ) (read : List Statement) (p : ℕ) → IsOpened version o held len read → ((eqb p 0) && ltb 0 (length o.peers)) ≡ true
    → IsListing version o [] [] len (read ++ says.Commands p ∷ [])
first_list_made version o held len read p made test =
    let b = both_of (eqb p 0) (ltb 0 (length o.peers)) test in
    let at : p ≡ 0 = eqb-true p 0 b.0 in
    let some : 0 < length o.peers = ltb-true 0 (length o.peers) b.1 in
    record {
      begun = made.begun;
      few = omega (arith, some);
      carried = (tt, tt);
      of = (tt, tt);
      counts = omega (arith, made.counts);
      short = omega (arith, made.counts, made.begun.short);
      lines = ap (λ (x : List Statement). x ++ says.Commands p ∷ []) made.lines ∙ ap (λ (n : ℕ). start_statements version o ++ says.Commands n ∷ []) at;
    }

list_made : (version : Version) (o : Opening) (lists : List (List Entry)) (list : List Entry) (len : ℕ) (read : List Statement) (p : ℕ) → IsListing version o lists list len read
    → ((eqb p (length lists + 1)) && ltb p (length o.peers)) ≡ true → IsListing version o (lists ++ list ∷ []) [] len (read ++ says.Commands p ∷ [])
list_made version o lists list len read p made test =
    let b = both_of (eqb p (length lists + 1)) (ltb p (length o.peers)) test in
    let at : p ≡ length lists + 1 = eqb-true p (length lists + 1) b.0 in
    let few : p < length o.peers = ltb-true p (length o.peers) b.1 in
    let n : length (lists ++ list ∷ []) ≡ length lists + 1 = length-append lists (list ∷ []) in
    let sum = lists_sum-append (lists ++ list ∷ []) ([] ∷ []) in
    record {
      begun = made.begun;
      few = omega (arith, n, at, few);
      carried = all_more (AllByRecursion IsCarried) (lists ++ list ∷ []) [] made.carried tt;
      of = all_more (AreOf version) (lists ++ list ∷ []) [] made.of tt;
      counts = omega (arith, made.counts, sum);
      short = made.short;
      lines = ap (λ (x : List Statement). x ++ says.Commands p ∷ []) made.lines ∙ list_behind (start_statements version o) (lists ++ list ∷ []) p (omega (arith, at, n));
    }

command_made : (version : Version) (o : Opening) (lists : List (List Entry)) (list : List Entry) (len : ℕ) (read : List Statement) (e : Entry) → IsListing version o lists list len read → IsCarried e → is_of version e.cookie ≡ true
    → has_room (length o.peers) len (record_len e) ≡ true → IsListing version o lists (list ++ e ∷ []) (len + record_len e) (read ++ says.Command e ∷ [])
command_made version o lists list len read e made is_carried is_its room =
    let fits = room_is (length o.peers) len (record_len e) room in
    let a = lists_sum-append lists (list ∷ []) in
    let b = lists_sum-append lists ((list ++ e ∷ []) ∷ []) in
    let r = records_sum-append list (e ∷ []) in
    let all = all_front (AllByRecursion IsCarried) lists list made.carried in
    let its = all_front (AreOf version) lists list made.of in
    record {
      begun = made.begun;
      few = made.few;
      carried = all_more (AllByRecursion IsCarried) lists (list ++ e ∷ []) all.0 (all_more IsCarried list e all.1 is_carried);
      of = all_more (AreOf version) lists (list ++ e ∷ []) its.0 (all_more (λ (x : Entry). is_of version x.cookie ≡ true) list e its.1 is_its);
      counts = omega (arith, made.counts, a, b, r);
      short = fits;
      lines = ap (λ (x : List Statement). x ++ says.Command e ∷ []) made.lines ∙ command_behind (start_statements version o) lists list e;
    }

-- what the lines of one version say are the statements of the script that they make
said_statements : (version : Version) (o : Opening) (lists : List (List Entry)) (turns : List ℕ) → AllOf version lists
    → start_statements version o ++ lists_statements lists ++ says.Turns turns ∷ [] ≡ statements (script_said version o lists turns)
said_statements version o lists turns of =
    ap (λ (v : Version). start_statements v o ++ lists_statements lists ++ says.Turns turns ∷ []) (sym (version_said version lists))
    ∙ ap (λ (x : List (List Entry)). start_statements (version_of (cookies_said version lists)) o ++ lists_statements x ++ says.Turns turns ∷ []) (sym (said_again version lists of))

turns_made : (version : Version) (o : Opening) (lists : List (List Entry)) (list : List Entry) (len : ℕ) (read : List Statement) (turns : List ℕ) → IsListing version o lists list len read
    → can_turn o (length lists + 1) turns ≡ true → has_room (length o.peers) len (turns_len (length turns)) ≡ true → IsFinished (script_said version o (lists ++ list ∷ []) turns) (read ++ says.Turns turns ∷ [])
turns_made version o lists list len read turns made can room =
    let said : List (List Entry) = lists ++ list ∷ [] in
    let s : Script = script_said version o said turns in
    let b = both_of (eqb (length lists + 1) (length o.peers)) (list_all (λ p. ltb p (length o.peers)) turns) can in
    let all : length lists + 1 ≡ length o.peers = eqb-true (length lists + 1) (length o.peers) b.0 in
    let n : length said ≡ length lists + 1 = length-append lists (list ∷ []) in
    let count : length s.commands ≡ length said = commands_count said in
    let fits = room_is (length o.peers) len (turns_len (length turns)) room in
    let cookies = has_cookies version said made.of in
    let sizes = length_parts s cookies in
    let sums : lists_sum (entries_said s.cookies s.commands) ≡ lists_sum said = ap lists_sum (said_again version said made.of) in
    let is : version_of s.cookies ≡ version = version_said version said in
    let begun = made.begun in
    record {
      writable = record {
        has_spelling = record {
          opening = record {
            least = omega (arith, all);
            most = omega (arith, begun.most, peers_under version);
            even = begun.even;
            clock = begun.clock;
            pools = begun.pools;
            together = begun.together;
            few = omega (arith, begun.short, most_under (length o.peers));
            wires = begun.wired;
          };
          few = subst (λ (v : Version). length o.peers ≤ most_peers v) (sym is) begun.most;
          lists = count ∙ n ∙ all;
          commands = subst (λ (v : Version). AllByRecursion (AllByRecursion (IsWithinOf v)) s.commands) (sym is) (all_within version said made.of made.carried);
          turns = peers_are (length o.peers) turns b.1;
          cookies = cookies;
          short = omega (arith, sizes, sums, made.counts, fits, count, n, all);
        };
        fields = record {
          peers = begun.specs;
          wires = begun.fields;
          commands = all_numbers said made.carried;
          cookies = are_cookies version said made.carried;
        };
      };
      lines = ap (λ (x : List Statement). x ++ says.Turns turns ∷ []) made.lines ∙ said_statements version o said turns made.of;
    }

draft_is : (d e : Draft) (b : Bool) (read : List Statement) → cond b (Some d) None ≡ Some e → (b ≡ true → IsMade d read) → IsMade e read
draft_is d e b read h f = let p = passed b d e h in subst (λ (x : Draft). IsMade x read) p.1 (f p.0)

pub made_step : (d : Draft) (s : Statement) (e : Draft) (read : List Statement) → IsMade d read → Fits s → step d s ≡ Some e → IsMade e (read ++ s ∷ [])
made_step Empty (says.Name version) e read made fits h =
    let same : Named version ≡ e = cc in
    subst (λ (x : Draft). IsMade x (read ++ says.Name version ∷ [])) same (ap (λ (x : List Statement). x ++ says.Name version ∷ []) made)
made_step (Named version) (says.Clock clock) e read made fits h =
    draft_is (Opened version (opening_of clock [] []) [] 72) e (is_first_clock clock) (read ++ says.Clock clock ∷ []) h (clock_made version clock read made)
made_step (Opened version o held len) (says.Peer p) e read made fits h =
    draft_is (Opened version (record o { peers = o.peers ++ p ∷ [] }) held (len + peer_len o)) e (can_peer version o p && has_room (length o.peers + 1) len (peer_len o)) (read ++ says.Peer p ∷ []) h
    (λ t. let b = both_of (can_peer version o p) (has_room (length o.peers + 1) len (peer_len o)) t in peer_made version o held len read p made fits b.0 b.1)
made_step (Opened version o held len) (says.Wire w) e read made fits h =
    draft_is (Opened version (record o { wires = o.wires ++ w ∷ [] }) (after_wire held w) (len + 16)) e (can_wire (length o.peers) held w && has_room (length o.peers) len 16) (read ++ says.Wire w ∷ []) h
    (λ t. let b = both_of (can_wire (length o.peers) held w) (has_room (length o.peers) len 16) t in wire_made version o held len read w made fits b.0 b.1)
made_step (Opened version o held len) (says.Commands p) e read made fits h =
    draft_is (Listing version o [] [] len) e ((eqb p 0) && ltb 0 (length o.peers)) (read ++ says.Commands p ∷ []) h (first_list_made version o held len read p made)
made_step (Listing version o lists list len) (says.Commands p) e read made fits h =
    draft_is (Listing version o (lists ++ list ∷ []) [] len) e ((eqb p (length lists + 1)) && ltb p (length o.peers)) (read ++ says.Commands p ∷ []) h (list_made version o lists list len read p made)
made_step (Listing version o lists list len) (says.Command c) e read made fits h =
    draft_is (Listing version o lists (list ++ c ∷ []) (len + record_len c)) e (is_of version c.cookie && has_room (length o.peers) len (record_len c)) (read ++ says.Command c ∷ []) h
    (λ t. let b = both_of (is_of version c.cookie) (has_room (length o.peers) len (record_len c)) t in command_made version o lists list len read c made fits b.0 b.1)
made_step (Listing version o lists list len) (says.Turns turns) e read made fits h =
    draft_is (Whole (script_said version o (lists ++ list ∷ []) turns)) e (can_turn o (length lists + 1) turns && has_room (length o.peers) len (turns_len (length turns))) (read ++ says.Turns turns ∷ []) h
    (λ t. let b = both_of (can_turn o (length lists + 1) turns) (has_room (length o.peers) len (turns_len (length turns))) t in turns_made version o lists list len read turns made b.0 b.1)
made_step d s e read made fits h = absurd cc

-- ---- all steps

made_next : (r : Option Draft) (s : Statement) (read : List Statement) → ((d : Draft) → r ≡ Some d → IsMade d read) → Fits s → (e : Draft) → next r s ≡ Some e → IsMade e (read ++ s ∷ [])
made_next None s read made fits e h = absurd cc
made_next (Some d) s read made fits e h = made_step d s e read (made d refl) fits h

pub made_all : (ss read : List Statement) (r : Option Draft) (e : Draft) → ((d : Draft) → r ≡ Some d → IsMade d read) → AllByRecursion Fits ss → run r ss ≡ Some e → IsMade e (read ++ ss)
made_all [] read r e made fits h = subst (λ (x : List Statement). IsMade e x) (sym (append-nil read)) (made e h)
made_all (s ∷ ss) read r e made fits h =
    subst (λ (x : List Statement). IsMade e x) (append_assoc read (s ∷ []) ss) (made_all ss (read ++ s ∷ []) (next r s) e (made_next r s read made fits.0) fits.1 h)

-- ---- completing

-- a script that begins with the statements
pub record Completion (read : List Statement) : Type 0 where
  pub more : List Statement
  pub script : Script
  pub finished : IsFinished script (read ++ more)

before : (read : List Statement) (s : Statement) → Completion (read ++ s ∷ []) → Completion read
before read s c = record { more = s ∷ c.more; script = c.script; finished = subst (λ (x : List Statement). IsFinished c.script x) (append_assoc read (s ∷ []) c.more) c.finished }

complete_lists : (k : ℕ) (version : Version) (o : Opening) (lists : List (List Entry)) (list : List Entry) (len : ℕ) (read : List Statement) → IsListing version o lists list len read → length lists + 1 + k ≡ length o.peers → Completion read
complete_lists zero version o lists list len read made left =
    let can : can_turn o (length lists + 1) [] ≡ true = both (eqb (length lists + 1) (length o.peers)) true (eq-eqb (length lists + 1) (length o.peers) (omega (arith, left))) refl in
    let done = turns_made version o lists list len read [] made can (room_test (length o.peers) len 0 (omega (arith, made.short))) in
    record { more = says.Turns [] ∷ []; script = script_said version o (lists ++ list ∷ []) []; finished = done }
complete_lists (suc k) version o lists list len read made left =
    let p : ℕ = length lists + 1 in
    let n : length (lists ++ list ∷ []) ≡ length lists + 1 = length-append lists (list ∷ []) in
    let test : ((eqb p (length lists + 1)) && ltb p (length o.peers)) ≡ true = both (eqb p (length lists + 1)) (ltb p (length o.peers)) (eq-eqb p (length lists + 1) refl) (lt-ltb p (length o.peers) (omega (arith, left))) in
    before read (says.Commands p) (complete_lists k version o (lists ++ list ∷ []) [] len (read ++ says.Commands p ∷ []) (list_made version o lists list len read p made test) (omega (arith, n, left)))

complete_some : (version : Version) (o : Opening) (held : List Wire) (len : ℕ) (read : List Statement) → IsOpened version o held len read → 1 ≤ length o.peers → Completion read
complete_some version o held len read made some =
    before read (says.Commands 0) (complete_lists (length o.peers - 1) version o [] [] len (read ++ says.Commands 0 ∷ []) (first_list_made version o held len read 0 made (lt-ltb 0 (length o.peers) some)) (omega (arith, some)))

-- the least peer
abbrev least_peer : PeerSpec
least_peer = record { user = 0; pool = 8; limits = record { entries = 0; bytes = 0; handles = 0 } }

least_spec : IsSpec least_peer
least_spec = record { user = omega arith; pool = omega arith; limits = record { entries = omega arith; bytes = omega arith; handles = omega arith } }

some_peers : (version : Version) → ltb 0 (most_peers version) ≡ true
some_peers One = refl
some_peers Two = refl

complete_none : (version : Version) (o : Opening) (held : List Wire) (len : ℕ) (read : List Statement) → IsOpened version o held len read → o.peers ≡ [] → o.wires ≡ [] → Completion read
complete_none version o held len read made none unwired =
    let can : can_peer version o least_peer ≡ true = rw (none, unwired) (both (ltb 0 (most_peers version)) true (some_peers version) refl) in
    let more : peer_len o ≡ 0 = rw none refl in
    let counts : len ≡ start_len o = made.counts in
    let n : length o.peers ≡ 0 = ap (λ (x : List PeerSpec). length x) none in
    let w : length o.wires ≡ 0 = ap (λ (x : List Wire). length x) unwired in
    let room : has_room (length o.peers + 1) len (peer_len o) ≡ true = room_test (length o.peers + 1) len (peer_len o) (omega (arith, more, counts, n, w, wide_under (length o.peers + 1))) in
    let m : length (o.peers ++ least_peer ∷ []) ≡ length o.peers + 1 = length-append o.peers (least_peer ∷ []) in
    before read (says.Peer least_peer) (complete_some version (record o { peers = o.peers ++ least_peer ∷ [] }) held (len + peer_len o) (read ++ says.Peer least_peer ∷ []) (peer_made version o held len read least_peer made least_spec can room) (omega (arith, m)))

unwired_without_peers : (ws : List Wire) → AreWired 0 [] ws → ws ≡ []
unwired_without_peers [] h = refl
unwired_without_peers (w ∷ ws) h = absurd (omega (arith, h.0.from))

complete_opened : (version : Version) (peers : List PeerSpec) (o : Opening) (held : List Wire) (len : ℕ) (read : List Statement) → o.peers ≡ peers → IsOpened version o held len read → Completion read
complete_opened version [] o held len read is made =
    let n : length o.peers ≡ 0 = ap (λ (x : List PeerSpec). length x) is in
    complete_none version o held len read made is (unwired_without_peers o.wires (subst (λ (k : ℕ). AreWired k [] o.wires) n made.begun.wired))
complete_opened version (p ∷ ps) o held len read is made =
    let n : length o.peers ≡ length (p ∷ ps) = ap (λ (x : List PeerSpec). length x) is in
    complete_some version o held len read made (omega (arith, n))

complete_named : (version : Version) (read : List Statement) → read ≡ says.Name version ∷ [] → Completion read
complete_named version read made = before read (says.Clock 0) (complete_opened version [] (opening_of 0 [] []) [] 72 (read ++ says.Clock 0 ∷ []) refl (clock_made version 0 read made refl))

pub complete : (d : Draft) (read : List Statement) → IsMade d read → Completion read
complete Empty read made = before read (says.Name One) (complete_named One (read ++ says.Name One ∷ []) (ap (λ (x : List Statement). x ++ says.Name One ∷ []) made))
complete (Named version) read made = complete_named version read made
complete (Opened version o held len) read made = complete_opened version o.peers o held len read refl made
complete (Listing version o lists list len) read made = complete_lists (length o.peers - (length lists + 1)) version o lists list len read made (omega (arith, made.few))
complete (Whole s) read made = record { more = []; script = s; finished = subst (λ (x : List Statement). IsFinished s x) (sym (append-nil read)) made }
