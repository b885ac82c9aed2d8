-- The lines of a record, and the record of lines.
use native.Mathlib.Numerals.{unary_clauses}
use Rattle.std.specs.Prelude.{codes}
use Rattle.std.proofs.Common.{◌≡◌, ℕ, zero, suc, ◌+◌, ◌^◌, ◌<◌, List, [], ◌∷◌, ◌++◌, length, drop, slice_get, Option, Some, None, refl, sym, ap, subst, ◌∙◌, arith}
use Rattle.std.proofs.lemmas.List.{append_assoc, append-nil}
use Rattle.std.proofs.lemmas.List.Elements.{All-from_recursion, recursion_from_All}
use Rattle.std.specs.Fmt.{decimal}
use Rattle.std.specs.List.{flat_map, enumerate_from, AllByRecursion}
use Rattle.b1_model.specs.declared.commands.Command.{Command}
use Rattle.b1_model.specs.declared.commands.Command.TheVariants as cmd
use Rattle.b1_model.specs.declared.records.Call.{Call}
use Rattle.b1_model.specs.declared.records.PeerCalls.{PeerCalls}
use Rattle.b1_model.specs.declared.records.Record.{Record}
use Rattle.b1_model.specs.declared.version.Version.{Version}
use Rattle.b1_model.specs.declared.version.Version.TheVariants.{One, Two}
use Rattle.b1_model.specs.Versions.{version_of, version_number, cookies_of}
use Rattle.b1_text_words.specs.Commands.{cookie_text, IsCommand}
use Rattle.b1_text_words.specs.declared.items.Form.TheVariants.{Report}
use Rattle.b1_report_lines.specs.declared.lines.Line.{Line}
use Rattle.b1_report_lines.specs.declared.lines.Line.TheVariants as line
use Rattle.b1_report_lines.specs.declared.lines.Place.TheVariants as place
use Rattle.b1_report_lines.specs.Lines.{Cookies, IsCall, call_line, call_words, count_line, header_line, next_cookie}
use Rattle.b1_report_lines.specs.Lines as of_lines
use Rattle.b1_report.specs.Parsing.{HasCallFields, HasPeerFields, IsReport}
use Rattle.b1_report.specs.Report.{call_text, calls_text, peer_text, peers_text, head_text, report_text, IsWritten, HasSpelling, AllSpelled}
use Rattle.b1_report.specs.Runs.{run_text, front_calls, gathered}
use Rattle.b1_report.proofs.LineRuns.{IsTail}

-- ---- calls and peers as a report has them

pub record IsPeer (version : Version) (x : PeerCalls) : Type 0 where
  pub epoch : x.epoch < 2 ^ 64
  pub clock : x.clock < 2 ^ 64
  pub calls : AllByRecursion (IsCall version) x.calls

written : (version : Version) (c : Command) → IsCommand Report version c → IsWritten version c
written One cmd.Disconnect h = tt
written One cmd.Query h = tt
written One (cmd.Reset limits) h = tt
written One (cmd.Limit limits) h = absurd h
written One (cmd.Release number) h = tt
written One (cmd.Destroy numbers) h = tt
written One (cmd.SliceRelease offset) h = tt
written One (cmd.Send send) h = tt
written One cmd.Recv h = tt
written One cmd.Await h = absurd h
written Two cmd.Disconnect h = tt
written Two cmd.Query h = tt
written Two (cmd.Reset limits) h = tt
written Two (cmd.Limit limits) h = tt
written Two (cmd.Release number) h = tt
written Two (cmd.Destroy numbers) h = tt
written Two (cmd.SliceRelease offset) h = tt
written Two (cmd.Send send) h = tt
written Two cmd.Recv h = tt
written Two cmd.Await h = absurd h

-- what fits in one version fits in the other, where it has words there
fits_two : (version : Version) (c : Command) → IsCommand Report version c → IsCommand Report Two c
fits_two One cmd.Disconnect h = tt
fits_two One cmd.Query h = tt
fits_two One (cmd.Reset limits) h = h
fits_two One (cmd.Limit limits) h = absurd h
fits_two One (cmd.Release number) h = h
fits_two One (cmd.Destroy numbers) h = h
fits_two One (cmd.SliceRelease offset) h = h
fits_two One (cmd.Send send) h = h
fits_two One cmd.Recv h = tt
fits_two One cmd.Await h = absurd h
fits_two Two c h = h

fits_in : (version : Version) (c : Command) → IsWritten version c → IsCommand Report Two c → IsCommand Report version c
fits_in One cmd.Disconnect w h = tt
fits_in One cmd.Query w h = tt
fits_in One (cmd.Reset limits) w h = h
fits_in One (cmd.Limit limits) w h = absurd w
fits_in One (cmd.Release number) w h = h
fits_in One (cmd.Destroy numbers) w h = h
fits_in One (cmd.SliceRelease offset) w h = h
fits_in One (cmd.Send send) w h = h
fits_in One cmd.Recv w h = tt
fits_in One cmd.Await w h = absurd w
fits_in Two c w h = h

module _ (version : Version) where
  calls_spelled : (cs : List Call) → AllByRecursion (IsCall version) cs → AllByRecursion (HasSpelling version) cs
  calls_spelled [] h = tt
  calls_spelled (c ∷ cs) h = ((written version c.command h.0.command, h.0.can), calls_spelled cs h.1)

  calls_fields : (cs : List Call) → AllByRecursion (IsCall version) cs → AllByRecursion HasCallFields cs
  calls_fields [] h = tt
  calls_fields (c ∷ cs) h = (record { command = fits_two version c.command h.0.command; answer = h.0.fields }, calls_fields cs h.1)

  calls_are : (cs : List Call) → AllByRecursion (HasSpelling version) cs → AllByRecursion HasCallFields cs → AllByRecursion (IsCall version) cs
  calls_are [] h k = tt
  calls_are (c ∷ cs) h k = (record { command = fits_in version c.command h.0.0 k.0.command; can = h.0.1; fields = k.0.answer }, calls_are cs h.1 k.1)

  abbrev IsSpelledPeer : PeerCalls → Type 0
  IsSpelledPeer x = AllSpelled version x.calls

  peers_spelled : (xs : List PeerCalls) → AllByRecursion (IsPeer version) xs → AllByRecursion IsSpelledPeer xs
  peers_spelled [] h = tt
  peers_spelled (x ∷ xs) h = (All-from_recursion (HasSpelling version) x.calls (calls_spelled x.calls h.0.calls), peers_spelled xs h.1)

  peers_fields : (xs : List PeerCalls) → AllByRecursion (IsPeer version) xs → AllByRecursion HasPeerFields xs
  peers_fields [] h = tt
  peers_fields (x ∷ xs) h = (record { epoch = h.0.epoch; clock = h.0.clock; calls = calls_fields x.calls h.0.calls }, peers_fields xs h.1)

  peers_are : (xs : List PeerCalls) → AllByRecursion IsSpelledPeer xs → AllByRecursion HasPeerFields xs → AllByRecursion (IsPeer version) xs
  peers_are [] h k = tt
  peers_are (x ∷ xs) h k = (
    record { epoch = k.0.epoch; clock = k.0.clock; calls = calls_are x.calls (recursion_from_All (HasSpelling version) x.calls h.0) k.0.calls },
    peers_are xs h.1 k.1,
  )

-- ---- the lines of a record

abbrev pub with_calls : List Call → List Line → List Line
with_calls [] tail = tail
with_calls (c ∷ cs) tail = line.Call c ∷ with_calls cs tail

abbrev pub peers_lines : List PeerCalls → List Line
peers_lines [] = line.End ∷ []
peers_lines (x ∷ xs) = line.Peer x.epoch x.clock ∷ with_calls x.calls (peers_lines xs)

abbrev pub all_lines : List PeerCalls → List Line
all_lines xs = line.Header ∷ line.Count ∷ peers_lines xs

-- ---- their text is the report

-- what follows the calls doesn't tell how many they were
after_calls : (cookies : Cookies) (peers begun calls : ℕ) (xs : List PeerCalls) → run_text cookies peers (place.Peers begun calls) (peers_lines xs) ≡ run_text cookies peers (place.Peers begun 0) (peers_lines xs)
after_calls cookies peers begun calls [] = refl
after_calls cookies peers begun calls (x ∷ xs) = refl

next_text : (ns : List ℕ) (k : ℕ) (c : Call) (cs : List Call) → calls_text (drop k ns) (c ∷ cs) ≡ call_text (slice_get ns k) c ++ calls_text (drop (k + 1) ns) cs
next_text [] zero c cs = refl
next_text [] (suc k) c cs = simp unary_clauses refl
next_text (n ∷ ns) zero c cs = refl
next_text (n ∷ ns) (suc k) c cs = simp unary_clauses (simp unary_clauses at (next_text ns k c cs))

whole_line : (cookie : Option ℕ) (c : Call) (rest : List ℕ) → call_line cookie c ++ 10 ∷ rest ≡ call_text cookie c ++ rest
whole_line cookie c rest = regroup (cookie_text cookie) (call_words c) where
  regroup : (a b : List ℕ) → (a ++ b) ++ 10 ∷ rest ≡ (a ++ (b ++ 10 ∷ [])) ++ rest
  regroup a b = simp append_assoc

calls_same : (cookies : Cookies) (peers p k : ℕ) (cs : List Call) (xs : List PeerCalls)
    → run_text cookies peers (place.Peers (p + 1) k) (with_calls cs (peers_lines xs)) ≡ calls_text (drop k (cookies_of cookies p)) cs ++ run_text cookies peers (place.Peers (p + 1) 0) (peers_lines xs)
calls_same cookies peers p k [] xs = after_calls cookies peers (p + 1) k xs
calls_same cookies peers p k (c ∷ cs) xs =
    let ns : List ℕ = cookies_of cookies p in
    let tail : List ℕ = run_text cookies peers (place.Peers (p + 1) 0) (peers_lines xs) in
    let own : next_cookie cookies (p + 1) k ≡ slice_get ns k = ap (λ (q : ℕ). slice_get (cookies_of cookies q) k) (omega arith) in
    ap (λ (r : List ℕ). call_line (next_cookie cookies (p + 1) k) c ++ 10 ∷ r) (calls_same cookies peers p (k + 1) cs xs)
    ∙ ap (λ (o : Option ℕ). call_line o c ++ 10 ∷ (calls_text (drop (k + 1) ns) cs ++ tail)) own
    ∙ whole_line (slice_get ns k) c (calls_text (drop (k + 1) ns) cs ++ tail)
    ∙ sym (append_assoc (call_text (slice_get ns k) c) (calls_text (drop (k + 1) ns) cs) tail)
    ∙ ap (λ (r : List ℕ). r ++ tail) (sym (next_text ns k c cs))

peers_same : (cookies : Cookies) (peers begun : ℕ) (xs : List PeerCalls) → run_text cookies peers (place.Peers begun 0) (peers_lines xs) ≡ flat_map (peer_text cookies) (enumerate_from begun xs) ++ codes "end\n"
peers_same cookies peers begun [] = refl
peers_same cookies peers begun (x ∷ xs) =
    let front : List ℕ = of_lines.peer_line begun x.epoch x.clock in
    let calls : List ℕ = calls_text (cookies_of cookies begun) x.calls in
    let others : List ℕ = flat_map (peer_text cookies) (enumerate_from (begun + 1) xs) in
    ap (λ (r : List ℕ). front ++ 10 ∷ r) (calls_same cookies peers begun 0 x.calls xs ∙ ap (λ (r : List ℕ). calls ++ r) (peers_same cookies peers (begun + 1) xs))
    ∙ regroup front calls others where
      regroup : (a b c : List ℕ) → a ++ 10 ∷ (b ++ (c ++ codes "end\n")) ≡ (((a ++ 10 ∷ []) ++ b) ++ c) ++ codes "end\n"
      regroup a b c = simp append_assoc

pub all_same : (cookies : Cookies) (rec : Record) (peers : ℕ) → length rec.peers ≡ peers → run_text cookies peers place.Header (all_lines rec.peers) ≡ report_text cookies rec
all_same cookies rec peers e =
    let others : List ℕ = peers_text cookies rec.peers in
    let head : List ℕ = header_line (version_of cookies) in
    ap (λ (r : List ℕ). head ++ 10 ∷ (count_line peers ++ 10 ∷ r)) (peers_same cookies peers 0 rec.peers)
    ∙ ap (λ (n : ℕ). head ++ 10 ∷ (count_line n ++ 10 ∷ (others ++ codes "end\n"))) (sym e)
    ∙ regroup (decimal (version_number (version_of cookies))) (decimal (length rec.peers)) others where
      regroup : (v n c : List ℕ) → (codes "bus1 report " ++ v) ++ 10 ∷ ((codes "peers " ++ n) ++ 10 ∷ (c ++ codes "end\n")) ≡ ((codes "bus1 report " ++ v ++ codes "\npeers " ++ n ++ codes "\n") ++ c) ++ codes "end\n"
      regroup v n c = simp append_assoc

-- they may follow each other
calls_tail : (cookies : Cookies) (peers begun k : ℕ) (cs : List Call) (tail : List Line) → 0 < begun → AllByRecursion (IsCall (version_of cookies)) cs
    → ((calls : ℕ) → IsTail cookies peers (place.Peers begun calls) tail) → IsTail cookies peers (place.Peers begun k) (with_calls cs tail)
calls_tail cookies peers begun k [] tail some h each = each k
calls_tail cookies peers begun k (c ∷ cs) tail some h each = ((some, h.0), calls_tail cookies peers begun (k + 1) cs tail some h.1 each)

peers_tail : (cookies : Cookies) (peers begun calls : ℕ) (xs : List PeerCalls) → begun + length xs ≡ peers → AllByRecursion (IsPeer (version_of cookies)) xs → IsTail cookies peers (place.Peers begun calls) (peers_lines xs)
peers_tail cookies peers begun calls [] e h = (omega (arith, e), refl)
peers_tail cookies peers begun calls (x ∷ xs) e h = (
  (omega (arith, e), (h.0.epoch, h.0.clock)),
  calls_tail cookies peers (begun + 1) 0 x.calls (peers_lines xs) (omega arith) h.0.calls (λ k. peers_tail cookies peers (begun + 1) k xs (omega (arith, e)) h.1),
)

-- a report is a run of such lines
pub lines_of_report : (cookies : Cookies) (peers : ℕ) (bytes : List ℕ) (rec : Record) → IsReport cookies peers bytes rec
    → IsTail cookies peers place.Header (all_lines rec.peers) × (bytes ≡ run_text cookies peers place.Header (all_lines rec.peers))
lines_of_report cookies peers bytes rec h =
    let version : Version = version_of cookies in
    let are : AllByRecursion (IsPeer version) rec.peers = peers_are version rec.peers (recursion_from_All (IsSpelledPeer version) rec.peers h.spelled) h.fields in
    ((tt, (tt, peers_tail cookies peers 0 0 rec.peers (omega (arith, h.count)) are)), h.same ∙ sym (all_same cookies rec peers h.count))

-- ---- the record of lines

calls_front : (cs : List Call) (tail : List Line) → front_calls (with_calls cs tail) ≡ cs ++ front_calls tail
calls_front [] tail = refl
calls_front (c ∷ cs) tail = ap (λ (r : List Call). c ∷ r) (calls_front cs tail)

calls_gathered : (cs : List Call) (tail : List Line) → gathered (with_calls cs tail) ≡ gathered tail
calls_gathered [] tail = refl
calls_gathered (c ∷ cs) tail = calls_gathered cs tail

peers_front : (xs : List PeerCalls) → front_calls (peers_lines xs) ≡ []
peers_front [] = refl
peers_front (x ∷ xs) = refl

peers_gathered : (xs : List PeerCalls) → gathered (peers_lines xs) ≡ xs
peers_gathered [] = refl
peers_gathered (x ∷ xs) =
    let calls : front_calls (with_calls x.calls (peers_lines xs)) ≡ x.calls = calls_front x.calls (peers_lines xs) ∙ ap (λ (r : List Call). x.calls ++ r) (peers_front xs) ∙ append-nil x.calls in
    let others : gathered (with_calls x.calls (peers_lines xs)) ≡ xs = calls_gathered x.calls (peers_lines xs) ∙ peers_gathered xs in
    rw (calls, others) refl

pub all_gathered : (xs : List PeerCalls) → gathered (all_lines xs) ≡ xs
all_gathered xs = peers_gathered xs

record Whole (version : Version) (peers begun : ℕ) (ls : List Line) : Type 0 where
  shape : ls ≡ with_calls (front_calls ls) (peers_lines (gathered ls))
  calls : AllByRecursion (IsCall version) (front_calls ls)
  each : AllByRecursion (IsPeer version) (gathered ls)
  count : begun + length (gathered ls) ≡ peers
  early : begun ≡ 0 → front_calls ls ≡ []

pub none_behind : (cookies : Cookies) (peers : ℕ) (ls : List Line) → IsTail cookies peers place.Done ls → ls ≡ []
none_behind cookies peers [] h = refl
none_behind cookies peers (line.Header ∷ ls) h = absurd h.0
none_behind cookies peers (line.Count ∷ ls) h = absurd h.0
none_behind cookies peers (line.Peer epoch clock ∷ ls) h = absurd h.0
none_behind cookies peers (line.Call call ∷ ls) h = absurd h.0
none_behind cookies peers (line.End ∷ ls) h = absurd h.0

whole : (cookies : Cookies) (peers begun calls : ℕ) (ls : List Line) → IsTail cookies peers (place.Peers begun calls) ls → Whole (version_of cookies) peers begun ls
whole cookies peers begun calls [] h = absurd cc
whole cookies peers begun calls (line.Header ∷ ls) h = absurd h.0
whole cookies peers begun calls (line.Count ∷ ls) h = absurd h.0
whole cookies peers begun calls (line.Peer epoch clock ∷ ls) h =
    let w = whole cookies peers (begun + 1) 0 ls h.1 in
    record {
      shape = ap (λ (r : List Line). line.Peer epoch clock ∷ r) w.shape;
      calls = tt;
      each = (record { epoch = h.0.1.0; clock = h.0.1.1; calls = w.calls }, w.each);
      count = omega (arith, w.count);
      early = λ e. refl;
    }
whole cookies peers begun calls (line.Call call ∷ ls) h =
    let w = whole cookies peers begun (calls + 1) ls h.1 in
    record {
      shape = ap (λ (r : List Line). line.Call call ∷ r) w.shape;
      calls = (h.0.1, w.calls);
      each = w.each;
      count = w.count;
      early = λ e. absurd (omega (arith, e, h.0.0));
    }
whole cookies peers begun calls (line.End ∷ ls) h =
    let none : ls ≡ [] = none_behind cookies peers ls h.1 in
    subst (λ (r : List Line). Whole (version_of cookies) peers begun (line.End ∷ r)) (sym none) (record { shape = refl; calls = tt; each = tt; count = omega (arith, h.0); early = λ e. refl })

abbrev Gathered : Cookies → ℕ → List Line → Type 0
Gathered cookies peers ls = (ls ≡ all_lines (gathered ls)) × IsReport cookies peers (run_text cookies peers place.Header ls) (record { peers = gathered ls })

behind_count : (cookies : Cookies) (peers : ℕ) (ls : List Line) → IsTail cookies peers (place.Peers 0 0) ls → Gathered cookies peers (line.Header ∷ line.Count ∷ ls)
behind_count cookies peers ls h =
    let w = whole cookies peers 0 0 ls h in
    let none : front_calls ls ≡ [] = w.early refl in
    let rec : Record = record { peers = gathered ls } in
    let count : length (gathered ls) ≡ peers = omega (arith, w.count) in
    let shape : line.Header ∷ line.Count ∷ ls ≡ all_lines (gathered ls) = ap (λ (r : List Line). line.Header ∷ line.Count ∷ r) (w.shape ∙ ap (λ (cs : List Call). with_calls cs (peers_lines (gathered ls))) none) in (
      shape,
      record {
        count = count;
        spelled = All-from_recursion (IsSpelledPeer (version_of cookies)) (gathered ls) (peers_spelled (version_of cookies) (gathered ls) w.each);
        fields = peers_fields (version_of cookies) (gathered ls) w.each;
        same = ap (run_text cookies peers place.Header) shape ∙ all_same cookies rec peers count;
      },
    )

pub report_of_lines : (cookies : Cookies) (peers : ℕ) (ls : List Line) → IsTail cookies peers place.Header ls → Gathered cookies peers ls
report_of_lines cookies peers [] h = absurd cc
report_of_lines cookies peers (line.Header ∷ []) h = absurd cc
report_of_lines cookies peers (line.Header ∷ (line.Header ∷ ls)) h = absurd h.1.0
report_of_lines cookies peers (line.Header ∷ (line.Count ∷ ls)) h = behind_count cookies peers ls h.1.1
report_of_lines cookies peers (line.Header ∷ (line.Peer epoch clock ∷ ls)) h = absurd h.1.0
report_of_lines cookies peers (line.Header ∷ (line.Call call ∷ ls)) h = absurd h.1.0
report_of_lines cookies peers (line.Header ∷ (line.End ∷ ls)) h = absurd h.1.0
report_of_lines cookies peers (line.Count ∷ ls) h = absurd h.0
report_of_lines cookies peers (line.Peer epoch clock ∷ ls) h = absurd h.0
report_of_lines cookies peers (line.Call call ∷ ls) h = absurd h.0
report_of_lines cookies peers (line.End ∷ ls) h = absurd h.0
