-- How many bytes a script's parts have.
use Rattle.std.proofs.Common.{◌≡◌, ℕ, ◌+◌, ◌*◌, ◌%◌, Bool, true, false, cond, eqb, List, [], ◌∷◌, ◌++◌, length, map, Option, Some, None, refl, ap, ◌∙◌, arith}
use Rattle.std.specs.List.{flat_map}
use Rattle.std.proofs.lemmas.Bool.{eqb-true, eqb-false}
use Rattle.std.proofs.lemmas.List.{length-append}
use Rattle.std.proofs.lemmas.List.Concat.{flat_map-cons}
use Rattle.b1_model.specs.declared.commands.Command.{Command}
use Rattle.b1_model.specs.declared.naming.PeerSpec.{PeerSpec}
use Rattle.b1_model.specs.declared.naming.Wire.{Wire}
use Rattle.b1_wire.specs.Numbers.{u32_bytes}
use Rattle.b1_records.specs.Spelling as records
use Rattle.b1_script.specs.declared.script.Script.{Script}
use Rattle.b1_script.specs.Spelling.{peer_spelling, wire_spelling, commands_spelling, entry_spelling, entries_spelling, entries_of, lists_spelling, pad_spelling, parts, HasCookies}
use Rattle.b1_script.proofs.Entries.{count_entries}
use Rattle.b1_text.specs.declared.statement.Entry.{Entry}
use Rattle.b1_text.specs.Texts.{plain_entries, marked_entries, entries_said}
use Rattle.b1_text.specs.Drafts.{record_len, turns_len}

abbrev pub records_sum : List Entry → ℕ
records_sum [] = 0
records_sum (e ∷ es) = record_len e + records_sum es

abbrev pub lists_sum : List (List Entry) → ℕ
lists_sum [] = 0
lists_sum (es ∷ ls) = records_sum es + lists_sum ls

pub records_sum-append : (a b : List Entry) → records_sum (a ++ b) ≡ records_sum a + records_sum b
records_sum-append [] b = omega arith
records_sum-append (c ∷ cs) b = let ih = records_sum-append cs b in omega (arith, ih)

pub lists_sum-append : (a b : List (List Entry)) → lists_sum (a ++ b) ≡ lists_sum a + lists_sum b
lists_sum-append [] b = omega arith
lists_sum-append (c ∷ cs) b = let ih = lists_sum-append cs b in omega (arith, ih)

length_peers : (ps : List PeerSpec) → length (flat_map peer_spelling ps) ≡ 24 * length ps
length_peers [] = refl
length_peers (p ∷ ps) =
    let e = ap (λ (x : List ℕ). length x) (flat_map-cons peer_spelling p ps) in
    let ih = length_peers ps in
    omega (arith, e, ih)

length_wires : (ws : List Wire) → length (flat_map wire_spelling ws) ≡ 16 * length ws
length_wires [] = refl
length_wires (w ∷ ws) =
    let e = ap (λ (x : List ℕ). length x) (flat_map-cons wire_spelling w ws) in
    let ih = length_wires ws in
    omega (arith, e, ih)

length_turns : (ts : List ℕ) → length (flat_map u32_bytes ts) ≡ 4 * length ts
length_turns [] = refl
length_turns (t ∷ ts) =
    let e = ap (λ (x : List ℕ). length x) (flat_map-cons u32_bytes t ts) in
    let ih = length_turns ts in
    omega (arith, e, ih)

plain_records : (cs : List Command) → length (flat_map records.spelling cs) ≡ records_sum (plain_entries cs)
plain_records [] = refl
plain_records (c ∷ cs) =
    let e = ap (λ (x : List ℕ). length x) (flat_map-cons records.spelling c cs) ∙ length-append (records.spelling c) (flat_map records.spelling cs) in
    let ih = plain_records cs in
    omega (arith, e, ih)

plain_lists : (ls : List (List Command)) → length (flat_map commands_spelling ls) ≡ 8 * length ls + lists_sum (map plain_entries ls)
plain_lists [] = refl
plain_lists (cs ∷ ls) =
    let e = ap (λ (x : List ℕ). length x) (flat_map-cons commands_spelling cs ls) ∙ length-append (commands_spelling cs) (flat_map commands_spelling ls) in
    let ih = plain_lists ls in
    let own = plain_records cs in
    omega (arith, e, ih, own)

marked_records : (ps : List (ℕ × Command)) → length (flat_map entry_spelling ps) ≡ records_sum (marked_entries ps)
marked_records [] = refl
marked_records (p ∷ ps) =
    let e = ap (λ (x : List ℕ). length x) (flat_map-cons entry_spelling p ps) ∙ length-append (entry_spelling p) (flat_map entry_spelling ps) in
    let ih = marked_records ps in
    omega (arith, e, ih)

marked_lists : (ls : List (List (ℕ × Command))) → length (flat_map entries_spelling ls) ≡ 8 * length ls + lists_sum (map marked_entries ls)
marked_lists [] = refl
marked_lists (ps ∷ ls) =
    let e = ap (λ (x : List ℕ). length x) (flat_map-cons entries_spelling ps ls) ∙ length-append (entries_spelling ps) (flat_map entries_spelling ls) in
    let ih = marked_lists ls in
    let own = marked_records ps in
    omega (arith, e, ih, own)

length_lists : (cookies : Option (List (List ℕ))) (ls : List (List Command)) → HasCookies cookies ls → length (lists_spelling cookies ls) ≡ 8 * length ls + lists_sum (entries_said cookies ls)
length_lists None ls has = plain_lists ls
length_lists (Some cookies) ls has = let n = count_entries cookies ls has in omega (arith, n, marked_lists (entries_of cookies ls))

padded : (b : Bool) (t : ℕ) → eqb (t % 2) 1 ≡ b → length (cond b (u32_bytes 0) []) ≡ 4 * (t % 2)
padded true t is = let e = eqb-true (t % 2) 1 is in omega (arith, e)
padded false t is = let e = eqb-false (t % 2) 1 is in omega (arith, e)

length_pad : (t : ℕ) → length (pad_spelling t) ≡ 4 * (t % 2)
length_pad t = padded (eqb (t % 2) 1) t refl

pub length_parts : (s : Script) → HasCookies s.cookies s.commands
    → length (parts s) ≡ 24 * length s.opening.peers + 16 * length s.opening.wires + 8 * length s.commands + lists_sum (entries_said s.cookies s.commands) + turns_len (length s.turns)
length_parts s has =
    let peers : List ℕ = flat_map peer_spelling s.opening.peers in
    let wires : List ℕ = flat_map wire_spelling s.opening.wires in
    let lists : List ℕ = lists_spelling s.cookies s.commands in
    let turns : List ℕ = flat_map u32_bytes s.turns in
    let pad : List ℕ = pad_spelling (length s.turns) in
    let a = length-append peers wires in
    let b = length-append (peers ++ wires) lists in
    let c = length-append (peers ++ wires ++ lists) turns in
    let d = length-append (peers ++ wires ++ lists ++ turns) pad in
    let p = length_peers s.opening.peers in
    let w = length_wires s.opening.wires in
    let l = length_lists s.cookies s.commands has in
    let t = length_turns s.turns in
    let e = length_pad (length s.turns) in
    omega (arith, a, b, c, d, p, w, l, t, e)
