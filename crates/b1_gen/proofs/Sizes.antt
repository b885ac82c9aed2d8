-- A generated script has a spelling, which is short.
use Rattle.std.proofs.Common.{◌≡◌, ℕ, ◌+◌, ◌-◌, ◌*◌, ◌%◌, ◌≤◌, List, [], ◌∷◌, ◌++◌, map, length, true, leb, refl, sym, ◌∙◌, arith, subst, length-append}
use Rattle.std.specs.Prelude.{replicate}
use Rattle.std.specs.List.{flat_map, range_with_len, AllByRecursion}
use Rattle.std.proofs.lemmas.Bool.{le-leb}
use Rattle.std.proofs.lemmas.List.{length-map, length-replicate}
use Rattle.std.proofs.lemmas.List.FromFn.{length-range_with_len}
use Rattle.b1_model.specs.declared.commands.Command.{Command}
use Rattle.b1_model.specs.declared.limits.TheConstants.{FEW_PEERS}
use Rattle.b1_model.specs.declared.naming.Opening.{Opening}
use Rattle.b1_wire.specs.Numbers.{u64_bytes}
use Rattle.b1_records.specs.Spelling.{IsWithin, padded, rounded}
use Rattle.b1_records.specs.Spelling as records
use Rattle.b1_script.specs.Spelling.{peer_spelling, wire_spelling, commands_spelling, most_len, HasSpelling}
use Rattle.b1_gen.specs.Generated.{below, peer_count, peer_spec, opening_of, partners, handle_at, payload_len, payload_of, sending, taking, taken_before, phase_commands, commands_before, commands_of, generated}
use Rattle.b1_gen.proofs.Rising.{filter-few}
use Rattle.b1_gen.proofs.Each.{each-map, each-flat_map, each-range, each-below, flat_map-most}
use Rattle.b1_gen.proofs.Opens.{is_opening, few_wires, squares}

-- what holds of each command: a record can carry it, and its spelling is short
record IsShort (c : Command) : Type 0 where
  within : IsWithin c
  short : length (records.spelling c) ≤ 159

few_peers : (number : ℕ) → peer_count number ≤ 8
few_peers number = omega arith

few_partners : (number k p : ℕ) → length (partners number k p) ≤ 8
few_partners number k p =
    let few : length (partners number k p) ≤ length (below (peer_count number)) = filter-few _ (below (peer_count number)) in
    let many : length (below (peer_count number)) ≡ peer_count number = length-range_with_len 0 (peer_count number) in
    omega arith

length_numbers : (ns : List ℕ) → length (flat_map u64_bytes ns) ≡ 8 * length ns
length_numbers [] = refl
length_numbers (n ∷ ns) =
    let e = length-append (u64_bytes n) (flat_map u64_bytes ns) in
    omega (arith, length_numbers ns)

length_padded : (payload : List ℕ) → length (padded payload) ≤ length payload + 7
length_padded payload =
    let zeros : List ℕ = replicate (rounded (length payload) - length payload) 0 in
    let e : length (payload ++ zeros) ≡ length payload + length zeros = length-append payload zeros in
    let z : length zeros ≡ rounded (length payload) - length payload = length-replicate (rounded (length payload) - length payload) 0 in
    omega arith

sending_is_short : (number p k : ℕ) → IsShort (sending number p k)
sending_is_short number p k =
    let to : length (map (handle_at p) (partners number k p)) ≡ length (partners number k p) = length-map (partners number k p) (handle_at p) in
    let few : length (partners number k p) ≤ 8 = few_partners number k p in
    let bytes : length (payload_of p k) ≡ payload_len k = length-replicate (payload_len k) ((p + k) % 256) in
    let small : payload_len k ≤ 64 = omega arith in
    let pad : length (padded (payload_of p k)) ≤ length (payload_of p k) + 7 = length_padded (payload_of p k) in
    let numbers : length (flat_map u64_bytes (map (handle_at p) (partners number k p))) ≡ 8 * length (map (handle_at p) (partners number k p)) = length_numbers _ in
    let handles : List ℕ = flat_map u64_bytes (map (handle_at p) (partners number k p)) in
    let joined : length (handles ++ [] ++ padded (payload_of p k)) ≡ length (handles ++ []) + length (padded (payload_of p k)) = length-append (handles ++ []) (padded (payload_of p k)) in
    let alone : length (handles ++ []) ≡ length handles + length {A = ℕ} [] = length-append handles [] in
    record {
      within = record { to = omega arith; with = omega arith; payload = omega arith };
      short = omega arith;
    }

takings_are_short : (first count : ℕ) → AllByRecursion IsShort (flat_map taking (range_with_len first count))
takings_are_short first count =
    each-flat_map IsShort taking (range_with_len first count) (each-range _ first count (λ r low high.
    (record { within = tt; short = omega arith }, (record { within = tt; short = omega arith }, tt))))

commands_are_short : (number p n : ℕ) → AllByRecursion IsShort (commands_before number p n)
unfolding commands_before
commands_are_short number p n =
    each-flat_map IsShort (phase_commands number p) (below n) (each-below _ n (λ k high.
    (sending_is_short number p k, takings_are_short (taken_before number p k) (length (partners number k p)))))

few_takings : (first count : ℕ) → length (flat_map taking (range_with_len first count)) ≤ count * 2
few_takings first count = subst (λ m. length (flat_map taking (range_with_len first count)) ≤ m * 2) (length-range_with_len first count)
    (flat_map-most taking 2 (range_with_len first count) (each-range _ first count (λ r low high. omega arith)))

few_commands : (number p n : ℕ) → length (commands_before number p n) ≤ n * 17
unfolding commands_before
few_commands number p n = subst (λ m. length (flat_map (phase_commands number p) (below n)) ≤ m * 17) (length-range_with_len 0 n)
    (flat_map-most (phase_commands number p) 17 (below n) (each-below _ n (λ k high.
    let takings : length (flat_map taking (range_with_len (taken_before number p k) (length (partners number k p)))) ≤ length (partners number k p) * 2 = few_takings _ _ in
    let few : length (partners number k p) ≤ 8 = few_partners number k p in
    omega arith)))

-- the spelling of a list of short commands
commands_size : (cs : List Command) → AllByRecursion IsShort cs → length (commands_spelling cs) ≤ 8 + length cs * 159
commands_size cs short =
    let most : length (flat_map records.spelling cs) ≤ length cs * 159 = flat_map-most records.spelling 159 cs (sizes cs short) in
    omega arith
  where
    sizes : (cs : List Command) → AllByRecursion IsShort cs → AllByRecursion (λ c. length (records.spelling c) ≤ 159) cs
    sizes [] h = tt
    sizes (c ∷ cs) h = (h.0.short, sizes cs h.1)

all_within : (cs : List Command) → AllByRecursion IsShort cs → AllByRecursion IsWithin cs
all_within [] h = tt
all_within (c ∷ cs) h = (h.0.within, all_within cs h.1)

short_commands : (number p : ℕ) → AllByRecursion IsShort (commands_of number p)
unfolding commands_of
short_commands number p = commands_are_short number p 256

few_of : (number p : ℕ) → length (commands_of number p) ≤ 4352
unfolding commands_of
few_of number p = few_commands number p 256

list_size : (number p : ℕ) → length (commands_spelling (commands_of number p)) ≤ 691976
list_size number p =
    let most : length (commands_spelling (commands_of number p)) ≤ 8 + length (commands_of number p) * 159 = commands_size (commands_of number p) (short_commands number p) in
    let few : length (commands_of number p) ≤ 4352 = few_of number p in
    omega arith

-- an opening with few peers and wires, and lists of commands with short spellings
is_short : (n : ℕ) (o : Opening) (lists : List (List Command)) → n ≤ 8 → length o.peers ≡ n → length o.wires ≤ n * n → length lists ≡ n → AllByRecursion (λ cs. length (commands_spelling cs) ≤ 691976) lists
    → 40 + length (flat_map peer_spelling o.peers ++ flat_map wire_spelling o.wires ++ flat_map commands_spelling lists ++ [] ++ []) ≤ most_len (length o.peers)
is_short n o lists few peers wires many sizes =
    let product : n * n ≤ 64 = squares n few in
    let a : List ℕ = flat_map peer_spelling o.peers in
    let b : List ℕ = flat_map wire_spelling o.wires in
    let c : List ℕ = flat_map commands_spelling lists in
    let size_a : length a ≤ length o.peers * 24 = flat_map-most peer_spelling 24 o.peers (each-of o.peers (λ x. omega arith)) in
    let size_b : length b ≤ length o.wires * 16 = flat_map-most wire_spelling 16 o.wires (each-of o.wires (λ x. omega arith)) in
    let size_c : length c ≤ length lists * 691976 = flat_map-most commands_spelling 691976 lists sizes in
    let e1 : length (a ++ b) ≡ length a + length b = length-append a b in
    let e2 : length (a ++ b ++ c) ≡ length (a ++ b) + length c = length-append (a ++ b) c in
    let e3 : length (a ++ b ++ c ++ []) ≡ length (a ++ b ++ c) + 0 = length-append (a ++ b ++ c) [] in
    let e4 : length (a ++ b ++ c ++ [] ++ []) ≡ length (a ++ b ++ c ++ []) + 0 = length-append (a ++ b ++ c ++ []) [] in
    let long : leb (length o.peers) FEW_PEERS ≡ true = le-leb (length o.peers) FEW_PEERS (omega arith) in
    rw long (omega arith)
  where
    each-of : {A : Type 0} {P : A → Type 0} (xs : List A) → ((x : A) → P x) → AllByRecursion P xs
    each-of [] h = tt
    each-of (x ∷ xs) h = (h x, each-of xs h)

pub has_spelling : (number : ℕ) → HasSpelling (generated number)
has_spelling number =
    let n : ℕ = peer_count number in
    let few : n ≤ 8 = few_peers number in
    let peers : length (opening_of n).peers ≡ n = length-map (below n) peer_spec ∙ length-range_with_len 0 n in
    let lists : length (map (commands_of number) (below n)) ≡ n = length-map (below n) (commands_of number) ∙ length-range_with_len 0 n in
    record {
      opening = is_opening n (omega arith) few;
      few = omega arith;
      lists = lists ∙ sym peers;
      commands = each-map (AllByRecursion IsWithin) (commands_of number) (below n) (each-below _ n (λ p high. all_within (commands_of number p) (short_commands number p)));
      turns = tt;
      cookies = tt;
      short = is_short n (opening_of n) (map (commands_of number) (below n)) few peers (few_wires n) lists
          (each-map (λ cs. length (commands_spelling cs) ≤ 691976) (commands_of number) (below n) (each-below _ n (λ p high. list_size number p)));
    }
