-- Nodes by their serials.
use Rattle.std.proofs.Common.{◌≡◌, ◌≢◌, ◌==◌, ℕ, suc, ◌+◌, ◌<◌, ◌≤◌, Bool, true, false, not, List, [], ◌∷◌, ◌++◌, length, get_or, set, take, None, Some, replicate, refl, ap, sym, subst, ◌∙◌, arith, inl, inr, if◌then◌else◌}
use Rattle.std.specs.Prelude.{All, AllPairs, filter}
use Rattle.std.specs.List.{range_with_len}
use Rattle.std.proofs.Math.Seq.{get_or-append_seam}
use Rattle.std.proofs.lemmas.List.{length-append, get_or_append_left, get_or_default, get_or-set_same, get_or-set_other, length-set, length-replicate, map-id, append-nil}
use Rattle.std.specs.List.{position_or_len}
use Rattle.std.proofs.lemmas.Grind.{common_steps}
use Rattle.std.proofs.lemmas.List.Elements.{All-push, All-filter}
use Rattle.std.proofs.lemmas.List.Quantifiers.{all_pairs_push}
use Rattle.std.proofs.lemmas.List.Sums.{prefix_len_passes, position_or_len_is}
use Rattle.b1_model.specs.Names.{is_own}
use Rattle.b1_model.specs.declared.parts.NodeState.TheVariants.{Live}
use Rattle.std.proofs.lemmas.List.FromFn.{get_or-range_with_len, length-range_with_len, filter_of_map_range_with_len_more}
use Rattle.std.proofs.lemmas.List.Sums.{fold_more}
use Rattle.std.proofs.lemmas.Bool.{cases_eq, le-ltb, lt-ltb, ne_eqb, eq-eqb}
use Rattle.b1_model.specs.MachineParts.{NodePart, no_node}
use Rattle.b1_model.specs.MachineTables.{with_node, with_nodes, with_made, serial_of, with_peer}
use Rattle.b1_nodes.specs.Nodes.{node_in, AllMade, AreNodes}

-- what a read by index gives
pub node_read : (nodes : List NodePart) (serial : ℕ) (x : NodePart) → serial < length nodes → x ≡ get_or nodes serial x → x ≡ node_in nodes serial
node_read nodes serial x within read = read ∙ get_or_default nodes serial x no_node within

pub with_node_read : (nodes : List NodePart) (serial : ℕ) (x y : NodePart) (f : NodePart → NodePart) → serial < length nodes → x ≡ get_or nodes serial x → y ≡ f x → set nodes serial y ≡ with_node serial f nodes
with_node_read nodes serial x y f within read is = ap (set nodes serial) (is ∙ ap f (node_read nodes serial x within read))

-- what a change keeps of each node, it keeps of all
reads_same : {X : Type 0} (g : NodePart → X) (nodes : List NodePart) (serial : ℕ) (f : NodePart → NodePart) → ((n : NodePart) → g (f n) ≡ g n) → (k : ℕ) (d : NodePart) → k < length nodes → g (get_or (with_node serial f nodes) k d) ≡ g (get_or nodes k d)
reads_same g nodes serial f keeps k d within =
    elim (cases_eq k serial) [
      | inl same ↦
          let here : serial < length nodes = subst (λ (i : ℕ). i < length nodes) same within in
          subst (λ (i : ℕ). g (get_or (with_node serial f nodes) i d) ≡ g (get_or nodes i d)) (sym same)
          (ap g (get_or-set_same nodes serial (f (node_in nodes serial)) d here) ∙ keeps (node_in nodes serial) ∙ ap g (get_or_default nodes serial no_node d here))
      | inr other ↦ ap g (get_or-set_other nodes serial k (f (node_in nodes serial)) d other)
    ]

pub AreNodes-with_node : (peers : ℕ) (nodes : List NodePart) (serial : ℕ) (f : NodePart → NodePart) → ((n : NodePart) → (f n).number ≡ n.number) → ((n : NodePart) → length (f n).counts ≡ length n.counts) → AreNodes peers nodes → AreNodes peers (with_node serial f nodes)
AreNodes-with_node peers nodes serial f number counts are =
    let len : length (with_node serial f nodes) ≡ length nodes = length-set nodes serial (f (node_in nodes serial)) in
    record {
      counts = λ k d lt. reads_same (λ n. length n.counts) nodes serial f counts k d (omega (arith, len)) ∙ are.counts k d (omega (arith, len));
      own = λ k d lt. ap is_own (reads_same (λ n. n.number) nodes serial f number k d (omega (arith, len))) ∙ are.own k d (omega (arith, len));
      distinct = λ i j d before lt same. are.distinct i j d before (omega (arith, len)) (sym (reads_same (λ n. n.number) nodes serial f number i d (omega (arith, len))) ∙ same ∙ reads_same (λ n. n.number) nodes serial f number j d (omega (arith, len)));
    }

-- a number that isn't found stands nowhere
pub unknown_at : (number : ℕ) (nodes : List NodePart) → serial_of number nodes ≡ None → (k : ℕ) (d : NodePart) → k < length nodes → (get_or nodes k d).number ≢ number
unknown_at number nodes unknown k d within same =
    let all : length nodes ≤ position_or_len (λ n. n.number == number) nodes = grind (arith, common_steps) in
    let passes : not ((get_or nodes k d).number == number) ≡ true = prefix_len_passes (λ n. not (n.number == number)) nodes k d (omega arith) in
    absurd (grind (arith, common_steps))

-- a new node
pub AreNodes-made : (peers number : ℕ) (nodes : List NodePart) → is_own number ≡ true → serial_of number nodes ≡ None → AreNodes peers nodes → AreNodes peers (nodes ++ record { number = number; state = Live; counts = replicate peers 0; taken = false } ∷ [])
AreNodes-made peers number nodes own unknown are = record {
  counts = All-push (λ n. length n.counts ≡ peers) nodes _ are.counts (length-replicate peers 0);
  own = All-push (λ n. is_own n.number ≡ true) nodes _ are.own own;
  distinct = all_pairs_push (λ m n. m.number ≢ n.number) nodes _ are.distinct (λ k d lt. unknown_at number nodes unknown k d lt);
}

-- a node after one of them changed
pub node_in-with_node : (nodes : List NodePart) (serial other : ℕ) (f : NodePart → NodePart) (P : NodePart → Type 0) → other < length nodes → ((n : NodePart) → P n → P (f n)) → P (node_in nodes other) → P (node_in (with_node serial f nodes) other)
node_in-with_node nodes serial other f P within keeps holds =
    elim (cases_eq other serial) [
      | inl same ↦
          subst P (sym (subst (λ (i : ℕ). node_in (with_node serial f nodes) i ≡ f (node_in nodes i)) (sym same) (get_or-set_same nodes serial (f (node_in nodes serial)) no_node (subst (λ (i : ℕ). i < length nodes) same within)))) (keeps (node_in nodes other) holds)
      | inr other_one ↦ subst P (sym (get_or-set_other nodes serial other (f (node_in nodes serial)) no_node other_one)) holds
    ]

pub length-with_node : (nodes : List NodePart) (serial : ℕ) (f : NodePart → NodePart) → length (with_node serial f nodes) ≡ length nodes
length-with_node nodes serial f = length-set nodes serial (f (node_in nodes serial))

pub length-with_nodes : (serials : List ℕ) (f : NodePart → NodePart) (nodes : List NodePart) → length (with_nodes serials f nodes) ≡ length nodes
length-with_nodes [] f nodes = refl
length-with_nodes (serial ∷ rest) f nodes = length-with_nodes rest f (with_node serial f nodes) ∙ length-with_node nodes serial f

-- several nodes, one more
pub with_nodes_more : (f : NodePart → NodePart) (nodes : List NodePart) (serials : List ℕ) (i : ℕ) → i < length serials → with_nodes (take (i + 1) serials) f nodes ≡ with_node (get_or serials i 0) f (with_nodes (take i serials) f nodes)
with_nodes_more f nodes serials i within = fold_more (λ ns serial. with_node serial f ns) nodes serials i 0 within

-- the peers that pass, one more
pub with_peer-last : (p : ℕ) (xs : List ℕ) → All (λ x. x < p) xs → with_peer p xs ≡ xs ++ p ∷ []
with_peer-last p [] below = refl
with_peer-last p (x ∷ xs) below =
    let head : x < p = below 0 x (omega arith) in
    rw (le-ltb p x (omega arith), ne_eqb p x (omega arith)) (ap (λ ys. x ∷ ys) (with_peer-last p xs (λ k d lt. below (suc k) d (omega arith))))

pub filter-range_more : (p : ℕ → Bool) (n : ℕ) → filter p (range_with_len 0 (n + 1)) ≡ filter p (range_with_len 0 n) ++ (if p n then n ∷ [] else [])
filter-range_more p n =
    ap (filter p) (sym (map-id (range_with_len 0 (n + 1))))
    ∙ filter_of_map_range_with_len_more p (λ x. x) 0 n n (omega arith)
    ∙ ap (λ (xs : List ℕ). filter p xs ++ (if p n then n ∷ [] else [])) (map-id (range_with_len 0 n))

pub filter-range_below : (p : ℕ → Bool) (n : ℕ) → All (λ x. x < n) (filter p (range_with_len 0 n))
filter-range_below p n = All-filter p (λ x. x < n) (range_with_len 0 n) (λ k d lt. rw (get_or-range_with_len 0 n k d (omega (arith, length-range_with_len 0 n))) (omega (arith, length-range_with_len 0 n)))

-- the peers that pass, where one more was tested
pub holders_more : (p : ℕ → Bool) (n : ℕ) (before after : List ℕ) (b : Bool) → before ≡ filter p (range_with_len 0 n) → b ≡ p n → after ≡ (if b then with_peer n before else before) → after ≡ filter p (range_with_len 0 (n + 1))
holders_more p n before after b so_far tested is =
    is
    ∙ rw (so_far, tested)
    (elim (p n) as (λ t. (if t then with_peer n (filter p (range_with_len 0 n)) else filter p (range_with_len 0 n)) ≡ filter p (range_with_len 0 n) ++ (if t then n ∷ [] else [])) [
      | true ↦ with_peer-last n (filter p (range_with_len 0 n)) (filter-range_below p n)
      | false ↦ sym (append-nil (filter p (range_with_len 0 n)))
    ])
    ∙ sym (filter-range_more p n)

-- a loop over serials, one more
pub change_more : (f : NodePart → NodePart) (first items : List NodePart) (serials : List ℕ) (i : ℕ) (x y : NodePart) → i < length serials → items ≡ with_nodes (take i serials) f first → get_or serials i 0 < length items → x ≡ get_or items (get_or serials i 0) x → y ≡ f x → set items (get_or serials i 0) y ≡ with_nodes (take (i + 1) serials) f first
change_more f first items serials i x y within so_far made read is =
    with_node_read items (get_or serials i 0) x y f made read is
    ∙ ap (with_node (get_or serials i 0) f) so_far
    ∙ sym (with_nodes_more f first serials i within)

pub AreNodes-set : (peers : ℕ) (nodes : List NodePart) (serial : ℕ) (x y : NodePart) (f : NodePart → NodePart) → ((n : NodePart) → (f n).number ≡ n.number) → ((n : NodePart) → length (f n).counts ≡ length n.counts) → serial < length nodes → x ≡ get_or nodes serial x → y ≡ f x → AreNodes peers nodes → AreNodes peers (set nodes serial y)
AreNodes-set peers nodes serial x y f number counts within read is are =
    subst (AreNodes peers) (sym (with_node_read nodes serial x y f within read is)) (AreNodes-with_node peers nodes serial f number counts are)

-- the node that a number names
pub distinct_found : (nodes : List NodePart) (serial number : ℕ) → AllPairs (λ m n. m.number ≢ n.number) nodes → serial < length nodes → number ≡ (node_in nodes serial).number → serial_of number nodes ≡ Some serial
distinct_found nodes serial number distinct within is =
    let first : position_or_len (λ n. n.number == number) nodes ≡ serial =
    position_or_len_is (λ n. n.number == number) nodes serial no_node (omega arith)
    (λ k lt. ne_eqb (node_in nodes k).number number (λ same. distinct k serial no_node lt within (same ∙ is)))
    (λ lt. eq-eqb (node_in nodes serial).number number (sym is)) in
    rw (first, lt-ltb serial (length nodes) within) refl

pub serial_found : (peers : ℕ) (nodes : List NodePart) (serial number : ℕ) → AreNodes peers nodes → serial < length nodes → number ≡ (node_in nodes serial).number → serial_of number nodes ≡ Some serial
serial_found peers nodes serial number are within is = distinct_found nodes serial number are.distinct within is

pub made_unknown : (peers number : ℕ) (nodes : List NodePart) → serial_of number nodes ≡ None → nodes ++ record { number = number; state = Live; counts = replicate peers 0; taken = false } ∷ [] ≡ with_made peers number nodes
made_unknown peers number nodes unknown = rw (unknown, with_made) refl

pub made_found : (peers number : ℕ) (nodes : List NodePart) → serial_of number nodes ≡ None → serial_of number (with_made peers number nodes) ≡ Some (length nodes)
made_found peers number nodes unknown =
    let new : NodePart = record { number = number; state = Live; counts = replicate peers 0; taken = false } in
    let first : position_or_len (λ n. n.number == number) (nodes ++ new ∷ []) ≡ length nodes =
    position_or_len_is (λ n. n.number == number) (nodes ++ new ∷ []) (length nodes) no_node (omega (arith, length-append nodes (new ∷ [])))
    (λ k lt. ap (λ (n : NodePart). n.number == number) (get_or_append_left nodes (new ∷ []) no_node k lt) ∙ ne_eqb (node_in nodes k).number number (unknown_at number nodes unknown k no_node lt))
    (λ lt. ap (λ (n : NodePart). n.number == number) (get_or-append_seam nodes new [] no_node) ∙ eq-eqb number number refl) in
    rw (sym (made_unknown peers number nodes unknown), first, lt-ltb (length nodes) (length (nodes ++ new ∷ [])) (omega (arith, length-append nodes (new ∷ [])))) refl

-- a passing node stays one, where the change keeps what passes
pub AllMade-set : (passes : NodePart → Bool) (f : NodePart → NodePart) (nodes : List NodePart) (serials : List ℕ) (serial : ℕ) (x y : NodePart) → ((n : NodePart) → passes n ≡ true → passes (f n) ≡ true) → serial < length nodes → x ≡ get_or nodes serial x → y ≡ f x → AllMade passes nodes serials → AllMade passes (set nodes serial y) serials
AllMade-set passes f nodes serials serial x y keeps within read is made =
    subst (λ (ns : List NodePart). AllMade passes ns serials) (sym (with_node_read nodes serial x y f within read is))
    (λ k d lt. (
      omega (arith, length-with_node nodes serial f, (made k d lt).0),
      node_in-with_node nodes serial (get_or serials k d) f (λ n. passes n ≡ true) (made k d lt).0 keeps (made k d lt).1,
    ))
