-- What a flush gives up: on the machine items of references, on the serial bus the references of the box and of the lines.
use Rattle.std.proofs.Common.{◌≡◌, ◌≢◌, ◌⊎◌, refl, sym, ap, ◌∙◌, subst, inl, inr, ℕ, zero, suc, ◌+◌, ◌<◌, ◌≤◌, Bool, true, false, cond, nat_lt, List, [], ◌∷◌, ◌++◌, map, find, filter_map, flat_map, Option, Some, None, option_map, append_assoc, append-nil, arith}
use Rattle.std.proofs.lemmas.List.{map-append}
use Rattle.std.specs.List.{range_with_len, cons_option}
use Rattle.std.proofs.lemmas.Bool.{cases_eq, eq-eqb, ne_eqb, ltb-true, ltb-false}
use Rattle.b1_model.specs.declared.naming.Key.{Key}
use Rattle.b1_model.specs.declared.naming.NodeRef.{NodeRef}
use Rattle.b1_model.specs.declared.entries.Entry.{Entry}
use Rattle.b1_model.specs.MachineParts.{HandleRecord, same_ref, is_staged}
use Rattle.b1_model.specs.MachineTables.{held_node, is_number, next_number}
use Rattle.b1_model.specs.MachineReceive.{references, with_item}
use Rattle.b1_model.specs.MachineDestroy.{queued_items, held_item, held_items}
use Rattle.b1_step.specs.Rights.{Has}
use Rattle.b1_step.specs.Ordered.{Rising}
use Rattle.b1_inv.specs.Numbers.{WasGiven, AreNumbered}
use Rattle.b1_inv_refs.proofs.Views.{Handles}
use Rattle.b1_inv_refs.proofs.GivenUp.{found_none, one_record}
use Rattle.b1_step.proofs.Lookups.{none_behind}
use Rattle.b1_step.proofs.Orders.{same_ref_itself}
use Rattle.b1_serial_bus.specs.Parts.{HeldLine}
use Rattle.b1_serial_bus.specs.Named.{line_numbered}
use Rattle.b1_serial_bus.specs.References.{boxed_references}
use Rattle.b1_serial_rest.specs.Standing.{line_under, put_line, with_line, lines_of}
use Rattle.b1_serial_rest.proofs.Lines.{Lines}
use Rattle.b1_serial_rest.proofs.Records.{node_of_line, lines_name}
use Rattle.b1_serial_own.proofs.Sorted.{NoneNumbered}
use Rattle.b1_serial_own.proofs.Lowered.{none_numbered}
use Rattle.b1_serial_own.proofs.Drops.{Refs}
use Rattle.b1_serial_own.proofs.Flushes.{Items, all_refs}

-- the nodes of references
abbrev pub nodes_of : Refs → List NodeRef
nodes_of refs = map (λ (r : NodeRef × ℕ). r.0) refs

refs_append : (a b : Items) → all_refs (a ++ b) ≡ all_refs a ++ all_refs b
refs_append [] b = refl
refs_append (item ∷ a) b = ap (λ l. item ++ l) (refs_append a b) ∙ sym (append_assoc item (all_refs a) (all_refs b))

-- ---- the queue

refs_item : (refs : Refs) (items : Items) → all_refs (with_item refs items) ≡ all_refs items ++ refs
refs_item [] items = sym (append-nil (all_refs items))
refs_item (r ∷ rest) items = refs_append items ((r ∷ rest) ∷ []) ∙ ap (λ l. all_refs items ++ l) (append-nil (r ∷ rest))

queue_refs : (queue : List (Key × Entry)) (items : Items) → ((f : Key × Entry) → Has queue f → is_staged f ≡ false) → nodes_of (all_refs (queued_items queue items)) ≡ nodes_of (all_refs items) ++ flat_map boxed_references queue
queue_refs [] items even = sym (append-nil (nodes_of (all_refs items)))
queue_refs (f ∷ rest) items even =
    ap (λ b. nodes_of (all_refs (queued_items rest (cond b items (with_item (references f.1) items))))) (even f (inl refl))
    ∙ queue_refs rest (with_item (references f.1) items) (λ g there. even g (inr there))
    ∙ ap (λ l. nodes_of l ++ flat_map boxed_references rest) (refs_item (references f.1) items)
    ∙ ap (λ l. l ++ flat_map boxed_references rest) (map-append (λ (r : NodeRef × ℕ). r.0) (all_refs items) (references f.1))
    ∙ append_assoc (nodes_of (all_refs items)) (boxed_references f) (flat_map boxed_references rest)

-- ---- the lines, each with a number of its own

-- all numbers are above one
abbrev AllAbove : ℕ → Lines → Type 0
AllAbove n [] = Unit {0}
AllAbove n (l ∷ rest) = n < l.number × AllAbove n rest

abbrev Strict : Lines → Type 0
Strict [] = Unit {0}
Strict (l ∷ rest) = AllAbove l.number rest × Strict rest

above_less : (m n : ℕ) (ls : Lines) → m ≤ n → AllAbove n ls → AllAbove m ls
above_less m n [] less above = tt
above_less m n (l ∷ rest) less above = let one = above.0 in (omega (arith, less, one), above_less m n rest less above.1)

put_above : (n : ℕ) (l : HeldLine) (ls : Lines) → n < l.number → AllAbove n ls → AllAbove n (put_line l ls)
put_above n l [] less above = (less, tt)
put_above n l (m ∷ rest) less above = elim (nat_lt m.number l.number) as (λ b. AllAbove n (cond b (m ∷ put_line l rest) (l ∷ m ∷ rest))) [ true ↦ (above.0, put_above n l rest less above.1) | false ↦ (less, above) ]

put_strict : (l : HeldLine) (ls : Lines) → NoneNumbered l.number ls → Strict ls → Strict (put_line l ls)
put_strict l [] none up = (tt, tt)
put_strict l (m ∷ rest) none up = by (put_strict l rest none.1 up.1) (nat_lt m.number l.number) refl
  where
    by : Strict (put_line l rest) → (b : Bool) → nat_lt m.number l.number ≡ b → Strict (cond b (m ∷ put_line l rest) (l ∷ m ∷ rest))
    by further true is = (put_above m.number l rest (ltb-true m.number l.number is) up.0, further)
    by further false is =
        let most = ltb-false m.number l.number is in
        let apart = none.0 in
        let less : l.number < m.number = omega (arith, most, apart) in
        ((less, above_less l.number m.number rest (omega (arith, less)) up.0), up)

lines_strict : (given : ℕ) (hs : Handles) → Rising hs → AreNumbered given hs → Strict (lines_of hs)
lines_strict given [] up numbered = tt
lines_strict given (h ∷ rest) up numbered = by (lines_strict given rest up.1 later) h.number refl
  where
    later : AreNumbered given rest
    later = record { unheld = λ g there. numbered.unheld g (inr there); held = λ g k there is. numbered.held g k (inr there) is; apart = λ g k n a b. numbered.apart g k n (inr a) (inr b) }

    by : Strict (lines_of rest) → (r : Option ℕ) → h.number ≡ r → Strict (with_line r h (lines_of rest))
    by further None is = further
    by further (Some k) is =
        put_strict (line_under k h) (lines_of rest)
        (none_numbered k rest (λ g there numbered_so.
        let same = one_record (h ∷ rest) g h up (inr there) (inl refl) (numbered.apart g h k (inr there) (inl refl) numbered_so is) in
        absurd (not_later g there same)))
        further
      where
        not_later : (g : HandleRecord) → Has rest g → g ≡ h → ⊥
        not_later g there same = absurd (cc (sym (found_none (λ n. same_ref n.node h.node) rest g (none_behind h.node rest up.0) there) ∙ ap (λ n. same_ref n.node h.node) same ∙ same_ref_itself h.node))

-- each line has a number that was given from one on, of so many
abbrev AllGiven : ℕ → ℕ → Lines → Type 0
AllGiven from len [] = Unit {0}
AllGiven from len (l ∷ rest) = ((g : ℕ) × (from ≤ g) × (g < from + len) × (l.number ≡ next_number g)) × AllGiven from len rest

given_put : (from len : ℕ) (l : HeldLine) (ls : Lines) → (g : ℕ) × (from ≤ g) × (g < from + len) × (l.number ≡ next_number g) → AllGiven from len ls → AllGiven from len (put_line l ls)
given_put from len l [] one all = (one, tt)
given_put from len l (m ∷ rest) one all = elim (nat_lt m.number l.number) as (λ b. AllGiven from len (cond b (m ∷ put_line l rest) (l ∷ m ∷ rest))) [ true ↦ (all.0, given_put from len l rest one all.1) | false ↦ (one, all) ]

lines_given : (given : ℕ) (hs : Handles) → ((h : HandleRecord) (number : ℕ) → Has hs h → h.number ≡ Some number → WasGiven given number) → AllGiven 0 given (lines_of hs)
lines_given given [] all = tt
lines_given given (h ∷ rest) all = by (lines_given given rest (λ g k there is. all g k (inr there) is)) h.number refl
  where
    by : AllGiven 0 given (lines_of rest) → (r : Option ℕ) → h.number ≡ r → AllGiven 0 given (with_line r h (lines_of rest))
    by further None is = further
    by further (Some k) is = let g = all h k (inl refl) is in given_put 0 given (line_under k h) (lines_of rest) (g.0, omega arith, (let less = g.1 in omega (arith, less)), g.2) further

-- lines behind a number have later ones
given_later : (from len : ℕ) (ls : Lines) → AllAbove (next_number from) ls → AllGiven from (suc len) ls → AllGiven (from + 1) len ls
given_later from len [] above all = tt
given_later from len (l ∷ rest) above all =
    let g = all.0 in
    let less = above.0 in
    let same : l.number ≡ next_number g.0 = g.3 in
    let low : from + 1 ≤ g.0 = omega (arith, less, same) in
    let high : g.0 < from + 1 + len = (let h = g.2 in omega (arith, h)) in
    ((g.0, low, high, g.3), given_later from len rest above.1 all.1)

-- what a list of numbers names
abbrev named_by : Lines → List ℕ → List NodeRef
named_by ls gs = filter_map (λ g. node_of_line (line_numbered (next_number g) ls)) gs

named_none : (gs : List ℕ) → named_by [] gs ≡ []
named_none [] = refl
named_none (g ∷ rest) = named_none rest

-- a first line that none of the numbers names
named_later : (l : HeldLine) (ls : Lines) (from len : ℕ) → ((g : ℕ) → from ≤ g → l.number ≢ next_number g) → named_by (l ∷ ls) (range_with_len from len) ≡ named_by ls (range_with_len from len)
named_later l ls from zero apart = refl
named_later l ls from (suc len) apart =
    ap (λ b. cons_option (node_of_line (cond b (Some l) (line_numbered (next_number from) ls))) (named_by (l ∷ ls) (range_with_len (from + 1) len))) (ne_eqb l.number (next_number from) (apart from (omega arith)))
    ∙ ap (cons_option (node_of_line (line_numbered (next_number from) ls))) (named_later l ls (from + 1) len (λ g low. apart g (omega (arith, low))))

none_first : (n : ℕ) (ls : Lines) → AllAbove n ls → line_numbered n ls ≡ None
none_first n [] above = refl
none_first n (l ∷ rest) above = let less = above.0 in ap (λ b. cond b (Some l) (line_numbered n rest)) (ne_eqb l.number n (λ e. absurd (omega (arith, less, e)))) ∙ none_first n rest above.1

line_refs : (len from : ℕ) (ls : Lines) → Strict ls → AllGiven from len ls → named_by ls (range_with_len from len) ≡ map (λ (l : HeldLine). l.node) ls
line_refs zero from [] up all = refl
line_refs zero from (l ∷ rest) up all = let g = all.0 in let low = g.1 in let high = g.2 in absurd (omega (arith, low, high))
line_refs (suc len) from [] up all = named_none (range_with_len (from + 1) len)
line_refs (suc len) from (l ∷ rest) up all = by (cases_eq l.number (next_number from)) (line_refs len (from + 1) rest up.1) (line_refs len (from + 1) (l ∷ rest) up)
  where
    by : (l.number ≡ next_number from) ⊎ (l.number ≢ next_number from)
        → (AllGiven (from + 1) len rest → named_by rest (range_with_len (from + 1) len) ≡ map (λ (m : HeldLine). m.node) rest)
        → (AllGiven (from + 1) len (l ∷ rest) → named_by (l ∷ rest) (range_with_len (from + 1) len) ≡ l.node ∷ map (λ (m : HeldLine). m.node) rest)
        → named_by (l ∷ rest) (range_with_len from (suc len)) ≡ l.node ∷ map (λ (m : HeldLine). m.node) rest
    by (inl same) first later =
        ap (λ b. cons_option (node_of_line (cond b (Some l) (line_numbered (next_number from) rest))) (named_by (l ∷ rest) (range_with_len (from + 1) len))) (eq-eqb l.number (next_number from) same)
        ∙ ap (λ ns. l.node ∷ ns)
        (named_later l rest (from + 1) len (λ g low e. absurd (omega (arith, low, e, same)))
        ∙ first (given_later from len rest (subst (λ n. AllAbove n rest) same up.0) all.1))
    by (inr apart) first later =
        let g = all.0 in
        let low = g.1 in
        let number : l.number ≡ next_number g.0 = g.3 in
        let less : next_number from < l.number = omega (arith, low, number, apart) in
        ap (λ r. cons_option (node_of_line r) (named_by (l ∷ rest) (range_with_len (from + 1) len))) (none_first (next_number from) (l ∷ rest) (less, above_less (next_number from) l.number rest (omega (arith, less)) up.0))
        ∙ later (given_later from len (l ∷ rest) (less, above_less (next_number from) l.number rest (omega (arith, less)) up.0) all)

-- ---- both

held_refs : (hs : Handles) (gs : List ℕ) → nodes_of (all_refs (filter_map (λ g. held_item hs (next_number g)) gs)) ≡ filter_map (λ g. held_node (next_number g) hs) gs
held_refs hs [] = refl
held_refs hs (g ∷ rest) = by (find (is_number (next_number g)) hs) (held_refs hs rest)
  where
    by : (r : Option HandleRecord) → nodes_of (all_refs (filter_map (λ g. held_item hs (next_number g)) rest)) ≡ filter_map (λ g. held_node (next_number g) hs) rest
        → nodes_of (all_refs (cons_option (option_map (λ (h : HandleRecord). (h.node, h.held) ∷ []) r) (filter_map (λ g. held_item hs (next_number g)) rest)))
        ≡ cons_option (elim r [ None ↦ None | Some h ↦ Some h.node ]) (filter_map (λ g. held_node (next_number g) hs) rest)
    by None further = further
    by (Some h) further = ap (λ l. h.node ∷ l) further

same_names : (hs : Handles) (gs : List ℕ) → filter_map (λ g. held_node (next_number g) hs) gs ≡ named_by (lines_of hs) gs
same_names hs [] = refl
same_names hs (g ∷ rest) = ap (λ r. cons_option r (filter_map (λ g. held_node (next_number g) hs) rest)) (sym (lines_name (next_number g) hs)) ∙ ap (cons_option (node_of_line (line_numbered (next_number g) (lines_of hs)))) (same_names hs rest)

-- the items of a flush are the references of the box and of the lines
pub items_refs : (queue : List (Key × Entry)) (given : ℕ) (hs : Handles) → ((f : Key × Entry) → Has queue f → is_staged f ≡ false) → Rising hs → AreNumbered given hs
    → nodes_of (all_refs (queued_items queue [] ++ held_items given hs)) ≡ flat_map boxed_references queue ++ map (λ (l : HeldLine). l.node) (lines_of hs)
items_refs queue given hs even up numbered =
    ap nodes_of (refs_append (queued_items queue []) (held_items given hs))
    ∙ map-append (λ (r : NodeRef × ℕ). r.0) (all_refs (queued_items queue [])) (all_refs (held_items given hs))
    ∙ ap (λ l. l ++ nodes_of (all_refs (held_items given hs))) (queue_refs queue [] even)
    ∙ ap (λ l. flat_map boxed_references queue ++ l)
    (held_refs hs (range_with_len 0 given) ∙ same_names hs (range_with_len 0 given)
    ∙ line_refs given 0 (lines_of hs) (lines_strict given hs up numbered) (lines_given given hs (λ h k there is. (numbered.held h k there is).1)))
