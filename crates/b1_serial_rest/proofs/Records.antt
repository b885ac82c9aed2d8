-- What the lines of handle records tell of the records: which nodes they hold, under which numbers, and how often.
use Rattle.std.proofs.Common.{◌≡◌, refl, sym, ap, ◌∙◌, subst, inl, inr, ℕ, ◌+◌, ◌<◌, ◌≤◌, ◌==◌, Bool, true, false, cond, ◌||◌, [], ◌∷◌, ◌++◌, map, Option, Some, None, is_some, arith}
use Rattle.std.specs.Prelude.{find}
use Rattle.std.proofs.lemmas.Bool.{ne_eqb}
use Rattle.b1_model.specs.declared.naming.NodeRef.{NodeRef}
use Rattle.b1_model.specs.MachineParts.{HandleRecord, same_ref, ref_before, record_of, record_or_none, no_record}
use Rattle.b1_model.specs.MachineTables.{held_node, is_number, changed_or_made, more_held}
use Rattle.b1_step.specs.Rights.{Has}
use Rattle.b1_step.specs.Ordered.{BehindNode, Rising}
use Rattle.b1_step.proofs.Orders.{same_ref_is}
use Rattle.b1_step.proofs.Lookups.{behind_node_trans, none_behind}
use Rattle.b1_inv_refs.proofs.Views.{Handles, or_none}
use Rattle.b1_serial_bus.specs.Parts.{HeldLine}
use Rattle.b1_serial_bus.specs.Named.{line_of, line_numbered}
use Rattle.b1_serial_bus.specs.References.{raised}
use Rattle.b1_serial_rest.specs.Standing.{line_under, put_line, with_line, lines_of}
use Rattle.b1_serial_rest.specs.Rest.{held_times}
use Rattle.b1_serial_rest.proofs.Lines.{Lines, put_has, put_raised, put_before, AreBelow, put_last, put_below, put_numbered, put_held}

-- the node of a line, if there is one
abbrev pub node_of_line : Option HeldLine → Option NodeRef
node_of_line found = elim found [ None ↦ None | Some l ↦ Some l.node ]

-- a number names the same node by the lines as by the records
pub lines_name : (n : ℕ) (hs : Handles) → node_of_line (line_numbered n (lines_of hs)) ≡ held_node n hs
lines_name n [] = refl
lines_name n (h ∷ rest) = by (lines_name n rest) h.number
  where
    found : node_of_line (line_numbered n (lines_of rest)) ≡ held_node n rest → (k : ℕ) (b : Bool) → node_of_line (cond b (Some (line_under k h)) (line_numbered n (lines_of rest))) ≡ elim (cond b (Some h) (find (is_number n) rest)) [ None ↦ None | Some g ↦ Some g.node ]
    found below k true = refl
    found below k false = below

    by : node_of_line (line_numbered n (lines_of rest)) ≡ held_node n rest → (r : Option ℕ) → node_of_line (line_numbered n (with_line r h (lines_of rest))) ≡ elim (cond (elim r [ None ↦ false | Some m ↦ m == n ]) (Some h) (find (is_number n) rest)) [ None ↦ None | Some g ↦ Some g.node ]
    by below None = below
    by below (Some k) = ap node_of_line (put_numbered n (line_under k h) (lines_of rest)) ∙ found below k (k == n)

-- no record of a node stands behind it
none_later : (node : NodeRef) (h : HandleRecord) (rest : Handles) → same_ref h.node node ≡ true → BehindNode h.node rest → record_of node rest ≡ None
none_later node h rest same behind = none_behind node rest (subst (λ n. BehindNode n rest) (same_ref_is h.node node same) behind)

-- a node has a line where its record has a number
pub lines_have : (node : NodeRef) (hs : Handles) → Rising hs → is_some (line_of node (lines_of hs)) ≡ is_some (record_or_none node hs).number
lines_have node [] up = refl
lines_have node (h ∷ rest) up = by (lines_have node rest up.1) (same_ref h.node node) refl
  where
    own : is_some (line_of node (lines_of rest)) ≡ false → (r : Option ℕ) → same_ref h.node node ≡ true → is_some (line_of node (with_line r h (lines_of rest))) ≡ is_some r
    own none None same = none
    own none (Some k) same = put_has node (line_under k h) (lines_of rest) ∙ ap (λ b. b || is_some (line_of node (lines_of rest))) same

    other : (r : Option ℕ) → same_ref h.node node ≡ false → is_some (line_of node (with_line r h (lines_of rest))) ≡ is_some (line_of node (lines_of rest))
    other None apart = refl
    other (Some k) apart = put_has node (line_under k h) (lines_of rest) ∙ ap (λ b. b || is_some (line_of node (lines_of rest))) apart

    by : is_some (line_of node (lines_of rest)) ≡ is_some (record_or_none node rest).number → (b : Bool) → same_ref h.node node ≡ b → is_some (line_of node (with_line h.number h (lines_of rest))) ≡ is_some (or_none node (cond b (Some h) (record_of node rest))).number
    by below true same = own (below ∙ ap (λ r. is_some (or_none node r).number) (none_later node h rest same up.0)) h.number same
    by below false apart = other h.number apart ∙ below

-- the lines hold a node as often as its record says
pub lines_held : (node : NodeRef) (hs : Handles) → Rising hs → ((h : HandleRecord) → Has hs h → h.number ≡ None → h.held ≡ 0) → held_times node (lines_of hs) ≡ (record_or_none node hs).held
lines_held node [] up unheld = refl
lines_held node (h ∷ rest) up unheld = by (lines_held node rest up.1 (λ g there. unheld g (inr there))) h.number refl (same_ref h.node node) refl
  where
    by : held_times node (lines_of rest) ≡ (record_or_none node rest).held → (r : Option ℕ) → h.number ≡ r → (b : Bool) → same_ref h.node node ≡ b → held_times node (with_line r h (lines_of rest)) ≡ (or_none node (cond b (Some h) (record_of node rest))).held
    by below None none true same = below ∙ ap (λ r. (or_none node r).held) (none_later node h rest same up.0) ∙ sym (unheld h (inl refl) none)
    by below None none false apart = below
    by below (Some k) is true same =
        let one = put_held node (line_under k h) (lines_of rest) in
        let two : cond (same_ref h.node node) h.held 0 ≡ h.held = ap (λ b. cond b h.held 0) same in
        let three : (record_or_none node rest).held ≡ 0 = ap (λ r. (or_none node r).held) (none_later node h rest same up.0) in
        omega (arith, one, two, three, below)
    by below (Some k) is false apart =
        let one = put_held node (line_under k h) (lines_of rest) in
        let two : cond (same_ref h.node node) h.held 0 ≡ 0 = ap (λ b. cond b h.held 0) apart in
        omega (arith, one, two, below)

-- raising a node's lines changes nothing where it has none
raised_none : (node : NodeRef) (ls : Lines) → is_some (line_of node ls) ≡ false → map (raised node) ls ≡ ls
raised_none node [] none = refl
raised_none node (l ∷ rest) none = by (raised_none node rest) (same_ref l.node node) none
  where
    by : (is_some (line_of node rest) ≡ false → map (raised node) rest ≡ rest) → (b : Bool) → is_some (cond b (Some l) (line_of node rest)) ≡ false → cond b (record l { held = l.held + 1 }) l ∷ map (raised node) rest ≡ l ∷ rest
    by later true some = absurd (cc some)
    by later false nothing = ap (λ ls. l ∷ ls) (later nothing)

-- a node that has a line is held once more: its lines are raised
pub lines_raised : (node : NodeRef) (number : ℕ) (hs : Handles) → Rising hs → ((h : HandleRecord) (k : ℕ) → Has hs h → h.number ≡ Some k → 1 ≤ h.held) → is_some (record_or_none node hs).number ≡ true → lines_of (changed_or_made node (more_held number) hs) ≡ map (raised node) (lines_of hs)
lines_raised node number [] up held has = absurd (cc has)
lines_raised node number (h ∷ rest) up held has = by (lines_raised node number rest up.1 (λ g k there. held g k (inr there))) (same_ref h.node node) refl has
  where
    -- the record's own line
    line_raised : (k : ℕ) (b : Bool) → same_ref h.node node ≡ b → raised node (line_under k h) ≡ cond b (line_under k (more_held number h)) (line_under k h)
    line_raised k true same = ap (λ b. cond b (record (line_under k h) { held = h.held + 1 }) (line_under k h)) same
    line_raised k false apart = ap (λ b. cond b (record (line_under k h) { held = h.held + 1 }) (line_under k h)) apart

    own : same_ref h.node node ≡ true → (r : Option ℕ) → h.number ≡ r → is_some r ≡ true → with_line (more_held number h).number (more_held number h) (lines_of rest) ≡ map (raised node) (with_line r h (lines_of rest))
    own same None none some = absurd (cc some)
    own same (Some k) is some =
        let positive = held h k (inl refl) is in
        let not_none : h.held == 0 ≡ false = ne_eqb h.held 0 (λ e. absurd (omega (arith, positive, e))) in
        let number_is : (more_held number h).number ≡ Some k = ap (λ b. cond b (Some number) h.number) not_none ∙ is in
        let none : is_some (line_of node (lines_of rest)) ≡ false = lines_have node rest up.1 ∙ ap (λ r. is_some (or_none node r).number) (none_later node h rest same up.0) in
        ap (λ r. with_line r (more_held number h) (lines_of rest)) number_is
        ∙ sym (put_raised node (line_under k h) (lines_of rest) ∙ ap (λ l. put_line l (map (raised node) (lines_of rest))) (line_raised k true same) ∙ ap (put_line (line_under k (more_held number h))) (raised_none node (lines_of rest) none))

    other : same_ref h.node node ≡ false → (r : Option ℕ) → with_line r h (map (raised node) (lines_of rest)) ≡ map (raised node) (with_line r h (lines_of rest))
    other apart None = refl
    other apart (Some k) = sym (put_raised node (line_under k h) (lines_of rest) ∙ ap (λ l. put_line l (map (raised node) (lines_of rest))) (line_raised k false apart))

    further : (is_some (record_or_none node rest).number ≡ true → lines_of (changed_or_made node (more_held number) rest) ≡ map (raised node) (lines_of rest)) → same_ref h.node node ≡ false → is_some (record_or_none node rest).number ≡ true
        → (c : Bool) → ref_before node h.node ≡ c → lines_of (cond c (more_held number (no_record node) ∷ h ∷ rest) (h ∷ changed_or_made node (more_held number) rest)) ≡ map (raised node) (lines_of (h ∷ rest))
    further later apart some true before =
        let none : record_of node rest ≡ None = none_behind node rest (behind_node_trans node h.node rest before up.0) in
        absurd (cc (sym some ∙ ap (λ r. is_some (or_none node r).number) none))
    further later apart some false behind = ap (with_line h.number h) (later some) ∙ other apart h.number

    by : (is_some (record_or_none node rest).number ≡ true → lines_of (changed_or_made node (more_held number) rest) ≡ map (raised node) (lines_of rest)) → (b : Bool) → same_ref h.node node ≡ b → is_some (or_none node (cond b (Some h) (record_of node rest))).number ≡ true
        → lines_of (cond b (more_held number h ∷ rest) (cond (ref_before node h.node) (more_held number (no_record node) ∷ h ∷ rest) (h ∷ changed_or_made node (more_held number) rest))) ≡ map (raised node) (lines_of (h ∷ rest))
    by later true same some = own same h.number refl some
    by later false apart some = further later apart some (ref_before node h.node) refl

-- the line of a node that wasn't held
abbrev pub first_line : ℕ → NodeRef → HeldLine
first_line number node = record { number = number; node = node; held = 1; dead = false }

-- lines of records below a number are below it
pub lines_below : (n : ℕ) (hs : Handles) → ((h : HandleRecord) (k : ℕ) → Has hs h → h.number ≡ Some k → k < n) → AreBelow n (lines_of hs)
lines_below n [] below = tt
lines_below n (h ∷ rest) below = by (lines_below n rest (λ g k there. below g k (inr there))) h.number refl
  where
    by : AreBelow n (lines_of rest) → (r : Option ℕ) → h.number ≡ r → AreBelow n (with_line r h (lines_of rest))
    by later None none = later
    by later (Some k) is = put_below n (line_under k h) (lines_of rest) (below h k (inl refl) is) later

-- a node that has no line is held: a line under the next number comes last
pub lines_new : (node : NodeRef) (number : ℕ) (hs : Handles) → Rising hs → ((h : HandleRecord) → Has hs h → h.number ≡ None → h.held ≡ 0) → ((h : HandleRecord) (k : ℕ) → Has hs h → h.number ≡ Some k → k < number) → (record_or_none node hs).dead ≡ false → is_some (record_or_none node hs).number ≡ false
    → lines_of (changed_or_made node (more_held number) hs) ≡ lines_of hs ++ first_line number node ∷ []
lines_new node number [] up unheld below alive none = refl
lines_new node number (h ∷ rest) up unheld below alive none = by (lines_new node number rest up.1 (λ g there. unheld g (inr there)) (λ g k there. below g k (inr there))) (same_ref h.node node) refl alive none
  where
    all_below : AreBelow number (lines_of (h ∷ rest))
    all_below = lines_below number (h ∷ rest) below

    own : same_ref h.node node ≡ true → h.dead ≡ false → (r : Option ℕ) → h.number ≡ r → is_some r ≡ false → with_line (more_held number h).number (more_held number h) (lines_of rest) ≡ with_line r h (lines_of rest) ++ first_line number node ∷ []
    own same fresh (Some k) is nothing = absurd (cc nothing)
    own same fresh None is nothing =
        let none_held = unheld h (inl refl) is in
        let number_is : (more_held number h).number ≡ Some number = ap (λ k. cond (k == 0) (Some number) h.number) none_held in
        let line_is : line_under number (more_held number h) ≡ first_line number node = ap (λ n. record (first_line number n) { held = h.held + 1; dead = h.dead }) (same_ref_is h.node node same) ∙ ap (λ k. record (first_line number node) { held = k + 1; dead = h.dead }) none_held ∙ ap (λ d. record (first_line number node) { dead = d }) fresh in
        ap (λ r. with_line r (more_held number h) (lines_of rest)) number_is ∙ ap (λ l. put_line l (lines_of rest)) line_is
        ∙ put_last (first_line number node) (lines_of rest) (lines_below number rest (λ g k there. below g k (inr there)))

    other : (r : Option ℕ) → h.number ≡ r → with_line r h (lines_of rest ++ first_line number node ∷ []) ≡ with_line r h (lines_of rest) ++ first_line number node ∷ []
    other None is = refl
    other (Some k) is = put_before (line_under k h) (first_line number node) (lines_of rest) (below h k (inl refl) is)

    further : lines_of (changed_or_made node (more_held number) rest) ≡ lines_of rest ++ first_line number node ∷ []
        → (c : Bool) → lines_of (cond c (more_held number (no_record node) ∷ h ∷ rest) (h ∷ changed_or_made node (more_held number) rest)) ≡ lines_of (h ∷ rest) ++ first_line number node ∷ []
    further later true = put_last (first_line number node) (lines_of (h ∷ rest)) all_below
    further later false = ap (with_line h.number h) later ∙ other h.number refl

    by : ((record_or_none node rest).dead ≡ false → is_some (record_or_none node rest).number ≡ false → lines_of (changed_or_made node (more_held number) rest) ≡ lines_of rest ++ first_line number node ∷ [])
        → (b : Bool) → same_ref h.node node ≡ b → (or_none node (cond b (Some h) (record_of node rest))).dead ≡ false → is_some (or_none node (cond b (Some h) (record_of node rest))).number ≡ false
        → lines_of (cond b (more_held number h ∷ rest) (cond (ref_before node h.node) (more_held number (no_record node) ∷ h ∷ rest) (h ∷ changed_or_made node (more_held number) rest))) ≡ lines_of (h ∷ rest) ++ first_line number node ∷ []
    by later true same fresh nothing = own same fresh h.number refl nothing
    by later false apart fresh nothing = further (later fresh nothing) (ref_before node h.node)
