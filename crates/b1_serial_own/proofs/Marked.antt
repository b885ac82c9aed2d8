-- What changes of handle records do to their lines, where they keep numbers, raise them, or mark them.
use Rattle.std.proofs.Common.{◌≡◌, refl, sym, ap, ◌∙◌, subst, inl, inr, ℕ, ◌≤◌, Bool, true, false, cond, nat_lt, List, [], ◌∷◌, map, Option, Some, None, is_some, option_map, arith}
use Rattle.b1_model.specs.declared.naming.NodeRef.{NodeRef}
use Rattle.b1_model.specs.MachineParts.{HandleRecord, same_ref, ref_before, record_of, record_or_none, no_record}
use Rattle.b1_model.specs.MachineTables.{is_needed, changed, changed_or_made, more_held, less_flight, unexpected}
use Rattle.b1_model.specs.MachineTables as tables
use Rattle.b1_step.specs.Rights.{Has}
use Rattle.b1_step.specs.Ordered.{BehindNode, Rising}
use Rattle.b1_step.proofs.Orders.{same_ref_is}
use Rattle.b1_step.proofs.Lookups.{behind_node_trans, none_behind, kept_by, rising_changed, own_changed, other_changed}
use Rattle.b1_inv.specs.Numbers.{AreNumbered}
use Rattle.b1_inv_refs.proofs.Views.{Handles, or_none, unneeded_held}
use Rattle.b1_inv_refs.proofs.Numbered.{numbers_same}
use Rattle.b1_serial_bus.specs.Parts.{HeldLine}
use Rattle.b1_serial_bus.specs.Named.{line_of}
use Rattle.b1_serial_bus.specs.Arrival.{made_dead}
use Rattle.b1_serial_rest.specs.Standing.{line_under, put_line, with_line, lines_of}
use Rattle.b1_serial_rest.proofs.Lines.{Lines}
use Rattle.b1_serial_rest.proofs.Records.{lines_have}

-- ---- a change that no line shows

module _ (node : NodeRef) (f : HandleRecord → HandleRecord) (same_node : (h : HandleRecord) → (f h).node ≡ h.node) (same_number : (h : HandleRecord) → (f h).number ≡ h.number)
    (same_held : (h : HandleRecord) → (f h).held ≡ h.held) (same_dead : (h : HandleRecord) → (f h).dead ≡ h.dead) where
  line_same : (h : HandleRecord) (ls : Lines) → with_line (f h).number (f h) ls ≡ with_line h.number h ls
  line_same h ls = ap (λ r. with_line r (f h) ls) (same_number h) ∙ by h.number
    where
      by : (r : Option ℕ) → with_line r (f h) ls ≡ with_line r h ls
      by None = refl
      by (Some k) =
          ap (λ n. put_line (record { number = k; node = n; held = (f h).held; dead = (f h).dead }) ls) (same_node h)
          ∙ ap (λ n. put_line (record { number = k; node = h.node; held = n; dead = (f h).dead }) ls) (same_held h)
          ∙ ap (λ b. put_line (record { number = k; node = h.node; held = h.held; dead = b }) ls) (same_dead h)

  pub lines_kept : (hs : Handles) → ((h : HandleRecord) (k : ℕ) → Has hs h → h.number ≡ Some k → 1 ≤ h.held) → lines_of (changed node f hs) ≡ lines_of hs
  lines_kept [] held = refl
  lines_kept (h ∷ rest) held = by (lines_kept rest (λ g k there. held g k (inr there))) (same_ref h.node node)
    where
      gone : is_needed (f h) ≡ false → (r : Option ℕ) → h.number ≡ r → lines_of rest ≡ with_line r h (lines_of rest)
      gone unneeded None is = refl
      gone unneeded (Some k) is =
          let none = unneeded_held (f h) unneeded in
          let some = held h k (inl refl) is in
          let same = same_held h in
          absurd (omega (arith, none, some, same))

      own : (b : Bool) → is_needed (f h) ≡ b → lines_of (cond b (f h ∷ rest) rest) ≡ lines_of (h ∷ rest)
      own true is = line_same h (lines_of rest)
      own false is = gone is h.number refl

      by : lines_of (changed node f rest) ≡ lines_of rest → (b : Bool) → lines_of (cond b (cond (is_needed (f h)) (f h ∷ rest) rest) (h ∷ changed node f rest)) ≡ lines_of (h ∷ rest)
      by further true = own (is_needed (f h)) refl
      by further false = ap (with_line h.number h) further

-- entries that carry nodes leave
pub lines_unexpected : (given : ℕ) (nodes : List NodeRef) (hs : Handles) → AreNumbered given hs → lines_of (unexpected nodes hs) ≡ lines_of hs
lines_unexpected given [] hs numbered = refl
lines_unexpected given (n ∷ rest) hs numbered =
    lines_unexpected given rest (changed n less_flight hs) (numbers_same given n less_flight (λ h. refl) (λ h. refl) (λ h. refl) hs numbered)
    ∙ lines_kept n less_flight (λ h. refl) (λ h. refl) (λ h. refl) (λ h. refl) hs (λ h k there is. (numbered.held h k there is).0)

pub numbers_unexpected : (given : ℕ) (nodes : List NodeRef) (hs : Handles) → AreNumbered given hs → AreNumbered given (unexpected nodes hs)
numbers_unexpected given [] hs numbered = numbered
numbers_unexpected given (n ∷ rest) hs numbered = numbers_unexpected given rest (changed n less_flight hs) (numbers_same given n less_flight (λ h. refl) (λ h. refl) (λ h. refl) hs numbered)

-- ---- whether a record is dead

-- a change that marks no record
pub alive_kept : (node m : NodeRef) (f : HandleRecord → HandleRecord) → ((h : HandleRecord) → (f h).node ≡ h.node) → ((h : HandleRecord) → (f h).dead ≡ h.dead) → (hs : Handles) → Rising hs → (record_or_none m hs).dead ≡ false → (record_or_none m (changed node f hs)).dead ≡ false
alive_kept node m f same_node same_dead hs up alive = by (same_ref node m) refl
  where
    kept : (h : HandleRecord) → h.dead ≡ false → (b : Bool) → (or_none m (cond b (Some (f h)) None)).dead ≡ false
    kept h lives true = same_dead h ∙ lives
    kept h lives false = refl

    own : (r : Option HandleRecord) → (or_none m r).dead ≡ false → (or_none m (kept_by f r)).dead ≡ false
    own None lives = refl
    own (Some h) lives = kept h lives (is_needed (f h))

    by : (b : Bool) → same_ref node m ≡ b → (record_or_none m (changed node f hs)).dead ≡ false
    by true is =
        let same = same_ref_is node m is in
        ap (λ n. (record_or_none m (changed n f hs)).dead) same ∙ ap (λ r. (or_none m r).dead) (own_changed m f same_node hs up) ∙ own (record_of m hs) alive
    by false is = ap (λ r. (or_none m r).dead) (other_changed node f same_node m is hs) ∙ alive

pub alive_unexpected : (m : NodeRef) (nodes : List NodeRef) (hs : Handles) → Rising hs → (record_or_none m hs).dead ≡ false → (record_or_none m (unexpected nodes hs)).dead ≡ false
alive_unexpected m [] hs up alive = alive
alive_unexpected m (n ∷ rest) hs up alive = alive_unexpected m rest (changed n less_flight hs) (rising_changed n less_flight (λ h. refl) hs up) (alive_kept n m less_flight (λ h. refl) (λ h. refl) hs up alive)

-- ---- a node's line is marked

marked_number : (node : NodeRef) (l : HeldLine) → (made_dead node l).number ≡ l.number
marked_number node l = elim (same_ref l.node node) as (λ b. (cond b (record l { dead = true }) l).number ≡ l.number) [ true ↦ refl | false ↦ refl ]

put_marked : (node : NodeRef) (l : HeldLine) (ls : Lines) → map (made_dead node) (put_line l ls) ≡ put_line (made_dead node l) (map (made_dead node) ls)
put_marked node l [] = refl
put_marked node l (m ∷ rest) =
    by (put_marked node l rest) (nat_lt m.number l.number)
    ∙ ap (λ b. cond b (made_dead node m ∷ put_line (made_dead node l) (map (made_dead node) rest)) (made_dead node l ∷ made_dead node m ∷ map (made_dead node) rest))
    (ap (λ n. nat_lt n l.number) (sym (marked_number node m)) ∙ ap (nat_lt (made_dead node m).number) (sym (marked_number node l)))
  where
    by : map (made_dead node) (put_line l rest) ≡ put_line (made_dead node l) (map (made_dead node) rest) → (b : Bool) → map (made_dead node) (cond b (m ∷ put_line l rest) (l ∷ m ∷ rest)) ≡ cond b (made_dead node m ∷ put_line (made_dead node l) (map (made_dead node) rest)) (made_dead node l ∷ made_dead node m ∷ map (made_dead node) rest)
    by below true = ap (λ ls. made_dead node m ∷ ls) below
    by below false = refl

-- marking changes nothing where a node has no line
pub marked_none : (node : NodeRef) (ls : Lines) → is_some (line_of node ls) ≡ false → map (made_dead node) ls ≡ ls
marked_none node [] none = refl
marked_none node (l ∷ rest) none = by (marked_none node rest) (same_ref l.node node) none
  where
    by : (is_some (line_of node rest) ≡ false → map (made_dead node) rest ≡ rest) → (b : Bool) → is_some (cond b (Some l) (line_of node rest)) ≡ false → cond b (record l { dead = true }) l ∷ map (made_dead node) rest ≡ l ∷ rest
    by later true some = absurd (cc some)
    by later false nothing = ap (λ ls. l ∷ ls) (later nothing)

pub lines_marked : (node : NodeRef) (hs : Handles) → Rising hs → ((h : HandleRecord) (k : ℕ) → Has hs h → h.number ≡ Some k → 1 ≤ h.held) → lines_of (changed node tables.made_dead hs) ≡ map (made_dead node) (lines_of hs)
lines_marked node [] up held = refl
lines_marked node (h ∷ rest) up held = by (lines_marked node rest up.1 (λ g k there. held g k (inr there))) (same_ref h.node node) refl
  where
    line_marked : (k : ℕ) (b : Bool) → same_ref h.node node ≡ b → made_dead node (line_under k h) ≡ cond b (line_under k (tables.made_dead h)) (line_under k h)
    line_marked k true same = ap (λ b. cond b (record (line_under k h) { dead = true }) (line_under k h)) same
    line_marked k false apart = ap (λ b. cond b (record (line_under k h) { dead = true }) (line_under k h)) apart

    none_there : same_ref h.node node ≡ true → is_some (line_of node (lines_of rest)) ≡ false
    none_there same = lines_have node rest up.1 ∙ ap (λ r. is_some (or_none node r).number) (none_behind node rest (subst (λ n. BehindNode n rest) (same_ref_is h.node node same) up.0))

    own : same_ref h.node node ≡ true → (r : Option ℕ) → with_line r (tables.made_dead h) (lines_of rest) ≡ map (made_dead node) (with_line r h (lines_of rest))
    own same None = sym (marked_none node (lines_of rest) (none_there same))
    own same (Some k) =
        sym (put_marked node (line_under k h) (lines_of rest)
        ∙ ap (λ l. put_line l (map (made_dead node) (lines_of rest))) (line_marked k true same)
        ∙ ap (put_line (line_under k (tables.made_dead h))) (marked_none node (lines_of rest) (none_there same)))

    gone : same_ref h.node node ≡ true → is_needed (tables.made_dead h) ≡ false → (r : Option ℕ) → h.number ≡ r → lines_of rest ≡ map (made_dead node) (with_line r h (lines_of rest))
    gone same unneeded None is = sym (marked_none node (lines_of rest) (none_there same))
    gone same unneeded (Some k) is =
        let none = unneeded_held (tables.made_dead h) unneeded in
        let some = held h k (inl refl) is in
        absurd (omega (arith, none, some))

    by_need : same_ref h.node node ≡ true → (b : Bool) → is_needed (tables.made_dead h) ≡ b → lines_of (cond b (tables.made_dead h ∷ rest) rest) ≡ map (made_dead node) (lines_of (h ∷ rest))
    by_need same true is = own same h.number
    by_need same false is = gone same is h.number refl

    other : same_ref h.node node ≡ false → (r : Option ℕ) → with_line r h (map (made_dead node) (lines_of rest)) ≡ map (made_dead node) (with_line r h (lines_of rest))
    other apart None = refl
    other apart (Some k) = sym (put_marked node (line_under k h) (lines_of rest) ∙ ap (λ l. put_line l (map (made_dead node) (lines_of rest))) (line_marked k false apart))

    by : lines_of (changed node tables.made_dead rest) ≡ map (made_dead node) (lines_of rest) → (b : Bool) → same_ref h.node node ≡ b
        → lines_of (cond b (cond (is_needed (tables.made_dead h)) (tables.made_dead h ∷ rest) rest) (h ∷ changed node tables.made_dead rest)) ≡ map (made_dead node) (lines_of (h ∷ rest))
    by further true same = by_need same (is_needed (tables.made_dead h)) refl
    by further false apart = ap (with_line h.number h) further ∙ other apart h.number

-- ---- a reference comes to a record that is there

-- the flight isn't shown
line_alike : (number : ℕ) (h : HandleRecord) (ls : Lines) (r : Option ℕ) → with_line r (more_held number (less_flight h)) ls ≡ with_line r (more_held number h) ls
line_alike number h ls None = refl
line_alike number h ls (Some k) = refl

pub lines_come : (node : NodeRef) (number : ℕ) (hs : Handles) → Rising hs → is_some (record_of node hs) ≡ true → lines_of (changed node (λ g. more_held number (less_flight g)) hs) ≡ lines_of (changed_or_made node (more_held number) hs)
lines_come node number [] up there = absurd (cc there)
lines_come node number (h ∷ rest) up there = by (lines_come node number rest up.1) (same_ref h.node node) refl there
  where
    needed : is_needed (more_held number (less_flight h)) ≡ true
    needed = grind arith

    before : (c : Bool) → ref_before node h.node ≡ c → is_some (record_of node rest) ≡ true → lines_of (changed node (λ g. more_held number (less_flight g)) rest) ≡ lines_of (changed_or_made node (more_held number) rest)
        → with_line h.number h (lines_of (changed node (λ g. more_held number (less_flight g)) rest)) ≡ lines_of (cond c (more_held number (no_record node) ∷ h ∷ rest) (h ∷ changed_or_made node (more_held number) rest))
    before true is some further = absurd (cc (sym some ∙ ap is_some (none_behind node rest (behind_node_trans node h.node rest is up.0))))
    before false is some further = ap (with_line h.number h) further

    by : (is_some (record_of node rest) ≡ true → lines_of (changed node (λ g. more_held number (less_flight g)) rest) ≡ lines_of (changed_or_made node (more_held number) rest)) → (b : Bool) → same_ref h.node node ≡ b → is_some (cond b (Some h) (record_of node rest)) ≡ true
        → lines_of (cond b (cond (is_needed (more_held number (less_flight h))) (more_held number (less_flight h) ∷ rest) rest) (h ∷ changed node (λ g. more_held number (less_flight g)) rest))
        ≡ lines_of (cond b (more_held number h ∷ rest) (cond (ref_before node h.node) (more_held number (no_record node) ∷ h ∷ rest) (h ∷ changed_or_made node (more_held number) rest)))
    by further true same some = ap (λ b. lines_of (cond b (more_held number (less_flight h) ∷ rest) rest)) needed ∙ line_alike number h (lines_of rest) (more_held number h).number
    by further false apart some = before (ref_before node h.node) refl some (further some)

-- ---- the number of a node's line

put_own : (node : NodeRef) (l : HeldLine) (ls : Lines) → same_ref l.node node ≡ true → is_some (line_of node ls) ≡ false → line_of node (put_line l ls) ≡ Some l
put_own node l [] same none = ap (λ b. cond b (Some l) None) same
put_own node l (m ∷ rest) same none = at (nat_lt m.number l.number) ∙ by (put_own node l rest same) (same_ref m.node node) none (nat_lt m.number l.number)
  where
    by : (is_some (line_of node rest) ≡ false → line_of node (put_line l rest) ≡ Some l) → (c : Bool) → is_some (cond c (Some m) (line_of node rest)) ≡ false → (b : Bool)
        → cond b (cond c (Some m) (line_of node (put_line l rest))) (cond (same_ref l.node node) (Some l) (cond c (Some m) (line_of node rest))) ≡ Some l
    by further true some b = absurd (cc some)
    by further false nothing true = further nothing
    by further false nothing false = ap (λ d. cond d (Some l) (line_of node rest)) same

    at : (b : Bool) → line_of node (cond b (m ∷ put_line l rest) (l ∷ m ∷ rest)) ≡ cond b (cond (same_ref m.node node) (Some m) (line_of node (put_line l rest))) (cond (same_ref l.node node) (Some l) (cond (same_ref m.node node) (Some m) (line_of node rest)))
    at true = refl
    at false = refl

put_other : (node : NodeRef) (l : HeldLine) (ls : Lines) → same_ref l.node node ≡ false → line_of node (put_line l ls) ≡ line_of node ls
put_other node l [] apart = ap (λ b. cond b (Some l) None) apart
put_other node l (m ∷ rest) apart = by (put_other node l rest apart) (nat_lt m.number l.number)
  where
    by : line_of node (put_line l rest) ≡ line_of node rest → (b : Bool) → line_of node (cond b (m ∷ put_line l rest) (l ∷ m ∷ rest)) ≡ line_of node (m ∷ rest)
    by further true = ap (λ r. cond (same_ref m.node node) (Some m) r) further
    by further false = ap (λ b. cond b (Some l) (line_of node (m ∷ rest))) apart

pub line_number : (node : NodeRef) (hs : Handles) → Rising hs → option_map (λ l. l.number) (line_of node (lines_of hs)) ≡ (record_or_none node hs).number
line_number node [] up = refl
line_number node (h ∷ rest) up = by (line_number node rest up.1) (same_ref h.node node) refl
  where
    nothing : same_ref h.node node ≡ true → record_of node rest ≡ None
    nothing same = none_behind node rest (subst (λ n. BehindNode n rest) (same_ref_is h.node node same) up.0)

    none_there : same_ref h.node node ≡ true → is_some (line_of node (lines_of rest)) ≡ false
    none_there same = lines_have node rest up.1 ∙ ap (λ r. is_some (or_none node r).number) (nothing same)

    own : option_map (λ l. l.number) (line_of node (lines_of rest)) ≡ (record_or_none node rest).number → same_ref h.node node ≡ true → (r : Option ℕ) → option_map (λ l. l.number) (line_of node (with_line r h (lines_of rest))) ≡ r
    own further same None = further ∙ ap (λ r. (or_none node r).number) (nothing same)
    own further same (Some k) = ap (option_map (λ l. l.number)) (put_own node (line_under k h) (lines_of rest) same (none_there same))

    other : same_ref h.node node ≡ false → (r : Option ℕ) → line_of node (with_line r h (lines_of rest)) ≡ line_of node (lines_of rest)
    other apart None = refl
    other apart (Some k) = put_other node (line_under k h) (lines_of rest) apart

    by : option_map (λ l. l.number) (line_of node (lines_of rest)) ≡ (record_or_none node rest).number → (b : Bool) → same_ref h.node node ≡ b → option_map (λ l. l.number) (line_of node (lines_of (h ∷ rest))) ≡ (or_none node (cond b (Some h) (record_of node rest))).number
    by further true same = own further same h.number
    by further false apart = ap (option_map (λ l. l.number)) (other apart h.number) ∙ further
