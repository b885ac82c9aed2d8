-- Each node that a record's tables, messages and destructions name was made by its owner, in an epoch that the owner reached.
use Rattle.std.specs.Prelude.{◌≡◌, refl, ℕ, zero, suc, pred, ◌+◌, ◌≤◌, Bool, true, false, not, ◌&&◌, cond, if◌then◌else◌, ◌==◌, List, [], ◌∷◌, ◌++◌, map, filter, find, length, take, slice_get, Option, Some, None, option_and_then, is_some, ⊤}
use Rattle.std.specs.Option.{option_flatten}
use Rattle.std.proofs.lemmas.Option.{same_Some}
use Rattle.std.proofs.Common.{arith, inl, inr, subst, sym, ap, ◌∙◌}
use Rattle.b1_model.specs.declared.naming.Key.{Key}
use Rattle.b1_model.specs.declared.naming.Wire.{Wire}
use Rattle.b1_model.specs.declared.commands.Command.{Command}
use Rattle.b1_model.specs.declared.commands.Command.TheVariants as cmd
use Rattle.b1_model.specs.declared.answers.Receipt.TheVariants as rec
use Rattle.b1_model.specs.declared.answers.Answer.{Answer}
use Rattle.b1_model.specs.declared.answers.Answer.TheVariants as ans
use Rattle.b1_model.specs.declared.records.Call.{Call}
use Rattle.b1_model.specs.declared.records.Record.{Record}
use Rattle.b1_model.specs.Names.{is_own, is_given, Node, Name, is_known, add_new, wired, calls_of, is_flush, next_epoch, carried_by, made_in, made, epoch_in, epoch_at, own_node, nodes_from}
use Rattle.b1_model.specs.Ledger.{Line, Table, line_node, line_number, received, received_all, given_number, named, start, changed, table_in, Message, sent_at, message_by, message_of, message_at, to_at, is_accepted, is_node_of, is_entry, slots_in, slots_by, message_within, message, slots, table, node_of, Destruction, is_destroyed_in, destroy_numbers, destruction_by, add_destruction, destructions_before, destructions_of, node_at, doomed_at, is_late}
use Rattle.b1_model.specs.Legal.{last_key, is_above, is_open_to, is_message_in, is_message, is_notice_of, is_notice, HasNoNext}
use Rattle.b1_ledger.specs.Growth.{all_names, IsMade}
use Rattle.b1_ledger.proofs.Sequences.{slice_get-append, take-more, take-past, Each, each-at, bool_cases}
use Rattle.b1_ledger.proofs.Walks.{made_in-append}
use Rattle.b1_ledger.proofs.Steps.{table_next, epoch_next}
use Rattle.b1_model.specs.Names.{node_from}
use Rattle.b1_model.specs.Ledger.{has_line, raised, lowered, wire_tables, handed}
use Rattle.std.specs.Prelude.{drop}
use Rattle.std.proofs.lemmas.List.{take-append-drop}
use Rattle.std.proofs.lemmas.Bool.{and_parts}

abbrev pub IsMadeIn : (ℕ → List Name) → Option Node → Type 0
IsMadeIn names None = ⊤
IsMadeIn names (Some x) = IsMade names x

abbrev pub AreMade : (ℕ → List Name) → List (Option Node) → Type 0
AreMade names ys = Each (IsMadeIn names) ys

abbrev pub LinesMade : (ℕ → List Name) → List Line → Type 0
LinesMade names ls = Each (λ l. IsMadeIn names l.node) ls

pub each-append : {A : Type 0} (P : A → Type 0) (xs ys : List A) → Each P xs → Each P ys → Each P (xs ++ ys)
each-append P [] ys h k = k
each-append P (x ∷ xs) ys h k = (h.0, each-append P xs ys h.1 k)

pub add_new_keeps : (e : ℕ) (known : List Name) (ns : List ℕ) (i : ℕ) (m : Name) → slice_get known i ≡ Some m → slice_get (add_new e known ns) i ≡ Some m
add_new_keeps e known [] i m h = h
add_new_keeps e known (n ∷ ns) i m h = add_new_keeps e (if is_own n && not (is_known n known) then known ++ record { number = n; epoch = e } ∷ [] else known) ns i m (go (is_own n && not (is_known n known)))
  where
    go : (b : Bool) → slice_get (if b then known ++ record { number = n; epoch = e } ∷ [] else known) i ≡ Some m
    go true = slice_get-append known (record { number = n; epoch = e } ∷ []) i m h
    go false = h

pub made_in_keeps : (e : ℕ) (known : List Name) (cs : List Call) (i : ℕ) (m : Name) → slice_get known i ≡ Some m → slice_get (made_in e known cs) i ≡ Some m
made_in_keeps e known [] i m h = h
made_in_keeps e known (c ∷ cs) i m h = made_in_keeps (next_epoch e c.answer) (add_new e known (carried_by c.command c.answer)) cs i m (add_new_keeps e known (carried_by c.command c.answer) i m h)

-- the names of a part of the calls stand in all of them
pub names_part : (known : List Name) (cs : List Call) (k i : ℕ) (m : Name) → slice_get (made_in 0 known (take k cs)) i ≡ Some m → slice_get (made_in 0 known cs) i ≡ Some m
names_part known cs k i m h = ap (λ l. slice_get (made_in 0 known l) i) (sym (take-append-drop k cs)) ∙ ap (λ l. slice_get l i) (made_in-append 0 known (take k cs) (drop k cs)) ∙ made_in_keeps (epoch_in 0 (take k cs)) (made_in 0 known (take k cs)) (drop k cs) i m h

pub node_from_made : (p i n : ℕ) (ms : List Name) (x : Node) → node_from p i n ms ≡ Some x → (j : ℕ) × (m : Name) × (slice_get ms j ≡ Some m) × (x.owner ≡ p) × (x.serial ≡ i + j) × (x.epoch ≡ m.epoch)
node_from_made p i n [] x e = cc
node_from_made p i n (m ∷ ms) x e = go (n == m.number) (λ f. node_from_made p (suc i) n ms x f) e
  where
    go : (b : Bool) → (node_from p (suc i) n ms ≡ Some x → (j : ℕ) × (l : Name) × (slice_get ms j ≡ Some l) × (x.owner ≡ p) × (x.serial ≡ suc i + j) × (x.epoch ≡ l.epoch)) → (if b then Some (record { owner = p; serial = i; epoch = m.epoch }) else node_from p (suc i) n ms) ≡ Some x → (j : ℕ) × (l : Name) × (slice_get (m ∷ ms) j ≡ Some l) × (x.owner ≡ p) × (x.serial ≡ i + j) × (x.epoch ≡ l.epoch)
    go true ih f = let y : Node = record { owner = p; serial = i; epoch = m.epoch } in let g : y ≡ x = same_Some y x f in (0, m, refl, sym (ap (λ z. z.owner) g), sym (ap (λ z. z.serial) g) ∙ omega arith, sym (ap (λ z. z.epoch) g))
    go false ih f = let h = ih f in let s : x.serial ≡ suc i + h.0 = h.4 in (suc h.0, h.1, h.2, h.3, omega (arith, s), h.5)

pub own_node_made : (names : ℕ → List Name) (p : ℕ) (known : List Name) → ((i : ℕ) (m : Name) → slice_get known i ≡ Some m → slice_get (names p) i ≡ Some m) → (n : ℕ) → IsMadeIn names (own_node p known n)
own_node_made names p known part n = go (own_node p known n) refl
  where
    go : (y : Option Node) → own_node p known n ≡ y → IsMadeIn names y
    go None e = tt
    go (Some x) e =
        let h = node_from_made p 0 n known x e in
        let s : h.0 ≡ x.serial = let f : x.serial ≡ 0 + h.0 = h.4 in omega (arith, f) in
        (h.1, subst (λ q. slice_get (names q) x.serial ≡ Some h.1) (sym h.3) (subst (λ j. slice_get (names p) j ≡ Some h.1) s (part h.0 h.1 h.2)), h.5)

pub line_node_made : (names : ℕ → List Name) (n : ℕ) (ls : List Line) → LinesMade names ls → IsMadeIn names (line_node n ls)
line_node_made names n [] h = tt
line_node_made names n (l ∷ ls) h = go (n == l.number) (line_node_made names n ls h.1)
  where
    go : (b : Bool) → IsMadeIn names (line_node n ls) → IsMadeIn names (if b then l.node else line_node n ls)
    go true ih = h.0
    go false ih = ih

pub named_made : (names : ℕ → List Name) (p : ℕ) (known : List Name) (t : Table) → ((i : ℕ) (m : Name) → slice_get known i ≡ Some m → slice_get (names p) i ≡ Some m) → LinesMade names t.lines → (n : ℕ) → IsMadeIn names (named p known t n)
named_made names p known t part lines n = go (is_own n)
  where
    go : (b : Bool) → IsMadeIn names (if b then own_node p known n else line_node n t.lines)
    go true = own_node_made names p known part n
    go false = line_node_made names n t.lines lines

pub map_made : (names : ℕ → List Name) (f : ℕ → Option Node) (ns : List ℕ) → ((n : ℕ) → IsMadeIn names (f n)) → AreMade names (map f ns)
map_made names f [] h = tt
map_made names f (n ∷ ns) h = (h n, map_made names f ns h)

pub raised_made : (names : ℕ → List Name) (n : ℕ) (ls : List Line) → LinesMade names ls → LinesMade names (raised n ls)
raised_made names n [] h = tt
raised_made names n (l ∷ ls) h = go (n == l.number) (raised_made names n ls h.1)
  where
    go : (b : Bool) → LinesMade names (raised n ls) → LinesMade names (if b then record l { held = suc l.held } ∷ ls else l ∷ raised n ls)
    go true ih = (h.0, h.1)
    go false ih = (h.0, ih)

pub lowered_made : (names : ℕ → List Name) (n : ℕ) (ls : List Line) → LinesMade names ls → LinesMade names (lowered n ls)
lowered_made names n [] h = tt
lowered_made names n (l ∷ ls) h = go (n == l.number) (l.held == 1) (lowered_made names n ls h.1)
  where
    go : (b c : Bool) → LinesMade names (lowered n ls) → LinesMade names (if b then (if c then ls else record l { held = pred l.held } ∷ ls) else l ∷ lowered n ls)
    go true true ih = h.1
    go true false ih = (h.0, h.1)
    go false c ih = (h.0, ih)

pub received_made : (names : ℕ → List Name) (n : ℕ) (y : Option Node) (t : Table) → IsMadeIn names y → LinesMade names t.lines → LinesMade names (received n y t).lines
received_made names n y t h lines = go (is_given n) (has_line n t.lines)
  where
    go : (b c : Bool) → LinesMade names (if b then (if c then record { lines = raised n t.lines; given = t.given } else record { lines = t.lines ++ record { number = n; node = y; held = 1 } ∷ []; given = suc t.given }) else t).lines
    go true true = raised_made names n t.lines lines
    go true false = each-append (λ l. IsMadeIn names l.node) t.lines (record { number = n; node = y; held = 1 } ∷ []) lines (h, tt)
    go false c = lines

pub received_all_made : (names : ℕ → List Name) (slots : List (Option Node)) (ns : List ℕ) (t : Table) → AreMade names slots → LinesMade names t.lines → LinesMade names (received_all slots ns t).lines
received_all_made names slots [] t h lines = lines
received_all_made names [] (n ∷ ns) t h lines = received_all_made names [] ns (received n None t) tt (received_made names n None t tt lines)
received_all_made names (y ∷ slots) (n ∷ ns) t h lines = received_all_made names slots ns (received n y t) h.1 (received_made names n y t h.0 lines)

pub changed_made : (names : ℕ → List Name) (look : Key → List (Option Node)) → ((key : Key) → AreMade names (look key)) → (c : Command) (b : Answer) (t : Table) → LinesMade names t.lines → LinesMade names (changed look c b t).lines
changed_made names look h c (ans.Got (rec.Message key number offset handles payload)) t lines = received_all_made names (look key) handles t (h key) lines
changed_made names look h c (ans.Reset stamp) t lines = tt
changed_made names look h (cmd.Release n) ans.Done t lines = lowered_made names n t.lines lines
changed_made names look h c b t lines = lines

pub table_in_made : (names : ℕ → List Name) (look : Key → List (Option Node)) → ((key : Key) → AreMade names (look key)) → (t : Table) (cs : List Call) → LinesMade names t.lines → LinesMade names (table_in look t cs).lines
table_in_made names look h t [] lines = lines
table_in_made names look h t (c ∷ cs) lines = table_in_made names look h (changed look c.command c.answer t) cs (changed_made names look h c.command c.answer t lines)

pub handed_made : (names : ℕ → List Name) (y : Option Node) (t : Table) → IsMadeIn names y → LinesMade names t.lines → LinesMade names (handed y t).lines
handed_made names None t h lines = lines
handed_made names (Some x) t h lines = received_made names (given_number t.given (line_number x t.lines)) (Some x) t h lines

pub wire_tables_made : (names : ℕ → List Name) (all : List Wire) → ((q i : ℕ) (m : Name) → slice_get (wired all q) i ≡ Some m → slice_get (names q) i ≡ Some m) → (ts : ℕ → Table) (ws : List Wire) → ((q : ℕ) → LinesMade names (ts q).lines) → (p : ℕ) → LinesMade names (wire_tables all ts ws p).lines
wire_tables_made names all part ts [] h p = h p
wire_tables_made names all part ts (w ∷ ws) h p = wire_tables_made names all part (λ q. if q == w.to then handed (named w.from (wired all w.from) (ts w.from) w.number) (ts q) else ts q) ws (λ q. go q (q == w.to)) p
  where
    go : (q : ℕ) (b : Bool) → LinesMade names (if b then handed (named w.from (wired all w.from) (ts w.from) w.number) (ts q) else ts q).lines
    go q true = handed_made names (named w.from (wired all w.from) (ts w.from) w.number) (ts q) (named_made names w.from (wired all w.from) (ts w.from) (part w.from) (h w.from) w.number) (h q)
    go q false = h q

abbrev pub MessageMade : (ℕ → List Name) → Option Message → Type 0
MessageMade names None = ⊤
MessageMade names (Some m) = AreMade names m.to × AreMade names m.carried

module _ (ws : List Wire) (r : Record) where
  pub wired_part : (q i : ℕ) (m : Name) → slice_get (wired ws q) i ≡ Some m → slice_get (all_names ws r q) i ≡ Some m
  wired_part q i m h = made_in_keeps 0 (wired ws q) (calls_of r q) i m h

  pub made_part : (q k i : ℕ) (m : Name) → slice_get (made ws r q k) i ≡ Some m → slice_get (all_names ws r q) i ≡ Some m
  made_part q k i m h = names_part (wired ws q) (calls_of r q) (suc k) i m h

  pub start_made : (p : ℕ) → LinesMade (all_names ws r) (start ws p).lines
  start_made p = wire_tables_made (all_names ws r) ws wired_part (λ q. record { lines = []; given = 0 }) ws (λ q. tt) p

  pub slots_in_made : (p i : ℕ) (z : Option Message) → MessageMade (all_names ws r) z → AreMade (all_names ws r) (slots_in p i z)
  slots_in_made p i None h = tt
  slots_in_made p i (Some m) h = go (is_entry p i m)
    where
      go : (b : Bool) → AreMade (all_names ws r) (if b then m.carried else [])
      go true = h.1
      go false = tt

  pub message_by_made : (q k : ℕ) (t : Table) → LinesMade (all_names ws r) t.lines → (c : Command) (b : Answer) → MessageMade (all_names ws r) (message_by q (made ws r q k) t c b)
  message_by_made q k t lines (cmd.Send s) (ans.Sent b) = (map_made (all_names ws r) (named q (made ws r q k) t) s.to (named_made (all_names ws r) q (made ws r q k) t (made_part q k) lines), map_made (all_names ws r) (named q (made ws r q k) t) s.with (named_made (all_names ws r) q (made ws r q k) t (made_part q k) lines))
  message_by_made q k t lines c b = tt

  pub message_at_made : (q : ℕ) (look : Key → List (Option Node)) → ((key : Key) → AreMade (all_names ws r) (look key)) → (k : ℕ) → MessageMade (all_names ws r) (message_at ws q (calls_of r q) look k)
  message_at_made q look h k = go (slice_get (calls_of r q) k)
    where
      go : (z : Option Call) → MessageMade (all_names ws r) (message_of q (made ws r q k) (table_in look (start ws q) (take k (calls_of r q))) z)
      go None = tt
      go (Some c) = message_by_made q k (table_in look (start ws q) (take k (calls_of r q))) (table_in_made (all_names ws r) look h (start ws q) (take k (calls_of r q)) (start_made q)) c.command c.answer

  pub within_made : (n stamp q : ℕ) → MessageMade (all_names ws r) (message_within ws r n stamp q)
  within_made zero stamp q = tt
  within_made (suc n) stamp q = go (λ s p. within_made n s p) (sent_at stamp (calls_of r q))
    where
      go : ((s p : ℕ) → MessageMade (all_names ws r) (message_within ws r n s p)) → (z : Option ℕ) → MessageMade (all_names ws r) (option_and_then (message_at ws q (calls_of r q) (slots_by (message_within ws r n) q)) z)
      go ih None = tt
      go ih (Some k) = message_at_made q (slots_by (message_within ws r n) q) (λ key. slots_in_made q key.index (message_within ws r n key.stamp key.origin) (ih key.stamp key.origin)) k

  -- the nodes of messages are made
  pub message_made : (stamp q : ℕ) → MessageMade (all_names ws r) (message ws r stamp q)
  message_made stamp q = within_made (suc stamp) stamp q

  -- and those of slots, tables and numbers
  pub slots_made : (p : ℕ) (key : Key) → AreMade (all_names ws r) (slots ws r p key)
  slots_made p key = slots_in_made p key.index (message ws r key.stamp key.origin) (message_made key.stamp key.origin)

  pub table_made : (p k : ℕ) → LinesMade (all_names ws r) (table ws r p k).lines
  table_made p k = table_in_made (all_names ws r) (slots ws r p) (slots_made p) (start ws p) (take k (calls_of r p)) (start_made p)

  pub node_of_made : (p k n : ℕ) → IsMadeIn (all_names ws r) (node_of ws r p k n)
  node_of_made p k n = named_made (all_names ws r) p (made ws r p k) (table ws r p k) (made_part p k) (table_made p k) n

  abbrev pub DestructionsMade : List Destruction → Type 0
  DestructionsMade ds = Each (λ d. AreMade (all_names ws r) d.nodes) ds

  pub nodes_from_made : (p i : ℕ) (ms : List Name) → ((j : ℕ) (m : Name) → slice_get ms j ≡ Some m → slice_get (all_names ws r p) (i + j) ≡ Some m) → (test : Node → Bool) → AreMade (all_names ws r) (map Some (filter test (nodes_from p i ms)))
  nodes_from_made p i [] h test = tt
  nodes_from_made p i (m ∷ ms) h test = go (test (record { owner = p; serial = i; epoch = m.epoch })) (nodes_from_made p (suc i) ms (λ j l e. let s : i + suc j ≡ suc i + j = omega arith in subst (λ z. slice_get (all_names ws r p) z ≡ Some l) s (h (suc j) l e)) test)
    where
      go : (b : Bool) → AreMade (all_names ws r) (map Some (filter test (nodes_from p (suc i) ms))) → AreMade (all_names ws r) (map Some (cond b (record { owner = p; serial = i; epoch = m.epoch } ∷ filter test (nodes_from p (suc i) ms)) (filter test (nodes_from p (suc i) ms))))
      go true ih = ((m, let s : i + 0 ≡ i = omega arith in subst (λ z. slice_get (all_names ws r p) z ≡ Some m) s (h 0 m refl), refl), ih)
      go false ih = ih

  pub destruction_made : (p k : ℕ) (earlier : List Destruction) (c : Command) (b : Answer) → DestructionsMade (destruction_by p (made ws r p k) (table ws r p k) earlier c b)
  destruction_made p k earlier c (ans.Destroyed stamp) = (map_made (all_names ws r) (node_of ws r p k) (destroy_numbers c) (node_of_made p k), tt)
  destruction_made p k earlier c (ans.Reset (Some stamp)) = (nodes_from_made p 0 (made ws r p k) (λ j m e. let s : j ≡ 0 + j = omega arith in subst (λ z. slice_get (all_names ws r p) z ≡ Some m) s (made_part p k j m e)) (λ x. not (is_destroyed_in earlier x)), tt)
  destruction_made p k earlier c b = tt

  pub destructions_made : (p k : ℕ) → DestructionsMade (destructions_before ws r p k)
  destructions_made p zero = tt
  destructions_made p (suc k) = go (slice_get (calls_of r p) k) (destructions_made p k)
    where
      go : (z : Option Call) → DestructionsMade (destructions_before ws r p k) → DestructionsMade (add_destruction p (made ws r p k) (table ws r p k) z (destructions_before ws r p k))
      go None ih = ih
      go (Some c) ih = each-append (λ d. AreMade (all_names ws r) d.nodes) (destructions_before ws r p k) (destruction_by p (made ws r p k) (table ws r p k) (destructions_before ws r p k) c.command c.answer) ih (destruction_made p k (destructions_before ws r p k) c.command c.answer)

  pub at_made : (ys : List (Option Node)) (i : ℕ) (x : Node) → AreMade (all_names ws r) ys → option_flatten (slice_get ys i) ≡ Some x → IsMade (all_names ws r) x
  at_made [] i x h e = cc
  at_made (y ∷ ys) zero x h e = subst (IsMadeIn (all_names ws r)) e h.0
  at_made (y ∷ ys) (suc i) x h e = at_made ys i x h.1 e

  -- the destination of a message is made
  pub to_made : (stamp q : ℕ) (m : Message) (i : ℕ) (x : Node) → message ws r stamp q ≡ Some m → to_at m i ≡ Some x → IsMade (all_names ws r) x
  to_made stamp q m i x e f = at_made m.to i x (subst (MessageMade (all_names ws r)) e (message_made stamp q)).0 f

  -- the node of a notice is made
  pub doomed_made : (key : Key) (x : Node) → doomed_at ws r key ≡ Some x → IsMade (all_names ws r) x
  doomed_made key x e = go (destructions_of ws r key.origin) (destructions_made key.origin (length (calls_of r key.origin))) e
    where
      go : (ds : List Destruction) → DestructionsMade ds → node_at key.index (find (λ d. d.stamp == key.stamp) ds) ≡ Some x → IsMade (all_names ws r) x
      go [] h f = cc
      go (d ∷ ds) h f = pick (d.stamp == key.stamp) (λ g. go ds h.1 g) f
        where
          pick : (b : Bool) → (node_at key.index (find (λ d. d.stamp == key.stamp) ds) ≡ Some x → IsMade (all_names ws r) x) → node_at key.index (cond b (Some d) (find (λ d. d.stamp == key.stamp) ds)) ≡ Some x → IsMade (all_names ws r) x
          pick true ih g = at_made d.nodes key.index x h.0 g
          pick false ih g = ih g

-- the node that a number names is made
pub named_was_made : (ws : List Wire) (r : Record) (p k n : ℕ) (x : Node) → node_of ws r p k n ≡ Some x → IsMade (all_names ws r) x
named_was_made ws r p k n x e = subst (IsMadeIn (all_names ws r)) e (node_of_made ws r p k n)

-- ---- epochs

pub names_low : (e : ℕ) (known : List Name) (ns : List ℕ) → Each (λ m. m.epoch ≤ e) known → Each (λ m. m.epoch ≤ e) (add_new e known ns)
names_low e known [] h = h
names_low e known (n ∷ ns) h = names_low e (if is_own n && not (is_known n known) then known ++ record { number = n; epoch = e } ∷ [] else known) ns (go (is_own n && not (is_known n known)))
  where
    go : (b : Bool) → Each (λ m. m.epoch ≤ e) (if b then known ++ record { number = n; epoch = e } ∷ [] else known)
    go true = each-append (λ m. m.epoch ≤ e) known (record { number = n; epoch = e } ∷ []) h (omega arith, tt)
    go false = h

pub each-more : {A : Type 0} (P Q : A → Type 0) (xs : List A) → ((x : A) → P x → Q x) → Each P xs → Each Q xs
each-more P Q [] h k = tt
each-more P Q (x ∷ xs) h k = (h x k.0, each-more P Q xs h k.1)

pub epoch_grows : (n : ℕ) (b : Answer) → n ≤ next_epoch n b
epoch_grows n (ans.Reset stamp) = omega arith
epoch_grows n b = omega arith

pub made_low : (e : ℕ) (known : List Name) (cs : List Call) → Each (λ m. m.epoch ≤ e) known → Each (λ m. m.epoch ≤ epoch_in e cs) (made_in e known cs)
made_low e known [] h = h
made_low e known (c ∷ cs) h = made_low (next_epoch e c.answer) (add_new e known (carried_by c.command c.answer)) cs
    (each-more (λ m. m.epoch ≤ e) (λ m. m.epoch ≤ next_epoch e c.answer) (add_new e known (carried_by c.command c.answer)) (λ m l. omega (arith, l, epoch_grows e c.answer)) (names_low e known (carried_by c.command c.answer) h))

pub wired_low : (ws : List Wire) (q : ℕ) → Each (λ m. m.epoch ≤ 0) (wired ws q)
wired_low ws q = names_low 0 [] (map (λ w. w.number) (filter (λ w. w.from == q) ws)) tt

-- a node was made in an epoch that its owner reached
pub epoch_reached : (ws : List Wire) (r : Record) (x : Node) → IsMade (all_names ws r) x → x.epoch ≤ epoch_in 0 (calls_of r x.owner)
epoch_reached ws r x h = let l = each-at (λ m. m.epoch ≤ epoch_in 0 (calls_of r x.owner)) (all_names ws r x.owner) (made_low 0 (wired ws x.owner) (calls_of r x.owner) (wired_low ws x.owner)) x.serial h.0 h.1 in omega (arith, l, h.2)

pub carried_flush : (c : Command) (b : Answer) → is_flush b ≡ true → carried_by c b ≡ []
carried_flush (cmd.Send s) (ans.Sent b) e = cc
carried_flush (cmd.Send s) (ans.Refused b) e = cc
carried_flush c b e = refl

pub flush_next : (b : Answer) (n : ℕ) → is_flush b ≡ true → next_epoch n b ≡ suc n
flush_next b n e = rw e refl

pub flush_table : (look : Key → List (Option Node)) (c : Command) (b : Answer) (t : Table) → is_flush b ≡ true → (changed look c b t).lines ≡ []
flush_table look c (ans.Reset stamp) t e = refl
flush_table look c b t e = cc

-- behind a flush that is the last call there is nothing to receive
module _ (ws : List Wire) (r : Record) (q k : ℕ) (c : Call) (at : slice_get (calls_of r q) k ≡ Some c) (flush : is_flush c.answer ≡ true) (last : length (calls_of r q) ≡ suc k) where
  pub epoch_now : epoch_at r q (suc k) ≡ suc (epoch_at r q k)
  epoch_now = epoch_next ws r q k c at ∙ flush_next c.answer (epoch_at r q k) flush

  pub whole_list : calls_of r q ≡ take k (calls_of r q) ++ c ∷ []
  whole_list = sym (take-past (calls_of r q) (suc k) (omega (arith, last))) ∙ take-more (calls_of r q) k c at

  pub old_epoch : (x : Node) → x.owner ≡ q → IsMade (all_names ws r) x → x.epoch ≤ epoch_at r q k
  old_epoch x own h =
      let names : all_names ws r q ≡ made_in 0 (wired ws q) (take k (calls_of r q)) =
      ap (made_in 0 (wired ws q)) whole_list ∙ made_in-append 0 (wired ws q) (take k (calls_of r q)) (c ∷ []) ∙ ap (add_new (epoch_at r q k) (made_in 0 (wired ws q) (take k (calls_of r q)))) (carried_flush c.command c.answer flush) in
      let low = each-at (λ m. m.epoch ≤ epoch_at r q k) (made_in 0 (wired ws q) (take k (calls_of r q))) (made_low 0 (wired ws q) (take k (calls_of r q)) (wired_low ws q)) x.serial h.0 (sym (ap (λ l. slice_get l x.serial) names) ∙ subst (λ y. slice_get (all_names ws r y) x.serial ≡ Some h.0) own h.1) in
      omega (arith, low, h.2)

  pub not_now : (x : Node) → (x.owner == q) ≡ true → IsMade (all_names ws r) x → (x.epoch == epoch_at r q (suc k)) ≡ false
  not_now x own h =
      let o : x.owner ≡ q = grind (arith, own) in
      let low = old_epoch x o h in
      elim (bool_cases (x.epoch == epoch_at r q (suc k))) [ inl e ↦ absurd (let f : x.epoch ≡ epoch_at r q (suc k) = grind (arith, e) in omega (arith, f, low, epoch_now)) | inr e ↦ e ]

  pub nothing_behind_flush : HasNoNext ws r q (suc k)
  nothing_behind_flush key = rw (no_message, no_notice) refl
    where
      no_message : is_message ws r q (suc k) key ≡ false
      no_message = elim (bool_cases (is_message ws r q (suc k) key)) [
        | inr e ↦ e
        | inl e ↦ absurd (none (message ws r key.stamp key.origin) refl (and_parts (is_above key (last_key r q (suc k))) (is_message_in ws r q (suc k) key (message ws r key.stamp key.origin)) e).1)
      ]
        where
          none : (z : Option Message) → message ws r key.stamp key.origin ≡ z → is_message_in ws r q (suc k) key z ≡ true → ⊥
          none None f g = cc g
          none (Some m) f g =
              let both = and_parts (is_entry q key.index m) (is_open_to ws r q (suc k) key (to_at m key.index)) g in
              let owner = (and_parts (is_accepted (slice_get m.places key.index)) (is_node_of q (to_at m key.index)) both.0).1 in
              shut (to_at m key.index) refl owner both.1
            where
              shut : (y : Option Node) → to_at m key.index ≡ y → is_node_of q y ≡ true → is_open_to ws r q (suc k) key y ≡ true → ⊥
              shut None e own open_now = cc own
              shut (Some x) e own open_now = cc ((and_parts (x.epoch == epoch_at r q (suc k)) (not (is_late ws r x key)) open_now).0, not_now x own (to_made ws r key.stamp key.origin m key.index x f e))

      no_notice : is_notice ws r q (suc k) key ≡ false
      no_notice = elim (bool_cases (is_notice ws r q (suc k) key)) [
        | inr e ↦ e
        | inl e ↦ absurd (none (doomed_at ws r key) refl (and_parts (is_above key (last_key r q (suc k))) (is_notice_of ws r q (suc k) (doomed_at ws r key)) e).1)
      ]
        where
          lines : (table ws r q (suc k)).lines ≡ []
          lines = ap (λ t. t.lines) (table_next ws r q k c at) ∙ flush_table (slots ws r q) c.command c.answer (table ws r q k) flush

          none : (y : Option Node) → doomed_at ws r key ≡ y → is_notice_of ws r q (suc k) y ≡ true → ⊥
          none None f g = cc g
          none (Some x) f g = pick (x.owner == q) refl g
            where
              pick : (b : Bool) → (x.owner == q) ≡ b → (if b then x.epoch == epoch_at r q (suc k) else is_some (line_number x (table ws r q (suc k)).lines)) ≡ true → ⊥
              pick true own h = cc (h, not_now x own (doomed_made ws r key x f))
              pick false own h = let no_line : is_some (line_number x (table ws r q (suc k)).lines) ≡ false = ap (λ l. is_some (line_number x l)) lines in cc (no_line, h)
