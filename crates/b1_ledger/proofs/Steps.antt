-- What one call of a record changes for the calls behind it.
use Rattle.std.specs.Prelude.{◌≡◌, refl, ℕ, suc, pred, ◌⊎◌, Bool, true, false, ◌&&◌, ◌||◌, if◌then◌else◌, ◌==◌, List, [], ◌∷◌, ◌++◌, take, slice_get, Option, Some, None, is_some}
use Rattle.std.proofs.Common.{inl, inr, sym, ap, ◌∙◌}
use Rattle.std.proofs.lemmas.Bool.{and_parts}
use Rattle.b1_model.specs.declared.naming.Key.{Key}
use Rattle.b1_model.specs.declared.naming.Wire.{Wire}
use Rattle.b1_model.specs.declared.commands.Command.{Command}
use Rattle.b1_model.specs.declared.commands.Command.TheVariants as cmd
use Rattle.b1_model.specs.declared.answers.Receipt.TheVariants as rec
use Rattle.b1_model.specs.declared.answers.Answer.{Answer}
use Rattle.b1_model.specs.declared.answers.Answer.TheVariants as ans
use Rattle.b1_model.specs.declared.records.Call.{Call}
use Rattle.b1_model.specs.declared.records.Record.{Record}
use Rattle.b1_model.specs.Names.{is_given, Node, add_new, wired, calls_of, next_epoch, carried_by, made_in, made, epoch_in, epoch_at}
use Rattle.b1_model.specs.Ledger.{got_key, is_below, Line, Table, is_the_node, line_number, received, received_all, start, changed, table_in, Message, to_at, is_entry, message, slots, table, has_node, destruction_by, add_destruction, destructions_before, doomed_at}
use Rattle.b1_model.specs.Legal.{last_after, last_in, last_key, is_above, is_open_to, is_message_in, is_message, is_notice_of, is_notice, is_candidate}
use Rattle.b1_ledger.specs.Growth.{is_quiet}
use Rattle.b1_ledger.proofs.Sequences.{take-more, and_of, or_left, or_right, bool_cases}
use Rattle.b1_ledger.proofs.Walks.{made_in-append, epoch_in-append, last_in-append, table_in-append}
use Rattle.b1_ledger.proofs.KeyOrder.{below-below}
use Rattle.b1_model.specs.Ledger.{has_line, raised, lowered}

-- ---- lines that stay and come

pub line_raised : (x : Node) (n : ℕ) (ls : List Line) → line_number x (raised n ls) ≡ line_number x ls
line_raised x n [] = refl
line_raised x n (l ∷ ls) = go (n == l.number) (is_the_node x l.node) (line_raised x n ls)
  where
    go : (b c : Bool) → line_number x (raised n ls) ≡ line_number x ls → line_number x (if b then record l { held = suc l.held } ∷ ls else l ∷ raised n ls) ≡ line_number x (l ∷ ls)
    go true c e = refl
    go false c e = rw e refl

pub line_lowered : (x : Node) (n : ℕ) (ls : List Line) → is_some (line_number x (lowered n ls)) ≡ true → is_some (line_number x ls) ≡ true
line_lowered x n [] h = h
line_lowered x n (l ∷ ls) h = go (n == l.number) (l.held == 1) (is_the_node x l.node) refl (λ f. line_lowered x n ls f) h
  where
    go : (b d c : Bool) → is_the_node x l.node ≡ c → (is_some (line_number x (lowered n ls)) ≡ true → is_some (line_number x ls) ≡ true) → is_some (line_number x (if b then (if d then ls else record l { held = pred l.held } ∷ ls) else l ∷ lowered n ls)) ≡ true → is_some (if is_the_node x l.node then Some l.number else line_number x ls) ≡ true
    go b d true e ih h = rw e refl
    go true true false e ih h = rw e h
    go true false false e ih h = h
    go false d false e ih h = rw e (ih (sym (ap (λ z. is_some (if z then Some l.number else line_number x (lowered n ls))) e) ∙ h))

pub line_more : (x : Node) (ls : List Line) (l : Line) → is_some (line_number x (ls ++ l ∷ [])) ≡ true → (is_some (line_number x ls) ≡ true) ⊎ (is_the_node x l.node ≡ true)
line_more x [] l h = elim (bool_cases (is_the_node x l.node)) [ inl e ↦ inr e | inr e ↦ let f : is_some (line_number x (l ∷ [])) ≡ false = ap (λ z. is_some (if z then Some l.number else None)) e in cc (f, h) ]
line_more x (y ∷ ls) l h = go (is_the_node x y.node) refl (λ f. line_more x ls l f)
  where
    go : (b : Bool) → is_the_node x y.node ≡ b → (is_some (line_number x (ls ++ l ∷ [])) ≡ true → (is_some (line_number x ls) ≡ true) ⊎ (is_the_node x l.node ≡ true)) → (is_some (if is_the_node x y.node then Some y.number else line_number x ls) ≡ true) ⊎ (is_the_node x l.node ≡ true)
    go true e ih = inl (rw e refl)
    go false e ih = elim (ih (sym (ap (λ z. is_some (if z then Some y.number else line_number x (ls ++ l ∷ []))) e) ∙ h)) [ inl f ↦ inl (rw e f) | inr f ↦ inr f ]

pub line_kept : (x : Node) (ls : List Line) (l : Line) → is_some (line_number x ls) ≡ true → is_some (line_number x (ls ++ l ∷ [])) ≡ true
line_kept x [] l h = cc
line_kept x (y ∷ ls) l h = go (is_the_node x y.node) refl (λ f. line_kept x ls l f)
  where
    go : (b : Bool) → is_the_node x y.node ≡ b → (is_some (line_number x ls) ≡ true → is_some (line_number x (ls ++ l ∷ [])) ≡ true) → is_some (if is_the_node x y.node then Some y.number else line_number x (ls ++ l ∷ [])) ≡ true
    go true e ih = rw e refl
    go false e ih = rw e (ih (sym (ap (λ z. is_some (if z then Some y.number else line_number x ls)) e) ∙ h))

pub received_kept : (x : Node) (n : ℕ) (y : Option Node) (t : Table) → is_some (line_number x t.lines) ≡ true → is_some (line_number x (received n y t).lines) ≡ true
received_kept x n y t h = go (is_given n) (has_line n t.lines)
  where
    go : (b c : Bool) → is_some (line_number x (if b then (if c then record { lines = raised n t.lines; given = t.given } else record { lines = t.lines ++ record { number = n; node = y; held = 1 } ∷ []; given = suc t.given }) else t).lines) ≡ true
    go true true = ap is_some (line_raised x n t.lines) ∙ h
    go true false = line_kept x t.lines (record { number = n; node = y; held = 1 }) h
    go false c = h

pub received_comes : (x : Node) (n : ℕ) (y : Option Node) (t : Table) → is_some (line_number x (received n y t).lines) ≡ true → (is_some (line_number x t.lines) ≡ true) ⊎ (is_the_node x y ≡ true)
received_comes x n y t = go (is_given n) (has_line n t.lines)
  where
    go : (b c : Bool) → is_some (line_number x (if b then (if c then record { lines = raised n t.lines; given = t.given } else record { lines = t.lines ++ record { number = n; node = y; held = 1 } ∷ []; given = suc t.given }) else t).lines) ≡ true → (is_some (line_number x t.lines) ≡ true) ⊎ (is_the_node x y ≡ true)
    go true true h = inl (sym (ap is_some (line_raised x n t.lines)) ∙ h)
    go true false h = line_more x t.lines (record { number = n; node = y; held = 1 }) h
    go false c h = inl h

-- a message receipt keeps the lines of nodes
pub received_all_kept : (x : Node) (slots : List (Option Node)) (ns : List ℕ) (t : Table) → is_some (line_number x t.lines) ≡ true → is_some (line_number x (received_all slots ns t).lines) ≡ true
received_all_kept x slots [] t h = h
received_all_kept x [] (n ∷ ns) t h = received_all_kept x [] ns (received n None t) (received_kept x n None t h)
received_all_kept x (y ∷ slots) (n ∷ ns) t h = received_all_kept x slots ns (received n y t) (received_kept x n y t h)

-- and adds none but those of its slots' nodes
pub received_all_comes : (x : Node) (slots : List (Option Node)) (ns : List ℕ) (t : Table) → is_some (line_number x (received_all slots ns t).lines) ≡ true → (is_some (line_number x t.lines) ≡ true) ⊎ (has_node x slots ≡ true)
received_all_comes x slots [] t h = inl h
received_all_comes x [] (n ∷ ns) t h = elim (received_all_comes x [] ns (received n None t) h) [
  | inl e ↦ elim (received_comes x n None t e) [ inl f ↦ inl f | inr f ↦ cc f ]
  | inr e ↦ cc e
]
received_all_comes x (y ∷ slots) (n ∷ ns) t h = elim (received_all_comes x slots ns (received n y t) h) [
  | inl e ↦ elim (received_comes x n y t e) [ inl f ↦ inl f | inr f ↦ inr (or_left (is_the_node x y) (has_node x slots) f) ]
  | inr e ↦ inr (or_right (is_the_node x y) (has_node x slots) e)
]

-- ---- what a quiet call leaves

pub quiet_table : (look : Key → List (Option Node)) (c : Command) (b : Answer) (t : Table) → is_quiet c b ≡ true → changed look c b t ≡ t
quiet_table look c (ans.Got (rec.Message key number offset handles payload)) t e = cc
quiet_table look c (ans.Got (rec.Destroyed key number)) t e = cc
quiet_table look c (ans.Reset stamp) t e = cc
quiet_table look (cmd.Release n) ans.Done t e = cc
quiet_table look c b t e = refl

pub quiet_last : (c : Command) (b : Answer) (l : Option Key) → is_quiet c b ≡ true → last_after l b ≡ l
quiet_last c (ans.Got (rec.Message key number offset handles payload)) l e = cc
quiet_last c (ans.Got (rec.Destroyed key number)) l e = cc
quiet_last c (ans.Reset stamp) l e = cc
quiet_last c b l e = refl

pub quiet_epoch : (c : Command) (b : Answer) (n : ℕ) → is_quiet c b ≡ true → next_epoch n b ≡ n
quiet_epoch c (ans.Reset stamp) n e = cc
quiet_epoch c b n e = refl

pub got_epoch : (b : Answer) (key : Key) (n : ℕ) → got_key b ≡ Some key → next_epoch n b ≡ n
got_epoch (ans.Got receipt) key n e = refl
got_epoch b key n e = cc

pub got_last : (b : Answer) (key : Key) (l : Option Key) → got_key b ≡ Some key → last_after l b ≡ Some key
got_last (ans.Got (rec.Message k number offset handles payload)) key l e = e
got_last (ans.Got (rec.Destroyed k number)) key l e = e
got_last b key l e = cc

module _ (ws : List Wire) (r : Record) (q k : ℕ) (c : Call) (at : slice_get (calls_of r q) k ≡ Some c) where
  pub table_next : table ws r q (suc k) ≡ changed (slots ws r q) c.command c.answer (table ws r q k)
  table_next = ap (table_in (slots ws r q) (start ws q)) (take-more (calls_of r q) k c at) ∙ table_in-append (slots ws r q) (start ws q) (take k (calls_of r q)) (c ∷ [])

  pub last_next : last_key r q (suc k) ≡ last_after (last_key r q k) c.answer
  last_next = ap (last_in None) (take-more (calls_of r q) k c at) ∙ last_in-append None (take k (calls_of r q)) (c ∷ [])

  pub epoch_next : epoch_at r q (suc k) ≡ next_epoch (epoch_at r q k) c.answer
  epoch_next = ap (epoch_in 0) (take-more (calls_of r q) k c at) ∙ epoch_in-append 0 (take k (calls_of r q)) (c ∷ [])

  -- the names once the call has begun, from those of the calls before it
  pub made_next : made ws r q k ≡ add_new (epoch_at r q k) (made_in 0 (wired ws q) (take k (calls_of r q))) (carried_by c.command c.answer)
  made_next = ap (made_in 0 (wired ws q)) (take-more (calls_of r q) k c at) ∙ made_in-append 0 (wired ws q) (take k (calls_of r q)) (c ∷ [])

  pub destructions_next : destructions_before ws r q (suc k) ≡ destructions_before ws r q k ++ destruction_by q (made ws r q k) (table ws r q k) (destructions_before ws r q k) c.command c.answer
  destructions_next = ap (λ z. add_destruction q (made ws r q k) (table ws r q k) z (destructions_before ws r q k)) at

  -- ---- the entries behind the call

  pub open_epoch : epoch_at r q (suc k) ≡ epoch_at r q k → (key : Key) (y : Option Node) → is_open_to ws r q (suc k) key y ≡ is_open_to ws r q k key y
  open_epoch e key None = refl
  open_epoch e key (Some x) = rw e refl

  pub message_in_epoch : epoch_at r q (suc k) ≡ epoch_at r q k → (key : Key) (z : Option Message) → is_message_in ws r q (suc k) key z ≡ is_message_in ws r q k key z
  message_in_epoch e key None = refl
  message_in_epoch e key (Some m) = ap (λ b. is_entry q key.index m && b) (open_epoch e key (to_at m key.index))

  pub notice_of_epoch : epoch_at r q (suc k) ≡ epoch_at r q k → table ws r q (suc k) ≡ table ws r q k → (y : Option Node) → is_notice_of ws r q (suc k) y ≡ is_notice_of ws r q k y
  notice_of_epoch e f None = refl
  notice_of_epoch e f (Some x) = rw (e, f) refl

  pub message_quiet : is_quiet c.command c.answer ≡ true → (key : Key) → is_message ws r q (suc k) key ≡ is_message ws r q k key
  message_quiet h key = rw (last_next, quiet_last c.command c.answer (last_key r q k) h, message_in_epoch (epoch_next ∙ quiet_epoch c.command c.answer (epoch_at r q k) h) key (message ws r key.stamp key.origin)) refl

  pub notice_quiet : is_quiet c.command c.answer ≡ true → (key : Key) → is_notice ws r q (suc k) key ≡ is_notice ws r q k key
  notice_quiet h key = rw (last_next, quiet_last c.command c.answer (last_key r q k) h, notice_of_epoch (epoch_next ∙ quiet_epoch c.command c.answer (epoch_at r q k) h) (table_next ∙ quiet_table (slots ws r q) c.command c.answer (table ws r q k) h) (doomed_at ws r key)) refl

  -- behind a quiet call the same entries may be received
  pub candidate_quiet : is_quiet c.command c.answer ≡ true → (key : Key) → is_candidate ws r q (suc k) key ≡ is_candidate ws r q k key
  candidate_quiet h key = rw (message_quiet h key, notice_quiet h key) refl

  pub above_next : (key other : Key) → is_above key (last_key r q k) ≡ true → is_below key other ≡ true → is_above other (last_key r q k) ≡ true
  above_next key other e f = go (last_key r q k) e
    where
      go : (l : Option Key) → is_above key l ≡ true → is_above other l ≡ true
      go None g = refl
      go (Some l) g = below-below l key other g f

  pub and_above : (key other : Key) (b : Bool) → is_above key (last_key r q k) ≡ true → (is_below key other && b) ≡ (is_below key other && (is_above other (last_key r q k) && b))
  and_above key other b e = elim (bool_cases (is_below key other)) [ inl f ↦ rw (f, above_next key other e f) refl | inr f ↦ rw f refl ]

  -- behind a receipt: the messages above it that could be received before it
  pub message_received : (key : Key) → got_key c.answer ≡ Some key → is_above key (last_key r q k) ≡ true → (other : Key) → is_message ws r q (suc k) other ≡ (is_below key other && is_message ws r q k other)
  message_received key e above other =
      rw (last_next, got_last c.answer key (last_key r q k) e, message_in_epoch (epoch_next ∙ got_epoch c.answer key (epoch_at r q k) e) other (message ws r other.stamp other.origin))
      (and_above key other (is_message_in ws r q k other (message ws r other.stamp other.origin)) above)

  -- and the notices above it, by the table behind it
  pub notice_received : (key : Key) → got_key c.answer ≡ Some key → (other : Key) → is_notice ws r q (suc k) other ≡ (is_below key other && is_notice_of ws r q (suc k) (doomed_at ws r other))
  notice_received key e other = rw (last_next, got_last c.answer key (last_key r q k) e) refl

  -- behind a notice: what is above it and could be received before it
  pub candidate_notice : (key : Key) (number : ℕ) → c.answer ≡ ans.Got (rec.Destroyed key number) → is_above key (last_key r q k) ≡ true → (other : Key) → is_candidate ws r q (suc k) other ≡ (is_below key other && is_candidate ws r q k other)
  candidate_notice key number e above other =
      rw (message_received key (ap got_key e) above other, notice_received key (ap got_key e) other, notice_of_epoch (epoch_next ∙ got_epoch c.answer key (epoch_at r q k) (ap got_key e)) (table_next ∙ ap (λ b. changed (slots ws r q) c.command b (table ws r q k)) e) (doomed_at ws r other))
      (shared (is_below key other) (is_message ws r q k other) (is_notice_of ws r q k (doomed_at ws r other)) (is_above other (last_key r q k)) (λ f. above_next key other above f))
    where
      shared : (b m n u : Bool) → (b ≡ true → u ≡ true) → ((b && m) || (b && n)) ≡ (b && (m || (u && n)))
      shared true m n u f = rw (f refl) refl
      shared false m n u f = refl

  -- behind a message: a notice concerns the peer that did before, or whose node was in a slot
  pub notice_of_received : (key : Key) (number offset : ℕ) (handles payload : List ℕ) → c.answer ≡ ans.Got (rec.Message key number offset handles payload) → (x : Node) → is_notice_of ws r q (suc k) (Some x) ≡ true → (is_notice_of ws r q k (Some x) ≡ true) ⊎ (has_node x (slots ws r q key) ≡ true)
  notice_of_received key number offset handles payload e x h = go (x.owner == q) refl h
    where
      next : table ws r q (suc k) ≡ received_all (slots ws r q key) handles (table ws r q k)
      next = table_next ∙ ap (λ b. changed (slots ws r q) c.command b (table ws r q k)) e

      go : (b : Bool) → (x.owner == q) ≡ b → (if b then x.epoch == epoch_at r q (suc k) else is_some (line_number x (table ws r q (suc k)).lines)) ≡ true → ((if x.owner == q then x.epoch == epoch_at r q k else is_some (line_number x (table ws r q k).lines)) ≡ true) ⊎ (has_node x (slots ws r q key) ≡ true)
      go true f g = inl (rw f (sym (ap (λ n. x.epoch == n) (epoch_next ∙ got_epoch c.answer key (epoch_at r q k) (ap got_key e))) ∙ g))
      go false f g = elim (received_all_comes x (slots ws r q key) handles (table ws r q k) (sym (ap (λ t. is_some (line_number x t.lines)) next) ∙ g)) [ inl i ↦ inl (rw f i) | inr i ↦ inr i ]

  pub notice_of_kept : (key : Key) (number offset : ℕ) (handles payload : List ℕ) → c.answer ≡ ans.Got (rec.Message key number offset handles payload) → (x : Node) → is_notice_of ws r q k (Some x) ≡ true → is_notice_of ws r q (suc k) (Some x) ≡ true
  notice_of_kept key number offset handles payload e x h = go (x.owner == q) refl h
    where
      next : table ws r q (suc k) ≡ received_all (slots ws r q key) handles (table ws r q k)
      next = table_next ∙ ap (λ b. changed (slots ws r q) c.command b (table ws r q k)) e

      go : (b : Bool) → (x.owner == q) ≡ b → (if b then x.epoch == epoch_at r q k else is_some (line_number x (table ws r q k).lines)) ≡ true → (if x.owner == q then x.epoch == epoch_at r q (suc k) else is_some (line_number x (table ws r q (suc k)).lines)) ≡ true
      go true f g = rw f (ap (λ n. x.epoch == n) (epoch_next ∙ got_epoch c.answer key (epoch_at r q k) (ap got_key e)) ∙ g)
      go false f g = rw f (ap (λ t. is_some (line_number x t.lines)) next ∙ received_all_kept x (slots ws r q key) handles (table ws r q k) g)

  -- ---- behind a release

  pub message_released : (n : ℕ) → c.command ≡ cmd.Release n → c.answer ≡ ans.Done → (key : Key) → is_message ws r q (suc k) key ≡ is_message ws r q k key
  message_released n e f key = rw (last_next ∙ ap (last_after (last_key r q k)) f, message_in_epoch (epoch_next ∙ ap (next_epoch (epoch_at r q k)) f) key (message ws r key.stamp key.origin)) refl

  pub notice_released : (n : ℕ) → c.command ≡ cmd.Release n → c.answer ≡ ans.Done → (key : Key) → is_notice ws r q (suc k) key ≡ true → is_notice ws r q k key ≡ true
  notice_released n e f key h =
      let both = and_parts (is_above key (last_key r q (suc k))) (is_notice_of ws r q (suc k) (doomed_at ws r key)) h in
      and_of (is_above key (last_key r q k)) (is_notice_of ws r q k (doomed_at ws r key))
      (sym (ap (is_above key) (last_next ∙ ap (last_after (last_key r q k)) f)) ∙ both.0)
      (was (doomed_at ws r key) both.1)
    where
      next : table ws r q (suc k) ≡ record { lines = lowered n (table ws r q k).lines; given = (table ws r q k).given }
      next = table_next ∙ ap (λ b. changed (slots ws r q) c.command b (table ws r q k)) f ∙ ap (λ d. changed (slots ws r q) d ans.Done (table ws r q k)) e

      was : (y : Option Node) → is_notice_of ws r q (suc k) y ≡ true → is_notice_of ws r q k y ≡ true
      was None g = g
      was (Some x) g = go (x.owner == q) refl g
        where
          go : (b : Bool) → (x.owner == q) ≡ b → (if b then x.epoch == epoch_at r q (suc k) else is_some (line_number x (table ws r q (suc k)).lines)) ≡ true → (if x.owner == q then x.epoch == epoch_at r q k else is_some (line_number x (table ws r q k).lines)) ≡ true
          go true i g = rw i (sym (ap (λ n. x.epoch == n) (epoch_next ∙ ap (next_epoch (epoch_at r q k)) f)) ∙ g)
          go false i g = rw i (line_lowered x n (table ws r q k).lines (sym (ap (λ t. is_some (line_number x t.lines)) next) ∙ g))
