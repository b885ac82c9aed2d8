-- No two lines of a table have one number.
use Rattle.std.proofs.Common.{◌≡◌, refl, sym, ap, inl, inr, ◌∙◌, ℕ, zero, suc, ◌%◌, ◌==◌, Bool, true, false, cond, List, [], ◌∷◌, ◌++◌, take, Option, Some, None}
use Rattle.b1_model.specs.declared.naming.Key.{Key}
use Rattle.b1_model.specs.declared.naming.Wire.{Wire}
use Rattle.b1_model.specs.declared.commands.Command.{Command}
use Rattle.b1_model.specs.declared.commands.Command.TheVariants as cmd
use Rattle.b1_model.specs.declared.answers.Answer.{Answer}
use Rattle.b1_model.specs.declared.answers.Answer.TheVariants as ans
use Rattle.b1_model.specs.declared.answers.Receipt.TheVariants as rec
use Rattle.b1_model.specs.declared.records.Call.{Call}
use Rattle.b1_model.specs.declared.records.Record.{Record}
use Rattle.b1_model.specs.Names.{Node, is_given, calls_of, wired}
use Rattle.b1_model.specs.Ledger.{Table, has_line, line_number, raised, received, received_all, given_number, handed, named, wire_tables, start, changed, table_in, slots, table}
use Rattle.b1_model.specs.MachineParts.{NodePart}
use Rattle.b1_step.specs.Rights.{Has}
use Rattle.b1_inv_tables.proofs.Lines.{AreApart, has_line_of, raised_apart, added_apart, lowered_apart}
use Rattle.b1_inv_tables.proofs.Slots.{OwnNumbers}

-- no two lines of a table have one number
abbrev TableApart : Table → Type 0
TableApart t = AreApart t.lines

-- after a received number
received_apart : (n : ℕ) (x : Option Node) (t : Table) → TableApart t → TableApart (received n x t)
received_apart n x t apart = by (is_given n) (has_line n t.lines) refl
  where
    by : (b c : Bool) → has_line n t.lines ≡ c → TableApart (cond b (cond c (record { lines = raised n t.lines; given = t.given }) (record { lines = t.lines ++ record { number = n; node = x; held = 1 } ∷ []; given = suc t.given })) t)
    by true true is = raised_apart n t.lines apart
    by true false is = added_apart t.lines (record { number = n; node = x; held = 1 }) apart (λ g there same. let both : true ≡ false = sym (has_line_of n t.lines g there same) ∙ is in absurd (cc both))
    by false c is = apart

-- after all numbers of a message
received_all_apart : (slots : List (Option Node)) (ns : List ℕ) (t : Table) → TableApart t → TableApart (received_all slots ns t)
received_all_apart slots [] t apart = apart
received_all_apart [] (n ∷ ns) t apart = received_all_apart [] ns (received n None t) (received_apart n None t apart)
received_all_apart (x ∷ slots) (n ∷ ns) t apart = received_all_apart slots ns (received n x t) (received_apart n x t apart)

-- after a call
changed_apart : (look : Key → List (Option Node)) (c : Command) (a : Answer) (t : Table) → TableApart t → TableApart (changed look c a t)
changed_apart look c (ans.Got (rec.Message key number offset handles payload)) t apart = received_all_apart (look key) handles t apart
changed_apart look c (ans.Reset stamp) t apart = tt
changed_apart look (cmd.Release n) ans.Done t apart = lowered_apart n t.lines apart
changed_apart look c a t apart = apart

-- after some calls
calls_apart : (look : Key → List (Option Node)) (t : Table) (calls : List Call) → TableApart t → TableApart (table_in look t calls)
calls_apart look t [] apart = apart
calls_apart look t (c ∷ calls) apart = calls_apart look (changed look c.command c.answer t) calls (changed_apart look c.command c.answer t apart)

-- after a reference was handed
handed_apart : (x : Option Node) (t : Table) → TableApart t → TableApart (handed x t)
handed_apart None t apart = apart
handed_apart (Some x) t apart = received_apart (given_number t.given (line_number x t.lines)) (Some x) t apart

-- after some wires
wires_apart : (all : List Wire) (ts : ℕ → Table) (ws : List Wire) → ((q : ℕ) → TableApart (ts q)) → (p : ℕ) → TableApart (wire_tables all ts ws p)
wires_apart all ts [] each p = each p
wires_apart all ts (w ∷ ws) each p =
    wires_apart all (λ q. cond (q == w.to) (handed (named w.from (wired all w.from) (ts w.from) w.number) (ts q)) (ts q)) ws (λ q. by q (q == w.to)) p
  where
    by : (q : ℕ) (b : Bool) → TableApart (cond b (handed (named w.from (wired all w.from) (ts w.from) w.number) (ts q)) (ts q))
    by q true = handed_apart (named w.from (wired all w.from) (ts w.from) w.number) (ts q) (each q)
    by q false = each q

-- before the first call
pub start_apart : (ws : List Wire) (p : ℕ) → AreApart (start ws p).lines
start_apart ws p = wires_apart ws (λ q. record { lines = []; given = 0 }) ws (λ q. tt) p

-- of the table before any call of any record
pub table_apart : (ws : List Wire) (r : Record) (p k : ℕ) → AreApart (table ws r p k).lines
table_apart ws r p k = calls_apart (slots ws r p) (start ws p) (take k (calls_of r p)) (start_apart ws p)

-- ---- own numbers are no given ones

-- numbers that are multiples of 4 are own ones
pub own_numbers : (nodes : List NodePart) → ((n : NodePart) → Has nodes n → n.number % 4 ≡ 0) → OwnNumbers nodes
own_numbers [] own serial = refl
own_numbers (n ∷ rest) own zero = ap (λ m. m == 2) (own n (inl refl))
own_numbers (n ∷ rest) own (suc serial) = own_numbers rest (λ m there. own m (inr there)) serial
