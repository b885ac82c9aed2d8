-- What a table ends as, where a `&mut` to one of its entries is returned.
use Rattle.std.specs.Prelude.{ℕ, Option, Some, slice_set}
use Rattle.std.specs.Borrow.{LendsIf, Fml, MutBor}
use Rattle.b1_model.specs.declared.entries.Entry.{Entry}
use Rattle.b1_model.specs.contracts.entries.Entry.{the_row as entry_row}
use Rattle.b1_entry.specs.Table.{Table}
use Rattle.b1_entry.specs.contracts.table.EntryTable.{the_row}

-- once the borrow r ends, the place has the last entry written through r; where r is `None` the table stays as it is
abbrev pub lends_entry : MutBor Table → ℕ → Option (MutBor Entry) → Fml
lends_entry s place r =
    LendsIf the_row entry_row s r (λ e. record s.now { slots = slice_set s.now.slots place (Some e) }) s.now
