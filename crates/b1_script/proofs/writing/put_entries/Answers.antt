use Rattle.std.proofs.Common.{◌≡◌, ◌++◌, ℕ, List, OnOk, subst, append_assoc}
use Rattle.std.specs.Prelude.{zip}
use Rattle.std.specs.List.{flat_map}
use Rattle.b1_script.specs.Spelling.{entry_spelling, entries_spelling}
use Rattle.b1_script.proofs.Entries.{length_zip}
use Rattle.b1_script.proofs.writing.put_entries.Goals as goal

pub returns : goal.returns
returns c =
    let both = zip c.args.cookies.now c.args.commands.now in
    let written : c.put_u32-2.new.out.items ++ flat_map entry_spelling both ≡ c.args.out.now.items ++ entries_spelling both = rw (c.in_ok-put_u32-2.ensures.ok, c.in_ok-put_u32.ensures.ok, length_zip c.args.cookies.now c.args.commands.now c.requires.same) (simp append_assoc) in
    subst (λ (x : List ℕ). OnOk c.put_entry_records.result (c.put_entry_records.new.out.items ≡ x)) written c.put_entry_records.ensures
