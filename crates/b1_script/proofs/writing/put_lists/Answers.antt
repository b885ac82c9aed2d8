use Rattle.std.proofs.Common.{List, ℕ, Option, subst}
use Rattle.std.specs.List.{AllByRecursion}
use Rattle.b1_model.specs.Versions.{version_of}
use Rattle.b1_script.specs.Spelling.{IsWithinOf}
use Rattle.b1_script.proofs.Laws.{few_commands}
use Rattle.b1_script.proofs.writing.put_lists.Goals as goal

pub put_plain_lists-requires-clause-few : goal.put_plain_lists-requires-clause-few
put_plain_lists-requires-clause-few c = rw c.as_slice-lists.ensures (few_commands c.args.script.now c.requires)

pub put_entry_lists-requires-clause-within : goal.put_entry_lists-requires-clause-within
put_entry_lists-requires-clause-within c =
    rw c.as_slice-lists.ensures (subst (λ (cookies : Option (List (List ℕ))). AllByRecursion (AllByRecursion (IsWithinOf (version_of cookies))) c.args.script.now.commands) c.in-Some.is c.requires.commands)

pub put_entry_lists-requires-clause-few : goal.put_entry_lists-requires-clause-few
put_entry_lists-requires-clause-few c = rw c.as_slice-lists.ensures (few_commands c.args.script.now c.requires)
