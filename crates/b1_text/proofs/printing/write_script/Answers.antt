use Rattle.std.proofs.Common.{◌≡◌, ◌++◌, OnOk, List, ℕ, subst, string_bytes}
use Rattle.b1_text.proofs.Texts.{texts_joined, script_lines}
use Rattle.b1_text.proofs.printing.write_script.Goals as goal

pub returns : goal.returns
returns c =
    let joined = texts_joined c.write_turns.result (string_bytes c.args.out.now) _ _ _ _ _ _ c.in_ok-write_opening.ensures c.in_ok-write_lists.ensures (rw c.as_slice.ensures at c.write_turns.ensures) in
    subst (λ (t : List ℕ). OnOk c.write_turns.result (string_bytes c.write_turns.new.out ≡ string_bytes c.args.out.now ++ t)) (script_lines c.args.script.now) joined
