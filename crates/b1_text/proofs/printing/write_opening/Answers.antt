use Rattle.std.proofs.Common.{◌≡◌, ◌++◌, ◌∙◌, OnOk, List, ℕ, subst, ap, string_bytes}
use Rattle.b1_model.specs.Versions.{version_of, version_number}
use Rattle.b1_text.proofs.Texts.{texts_joined, opening_lines, first_lines}
use Rattle.b1_text.proofs.printing.write_opening.Goals as goal

pub returns : goal.returns
returns c =
    let script = c.args.script.now in
    let number : c.number_of_version-version.result ≡ version_number (version_of script.cookies) = c.number_of_version-version.ensures ∙ ap version_number c.version.ensures in
    let first = c.in_ok-write.ensures.bytes ∙ ap (λ (t : List ℕ). string_bytes c.args.out.now ++ t) (first_lines c.number_of_version-version.result (version_of script.cookies) script.opening.first_clock number) in
    let joined = texts_joined c.write_wires.result (string_bytes c.args.out.now) _ _ _ _ _ _ first (rw c.as_slice.ensures at c.in_ok-write_peers.ensures) (rw c.as_slice-2.ensures at c.write_wires.ensures) in
    subst (λ (t : List ℕ). OnOk c.write_wires.result (string_bytes c.write_wires.new.out ≡ string_bytes c.args.out.now ++ t)) (opening_lines script) joined
