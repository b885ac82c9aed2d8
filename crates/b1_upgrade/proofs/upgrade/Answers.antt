use Rattle.std.proofs.Common.{◌≡◌, ◌≤◌, ◌∙◌, Bool, true, false, Option, None, Some, List, ℕ, map, length, sym, ap, refl, is_some}
use Rattle.std.proofs.lemmas.Bool.{leb-true}
use Rattle.b1_model.specs.declared.limits.TheConstants.{MOST_SCRIPT}
use Rattle.b1_script.specs.declared.script.Script.{Script}
use Rattle.b1_script.specs.Spelling.{spelling, HasSpelling}
use Rattle.b1_upgrade.specs.Upgraded.{places, upgraded}
use Rattle.b1_upgrade.proofs.Lengths.{placed, placed_fields, upgraded_spelled}
use Rattle.b1_upgrade.proofs.upgrade.Goals as goal

none_is : (o : Option (List (List ℕ))) → is_some o ≡ false → o ≡ None
none_is None e = refl
none_is (Some x) e = absurd cc

pub returns-clause-upgraded : goal.returns-clause-upgraded
returns-clause-upgraded c =
    let s : Script = c.args.script in
    let plain : s.cookies ≡ None = none_is s.cookies (sym c.is_some.ensures ∙ c.if-is_some.false) in
    let cookies : c.in_ok-cookies.cookies ≡ map places s.commands = c.in_ok-cookies.ensures ∙ ap (map places) c.as_slice.ensures in
    let room : length (spelling (upgraded s)) ≤ MOST_SCRIPT = leb-true (length (spelling (upgraded s))) MOST_SCRIPT (sym c.has_room.ensures ∙ c.if-not-has_room.false) in
    rw cookies (sym (placed s plain c.requires), upgraded_spelled s plain c.requires room)

pub returns-clause-fields : goal.returns-clause-fields
returns-clause-fields c =
    let s : Script = c.args.script in
    let plain : s.cookies ≡ None = none_is s.cookies (sym c.is_some.ensures ∙ c.if-is_some.false) in
    let cookies : c.in_ok-cookies.cookies ≡ map places s.commands = c.in_ok-cookies.ensures ∙ ap (map places) c.as_slice.ensures in
    λ fields. rw cookies (placed_fields s plain c.requires fields)
