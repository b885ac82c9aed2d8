use Rattle.std.proofs.Common.{◌≡◌, IfSome, List, ℕ, Option, ap, subst, sym}
use Rattle.b1_script.specs.declared.script.Script.{Script}
use Rattle.b1_script.specs.Pieces.{Taken}
use Rattle.b1_script.specs.Spelling.{IsWhole}
use Rattle.b1_script.proofs.Stops.{read_done}
use Rattle.b1_script.proofs.pieces.ScriptReader.finish.Goals as goal

pub returns-in-Some-clause-only : goal.returns-in-Some-clause-only
returns-in-Some-clause-only c = λ s is.
    let bytes : List ℕ = c.self.inside.bytes.items in
    let found : IsWhole bytes c.in-Some.script = subst (λ (o : Option Script). IfSome o (λ t. IsWhole bytes t)) c.in-Some.is c.self.invariant.found in
    ap read_done (subst (λ (b : List ℕ). IsWhole b s → IsWhole b c.in-Some.script → s ≡ c.in-Some.script) c.deref.ensures.value (c.are_one_script.ensures s c.in-Some.script) (subst (λ (v : Taken). IsWhole v.bytes s) (sym c.self.view_is) is) found)
