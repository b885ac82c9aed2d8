use Rattle.std.proofs.Common.{◌≡◌, List, ◌∷◌, set, ap, sym, ◌∙◌, Option, None}
use Rattle.b1_model.specs.declared.naming.NodeRef.{NodeRef}
use Rattle.b1_handles.specs.Numbers.{name_at, names_of}
use Rattle.b1_handles.proofs.Names.{end_first_name, first_name, name_ended}
use Rattle.b1_handles.proofs.numbers.end_first_in.Goals as goal

pub returns-in-Some-name-clause-first : goal.returns-in-Some-name-clause-first
returns-in-Some-name-clause-first c =
    let e = c.loop-name.ended in
    let rest = c.pop_front.new.self.items in
    let is : names_of e (c.in-Some.name ∷ rest) ≡ names_of c.args.ended.now c.args.kept.now.items = ap (names_of e) (sym c.in-Some.ensures.items) ∙ c.loop-name.invariant.names in (
      ap (λ (ns : List (Option NodeRef)). name_at ns e) (sym is) ∙ first_name e rest c.in-Some.name ∙ c.in-Some-name.is,
      λ k low. ap (λ (ns : List (Option NodeRef)). name_at ns k) (sym is) ∙ name_ended e (c.in-Some.name ∷ rest) k low,
      end_first_name e rest c.in-Some.name ∙ ap (λ (ns : List (Option NodeRef)). set ns e None) is,
    )
