use Rattle.std.proofs.Common.{List, get_or, take, drop, ◌-◌, ◌≡◌, ◌≢◌, ◌++◌, ◌∷◌, AllPairs, ◌∙◌, sym, subst, ap, rules, ℕ, length, arith}
use Rattle.std.proofs.lemmas.List.{length-append}
use Rattle.b1_model.specs.MachineParts.{is_live}
use Rattle.b1_nodes.specs.Nodes.{AllMade}
use Rattle.b1_nodes.specs.Doom.{serials_in}
use Rattle.b1_nodes.proofs.Doomed.{peeled, none_left, serials_first, serials_live, serials_distinct, serials_few}
use Rattle.b1_nodes.proofs.destructions.doom.Goals as goal

pub put_last-requires : goal.put_last-requires
put_last-requires c =
    let left = c.loop-left.left.now in
    let rest : List ℕ = take (length left - 1) (drop 1 left) in
    let is : left ≡ get_or left 0 0 ∷ rest = peeled left 0 c.in-len1-up.len_at_least in
    let first : serials_in c.args.nodes.now.nodes left ≡ c.in-Some.serial ∷ serials_in c.args.nodes.now.nodes rest =
    ap (serials_in c.args.nodes.now.nodes) is ∙ serials_first c.args.nodes.now.nodes (get_or left 0 0) c.in-Some.serial rest (search rules) in
    let whole : length (c.loop-left.doomed.items ++ serials_in c.args.nodes.now.nodes left) ≡ length (serials_in c.args.nodes.now.nodes c.args.numbers.now) = ap length c.loop-left.invariant.serials in
    omega (arith, whole, length-append {A = ℕ}, ap length first, serials_few c.args.nodes.now.nodes c.args.numbers.now c.requires.once, c.requires.room, c.loop-left.invariant.capacity)

pub returns-clause-live : goal.returns-clause-live
returns-clause-live c =
    let is : c.loop-left.doomed.items ≡ serials_in c.args.nodes.now.nodes c.args.numbers.now = none_left c.args.nodes.now.nodes c.loop-left.left.now c.loop-left.doomed.items _ c.in_default.len_below c.loop-left.invariant.serials in
    subst (AllMade (λ n. is_live n.state) c.args.nodes.now.nodes) (sym is) (serials_live c.args.nodes.now.nodes c.args.numbers.now)

pub returns-clause-distinct : goal.returns-clause-distinct
returns-clause-distinct c =
    let is : c.loop-left.doomed.items ≡ serials_in c.args.nodes.now.nodes c.args.numbers.now = none_left c.args.nodes.now.nodes c.loop-left.left.now c.loop-left.doomed.items _ c.in_default.len_below c.loop-left.invariant.serials in
    subst (λ (xs : List ℕ). AllPairs ◌≢◌ xs) (sym is) (serials_distinct c.args.nodes.now.nodes c.args.numbers.now c.requires.once)
