use Rattle.std.proofs.Common.{◌≡◌, ◌++◌, ◌+◌, ◌*◌, ◌-◌, List, [], ◌∷◌, arith, ap, ◌∙◌, subst, append_assoc}
use Rattle.std.specs.List.{flat_map, range_with_len}
use Rattle.b1_model.specs.declared.commands.Command.TheVariants.{Await, SliceRelease}
use Rattle.b1_gen.specs.Generated.{taking}
use Rattle.b1_gen.proofs.Rising.{push-range}
use Rattle.b1_gen.proofs.commands.push_takings.Goals as goal

both : {A : Type 0} (xs ys zs : List A) (one other : List A) → ys ≡ xs ++ one → zs ≡ ys ++ other → zs ≡ xs ++ (one ++ other)
both xs ys zs one other first second = second ∙ ap (λ l. l ++ other) first ∙ append_assoc xs one other

pub loop-receipt-preserved : goal.loop-receipt-preserved
loop-receipt-preserved c =
    let so_many : c.loop-receipt.receipt - c.args.first + 1 ≡ c.loop-receipt.receipt + 1 - c.args.first = omega arith in
    subst (λ n. c.push-in-loop-receipt.new.self.items ≡ c.args.commands.now.items ++ flat_map taking (range_with_len c.args.first n)) so_many
    (push-range taking c.args.first _ c.loop-receipt.receipt _ _ _ (omega arith) c.loop-receipt.invariant
    (both _ _ _ (Await ∷ []) (SliceRelease (2 * c.loop-receipt.receipt + 1) ∷ []) c.in_ok-push.ensures.items c.in_ok-push-2.ensures.items))
