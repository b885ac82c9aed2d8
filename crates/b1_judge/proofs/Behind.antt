-- The data receipts of one call more.
use Rattle.std.proofs.Common.{◌≡◌, refl, sym, ap, ◌∙◌, append_assoc, ℕ, ◌+◌, ◌<◌, List, [], ◌∷◌, ◌++◌, length, take, get_or}
use Rattle.std.proofs.lemmas.List.{take_more}
use Rattle.b1_model.specs.declared.records.Call.{Call}
use Rattle.b1_model.specs.Script.{Data, data_of, data_receipts}

no_more : (xs : List Data) → xs ++ [] ≡ xs
no_more [] = refl
no_more (x ∷ xs) = ap (λ ys. x ∷ ys) (no_more xs)

one_more : (calls : List Call) (call : Call) → data_receipts (calls ++ call ∷ []) ≡ data_receipts calls ++ data_of call.answer
one_more [] call = no_more (data_of call.answer)
one_more (c ∷ cs) call = ap (λ l. data_of c.answer ++ l) (one_more cs call) ∙ sym (append_assoc (data_of c.answer) (data_receipts cs) (data_of call.answer))

pub data_more : (calls : List Call) (count : ℕ) (call : Call) (found more : List Data) → count < length calls → call ≡ get_or calls count call → found ≡ data_receipts (take count calls) → more ≡ found ++ data_of call.answer → more ≡ data_receipts (take (count + 1) calls)
data_more calls count call found more within at so_far last =
    last ∙ ap (λ l. l ++ data_of call.answer) so_far ∙ sym (one_more (take count calls) call) ∙ ap (λ c. data_receipts (take count calls ++ c ∷ [])) at
    ∙ ap data_receipts (sym (take_more calls count call within))
