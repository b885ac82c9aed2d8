-- The data receipt that stands at a place.
use Rattle.std.specs.Prelude.{◌≡◌, ℕ, List, [], ◌∷◌, slice_get, Option, None, Some}
use Rattle.std.specs.Option.{option_map}
use Rattle.std.specs.Borrow.{Bor}
use Rattle.std.proofs.Common.{arith, sym, ap, ◌∙◌}
use Rattle.b1_model.specs.declared.records.Call.{Call}
use Rattle.b1_model.specs.Script.{Data, data_of, data_receipts}
use Rattle.b1_receipts.specs.Places.{data_places}
use Rattle.b1_receipts.proofs.PlaceLemmas.{IsAt, at_place, no_place}
use Rattle.b1_script.specs.Resolving.{data_seen, list_seen}

one_seen : (found : Option (ℕ × Bor (List ℕ))) (d : Data) → list_seen found ≡ d ∷ [] → option_map data_seen found ≡ Some d
one_seen None d e = cc e
one_seen (Some f) d e = cc e

module _ (calls : List Call) (places : List ℕ) (are : places ≡ data_places calls) (index : ℕ) where
  pub found_none : slice_get places index ≡ None → slice_get (data_receipts calls) index ≡ None
  found_none none = no_place calls index (ap (λ ps. slice_get ps index) (sym are) ∙ none)

  module _ (place : ℕ) (at : slice_get places index ≡ Some place) where
    standing : IsAt calls 0 place index
    standing = at_place calls index place (ap (λ ps. slice_get ps index) (sym are) ∙ at)

    same_place : place ≡ standing.nth
    same_place = let e = standing.place_is in omega (arith, e)

    pub found_call : (call : Call) (found : Option (ℕ × Bor (List ℕ))) → slice_get calls place ≡ Some call → list_seen found ≡ data_of call.answer → option_map data_seen found ≡ slice_get (data_receipts calls) index
    found_call call found here shows =
        let there : Some call ≡ Some standing.call = sym here ∙ ap (λ p. slice_get calls p) same_place ∙ standing.found in
        let it : call ≡ standing.call = cc there in
        one_seen found standing.shown (shows ∙ ap (λ c. data_of c.answer) it ∙ standing.shows) ∙ sym standing.is_nth

    pub found_past : slice_get calls place ≡ None → slice_get (data_receipts calls) index ≡ None
    found_past none =
        let there : None ≡ Some standing.call = sym none ∙ ap (λ p. slice_get calls p) same_place ∙ standing.found in
        cc there
