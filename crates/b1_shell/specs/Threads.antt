-- What the program's words ask to be done on threads.
use Rattle.std.specs.Prelude.{◌≡◌, ◌<◌, ◌^◌, ℕ, List, [], ◌∷◌, codes}
use Rattle.std.specs.Fmt.{decimal}
use Rattle.b1_shell.specs.declared.threaded.Threaded.{Threaded}
use Rattle.b1_shell.specs.declared.threaded.Threaded.TheVariants.{Run, Soak}

-- the words are `run`, or `soak` and a number of 32 bits
abbrev pub Asks : List (List ℕ) → Threaded → Type 0
Asks words Run = words ≡ codes "run" ∷ []
Asks words (Soak number) = (number < 2 ^ 32) × (words ≡ codes "soak" ∷ decimal number ∷ [])

-- the words ask for nothing of the kind
abbrev pub AsksNothing : List (List ℕ) → Type 0
AsksNothing words = (t : Threaded) → Asks words t → ⊥
