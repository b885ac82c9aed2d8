-- The versions of scripts, of their texts and of their reports.
use Rattle.std.specs.Prelude.{ℕ, List, [], Option, None, Some, slice_get, unwrap_or}
use Rattle.b1_model.specs.declared.version.Version.{Version}
use Rattle.b1_model.specs.declared.version.Version.TheVariants.{One, Two}

-- the version of what has no cookies, and of what has some
abbrev pub version_of : {A : Type 0} → Option A → Version
version_of None = One
version_of (Some cookies) = Two

-- the number that stands in a script, in a text and in a report
abbrev pub version_number : Version → ℕ
version_number One = 1
version_number Two = 2

-- the cookies of peer p's commands; none where there is no such peer, and where there are no cookies
abbrev pub cookies_of : Option (List (List ℕ)) → ℕ → List ℕ
cookies_of None p = []
cookies_of (Some lists) p = unwrap_or (slice_get lists p) []
