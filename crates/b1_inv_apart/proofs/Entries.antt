-- Words of the proof: staged own notices in one queue, entry by entry.
use Rattle.std.specs.Prelude.{◌≡◌, ◌≢◌, ⊤, Bool, true, false, ◌&&◌, List, [], ◌∷◌}
use Rattle.b1_model.specs.declared.naming.Key.{Key}
use Rattle.b1_model.specs.declared.entries.Entry.{Entry}
use Rattle.b1_model.specs.declared.entries.Entry.TheVariants.{Message, OwnNotice, ForeignNotice, ReleaseNotice}
use Rattle.b1_model.specs.MachineParts.{is_staged}
use Rattle.b1_step.specs.Rights.{Has}

-- the destroy notice of an own node
abbrev pub is_own_notice : Entry → Bool
is_own_notice (Message origin user index serial offset len nodes slots handles payload) = false
is_own_notice (OwnNotice serial index) = true
is_own_notice (ForeignNotice node index) = false
is_own_notice (ReleaseNotice serial) = false

-- the same, staged
abbrev pub is_own_staged : Key × Entry → Bool
is_own_staged f = is_staged f && is_own_notice f.1

-- two entries aren't both staged own notices of one place
abbrev pub Apart : Key × Entry → Key × Entry → Type 0
Apart f g = is_own_staged f ≡ true → is_own_staged g ≡ true → f.0.index ≢ g.0.index

-- of the entries behind one, each is apart from it
abbrev pub AllApart : List (Key × Entry) → Type 0
AllApart [] = ⊤
AllApart (f ∷ rest) = ((g : Key × Entry) → Has rest g → Apart f g) × AllApart rest
