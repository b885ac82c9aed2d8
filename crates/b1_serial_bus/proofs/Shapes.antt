-- The peers' numbers and how many calls each has: what changes of peers leave of them.
use Rattle.std.specs.Prelude.{◌≡◌, refl, ℕ, zero, suc, List, [], ◌∷◌, ◌++◌, length, map, fold}
use Rattle.std.proofs.Common.{arith, ap, ◌∙◌}
use Rattle.std.proofs.lemmas.List.{length-append}
use Rattle.b1_model.specs.declared.commands.Command.{Command}
use Rattle.b1_model.specs.declared.answers.Answer.{Answer}
use Rattle.b1_model.specs.declared.records.Call.{Call}
use Rattle.b1_serial_bus.specs.Parts.{Part, Bus, at_peer, called}

-- a peer's number, and how many calls it has
abbrev pub shape : Part → ℕ × ℕ
shape x = (x.me, length x.calls)

-- the same of all peers
abbrev pub shapes : Bus → List (ℕ × ℕ)
shapes bus = map shape bus

-- a peer with one call more
abbrev pub more : ℕ × ℕ → ℕ × ℕ
more s = (s.0, suc s.1)

-- the peer at a place has one call more
abbrev pub one_more : ℕ → List (ℕ × ℕ) → List (ℕ × ℕ)
one_more p [] = []
one_more zero (s ∷ ss) = more s ∷ ss
one_more (suc p) (s ∷ ss) = s ∷ one_more p ss

-- a change that leaves numbers and counts
abbrev pub IsQuiet : (Part → Part) → Type 0
IsQuiet f = (x : Part) → shape (f x) ≡ shape x

-- a change that adds a call
abbrev pub IsCall : (Part → Part) → Type 0
IsCall f = (x : Part) → shape (f x) ≡ more (shape x)

pub quiet_at : (p : ℕ) (f : Part → Part) (bus : Bus) → IsQuiet f → shapes (at_peer p f bus) ≡ shapes bus
quiet_at p f [] quiet = refl
quiet_at zero f (x ∷ xs) quiet = ap (λ s. s ∷ shapes xs) (quiet x)
quiet_at (suc p) f (x ∷ xs) quiet = ap (λ ss. shape x ∷ ss) (quiet_at p f xs quiet)

pub call_at : (p : ℕ) (f : Part → Part) (bus : Bus) → IsCall f → shapes (at_peer p f bus) ≡ one_more p (shapes bus)
call_at p f [] call = refl
call_at zero f (x ∷ xs) call = ap (λ s. s ∷ shapes xs) (call x)
call_at (suc p) f (x ∷ xs) call = ap (λ ss. shape x ∷ ss) (call_at p f xs call)

-- a change of every peer that leaves numbers and counts
pub quiet_all : (f : Part → Part) (bus : Bus) → IsQuiet f → shapes (map f bus) ≡ shapes bus
quiet_all f [] quiet = refl
quiet_all f (x ∷ xs) quiet = rw (quiet x, quiet_all f xs quiet) refl

-- several changes of the bus, each of which leaves numbers and counts
pub quiet_fold : {A : Type 0} (f : Bus → A → Bus) (xs : List A) (bus : Bus) → ((b : Bus) (x : A) → shapes (f b x) ≡ shapes b) → shapes (fold f bus xs) ≡ shapes bus
quiet_fold f [] bus quiet = refl
quiet_fold f (x ∷ xs) bus quiet = quiet_fold f xs (f bus x) quiet ∙ quiet bus x

-- a call is one more
pub called_more : (command : Command) (answer : Answer) (x : Part) → shape (called command answer x) ≡ more (shape x)
called_more command answer x =
    let c : Call = record { command = command; answer = answer } in
    let one : length (x.calls ++ c ∷ []) ≡ suc (length x.calls) = length-append x.calls (c ∷ []) ∙ omega arith in
    ap (λ n. (x.me, n)) one
