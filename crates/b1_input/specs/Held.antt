-- What is held of an input that begins with a script.
use Rattle.std.specs.Prelude.{◌≡◌, ◌⊎◌, ℕ, Bool, false, List, [], ◌++◌, drop, length}
use Rattle.std.specs.List.{AllByRecursion}
use Rattle.b1_records.specs.Spelling.{IsByte}
use Rattle.b1_script.specs.declared.script.Script.{Script}
use Rattle.b1_script.specs.Pieces.{IsWholeScript}
use Rattle.b1_script.specs.Spelling.{IsScript}

-- the bytes up to a script's end, those behind it, and whether memory was wanting for one of them
pub record Held : Type 0 where
  pub front : List ℕ
  pub behind : List ℕ
  pub wanting : Bool

-- all of them
abbrev pub held_bytes : Held → List ℕ
held_bytes h = h.front ++ h.behind

-- how they are held, where memory wasn't wanting: bytes stand behind a whole script alone
pub record IsHeld (front behind : List ℕ) (count : ℕ) : Type 0 where
  pub whole : (behind ≡ []) ⊎ IsWholeScript front
  pub counted : count ≡ length front
  pub bytes : AllByRecursion IsByte (front ++ behind)

-- a script at the front of the bytes, and the bytes behind it
pub record IsFront (bytes : List ℕ) (s : Script) (end : ℕ) (behind : List ℕ) : Type 0 where
  pub script : IsScript bytes s end
  pub rest : behind ≡ drop end bytes
