-- What calls keep of slices: one more call, and calls that keep all.
use Rattle.std.proofs.Common.{◌≡◌, refl, sym, ap, ◌∙◌, ℕ, Bool, true, false, cond, ◌&&◌, List, [], ◌∷◌, ◌++◌, Option, append-nil}
use Rattle.b1_model.specs.declared.commands.Command.{Command}
use Rattle.b1_model.specs.declared.answers.Answer.{Answer}
use Rattle.b1_model.specs.declared.answers.Answer.TheVariants as ans
use Rattle.b1_model.specs.declared.records.Call.{Call}
use Rattle.b1_model.specs.MachineTook.{is_waiting, is_await, as_call, call_of}
use Rattle.b1_inv_slices.specs.Slices.{kept_after, kept_from, kept_len}

from_end : (offset : ℕ) (calls : List Call) (c : Call) (kept : Option ℕ) → kept_from offset (calls ++ c ∷ []) kept ≡ kept_after offset c.command c.answer (kept_from offset calls kept)
from_end offset [] c kept = refl
from_end offset (d ∷ rest) c kept = from_end offset rest c (kept_after offset d.command d.answer kept)

-- an attempt that waits keeps what was there
waiting_keeps : (offset : ℕ) (command : Command) (got : Answer) (kept : Option ℕ) → is_waiting command got ≡ true → kept_after offset (as_call command) got kept ≡ kept
waiting_keeps offset command (ans.Refused refused) kept is = refl
waiting_keeps offset command (ans.Sent b) kept is = refl
waiting_keeps offset command (ans.Destroyed stamp) kept is = refl
waiting_keeps offset command (ans.Info user pool limits) kept is = refl
waiting_keeps offset command (ans.Got receipt) kept is = absurd (none (is_await command) is)
  where
    none : (b : Bool) → (b && false) ≡ true → ⊥
    none true bad = cc bad
    none false bad = cc bad
waiting_keeps offset command ans.Done kept is = absurd (none (is_await command) is)
  where
    none : (b : Bool) → (b && false) ≡ true → ⊥
    none true bad = cc bad
    none false bad = cc bad
waiting_keeps offset command (ans.Reset stamp) kept is = absurd (none (is_await command) is)
  where
    none : (b : Bool) → (b && false) ≡ true → ⊥
    none true bad = cc bad
    none false bad = cc bad

-- the call of an answer, behind some calls
pub call_kept : (offset : ℕ) (calls : List Call) (command : Command) (got : Answer) → kept_len offset (calls ++ call_of command got) ≡ kept_after offset (as_call command) got (kept_len offset calls)
call_kept offset calls command got = by (is_waiting command got) refl
  where
    by : (b : Bool) → is_waiting command got ≡ b → kept_len offset (calls ++ cond b [] (record { command = as_call command; answer = got } ∷ [])) ≡ kept_after offset (as_call command) got (kept_len offset calls)
    by true waits = ap (kept_len offset) (append-nil calls) ∙ sym (waiting_keeps offset command got (kept_len offset calls) waits)
    by false ends = from_end offset calls (record { command = as_call command; answer = got }) _

-- answers that keep what was there, of every command
abbrev pub is_neutral : Answer → Bool
is_neutral (ans.Refused refused) = true
is_neutral (ans.Sent b) = true
is_neutral (ans.Destroyed stamp) = true
is_neutral got = false

pub neutral_keeps : (offset : ℕ) (calls : List Call) (command : Command) (got : Answer) → is_neutral got ≡ true → kept_len offset (calls ++ call_of command got) ≡ kept_len offset (calls ++ [])
neutral_keeps offset calls command got is = call_kept offset calls command got ∙ by got is ∙ sym (ap (kept_len offset) (append-nil calls))
  where
    by : (a : Answer) → is_neutral a ≡ true → kept_after offset (as_call command) a (kept_len offset calls) ≡ kept_len offset calls
    by (ans.Refused refused) neutral = refl
    by (ans.Sent b) neutral = refl
    by (ans.Destroyed stamp) neutral = refl
    by a neutral = absurd (cc neutral)
