-- What one more call adds to what is counted of a list of calls.
use Rattle.std.proofs.Common.{arith, sym, ◌≡◌, ℕ, ◌+◌, ◌*◌, ◌≤◌, ◌%◌, ◌^◌, max, List, [], ◌∷◌, length}
use Rattle.std.specs.Prelude.{if◌then◌else◌}
use Rattle.std.proofs.lemmas.List.{length-append}
use Rattle.b1_model.specs.declared.answers.Answer.{Answer}
use Rattle.b1_model.specs.declared.commands.Command.{Command}
use Rattle.b1_model.specs.declared.records.Call.{Call}
use Rattle.b1_edge.specs.Ports.{with_call}
use Rattle.b1_port_memory.specs.Memory.{greatest_stamp, is_send, sends_in, stamp_or_none}

pub few_sends : (calls : List Call) → sends_in calls ≤ length calls
few_sends [] = omega arith
few_sends (c ∷ cs) = let ih = few_sends cs in grind arith

pub one_send_more : (command : Command) (got : Answer) (calls : List Call) → sends_in (with_call command got calls) ≡ sends_in calls + (if is_send command then 1 else 0)
one_send_more command got [] = grind arith
one_send_more command got (c ∷ cs) = let ih = one_send_more command got cs in grind arith

pub sends_grow : (command : Command) (got : Answer) (calls : List Call) (sends more : ℕ) → sends ≡ sends_in calls → more ≡ sends + (if is_send command then 1 else 0) → more ≡ sends_in (with_call command got calls)
sends_grow command got calls sends more before grows = rw (grows, before) (sym (one_send_more command got calls))

pub one_stamp_more : (command : Command) (got : Answer) (calls : List Call) → greatest_stamp (with_call command got calls) ≡ max (stamp_or_none got) (greatest_stamp calls)
one_stamp_more command got [] = grind arith
one_stamp_more command got (c ∷ cs) = let ih = one_stamp_more command got cs in grind arith

pub even_max : (m n : ℕ) → m % 2 ≡ 0 → n % 2 ≡ 0 → max m n % 2 ≡ 0
even_max m n p q = grind arith

pub low_max : (m n : ℕ) (calls : List Call) (command : Command) (got : Answer) → m ≤ 2 ^ 62 + 2 * (length calls + 1) → n ≤ 2 ^ 62 + 2 * length calls → max m n ≤ 2 ^ 62 + 2 * length (with_call command got calls)
low_max m n calls command got p q = let k : length (with_call command got calls) ≡ length calls + 1 = length-append calls _ in grind arith
