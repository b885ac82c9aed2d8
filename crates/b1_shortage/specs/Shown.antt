-- What answers show of want of memory.
use Rattle.std.specs.Prelude.{Bool, false, Some}
use Rattle.std.specs.List.{list_any}
use Rattle.b1_model.specs.declared.answers.Answer.{Answer}
use Rattle.b1_model.specs.declared.answers.Answer.TheVariants as answer
use Rattle.b1_model.specs.declared.records.Call.{Call}
use Rattle.b1_model.specs.declared.records.Record.{Record}
use Rattle.b1_model.specs.MachineDriver.{is_memory}

-- an answer is a refusal for memory, also at one place
abbrev pub shows_shortage : Answer → Bool
shows_shortage (answer.Sent sent) = list_any is_memory sent.places
shows_shortage (answer.Refused refused) = is_memory (Some refused.reason)
shows_shortage got = false

-- the same of a call
abbrev pub some_short : Call → Bool
some_short call = shows_shortage call.answer

-- some call of a record shows it
abbrev pub some_shortage : Record → Bool
some_shortage r = list_any (λ peer. list_any some_short peer.calls) r.peers
