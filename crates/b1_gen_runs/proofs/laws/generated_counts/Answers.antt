use Rattle.b1_gen_runs.proofs.Totals.{sends_are, entries_are, receipts_are, bytes_are, no_more_calls, calls_in_place}
use Rattle.b1_gen_runs.proofs.laws.generated_counts.Goals as goal

pub returns-clause-calls : goal.returns-clause-calls
returns-clause-calls c = λ number p s whole within. no_more_calls number s whole.run whole.drained p within

pub returns-clause-placed : goal.returns-clause-placed
returns-clause-placed c = λ number p s whole within. calls_in_place number s whole.run whole.drained p within

pub returns-clause-sends : goal.returns-clause-sends
returns-clause-sends c = λ number s whole. sends_are number s whole.run whole.drained

pub returns-clause-entries : goal.returns-clause-entries
returns-clause-entries c = λ number s whole. entries_are number s whole.run whole.drained

pub returns-clause-receipts : goal.returns-clause-receipts
returns-clause-receipts c = λ number s whole. receipts_are number s whole.run whole.drained

pub returns-clause-bytes : goal.returns-clause-bytes
returns-clause-bytes c = λ number s whole. bytes_are number s whole.run whole.drained
