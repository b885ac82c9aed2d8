use Rattle.b1_records.proofs.Records.{each_byte}
use Rattle.b1_script.proofs.Laws.{no_fault, no_script, front_has_no_fault, front_has_no_script}
use Rattle.b1_script.proofs.reading.every_input_is_a_script_or_has_a_fault.Goals as goal

pub returns-clause-none : goal.returns-clause-none
returns-clause-none c = λ bytes fits none. no_fault bytes (each_byte bytes fits) none

pub returns-clause-some : goal.returns-clause-some
returns-clause-some c = λ bytes s fits is. no_script bytes s (each_byte bytes fits) is

pub returns-clause-none_at_front : goal.returns-clause-none_at_front
returns-clause-none_at_front c = λ bytes fits none. front_has_no_fault bytes (each_byte bytes fits) none

pub returns-clause-some_at_front : goal.returns-clause-some_at_front
returns-clause-some_at_front c = λ bytes s end fits is. front_has_no_script bytes s end (each_byte bytes fits) is
