use Rattle.b1_records.proofs.Records.{each_byte, no_fault, no_record}
use Rattle.b1_records.proofs.Cookies.{no_fault2, no_record2}
use Rattle.b1_records.proofs.reading.every_place_has_a_record_or_a_fault.Goals as goal

pub returns-clause-none : goal.returns-clause-none
returns-clause-none c = λ bytes at fits none. no_fault bytes at (each_byte bytes fits) none

pub returns-clause-some : goal.returns-clause-some
returns-clause-some c = λ bytes at command end fits r. no_record bytes at command end (each_byte bytes fits) r

pub returns-clause-none2 : goal.returns-clause-none2
returns-clause-none2 c = λ bytes at fits none. no_fault2 bytes at (each_byte bytes fits) none

pub returns-clause-some2 : goal.returns-clause-some2
returns-clause-some2 c = λ bytes at cookie command end fits r. no_record2 bytes at cookie command end (each_byte bytes fits) r
