use Rattle.b1_serial_rest.proofs.Kept.{rests}
use Rattle.b1_serial_rest.proofs.Done.{done}
use Rattle.b1_serial_rest.proofs.Scheduled.{scheduled}
use Rattle.b1_serial_rest.proofs.laws.a_command_alone_keeps_rest.Goals as goal

pub returns-clause-done : goal.returns-clause-done
returns-clause-done c = λ o s bus p y command m memory rest is alone. done o s bus p y command m memory rest is alone

pub returns-clause-kept : goal.returns-clause-kept
returns-clause-kept c = λ o s bus p y command m t rest is alone step. rests o s bus p y command m t rest is alone step

pub returns-clause-scheduled : goal.returns-clause-scheduled
returns-clause-scheduled c = λ o s bus p y d command m rest is is_driver alone. scheduled o s bus p y d command m rest is is_driver alone
