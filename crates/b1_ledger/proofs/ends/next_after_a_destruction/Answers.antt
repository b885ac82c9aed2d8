use Rattle.b1_ledger.proofs.Doomed.{may_doomed_message, may_doomed_message_is, may_doomed_other, may_doomed_own}
use Rattle.b1_ledger.proofs.ends.next_after_a_destruction.Goals as goal

pub returns-clause-messages : goal.returns-clause-messages
returns-clause-messages c0 o r t p c stamp q key m x legal a d quiet e f = may_doomed_message_is o r t p c a legal stamp d q quiet key m x e f

pub returns-clause-no_message : goal.returns-clause-no_message
returns-clause-no_message c0 o r t p c stamp q key legal a d quiet h = may_doomed_message o r t p c a legal stamp d q quiet key h

pub returns-clause-others : goal.returns-clause-others
returns-clause-others c0 o r t p c stamp q key legal a d quiet other = may_doomed_other o r t p c a legal stamp d q quiet key other

pub returns-clause-own : goal.returns-clause-own
returns-clause-own c0 o r t p c stamp q key legal a d new quiet es eo = may_doomed_own o r t p c a legal stamp d new q quiet key es eo
