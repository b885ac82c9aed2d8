use Rattle.b1_ledger.proofs.Calls.{made_new}
use Rattle.b1_ledger.proofs.growth.names_after_a_call.Goals as goal

pub returns : goal.returns
returns c0 o r t p c legal a = made_new o r t p c a legal
