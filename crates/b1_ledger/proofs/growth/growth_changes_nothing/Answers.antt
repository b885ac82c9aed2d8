use Rattle.std.proofs.Common.{◌∙◌}
use Rattle.b1_ledger.proofs.Grows.{Found, keeps_found, found_of_message}
use Rattle.b1_ledger.proofs.Stable.{made_same, table_same, node_of_same, message_same, destructions_before_same, epoch_same, last_same}
use Rattle.b1_ledger.proofs.growth.growth_changes_nothing.Goals as goal

pub returns-clause-names : goal.returns-clause-names
returns-clause-names c0 o r t q k legal x l = made_same o.wires (Found r) r t (keeps_found o r t legal x) q k l

pub returns-clause-tables : goal.returns-clause-tables
returns-clause-tables c0 o r t q k legal x l = table_same o.wires (Found r) r t (keeps_found o r t legal x) q k l

pub returns-clause-nodes : goal.returns-clause-nodes
returns-clause-nodes c0 o r t q k n legal x l = node_of_same o.wires (Found r) r t (keeps_found o r t legal x) q k n l

pub returns-clause-messages : goal.returns-clause-messages
returns-clause-messages c0 o r t stamp q m legal x e = message_same o.wires (Found r) r t (keeps_found o r t legal x) stamp q (found_of_message o.wires r stamp q m e) ∙ e

pub returns-clause-destructions : goal.returns-clause-destructions
returns-clause-destructions c0 o r t q k legal x l = destructions_before_same o.wires (Found r) r t (keeps_found o r t legal x) q k l

pub returns-clause-epochs : goal.returns-clause-epochs
returns-clause-epochs c0 o r t q k legal x l = epoch_same o.wires (Found r) r t (keeps_found o r t legal x) q k l

pub returns-clause-last_keys : goal.returns-clause-last_keys
returns-clause-last_keys c0 o r t q k legal x l = last_same o.wires (Found r) r t (keeps_found o r t legal x) q k l
