use Rattle.std.proofs.Common.{◌∙◌}
use Rattle.b1_handles.proofs.Keyed.{gone_record, keyed_by, lookup_record, values_by}
use Rattle.b1_handles.proofs.changes.drop_in.Goals as goal

pub returns-clause-keyed : goal.returns-clause-keyed
returns-clause-keyed c =
    keyed_by _ _ (c.remove.ensures.entries ∙ gone_record c.args.node c.key_of.result c.args.records.now.entries c.key_of.ensures c.requires.keyed c.requires.ordered)

pub returns-clause-record : goal.returns-clause-record
returns-clause-record c =
    c.remove.ensures.value ∙ lookup_record c.args.node c.key_of.result c.args.records.now.entries c.key_of.ensures c.requires.keyed

pub returns-clause-records : goal.returns-clause-records
returns-clause-records c =
    values_by _ _ (c.remove.ensures.entries ∙ gone_record c.args.node c.key_of.result c.args.records.now.entries c.key_of.ensures c.requires.keyed c.requires.ordered)
