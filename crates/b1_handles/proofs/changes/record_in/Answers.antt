use Rattle.std.proofs.Common.{◌∙◌}
use Rattle.b1_handles.proofs.Keyed.{lookup_record}
use Rattle.b1_handles.proofs.changes.record_in.Goals as goal

pub returns : goal.returns
returns c = c.get.ensures.value ∙ lookup_record c.args.node c.key_of.result c.args.records.now.entries c.key_of.ensures c.requires
