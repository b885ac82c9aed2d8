use Rattle.b1_model.specs.declared.version.Version.TheVariants.{One, Two}
use Rattle.b1_text.proofs.CommandLines.{not_so}
use Rattle.b1_text.proofs.Firsts.{version_reads, no_version_reads}
use Rattle.b1_text.proofs.lines.read_version.Goals as goal

pub returns-then-is_text : goal.returns-then-is_text
returns-then-is_text c = version_reads c.args.body.now One (c.is_text.ensures.0 c.if-is_text.true)

pub returns-then-is_text-2 : goal.returns-then-is_text-2
returns-then-is_text-2 c = version_reads c.args.body.now Two (c.is_text-2.ensures.0 c.if-is_text-2.true)

pub returns : goal.returns
returns c = no_version_reads c.args.body.now (not_so c.is_text.result c.if-is_text.false c.is_text.ensures) (not_so c.is_text-2.result c.if-is_text-2.false c.is_text-2.ensures)
