use Rattle.commands.proofs.ObjectLaws.{plain_name}
use Rattle.commands.proofs.ready.sources.read_source.Goals as goal

pub returns-clause-plain : goal.returns-clause-plain
returns-clause-plain g c = plain_name c.in_ok-source_of.field-0 c.args.name.now c.in_ok-source_of.ensures.named c.utf8.name c.requires
