use Rattle.std.proofs.Common.{◌∙◌, ap, option_map}
use Rattle.ada_entities.specs.EntityViews.{entity_of}
use Rattle.ada_entities.proofs.StandardLaws.{table_found}
use Rattle.ada_entities.proofs.standard.predefined.Goals as goal

pub returns : goal.returns
returns c k = ap (option_map (entity_of k)) c.declared_in.ensures ∙ table_found k _ c.args.name.now
