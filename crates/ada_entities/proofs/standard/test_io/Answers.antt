use Rattle.std.proofs.Common.{◌∙◌, ap, option_map}
use Rattle.ada_rules.specs.Entities as rules
use Rattle.ada_entities.specs.EntityViews.{entity_of}
use Rattle.ada_entities.proofs.StandardLaws.{table_found, test_io_is}
use Rattle.ada_entities.proofs.standard.test_io.Goals as goal

pub returns : goal.returns
returns c k h =
    ap (option_map (entity_of k)) c.declared_in.ensures
    ∙ (table_found k _ c.args.name.now ∙ ap (rules.entity_of c.args.name.now) (test_io_is k h))
