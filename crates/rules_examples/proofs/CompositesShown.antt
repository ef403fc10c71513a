-- Shown by computing.
use Rattle.std.proofs.Common.{refl}
use Rattle.expression_parser.specs.Extents.{opens}
use Rattle.rules_examples.specs.Cases.{Hold}
use Rattle.rules_examples.specs.Composites.{Composites, changes_of_table}

table_hold : Hold changes_of_table
unfolding opens
table_hold = record { shown = refl }

pub composites_law : Composites
composites_law = table_hold
