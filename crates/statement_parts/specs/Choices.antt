-- Choices of case statements, as the checker keeps them: they are the same wherever numbers lead.
use Rattle.std.specs.Prelude.{List, map}
use Rattle.ada_meaning.specs.Tree as tree
use Rattle.ada_tree.specs.declared.statement.Choice.{Choice}
use Rattle.ada_tree.specs.View.{choice_of}
use Rattle.ada_entities.specs.EntityViews.{Tables}

abbrev pub choice_in : Tables → Choice → tree.Choice
choice_in k c = choice_of c

abbrev pub all_choices_in : Tables → List Choice → List tree.Choice
all_choices_in k cs = map choice_of cs
