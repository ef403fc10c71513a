-- Selectors, as the checker keeps them.
use Rattle.ada_rules.specs.Statements as rules
use Rattle.ada_entities.specs.Views.{type_of}
use Rattle.ada_entities.specs.EntityViews.{Tables, values_of}
use Rattle.statement_parts.specs.declared.selectors.Selector.{Selector}

abbrev pub selector_in : Tables → Selector → rules.Selector
selector_in k x = record { expr = x.expr; type = type_of k.types x.of; values = values_of k x.values }
