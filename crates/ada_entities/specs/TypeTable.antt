-- What a table of types holds.
use Rattle.ada_entities.specs.declared.composite.Types.{Types}
use Rattle.ada_entities.specs.Views.{TypeTables}
use Rattle.ada_entities.specs.Tables.{tables_of}

abbrev pub tables : Types → TypeTables
tables t = tables_of t.instances.items t.definitions.items
