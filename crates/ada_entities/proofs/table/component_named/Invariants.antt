-- What is left has the component if the whole has it.
use Rattle.std.proofs.Common.{◌≡◌, drop}
use Rattle.ada_rules.specs.Denoted.{field_among}
use Rattle.ada_entities.specs.Views.{TypeTables}
use Rattle.ada_entities.specs.Tables.{fields_of}
use Rattle.ada_entities.proofs.table.component_named.Given as goal

abbrev pub invariant-loop-place : goal.invariant-loop-place
invariant-loop-place l =
    (k : TypeTables) → field_among l.fn.name l.place (fields_of k (drop l.place l.fn.components)) ≡ field_among l.fn.name 0 (fields_of k l.fn.components)
