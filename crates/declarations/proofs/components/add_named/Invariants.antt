-- What is left of the names, behind what was added, is all of them behind what there was.
use Rattle.std.proofs.Common.{◌≡◌, drop}
use Rattle.ada_rules.specs.Types.{Fields}
use Rattle.ada_rules.specs.Declarations.{with_fields}
use Rattle.ada_entities.specs.Views.{TypeTables, subtype_of}
use Rattle.declarations.specs.Fields.{fields_before}
use Rattle.declarations.proofs.components.add_named.Given as goal

abbrev pub invariant-loop-name : goal.invariant-loop-name
invariant-loop-name l =
    (k : TypeTables) (rest : Fields)
    → fields_before k l.fields.items (with_fields (drop l.name-index l.fn.names) (subtype_of k l.fn.subtype) rest)
    ≡ fields_before k l.fn.fields.items (with_fields l.fn.names (subtype_of k l.fn.subtype) rest)
