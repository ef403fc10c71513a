-- Components of records, before and behind others.
use Rattle.std.specs.Prelude.{List, [], ◌∷◌, Result, Ok, Err}
use Rattle.cov_base.specs.declared.position.Pos.{Pos}
use Rattle.ada_rules.specs.Types.{Fields, and_field}
use Rattle.ada_rules.specs.Environment.{Given, given}
use Rattle.ada_entities.specs.declared.composite.Component.{Component as Field}
use Rattle.ada_entities.specs.Views.{TypeTables, subtype_of}

-- components before others
abbrev pub fields_before : TypeTables → List Field → Fields → Fields
fields_before k [] fs = fs
fields_before k (c ∷ cs) fs = and_field c.name (subtype_of k c.subtype) (fields_before k cs fs)

-- what comes behind components
abbrev pub behind_fields : TypeTables → List Field → Result (Given Fields) Pos → Result (Given Fields) Pos
behind_fields k done (Ok g) = Ok (given (fields_before k done g.value) g.next)
behind_fields k done (Err p) = Err p
