-- What the values of the checker are of the rules' definitions.
use Rattle.std.specs.Prelude.{Bool, Option, Some, None, if◌then◌else◌}
use Rattle.ada_entities.specs.ada_rules.specs.Types as rules
use Rattle.ada_entities.specs.Views.{TypeTables, type_of}
use Rattle.ada_judged.specs.declared.kind.Kind.{Kind}
use Rattle.ada_judged.specs.declared.kind.Kind.TheVariants as kind

abbrev pub kind_of : TypeTables → Kind → rules.Kind
kind_of k kind.Universal = rules.universal
kind_of k (kind.Of t) = rules.kind_of (type_of k t)

-- a type that operands fit together, where they do
abbrev pub where_fits : Bool → rules.AdaType → Option rules.Kind
where_fits b t = if b then Some (rules.kind_of t) else None
