-- What the code's listed values are of the rules' definitions.
use Rattle.ada_tree.specs.View.{scalar_range_of}
use Rattle.ada_rules.specs.Statics.{Spans, within, formal_values, between_static}
use Rattle.ada_demands.specs.declared.spans.TypeValues.{TypeValues}
use Rattle.ada_demands.specs.declared.spans.TypeValues.TheVariants as values
use Rattle.ada_demands.specs.declared.spans.ListedSpans.{ListedSpans}

abbrev pub type_values_of : TypeValues → Spans
type_values_of (values.Within r) = within (scalar_range_of r)
type_values_of (values.OfFormalType place) = formal_values place

abbrev pub listed_of : ListedSpans → Spans
listed_of v = between_static v.first v.last (type_values_of v.otherwise)
