-- What values are where the table of listed ones begins with what it has so far.
use Rattle.std.specs.Prelude.{◌≡◌, ℕ, List, ◌++◌, map, Option}
use Rattle.ada_meaning.specs.Program.{Bounds}
use Rattle.ada_rules.specs.Statics.{Facts, Spans, spans_in}
use Rattle.ada_judged.specs.ada_entities.specs.declared.entity.Values.{Values}
use Rattle.ada_judged.specs.ada_entities.specs.EntityViews.{Tables, values_of}
use Rattle.ada_demands.specs.declared.spans.ListedSpans.{ListedSpans}
use Rattle.ada_demands.specs.declared.spans.SpanTable.{SpanTable}
use Rattle.ada_demands.specs.SpanEntries.{listed_of}

-- what a table lists
abbrev pub listed : SpanTable → List ListedSpans
listed t = t.entries.items

-- tables whose listed values begin with those of this one
pub record Begins (table : List ListedSpans) (k : Tables) : Type 0 where
  pub more : List Spans
  pub is : k.spans ≡ map listed_of table ++ more

abbrev pub IsListed : List ListedSpans → Spans → Values → Type 0
IsListed table listed values = (k : Tables) → Begins table k → values_of k values ≡ listed

abbrev pub AreValues : List Facts → List ListedSpans → ℕ → Values → Option Bounds → Type 0
AreValues instances table n values bounds =
    (k : Tables) → Begins table k → bounds ≡ spans_in instances n (values_of k values)
