-- Tables that begin with those of a longer table.
use Rattle.std.proofs.Common.{◌≡◌, List, ◌++◌, map, append_assoc, ap, ◌∙◌}
use Rattle.std.proofs.lemmas.List.{map-append}
use Rattle.ada_judged.specs.ada_entities.specs.EntityViews.{Tables}
use Rattle.ada_demands.specs.declared.spans.ListedSpans.{ListedSpans}
use Rattle.ada_demands.specs.SpanEntries.{listed_of}
use Rattle.ada_demands.specs.SpanViews.{Begins}

pub begins_earlier : (table added longer : List ListedSpans) → longer ≡ table ++ added → (k : Tables) → Begins longer k → Begins table k
begins_earlier table added longer e k b = record {
  more = map listed_of added ++ b.more;
  is =
      b.is ∙ (ap (λ xs. map listed_of xs ++ b.more) e
      ∙ (ap (λ xs. xs ++ b.more) (map-append listed_of table added) ∙ append_assoc (map listed_of table) (map listed_of added) b.more));
}
