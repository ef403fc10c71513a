-- Tables in which a walk stands.
use Rattle.std.proofs.Common.{map, sym, []}
use Rattle.std.proofs.lemmas.List.{append-nil}
use Rattle.ada_entities.specs.EntityViews.{Tables}
use Rattle.ada_demands.specs.SpanEntries.{listed_of}
use Rattle.ada_demands.specs.SpanViews.{listed}
use Rattle.typed_program.specs.program_walk.specs.Exact.{exact}
use Rattle.typed_program.specs.program_walk.proofs.WalkLaws.{exact_begins}
use Rattle.typed_program.specs.program_walk.specs.declared.walk.Walk.{Walk}
use Rattle.typed_program.specs.program_walk.specs.Walks.{Begins}

-- the tables that have just what a walk has declared and listed
abbrev pub tables_there : Walk → Tables
tables_there w = exact w.symbols (map listed_of (listed w.spans))

pub begins_there : (w : Walk) → Begins w (tables_there w)
begins_there w = record {
  symbols = exact_begins w.symbols (map listed_of (listed w.spans));
  spans = record { more = []; is = sym (append-nil (map listed_of (listed w.spans))) };
}
