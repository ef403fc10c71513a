-- What is left to see leads to what all clauses show.
use Rattle.std.proofs.Common.{◌≡◌, List, ◌++◌, drop}
use Rattle.ada_syntax.specs.declared.name.Identifier.{Identifier}
use Rattle.ada_syntax.specs.declared.unit.Unit.{Unit as LibraryUnit}
use Rattle.ada_rules.specs.Environment.{World}
use Rattle.ada_rules.specs.Library as rules
use Rattle.ada_rules.specs.Library.{clause_names, seen_more}
use Rattle.ada_entities.specs.EntityViews.{Tables, region_of}
use Rattle.ada_library.specs.Seeing.{Stands}
use Rattle.ada_library.proofs.visible.see_clauses.Given as goal

abbrev pub invariant-loop-clause : goal.invariant-loop-clause
invariant-loop-clause l =
    (all : List LibraryUnit) (k : Tables) (w : World) (x : rules.Library) → Stands l.library l.interfaces all k w x
    → (more : List Identifier) → seen_more w x (clause_names (drop l.clause-index l.clauses) ++ more) (region_of k l.region)
    ≡ seen_more w x (clause_names l.clauses ++ more) (region_of k l.fn.region)
