-- What is left decides.
use Rattle.std.proofs.Common.{◌≡◌, List, ◌++◌, drop}
use Rattle.ada_syntax.specs.declared.name.Identifier.{Identifier}
use Rattle.ada_syntax.specs.declared.unit.Unit.{Unit as LibraryUnit}
use Rattle.ada_rules.specs.Library as rules
use Rattle.ada_rules.specs.Library.{clause_names, all_named_in_with}
use Rattle.ada_library.specs.LibraryView.{IsLibrary}
use Rattle.ada_library.proofs.heading.check_clauses.Given as goal

abbrev pub invariant-loop-clause : goal.invariant-loop-clause
invariant-loop-clause l =
    (all : List LibraryUnit) (x : rules.Library) (more : List Identifier) → IsLibrary l.library all x
    → (all_named_in_with x l.number l.unit (clause_names l.unit.withs ++ more)).answer
    ≡ (all_named_in_with x l.number l.unit (clause_names (drop l.clause-index l.clause-items) ++ more)).answer
