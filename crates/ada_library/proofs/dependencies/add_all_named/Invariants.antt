-- What is left to add leads to what all names add.
use Rattle.std.proofs.Common.{◌≡◌, List, ◌++◌, drop}
use Rattle.ada_syntax.specs.declared.name.Identifier.{Identifier}
use Rattle.ada_rules.specs.Library.{numbers_named}
use Rattle.ada_library.proofs.dependencies.add_all_named.Given as goal

abbrev pub invariant-loop-identifier : goal.invariant-loop-identifier
invariant-loop-identifier l =
    (more : List Identifier) → l.numbers.items ++ numbers_named l.names (drop l.identifier-index l.identifiers ++ more)
    ≡ l.fn.numbers.items ++ numbers_named l.names (l.identifiers ++ more)
