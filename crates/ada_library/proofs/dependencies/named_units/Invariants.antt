-- What is left to add leads to what all clauses name.
use Rattle.std.proofs.Common.{◌≡◌, ◌++◌, drop}
use Rattle.ada_rules.specs.Library.{clause_names, numbers_named}
use Rattle.ada_library.proofs.dependencies.named_units.Given as goal

abbrev pub invariant-loop-clause : goal.invariant-loop-clause
invariant-loop-clause l =
    l.numbers.items ++ numbers_named l.names (clause_names (drop l.clause-index l.clauses)) ≡ numbers_named l.names (clause_names l.clauses)
