-- The types so far are those of the table so far.
use Rattle.std.proofs.Common.{◌≡◌, length, take}
use Rattle.ada_tree.specs.Programs.{types_of}
use Rattle.ada_entities.specs.Tables.{AreDefinitions, tables_of}
use Rattle.ada_entities.specs.TypeTable.{tables}
use Rattle.ada_entities.specs.Trees.{shapes_in_tree, AreIn}
use Rattle.ada_entities.proofs.tree_table.type_declarations.Given as goal

abbrev pub invariant-loop-place : goal.invariant-loop-place
invariant-loop-place l =
    ((a : AreDefinitions (tables l.fn.types) l.definition-items)
    → types_of l.declarations.items ≡ shapes_in_tree (tables_of a.given (take l.place l.definition-items)))
    × (AreIn l.fn.generics 0 l.declarations.items)
    × (length l.declarations.items ≡ l.place)
