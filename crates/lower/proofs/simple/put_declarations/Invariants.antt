-- what is left to put, behind what was put, is the whole
use Rattle.std.proofs.Common.{◌≡◌, drop, map}
use Rattle.ada_tree.specs.View.{declaration_of}
use Rattle.kernel_ir.specs.Sequence.{joined}
use Rattle.lower.specs.Stated.{declarations_for}
use Rattle.lower.proofs.simple.put_declarations.Given as goal

abbrev pub invariant-loop-declaration : goal.invariant-loop-declaration
invariant-loop-declaration l =
    joined l.code (declarations_for l.context l.slot (map declaration_of (drop l.declaration-index l.declarations)))
    ≡ joined l.fn.code (declarations_for l.fn.context l.fn.slot (map declaration_of l.fn.declarations))
