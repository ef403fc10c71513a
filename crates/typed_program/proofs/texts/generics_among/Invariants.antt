-- What was noted goes on with the declarations that are left.
use Rattle.typed_program.proofs.TextLaws.{AreSoFar}
use Rattle.typed_program.proofs.texts.generics_among.Given as goal

abbrev pub invariant-loop-declared : goal.invariant-loop-declared
invariant-loop-declared l = AreSoFar l.types l.declared-index l.generics.items
