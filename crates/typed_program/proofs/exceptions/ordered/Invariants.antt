-- The numbers so far are those of the exceptions so far.
use Rattle.std.proofs.Common.{◌≡◌, map, take}
use Rattle.typed_program.proofs.exceptions.ordered.Given as goal

abbrev pub invariant-loop-exception : goal.invariant-loop-exception
invariant-loop-exception l = l.entries.items ≡ map (λ x. x.entry) (take l.exception-index l.exception-items)
