-- The exceptions so far, and those of the rest.
use Rattle.std.proofs.Common.{◌≡◌, ◌++◌, drop}
use Rattle.obligations.specs.Exceptions as spec
use Rattle.obligations.proofs.exceptions.declared.Given as goal

abbrev pub invariant-loop-declaration : goal.invariant-loop-declaration
invariant-loop-declaration l =
    l.named.items ++ spec.of_declarations (drop l.declaration-index l.declared) l.instances ≡ spec.of_declarations l.declared l.instances
