-- The names so far, and those of the rest.
use Rattle.std.proofs.Common.{◌≡◌, ◌++◌, map, drop}
use Rattle.obligations.specs.declared.exceptions.NamedException.{NamedException}
use Rattle.obligations.proofs.program.push_names.Given as goal

abbrev pub invariant-loop-exception : goal.invariant-loop-exception
invariant-loop-exception l =
    l.names.items ++ map (λ (x : NamedException). x.name) (drop l.exception-index l.exceptions)
    ≡ l.fn.names.items ++ map (λ (x : NamedException). x.name) l.fn.exceptions
