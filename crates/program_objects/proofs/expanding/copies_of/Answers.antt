use Rattle.std.proofs.lemmas.Result.{err_from_is_err_and}
use Rattle.program_objects.specs.Expanding.{no_memory}
use Rattle.program_objects.proofs.expanding.copies_of.Goals as goal

pub returns-in_err-named-clause-refused : goal.returns-in_err-named-clause-refused
returns-in_err-named-clause-refused c =
    let e = err_from_is_err_and c.from_residual.result c.from_residual.ensures.1 in
    rw (e.1, e.2) no_memory
