use Rattle.std.proofs.lemmas.Result.{err_from_is_err_and}
use Rattle.walked_program.proofs.behind.prepare.Goals as goal

pub returns-in_err-accepted-clause-accepted : goal.returns-in_err-accepted-clause-accepted
returns-in_err-accepted-clause-accepted c x l main whole k b there j =
    let e = err_from_is_err_and c.from_residual-in_err-accepted.result c.from_residual-in_err-accepted.ensures.1 in
    rw (e.1, e.2) (c.in_err-accepted.ensures x l main whole k b there j)
