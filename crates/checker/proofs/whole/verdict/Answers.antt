use Rattle.std.proofs.lemmas.Result.{IfOk-weaker, err_from_is_err_and}
use Rattle.walked_program.proofs.CheckedLaws.{refused_as, verdict_as}
use Rattle.checker.proofs.whole.verdict.Goals as goal

pub returns-in_err-named-clause-verdict : goal.returns-in_err-named-clause-verdict
returns-in_err-named-clause-verdict c l whole =
    let e = err_from_is_err_and c.from_residual.result c.from_residual.ensures.1 in
    rw (e.1, e.2) (c.in_err-named.ensures l whole)

pub returns-in_err-whole-clause-verdict : goal.returns-in_err-whole-clause-verdict
returns-in_err-whole-clause-verdict c l whole =
    let e = err_from_is_err_and c.from_residual-in_err-whole.result c.from_residual-in_err-whole.ensures.1 in
    rw (e.1, e.2) (refused_as _ _ c.in_err-whole.field-0.0 (c.in_ok-named.ensures l whole).comes (c.in_err-whole.ensures l whole))

pub returns-clause-verdict : goal.returns-clause-verdict
returns-clause-verdict c l whole =
    verdict_as _ _ c.program.result (c.in_ok-named.ensures l whole).comes (c.program.ensures.program l whole (c.in_ok-whole.ensures l whole))

pub returns-clause-units : goal.returns-clause-units
returns-clause-units c =
    IfOk-weaker c.program.result _ _ (λ p h l whole. h l whole (c.in_ok-whole.ensures l whole)) c.program.ensures.units

pub returns-clause-types : goal.returns-clause-types
returns-clause-types c =
    IfOk-weaker c.program.result _ _ (λ p h l whole. h l whole (c.in_ok-whole.ensures l whole)) c.program.ensures.types
