use Rattle.std.proofs.lemmas.Result.{err_from_is_err_and}
use Rattle.declaration_parser.proofs.ValueCode.{value_fails_first, value_read}
use Rattle.std.proofs.Common.{arith}
use Rattle.declaration_parser.proofs.values.value.Goals as goal

pub returns-in_err-value-clause-reads : goal.returns-in_err-value-clause-reads
returns-in_err-value-clause-reads c =
    let p = err_from_is_err_and c.from_residual.result c.from_residual.ensures.1 in
    rw (p.1, p.2) (value_fails_first c.args.parser.extent c.args.others.items c.args.tokens.now c.in_err-value.field-0.0 c.in_err-value.ensures.reads)

pub returns-in_err-value-clause-shorter : goal.returns-in_err-value-clause-shorter
returns-in_err-value-clause-shorter c = rw ((err_from_is_err_and c.from_residual.result c.from_residual.ensures.1).1) tt

pub returns-clause-reads : goal.returns-clause-reads
returns-clause-reads c = rw c.from-others.ensures (value_read c.args.parser.extent c.args.others.items c.args.tokens.now c.in_ok-value.value c.in_ok-value.rest c.in_ok-value.ensures.reads c.in_ok-value.ensures.shorter)

pub returns-clause-shorter : goal.returns-clause-shorter
returns-clause-shorter c = omega (arith, c.in_ok-value.ensures.shorter)
