use Rattle.std.proofs.lemmas.Result.{err_from_is_err_and}
use Rattle.declaration_parser.proofs.ProfileCode.{function_fails_first, function_fails_second, function_fails_third, function_read}
use Rattle.std.proofs.Common.{arith}
use Rattle.expression_parser.specs.declared.symbol.Symbol.TheVariants as symbol
use Rattle.declaration_parser.proofs.Closings.{closed_below, read_so}
use Rattle.declaration_parser.proofs.profiles.function.Goals as goal

pub returns-in_err-name-clause-reads : goal.returns-in_err-name-clause-reads
returns-in_err-name-clause-reads c =
    let p = err_from_is_err_and c.from_residual.result c.from_residual.ensures.1 in
    rw (p.1, p.2) (function_fails_first c.args.parser.extent c.args.pos c.args.tokens.now c.in_err-name.field-0.0 c.in_err-name.ensures)

pub returns-in_err-name-clause-shorter : goal.returns-in_err-name-clause-shorter
returns-in_err-name-clause-shorter c = rw ((err_from_is_err_and c.from_residual.result c.from_residual.ensures.1).1) tt

pub returns-in_err-parameters-clause-reads : goal.returns-in_err-parameters-clause-reads
returns-in_err-parameters-clause-reads c =
    let p = err_from_is_err_and c.from_residual-in_err-parameters.result c.from_residual-in_err-parameters.ensures.1 in
    rw (p.1, p.2) (function_fails_second c.args.parser.extent c.args.pos c.args.tokens.now c.in_ok-name.name c.in_ok-name.rest c.profile.result c.in_err-parameters.field-0.0 (λ v. v.items) c.in_ok-name.ensures c.profile.ensures.reads c.profile.ensures.no_longer c.in_err-parameters.ensures)

pub returns-in_err-parameters-clause-shorter : goal.returns-in_err-parameters-clause-shorter
returns-in_err-parameters-clause-shorter c = rw ((err_from_is_err_and c.from_residual-in_err-parameters.result c.from_residual-in_err-parameters.ensures.1).1) tt

pub returns-in_err-mark-clause-reads : goal.returns-in_err-mark-clause-reads
returns-in_err-mark-clause-reads c =
    let p = err_from_is_err_and c.from_residual-in_err-mark.result c.from_residual-in_err-mark.ensures.1 in
    rw (p.1, p.2) (function_fails_third c.args.parser.extent c.args.pos c.args.tokens.now c.in_ok-name.name c.in_ok-name.rest c.profile.result c.in_ok-parameters.parameters c.in_ok-parameters.rest (λ v. v.items) c.in_err-mark.field-0.0 c.in_ok-name.ensures c.profile.ensures.reads c.profile.ensures.no_longer c.in_ok-parameters.ensures c.in_err-mark.ensures.reads)

pub returns-in_err-mark-clause-shorter : goal.returns-in_err-mark-clause-shorter
returns-in_err-mark-clause-shorter c = rw ((err_from_is_err_and c.from_residual-in_err-mark.result c.from_residual-in_err-mark.ensures.1).1) tt

pub returns-clause-reads : goal.returns-clause-reads
returns-clause-reads c = function_read c.args.parser.extent c.args.pos c.args.tokens.now c.in_ok-name.name c.in_ok-name.rest c.profile.result c.in_ok-parameters.parameters c.in_ok-parameters.rest (λ v. v.items) c.in_ok-mark.mark c.in_ok-mark.rest c.from.result c.in_ok-name.ensures c.profile.ensures.reads c.profile.ensures.no_longer c.in_ok-parameters.ensures c.in_ok-mark.ensures.reads c.in_ok-mark.ensures.shorter c.from.ensures

pub returns-clause-shorter : goal.returns-clause-shorter
returns-clause-shorter c = omega (arith, c.in_ok-name.ensures.shorter, (closed_below symbol.Return c.in_ok-name.rest.now c.profile.result (read_so c.in_ok-parameters.parameters c.in_ok-parameters.rest) c.profile.ensures.no_longer c.in_ok-parameters.ensures), c.in_ok-mark.ensures.shorter)
