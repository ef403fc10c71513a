use Rattle.std.proofs.lemmas.Result.{err_from_is_err_and}
use Rattle.declaration_parser.proofs.DeclarationCode.{named_fails_first, named_read}
use Rattle.declaration_parser.proofs.declarations.named.Goals as goal

pub returns-in_err-names-clause-reads : goal.returns-in_err-names-clause-reads
returns-in_err-names-clause-reads c =
    let p = err_from_is_err_and c.from_residual.result c.from_residual.ensures.1 in
    rw (p.1, p.2) (named_fails_first c.args.parser.extent c.args.tokens.now c.identifiers.result c.in_err-names.field-0.0 (λ v. v.items) c.identifiers.ensures.reads c.identifiers.ensures.shorter c.in_err-names.ensures)

pub returns-in_err-names-clause-shorter : goal.returns-in_err-names-clause-shorter
returns-in_err-names-clause-shorter c = rw ((err_from_is_err_and c.from_residual.result c.from_residual.ensures.1).1) tt

pub returns-clause-reads : goal.returns-clause-reads
returns-clause-reads c = named_read c.args.parser.extent c.args.tokens.now c.identifiers.result c.in_ok-names.names c.in_ok-names.rest (λ v. v.items) c.named_rest.result c.identifiers.ensures.reads c.identifiers.ensures.shorter c.in_ok-names.ensures c.named_rest.ensures.reads
