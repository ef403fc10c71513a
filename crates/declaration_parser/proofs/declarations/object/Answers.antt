use Rattle.std.proofs.lemmas.Result.{err_from_is_err_and}
use Rattle.declaration_parser.proofs.DeclarationCode.{object_read, object_fails}
use Rattle.declaration_parser.proofs.declarations.object.Goals as goal

pub returns-in_err-indication-clause-reads : goal.returns-in_err-indication-clause-reads
returns-in_err-indication-clause-reads c =
    let p = err_from_is_err_and c.from_residual.result c.from_residual.ensures.1 in
    rw (p.1, p.2) (object_fails c.args.parser.extent c.args.names.items c.args.constancy c.args.tokens.now c.in_err-indication.field-0.0 c.in_err-indication.ensures.reads)

pub returns-in_err-indication-clause-shorter : goal.returns-in_err-indication-clause-shorter
returns-in_err-indication-clause-shorter c = rw ((err_from_is_err_and c.from_residual.result c.from_residual.ensures.1).1) tt

pub returns-clause-reads : goal.returns-clause-reads
returns-clause-reads c = object_read c.args.parser.extent c.args.names.items c.args.constancy c.args.tokens.now c.in_ok-indication.indication c.in_ok-indication.value c.in_ok-indication.rest.now c.from-names.result c.in_ok-indication.ensures.reads c.from-names.ensures

pub returns-clause-shorter : goal.returns-clause-shorter
returns-clause-shorter c = c.in_ok-indication.ensures.shorter
