use Rattle.std.proofs.Common.{length, arith}
use Rattle.std.proofs.lemmas.Result.{err_from_is_err_and}
use Rattle.expression_parser.specs.Shows.{Shows, Reads}
use Rattle.ada_parser.specs.StatementDepth.{at_handled}
use Rattle.ada_parser.specs.UnitDepth as at
use Rattle.ada_parser.proofs.Parts.{part_fails}
use Rattle.declaration_parser.proofs.Pairs.{pair_below, pair_shows}
use Rattle.ada_parser.proofs.BodyCode.{to_end_read, to_end_fails_first, to_end_fails_second}
use Rattle.ada_parser.proofs.bodies.statements_to_end.Goals as goal

pub returns-in_err-statements-clause-reads : goal.returns-in_err-statements-clause-reads
returns-in_err-statements-clause-reads c =
    let x = c.args.parser.extent in
    let ts = c.args.tokens.now in
    let p = err_from_is_err_and c.from_residual.result c.from_residual.ensures.1 in
    rw (p.1, p.2) (part_fails (Reads (at_handled x) ts) (Reads (at.at_statements_to_end x) ts) c.in_err-statements.field-0.0 c.in_err-statements.ensures.reads (λ rest h. to_end_fails_first x ts rest h))

pub returns-in_err-statements-clause-shorter : goal.returns-in_err-statements-clause-shorter
returns-in_err-statements-clause-shorter c = rw ((err_from_is_err_and c.from_residual.result c.from_residual.ensures.1).1) tt

pub returns-clause-reads : goal.returns-clause-reads
returns-clause-reads c =
    let x = c.args.parser.extent in
    let ts = c.args.tokens.now in
    let us = c.in_ok-statements.rest.now in
    let h = c.in_ok-statements.statements in
    let r = c.in_ok-statements.ensures.reads in
    let l = c.in_ok-statements.ensures.shorter in
    pair_shows (λ p. Shows (Reads at.at_end us) p) h (Reads (at.at_statements_to_end x) ts) (λ f e. part_fails (Reads at.at_end us) (Reads (at.at_statements_to_end x) ts) f e (λ rest n. to_end_fails_second x ts us rest h r l n))
    (λ z. z) (λ n vs e. to_end_read x ts us vs.now h n r l e) c.end.result c.paired.result c.end.ensures.reads c.paired.ensures

pub returns-clause-shorter : goal.returns-clause-shorter
returns-clause-shorter c =
    pair_below (length c.in_ok-statements.rest.now) (length c.args.tokens.now) (omega (arith, c.in_ok-statements.ensures.shorter)) c.in_ok-statements.statements c.end.result c.paired.result c.end.ensures.shorter c.paired.ensures
