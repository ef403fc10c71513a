use Rattle.std.proofs.Common.{length, arith}
use Rattle.std.proofs.lemmas.Result.{err_from_is_err_and}
use Rattle.expression_parser.specs.Reading.{Got}
use Rattle.expression_parser.specs.Shows.{ShowsAs, Reads}
use Rattle.declaration_parser.proofs.Closings.{read_so}
use Rattle.ada_parser.specs.BodyParts.{whole_body}
use Rattle.ada_parser.specs.UnitDepth as at
use Rattle.declaration_parser.proofs.Pairs.{pair_below, pair_done, pair_fault}
use Rattle.ada_parser.proofs.bodies.body_rest.Goals as goal

pub returns-in_err-specification-clause-reads : goal.returns-in_err-specification-clause-reads
returns-in_err-specification-clause-reads c =
    let x = c.args.parser.extent in
    let ts = c.args.tokens.now in
    let s = c.args.specification in
    let p = err_from_is_err_and c.from_residual.result c.from_residual.ensures.1 in
    rw (p.1, p.2) (pair_fault (λ r. ShowsAs (whole_body s) (Reads (at.at_body_rest x s) ts) r) s (Reads (at.at_body_rest x s) ts) (λ f e. e)
    c.body_parts.result c.in_err-specification.field-0.0 (c.body_parts.ensures.reads s) c.in_err-specification.ensures)

pub returns-in_err-specification-clause-shorter : goal.returns-in_err-specification-clause-shorter
returns-in_err-specification-clause-shorter c = rw ((err_from_is_err_and c.from_residual.result c.from_residual.ensures.1).1) tt

pub returns-clause-reads : goal.returns-clause-reads
returns-clause-reads c =
    let x = c.args.parser.extent in
    let ts = c.args.tokens.now in
    let s = c.args.specification in
    let k = c.in_ok-specification in
    rw c.from.ensures (pair_done (λ r. ShowsAs (whole_body s) (Reads (at.at_body_rest x s) ts) r) s (λ z y vs. Reads (at.at_body_rest x s) ts (Got (whole_body z y) vs)) (λ y vs e. e)
    c.body_parts.result k.specification (k.declarations, (k.statements, k.end_name)) k.rest (c.body_parts.ensures.reads s) k.ensures)

pub returns-clause-shorter : goal.returns-clause-shorter
returns-clause-shorter c =
    let k = c.in_ok-specification in
    let n = length c.args.tokens.now in
    pair_below n n (omega arith) c.args.specification c.body_parts.result (read_so (k.specification, (k.declarations, (k.statements, k.end_name))) k.rest) c.body_parts.ensures.shorter k.ensures
