use Rattle.std.proofs.Common.{length, subst, arith}
use Rattle.std.proofs.lemmas.Result.{err_from_is_err_and}
use Rattle.expression_parser.specs.Reading.{Got, Stuck}
use Rattle.expression_parser.specs.Shows.{ShowsAs, Reads}
use Rattle.expression_parser.specs.Depth.{at_name}
use Rattle.declaration_parser.proofs.Closings.{read_so}
use Rattle.ada_parser.specs.SimpleReading.{named_statement}
use Rattle.ada_parser.specs.StatementDepth as at
use Rattle.ada_parser.proofs.Parts.{part_fails}
use Rattle.declaration_parser.proofs.Pairs.{pair_below, pair_done, pair_fault}
use Rattle.ada_parser.proofs.NamedCode.{named_then, named_fail}
use Rattle.ada_parser.proofs.simple.named.Goals as goal

pub returns-in_err-first-clause-reads : goal.returns-in_err-first-clause-reads
returns-in_err-first-clause-reads c =
    let x = c.args.parser.extent in
    let ts = c.args.tokens.now in
    let p = err_from_is_err_and c.from_residual.result c.from_residual.ensures.1 in
    rw (p.1, p.2) (part_fails (Reads (at_name x) ts) (Reads (at.at_named x c.args.pos) ts) c.in_err-first.field-0.0 c.in_err-first.ensures.reads (λ rest h. named_fail x c.args.pos ts rest h))

pub returns-in_err-first-clause-shorter : goal.returns-in_err-first-clause-shorter
returns-in_err-first-clause-shorter c = rw ((err_from_is_err_and c.from_residual.result c.from_residual.ensures.1).1) tt

pub returns-in_err-name-clause-reads : goal.returns-in_err-name-clause-reads
returns-in_err-name-clause-reads c =
    let x = c.args.parser.extent in
    let pos = c.args.pos in
    let ts = c.args.tokens.now in
    let n = c.in_ok-first.first in
    let us = c.in_ok-first.rest.now in
    let p = err_from_is_err_and c.from_residual-in_err-name.result c.from_residual-in_err-name.ensures.1 in
    rw (p.1, p.2) (pair_fault (λ r. ShowsAs (named_statement pos n) (Reads (at.at_name_rest x pos n) us) r) n (Reads (at.at_named x pos) ts)
    (λ f e. part_fails (Reads (at.at_name_rest x pos n) us) (Reads (at.at_named x pos) ts) f e (λ rest h. named_then x pos ts us n (Stuck rest) c.in_ok-first.ensures.reads c.in_ok-first.ensures.shorter h))
    c.name_rest.result c.in_err-name.field-0.0 (c.name_rest.ensures.reads pos n) c.in_err-name.ensures)

pub returns-in_err-name-clause-shorter : goal.returns-in_err-name-clause-shorter
returns-in_err-name-clause-shorter c = rw ((err_from_is_err_and c.from_residual-in_err-name.result c.from_residual-in_err-name.ensures.1).1) tt

pub returns-in-Some-clause-reads : goal.returns-in-Some-clause-reads
returns-in-Some-clause-reads c =
    let x = c.args.parser.extent in
    let pos = c.args.pos in
    let ts = c.args.tokens.now in
    let n = c.in_ok-first.first in
    let us = c.in_ok-first.rest.now in
    let rest = c.in_ok-name.rest.now in
    let g = pair_done (λ r. ShowsAs (named_statement pos n) (Reads (at.at_name_rest x pos n) us) r) n (λ z o vs. Reads (at.at_named x pos) ts (Got (named_statement pos z o) vs))
    (λ o vs e. named_then x pos ts us n (Got (named_statement pos n o) vs.now) c.in_ok-first.ensures.reads c.in_ok-first.ensures.shorter e)
    c.name_rest.result c.in_ok-name.name c.in_ok-name.value c.in_ok-name.rest (c.name_rest.ensures.reads pos n) c.in_ok-name.ensures in
    subst (λ o. Reads (at.at_named x pos) ts (Got (named_statement pos c.in_ok-name.name o) rest)) c.in-Some.is g

pub returns-in-Some-clause-shorter : goal.returns-in-Some-clause-shorter
returns-in-Some-clause-shorter c =
    pair_below (length c.in_ok-first.rest.now) (length c.args.tokens.now) (omega (arith, c.in_ok-first.ensures.shorter)) c.in_ok-first.first c.name_rest.result (read_so (c.in_ok-name.name, c.in_ok-name.value) c.in_ok-name.rest)
    c.name_rest.ensures.shorter c.in_ok-name.ensures

pub returns-in-None-clause-reads : goal.returns-in-None-clause-reads
returns-in-None-clause-reads c =
    let x = c.args.parser.extent in
    let pos = c.args.pos in
    let ts = c.args.tokens.now in
    let n = c.in_ok-first.first in
    let us = c.in_ok-first.rest.now in
    let rest = c.in_ok-name.rest.now in
    let g = pair_done (λ r. ShowsAs (named_statement pos n) (Reads (at.at_name_rest x pos n) us) r) n (λ z o vs. Reads (at.at_named x pos) ts (Got (named_statement pos z o) vs))
    (λ o vs e. named_then x pos ts us n (Got (named_statement pos n o) vs.now) c.in_ok-first.ensures.reads c.in_ok-first.ensures.shorter e)
    c.name_rest.result c.in_ok-name.name c.in_ok-name.value c.in_ok-name.rest (c.name_rest.ensures.reads pos n) c.in_ok-name.ensures in
    subst (λ o. Reads (at.at_named x pos) ts (Got (named_statement pos c.in_ok-name.name o) rest)) c.in-None.is g

pub returns-in-None-clause-shorter : goal.returns-in-None-clause-shorter
returns-in-None-clause-shorter c =
    pair_below (length c.in_ok-first.rest.now) (length c.args.tokens.now) (omega (arith, c.in_ok-first.ensures.shorter)) c.in_ok-first.first c.name_rest.result (read_so (c.in_ok-name.name, c.in_ok-name.value) c.in_ok-name.rest)
    c.name_rest.ensures.shorter c.in_ok-name.ensures
