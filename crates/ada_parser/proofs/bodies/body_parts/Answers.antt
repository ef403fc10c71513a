use Rattle.std.proofs.Common.{◌≤◌, length, arith}
use Rattle.std.proofs.lemmas.Result.{err_from_is_err_and}
use Rattle.expression_parser.specs.declared.symbol.Symbol.TheVariants as symbol
use Rattle.expression_parser.specs.Shows.{Shows, Reads}
use Rattle.declaration_parser.specs.DeclarationReading.{declarations_by}
use Rattle.ada_parser.specs.BodyParts.{whole_body}
use Rattle.ada_parser.specs.UnitDepth as at
use Rattle.ada_parser.proofs.Parts.{before_word, word_fails, part_fails}
use Rattle.declaration_parser.proofs.Pairs.{pair_below, pair_shows}
use Rattle.ada_parser.proofs.BodyCode.{body_rest_read, body_declarations_fail, body_no_begin, body_statements_fail}
use Rattle.ada_parser.proofs.bodies.body_parts.Goals as goal

pub returns-in_err-declarations-clause-reads : goal.returns-in_err-declarations-clause-reads
returns-in_err-declarations-clause-reads c =
    let x = c.args.parser.extent in
    let ts = c.args.tokens.now in
    let p = err_from_is_err_and c.from_residual.result c.from_residual.ensures.1 in
    rw (p.1, p.2) (λ s. word_fails (λ v. v.items) (declarations_by x) (λ n. n ≤ length ts) symbol.Begin ts (Reads (at.at_body_rest x s) ts) (λ rest h. body_declarations_fail x s ts rest h)
    c.local_declarations.result c.in_err-declarations.field-0.0 c.local_declarations.ensures.reads c.local_declarations.ensures.no_longer c.in_err-declarations.ensures (λ v us rest h l n. body_no_begin x s ts us rest v.items h l n))

pub returns-in_err-declarations-clause-shorter : goal.returns-in_err-declarations-clause-shorter
returns-in_err-declarations-clause-shorter c = rw ((err_from_is_err_and c.from_residual.result c.from_residual.ensures.1).1) tt

pub returns-clause-reads : goal.returns-clause-reads
returns-clause-reads c =
    let x = c.args.parser.extent in
    let ts = c.args.tokens.now in
    let us = c.in_ok-declarations.rest.now in
    let v = c.in_ok-declarations.declarations in
    let w = before_word (λ v. v.items) (declarations_by x) (λ n. n ≤ length ts) symbol.Begin ts c.local_declarations.result v c.in_ok-declarations.rest c.local_declarations.ensures.reads c.local_declarations.ensures.no_longer c.in_ok-declarations.ensures in
    λ s. pair_shows (λ p. Shows (Reads (at.at_statements_to_end x) us) p) v (Reads (at.at_body_rest x s) ts)
    (λ f e. part_fails (Reads (at.at_statements_to_end x) us) (Reads (at.at_body_rest x s) ts) f e (λ rest h. body_statements_fail x s ts w.before us rest v.items w.reads w.near w.word h))
    (whole_body s) (λ y vs h. body_rest_read x s ts w.before us vs.now v.items y w.reads w.near w.word h) c.statements_to_end.result c.paired.result c.statements_to_end.ensures.reads c.paired.ensures

pub returns-clause-shorter : goal.returns-clause-shorter
returns-clause-shorter c =
    let n = length c.args.tokens.now in
    let v = c.in_ok-declarations.declarations in
    let w = before_word (λ v. v.items) (declarations_by c.args.parser.extent) (λ k. k ≤ n) symbol.Begin c.args.tokens.now c.local_declarations.result v c.in_ok-declarations.rest c.local_declarations.ensures.reads c.local_declarations.ensures.no_longer c.in_ok-declarations.ensures in
    pair_below (length c.in_ok-declarations.rest.now) n (omega (arith, w.near, w.word.shorter)) v c.statements_to_end.result c.paired.result c.statements_to_end.ensures.shorter c.paired.ensures
