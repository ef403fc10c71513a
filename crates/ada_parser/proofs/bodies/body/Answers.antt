use Rattle.declaration_parser.proofs.Closings.{below_behind}
use Rattle.std.proofs.Common.{◌<◌, length, arith}
use Rattle.std.proofs.lemmas.Result.{err_from_is_err_and}
use Rattle.expression_parser.specs.declared.symbol.Symbol.TheVariants as symbol
use Rattle.expression_parser.specs.Shows.{Reads}
use Rattle.declaration_parser.specs.DeclarationReading.{specification_by}
use Rattle.ada_parser.specs.UnitReading as read
use Rattle.ada_parser.proofs.Parts.{before_word, word_fails}
use Rattle.ada_parser.proofs.BodyCode.{body_shows, body_fail, body_no_is}
use Rattle.ada_parser.proofs.bodies.body.Goals as goal

pub returns-in_err-specification-clause-reads : goal.returns-in_err-specification-clause-reads
returns-in_err-specification-clause-reads c =
    let p = err_from_is_err_and c.from_residual.result c.from_residual.ensures.1 in
    rw (p.1, p.2) (word_fails (λ z. z) (specification_by c.args.parser.extent) (λ n. n < length c.args.tokens.now) symbol.Is c.args.tokens.now (Reads (read.body_by c.args.parser.extent) c.args.tokens.now) (λ rest h. body_fail c.args.parser.extent c.args.tokens.now rest h) c.specification.result c.in_err-specification.field-0.0 c.specification.ensures.reads c.specification.ensures.shorter c.in_err-specification.ensures (λ v us rest h l n. body_no_is c.args.parser.extent c.args.tokens.now us rest v h l n))

pub returns-in_err-specification-clause-shorter : goal.returns-in_err-specification-clause-shorter
returns-in_err-specification-clause-shorter c = rw ((err_from_is_err_and c.from_residual.result c.from_residual.ensures.1).1) tt

pub returns-clause-reads : goal.returns-clause-reads
returns-clause-reads c =
    let w = before_word (λ z. z) (specification_by c.args.parser.extent) (λ n. n < length c.args.tokens.now) symbol.Is c.args.tokens.now c.specification.result c.in_ok-specification.specification c.in_ok-specification.rest c.specification.ensures.reads c.specification.ensures.shorter c.in_ok-specification.ensures in
    body_shows c.args.parser.extent c.args.tokens.now w.before c.in_ok-specification.rest.now c.in_ok-specification.specification c.body_rest.result w.reads w.near w.word c.body_rest.ensures.reads

pub returns-clause-shorter : goal.returns-clause-shorter
returns-clause-shorter c =
    let ts = c.args.tokens.now in
    let k = c.in_ok-specification in
    let w = before_word (λ z. z) (specification_by c.args.parser.extent) (λ n. n < length ts) symbol.Is ts c.specification.result k.specification k.rest c.specification.ensures.reads c.specification.ensures.shorter k.ensures in
    below_behind ts k.rest.now c.body_rest.result (omega (arith, w.near, w.word.shorter)) c.body_rest.ensures.shorter
