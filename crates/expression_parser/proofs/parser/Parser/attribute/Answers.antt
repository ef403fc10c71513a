use Rattle.std.proofs.Common.{sym, ◌∙◌, arith}
use Rattle.std.proofs.lemmas.Result.{err_from_is_err_and}
use Rattle.expression_parser.proofs.NameCode.{take_attribute, attribute_fail, attribute_closed}
use Rattle.expression_parser.proofs.Faults.{suffix_identifier_fault}
use Rattle.expression_parser.proofs.parser.Parser.attribute.Goals as goal

pub returns-then-not-opens : goal.returns-then-not-opens
returns-then-not-opens c = λ t i e. rw e (attribute_closed c.args.self.extent t c.args.rest.now i (sym c.opens.ensures ∙ c.if-not-opens.true))

pub returns-in_err-attribute : goal.returns-in_err-attribute
returns-in_err-attribute c =
    let x = c.args.self.extent in
    let us = c.args.rest.now in
    let p = err_from_is_err_and c.from_residual.result c.from_residual.ensures.1 in
    rw (p.1, p.2) (λ t i e. suffix_identifier_fault x c.args.tokens.now us c.in_err-attribute.field-0.0 c.in_err-attribute.ensures
    (λ rest k n. rw e (attribute_fail x t us rest i (sym c.opens.ensures ∙ c.if-not-opens.false) k n)))

pub returns : goal.returns
returns c =
    let x = c.args.self.extent in
    let found = c.in_ok-attribute in
    λ t i e. rw e (λ n q f. take_attribute x t c.args.rest.now found.rest.now found.attribute i (sym c.opens.ensures ∙ c.if-not-opens.false) found.ensures n q f, omega (arith, found.ensures.shorter))
