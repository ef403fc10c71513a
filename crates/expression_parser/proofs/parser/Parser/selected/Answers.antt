use Rattle.std.proofs.Common.{◌∷◌, arith}
use Rattle.std.proofs.lemmas.Result.{err_from_is_err_and}
use Rattle.expression_parser.proofs.NameCode.{select, select_fail}
use Rattle.expression_parser.proofs.Faults.{suffix_identifier_fault}
use Rattle.expression_parser.proofs.parser.Parser.selected.Goals as goal

pub returns-in_err-selector : goal.returns-in_err-selector
returns-in_err-selector c =
    let x = c.args.self.extent in
    let us = c.args.rest.now in
    let p = err_from_is_err_and c.from_residual.result c.from_residual.ensures.1 in
    rw (p.1, p.2) (λ t i. suffix_identifier_fault x (t ∷ us) us c.in_err-selector.field-0.0 c.in_err-selector.ensures (λ rest k n. select_fail x t us rest i k n))

pub returns : goal.returns
returns c =
    let found = c.in_ok-selector in
    λ t i. (λ n q f. select c.args.self.extent t c.args.rest.now found.rest.now found.selector i found.ensures n q f, omega (arith, found.ensures.shorter))
