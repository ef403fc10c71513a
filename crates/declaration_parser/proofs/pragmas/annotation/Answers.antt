use Rattle.declaration_parser.proofs.Pairs.{as_well}
use Rattle.declaration_parser.specs.DeclarationReading as read
use Rattle.expression_parser.specs.Shows.{Reads}
use Rattle.std.proofs.Common.{arith}
use Rattle.declaration_parser.proofs.PragmaCode.{annotation_read, annotation_rules}
use Rattle.declaration_parser.proofs.pragmas.annotation.Goals as goal

pub returns-clause-reads : goal.returns-clause-reads
returns-clause-reads c =
    let x = c.args.parser.extent in
    let ts = c.args.tokens.now in
    let ys = c.in_ok-rest-4.rest.now in
    as_well (Reads (λ m. read.exemption_by) ys) (Reads (read.annotation_by x) ts) c.exemption.result c.exemption.ensures.reads
    (λ q. annotation_read x ts c.in_ok-rest.rest.now c.in_ok-rest-2.rest.now c.in_ok-rest-3.rest.now ys q c.in_ok-rest.ensures c.in_ok-rest-2.ensures c.in_ok-rest-3.ensures c.in_ok-rest-4.ensures)

pub returns-clause-shorter : goal.returns-clause-shorter
returns-clause-shorter c = grind (arith, annotation_rules)

pub returns-in_err-rest-2-clause-reads : goal.returns-in_err-rest-2-clause-reads
returns-in_err-rest-2-clause-reads c = grind (arith, annotation_rules)

pub returns-in_err-rest-3-clause-reads : goal.returns-in_err-rest-3-clause-reads
returns-in_err-rest-3-clause-reads c = grind (arith, annotation_rules)

pub returns-in_err-rest-4-clause-reads : goal.returns-in_err-rest-4-clause-reads
returns-in_err-rest-4-clause-reads c = grind (arith, annotation_rules)

pub returns-in_err-rest-clause-reads : goal.returns-in_err-rest-clause-reads
returns-in_err-rest-clause-reads c = grind (arith, annotation_rules)
