use Rattle.expression_parser.specs.Depth.{at_expr}
use Rattle.declaration_parser.proofs.Closings.{within_below, closed_below}
use Rattle.ada_parser.proofs.BeforeWords.{before_shows}
use Rattle.ada_parser.proofs.heads.expr_before.Goals as goal

pub returns-clause-reads : goal.returns-clause-reads
returns-clause-reads c = before_shows (λ z. z) (at_expr c.args.parser.extent) c.args.wanted c.args.tokens.now c.expr.result c.closed_by.result c.expr.ensures.reads (within_below c.args.tokens.now c.expr.result c.expr.ensures.shorter) c.closed_by.ensures

pub returns-clause-shorter : goal.returns-clause-shorter
returns-clause-shorter c = closed_below c.args.wanted c.args.tokens.now c.expr.result c.closed_by.result (within_below c.args.tokens.now c.expr.result c.expr.ensures.shorter) c.closed_by.ensures
