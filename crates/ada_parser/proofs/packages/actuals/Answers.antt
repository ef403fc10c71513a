use Rattle.std.proofs.Common.{sym, arith}
use Rattle.declaration_parser.proofs.Closings.{within_below}
use Rattle.ada_parser.proofs.PackageCode.{no_actuals, actuals_show, actuals_within}
use Rattle.ada_parser.proofs.packages.actuals.Goals as goal

pub returns-in_default-clause-reads : goal.returns-in_default-clause-reads
returns-in_default-clause-reads c = rw c.new.ensures.items (no_actuals c.args.parser.extent c.args.tokens.now (sym c.in_default.ensures))

pub returns-in_default-clause-no_longer : goal.returns-in_default-clause-no_longer
returns-in_default-clause-no_longer c = omega arith

pub returns-clause-reads : goal.returns-clause-reads
returns-clause-reads c = actuals_show c.args.parser.extent (λ v. v.items) c.args.tokens.now c.in-Some.after.now c.exprs.result c.closed_by.result (sym c.in-Some.ensures) c.exprs.ensures.reads (within_below c.in-Some.after.now c.exprs.result c.exprs.ensures.shorter) c.closed_by.ensures

pub returns-clause-no_longer : goal.returns-clause-no_longer
returns-clause-no_longer c = actuals_within c.args.parser.extent (λ v. v.items) c.args.tokens.now c.in-Some.after.now c.exprs.result c.closed_by.result (sym c.in-Some.ensures) (within_below c.in-Some.after.now c.exprs.result c.exprs.ensures.shorter) c.closed_by.ensures
