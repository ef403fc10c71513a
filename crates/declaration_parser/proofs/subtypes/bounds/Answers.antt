use Rattle.std.proofs.lemmas.Result.{err_from_is_err_and}
use Rattle.expression_parser.specs.Reading.{Got}
use Rattle.expression_parser.specs.Shows.{Shows, Reads}
use Rattle.expression_parser.specs.Depth.{at_simple}
use Rattle.declaration_parser.specs.SubtypeReading as read
use Rattle.declaration_parser.proofs.SubtypeCode.{bounds_fails_first, bounds_fails_second, bounds_read}
use Rattle.std.proofs.Common.{length, arith}
use Rattle.expression_parser.specs.declared.symbol.Symbol.TheVariants as symbol
use Rattle.declaration_parser.proofs.Closings.{Below, closed_below, read_so, within_below}
use Rattle.declaration_parser.proofs.Pairs.{pair_below, pair_done, pair_fault}
use Rattle.declaration_parser.proofs.subtypes.bounds.Goals as goal

pub returns-in_err-first-clause-reads : goal.returns-in_err-first-clause-reads
returns-in_err-first-clause-reads c =
    let p = err_from_is_err_and c.from_residual.result c.from_residual.ensures.1 in
    rw (p.1, p.2) (bounds_fails_first c.args.parser.extent c.args.tokens.now c.simple.result c.in_err-first.field-0.0 c.simple.ensures.reads c.simple.ensures.shorter c.in_err-first.ensures)

pub returns-in_err-first-clause-shorter : goal.returns-in_err-first-clause-shorter
returns-in_err-first-clause-shorter c = rw ((err_from_is_err_and c.from_residual.result c.from_residual.ensures.1).1) tt

pub returns-in_err-low-clause-reads : goal.returns-in_err-low-clause-reads
returns-in_err-low-clause-reads c =
    let x = c.args.parser.extent in
    let ts = c.args.tokens.now in
    let i = c.in_ok-first in
    let p = err_from_is_err_and c.from_residual-in_err-low.result c.from_residual-in_err-low.ensures.1 in
    rw (p.1, p.2) (pair_fault (λ r. Shows (Reads (at_simple x) i.rest.now) r) i.first (Reads (read.bounds_by x) ts) (λ f e. bounds_fails_second x ts c.simple.result i.first i.rest f c.simple.ensures.reads c.simple.ensures.shorter i.ensures e)
    c.simple-2.result c.in_err-low.field-0.0 c.simple-2.ensures.reads c.in_err-low.ensures)

pub returns-in_err-low-clause-shorter : goal.returns-in_err-low-clause-shorter
returns-in_err-low-clause-shorter c = rw ((err_from_is_err_and c.from_residual-in_err-low.result c.from_residual-in_err-low.ensures.1).1) tt

pub returns-clause-reads : goal.returns-clause-reads
returns-clause-reads c =
    let x = c.args.parser.extent in
    let ts = c.args.tokens.now in
    let i = c.in_ok-first in
    let k = c.in_ok-low in
    pair_done (λ r. Shows (Reads (at_simple x) i.rest.now) r × Below i.rest.now r) i.first (λ l h vs. Reads (read.bounds_by x) ts (Got (record { low = l; high = h }) vs))
    (λ b vs e. bounds_read x ts c.simple.result i.first i.rest b vs c.simple.ensures.reads c.simple.ensures.shorter i.ensures e.0 e.1) c.simple-2.result k.low k.high k.rest (c.simple-2.ensures.reads, c.simple-2.ensures.shorter) k.ensures

pub returns-clause-shorter : goal.returns-clause-shorter
returns-clause-shorter c =
    let ts = c.args.tokens.now in
    let i = c.in_ok-first in
    let k = c.in_ok-low in
    let l = closed_below symbol.DoubleDot ts c.simple.result (read_so i.first i.rest) (within_below ts c.simple.result c.simple.ensures.shorter) i.ensures in
    pair_below (length i.rest.now) (length ts) (omega (arith, l)) i.first c.simple-2.result (read_so (k.low, k.high) k.rest) c.simple-2.ensures.shorter k.ensures
