use Rattle.std.proofs.Common.{ap, length, refl, sym, ◌∙◌, arith}
use Rattle.std.proofs.lemmas.Result.{err_from_is_err_and}
use Rattle.ada_syntax.specs.declared.declaration.DiscreteRange.TheVariants as range
use Rattle.expression_parser.specs.declared.symbol.Symbol.TheVariants as symbol
use Rattle.expression_parser.specs.Reading.{Got}
use Rattle.expression_parser.specs.Shows.{Shows, Reads}
use Rattle.expression_parser.specs.Depth.{at_simple}
use Rattle.expression_parser.proofs.Faults.{handed_on}
use Rattle.expression_parser.proofs.NameCode.{after_some}
use Rattle.declaration_parser.specs.SubtypeReading as read
use Rattle.declaration_parser.proofs.Closings.{read_so}
use Rattle.declaration_parser.proofs.Pairs.{pair_below, pair_done, pair_fault}
use Rattle.declaration_parser.proofs.SubtypeCode.{range_closed, range_fails_first, range_fails_second, range_read, range_rules}
use Rattle.declaration_parser.proofs.subtypes.range.Goals as goal

pub returns-then-not-opens-clause-reads : goal.returns-then-not-opens-clause-reads
returns-then-not-opens-clause-reads c = range_closed c.args.parser.extent c.args.tokens.now c.args.tokens.now (sym c.opens.ensures ∙ c.if-not-opens.true) refl

pub returns-in_err-first-clause-reads : goal.returns-in_err-first-clause-reads
returns-in_err-first-clause-reads c =
    let x = c.args.parser.extent in
    let ts = c.args.tokens.now in
    let p = err_from_is_err_and c.from_residual.result c.from_residual.ensures.1 in
    rw (p.1, p.2) (handed_on (Reads (read.range_by x) ts) (Reads (at_simple x) ts) c.in_err-first.field-0.0 c.in_err-first.ensures.reads (λ rest h. range_fails_first x ts rest (sym c.opens.ensures ∙ c.if-not-opens.false) h))

pub returns-in_default-clause-reads : goal.returns-in_default-clause-reads
returns-in_default-clause-reads c = grind (arith, range_rules)

pub returns-in_default-clause-shorter : goal.returns-in_default-clause-shorter
returns-in_default-clause-shorter c = grind (arith, range_rules)

pub returns-in_err-low-clause-reads : goal.returns-in_err-low-clause-reads
returns-in_err-low-clause-reads c =
    let x = c.args.parser.extent in
    let ts = c.args.tokens.now in
    let i = c.in_ok-first in
    let vs = c.in-Some.after.now in
    let p = err_from_is_err_and c.from_residual-in_err-low.result c.from_residual-in_err-low.ensures.1 in
    rw (p.1, p.2) (pair_fault (λ r. Shows (Reads (at_simple x) vs) r) i.first (Reads (read.range_by x) ts)
    (λ f e. handed_on (Reads (read.range_by x) ts) (Reads (at_simple x) vs) f e (λ rest h. range_fails_second x ts i.rest.now vs rest i.first (sym c.opens.ensures ∙ c.if-not-opens.false) i.ensures.reads i.ensures.shorter (sym c.in-Some.ensures) h))
    c.simple-2.result c.in_err-low.field-0.0 c.simple-2.ensures.reads c.in_err-low.ensures)

pub returns-in_err-low-clause-shorter : goal.returns-in_err-low-clause-shorter
returns-in_err-low-clause-shorter c = rw ((err_from_is_err_and c.from_residual-in_err-low.result c.from_residual-in_err-low.ensures.1).1) tt

pub returns-clause-reads : goal.returns-clause-reads
returns-clause-reads c =
    let x = c.args.parser.extent in
    let ts = c.args.tokens.now in
    let i = c.in_ok-first in
    let k = c.in_ok-low in
    let vs = c.in-Some.after.now in
    pair_done (λ r. Shows (Reads (at_simple x) vs) r) i.first (λ l h ws. Reads (read.range_by x) ts (Got (range.Bounds (record { low = l; high = h })) ws))
    (λ b ws e. range_read x ts i.rest.now vs ws.now i.first b (sym c.opens.ensures ∙ c.if-not-opens.false) i.ensures.reads i.ensures.shorter (sym c.in-Some.ensures) e) c.simple-2.result k.low k.high k.rest c.simple-2.ensures.reads k.ensures

pub returns-clause-shorter : goal.returns-clause-shorter
returns-clause-shorter c =
    let i = c.in_ok-first in
    let k = c.in_ok-low in
    let vs = c.in-Some.after.now in
    let l = ap length (after_some symbol.DoubleDot i.rest.now vs (sym c.in-Some.ensures)).here in
    pair_below (length vs) (length c.args.tokens.now) (omega (arith, i.ensures.shorter, l)) i.first c.simple-2.result (read_so (k.low, k.high) k.rest) c.simple-2.ensures.shorter k.ensures
