use Rattle.std.proofs.Common.{length, arith}
use Rattle.std.proofs.lemmas.Result.{err_from_is_err_and}
use Rattle.ada_syntax.specs.declared.declaration.TypeDefinition.TheVariants as definition
use Rattle.expression_parser.specs.Reading.{Got}
use Rattle.expression_parser.specs.Shows.{Shows, Reads}
use Rattle.expression_parser.proofs.Faults.{handed_on}
use Rattle.declaration_parser.specs.SubtypeReading as read
use Rattle.declaration_parser.proofs.Closings.{read_so}
use Rattle.declaration_parser.proofs.Pairs.{pair_below, pair_done, pair_fault}
use Rattle.declaration_parser.proofs.SubtypeCode.{array_index_fails, array_element_fails, array_read}
use Rattle.declaration_parser.proofs.subtypes.array.Goals as goal

pub returns-in_err-values-clause-reads : goal.returns-in_err-values-clause-reads
returns-in_err-values-clause-reads c =
    let p = err_from_is_err_and c.from_residual.result c.from_residual.ensures.1 in
    rw (p.1, p.2) (handed_on (Reads (read.array_by c.args.parser.extent) c.args.tokens.now) (Reads (read.index_by c.args.parser.extent) c.args.tokens.now) c.in_err-values.field-0.0 c.in_err-values.ensures.reads (λ rest h. array_index_fails c.args.parser.extent c.args.tokens.now rest h))

pub returns-in_err-values-clause-shorter : goal.returns-in_err-values-clause-shorter
returns-in_err-values-clause-shorter c = rw ((err_from_is_err_and c.from_residual.result c.from_residual.ensures.1).1) tt

pub returns-in_err-index-clause-reads : goal.returns-in_err-index-clause-reads
returns-in_err-index-clause-reads c =
    let x = c.args.parser.extent in
    let ts = c.args.tokens.now in
    let i = c.in_ok-values in
    let p = err_from_is_err_and c.from_residual-in_err-index.result c.from_residual-in_err-index.ensures.1 in
    rw (p.1, p.2) (pair_fault (λ r. Shows (Reads (read.indication_by x) i.rest.now) r) i.values (Reads (read.array_by x) ts)
    (λ f e. handed_on (Reads (read.array_by x) ts) (Reads (read.indication_by x) i.rest.now) f e (λ rest h. array_element_fails x ts i.rest.now rest i.values i.ensures.reads i.ensures.shorter h))
    c.indication.result c.in_err-index.field-0.0 c.indication.ensures.reads c.in_err-index.ensures)

pub returns-in_err-index-clause-shorter : goal.returns-in_err-index-clause-shorter
returns-in_err-index-clause-shorter c = rw ((err_from_is_err_and c.from_residual-in_err-index.result c.from_residual-in_err-index.ensures.1).1) tt

pub returns-clause-reads : goal.returns-clause-reads
returns-clause-reads c =
    let x = c.args.parser.extent in
    let ts = c.args.tokens.now in
    let i = c.in_ok-values in
    let k = c.in_ok-index in
    pair_done (λ r. Shows (Reads (read.indication_by x) i.rest.now) r) i.values (λ z e vs. Reads (read.array_by x) ts (Got (definition.Array z e) vs))
    (λ e vs h. array_read x ts i.rest.now vs.now i.values e i.ensures.reads i.ensures.shorter h) c.indication.result k.index k.element k.rest c.indication.ensures.reads k.ensures

pub returns-clause-shorter : goal.returns-clause-shorter
returns-clause-shorter c =
    let i = c.in_ok-values in
    let k = c.in_ok-index in
    pair_below (length i.rest.now) (length c.args.tokens.now) (omega (arith, i.ensures.shorter)) i.values c.indication.result (read_so (k.index, k.element) k.rest) c.indication.ensures.shorter k.ensures
