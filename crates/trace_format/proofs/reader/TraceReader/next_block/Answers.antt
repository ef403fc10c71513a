use Rattle.std.proofs.Common.{refl, arith, ◌+◌, ◌*◌}
use Rattle.std.proofs.lemmas.Result.{err_from_is_err_and}
use Rattle.trace_format.proofs.ReaderLaws.{cause_of, block_short, block_next, gave_block}
use Rattle.trace_format.proofs.reader.TraceReader.next_block.Goals as goal

pub returns-in_err-take-clause-gives : goal.returns-in_err-take-clause-gives
returns-in_err-take-clause-gives g c = λ bytes given told b.
    let p = err_from_is_err_and c.from_residual.result c.from_residual.ensures.1 in
    let t = c.in_err-take.ensures.takes bytes (48 + 9 * b.passed) told b.stands (omega (arith, b.count, b.few)) (omega arith) in
    rw (p.1, p.2) (cause_of c.take.new.stream c.take.new.into bytes (48 + 9 * b.passed) 9 c.in_err-take.field-0.0 t (block_short c.args.self.now bytes given c.args.left b))

pub returns-clause-gives : goal.returns-clause-gives
returns-clause-gives g c = λ bytes given told b.
    let t = c.in_ok-take.ensures.takes bytes (48 + 9 * b.passed) told b.stands (omega (arith, b.count, b.few)) (omega arith) in
    block_next c.args.self.now _ bytes given c.args.left c.take.new.into c.at-block.result b t.0 t.2 c.at-block.ensures refl refl c.see.ensures c.see-2.ensures

pub returns-clause-gave : goal.returns-clause-gave
returns-clause-gave g c = λ given gave. gave_block given c.args.left c.at-block.result gave
