use Rattle.std.proofs.Common.{refl, arith, ◌+◌, ◌*◌}
use Rattle.std.proofs.lemmas.Result.{err_from_is_err_and}
use Rattle.trace_format.specs.Places.{block_count}
use Rattle.trace_format.proofs.ReaderLaws.{cause_of, history_short, history_next, gave_history}
use Rattle.trace_format.proofs.reader.TraceReader.next_history.Goals as goal

pub returns-in_err-take-clause-gives : goal.returns-in_err-take-clause-gives
returns-in_err-take-clause-gives g c = λ bytes given told h.
    let p = err_from_is_err_and c.from_residual.result c.from_residual.ensures.1 in
    let t = c.in_err-take.ensures.takes bytes (52 + 9 * block_count bytes + 9 * h.passed) told h.stands (omega (arith, h.count, h.few, h.short)) (omega arith) in
    rw (p.1, p.2) (cause_of c.take.new.stream c.take.new.into bytes (52 + 9 * block_count bytes + 9 * h.passed) 9 c.in_err-take.field-0.0 t (history_short c.args.self.now bytes given c.args.left h))

pub returns-clause-gives : goal.returns-clause-gives
returns-clause-gives g c = λ bytes given told h.
    let t = c.in_ok-take.ensures.takes bytes (52 + 9 * block_count bytes + 9 * h.passed) told h.stands (omega (arith, h.count, h.few, h.short)) (omega arith) in
    history_next c.args.self.now _ bytes given c.args.left c.take.new.into c.at-entry.result h t.0 t.2 c.at-entry.ensures refl refl refl c.see.ensures

pub returns-clause-gave : goal.returns-clause-gave
returns-clause-gave g c = λ given gave. gave_history given c.args.left c.at-entry.result gave
