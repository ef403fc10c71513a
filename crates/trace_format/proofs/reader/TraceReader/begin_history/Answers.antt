use Rattle.std.proofs.lemmas.Grind.{common_steps}
use Rattle.std.proofs.Common.{refl, arith, ◌+◌, ◌*◌}
use Rattle.std.proofs.lemmas.Result.{err_from_is_err_and}
use Rattle.trace_format.proofs.ReaderLaws.{cause_of, word_short, history_begins}
use Rattle.trace_format.proofs.reader.TraceReader.begin_history.Goals as goal

pub returns-in_err-take-clause-cause : goal.returns-in_err-take-clause-cause
returns-in_err-take-clause-cause g c = λ bytes given told b.
    let p = err_from_is_err_and c.from_residual.result c.from_residual.ensures.1 in
    let t = c.in_err-take.ensures.takes bytes (48 + 9 * b.passed) told b.stands (omega (arith, b.count, b.few)) (omega arith) in
    rw (p.1, p.2) (cause_of c.take.new.stream c.take.new.into bytes (48 + 9 * b.passed) 4 c.in_err-take.field-0.0 t (word_short c.args.self.now bytes given b))

pub returns-clause-begins : goal.returns-clause-begins
returns-clause-begins g c = λ bytes given told b.
    let t = c.in_ok-take.ensures.takes bytes (48 + 9 * b.passed) told b.stands (omega (arith, b.count, b.few)) (omega arith) in
    history_begins c.args.self.now _ bytes given c.take.new.into c.at.result b t.0 t.2 c.at.ensures c.at.type_inv refl refl refl refl

pub returns-clause-gave : goal.returns-clause-gave
returns-clause-gave g = grind (arith, common_steps)

pub returns-clause-stays : goal.returns-clause-stays
returns-clause-stays g = grind (arith, common_steps)
