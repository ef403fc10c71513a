use Rattle.std.proofs.lemmas.Grind.{common_steps}
use Rattle.std.proofs.Common.{◌≡◌, ◌+◌, ◌*◌, arith, rules, Ok, sym}
use Rattle.trace_format.specs.Places.{block_count}
use Rattle.trace_format.proofs.ReaderLaws.{close_wrong, close_failing, close_passed}
use Rattle.trace_format.proofs.reader.TraceReader.close.Goals as goal

pub returns-in-Err-clause-gives : goal.returns-in-Err-clause-gives
returns-in-Err-clause-gives g c = λ bytes given told h.
    let ok : c.fill.result ≡ Ok c.in_ok-got.got = search rules in
    let t = c.fill.ensures.takes bytes (52 + 9 * block_count bytes + 9 * h.passed) told h.stands (omega (arith, h.count, h.few, h.short)) (omega arith) in
    let wanted = c.in_ok-wanted.ensures bytes (52 + 9 * block_count bytes + 9 * h.passed) h.stands in
    rw c.refused.ensures (close_wrong c.args.self.now bytes given _ c.in_ok-wanted.wanted c.in-Err.fault h (rw ok at t).0 wanted (sym c.in-Err.ensures))

pub returns-in-Err-verdict-clause-gives : goal.returns-in-Err-verdict-clause-gives
returns-in-Err-verdict-clause-gives g c = λ bytes given told h.
    let ok : c.fill.result ≡ Ok c.in_ok-got.got = search rules in
    let t = c.fill.ensures.takes bytes (52 + 9 * block_count bytes + 9 * h.passed) told h.stands (omega (arith, h.count, h.few, h.short)) (omega arith) in
    let wanted = c.in_ok-wanted.ensures bytes (52 + 9 * block_count bytes + 9 * h.passed) h.stands in
    close_failing c.args.self.now bytes given _ c.in_ok-wanted.wanted _ c.in-Err-verdict.fault h (rw ok at t).0 wanted (sym c.in-Ok.ensures) (sym c.in-Err-verdict.ensures)

pub returns-clause-gives : goal.returns-clause-gives
returns-clause-gives g c = λ bytes given told h.
    let ok : c.fill.result ≡ Ok c.in_ok-got.got = search rules in
    let t = c.fill.ensures.takes bytes (52 + 9 * block_count bytes + 9 * h.passed) told h.stands (omega (arith, h.count, h.few, h.short)) (omega arith) in
    let wanted = c.in_ok-wanted.ensures bytes (52 + 9 * block_count bytes + 9 * h.passed) h.stands in
    close_passed c.args.self.now bytes given _ c.in_ok-wanted.wanted _ c.in_default.field-0 h (rw ok at t).0 wanted (sym c.in-Ok.ensures) (sym c.in_default.ensures)

pub returns-in_err-got : goal.returns-in_err-got
returns-in_err-got g = search rules

pub returns-clause-unfailed : goal.returns-clause-unfailed
returns-clause-unfailed g = grind (arith, common_steps)

pub slice_bounds-closing-end : goal.slice_bounds-closing-end
slice_bounds-closing-end g = grind (arith, common_steps)

pub returns-in-Err-clause-failed : goal.returns-in-Err-clause-failed
returns-in-Err-clause-failed g = grind (arith, common_steps)

pub returns-in-Err-clause-stays : goal.returns-in-Err-clause-stays
returns-in-Err-clause-stays g = grind (arith, common_steps)

pub returns-clause-stays : goal.returns-clause-stays
returns-clause-stays g = grind (arith, common_steps)

pub returns-in-Err-verdict-clause-failed : goal.returns-in-Err-verdict-clause-failed
returns-in-Err-verdict-clause-failed g = grind (arith, common_steps)

pub returns-clause-failed : goal.returns-clause-failed
returns-clause-failed g = grind (arith, common_steps)

pub returns-clause-gave : goal.returns-clause-gave
returns-clause-gave g = grind (arith, common_steps)

pub returns-in-Err-verdict-clause-stays : goal.returns-in-Err-verdict-clause-stays
returns-in-Err-verdict-clause-stays g = grind (arith, common_steps)
