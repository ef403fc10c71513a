use Rattle.std.proofs.lemmas.Grind.{common_steps}
use Rattle.std.proofs.Common.{◌≡◌, arith, rules, Ok, sym}
use Rattle.trace_format.proofs.ReaderLaws.{front_wrong, front_right}
use Rattle.trace_format.proofs.reader.TraceReader.open.Goals as goal

pub returns-in-Err-clause-cause : goal.returns-in-Err-clause-cause
returns-in-Err-clause-cause g c = λ bytes told.
    let ok : c.fill.result ≡ Ok c.in_ok-got.got = search rules in
    let t = c.fill.ensures.takes bytes 0 (rw c.in_ok-stream.ensures.name told) (c.in_ok-stream.ensures.stands bytes) (omega arith) (omega arith) in
    rw c.refused.ensures (front_wrong c.fill.new.into bytes c.in_ok-got.got c.in-Err.fault (rw ok at t).0 (sym c.in-Err.ensures.head))

pub returns-clause-reads : goal.returns-clause-reads
returns-clause-reads g c = λ bytes told.
    let ok : c.fill.result ≡ Ok c.in_ok-got.got = search rules in
    let t = c.fill.ensures.takes bytes 0 (rw c.in_ok-stream.ensures.name told) (c.in_ok-stream.ensures.stands bytes) (omega arith) (omega arith) in
    let within = c.fill.ensures.count in
    front_right _ c.fill.new.into bytes c.in_ok-got.got (rw ok at t).0 (sym c.in-Ok.ensures.head) (rw ok at within) c.fill.ensures.len c.in-Ok.ensures.few (rw ok at t).1 (record { order = c.new-2.ensures; flags = c.new-3.ensures }) c.new-4.ensures

pub returns-in_err-got : goal.returns-in_err-got
returns-in_err-got g = search rules

pub returns-in_err-stream : goal.returns-in_err-stream
returns-in_err-stream g = search rules

pub returns-clause-writes : goal.returns-clause-writes
returns-clause-writes g = grind (arith, common_steps)

pub returns-clause-same : goal.returns-clause-same
returns-clause-same g = grind (arith, common_steps)

pub returns-in-Err-clause-writes : goal.returns-in-Err-clause-writes
returns-in-Err-clause-writes g = grind (arith, common_steps)

pub returns-in-Err-clause-same : goal.returns-in-Err-clause-same
returns-in-Err-clause-same g = grind (arith, common_steps)

pub returns-in-Err-clause-failed : goal.returns-in-Err-clause-failed
returns-in-Err-clause-failed g = grind (arith, common_steps)

pub returns-clause-failed : goal.returns-clause-failed
returns-clause-failed g = grind (arith, common_steps)

pub returns-clause-stays : goal.returns-clause-stays
returns-clause-stays g = grind (arith, common_steps)

pub returns-clause-later : goal.returns-clause-later
returns-clause-later g = grind (arith, common_steps)

pub slice_bounds-head_of-end : goal.slice_bounds-head_of-end
slice_bounds-head_of-end g = grind (arith, common_steps)

pub returns-clause-gave : goal.returns-clause-gave
returns-clause-gave g = grind (arith, common_steps)

pub returns-in-Err-clause-stays : goal.returns-in-Err-clause-stays
returns-in-Err-clause-stays g = grind (arith, common_steps)

pub returns-clause-name : goal.returns-clause-name
returns-clause-name g = grind (arith, common_steps)

pub returns-in-Err-clause-later : goal.returns-in-Err-clause-later
returns-in-Err-clause-later g = grind (arith, common_steps)
