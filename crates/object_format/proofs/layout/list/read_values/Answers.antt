use Rattle.std.proofs.Common.{arith}
use Rattle.std.proofs.lemmas.Grind.{common_steps}
use Rattle.std.proofs.lemmas.Result.{err_from_is_err_and}
use Rattle.spelling.specs.Format.{read_many}
use Rattle.spelling.proofs.Loop.{goes_on, ends, is_done}
use Rattle.object_format.proofs.layout.list.read_values.Goals as goal

pub returns-in_err-value : goal.returns-in_err-value
returns-in_err-value g c =
    let read = g.T.Stored.format.read in
    let p = err_from_is_err_and c.from_residual.result c.from_residual.ensures.1 in
    rw (p.1, p.2) (ends read c.in_err-value.field-0.0 c.loop.values.items c.args.count c.loop.counter c.loop.rest.now (read_many read c.args.count c.args.bytes.now) c.loop-test.true c.in_err-value.ensures c.loop.invariant)

pub loop-preserved : goal.loop-preserved
loop-preserved g c =
    let read = g.T.Stored.format.read in
    rw c.in_ok-push.ensures.items (goes_on read c.loop.values.items c.args.count c.loop.counter c.loop.rest.now c.in_ok-value.value c.in_ok-value.after.now (read_many read c.args.count c.args.bytes.now) c.loop-test.true c.in_ok-value.ensures c.loop.invariant)

pub returns : goal.returns
returns g c =
    let read = g.T.Stored.format.read in
    is_done read c.loop.values.items c.args.count c.loop.counter c.loop.rest.now (read_many read c.args.count c.args.bytes.now) c.loop-test.false c.loop.invariant

pub loop-init : goal.loop-init
loop-init g c = grind (arith, common_steps)
