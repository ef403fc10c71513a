use Rattle.std.proofs.Common.{arith}
use Rattle.std.proofs.lemmas.Grind.{common_steps}
use Rattle.linker.proofs.Gathering.{rows_more}
use Rattle.linker.proofs.linking.rows.Goals as goal

pub loop-own-preserved : goal.loop-own-preserved
loop-own-preserved c =
    rows_more c.loop-own.rows.items c.put_rows.new.rows.items _ c.args.labels.now c.loop-own.own c.args.pieces.now c.index-pieces-own.result c.labels_at.result.now c.as_slice.result.now
    c.loop-own-test.true c.index-pieces-own.is c.labels_at.ensures c.as_slice.ensures c.in_ok-put_rows.ensures c.loop-own.invariant

pub returns : goal.returns
returns c = grind (arith, common_steps) steps 2000000
