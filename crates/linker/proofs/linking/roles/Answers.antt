use Rattle.std.proofs.Common.{arith}
use Rattle.std.proofs.lemmas.Grind.{common_steps}
use Rattle.linker.proofs.Gathering.{roles_more}
use Rattle.linker.proofs.linking.roles.Goals as goal

pub loop-own-preserved : goal.loop-own-preserved
loop-own-preserved c =
    roles_more c.loop-own.roles.items c.put_roles.new.roles.items _ c.args.labels.now c.loop-own.own c.args.pieces.now c.index-pieces-own.result c.labels_at.result.now c.as_slice.result.now
    c.loop-own-test.true c.index-pieces-own.is c.labels_at.ensures c.as_slice.ensures c.in_ok-put_roles.ensures c.loop-own.invariant

pub returns : goal.returns
returns c = grind (arith, common_steps) steps 2000000
