use Rattle.std.proofs.Common.{refl}
use Rattle.declarations.proofs.MadeLaws.{turn_bare, all_bare}
use Rattle.declarations.proofs.locals.make_bare.Goals as goal

pub loop-init : goal.loop-init
loop-init c k t e = refl

pub loop-preserved : goal.loop-preserved
loop-preserved c k t e =
    turn_bare k t c.args.tree c.args.made.now.items c.loop.made.items c.push.new.self.items c.args.first c.loop.number _ c.args.names.now c.loop.index
    c.loop-test.true e c.in_ok-number.ensures.number c.in_ok-push.ensures.items (c.loop.invariant k t e)

pub returns : goal.returns
returns c k t e =
    all_bare k t c.args.made.now.items c.loop.made.items c.args.first c.loop.number c.args.names.now c.loop.index c.loop-test.false (c.loop.invariant k t e)
