use Rattle.std.proofs.Common.{map, reverse}
use Rattle.ada_tree.specs.Programs.{constant_of}
use Rattle.ada_demands.proofs.NamedLaws.{demanded_is}
use Rattle.ada_demands.proofs.statics.Statics.demand.Goals as goal

pub returns : goal.returns
returns c k env s h =
    let old = c.args.self.now in
    demanded_is k env (record s { constants_declared = reverse (map constant_of old.constants) }) c.args.pos c.args.generic c.args.test old.demands.items
    c.push.new.self.items c.in_ok-push.ensures.items h
