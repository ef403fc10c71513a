use Rattle.std.proofs.Common.{map, reverse}
use Rattle.ada_tree.specs.Programs.{constant_of}
use Rattle.ada_demands.proofs.NamedLaws.{instantiated_is}
use Rattle.ada_demands.proofs.statics.Statics.instantiate.Goals as goal

pub returns : goal.returns
returns c k s =
    let old = c.args.self.now in
    instantiated_is k (record s { constants_declared = reverse (map constant_of old.constants) }) c.args.made old.demands.items c.push.new.self.items
    c.in_ok-push.ensures.items
