use Rattle.std.proofs.Common.{ap, ◌∙◌, map, reverse}
use Rattle.ada_tree.specs.Programs.{instance_of}
use Rattle.program_walk.specs.States.{with_found}
use Rattle.program_walk.proofs.Latest.{latest_first}
use Rattle.program_walk.proofs.found.Found.add_instance.Goals as goal

pub returns : goal.returns
returns c k s =
    ap (λ xs. record (with_found k c.args.self.now s) { instances_declared = xs })
    (ap (λ xs. reverse (map instance_of xs)) c.in_ok-push.ensures.items ∙ latest_first instance_of c.args.self.now.instances.items c.args.instance)
