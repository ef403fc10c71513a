use Rattle.std.proofs.Common.{ap, ◌∙◌, map, reverse}
use Rattle.ada_tree.specs.Programs.{library_object_of}
use Rattle.program_walk.specs.States.{types_in, with_found}
use Rattle.program_walk.proofs.Latest.{latest_first}
use Rattle.program_walk.proofs.found.Found.add_object.Goals as goal

pub returns : goal.returns
returns c k s =
    ap (λ xs. record (with_found k c.args.self.now s) { objects_declared = xs })
    (ap (λ xs. reverse (map (library_object_of (types_in k)) xs)) c.in_ok-push.ensures.items ∙ latest_first (library_object_of (types_in k)) c.args.self.now.objects.items c.args.object)
