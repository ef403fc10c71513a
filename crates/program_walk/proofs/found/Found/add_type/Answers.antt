use Rattle.std.proofs.Common.{ap, ◌∙◌, map, reverse}
use Rattle.program_walk.specs.States.{declared_type_of, with_found}
use Rattle.program_walk.proofs.Latest.{latest_first}
use Rattle.program_walk.proofs.found.Found.add_type.Goals as goal

pub returns : goal.returns
returns c k s =
    ap (λ xs. record (with_found k c.args.self.now s) { types_declared = xs })
    (ap (λ xs. reverse (map (declared_type_of k) xs)) c.in_ok-push.ensures.items ∙ latest_first (declared_type_of k) c.args.self.now.types.items c.args.declared)
