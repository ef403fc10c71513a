use Rattle.std.proofs.Common.{ap, ◌∙◌, map, reverse}
use Rattle.ada_tree.specs.Programs.{subprogram_of}
use Rattle.program_walk.specs.States.{types_in, with_found}
use Rattle.program_walk.proofs.Latest.{latest_first}
use Rattle.program_walk.proofs.found.Found.add_subprogram.Goals as goal

pub returns : goal.returns
returns c k s =
    ap (λ xs. record (with_found k c.args.self.now s) { subprograms = xs })
    (ap (λ xs. reverse (map (subprogram_of (types_in k)) xs)) c.in_ok-push.ensures.items ∙ latest_first (subprogram_of (types_in k)) c.args.self.now.subprograms.items c.args.subprogram)
