use Rattle.std.proofs.Common.{ap, ◌∙◌, map, reverse}
use Rattle.ada_tree.specs.Programs.{exception_declaration_of}
use Rattle.program_walk.specs.States.{with_found}
use Rattle.program_walk.proofs.Latest.{latest_first}
use Rattle.program_walk.proofs.found.Found.add_exception.Goals as goal

pub returns : goal.returns
returns c k s =
    ap (λ xs. record (with_found k c.args.self.now s) { exceptions_declared = xs })
    (ap (λ xs. reverse (map exception_declaration_of xs)) c.in_ok-push.ensures.items ∙ latest_first exception_declaration_of c.args.self.now.exceptions.items c.args.exception)
