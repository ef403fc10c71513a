use Rattle.std.proofs.Common.{◌≡◌, ◌++◌, drop}
use Rattle.kernel_code.specs.Set.{setting_of}
use Rattle.codegen_rv32.specs.Set.{body_pieces}
use Rattle.codegen_rv32.proofs.pieces.put_bodies.Given as goal

-- the pieces so far and those to come are all
abbrev pub invariant-loop-body : goal.invariant-loop-body
invariant-loop-body l =
    l.pieces.items ++ body_pieces (setting_of l.frame) (drop l.body-index l.bodies)
    ≡ l.fn.pieces.items ++ body_pieces (setting_of l.fn.frame) l.fn.bodies
