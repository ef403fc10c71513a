use Rattle.std.proofs.Common.{◌≡◌, ◌++◌, drop}
use Rattle.kernel_code.specs.Pieces.{layout_pieces}
use Rattle.codegen_rv32.proofs.pieces.put_layouts.Given as goal

-- the pieces so far and those to come are all
abbrev pub invariant-loop-layout : goal.invariant-loop-layout
invariant-loop-layout l =
    l.pieces.items ++ layout_pieces l.first l.number (drop l.layout-index l.layouts)
    ≡ l.fn.pieces.items ++ layout_pieces l.fn.first 0 l.fn.layouts
