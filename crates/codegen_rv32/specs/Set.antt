-- What code depends on, as the definition of a kernel's code has it.
use Rattle.std.specs.Prelude.{List, map}
use Rattle.assembler.specs.declared.piece.Piece.{Piece}
use Rattle.kernel_ir.specs.declared.kernel.Body.{Body}
use Rattle.kernel_code.specs.Code.{body_lines}
use Rattle.kernel_code.specs.Marked.{piece_of}
use Rattle.kernel_code.specs.SimpleCode.{Setting, Targets}
use Rattle.codegen_rv32.specs.declared.targets.Targets.{Targets as DeclaredTargets}

abbrev pub targets_of : DeclaredTargets → Targets
targets_of t = record { raise_to = t.raise_to; exit_to = t.exit_to; return_to = t.return_to }

-- the pieces of bodies: the frame of each has its own width
abbrev pub body_pieces : Setting → List Body → List Piece
body_pieces e bodies =
    map (λ b. piece_of
    (body_lines
    (record { width = b.width; exceptions = e.exceptions; layouts = e.layouts; first_layout = e.first_layout }) b.code)) bodies
