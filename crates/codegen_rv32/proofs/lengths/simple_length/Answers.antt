use Rattle.std.proofs.Common.{ap, sym, ◌∙◌}
use Rattle.kernel_code.specs.Code.{simple_length}
use Rattle.codegen_rv32.proofs.lengths.simple_length.Goals as goal

pub returns-in-Compare : goal.returns-in-Compare
returns-in-Compare c =
    c.compare_length.ensures c.in-Compare.to c.in-Compare.left c.in-Compare.right ∙ ap simple_length (sym c.in-Compare.is)

pub returns-in-Arithmetic : goal.returns-in-Arithmetic
returns-in-Arithmetic c =
    c.arithmetic_length.ensures c.in-Arithmetic.to c.in-Arithmetic.left c.in-Arithmetic.right ∙ ap simple_length (sym c.in-Arithmetic.is)
