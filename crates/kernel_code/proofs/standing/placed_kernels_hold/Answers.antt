use Rattle.kernel_code.proofs.Stands.{pieces_have_lines, placed_kernels_hold as holds_law}
use Rattle.kernel_code.proofs.standing.placed_kernels_hold.Goals as goal

pub returns-clause-pieces : goal.returns-clause-pieces
returns-clause-pieces c = pieces_have_lines

pub returns-clause-kernel : goal.returns-clause-kernel
returns-clause-kernel c = holds_law
