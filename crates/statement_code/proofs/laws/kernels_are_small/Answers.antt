use Rattle.statement_code.proofs.Copies.{layouts_law}
use Rattle.statement_code.proofs.Kernels.{short_law, bytes_law, within_law}
use Rattle.statement_code.proofs.laws.kernels_are_small.Goals as goal

pub returns : goal.returns
returns c = record { instructions = short_law; bytes = bytes_law; within = within_law; covered = layouts_law }
