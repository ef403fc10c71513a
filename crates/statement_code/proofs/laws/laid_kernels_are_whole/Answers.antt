use Rattle.statement_code.proofs.Laid.{whole_law}
use Rattle.statement_code.proofs.Stacked.{stacked_law}
use Rattle.statement_code.proofs.laws.laid_kernels_are_whole.Goals as goal

pub returns : goal.returns
returns c = record { whole = whole_law; stacked = stacked_law }
