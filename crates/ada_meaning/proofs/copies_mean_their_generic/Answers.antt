use Rattle.ada_meaning.proofs.CopyStatements.{block_same}
use Rattle.ada_meaning.proofs.CopyExecution.{copies_law}
use Rattle.ada_meaning.proofs.copies_mean_their_generic.Goals as goal

pub returns : goal.returns
returns c = record { blocks = block_same; executions = copies_law }
