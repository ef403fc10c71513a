use Rattle.transcript.proofs.Paths.{path_law, completed_law}
use Rattle.transcript.proofs.paths_and_vectors_are_computed.Goals as goal

pub returns : goal.returns
returns c = record { path = path_law; vector = completed_law }
