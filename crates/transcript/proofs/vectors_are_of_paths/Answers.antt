use Rattle.transcript.proofs.Vectors.{told_path, said_path, one_vector}
use Rattle.transcript.proofs.vectors_are_of_paths.Goals as goal

pub returns : goal.returns
returns c = record { told = told_path; said = said_path; one = one_vector }
