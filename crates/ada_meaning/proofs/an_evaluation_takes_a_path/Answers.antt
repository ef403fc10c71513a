use Rattle.ada_meaning.proofs.Evaluations.{leads_law, noted_law}
use Rattle.ada_meaning.proofs.an_evaluation_takes_a_path.Goals as goal

pub returns : goal.returns
returns c = record { leads = leads_law; noted = noted_law }
