use Rattle.generic_expand.proofs.Meaning.{called_same}
use Rattle.generic_expand.proofs.laws.copies_mean_their_generic.Goals as goal

pub returns : goal.returns
returns c = called_same
