use Rattle.named_types.proofs.NamedLaws.{types_named}
use Rattle.named_types.proofs.laws.named_types_stand.Goals as goal

pub returns : goal.returns
returns c = λ p h. types_named p h
