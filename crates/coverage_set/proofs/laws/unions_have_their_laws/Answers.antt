use Rattle.coverage_set.proofs.UnionLaws.{commutative, associative, idempotent}
use Rattle.coverage_set.proofs.laws.unions_have_their_laws.Goals as goal

pub returns : goal.returns
returns c = record { commutative = commutative; associative = associative; idempotent = idempotent }
