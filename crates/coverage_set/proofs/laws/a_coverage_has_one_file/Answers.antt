use Rattle.coverage_set.proofs.OneFile.{one, says_one, taken}
use Rattle.coverage_set.proofs.laws.a_coverage_has_one_file.Goals as goal

pub returns : goal.returns
returns c = record { one = one; says_one = says_one; taken = taken }
