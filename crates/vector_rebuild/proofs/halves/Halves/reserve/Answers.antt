use Rattle.std.proofs.Common.{ap}
use Rattle.vector_rebuild.specs.Kept.{found_in}
use Rattle.vector_rebuild.proofs.halves.Halves.reserve.Goals as goal

pub returns-clause-alike : goal.returns-clause-alike
returns-clause-alike c = λ k. ap (found_in c.args.self.now.latest k) (c.reserve.ensures.entries.2 k)
