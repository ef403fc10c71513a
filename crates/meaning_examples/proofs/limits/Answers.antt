use Rattle.meaning_examples.proofs.DepthExamples.{deep, signs, at_limits}
use Rattle.meaning_examples.proofs.limits.Goals as goal

pub returns : goal.returns
returns c = record { deep = deep; signs = signs; at_limits = at_limits }
