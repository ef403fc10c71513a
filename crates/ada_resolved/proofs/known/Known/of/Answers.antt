use Rattle.std.proofs.Common.{refl}
use Rattle.ada_meaning.specs.Statics.{values_of}
use Rattle.ada_tree.specs.Programs.{program_of}
use Rattle.ada_resolved.proofs.Instances.{nothing_added}
use Rattle.ada_resolved.proofs.known.Known.of.Goals as goal

pub returns-clause-values : goal.returns-clause-values
returns-clause-values c = nothing_added (values_of (program_of c.args.program.now)) (λ k. refl)
