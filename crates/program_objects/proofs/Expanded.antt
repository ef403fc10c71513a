-- Programs that are too large to be expanded are told as faults of their sources.
use Rattle.std.proofs.Common.{List}
use Rattle.cov_base.specs.declared.failure.Failure.{Failure}
use Rattle.ada_tree.specs.declared.program.UnitEntry.{UnitEntry}
use Rattle.generic_expand.specs.Expanded as expanded
use Rattle.generic_expand.specs.declared.fault.ExpandFault.{ExpandFault}
use Rattle.program_objects.specs.Expanding.{too_large, PassesLimit, has_too_many, passes, no_memory}

pub large_units : (entries : List UnitEntry) (f : Failure ExpandFault) → expanded.Refuses entries f → PassesLimit entries (too_large f)
large_units entries _ (expanded.has_too_many past) = has_too_many past
large_units entries _ (expanded.passes_the_limit few past) = passes few past
large_units entries _ expanded.memory_is_out = no_memory

pub ruleset refusals = (large_units)
