-- How programs that are too large to be expanded are told as faults of their sources.
use Rattle.std.specs.Prelude.{◌≡◌, List, Some, None}
use Rattle.cov_base.specs.declared.failure.Failure.{Failure}
use Rattle.cov_base.specs.declared.failure.Failure.TheVariants.{Fault, WantOfMemory}
use Rattle.cov_base.specs.declared.position.Pos.{Pos}
use Rattle.ada_tree.specs.declared.program.UnitEntry.{UnitEntry}
use Rattle.generic_expand.specs.Expanded.{past_instances, first_past}
use Rattle.generic_expand.specs.declared.fault.ExpandFault.{ExpandFault}
use Rattle.generic_expand.specs.declared.fault.ExpandFault.TheVariants.{TooBig, TooMany}
use Rattle.program_objects.specs.Units.{fault_at}
use Rattle.program_objects.specs.declared.fault.SourceFault.{SourceFault}
use Rattle.program_objects.specs.declared.fault.Why.{Why}
use Rattle.program_objects.specs.declared.fault.Why.TheVariants.{Limit}

abbrev pub failure_at : Pos → Why → Failure SourceFault
failure_at pos why = Fault (fault_at pos why)

abbrev pub too_large : Failure ExpandFault → Failure SourceFault
too_large (Fault (TooBig pos)) = failure_at pos Limit
too_large (Fault (TooMany pos)) = failure_at pos Limit
too_large WantOfMemory = WantOfMemory

-- units with these entries are within the limits on instances and nodes
pub record AreFew (units : List UnitEntry) : Type 0 where
  pub instances : past_instances 0 units ≡ None
  pub nodes : first_past 0 units ≡ None

-- or they are not: the instances, or else the nodes, of all pass the limit first with the one at this place
pub data PassesLimit (units : List UnitEntry) : Failure SourceFault → Type 0 where
  has_too_many : {pos : Pos} → past_instances 0 units ≡ Some pos → PassesLimit units (failure_at pos Limit)
  passes : {pos : Pos} → past_instances 0 units ≡ None → first_past 0 units ≡ Some pos → PassesLimit units (failure_at pos Limit)
  no_memory : PassesLimit units WantOfMemory
