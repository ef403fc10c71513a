use Rattle.program_objects.specs.Units.{here}
use Rattle.program_objects.proofs.units.units_of_file.Goals as goal

pub returns-in-Err-Fault-clause-refused : goal.returns-in-Err-Fault-clause-refused
returns-in-Err-Fault-clause-refused c = rw c.fault_in.ensures (here (rw c.in-Err-Fault.field-0-is at c.in-Err-Fault.ensures.refused))
