use Rattle.ada_rules.specs.Library.{library_of}
use Rattle.legal_counts.proofs.InstancesByGeneric.{instances_are}
use Rattle.legal_counts.proofs.instances_are_those_that_units_are.Goals as goal

pub returns : goal.returns
returns c = λ standard units main p is count w same.
    instances_are (library_of standard units) main p is (c.orders_of_legal_programs_are_whole.ensures standard units main p is) count w same
