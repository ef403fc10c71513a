use Rattle.ada_rules.specs.Library.{library_of}
use Rattle.legal_counts.proofs.SeenInstances.{generics_seen_so, instances_seen_so}
use Rattle.legal_counts.proofs.SeenUnits.{units_seen, walked_seen}
use Rattle.legal_counts.proofs.units_are_seen_as_their_items.Goals as goal

pub returns-clause-walked : goal.returns-clause-walked
returns-clause-walked c = walked_seen

pub returns-clause-kinds : goal.returns-clause-kinds
returns-clause-kinds c = units_seen

pub returns-clause-generics : goal.returns-clause-generics
returns-clause-generics c = λ standard units main p is.
    generics_seen_so (library_of standard units) main p is (c.orders_of_legal_programs_are_whole.ensures standard units main p is)

pub returns-clause-instances : goal.returns-clause-instances
returns-clause-instances c = λ standard units main p is.
    instances_seen_so (library_of standard units) main p is (c.orders_of_legal_programs_are_whole.ensures standard units main p is)
