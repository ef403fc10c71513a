use Rattle.legal_programs.proofs.WithoutInstances.{no_instances, nothing_to_resolve, facts_of_none}
use Rattle.legal_programs.proofs.programs_without_instances_are_resolved.Goals as goal

pub returns : goal.returns
returns c = λ l main p is none. (no_instances l main p is none, (nothing_to_resolve l main p is none, facts_of_none l main p is none))
