use Rattle.program_objects.proofs.Refusals.{not_refused}
use Rattle.program_objects.proofs.sources.legal_sources_are_not_refused.Goals as goal

pub returns : goal.returns
returns c = not_refused
