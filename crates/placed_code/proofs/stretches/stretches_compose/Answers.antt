use Rattle.placed_code.proofs.StretchLaws.{nothing_leads, leads_on, stretches_end}
use Rattle.placed_code.proofs.stretches.stretches_compose.Goals as goal

pub returns-clause-nothing : goal.returns-clause-nothing
returns-clause-nothing c = nothing_leads

pub returns-clause-both : goal.returns-clause-both
returns-clause-both c = leads_on

pub returns-clause-end : goal.returns-clause-end
returns-clause-end c = stretches_end
