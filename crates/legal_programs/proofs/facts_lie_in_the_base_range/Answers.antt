use Rattle.legal_programs.proofs.FactsInBase.{seen_in_base, facts_in_base}
use Rattle.legal_programs.proofs.facts_lie_in_the_base_range.Goals as goal

pub returns-clause-seen : goal.returns-clause-seen
returns-clause-seen c = λ l main p is. seen_in_base l main p is

pub returns-clause-behind : goal.returns-clause-behind
returns-clause-behind c = λ l main p is. facts_in_base l main p is
