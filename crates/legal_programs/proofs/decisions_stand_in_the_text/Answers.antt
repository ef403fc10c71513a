use Rattle.std.proofs.Common.{sym, subst}
use Rattle.legal_programs.specs.InText.{Rise}
use Rattle.legal_programs.proofs.PlacedDecisionUnits.{decisions_placed}
use Rattle.legal_programs.proofs.decisions_stand_in_the_text.Goals as goal

pub returns-clause-places : goal.returns-clause-places
returns-clause-places c = λ l main p is standard. decisions_placed l main p is standard

pub returns-clause-order : goal.returns-clause-order
returns-clause-order c = λ l main p is standard statements decisions. record {
  statements = statements;
  decisions = subst Rise (sym (decisions_placed l main p is standard)) decisions;
}
