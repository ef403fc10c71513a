use Rattle.legal_counts.proofs.HeldDecisions.{all_held}
use Rattle.legal_counts.proofs.statements_hold_decisions.Goals as goal

pub returns : goal.returns
returns c = λ l main p is. all_held p.subprograms (c.obligations_are_numbered.ensures.labels l main p is)
