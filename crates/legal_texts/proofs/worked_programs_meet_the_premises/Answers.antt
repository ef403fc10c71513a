use Rattle.std.proofs.Common.{refl}
use Rattle.legal_texts.proofs.worked_programs_meet_the_premises.Goals as goal

pub returns-clause-is_legal : goal.returns-clause-is_legal
returns-clause-is_legal c = refl

pub returns-clause-packages : goal.returns-clause-packages
returns-clause-packages c = (refl, (tt, tt))

pub returns-clause-statements : goal.returns-clause-statements
returns-clause-statements c = (tt, tt)

pub returns-clause-decisions : goal.returns-clause-decisions
returns-clause-decisions c = tt

pub returns-clause-texts : goal.returns-clause-texts
returns-clause-texts c = ((tt, tt), ((tt, ((tt, tt), tt)), tt))

pub returns-clause-instance : goal.returns-clause-instance
returns-clause-instance c = ((tt, tt), (tt, ((tt, ((tt, tt), tt)), tt)))

pub returns-clause-calls_are_legal : goal.returns-clause-calls_are_legal
returns-clause-calls_are_legal c = refl

pub returns-clause-calls_packages : goal.returns-clause-calls_packages
returns-clause-calls_packages c = (refl, (tt, (tt, tt)))

pub returns-clause-calls_statements : goal.returns-clause-calls_statements
returns-clause-calls_statements c = (refl, (refl, (tt, tt)))

pub returns-clause-calls_decisions : goal.returns-clause-calls_decisions
returns-clause-calls_decisions c = tt

pub returns-clause-calls_texts : goal.returns-clause-calls_texts
returns-clause-calls_texts c = ((tt, tt), ((tt, ((tt, ((tt, tt), tt)), ((tt, ((tt, tt), tt)), tt))), ((tt, ((tt, tt), tt)), tt)))

pub returns-clause-units : goal.returns-clause-units
returns-clause-units c = ((refl, tt), (tt, tt))

pub returns-clause-calls_units : goal.returns-clause-calls_units
returns-clause-calls_units c = ((refl, (refl, tt)), ((refl, tt), (tt, tt)))
