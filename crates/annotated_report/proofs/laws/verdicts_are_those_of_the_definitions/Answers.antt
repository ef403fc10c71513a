use Rattle.cov_base.specs.Expr.{size}
use Rattle.annotated_report.specs.LeastPair.{kind_of}
use Rattle.annotated_report.proofs.Giving.{started_law, gives_law, covered_law}
use Rattle.annotated_report.proofs.LeastPairs.{least_pair_is}
use Rattle.annotated_report.proofs.PairedEvents.{vectors_given}
use Rattle.annotated_report.proofs.laws.verdicts_are_those_of_the_definitions.Goals as goal

pub returns-clause-started : goal.returns-clause-started
returns-clause-started c = started_law

pub returns-clause-vectors : goal.returns-clause-vectors
returns-clause-vectors c = vectors_given

pub returns-clause-outcomes : goal.returns-clause-outcomes
returns-clause-outcomes c = gives_law

pub returns-clause-covered : goal.returns-clause-covered
returns-clause-covered c = covered_law

pub returns-clause-least : goal.returns-clause-least
returns-clause-least c = λ level e vectors c. least_pair_is (size e) (kind_of level e c) vectors
