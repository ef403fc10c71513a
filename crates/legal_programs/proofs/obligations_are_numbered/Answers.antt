use Rattle.legal_programs.proofs.DecidedPrograms.{decisions_numbered, decisions_narrow}
use Rattle.legal_programs.proofs.QuietInterfaces.{labels_numbered}
use Rattle.legal_programs.proofs.obligations_are_numbered.Goals as goal

pub returns-clause-labels : goal.returns-clause-labels
returns-clause-labels c = λ l main p is. labels_numbered l main p is

pub returns-clause-decisions : goal.returns-clause-decisions
returns-clause-decisions c = λ l main p is standard. decisions_numbered l main p is standard

pub returns-clause-narrow : goal.returns-clause-narrow
returns-clause-narrow c = λ l main p is standard. decisions_narrow l main p is standard
