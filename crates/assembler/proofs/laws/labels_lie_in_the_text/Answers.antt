use Rattle.assembler.proofs.Labels.{first_begins, labels_follow, labels_lie}
use Rattle.assembler.proofs.laws.labels_lie_in_the_text.Goals as goal

pub returns-clause-first : goal.returns-clause-first
returns-clause-first c = first_begins

pub returns-clause-follow : goal.returns-clause-follow
returns-clause-follow c = labels_follow

pub returns-clause-lie : goal.returns-clause-lie
returns-clause-lie c = labels_lie
