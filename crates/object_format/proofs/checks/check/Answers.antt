use Rattle.std.proofs.Common.{rules}
use Rattle.object_format.proofs.checks.check.Goals as goal

pub returns : goal.returns
returns c = search rules

pub returns-then-not-branch-2 : goal.returns-then-not-branch-2
returns-then-not-branch-2 c = search rules

pub returns-then-not-branch : goal.returns-then-not-branch
returns-then-not-branch c = search rules
