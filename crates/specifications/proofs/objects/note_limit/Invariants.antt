-- What is left of the names, behind what was noted, comes to what all of them come to.
use Rattle.std.proofs.Common.{◌≡◌, drop}
use Rattle.ada_rules.specs.Environment.{State}
use Rattle.ada_rules.specs.Subprograms.{limited}
use Rattle.ada_phrases.specs.Answers.{counted}
use Rattle.specifications.proofs.objects.note_limit.Given as goal

abbrev pub invariant-loop-name : goal.invariant-loop-name
invariant-loop-name l =
    (s : State) → limited l.number (drop l.name-index l.fn.names) (counted l.decisions s) ≡ limited l.fn.first l.fn.names (counted l.fn.decisions s)
