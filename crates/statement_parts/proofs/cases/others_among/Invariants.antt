-- whether `others` is left
use Rattle.std.proofs.Common.{◌≡◌, drop, map}
use Rattle.ada_tree.specs.View.{choice_of}
use Rattle.ada_rules.specs.Statements.{has_others}
use Rattle.statement_parts.proofs.cases.others_among.Given as goal

abbrev pub invariant-loop-choice : goal.invariant-loop-choice
invariant-loop-choice l = has_others (map choice_of (drop l.choice-index l.choices)) ≡ has_others (map choice_of l.choices)
