-- the choices so far, and those that are left
use Rattle.std.proofs.Common.{◌≡◌, ◌++◌, drop, map}
use Rattle.ada_tree.specs.View.{choice_of}
use Rattle.ada_rules.specs.Statements as rules
use Rattle.ada_entities.specs.EntityViews.{Tables}
use Rattle.statement_parts.specs.Cases.{arms_in}
use Rattle.statement_parts.proofs.cases.choices_in.Given as goal

abbrev pub invariant-loop-alternative : goal.invariant-loop-alternative
invariant-loop-alternative l =
    (k : Tables)
    → (map choice_of l.choices.items ++ rules.choices_in (arms_in k (drop l.alternative-index l.alternatives)))
    ≡ rules.choices_in (arms_in k l.alternatives)
