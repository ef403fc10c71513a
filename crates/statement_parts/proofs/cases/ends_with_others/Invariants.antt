-- the alternatives that are left answer as all do
use Rattle.std.proofs.Common.{◌≡◌, drop}
use Rattle.ada_rules.specs.Statements as rules
use Rattle.ada_entities.specs.EntityViews.{Tables}
use Rattle.statement_parts.specs.Cases.{arms_in}
use Rattle.statement_parts.proofs.cases.ends_with_others.Given as goal

abbrev pub invariant-loop-place : goal.invariant-loop-place
invariant-loop-place l =
    (k : Tables) → rules.ends_with_others (arms_in k (drop l.place l.alternatives)) ≡ rules.ends_with_others (arms_in k l.alternatives)
