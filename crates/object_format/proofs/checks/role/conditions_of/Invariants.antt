use Rattle.std.proofs.Common.{◌≡◌, ◌++◌, drop}
use Rattle.object_format.specs.RoleCheck.{conditions_of}
use Rattle.object_format.proofs.checks.role.conditions_of.Given as goal

abbrev pub invariant-loop-role : goal.invariant-loop-role
invariant-loop-role l = l.found.items ++ conditions_of (drop l.role-index l.roles) ≡ conditions_of l.roles
