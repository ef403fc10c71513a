use Rattle.std.proofs.Common.{arith}
use Rattle.decision_map.proofs.RoleSearch.{found_hinted}
use Rattle.decision_map.proofs.role_hints.RoleHints.role_at.Goals as goal

pub returns-then-role-pc : goal.returns-then-role-pc
returns-then-role-pc c =
    found_hinted c.args.roles.now _ c.args.pc c.in-Some.role.now c.requires c.in-Some.ensures.lookup.3.0 c.in-Some.ensures.lookup.1 (omega (arith, c.if-role-pc.true))
