use Rattle.std.proofs.Common.{◌≡◌, ◌++◌, drop}
use Rattle.std.specs.List.{filter_map}
use Rattle.linker.specs.Linked.{role_of}
use Rattle.linker.proofs.linking.put_roles.Given as goal

-- the roles so far and those to come are all
abbrev pub invariant-loop-mark : goal.invariant-loop-mark
invariant-loop-mark l =
    l.roles.items ++ filter_map (role_of l.labels) (drop l.mark-index l.marks)
    ≡ l.fn.roles.items ++ filter_map (role_of l.labels) l.marks
