use Rattle.std.proofs.Common.{◌≡◌, ◌++◌, drop}
use Rattle.linker.specs.Linked.{roles_from}
use Rattle.linker.proofs.linking.roles.Given as goal

-- the roles so far and those to come are all
abbrev pub invariant-loop-own : goal.invariant-loop-own
invariant-loop-own l = l.roles.items ++ roles_from l.labels l.own (drop l.own l.pieces) ≡ roles_from l.labels 0 l.pieces
