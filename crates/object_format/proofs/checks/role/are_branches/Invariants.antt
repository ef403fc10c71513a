use Rattle.std.proofs.Common.{◌≡◌, ◌+◌, ◌*◌, drop, map, bytes_eq}
use Rattle.object_format.specs.RoleCheck.{branches_from}
use Rattle.object_format.proofs.checks.role.are_branches.Given as goal

abbrev pub invariant-loop-word : goal.invariant-loop-word
invariant-loop-word l =
    (l.address ≡ 0x10000 + 4 * l.word-index)
    × (bytes_eq (map (λ role. role.address) l.rest) (branches_from l.address (drop l.word-index l.text))
    ≡ bytes_eq (map (λ role. role.address) l.roles) (branches_from 0x10000 l.text))
