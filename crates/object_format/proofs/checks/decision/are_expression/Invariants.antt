use Rattle.std.proofs.Common.{◌≡◌, ◌≤◌, drop, false}
use Rattle.object_format.proofs.Postfix.{completes}
use Rattle.object_format.proofs.checks.decision.are_expression.Given as goal

abbrev pub invariant-loop-byte : goal.invariant-loop-byte
invariant-loop-byte l =
    (l.operands ≤ l.named) × (l.named ≤ 32)
    × (completes l.conditions l.named l.operands l.is_negated (drop l.byte-index l.bytes) ≡ completes l.conditions 0 0 false l.bytes)
