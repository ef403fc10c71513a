use Rattle.std.proofs.Common.{◌≤◌, take}
use Rattle.layer_cases.proofs.Spelling.{IsRead}
use Rattle.layer_cases.proofs.decisions.are_postfix.Given as goal

abbrev pub invariant-loop-byte : goal.invariant-loop-byte
invariant-loop-byte l =
    (l.operands ≤ l.conditions) × (l.conditions ≤ 32) × IsRead (take l.byte-index l.bytes) l.conditions l.operands l.negated
