-- What the kinds of words say of control flow.
use Rattle.std.specs.Prelude.{Bool, true, false}
use Rattle.decision_map.specs.declared.kind.WordKind.{WordKind}
use Rattle.decision_map.specs.declared.kind.WordKind.TheVariants.{GoesOn, Transfer, Branch, HistoryBranch, Stop}

-- whether a word of this kind is a control transfer
abbrev pub ends_piece : WordKind → Bool
ends_piece GoesOn = false
ends_piece Transfer = true
ends_piece Branch = true
ends_piece HistoryBranch = true
ends_piece Stop = false

-- whether a word of this kind can be executed
abbrev pub is_executable : WordKind → Bool
is_executable GoesOn = true
is_executable Transfer = true
is_executable Branch = true
is_executable HistoryBranch = true
is_executable Stop = false
