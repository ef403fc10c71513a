-- The entries of obligations.
use Rattle.std.specs.Prelude.{◌≡◌, ℕ, ◌<◌, List, length, slice_get, Some}
use Rattle.cov_base.specs.declared.position.Pos.{Pos}
use Rattle.cov_base.specs.declared.obligations.DecEntry.{DecEntry}
use Rattle.cov_base.specs.declared.obligations.StmtEntry.{StmtEntry}

-- the entry of the statement that begins here
abbrev pub entry_at : Pos → StmtEntry
entry_at p = record { file = p.file; line = p.line; column = p.col }

-- the decision with this number has a condition with that number
abbrev pub IsCondition : List DecEntry → (decision condition : ℕ) → Type 0
IsCondition decisions decision condition = (d : DecEntry) × (slice_get decisions decision ≡ Some d) × (condition < length d.conditions)
