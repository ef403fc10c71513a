-- Where statements, decisions and conditions stand in files.
use Rattle.std.specs.Prelude.{ℕ, ◌<◌, List}
use Rattle.cov_base.specs.declared.position.Pos.{Pos}
use Rattle.cov_base.specs.Lists.{Everywhere}

-- a place is in one of so many files, which are numbered from 0; its line and its column count from 1
abbrev pub IsInFiles : (files : ℕ) → Pos → Type 0
IsInFiles files p = (p.file < files) × (0 < p.line) × (0 < p.col)

abbrev pub AreInFiles : (files : ℕ) → List Pos → Type 0
AreInFiles files places = Everywhere (IsInFiles files) places
