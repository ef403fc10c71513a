-- What a caller owes besides what the report asks for: texts that a string of JSON can hold.
use Rattle.std.specs.Prelude.{◌≡◌, ℕ, List, Some, slice_get, IsUtf8}
use Rattle.cov_base.specs.declared.obligations.Region.{Region}
use Rattle.cov_base.specs.declared.obligations.SourceFile.{SourceFile}

-- the names of files are UTF-8
abbrev pub AreNamedInUtf8 : List SourceFile → Type 0
AreNamedInUtf8 files = (n : ℕ) (file : SourceFile) → slice_get files n ≡ Some file → IsUtf8 file.name

-- what regions say of their reason is UTF-8
abbrev pub AreExplainedInUtf8 : List Region → Type 0
AreExplainedInUtf8 regions = (n : ℕ) (region : Region) → slice_get regions n ≡ Some region → IsUtf8 region.why
