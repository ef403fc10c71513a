-- What the code keeps of lines.
use Rattle.std.specs.Prelude.{◌≡◌, ◌<◌, ◌+◌, ℕ, List, [], Bool, false, length, slice_get, slice_index_or, Some}
use Rattle.std.specs.Str.Lines.{lines}
use Rattle.cov_base.specs.declared.obligations.SourceFile.{SourceFile}
use Rattle.annotated_report.specs.Numbered.{each_numbered}
use Rattle.xcov_report.specs.declared.told.Kept.{Kept}
use Rattle.xcov_report.specs.declared.told.Stretch.{Stretch}
use Rattle.xcov_report.specs.declared.told.Told.{Told}
use Rattle.xcov_report.specs.Told.{has, mark_of, tells}
use Rattle.std.specs.List.{list_any}
use Rattle.xcov_report.specs.Text.{file_text}

-- nothing
abbrev pub nothing : Kept
nothing = record { satisfied = false; lacking = false; region = false; exempted = false }

-- whether this is kept of a line of a file; past the last one it is not
abbrev pub kept_in : Told → List Kept → (line : ℕ) → Bool
kept_in told row line = has told (slice_index_or row line nothing)

-- the mark by what is kept
abbrev pub kept_mark : List Kept → (line : ℕ) → ℕ
kept_mark row line = mark_of (λ told. kept_in told row line)

-- what is kept of a file's lines; past the last one there is nothing
abbrev pub row_at : List (List Kept) → (file : ℕ) → List Kept
row_at rows file = slice_index_or rows file []

-- whether this is kept of a line
abbrev pub kept_at : Told → List (List Kept) → (file line : ℕ) → Bool
kept_at told rows file line = kept_in told (row_at rows file) line

-- the text of files, by what is kept
abbrev pub marked_files : List (List Kept) → List SourceFile → List ℕ
marked_files rows files = each_numbered (λ n file. file_text (kept_mark (row_at rows n)) file) 0 files

-- each file has a row, with a place for each of its lines and for the number 0
pub record HaveLines (rows : List (List Kept)) (files : List SourceFile) : Type 0 where
  pub count : length rows ≡ length files
  pub lengths : (n : ℕ) (file : SourceFile) → slice_get files n ≡ Some file
      → length (row_at rows n) ≡ length (lines file.bytes) + 1

-- of each line all is kept that is told, and no more
abbrev pub KeepsAll : List (List Kept) → List Stretch → Type 0
KeepsAll rows stretches =
    (told : Told) (file line : ℕ) → line < length (row_at rows file)
    → kept_at told rows file line ≡ list_any (tells told file line) stretches
