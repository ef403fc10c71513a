-- The text of annotated sources.
use Rattle.std.specs.Prelude.{ℕ, List, ◌∷◌, ◌++◌, codes, length, drop}
use Rattle.std.specs.Fmt.{decimal}
use Rattle.std.specs.Str.Lines.{lines}
use Rattle.cov_base.specs.declared.level.Level.{Level}
use Rattle.cov_base.specs.declared.obligations.SourceFile.{SourceFile}
use Rattle.annotated_report.specs.Numbered.{each_numbered}
use Rattle.annotated_report.specs.Words.{level_word}
use Rattle.xcov_report.specs.Told.{mark_at}
use Rattle.xcov_report.specs.declared.told.Stretch.{Stretch}

-- the first lines
abbrev pub head_text : Level → (traces : ℕ) → List ℕ
head_text level traces =
    codes "gnatcov xcov\nlevel: " ++ (level_word level ++ (codes "\ntraces: " ++ (decimal traces ++ codes "\n")))

-- a number, right in six places; it takes more where it has more digits
abbrev pub number_text : ℕ → List ℕ
number_text n = drop (length (decimal n)) (codes "      ") ++ decimal n

-- a line with its number and its mark
abbrev pub line_text : (number mark : ℕ) → (line : List ℕ) → List ℕ
line_text number mark line = number_text number ++ (codes " " ++ (mark ∷ (codes ": " ++ (line ++ codes "\n"))))

-- the lines from a number on, by the mark of each number
abbrev pub lines_text : (mark : ℕ → ℕ) → (number : ℕ) → List (List ℕ) → List ℕ
lines_text mark number lines = each_numbered (λ n line. line_text n (mark n) line) number lines

-- a file: its name, and its lines
abbrev pub file_text : (mark : ℕ → ℕ) → SourceFile → List ℕ
file_text mark file = codes "file: " ++ (file.name ++ (codes "\n" ++ lines_text mark 1 (lines file.bytes)))

-- the files in the order of their numbers, by what is told of their lines
abbrev pub files_text : List Stretch → List SourceFile → List ℕ
files_text stretches files = each_numbered (λ n file. file_text (mark_at stretches n) file) 0 files
