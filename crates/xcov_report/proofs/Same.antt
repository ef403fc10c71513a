-- The text by what is kept of lines is that by what is told of them.
use Rattle.std.proofs.Common.{◌≡◌, ℕ, zero, suc, ◌+◌, ◌<◌, Bool, List, [], ◌∷◌, ◌++◌, codes, length, map, slice_get, Some, refl, subst, ap, ◌∙◌, arith}
use Rattle.std.specs.List.{list_any}
use Rattle.std.specs.Str.Lines.{lines}
use Rattle.std.proofs.lemmas.Option.{slice_get_within}
use Rattle.cov_base.specs.declared.obligations.SourceFile.{SourceFile}
use Rattle.annotated_report.proofs.Numbering.{same_found}
use Rattle.xcov_report.specs.declared.told.Kept.{Kept}
use Rattle.xcov_report.specs.declared.told.Stretch.{Stretch}
use Rattle.xcov_report.specs.declared.told.Told.{Told}
use Rattle.xcov_report.specs.Table.{kept_in, kept_mark, row_at, marked_files, HaveLines, KeepsAll}
use Rattle.xcov_report.specs.Text.{line_text, lines_text, file_text, files_text}
use Rattle.xcov_report.specs.Told.{tells, mark_of, mark_at}

same_mark : (f g : Told → Bool) → ((told : Told) → f told ≡ g told) → mark_of f ≡ mark_of g
same_mark f g h = ap mark_of (λ i told. h told i)

-- two marks of each line agree, where they do for the numbers of the lines
same_lines : (f g : ℕ → ℕ) (all : List (List ℕ)) → ((number : ℕ) → number < 1 + length all → f number ≡ g number)
    → lines_text f 1 all ≡ lines_text g 1 all
same_lines f g all h =
    same_found (λ n line. line_text n (f n) line) (λ n line. line_text n (g n) line) 1 all
    (λ i n line e at. let low = slice_get_within all i line at in ap (λ mark. line_text n mark line) (h n (omega arith)))

pub same_files : (rows : List (List Kept)) (files : List SourceFile) (stretches : List Stretch)
    → HaveLines rows files → KeepsAll rows stretches → marked_files rows files ≡ files_text stretches files
same_files rows files stretches fit keeps =
    same_found (λ n file. file_text (kept_mark (row_at rows n)) file) (λ n file. file_text (mark_at stretches n) file) 0 files
    (λ i n file e at.
    let here : slice_get files n ≡ Some file = subst (λ k. slice_get files k ≡ Some file) (omega (arith, e)) at in
    let long = fit.lengths n file here in
    ap (λ text. codes "file: " ++ (file.name ++ (codes "\n" ++ text)))
    (same_lines (kept_mark (row_at rows n)) (mark_at stretches n) (lines file.bytes)
    (λ number low. same_mark (λ told. kept_in told (row_at rows n) number) (λ told. list_any (tells told n number) stretches)
    (λ told. keeps told n number (omega (arith, low, long))))))

-- the lengths of rows, by the files
long_row : {X : Type 0} (f : X → ℕ) (rows : List (List Kept)) (files : List X) (n : ℕ) (file : X)
    → map length rows ≡ map f files → slice_get files n ≡ Some file → length (row_at rows n) ≡ f file
long_row f rows [] n file e at = cc
long_row f [] (g ∷ files) n file e at = cc
long_row f (row ∷ rows) (g ∷ files) zero file e at = cc
long_row f (row ∷ rows) (g ∷ files) (suc n) file e at = long_row f rows files n file (cc) at

all_rows : {X : Type 0} (f : X → ℕ) (rows : List (List Kept)) (files : List X) → map length rows ≡ map f files → length rows ≡ length files
all_rows f [] [] e = refl
all_rows f [] (g ∷ files) e = cc
all_rows f (row ∷ rows) [] e = cc
all_rows f (row ∷ rows) (g ∷ files) e = ap suc (all_rows f rows files (cc))

pub have_lines : (rows kept : List (List Kept)) (files : List SourceFile) → map length rows ≡ map (λ file. length (lines file.bytes) + 1) files
    → length kept ≡ length rows → ((n : ℕ) → length (row_at kept n) ≡ length (row_at rows n)) → HaveLines kept files
have_lines rows kept files e count same = record {
  count = count ∙ all_rows (λ file. length (lines file.bytes) + 1) rows files e;
  lengths = λ n file at. same n ∙ long_row (λ file. length (lines file.bytes) + 1) rows files n file e at;
}
