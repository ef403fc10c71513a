-- The letters of a vector are ASCII.
use Rattle.std.proofs.Common.{ℕ, zero, suc, ◌<◌, arith, if◌then◌else◌, ◌==◌, true, false}
use Rattle.std.specs.Prelude.{IsUtf8, IsAscii}
use Rattle.std.proofs.lemmas.Str.{IsUtf8-from_ascii}
use Rattle.cov_base.specs.declared.event.Vector.{Vector}
use Rattle.cov_base.specs.Marks.{Marks, marks, rank}
use Rattle.annotated_report.specs.Shown.{letter_of, vector_from, vector_text}

letter_below : (r : ℕ) → letter_of r < 128
letter_below r = elim (r == 0) as (λ b. (if b then 70 else if r == 1 then 84 else 45) < 128) [
  | true ↦ omega arith
  | false ↦ elim (r == 1) as (λ b. (if b then 84 else 45) < 128) [ true ↦ omega arith | false ↦ omega arith ]
]

letters_from : (c n : ℕ) (v : Marks) → IsAscii (vector_from c n v)
letters_from c zero v i = omega arith
letters_from c (suc n) v zero = letter_below (rank v c)
letters_from c (suc n) v (suc i) = letters_from (suc c) n v i

-- so the text of a vector is UTF-8
pub vector_utf8 : (conditions : ℕ) (v : Vector) → IsUtf8 (vector_text conditions v)
vector_utf8 conditions v = IsUtf8-from_ascii (vector_text conditions v) (letters_from 0 conditions (marks v))
