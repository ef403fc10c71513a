-- Places in a source.
use Rattle.std.proofs.Common.{◌≡◌, ◌∙◌, ℕ, ◌+◌, ◌≤◌, List, [], ◌∷◌, ◌++◌, Bool, true, false, ◌==◌, if◌then◌else◌, length, take, drop, refl, ap, arith, ◌<◌, ◌-◌, ◌^◌, inl, inr, length-drop}
use Rattle.std.proofs.lemmas.List.{length-take}
use Rattle.std.proofs.Math.Seq.{take-add}
use Rattle.cov_base.specs.declared.position.Pos.{Pos}
use Rattle.ada_lexer.specs.Tokens.{place_behind, place_after, place_at, IsBefore}

-- a place behind two runs of bytes
pub place_after-append : (place : Pos) (xs ys : List ℕ) → place_after place (xs ++ ys) ≡ place_after (place_after place xs) ys
place_after-append place [] ys = refl
place_after-append place (x ∷ xs) ys = place_after-append (place_behind place x) xs ys

-- a place further on
pub place_at-more : (file : ℕ) (source : List ℕ) (from more : ℕ) → place_at file source (from + more) ≡ place_after (place_at file source from) (take more (drop from source))
place_at-more file source from more =
    let start : Pos = record { file = file; line = 1; col = 1 } in
    ap (place_after start) (take-add from more source) ∙ place_after-append start (take from source) (take more (drop from source))

line_step : (b : Bool) (p : Pos) → (if b then record p { line = p.line + 1; col = 1 } else record p { col = p.col + 1 }).line ≤ p.line + 1
line_step true p = omega arith
line_step false p = omega arith

col_step : (b : Bool) (p : Pos) → (if b then record p { line = p.line + 1; col = 1 } else record p { col = p.col + 1 }).col ≤ p.col + 1
col_step true p = omega arith
col_step false p = omega arith

-- a byte ends at most one line
pub line-place_after : (place : Pos) (bytes : List ℕ) → (place_after place bytes).line ≤ place.line + length bytes
line-place_after place [] = omega arith
line-place_after place (byte ∷ bytes) =
    omega (arith, line_step (byte == 10) place, line-place_after (place_behind place byte) bytes)

-- a byte takes at most one column
pub col-place_after : (place : Pos) (bytes : List ℕ) → (place_after place bytes).col ≤ place.col + length bytes
col-place_after place [] = omega arith
col-place_after place (byte ∷ bytes) =
    omega (arith, col_step (byte == 10) place, col-place_after (place_behind place byte) bytes)

-- a line and a column for each byte, and one
pub line-place_at : (file : ℕ) (source : List ℕ) (at : ℕ) → (place_at file source at).line ≤ at + 1
line-place_at file source at =
    let start : Pos = record { file = file; line = 1; col = 1 } in
    omega (arith, line-place_after start (take at source), length-take at source)

pub col-place_at : (file : ℕ) (source : List ℕ) (at : ℕ) → (place_at file source at).col ≤ at + 1
col-place_at file source at =
    let start : Pos = record { file = file; line = 1; col = 1 } in
    omega (arith, col-place_after start (take at source), length-take at source)

-- so a line and a column fit for each byte of a source of fewer than 2 ^ 32 - 1
pub line_fits : (file : ℕ) (source : List ℕ) (from n : ℕ) (pos : Pos) → pos ≡ place_at file source from → from + n ≤ length source → length source < 2 ^ 32 - 1 → pos.line + n < 2 ^ 32
line_fits file source from n pos place within short =
    omega (arith, line-place_at file source from, ap (λ (p : Pos). p.line) place)

pub col_fits : (file : ℕ) (source : List ℕ) (from n : ℕ) (pos : Pos) → pos ≡ place_at file source from → from + n ≤ length source → length source < 2 ^ 32 - 1 → pos.col + n < 2 ^ 32
col_fits file source from n pos place within short =
    omega (arith, col-place_at file source from, ap (λ (p : Pos). p.col) place)

step_before : (b : Bool) (p : Pos) → IsBefore p (if b then record p { line = p.line + 1; col = 1 } else record p { col = p.col + 1 })
step_before true p = inl (omega arith)
step_before false p = inr (refl, omega arith)

IsBefore-trans : (p q r : Pos) → IsBefore p q → IsBefore q r → IsBefore p r
IsBefore-trans p q r (inl h) (inl k) = inl (omega arith)
IsBefore-trans p q r (inl h) (inr k) = inl (omega arith)
IsBefore-trans p q r (inr h) (inl k) = inl (omega arith)
IsBefore-trans p q r (inr h) (inr k) = inr (omega arith, omega arith)

-- a place stands before each further one
after_before : (p : Pos) (bytes : List ℕ) → 0 < length bytes → IsBefore p (place_after p bytes)
after_before p [] some = absurd (omega arith)
after_before p (byte ∷ []) some = step_before (byte == 10) p
after_before p (byte ∷ (next ∷ bytes)) some =
    IsBefore-trans p (place_behind p byte) (place_after p (byte ∷ (next ∷ bytes))) (step_before (byte == 10) p) (after_before (place_behind p byte) (next ∷ bytes) (omega arith))

-- the place of a byte stands before that of a later one
pub place_at-before : (file : ℕ) (source : List ℕ) (at later : ℕ) → at < later → later ≤ length source → IsBefore (place_at file source at) (place_at file source later)
place_at-before file source at later less within =
    let more : later ≡ at + (later - at) = omega arith in
    let some : 0 < length (take (later - at) (drop at source)) = omega (arith, length-take (later - at) (drop at source), length-drop at source) in
    rw (more, place_at-more file source at (later - at)) (after_before (place_at file source at) (take (later - at) (drop at source)) some)

file_step : (b : Bool) (p : Pos) → (if b then record p { line = p.line + 1; col = 1 } else record p { col = p.col + 1 }).file ≡ p.file
file_step true p = refl
file_step false p = refl

-- no byte leads to another file
file-place_after : (place : Pos) (bytes : List ℕ) → (place_after place bytes).file ≡ place.file
file-place_after place [] = refl
file-place_after place (byte ∷ bytes) = file-place_after (place_behind place byte) bytes ∙ file_step (byte == 10) place

pub file-place_at : (file : ℕ) (source : List ℕ) (at : ℕ) → (place_at file source at).file ≡ file
file-place_at file source at =
    let start : Pos = record { file = file; line = 1; col = 1 } in file-place_after start (take at source)

counted_step : (b : Bool) (p : Pos) → 0 < p.line → 0 < p.col → (0 < (if b then record p { line = p.line + 1; col = 1 } else record p { col = p.col + 1 }).line) × (0 < (if b then record p { line = p.line + 1; col = 1 } else record p { col = p.col + 1 }).col)
counted_step true p line col = (omega arith, omega arith)
counted_step false p line col = (omega arith, omega arith)

-- lines and columns count from 1
counted : (place : Pos) (bytes : List ℕ) → 0 < place.line → 0 < place.col → (0 < (place_after place bytes).line) × (0 < (place_after place bytes).col)
counted place [] line col = (line, col)
counted place (byte ∷ bytes) line col =
    let step = counted_step (byte == 10) place line col in counted (place_behind place byte) bytes step.0 step.1

pub counted-place_at : (file : ℕ) (source : List ℕ) (at : ℕ) → (0 < (place_at file source at).line) × (0 < (place_at file source at).col)
counted-place_at file source at =
    let start : Pos = record { file = file; line = 1; col = 1 } in counted start (take at source) (omega arith) (omega arith)
