-- When lines can be placed: their labels are there, and those of branches are near.
use Rattle.std.proofs.Common.{◌≡◌, ℕ, suc, ◌+◌, ◌≤◌, ◌<◌, List, [], ◌∷◌, ◌++◌, map, length, refl, sym, ap, subst, arith}
use Rattle.rv_isa.specs.declared.ops.BranchOp.{BranchOp}
use Rattle.rv_isa.specs.declared.instr.Instr.{Instr}
use Rattle.assembler.specs.declared.piece.Item.{Item}
use Rattle.assembler.specs.declared.piece.Item.TheVariants.{Plain, Branch as BranchTo, Jump, Call}
use Rattle.kernel_code.specs.Line.{Line, checks, plain, jump}
use Rattle.kernel_code.specs.SimpleCode.{branch, checked}

-- labels of a piece lie up to its end; those of branches are among the next hundred; calls are of the
-- first labels of pieces, of which there are so many
abbrev pub ItemFits : (count end place : ℕ) → Item → Type 0
ItemFits count end place (Plain i) = Unit {0}
ItemFits count end place (BranchTo op rs1 rs2 to) = (place ≤ to.0) × (to.0 ≤ place + 100) × (to.0 ≤ end)
ItemFits count end place (Jump rd to) = to.0 ≤ end
ItemFits count end place (Call rd piece to) = (piece.0 < count) × (to.0 ≡ 0)

abbrev pub LinesFit : (count end place : ℕ) → List Line → Type 0
LinesFit count end place [] = Unit {0}
LinesFit count end place (line ∷ lines) = ItemFits count end place line.item × LinesFit count end (place + 1) lines

module _ (count end : ℕ) where
  pub fits_at : (place other : ℕ) (lines : List Line) → place ≡ other → LinesFit count end place lines → LinesFit count end other lines
  fits_at place other lines same fits = subst (λ q. LinesFit count end q lines) same fits

  pub fits_append : (place : ℕ) (xs ys : List Line) → LinesFit count end place xs → LinesFit count end (place + length xs) ys → LinesFit count end place (xs ++ ys)
  fits_append place [] ys fits more = fits_at (place + 0) place ys (omega arith) more
  fits_append place (x ∷ xs) ys fits more =
      (fits.0, fits_append (place + 1) xs ys fits.1 (fits_at (place + suc (length xs)) (place + 1 + length xs) ys (omega arith) more))

  pub fits_plain : (place : ℕ) (is : List Instr) → LinesFit count end place (map plain is)
  fits_plain place [] = tt
  fits_plain place (i ∷ is) = (tt, fits_plain (place + 1) is)

  -- a check: so many lines before its branch
  pub fits_checked : (r place : ℕ) (front : List Instr) (op : BranchOp) (rs1 rs2 : ℕ) (back : List Instr)
      → r ≤ end → length front ≤ 50 → place + (length front + 2) ≤ end
      → LinesFit count end place (checked r place front op rs1 rs2 back)
  fits_checked r place front op rs1 rs2 back inside few within =
      let long : length (map plain front) ≡ length front = plain_long front in
      fits_append place (map plain front) (branch checks op rs1 rs2 (place + (length front + 2)) ∷ (jump r ∷ map plain back))
      (fits_plain place front)
      (((omega arith), (omega arith), within), (inside, fits_plain (place + length (map plain front) + 1 + 1) back))
    where
      plain_long : (is : List Instr) → length (map plain is) ≡ length is
      plain_long [] = refl
      plain_long (i ∷ is) = ap (λ n. suc n) (plain_long is)

  -- lines behind others, which end at a place
  pub fits_behind : (place to : ℕ) (xs ys : List Line) → place + length xs ≡ to → LinesFit count end place xs → LinesFit count end to ys → LinesFit count end place (xs ++ ys)
  fits_behind place to xs ys same fits more = fits_append place xs ys fits (fits_at to (place + length xs) ys (sym same) more)
