-- The numbers of objects, types and checks fit where those of the program do.
use Rattle.std.proofs.Common.{◌≡◌, ℕ, zero, suc, ◌+◌, ◌<◌, ◌≤◌, ℤ, pos, negsuc, Bool, true, List, [], ◌∷◌, drop, refl, arith}
use Rattle.std.proofs.lemmas.Bool.Decides.{nat_tests}
use Rattle.std.proofs.lemmas.Int.{ints}
use Rattle.cov_base.specs.Graph.{Edges}
use Rattle.cov_base.specs.declared.position.DecId.{DecId}
use Rattle.ada_meaning.specs.Arithmetic.{base_range, is_within}
use Rattle.ada_meaning.specs.Calls.{word_bounds, next_parameter}
use Rattle.ada_meaning.specs.Collected.{Decision}
use Rattle.ada_meaning.specs.Program.{Bounds}
use Rattle.ada_meaning.specs.Resolved.{ResolvedParameter}
use Rattle.ada_meaning.specs.Shape.{Shape, word, row, group, Shapes, no_shape, and_shape}
use Rattle.ada_meaning.specs.Tree as tree
use Rattle.ada_meaning.specs.Types as type
use Rattle.ada_resolved.specs.Sizes.{words}
use Rattle.kernel_ir.specs.declared.kernel.Kernel.{Kernel}
use Rattle.kernel_ir.specs.declared.simple.Simple.TheVariants as op
use Rattle.kernel_ir.specs.Limits.{IsWord, most_words, most_arguments}
use Rattle.kernel_ir.specs.Sequence.{joined}
use Rattle.kernel_ir.specs.Tree.{simple, Code, and_op}
use Rattle.statement_code.specs.Numbers.{AreWords, ShapeFits, ShapesFit, HomeFits, ParametersFit}
use Rattle.statement_code.specs.Objects.{component_of, words_before, HasComponent}
use Rattle.statement_code.specs.Statements.{keep_on}
use Rattle.statement_code.specs.Values.{one, within, Home, in_frame, in_library, address_on, fetch_on, sign_on}
use Rattle.statement_code.proofs.Operands.{component_ends}
use Rattle.statement_code.proofs.Fragments.{Is, shorter, before, behind}

-- numbers of the base range are words
pub word_is : (x : ℤ) → is_within base_range x ≡ true → IsWord x
word_is (pos n) is = record { sfits = grind (arith, ints, nat_tests) }
word_is (negsuc n) is = record { sfits = grind (arith, ints, nat_tests) }

-- and so are sizes of types
pub size_is : (n : ℕ) → n ≤ most_words → IsWord (pos n)
size_is n few = record { sfits = grind (arith, ints, few) }

pub words_few : (s : Shape) → ShapeFits s → words s ≤ most_words
words_few (word b) fits = omega arith
words_few (row b s) fits = fits.1.0
words_few (group ss) fits = fits.0

pub before_few : (ss : Shapes) (n : ℕ) → HasComponent ss n → ShapeFits (group ss) → words_before ss n ≤ most_words
before_few ss n has fits = omega (arith, component_ends ss n has, fits.0)

pub component_fits : (ss : Shapes) (n : ℕ) → HasComponent ss n → ShapesFit ss → ShapeFits (component_of ss n)
component_fits no_shape n has fits = absurd has
component_fits (and_shape s ss) zero has fits = fits.0
component_fits (and_shape s ss) (suc n) has fits = component_fits ss n has fits.1

pub base_words : AreWords base_range
base_words = (word_is base_range.low refl, word_is base_range.high refl)

pub bounds_fit : (s : Shape) → ShapeFits s → AreWords (word_bounds s)
bounds_fit (word b) fits = fits
bounds_fit (row b s) fits = base_words
bounds_fit (group ss) fits = base_words

pub next_fits : (qs : List ResolvedParameter) → ParametersFit qs → ShapeFits (next_parameter qs).shape
next_fits [] fits = base_words
next_fits (q ∷ qs) fits = fits.0

pub others_fit : (qs : List ResolvedParameter) → ParametersFit qs → ParametersFit (drop 1 qs)
others_fit [] fits = tt
others_fit (q ∷ qs) fits = fits.1

module _ (K : Kernel) (width : ℕ) (graph : DecId → List Edges) (inst : ℕ) where
  abbrev Has : (x : Bool) → List tree.Label → List Decision → (more most : ℕ) → Code → Type 0
  Has = Is K (width + most_arguments) graph inst

  -- the address of an object, its value, and what sets it
  pub address_before : {x : Bool} {ls : List tree.Label} {hs : List Decision} {a : Code} {m n : ℕ} (k : ℕ) (h : Home) → HomeFits width K h → k < width + most_arguments
      → Has x ls hs m n a → Has x ls hs m (7 + n) (and_op (simple (address_on k h)) a)
  address_before k (in_frame j) fits lt h = before K (width + most_arguments) graph inst (op.FrameAddress k j) refl (lt, omega (arith, fits)) h
  address_before {m = m} {n = n} k (in_library j) fits lt h =
      shorter K (width + most_arguments) graph inst m (7 + n) (omega arith) (before K (width + most_arguments) graph inst (op.LibraryAddress k j) refl (lt, fits) h)

  pub fetch_before : {x : Bool} {ls : List tree.Label} {hs : List Decision} {a : Code} {m n : ℕ} (k : ℕ) (h : Home) → HomeFits width K h → k < width + most_arguments
      → Has x ls hs m n a → Has x ls hs m (6 + n) (and_op (simple (fetch_on k h)) a)
  fetch_before k (in_frame j) fits lt h = before K (width + most_arguments) graph inst (op.Move k j) refl (lt, omega (arith, fits)) h
  fetch_before {m = m} {n = n} k (in_library j) fits lt h =
      shorter K (width + most_arguments) graph inst m (6 + n) (omega arith) (before K (width + most_arguments) graph inst (op.ReadLibrary k j) refl (lt, fits) h)

  pub keep_before : {x : Bool} {ls : List tree.Label} {hs : List Decision} {a : Code} {m n : ℕ} (k : ℕ) (h : Home) → HomeFits width K h → k < width + most_arguments
      → Has x ls hs m n a → Has x ls hs m (6 + n) (and_op (simple (keep_on k h)) a)
  keep_before k (in_frame j) fits lt h = before K (width + most_arguments) graph inst (op.Move j k) refl (omega (arith, fits), lt) h
  keep_before {m = m} {n = n} k (in_library j) fits lt h =
      shorter K (width + most_arguments) graph inst m (6 + n) (omega arith) (before K (width + most_arguments) graph inst (op.WriteLibrary j k) refl (fits, lt) h)

  -- a check before code
  pub check_before : {x : Bool} {ls : List tree.Label} {hs : List Decision} {a : Code} {m n : ℕ} (k : ℕ) (b : Bounds) → AreWords b → k < width + most_arguments
      → Has x ls hs m n a → Has x ls hs m (13 + n) (and_op (simple (within k b)) a)
  check_before k b fits lt h = before K (width + most_arguments) graph inst (within k b) refl (lt, fits.0, fits.1) h

  -- an operator with one operand
  pub sign_behind : {x : Bool} {ls : List tree.Label} {hs : List Decision} {a : Code} {m n : ℕ} (k : ℕ) (o : type.Sign) → k < width + most_arguments → Has x ls hs m n a
      → Has x ls hs m (n + 15) (joined a (one (sign_on k o)))
  sign_behind {m = m} {n = n} k type.unary_plus lt h =
      shorter K (width + most_arguments) graph inst m (n + 15) (omega arith)
      (behind K (width + most_arguments) graph inst (within k base_range) refl (lt, base_words.0, base_words.1) h)
  sign_behind {m = m} {n = n} k type.unary_minus lt h =
      shorter K (width + most_arguments) graph inst m (n + 15) (omega arith) (behind K (width + most_arguments) graph inst (op.Negate k k) refl (lt, lt) h)
  sign_behind {m = m} {n = n} k type.absolute_value lt h = behind K (width + most_arguments) graph inst (op.Absolute k k) refl (lt, lt) h
