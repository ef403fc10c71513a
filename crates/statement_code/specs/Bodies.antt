-- The code of the body of a subprogram: its parameters, its block, and its end.
use Rattle.std.specs.Prelude.{◌≡◌, ◌≢◌, ◌<◌, ◌≤◌, ◌⊎◌, ℕ, ◌+◌, pos, Bool, true, false, List, [], ◌∷◌}
use Rattle.ada_meaning.specs.Program.{Mode, in_mode, out_mode, in_out_mode}
use Rattle.ada_meaning.specs.Resolved.{ResolvedParameter, local_place}
use Rattle.ada_meaning.specs.State.{Place}
use Rattle.kernel_ir.specs.declared.kernel.Layout.{Layout}
use Rattle.kernel_ir.specs.Layouts.{content_in}
use Rattle.kernel_ir.specs.World.{Memory, data_word, area_end, slot_word}
use Rattle.statement_code.specs.Cells.{Cells, AreApart, With}
use Rattle.statement_code.specs.Names.{Names}
use Rattle.statement_code.specs.Statements.{HasLayout, block_code}
use Rattle.statement_code.specs.Stores.{HasWords}
use Rattle.ada_meaning.specs.Shape.{Shape, word, row, group}
use Rattle.ada_meaning.specs.Tree as tree
use Rattle.ada_resolved.specs.Sizes.{words}
use Rattle.kernel_ir.specs.declared.simple.Simple.{Simple}
use Rattle.kernel_ir.specs.declared.simple.Simple.TheVariants as op
use Rattle.kernel_ir.specs.Sequence.{joined}
use Rattle.kernel_ir.specs.Tree.{simple, Code, no_op, and_op}
use Rattle.statement_code.specs.Values.{one, Home, address_on, address_at, arguments, IsWord, IsComposite, Stands, Site}

-- the words of a composite parameter, whose address stands in the slot k: those of the actual, whose address stands in the slot i, or first values
abbrev pub parameter_in : (k i : ℕ) → Mode → (size layout : ℕ) → Simple
parameter_in k i out_mode size layout = op.Fill k layout
parameter_in k i in_mode size layout = op.Copy k i size
parameter_in k i in_out_mode size layout = op.Copy k i size

-- A scalar parameter is the slot that its argument stands in; of mode out, it gets its subtype's first value. A composite one has words of its
-- own; the slot of its argument gets their address (RM 6.4.1).
abbrev pub scalar_parameter : (i : ℕ) → Mode → (first : Code) → Code
scalar_parameter i out_mode first = first
scalar_parameter i in_mode first = no_op
scalar_parameter i in_out_mode first = no_op

module _ (home_of : tree.Object → Home) (layout_of : (declaration : ℕ) → ℕ) where
  abbrev pub composite_parameter : (k i : ℕ) → ResolvedParameter → Code
  composite_parameter k i q =
      and_op (simple (address_on k (home_of (tree.local_object q.declaration))))
      (and_op (simple (parameter_in k i q.mode (words q.shape) (layout_of q.declaration))) (one (op.Move i k)))

  abbrev pub parameter_code : (k i : ℕ) → ResolvedParameter → Shape → Code
  parameter_code k i q (word b) = scalar_parameter i q.mode (one (op.Number i b.low))
  parameter_code k i q (row b s) = composite_parameter k i q
  parameter_code k i q (group ss) = composite_parameter k i q

  abbrev pub parameters_code : (k i : ℕ) → List ResolvedParameter → Code
  parameters_code k i [] = no_op
  parameters_code k i (q ∷ qs) = joined (parameter_code k i q q.shape) (parameters_code k (i + 1) qs)

-- how a parameter stands in the frame of an activation, by its number: a scalar one is a slot, and a composite one has words of its own
pub record ParameterStands (layouts : List Layout) (Cell : Cells) (home_of : tree.Object → Home) (layout_of : ℕ → ℕ) (fp inst depth count : ℕ) (q : ResolvedParameter) (i : ℕ) : Type 0 where
  pub stands : Stands Cell q.shape (local_place inst depth q.declaration) (address_at fp (home_of (tree.local_object q.declaration)))
  pub scalar : IsWord q.shape → address_at fp (home_of (tree.local_object q.declaration)) ≡ slot_word fp i
  pub bare : IsComposite q.shape → (r : Place) (a : ℕ) → Cell r a → a ≢ slot_word fp i
  pub clear : IsComposite q.shape → (k : ℕ) → k < count
      → (slot_word fp k < address_at fp (home_of (tree.local_object q.declaration))) ⊎ (address_at fp (home_of (tree.local_object q.declaration)) + words q.shape ≤ slot_word fp k)
  pub here : i < count
  pub has : HasWords q.shape
  pub layout : HasLayout q.shape (content_in layouts (layout_of q.declaration))

-- parameters by their numbers, from one on
abbrev pub ParametersStand : (layouts : List Layout) (Cell : Cells) (home_of : tree.Object → Home) (layout_of : ℕ → ℕ) (fp inst depth count : ℕ) → List ResolvedParameter → ℕ → Type 0
ParametersStand layouts Cell home_of layout_of fp inst depth count [] i = Unit {0}
ParametersStand layouts Cell home_of layout_of fp inst depth count (q ∷ qs) i =
    ParameterStands layouts Cell home_of layout_of fp inst depth count q i × ParametersStand layouts Cell home_of layout_of fp inst depth count qs (i + 1)

-- the slots in which the addresses of composite parameters stay
abbrev pub HandedSlots : (fp : ℕ) → List ResolvedParameter → ℕ → ℕ → Type 0
HandedSlots fp [] i a = ⊥
HandedSlots fp (q ∷ qs) i a = (IsComposite q.shape × (a ≡ slot_word fp i)) ⊎ HandedSlots fp qs (i + 1) a

-- the words that are set when parameters were copied in
abbrev pub SetBy : (home_of : tree.Object → Home) (fp : ℕ) → (ℕ → Type 0) → List ResolvedParameter → ℕ → Type 0
SetBy home_of fp Set [] c = Set c
SetBy home_of fp Set (q ∷ qs) c = SetBy home_of fp (With Set (address_at fp (home_of (tree.local_object q.declaration))) (words q.shape)) qs c

-- the slots of composite parameters hold the addresses of their words
abbrev pub Addresses : (home_of : tree.Object → Home) (fp : ℕ) → List ResolvedParameter → ℕ → Memory → Type 0
Addresses home_of fp [] i memory = Unit {0}
Addresses home_of fp (q ∷ qs) i memory =
    (IsComposite q.shape → memory (slot_word fp i) ≡ pos (address_at fp (home_of (tree.local_object q.declaration)))) × Addresses home_of fp qs (i + 1) memory

-- a parameter of a body is visible, and has its shape
abbrev pub IsParameterOf : (shape_of : tree.Object → Shape) → List ResolvedParameter → tree.Object → Type 0
IsParameterOf shape_of [] o = ⊥
IsParameterOf shape_of (q ∷ qs) o = ((o ≡ tree.local_object q.declaration) × (shape_of o ≡ q.shape)) ⊎ IsParameterOf shape_of qs o

-- How the cells of an activation stand, at a depth, in a frame that ends before the word fp: those of the library level below it, and its own
-- ones inside, below the slots that it works in. It has so many parameters.
pub record IsStage (Cell Library : Cells) (fp width base depth top count : ℕ) : Type 0 where
  pub apart : AreApart Cell
  pub low : (q : Place) (a : ℕ) → Cell q a → data_word ≤ a
  pub under : (q : Place) (a : ℕ) → Cell q a → a < fp
  pub free : (q : Place) (a j : ℕ) → Cell q a → base ≤ j → j < width + arguments → a ≢ slot_word fp j
  pub own : (q : Place) (a : ℕ) → Cell q a → (q.frame ≡ 0) ⊎ (q.frame ≡ depth)
  pub shared : (q : Place) (a : ℕ) → Cell q a → q.frame ≡ 0 → Library q a
  pub library : (q : Place) (a : ℕ) → Library q a → Cell q a × (q.frame ≡ 0)
  pub lower : (q : Place) (a : ℕ) → Library q a → a + (width + arguments) < fp
  pub local : (q : Place) (a : ℕ) → Cell q a → q.frame ≡ depth → fp ≤ a + width
  pub inside : fp ≤ area_end
  pub room : width + arguments ≤ fp
  pub predefined : 4 ≤ top
  pub small : base < width
  pub few : count ≤ base
  pub deep : 1 ≤ depth

-- the end of a body: a function that comes to it raises Program_Error (RM 6.4)
abbrev pub ending_code : (gives : Bool) → Code
ending_code false = no_op
ending_code true = one (op.Raise 2)

module _ (names : Names) (shape_of : tree.Object → Shape) (home_of : tree.Object → Home) (site : Site) (layout_of : ℕ → ℕ) where
  -- the code of a body that works from the slot k on: its parameters are copied in, its block is executed, and its end is reached
  abbrev pub body_code : (k : ℕ) → (gives : Bool) → List ResolvedParameter → tree.Block → Code
  body_code k gives qs b =
      joined (parameters_code home_of layout_of k 0 qs) (joined (block_code names shape_of home_of site layout_of k 0 b) (ending_code gives))
