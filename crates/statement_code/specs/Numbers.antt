-- Which numbers of a program machine code has room for: bounds, values of static expressions, sizes of types, slots, layouts, and numbers of
-- exceptions.
use Rattle.std.specs.Prelude.{◌≡◌, ℕ, ◌<◌, ◌≤◌, pos, Bool, List, length}
use Rattle.cov_base.specs.Lists.{Everywhere}
use Rattle.ada_meaning.specs.Program.{Bounds, Program, out_mode, body_target}
use Rattle.ada_meaning.specs.Resolved.{ResolvedParameter, number_in, bounds_in, exception_in, parameters_of}
use Rattle.ada_meaning.specs.Shape.{Shape, word, row, group, Shapes, no_shape, and_shape}
use Rattle.ada_meaning.specs.Tree as tree
use Rattle.ada_resolved.specs.Sizes.{words}
use Rattle.kernel_ir.specs.declared.kernel.Kernel.{Kernel}
use Rattle.kernel_ir.specs.Limits.{IsWord, most_words}
use Rattle.statement_code.specs.Values.{Home, in_frame, in_library, Site, IsComposite}

-- bounds that are words
abbrev pub AreWords : Bounds → Type 0
AreWords b = IsWord b.low × IsWord b.high

abbrev mutual
  -- a type whose bounds are words, and that takes no more words than a type may
  pub ShapeFits : Shape → Type 0
  ShapeFits (word b) = AreWords b
  ShapeFits (row b s) = AreWords b × ((words (row b s) ≤ most_words) × ShapeFits s)
  ShapeFits (group ss) = (words (group ss) ≤ most_words) × ShapesFit ss

  -- the types of components
  pub ShapesFit : Shapes → Type 0
  ShapesFit no_shape = Unit {0}
  ShapesFit (and_shape s ss) = ShapeFits s × ShapesFit ss

-- an object that stands in a frame of so many words, or at the library level of a kernel
abbrev pub HomeFits : (width : ℕ) → Kernel → Home → Type 0
HomeFits width K (in_frame j) = j < width
HomeFits width K (in_library n) = n < length K.library

-- parameters of types that fit
abbrev pub ParametersFit : List ResolvedParameter → Type 0
ParametersFit qs = Everywhere (λ q. ShapeFits q.shape) qs

-- bodies that calls name: a kernel has them
abbrev pub BodiesFit : (p : Program) → Kernel → Site → (Bodies : Bool → ℕ → ℕ → Type 0) → Type 0
BodiesFit p K site Bodies =
    (f : Bool) (j m : ℕ) → Bodies f j m → (site.body j m < length K.bodies) × ParametersFit (parameters_of p (body_target j m))

-- visible objects of types that fit, which have their places
abbrev pub ObjectsFit : (width : ℕ) → Kernel → (shape_of : tree.Object → Shape) → (home_of : tree.Object → Home) → (Sees : tree.Object → Type 0) → Type 0
ObjectsFit width K shape_of home_of Sees = (o : tree.Object) → Sees o → ShapeFits (shape_of o) × HomeFits width K (home_of o)

module _ (p : Program) (inst : ℕ) where
  abbrev mutual
    -- the bounds of subtypes in an expression are words
    pub ExprFits : tree.Expr → Type 0
    ExprFits (tree.literal x) = Unit {0}
    ExprFits (tree.constant e) = Unit {0}
    ExprFits (tree.attribute o parts e) = PartsFit parts
    ExprFits (tree.read o parts) = PartsFit parts
    ExprFits (tree.signed s e) = ExprFits e
    ExprFits (tree.operation o e f) = ExprFits e × ExprFits f
    ExprFits (tree.relation r e f) = ExprFits e × ExprFits f
    ExprFits (tree.complement e) = ExprFits e
    ExprFits (tree.conversion r e) = AreWords (bounds_in p inst r) × ExprFits e
    ExprFits (tree.call c actuals) = ActualsFit actuals
    ExprFits (tree.decision d t) = TestFits t

    -- those in the indexes of a name
    pub PartsFit : tree.Parts → Type 0
    PartsFit tree.whole = Unit {0}
    PartsFit (tree.component n parts) = PartsFit parts
    PartsFit (tree.element r e parts) = ExprFits e × PartsFit parts

    -- those of variables that get a value back too
    pub ActualsFit : tree.Actuals → Type 0
    ActualsFit tree.no_actual = Unit {0}
    ActualsFit (tree.by_expression e rest) = ExprFits e × ActualsFit rest
    ActualsFit (tree.by_variable o parts r rest) = PartsFit parts × (AreWords (bounds_in p inst r) × ActualsFit rest)
    ActualsFit (tree.by_composite o parts rest) = PartsFit parts × ActualsFit rest

    pub TestFits : tree.Test → Type 0
    TestFits (tree.condition at e) = ExprFits e
    TestFits (tree.negation t) = TestFits t
    TestFits (tree.operator neutral t u) = TestFits t × TestFits u

  -- those of what an object is set to
  abbrev pub ValueFits : tree.NewValue → Type 0
  ValueFits (tree.scalar_value r e) = AreWords (bounds_in p inst r) × ExprFits e
  ValueFits (tree.composite_value t o parts) = PartsFit parts
  ValueFits (tree.others_value r v) = ValueFits v

  -- those in the bounds of a for loop
  abbrev pub RangeFits : tree.LoopRange → Type 0
  RangeFits (tree.over_subtype r) = Unit {0}
  RangeFits (tree.over_bounds e f) = ExprFits e × ExprFits f

  -- the values of a choice are words
  abbrev pub ChoiceFits : tree.Choice → Type 0
  ChoiceFits (tree.value_choice e) = IsWord (number_in p inst e)
  ChoiceFits (tree.range_choice e f) = IsWord (number_in p inst e) × IsWord (number_in p inst f)
  ChoiceFits tree.other_values = Unit {0}

  -- and so is the number of an exception
  abbrev pub ExceptionChoiceFits : tree.ExceptionChoice → Type 0
  ExceptionChoiceFits (tree.named_exception x) = IsWord (pos (exception_in p inst x))
  ExceptionChoiceFits tree.other_exceptions = Unit {0}

  module _ (K : Kernel) (shape_of : tree.Object → Shape) (layout_of : (declaration : ℕ) → ℕ) where
    -- an array or a record without initial value has a layout of the kernel
    abbrev pub DeclarationFits : tree.Declaration → Type 0
    DeclarationFits (tree.initialized l d v) = ValueFits v
    DeclarationFits (tree.without_value d t) = IsComposite (shape_of (tree.local_object d)) → layout_of d < length K.layouts

    abbrev mutual
      -- the numbers in a statement
      pub StatementFits : tree.Stmt → Type 0
      StatementFits (tree.assignment l o parts v) = PartsFit parts × ValueFits v
      StatementFits (tree.procedure_call l c actuals) = ActualsFit actuals
      StatementFits (tree.if_statement l bs) = BranchesFit bs
      StatementFits (tree.case_statement l e choices) = ExprFits e × AlternativesFit choices
      StatementFits (tree.bare_loop l ss) = StatementsFit ss
      StatementFits (tree.while_loop l d t ss) = TestFits t × StatementsFit ss
      StatementFits (tree.for_loop l d reversed ts ss) = RangeFits ts × StatementsFit ss
      StatementFits (tree.exit_when l d t) = TestFits t
      StatementFits (tree.return_value l r e) = AreWords (bounds_in p inst r) × ExprFits e
      StatementFits (tree.block_statement b) = BlockFits b
      StatementFits s = Unit {0}

      pub StatementsFit : tree.Stmts → Type 0
      StatementsFit tree.no_statement = Unit {0}
      StatementsFit (tree.and_statement s ss) = StatementFits s × StatementsFit ss

      pub BranchesFit : tree.Branches → Type 0
      BranchesFit (tree.else_part ss) = StatementsFit ss
      BranchesFit (tree.branch d t ss bs) = TestFits t × (StatementsFit ss × BranchesFit bs)

      pub AlternativesFit : tree.Alternatives → Type 0
      AlternativesFit tree.no_alternative = Unit {0}
      AlternativesFit (tree.alternative cs ss rest) = Everywhere ChoiceFits cs × (StatementsFit ss × AlternativesFit rest)

      pub HandlersFit : tree.Handlers → Type 0
      HandlersFit tree.no_handler = Unit {0}
      HandlersFit (tree.handler cs ss hs) = Everywhere ExceptionChoiceFits cs × (StatementsFit ss × HandlersFit hs)

      pub BlockFits : tree.Block → Type 0
      BlockFits (tree.block ds ss hs) = Everywhere DeclarationFits ds × (StatementsFit ss × HandlersFit hs)

-- a parameter of a type that fits: a composite one has words of its own, and a layout where it has mode out
abbrev pub ParameterFits : (width : ℕ) → Kernel → (home_of : tree.Object → Home) → (layout_of : (declaration : ℕ) → ℕ) → ResolvedParameter → Type 0
ParameterFits width K home_of layout_of q =
    ShapeFits q.shape
    × (IsComposite q.shape → HomeFits width K (home_of (tree.local_object q.declaration)) × (q.mode ≡ out_mode → layout_of q.declaration < length K.layouts))
