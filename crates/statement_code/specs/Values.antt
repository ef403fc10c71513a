-- The code of names and of values of expressions.
use Rattle.std.specs.Prelude.{◌≡◌, ℕ, ◌+◌, ◌≤◌, pos, true, false, List, [], drop, length, suc, Bool}
use Rattle.ada_meaning.specs.Arithmetic.{base_range, is_within}
use Rattle.ada_meaning.specs.Calls.{word_bounds, next_parameter}
use Rattle.ada_meaning.specs.Program.{Bounds, Mode, in_mode, out_mode, in_out_mode, Target, get_target, put_target, body_target, Program}
use Rattle.ada_meaning.specs.Resolved.{ResolvedParameter, number_in, bounds_in, target_in, parameters_of, place_in}
use Rattle.ada_meaning.specs.Shape.{Shape, word, row, group}
use Rattle.ada_meaning.specs.State.{Place}
use Rattle.ada_meaning.specs.Tree as tree
use Rattle.ada_meaning.specs.Types as type
use Rattle.ada_resolved.specs.Sizes.{words}
use Rattle.kernel_ir.specs.declared.code.Edge.{Edge}
use Rattle.kernel_ir.specs.declared.code.Edge.TheVariants as edge
use Rattle.kernel_ir.specs.declared.simple.Operator.{Operator}
use Rattle.kernel_ir.specs.declared.simple.Operator.TheVariants as operator
use Rattle.kernel_ir.specs.declared.simple.Relation.{Relation}
use Rattle.kernel_ir.specs.declared.simple.Relation.TheVariants as relation
use Rattle.kernel_ir.specs.declared.simple.Simple.{Simple}
use Rattle.kernel_ir.specs.declared.simple.Simple.TheVariants as op
use Rattle.kernel_ir.specs.Sequence.{joined}
use Rattle.kernel_ir.specs.Tree.{Op, simple, decide, call, Code, no_op, and_op, Nodes, no_node, and_node}
use Rattle.kernel_ir.specs.World.{data_word, area_end, slot_word}
use Rattle.statement_code.specs.Cells.{Cells, Lies}
use Rattle.statement_code.specs.Names.{Names}
use Rattle.statement_code.specs.Objects.{component_of, words_before, HasComponent}

-- code of one operation
abbrev pub single : Op → Code
single o = and_op o no_op

-- of one that holds no others
abbrev pub one : Simple → Code
one s = single (simple s)

-- raises Constraint_Error unless a slot's value lies within bounds
abbrev pub within : (slot : ℕ) → Bounds → Simple
within k b = op.Within k b.low b.high

-- where an object stands: its first word in a slot of the frame, or so many words behind the first one of the library level
pub data Home : Type 0 where
  in_frame : ℕ → Home
  in_library : ℕ → Home

-- the address of an object's first word, in a frame that ends before the word fp
abbrev pub address_at : (fp : ℕ) → Home → ℕ
address_at fp (in_frame j) = slot_word fp j
address_at fp (in_library n) = data_word + n

-- that address, and the object's first word, into a slot
abbrev pub address_on : (slot : ℕ) → Home → Simple
address_on k (in_frame j) = op.FrameAddress k j
address_on k (in_library n) = op.LibraryAddress k n

abbrev pub fetch_on : (slot : ℕ) → Home → Simple
fetch_on k (in_frame j) = op.Move k j
fetch_on k (in_library n) = op.ReadLibrary k n

-- the operator on one integer, on a slot; the result is checked against the base range (RM 4.5.4, 4.5.6)
abbrev pub sign_on : (slot : ℕ) → type.Sign → Simple
sign_on k type.unary_plus = within k base_range
sign_on k type.unary_minus = op.Negate k k
sign_on k type.absolute_value = op.Absolute k k

-- the operator on two integers (RM 4.5.3, 4.5.5)
abbrev pub operator_for : type.Operator → Operator
operator_for type.addition = operator.Add
operator_for type.subtraction = operator.Subtract
operator_for type.multiplication = operator.Multiply
operator_for type.division = operator.Divide
operator_for type.modulus = operator.Modulo
operator_for type.remainder = operator.Remainder

-- an operator, on a slot and the one behind it
abbrev pub operator_on : (slot : ℕ) → type.Operator → Simple
operator_on k o = op.Arithmetic (operator_for o) k k (k + 1)

-- a relation of two values (RM 4.5.2)
abbrev pub relation_for : type.Relation → Relation
relation_for type.equal = relation.Equal
relation_for type.unequal = relation.Unequal
relation_for type.less = relation.Less
relation_for type.at_most = relation.AtMost
relation_for type.greater = relation.Greater
relation_for type.at_least = relation.AtLeast

-- a relation, of a slot and the one behind it
abbrev pub relation_on : (slot : ℕ) → type.Relation → Simple
relation_on k r = op.Compare (relation_for r) k k (k + 1)

-- `not`, of a slot
abbrev pub complement_on : (slot : ℕ) → Simple
complement_on k = op.Complement k k

-- an edge that leads past so many more nodes
abbrev pub past : ℕ → Edge → Edge
past n (edge.Leaf outcome) = edge.Leaf outcome
past n (edge.NodeAfter skipped) = edge.NodeAfter (n + skipped)

-- the shape of these parts of an object of a shape
abbrev pub part_shape : Shape → tree.Parts → Shape
part_shape s tree.whole = s
part_shape (group ss) (tree.component n parts) = part_shape (component_of ss n) parts
part_shape (row b s) (tree.element r e parts) = part_shape s parts
part_shape s parts = s

-- whether a shape is that of a scalar
abbrev pub IsWord : Shape → Type 0
IsWord (word b) = Unit {0}
IsWord s = ⊥

-- where calls are made: the width of the frame, and the numbers of bodies by instance and subprogram
pub record Site : Type 0 where
  pub width : ℕ
  pub body : (inst subprogram : ℕ) → ℕ

-- that of an array or a record
abbrev pub IsComposite : Shape → Type 0
IsComposite (word b) = ⊥
IsComposite (row b s) = Unit {0}
IsComposite (group ss) = Unit {0}

-- a mode in which a variable gets a value
abbrev pub IsGivenBack : Mode → Type 0
IsGivenBack in_mode = ⊥
IsGivenBack out_mode = Unit {0}
IsGivenBack in_out_mode = Unit {0}

-- a body that may be called, by whether it gives a result
abbrev pub IsBody : (Bool → ℕ → ℕ → Type 0) → Bool → Target → Type 0
IsBody Bodies function get_target = ⊥
IsBody Bodies function put_target = ⊥
IsBody Bodies function (body_target j m) = Bodies function j m

-- how many actuals there are
abbrev pub count_of : tree.Actuals → ℕ
count_of tree.no_actual = 0
count_of (tree.by_expression e rest) = suc (count_of rest)
count_of (tree.by_variable o parts r rest) = suc (count_of rest)
count_of (tree.by_composite o parts rest) = suc (count_of rest)

-- how many arguments a call may have: they stand behind the frame, in the first slots of the callee's
abbrev pub arguments : ℕ
arguments = 16

-- an object, or a part of one, that lies in memory from an address on
pub record Stands (Cell : Cells) (s : Shape) (q : Place) (a : ℕ) : Type 0 where
  pub lies : Lies Cell s q a
  pub low : data_word ≤ a
  pub high : a + words s ≤ area_end

-- the number of the body that a call comes to
abbrev pub body_number : Site → Target → ℕ
body_number site get_target = 0
body_number site put_target = 0
body_number site (body_target j m) = site.body j m

-- what a parameter of mode out does without
abbrev pub unless_out : Mode → Code → Code
unless_out out_mode a = no_op
unless_out in_mode a = a
unless_out in_out_mode a = a

-- the values and addresses of actuals, which stand in slots from k on, into the first slots of the callee's frame, from number j on
abbrev pub moves_code : (width k j : ℕ) → tree.Actuals → Code
moves_code width k j tree.no_actual = no_op
moves_code width k j (tree.by_expression e rest) = and_op (simple (op.Move (width + j) k)) (moves_code width (k + 1) (j + 1) rest)
moves_code width k j (tree.by_variable o tree.whole r rest) = and_op (simple (op.Move (width + j) k)) (moves_code width (k + 1) (j + 1) rest)
moves_code width k j (tree.by_variable o (tree.component n parts) r rest) =
    and_op (simple (op.Move (width + j) (k + 1))) (moves_code width (k + 2) (j + 1) rest)
moves_code width k j (tree.by_variable o (tree.element r e parts) s rest) =
    and_op (simple (op.Move (width + j) (k + 1))) (moves_code width (k + 2) (j + 1) rest)
moves_code width k j (tree.by_composite o parts rest) = and_op (simple (op.Move (width + j) k)) (moves_code width (k + 1) (j + 1) rest)

-- by the shapes of objects, where they stand, and the program with an instance
module _ (names : Names) (shape_of : tree.Object → Shape) (home_of : tree.Object → Home) (site : Site) where
  abbrev mutual
    -- the value of an expression, into the slot k
    pub expr_code : (k : ℕ) → tree.Expr → Code
    expr_code k (tree.literal x) = one (op.Number k x)
    expr_code k (tree.constant e) = one (op.Number k (names.number e))
    expr_code k (tree.attribute o parts e) =
        and_op (simple (address_on k (home_of o))) (joined (parts_code k (shape_of o) parts) (one (op.Number k (names.number e))))
    expr_code k (tree.read o tree.whole) = one (fetch_on k (home_of o))
    expr_code k (tree.read o parts) = and_op (simple (address_on k (home_of o))) (joined (parts_code k (shape_of o) parts) (one (op.Load k k)))
    expr_code k (tree.signed s e) = joined (expr_code k e) (one (sign_on k s))
    expr_code k (tree.operation o e f) = joined (expr_code k e) (joined (expr_code (k + 1) f) (one (operator_on k o)))
    expr_code k (tree.relation r e f) = joined (expr_code k e) (joined (expr_code (k + 1) f) (one (relation_on k r)))
    expr_code k (tree.complement e) = joined (expr_code k e) (one (complement_on k))
    expr_code k (tree.conversion r e) = joined (expr_code k e) (one (within k (names.bounds r)))
    expr_code k (tree.call c actuals) =
        joined (actuals_code k (names.parameters (names.target c)) actuals)
        (joined (moves_code site.width k 0 actuals) (and_op (call (body_number site (names.target c))) (one (op.Move k site.width))))
    expr_code k (tree.decision d t) =
        single (decide (record { 0 = d.number }) (record { 0 = names.instance }) k (nodes_code k t (edge.Leaf true) (edge.Leaf false) no_node))

    -- what actuals come to, into slots from k on: a checked value, or the address of an object (RM 6.4.1)
    pub actuals_code : (k : ℕ) → List ResolvedParameter → tree.Actuals → Code
    actuals_code k qs tree.no_actual = no_op
    actuals_code k qs (tree.by_expression e rest) =
        joined (expr_code k e) (and_op (simple (within k (word_bounds (next_parameter qs).shape))) (actuals_code (k + 1) (drop 1 qs) rest))
    actuals_code k qs (tree.by_variable o tree.whole r rest) =
        joined (unless_out (next_parameter qs).mode (and_op (simple (fetch_on k (home_of o))) (one (within k (word_bounds (next_parameter qs).shape)))))
        (actuals_code (k + 1) (drop 1 qs) rest)
    actuals_code k qs (tree.by_variable o (tree.component n parts) r rest) =
        and_op (simple (address_on k (home_of o))) (joined (parts_code k (shape_of o) (tree.component n parts))
        (joined (unless_out (next_parameter qs).mode (and_op (simple (op.Load (k + 1) k)) (one (within (k + 1) (word_bounds (next_parameter qs).shape)))))
        (actuals_code (k + 2) (drop 1 qs) rest)))
    actuals_code k qs (tree.by_variable o (tree.element r e parts) s rest) =
        and_op (simple (address_on k (home_of o))) (joined (parts_code k (shape_of o) (tree.element r e parts))
        (joined (unless_out (next_parameter qs).mode (and_op (simple (op.Load (k + 1) k)) (one (within (k + 1) (word_bounds (next_parameter qs).shape)))))
        (actuals_code (k + 2) (drop 1 qs) rest)))
    actuals_code k qs (tree.by_composite o parts rest) =
        and_op (simple (address_on k (home_of o))) (joined (parts_code k (shape_of o) parts) (actuals_code (k + 1) (drop 1 qs) rest))

    -- the address of these parts of an object of a shape, whose address stands in the slot k; indexes are checked (RM 4.1.1)
    pub parts_code : (k : ℕ) → Shape → tree.Parts → Code
    parts_code k s tree.whole = no_op
    parts_code k (group ss) (tree.component n parts) =
        and_op (simple (op.Advance k k (pos (words_before ss n)))) (parts_code k (component_of ss n) parts)
    parts_code k (row b s) (tree.element r e parts) =
        joined (expr_code (k + 1) e)
        (and_op (simple (op.Index (k + 1) (k + 1) b.low b.high (words s))) (and_op (simple (op.Offset k k (k + 1))) (parts_code k s parts)))
    parts_code k s parts = no_op

    -- The nodes of a test before others, where its edges of True and False lead there from its last node: `not` exchanges them. The right
    -- operand of a form stands directly behind the left one, whose neutral edges lead to it (RM 4.5.1).
    pub nodes_code : (k : ℕ) → tree.Test → (on_true on_false : Edge) → Nodes → Nodes
    nodes_code k (tree.condition at e) t f rest = and_node (expr_code k e) k t f rest
    nodes_code k (tree.negation u) t f rest = nodes_code k u f t rest
    nodes_code k (tree.operator true u v) t f rest = nodes_code k u (edge.NodeAfter 0) (past (tree.conditions_of v) f) (nodes_code k v t f rest)
    nodes_code k (tree.operator false u v) t f rest = nodes_code k u (past (tree.conditions_of v) t) (edge.NodeAfter 0) (nodes_code k v t f rest)

-- over the objects of a program in an instance
module _ (p : Program) (inst : ℕ) (shape_of : tree.Object → Shape) (home_of : tree.Object → Home) (site : Site) (Bodies : Bool → ℕ → ℕ → Type 0) where
  module _ (Sees : tree.Object → Type 0) where
    abbrev mutual
      -- an expression over the objects that are visible, whose static parts have values
      pub IsPlainExpr : tree.Expr → Type 0
      IsPlainExpr (tree.literal x) = is_within base_range x ≡ true
      IsPlainExpr (tree.constant e) = is_within base_range (number_in p inst e) ≡ true
      IsPlainExpr (tree.attribute o parts e) = Sees o × (ArePlainParts (shape_of o) parts × (is_within base_range (number_in p inst e) ≡ true))
      IsPlainExpr (tree.read o parts) = Sees o × (ArePlainParts (shape_of o) parts × IsWord (part_shape (shape_of o) parts))
      IsPlainExpr (tree.signed s e) = IsPlainExpr e
      IsPlainExpr (tree.operation o e f) = IsPlainExpr e × IsPlainExpr f
      IsPlainExpr (tree.relation r e f) = IsPlainExpr e × IsPlainExpr f
      IsPlainExpr (tree.complement e) = IsPlainExpr e
      IsPlainExpr (tree.conversion r e) = IsPlainExpr e
      IsPlainExpr (tree.call c actuals) =
          IsBody Bodies true (target_in p inst c) × (ArePlainActuals (parameters_of p (target_in p inst c)) actuals × (count_of actuals ≤ arguments))
      IsPlainExpr (tree.decision d t) = IsPlainTest t

      -- parts that an object of this shape has
      pub ArePlainParts : Shape → tree.Parts → Type 0
      ArePlainParts s tree.whole = Unit {0}
      ArePlainParts (group ss) (tree.component n parts) = HasComponent ss n × ArePlainParts (component_of ss n) parts
      ArePlainParts (row b s) (tree.element r e parts) = (bounds_in p inst r ≡ b) × (IsPlainExpr e × ArePlainParts s parts)
      ArePlainParts s parts = ⊥

      -- actuals for these parameters (RM 6.4.1)
      pub ArePlainActuals : List ResolvedParameter → tree.Actuals → Type 0
      ArePlainActuals qs tree.no_actual = qs ≡ []
      ArePlainActuals qs (tree.by_expression e rest) =
          (1 ≤ length qs) × (IsWord (next_parameter qs).shape × (((next_parameter qs).mode ≡ in_mode) × (IsPlainExpr e × ArePlainActuals (drop 1 qs) rest)))
      ArePlainActuals qs (tree.by_variable o parts r rest) =
          (1 ≤ length qs) × (IsWord (next_parameter qs).shape × (IsGivenBack (next_parameter qs).mode
          × (Sees o × (ArePlainParts (shape_of o) parts × (IsWord (part_shape (shape_of o) parts) × ArePlainActuals (drop 1 qs) rest)))))
      ArePlainActuals qs (tree.by_composite o parts rest) =
          (1 ≤ length qs) × (IsComposite (next_parameter qs).shape
          × (Sees o × (ArePlainParts (shape_of o) parts × ((part_shape (shape_of o) parts ≡ (next_parameter qs).shape) × ArePlainActuals (drop 1 qs) rest))))

      -- the expression of a decision
      pub IsPlainTest : tree.Test → Type 0
      IsPlainTest (tree.condition at e) = IsPlainExpr e
      IsPlainTest (tree.negation t) = IsPlainTest t
      IsPlainTest (tree.operator neutral t u) = IsPlainTest t × IsPlainTest u

    -- the objects that are visible stand in memory, and were set
    abbrev pub SeesIn : Cells → (fp depth : ℕ) → Type 0
    SeesIn Cell fp depth = (o : tree.Object) → Sees o → Stands Cell (shape_of o) (place_in p inst depth o) (address_at fp (home_of o))
