-- The pieces that the code of declarations and statements is put together of, by what the code of a body is made by.
use Rattle.std.specs.Prelude.{ℕ, ◌+◌, ℤ, pos, negsuc, Bool, true, false, List, Option, Some, None}
use Rattle.ada_meaning.specs.Program.{Bounds}
use Rattle.ada_meaning.specs.Shape.{Shape}
use Rattle.ada_meaning.specs.Tree as tree
use Rattle.ada_tree.specs.declared.statement.Direction.{Direction}
use Rattle.ada_tree.specs.declared.statement.Direction.TheVariants as direction
use Rattle.kernel_ir.specs.declared.simple.Simple.TheVariants as op
use Rattle.kernel_ir.specs.declared.simple.Relation.TheVariants as relation
use Rattle.kernel_ir.specs.Sequence.{joined}
use Rattle.kernel_ir.specs.Tree.{simple, choose, for_loop, forever, exit, returns, Code, no_op, and_op}
use Rattle.statement_code.specs.Flows.{range_code}
use Rattle.statement_code.specs.Statements.{keep_on, slot_of, start_of, first_code, declaration_code, declarations_code, statement_code, statements_code, branches_code, alternatives_code, block_code, handlers_code}
use Rattle.statement_code.specs.Values.{single, one, Home, address_on, within}
use Rattle.lower.specs.declared.context.BodyContext.{BodyContext}
use Rattle.lower.specs.Choosing.{bounds_for, decided_for}
use Rattle.lower.specs.Context.{names_for, shape_for, home_for, layout_for, site_for}
use Rattle.lower.specs.Pieces.{expr_for}
use Rattle.lower.specs.Procedures.{procedure_for}
use Rattle.lower.specs.Settings.{assign_for}

-- the first value of an object that stands somewhere: of a scalar one by the bounds of its subtype, of another by its layout
abbrev pub first_by : (k layout : ℕ) → Home → Option Bounds → Code
first_by k layout h None = and_op (simple (address_on k h)) (one (op.Fill k layout))
first_by k layout h (Some b) = and_op (simple (op.Number k b.low)) (one (keep_on k h))

-- how a loop goes on to the next value of its parameter (RM 5.5)
abbrev pub step_of : Direction → ℤ
step_of direction.Rising = pos 1
step_of direction.Falling = negsuc 0

-- the end of a turn: the slot h holds the value of the parameter, and the one behind it the last value
abbrev pub turn_end : (h k : ℕ) → (step : ℤ) → Code
turn_end h k step = and_op (simple (op.Compare relation.Equal k h (h + 1))) (single (choose k (single exit) (one (op.Advance h h step))))

-- the bounds of a reverse loop are exchanged
abbrev pub exchange_by : (first last free : ℕ) → (reversed : Bool) → Code
exchange_by first last free false = no_op
exchange_by first last free true = and_op (simple (op.Move free first)) (and_op (simple (op.Move first last)) (one (op.Move last free)))

-- a loop over a range by the code of a turn
abbrev pub range_by : (h k : ℕ) → (reversed : Bool) → (turn : Code) → Code
range_by h k reversed turn =
    and_op (simple (op.Compare relation.AtMost k h (h + 1))) (single (choose k (joined (exchange_by h (h + 1) k reversed) (single (for_loop turn))) no_op))

module _ (c : BodyContext) where
  -- the first value of an object of a shape
  abbrev pub first_of : (k layout : ℕ) → Home → Shape → Code
  first_of k layout h s = first_code (names_for c) (shape_for c) (home_for c) (site_for c) k s layout h

  -- a statement starts
  abbrev pub start_for : tree.Label → Code
  start_for l = one (start_of c.instance l)

  -- the first value of an object without an initial one (RM 3.3.1)
  abbrev pub first_for : (k declaration : ℕ) → Code
  first_for k d = first_of k (layout_for c d) (home_for c (tree.local_object d)) (shape_for c (tree.local_object d))

  abbrev pub declaration_for : (k : ℕ) → tree.Declaration → Code
  declaration_for k d = declaration_code (names_for c) (shape_for c) (home_for c) (site_for c) (layout_for c) k d

  abbrev pub declarations_for : (k : ℕ) → List tree.Declaration → Code
  declarations_for k ds = declarations_code (names_for c) (shape_for c) (home_for c) (site_for c) (layout_for c) k ds

  -- statements, where t is the slot of the exception that the innermost handler took
  abbrev pub stated_for : (k t : ℕ) → tree.Stmt → Code
  stated_for k t s = statement_code (names_for c) (shape_for c) (home_for c) (site_for c) (layout_for c) k t s

  -- the start of a statement, which a block has not, and what it does when it has started
  abbrev pub own_start_for : tree.Stmt → Code
  own_start_for (tree.null_statement l) = start_for l
  own_start_for (tree.assignment l o parts v) = start_for l
  own_start_for (tree.procedure_call l c actuals) = start_for l
  own_start_for (tree.if_statement l bs) = start_for l
  own_start_for (tree.case_statement l e choices) = start_for l
  own_start_for (tree.bare_loop l ss) = start_for l
  own_start_for (tree.while_loop l d u ss) = start_for l
  own_start_for (tree.for_loop l d reversed ts ss) = start_for l
  own_start_for (tree.exit_statement l) = start_for l
  own_start_for (tree.exit_when l d u) = start_for l
  own_start_for (tree.return_statement l) = start_for l
  own_start_for (tree.return_value l r e) = start_for l
  own_start_for (tree.raise_statement l x) = start_for l
  own_start_for (tree.raise_again l) = start_for l
  own_start_for (tree.block_statement b) = no_op

  abbrev pub all_for : (k t : ℕ) → tree.Stmts → Code
  all_for k t ss = statements_code (names_for c) (shape_for c) (home_for c) (site_for c) (layout_for c) k t ss

  abbrev pub branches_for : (k t : ℕ) → tree.Branches → Code
  branches_for k t bs = branches_code (names_for c) (shape_for c) (home_for c) (site_for c) (layout_for c) k t bs

  abbrev pub alternatives_for : (k t : ℕ) → tree.Alternatives → Code
  alternatives_for k t xs = alternatives_code (names_for c) (shape_for c) (home_for c) (site_for c) (layout_for c) k t xs

  abbrev pub frame_for : (k t : ℕ) → tree.Block → Code
  frame_for k t b = block_code (names_for c) (shape_for c) (home_for c) (site_for c) (layout_for c) k t b

  abbrev pub handlers_for : (k : ℕ) → tree.Handlers → Code
  handlers_for k hs = handlers_code (names_for c) (shape_for c) (home_for c) (site_for c) (layout_for c) k hs

  abbrev pub held_for : (k t : ℕ) → tree.Stmt → Code
  held_for k t (tree.null_statement l) = no_op
  held_for k t (tree.assignment l o parts v) = assign_for c k o parts v
  held_for k t (tree.procedure_call l callee actuals) = procedure_for c k ((names_for c).target callee) actuals
  held_for k t (tree.if_statement l bs) = branches_for k t bs
  held_for k t (tree.case_statement l e choices) = joined (expr_for c k e) (alternatives_for k t choices)
  held_for k t (tree.bare_loop l ss) = single (forever (all_for k t ss))
  held_for k t (tree.while_loop l d u ss) = single (forever (decided_for c k d u (all_for k t ss) (single exit)))
  held_for k t (tree.for_loop l d reversed ts ss) =
      joined (bounds_for c k ts) (range_code k (k + 2) (slot_of (home_for c (tree.local_object d))) reversed (all_for (k + 2) t ss))
  held_for k t (tree.exit_statement l) = single exit
  held_for k t (tree.exit_when l d u) = decided_for c k d u (single exit) no_op
  held_for k t (tree.return_statement l) = single returns
  held_for k t (tree.return_value l r e) =
      joined (expr_for c k e) (and_op (simple (within k ((names_for c).bounds r))) (and_op (simple (op.Move 0 k)) (single returns)))
  held_for k t (tree.raise_statement l x) = one (op.Raise ((names_for c).exception x))
  held_for k t (tree.raise_again l) = one (op.RaiseSlot t)
  held_for k t (tree.block_statement b) = frame_for k t b
