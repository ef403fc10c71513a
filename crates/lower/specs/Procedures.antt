-- The pieces that the code of procedure calls is put together of, by what the code of a body is made by.
use Rattle.std.specs.Prelude.{ℕ, List, [], ◌∷◌, Option, Some, None}
use Rattle.ada_meaning.specs.Program.{Mode, Target}
use Rattle.ada_meaning.specs.Resolved.{ResolvedParameter}
use Rattle.ada_meaning.specs.Tree as tree
use Rattle.ada_meaning.specs.Types as type
use Rattle.ada_tree.specs.declared.expr.Actual.{Actual}
use Rattle.ada_tree.specs.declared.expr.Actual.TheVariants as actual
use Rattle.ada_tree.specs.declared.expr.Object.{Object}
use Rattle.ada_tree.specs.declared.expr.Selector.{Selector}
use Rattle.ada_tree.specs.declared.types.ScalarRange.{ScalarRange}
use Rattle.ada_tree.specs.View.{object_of, parts_of, scalar_range_of}
use Rattle.kernel_ir.specs.declared.simple.Simple.TheVariants as op
use Rattle.kernel_ir.specs.Tree.{simple, Code, no_op, and_op}
use Rattle.statement_code.specs.Statements.{keep_on, copied_back, backs_code, get_code, put_code, call_code}
use Rattle.statement_code.specs.Values.{one, within}
use Rattle.lower.specs.declared.context.BodyContext.{BodyContext}
use Rattle.lower.specs.declared.procedures.Gotten.{Gotten}
use Rattle.lower.specs.Context.{names_for, shape_for, home_for, site_for}

module _ (c : BodyContext) where
  -- what Test_IO's procedures do, and a call whose statement has started
  abbrev pub get_for : (k : ℕ) → tree.Object → tree.Parts → type.Range → Code
  get_for k o parts r = get_code (names_for c) (shape_for c) (home_for c) (site_for c) k o parts r

  abbrev pub put_for : (k : ℕ) → tree.Expr → Code
  put_for k e = put_code (names_for c) (shape_for c) (home_for c) (site_for c) k e

  abbrev pub procedure_for : (k : ℕ) → Target → tree.Actuals → Code
  procedure_for k t actuals = call_code (names_for c) (shape_for c) (home_for c) (site_for c) k t actuals

  -- copies parameters back, from number i on
  abbrev pub backs_for : (k i : ℕ) → List ResolvedParameter → tree.Actuals → Code
  backs_for k i qs actuals = backs_code (names_for c) (shape_for c) (home_for c) (site_for c) k i qs actuals

  -- a slot's value, into a variable whose subtype has to have it
  abbrev pub kept_for : (from : ℕ) → Object → ScalarRange → Code
  kept_for from o r = and_op (simple (within from ((names_for c).bounds (scalar_range_of r)))) (one (keep_on from (home_for c (object_of o))))

  -- the same for a part of a variable whose address the slot k holds
  abbrev pub stored_for : (k from : ℕ) → ScalarRange → Code
  stored_for k from r = and_op (simple (within from ((names_for c).bounds (scalar_range_of r)))) (one (op.Store k from))

  abbrev pub part_back_for : (k from : ℕ) → Object → List Selector → ScalarRange → Code
  part_back_for k from o [] r = kept_for from o r
  part_back_for k from o (s ∷ ss) r = stored_for k from r

  -- copies one parameter back, of a mode and so many words, which stands in a slot
  abbrev pub back_for : (k from : ℕ) → Mode → (size : ℕ) → Actual → Code
  back_for k from m size (actual.Expression e) = no_op
  back_for k from m size (actual.Variable o r) = kept_for from o r
  back_for k from m size (actual.Part o ss r) = part_back_for k from o ss.items r
  back_for k from m size (actual.Composite o ss) = copied_back m (one (op.Copy k from size))

  -- Put of an expression, and Get of a variable; a call without one does nothing
  abbrev pub output_for : (k : ℕ) → Option tree.Expr → Code
  output_for k None = no_op
  output_for k (Some e) = put_for k e

  abbrev pub input_for : (k : ℕ) → Option Gotten → Code
  input_for k None = no_op
  input_for k (Some v) = get_for k (object_of v.object) (parts_of v.selectors.now) (scalar_range_of v.range)
