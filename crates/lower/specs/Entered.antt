-- The pieces that the code of a body is put together of.
use Rattle.std.specs.Prelude.{ℕ, Bool, List, Option, Some, None}
use Rattle.ada_meaning.specs.Program.{Bounds}
use Rattle.ada_meaning.specs.Resolved.{ResolvedParameter}
use Rattle.ada_meaning.specs.Tree as tree
use Rattle.kernel_ir.specs.declared.simple.Simple.TheVariants as op
use Rattle.kernel_ir.specs.Tree.{Code}
use Rattle.statement_code.specs.Bodies.{scalar_parameter, composite_parameter, parameter_code, parameters_code, body_code}
use Rattle.statement_code.specs.Values.{one}
use Rattle.lower.specs.declared.context.BodyContext.{BodyContext}
use Rattle.lower.specs.Context.{names_for, shape_for, home_for, layout_for, site_for}

module _ (c : BodyContext) where
  -- a parameter by the bounds of its subtype, if it is scalar
  abbrev pub parameter_by : (k i : ℕ) → ResolvedParameter → Option Bounds → Code
  parameter_by k i q None = composite_parameter (home_for c) (layout_for c) k i q
  parameter_by k i q (Some b) = scalar_parameter i q.mode (one (op.Number i b.low))

  -- what sets a parameter with this number, and those from a number on
  abbrev pub entered_for : (k i : ℕ) → ResolvedParameter → Code
  entered_for k i q = parameter_code (home_for c) (layout_for c) k i q q.shape

  abbrev pub all_entered_for : (k i : ℕ) → List ResolvedParameter → Code
  all_entered_for k i qs = parameters_code (home_for c) (layout_for c) k i qs

  -- a body that works from the slot k on
  abbrev pub body_for : (k : ℕ) → (gives : Bool) → List ResolvedParameter → tree.Block → Code
  body_for k gives qs b = body_code (names_for c) (shape_for c) (home_for c) (site_for c) (layout_for c) k gives qs b
