-- The pieces that code which sets objects is put together of, by what the code of a body is made by.
use Rattle.std.specs.Prelude.{ℕ, ◌+◌, pos, Option, Some, None}
use Rattle.ada_meaning.specs.Shape.{Shape, word, row, group}
use Rattle.ada_meaning.specs.Tree as tree
use Rattle.ada_tree.specs.View.{composite_by, scalar_range_of}
use Rattle.ada_resolved.specs.declared.forms.TypeIn.{TypeIn}
use Rattle.ada_resolved.specs.Forms.{shape_of}
use Rattle.ada_resolved.specs.Sizes.{words}
use Rattle.kernel_ir.specs.declared.simple.Simple.TheVariants as op
use Rattle.kernel_ir.specs.Sequence.{joined}
use Rattle.kernel_ir.specs.Tree.{simple, for_loop, Code, no_op, and_op}
use Rattle.statement_code.specs.Sets.{turn_code, next_code, set_code}
use Rattle.statement_code.specs.Statements.{assign_code}
use Rattle.statement_code.specs.Values.{single, part_shape}
use Rattle.lower.specs.declared.context.BodyContext.{BodyContext}
use Rattle.lower.specs.declared.sets.Kept.{Kept}
use Rattle.lower.specs.declared.sets.Setting.{Setting}
use Rattle.lower.specs.declared.sets.Setting.TheVariants as setting
use Rattle.lower.specs.Context.{text, names_for, shape_for, home_for, site_for}
use Rattle.lower.specs.Pieces.{located_for}

-- a value without `(others => ..)`
abbrev pub setting_of : Setting → tree.NewValue
setting_of (setting.Scalar r e) = tree.scalar_value (scalar_range_of r) e.now
setting_of (setting.Composite w n o ss) = composite_by w n o ss.now

abbrev pub kept_of : Kept → tree.NewValue
kept_of k = tree.scalar_value (scalar_range_of k.range) k.expr.now

module _ (c : BodyContext) where
  -- sets the object of a shape whose address stands in the slot k; the slots from j on are free for that
  abbrev pub set_for : (k j : ℕ) → Shape → tree.NewValue → Code
  set_for k j s v = set_code (names_for c) (shape_for c) (home_for c) (site_for c) k j s v

  -- sets each component of a shape, where all take so many words
  abbrev pub each_for : (k j size : ℕ) → Shape → tree.NewValue → Code
  each_for k j size s v =
      and_op (simple (op.Advance j k (pos size))) (single (for_loop (turn_code k j (joined (set_for k (j + 1) s v) (next_code k s v)))))

  -- sets each component of an array to a value; what is no array has none
  abbrev pub others_for : (k j : ℕ) → Shape → tree.NewValue → Code
  others_for k j (word b) v = no_op
  others_for k j (row b s) v = each_for k j (words (row b s)) s v
  others_for k j (group ss) v = no_op

  -- the same by the type of the components, if there is one, and the words of all
  abbrev pub others_with : (k j size : ℕ) → Option TypeIn → tree.NewValue → Code
  others_with k j size None v = no_op
  others_with k j size (Some t) v = each_for k j size (shape_of (text c) t) v

  -- sets parts of an object
  abbrev pub assign_for : (k : ℕ) → tree.Object → tree.Parts → tree.NewValue → Code
  assign_for k o parts v = assign_code (names_for c) (shape_for c) (home_for c) (site_for c) k o parts v

  -- sets parts of an object by their address
  abbrev pub assign_at_for : (k : ℕ) → tree.Object → tree.Parts → tree.NewValue → Code
  assign_at_for k o parts v = joined (located_for c k o parts) (set_for k (k + 1) (part_shape (shape_for c o) parts) v)
