-- The code that sets objects, and parts of them.
use Rattle.std.specs.Prelude.{◌≡◌, ℕ, ◌+◌, ◌≤◌, pos, Bool}
use Rattle.ada_meaning.specs.Program.{Program}
use Rattle.ada_meaning.specs.Resolved.{bounds_in, shape_in}
use Rattle.ada_meaning.specs.Shape.{Shape, row}
use Rattle.ada_meaning.specs.Tree as tree
use Rattle.ada_resolved.specs.Sizes.{words}
use Rattle.kernel_ir.specs.declared.simple.Relation.TheVariants as relation
use Rattle.kernel_ir.specs.declared.simple.Simple.TheVariants as op
use Rattle.kernel_ir.specs.Sequence.{joined}
use Rattle.kernel_ir.specs.Tree.{simple, choose, for_loop, exit, Code, no_op, and_op}
use Rattle.statement_code.specs.Names.{Names}
use Rattle.statement_code.specs.Values.{single, one, within, Home, address_on, part_shape, IsWord, expr_code, parts_code, IsPlainExpr, ArePlainParts, Site}

-- Sets components one after another: the slot k holds the address of the next one, the slot j that of the word behind the last one. The code
-- sets a component, and leaves the address of the next one.
abbrev pub turn_code : (k j : ℕ) → Code → Code
turn_code k j a = and_op (simple (op.Compare relation.Equal (j + 1) k j)) (single (choose (j + 1) (single exit) a))

-- the address of the word behind a component of a shape that was set to a value, where the code leaves its own address
abbrev pub next_code : (k : ℕ) → Shape → tree.NewValue → Code
next_code k s (tree.scalar_value r e) = one (op.Advance k k (pos (words s)))
next_code k s (tree.composite_value t o parts) = one (op.Advance k k (pos (words s)))
next_code k s (tree.others_value r v) = no_op

-- the address that is left in the slot k
abbrev pub left_at : Shape → tree.NewValue → ℕ → ℕ
left_at s (tree.scalar_value r e) a = a
left_at s (tree.composite_value t o parts) a = a
left_at s (tree.others_value r v) a = a + words s

module _ (names : Names) (shape_of : tree.Object → Shape) (home_of : tree.Object → Home) (site : Site) where
  -- sets the object of a shape whose address stands in the slot k to a value; the slots from j on are free for that (RM 4.3.3, 5.2)
  abbrev pub set_code : (k j : ℕ) → Shape → tree.NewValue → Code
  set_code k j s (tree.scalar_value r e) =
      joined (expr_code names shape_of home_of site j e) (and_op (simple (within j (names.bounds r))) (one (op.Store k j)))
  set_code k j s (tree.composite_value t o parts) =
      and_op (simple (address_on j (home_of o))) (joined (parts_code names shape_of home_of site j (shape_of o) parts) (one (op.Copy k j (words s))))
  set_code k j (row b s) (tree.others_value r v) =
      and_op (simple (op.Advance j k (pos (words (row b s)))))
      (single (for_loop (turn_code k j (joined (set_code k (j + 1) s v) (next_code k s v)))))
  set_code k j s v = no_op

module _ (p : Program) (inst : ℕ) (shape_of : tree.Object → Shape) (home_of : tree.Object → Home) (site : Site) (Bodies : Bool → ℕ → ℕ → Type 0) where
  -- a value that an object of this shape can have
  abbrev pub IsPlainValue : (tree.Object → Type 0) → Shape → tree.NewValue → Type 0
  IsPlainValue Sees s (tree.scalar_value r e) = IsWord s × IsPlainExpr p inst shape_of home_of site Bodies Sees e
  IsPlainValue Sees s (tree.composite_value t o parts) =
      Sees o × (ArePlainParts p inst shape_of home_of site Bodies Sees (shape_of o) parts × ((part_shape (shape_of o) parts ≡ s) × (shape_in p inst t ≡ s)))
  IsPlainValue Sees (row b s) (tree.others_value r v) = (bounds_in p inst r ≡ b) × ((1 ≤ words s) × IsPlainValue Sees s v)
  IsPlainValue Sees s v = ⊥
