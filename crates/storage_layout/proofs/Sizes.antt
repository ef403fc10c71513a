-- How deep shapes are: what code that goes down a type has still to pass.
use Rattle.std.proofs.Common.{◌≡◌, ℕ, zero, suc, ◌+◌, ◌<◌, ◌≤◌, length, List, [], ◌∷◌, slice_index_or, ap, arith}
use Rattle.ada_meaning.specs.Shape.{Shape, word, row, group, Shapes, no_shape, and_shape}
use Rattle.ada_tree.specs.declared.program.Program.{Program}
use Rattle.ada_tree.specs.declared.types.Subtype.{Subtype}
use Rattle.ada_resolved.specs.declared.forms.TypeIn.{TypeIn}
use Rattle.ada_resolved.specs.Forms.{shape_of, shapes_of}

abbrev mutual
  pub shape_size : Shape → ℕ
  shape_size (word b) = 1
  shape_size (row b s) = suc (shape_size s)
  shape_size (group ss) = suc (shapes_size ss)

  pub shapes_size : Shapes → ℕ
  shapes_size no_shape = 0
  shapes_size (and_shape s ss) = shape_size s + shapes_size ss

-- a component is no larger than all components
pub component_within : (p : Program) (inst below : ℕ) (ts : List Subtype) (i : ℕ) (d : Subtype) → i < length ts
    → shape_size (shape_of p (record { instance = inst; subtype = slice_index_or ts i d; below = below })) ≤ shapes_size (shapes_of p inst below ts)
component_within p inst below [] i d less = omega (arith, less)
component_within p inst below (t ∷ ts) zero d less = omega arith
component_within p inst below (t ∷ ts) (suc i) d less = omega (arith, component_within p inst below ts i d (omega (arith, less)))

pub component_smaller : (p : Program) (inst below : ℕ) (ts us : List Subtype) (i : ℕ) (d : Subtype) (u : TypeIn) → ts ≡ us
    → u ≡ record { instance = inst; subtype = slice_index_or ts i d; below = below } → i < length ts → shape_size (shape_of p u) ≤ shapes_size (shapes_of p inst below us)
component_smaller p inst below ts us i d u same is less =
    omega (arith, component_within p inst below ts i d less, ap (λ (v : TypeIn). shape_size (shape_of p v)) is, ap (λ (vs : List Subtype). shapes_size (shapes_of p inst below vs)) same)
