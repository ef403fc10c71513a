-- What is seen through an instance is, from everywhere, what it is in that instance.
use Rattle.std.proofs.Common.{◌≡◌, ℕ, refl, ap}
use Rattle.ada_meaning.specs.Program.{Program}
use Rattle.ada_meaning.specs.Resolved.{bounds_in, shape_in, shapes_in}
use Rattle.ada_meaning.specs.Seen.{range_seen, subtype_seen, components_seen}
use Rattle.ada_meaning.specs.Shape.{word, row, group, and_shape}
use Rattle.ada_meaning.specs.Statics.{InstanceValues, static_bounds}
use Rattle.ada_meaning.specs.Types.{Range, between, formal_range, range_of, Subtype, scalar, array, fields, subtype_of, Components, no_component, and_component}

pub seen_bounds : (v : InstanceValues) (inst i : ℕ) (r : Range) → static_bounds v inst (range_seen i r) ≡ static_bounds v i r
seen_bounds v inst i (between e f) = refl
seen_bounds v inst i (formal_range k) = refl
seen_bounds v inst i (range_of j r) = refl

module _ (p : Program) (inst i : ℕ) where
  pub seen_exactly : (r : Range) → bounds_in p inst (range_seen i r) ≡ bounds_in p i r
  seen_exactly (between e f) = refl
  seen_exactly (formal_range k) = refl
  seen_exactly (range_of j r) = refl

  mutual
    pub seen_shape : (t : Subtype) → shape_in p inst (subtype_seen i t) ≡ shape_in p i t
    seen_shape (scalar r) = ap word (seen_exactly r)
    seen_shape (array r t) = λ s. row (seen_exactly r s) (seen_shape t s)
    seen_shape (fields cs) = ap group (seen_shapes cs)
    seen_shape (subtype_of j t) = refl

    pub seen_shapes : (cs : Components) → shapes_in p inst (components_seen i cs) ≡ shapes_in p i cs
    seen_shapes no_component = refl
    seen_shapes (and_component t cs) = λ s. and_shape (seen_shape t s) (seen_shapes cs s)
