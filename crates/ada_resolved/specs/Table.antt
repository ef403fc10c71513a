-- Sizes by a table: a row for each type, with an entry for each instance from 0 on.
use Rattle.std.specs.Prelude.{ℕ, zero, suc, ◌+◌, List, [], ◌∷◌, ◌++◌, map, length, Option, Some, None, option_map, slice_get, unwrap_or}
use Rattle.std.specs.Option.{option_and_then}
use Rattle.ada_meaning.specs.Resolved.{owner_in}
use Rattle.ada_meaning.specs.Statics.{InstanceValues, static_bounds, values_of}
use Rattle.ada_meaning.specs.Types as type
use Rattle.ada_tree.specs.declared.program.Program.{Program}
use Rattle.ada_tree.specs.declared.types.CompositeType.{CompositeType}
use Rattle.ada_tree.specs.declared.types.CompositeType.TheVariants as composite
use Rattle.ada_tree.specs.declared.types.TypeDeclaration.{TypeDeclaration}
use Rattle.ada_tree.specs.declared.types.Subtype.{Subtype}
use Rattle.ada_tree.specs.declared.types.Subtype.TheVariants as subtype
use Rattle.ada_tree.specs.Programs.{program_of}
use Rattle.ada_tree.specs.View.{owner_of, scalar_range_of}
use Rattle.ada_resolved.specs.Sizes.{array_size, type_size, with_component}

-- the sizes of a type in so many instances from one on
abbrev pub sizes_from : InstanceValues → type.Subtype → ℕ → ℕ → List (Option ℕ)
sizes_from v t zero i = []
sizes_from v t (suc n) i = type_size v i t ∷ sizes_from v t n (i + 1)

-- the row of a type of a program: instance 0, and each instance
abbrev pub row_of : Program → type.Subtype → List (Option ℕ)
row_of p t = sizes_from (values_of (program_of p)) t (length p.instances + 1) 0

abbrev pub table_of : Program → List type.Subtype → List (List (Option ℕ))
table_of p types = map (row_of p) types

-- what a row says of an instance; one that is none is like instance 0
abbrev pub entry_of : List (Option ℕ) → ℕ → Option ℕ
entry_of row i = unwrap_or (slice_get row i) (unwrap_or (slice_get row 0) None)

-- the size of the type with this number in an instance; no component, where there is none
abbrev pub numbered_size : List (List (Option ℕ)) → ℕ → ℕ → Option ℕ
numbered_size rows i n = unwrap_or (option_map (λ row. entry_of row i) (slice_get rows n)) (Some 0)

module _ (p : Program) (rows : List (List (Option ℕ))) (inst : ℕ) where
  -- the size of a subtype by the table so far
  abbrev pub subtype_size : Subtype → Option ℕ
  subtype_size (subtype.Scalar r) =
      option_map (λ b. 1) (static_bounds (values_of (program_of p)) inst (scalar_range_of r))
  subtype_size (subtype.Composite o n) = numbered_size rows (owner_in inst (owner_of o)) n

  -- those of components, behind so many words
  abbrev pub sum_behind : ℕ → List Subtype → Option ℕ
  sum_behind words [] = Some words
  sum_behind words (t ∷ ts) = option_and_then (λ m. sum_behind m ts) (with_component words (subtype_size t))

  abbrev pub composite_size : CompositeType → Option ℕ
  composite_size (composite.Array r t) =
      array_size (static_bounds (values_of (program_of p)) inst (scalar_range_of r)) (subtype_size t)
  composite_size (composite.Record ts) = sum_behind 0 ts

-- the sizes of a composite type in so many instances from one on, by the table so far
abbrev pub entries_from : Program → List (List (Option ℕ)) → CompositeType → ℕ → ℕ → List (Option ℕ)
entries_from p rows t zero i = []
entries_from p rows t (suc n) i = composite_size p rows i t ∷ entries_from p rows t n (i + 1)

abbrev pub entries_of : Program → List (List (Option ℕ)) → CompositeType → List (Option ℕ)
entries_of p rows t = entries_from p rows t (length p.instances + 1) 0

-- the rows of types behind others, each by those before it
abbrev pub rows_behind : Program → List (List (Option ℕ)) → List TypeDeclaration → List (List (Option ℕ))
rows_behind p rows [] = rows
rows_behind p rows (t ∷ ts) = rows_behind p (rows ++ entries_of p rows t.definition ∷ []) ts
