-- The shape of a type that has a size is the one it is meant to have.
use Rattle.std.proofs.Common.{◌≡◌, ℕ, zero, suc, ◌+◌, ◌<◌, List, [], ◌∷◌, ◌++◌, length, Option, Some, None, slice_get, refl, ap, subst, ◌∙◌, arith, length-append}
use Rattle.std.specs.Prelude.{take}
use Rattle.std.proofs.lemmas.List.{take_all}
use Rattle.std.specs.Option.{IfSome}
use Rattle.cov_base.specs.Lists.{Everywhere}
use Rattle.ada_meaning.specs.Resolved.{owner_in, shape_in}
use Rattle.ada_meaning.specs.Shape.{Shape, group, no_shape}
use Rattle.ada_meaning.specs.Statics.{values_of}
use Rattle.ada_meaning.specs.Types as type
use Rattle.ada_tree.specs.declared.program.Program.{Program}
use Rattle.ada_tree.specs.declared.types.CompositeType.{CompositeType}
use Rattle.ada_tree.specs.declared.types.CompositeType.TheVariants as composite
use Rattle.ada_tree.specs.declared.types.Owner.{Owner}
use Rattle.ada_tree.specs.declared.types.Subtype.{Subtype}
use Rattle.ada_tree.specs.declared.types.Subtype.TheVariants as subtype
use Rattle.ada_tree.specs.declared.types.TypeDeclaration.{TypeDeclaration}
use Rattle.ada_tree.specs.Programs.{program_of, types_behind, types_of, unfolded}
use Rattle.ada_tree.specs.View.{composite_of, numbered, owner_of}
use Rattle.ada_tree.specs.View as view
use Rattle.ada_resolved.specs.Forms.{sized, known_shape, named_type, shape_of, type_of}
use Rattle.ada_resolved.specs.Sizes.{type_size}
use Rattle.ada_resolved.proofs.TypeForms.{numbered_shape, named_before}
use Rattle.statement_code.specs.Values.{IsComposite}
use Rattle.lower.specs.Standing.{IsSized, size_of}

table_length : (types : List type.Subtype) (ts : List TypeDeclaration) → length (types_behind types ts) ≡ length types + length ts
table_length types [] = omega arith
table_length types (t ∷ ts) =
    let next = types ++ unfolded types (composite_of t.definition) ∷ [] in
    let grown : length next ≡ length types + 1 = length-append types (unfolded types (composite_of t.definition) ∷ []) in
    omega (arith, table_length next ts, grown)

module _ (p : Program) where
  -- the type that a subtype names, where all types of the table stand before it
  abbrev pub meant : Subtype → type.Subtype
  meant t = unfolded (types_of p.types) (view.subtype_of t)

  whole_table : take (length p.types) (types_of p.types) ≡ types_of p.types
  whole_table = take_all (length p.types) (types_of p.types) (omega (arith, table_length [] p.types))

  pub named_type_is : (inst : ℕ) (t : Subtype) → type_of p (named_type p inst t) ≡ meant t
  named_type_is inst t = ap (λ types. unfolded types (view.subtype_of t)) whole_table

  with_size : (o : Option ℕ) (s : Shape) → IsSized o → sized o s ≡ s
  with_size None s has = absurd has
  with_size (Some n) s has = refl

  pub named_shape : (inst : ℕ) (t : Subtype) → IsSized (size_of p inst t) → shape_of p (named_type p inst t) ≡ shape_in (program_of p) inst (meant t)
  named_shape inst t has =
      ap (known_shape (program_of p) inst) (named_type_is inst t) ∙ with_size (type_size (values_of (program_of p)) inst (meant t)) (shape_in (program_of p) inst (meant t)) has

-- a type of the table is an array or a record
abbrev IsBuilt : type.Subtype → Type 0
IsBuilt (type.scalar r) = ⊥
IsBuilt (type.array r t) = Unit {0}
IsBuilt (type.fields cs) = Unit {0}
IsBuilt (type.subtype_of i t) = ⊥

definition_built : (types : List type.Subtype) (d : CompositeType) → IsBuilt (unfolded types (composite_of d))
definition_built types (composite.Array r t) = tt
definition_built types (composite.Record ts) = tt

with_last : (types : List type.Subtype) (t : type.Subtype) → Everywhere IsBuilt types → IsBuilt t → Everywhere IsBuilt (types ++ t ∷ [])
with_last [] t all here = (here, tt)
with_last (u ∷ types) t all here = (all.0, with_last types t all.1 here)

table_built : (types : List type.Subtype) (ts : List TypeDeclaration) → Everywhere IsBuilt types → Everywhere IsBuilt (types_behind types ts)
table_built types [] all = all
table_built types (t ∷ ts) all =
    let next = unfolded types (composite_of t.definition) in
    table_built (types ++ next ∷ []) ts (with_last types next all (definition_built types t.definition))

found_built : (types : List type.Subtype) (n : ℕ) → Everywhere IsBuilt types → IfSome (slice_get types n) IsBuilt
found_built [] n all = tt
found_built (t ∷ types) zero all = all.0
found_built (t ∷ types) (suc n) all = found_built types n all.1

module _ (p : Program) where
  sized_composite : (o : Option ℕ) (s : Shape) → IsComposite s → IsComposite (sized o s)
  sized_composite None s is = tt
  sized_composite (Some n) s is = is

  built_composite : (inst n : ℕ) (o : Option type.Subtype) → IfSome o IsBuilt → IsComposite (numbered_shape p inst n o)
  built_composite inst n None is = sized_composite (type_size (values_of (program_of p)) inst (numbered n)) (group no_shape) tt
  built_composite inst n (Some (type.scalar r)) is = absurd is
  built_composite inst n (Some (type.array r t)) is =
      sized_composite (type_size (values_of (program_of p)) inst (type.array r t)) (shape_in (program_of p) inst (type.array r t)) tt
  built_composite inst n (Some (type.fields cs)) is =
      sized_composite (type_size (values_of (program_of p)) inst (type.fields cs)) (shape_in (program_of p) inst (type.fields cs)) tt
  built_composite inst n (Some (type.subtype_of i t)) is = absurd is

  -- objects of it are composite
  pub composite_shape : (inst : ℕ) (o : Owner) (n : ℕ) → n < length p.types → IsComposite (shape_of p (named_type p inst (subtype.Composite o n)))
  composite_shape inst o n less =
      subst IsComposite (named_before p inst (length p.types) o n less)
      (built_composite (owner_in inst (owner_of o)) n (slice_get (types_of p.types) n) (found_built (types_of p.types) n (table_built [] p.types tt)))
