-- What a typed program has to be, beside well-formed, so that a kernel can be laid out for it: composite types are named where they stand, and
-- it is within the limits on words and nodes. The rules of the language ensure it.
use Rattle.std.specs.Prelude.{◌≡◌, ℕ, ◌+◌, ◌<◌, ◌≤◌, List, [], ◌∷◌, length, map, take, Option, Some, None, slice_get}
use Rattle.std.specs.Option.{IfSome}
use Rattle.cov_base.specs.Lists.{Everywhere}
use Rattle.ada_meaning.specs.Bodies.{StandsIn}
use Rattle.ada_meaning.specs.Resolved.{owner_in}
use Rattle.ada_meaning.specs.Statics.{values_of}
use Rattle.ada_tree.specs.declared.program.Program.{Program}
use Rattle.ada_tree.specs.declared.program.Subprogram.{Subprogram}
use Rattle.ada_tree.specs.declared.types.CompositeType.{CompositeType}
use Rattle.ada_tree.specs.declared.types.CompositeType.TheVariants as composite
use Rattle.ada_tree.specs.declared.types.Subtype.{Subtype}
use Rattle.ada_tree.specs.declared.types.Subtype.TheVariants as subtype
use Rattle.ada_tree.specs.declared.types.TypeDeclaration.{TypeDeclaration}
use Rattle.ada_tree.specs.Programs.{program_of, types_of, unfolded}
use Rattle.ada_tree.specs.View.{owner_of}
use Rattle.ada_tree.specs.View as view
use Rattle.ada_resolved.specs.Forms.{named_type, shape_of}
use Rattle.ada_resolved.specs.Library.{program_size}
use Rattle.ada_resolved.specs.Sizes.{type_size, words}
use Rattle.statement_code.specs.Sizes.{block_nodes}

-- a type that a text names in an instance: a scalar one, or one of those before a number that stands in its owner's instance
abbrev pub IsNamed : Program → (inst below : ℕ) → Subtype → Type 0
IsNamed p inst below (subtype.Scalar r) = Unit {0}
IsNamed p inst below (subtype.Composite o n) =
    (n < below) × IfSome (slice_get p.types n) (λ t. StandsIn (program_of p) t.generic (owner_in inst (owner_of o)))

-- the types of the components of a type
abbrev pub components_of : CompositeType → List Subtype
components_of (composite.Array r t) = t ∷ []
components_of (composite.Record ts) = ts

-- each type is built of types before it that stand in its instances
abbrev pub AreTypesBuilt : Program → Type 0
AreTypesBuilt p = (n inst : ℕ) (t : TypeDeclaration) → slice_get p.types n ≡ Some t → StandsIn (program_of p) t.generic inst
    → Everywhere (IsNamed p inst n) (components_of t.definition)

-- so are the objects of each body; those of a subprogram begin with its parameters
pub record AreTypesNamed (p : Program) : Type 0 where
  pub types : AreTypesBuilt p
  pub objects : (m inst : ℕ) (s : Subprogram) → slice_get p.subprograms m ≡ Some s → StandsIn (program_of p) s.generic inst
      → Everywhere (IsNamed p inst (length p.types)) s.objects
  pub parameters : (m : ℕ) (s : Subprogram) → slice_get p.subprograms m ≡ Some s
      → map (λ q. q.subtype) s.parameters ≡ take (length s.parameters) s.objects

-- there is a size
abbrev pub IsSized : Option ℕ → Type 0
IsSized None = ⊥
IsSized (Some n) = Unit {0}

abbrev pub size_of : Program → (inst : ℕ) → Subtype → Option ℕ
size_of p inst t = type_size (values_of (program_of p)) inst (unfolded (types_of p.types) (view.subtype_of t))

-- the words of objects
abbrev pub words_of_objects : Program → (inst : ℕ) → List Subtype → ℕ
words_of_objects p inst [] = 0
words_of_objects p inst (t ∷ ts) = words (shape_of p (named_type p inst t)) + words_of_objects p inst ts

-- the most words of a body's objects, and the most nodes of a body
abbrev pub most_declared_words : ℕ
most_declared_words = 2048

abbrev pub most_nodes : ℕ
most_nodes = 4096

-- a program within the limits on declared words, in each copy, and on nodes
pub record IsWithinLimits (p : Program) : Type 0 where
  pub sized : (m inst : ℕ) (s : Subprogram) → slice_get p.subprograms m ≡ Some s → StandsIn (program_of p) s.generic inst
      → Everywhere (λ t. IsSized (size_of p inst t)) s.objects
  pub declared : (m inst : ℕ) (s : Subprogram) → slice_get p.subprograms m ≡ Some s → StandsIn (program_of p) s.generic inst
      → words_of_objects p inst s.objects ≤ most_declared_words
  pub library : IsSized (program_size (program_of p))
  -- a body of which there is no copy may be of any size
  pub nodes : (m inst : ℕ) (s : Subprogram) → slice_get p.subprograms m ≡ Some s → StandsIn (program_of p) s.generic inst
      → block_nodes s.body ≤ most_nodes
  pub exceptions : length p.exceptions ≤ most_nodes
