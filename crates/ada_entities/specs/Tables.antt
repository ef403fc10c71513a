-- The table of composite types: each is built of those before it.
use Rattle.std.specs.Prelude.{◌≡◌, ℕ, ◌+◌, Bool, true, false, ◌&&◌, List, [], ◌∷◌, ◌++◌, map, replicate, set, Option, Some, None, option_map}
use Rattle.std.specs.Borrow.{Bor}
use Rattle.std.specs.List.{list_all}
use Rattle.ada_rules.specs.ada_meaning.specs.Types.{Owner}
use Rattle.ada_rules.specs.Types.{AdaType, array_type, record_type, AdaSubtype, Fields, no_field, and_field}
use Rattle.ada_rules.specs.Entities.{Actual}
use Rattle.ada_rules.specs.Denoted.{field_among}
use Rattle.ada_entities.specs.declared.types.ScalarType.{ScalarType}
use Rattle.ada_entities.specs.declared.types.Subtype.{Subtype}
use Rattle.ada_entities.specs.declared.composite.Component.{Component}
use Rattle.ada_entities.specs.declared.composite.Definition.{Definition}
use Rattle.ada_entities.specs.declared.composite.Definition.TheVariants as definition
use Rattle.ada_entities.specs.Views.{Shape, array_shape, record_shape, TypeTables, is_made, subtype_of, subtype_by, given_of, is_known}

abbrev pub fields_of : TypeTables → List Component → Fields
fields_of k [] = no_field
fields_of k (c ∷ cs) = and_field c.name (subtype_of k c.subtype) (fields_of k cs)

abbrev pub shape_of : TypeTables → Definition → Shape
shape_of k (definition.Array x c) = array_shape (subtype_of k x) (subtype_of k c)
shape_of k (definition.Record cs) = record_shape (fields_of k cs)

abbrev pub tables_with : List (Option (List Actual)) → List Shape → TypeTables
tables_with instances shapes = record { shapes = shapes; instances = instances }

-- composite types behind others, each built of those before it
abbrev pub shapes_behind : List (Option (List Actual)) → List Shape → List Definition → List Shape
shapes_behind instances shapes [] = shapes
shapes_behind instances shapes (d ∷ ds) =
    shapes_behind instances (shapes ++ shape_of (tables_with instances shapes) d ∷ []) ds

abbrev pub instances_of : List (Option (List (Option ScalarType))) → List (Option (List Actual))
instances_of given = map (option_map (map given_of)) given

abbrev pub tables_of : List (Option (List (Option ScalarType))) → List Definition → TypeTables
tables_of given ds = tables_with (instances_of given) (shapes_behind (instances_of given) [] ds)

-- whether a definition leads only to this many types, and to instances that were made
abbrev pub are_known : (types : ℕ) (made : ℕ → Bool) → List Component → Bool
are_known n made cs = list_all (λ c. is_known n made c.subtype.of) cs

abbrev pub is_earlier : (made : ℕ → Bool) (types : ℕ) → Definition → Bool
is_earlier made n (definition.Array x c) = is_known n made x.of && is_known n made c.of
is_earlier made n (definition.Record cs) = are_known n made cs

abbrev pub are_earlier : (made : ℕ → Bool) (types : ℕ) → List Definition → Bool
are_earlier made n [] = true
are_earlier made n (d ∷ ds) = is_earlier made n d && are_earlier made (n + 1) ds

-- the definitions that a table holds, each built of types that stand before it
pub record AreDefinitions (k : TypeTables) (ds : List Definition) : Type 0 where
  pub given : List (Option (List (Option ScalarType)))
  pub are : k ≡ tables_of given ds
  pub earlier : are_earlier (is_made given) 0 ds ≡ true

-- the subtypes of the index and of the components of an array (RM 3.6)
abbrev pub array_parts : AdaType → Option (AdaSubtype × AdaSubtype)
array_parts (array_type i x c) = Some (x, c)
array_parts t = None

abbrev pub parts_of : TypeTables → Subtype × Subtype → AdaSubtype × AdaSubtype
parts_of k p = (subtype_of k p.0, subtype_of k p.1)

-- the component of a record with this name, and its place (RM 4.1.3)
abbrev pub field_in : List ℕ → AdaType → Option (ℕ × AdaSubtype)
field_in name (record_type i fs) = field_among name 0 fs
field_in name t = None

abbrev pub field_of : TypeTables → ℕ × Subtype → ℕ × AdaSubtype
field_of k f = (f.0, subtype_of k f.1)

-- without types, and with instance 0 alone, where there is place for so many others
abbrev pub no_tables : ℕ → TypeTables
no_tables n = tables_with (Some [] ∷ replicate n None) []

abbrev pub with_shape : TypeTables → Shape → TypeTables
with_shape k s = record k { shapes = k.shapes ++ s ∷ [] }

-- whether there is a place at which none was made
abbrev pub is_vacant : {A : Type 0} → Option (Option A) → Bool
is_vacant None = false
is_vacant (Some None) = true
is_vacant (Some (Some x)) = false

-- one more instance
abbrev pub with_instance : TypeTables → ℕ → List Actual → TypeTables
with_instance k n actuals = record k { instances = set k.instances n (Some actuals) }

-- where there may be no definition: then there is a record without components
abbrev pub shape_from : TypeTables → Option (Bor Definition) → Shape
shape_from k None = record_shape no_field
shape_from k (Some d) = shape_of k d.now

abbrev pub shape_parts : Shape → Option (AdaSubtype × AdaSubtype)
shape_parts (array_shape x c) = Some (x, c)
shape_parts (record_shape fs) = None

abbrev pub shape_fields : Shape → Fields
shape_fields (array_shape x c) = no_field
shape_fields (record_shape fs) = fs

-- parts of a composite type as the type is seen
abbrev pub seen_parts : TypeTables → Owner → AdaSubtype × AdaSubtype → AdaSubtype × AdaSubtype
seen_parts k o p = (subtype_by k o p.0, subtype_by k o p.1)

abbrev pub seen_field : TypeTables → Owner → ℕ × AdaSubtype → ℕ × AdaSubtype
seen_field k o f = (f.0, subtype_by k o f.1)

-- parts that are those of a definition as its type is seen
abbrev pub AreSeenParts : TypeTables → Owner → (own seen : Option (Subtype × Subtype)) → Type 0
AreSeenParts k o own seen = option_map (parts_of k) seen ≡ option_map (seen_parts k o) (option_map (parts_of k) own)

abbrev pub IsSeenField : TypeTables → Owner → (own seen : Option (ℕ × Subtype)) → Type 0
IsSeenField k o own seen = option_map (field_of k) seen ≡ option_map (seen_field k o) (option_map (field_of k) own)
