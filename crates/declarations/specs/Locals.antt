-- Objects that are declared in a subprogram, as the walk goes on.
use Rattle.std.specs.Prelude.{◌≡◌, ℕ, ◌+◌, List, [], ◌∷◌, ◌++◌, map, option_map}
use Rattle.cov_base.specs.declared.position.Pos.{Pos}
use Rattle.ada_syntax.specs.declared.name.Identifier.{Identifier}
use Rattle.ada_meaning.specs.Tree as tree
use Rattle.ada_tree.specs.Programs.{unfolded_declaration}
use Rattle.ada_tree.specs.View.{declaration_of}
use Rattle.ada_tree.specs.declared.statement.Declaration.{Declaration}
use Rattle.ada_tree.specs.declared.statement.NewValue.{NewValue}
use Rattle.ada_tree.specs.declared.types.Subtype.{Subtype as TreeSubtype}
use Rattle.ada_rules.specs.Types.{AdaSubtype, subtype_in_tree}
use Rattle.ada_rules.specs.Entities.{key, Entity, Region, redefined}
use Rattle.ada_rules.specs.Environment.{State, statement_label}
use Rattle.ada_rules.specs.Declarations.{object_entity, local_objects, with_objects, bare_declarations}
use Rattle.ada_entities.specs.Views.{subtype_of}
use Rattle.ada_entities.specs.EntityViews.{Tables, constant_of}
use Rattle.object_values.specs.Values.{value_in}
use Rattle.program_walk.specs.declared.counts.Counts.{Counts}
use Rattle.program_walk.specs.declared.walk.Walk.{Walk}
use Rattle.program_walk.specs.States.{types_in, subtype_there, with_counts, state_of}
use Rattle.declarations.specs.declared.objects.ObjectForm.{ObjectForm}
use Rattle.program_walk.specs.Going.{region_in}
use Rattle.program_walk.specs.Objects.{one_object}
use Rattle.program_walk.specs.Trees.{IsTree}

-- the subtype of objects, and what their names denote
abbrev pub subtype_in_form : Tables → ObjectForm → AdaSubtype
subtype_in_form k f = subtype_of k.types f.subtype

abbrev pub entity_in_form : Tables → ObjectForm → tree.Object → Entity
entity_in_form k f o = object_entity o f.constancy (subtype_in_form k f) (option_map constant_of f.known)

abbrev pub HasTree : Tables → ObjectForm → Type 0
HasTree k f = IsTree k f.subtype f.tree

-- one object more
pub record HasLocal (old new : Walk) (f : ObjectForm) (i : Identifier) (k : Tables) : Type 0 where
  pub region : region_in k new
      ≡ redefined (key i) (entity_in_form k f (tree.local_object old.counts.objects)) (region_in k old)
  pub number : new.counts.objects ≡ old.counts.objects + 1
  pub state : state_of k new ≡ one_object (subtype_in_form k f) i (state_of k old)

abbrev pub AddsLocal : (old new : Walk) → ObjectForm → Identifier → Type 0
AddsLocal old new f i = (k : Tables) → HasTree k f → HasLocal old new f i k

-- the objects of a list
abbrev pub locals_behind : Tables → Walk → ObjectForm → List Identifier → Region
locals_behind k w f is =
    local_objects f.constancy (subtype_in_form k f) (option_map constant_of f.known) w.counts.objects (region_in k w) is

abbrev pub locals_counted : Tables → Walk → ObjectForm → List Identifier → State
locals_counted k w f is = with_objects (subtype_in_form k f) is (state_of k w)

pub record HasLocals (old new : Walk) (f : ObjectForm) (is : List Identifier) (k : Tables) : Type 0 where
  pub region : region_in k new ≡ locals_behind k old f is
  pub state : state_of k new ≡ locals_counted k old f is

abbrev pub AddsLocals : (old new : Walk) → ObjectForm → List Identifier → Type 0
AddsLocals old new f is = (k : Tables) → HasTree k f → HasLocals old new f is k

-- the declarations of the typed program
abbrev pub made_of : Tables → List Declaration → List tree.Declaration
made_of k ds = map (unfolded_declaration (types_in k)) (map declaration_of ds)

abbrev pub MakesBare : (old new : List Declaration) → TreeSubtype → (first : ℕ) → List Identifier → Type 0
MakesBare old new x first is =
    (k : Tables) (t : AdaSubtype) → subtype_there k x ≡ subtype_in_tree t
    → made_of k new ≡ made_of k old ++ bare_declarations t first is

-- the declaration of objects with a value, whose label is the next
abbrev pub MakesSet : Counts → (old new : List Declaration) → Pos → NewValue → Type 0
MakesSet counts old new p v =
    (k : Tables) (s : State)
    → made_of k new ≡ made_of k old ++ tree.initialized (statement_label (with_counts counts s) p) counts.objects (value_in k.types v) ∷ []
