-- Objects that are declared at the library level, as the walk goes on.
use Rattle.std.specs.Prelude.{◌≡◌, ◌+◌, List, option_map}
use Rattle.ada_syntax.specs.declared.name.Identifier.{Identifier}
use Rattle.ada_meaning.specs.Tree as tree
use Rattle.ada_tree.specs.declared.program.Initial.{Initial}
use Rattle.ada_tree.specs.Programs.{initial_of}
use Rattle.ada_rules.specs.Entities.{key, Entity, Region, redefined}
use Rattle.ada_rules.specs.Environment.{State, Env, owner_of}
use Rattle.ada_rules.specs.Declarations.{library_entities, with_library_objects}
use Rattle.ada_entities.specs.EntityViews.{Tables, constant_of}
use Rattle.program_walk.specs.declared.context.Context.{Context}
use Rattle.program_walk.specs.declared.walk.Walk.{Walk}
use Rattle.program_walk.specs.States.{state_of}
use Rattle.declarations.specs.declared.objects.ObjectForm.{ObjectForm}
use Rattle.program_walk.specs.Contexts.{IsIn}
use Rattle.program_walk.specs.Going.{region_in}
use Rattle.program_walk.specs.Objects.{one_library_object}
use Rattle.declarations.specs.Locals.{subtype_in_form, entity_in_form, HasTree}

-- one object more
abbrev pub entity_next : Tables → Env → Walk → ObjectForm → Entity
entity_next k env w f = entity_in_form k f (tree.library_object (owner_of env) w.counts.library_objects)

pub record HasObject (old new : Walk) (f : ObjectForm) (v : Initial) (i : Identifier) (k : Tables) (env : Env)
    : Type 0 where
  pub region : region_in k new ≡ redefined (key i) (entity_next k env old f) (region_in k old)
  pub number : new.counts.library_objects ≡ old.counts.library_objects + 1
  pub state : state_of k new ≡ one_library_object env (subtype_in_form k f) (initial_of v) (state_of k old)

abbrev pub AddsObject : Context → (old new : Walk) → ObjectForm → Initial → Identifier → Type 0
AddsObject c old new f v i = (k : Tables) (env : Env) → IsIn c env → HasTree k f → HasObject old new f v i k env

-- the objects of a list
abbrev pub objects_behind : Tables → Env → Walk → ObjectForm → List Identifier → Region
objects_behind k env w f is =
    library_entities env f.constancy (subtype_in_form k f) (option_map constant_of f.known) w.counts.library_objects
    (region_in k w) is

abbrev pub objects_counted : Tables → Env → Walk → ObjectForm → Initial → List Identifier → State
objects_counted k env w f v is = with_library_objects env (subtype_in_form k f) (initial_of v) is (state_of k w)

pub record HasObjects (old new : Walk) (f : ObjectForm) (v : Initial) (is : List Identifier) (k : Tables) (env : Env)
    : Type 0 where
  pub region : region_in k new ≡ objects_behind k env old f is
  pub state : state_of k new ≡ objects_counted k env old f v is

abbrev pub AddsObjects : Context → (old new : Walk) → ObjectForm → Initial → List Identifier → Type 0
AddsObjects c old new f v is = (k : Tables) (env : Env) → IsIn c env → HasTree k f → HasObjects old new f v is k env
