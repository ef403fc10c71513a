-- Parameters as objects of their subprogram, as the walk goes on.
use Rattle.std.specs.Prelude.{◌≡◌, ℕ, ◌+◌, List, ◌++◌}
use Rattle.ada_syntax.specs.declared.name.Identifier.{Identifier}
use Rattle.ada_meaning.specs.Program as program
use Rattle.ada_meaning.specs.Types.{here}
use Rattle.ada_tree.specs.Programs.{mode_of}
use Rattle.ada_rules.specs.Types.{AdaSubtype}
use Rattle.ada_rules.specs.Entities.{key, Entity, Region, redefined}
use Rattle.ada_rules.specs.Environment.{State}
use Rattle.ada_rules.specs.Expressions as rules
use Rattle.ada_rules.specs.Declarations.{with_objects}
use Rattle.ada_rules.specs.Subprograms.{parameter_entity, parameters_for, parameter_objects, limited}
use Rattle.ada_entities.specs.Views.{subtype_of}
use Rattle.ada_entities.specs.EntityViews.{Tables}
use Rattle.ada_entities.specs.declared.routines.Parameter.{Parameter}
use Rattle.ada_phrases.specs.declared.decisions.Decisions.{Decisions}
use Rattle.ada_phrases.specs.Answers.{counted}
use Rattle.program_walk.specs.Marks.{marked_of}
use Rattle.specifications.specs.Profiles.{parameters_of}
use Rattle.program_walk.specs.declared.walk.Walk.{Walk}
use Rattle.program_walk.specs.States.{state_of}
use Rattle.program_walk.specs.Going.{region_in}
use Rattle.program_walk.specs.Objects.{one_object}
use Rattle.program_walk.specs.Trees.{IsTree}
use Rattle.specifications.specs.declared.objects.ParameterForm.{ParameterForm}

-- the mode and the mark of parameters, and what their names denote
abbrev pub mode_in_form : ParameterForm → program.Mode
mode_in_form f = mode_of f.mode

abbrev pub mark_in_form : Tables → ParameterForm → rules.Marked
mark_in_form k f = marked_of k f.marked

abbrev pub subtype_in_form : Tables → ParameterForm → AdaSubtype
subtype_in_form k f = subtype_of k.types f.marked.subtype

abbrev pub entity_in_form : Tables → ParameterForm → ℕ → Entity
entity_in_form k f n = parameter_entity n (mode_in_form f) (subtype_in_form k f)

abbrev pub HasTree : Tables → ParameterForm → Type 0
HasTree k f = IsTree k f.marked.subtype f.tree

-- one parameter more
pub record HasObject (old new : Walk) (f : ParameterForm) (i : Identifier) (k : Tables) : Type 0 where
  pub region : region_in k new ≡ redefined (key i) (entity_in_form k f old.counts.objects) (region_in k old)
  pub number : new.counts.objects ≡ old.counts.objects + 1
  pub state : state_of k new ≡ one_object (subtype_in_form k f) i (state_of k old)

abbrev pub AddsObject : (old new : Walk) → ParameterForm → Identifier → Type 0
AddsObject old new f i = (k : Tables) → HasTree k f → HasObject old new f i k

-- those of a list
abbrev pub objects_behind : Tables → Walk → ParameterForm → List Identifier → Region
objects_behind k w f is = parameter_objects (mode_in_form f) (subtype_in_form k f) w.counts.objects (region_in k w) is

abbrev pub objects_counted : Tables → Walk → ParameterForm → List Identifier → State
objects_counted k w f is = with_objects (subtype_in_form k f) is (state_of k w)

pub record HasObjects (old new : Walk) (f : ParameterForm) (is : List Identifier) (k : Tables) : Type 0 where
  pub region : region_in k new ≡ objects_behind k old f is
  pub state : state_of k new ≡ objects_counted k old f is

abbrev pub AddsObjects : (old new : Walk) → ParameterForm → List Identifier → Type 0
AddsObjects old new f is = (k : Tables) → HasTree k f → HasObjects old new f is k

-- the first parameter beyond the limit, among those with numbers from this one on
abbrev pub NotesLimit : (old new : Decisions) → (first : ℕ) → List Identifier → Type 0
NotesLimit old new first is = (s : State) → counted new s ≡ limited first is (counted old s)

-- the parameters of a profile
abbrev pub AddsNamed : (old new : List Parameter) → ParameterForm → List Identifier → Type 0
AddsNamed old new f is =
    (k : Tables)
    → parameters_of k here new ≡ parameters_of k here old ++ parameters_for (mode_in_form f) (mark_in_form k f) is
