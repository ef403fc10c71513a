-- What is known outside subprograms in an instance is known there in the text of each subprogram, where regions declare whole objects.
use Rattle.std.proofs.Common.{◌≡◌, ℕ, List, Option, Some, None, IfSome, refl, sym, ap, ◌∙◌, subst}
use Rattle.std.specs.Prelude.{[], ◌∷◌}
use Rattle.cov_base.specs.Lists.{Everywhere}
use Rattle.ada_meaning.specs.Declared.{object_shape}
use Rattle.ada_meaning.specs.Program.{Subprogram, Program}
use Rattle.ada_meaning.specs.Tree as tree
use Rattle.ada_meaning.specs.WellFormed.{StartSees, AreParts, part_shape}
use Rattle.ada_rules.specs.Types.{AdaType}
use Rattle.ada_rules.specs.Entities.{Variable, Entity, hidden, mark, literal, object, formal_object, routine, raisable, component, test_io, unit, Region}
use Rattle.ada_rules.specs.Environment.{State, Env, regions_of, interface_of, opened}
use Rattle.ada_rules.specs.Expressions.{part_of_interface}
use Rattle.legal_laws.specs.Known.{IsVariable, IsEntity, IsRegion}
use Rattle.legal_laws.specs.Standing.{Stands}
use Rattle.legal_programs.specs.Deciding.{IsWhole, IsWholeRegion, IsWholeEnv}
use Rattle.legal_texts.proofs.PackageItems.{no_subprogram}

module _ (p : Program) (inst : ℕ) (types : AdaType → Type 0) (sub : Subprogram) where
  abbrev Outside : Entity → Type 0
  Outside x = IsEntity p inst types (object_shape p inst no_subprogram) (StartSees p inst no_subprogram) x

  abbrev There : Entity → Type 0
  There x = IsEntity p inst types (object_shape p inst sub) (StartSees p inst sub) x

  seen_there : (o : tree.Object) → StartSees p inst no_subprogram o → StartSees p inst sub o
  seen_there (tree.library_object o d) h = h
  seen_there (tree.local_object d) h = absurd h

  shaped_there : (o : tree.Object) → StartSees p inst no_subprogram o → object_shape p inst no_subprogram o ≡ object_shape p inst sub o
  shaped_there (tree.library_object o d) h = refl
  shaped_there (tree.local_object d) h = absurd h

  variable_there : (v : Variable) → v.parts ≡ tree.whole → IsVariable p inst types (object_shape p inst no_subprogram) (StartSees p inst no_subprogram) v
      → IsVariable p inst types (object_shape p inst sub) (StartSees p inst sub) v
  variable_there v whole h = record {
    visible = seen_there v.object h.visible;
    parts = subst (λ q. AreParts p inst (object_shape p inst sub) (StartSees p inst sub) (object_shape p inst sub v.object) q) (sym whole) tt;
    shape = ap (λ s. part_shape s v.parts) (sym (shaped_there v.object h.visible)) ∙ h.shape;
    subtype = h.subtype;
  }

  entity_there : (x : Entity) → IsWhole x → Outside x → There x
  entity_there hidden whole h = tt
  entity_there (mark i t) whole h = h
  entity_there (literal t x) whole h = h
  entity_there (object v) whole h = variable_there v whole h
  entity_there (formal_object t e) whole h = h
  entity_there (routine r) whole h = h
  entity_there (raisable e) whole h = h
  entity_there component whole h = tt
  entity_there test_io whole h = tt
  entity_there (unit n) whole h = tt

  pub some_there : (o : Option Entity) → IfSome o IsWhole → IfSome o Outside → IfSome o There
  some_there None whole h = tt
  some_there (Some x) whole h = entity_there x whole h

  region_there : (region : Region) → IsWholeRegion region → IsRegion p inst types (object_shape p inst no_subprogram) (StartSees p inst no_subprogram) region
      → IsRegion p inst types (object_shape p inst sub) (StartSees p inst sub) region
  region_there [] whole h = tt
  region_there (e ∷ es) whole h = (entity_there e.1 whole.0 h.0, region_there es whole.1 h.1)

  regions_there : (rs : List Region) → Everywhere IsWholeRegion rs → Everywhere (IsRegion p inst types (object_shape p inst no_subprogram) (StartSees p inst no_subprogram)) rs
      → Everywhere (IsRegion p inst types (object_shape p inst sub) (StartSees p inst sub)) rs
  regions_there [] whole h = tt
  regions_there (r ∷ rs) whole h = (region_there r whole.0 h.0, regions_there rs whole.1 h.1)

  -- where a body stands in a package
  pub opened_there : (env : Env) (s : State) → IsWholeEnv env → Stands p inst (object_shape p inst no_subprogram) types (StartSees p inst no_subprogram) env s
      → Stands p inst (object_shape p inst sub) types (StartSees p inst sub) (opened env) s
  opened_there env s whole st = record {
    place = record {
      step = st.place.step;
      integers = st.place.integers;
      booleans = st.place.booleans;
      regions = (tt, regions_there (regions_of env) whole.regions st.place.regions);
      own = region_there env.own whole.own st.place.own;
      units = λ n name. some_there (part_of_interface env.world name (interface_of env.world n)) (whole.units n name) (st.place.units n name);
      test_io = region_there env.world.standard.test_io_declarations whole.test_io st.place.test_io;
    };
    world = st.world;
    apart = st.apart;
    older = st.older;
    counted = st.counted;
    alone = st.alone;
  }
