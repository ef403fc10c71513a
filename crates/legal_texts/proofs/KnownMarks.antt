-- Where all that may be named is known in an instance, names lead to marks of known subtypes.
use Rattle.std.proofs.Common.{ℕ, Option, Some, None, IfSome}
use Rattle.ada_meaning.specs.Program.{Program}
use Rattle.ada_meaning.specs.Shape.{Shape}
use Rattle.ada_meaning.specs.Tree as tree
use Rattle.ada_rules.specs.Types.{Identity, AdaType, AdaSubtype}
use Rattle.ada_rules.specs.Entities.{Entity, hidden, mark, literal, object, formal_object, routine, raisable, component, test_io, unit, Region, entity_of}
use Rattle.ada_rules.specs.Environment.{Env, regions_of, interface_of}
use Rattle.ada_rules.specs.Expressions.{part_of_interface}
use Rattle.legal_laws.specs.Known.{IsKnownSubtype, IsEntity, IsRegion, IsEnv}
use Rattle.legal_laws.proofs.Passing.{every_so}
use Rattle.legal_texts.specs.Leading.{lead_of}
use Rattle.legal_texts.proofs.MarkedNames.{IsMarked, IsMarkedEntity, IsMarkedRegion, IsMarkedPlace}
use Rattle.legal_texts.proofs.UnitParts.{entity_so}

module _ (p : Program) (inst : ℕ) (types : AdaType → Type 0) (shape_of : tree.Object → Shape) (Sees : tree.Object → Type 0) where
  abbrev pub IsKnown : Identity → AdaSubtype → Type 0
  IsKnown i t = IsKnownSubtype p inst types t

  abbrev Known : Entity → Type 0
  Known x = IsEntity p inst types shape_of Sees x

  mark_of : (x : Entity) → Known x → IsMarkedEntity IsKnown x
  mark_of hidden h = tt
  mark_of (mark i t) h = h
  mark_of (literal t x) h = tt
  mark_of (object v) h = tt
  mark_of (formal_object t e) h = tt
  mark_of (routine r) h = tt
  mark_of (raisable e) h = tt
  mark_of component h = tt
  mark_of test_io h = tt
  mark_of (unit n) h = tt

  marks_of : (region : Region) → IsRegion p inst types shape_of Sees region → IsMarkedRegion IsKnown region
  marks_of region h = every_so (λ e. Known e.1) (λ e. IsMarkedEntity IsKnown e.1) region (λ e k. mark_of e.1 k) h

  lead_if : (o : Option Entity) → IfSome o Known → IsMarked IsKnown (lead_of o)
  lead_if None h = tt
  lead_if (Some hidden) h = tt
  lead_if (Some (mark i t)) h = h
  lead_if (Some (literal t x)) h = tt
  lead_if (Some (object v)) h = tt
  lead_if (Some (formal_object t e)) h = tt
  lead_if (Some (routine r)) h = tt
  lead_if (Some (raisable e)) h = tt
  lead_if (Some component) h = tt
  lead_if (Some test_io) h = tt
  lead_if (Some (unit n)) h = tt

  pub known_place : (env : Env) → IsEnv p inst types shape_of Sees env → IsMarkedPlace IsKnown env
  known_place env is = record {
    step = is.step;
    regions = every_so (IsRegion p inst types shape_of Sees) (IsMarkedRegion IsKnown) (regions_of env) marks_of is.regions;
    own = marks_of env.own is.own;
    units = λ n name. lead_if (part_of_interface env.world name (interface_of env.world n)) (is.units n name);
    test_io = λ name. lead_if (entity_of name env.world.standard.test_io_declarations)
        (entity_so Known name env.world.standard.test_io_declarations is.test_io);
  }
