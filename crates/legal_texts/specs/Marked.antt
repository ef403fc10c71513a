-- Marks that names may lead to, in a place: what holds of each (Ada RM 2012, 3.2.2, 8.3).
use Rattle.std.specs.Prelude.{◌≡◌, ℕ, List, Option, Some}
use Rattle.cov_base.specs.Lists.{Everywhere}
use Rattle.ada_rules.specs.Denoted.{Denoted, a_mark}
use Rattle.ada_rules.specs.Entities.{Entity, Region, entity_of, shown}
use Rattle.ada_rules.specs.Environment.{typing, Env, regions_of, interface_of}
use Rattle.ada_rules.specs.Expressions.{part_of_interface}
use Rattle.ada_rules.specs.Types.{Identity, AdaSubtype}
use Rattle.legal_texts.specs.Leading.{lead_of}

module _ (P : Identity → AdaSubtype → Type 0) where
  abbrev pub IsMarked : Option Denoted → Type 0
  IsMarked (Some (a_mark i t)) = P i t
  IsMarked o = Unit {0}

  abbrev pub IsMarkedEntity : Entity → Type 0
  IsMarkedEntity x = IsMarked (lead_of (shown (Some x)))

  abbrev pub IsMarkedRegion : Region → Type 0
  IsMarkedRegion region = Everywhere (λ e. IsMarkedEntity e.1) region

  -- those of a place in the step of types
  pub record IsMarkedPlace (env : Env) : Type 0 where
    pub step : env.step ≡ typing
    pub regions : Everywhere IsMarkedRegion (regions_of env)
    pub own : IsMarkedRegion env.own
    pub units : (n : ℕ) (name : List ℕ)
        → IsMarked (lead_of (part_of_interface env.world name (interface_of env.world n)))
    pub test_io : (name : List ℕ) → IsMarked (lead_of (entity_of name env.world.standard.test_io_declarations))
