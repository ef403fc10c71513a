-- Library subprograms, as the checker keeps them.
use Rattle.std.specs.Prelude.{◌≡◌, ℕ, unwrap_or}
use Rattle.ada_syntax.specs.declared.name.Identifier.{Identifier}
use Rattle.ada_rules.specs.Entities.{key}
use Rattle.ada_rules.specs.Environment.{Env}
use Rattle.ada_rules.specs.Subprograms.{body_number}
use Rattle.program_walk.specs.declared.context.Context.{Context}
use Rattle.program_walk.specs.Walks.{HasLibrary}

-- the number of a body of the unit, or the first
abbrev pub IsBodyOrFirst : Context → Identifier → ℕ → Type 0
IsBodyOrFirst c i n =
    (env : Env) → HasLibrary c.library.now env.world → env.unit_name ≡ c.unit_name.now
    → n ≡ unwrap_or (body_number env.world env.unit_name (key i)) 0
