-- What declarations take of the context that they stand in.
use Rattle.std.specs.Prelude.{◌≡◌}
use Rattle.ada_rules.specs.Environment.{Env}
use Rattle.ada_phrases.specs.Scopes.{step_of}
use Rattle.program_walk.specs.declared.context.Context.{Context}
use Rattle.program_walk.specs.Walks.{is_library}

pub record IsIn (c : Context) (env : Env) : Type 0 where
  pub step : env.step ≡ step_of c.step
  pub instances : env.world.instances ≡ c.instances.now
  pub generic : env.generic ≡ c.generic
  pub unit_number : env.unit_number ≡ c.unit
  pub unit_name : env.unit_name ≡ c.unit_name.now
  pub subprogram_name : env.subprogram_name ≡ c.subprogram_name.now
  pub level : env.is_library ≡ is_library c.level
