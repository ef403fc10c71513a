-- The identity of a type that is declared next.
use Rattle.std.specs.Prelude.{◌≡◌}
use Rattle.ada_rules.specs.Environment.{State, Env, new_identity}
use Rattle.ada_entities.specs.declared.types.Identity.{Identity}
use Rattle.ada_entities.specs.Views.{identity_of}
use Rattle.program_walk.specs.declared.context.Context.{Context}
use Rattle.program_walk.specs.declared.counts.Counts.{Counts}
use Rattle.program_walk.specs.Contexts.{IsIn}

abbrev pub IsNewIdentity : Context → Counts → Identity → Type 0
IsNewIdentity c counts i =
    (env : Env) (s : State) → IsIn c env → s.types ≡ counts.types → identity_of i ≡ new_identity env s
