-- Exceptions that are declared, as the walk goes on.
use Rattle.std.specs.Prelude.{◌≡◌, ℕ, codes, List, [], ◌++◌}
use Rattle.ada_syntax.specs.declared.name.Identifier.{Identifier}
use Rattle.ada_meaning.specs.Tree as tree
use Rattle.ada_rules.specs.Entities.{key, raisable, redefined}
use Rattle.ada_rules.specs.Environment.{Env, owner_of}
use Rattle.ada_rules.specs.Declarations.{exception_name, exception_declared, exceptions_from}
use Rattle.ada_entities.specs.EntityViews.{Tables}
use Rattle.program_walk.specs.declared.context.Context.{Context}
use Rattle.program_walk.specs.declared.walk.Walk.{Walk}
use Rattle.program_walk.specs.States.{state_of}
use Rattle.program_walk.specs.Contexts.{IsIn}
use Rattle.program_walk.specs.Going.{region_in}

abbrev pub IsInnerName : List ℕ → List ℕ → List ℕ → Type 0
IsInnerName outer inner name = name ≡ outer ++ (codes "." ++ inner)

abbrev pub IsExceptionName : List ℕ → Identifier → List ℕ → Type 0
IsExceptionName subprogram i name =
    (env : Env) → env.subprogram_name ≡ subprogram → name ≡ exception_name env i

-- one exception more
pub record HasException (old new : Walk) (i : Identifier) (k : Tables) (env : Env) : Type 0 where
  pub region : region_in k new
      ≡ redefined (key i) (raisable (tree.declared (owner_of env) old.counts.exceptions)) (region_in k old)
  pub state : state_of k new ≡ exception_declared env i (state_of k old)

abbrev pub AddsException : Context → (old new : Walk) → Identifier → Type 0
AddsException c old new i = (k : Tables) (env : Env) → IsIn c env → HasException old new i k env

-- those of a list
abbrev pub AddsExceptions : Context → (old new : Walk) → List Identifier → Type 0
AddsExceptions c old new is =
    (k : Tables) (env : Env) → IsIn c env
    → exceptions_from env (state_of k old) (region_in k old) is
    ≡ record { region = region_in k new; next = state_of k new; made = [] }
