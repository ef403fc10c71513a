-- Names of exceptions, of the rules' definitions.
use Rattle.std.proofs.Common.{◌≡◌, ℕ, List, [], ◌∷◌, ◌++◌, codes}
use Rattle.ada_syntax.specs.declared.name.Identifier.{Identifier}
use Rattle.ada_rules.specs.Entities.{key}
use Rattle.ada_rules.specs.Environment.{Env}
use Rattle.ada_rules.specs.Declarations.{exception_name}

pub own_name : (env : Env) (i : Identifier) → env.subprogram_name ≡ [] → exception_name env i ≡ key i
own_name env i e = λ z. exception_name (record env { subprogram_name = e z }) i

pub name_within : (env : Env) (i : Identifier) (c : ℕ) (cs : List ℕ) → env.subprogram_name ≡ c ∷ cs
    → exception_name env i ≡ (c ∷ cs) ++ (codes "." ++ key i)
name_within env i c cs e = λ z. exception_name (record env { subprogram_name = e z }) i
