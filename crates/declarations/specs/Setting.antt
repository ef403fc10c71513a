-- Objects that are set to an initial value, in both steps.
use Rattle.std.specs.Prelude.{List, option_map}
use Rattle.cov_base.specs.declared.position.Pos.{Pos}
use Rattle.ada_syntax.specs.declared.declaration.Constancy.{Constancy}
use Rattle.ada_syntax.specs.declared.declaration.Initial.{Initial}
use Rattle.ada_syntax.specs.declared.name.Identifier.{Identifier}
use Rattle.ada_rules.specs.Plan.{Plan, ◌>>=◌}
use Rattle.ada_rules.specs.Types.{AdaSubtype}
use Rattle.ada_rules.specs.Entities.{Region}
use Rattle.ada_rules.specs.Environment.{typed_rule, State, Env, with_local}
use Rattle.ada_rules.specs.Declarations.{Declared, one_name, library_value, library_declared, new_value, local_set}

abbrev pub setting_library : Env → Pos → Constancy → AdaSubtype → Region → List Identifier → Initial → State
    → Plan Declared
setting_library env p c t region is i s =
    library_value (with_local env region) s p t i >>= (λ v.
    typed_rule env.step (library_declared env c region is t v.value v.next)
    (option_map (λ u. library_declared env c region is t v.value v.next) (one_name is)))

abbrev pub setting_locals : Env → Pos → Constancy → AdaSubtype → Region → List Identifier → Initial → State
    → Plan Declared
setting_locals env p c t region is i s =
    new_value (with_local env region) s p t i >>= (λ v.
    typed_rule env.step (local_set env p c region is t v)
    (option_map (λ u. local_set env p c region is t v) (one_name is)))
