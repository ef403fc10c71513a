-- What is known of the values of constants, in whatever state has the notes.
use Rattle.std.specs.Prelude.{◌≡◌, ℕ, List, Option, Some, option_map}
use Rattle.ada_syntax.specs.declared.declaration.Constancy.{Constancy}
use Rattle.ada_meaning.specs.Types as type
use Rattle.ada_tree.specs.declared.types.ScalarRange.{ScalarRange}
use Rattle.ada_tree.specs.declared.types.StaticValue.{StaticValue}
use Rattle.ada_tree.specs.View.{scalar_range_of, static_value_of}
use Rattle.ada_rules.specs.Types.{AdaSubtype, range_in}
use Rattle.ada_rules.specs.Statics.{Facts}
use Rattle.ada_rules.specs.Environment.{State, Given, given, Env}
use Rattle.ada_rules.specs.Declarations.{numbered, known_constant, lying_in}
use Rattle.ada_entities.specs.declared.entity.ConstantValue.{ConstantValue}
use Rattle.ada_entities.specs.declared.types.Subtype.{Subtype}
use Rattle.ada_entities.specs.Views.{subtype_of}
use Rattle.ada_entities.specs.EntityViews.{Tables, constant_of}
use Rattle.program_walk.specs.ada_demands.specs.declared.statics.Statics.{Statics}
use Rattle.program_walk.specs.ada_demands.specs.StaticsViews.{noted}

-- what a rule gives
abbrev pub Enters : (old new : Statics) → (State → Given type.Static) → ConstantValue → Type 0
Enters old new rule c = (k : Tables) (s : State) → rule (noted k old s) ≡ given (constant_of c) (noted k new s)

abbrev pub GivesKnown : (old new : Statics) → (State → Given (Option type.Static)) → ConstantValue → Type 0
GivesKnown old new rule c =
    (k : Tables) (s : State) → rule (noted k old s) ≡ given (Some (constant_of c)) (noted k new s)

-- a constant of a subprogram with this value
abbrev pub IsLocalKnown : (old new : Statics) → List Facts → Option ℕ → ScalarRange → type.Static → ConstantValue
    → Type 0
IsLocalKnown old new instances generic r e c =
    (k : Tables) (env : Env) (s : State) (t : AdaSubtype) → env.world.instances ≡ instances
    → range_in t ≡ scalar_range_of r
    → numbered generic (scalar_range_of r) e (lying_in env t e) (noted k old s)
    ≡ given (Some (constant_of c)) (noted k new s)

-- objects of the library level and of a subprogram
abbrev pub IsLibraryConstant : (old new : Statics) → Option ℕ → Constancy → Subtype → Option StaticValue
    → Option ConstantValue → Type 0
IsLibraryConstant old new generic c t known result =
    (k : Tables) (env : Env) (s : State) → env.generic ≡ generic
    → known_constant env c (subtype_of k.types t) (λ e. Some e) (option_map static_value_of known) (noted k old s)
    ≡ given (option_map constant_of result) (noted k new s)

abbrev pub IsLocalConstant : (old new : Statics) → List Facts → Option ℕ → Constancy → Subtype → Option type.Static
    → Option ConstantValue → Type 0
IsLocalConstant old new instances generic c t known result =
    (k : Tables) (env : Env) (s : State) → env.generic ≡ generic → env.world.instances ≡ instances
    → known_constant env c (subtype_of k.types t) (lying_in env (subtype_of k.types t)) known (noted k old s)
    ≡ given (option_map constant_of result) (noted k new s)
