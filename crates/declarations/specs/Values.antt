-- Objects with and without an initial value, as the walk goes on.
use Rattle.std.specs.Prelude.{◌≡◌, List, [], Option, option_map, Result}
use Rattle.cov_base.specs.declared.position.Pos.{Pos}
use Rattle.cov_base.specs.declared.failure.Failure.{Failure}
use Rattle.ada_syntax.specs.declared.declaration.Constancy.{Constancy}
use Rattle.ada_syntax.specs.declared.declaration.Initial.{Initial}
use Rattle.ada_syntax.specs.declared.name.Identifier.{Identifier}
use Rattle.ada_tree.specs.declared.statement.Declaration.{Declaration}
use Rattle.ada_rules.specs.Plan.{answer_at}
use Rattle.ada_rules.specs.Environment.{typed_rule, given, Env, with_local}
use Rattle.ada_rules.specs.Declarations.{Declared, objects_declared, local_bare, local_set, library_declared}
use Rattle.ada_entities.specs.Answers.{Answers}
use Rattle.ada_entities.specs.declared.fault.Refusal.{Refusal}
use Rattle.ada_entities.specs.declared.types.Subtype.{Subtype}
use Rattle.ada_entities.specs.Views.{subtype_of}
use Rattle.ada_entities.specs.EntityViews.{Tables}
use Rattle.ada_phrases.specs.declared.scope.Step.{Step}
use Rattle.ada_phrases.specs.Scopes.{step_of}
use Rattle.object_values.specs.declared.initial.NewValue.{NewValue}
use Rattle.object_values.specs.NewValues.{new_value_of}
use Rattle.program_walk.specs.SymbolViews as symbols
use Rattle.program_walk.specs.SymbolViews.{IsKnown}
use Rattle.program_walk.specs.declared.context.Context.{Context}
use Rattle.program_walk.specs.declared.walk.Walk.{Walk}
use Rattle.program_walk.specs.States.{state_of}
use Rattle.program_walk.specs.Walks.{Begins, StandsAt}
use Rattle.declarations.specs.declared.initial.LibraryValue.{LibraryValue}
use Rattle.program_walk.specs.Contexts.{IsIn}
use Rattle.program_walk.specs.Going.{region_in}
use Rattle.declarations.specs.Initials.{library_value_of}
use Rattle.declarations.specs.Locals.{made_of}
use Rattle.declarations.specs.Setting.{setting_library, setting_locals}
use Rattle.declarations.specs.Made.{behind_made, behind}

-- a rule on types of a declaration, which comes to this where it is met
abbrev pub IsAllowed : {A : Type 0} → Step → Pos → Option Unit → Result A (Failure Refusal) → Type 0
IsAllowed step p o result =
    (d : Declared) → Answers (λ u. d) (answer_at p (typed_rule (step_of step) d (option_map (λ u. d) o)).outcome) result

-- what was declared when the walk came to this state, with declarations of the typed program
abbrev pub declared_in : Tables → Walk → List Declaration → Declared
declared_in k w made = record { region = region_in k w; next = state_of k w; made = made_of k made }

abbrev pub IsDeclared : Tables → Walk → (before after : List Declaration) → Declared → Type 0
IsDeclared k new before after d = behind_made (made_of k before) d ≡ declared_in k new after

-- objects of a subprogram, and of the library level
abbrev pub MakesBareLocals : (old new : Walk) → (before after : List Declaration) → Constancy → Subtype
    → List Identifier → Type 0
MakesBareLocals old new before after c t is =
    (k : Tables) → IsKnown old.symbols → symbols.Begins old.symbols k
    → IsDeclared k new before after (local_bare c (region_in k old) is (given (subtype_of k.types t) (state_of k old)))

abbrev pub MakesLocals : Context → (old new : Walk) → (before after : List Declaration) → Pos → Constancy → Subtype
    → NewValue → List Identifier → Type 0
MakesLocals context old new before after p c t v is =
    (k : Tables) (env : Env) → IsIn context env → IsKnown old.symbols → symbols.Begins old.symbols k
    → IsDeclared k new before after
    (local_set env p c (region_in k old) is (subtype_of k.types t) (given (new_value_of k v) (state_of k old)))

abbrev pub MakesLibraryObjects : Context → (old new : Walk) → Constancy → Subtype → LibraryValue → List Identifier
    → Type 0
MakesLibraryObjects context old new c t v is =
    (k : Tables) (env : Env) → IsIn context env → IsKnown old.symbols → symbols.Begins old.symbols k
    → library_declared env c (region_in k old) is (subtype_of k.types t) (library_value_of k v) (state_of k old)
    ≡ declared_in k new []

-- objects of a declaration, where their names are hidden in the innermost region
abbrev pub DeclaresObjects : {A : Type 0} → Context → (old new : Walk) → (before after : List Declaration) → Pos
    → Constancy → Subtype → List Identifier → Option Initial → Result A (Failure Refusal) → Type 0
DeclaresObjects context old new before after p c t is init result =
    (k : Tables) (env : Env) → StandsAt context old k (with_local env (region_in k old)) → Begins new k
    → Answers (λ u. declared_in k new after) (behind (made_of k before)
    (answer_at p (objects_declared env p c (region_in k old) is (given (subtype_of k.types t) (state_of k old))
    init).outcome)) result

abbrev pub SetsLibraryObjects : {A : Type 0} → Context → (old new : Walk) → Pos → Constancy → Subtype → List Identifier
    → Initial → Result A (Failure Refusal) → Type 0
SetsLibraryObjects context old new p c t is i result =
    (k : Tables) (env : Env) → StandsAt context old k (with_local env (region_in k old)) → Begins new k
    → Answers (λ u. declared_in k new [])
    (answer_at p (setting_library env p c (subtype_of k.types t) (region_in k old) is i (state_of k old)).outcome)
    result

abbrev pub SetsLocals : {A : Type 0} → Context → (old new : Walk) → (before after : List Declaration) → Pos → Constancy
    → Subtype → List Identifier → Initial → Result A (Failure Refusal) → Type 0
SetsLocals context old new before after p c t is i result =
    (k : Tables) (env : Env) → StandsAt context old k (with_local env (region_in k old)) → Begins new k
    → Answers (λ u. declared_in k new after) (behind (made_of k before)
    (answer_at p (setting_locals env p c (subtype_of k.types t) (region_in k old) is i (state_of k old)).outcome))
    result
