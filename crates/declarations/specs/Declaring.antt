-- Declarations, as the walk goes on.
use Rattle.std.specs.Prelude.{◌≡◌, ℕ, List, [], Option, Result}
use Rattle.std.specs.declared.vec.Vec.{Vec}
use Rattle.std.specs.declared.alloc.Global.{Global}
use Rattle.cov_base.specs.declared.position.Pos.{Pos}
use Rattle.cov_base.specs.declared.failure.Failure.{Failure}
use Rattle.ada_syntax.specs.declared.declaration.Declaration.{Declaration as Source}
use Rattle.ada_syntax.specs.declared.declaration.DeclarationKind.{DeclarationKind}
use Rattle.ada_tree.specs.declared.statement.Declaration.{Declaration}
use Rattle.ada_rules.specs.Plan.{answer_at}
use Rattle.ada_rules.specs.Environment.{Env}
use Rattle.ada_rules.specs.Declarations as rules
use Rattle.ada_rules.specs.Declarations.{type_counted}
use Rattle.ada_entities.specs.Answers.{Answers}
use Rattle.ada_entities.specs.declared.fault.Refusal.{Refusal}
use Rattle.ada_entities.specs.declared.types.Subtype.{Subtype}
use Rattle.ada_entities.specs.Views.{subtype_of}
use Rattle.ada_entities.specs.EntityViews.{Tables}
use Rattle.program_walk.specs.declared.place.Notes.{Notes}
use Rattle.program_walk.specs.Places.{with_notes}
use Rattle.program_walk.specs.declared.symbols.Symbols.{Symbols}
use Rattle.program_walk.specs.SymbolViews as symbols
use Rattle.program_walk.specs.SymbolViews.{IsKnown}
use Rattle.program_walk.specs.declared.context.Context.{Context}
use Rattle.program_walk.specs.declared.counts.Counts.{Counts}
use Rattle.program_walk.specs.declared.found.Found.{Found}
use Rattle.program_walk.specs.declared.walk.Walk.{Walk}
use Rattle.program_walk.specs.States.{kept_state, state_of}
use Rattle.program_walk.specs.Walks.{Begins, StandsAt}
use Rattle.declarations.specs.Locals.{made_of}
use Rattle.declarations.specs.Made.{behind}
use Rattle.declarations.specs.Values.{declared_in}

-- a type that is counted, in whatever state has this found
abbrev pub CountsType : Symbols → (old new : Found) → Option ℕ → Pos → Subtype → Type 0
CountsType s old new generic p t =
    IsKnown s → (k : Tables) (env : Env) (n : Notes) (c : Counts) → symbols.Begins s k → env.generic ≡ generic
    → with_notes k n (kept_state k c new)
    ≡ type_counted env p (subtype_of k.types t) (with_notes k n (kept_state k c old))

-- a declaration of this kind, behind what was made before
abbrev pub Declares : {A : Type 0} → Context → (old new : Walk) → (before after : List Declaration) → Pos
    → DeclarationKind → Result A (Failure Refusal) → Type 0
Declares c old new before after p d result =
    (k : Tables) (env : Env) → StandsAt c old k env → Begins new k
    → Answers (λ u. declared_in k new after) (behind (made_of k before)
    (answer_at p (rules.kind_declared env (state_of k old) p d).outcome)) result

-- one that makes nothing
abbrev pub DeclaresAlone : {A : Type 0} → Context → (old new : Walk) → Pos → DeclarationKind
    → Result A (Failure Refusal) → Type 0
DeclaresAlone c old new p d result =
    (k : Tables) (env : Env) → StandsAt c old k env → Begins new k
    → Answers (λ u. declared_in k new [])
    (answer_at p (rules.kind_declared env (state_of k old) p d).outcome) result

abbrev pub ComesToDeclared : {A : Type 0} → Context → (old new : Walk) → (before after : List Declaration) → Source
    → Result A (Failure Refusal) → Type 0
ComesToDeclared c old new before after d result =
    (k : Tables) (env : Env) → StandsAt c old k env → Begins new k
    → Answers (λ u. declared_in k new after) (behind (made_of k before)
    (rules.declared env (state_of k old) d).answer) result

-- declarations in order
abbrev pub ComesToAll : Context → (old new : Walk) → List Source → Result (Vec Declaration Global) (Failure Refusal)
    → Type 0
ComesToAll c old new ds result =
    (p : Pos) (k : Tables) (env : Env) → StandsAt c old k env → Begins new k
    → Answers (λ (made : Vec Declaration Global). declared_in k new made.items)
    (rules.all_declared env (state_of k old) p ds).answer result
