-- Definitions of types, as the walk goes on.
use Rattle.std.specs.Prelude.{◌≡◌, ℕ, List, Some, Result, Ok, Err}
use Rattle.cov_base.specs.declared.position.Pos.{Pos}
use Rattle.cov_base.specs.declared.failure.Failure.{Failure}
use Rattle.cov_base.specs.declared.failure.Failure.TheVariants.{Fault, WantOfMemory}
use Rattle.ada_syntax.specs.declared.declaration.TypeDefinition.{TypeDefinition}
use Rattle.ada_syntax.specs.declared.name.Identifier.{Identifier}
use Rattle.ada_rules.specs.Plan.{Plan, ◌>>=◌, rule, answer_at}
use Rattle.ada_rules.specs.Types.{of_type, base}
use Rattle.ada_rules.specs.Types as types
use Rattle.ada_rules.specs.Entities.{Region}
use Rattle.ada_rules.specs.Environment.{hide_all}
use Rattle.ada_rules.specs.Declarations as rules
use Rattle.ada_rules.specs.Declarations.{Defined}
use Rattle.ada_entities.specs.Answers.{Answers}
use Rattle.ada_entities.specs.declared.composite.Definition.{Definition}
use Rattle.ada_entities.specs.declared.entity.Entity.{Entity}
use Rattle.ada_entities.specs.declared.fault.Refusal.{Refusal}
use Rattle.ada_entities.specs.declared.types.Identity.{Identity}
use Rattle.ada_entities.specs.declared.types.Subtype.{Subtype}
use Rattle.ada_entities.specs.Tables.{shape_of}
use Rattle.ada_entities.specs.Views.{shaped, identity_of, subtype_of}
use Rattle.ada_entities.specs.EntityViews.{Tables, region_of}
use Rattle.ada_entities.specs.RegionCode.{innermost}
use Rattle.program_walk.specs.declared.symbols.Symbols.{Symbols}
use Rattle.program_walk.specs.SymbolViews.{Begins, IsKnown}
use Rattle.program_walk.specs.Changes.{IsOpen, ChangesInside, Continues}
use Rattle.program_walk.specs.declared.context.Context.{Context}
use Rattle.program_walk.specs.declared.walk.Walk.{Walk}
use Rattle.program_walk.specs.Walks.{ComesTo}

abbrev pub IsDefinedAs : (old new : Symbols) → Identity → Definition → Subtype → Type 0
IsDefinedAs old new i d t =
    IsKnown old → (k : Tables) → Begins new k
    → subtype_of k.types t ≡ of_type (shaped (identity_of i) (shape_of k.types d)) base

-- an enumeration, and the region that its definition leaves
abbrev pub defined_with : List (List (List ℕ × Entity)) → Tables → Subtype → Defined
defined_with regions k t = record { subtype = subtype_of k.types t; region = region_of k (innermost regions) }

abbrev pub enumerating : types.Identity → Pos → Region → List Identifier → Plan Defined
enumerating i p region is = hide_all p region is >>= (λ r. rule (Some (rules.enumerated i r is)))

abbrev pub IsEnumerated : (old new : Symbols) → Identity → List Identifier → Result Subtype (Failure Refusal) → Type 0
IsEnumerated old new i is result =
    (k : Tables) (p : Pos)
    → Answers (defined_with new.regions k)
    (answer_at p (enumerating (identity_of i) p (region_of k (innermost old.regions)) is).outcome) result

abbrev pub GoesAsSymbols : (old new : Symbols) → Result Subtype (Failure Refusal) → Type 0
GoesAsSymbols old new (Ok x) = IsOpen old → ChangesInside old new
GoesAsSymbols old new (Err (Fault f)) = Continues old new
GoesAsSymbols old new (Err WantOfMemory) = Unit {0}

-- a type definition, wherever it stands
abbrev pub defined_in : Walk → Tables → Subtype → Defined
defined_in w k t = defined_with w.symbols.regions k t

abbrev pub IsDefined : Context → (old new : Walk) → Identity → TypeDefinition → Result Subtype (Failure Refusal)
    → Type 0
IsDefined c old new i d result =
    (p : Pos) → ComesTo (defined_in new) c old new (λ k env s. (rules.defined env s p (identity_of i) d).answer) result
