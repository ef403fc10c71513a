-- Components of records, as the walk goes on.
use Rattle.std.specs.Prelude.{◌≡◌, List, ◌∷◌, Result, Ok, Err}
use Rattle.std.specs.declared.vec.Vec.{Vec}
use Rattle.std.specs.declared.alloc.Global.{Global}
use Rattle.cov_base.specs.declared.position.Pos.{Pos}
use Rattle.cov_base.specs.declared.failure.Failure.{Failure}
use Rattle.ada_syntax.specs.declared.declaration.Component.{Component}
use Rattle.ada_syntax.specs.declared.name.Identifier.{Identifier}
use Rattle.ada_rules.specs.Types.{Fields}
use Rattle.ada_rules.specs.Entities as rules
use Rattle.ada_rules.specs.Environment.{Env}
use Rattle.ada_rules.specs.Declarations.{with_fields, all_as, fields_of}
use Rattle.ada_entities.specs.Answers.{Refuses}
use Rattle.ada_entities.specs.declared.composite.Component.{Component as Field}
use Rattle.ada_entities.specs.declared.fault.Refusal.{Refusal}
use Rattle.ada_entities.specs.declared.types.Subtype.{Subtype}
use Rattle.ada_entities.specs.Tables as table
use Rattle.ada_entities.specs.Views.{TypeTables, subtype_of}
use Rattle.ada_entities.specs.EntityViews.{Tables, region_of}
use Rattle.ada_entities.specs.RegionCode.{innermost}
use Rattle.program_walk.specs.declared.symbols.Symbols.{Symbols}
use Rattle.program_walk.specs.declared.context.Context.{Context}
use Rattle.program_walk.specs.declared.walk.Walk.{Walk}
use Rattle.declarations.specs.Fields.{fields_before, behind_fields}
use Rattle.program_walk.specs.States.{state_of}
use Rattle.program_walk.specs.Walks.{Begins, StandsAt, ComesTo, with_innermost}

abbrev pub DeclaresComponents : (old new : Symbols) → List Identifier → Type 0
DeclaresComponents old new is =
    (k : Tables)
    → region_of k (innermost new.regions) ≡ all_as rules.component (region_of k (innermost old.regions)) is

abbrev pub AddsNamed : (old new : List Field) → Subtype → List Identifier → Type 0
AddsNamed old new t is =
    (k : TypeTables) (rest : Fields)
    → fields_before k new rest ≡ fields_before k old (with_fields is (subtype_of k t) rest)

-- the components of one declaration, whatever comes behind it
abbrev pub HasFields : {A : Type 0} → Tables → Env → (old new : Walk) → (before after : List Field) → Component
    → Result A (Failure Refusal) → Type 0
HasFields k env old new before after c (Ok u) =
    (p : Pos) (cs : List Component)
    → behind_fields k.types before (fields_of env (state_of k old) p (c ∷ cs)).answer
    ≡ behind_fields k.types after (fields_of (with_innermost new k env) (state_of k new) p cs).answer
HasFields k env old new before after c (Err f) =
    (p : Pos) (cs : List Component) → Refuses (fields_of env (state_of k old) p (c ∷ cs)).answer f

abbrev pub AddsFields : {A : Type 0} → Context → (old new : Walk) → (before after : List Field) → Component
    → Result A (Failure Refusal) → Type 0
AddsFields context old new before after c result =
    (k : Tables) (env : Env) → StandsAt context old k env → Begins new k → HasFields k env old new before after c result

abbrev pub fields_in : Tables → Vec Field Global → Fields
fields_in k v = table.fields_of k.types v.items

abbrev pub ComesToFields : Context → (old new : Walk) → List Component → Result (Vec Field Global) (Failure Refusal)
    → Type 0
ComesToFields context old new cs result =
    (p : Pos) → ComesTo fields_in context old new (λ k env s. (fields_of env s p cs).answer) result
