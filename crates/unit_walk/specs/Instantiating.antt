-- Instances, of the rules' definitions.
use Rattle.std.specs.Prelude.{◌≡◌, ℕ, List, [], set, Option, Some, Result, Ok, Err}
use Rattle.std.specs.Borrow.{Bor}
use Rattle.cov_base.specs.declared.position.Pos.{Pos}
use Rattle.ada_syntax.specs.declared.name.Identifier.{Identifier}
use Rattle.ada_syntax.specs.declared.unit.Instance.{Instance}
use Rattle.ada_rules.specs.Plan.{Judgement, ◌>>=◌, rule, construct}
use Rattle.ada_rules.specs.Statics.{Facts}
use Rattle.ada_rules.specs.Entities.{Actual}
use Rattle.ada_rules.specs.Environment.{World, instance_interface, State, Given, given, Env}
use Rattle.ada_rules.specs.Instances.{generic_named, formals_of, actuals_judged}
use Rattle.ada_rules.specs.Units.{Walked, instantiated_by, with_instance, with_interface}
use Rattle.ada_entities.specs.declared.entity.Entity.{Entity}
use Rattle.ada_entities.specs.EntityViews.{Tables}
use Rattle.ada_demands.specs.declared.statics.Statics.{Statics}
use Rattle.ada_demands.specs.SpanViews as spans
use Rattle.ada_demands.specs.SpanViews.{listed}
use Rattle.ada_demands.specs.StaticsViews.{noted}
use Rattle.program_walk.specs.declared.symbols.Symbols.{Symbols}
use Rattle.program_walk.specs.Sites.{HoldsUnits}
use Rattle.program_walk.specs.SymbolViews.{Begins}
use Rattle.specifications.specs.Actuals.{actuals_in}
use Rattle.specifications.specs.Passing.{formals_seen}
use Rattle.program_walk.specs.declared.walk.Walk.{Walk}
use Rattle.program_walk.specs.States.{state_of}
use Rattle.unit_walk.specs.declared.instantiation.Instantiated.{Instantiated}

-- the generic of an instance and its actuals
abbrev pub instantiated_of : Tables → Instantiated → Option ℕ × List Actual
instantiated_of k y = (y.generic, actuals_in k y.actuals)

abbrev pub instance_part : Env → State → Pos → ℕ → Instance → Judgement (Given (Option ℕ × List Actual))
instance_part env s p n i = construct p (do
  g ← generic_named env i.generic_name
  actuals ← actuals_judged env s p n [] (formals_of env.world g) i.actuals
  rule (Some (given (g, actuals.value) actuals.next)))

-- what the rules make of them
abbrev pub judged_from : World → Pos → (unit number : ℕ) → Instance → Result (Given (Option ℕ × List Actual)) Pos
    → Result Walked Pos
judged_from w p n k i (Ok y) = Ok (with_instance w p n k i y.value.0 y.value.1 y.next)
judged_from w p n k i (Err q) = Err q

abbrev pub AreFormalsOf : Symbols → Option ℕ → Option (Bor (List (List ℕ × Entity))) → Type 0
AreFormalsOf symbols g o = (k : Tables) (w : World) → HoldsUnits symbols k w → formals_seen k o ≡ formals_of w g

-- an instance is noted, where it is one of a generic
abbrev pub with_made : Option ℕ → ℕ → State → State
with_made g n s = record s { demands = instantiated_by g n s.demands }

abbrev pub NotesMade : (old : Statics) → Option ℕ → ℕ → (new : Statics) → Type 0
NotesMade old g n new = (k : Tables) (s : State) → noted k new s ≡ with_made g n (noted k old s)

-- the world and the state behind an instance
abbrev pub behind_instance : World → (unit number : ℕ) → Option ℕ → List Actual → List Facts → State → Walked
behind_instance w n k g actuals facts s = record {
  world = record w { interfaces = set w.interfaces n (instance_interface g k actuals); instances = facts };
  next = s;
}

-- they are what the rules have, in each world that has what the walk keeps
abbrev pub Makes : Pos → ℕ → Identifier → Instantiated → (old : Walk) → (before : List Facts) → (new : Walk)
    → (after : List Facts) → Type 0
Makes p number name y old before new after =
    (k : Tables) (w : World) (n : ℕ) (i : Instance) → HoldsUnits old.symbols k w → spans.Begins (listed old.spans) k
    → w.instances ≡ before → i.name ≡ name
    → with_instance w p n number i y.generic (actuals_in k y.actuals) (state_of k old)
    ≡ behind_instance w n number y.generic (actuals_in k y.actuals) after (state_of k new)

pub record KeepsSymbols (old new : Walk) : Type 0 where
  pub symbols : new.symbols ≡ old.symbols
  pub spans : listed new.spans ≡ listed old.spans

-- others see the instance with this number, whatever its actuals are besides the types that they give
abbrev pub SeesInstance : (old new : Symbols) → (unit : ℕ) → Instantiated → ℕ → Type 0
SeesInstance old new n y j =
    (k : Tables) (w : World) → HoldsUnits old k w → Begins new k
    → HoldsUnits new k (with_interface w n (instance_interface y.generic j (actuals_in k y.actuals)))
