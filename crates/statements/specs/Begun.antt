-- The beginning of a for loop, as the checker keeps it.
use Rattle.std.specs.Prelude.{◌≡◌, ℕ, [], ◌∷◌, Result}
use Rattle.cov_base.specs.declared.failure.Failure.{Failure}
use Rattle.cov_base.specs.declared.position.Pos.{Pos}
use Rattle.ada_syntax.specs.declared.declaration.DiscreteRange.{DiscreteRange}
use Rattle.ada_syntax.specs.declared.name.Identifier.{Identifier}
use Rattle.ada_syntax.specs.declared.statement.Direction.{Direction}
use Rattle.ada_tree.specs.declared.statement.ForScheme.{ForScheme}
use Rattle.ada_tree.specs.View.{is_reversed, turns_of}
use Rattle.ada_rules.specs.Plan.{answer_at}
use Rattle.ada_rules.specs.Entities.{key, redefined}
use Rattle.ada_rules.specs.Environment.{given, Env}
use Rattle.ada_rules.specs.Statements as rules
use Rattle.ada_rules.specs.Statements.{loop_parameter, one_object_more}
use Rattle.ada_entities.specs.declared.fault.Refusal.{Refusal}
use Rattle.ada_entities.specs.Answers.{Answers}
use Rattle.ada_entities.specs.EntityViews.{Tables, region_of}
use Rattle.ada_entities.specs.RegionCode.{innermost}
use Rattle.statement_parts.specs.declared.turns.Turns.{Turns}
use Rattle.statement_parts.specs.Turns.{turns_in}
use Rattle.program_walk.specs.SymbolViews as symbols
use Rattle.program_walk.specs.SymbolViews.{IsKnown}
use Rattle.program_walk.specs.Changes.{Becomes}
use Rattle.program_walk.specs.declared.context.Context.{Context}
use Rattle.program_walk.specs.declared.walk.Walk.{Walk}
use Rattle.program_walk.specs.States.{state_of}
use Rattle.program_walk.specs.Walks.{Begins, StandsAt}
use Rattle.program_walk.specs.Going.{region_in, GoesInside}
use Rattle.statements.specs.declared.loops.Begun.{Begun as CodeBegun}
use Rattle.statements.specs.Loops.{Begun, begun_plan}

abbrev pub begun_in : Tables → CodeBegun → Begun
begun_in k b = record { parameter = b.parameter; turns = turns_in k b.turns }

-- The beginning of a for loop comes to what the rules say, whatever tables begin with what is there in the end.
abbrev pub IsBegun : Context → (old new : Walk) → Pos → Identifier → DiscreteRange → Result CodeBegun (Failure Refusal)
    → Type 0
IsBegun c old new p i r result =
    (k : Tables) (env : Env) → StandsAt c old k env → Begins new k
    → Answers (λ b. given (begun_in k b) (state_of k new)) (answer_at p (begun_plan env (state_of k old) p i r).outcome)
    result

-- the parameter alone is declared in the region of the loop
abbrev pub HasParameter : Walk → Identifier → CodeBegun → Type 0
HasParameter new i b =
    (k : Tables)
    → region_of k (innermost new.symbols.regions) ≡ (key i, loop_parameter b.parameter (turns_in k b.turns)) ∷ []

-- which opens inside the others
abbrev pub OpensLoop : (old new : Walk) → Type 0
OpensLoop old new =
    Becomes old.symbols new.symbols (innermost new.symbols.regions ∷ old.symbols.regions) old.symbols.units

-- The parameter takes the place of its hidden name: the next object of the subprogram, with one word.
pub record SetsParameter (old new : Walk) (p : Pos) (i : Identifier) (t : Turns) (n : ℕ) : Type 0 where
  pub number : n ≡ old.counts.objects
  pub region : (k : Tables)
      → region_in k new ≡ redefined (key i) (loop_parameter n (turns_in k t)) (region_in k old)
  pub inside : GoesInside old new
  pub state : IsKnown old.symbols → (k : Tables) → symbols.Begins new.symbols k
      → state_of k new ≡ one_object_more p (turns_in k t).subtype (state_of k old)

-- the iteration scheme of the typed program
pub record IsScheme (b : CodeBegun) (d : Direction) (f : ForScheme) : Type 0 where
  pub parameter : f.parameter ≡ b.parameter
  pub direction : is_reversed f.direction ≡ rules.is_reverse d
  pub values : turns_of f.values ≡ turns_of b.turns.over
