-- How what the declarations of composite types weigh goes on from state to state of the rules.
use Rattle.std.specs.Prelude.{◌≡◌, ℕ, ◌+◌, ◌≤◌, Option}
use Rattle.ada_rules.specs.Environment.{State}
use Rattle.program_weights.specs.TypeWeights.{types_weight, types_weight_in}
use Rattle.legal_types.specs.TextGenerics.{part_in}

-- what is declared behind, in the text of a generic or of none, weighs no more than so much beside what was declared before: in all, and by the
-- generics
pub record Weighs (text : Option ℕ) (n : ℕ) (s t : State) : Type 0 where
  pub most : types_weight t.types_declared ≤ n + types_weight s.types_declared
  pub each : (g : Option ℕ) → types_weight_in g t.types_declared ≤ part_in g text n + types_weight_in g s.types_declared

-- over the texts of many
pub record WeighsBy (n : ℕ) (parts : Option ℕ → ℕ) (s t : State) : Type 0 where
  pub most : types_weight t.types_declared ≤ n + types_weight s.types_declared
  pub each : (g : Option ℕ) → types_weight_in g t.types_declared ≤ parts g + types_weight_in g s.types_declared

-- what was declared stays as it is
pub record Keeps (s t : State) : Type 0 where
  pub types : t.types_declared ≡ s.types_declared
