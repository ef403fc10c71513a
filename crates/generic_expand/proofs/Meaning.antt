-- A copy means what its generic means.
use Rattle.std.proofs.Common.{◌≡◌, ℕ, List, [], ◌∷◌, map, Some, refl}
use Rattle.ada_meaning.specs.Calls.{Argument, Calls}
use Rattle.ada_meaning.specs.Copies.{parameter_copy, subprogram_copy}
use Rattle.ada_meaning.specs.Execution.{called}
use Rattle.ada_meaning.specs.Program.{Parameter, Subprogram, Program}
use Rattle.ada_meaning.specs.Resolved.{parameter_in}
use Rattle.ada_meaning.proofs.CopyExpressions.{shape_same}
use Rattle.ada_meaning.proofs.CopyStatements.{block_same}

parameters_same : (p : Program) (inst : ℕ) (qs : List Parameter) → map (parameter_in p inst) (map (parameter_copy p inst) qs) ≡ map (parameter_in p inst) qs
parameters_same p inst [] = refl
parameters_same p inst (q ∷ qs) = simp (shape_same p inst inst q.subtype, parameters_same p inst qs) refl

pub called_same : (p : Program) (calls : Calls) (fuel inst : ℕ) (s : Subprogram) (arguments : List Argument)
    → called p calls fuel inst (Some (subprogram_copy p inst s)) arguments ≡ called p calls fuel inst (Some s) arguments
called_same p calls fuel inst s arguments = simp (parameters_same p inst s.parameters, block_same p calls fuel inst s.body) refl
