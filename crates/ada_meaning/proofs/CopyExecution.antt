-- An execution of copies is the execution of the program.
use Rattle.std.proofs.Common.{◌≡◌, ℕ, zero, suc, ℤ, List, [], ◌∷◌, map, Option, option_map, Some, None, slice_get, refl, ap, ◌∙◌}
use mathlib.Core.Path.{fun_ext}
use Rattle.ada_meaning.specs.Program.{Parameter, Subprogram, Program}
use Rattle.ada_meaning.specs.Resolved.{parameter_in}
use Rattle.ada_meaning.specs.Calls.{Argument, Calls}
use Rattle.ada_meaning.specs.Execution.{called, calls_in, initial, exec}
use Rattle.ada_meaning.specs.Copies.{parameter_copy, subprogram_copy, copied_calls, exec_copies}
use Rattle.ada_meaning.proofs.CopyExpressions.{shape_same}
use Rattle.ada_meaning.proofs.CopyStatements.{block_same}

parameters_same : (p : Program) (inst : ℕ) (qs : List Parameter) → map (parameter_in p inst) (map (parameter_copy p inst) qs) ≡ map (parameter_in p inst) qs
parameters_same p inst [] = refl
parameters_same p inst (q ∷ qs) = simp (shape_same p inst inst q.subtype, parameters_same p inst qs) refl

called_same : (p : Program) (calls : Calls) (fuel inst : ℕ) (s : Option Subprogram) (arguments : List Argument)
    → called p calls fuel inst (option_map (subprogram_copy p inst) s) arguments ≡ called p calls fuel inst s arguments
called_same p calls fuel inst None arguments = refl
called_same p calls fuel inst (Some s) arguments = simp (parameters_same p inst s.parameters, block_same p calls fuel inst s.body) refl

calls_same : (p : Program) (fuel : ℕ) → copied_calls p fuel ≡ calls_in p fuel
calls_same p zero = refl
calls_same p (suc fuel) = fun_ext (λ inst. fun_ext (λ n. fun_ext (λ arguments.
    called_same p (copied_calls p fuel) (suc fuel) inst (slice_get p.subprograms n) arguments
    ∙ ap (λ (c : Calls). called p c (suc fuel) inst (slice_get p.subprograms n) arguments) (calls_same p fuel))))

-- an execution of copies
pub copies_law : (p : Program) (fuel : ℕ) (input : List ℤ) → exec_copies p fuel input ≡ exec p fuel input
copies_law p fuel input = ap (λ (c : Calls). c 0 p.main [] (initial p input)) (calls_same p fuel)
