-- The inputs that a source of the workload is run on.
use Rattle.std.specs.Prelude.{ℕ, zero, suc, ◌+◌, ◌*◌, ◌%◌, List, [], ◌∷◌, pos}
use Rattle.workload.specs.declared.inputs.Triple.{Triple}

-- the input of a run: A is its number, from 0 to 7, and B and C go through the same numbers in other orders
abbrev pub triple_of : (run : ℕ) → Triple
triple_of run = record { a = pos run; b = pos ((3 * run + 1) % 8); c = pos ((5 * run + 2) % 8) }

-- the inputs of so many runs, from one with a number on
abbrev pub triples_from : (count run : ℕ) → List Triple
triples_from zero run = []
triples_from (suc count) run = triple_of run ∷ triples_from count (run + 1)

-- eight runs
abbrev pub inputs_of : List Triple
inputs_of = triples_from 8 0
