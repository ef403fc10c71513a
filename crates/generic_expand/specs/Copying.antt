-- Copies as they are made, subprogram by subprogram.
use Rattle.std.specs.Prelude.{ℕ, ◌+◌, nat_eq, if◌then◌else◌, List, [], ◌∷◌, ◌++◌, Option, Some, None}
use Rattle.ada_tree.specs.declared.program.Instance.{Instance}
use Rattle.ada_tree.specs.declared.program.Subprogram.{Subprogram}
use Rattle.generic_expand.specs.declared.copies.BodyCopy.{BodyCopy}

abbrev pub copy_in : (instance subprogram : ℕ) → BodyCopy
copy_in i m = record { instance = record { 0 = i }; subprogram = m }

-- for the instance at the index n, where it is one of the generic
abbrev pub in_instance : ℕ → ℕ → ℕ → Instance → List BodyCopy
in_instance m g n i = if nat_eq i.generic g then copy_in (n + 1) m ∷ [] else []

-- for instances, the first of which has the index n
abbrev pub in_instances : ℕ → ℕ → ℕ → List Instance → List BodyCopy
in_instances m g n [] = []
in_instances m g n (i ∷ is) = in_instance m g n i ++ in_instances m g (n + 1) is

abbrev pub of_subprogram : ℕ → Option ℕ → List Instance → List BodyCopy
of_subprogram m None is = copy_in 0 m ∷ []
of_subprogram m (Some g) is = in_instances m g 0 is

abbrev pub of_subprograms : ℕ → List Subprogram → List Instance → List BodyCopy
of_subprograms m [] is = []
of_subprograms m (s ∷ ss) is = of_subprogram m s.generic is ++ of_subprograms (m + 1) ss is
