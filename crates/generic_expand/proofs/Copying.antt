-- Copies of subprograms, and refusals.
use Rattle.std.proofs.Common.{◌≡◌, ℕ, ◌+◌, Bool, true, false, List, [], ◌∷◌, ◌++◌, map, Option, Some, None, if◌then◌else◌, refl, sym, ap, subst, ◌∙◌}
use Rattle.std.specs.Prelude.{nat_eq}
use Rattle.std.proofs.lemmas.List.{map-append}
use Rattle.cov_base.specs.declared.failure.Failure.{Failure}
use Rattle.cov_base.specs.declared.failure.Failure.TheVariants.{WantOfMemory}
use Rattle.ada_meaning.specs.Bodies.{Body, instances_from, instances_of, bodies_from}
use Rattle.ada_meaning.specs.Types.{Subtype}
use Rattle.ada_tree.specs.declared.program.Instance.{Instance}
use Rattle.ada_tree.specs.declared.program.Subprogram.{Subprogram}
use Rattle.ada_tree.specs.declared.program.UnitEntry.{UnitEntry}
use Rattle.ada_tree.specs.Programs.{instance_of, subprogram_of}
use Rattle.generic_expand.specs.declared.fault.ExpandFault.{ExpandFault}
use Rattle.generic_expand.specs.Copying.{copy_in, in_instances, of_subprogram, of_subprograms}
use Rattle.generic_expand.specs.Expanded.{copy_of, Refuses, memory_is_out}

-- the copies that are made are the bodies of the program
abbrev body_in : ℕ → ℕ → Body
body_in m i = record { instance = i; subprogram = m }

in_each : (m g n : ℕ) (is : List Instance) → in_instances m g n is ≡ map copy_of (map (body_in m) (instances_from g (n + 1) (map instance_of is)))
in_each m g n [] = refl
in_each m g n (i ∷ is) = by_test (nat_eq i.generic g) (in_each m g (n + 1) is)
  where
    by_test : (b : Bool)
        → in_instances m g (n + 1) is ≡ map copy_of (map (body_in m) (instances_from g (n + 1 + 1) (map instance_of is)))
        → (if b then copy_in (n + 1) m ∷ [] else []) ++ in_instances m g (n + 1) is
        ≡ map copy_of (map (body_in m) (if b then (n + 1) ∷ instances_from g (n + 1 + 1) (map instance_of is) else instances_from g (n + 1 + 1) (map instance_of is)))
    by_test true rest = ap (λ xs. copy_in (n + 1) m ∷ xs) rest
    by_test false rest = rest

of_one : (m : ℕ) (g : Option ℕ) (is : List Instance) → of_subprogram m g is ≡ map copy_of (map (body_in m) (instances_of g (map instance_of is)))
of_one m None is = refl
of_one m (Some g) is = in_each m g 0 is

pub of_all : (types : List Subtype) (m : ℕ) (ss : List Subprogram) (is : List Instance)
    → of_subprograms m ss is ≡ map copy_of (bodies_from m (map (subprogram_of types) ss) (map instance_of is))
of_all types m [] is = refl
of_all types m (s ∷ ss) is =
    (λ k. of_one m s.generic is k ++ of_all types (m + 1) ss is k)
    ∙ sym (map-append copy_of (map (body_in m) (instances_of s.generic (map instance_of is))) (bodies_from (m + 1) (map (subprogram_of types) ss) (map instance_of is)))

pub memory : (units : List UnitEntry) (f : Failure ExpandFault) → f ≡ WantOfMemory → Refuses units f
memory units f h = subst (λ g. Refuses units g) (sym h) memory_is_out
