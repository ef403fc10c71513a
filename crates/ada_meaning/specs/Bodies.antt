-- The bodies of a program: those of subprograms in no generic once, and those of a generic's subprograms once for each of its instances.
use Rattle.std.specs.Prelude.{◌≡◌, ℕ, zero, suc, nat_eq, ◌+◌, List, [], ◌∷◌, ◌++◌, map, Option, Some, None, option_map, slice_get, if◌then◌else◌}
use Rattle.ada_meaning.specs.Program.{Subprogram, Instance, Program}

-- a subprogram in an instance, by their numbers; 0 is all that is in no generic
pub record Body : Type 0 where
  pub instance : ℕ
  pub subprogram : ℕ

-- the instances of a generic, of instances that are numbered from n on
abbrev pub instances_from : ℕ → ℕ → List Instance → List ℕ
instances_from g n [] = []
instances_from g n (i ∷ is) = if nat_eq i.generic g then n ∷ instances_from g (n + 1) is else instances_from g (n + 1) is

-- the instances that have the text of a generic
abbrev pub instances_of : Option ℕ → List Instance → List ℕ
instances_of None is = 0 ∷ []
instances_of (Some g) is = instances_from g 1 is

-- the bodies of subprograms that are numbered from m on, by subprogram, then by instance
abbrev pub bodies_from : ℕ → List Subprogram → List Instance → List Body
bodies_from m [] is = []
bodies_from m (s ∷ ss) is =
    map (λ i. record { instance = i; subprogram = m }) (instances_of s.generic is) ++ bodies_from (m + 1) ss is

abbrev pub bodies_of : Program → List Body
bodies_of p = bodies_from 0 p.subprograms p.instances

-- what stands in this generic's text, or in none, stands in the instance with this number
abbrev pub StandsIn : Program → Option ℕ → ℕ → Type 0
StandsIn p None i = i ≡ 0
StandsIn p (Some g) zero = ⊥
StandsIn p (Some g) (suc i) = option_map (λ x. x.generic) (slice_get p.instances i) ≡ Some g

-- a body of a program
pub record IsBody (p : Program) (b : Body) : Type 0 where
  pub declared : Subprogram
  pub is_declared : slice_get p.subprograms b.subprogram ≡ Some declared
  pub stands : StandsIn p declared.generic b.instance
