-- What instances have for the constants of their generics.
use Rattle.std.specs.Prelude.{◌≡◌, ℕ, ◌+◌, List, [], ◌∷◌, Option, slice_get, unwrap_or}
use Rattle.std.specs.Option.{IfSome}
use Rattle.cov_base.specs.Lists.{Everywhere}
use Rattle.ada_meaning.specs.Arithmetic.{base_range}
use Rattle.ada_meaning.specs.Bodies.{Body, bodies_of, StandsIn}
use Rattle.ada_meaning.specs.Program.{FormalActual, actual_object, actual_type, actual_subprogram, GenericConstant, Instance, Program}
use Rattle.ada_meaning.specs.Resolved.{number_in}
use Rattle.ada_meaning.specs.WellFormed.{HasBounds, IsLibraryObject, IsSubprogram}
use Rattle.ada_meaning.specs.Statics.{constants_of, constant_values, values_of, static_bounds}
use Rattle.ada_rules.specs.Statics.{Facts}
use Rattle.legal_laws.specs.Served.{HaveOwnValues}

-- each of these, which are numbered from n on, has the values of its generic's constants
abbrev pub HaveConstants : Program → ℕ → List Instance → Type 0
HaveConstants p n [] = Unit {0}
HaveConstants p n (i ∷ is) =
    (i.constants ≡ constant_values (values_of p) n [] (constants_of i.generic p.constants)) × HaveConstants p (n + 1) is

-- in each instance of the program, constants have the values of their expressions
abbrev pub AreOwnValues : List Facts → Program → List GenericConstant → Type 0
AreOwnValues facts p cs = (o : Option ℕ) (inst : ℕ) → StandsIn p o inst → HaveOwnValues facts inst o cs

-- an instance has the value of the actual for a formal object, and what the subtype of the actual comes to for a formal type
abbrev pub IsStaticActual : Program → FormalActual → Type 0
IsStaticActual p (actual_object e x) = x ≡ number_in p 0 e
IsStaticActual p (actual_type r b c) = b ≡ unwrap_or (static_bounds (values_of p) 0 r) base_range
IsStaticActual p (actual_subprogram t) = Unit {0}

abbrev pub HaveStaticActuals : Program → Type 0
HaveStaticActuals p = Everywhere (λ i. Everywhere (IsStaticActual p) i.actuals) p.instances

-- the subtypes that instances are given for formal types have bounds
abbrev pub HasTypeBounds : Program → FormalActual → Type 0
HasTypeBounds p (actual_object e x) = Unit {0}
HasTypeBounds p (actual_type r b c) = HasBounds (static_bounds (values_of p) 0 r)
HasTypeBounds p (actual_subprogram t) = Unit {0}

abbrev pub HaveTypeBounds : Program → Type 0
HaveTypeBounds p = Everywhere (λ i. Everywhere (HasTypeBounds p) i.actuals) p.instances

-- What a program that a walk made still needs, to be well-formed, where its text stands in order: the subtypes that its
-- instances are given have bounds, and its objects of the library level and its bodies are well-formed in each instance.
pub record AreTextsFormed (p : Program) : Type 0 where
  pub types : HaveTypeBounds p
  pub library : Everywhere (IsLibraryObject p) p.objects
  pub bodies : Everywhere
      (λ (b : Body). IfSome (slice_get p.subprograms b.subprogram) (IsSubprogram p b.instance)) (bodies_of p)
