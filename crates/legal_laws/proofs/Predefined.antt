-- The predefined names and those of Test_IO are known in every instance; a library without units stands so.
use Rattle.std.proofs.Common.{◌≡◌, ◌≤◌, ◌<◌, ℕ, Bool, true, false, List, [], ◌∷◌, refl, sym, ap, ◌∙◌, subst, arith, inl, inr}
use Rattle.std.proofs.lemmas.Bool.{false≢true}
use Rattle.ada_meaning.specs.Arithmetic.{base_range}
use Rattle.ada_meaning.specs.Program.{Program}
use Rattle.ada_meaning.specs.Shape.{Shape, word}
use Rattle.ada_meaning.specs.Tree as tree
use Rattle.ada_meaning.specs.WellFormed.{IsException}
use Rattle.ada_rules.specs.Types.{Identity, integer, declared_in, AdaType, integer_type, boolean_type, integer_subtype, identity_of, same_type}
use Rattle.ada_rules.specs.Entities.{predefined_region, test_io_region, whole_standard}
use Rattle.ada_rules.specs.Environment.{typing, beginning_state, Env, opened, owner_of}
use Rattle.ada_rules.specs.Library.{library_of}
use Rattle.ada_rules.specs.Units.{world_before, env_of}
use Rattle.legal_laws.specs.Known.{AreApart, IsOneOf, IsKnownSubtype, IsOfType, IsRegion}
use Rattle.legal_laws.specs.Standing.{Stands}
use Rattle.legal_laws.proofs.AlikeTypes.{alike_equal}

module _ (p : Program) (inst : ℕ) (types : AdaType → Type 0) (integers : types (integer_type integer)) (booleans : types boolean_type)
    (shape_of : tree.Object → Shape) (Sees : tree.Object → Type 0) where
  integer_known : IsKnownSubtype p inst types integer_subtype
  integer_known = (((refl, refl), refl), integers)

  exception_there : (n : ℕ) → 1 ≤ n → n ≤ 4 → IsException p inst shape_of (tree.predefined n)
  exception_there n some few = (some, omega (arith, few))

  pub predefined_known : IsRegion p inst types shape_of Sees predefined_region
  predefined_known = (
    integer_known,
    (
      (((refl, refl), refl), integers),
      (
        (((refl, refl), refl), integers),
        (
          (((refl, refl), refl), booleans),
          (
            (booleans, refl),
            (
              (booleans, refl),
              (exception_there 1 (omega (arith)) (omega (arith)), (exception_there 2 (omega (arith)) (omega (arith)), (exception_there 3 (omega (arith)) (omega (arith)), tt))),
            ),
          ),
        ),
      ),
    ),
  )

  word_integer : IsOfType p inst types (word base_range) integer_subtype
  word_integer = (λ h. tt, λ h. absurd (false≢true (sym h)))

  pub test_io_known : IsRegion p inst types shape_of Sees test_io_region
  test_io_known = (
    exception_there 4 (omega (arith)) (omega (arith)),
    (
      record { parameters = (record { mode = refl; type = word_integer; subtype = integer_known }, tt); result = tt },
      (record { parameters = (record { mode = refl; type = word_integer; subtype = integer_known }, tt); result = tt }, tt),
    ),
  )

-- Integer and Boolean
abbrev pub predefined_types : List AdaType
predefined_types = integer_type integer ∷ boolean_type ∷ []

predefined_apart : (p : Program) → AreApart p (IsOneOf predefined_types)
predefined_apart p t u (inl h) (inl k) same = alike_equal p t u (sym h ∙ k)
predefined_apart p t u (inl h) (inr (inl k)) same =
    absurd (false≢true (subst (λ x. same_type (integer_type integer) x ≡ true) (sym k) (subst (λ x. same_type x u ≡ true) (sym h) same)))
predefined_apart p t u (inr (inl h)) (inl k) same =
    absurd (false≢true (subst (λ x. same_type boolean_type x ≡ true) (sym k) (subst (λ x. same_type x u ≡ true) (sym h) same)))
predefined_apart p t u (inr (inl h)) (inr (inl k)) same = alike_equal p t u (sym h ∙ k)
predefined_apart p t u (inr (inr h)) k same = absurd h
predefined_apart p t u (inl h) (inr (inr k)) same = absurd k
predefined_apart p t u (inr (inl h)) (inr (inr k)) same = absurd k

-- predefined types are declared in no unit
abbrev is_declared : Identity → Bool
is_declared (declared_in o u n) = true
is_declared i = false

-- a body in a library without other units
abbrev first_env : Env
first_env = env_of typing (world_before (library_of whole_standard [])) 0 [] []

pub first_stands : (p : Program) (shape_of : tree.Object → Shape) (seen : List tree.Object)
    → Stands p 0 shape_of (IsOneOf predefined_types) (IsOneOf seen) (opened first_env) beginning_state
first_stands p shape_of seen = record {
  place = record {
    step = refl;
    integers = inl refl;
    booleans = inr (inl refl);
    regions = (tt, (tt, (tt, (predefined_known p 0 (IsOneOf predefined_types) (inl refl) (inr (inl refl)) shape_of (IsOneOf seen), tt))));
    own = tt;
    units = λ n name. tt;
    test_io = test_io_known p 0 (IsOneOf predefined_types) (inl refl) (inr (inl refl)) shape_of (IsOneOf seen);
  };
  world = tt;
  apart = predefined_apart p;
  older = none_declared;
  counted = refl;
  alone = λ h. refl;
}
  where
    none_declared : (t : AdaType) (n : ℕ) → IsOneOf predefined_types t → identity_of t ≡ declared_in (owner_of (opened first_env)) (opened first_env).unit_number n → n < beginning_state.types
    none_declared t n (inl h) e = absurd (false≢true (ap is_declared (ap identity_of h ∙ e)))
    none_declared t n (inr (inl h)) e = absurd (false≢true (ap is_declared (ap identity_of h ∙ e)))
    none_declared t n (inr (inr h)) e = absurd h
