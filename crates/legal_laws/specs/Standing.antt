-- A construct, where it stands: all that it may name is known, identities of types and numbers of objects are still to
-- be given, and in no generic there is one instance.
use Rattle.std.specs.Prelude.{◌≡◌, ◌⊎◌, ◌<◌, ℕ, Bool, true, false, List, [], ◌∷◌, length, None}
use Rattle.cov_base.specs.Lists.{Everywhere}
use Rattle.ada_meaning.specs.Program.{Program}
use Rattle.ada_meaning.specs.Shape.{Shape}
use Rattle.ada_meaning.specs.Tree.{Object}
use Rattle.ada_rules.specs.Environment.{Returning, no_result, result_of, State, Env, owner_of}
use Rattle.ada_rules.specs.Types.{declared_in, AdaType, identity_of, type_in, is_scalar}
use Rattle.legal_laws.specs.Known.{AreApart, IsKnownSubtype, IsEnv}
use Rattle.legal_laws.specs.Valued.{AreFactsInBase}

-- with one type more, and with several
abbrev pub with_type : (AdaType → Type 0) → AdaType → AdaType → Type 0
with_type declared u t = declared t ⊎ (t ≡ u)

abbrev pub with_types : (AdaType → Type 0) → List AdaType → AdaType → Type 0
with_types declared [] t = declared t
with_types declared (u ∷ us) t = with_types (with_type declared u) us t

-- types that were declared have other identities than those to come
abbrev pub AreOlder : (AdaType → Type 0) → Env → State → Type 0
AreOlder declared env s =
    (t : AdaType) (n : ℕ) → declared t → identity_of t ≡ declared_in (owner_of env) env.unit_number n → n < s.types

pub record Stands (p : Program) (inst : ℕ) (shape_of : Object → Shape) (declared : AdaType → Type 0)
    (Sees : Object → Type 0) (env : Env) (s : State) : Type 0 where
  pub place : IsEnv p inst declared shape_of Sees env
  pub world : Everywhere AreFactsInBase env.world.instances
  pub apart : AreApart p declared
  pub older : AreOlder declared env s
  pub counted : s.objects ≡ length s.words
  pub alone : env.generic ≡ None → inst ≡ 0

-- what `return` gives: a procedure nothing, a function a value of a scalar subtype (RM 6.5)
abbrev pub ReturnsAs : Program → (inst : ℕ) → (AdaType → Type 0) → (function : Bool) → Returning → Type 0
ReturnsAs p inst declared function no_result = function ≡ false
ReturnsAs p inst declared function (result_of t) =
    (function ≡ true) × ((is_scalar (type_in t) ≡ true) × IsKnownSubtype p inst declared t)
