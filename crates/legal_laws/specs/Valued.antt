-- What instances have for formals and constants: in the rules' facts and in the typed program.
use Rattle.std.specs.Prelude.{◌≡◌, ℤ, int_le, true, List, [], ◌∷◌, Option, Some, None, IfSome}
use Rattle.cov_base.specs.Lists.{Everywhere}
use Rattle.ada_meaning.specs.Program.{Bounds, FormalActual, actual_object, actual_type, actual_subprogram, Instance, Program}
use Rattle.ada_meaning.specs.WellFormed.{IsInBase, AreInBase}
use Rattle.ada_rules.specs.Statics.{Fact, number_fact, type_fact, result_fact, Facts}

-- bounds of the base range, the low one not above the high one
abbrev pub AreOrdered : Option Bounds → Type 0
AreOrdered None = ⊥
AreOrdered (Some b) = AreInBase b × (int_le b.low b.high ≡ true)

-- the bounds of a formal type, and the values of constants, lie in the base range
abbrev pub IsFactInBase : Fact → Type 0
IsFactInBase (number_fact x) = Unit {0}
IsFactInBase (type_fact b c) = AreInBase b
IsFactInBase (result_fact b) = Unit {0}

abbrev pub IsValueInBase : Option ℤ → Type 0
IsValueInBase o = IfSome o IsInBase

pub record AreFactsInBase (f : Facts) : Type 0 where
  pub formals : Everywhere IsFactInBase f.formals
  pub constants : Everywhere IsValueInBase f.constants

-- what the typed program has for a formal is what the facts have
abbrev pub IsAlike : FormalActual → Fact → Type 0
IsAlike (actual_object e x) (number_fact y) = x ≡ y
IsAlike (actual_type r b c) (type_fact d e) = b ≡ d
IsAlike (actual_subprogram t) (result_fact b) = Unit {0}
IsAlike a f = ⊥

abbrev pub AreAlike : List FormalActual → List Fact → Type 0
AreAlike [] [] = Unit {0}
AreAlike (a ∷ more) (f ∷ fs) = IsAlike a f × AreAlike more fs
AreAlike xs fs = ⊥

-- instances of the typed program with their facts, in order
pub record HasFacts (i : Instance) (f : Facts) : Type 0 where
  pub formals : AreAlike i.actuals f.formals
  pub constants : i.constants ≡ f.constants

abbrev pub HaveFacts : List Instance → List Facts → Type 0
HaveFacts [] [] = Unit {0}
HaveFacts (i ∷ is) (f ∷ fs) = HasFacts i f × HaveFacts is fs
HaveFacts is fs = ⊥

-- the facts of a program: those of its instances, in the base range
abbrev pub AreFactsOf : Program → List Facts → Type 0
AreFactsOf p facts = HaveFacts p.instances facts × Everywhere AreFactsInBase facts
