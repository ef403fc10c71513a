-- How far static expressions look: at constants that come before a number, in each instance. A constant of a generic
-- looks at those before it in its own instance, and at those that another instance had when it was made.
use Rattle.std.specs.Prelude.{◌≡◌, ◌<◌, ◌+◌, ℕ, nat_eq, List, [], ◌∷◌, if◌then◌else◌}
use Rattle.ada_meaning.specs.Program.{GenericConstant}
use Rattle.ada_meaning.specs.Statics.{InstanceValues, value_of_constant}
use Rattle.ada_meaning.specs.Types.{Static, static_number, static_formal, static_constant, static_first, static_last, static_length, static_sign, static_operation, static_of, Range, between, formal_range, range_of}

module _ (before : ℕ → ℕ) where
  abbrev mutual
    pub IsScoped : ℕ → Static → Type 0
    IsScoped inst (static_number x) = Unit {0}
    IsScoped inst (static_formal k) = Unit {0}
    IsScoped inst (static_constant k) = k < before inst
    IsScoped inst (static_first r) = IsScopedRange inst r
    IsScoped inst (static_last r) = IsScopedRange inst r
    IsScoped inst (static_length r) = IsScopedRange inst r
    IsScoped inst (static_sign s e) = IsScoped inst e
    IsScoped inst (static_operation o e f) = IsScoped inst e × IsScoped inst f
    IsScoped inst (static_of i e) = IsScoped i e

    pub IsScopedRange : ℕ → Range → Type 0
    IsScopedRange inst (between e f) = IsScoped inst e × IsScoped inst f
    IsScopedRange inst (formal_range k) = Unit {0}
    IsScopedRange inst (range_of i r) = IsScopedRange i r

-- so many of an instance, and of the others those that they had
abbrev pub up_to : ℕ → (ℕ → ℕ) → ℕ → ℕ → ℕ
up_to inst had k i = if nat_eq i inst then k else had i

-- the constants of an instance from number k on
abbrev pub AreScoped : ℕ → (ℕ → ℕ) → ℕ → List GenericConstant → Type 0
AreScoped inst had k [] = Unit {0}
AreScoped inst had k (c ∷ cs) =
    (IsScoped (up_to inst had k) inst c.value × IsScopedRange (up_to inst had k) inst c.range)
    × AreScoped inst had (k + 1) cs

-- each has the value of its expression, where these are all values
abbrev pub AreValued : InstanceValues → ℕ → ℕ → List GenericConstant → Type 0
AreValued w inst k [] = Unit {0}
AreValued w inst k (c ∷ cs) = (w.constant inst k ≡ value_of_constant w inst c) × AreValued w inst (k + 1) cs
