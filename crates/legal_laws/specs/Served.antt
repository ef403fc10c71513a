-- What the final program and its facts keep of a state of the walk, in an instance of the generic in whose text it
-- stands: demands are met, constants have the values of their expressions, types keep to their limit, objects have the
-- shapes of their subtypes, and exceptions are listed.
use Rattle.std.specs.Prelude.{◌≡◌, ◌≤◌, ◌<◌, ℕ, nat_eq, true, List, [], ◌∷◌, length, Option, Some, None}
use Rattle.cov_base.specs.Lists.{Everywhere}
use Rattle.ada_meaning.specs.Program.{GenericConstant, ExceptionDeclaration, Subprogram, Program}
use Rattle.ada_meaning.specs.Resolved.{shape_in, rank_of}
use Rattle.ada_meaning.specs.Shape.{Shape}
use Rattle.ada_meaning.specs.Statics.{constants_of, within}
use Rattle.ada_meaning.specs.Tree.{Object, local_object}
use Rattle.ada_meaning.specs.Declared.{object_shape}
use Rattle.ada_meaning.specs.WellFormed.{IsSubprogram}
use Rattle.legal_laws.specs.Bounded.{IsBounded}
use Rattle.ada_rules.specs.Environment.{Words, Declares, State}
use Rattle.ada_rules.specs.Limits.{words_in, most_words_of_type}
use Rattle.ada_rules.specs.Statics.{Demand, Facts, constant_in, value_in, bounds_in, holds}
use Rattle.legal_laws.specs.Demanded.{IsDemanded}

module _ (facts : List Facts) (inst : ℕ) where
  -- the constants of a generic, of constants with the latest first
  abbrev pub HaveValues : ℕ → List GenericConstant → Type 0
  HaveValues g [] = Unit {0}
  HaveValues g (c ∷ cs) =
      (nat_eq c.generic g ≡ true
      → constant_in facts inst (length (constants_of g cs))
      ≡ within (value_in facts inst c.value) (bounds_in facts inst c.range))
      × HaveValues g cs

  abbrev pub HaveOwnValues : Option ℕ → List GenericConstant → Type 0
  HaveOwnValues None cs = Unit {0}
  HaveOwnValues (Some g) cs = HaveValues g cs

  abbrev pub AreLimited : Option ℕ → List Declares → Type 0
  AreLimited generic [] = Unit {0}
  AreLimited generic (d ∷ ds) =
      (d.generic ≡ generic → Everywhere (λ w. words_in facts inst w.subtype ≤ most_words_of_type) d.words)
      × AreLimited generic ds

  pub record Serves (generic : Option ℕ) (s : State) : Type 0 where
    pub met : (d : Demand) → IsDemanded d s.demands → d.generic ≡ generic → holds facts inst d.test ≡ true
    pub constants : HaveOwnValues generic s.constants_declared
    pub limits : AreLimited generic s.types_declared

  module _ (p : Program) (shape_of : Object → Shape) where
    -- objects of a subprogram, the latest first
    abbrev pub AreShaped : List Words → Type 0
    AreShaped [] = Unit {0}
    AreShaped (w ∷ ws) = (shape_of (local_object (length ws)) ≡ shape_in p inst w.subtype) × AreShaped ws

    abbrev pub AreListed : Option ℕ → List ExceptionDeclaration → Type 0
    AreListed generic [] = Unit {0}
    AreListed generic (e ∷ es) =
        (e.generic ≡ generic → rank_of inst e.declaration p.exceptions < length p.exceptions) × AreListed generic es

    pub record IsFinal (generic : Option ℕ) (s : State) : Type 0 where
      pub serves : Serves generic s
      pub shaped : AreShaped s.words
      pub listed : AreListed generic s.exceptions_declared

-- a subprogram that is well-formed in an instance, where the types of its objects have bounds
pub record IsFormed (p : Program) (inst : ℕ) (sub : Subprogram) : Type 0 where
  pub is : IsSubprogram p inst sub
  pub bounded : Everywhere (IsBounded p inst) sub.objects

-- The subprogram that a walk over a body made last is this one: then it is well-formed in the instance, if the final
-- program keeps the state behind the walk.
abbrev pub IsFormedBy : List Facts → (inst : ℕ) → Program → Subprogram → Option ℕ → State → Type 0
IsFormedBy facts inst p sub generic t =
    (rest : List Subprogram) → t.subprograms ≡ sub ∷ rest → Serves facts inst generic t
    → AreListed facts inst p (object_shape p inst sub) generic t.exceptions_declared → IsFormed p inst sub
