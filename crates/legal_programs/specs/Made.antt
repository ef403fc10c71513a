-- What a body makes: one subprogram, whose statement obligations are numbered in turn, and whose objects have numbers
-- of their own.
use Rattle.std.specs.Prelude.{◌≡◌, ℕ, false, ◌∷◌, Option, None, map, reverse}
use Rattle.cov_base.specs.Lists.{Everywhere}
use Rattle.ada_meaning.specs.Collected.{block_labels, labels_of}
use Rattle.ada_meaning.specs.Declared.{is_function}
use Rattle.ada_meaning.specs.Objects.{AreDistinct, objects_of}
use Rattle.ada_meaning.specs.Obligations.{numbers}
use Rattle.ada_meaning.specs.Program.{Subprogram}
use Rattle.ada_rules.specs.Environment.{State}
use Rattle.ada_rules.specs.Subprograms.{Profile, typed_parameters}
use Rattle.legal_programs.specs.Labelled.{Labels}

pub record Makes (generic : Option ℕ) (q : Profile) (before t : State) : Type 0 where
  pub made : Subprogram
  pub is_made : t.subprograms ≡ made ∷ before.subprograms
  pub labels : Labels before (block_labels made.body) t
  pub distinct : AreDistinct (objects_of made)
  pub stands : made.generic ≡ generic
  pub parameters : made.parameters ≡ typed_parameters 0 q.parameters
  pub procedure : q.result ≡ None → is_function made ≡ false

-- the subprograms that were made so far: their statement obligations are numbered in turn from 0, and their objects
-- have numbers of their own
pub record AreMadeInTurn (s : State) : Type 0 where
  pub labels : map (λ l. l.number) (labels_of (reverse s.subprograms)) ≡ numbers 0 s.statements
  pub distinct : Everywhere (λ m. AreDistinct (objects_of m)) s.subprograms
