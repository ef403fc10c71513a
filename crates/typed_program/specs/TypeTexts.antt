-- The generics in whose texts composite types are declared (Ada RM 2012, 12.1).
use Rattle.std.specs.Prelude.{◌≡◌, ℕ, ◌+◌, List, [], ◌∷◌, ◌++◌, length, Option}
use Rattle.ada_tree.specs.declared.types.Owner.{Owner}
use Rattle.ada_tree.specs.declared.types.Owner.TheVariants as owner
use Rattle.ada_tree.specs.declared.types.Subtype.{Subtype}
use Rattle.ada_tree.specs.declared.types.Subtype.TheVariants as subtype
use Rattle.ada_entities.specs.TypeTable.{tables}
use Rattle.program_walk.specs.declared.found.DeclaredType.{DeclaredType}
use Rattle.program_walk.specs.declared.walk.Walk.{Walk}

-- those of the composite types among these declarations, in order
abbrev pub with_text : Subtype → Option ℕ → List (Option ℕ) → List (Option ℕ)
with_text (subtype.Scalar r) g gs = gs
with_text (subtype.Composite o n) g gs = g ∷ gs

abbrev pub texts_of : List DeclaredType → List (Option ℕ)
texts_of [] = []
texts_of (d ∷ ds) = with_text d.word.subtype d.generic (texts_of ds)

-- The composite types have the numbers from this one on, and none is seen through an instance.
abbrev pub HasNumber : ℕ → Owner → ℕ → Type 0
HasNumber n owner.Here m = m ≡ n
HasNumber n (owner.Instance i) m = ⊥

abbrev pub IsNumbered : ℕ → Subtype → Type 0
IsNumbered n (subtype.Scalar r) = Unit {0}
IsNumbered n (subtype.Composite o m) = HasNumber n o m

abbrev pub number_behind : ℕ → Subtype → ℕ
number_behind n (subtype.Scalar r) = n
number_behind n (subtype.Composite o m) = n + 1

abbrev pub AreNumbered : ℕ → List DeclaredType → Type 0
AreNumbered n [] = Unit {0}
AreNumbered n (d ∷ ds) = IsNumbered n d.word.subtype × AreNumbered (number_behind n d.word.subtype) ds

-- the generics of all composite types that are declared, and of no other, by their numbers
pub record AreTexts (ds : List DeclaredType) (gs : List (Option ℕ)) : Type 0 where
  pub texts : gs ≡ texts_of ds
  pub numbered : AreNumbered 0 ds

-- as many as there are types in a table
pub record AreAllTexts (count : ℕ) (ds : List DeclaredType) (gs : List (Option ℕ)) : Type 0 where
  pub are : AreTexts ds gs
  pub complete : length gs ≡ count

-- those of all composite types of a walk
abbrev pub AreTypeTexts : Walk → List (Option ℕ) → Type 0
AreTypeTexts w gs = AreAllTexts (length (tables w.symbols.types).shapes) w.found.types.items gs

-- one declaration more
abbrev pub IsNoted : Subtype → Option ℕ → (old new : List (Option ℕ)) → Type 0
IsNoted (subtype.Scalar r) g old new = new ≡ old
IsNoted (subtype.Composite o n) g old new = HasNumber (length old) o n × (new ≡ (old ++ g ∷ []))
