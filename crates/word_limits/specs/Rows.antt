-- A table with a row for each type: how many words it takes, in every instance alike or in each of some.
use Rattle.std.specs.Prelude.{◌≡◌, ⊤, ℕ, List, [], ◌∷◌, Option, IfSome}
use Rattle.ada_meaning.specs.Types as type
use Rattle.ada_rules.specs.Limits.{words_in}
use Rattle.ada_rules.specs.Statics.{Facts}
use Rattle.word_limits.specs.declared.ranges.Scope.{Scope}
use Rattle.word_limits.specs.declared.ranges.Scope.TheVariants as scope
use Rattle.word_limits.specs.declared.rows.Entry.{Entry}
use Rattle.word_limits.specs.declared.rows.Row.{Row}
use Rattle.word_limits.specs.declared.rows.Row.TheVariants as row
use Rattle.word_limits.specs.Capped.{capped}
use Rattle.word_limits.specs.Ranges.{IsAt}

module _ (instances : List Facts) where
  -- a type takes so many words there
  abbrev pub Takes : Scope → type.Subtype → ℕ → Type 0
  Takes s t w = (i : ℕ) → IsAt s i → w ≡ capped (words_in instances i t)

  abbrev pub AreEntries : type.Subtype → List Entry → Type 0
  AreEntries t [] = ⊤
  AreEntries t (e ∷ es) = (e.words ≡ capped (words_in instances e.instance t)) × AreEntries t es

  abbrev pub IsRow : type.Subtype → Row → Type 0
  IsRow t (row.Everywhere w) = Takes scope.Everywhere t w
  IsRow t (row.ByInstance es) = AreEntries t es

  abbrev pub AreRows : List type.Subtype → List Row → Type 0
  AreRows [] [] = ⊤
  AreRows (t ∷ ts) (r ∷ rs) = IsRow t r × AreRows ts rs
  AreRows ts rs = ⊥

-- by rows of these types a type that they unfold takes so many words
abbrev pub Counts : List Row → Scope → (List type.Subtype → type.Subtype) → Option ℕ → Type 0
Counts rows s t o = (is : List Facts) (ts : List type.Subtype) → AreRows is ts rows → IfSome o (Takes is s (t ts))
