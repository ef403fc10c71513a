-- The words of the objects of the library level: by the instances in which they stand, and by units, as the rules count
-- them.
use Rattle.std.specs.Prelude.{ℕ, zero, suc, ◌+◌, List, [], ◌∷◌, ◌++◌, map, length, Option, if◌then◌else◌}
use Rattle.ada_syntax.specs.declared.unit.Unit.{Unit as LibraryUnit}
use Rattle.ada_meaning.specs.Program.{LibraryObject, Program}
use Rattle.ada_meaning.specs.Types.{Subtype}
use Rattle.ada_resolved.specs.Library.{stands_in}
use Rattle.ada_rules.specs.Environment.{World, interface_of, UnitWords}
use Rattle.ada_rules.specs.Limits.{words_in, words_by, words_of_unit}
use Rattle.ada_rules.specs.Statics.{Facts}

module _ (p : Program) (facts : List Facts) where
  -- those of these objects that stand in an instance; 0 is all that is in no generic
  abbrev pub words_at : (inst : ℕ) → List LibraryObject → ℕ
  words_at inst [] = 0
  words_at inst (o ∷ os) =
      (if stands_in p.instances o.generic inst then words_in facts inst o.subtype else 0) + words_at inst os

  -- those of so many instances from one on
  abbrev pub words_of_instances : (count inst : ℕ) → ℕ
  words_of_instances zero i = 0
  words_of_instances (suc n) i = words_at i p.objects + words_of_instances n (i + 1)

  abbrev pub library_words : ℕ
  library_words = words_of_instances (length p.instances + 1) 0

-- those of units that are numbered from n on
abbrev pub words_of_units : World → List UnitWords → ℕ → List LibraryUnit → ℕ
words_of_units w us n [] = 0
words_of_units w us n (u ∷ rest) = words_by w.instances n (interface_of w n) us + words_of_units w us (n + 1) rest

-- those that are counted at units themselves, and not at instances
abbrev pub own_words_of_units : List Facts → List UnitWords → ℕ → List LibraryUnit → ℕ
own_words_of_units facts us n [] = 0
own_words_of_units facts us n (u ∷ rest) = words_of_unit facts n us + own_words_of_units facts us (n + 1) rest

-- an object of the library level: the generic in whose text it is declared, and its subtype
abbrev pub Standing : Type 0
Standing = Option ℕ × Subtype

abbrev pub standing : LibraryObject → Standing
standing o = (o.generic, o.subtype)

abbrev pub all_standing : Option ℕ → List Subtype → List Standing
all_standing g ts = map (λ t. (g, t)) ts

-- those whose words units noted, of the latest unit first
abbrev pub noted_words : List UnitWords → List Standing
noted_words [] = []
noted_words (u ∷ us) = all_standing u.generic u.words ++ noted_words us
