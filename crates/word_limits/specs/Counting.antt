-- What is counted against a limit.
use Rattle.std.specs.Prelude.{ℕ, List, [], ◌∷◌, map, reverse, Option}
use Rattle.ada_meaning.specs.Types as type
use Rattle.ada_tree.specs.declared.types.Subtype.{Subtype}
use Rattle.ada_tree.specs.Programs.{unfolded}
use Rattle.ada_tree.specs.View.{subtype_of}
use Rattle.ada_rules.specs.Environment as rules
use Rattle.ada_rules.specs.Environment.{Declares}
use Rattle.ada_rules.specs.Limits.{most_words_of_type, most_words_of_subprogram, most_words_of_library}
use Rattle.program_walk.specs.declared.found.Word.{Word}
use Rattle.program_walk.specs.declared.found.DeclaredType.{DeclaredType}
use Rattle.program_walk.specs.declared.found.SubprogramWords.{SubprogramWords}
use Rattle.program_walk.specs.declared.found.UnitWords.{UnitWords}
use Rattle.word_limits.specs.declared.limit.Limit.{Limit}
use Rattle.word_limits.specs.declared.limit.Limit.TheVariants as limit

abbrev pub most_of : Limit → ℕ
most_of limit.Type = most_words_of_type
most_of limit.Subprogram = most_words_of_subprogram
most_of limit.Library = most_words_of_library

-- what was found, by the types that its subtypes unfold
module _ (types : List type.Subtype) where
  abbrev pub subtype_by : Subtype → type.Subtype
  subtype_by t = unfolded types (subtype_of t)

  abbrev pub word_by : Word → rules.Words
  word_by w = record { place = w.pos; subtype = subtype_by w.subtype }

  abbrev pub declares_by : Option ℕ → List Word → Declares
  declares_by g ws = record { generic = g; words = map word_by ws }

  abbrev pub type_by : DeclaredType → Declares
  type_by d = record { generic = d.generic; words = word_by d.word ∷ [] }

  abbrev pub subprogram_by : SubprogramWords → Declares
  subprogram_by d = declares_by d.generic d.words.items

  abbrev pub unit_by : UnitWords → rules.UnitWords
  unit_by u = record {
    unit = u.unit;
    package_unit = u.package_unit;
    generic = u.generic;
    words = reverse (map subtype_by u.words.items);
  }
