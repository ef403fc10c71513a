-- What the walk keeps, in the state of the rules: each part sets its own counters and lists, whatever the others are.
use Rattle.std.specs.Prelude.{ℕ, List, [], ◌∷◌, map, reverse, Option}
use Rattle.ada_meaning.specs.Types as meaning
use Rattle.ada_tree.specs.declared.types.Subtype.{Subtype}
use Rattle.ada_tree.specs.Programs.{unfolded, subprogram_of, library_object_of, instance_of, exception_declaration_of}
use Rattle.ada_tree.specs.View.{subtype_of}
use Rattle.ada_rules.specs.Environment as rules
use Rattle.ada_rules.specs.Environment.{Declares, State, beginning_state}
use Rattle.ada_entities.specs.EntityViews.{Tables}
use Rattle.ada_entities.specs.Trees.{shapes_in_tree}
use Rattle.program_walk.specs.Places.{with_notes}
use Rattle.program_walk.specs.declared.counts.Counts.{Counts}
use Rattle.program_walk.specs.declared.found.Word.{Word}
use Rattle.program_walk.specs.declared.found.DeclaredType.{DeclaredType}
use Rattle.program_walk.specs.declared.found.SubprogramWords.{SubprogramWords}
use Rattle.program_walk.specs.declared.found.UnitWords.{UnitWords}
use Rattle.program_walk.specs.declared.found.Found.{Found}
use Rattle.program_walk.specs.declared.walk.Walk.{Walk}

-- the composite types of the typed program, by number
abbrev pub types_in : Tables → List meaning.Subtype
types_in k = shapes_in_tree k.types

-- a subtype of the typed program
abbrev pub subtype_there : Tables → Subtype → meaning.Subtype
subtype_there k t = unfolded (types_in k) (subtype_of t)

-- objects of subprograms, types, and objects of the library level, for their limits
abbrev pub word_of : Tables → Word → rules.Words
word_of k w = record { place = w.pos; subtype = subtype_there k w.subtype }

abbrev pub declared_type_of : Tables → DeclaredType → Declares
declared_type_of k d = record { generic = d.generic; words = word_of k d.word ∷ [] }

abbrev pub subprogram_words_of : Tables → SubprogramWords → Declares
subprogram_words_of k d = record { generic = d.generic; words = map (word_of k) d.words.items }

abbrev pub unit_words_of : Tables → UnitWords → rules.UnitWords
unit_words_of k u = record {
  unit = u.unit;
  package_unit = u.package_unit;
  generic = u.generic;
  words = reverse (map (subtype_there k) u.words.items);
}

-- a state with these counters
abbrev pub with_counts : Counts → State → State
with_counts c s = record s {
  statements = c.statements;
  objects = c.objects;
  library_objects = c.library_objects;
  exceptions = c.exceptions;
  types = c.types;
}

-- and with this found
abbrev pub with_found : Tables → Found → State → State
with_found k f s = record s {
  types_declared = reverse (map (declared_type_of k) f.types.items);
  words = reverse (map (word_of k) f.words.items);
  subprogram_words = reverse (map (subprogram_words_of k) f.subprogram_words.items);
  library_words = reverse (map (subtype_there k) f.library_words.items);
  unit_words = reverse (map (unit_words_of k) f.unit_words.items);
  objects_declared = reverse (map (library_object_of (types_in k)) f.objects.items);
  exceptions_declared = reverse (map exception_declaration_of f.exceptions.items);
  instances_declared = reverse (map instance_of f.instances.items);
  subprograms = reverse (map (subprogram_of (types_in k)) f.subprograms.items);
}

-- the counters and what was found, without notes
abbrev pub kept_state : Tables → Counts → Found → State
kept_state k c f = with_found k f (with_counts c beginning_state)

-- the state of the walk
abbrev pub state_of : Tables → Walk → State
state_of k w = with_notes k w.notes (kept_state k w.counts w.found)
