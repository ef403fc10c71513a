-- Where the objects of the library level stand, and what they begin with, instance by instance.
use Rattle.std.specs.Prelude.{ℕ, zero, suc, ◌+◌, List, [], ◌∷◌, ◌++◌, length, map, if◌then◌else◌}
use Rattle.ada_tree.specs.declared.program.LibraryObject.{LibraryObject}
use Rattle.ada_tree.specs.declared.program.Program.{Program}
use Rattle.ada_tree.specs.Objects.{capped}
use Rattle.ada_tree.specs.Programs.{instance_of}
use Rattle.ada_resolved.specs.Forms.{named_type, shape_of}
use Rattle.ada_resolved.specs.Library.{stands_in}
use Rattle.storage_layout.specs.declared.library.LibraryPlace.{LibraryPlace}
use Rattle.storage_layout.specs.Initial.{first_of, initial_words}

module _ (p : Program) where
  module _ (inst : ℕ) where
    -- an object that stands in the instance: its place, behind so many words, and the words that it begins with
    abbrev pub place_in : (before : ℕ) → LibraryObject → List LibraryPlace
    place_in before o =
        if stands_in (map instance_of p.instances) o.generic inst
        then record { declaration = o.declaration; subtype = o.subtype; word = capped before } ∷ []
        else []

    abbrev pub words_in : LibraryObject → List ℕ
    words_in o =
        if stands_in (map instance_of p.instances) o.generic inst
        then initial_words (shape_of p (named_type p inst o.subtype)) (first_of p inst o.initial)
        else []

    -- those of objects, one behind the other
    abbrev pub places_from : (before : ℕ) → List LibraryObject → List LibraryPlace
    places_from before [] = []
    places_from before (o ∷ os) = place_in before o ++ places_from (before + length (words_in o)) os

    abbrev pub all_words_in : List LibraryObject → List ℕ
    all_words_in [] = []
    all_words_in (o ∷ os) = words_in o ++ all_words_in os

  -- those of so many instances from one on
  abbrev pub places_of_instances : (count inst before : ℕ) → List (List LibraryPlace)
  places_of_instances zero inst before = []
  places_of_instances (suc n) inst before =
      places_from inst before p.objects ∷ places_of_instances n (inst + 1) (before + length (all_words_in inst p.objects))

  abbrev pub words_of_instances : (count inst : ℕ) → List ℕ
  words_of_instances zero inst = []
  words_of_instances (suc n) inst = all_words_in inst p.objects ++ words_of_instances n (inst + 1)

  -- those of the program: instance 0, and each instance
  abbrev pub library_places : List (List LibraryPlace)
  library_places = places_of_instances (length p.instances + 1) 0 0

  abbrev pub library_words : List ℕ
  library_words = words_of_instances (length p.instances + 1) 0
