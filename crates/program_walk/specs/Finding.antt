-- How what the walk has found grows: the latest stands first in the state of the rules.
use Rattle.std.specs.Prelude.{◌≡◌, ◌∷◌}
use Rattle.ada_tree.specs.declared.program.ExceptionDeclaration.{ExceptionDeclaration}
use Rattle.ada_tree.specs.declared.program.Instance.{Instance}
use Rattle.ada_tree.specs.declared.program.LibraryObject.{LibraryObject}
use Rattle.ada_tree.specs.declared.program.Subprogram.{Subprogram}
use Rattle.ada_tree.specs.declared.types.Subtype.{Subtype}
use Rattle.ada_tree.specs.Programs.{subprogram_of, library_object_of, instance_of, exception_declaration_of}
use Rattle.ada_rules.specs.Environment.{State}
use Rattle.ada_entities.specs.EntityViews.{Tables}
use Rattle.program_walk.specs.declared.found.Word.{Word}
use Rattle.program_walk.specs.declared.found.DeclaredType.{DeclaredType}
use Rattle.program_walk.specs.declared.found.SubprogramWords.{SubprogramWords}
use Rattle.program_walk.specs.declared.found.UnitWords.{UnitWords}
use Rattle.program_walk.specs.declared.found.Found.{Found}
use Rattle.program_walk.specs.States.{types_in, subtype_there, word_of, declared_type_of, subprogram_words_of, unit_words_of, with_found}

-- this is added, and the rest stays
abbrev pub Finds : (old new : Found) → (Tables → State → State) → Type 0
Finds old new more = (k : Tables) (s : State) → with_found k new s ≡ more k (with_found k old s)

abbrev pub FindsType : (old new : Found) → DeclaredType → Type 0
FindsType old new d = Finds old new (λ k s. record s { types_declared = declared_type_of k d ∷ s.types_declared })

abbrev pub FindsWord : (old new : Found) → Word → Type 0
FindsWord old new w = Finds old new (λ k s. record s { words = word_of k w ∷ s.words })

abbrev pub FindsSubprogramWords : (old new : Found) → SubprogramWords → Type 0
FindsSubprogramWords old new d =
    Finds old new (λ k s. record s { subprogram_words = subprogram_words_of k d ∷ s.subprogram_words })

abbrev pub FindsLibraryWord : (old new : Found) → Subtype → Type 0
FindsLibraryWord old new t = Finds old new (λ k s. record s { library_words = subtype_there k t ∷ s.library_words })

abbrev pub FindsUnitWords : (old new : Found) → UnitWords → Type 0
FindsUnitWords old new u = Finds old new (λ k s. record s { unit_words = unit_words_of k u ∷ s.unit_words })

abbrev pub FindsObject : (old new : Found) → LibraryObject → Type 0
FindsObject old new o =
    Finds old new (λ k s. record s { objects_declared = library_object_of (types_in k) o ∷ s.objects_declared })

abbrev pub FindsException : (old new : Found) → ExceptionDeclaration → Type 0
FindsException old new e =
    Finds old new (λ k s. record s { exceptions_declared = exception_declaration_of e ∷ s.exceptions_declared })

abbrev pub FindsInstance : (old new : Found) → Instance → Type 0
FindsInstance old new i = Finds old new (λ k s. record s { instances_declared = instance_of i ∷ s.instances_declared })

abbrev pub FindsSubprogram : (old new : Found) → Subprogram → Type 0
FindsSubprogram old new x =
    Finds old new (λ k s. record s { subprograms = subprogram_of (types_in k) x ∷ s.subprograms })
