-- The state of the walk, where it counts and finds what is declared.
use Rattle.std.proofs.Common.{◌≡◌, ◌+◌, [], ◌∷◌, map, reverse, sym, ap, ◌∙◌}
use Rattle.cov_base.specs.declared.position.Pos.{Pos}
use Rattle.ada_syntax.specs.declared.name.Identifier.{Identifier}
use Rattle.ada_tree.specs.declared.program.ExceptionDeclaration.{ExceptionDeclaration}
use Rattle.ada_tree.specs.declared.program.LibraryObject.{LibraryObject}
use Rattle.ada_tree.specs.declared.types.Subtype.{Subtype as TreeSubtype}
use Rattle.ada_tree.specs.Programs.{initial_of, library_object_of, exception_declaration_of}
use Rattle.ada_rules.specs.Types.{AdaSubtype, subtype_in_tree}
use Rattle.ada_rules.specs.Environment.{State, Env, beginning_state}
use Rattle.ada_rules.specs.Declarations.{exception_name, exception_declared, type_counted}
use Rattle.ada_entities.specs.EntityViews.{Tables}
use Rattle.program_walk.specs.declared.place.Notes.{Notes}
use Rattle.program_walk.specs.Places.{with_notes}
use Rattle.program_walk.specs.declared.counts.Counts.{Counts}
use Rattle.program_walk.specs.declared.found.DeclaredType.{DeclaredType}
use Rattle.program_walk.specs.declared.found.Found.{Found}
use Rattle.program_walk.specs.States.{types_in, subtype_there, word_of, declared_type_of, with_counts, kept_state}
use Rattle.program_walk.specs.Counting.{CountsObject, CountsLibraryObject, CountsException}
use Rattle.program_walk.specs.Finding.{FindsType, FindsWord, FindsLibraryWord, FindsObject, FindsException}
use Rattle.program_walk.specs.Objects.{one_object, one_library_object}

module _ (k : Tables) (n : Notes) where
  -- an object of a subprogram
  pub local_state : (old new : Counts) (f g : Found) (t : AdaSubtype) (x : TreeSubtype) (i : Identifier) → CountsObject old new
      → FindsWord f g (record { pos = i.pos; subtype = x }) → subtype_there k x ≡ subtype_in_tree t
      → with_notes k n (kept_state k new g) ≡ one_object t i (with_notes k n (kept_state k old f))
  local_state old new f g t x i counts finds tree =
      ap (λ c. with_notes k n (kept_state k c g)) counts
      ∙ (ap (with_notes k n) (finds k (with_counts (record old { objects = old.objects + 1 }) beginning_state))
      ∙ (λ z. record (with_notes k n (kept_state k old f)) {
        objects = old.objects + 1;
        words = record { place = i.pos; subtype = tree z } ∷ reverse (map (word_of k) f.words.items);
      }))

  -- an object of the library level
  pub object_state : (old new : Counts) (f g h : Found) (t : AdaSubtype) (o : LibraryObject) (env : Env) → CountsLibraryObject old new
      → FindsObject f g o → FindsLibraryWord g h o.subtype → o.declaration ≡ old.library_objects → env.generic ≡ o.generic
      → subtype_there k o.subtype ≡ subtype_in_tree t
      → with_notes k n (kept_state k new h) ≡ one_library_object env t (initial_of o.initial) (with_notes k n (kept_state k old f))
  object_state old new f g h t o env counts object word number generic tree =
      let s : State = with_counts (record old { library_objects = old.library_objects + 1 }) beginning_state in
      ap (λ c. with_notes k n (kept_state k c h)) counts
      ∙ (ap (with_notes k n) (word k s)
      ∙ (ap (λ (x : State). with_notes k n (record x { library_words = subtype_there k o.subtype ∷ x.library_words })) (object k s)
      ∙ (λ z. record (with_notes k n (kept_state k old f)) {
        library_objects = old.library_objects + 1;
        objects_declared =
            record { declaration = number z; generic = sym generic z; subtype = tree z; initial = initial_of o.initial }
            ∷ reverse (map (library_object_of (types_in k)) f.objects.items);
        library_words = tree z ∷ reverse (map (subtype_there k) f.library_words.items);
      })))

  -- an exception
  pub exception_state : (old new : Counts) (f g : Found) (d : ExceptionDeclaration) (i : Identifier) (env : Env) → CountsException old new
      → FindsException f g d → d.declaration ≡ old.exceptions → d.place ≡ i.pos → env.generic ≡ d.generic → env.unit_name ≡ d.unit
      → d.name ≡ exception_name env i
      → with_notes k n (kept_state k new g) ≡ exception_declared env i (with_notes k n (kept_state k old f))
  exception_state old new f g d i env counts finds number place generic unit name =
      ap (λ c. with_notes k n (kept_state k c g)) counts
      ∙ (ap (with_notes k n) (finds k (with_counts (record old { exceptions = old.exceptions + 1 }) beginning_state))
      ∙ (λ z. record (with_notes k n (kept_state k old f)) {
        exceptions = old.exceptions + 1;
        exceptions_declared =
            record { declaration = number z; place = place z; generic = sym generic z; unit = sym unit z; name = name z }
            ∷ reverse (map exception_declaration_of f.exceptions.items);
      }))

  -- a type
  pub type_state : (c : Counts) (f g : Found) (d : DeclaredType) (p : Pos) (t : AdaSubtype) (env : Env) → FindsType f g d → env.generic ≡ d.generic
      → d.word.pos ≡ p → subtype_there k d.word.subtype ≡ subtype_in_tree t
      → with_notes k n (kept_state k c g) ≡ type_counted env p t (with_notes k n (kept_state k c f))
  type_state c f g d p t env finds generic place tree =
      ap (with_notes k n) (finds k (with_counts c beginning_state))
      ∙ (λ z. record (with_notes k n (kept_state k c f)) {
        types_declared =
            record { generic = sym generic z; words = record { place = place z; subtype = tree z } ∷ [] }
            ∷ reverse (map (declared_type_of k) f.types.items);
      })
