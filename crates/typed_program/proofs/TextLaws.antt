-- The generics of composite types, one declaration behind the other.
use Rattle.std.proofs.Common.{◌≡◌, ℕ, ◌+◌, ◌<◌, ◌≤◌, arith, List, [], ◌∷◌, ◌++◌, length, drop, get_or, Option, sym, ap, ◌∙◌, subst}
use Rattle.std.proofs.lemmas.List.{append-nil, append_assoc, length-append, drop_more, at_drop_all, at_drop_more}
use Rattle.ada_tree.specs.declared.types.Subtype.{Subtype}
use Rattle.ada_tree.specs.declared.types.Subtype.TheVariants as subtype
use Rattle.ada_entities.specs.declared.composite.Definition.{Definition}
use Rattle.ada_entities.specs.Tables.{AreDefinitions, instances_of, shapes_behind}
use Rattle.ada_entities.specs.Views.{TypeTables}
use Rattle.ada_entities.proofs.TableLaws.{shapes_length}
use Rattle.program_walk.specs.declared.found.DeclaredType.{DeclaredType}
use Rattle.typed_program.specs.TypeTexts.{with_text, texts_of, IsNumbered, number_behind, AreNumbered, IsNoted, AreTexts, AreAllTexts}

-- one declaration more
noted_texts : (t : Subtype) (g : Option ℕ) (gs new rest : List (Option ℕ)) → IsNoted t g gs new → new ++ rest ≡ gs ++ with_text t g rest
noted_texts (subtype.Scalar r) g gs new rest h = ap (λ xs. xs ++ rest) h
noted_texts (subtype.Composite o n) g gs new rest h = ap (λ xs. xs ++ rest) h.1 ∙ append_assoc gs (g ∷ []) rest

noted_number : (t : Subtype) (g : Option ℕ) (gs new : List (Option ℕ)) → IsNoted t g gs new → IsNumbered (length gs) t
noted_number (subtype.Scalar r) g gs new h = tt
noted_number (subtype.Composite o n) g gs new h = h.0

noted_length : (t : Subtype) (g : Option ℕ) (gs new : List (Option ℕ)) → IsNoted t g gs new → length new ≡ number_behind (length gs) t
noted_length (subtype.Scalar r) g gs new h = ap length h
noted_length (subtype.Composite o n) g gs new h = ap length h.1 ∙ length-append gs (g ∷ [])

-- where a loop over declarations stands: what it has goes on with those that are left
pub record AreSoFar (ds : List DeclaredType) (i : ℕ) (gs : List (Option ℕ)) : Type 0 where
  pub texts : gs ++ texts_of (drop i ds) ≡ texts_of ds
  pub numbered : AreNumbered (length gs) (drop i ds) → AreNumbered 0 ds

pub none_so_far : (ds : List DeclaredType) (gs : List (Option ℕ)) → gs ≡ [] → AreSoFar ds 0 gs
none_so_far ds gs e = record {
  texts = ap (λ xs. xs ++ texts_of ds) e;
  numbered = subst (λ n. AreNumbered n ds) (ap length e);
}

pub one_more : (ds : List DeclaredType) (i : ℕ) (gs new : List (Option ℕ)) (d : DeclaredType) → AreSoFar ds i gs → i < length ds
    → IsNoted (get_or ds i d).word.subtype (get_or ds i d).generic gs new → AreSoFar ds (i + 1) new
one_more ds i gs new d so less h =
    let t = (get_or ds i d).word.subtype in
    let g = (get_or ds i d).generic in
    record {
      texts = noted_texts t g gs new (texts_of (drop (i + 1) ds)) h
          ∙ (ap (λ xs. gs ++ xs) (sym (at_drop_more texts_of ds i d less)) ∙ so.texts);
      numbered = λ rest.
          so.numbered
          (subst (AreNumbered (length gs)) (sym (drop_more ds i d less))
          (noted_number t g gs new h, subst (λ n. AreNumbered n (drop (i + 1) ds)) (noted_length t g gs new h) rest));
    }

pub all_noted : (ds : List DeclaredType) (i : ℕ) (gs : List (Option ℕ)) → AreSoFar ds i gs → length ds ≤ i → AreTexts ds gs
all_noted ds i gs so none = record {
  texts = sym (append-nil gs) ∙ (ap (λ xs. gs ++ xs) (sym (at_drop_all texts_of ds i none)) ∙ so.texts);
  numbered = so.numbered (subst (AreNumbered (length gs)) (sym (at_drop_all (λ xs. xs) ds i none)) tt);
}

-- there are as many composite types as definitions
pub as_many : (k : TypeTables) (ds : List Definition) → AreDefinitions k ds → length ds ≡ length k.shapes
as_many k ds a =
    let behind = shapes_length (instances_of a.given) [] ds in
    let all : length ds ≡ length (shapes_behind (instances_of a.given) [] ds) = omega (arith, behind) in
    all ∙ sym (ap (λ (t : TypeTables). length t.shapes) a.are)

pub of_definitions : (k : TypeTables) (ds : List Definition) (types : List DeclaredType) (gs : List (Option ℕ)) → AreDefinitions k ds
    → AreAllTexts (length ds) types gs → AreAllTexts (length k.shapes) types gs
of_definitions k ds types gs a h = subst (λ n. AreAllTexts n types gs) (as_many k ds a) h
